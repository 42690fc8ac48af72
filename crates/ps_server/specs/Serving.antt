-- What is done on a connection: which requests were read and answered, and how it ended.
use Rattle.std.specs.List.{AllByRecursion}
use Rattle.std.specs.Prelude.{◌≡◌, ◌⊎◌, ◌<◌, ◌≤◌, ℕ, List, [], ◌∷◌, ◌++◌, length, take, map, Bool, true, false, Option, Some, None, IsTrue, MatchOption, IfOk, Result, Ok, Err, ⊤}
use Rattle.ps_keeper.specs.Cause.{Rose}
use Rattle.ps_keeper.specs.declared.keeper.Keeper as keeper
use Rattle.ps_book.specs.declared.machine.Machine as machine
use Rattle.ps_book.specs.Books.{BookMeans, FromWhereItStood}
use Rattle.ps_book.specs.Journaled.{Journaled}
use Rattle.ps_edge.specs.declared.clock.Clock as clock
use Rattle.ps_edge.specs.declared.edge.Failed.{Failed}
use Rattle.ps_edge.specs.declared.link.Link as link
use Rattle.ps_http.specs.Answers.{has_phrase}
use Rattle.ps_http.specs.Exchanges.{Passes, Rest, Sends, HasEnded, begun, continue_text}
use Rattle.ps_http.specs.Requests.{Framed, Frames, IsDue}
use Rattle.ps_run.specs.Fates.{Fate, HasFateCauses, call_world, call_more}
use Rattle.ps_server.specs.declared.answer.Request.{Request}
use Rattle.ps_server.specs.declared.conn.ConnEnd.{ConnEnd}
use Rattle.ps_server.specs.declared.conn.ConnEnd.TheVariants.{Ended, Torn, ReadFault, WriteFault, Refused, Closed, OutOfMemory}
use Rattle.ps_server.specs.declared.protocol.HttpProtocol as protocol
use Rattle.ps_server.specs.Asking.{text_with}
use Rattle.ps_server.specs.Turns.{Turn, Reads, answer_to, call_answer, state_after, step, texts_of}

-- no request closes the connection
abbrev pub IsOpen : List Turn → Type 0
IsOpen turns = AllByRecursion (λ (t : Turn). t.request.close ≡ false) turns

-- a last request, before which none closes the connection
pub record HasLast (turns : List Turn) : Type 0 where
  pub before : List Turn
  pub last : Turn
  pub are : turns ≡ before ++ last ∷ []
  pub stays_open : IsOpen before

-- how the connection ends after an answer that was written or not, unless it goes on
abbrev pub end_after : Bool → Result (Unit {0}) Failed → Option ConnEnd
end_after true (Ok done) = Some Closed
end_after false (Ok done) = None
end_after close (Err e) = Some WriteFault

-- a front of a text
abbrev pub IsFront : List ℕ → List ℕ → Type 0
IsFront text whole = (cut : ℕ) × (text ≡ take cut whole)

module _ {M C E R K : Type 0} (m : machine.Ghosts M C E R) (p : protocol.Ghosts M C E R) (k : keeper.Ghosts K) where
  -- as long as the keeper's log is known: from each state that the book was in
  abbrev pub From : Journaled M K → Journaled M K → (m.World × Option m.World → Type 0) → Type 0
  From old new P = IsTrue (k.known new.keeper) → FromWhereItStood m k old (λ w more. P (w, more))

  -- what became of a call, and the text that answers it if there was memory for it
  pub record HasCall {F : Type 0} (old new : Journaled M K) (s : m.World × Option m.World) (at : ℕ) (command : C) (close : Bool) (result : Result (List ℕ) F) : Type 0 where
    pub fate : Fate
    pub text : IfOk result (λ text. text ≡ text_with close (call_answer m p s fate at command))
    pub holds : BookMeans m k new (call_world m.next m.entry_of s.0 s.1 fate at command) (call_more m.next m.entry_of s.0 s.1 fate at command)
    pub causes : HasFateCauses (k.faults old.keeper) (k.faults new.keeper) (fate ∷ [])

  abbrev pub GivesCall : {F : Type 0} → Journaled M K → Journaled M K → ℕ → C → Bool → Result (List ℕ) F → Type 0
  GivesCall old new at command close result = From old new (λ s. HasCall old new s at command close result)

  -- a request that was answered, and whether there was memory for its text
  abbrev pub turn : Request → ℕ → Fate → Bool → Bool → Turn
  turn r at fate printed continued = record { request = r; continued = continued; at = at; fate = fate; printed = printed }

  -- what became of a request
  pub record HasRequest (old new : Journaled M K) (s : m.World × Option m.World) (at : ℕ) (r : Request) : Type 0 where
    pub fate : Fate
    pub holds : BookMeans m k new (step m p s (turn r at fate true false)).0 (step m p s (turn r at fate true false)).1
    pub causes : HasFateCauses (k.faults old.keeper) (k.faults new.keeper) (fate ∷ [])

  -- and the text that answers it
  abbrev pub GivesRequest : {F : Type 0} → Journaled M K → Journaled M K → ℕ → Request → Result (List ℕ) F → Type 0
  GivesRequest old new at r result = From old new (λ s. (it : HasRequest old new s at r)
      × IfOk result (λ text. text ≡ text_with r.close (answer_to m p s (turn r at it.fate true false))))

  module _ {L : Type 0} (l : link.Ghosts L) where
    -- a request was answered, and the text was written, or a front of it if a write failed
    abbrev pub ServesRequest : Journaled M K → Journaled M K → ℕ → Request → L → L → Result (Unit {0}) Failed → Type 0
    ServesRequest old new at r was now result = From old new (λ s. (printed : Bool) × ((it : HasRequest old new s at r)
        × Sends l was now (text_with r.close (answer_to m p s (turn r at it.fate printed false))) result))

    module _ {T : Type 0} (c : clock.Ghosts T) where
      -- the requests of these bytes were answered from this state, and the rest follows
      pub record Answers (clock : T) (old new : Journaled M K) (s : m.World × Option m.World) (read : List ℕ) (turns : List Turn) (rest : List ℕ) : Type 0 where
        pub reads : Reads read turns rest
        -- each call was made at a moment that the clock may give
        pub moments : AllByRecursion (λ (t : Turn). c.may_give clock t.at) turns
        -- what the log means afterwards
        pub holds : BookMeans m k new (state_after m p s turns).0 (state_after m p s turns).1
        -- the store failed at least as often as these calls met a fault of it, and none met a bad row
        pub causes : HasFateCauses (k.faults old.keeper) (k.faults new.keeper) (map (λ t. t.fate) turns)

      -- a connection that goes on: what was read, what was written, and what is kept of it
      pub record Goes (clock : T) (was now : L) (old new : Journaled M K) (kept : Rest) (s : m.World × Option m.World) : Type 0 where
        pub read : List ℕ
        pub turns : List Turn
        pub answers : Answers clock old new s read turns kept.bytes
        pub stays_open : IsOpen turns
        pub passes : Passes l was now read (texts_of m p s turns ++ continue_text kept.continued)
        pub due : IsTrue kept.continued → IsDue kept.bytes true

      -- by how a connection ended: what was written after these answers, and why it ended
      module _ (was now : L) (turns : List Turn) (rest texts text : List ℕ) where
        -- the answers were written, and the answer 100 if it is due to what follows
        abbrev pub WrotePart : Type 0
        WrotePart = (due : Bool) × IsDue rest due × (text ≡ texts ++ continue_text due)

        -- the rest is a part of a request, and nothing is left to read
        abbrev pub EndsPart : Type 0
        EndsPart = IsOpen turns × WrotePart × Frames rest Framed.waits × HasEnded l now

        -- the rest is refused, and after the answers comes that of its refusal
        abbrev pub refused_text : ℕ → List ℕ
        refused_text code = text_with true (code, p.refusal_body code)

        pub record IsRefused (code : ℕ) (whole : List ℕ) : Type 0 where
          pub stays_open : IsOpen turns
          pub frames : Frames rest (Framed.refused code)
          pub due : Bool
          pub is_due : IsDue rest due
          pub whole_is : whole ≡ texts ++ (continue_text due ++ refused_text code)

        -- all that may be written to the end: the answers, and what follows them
        abbrev pub IsWhole : List ℕ → Type 0
        IsWhole whole = ((IsOpen turns ⊎ HasLast turns) × (whole ≡ texts))
            ⊎ ((IsOpen turns × ((due : Bool) × IsDue rest due × (whole ≡ texts ++ continue_text due)))
            ⊎ ((code : ℕ) × IsRefused code whole))

        -- a front of it was written
        abbrev pub WroteFront : Type 0
        WroteFront = (whole : List ℕ) × IsWhole whole × IsFront text whole

        abbrev pub EndsBy : ConnEnd → Type 0
        EndsBy Ended = EndsPart × (begun rest ≡ [])
        EndsBy (Torn n) = EndsPart × (n ≡ length (begun rest)) × (0 < n)
        EndsBy ReadFault = IsOpen turns × WrotePart × Frames rest Framed.waits × Rose (l.faults was) (l.faults now)
        EndsBy WriteFault = WroteFront × Rose (l.faults was) (l.faults now)
        EndsBy (Refused code) = IsRefused code text
        EndsBy Closed = (it : HasLast turns) × (it.last.request.close ≡ true) × (text ≡ texts)
        EndsBy OutOfMemory = WroteFront

      -- a connection that ended
      pub record Ends (clock : T) (was now : L) (old new : Journaled M K) (s : m.World × Option m.World) (end : ConnEnd) : Type 0 where
        pub read : List ℕ
        pub text : List ℕ
        pub turns : List Turn
        pub rest : List ℕ
        pub passes : Passes l was now read text
        pub answers : Answers clock old new s read turns rest
        pub ends : EndsBy was now turns rest (texts_of m p s turns) text end

      -- what a connection did from its start goes on so, or so it ends
      abbrev pub GoesOnFrom : T → L → L → Journaled M K → Journaled M K → Rest → Rest → Option ConnEnd → Type 0
      GoesOnFrom clock link link_now book book_now kept kept_now result = IsTrue (k.known book_now.keeper)
          → (was : L) (old : Journaled M K) (s : m.World × Option m.World) → Goes clock was link old book kept s
          → MatchOption result (Goes clock was link_now old book_now kept_now s) (Ends clock was link_now old book_now s)

      abbrev pub Serves : T → L → L → Journaled M K → Journaled M K → ConnEnd → Type 0
      Serves clock was now old new end = From old new (λ s. Ends clock was now old new s end)

module _ {L : Type 0} (l : link.Ghosts L) where
  -- by how a connection ended: what caused it
  abbrev pub CausesEnd : L → L → ConnEnd → Type 0
  CausesEnd was now Ended = HasEnded l now
  CausesEnd was now (Torn n) = HasEnded l now × (0 < n)
  CausesEnd was now ReadFault = Rose (l.faults was) (l.faults now)
  CausesEnd was now WriteFault = Rose (l.faults was) (l.faults now)
  CausesEnd was now (Refused code) = has_phrase code ≡ true
  CausesEnd was now Closed = ⊤
  CausesEnd was now OutOfMemory = ⊤

  -- a connection ended, and why, whether the keeper's log is known or not
  pub record HasEndCause (was now : L) (end : ConnEnd) : Type 0 where
    -- the count of faults of the link doesn't fall
    pub later : l.faults was ≤ l.faults now
    pub caused : CausesEnd was now end

module _ {M C E R L : Type 0} (p : protocol.Ghosts M C E R) (l : link.Ghosts L) where
  -- by whether the answer to bytes that are no request was written
  abbrev pub ended_by : ℕ → Result (Unit {0}) Failed → ConnEnd
  ended_by code (Ok done) = Refused code
  ended_by code (Err e) = WriteFault

  -- bytes that are no request were answered, if there was memory for it
  abbrev pub Refuses : ℕ → L → L → ConnEnd → Type 0
  Refuses code was now end = ((end ≡ OutOfMemory) × (now ≡ was))
      ⊎ ((result : Result (Unit {0}) Failed) × Sends l was now (text_with true (code, p.refusal_body code)) result × (end ≡ ended_by code result))
