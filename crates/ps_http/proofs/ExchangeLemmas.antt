-- What an exchange does, from its stages.
use Rattle.std.proofs.Common.{◌≡◌, ◌<◌, ◌≤◌, ℕ, inl, inr, ◌+◌, ◌==◌, Bool, true, false, not, ◌&&◌, ◌||◌, cond, List, [], ◌∷◌, ◌++◌, length, take, drop, Option, Some, None, option_map, Result, Ok, Err, refl, sym, ap, ap₂, subst, ◌∙◌, arith, append_assoc}
use Rattle.std.specs.Prelude.{◌⊎◌, IfSome, IfOk, IfErr, MatchResult}
use Rattle.std.proofs.lemmas.List.{append-nil}
use Rattle.std.proofs.Math.Seq.{take-length}
use Rattle.ps_keeper.specs.Cause.{Rose}
use Rattle.ps_edge.specs.declared.edge.Failed.{Failed}
use Rattle.ps_edge.specs.declared.link.Link as link
use Rattle.ps_http.specs.declared.exchange.Exchange.{Exchange}
use Rattle.ps_http.specs.declared.exchange.Exchange.TheVariants.{Request, Ended, Torn, NotYet, ReadFault, WriteFault, Refused, OutOfMemory}
use Rattle.ps_http.specs.declared.heads.Head.{Head}
use Rattle.ps_http.specs.declared.heads.Stop.{Stop}
use Rattle.ps_http.specs.declared.heads.Stop.TheVariants as Stops
use Rattle.ps_http.specs.declared.reading.Pause.{Pause}
use Rattle.ps_http.specs.declared.reading.Pause.TheVariants as Pauses
use Rattle.ps_http.specs.declared.starts.Start.{Start}
use Rattle.ps_http.specs.declared.starts.Start.TheVariants as Starts
use Rattle.ps_http.specs.Exchanges.{Rest, Passes, Gives, Wrote, Keeps, Does, Exchanges, Sends, PausesWith, RunsOut, begun, continue_text, request_of, stopped}
use Rattle.ps_http.specs.Reading.{Came, HasPaused, OnPause, Reads}
use Rattle.ps_http.specs.declared.bodies.Arrived.{Arrived}
use Rattle.ps_http.proofs.ReadingLemmas.{joined, left_on}
use Rattle.std.proofs.lemmas.Bool.Decides.{nat_tests}
use Rattle.ps_http.specs.Requests.{Body, BodySays, Framed, Frames, IsDue, IsRefusalOf, StartSays, TakesBody, framed}
use Rattle.ps_http.proofs.StartStays.{start_stays}

-- a text of no bytes
none_added : (was now : Option (List ℕ)) → now ≡ was → now ≡ option_map (λ had. had ++ []) was
none_added None now same = same
none_added (Some had) now same = same ∙ ap (λ (l : List ℕ). Some l) (sym (append-nil had))

none_taken : (was now : Option (List ℕ)) → now ≡ was → IfSome was (λ all. (rest : List ℕ) × (now ≡ Some rest) × (all ≡ [] ++ rest))
none_taken None now same = tt
none_taken (Some all) now same = (all, same, refl)

same_left : (was mid now : Option (List ℕ)) (more : List ℕ) → mid ≡ was → IfSome mid (λ all. (rest : List ℕ) × (now ≡ Some rest) × (all ≡ more ++ rest)) → IfSome was (λ all. (rest : List ℕ) × (now ≡ Some rest) × (all ≡ more ++ rest))
same_left was mid now more same left = subst (λ (o : Option (List ℕ)). IfSome o (λ all. (rest : List ℕ) × (now ≡ Some rest) × (all ≡ more ++ rest))) same left

module _ {S : Type 0} (l : link.Ghosts S) where
  -- the bytes came after the text was written
  pub passes_on : (was mid now : S) (more text : List ℕ) → Sends l was mid text (Ok tt) → Came l mid now more → Passes l was now more text
  passes_on was mid now more text sends came = record {
    received = came.received ∙ ap (λ (o : Option (List ℕ)). option_map (λ had. had ++ more) o) sends.received;
    left = same_left (l.left was) (l.left mid) (l.left now) more sends.left came.left;
    holds = came.holds ∙ sends.whole;
    faults = omega (arith, sends.faults, came.faults);
    waits = omega (arith, sends.waits, came.waits);
  }

  -- nothing came, and a front of the text was written
  pub passes_front : (was now : S) (text : List ℕ) (result : Result (Unit {0}) Failed) (sends : Sends l was now text result) → Passes l was now [] (take sends.part.0 text)
  passes_front was now text result sends = record {
    received = none_added (l.received was) (l.received now) sends.received;
    left = none_taken (l.left was) (l.left now) sends.left;
    holds = sends.part.1;
    faults = sends.faults;
    waits = sends.waits;
  }

  -- only reading
  pub passes_came : (was now : S) (more : List ℕ) → Came l was now more → Passes l was now more []
  passes_came was now more came = record {
    received = came.received;
    left = came.left;
    holds = none_added (l.holds was) (l.holds now) came.holds;
    faults = came.faults;
    waits = came.waits;
  }

-- what the body says after a head that is read
pub frames_body : (bytes more : List ℕ) (head : Head) (at : ℕ) (body : Body) → StartSays bytes (Starts.Read head at) → BodySays head.length (drop at (bytes ++ more)) body → Frames (bytes ++ more) (framed head at body)
frames_body bytes more head at body says of_body = (Starts.Read head at, start_stays bytes more (Starts.Read head at) (λ e. cc) says, (body, of_body, refl))

pub is_due : (bytes more : List ℕ) (head : Head) (at : ℕ) → StartSays bytes (Starts.Read head at) → IsDue (bytes ++ more) head.waits
is_due bytes more head at says = (Starts.Read head at, start_stays bytes more (Starts.Read head at) (λ e. cc) says, refl)

same_rest : (r : Rest) (bytes : List ℕ) (c : Bool) → r.bytes ≡ bytes → r.continued ≡ c → r ≡ record { bytes = bytes; continued = c }
same_rest r bytes c e f = ap₂ (λ (b : List ℕ) (d : Bool). let s : Rest = record { bytes = b; continued = d } in s) e f

no_bytes : (bytes : List ℕ) → (length bytes == 0) ≡ true → bytes ≡ []
no_bytes [] none = refl
no_bytes (b ∷ bytes) none = absurd (grind (arith, nat_tests, none))

some_bytes : (bytes : List ℕ) → (length bytes == 0) ≡ false → 0 < length bytes
some_bytes bytes some = grind (arith, nat_tests)

or_false : (b : Bool) → (b || false) ≡ b
or_false true = refl
or_false false = refl

rose_from : (a b n : ℕ) → a ≤ b → Rose b n → Rose a n
rose_from a b n later rose = omega arith

-- what was written before there was no memory, by whether the answer 100 is due
front_written : (bytes text : List ℕ) (due continued : Bool) → IsDue bytes due → text ≡ continue_text (due && not continued) → (text ≡ []) ⊎ (IsDue bytes true × ((cut : ℕ) × (text ≡ take cut (continue_text (not continued)))))
front_written bytes text true continued is_due wrote =
    let whole = continue_text (not continued) in
    inr (is_due, (length whole, wrote ∙ sym (take-length whole)))
front_written bytes text false continued is_due wrote = inl wrote

module _ {S : Type 0} (l : link.Ghosts S) where
  -- the write of the answer 100 failed
  pub write_failed : (was now : S) (kept rest : Rest) (head : Head) (at : ℕ) (result : Result (Unit {0}) Failed) → StartSays kept.bytes (Starts.Read head at) → Sends l was now (continue_text (head.waits && not kept.continued)) result → Rose (l.faults was) (l.faults now) → Exchanges l was now kept rest WriteFault
  write_failed was now kept rest head at result says sends rose = record {
    more = [];
    text = take sends.part.0 (continue_text (head.waits && not kept.continued));
    passes = passes_front l was now (continue_text (head.waits && not kept.continued)) result sends;
    due = head.waits;
    is_due = is_due kept.bytes [] head at says;
    wrote = (sends.part.0, refl);
    keeps = tt;
    gives = rose;
  }

  -- the request is whole
  pub whole_request : (was mid now : S) (kept rest : Rest) (head : Head) (at len : ℕ) (more body : List ℕ) → StartSays kept.bytes (Starts.Read head at) → Sends l was mid (continue_text (head.waits && not kept.continued)) (Ok tt) → Came l mid now more → BodySays head.length (drop at (kept.bytes ++ more)) (Body.whole body len) → rest.bytes ≡ drop (at + len) (kept.bytes ++ more) → rest.continued ≡ false → Exchanges l was now kept rest (request_of head body)
  whole_request was mid now kept rest head at len more body says sends came of_body left closed = record {
    more = more;
    text = continue_text (head.waits && not kept.continued);
    passes = passes_on l was mid now more (continue_text (head.waits && not kept.continued)) sends came;
    due = head.waits;
    is_due = is_due kept.bytes more head at says;
    wrote = refl;
    keeps = tt;
    gives = (at + len, frames_body kept.bytes more head at (Body.whole body len) says of_body, same_rest rest (drop (at + len) (kept.bytes ++ more)) false left closed);
  }

  -- the body is refused
  pub refused_request : (was mid now : S) (kept rest : Rest) (head : Head) (at code : ℕ) (more : List ℕ) → StartSays kept.bytes (Starts.Read head at) → Sends l was mid (continue_text (head.waits && not kept.continued)) (Ok tt) → Came l mid now more → BodySays head.length (drop at (kept.bytes ++ more)) (Body.refused code) → Exchanges l was now kept rest (Refused code)
  refused_request was mid now kept rest head at code more says sends came of_body = record {
    more = more;
    text = continue_text (head.waits && not kept.continued);
    passes = passes_on l was mid now more (continue_text (head.waits && not kept.continued)) sends came;
    due = head.waits;
    is_due = is_due kept.bytes more head at says;
    wrote = refl;
    keeps = tt;
    gives = frames_body kept.bytes more head at (Body.refused code) says of_body;
  }

  -- there is no memory left
  spent_by : (was now : S) (kept : Rest) (more text : List ℕ) (due : Bool) → Passes l was now more text → IsDue (kept.bytes ++ more) due → text ≡ continue_text (due && not kept.continued) → RunsOut l was now kept
  spent_by was now kept more text due passes is_due wrote = record {
    more = more;
    text = text;
    passes = passes;
    wrote = front_written (kept.bytes ++ more) text due kept.continued is_due wrote;
  }

  -- there is no memory left for the body
  spent_request : (was mid now : S) (kept rest : Rest) (head : Head) (at : ℕ) (more : List ℕ) → StartSays kept.bytes (Starts.Read head at) → Sends l was mid (continue_text (head.waits && not kept.continued)) (Ok tt) → Came l mid now more → Exchanges l was now kept rest OutOfMemory
  spent_request was mid now kept rest head at more says sends came =
      spent_by was now kept more (continue_text (head.waits && not kept.continued)) head.waits
      (passes_on l was mid now more (continue_text (head.waits && not kept.continued)) sends came)
      (is_due kept.bytes more head at says) refl

  -- nothing more came, from the facts of all reads
  paused_by : (was now : S) (kept rest : Rest) (more text : List ℕ) (due : Bool) (pause : Pause) (result : Exchange) → Passes l was now more text → IsDue (kept.bytes ++ more) due → text ≡ continue_text (due && not kept.continued) → rest.bytes ≡ kept.bytes ++ more → rest.continued ≡ (kept.continued || due) → Frames (kept.bytes ++ more) Framed.waits → HasPaused l was now pause → PausesWith (kept.bytes ++ more) pause result → Exchanges l was now kept rest result
  paused_by was now kept rest more text due Pauses.Ended result passes is_due wrote bytes continued frames paused answers =
      subst (λ (r : Exchange). Exchanges l was now kept rest r) (sym answers) (by (length (begun (kept.bytes ++ more)) == 0) refl)
    where
      by : (t : Bool) → (length (begun (kept.bytes ++ more)) == 0) ≡ t → Exchanges l was now kept rest (cond t Ended (Torn (length (begun (kept.bytes ++ more)))))
      by true none = record { more = more; text = text; passes = passes; due = due; is_due = is_due; wrote = wrote; keeps = tt; gives = (frames, no_bytes (begun (kept.bytes ++ more)) none, paused) }
      by false some = record { more = more; text = text; passes = passes; due = due; is_due = is_due; wrote = wrote; keeps = tt; gives = (frames, refl, some_bytes (begun (kept.bytes ++ more)) some, paused) }
  paused_by was now kept rest more text due Pauses.NotYet result passes is_due wrote bytes continued frames paused answers =
      subst (λ (r : Exchange). Exchanges l was now kept rest r) (sym answers)
      record { more = more; text = text; passes = passes; due = due; is_due = is_due; wrote = wrote; keeps = continued; gives = (frames, bytes, paused) }
  paused_by was now kept rest more text due Pauses.ReadFault result passes is_due wrote bytes continued frames paused answers =
      subst (λ (r : Exchange). Exchanges l was now kept rest r) (sym answers)
      record { more = more; text = text; passes = passes; due = due; is_due = is_due; wrote = wrote; keeps = continued; gives = (frames, bytes, paused) }
  paused_by was now kept rest more text due Pauses.OutOfMemory result passes is_due wrote bytes continued frames paused answers =
      subst (λ (r : Exchange). Exchanges l was now kept rest r) (sym answers) (spent_by was now kept more text due passes is_due wrote)

  -- the cause of a pause is one from an earlier moment on
  paused_from : (was mid now : S) (pause : Pause) → l.faults was ≤ l.faults mid → l.waits was ≤ l.waits mid → HasPaused l mid now pause → HasPaused l was now pause
  paused_from was mid now Pauses.Ended faults waits paused = paused
  paused_from was mid now Pauses.NotYet faults waits paused = rose_from (l.waits was) (l.waits mid) (l.waits now) waits paused
  paused_from was mid now Pauses.ReadFault faults waits paused = rose_from (l.faults was) (l.faults mid) (l.faults now) faults paused
  paused_from was mid now Pauses.OutOfMemory faults waits paused = tt

  -- the body isn't whole
  body_waits : (was mid now : S) (kept rest : Rest) (head : Head) (at : ℕ) (more : List ℕ) (pause : Pause) (result : Exchange) → StartSays kept.bytes (Starts.Read head at) → Sends l was mid (continue_text (head.waits && not kept.continued)) (Ok tt) → Came l mid now more → BodySays head.length (drop at (kept.bytes ++ more)) Body.waits → HasPaused l mid now pause → rest.bytes ≡ kept.bytes ++ more → rest.continued ≡ (kept.continued || head.waits) → PausesWith (kept.bytes ++ more) pause result → Exchanges l was now kept rest result
  body_waits was mid now kept rest head at more pause result says sends came of_body paused bytes continued answers =
      paused_by was now kept rest more (continue_text (head.waits && not kept.continued)) head.waits pause result
      (passes_on l was mid now more (continue_text (head.waits && not kept.continued)) sends came)
      (is_due kept.bytes more head at says) refl bytes continued
      (frames_body kept.bytes more head at Body.waits says of_body)
      (paused_from was mid now pause sends.faults sends.waits paused) answers

  pub body_paused : (was mid now : S) (kept rest : Rest) (head : Head) (at : ℕ) (pause : Pause) (result : Exchange) → StartSays kept.bytes (Starts.Read head at) → Sends l was mid (continue_text (head.waits && not kept.continued)) (Ok tt) → Reads l {T = Arrived} mid now kept.bytes rest.bytes (Err pause) → OnPause {T = Arrived} (Err pause) (BodySays head.length (drop at rest.bytes) Body.waits) → HasPaused l mid now pause → rest.continued ≡ (kept.continued || head.waits) → PausesWith rest.bytes pause result → Exchanges l was now kept rest result
  body_paused was mid now kept rest head at Pauses.Ended result says sends grew waits paused continued answers =
      body_waits was mid now kept rest head at grew.0 Pauses.Ended result says sends grew.2 (subst (λ (b : List ℕ). BodySays head.length (drop at b) Body.waits) grew.1 waits) paused grew.1 continued (subst (λ (b : List ℕ). PausesWith b Pauses.Ended result) grew.1 answers)
  body_paused was mid now kept rest head at Pauses.NotYet result says sends grew waits paused continued answers =
      body_waits was mid now kept rest head at grew.0 Pauses.NotYet result says sends grew.2 (subst (λ (b : List ℕ). BodySays head.length (drop at b) Body.waits) grew.1 waits) paused grew.1 continued answers
  body_paused was mid now kept rest head at Pauses.ReadFault result says sends grew waits paused continued answers =
      body_waits was mid now kept rest head at grew.0 Pauses.ReadFault result says sends grew.2 (subst (λ (b : List ℕ). BodySays head.length (drop at b) Body.waits) grew.1 waits) paused grew.1 continued answers
  body_paused was mid now kept rest head at Pauses.OutOfMemory result says sends grew waits paused continued answers =
      subst (λ (r : Exchange). Exchanges l was now kept rest r) (sym answers) (spent_request was mid now kept rest head at grew.0 says sends grew.2)

  -- the head isn't whole
  head_waits : (was now : S) (kept rest : Rest) (more : List ℕ) (pause : Pause) (result : Exchange) → Came l was now more → StartSays (kept.bytes ++ more) Starts.Waits → HasPaused l was now pause → rest.bytes ≡ kept.bytes ++ more → rest.continued ≡ kept.continued → PausesWith (kept.bytes ++ more) pause result → Exchanges l was now kept rest result
  head_waits was now kept rest more pause result came says paused bytes continued answers =
      paused_by was now kept rest more [] false pause result (passes_came l was now more came) (Starts.Waits, says, refl) refl bytes
      (continued ∙ sym (or_false kept.continued)) (Starts.Waits, says, refl) paused answers

  pub head_paused : (was now : S) (kept rest : Rest) (pause : Pause) (result : Exchange) → Reads l {T = Start} was now kept.bytes rest.bytes (Err pause) → OnPause {T = Start} (Err pause) (StartSays rest.bytes Starts.Waits) → HasPaused l was now pause → rest.continued ≡ kept.continued → PausesWith rest.bytes pause result → Exchanges l was now kept rest result
  head_paused was now kept rest Pauses.Ended result grew waits paused continued answers =
      head_waits was now kept rest grew.0 Pauses.Ended result grew.2 (subst (λ (b : List ℕ). StartSays b Starts.Waits) grew.1 waits) paused grew.1 continued (subst (λ (b : List ℕ). PausesWith b Pauses.Ended result) grew.1 answers)
  head_paused was now kept rest Pauses.NotYet result grew waits paused continued answers =
      head_waits was now kept rest grew.0 Pauses.NotYet result grew.2 (subst (λ (b : List ℕ). StartSays b Starts.Waits) grew.1 waits) paused grew.1 continued answers
  head_paused was now kept rest Pauses.ReadFault result grew waits paused continued answers =
      head_waits was now kept rest grew.0 Pauses.ReadFault result grew.2 (subst (λ (b : List ℕ). StartSays b Starts.Waits) grew.1 waits) paused grew.1 continued answers
  head_paused was now kept rest Pauses.OutOfMemory result grew waits paused continued answers =
      subst (λ (r : Exchange). Exchanges l was now kept rest r) (sym answers)
      record { more = grew.0; text = []; passes = passes_came l was now grew.0 grew.2; wrote = inl refl }

  -- what came before is read first
  passes_after : (was mid now : S) (first more text : List ℕ) → Came l was mid first → Passes l mid now more text → Passes l was now (first ++ more) text
  passes_after was mid now first more text came passes = record {
    received = joined (l.received was) (l.received mid) (l.received now) first more came.received passes.received;
    left = left_on (l.left was) (l.left mid) (l.left now) first more came.left passes.left;
    holds = passes.holds ∙ ap (λ (o : Option (List ℕ)). option_map (λ held. held ++ text) o) came.holds;
    faults = omega (arith, came.faults, passes.faults);
    waits = omega (arith, came.waits, passes.waits);
  }

  gives_from : (was mid now : S) (all : List ℕ) (rest : Rest) (result : Exchange) → l.faults was ≤ l.faults mid → l.waits was ≤ l.waits mid → Gives l mid now all rest result → Gives l was now all rest result
  gives_from was mid now all rest (Request method target body close) faults waits gives = gives
  gives_from was mid now all rest Ended faults waits gives = gives
  gives_from was mid now all rest (Torn n) faults waits gives = gives
  gives_from was mid now all rest NotYet faults waits gives = (gives.0, gives.1, rose_from (l.waits was) (l.waits mid) (l.waits now) waits gives.2)
  gives_from was mid now all rest ReadFault faults waits gives = (gives.0, gives.1, rose_from (l.faults was) (l.faults mid) (l.faults now) faults gives.2)
  gives_from was mid now all rest WriteFault faults waits gives = rose_from (l.faults was) (l.faults mid) (l.faults now) faults gives
  gives_from was mid now all rest (Refused code) faults waits gives = gives
  gives_from was mid now all rest OutOfMemory faults waits gives = gives

  does_after : (was mid now : S) (kept mid_kept rest : Rest) (first : List ℕ) (result : Exchange) → Came l was mid first → mid_kept.bytes ≡ kept.bytes ++ first → mid_kept.continued ≡ kept.continued → Does l mid now mid_kept rest result → Does l was now kept rest result
  does_after was mid now kept mid_kept rest first result came bytes continued does =
      let all : mid_kept.bytes ++ does.more ≡ kept.bytes ++ (first ++ does.more) = ap (λ (b : List ℕ). b ++ does.more) bytes ∙ append_assoc kept.bytes first does.more in
      record {
        more = first ++ does.more;
        text = does.text;
        passes = passes_after was mid now first does.more does.text came does.passes;
        due = does.due;
        is_due = subst (λ (b : List ℕ). IsDue b does.due) all does.is_due;
        wrote = subst (λ (c : Bool). Wrote result (continue_text (does.due && not c)) does.text) continued does.wrote;
        keeps = subst (λ (c : Bool). Keeps result rest (c || does.due)) continued does.keeps;
        gives = gives_from was mid now (kept.bytes ++ (first ++ does.more)) rest result came.faults came.waits (subst (λ (b : List ℕ). Gives l mid now b rest result) all does.gives);
      }

  spent_after : (was mid now : S) (kept mid_kept : Rest) (first : List ℕ) → Came l was mid first → mid_kept.bytes ≡ kept.bytes ++ first → mid_kept.continued ≡ kept.continued → RunsOut l mid now mid_kept → RunsOut l was now kept
  spent_after was mid now kept mid_kept first came bytes continued spent =
      let all : mid_kept.bytes ++ spent.more ≡ kept.bytes ++ (first ++ spent.more) = ap (λ (b : List ℕ). b ++ spent.more) bytes ∙ append_assoc kept.bytes first spent.more in
      let there = subst (λ (b : List ℕ). (spent.text ≡ []) ⊎ (IsDue b true × ((cut : ℕ) × (spent.text ≡ take cut (continue_text (not mid_kept.continued)))))) all spent.wrote in
      record {
        more = first ++ spent.more;
        text = spent.text;
        passes = passes_after was mid now first spent.more spent.text came spent.passes;
        wrote = subst (λ (c : Bool). (spent.text ≡ []) ⊎ (IsDue (kept.bytes ++ (first ++ spent.more)) true × ((cut : ℕ) × (spent.text ≡ take cut (continue_text (not c)))))) continued there;
      }

  -- one exchange for another, by the answer
  exchanges_map : (was mid now : S) (kept mid_kept rest : Rest) (result : Exchange) → (Does l mid now mid_kept rest result → Does l was now kept rest result) → (RunsOut l mid now mid_kept → RunsOut l was now kept) → Exchanges l mid now mid_kept rest result → Exchanges l was now kept rest result
  exchanges_map was mid now kept mid_kept rest (Request method target body close) does spent = does
  exchanges_map was mid now kept mid_kept rest Ended does spent = does
  exchanges_map was mid now kept mid_kept rest (Torn n) does spent = does
  exchanges_map was mid now kept mid_kept rest NotYet does spent = does
  exchanges_map was mid now kept mid_kept rest ReadFault does spent = does
  exchanges_map was mid now kept mid_kept rest WriteFault does spent = does
  exchanges_map was mid now kept mid_kept rest (Refused code) does spent = does
  exchanges_map was mid now kept mid_kept rest OutOfMemory does spent = spent

  -- an exchange of which a part was read before
  pub exchanges_after : (was mid now : S) (kept mid_kept rest : Rest) (first : List ℕ) (result : Exchange) → Came l was mid first → mid_kept.bytes ≡ kept.bytes ++ first → mid_kept.continued ≡ kept.continued → Exchanges l mid now mid_kept rest result → Exchanges l was now kept rest result
  exchanges_after was mid now kept mid_kept rest first result came bytes continued =
      exchanges_map was mid now kept mid_kept rest result (does_after was mid now kept mid_kept rest first result came bytes continued) (spent_after was mid now kept mid_kept first came bytes continued)

  -- the body was read, and taken out of the buffer
  pub body_read : {T : Type 0} (items : T → List ℕ) (was mid now : S) (kept rest : Rest) (head : Head) (at : ℕ) (buffer more : List ℕ) (body : Body) (taken : Result T Stop) (result : Exchange) → StartSays kept.bytes (Starts.Read head at) → Sends l was mid (continue_text (head.waits && not kept.continued)) (Ok tt) → Came l mid now more → buffer ≡ kept.bytes ++ more → BodySays head.length (drop at buffer) body → IfOk taken (λ v. TakesBody at buffer rest.bytes body (items v)) → IfErr taken (IsRefusalOf body) → rest.continued ≡ false → MatchResult taken (λ v. result ≡ request_of head (items v)) (λ stop. result ≡ stopped stop) → Exchanges l was now kept rest result
  body_read items was mid now kept rest head at buffer more Body.waits (Ok v) result says sends came grew of_body takes refuses closed answers = absurd takes
  body_read items was mid now kept rest head at buffer more (Body.refused code) (Ok v) result says sends came grew of_body takes refuses closed answers = absurd takes
  body_read items was mid now kept rest head at buffer more (Body.whole body len) (Ok v) result says sends came grew of_body takes refuses closed answers =
      let is : result ≡ request_of head body = answers ∙ ap (request_of head) takes.0 in
      let left : rest.bytes ≡ drop (at + len) (kept.bytes ++ more) = takes.1 ∙ ap (drop (at + len)) grew in
      subst (λ (r : Exchange). Exchanges l was now kept rest r) (sym is)
      (whole_request was mid now kept rest head at len more body says sends came
      (subst (λ (b : List ℕ). BodySays head.length (drop at b) (Body.whole body len)) grew of_body) left closed)
  body_read items was mid now kept rest head at buffer more body (Err (Stops.Refused code)) result says sends came grew of_body takes refuses closed answers =
      let there = subst (λ (b : List ℕ). BodySays head.length (drop at b) body) grew of_body in
      subst (λ (r : Exchange). Exchanges l was now kept rest r) (sym answers)
      (refused_request was mid now kept rest head at code more says sends came
      (subst (λ (b : Body). BodySays head.length (drop at (kept.bytes ++ more)) b) refuses there))
  body_read items was mid now kept rest head at buffer more body (Err Stops.OutOfMemory) result says sends came grew of_body takes refuses closed answers =
      subst (λ (r : Exchange). Exchanges l was now kept rest r) (sym answers) (spent_request was mid now kept rest head at more says sends came)
