-- One exchange more of a connection: how it goes on, or how it ends.
use Rattle.std.proofs.Common.{◌≡◌, ◌≤◌, ◌⊎◌, inl, inr, ℕ, List, [], ◌∷◌, ◌++◌, drop, take, map, Option, Some, None, Bool, true, false, not, ◌&&◌, ◌||◌, refl, sym, ap, subst, ◌∙◌, arith, append_assoc}
use Rattle.std.specs.Prelude.{Result, Ok, Err, IfSome, IsTrue, MatchOption}
use Rattle.std.proofs.lemmas.List.{append-nil}
use Rattle.std.proofs.Math.Seq.{take-nil}
use Rattle.ps_keeper.specs.Cause.{Rose}
use Rattle.ps_keeper.specs.declared.keeper.Keeper as keeper
use Rattle.ps_book.specs.declared.machine.Machine as machine
use Rattle.ps_book.specs.Books.{BookMeans}
use Rattle.ps_book.specs.Journaled.{Journaled}
use Rattle.ps_edge.specs.declared.clock.Clock as clock
use Rattle.ps_edge.specs.declared.edge.Failed.{Failed}
use Rattle.ps_edge.specs.declared.link.Link as link
use Rattle.ps_edge.proofs.Texts.{unwritten}
use Rattle.ps_http.specs.declared.exchange.Exchange.{Exchange}
use Rattle.ps_http.specs.declared.exchange.Exchange.TheVariants as Exchanged
use Rattle.ps_http.specs.Exchanges.{Does, Passes, RunsOut, Rest, Sends, continue_text}
use Rattle.ps_http.specs.Requests.{IsDue}
use Rattle.ps_http.proofs.DueLemmas.{due_stays, one_due}
use Rattle.ps_run.specs.Fates.{Fate, HasFateCauses}
use Rattle.ps_run.proofs.Leads.{causes_none, causes_on}
use Rattle.ps_server.specs.declared.answer.Request.{Request}
use Rattle.ps_server.specs.declared.conn.ConnEnd.{ConnEnd}
use Rattle.ps_server.specs.declared.conn.ConnEnd.TheVariants.{Ended, Torn, ReadFault, WriteFault, Refused, Closed, OutOfMemory}
use Rattle.ps_server.specs.declared.protocol.HttpProtocol as protocol
use Rattle.ps_server.specs.Asking.{text_with}
use Rattle.ps_server.specs.Serving.{Answers, Ends, Goes, IsWhole, HasRequest, IsFront, Refuses, end_after, ended_by, turn}
use Rattle.ps_server.specs.Turns.{Turn, answer_to, state_after, texts_of}
use Rattle.ps_server.proofs.PassLemmas.{front_cut, front_whole, once, once_cut, passes_as, passes_cut, passes_sent, passes_then}
use Rattle.ps_server.proofs.TurnLemmas.{all_then, fates_then, reads_more, reads_then, state_then, texts_then}

-- a count that rose after it had not fallen
rose_from : (before mid now : ℕ) → before ≤ mid → Rose mid now → Rose before now
rose_from before mid now later rose = omega arith

-- nothing was taken of what is left to read
untaken : (was now : Option (List ℕ)) → now ≡ was → IfSome was (λ all. (rest : List ℕ) × (now ≡ Some rest) × (all ≡ [] ++ rest))
untaken None now same = tt
untaken (Some all) now same = (all, same, refl)

module _ {M C E R K L T : Type 0} (m : machine.Ghosts M C E R) (p : protocol.Ghosts M C E R) (k : keeper.Ghosts K) (l : link.Ghosts L) (c : clock.Ghosts T)
    (clock : T) (was : L) (old : Journaled M K) (s : m.World × Option m.World) where
  -- what was answered stays when more bytes come
  answers_more : (book : Journaled M K) (read : List ℕ) (turns : List Turn) (rest more : List ℕ) → Answers m p k l c clock old book s read turns rest → Answers m p k l c clock old book s (read ++ more) turns (rest ++ more)
  answers_more book read turns rest more answers = record { reads = reads_more read turns rest more answers.reads; moments = answers.moments; holds = answers.holds; causes = answers.causes }

  -- the answer 100 was due before, if it was written
  was_due : (link : L) (book : Journaled M K) (kept : Rest) (more : List ℕ) (due : Bool) → Goes m p k l c clock was link old book kept s → IsDue (kept.bytes ++ more) due → IsTrue kept.continued → due ≡ true
  was_due link book kept more due goes is written = one_due (kept.bytes ++ more) due true is (due_stays kept.bytes more (goes.due written))

  -- nothing was read yet
  pub begins : (w : m.World) (more : Option m.World) → s ≡ (w, more) → BookMeans m k old w more → Goes m p k l c clock was was old old (record { bytes = []; continued = false }) s
  begins w more is stands = record {
    read = [];
    turns = [];
    answers = record { reads = refl; moments = tt; holds = rw (is) stands; causes = causes_none (k.faults old.keeper) (k.faults old.keeper) (omega arith) };
    stays_open = tt;
    passes = record { received = unwritten (l.received was); left = untaken (l.left was) (l.left was) refl; holds = unwritten (l.holds was); faults = omega arith; waits = omega arith };
    due = λ written. cc;
  }

  module _ (link now : L) (book : Journaled M K) (kept rest : Rest) (goes : Goes m p k l c clock was link old book kept s) where
    -- what was written with this exchange, whose text is the answer 100 if it is due
    passes_part : (result : Exchange) (does : Does l link now kept rest result) → does.text ≡ continue_text (does.due && not kept.continued) → Passes l was now (goes.read ++ does.more) (texts_of m p s goes.turns ++ continue_text does.due)
    passes_part result does wrote =
        passes_as l was now (goes.read ++ does.more) ((texts_of m p s goes.turns ++ continue_text kept.continued) ++ does.text) (texts_of m p s goes.turns ++ continue_text does.due)
        (append_assoc (texts_of m p s goes.turns) (continue_text kept.continued) does.text
        ∙ ap (λ (t : List ℕ). texts_of m p s goes.turns ++ (continue_text kept.continued ++ t)) wrote
        ∙ ap (λ (t : List ℕ). texts_of m p s goes.turns ++ t) (once kept.continued does.due (was_due link book kept does.more does.due goes does.is_due)))
        (passes_then l was link now goes.read does.more (texts_of m p s goes.turns ++ continue_text kept.continued) does.text goes.passes does.passes)

    -- nothing came so far
    pub waited : (does : Does l link now kept rest Exchanged.NotYet) → Goes m p k l c clock was now old book rest s
    waited does =
        let all : rest.bytes ≡ kept.bytes ++ does.more = does.gives.1 in
        let same : rest.continued ≡ does.due = does.keeps ∙ either kept.continued does.due (was_due link book kept does.more does.due goes does.is_due) in
        record {
          read = goes.read ++ does.more;
          turns = goes.turns;
          answers = subst (λ (b : List ℕ). Answers m p k l c clock old book s (goes.read ++ does.more) goes.turns b) (sym all) (answers_more book goes.read goes.turns kept.bytes does.more goes.answers);
          stays_open = goes.stays_open;
          passes = passes_as l was now (goes.read ++ does.more) (texts_of m p s goes.turns ++ continue_text does.due) (texts_of m p s goes.turns ++ continue_text rest.continued) (ap (λ (b : Bool). texts_of m p s goes.turns ++ continue_text b) (sym same)) (passes_part Exchanged.NotYet does does.wrote);
          due = λ written. subst (λ (b : List ℕ). IsDue b true) (sym all) (subst (λ (b : Bool). IsDue (kept.bytes ++ does.more) b) (sym same ∙ written) does.is_due);
        }
      where
        either : (continued due : Bool) → (IsTrue continued → due ≡ true) → (continued || due) ≡ due
        either true due is = sym (is refl)
        either false due is = refl

    -- the connection ended between two requests
    pub ended : (does : Does l link now kept rest Exchanged.Ended) → Ends m p k l c clock was now old book s Ended
    ended does = record {
      read = goes.read ++ does.more;
      text = texts_of m p s goes.turns ++ continue_text does.due;
      turns = goes.turns;
      rest = kept.bytes ++ does.more;
      passes = passes_part Exchanged.Ended does does.wrote;
      answers = answers_more book goes.read goes.turns kept.bytes does.more goes.answers;
      ends = ((goes.stays_open, (does.due, does.is_due, refl), does.gives.0, does.gives.2), does.gives.1);
    }

    -- or inside one
    pub torn : (n : ℕ) (does : Does l link now kept rest (Exchanged.Torn n)) → Ends m p k l c clock was now old book s (Torn n)
    torn n does = record {
      read = goes.read ++ does.more;
      text = texts_of m p s goes.turns ++ continue_text does.due;
      turns = goes.turns;
      rest = kept.bytes ++ does.more;
      passes = passes_part (Exchanged.Torn n) does does.wrote;
      answers = answers_more book goes.read goes.turns kept.bytes does.more goes.answers;
      ends = ((goes.stays_open, (does.due, does.is_due, refl), does.gives.0, does.gives.3), does.gives.1, does.gives.2);
    }

    -- a read failed
    pub unread : (does : Does l link now kept rest Exchanged.ReadFault) → Ends m p k l c clock was now old book s ReadFault
    unread does = record {
      read = goes.read ++ does.more;
      text = texts_of m p s goes.turns ++ continue_text does.due;
      turns = goes.turns;
      rest = kept.bytes ++ does.more;
      passes = passes_part Exchanged.ReadFault does does.wrote;
      answers = answers_more book goes.read goes.turns kept.bytes does.more goes.answers;
      ends = (goes.stays_open, (does.due, does.is_due, refl), does.gives.0, rose_from (l.faults was) (l.faults link) (l.faults now) goes.passes.faults does.gives.2);
    }

    -- the answer 100 couldn't be written
    pub unsent : (does : Does l link now kept rest Exchanged.WriteFault) → Ends m p k l c clock was now old book s WriteFault
    unsent does =
        let written = once_cut kept.continued does.due does.wrote.0 (was_due link book kept does.more does.due goes does.is_due) in
        let front = front_cut (texts_of m p s goes.turns) (continue_text kept.continued ++ take does.wrote.0 (continue_text (does.due && not kept.continued))) (continue_text does.due) written in
        record {
          read = goes.read ++ does.more;
          text = texts_of m p s goes.turns ++ (continue_text kept.continued ++ take does.wrote.0 (continue_text (does.due && not kept.continued)));
          turns = goes.turns;
          rest = kept.bytes ++ does.more;
          passes = passes_as l was now (goes.read ++ does.more) ((texts_of m p s goes.turns ++ continue_text kept.continued) ++ does.text) (texts_of m p s goes.turns ++ (continue_text kept.continued ++ take does.wrote.0 (continue_text (does.due && not kept.continued))))
              (append_assoc (texts_of m p s goes.turns) (continue_text kept.continued) does.text ∙ ap (λ (t : List ℕ). texts_of m p s goes.turns ++ (continue_text kept.continued ++ t)) does.wrote.1)
              (passes_then l was link now goes.read does.more (texts_of m p s goes.turns ++ continue_text kept.continued) does.text goes.passes does.passes);
          answers = answers_more book goes.read goes.turns kept.bytes does.more goes.answers;
          ends = ((texts_of m p s goes.turns ++ continue_text does.due, inr (inl (goes.stays_open, (does.due, does.is_due, refl))), front), rose_from (l.faults was) (l.faults link) (l.faults now) goes.passes.faults does.gives);
        }

    -- there was no memory to read on
    pub ran_out : (out : RunsOut l link now kept) → Ends m p k l c clock was now old book s OutOfMemory
    ran_out out = by kept.continued refl out.wrote
      where
        passes : (text : List ℕ) → out.text ≡ text → Passes l was now (goes.read ++ out.more) (texts_of m p s goes.turns ++ (continue_text kept.continued ++ text))
        passes text is = passes_as l was now (goes.read ++ out.more) ((texts_of m p s goes.turns ++ continue_text kept.continued) ++ out.text) (texts_of m p s goes.turns ++ (continue_text kept.continued ++ text))
            (append_assoc (texts_of m p s goes.turns) (continue_text kept.continued) out.text ∙ ap (λ (t : List ℕ). texts_of m p s goes.turns ++ (continue_text kept.continued ++ t)) is)
            (passes_then l was link now goes.read out.more (texts_of m p s goes.turns ++ continue_text kept.continued) out.text goes.passes out.passes)

        ends_with : (text : List ℕ) → out.text ≡ text → (whole : List ℕ) → IsWhole m p k l c was now goes.turns (kept.bytes ++ out.more) (texts_of m p s goes.turns) (texts_of m p s goes.turns ++ (continue_text kept.continued ++ text)) whole
            → IsFront (texts_of m p s goes.turns ++ (continue_text kept.continued ++ text)) whole → Ends m p k l c clock was now old book s OutOfMemory
        ends_with text is whole is_whole front = record {
          read = goes.read ++ out.more;
          text = texts_of m p s goes.turns ++ (continue_text kept.continued ++ text);
          turns = goes.turns;
          rest = kept.bytes ++ out.more;
          passes = passes text is;
          answers = answers_more book goes.read goes.turns kept.bytes out.more goes.answers;
          ends = (whole, is_whole, front);
        }

        none_left : (cut : ℕ) → kept.continued ≡ true → take cut (continue_text (not kept.continued)) ≡ []
        none_left cut is = ap (λ (b : Bool). take cut (continue_text (not b))) is ∙ take-nil cut

        all_written : out.text ≡ [] → kept.continued ≡ true → Ends m p k l c clock was now old book s OutOfMemory
        all_written none is = ends_with [] none (texts_of m p s goes.turns ++ continue_text true)
            (inr (inl (goes.stays_open, (true, due_stays kept.bytes out.more (goes.due is), refl))))
            (front_cut (texts_of m p s goes.turns) (continue_text kept.continued ++ []) (continue_text true) (subst (λ (x : List ℕ). IsFront x (continue_text true)) (sym (append-nil (continue_text kept.continued) ∙ ap continue_text is)) (front_whole (continue_text true))))

        by : (b : Bool) → kept.continued ≡ b → ((out.text ≡ []) ⊎ (IsDue (kept.bytes ++ out.more) true × ((cut : ℕ) × (out.text ≡ take cut (continue_text (not kept.continued)))))) → Ends m p k l c clock was now old book s OutOfMemory
        by true is (inl none) = all_written none is
        by true is (inr some) = all_written (some.1.1 ∙ none_left some.1.0 is) is
        by false is (inl none) = ends_with [] none (texts_of m p s goes.turns) (inl (inl goes.stays_open, refl))
            (subst (λ (x : List ℕ). IsFront x (texts_of m p s goes.turns)) (sym (ap (λ (b : Bool). texts_of m p s goes.turns ++ (continue_text b ++ [])) is ∙ append-nil (texts_of m p s goes.turns))) (front_whole (texts_of m p s goes.turns)))
        by false is (inr some) = ends_with (take some.1.0 (continue_text (not kept.continued))) some.1.1 (texts_of m p s goes.turns ++ continue_text true)
            (inr (inl (goes.stays_open, (true, some.0, refl))))
            (front_cut (texts_of m p s goes.turns) (continue_text kept.continued ++ take some.1.0 (continue_text (not kept.continued))) (continue_text true)
            (subst (λ (b : Bool). IsFront (continue_text b ++ take some.1.0 (continue_text (not b))) (continue_text true)) (sym is) (some.1.0, refl)))

    -- a request was read, and is answered
    module _ (r : Request) (last : L) (new : Journaled M K) (at : ℕ) (gives : c.may_give clock at) (does : Does l link now kept rest (Exchanged.Request r.method r.target r.body r.close))
        (it : HasRequest m p k book new (state_after m p s goes.turns) at r) (printed : Bool) where
      abbrev one : Turn
      one = turn m p k r at it.fate printed does.due

      abbrev answer : List ℕ
      answer = text_with r.close (answer_to m p (state_after m p s goes.turns) (turn m p k r at it.fate printed false))

      turns_text : (texts_of m p s goes.turns ++ continue_text does.due) ++ answer ≡ texts_of m p s (goes.turns ++ one ∷ [])
      turns_text = append_assoc (texts_of m p s goes.turns) (continue_text does.due) answer ∙ sym (texts_then m p s goes.turns one)

      answers_then : Answers m p k l c clock old new s (goes.read ++ does.more) (goes.turns ++ one ∷ []) (drop does.gives.0 (kept.bytes ++ does.more))
      answers_then = record {
        reads = reads_then (goes.read ++ does.more) goes.turns one (kept.bytes ++ does.more) does.gives.0 (reads_more goes.read goes.turns kept.bytes does.more goes.answers.reads) (record { frames = does.gives.1; is_due = does.is_due });
        moments = all_then (λ (t : Turn). c.may_give clock t.at) goes.turns one goes.answers.moments gives;
        holds = subst (λ (x : m.World × Option m.World). BookMeans m k new x.0 x.1) (sym (state_then m p s goes.turns one)) it.holds;
        causes = subst (λ (fates : List Fate). HasFateCauses (k.faults old.keeper) (k.faults new.keeper) fates) (sym (fates_then goes.turns one))
            (causes_on (k.faults old.keeper) (k.faults book.keeper) (k.faults new.keeper) (map (λ (t : Turn). t.fate) goes.turns) (it.fate ∷ []) goes.answers.causes it.causes);
      }

      before : Passes l was now (goes.read ++ does.more) (texts_of m p s goes.turns ++ continue_text does.due)
      before = passes_part (Exchanged.Request r.method r.target r.body r.close) does does.wrote

      all_sent : Sends l now last answer (Ok tt) → Passes l was last (goes.read ++ does.more) (texts_of m p s (goes.turns ++ one ∷ []))
      all_sent sends = passes_as l was last (goes.read ++ does.more) ((texts_of m p s goes.turns ++ continue_text does.due) ++ answer) (texts_of m p s (goes.turns ++ one ∷ [])) turns_text
          (passes_sent l was now last (goes.read ++ does.more) (texts_of m p s goes.turns ++ continue_text does.due) answer before sends)

      -- the connection goes on
      goes_on : r.close ≡ false → Sends l now last answer (Ok tt) → Goes m p k l c clock was last old new rest s
      goes_on stays sends =
          let left : rest.bytes ≡ drop does.gives.0 (kept.bytes ++ does.more) = ap (λ (x : Rest). x.bytes) does.gives.2 in
          let fresh : rest.continued ≡ false = ap (λ (x : Rest). x.continued) does.gives.2 in
          record {
            read = goes.read ++ does.more;
            turns = goes.turns ++ one ∷ [];
            answers = subst (λ (b : List ℕ). Answers m p k l c clock old new s (goes.read ++ does.more) (goes.turns ++ one ∷ []) b) (sym left) answers_then;
            stays_open = all_then (λ (t : Turn). t.request.close ≡ false) goes.turns one goes.stays_open stays;
            passes = passes_as l was last (goes.read ++ does.more) (texts_of m p s (goes.turns ++ one ∷ [])) (texts_of m p s (goes.turns ++ one ∷ []) ++ continue_text rest.continued)
                (sym (append-nil (texts_of m p s (goes.turns ++ one ∷ []))) ∙ ap (λ (b : Bool). texts_of m p s (goes.turns ++ one ∷ []) ++ continue_text b) (sym fresh)) (all_sent sends);
            due = λ written. absurd (not_both rest.continued fresh written);
          }
        where
          not_both : (b : Bool) → b ≡ false → IsTrue b → ⊥
          not_both true none some = cc
          not_both false none some = cc

      -- the connection closes
      closes : r.close ≡ true → Sends l now last answer (Ok tt) → Ends m p k l c clock was last old new s Closed
      closes close sends = record {
        read = goes.read ++ does.more;
        text = texts_of m p s (goes.turns ++ one ∷ []);
        turns = goes.turns ++ one ∷ [];
        rest = drop does.gives.0 (kept.bytes ++ does.more);
        passes = all_sent sends;
        answers = answers_then;
        ends = (record { before = goes.turns; last = one; are = refl; stays_open = goes.stays_open }, close, refl);
      }

      -- the answer couldn't be written
      cut_off : (e : Failed) → Sends l now last answer (Err e) → Ends m p k l c clock was last old new s WriteFault
      cut_off e sends = record {
        read = goes.read ++ does.more;
        text = (texts_of m p s goes.turns ++ continue_text does.due) ++ take sends.part.0 answer;
        turns = goes.turns ++ one ∷ [];
        rest = drop does.gives.0 (kept.bytes ++ does.more);
        passes = passes_cut l was now last (goes.read ++ does.more) (texts_of m p s goes.turns ++ continue_text does.due) answer (Err e) before sends;
        answers = answers_then;
        ends = (
          (
            texts_of m p s (goes.turns ++ one ∷ []),
            inl (inr (record { before = goes.turns; last = one; are = refl; stays_open = goes.stays_open }), refl),
            subst (λ (x : List ℕ). IsFront ((texts_of m p s goes.turns ++ continue_text does.due) ++ take sends.part.0 answer) x) turns_text
                (front_cut (texts_of m p s goes.turns ++ continue_text does.due) (take sends.part.0 answer) answer (sends.part.0, refl)),
          ),
          rose_from (l.faults was) (l.faults now) (l.faults last) before.faults sends.failed,
        );
      }

      pub served : (result : Result (Unit {0}) Failed) → Sends l now last answer result → MatchOption (end_after r.close result) (Goes m p k l c clock was last old new rest s) (Ends m p k l c clock was last old new s)
      served (Ok done) sends = by r.close refl
        where
          by : (b : Bool) → r.close ≡ b → MatchOption (end_after b (Ok done)) (Goes m p k l c clock was last old new rest s) (Ends m p k l c clock was last old new s)
          by true close = closes close sends
          by false stays = goes_on stays sends
      served (Err e) sends = by r.close
        where
          by : (b : Bool) → MatchOption (end_after b (Err e)) (Goes m p k l c clock was last old new rest s) (Ends m p k l c clock was last old new s)
          by true = cut_off e sends
          by false = cut_off e sends

    -- bytes that are no request were answered
    module _ (code : ℕ) (last : L) (does : Does l link now kept rest (Exchanged.Refused code)) where
      abbrev refusal : List ℕ
      refusal = text_with true (code, p.refusal_body code)

      part : Passes l was now (goes.read ++ does.more) (texts_of m p s goes.turns ++ continue_text does.due)
      part = passes_part (Exchanged.Refused code) does does.wrote

      no_memory : Ends m p k l c clock was now old book s OutOfMemory
      no_memory = record {
        read = goes.read ++ does.more;
        text = texts_of m p s goes.turns ++ continue_text does.due;
        turns = goes.turns;
        rest = kept.bytes ++ does.more;
        passes = part;
        answers = answers_more book goes.read goes.turns kept.bytes does.more goes.answers;
        ends = (texts_of m p s goes.turns ++ continue_text does.due, inr (inl (goes.stays_open, (does.due, does.is_due, refl))), front_whole (texts_of m p s goes.turns ++ continue_text does.due));
      }

      answered : Sends l now last refusal (Ok tt) → Ends m p k l c clock was last old book s (Refused code)
      answered sends = record {
        read = goes.read ++ does.more;
        text = texts_of m p s goes.turns ++ (continue_text does.due ++ refusal);
        turns = goes.turns;
        rest = kept.bytes ++ does.more;
        passes = passes_as l was last (goes.read ++ does.more) ((texts_of m p s goes.turns ++ continue_text does.due) ++ refusal) (texts_of m p s goes.turns ++ (continue_text does.due ++ refusal))
            (append_assoc (texts_of m p s goes.turns) (continue_text does.due) refusal) (passes_sent l was now last (goes.read ++ does.more) (texts_of m p s goes.turns ++ continue_text does.due) refusal part sends);
        answers = answers_more book goes.read goes.turns kept.bytes does.more goes.answers;
        ends = record { stays_open = goes.stays_open; frames = does.gives; due = does.due; is_due = does.is_due; whole_is = refl };
      }

      unanswered : (e : Failed) → Sends l now last refusal (Err e) → Ends m p k l c clock was last old book s WriteFault
      unanswered e sends = record {
        read = goes.read ++ does.more;
        text = texts_of m p s goes.turns ++ (continue_text does.due ++ take sends.part.0 refusal);
        turns = goes.turns;
        rest = kept.bytes ++ does.more;
        passes = passes_as l was last (goes.read ++ does.more) ((texts_of m p s goes.turns ++ continue_text does.due) ++ take sends.part.0 refusal) (texts_of m p s goes.turns ++ (continue_text does.due ++ take sends.part.0 refusal))
            (append_assoc (texts_of m p s goes.turns) (continue_text does.due) (take sends.part.0 refusal)) (passes_cut l was now last (goes.read ++ does.more) (texts_of m p s goes.turns ++ continue_text does.due) refusal (Err e) part sends);
        answers = answers_more book goes.read goes.turns kept.bytes does.more goes.answers;
        ends = (
          (
            texts_of m p s goes.turns ++ (continue_text does.due ++ refusal),
            inr (inr (code, record { stays_open = goes.stays_open; frames = does.gives; due = does.due; is_due = does.is_due; whole_is = refl })),
            front_cut (texts_of m p s goes.turns) (continue_text does.due ++ take sends.part.0 refusal) (continue_text does.due ++ refusal) (front_cut (continue_text does.due) (take sends.part.0 refusal) refusal (sends.part.0, refl)),
          ),
          rose_from (l.faults was) (l.faults now) (l.faults last) part.faults sends.failed,
        );
      }

      pub refused : (end : ConnEnd) → Refuses p l code now last end → Ends m p k l c clock was last old book s end
      refused end (inl none) = rw (none.0, none.1) no_memory
      refused end (inr some) = rw (some.2) (by some.0 some.1)
        where
          by : (result : Result (Unit {0}) Failed) → Sends l now last refusal result → Ends m p k l c clock was last old book s (ended_by p l code result)
          by (Ok done) sends = answered sends
          by (Err e) sends = unanswered e sends
