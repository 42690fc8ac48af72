-- What becomes of a call, from what the book says of it.
use Rattle.std.proofs.Common.{◌≡◌, ◌≤◌, inl, inr, ℕ, List, ◌++◌, take, option_map, Option, Some, None, Bool, true, false, refl, sym, ap, subst, ◌∙◌, arith}
use Rattle.std.specs.Prelude.{Result, Ok, Err, IfOk, IfErr, OnErr, OnOk, IsTrue, is_some, unwrap_or, option_and_then}
use Rattle.ps_keeper.specs.Cause.{Rose}
use Rattle.ps_keeper.specs.declared.keeper.Keeper as keeper
use Rattle.ps_book.specs.declared.book.Answer.{Answer}
use Rattle.ps_book.specs.declared.error.CallError.{CallError}
use Rattle.ps_book.specs.declared.error.CallError.TheVariants.{StoreFault, BadRow, OutOfMemory}
use Rattle.ps_book.specs.declared.machine.Machine as machine
use Rattle.ps_book.specs.Books.{Answers, AnswersIn, BookMeans, Refuses}
use Rattle.ps_book.specs.Holding.{IsRefused, after_entry}
use Rattle.ps_book.specs.Journaled.{Journaled}
use Rattle.ps_edge.specs.declared.edge.Failed.{Failed}
use Rattle.ps_edge.specs.declared.link.Link as link
use Rattle.ps_edge.specs.Edge.{HasWriteCause}
use Rattle.ps_http.specs.Answers.{answer_text}
use Rattle.ps_http.specs.Exchanges.{Sends}
use Rattle.ps_run.specs.Fates.{Answered, Unjudged, InDoubt, after_command, call_more, call_world, from_world}
use Rattle.ps_run.proofs.Calls.{found, answered_causes, unjudged_causes, in_doubt_causes}
use Rattle.ps_server.specs.declared.answer.Request.{Request}
use Rattle.ps_server.specs.declared.protocol.HttpProtocol as protocol
use Rattle.ps_server.specs.Asking.{answer_told, text_with}
use Rattle.ps_server.specs.Serving.{HasCall, HasRequest, turn}
use Rattle.ps_server.specs.Turns.{asked_by, answer_to, asks_to}

no_memory_fault : OutOfMemory ≡ StoreFault → ⊥
no_memory_fault e = cc

no_memory_row : (seq : ℕ) → OutOfMemory ≡ BadRow seq → ⊥
no_memory_row seq e = cc

-- the text of a code and a body
pub text_is : (close : Bool) (code : ℕ) (body : List ℕ) → answer_text code body close ≡ text_with close (code, body)
unfolding text_with
text_is close code body = refl

pub told_by : {F : Type 0} (result : Result (List ℕ) F) (close : Bool) (code : ℕ) (body bytes : List ℕ) (it : ℕ × List ℕ) → (code, body) ≡ it → bytes ≡ body
    → IfOk result (λ text. text ≡ answer_text code bytes close) → IfOk result (λ text. text ≡ text_with close it)
told_by result close code body bytes it same is told =
    subst (λ (l : List ℕ). IfOk result (λ text. text ≡ l)) (ap (λ (b : List ℕ). answer_text code b close) is ∙ text_is close code body ∙ ap (text_with close) same) told

module _ {W E : Type 0} (next : W → E → Option W) where
  steps_is : (from after : W) (entry : Option E) → after_entry next from entry after → after ≡ unwrap_or (option_and_then (λ e. next from e) entry) from
  steps_is from after None steps = steps
  steps_is from after (Some e) steps = sym (ap (λ (o : Option W). unwrap_or o from) steps)

module _ {M C E R K : Type 0} (m : machine.Ghosts M C E R) (p : protocol.Ghosts M C E R) (k : keeper.Ghosts K) where
  -- the call was answered
  answered_call : {F : Type 0} (old new : Journaled M K) (known shown : Bool) (w : m.World) (more : Option m.World) (at : ℕ) (command : C) (close : Bool) (a : Answer R) (result : Result (List ℕ) F)
      → IsTrue known → k.faults old.keeper ≤ k.faults new.keeper → AnswersIn m k known shown w more new at command a
      → IfOk result (λ text. text ≡ text_with close (p.reply_answer a.reply)) → HasCall m p k old new (w, more) at command close result
  answered_call old new known shown w more at command close a result t later answered told =
      let place = found w more answered.from (answered.judged.found t) in
      let after : answered.after ≡ after_command m.next m.entry_of (from_world w more place.bit) at command =
      steps_is m.next answered.from answered.after (m.entry_of answered.from at command) answered.steps ∙ ap (λ (x : m.World). after_command m.next m.entry_of x at command) place.is in
      record {
        fate = Answered place.bit;
        text = subst (λ (it : ℕ × List ℕ). IfOk result (λ text. text ≡ text_with close it)) (ap p.reply_answer (answered.reply_is ∙ ap (λ (x : m.World). m.reply x at command) place.is)) told;
        holds = subst (λ (x : m.World). BookMeans m k new x None) after answered.now;
        causes = answered_causes (k.faults old.keeper) (k.faults new.keeper) place.bit later;
      }

  -- the call has no answer
  refused_call : {F : Type 0} (old new : Journaled M K) (known shown : Bool) (w : m.World) (more : Option m.World) (at : ℕ) (command : C) (close : Bool) (error : CallError) (result : Result (List ℕ) F)
      → IsTrue known → k.faults old.keeper ≤ k.faults new.keeper → IsRefused m.next known shown w more (λ from. m.entry_of from at command) (BookMeans m k new)
      → (error ≡ StoreFault → Rose (k.faults old.keeper) (k.faults new.keeper)) → ((seq : ℕ) → error ≡ BadRow seq → ⊥)
      → IfOk result (λ text. text ≡ text_with close (p.fault_answer error)) → HasCall m p k old new (w, more) at command close result
  refused_call old new known shown w more at command close error result t later (inl same) rose none told = record {
    fate = Unjudged error;
    text = told;
    holds = same;
    causes = unjudged_causes error (k.faults old.keeper) (k.faults new.keeper) later rose none;
  }
  refused_call old new known shown w more at command close error result t later (inr judged) rose none told =
      let place = found w more judged.0 (judged.1.found t) in
      record {
        fate = InDoubt place.bit error;
        text = told;
        holds = subst (λ (x : m.World). BookMeans m k new x (option_and_then (λ e. m.next x e) (m.entry_of x at command))) place.is judged.2;
        causes = in_doubt_causes error (k.faults old.keeper) (k.faults new.keeper) place.bit later rose none;
      }

  -- by whether it has one
  pub has_call : {F : Type 0} (old new : Journaled M K) (w : m.World) (more : Option m.World) (at : ℕ) (command : C) (close : Bool) (answer : Result (Answer R) CallError) (result : Result (List ℕ) F)
      → IsTrue (k.known new.keeper) → k.faults old.keeper ≤ k.faults new.keeper → BookMeans m k old w more
      → IfOk answer (Answers m k old new at command) → OnErr answer (Refuses m k old new at command)
      → (answer ≡ Err StoreFault → Rose (k.faults old.keeper) (k.faults new.keeper)) → IfErr answer (λ e. (seq : ℕ) → e ≡ BadRow seq → IsTrue (k.known new.keeper) → ⊥)
      → IfOk result (λ text. text ≡ text_with close (answer_told p.reply_answer p.fault_answer answer)) → HasCall m p k old new (w, more) at command close result
  has_call old new w more at command close (Ok a) result t later stands answered refused rose none told =
      answered_call old new (k.known new.keeper) (is_some old.machine) w more at command close a result t later (answered w more stands) told
  has_call old new w more at command close (Err e) result t later stands answered refused rose none told =
      refused_call old new (k.known new.keeper) (is_some old.machine) w more at command close e result t later (refused w more stands) (λ same. rose (ap Err same)) (λ seq same. none seq same t) told

  -- a request that asks for a call
  pub of_command : {F : Type 0} (old new : Journaled M K) (s : m.World × Option m.World) (at : ℕ) (command : C) (r : Request) (result : Result (List ℕ) F) → asked_by m p r ≡ Ok command → HasCall m p k old new s at command r.close result
      → (it : HasRequest m p k old new s at r) × IfOk result (λ text. text ≡ text_with r.close (answer_to m p s (turn m p k r at it.fate true false)))
  of_command old new s at command r result asks call =
      (record { fate = call.fate; holds = rw (asks) call.holds; causes = call.causes }, rw (asks) call.text)

  -- a request that is refused
  pub of_refusal : {F : Type 0} (book : Journaled M K) (w : m.World) (more : Option m.World) (at : ℕ) (refusal : ℕ × List ℕ) (r : Request) (result : Result (List ℕ) F) → asked_by m p r ≡ Err refusal → BookMeans m k book w more
      → IfOk result (λ text. text ≡ text_with r.close refusal)
      → (it : HasRequest m p k book book (w, more) at r) × IfOk result (λ text. text ≡ text_with r.close (answer_to m p (w, more) (turn m p k r at it.fate true false)))
  of_refusal book w more at refusal r result asks stands told =
      (record { fate = Answered false; holds = rw (asks) stands; causes = answered_causes (k.faults book.keeper) (k.faults book.keeper) false (omega arith) }, rw (asks) told)

  -- there is no memory to read the request
  pub of_unread : (book : Journaled M K) (w : m.World) (more : Option m.World) (at : ℕ) (r : Request) → BookMeans m k book w more → HasRequest m p k book book (w, more) at r
  of_unread book w more at r stands = record {
    fate = Unjudged OutOfMemory;
    holds = by (asked_by m p r);
    causes = unjudged_causes OutOfMemory (k.faults book.keeper) (k.faults book.keeper) (omega arith) (λ e. absurd (no_memory_fault e)) no_memory_row;
  }
    where
      stepped : Result C (ℕ × List ℕ) → m.World × Option m.World
      stepped asks = asks_to (λ command. (call_world m.next m.entry_of w more (Unjudged OutOfMemory) at command, call_more m.next m.entry_of w more (Unjudged OutOfMemory) at command)) (λ refusal. (w, more)) asks

      by : (asks : Result C (ℕ × List ℕ)) → BookMeans m k book (stepped asks).0 (stepped asks).1
      by (Ok command) = stands
      by (Err refusal) = stands

module _ {S : Type 0} (l : link.Ghosts S) where
  -- a text that was sent, which is the text of an answer
  pub sent : (was now : S) (text whole : List ℕ) (result : Result (Unit {0}) Failed)
      → OnOk result (l.holds now ≡ option_map (λ held. held ++ text) (l.holds was)) → ((cut : ℕ) × (l.holds now ≡ option_map (λ held. held ++ take cut text) (l.holds was)))
      → l.left now ≡ l.left was → l.received now ≡ l.received was → HasWriteCause (l.faults was) (l.faults now) result → l.waits was ≤ l.waits now
      → text ≡ whole → Sends l was now whole result
  sent was now text whole result all part left received cause waits same = subst (λ (t : List ℕ). Sends l was now t result) same
      record { whole = all; part = part; left = left; received = received; faults = cause.later; waits = waits; failed = cause.failed }
