-- The fate of what a line asks.
use Rattle.std.proofs.Common.{◌≡◌, ◌⊎◌, inl, inr, ℕ, ◌+◌, ◌-◌, ◌^◌, ◌<◌, ◌≤◌, min, length, take, List, [], ◌∷◌, ◌++◌, Option, Some, None, option_map, Bool, true, false, refl, sym, ap, ◌∙◌, subst, arith}
use Rattle.std.specs.Prelude.{Result, Ok, Err, OnOk, is_ok, IsTrue, unwrap_or, option_and_then, nat_lt, if◌then◌else◌}
use Rattle.std.proofs.lemmas.Bool.Decides.{nat_tests}
use Rattle.ps_keeper.specs.Cause.{Rose}
use Rattle.ps_book.specs.declared.book.Answer.{Answer}
use Rattle.ps_book.specs.declared.error.CallError.{CallError}
use Rattle.ps_book.specs.declared.error.CallError.TheVariants.{StoreFault, BadRow, OutOfMemory}
use Rattle.ps_book.specs.Holding.{IsAnswered, IsRefused, after_entry}
use Rattle.ps_run.specs.declared.protocol.Reading.{Reading}
use Rattle.ps_run.specs.declared.protocol.Reading.TheVariants.{Call, Refused}
use Rattle.ps_run.specs.FaultTexts.{too_long_text, fault_text}
use Rattle.ps_run.specs.Fates.{Answered, Unprinted, Unjudged, InDoubt, from_world, after_command, line_reading, text_of_line, line_state, store_count, bad_count, HasFateCauses}
use Rattle.ps_run.specs.Leading.{HasReadingFate, AnswersLine}

-- whether the entry in doubt stood in the log
pub record IsFound {W : Type 0} (w : W) (more : Option W) (from : W) : Type 0 where
  pub bit : Bool
  pub is : from ≡ from_world w more bit

pub found : {W : Type 0} (w : W) (more : Option W) (from : W) → (from ≡ w) ⊎ (more ≡ Some from) → IsFound w more from
found w more from (inl same) = record { bit = false; is = same }
found w more from (inr there) = record { bit = true; is = sym (ap (λ (o : Option _). unwrap_or o w) there) }

-- a line that met no fault
no_fault : (before now most : ℕ) → before ≤ now → min (before + 0) most ≤ now
no_fault before now most later = omega arith

pub answered_causes : (before now : ℕ) (bit : Bool) → before ≤ now → HasFateCauses before now (Answered bit ∷ [])
answered_causes before now bit later = record { causes = no_fault before now (2 ^ 64 - 1) later; no_bad_row = refl }

pub unprinted_causes : (before now : ℕ) (bit : Bool) → before ≤ now → HasFateCauses before now (Unprinted bit ∷ [])
unprinted_causes before now bit later = record { causes = no_fault before now (2 ^ 64 - 1) later; no_bad_row = refl }

-- a line whose call has no answer
store_cause : (error : CallError) (before now : ℕ) → before ≤ now → (error ≡ StoreFault → Rose before now) → min (before + (store_count (Some error) + 0)) (2 ^ 64 - 1) ≤ now
store_cause StoreFault before now later rose = rose refl
store_cause (BadRow seq) before now later rose = no_fault before now (2 ^ 64 - 1) later
store_cause OutOfMemory before now later rose = no_fault before now (2 ^ 64 - 1) later

no_bad : (error : CallError) → ((seq : ℕ) → error ≡ BadRow seq → ⊥) → bad_count (Some error) + 0 ≡ 0
no_bad StoreFault none = refl
no_bad (BadRow seq) none = absurd (none seq refl)
no_bad OutOfMemory none = refl

pub unjudged_causes : (error : CallError) (before now : ℕ) → before ≤ now → (error ≡ StoreFault → Rose before now) → ((seq : ℕ) → error ≡ BadRow seq → ⊥) → HasFateCauses before now (Unjudged error ∷ [])
unjudged_causes error before now later rose none = record { causes = store_cause error before now later rose; no_bad_row = no_bad error none }

pub in_doubt_causes : (error : CallError) (before now : ℕ) (bit : Bool) → before ≤ now → (error ≡ StoreFault → Rose before now) → ((seq : ℕ) → error ≡ BadRow seq → ⊥) → HasFateCauses before now (InDoubt bit error ∷ [])
in_doubt_causes error before now bit later rose none = record { causes = store_cause error before now later rose; no_bad_row = no_bad error none }

no_memory_fault : OutOfMemory ≡ StoreFault → ⊥
no_memory_fault e = cc

no_memory_row : (seq : ℕ) → OutOfMemory ≡ BadRow seq → ⊥
no_memory_row seq e = cc

at_ok : {T F P : Type 0} (result : Result T F) → IsTrue (is_ok result) → OnOk result P → P
at_ok (Ok x) ok holds = holds
at_ok (Err e) ok holds = absurd (cc)

module _ {W E R C : Type 0} (next : W → E → Option W) (reply : W → ℕ → C → R) (entry_of : W → ℕ → C → Option E) (reply_text : R → List ℕ) (stands : W → Option W → Type 0) where
  steps_is : (from after : W) (entry : Option E) → after_entry next from entry after → after ≡ unwrap_or (option_and_then (λ e. next from e) entry) from
  steps_is from after None steps = steps
  steps_is from after (Some e) steps = sym (ap (λ (o : Option W). unwrap_or o from) steps)

  -- the call was answered, and its reply is printed
  pub answered_fate : (number : W → ℕ) (before now : ℕ) (known shown : Bool) (w : W) (more : Option W) (at : ℕ) (command : C) (a : Answer R) (printed : List ℕ) → IsTrue known → before ≤ now
      → IsAnswered next number known shown w more (λ from. reply from at command) (λ from. entry_of from at command) stands a → printed ≡ reply_text a.reply
      → HasReadingFate next reply entry_of reply_text stands (w, more) (Call at command) before now printed
  answered_fate number before now known shown w more at command a printed t later answered is =
      let place = found w more answered.from (answered.judged.found t) in
      let after : answered.after ≡ after_command next entry_of (from_world w more place.bit) at command =
      steps_is answered.from answered.after (entry_of answered.from at command) answered.steps ∙ ap (λ (x : W). after_command next entry_of x at command) place.is in
      record {
        fate = Answered place.bit;
        text_is = is ∙ ap reply_text (answered.reply_is ∙ ap (λ (x : W). reply x at command) place.is);
        holds = subst (λ (x : W). stands x None) after answered.now;
        causes = answered_causes before now place.bit later;
      }

  -- the call was answered, and there is no memory for the text
  pub unprinted_fate : (number : W → ℕ) (before now : ℕ) (known shown : Bool) (w : W) (more : Option W) (at : ℕ) (command : C) (a : Answer R) (printed : List ℕ) → IsTrue known → before ≤ now
      → IsAnswered next number known shown w more (λ from. reply from at command) (λ from. entry_of from at command) stands a → printed ≡ fault_text OutOfMemory
      → HasReadingFate next reply entry_of reply_text stands (w, more) (Call at command) before now printed
  unprinted_fate number before now known shown w more at command a printed t later answered is =
      let place = found w more answered.from (answered.judged.found t) in
      let after : answered.after ≡ after_command next entry_of (from_world w more place.bit) at command =
      steps_is answered.from answered.after (entry_of answered.from at command) answered.steps ∙ ap (λ (x : W). after_command next entry_of x at command) place.is in
      record {
        fate = Unprinted place.bit;
        text_is = is;
        holds = subst (λ (x : W). stands x None) after answered.now;
        causes = unprinted_causes before now place.bit later;
      }

  -- the call has no answer
  pub refused_fate : (before now : ℕ) (known shown : Bool) (w : W) (more : Option W) (at : ℕ) (command : C) (error : CallError) (printed : List ℕ) → IsTrue known → before ≤ now
      → IsRefused next known shown w more (λ from. entry_of from at command) stands → printed ≡ fault_text error → (error ≡ StoreFault → Rose before now) → ((seq : ℕ) → error ≡ BadRow seq → ⊥)
      → HasReadingFate next reply entry_of reply_text stands (w, more) (Call at command) before now printed
  refused_fate before now known shown w more at command error printed t later (inl same) is rose none = record {
    fate = Unjudged error;
    text_is = is;
    holds = same;
    causes = unjudged_causes error before now later rose none;
  }
  refused_fate before now known shown w more at command error printed t later (inr judged) is rose none =
      let place = found w more judged.0 (judged.1.found t) in
      record {
        fate = InDoubt place.bit error;
        text_is = is;
        holds = subst (λ (x : W). stands x (option_and_then (λ e. next x e) (entry_of x at command))) place.is judged.2;
        causes = in_doubt_causes error before now place.bit later rose none;
      }

  -- a line that asks for no call is refused by its text
  pub refusal_fate : (before now : ℕ) (w : W) (more : Option W) (text printed : List ℕ) → before ≤ now → stands w more → printed ≡ text → HasReadingFate next reply entry_of reply_text stands (w, more) (Refused text) before now printed
  refusal_fate before now w more text printed later holds is = record { fate = Answered false; text_is = is; holds = holds; causes = answered_causes before now false later }

  -- there is no memory to read the line
  pub unread_fate : (before now : ℕ) (w : W) (more : Option W) (reading : Reading C) (printed : List ℕ) → before ≤ now → stands w more → printed ≡ fault_text OutOfMemory → HasReadingFate next reply entry_of reply_text stands (w, more) reading before now printed
  unread_fate before now w more (Call at command) printed later holds is = record {
    fate = Unjudged OutOfMemory;
    text_is = is;
    holds = holds;
    causes = unjudged_causes OutOfMemory before now later (λ e. absurd (no_memory_fault e)) no_memory_row;
  }
  unread_fate before now w more (Refused text) printed later holds is = record {
    fate = Unjudged OutOfMemory;
    text_is = is;
    holds = holds;
    causes = unjudged_causes OutOfMemory before now later (λ e. absurd (no_memory_fault e)) no_memory_row;
  }

  -- the same fate of an equal reading
  pub fate_of_same : (before now : ℕ) (s : W × Option W) (one other : Reading C) (printed : List ℕ) → one ≡ other → HasReadingFate next reply entry_of reply_text stands s one before now printed → HasReadingFate next reply entry_of reply_text stands s other before now printed
  fate_of_same before now s one other printed same fate = subst (λ (r : Reading C). HasReadingFate next reply entry_of reply_text stands s r before now printed) same fate

  -- a line that isn't too long is read
  short_reading : (reading_of : List ℕ → Reading C) (line : List ℕ) (b : Bool) → b ≡ false → (if b then Refused too_long_text else reading_of line) ≡ reading_of line
  short_reading reading_of line b is = ap (λ (x : Bool). if x then Refused too_long_text else reading_of line) is

  pub short_fate : (reading_of : List ℕ → Reading C) (before now : ℕ) (s : W × Option W) (line over printed : List ℕ) → line ≡ over → length over ≤ 2 ^ 24 → HasReadingFate next reply entry_of reply_text stands s (reading_of line) before now printed → HasReadingFate next reply entry_of reply_text stands s (line_reading reading_of over) before now printed
  short_fate reading_of before now s line over printed same short fate =
      let test : nat_lt (2 ^ 24) (length over) ≡ false = grind (arith, nat_tests) in
      fate_of_same before now s (reading_of line) (line_reading reading_of over) printed (ap reading_of same ∙ sym (short_reading reading_of over (nat_lt (2 ^ 24) (length over)) test)) fate

  -- a line that is too long isn't
  long_reading : (reading_of : List ℕ → Reading C) (line : List ℕ) (b : Bool) → b ≡ true → (if b then Refused too_long_text else reading_of line) ≡ Refused too_long_text
  long_reading reading_of line b is = ap (λ (x : Bool). if x then Refused too_long_text else reading_of line) is

  pub long_fate : (reading_of : List ℕ → Reading C) (before now : ℕ) (w : W) (more : Option W) (over printed : List ℕ) → 2 ^ 24 < length over → before ≤ now → stands w more → printed ≡ too_long_text → HasReadingFate next reply entry_of reply_text stands (w, more) (line_reading reading_of over) before now printed
  long_fate reading_of before now w more over printed long later holds is =
      let test : nat_lt (2 ^ 24) (length over) ≡ true = grind (arith, nat_tests) in
      fate_of_same before now (w, more) (Refused too_long_text) (line_reading reading_of over) printed (sym (long_reading reading_of over (nat_lt (2 ^ 24) (length over)) test)) (refusal_fate before now w more too_long_text printed later holds is)

  -- a line whose text was written, all of it or a front
  pub served : {T F : Type 0} (reading_of : List ℕ → Reading C) (before now : ℕ) (s : W × Option W) (line printed shown : List ℕ) (was out : Option (List ℕ)) (result : Result T F) → shown ≡ printed
      → HasReadingFate next reply entry_of reply_text stands s (line_reading reading_of line) before now printed
      → ((k : ℕ) × (out ≡ option_map (λ held. held ++ take k shown) was)) → OnOk result (out ≡ option_map (λ held. held ++ shown) was)
      → AnswersLine (text_of_line reply reading_of reply_text) (line_state next entry_of reading_of) stands s line was out before now (is_ok result)
  served reading_of before now s line printed shown was out result same fate part whole =
      let text : shown ≡ text_of_line reply reading_of reply_text s fate.fate line = same ∙ fate.text_is in
      record {
        fate = fate.fate;
        holds = fate.holds;
        causes = fate.causes;
        cut = part.0;
        output = part.1 ∙ ap (λ (l : List ℕ). option_map (λ held. held ++ take part.0 l) was) text;
        whole = λ ok. at_ok result ok whole ∙ ap (λ (l : List ℕ). option_map (λ held. held ++ l) was) text;
      }
