-- What was read from a connection and written to it, part by part.
use Rattle.std.proofs.Common.{◌≡◌, ℕ, suc, ◌+◌, List, [], ◌∷◌, ◌++◌, take, length, Option, Some, Bool, true, false, not, ◌&&◌, refl, sym, ap, subst, ◌∙◌, arith}
use Rattle.std.specs.Prelude.{Result, Ok, IfSome, IsTrue}
use Rattle.std.proofs.lemmas.List.{append-nil}
use Rattle.std.proofs.Math.Seq.{take-nil}
use Rattle.ps_edge.specs.declared.edge.Failed.{Failed}
use Rattle.ps_edge.specs.declared.link.Link as link
use Rattle.ps_http.specs.Exchanges.{Passes, Sends, continue_text}
use Rattle.ps_http.proofs.ReadingLemmas.{joined, left_on}
use Rattle.ps_server.specs.Serving.{IsFront}

module _ {S : Type 0} (l : link.Ghosts S) where
  pub passes_then : (was mid now : S) (one two first second : List ℕ) → Passes l was mid one first → Passes l mid now two second → Passes l was now (one ++ two) (first ++ second)
  passes_then was mid now one two first second before after = record {
    received = joined (l.received was) (l.received mid) (l.received now) one two before.received after.received;
    left = left_on (l.left was) (l.left mid) (l.left now) one two before.left after.left;
    holds = joined (l.holds was) (l.holds mid) (l.holds now) first second before.holds after.holds;
    faults = omega (arith, before.faults, after.faults);
    waits = omega (arith, before.waits, after.waits);
  }

  -- what is sent is written after what was written before
  pub passes_sent : (was mid now : S) (read text more : List ℕ) → Passes l was mid read text → Sends l mid now more (Ok tt) → Passes l was now read (text ++ more)
  passes_sent was mid now read text more before sends = record {
    received = sends.received ∙ before.received;
    left = subst (λ (o : Option (List ℕ)). IfSome (l.left was) (λ all. (rest : List ℕ) × (o ≡ Some rest) × (all ≡ read ++ rest))) (sym sends.left) before.left;
    holds = joined (l.holds was) (l.holds mid) (l.holds now) text more before.holds sends.whole;
    faults = omega (arith, before.faults, sends.faults);
    waits = omega (arith, before.waits, sends.waits);
  }

  -- or a front of it
  pub passes_cut : (was mid now : S) (read text more : List ℕ) (result : Result (Unit {0}) Failed) → Passes l was mid read text → (sends : Sends l mid now more result) → Passes l was now read (text ++ take sends.part.0 more)
  passes_cut was mid now read text more result before sends = record {
    received = sends.received ∙ before.received;
    left = subst (λ (o : Option (List ℕ)). IfSome (l.left was) (λ all. (rest : List ℕ) × (o ≡ Some rest) × (all ≡ read ++ rest))) (sym sends.left) before.left;
    holds = joined (l.holds was) (l.holds mid) (l.holds now) text (take sends.part.0 more) before.holds sends.part.1;
    faults = omega (arith, before.faults, sends.faults);
    waits = omega (arith, before.waits, sends.waits);
  }

  -- another text that is the same
  pub passes_as : (was now : S) (read text other : List ℕ) → text ≡ other → Passes l was now read text → Passes l was now read other
  passes_as was now read text other same passes = subst (λ (t : List ℕ). Passes l was now read t) same passes

-- the answer 100 is written once: before this exchange, or in it if it is due
pub once : (continued due : Bool) → (IsTrue continued → due ≡ true) → continue_text continued ++ continue_text (due && not continued) ≡ continue_text due
once true true is = append-nil (continue_text true)
once true false is = absurd (no (is refl))
  where
    no : false ≡ true → ⊥
    no e = cc
once false true is = refl
once false false is = refl

take_front : (text more : List ℕ) → take (length text) (text ++ more) ≡ text
take_front [] more = refl
take_front (b ∷ text) more = ap (λ (l : List ℕ). b ∷ l) (take_front text more)

take_after : (text more : List ℕ) (cut : ℕ) → take (length text + cut) (text ++ more) ≡ text ++ take cut more
take_after [] more cut = let same : length {A = ℕ} [] + cut ≡ cut = omega arith in ap (λ (n : ℕ). take n more) same
take_after (b ∷ text) more cut =
    let same : length (b ∷ text) + cut ≡ suc (length text + cut) = omega arith in
    ap (λ (n : ℕ). take n (b ∷ (text ++ more))) same ∙ ap (λ (l : List ℕ). b ∷ l) (take_after text more cut)

-- a text is a front of itself with more behind it, and of itself
pub front_of : (text more : List ℕ) → IsFront text (text ++ more)
front_of text more = (length text, sym (take_front text more))

pub front_whole : (text : List ℕ) → IsFront text text
front_whole text = (length text, sym (take_front text []) ∙ ap (take (length text)) (append-nil text))

-- a text with a front of what follows
pub front_cut : (text more whole : List ℕ) → IsFront more whole → IsFront (text ++ more) (text ++ whole)
front_cut text more whole is = (length text + is.0, ap (λ (l : List ℕ). text ++ l) is.1 ∙ sym (take_after text whole is.0))

-- the answer 100, or a front of it
pub once_cut : (continued due : Bool) (cut : ℕ) → (IsTrue continued → due ≡ true) → IsFront (continue_text continued ++ take cut (continue_text (due && not continued))) (continue_text due)
once_cut true true cut is = subst (λ (l : List ℕ). IsFront (continue_text true ++ l) (continue_text true)) (sym (take-nil cut)) (subst (λ (l : List ℕ). IsFront l (continue_text true)) (sym (append-nil (continue_text true))) (front_whole (continue_text true)))
once_cut true false cut is = absurd (no (is refl))
  where
    no : false ≡ true → ⊥
    no e = cc
once_cut false true cut is = (cut, refl)
once_cut false false cut is = (cut, refl)
