-- Numbers that are counted subscription by subscription, over the flat list of marks.
use Rattle.std.proofs.Common.{◌≡◌, ◌+◌, ℕ, Bool, true, List, [], ◌∷◌, ◌++◌, length, map, refl, ap, ◌∙◌, arith, if◌then◌else◌}
use Rattle.std.specs.List.{AllByRecursion}
use Rattle.ps_model.specs.declared.mark.Mark.{Mark}
use Rattle.ps_model.specs.declared.mark.Slot.{Slot}
use Rattle.ps_model.specs.declared.world.MarkRow.{MarkRow}
use Rattle.ps_model.specs.Lists.{tally}
use Rattle.ps_model.specs.Worlds.{row_of}
use Rattle.ps_tables.specs.declared.kept_subscription.KeptSubscription.{KeptSubscription}
use Rattle.ps_core.specs.State.{flat_marks}
use Rattle.ps_core.specs.Stats.{capped}

-- how many marks of a subscription pass the test
abbrev pub marks_of : (Mark → Bool) → KeptSubscription → ℕ
marks_of test x = tally (λ (s : Slot). test s.mark) x.sub.slots

-- how many marks of these subscriptions do
abbrev pub marks_in : (Mark → Bool) → List KeptSubscription → ℕ
marks_in test subscriptions = tally (λ (r : MarkRow). test r.mark) (flat_marks subscriptions)

-- a row has the mark of its slot
tally-rows : (test : Mark → Bool) (n : ℕ) (ss : List Slot) (rest : List MarkRow) → tally (λ (r : MarkRow). test r.mark) (map (row_of n) ss ++ rest) ≡ tally (λ (s : Slot). test s.mark) ss + tally (λ (r : MarkRow). test r.mark) rest
tally-rows test n [] rest = omega arith
tally-rows test n (s ∷ ss) rest = omega (arith, tally-rows test n ss rest)

-- what was counted so far, and what is left to count, make the sum over all subscriptions
pub record IsCountedSoFar (test : Mark → Bool) (counted : ℕ) (left subscriptions : List KeptSubscription) : Type 0 where
  pub sum : capped (counted + marks_in test left) ≡ capped (marks_in test subscriptions)
  pub small : counted ≡ capped counted

pub none_counted : (test : Mark → Bool) (subscriptions : List KeptSubscription) → IsCountedSoFar test 0 subscriptions subscriptions
none_counted test subscriptions = record { sum = omega arith; small = omega arith }

-- the first of what is left is counted
pub one_counted : (test : Mark → Bool) (x : KeptSubscription) (left rest subscriptions : List KeptSubscription) (counted one next : ℕ) → left ≡ x ∷ rest
    → IsCountedSoFar test counted left subscriptions → one ≡ marks_of test x → next ≡ capped (counted + one) → IsCountedSoFar test next rest subscriptions
one_counted test x left rest subscriptions counted one next is before here sum =
    let more : marks_in test left ≡ marks_of test x + marks_in test rest = ap (marks_in test) is ∙ tally-rows test x.number x.sub.slots (flat_marks rest) in
    record { sum = omega (arith, before.sum, more); small = omega arith }

-- nothing is left
pub all_counted : (test : Mark → Bool) (left subscriptions : List KeptSubscription) (counted : ℕ) → left ≡ [] → IsCountedSoFar test counted left subscriptions → counted ≡ capped (marks_in test subscriptions)
all_counted test left subscriptions counted is before =
    let none : marks_in test left ≡ 0 = ap (marks_in test) is in
    omega (arith, before.sum, before.small, none)

-- where each member passes the test, all are counted
pub tally_all : {A : Type 0} (test : A → Bool) (xs : List A) → AllByRecursion (λ (x : A). test x ≡ true) xs → tally test xs ≡ length xs
tally_all test [] h = refl
tally_all test (x ∷ xs) h = ap (λ (b : Bool). (if b then 1 else 0) + tally test xs) h.0 ∙ omega (arith, tally_all test xs h.1)
