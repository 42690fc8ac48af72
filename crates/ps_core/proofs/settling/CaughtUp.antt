-- What is ahead of an earlier unacknowledged message stays so.
use Rattle.std.proofs.Common.{◌≡◌, Bool, true, false, ◌&&◌, ◌||◌, List, [], ◌∷◌, ◌++◌, if◌then◌else◌, refl, sym, ap, subst, ◌∙◌}
use Rattle.std.specs.List.{AllByRecursion, list_any}
use Rattle.std.proofs.lemmas.Bool.{false≢true, or_left, or_right, cond_both}
use Rattle.std.proofs.lemmas.List.Folds.{list_any-append}
use Rattle.ps_base.proofs.Lists.{each-append, each-then}
use Rattle.ps_model.specs.declared.mark.Mark.{Mark}
use Rattle.ps_model.specs.declared.mark.Mark.TheVariants.{Backlog, Leased, Ahead, Done, Gone}
use Rattle.ps_model.specs.declared.mark.Slot.{Slot}
use Rattle.ps_model.specs.Retention.{caught_up_as, caught_up_mark}
use Rattle.ps_model.specs.Slots.{any_earlier, is_ahead, is_earlier, is_unacked, remark, remarked}
use Rattle.ps_core.specs.Steady.{IsCaughtUp}

abbrev waits : Slot → Bool
waits e = is_unacked e.mark

abbrev IsBehind : Bool → List Slot → Slot → Type 0
IsBehind ordering all s = is_ahead s.mark ≡ true → any_earlier ordering (λ (e : Slot). is_unacked e.mark) all s ≡ true

-- ---- rules that acknowledge nothing

module _ (ordering : Bool) (rule : Slot → Mark) (keeps : (s : Slot) → is_unacked s.mark ≡ true → is_unacked (rule s) ≡ true) (few : (s : Slot) → is_ahead (rule s) ≡ true → is_ahead s.mark ≡ true) where
  still-behind : (all : List Slot) (s : Slot) (mark : Mark) → any_earlier ordering (λ (e : Slot). is_unacked e.mark) all s ≡ true → any_earlier ordering (λ (e : Slot). is_unacked e.mark) (remarked rule all) (remark s mark) ≡ true
  still-behind [] s mark h = absurd (false≢true h)
  still-behind (e ∷ es) s mark h = by (is_earlier ordering e s) (is_unacked e.mark) refl h (still-behind es s mark)
    where
      rest : Bool
      rest = any_earlier ordering (λ (e : Slot). is_unacked e.mark) es s

      later : Bool
      later = any_earlier ordering (λ (e : Slot). is_unacked e.mark) (remarked rule es) (remark s mark)

      by : (earlier unacked : Bool) → is_unacked e.mark ≡ unacked → ((earlier && unacked) || rest) ≡ true → (rest ≡ true → later ≡ true) → ((earlier && is_unacked (rule e)) || later) ≡ true
      by true true is h more = ap (λ (b : Bool). b || later) (keeps e is)
      by true false is h more = or_right (is_unacked (rule e)) later (more h)
      by false unacked is h more = more h

  all-behind : (all slots : List Slot) → AllByRecursion (IsBehind ordering all) slots → AllByRecursion (IsBehind ordering (remarked rule all)) (remarked rule slots)
  all-behind all [] h = tt
  all-behind all (s ∷ ss) h = ((λ ahead. still-behind all s (rule s) (h.0 (few s ahead))), all-behind all ss h.1)

  pub caught_up-kept : (slots : List Slot) → IsCaughtUp ordering slots → IsCaughtUp ordering (remarked rule slots)
  caught_up-kept slots h = all-behind slots slots h

-- ---- new messages

more-behind : (ordering : Bool) (slots new : List Slot) (s : Slot) → any_earlier ordering (λ (e : Slot). is_unacked e.mark) slots s ≡ true → any_earlier ordering (λ (e : Slot). is_unacked e.mark) (slots ++ new) s ≡ true
more-behind ordering slots new s h = list_any-append (λ (e : Slot). is_earlier ordering e s && is_unacked e.mark) slots new ∙ or_left _ _ h

pub caught_up-more : (ordering : Bool) (slots new : List Slot) → IsCaughtUp ordering slots → AllByRecursion (λ (s : Slot). is_ahead s.mark ≡ false) new → IsCaughtUp ordering (slots ++ new)
caught_up-more ordering slots new h none =
    each-append (IsBehind ordering (slots ++ new)) slots new
    (each-then (IsBehind ordering slots) (IsBehind ordering (slots ++ new)) slots (λ s behind ahead. more-behind ordering slots new s (behind ahead)) h)
    (each-then (λ (s : Slot). is_ahead s.mark ≡ false) (IsBehind ordering (slots ++ new)) new (λ s other ahead. absurd (false≢true (sym other ∙ ahead))) none)

pub none-ahead : (ordering : Bool) (slots : List Slot) → AllByRecursion (λ (s : Slot). is_ahead s.mark ≡ false) slots → IsCaughtUp ordering slots
none-ahead ordering slots none = each-then (λ (s : Slot). is_ahead s.mark ≡ false) (IsBehind ordering slots) slots (λ s other ahead. absurd (false≢true (sym other ∙ ahead))) none

-- ---- catching up

ahead-only : (m : Mark) → is_ahead m ≡ false → caught_up_as m ≡ m
ahead-only (Backlog failures until last) h = refl
ahead-only (Leased failures lease deadline) h = refl
ahead-only (Ahead failures) h = absurd (false≢true (sym h))
ahead-only (Done cause) h = refl
ahead-only (Gone cause) h = refl

one-rests : (ordering : Bool) (all : List Slot) (s : Slot) → IsBehind ordering all s → caught_up_mark ordering all s ≡ s.mark
one-rests ordering all s h = by (is_ahead s.mark) refl
  where
    by : (ahead : Bool) → is_ahead s.mark ≡ ahead → (if any_earlier ordering (λ (e : Slot). is_unacked e.mark) all s then s.mark else caught_up_as s.mark) ≡ s.mark
    by true is = ap (λ (b : Bool). if b then s.mark else caught_up_as s.mark) (h is)
    by false is = cond_both (any_earlier ordering (λ (e : Slot). is_unacked e.mark) all s) s.mark (caught_up_as s.mark) (λ (m : Mark). m ≡ s.mark) (λ _. refl) (λ _. ahead-only s.mark is)

all-rest : (ordering : Bool) (all slots : List Slot) → AllByRecursion (IsBehind ordering all) slots → remarked (caught_up_mark ordering all) slots ≡ slots
all-rest ordering all [] h = refl
all-rest ordering all (s ∷ ss) h = λ i. remark s (one-rests ordering all s h.0 i) ∷ all-rest ordering all ss h.1 i

-- where all have caught up, nothing catches up
pub caught_up-rests : (ordering : Bool) (slots : List Slot) → IsCaughtUp ordering slots → remarked (caught_up_mark ordering slots) slots ≡ slots
caught_up-rests ordering slots h = all-rest ordering slots slots h

unacked-same : (m : Mark) → is_unacked (caught_up_as m) ≡ is_unacked m
unacked-same (Backlog failures until last) = refl
unacked-same (Leased failures lease deadline) = refl
unacked-same (Ahead failures) = refl
unacked-same (Done cause) = refl
unacked-same (Gone cause) = refl

ahead-none : (m : Mark) → is_ahead (caught_up_as m) ≡ false
ahead-none (Backlog failures until last) = refl
ahead-none (Leased failures lease deadline) = refl
ahead-none (Ahead failures) = refl
ahead-none (Done cause) = refl
ahead-none (Gone cause) = refl

pub unacked-caught : (ordering : Bool) (all : List Slot) (s : Slot) → is_unacked (caught_up_mark ordering all s) ≡ is_unacked s.mark
unacked-caught ordering all s =
    cond_both (any_earlier ordering (λ (e : Slot). is_unacked e.mark) all s) s.mark (caught_up_as s.mark) (λ (m : Mark). is_unacked m ≡ is_unacked s.mark) (λ _. refl) (λ _. unacked-same s.mark)

behind-caught : (ordering : Bool) (all es : List Slot) (s : Slot) (mark : Mark)
    → any_earlier ordering (λ (e : Slot). is_unacked e.mark) (remarked (caught_up_mark ordering all) es) (remark s mark) ≡ any_earlier ordering (λ (e : Slot). is_unacked e.mark) es s
behind-caught ordering all [] s mark = refl
behind-caught ordering all (e ∷ es) s mark = λ i. (is_earlier ordering e s && unacked-caught ordering all e i) || behind-caught ordering all es s mark i

one-caught : (ordering : Bool) (all : List Slot) (s : Slot) → IsBehind ordering (remarked (caught_up_mark ordering all) all) (remark s (caught_up_mark ordering all s))
one-caught ordering all s = λ ahead. behind-caught ordering all all s (caught_up_mark ordering all s) ∙ by (any_earlier ordering (λ (e : Slot). is_unacked e.mark) all s) refl ahead
  where
    by : (b : Bool) → any_earlier ordering (λ (e : Slot). is_unacked e.mark) all s ≡ b → is_ahead (caught_up_mark ordering all s) ≡ true → any_earlier ordering (λ (e : Slot). is_unacked e.mark) all s ≡ true
    by true is ahead = is
    by false is ahead = absurd (false≢true (sym (ap (λ (b : Bool). is_ahead (if b then s.mark else caught_up_as s.mark)) is ∙ ahead-none s.mark) ∙ ahead))

all-caught : (ordering : Bool) (all slots : List Slot) → AllByRecursion (IsBehind ordering (remarked (caught_up_mark ordering all) all)) (remarked (caught_up_mark ordering all) slots)
all-caught ordering all [] = tt
all-caught ordering all (s ∷ ss) = (one-caught ordering all s, all-caught ordering all ss)

-- after catching up all have caught up
pub caught_up-after : (ordering : Bool) (slots : List Slot) → IsCaughtUp ordering (remarked (caught_up_mark ordering slots) slots)
caught_up-after ordering slots = all-caught ordering slots slots
