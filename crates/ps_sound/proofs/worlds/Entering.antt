-- What new rows keep of the marks: their order, facts of each, and how many pass a test.
use Rattle.std.proofs.Common.{◌≡◌, ◌+◌, ◌<◌, ◌≤◌, ◌⊎◌, Bool, false, nat_lt, List, [], ◌∷◌, refl, ◌∙◌, ap, arith, inl, inr}
use Rattle.std.specs.List.{AllByRecursion}
use Rattle.std.proofs.lemmas.Bool.{ltb-true, ltb-false, cond_both, cases_eq}
use Rattle.ps_model.specs.declared.world.MarkRow.{MarkRow}
use Rattle.ps_model.specs.Lists.{tally}
use Rattle.ps_model.specs.Forwarding.{enter, enter_all}
use Rattle.ps_model.specs.Sound.{Ordered, Precedes}
use Rattle.ps_base.proofs.Lists.{each-then, each-both}
use Rattle.ps_sound.proofs.worlds.Counts.{one}

-- on its subscription the first is before the second
abbrev pub IsBefore : MarkRow → MarkRow → Type 0
IsBefore x r = x.sub ≡ r.sub → x.message < r.message

-- the row is behind those of its subscription
abbrev pub IsLast : List MarkRow → MarkRow → Type 0
IsLast xs r = AllByRecursion (λ x. IsBefore x r) xs

pub each-enter : (P : MarkRow → Type 0) (r : MarkRow) (xs : List MarkRow) → P r → AllByRecursion P xs → AllByRecursion P (enter r xs)
each-enter P r [] p h = (p, tt)
each-enter P r (x ∷ xs) p h = cond_both (nat_lt r.sub x.sub) (r ∷ (x ∷ xs)) (x ∷ enter r xs) (AllByRecursion P) (λ _. (p, h)) (λ _. (h.0, each-enter P r xs p h.1))

pub each-enter_all : (P : MarkRow → Type 0) (rs xs : List MarkRow) → AllByRecursion P rs → AllByRecursion P xs → AllByRecursion P (enter_all rs xs)
each-enter_all P [] xs k h = h
each-enter_all P (r ∷ rs) xs k h = each-enter_all P rs (enter r xs) k.1 (each-enter P r xs k.0 h)

precedes-later : (r x : MarkRow) (xs : List MarkRow) → r.sub < x.sub → AllByRecursion (Precedes x) xs → AllByRecursion (Precedes r) xs
precedes-later r x [] e h = tt
precedes-later r x (y ∷ xs) e h = (inl (up h.0), precedes-later r x xs e h.1)
  where
    up : Precedes x y → r.sub < y.sub
    up (inl p) = omega arith
    up (inr p) = omega arith

behind : (r x : MarkRow) → x.sub ≤ r.sub → IsBefore x r → Precedes x r
behind r x e last = cases (cases_eq x.sub r.sub)
  where
    cases : (x.sub ≡ r.sub) ⊎ (x.sub ≡ r.sub → ⊥) → Precedes x r
    cases (inl same) = inr (same, last same)
    cases (inr other) = inl (omega arith)

pub enter-ordered : (r : MarkRow) (xs : List MarkRow) → IsLast xs r → Ordered Precedes xs → Ordered Precedes (enter r xs)
enter-ordered r [] last h = (tt, tt)
enter-ordered r (x ∷ xs) last h =
    cond_both (nat_lt r.sub x.sub) (r ∷ (x ∷ xs)) (x ∷ enter r xs) (Ordered Precedes)
    (λ e. ((inl (ltb-true r.sub x.sub e), precedes-later r x xs (ltb-true r.sub x.sub e) h.0), h))
    (λ e. (each-enter (Precedes x) r xs (behind r x (ltb-false r.sub x.sub e) last.0) h.0, enter-ordered r xs last.1 h.1))

-- rows that stand in order on each subscription, behind all that there are
pub enter_all-ordered : (rs xs : List MarkRow) → Ordered IsBefore rs → AllByRecursion (IsLast xs) rs → Ordered Precedes xs → Ordered Precedes (enter_all rs xs)
enter_all-ordered [] xs o l h = h
enter_all-ordered (r ∷ rs) xs o l h =
    enter_all-ordered rs (enter r xs) o.1
    (each-then (λ q. IsBefore r q × IsLast xs q) (IsLast (enter r xs)) rs (λ q p. each-enter (λ x. IsBefore x q) r xs p.0 p.1) (each-both (IsBefore r) (IsLast xs) rs o.0 l.1))
    (enter-ordered r xs l.0 h)

tally-enter : (test : MarkRow → Bool) (r : MarkRow) (xs : List MarkRow) → test r ≡ false → tally test (enter r xs) ≡ tally test xs
tally-enter test r [] e = rw e refl
tally-enter test r (x ∷ xs) e =
    cond_both (nat_lt r.sub x.sub) (r ∷ (x ∷ xs)) (x ∷ enter r xs) (λ ys. tally test ys ≡ tally test (x ∷ xs)) (λ _. first) (λ _. ap (λ n. one (test x) + n) (tally-enter test r xs e))
  where
    first : tally test (r ∷ (x ∷ xs)) ≡ tally test (x ∷ xs)
    first = rw e (omega arith)

-- rows that fail the test don't count
pub tally-enter_all : (test : MarkRow → Bool) (rs xs : List MarkRow) → AllByRecursion (λ r. test r ≡ false) rs → tally test (enter_all rs xs) ≡ tally test xs
tally-enter_all test [] xs k = refl
tally-enter_all test (r ∷ rs) xs k = tally-enter_all test rs (enter r xs) k.1 ∙ tally-enter test r xs k.0
