-- How often messages are named that a subscription lets go, and how many have them afterwards.
use Rattle.std.proofs.Common.{◌≡◌, ◌≢◌, ◌<◌, ◌+◌, ℕ, Bool, true, false, ◌||◌, not, cond, nat_eq, List, [], ◌∷◌, Some, find, filter, refl, sym, ap, ◌∙◌, subst, arith, if◌then◌else◌}
use Rattle.std.specs.List.{AllByRecursion}
use Rattle.std.proofs.lemmas.Bool.{ne_eqb, eqb-true}
use Rattle.ps_model.specs.declared.mark.Slot.{Slot}
use Rattle.ps_model.specs.Sound.{Ordered}
use Rattle.ps_sub.specs.Showing.{has, marks}
use Rattle.ps_tables.specs.declared.kept_subscription.KeptSubscription.{KeptSubscription}
use Rattle.ps_tables.specs.Numbers.{changed_at}
use Rattle.ps_tables.specs.Releasing.{times}
use Rattle.ps_tables.specs.Subscriptions.{detach_subscription, number_of}
use Rattle.ps_tables.specs.Members.{holders_of}

zero : (k : ℕ) → 0 + k ≡ k
zero k = grind arith

times-above : (n : ℕ) (slots : List Slot) → AllByRecursion (λ (z : Slot). n < z.item.number) slots → times (marks slots) n ≡ 0
times-above n [] h = refl
times-above n (z ∷ zs) h =
    let ne : z.item.number ≢ n = let up = h.0 in omega (arith, up) in
    λ i. (if ne_eqb z.item.number n ne i then 1 else 0) + times-above n zs h.1 i

-- a subscription names each of its messages once
pub times-once : (n : ℕ) (slots : List Slot) → Ordered (λ (a b : Slot). a.item.number < b.item.number) slots → times (marks slots) n ≡ (if has slots n then 1 else 0)
times-once n [] h = refl
times-once n (z ∷ zs) h = by (nat_eq z.item.number n) refl (times-once n zs h.1)
  where
    by : (b : Bool) → nat_eq z.item.number n ≡ b → times (marks zs) n ≡ (if has zs n then 1 else 0) → (if b then 1 else 0) + times (marks zs) n ≡ (if b || has zs n then 1 else 0)
    by true e rest = ap (λ k. 1 + k) (times-above n zs (subst (λ k. AllByRecursion (λ (y : Slot). k < y.item.number) zs) (eqb-true z.item.number n e) h.0))
    by false e rest = zero (times (marks zs) n) ∙ rest

-- ---- how many have a message without this subscription

plus : (a b c d : ℕ) → b + c ≡ d → (a + b) + c ≡ a + d
plus a b c d e = omega (arith, e)

swap : (a b : ℕ) → a + b ≡ b + a
swap a b = grind arith

module _ (x : KeptSubscription) (n : ℕ) where
  abbrev own : ℕ
  own = if has x.sub.slots n then 1 else 0

  abbrev Is : KeptSubscription → Type 0
  Is y = nat_eq y.number x.number ≡ true → y ≡ x

  others : (ys : List KeptSubscription) → AllByRecursion (λ (y : KeptSubscription). x.number < y.number) ys → holders_of (filter (λ (y : KeptSubscription). not (nat_eq y.number x.number)) ys) n ≡ holders_of ys n
  others [] h = refl
  others (y ∷ ys) h =
      let ne : y.number ≢ x.number = let up = h.0 in omega (arith, up) in
      rw (ne_eqb y.number x.number ne) (ap (λ k. (if has y.sub.slots n then 1 else 0) + k) (others ys h.1))

  detached-others : (ys : List KeptSubscription) → AllByRecursion (λ (y : KeptSubscription). x.number < y.number) ys → holders_of (changed_at number_of x.number detach_subscription ys) n ≡ holders_of ys n
  detached-others [] h = refl
  detached-others (y ∷ ys) h =
      let ne : y.number ≢ x.number = let up = h.0 in omega (arith, up) in
      λ i. (if has (if ne_eqb y.number x.number ne i then detach_subscription y else y).sub.slots n then 1 else 0) + detached-others ys h.1 i

  -- it goes
  pub holders-dropped : (ys : List KeptSubscription) → Ordered (λ (a b : KeptSubscription). a.number < b.number) ys → AllByRecursion Is ys → find (λ (y : KeptSubscription). nat_eq y.number x.number) ys ≡ Some x
      → holders_of (filter (λ (y : KeptSubscription). not (nat_eq y.number x.number)) ys) n + (if has x.sub.slots n then 1 else 0) ≡ holders_of ys n
  holders-dropped [] o alone is = absurd (cc (is))
  holders-dropped (y ∷ ys) o alone is = by (nat_eq y.number x.number) refl (holders-dropped ys o.1 alone.1)
    where
      test : KeptSubscription → Bool
      test z = not (nat_eq z.number x.number)

      by : (b : Bool) → nat_eq y.number x.number ≡ b → (find (λ (z : KeptSubscription). nat_eq z.number x.number) ys ≡ Some x → holders_of (filter test ys) n + own ≡ holders_of ys n)
          → holders_of (filter test (y ∷ ys)) n + own ≡ holders_of (y ∷ ys) n
      by true e rest =
          let same : y ≡ x = alone.0 e in
          ap (λ (b : Bool). holders_of (cond (not b) (y ∷ filter test ys) (filter test ys)) n + own) e
          ∙ ap (λ k. k + own) (others ys (subst (λ (z : KeptSubscription). AllByRecursion (λ (y : KeptSubscription). z.number < y.number) ys) same o.0))
          ∙ swap (holders_of ys n) own
          ∙ ap (λ (z : KeptSubscription). (if has z.sub.slots n then 1 else 0) + holders_of ys n) (sym same)
      by false e rest =
          ap (λ (b : Bool). holders_of (cond (not b) (y ∷ filter test ys) (filter test ys)) n + own) e
          ∙ plus (if has y.sub.slots n then 1 else 0) (holders_of (filter test ys) n) own (holders_of ys n) (rest (sym (ap (λ (b : Bool). cond b (Some y) (find (λ (z : KeptSubscription). nat_eq z.number x.number) ys)) e) ∙ is))

  -- it stays, and has nothing
  pub holders-detached : (ys : List KeptSubscription) → Ordered (λ (a b : KeptSubscription). a.number < b.number) ys → AllByRecursion Is ys → find (λ (y : KeptSubscription). nat_eq y.number x.number) ys ≡ Some x
      → holders_of (changed_at number_of x.number detach_subscription ys) n + (if has x.sub.slots n then 1 else 0) ≡ holders_of ys n
  holders-detached [] o alone is = absurd (cc (is))
  holders-detached (y ∷ ys) o alone is = by (nat_eq y.number x.number) refl (holders-detached ys o.1 alone.1)
    where
      news : List KeptSubscription
      news = changed_at number_of x.number detach_subscription ys

      by : (b : Bool) → nat_eq y.number x.number ≡ b → (find (λ (z : KeptSubscription). nat_eq z.number x.number) ys ≡ Some x → holders_of news n + own ≡ holders_of ys n)
          → holders_of ((if nat_eq y.number x.number then detach_subscription y else y) ∷ news) n + own ≡ holders_of (y ∷ ys) n
      by true e rest =
          let same : y ≡ x = alone.0 e in
          ap (λ (b : Bool). holders_of ((if b then detach_subscription y else y) ∷ news) n + own) e
          ∙ ap (λ k. k + own) (zero (holders_of news n)) ∙ ap (λ k. k + own) (detached-others ys (subst (λ (z : KeptSubscription). AllByRecursion (λ (y : KeptSubscription). z.number < y.number) ys) same o.0))
          ∙ swap (holders_of ys n) own
          ∙ ap (λ (z : KeptSubscription). (if has z.sub.slots n then 1 else 0) + holders_of ys n) (sym same)
      by false e rest =
          ap (λ (b : Bool). holders_of ((if b then detach_subscription y else y) ∷ news) n + own) e
          ∙ plus (if has y.sub.slots n then 1 else 0) (holders_of news n) own (holders_of ys n) (rest (sym (ap (λ (b : Bool). cond b (Some y) (find (λ (z : KeptSubscription). nat_eq z.number x.number) ys)) e) ∙ is))
