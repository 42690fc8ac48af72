-- Messages of which a subscription lets go: which of them stay, and how many have them.
use Rattle.std.proofs.Common.{◌≡◌, ◌+◌, ◌-◌, ℕ, Bool, true, false, ◌||◌, nat_eq, nat_lt, List, [], ◌∷◌, Some, None, map, filter, refl, sym, ap, ◌∙◌, arith, if◌then◌else◌}
use Rattle.std.specs.List.{AllByRecursion, cons_option}
use Rattle.ps_model.specs.declared.world.MessageRow.{MessageRow}
use Rattle.ps_sub.specs.Showing.{has}
use Rattle.ps_tables.specs.declared.kept_subscription.KeptSubscription.{KeptSubscription}
use Rattle.ps_tables.specs.declared.tables.KeptMessage.{KeptMessage}
use Rattle.ps_tables.specs.Releasing.{released}
use Rattle.ps_tables.specs.Subscriptions.{is_had}
use Rattle.ps_core.specs.Keeping.{IsCounted, the_message}
use Rattle.ps_tables.specs.Members.{holders_of}

-- a message is had if some subscription holds it
had-counted : (xs : List KeptSubscription) (n : ℕ) → is_had xs n ≡ nat_lt 0 (holders_of xs n)
had-counted [] n = refl
had-counted (x ∷ xs) n = by (has x.sub.slots n) (had-counted xs n)
  where
    more : (k : ℕ) → true ≡ nat_lt 0 (1 + k)
    more k = grind arith

    none : (k : ℕ) → nat_lt 0 k ≡ nat_lt 0 (0 + k)
    none k = grind arith

    by : (b : Bool) → is_had xs n ≡ nat_lt 0 (holders_of xs n) → (b || is_had xs n) ≡ nat_lt 0 ((if b then 1 else 0) + holders_of xs n)
    by true rest = more (holders_of xs n)
    by false rest = rest ∙ none (holders_of xs n)

-- of messages that some subscription has, those stay that one still has, and are counted
module _ (less : ℕ → ℕ) (xs ys : List KeptSubscription) (fewer : (n : ℕ) → holders_of ys n + less n ≡ holders_of xs n) where
  test-is : (m : KeptMessage) → m.holders ≡ holders_of xs m.row.number → is_had xs m.row.number ≡ true → (nat_eq (less m.row.number) 0 || nat_lt (less m.row.number) m.holders) ≡ is_had ys m.row.number
  test-is m count had =
      let n = m.row.number in
      let some : nat_lt 0 (holders_of xs n) ≡ true = sym (had-counted xs n) ∙ had in
      plain (less n) m.holders (holders_of xs n) (holders_of ys n) (fewer n) count some ∙ sym (had-counted ys n)
    where
      plain : (l h a b : ℕ) → b + l ≡ a → h ≡ a → nat_lt 0 a ≡ true → (nat_eq l 0 || nat_lt l h) ≡ nat_lt 0 b
      plain l h a b e count some = grind (arith, e, count, some)

  pub rows-left : (ms : List KeptMessage) → AllByRecursion (IsCounted xs) ms → AllByRecursion (λ (m : KeptMessage). is_had xs m.row.number ≡ true) ms
      → map the_message (released less ms) ≡ filter (λ (r : MessageRow). is_had ys r.number) (map the_message ms)
  rows-left [] counted had = refl
  rows-left (m ∷ ms) counted had = by (is_had ys m.row.number) (test-is m counted.0 had.0) refl (rows-left ms counted.1 had.1)
    where
      by : (b : Bool) → (nat_eq (less m.row.number) 0 || nat_lt (less m.row.number) m.holders) ≡ is_had ys m.row.number → is_had ys m.row.number ≡ b → map the_message (released less ms) ≡ filter (λ (r : MessageRow). is_had ys r.number) (map the_message ms)
          → map the_message (released less (m ∷ ms)) ≡ filter (λ (r : MessageRow). is_had ys r.number) (map the_message (m ∷ ms))
      by true test is rest = rw (test, is) (ap (λ rs. m.row ∷ rs) rest)
      by false test is rest = rw (test, is) rest

  pub counted-left : (ms : List KeptMessage) → AllByRecursion (IsCounted xs) ms → AllByRecursion (IsCounted ys) (released less ms)
  counted-left [] counted = tt
  counted-left (m ∷ ms) counted = by (nat_eq (less m.row.number) 0 || nat_lt (less m.row.number) m.holders) (counted-left ms counted.1)
    where
      fits : m.holders - less m.row.number ≡ holders_of ys m.row.number
      fits = let e = fewer m.row.number in let is = counted.0 in omega (arith, e, is)

      by : (b : Bool) → AllByRecursion (IsCounted ys) (released less ms) → AllByRecursion (IsCounted ys) (cons_option (if b then Some (record m { holders = m.holders - less m.row.number }) else None) (released less ms))
      by true rest = (fits, rest)
      by false rest = rest
