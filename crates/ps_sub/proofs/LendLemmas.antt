-- Leases given out in the order of the slots.
use Rattle.std.proofs.Common.{ℕ, ◌==◌, zero, suc, length, get_or, set, take, drop, map, ◌≡◌, ◌≢◌, ◌<◌, ◌+◌, ◌-◌, Bool, true, false, nat_eq, ◌||◌, List, [], ◌∷◌, ◌++◌, filter, Option, Some, None, refl, sym, ◌∙◌, ap, subst, arith, if◌then◌else◌}
use Rattle.std.specs.List.{AllByRecursion}
use Rattle.std.proofs.lemmas.List.{drop_more, map-append, take-append-drop}
use Rattle.std.proofs.lemmas.List.Edits.{map_over_more}
use Rattle.std.proofs.lemmas.Bool.{false≢true, ne_eqb, eqb-true, eq-eqb}
use Rattle.ps_model.specs.declared.mark.Handed.{Handed}
use Rattle.ps_model.specs.declared.mark.Slot.{Slot}
use Rattle.ps_model.specs.Choice.{first_of_them, handed, lease_in, leased_as, lent_mark, lent}
use Rattle.ps_model.specs.Slots.{remark}
use Rattle.ps_sub.specs.Lending.{is_drawn, first_lease, left_after}
use Rattle.ps_sub.specs.Steady.{IsAscending}

pick : (b x y : Bool) → x ≡ true → y ≡ true → (if b then x else y) ≡ true
pick true x y hx hy = hx
pick false x y hx hy = hy

front : (b x y : Bool) → (if b then x else y) ≡ true → (y ≡ true → x ≡ true) → x ≡ true
front true x y h later = h
front false x y h later = later h

skip : (s : Slot) (ss : List Slot) → ((h : Handed) (hs : List Handed) → is_drawn (h ∷ hs) ss ≡ true → is_drawn hs ss ≡ true) → (hs : List Handed) → is_drawn hs ss ≡ true → is_drawn hs (s ∷ ss) ≡ true
skip s ss tail [] h = refl
skip s ss tail (x ∷ xs) h = pick (nat_eq x.number s.item.number) _ _ (tail x xs h) h

drawn-tail : (ss : List Slot) (h : Handed) (hs : List Handed) → is_drawn (h ∷ hs) ss ≡ true → is_drawn hs ss ≡ true
drawn-tail [] h hs e = absurd (false≢true e)
drawn-tail (s ∷ ss) h hs e = skip s ss (drawn-tail ss) hs (front (nat_eq h.number s.item.number) _ _ e (drawn-tail ss h hs))

-- a choice is handed out in the order of the slots
pub drawn-choice : (p : Slot → Bool) (lease most budget : ℕ) (slots : List Slot) → is_drawn (handed lease (first_of_them most budget (filter p slots))) slots ≡ true
drawn-choice p lease most budget [] = refl
drawn-choice p lease most budget (s ∷ ss) = by_test (p s) refl (drawn-choice p lease most budget ss) (drawn-choice p (lease + 1) (most - 1) (budget - s.item.size) ss)
  where
    none : (b : Bool) (xs : List Slot) → is_drawn (handed (lease + 1) xs) ss ≡ true → is_drawn (handed lease (if b then [] else s ∷ xs)) (s ∷ ss) ≡ true
    none true xs h = refl
    none false xs h = rw (eq-eqb s.item.number s.item.number refl) h

    by_test : (b : Bool) → p s ≡ b → is_drawn (handed lease (first_of_them most budget (filter p ss))) ss ≡ true
        → is_drawn (handed (lease + 1) (first_of_them (most - 1) (budget - s.item.size) (filter p ss))) ss ≡ true
        → is_drawn (handed lease (first_of_them most budget (filter p (s ∷ ss)))) (s ∷ ss) ≡ true
    by_test true e without with = rw e (none (nat_eq most 0 || nat_eq budget 0) _ with)
    by_test false e without with = rw e (skip s ss (drawn-tail ss) _ without)

ascending-drop : (i : ℕ) (slots : List Slot) → IsAscending slots → IsAscending (drop i slots)
ascending-drop zero slots h = h
ascending-drop (suc i) [] h = h
ascending-drop (suc i) (s ∷ ss) h = ascending-drop i ss h.1

read_over : (f : Slot → Slot) (xs : List Slot) (i : ℕ) (d : Slot) → i < length xs → get_or (map f (take i xs) ++ drop i xs) i d ≡ get_or xs i d
read_over f [] i d h = absurd (omega arith)
read_over f (x ∷ xs) zero d h = refl
read_over f (x ∷ xs) (suc i) d h = read_over f xs i d (omega arith)

-- what is drawn of later slots has no earlier number
drawn-later : (n : ℕ) (given : List Handed) (slots : List Slot) → is_drawn given slots ≡ true → AllByRecursion (λ (s : Slot). n < s.item.number) slots → lease_in given n ≡ None
drawn-later n [] slots e above = refl
drawn-later n (h ∷ hs) [] e above = absurd (false≢true e)
drawn-later n (h ∷ hs) (s ∷ ss) e above = by_test (nat_eq h.number s.item.number) refl e (drawn-later n hs ss) (drawn-later n (h ∷ hs) ss)
  where
    by_test : (b : Bool) → nat_eq h.number s.item.number ≡ b → (if b then is_drawn hs ss else is_drawn (h ∷ hs) ss) ≡ true
        → (is_drawn hs ss ≡ true → AllByRecursion (λ (x : Slot). n < x.item.number) ss → lease_in hs n ≡ None)
        → (is_drawn (h ∷ hs) ss ≡ true → AllByRecursion (λ (x : Slot). n < x.item.number) ss → lease_in (h ∷ hs) n ≡ None)
        → lease_in (h ∷ hs) n ≡ None
    by_test true same drawn taken kept =
        let eq : h.number ≡ s.item.number = eqb-true h.number s.item.number same in
        let ne : h.number ≢ n = omega (arith, above.0) in
        rw (ne_eqb h.number n ne) (taken drawn above.1)
    by_test false same drawn taken kept = kept drawn above.1

-- the first slot is leased by the first that is left, or not at all
lease-first : (given : List Handed) (s : Slot) (ss : List Slot) → is_drawn given (s ∷ ss) ≡ true → AllByRecursion (λ (x : Slot). s.item.number < x.item.number) ss
    → lease_in given s.item.number ≡ first_lease given s.item.number
lease-first [] s ss e above = refl
lease-first (h ∷ hs) s ss e above = by_test (nat_eq h.number s.item.number) e
  where
    by_test : (b : Bool) → (if b then is_drawn hs ss else is_drawn (h ∷ hs) ss) ≡ true → (if b then Some h.lease else lease_in hs s.item.number) ≡ (if b then Some h.lease else None)
    by_test true drawn = refl
    by_test false drawn = drawn-later s.item.number hs ss (drawn-tail ss h hs drawn) above

drawn-left : (given : List Handed) (s : Slot) (ss : List Slot) → is_drawn given (s ∷ ss) ≡ true → is_drawn (left_after given s.item.number) ss ≡ true
drawn-left [] s ss e = refl
drawn-left (h ∷ hs) s ss e = by_test (nat_eq h.number s.item.number) e
  where
    by_test : (b : Bool) → (if b then is_drawn hs ss else is_drawn (h ∷ hs) ss) ≡ true → is_drawn (if b then hs else h ∷ hs) ss ≡ true
    by_test true drawn = drawn
    by_test false drawn = drawn

-- a later slot finds its lease in what is left
lease-left : (given : List Handed) (n m : ℕ) → n < m → lease_in given m ≡ lease_in (left_after given n) m
lease-left [] n m h = refl
lease-left (x ∷ xs) n m h = by_test (nat_eq x.number n) refl
  where
    by_test : (b : Bool) → nat_eq x.number n ≡ b → lease_in (x ∷ xs) m ≡ lease_in (if b then xs else x ∷ xs) m
    by_test true e =
        let eq : x.number ≡ n = eqb-true x.number n e in
        let ne : x.number ≢ m = omega arith in
        rw (ne_eqb x.number m ne) refl
    by_test false e = refl

abbrev pub SameLeases : List Handed → List Handed → List Slot → Type 0
SameLeases given left slots = AllByRecursion (λ (s : Slot). lease_in given s.item.number ≡ lease_in left s.item.number) slots

same-left : (given left : List Handed) (n : ℕ) (slots : List Slot) → AllByRecursion (λ (s : Slot). n < s.item.number) slots → SameLeases given left slots → SameLeases given (left_after left n) slots
same-left given left n [] above h = h
same-left given left n (s ∷ ss) above h = (h.0 ∙ lease-left left n s.item.number above.0, same-left given left n ss above.1 h.1)

-- what a step of lending knows: the slots before the index are leased, and what is left was drawn from the others
pub record IsLending (deadline : ℕ) (given left : List Handed) (start slots : List Slot) (i : ℕ) : Type 0 where
  pub after : slots ≡ lent deadline given (take i start) ++ drop i start
  pub drawn : is_drawn left (drop i start) ≡ true
  pub same : SameLeases given left (drop i start)

-- one slot more
pub lending-more : (deadline : ℕ) (given left : List Handed) (start slots : List Slot) (i : ℕ) (s : Slot) → IsAscending start → i < length start → IsLending deadline given left start slots i → s ≡ get_or slots i s
    → IsLending deadline given (left_after left s.item.number) start (set slots i (remark s (leased_as deadline s.mark (first_lease left s.item.number)))) (i + 1)
lending-more deadline given left start slots i s ascending inside h is =
    let rule : Slot → Slot = λ x. remark x (lent_mark deadline given x) in
    let here : s ≡ get_or start i s = is ∙ ap (λ (l : List Slot). get_or l i s) h.after ∙ read_over rule start i s inside in
    let cut : drop i start ≡ s ∷ drop (i + 1) start = drop_more start i s inside ∙ ap (λ (x : Slot). x ∷ drop (i + 1) start) (sym here) in
    let order : IsAscending (s ∷ drop (i + 1) start) = subst IsAscending cut (ascending-drop i start ascending) in
    let drawn : is_drawn left (s ∷ drop (i + 1) start) ≡ true = subst (λ (l : List Slot). is_drawn left l ≡ true) cut h.drawn in
    let same : SameLeases given left (s ∷ drop (i + 1) start) = subst (SameLeases given left) cut h.same in
    let lease = same.0 ∙ lease-first left s (drop (i + 1) start) drawn order.0 in
    record {
      after = ap (λ (o : Option ℕ). set slots i (remark s (leased_as deadline s.mark o))) (sym lease) ∙ map_over_more rule start slots i s inside h.after is;
      drawn = drawn-left left s (drop (i + 1) start) drawn;
      same = same-left given left s.item.number (drop (i + 1) start) order.0 same.1;
    }

lent-none : (deadline : ℕ) (given : List Handed) (slots : List Slot) → SameLeases given [] slots → lent deadline given slots ≡ slots
lent-none deadline given [] h = refl
lent-none deadline given (s ∷ ss) h = let e = ap (leased_as deadline s.mark) h.0 in λ i. remark s (e i) ∷ lent-none deadline given ss h.1 i

-- where none is left, all are leased
pub lending-none : (deadline : ℕ) (given left : List Handed) (start slots : List Slot) (i : ℕ) → left ≡ [] → IsLending deadline given left start slots i → slots ≡ lent deadline given start
lending-none deadline given left start slots i e h =
    let rule : Slot → Slot = λ x. remark x (lent_mark deadline given x) in
    h.after ∙ ap (λ (l : List Slot). lent deadline given (take i start) ++ l) (sym (lent-none deadline given (drop i start) (subst (λ (l : List Handed). SameLeases given l (drop i start)) e h.same)))
    ∙ sym (map-append rule (take i start) (drop i start)) ∙ ap (lent deadline given) (take-append-drop i start)

same-start : (given : List Handed) (slots : List Slot) → SameLeases given given slots
same-start given [] = tt
same-start given (s ∷ ss) = (refl, same-start given ss)

-- at first all are left
pub lending-start : (deadline : ℕ) (given : List Handed) (start : List Slot) → is_drawn given start ≡ true → IsLending deadline given given start start 0
lending-start deadline given [] h = record { after = refl; drawn = h; same = tt }
lending-start deadline given (s ∷ ss) h = record { after = refl; drawn = h; same = same-start given (s ∷ ss) }

pub none_left : (given : List Handed) → (length given == 0) ≡ true → given ≡ []
none_left [] h = refl
none_left (h ∷ hs) e = let none : length (h ∷ hs) ≡ 0 = eqb-true (length (h ∷ hs)) 0 e in absurd (omega arith)
