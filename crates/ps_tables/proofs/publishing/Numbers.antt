-- New messages enter the subscriptions with some numbers, and are counted.
use Rattle.std.proofs.Common.{◌≡◌, ◌<◌, ◌≤◌, ◌+◌, ◌||◌, ℕ, zero, suc, Bool, true, false, cond, nat_eq, List, [], ◌∷◌, Option, Some, None, length, map, drop, if◌then◌else◌, refl, ap, ◌∙◌, arith}
use Rattle.std.specs.List.{AllByRecursion}
use Rattle.std.proofs.lemmas.Bool.{both_ways, cond_both, eqb-true, or_left}
use Rattle.ps_filter.specs.Filters.{meets}
use Rattle.ps_message.specs.declared.message.Message.{Message}
use Rattle.ps_model.specs.Sound.{Ordered}
use Rattle.ps_model.specs.Forwarding.{message_rows}
use Rattle.ps_tables.specs.declared.kept_subscription.KeptSubscription.{KeptSubscription}
use Rattle.ps_tables.specs.Entering.{IsDistinct, IsReady, count_each, count_found, count_from, enter_among, enter_numbered, enter_wanted, is_among, is_wanted, subscription_with}
use Rattle.ps_tables.proofs.lists.Ordered.{ordered-map}
use Rattle.ps_base.proofs.Lists.{any-none, each-found, each-map, each-then, found-passes}

abbrev pub Ascends : List KeptSubscription → Type 0
Ascends xs = Ordered (λ (a b : KeptSubscription). a.number < b.number) xs

-- ---- the subscription with one number

pub found-so : (P : KeptSubscription → Type 0) (n : ℕ) (xs : List KeptSubscription) (x : KeptSubscription) → subscription_with n xs ≡ Some x → AllByRecursion (λ (y : KeptSubscription). nat_eq y.number n ≡ true → P y) xs → P x
found-so P n xs x found h = each-found (λ (y : KeptSubscription). nat_eq y.number n ≡ true → P y) (λ (y : KeptSubscription). nat_eq y.number n) xs x found h (found-passes (λ (y : KeptSubscription). nat_eq y.number n) xs x found)

-- ---- one number after the other

among-none : (n : ℕ) (ns : List ℕ) → IsDistinct (n ∷ ns) → is_among ns n ≡ false
among-none n ns h = any-none (nat_eq n) ns h.0

entered-next : (first at : ℕ) (messages : List Message) (n : ℕ) (ns : List ℕ) → IsDistinct (n ∷ ns) → (x : KeptSubscription) → enter_among first at messages ns (enter_numbered first at messages n x) ≡ enter_among first at messages (n ∷ ns) x
entered-next first at messages n ns h x = by (nat_eq x.number n) refl
  where
    own : KeptSubscription
    own = enter_wanted (message_rows x.topic first at messages) x

    by : (b : Bool) → nat_eq x.number n ≡ b → enter_among first at messages ns (if b then own else x) ≡ (if b || is_among ns x.number then own else x)
    by true e =
        let out : is_among ns x.number ≡ false = ap (is_among ns) (eqb-true x.number n e) ∙ among-none n ns h in
        ap (λ (b : Bool). if b then enter_wanted (message_rows x.topic first at messages) own else own) out
    by false e = refl

pub all-next : (first at : ℕ) (messages : List Message) (n : ℕ) (ns : List ℕ) (xs : List KeptSubscription) → IsDistinct (n ∷ ns)
    → map (enter_among first at messages ns) (map (enter_numbered first at messages n) xs) ≡ map (enter_among first at messages (n ∷ ns)) xs
all-next first at messages n ns [] h = refl
all-next first at messages n ns (x ∷ xs) h = λ i. entered-next first at messages n ns h x i ∷ all-next first at messages n ns xs h i

ready-one : (first at : ℕ) (messages : List Message) (n : ℕ) (ns : List ℕ) → IsDistinct (n ∷ ns) → (x : KeptSubscription) → (is_among (n ∷ ns) x.number ≡ true → IsReady first at x)
    → is_among ns (enter_numbered first at messages n x).number ≡ true → IsReady first at (enter_numbered first at messages n x)
ready-one first at messages n ns h x ready = by (nat_eq x.number n) refl ready
  where
    own : KeptSubscription
    own = enter_wanted (message_rows x.topic first at messages) x

    by : (b : Bool) → nat_eq x.number n ≡ b → ((b || is_among ns x.number) ≡ true → IsReady first at x) → is_among ns (if b then own else x).number ≡ true → IsReady first at (if b then own else x)
    by true e k among =
        let out : is_among ns x.number ≡ false = ap (is_among ns) (eqb-true x.number n e) ∙ among-none n ns h in
        absurd (both_ways (is_among ns x.number) out among)
    by false e k among = k among

pub ready-next : (first at : ℕ) (messages : List Message) (n : ℕ) (ns : List ℕ) (xs : List KeptSubscription) → IsDistinct (n ∷ ns) → AllByRecursion (λ (x : KeptSubscription). is_among (n ∷ ns) x.number ≡ true → IsReady first at x) xs
    → AllByRecursion (λ (x : KeptSubscription). is_among ns x.number ≡ true → IsReady first at x) (map (enter_numbered first at messages n) xs)
ready-next first at messages n ns xs h ready =
    each-map (λ (x : KeptSubscription). is_among (n ∷ ns) x.number ≡ true → IsReady first at x) (λ (x : KeptSubscription). is_among ns x.number ≡ true → IsReady first at x) (enter_numbered first at messages n) xs
    (λ x k. ready-one first at messages n ns h x k) ready

-- those with this number are ready if those are that have it or a later one
pub ready-now : (first at n : ℕ) (ns : List ℕ) (xs : List KeptSubscription) → AllByRecursion (λ (x : KeptSubscription). is_among (n ∷ ns) x.number ≡ true → IsReady first at x) xs
    → AllByRecursion (λ (x : KeptSubscription). nat_eq x.number n ≡ true → IsReady first at x) xs
ready-now first at n ns xs h =
    each-then (λ (x : KeptSubscription). is_among (n ∷ ns) x.number ≡ true → IsReady first at x) (λ (x : KeptSubscription). nat_eq x.number n ≡ true → IsReady first at x) xs
    (λ x k e. k (or_left (nat_eq x.number n) (is_among ns x.number) e)) h

number-stays : (first at : ℕ) (messages : List Message) (n : ℕ) (x : KeptSubscription) → (enter_numbered first at messages n x).number ≡ x.number
number-stays first at messages n x = cond_both (nat_eq x.number n) (enter_wanted (message_rows x.topic first at messages) x) x (λ (y : KeptSubscription). y.number ≡ x.number) (λ e. refl) (λ e. refl)

settings-rest : (first at : ℕ) (messages : List Message) (n : ℕ) (x : KeptSubscription) → (enter_numbered first at messages n x).sub.config ≡ x.sub.config
settings-rest first at messages n x = cond_both (nat_eq x.number n) (enter_wanted (message_rows x.topic first at messages) x) x (λ (y : KeptSubscription). y.sub.config ≡ x.sub.config) (λ e. refl) (λ e. refl)

pub ascends-next : (first at : ℕ) (messages : List Message) (n : ℕ) (xs : List KeptSubscription) → Ascends xs → Ascends (map (enter_numbered first at messages n) xs)
ascends-next first at messages n xs h =
    ordered-map (λ (a b : KeptSubscription). a.number < b.number) (λ (a b : KeptSubscription). a.number < b.number) (enter_numbered first at messages n) xs
    (λ a b k. omega (arith, k, number-stays first at messages n a, number-stays first at messages n b)) h

-- ---- counts

count-few : (i : ℕ) (x : KeptSubscription) (messages : List Message) (counts : List ℕ) → AllByRecursion (λ (n : ℕ). n ≤ i) counts → AllByRecursion (λ (n : ℕ). n ≤ i + 1) (count_from 0 x messages counts)
count-few i x [] counts h = each-then (λ (n : ℕ). n ≤ i) (λ (n : ℕ). n ≤ i + 1) counts (λ n k. omega (arith, k)) h
count-few i x (m ∷ ms) [] h = tt
count-few i x (m ∷ ms) (c ∷ cs) h = (cond_both (is_wanted x m) (c + 1) c (λ (n : ℕ). n ≤ i + 1) (λ e. omega (arith, h.0)) (λ e. omega (arith, h.0)), count-few i x ms cs h.1)

pub found-few : (i : ℕ) (o : Option KeptSubscription) (messages : List Message) (counts : List ℕ) → AllByRecursion (λ (n : ℕ). n ≤ i) counts → AllByRecursion (λ (n : ℕ). n ≤ i + 1) (count_found messages o counts)
found-few i None messages counts h = each-then (λ (n : ℕ). n ≤ i) (λ (n : ℕ). n ≤ i + 1) counts (λ n k. omega (arith, k)) h
found-few i (Some x) messages counts h = count-few i x messages counts h

count-settings : (x y : KeptSubscription) (messages : List Message) (counts : List ℕ) → y.sub.config ≡ x.sub.config → count_from 0 y messages counts ≡ count_from 0 x messages counts
count-settings x y [] counts same = refl
count-settings x y (m ∷ ms) [] same = refl
count-settings x y (m ∷ ms) (c ∷ cs) same = λ i. (if meets (same i).filter m then c + 1 else c) ∷ count-settings x y ms cs same i

found-same : (first at : ℕ) (messages : List Message) (n k : ℕ) (xs : List KeptSubscription) (counts : List ℕ)
    → count_found messages (subscription_with k (map (enter_numbered first at messages n) xs)) counts ≡ count_found messages (subscription_with k xs) counts
found-same first at messages n k [] counts = refl
found-same first at messages n k (x ∷ xs) counts =
    ap (λ (j : ℕ). count_found messages (cond (nat_eq j k) (Some (enter_numbered first at messages n x)) (subscription_with k (map (enter_numbered first at messages n) xs))) counts) (number-stays first at messages n x)
    ∙ by (nat_eq x.number k) (found-same first at messages n k xs counts)
  where
    by : (b : Bool) → count_found messages (subscription_with k (map (enter_numbered first at messages n) xs)) counts ≡ count_found messages (subscription_with k xs) counts
        → count_found messages (cond b (Some (enter_numbered first at messages n x)) (subscription_with k (map (enter_numbered first at messages n) xs))) counts ≡ count_found messages (cond b (Some x) (subscription_with k xs)) counts
    by true rest = count-settings x (enter_numbered first at messages n x) messages counts (settings-rest first at messages n x)
    by false rest = rest

pub counts-same : (first at : ℕ) (messages : List Message) (n : ℕ) (ns : List ℕ) (xs : List KeptSubscription) (counts : List ℕ)
    → count_each messages (map (enter_numbered first at messages n) xs) ns counts ≡ count_each messages xs ns counts
counts-same first at messages n [] xs counts = refl
counts-same first at messages n (k ∷ ns) xs counts =
    ap (count_each messages (map (enter_numbered first at messages n) xs) ns) (found-same first at messages n k xs counts)
    ∙ counts-same first at messages n ns xs (count_found messages (subscription_with k xs) counts)

pub drop-end : {A : Type 0} (i : ℕ) (xs : List A) → length xs ≤ i → drop i xs ≡ []
drop-end zero [] h = refl
drop-end (suc i) [] h = refl
drop-end zero (x ∷ xs) h = absurd (omega arith)
drop-end (suc i) (x ∷ xs) h = drop-end i xs (omega arith)

pub enter-none : (first at : ℕ) (messages : List Message) (xs : List KeptSubscription) → map (enter_among first at messages []) xs ≡ xs
enter-none first at messages [] = refl
enter-none first at messages (x ∷ xs) = ap (λ (ys : List KeptSubscription). x ∷ ys) (enter-none first at messages xs)
