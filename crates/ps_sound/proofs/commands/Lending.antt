-- What is handed out: how much, under which leases, and which messages.
use Rattle.std.proofs.Common.{ℕ, suc, ◌≡◌, ◌≢◌, ◌+◌, ◌-◌, ◌<◌, ◌≤◌, Bool, true, false, cond, ◌&&◌, ◌||◌, not, nat_eq, is_some, List, [], ◌∷◌, Option, Some, None, IfSome, map, length, refl, sym, ap, subst, arith, inl, inr}
use Rattle.std.specs.List.{AllByRecursion}
use Rattle.std.proofs.lemmas.Bool.{eqb-true, eqb-false, ne_eqb, eq-eqb, and_left, and_right, cond_both, and_parts, or_parts}
use Rattle.ps_model.specs.declared.mark.Mark.{Mark}
use Rattle.ps_model.specs.declared.mark.Mark.TheVariants.{Backlog, Leased, Ahead, Done, Gone}
use Rattle.ps_model.specs.declared.mark.Slot.{Slot}
use Rattle.ps_model.specs.declared.mark.Handed.{Handed}
use Rattle.ps_model.specs.declared.world.MarkRow.{MarkRow}
use Rattle.ps_model.specs.declared.world.MessageRow.{MessageRow}
use Rattle.ps_model.specs.Slots.{is_gone, is_leased, any_earlier}
use Rattle.ps_model.specs.Lists.{tally}
use Rattle.ps_model.specs.Choice.{is_ready, is_waiting, is_deliverable, deliverable, first_of_them, choice, handed, lease_in, leased_as, lent_mark}
use Rattle.ps_model.specs.Worlds.{remark_row}
use Rattle.ps_model.specs.Sound.{Ordered, Precedes, MarkFits}
use Rattle.ps_base.proofs.Lists.{each-filter}
use Rattle.ps_sound.proofs.worlds.Counts.{one, tally-split, tally-map-split}
use Rattle.ps_sound.proofs.worlds.Marked.{at_sub}

-- the rows of one message on one subscription
abbrev pub is_at : ℕ → ℕ → MarkRow → Bool
is_at sub message r = nat_eq r.sub sub && nat_eq r.message message

later-not : (n m : ℕ) (a b : MarkRow) → a.sub ≡ n → a.message ≡ m → Precedes a b → is_at n m b ≡ false
later-not n m a b es em (inl h) = let ne : b.sub ≢ n = omega arith in and_left (nat_eq b.sub n) (nat_eq b.message m) (ne_eqb b.sub n ne)
later-not n m a b es em (inr h) = let ne : b.message ≢ m = omega arith in and_right (nat_eq b.sub n) (nat_eq b.message m) (ne_eqb b.message m ne)

later-none : (n m : ℕ) (a : MarkRow) (rs : List MarkRow) → a.sub ≡ n → a.message ≡ m → AllByRecursion (Precedes a) rs → tally (is_at n m) rs ≡ 0
later-none n m a [] es em h = refl
later-none n m a (b ∷ rs) es em h = rw (later-not n m a b es em h.0) (omega (arith, later-none n m a rs es em h.1))

-- each pair has one row at most
pub one-row : (n m : ℕ) (rs : List MarkRow) → Ordered Precedes rs → tally (is_at n m) rs ≤ 1
one-row n m [] h = omega arith
one-row n m (a ∷ rs) h = cases (is_at n m a) refl (one-row n m rs h.1)
  where
    cases : (b : Bool) → is_at n m a ≡ b → tally (is_at n m) rs ≤ 1 → one (is_at n m a) + tally (is_at n m) rs ≤ 1
    cases true e ih =
        let both = and_parts (nat_eq a.sub n) (nat_eq a.message m) e in
        rw e (omega (arith, later-none n m a rs (eqb-true a.sub n both.0) (eqb-true a.message m both.1) h.0))
    cases false e ih = rw e (omega (arith, ih))

-- the row's message was handed out
abbrev pub is_touched : ℕ → List Handed → MarkRow → Bool
is_touched n given r = nat_eq r.sub n && is_some (lease_in given r.message)

none-touched : (n : ℕ) (rs : List MarkRow) → tally (is_touched n []) rs ≡ 0
none-touched n [] = refl
none-touched n (r ∷ rs) = rw (and_right (nat_eq r.sub n) false refl) (omega (arith, none-touched n rs))

touched-or : (n : ℕ) (h : Handed) (hs : List Handed) (r : MarkRow) → one (is_touched n (h ∷ hs) r) ≤ one (is_at n h.number r) + one (is_touched n hs r)
touched-or n h hs r = cases (nat_eq r.sub n) (nat_eq h.number r.message) refl
  where
    cases : (b c : Bool) → nat_eq h.number r.message ≡ c → one (b && is_some (cond (nat_eq h.number r.message) (Some h.lease) (lease_in hs r.message))) ≤ one (b && nat_eq r.message h.number) + one (b && is_some (lease_in hs r.message))
    cases false c e = omega arith
    cases true true e = rw (e, eq-eqb r.message h.number (sym (eqb-true h.number r.message e))) (omega arith)
    cases true false e = rw e (omega arith)

-- no more rows are touched than messages were handed out
pub touched-few : (n : ℕ) (given : List Handed) (rs : List MarkRow) → Ordered Precedes rs → tally (is_touched n given) rs ≤ length given
touched-few n [] rs h = omega (arith, none-touched n rs)
touched-few n (g ∷ given) rs h =
    omega (arith, tally-split (is_touched n (g ∷ given)) (is_at n g.number) (is_touched n given) rs (touched-or n g given), one-row n g.number rs h, touched-few n given rs h)

-- the row after messages of the subscription were handed out
abbrev pub lent_row : List MessageRow → ℕ → ℕ → List Handed → MarkRow → MarkRow
lent_row messages n deadline given r = remark_row r (at_sub n (lent_mark deadline given) messages r)

lent-one : (messages : List MessageRow) (n deadline : ℕ) (given : List Handed) (r : MarkRow) → one (is_leased (lent_row messages n deadline given r).mark) ≤ one (is_leased r.mark) + one (is_touched n given r)
lent-one messages n deadline given r = cases (nat_eq r.sub n) (lease_in given r.message)
  where
    cases : (b : Bool) (o : Option ℕ) → one (is_leased (cond b (leased_as deadline r.mark o) r.mark)) ≤ one (is_leased r.mark) + one (b && is_some o)
    cases false o = omega arith
    cases true None = omega arith
    cases true (Some lease) = omega arith

-- a pull makes no more leases than it hands out
pub lent-few : (messages : List MessageRow) (n deadline : ℕ) (given : List Handed) (rs : List MarkRow) → Ordered Precedes rs
    → tally (λ (r : MarkRow). is_leased r.mark) (map (lent_row messages n deadline given) rs) ≤ tally (λ (r : MarkRow). is_leased r.mark) rs + length given
lent-few messages n deadline given rs h =
    omega (arith, tally-map-split (λ (r : MarkRow). is_leased r.mark) (λ (r : MarkRow). is_leased r.mark) (is_touched n given) (lent_row messages n deadline given) rs (lent-one messages n deadline given), touched-few n given rs h)

abbrev pub IsBelow : ℕ → Option ℕ → Type 0
IsBelow next None = Unit {0}
IsBelow next (Some lease) = lease < next

below-more : (a b : ℕ) (o : Option ℕ) → a ≤ b → IsBelow a o → IsBelow b o
below-more a b None h e = tt
below-more a b (Some lease) h e = omega (arith, e)

-- each lease that was handed out is below the next
pub lease-below : (next : ℕ) (xs : List Slot) (k : ℕ) → IsBelow (next + length (handed next xs)) (lease_in (handed next xs) k)
lease-below next [] k = tt
lease-below next (s ∷ ss) k =
    cond_both (nat_eq s.item.number k) (Some next) (lease_in (handed (next + 1) ss) k) (IsBelow (next + length (handed next (s ∷ ss))))
    (λ _. omega arith) (λ _. below-more _ _ (lease_in (handed (next + 1) ss) k) (omega arith) (lease-below (next + 1) ss k))

-- a mark that is handed out under a lease below the next
pub lent-fits : (t next next' deadline : ℕ) (mark : Mark) (o : Option ℕ) → next ≤ next' → t < deadline → deadline ≤ t + 600000 → IsBelow next' o → MarkFits t next mark → MarkFits t next' (leased_as deadline mark o)
lent-fits t next next' deadline mark (Some lease) hn hd hm below h = record { lent = below; lives = hd; near = hm }
lent-fits t next next' deadline (Leased f l d) None hn hd hm below h = record { lent = omega (arith, h.lent); lives = h.lives; near = h.near }
lent-fits t next next' deadline (Backlog f u last) None hn hd hm below h = record { near = h.near; lent = last-below last h.lent }
  where
    last-below : (o : Option ℕ) → IfSome o (λ lease. lease < next) → IfSome o (λ lease. lease < next')
    last-below None e = tt
    last-below (Some l) e = omega (arith, e)
lent-fits t next next' deadline (Ahead f) None hn hd hm below h = tt
lent-fits t next next' deadline (Done c) None hn hd hm below h = tt
lent-fits t next next' deadline (Gone c) None hn hd hm below h = tt

pub handed-length : (lease : ℕ) (xs : List Slot) → length (handed lease xs) ≡ length xs
handed-length lease [] = refl
handed-length lease (s ∷ ss) = ap suc (handed-length (lease + 1) ss)

-- at most so many are chosen
pub first-few : (most budget : ℕ) (xs : List Slot) → length (first_of_them most budget xs) ≤ most
first-few most budget [] = omega arith
first-few most budget (s ∷ ss) =
    cond_both (nat_eq most 0 || nat_eq budget 0) [] (s ∷ first_of_them (most - 1) (budget - s.item.size) ss) (λ ys. length ys ≤ most) (λ _. omega arith)
    (λ e. one-more most _ (eqb-false most 0 (or_parts (nat_eq most 0) (nat_eq budget 0) e).0) (first-few (most - 1) (budget - s.item.size) ss))
  where
    one-more : (most n : ℕ) → (most ≡ 0 → ⊥) → n ≤ most - 1 → suc n ≤ most
    one-more most n some rest = let above : most ≢ 0 = some in omega arith

-- what holds of each deliverable slot, holds of each that is chosen
pub each-chosen : (P : ℕ → Type 0) (t : ℕ) (ordering : Bool) (most budget : ℕ) (slots : List Slot) → AllByRecursion (λ (s : Slot). is_deliverable t ordering slots s ≡ true → P s.item.number) slots
    → AllByRecursion (λ (s : Slot). P s.item.number) (choice t ordering most budget slots)
each-chosen P t ordering most budget slots h = each-first most budget (deliverable t ordering slots) (each-filter (λ (s : Slot). is_deliverable t ordering slots s ≡ true → P s.item.number) (λ (s : Slot). P s.item.number) (is_deliverable t ordering slots) slots (λ s e k. k e) h)
  where
    each-first : (most budget : ℕ) (xs : List Slot) → AllByRecursion (λ (s : Slot). P s.item.number) xs → AllByRecursion (λ (s : Slot). P s.item.number) (first_of_them most budget xs)
    each-first most budget [] h = tt
    each-first most budget (s ∷ ss) h = cond_both (nat_eq most 0 || nat_eq budget 0) [] (s ∷ first_of_them (most - 1) (budget - s.item.size) ss) (AllByRecursion (λ (s : Slot). P s.item.number)) (λ _. tt) (λ _. (h.0, each-first (most - 1) (budget - s.item.size) ss h.1))

-- what is deliverable isn't gone
pub deliverable-lives : (t : ℕ) (ordering : Bool) (slots : List Slot) (s : Slot) → is_deliverable t ordering slots s ≡ true → is_gone s.mark ≡ false
deliverable-lives t ordering slots s e = ready-lives s.mark (and_parts (is_ready t s.mark) (not (any_earlier ordering (λ x. is_waiting t x.mark) slots s)) e).0
  where
    ready-lives : (mark : Mark) → is_ready t mark ≡ true → is_gone mark ≡ false
    ready-lives (Backlog f u l) e = refl
    ready-lives (Leased f l d) e = refl
    ready-lives (Ahead f) e = refl
    ready-lives (Done c) e = refl
    ready-lives (Gone c) e = absurd (cc (e))

-- a message with a lease among them is one of those that were handed out
pub handed-one : (P : ℕ → Type 0) (lease : ℕ) (xs : List Slot) (k : ℕ) → AllByRecursion (λ (s : Slot). P s.item.number) xs → is_some (lease_in (handed lease xs) k) ≡ true → P k
handed-one P lease [] k h e = absurd (cc (e))
handed-one P lease (s ∷ ss) k h e = cases (nat_eq s.item.number k) refl (handed-one P (lease + 1) ss k h.1) e
  where
    cases : (b : Bool) → nat_eq s.item.number k ≡ b → (is_some (lease_in (handed (lease + 1) ss) k) ≡ true → P k) → is_some (cond b (Some lease) (lease_in (handed (lease + 1) ss) k)) ≡ true → P k
    cases true same ih e' = subst P (eqb-true s.item.number k same) h.0
    cases false same ih e' = ih e'
