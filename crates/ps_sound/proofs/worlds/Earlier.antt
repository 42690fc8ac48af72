-- Earlier messages of an ordering key, among the slots of a subscription and among its rows.
use Rattle.std.proofs.Common.{ℕ, ◌≡◌, ◌<◌, Bool, true, false, ◌&&◌, not, nat_eq, nat_lt, List, [], ◌∷◌, refl, sym, ◌∙◌, ap, arith}
use Rattle.std.specs.List.{AllByRecursion, list_any}
use Rattle.std.specs.Str.{bytes_eq}
use Rattle.std.proofs.lemmas.Bool.{and_parts, and_from, or_parts, or_from, eqb-true, eq-eqb, ltb-true, lt-ltb, both_ways, false_from_ne_true}
use Rattle.ps_message.specs.Lists.{is_empty}
use Rattle.ps_model.specs.declared.mark.Slot.{Slot}
use Rattle.ps_model.specs.declared.world.World.{World}
use Rattle.ps_model.specs.declared.world.MarkRow.{MarkRow}
use Rattle.ps_model.specs.Slots.{is_earlier, any_earlier}
use Rattle.ps_model.specs.Worlds.{slot_of, slots_of, rows_of}
use Rattle.ps_model.proofs.SameLemmas.{exact-bytes}
use Rattle.ps_base.proofs.Lists.{each-then, each-map, each-of-map, each-filter, each-of-filter}

-- earlier than an earlier one is earlier
pub earlier-on : (ordering : Bool) (a b c : Slot) → is_earlier ordering a b ≡ true → is_earlier ordering b c ≡ true → is_earlier ordering a c ≡ true
earlier-on ordering a b c ab bc =
    let p = and_parts ordering (nat_lt a.item.number b.item.number && (not (is_empty b.item.key) && bytes_eq a.item.key b.item.key)) ab in
    let q = and_parts ordering (nat_lt b.item.number c.item.number && (not (is_empty c.item.key) && bytes_eq b.item.key c.item.key)) bc in
    let pn = and_parts (nat_lt a.item.number b.item.number) (not (is_empty b.item.key) && bytes_eq a.item.key b.item.key) p.1 in
    let qn = and_parts (nat_lt b.item.number c.item.number) (not (is_empty c.item.key) && bytes_eq b.item.key c.item.key) q.1 in
    let pk = and_parts (not (is_empty b.item.key)) (bytes_eq a.item.key b.item.key) pn.1 in
    let qk = and_parts (not (is_empty c.item.key)) (bytes_eq b.item.key c.item.key) qn.1 in
    let ltab : a.item.number < b.item.number = ltb-true _ _ pn.0 in
    let ltbc : b.item.number < c.item.number = ltb-true _ _ qn.0 in
    and_from ordering (nat_lt a.item.number c.item.number && (not (is_empty c.item.key) && bytes_eq a.item.key c.item.key)) p.0
    (and_from (nat_lt a.item.number c.item.number) (not (is_empty c.item.key) && bytes_eq a.item.key c.item.key) (lt-ltb a.item.number c.item.number (omega arith))
    (and_from (not (is_empty c.item.key)) (bytes_eq a.item.key c.item.key) qk.0
    (ap (λ k. bytes_eq k c.item.key) (exact-bytes.one a.item.key b.item.key pk.1) ∙ qk.1)))

pub earlier-number : (ordering : Bool) (e s : Slot) → is_earlier ordering e s ≡ true → e.item.number < s.item.number
earlier-number ordering e s h =
    ltb-true e.item.number s.item.number (and_parts (nat_lt e.item.number s.item.number) (not (is_empty s.item.key) && bytes_eq e.item.key s.item.key)
    (and_parts ordering (nat_lt e.item.number s.item.number && (not (is_empty s.item.key) && bytes_eq e.item.key s.item.key)) h).1).0

pub earlier-ordering : (ordering : Bool) (e s : Slot) → is_earlier ordering e s ≡ true → ordering ≡ true
earlier-ordering ordering e s h = (and_parts ordering (nat_lt e.item.number s.item.number && (not (is_empty s.item.key) && bytes_eq e.item.key s.item.key)) h).0

-- none of the slots is an earlier one that passes the test
abbrev pub NoneEarlier : Bool → (Slot → Bool) → Slot → List Slot → Type 0
NoneEarlier ordering test s slots = AllByRecursion (λ (e : Slot). is_earlier ordering e s ≡ true → test e ≡ false) slots

pub each-earlier : (ordering : Bool) (test : Slot → Bool) (s : Slot) (slots : List Slot) → any_earlier ordering test slots s ≡ false → NoneEarlier ordering test s slots
each-earlier ordering test s [] h = tt
each-earlier ordering test s (e ∷ slots) h =
    let p = or_parts (is_earlier ordering e s && test e) (list_any (λ x. is_earlier ordering x s && test x) slots) h in
    (λ early. (ap (λ b. b && test e) (sym early)) ∙ p.0, each-earlier ordering test s slots p.1)

pub from-none-earlier : (ordering : Bool) (test : Slot → Bool) (s : Slot) (slots : List Slot) → NoneEarlier ordering test s slots → any_earlier ordering test slots s ≡ false
from-none-earlier ordering test s [] h = refl
from-none-earlier ordering test s (e ∷ slots) h =
    or_from (is_earlier ordering e s && test e) (list_any (λ x. is_earlier ordering x s && test x) slots)
    (false_from_ne_true (is_earlier ordering e s && test e) (λ both. let p = and_parts (is_earlier ordering e s) (test e) both in both_ways (test e) (h.0 p.0) p.1)) (from-none-earlier ordering test s slots h.1)

-- what none before a later one passes, none before an earlier one does
pub none-earlier-on : (ordering : Bool) (test : Slot → Bool) (e s : Slot) (slots : List Slot) → is_earlier ordering e s ≡ true → NoneEarlier ordering test s slots → NoneEarlier ordering test e slots
none-earlier-on ordering test e s slots early h = each-then (λ (x : Slot). is_earlier ordering x s ≡ true → test x ≡ false) (λ (x : Slot). is_earlier ordering x e ≡ true → test x ≡ false) slots (λ x k xe. k (earlier-on ordering x e s xe early)) h

-- a fact of each slot of a subscription is one of each of its rows, and back
pub rows-of-slots : (P : Slot → Type 0) (w : World) (n : ℕ) → AllByRecursion P (slots_of w n) → AllByRecursion (λ (r : MarkRow). r.sub ≡ n → P (slot_of w.messages r)) w.marks
rows-of-slots P w n h = each-then (λ (r : MarkRow). nat_eq r.sub n ≡ true → P (slot_of w.messages r)) (λ (r : MarkRow). r.sub ≡ n → P (slot_of w.messages r)) w.marks (λ r k e. k (eq-eqb r.sub n e))
    (each-of-filter (λ (r : MarkRow). P (slot_of w.messages r)) (λ (r : MarkRow). nat_eq r.sub n) w.marks (each-of-map P (slot_of w.messages) (rows_of w.marks n) h))

pub slots-of-rows : (P : Slot → Type 0) (w : World) (n : ℕ) → AllByRecursion (λ (r : MarkRow). r.sub ≡ n → P (slot_of w.messages r)) w.marks → AllByRecursion P (slots_of w n)
slots-of-rows P w n h = each-map (λ (r : MarkRow). P (slot_of w.messages r)) P (slot_of w.messages) (rows_of w.marks n) (λ r p. p)
    (each-filter (λ (r : MarkRow). r.sub ≡ n → P (slot_of w.messages r)) (λ (r : MarkRow). P (slot_of w.messages r)) (λ (r : MarkRow). nat_eq r.sub n) w.marks (λ r e k. k (eqb-true r.sub n e)) h)
