-- The test of deliverability obeys the rule that speaks of itself.
use Rattle.std.proofs.Common.{ℕ, ◌≡◌, ◌<◌, Bool, true, false, ◌&&◌, not, nat_lt, List, [], ◌∷◌, refl, sym, ◌∙◌, ap, arith}
use Rattle.std.specs.List.{AllByRecursion}
use Rattle.std.proofs.lemmas.Bool.{and_parts, and_from, or_parts, or_from, not-true, not_from_false, ltb-true, lt-ltb, false≢true, both_ways, false_from_ne_true}
use Rattle.ps_model.specs.declared.mark.Mark.{Mark}
use Rattle.ps_model.specs.declared.mark.Mark.TheVariants.{Backlog, Leased, Ahead, Done, Gone}
use Rattle.ps_model.specs.declared.mark.Slot.{Slot}
use Rattle.ps_message.specs.Lists.{is_empty}
use Rattle.ps_model.specs.Slots.{is_earlier, any_earlier, is_unacked}
use Rattle.std.specs.Str.{bytes_eq}
use Rattle.ps_model.specs.Choice.{is_ready, is_waiting, is_deliverable}
use Rattle.ps_model.specs.Laws.{Behind, DeliverableInTurn}
use Rattle.ps_model.proofs.SameLemmas.{exact-bytes}

-- earlier than an earlier one is earlier
earlier-on : (ordering : Bool) (a b c : Slot) → is_earlier ordering a b ≡ true → is_earlier ordering b c ≡ true → is_earlier ordering a c ≡ true
earlier-on ordering a b c ab bc =
    let p = and_parts ordering _ ab in
    let q = and_parts ordering _ bc in
    let pn = and_parts (nat_lt a.item.number b.item.number) _ p.1 in
    let qn = and_parts (nat_lt b.item.number c.item.number) _ q.1 in
    let pk = and_parts (not (is_empty b.item.key)) (bytes_eq a.item.key b.item.key) pn.1 in
    let qk = and_parts (not (is_empty c.item.key)) (bytes_eq b.item.key c.item.key) qn.1 in
    let ltab : a.item.number < b.item.number = ltb-true _ _ pn.0 in
    let ltbc : b.item.number < c.item.number = ltb-true _ _ qn.0 in
    and_from ordering _ p.0
    (and_from (nat_lt a.item.number c.item.number) _ (lt-ltb a.item.number c.item.number (omega arith))
    (and_from (not (is_empty c.item.key)) (bytes_eq a.item.key c.item.key) qk.0
    (ap (λ k. bytes_eq k c.item.key) (exact-bytes.one a.item.key b.item.key pk.1) ∙ qk.1)))

-- none of the slots is an earlier one that waits
abbrev NoneWaits : ℕ → Bool → Slot → List Slot → Type 0
NoneWaits t ordering s slots = AllByRecursion (λ (e : Slot). is_earlier ordering e s ≡ true → is_waiting t e.mark ≡ false) slots

none-of : (t : ℕ) (ordering : Bool) (s : Slot) (slots : List Slot) → any_earlier ordering (λ e. is_waiting t e.mark) slots s ≡ false → NoneWaits t ordering s slots
none-of t ordering s [] h = tt
none-of t ordering s (e ∷ slots) h =
    let p = or_parts (is_earlier ordering e s && is_waiting t e.mark) _ h in
    (λ early. here early p.0, none-of t ordering s slots p.1)
  where
    here : is_earlier ordering e s ≡ true → (is_earlier ordering e s && is_waiting t e.mark) ≡ false → is_waiting t e.mark ≡ false
    here early none = (ap (λ b. b && is_waiting t e.mark) (sym early)) ∙ none

from-none : (t : ℕ) (ordering : Bool) (s : Slot) (slots : List Slot) → NoneWaits t ordering s slots → any_earlier ordering (λ e. is_waiting t e.mark) slots s ≡ false
from-none t ordering s [] h = refl
from-none t ordering s (e ∷ slots) h = or_from (is_earlier ordering e s && is_waiting t e.mark) _ (false_from_ne_true _ (λ both. let p = and_parts (is_earlier ordering e s) (is_waiting t e.mark) both in both_ways (is_waiting t e.mark) (h.0 p.0) p.1)) (from-none t ordering s slots h.1)

-- what waits behind an earlier one waits behind a later one
none-before : (t : ℕ) (ordering : Bool) (e s : Slot) (slots : List Slot) → is_earlier ordering e s ≡ true → NoneWaits t ordering s slots → NoneWaits t ordering e slots
none-before t ordering e s [] early h = tt
none-before t ordering e s (x ∷ slots) early h = (λ xe. h.0 (earlier-on ordering x e s xe early), none-before t ordering e s slots early h.1)

waits-unacked : (t : ℕ) (mark : Mark) → is_waiting t mark ≡ true → is_unacked mark ≡ true
waits-unacked t (Backlog f u l) e = refl
waits-unacked t (Leased f l d) e = refl
waits-unacked t (Ahead f) e = absurd (false≢true e)
waits-unacked t (Done c) e = absurd (false≢true e)
waits-unacked t (Gone c) e = absurd (false≢true e)

pub deliverable_in_turn : DeliverableInTurn
deliverable_in_turn t ordering slots s = (onwards, back)
  where
    onwards : is_deliverable t ordering slots s ≡ true → (is_ready t s.mark ≡ true) × AllByRecursion (Behind t ordering slots s) slots
    onwards h =
        let p = and_parts (is_ready t s.mark) (not (any_earlier ordering (λ e. is_waiting t e.mark) slots s)) h in
        let none = none-of t ordering s slots (not-true _ p.1) in
        (p.0, each none slots none)
      where
        each : NoneWaits t ordering s slots → (xs : List Slot) → NoneWaits t ordering s xs → AllByRecursion (Behind t ordering slots s) xs
        each all [] none = tt
        each all (e ∷ xs) none = (
          λ early unacked. (none.0 early, λ ready. and_from (is_ready t e.mark) _ ready (not_from_false _ (from-none t ordering e slots (none-before t ordering e s slots early all)))),
          each all xs none.1,
        )

    back : (is_ready t s.mark ≡ true) × AllByRecursion (Behind t ordering slots s) slots → is_deliverable t ordering slots s ≡ true
    back h = and_from (is_ready t s.mark) _ h.0 (not_from_false _ (from-none t ordering s slots (each slots h.1)))
      where
        each : (xs : List Slot) → AllByRecursion (Behind t ordering slots s) xs → NoneWaits t ordering s xs
        each [] b = tt
        each (e ∷ xs) b = (λ early. false_from_ne_true _ (λ waits. both_ways (is_waiting t e.mark) (b.0 early (waits-unacked t e.mark waits)).0 waits), each xs b.1)
