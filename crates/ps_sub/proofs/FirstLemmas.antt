-- The leased messages of a key stay before those in the backlog.
use Rattle.std.proofs.Common.{ℕ, ◌≡◌, ◌≢◌, ◌+◌, ◌*◌, ◌-◌, ◌<◌, Bool, true, false, cond, ◌&&◌, ◌||◌, not, nat_eq, nat_lt, is_some, List, [], ◌∷◌, ◌++◌, filter, map, Option, Some, None, refl, sym, ap, subst, ◌∙◌, arith, if◌then◌else◌}
use Rattle.std.specs.List.{AllByRecursion, list_any}
use Rattle.std.specs.Str.{bytes_eq}
use Rattle.std.proofs.lemmas.Bool.{and_from, and_parts, both_ways, cond_both, eq-eqb, false_from_ne_true, false≢true, le-leb, lt-ltb, ltb-false, ltb-true, ne_eqb, not-true, or_from, or_parts}
use Rattle.ps_base.proofs.Lists.{each-always, each-behind, each-both, each-filter, each-map, each-of-filter, each-then, each-then-both}
use Rattle.ps_config.specs.declared.config.SubConfig.{SubConfig}
use Rattle.ps_message.specs.Lists.{is_empty}
use Rattle.ps_model.specs.declared.mark.DoneCause.TheVariants.{Acknowledged, Dead}
use Rattle.ps_model.specs.declared.mark.Handed.{Handed}
use Rattle.ps_model.specs.declared.mark.Item.{Item}
use Rattle.ps_model.specs.declared.mark.Mark.{Mark}
use Rattle.ps_model.specs.declared.mark.Mark.TheVariants.{Backlog, Leased, Ahead, Done, Gone}
use Rattle.ps_model.specs.declared.mark.Slot.{Slot}
use Rattle.ps_model.specs.declared.mark.Ticket.{Ticket}
use Rattle.ps_model.specs.declared.hold.Holds.{Holds}
use Rattle.ps_model.specs.Acknowledging.{is_early, is_named, mark_after_ack}
use Rattle.ps_model.specs.Choice.{choice, deliverable, first_of_them, handed, is_deliverable, is_ready, is_waiting, lease_in, leased_as, lent_mark}
use Rattle.ps_model.specs.Failing.{failed, fallen, is_dead, mark_after_failing, one_more, retry_at}
use Rattle.ps_model.specs.Modifying.{extended_by, extended_mark, seconds_for, set_deadline}
use Rattle.ps_model.specs.Retention.{caught_up_as, expired_mark, holds, lapsed}
use Rattle.ps_model.specs.Slots.{any_earlier, failures_of, is_done, is_backlog, is_earlier, is_gone, is_leased, remark, remarked}
use Rattle.ps_model.proofs.SameLemmas.{exact-bytes}
use Rattle.ps_sub.specs.Entering.{IsInOrder}
use Rattle.ps_sub.specs.Expunging.{expunged_mark, is_behind}
use Rattle.ps_sub.specs.Marks.{live}
use Rattle.ps_sub.specs.Steady.{HasLeasedFirst, IsAscending, IsFirst}

-- ---- earlier messages of a key

-- none of the slots is an earlier one that passes the test
abbrev NoneEarlier : Bool → (Slot → Bool) → Slot → List Slot → Type 0
NoneEarlier ordering test s slots = AllByRecursion (λ (e : Slot). is_earlier ordering e s ≡ true → test e ≡ false) slots

module _ (ordering : Bool) where
  earlier-on : (a b c : Slot) → is_earlier ordering a b ≡ true → is_earlier ordering b c ≡ true → is_earlier ordering a c ≡ true
  earlier-on a b c ab bc =
      let p = and_parts ordering (nat_lt a.item.number b.item.number && (not (is_empty b.item.key) && bytes_eq a.item.key b.item.key)) ab in
      let q = and_parts ordering (nat_lt b.item.number c.item.number && (not (is_empty c.item.key) && bytes_eq b.item.key c.item.key)) bc in
      let pn = and_parts (nat_lt a.item.number b.item.number) (not (is_empty b.item.key) && bytes_eq a.item.key b.item.key) p.1 in
      let qn = and_parts (nat_lt b.item.number c.item.number) (not (is_empty c.item.key) && bytes_eq b.item.key c.item.key) q.1 in
      let pk = and_parts (not (is_empty b.item.key)) (bytes_eq a.item.key b.item.key) pn.1 in
      let qk = and_parts (not (is_empty c.item.key)) (bytes_eq b.item.key c.item.key) qn.1 in
      let ltab : a.item.number < b.item.number = ltb-true _ _ pn.0 in
      let ltbc : b.item.number < c.item.number = ltb-true _ _ qn.0 in
      and_from ordering (nat_lt a.item.number c.item.number && (not (is_empty c.item.key) && bytes_eq a.item.key c.item.key)) p.0
      (and_from (nat_lt a.item.number c.item.number) (not (is_empty c.item.key) && bytes_eq a.item.key c.item.key) (lt-ltb a.item.number c.item.number (omega arith))
      (and_from (not (is_empty c.item.key)) (bytes_eq a.item.key c.item.key) qk.0 (ap (λ k. bytes_eq k c.item.key) (exact-bytes.one a.item.key b.item.key pk.1) ∙ qk.1)))

  earlier-number : (e s : Slot) → is_earlier ordering e s ≡ true → e.item.number < s.item.number
  earlier-number e s h =
      ltb-true e.item.number s.item.number (and_parts (nat_lt e.item.number s.item.number) (not (is_empty s.item.key) && bytes_eq e.item.key s.item.key)
      (and_parts ordering (nat_lt e.item.number s.item.number && (not (is_empty s.item.key) && bytes_eq e.item.key s.item.key)) h).1).0

  each-earlier : (test : Slot → Bool) (s : Slot) (slots : List Slot) → any_earlier ordering test slots s ≡ false → NoneEarlier ordering test s slots
  each-earlier test s [] h = tt
  each-earlier test s (e ∷ slots) h =
      let p = or_parts (is_earlier ordering e s && test e) (list_any (λ x. is_earlier ordering x s && test x) slots) h in
      ((λ early. ap (λ b. b && test e) (sym early) ∙ p.0), each-earlier test s slots p.1)

  from-none-earlier : (test : Slot → Bool) (s : Slot) (slots : List Slot) → NoneEarlier ordering test s slots → any_earlier ordering test slots s ≡ false
  from-none-earlier test s [] h = refl
  from-none-earlier test s (e ∷ slots) h =
      or_from (is_earlier ordering e s && test e) (list_any (λ x. is_earlier ordering x s && test x) slots)
      (false_from_ne_true (is_earlier ordering e s && test e) (λ both. let p = and_parts (is_earlier ordering e s) (test e) both in both_ways (test e) (h.0 p.0) p.1)) (from-none-earlier test s slots h.1)

  -- what none before a later one passes, none before an earlier one does
  earlier-none : (test : Slot → Bool) (slots : List Slot) (e s : Slot) → is_earlier ordering e s ≡ true → any_earlier ordering test slots s ≡ false → any_earlier ordering test slots e ≡ false
  earlier-none test slots e s early h =
      from-none-earlier test e slots
      (each-then (λ (x : Slot). is_earlier ordering x s ≡ true → test x ≡ false) (λ (x : Slot). is_earlier ordering x e ≡ true → test x ≡ false) slots (λ x k xe. k (earlier-on x e s xe early)) (each-earlier test s slots h))

  -- ---- new marks

  -- before what a rule leases it leaves none in the backlog
  first-remarked : (rule : Slot → Mark) (slots : List Slot) → AllByRecursion (λ (s : Slot). is_leased (rule s) ≡ true → NoneEarlier ordering (λ (e : Slot). is_backlog (rule e)) s slots) slots → HasLeasedFirst ordering (remarked rule slots)
  first-remarked rule slots h =
      each-map (λ (s : Slot). is_leased (rule s) ≡ true → NoneEarlier ordering (λ (e : Slot). is_backlog (rule e)) s slots) (IsFirst ordering (remarked rule slots)) (λ (s : Slot). remark s (rule s)) slots
      (λ s none leased. from-none-earlier (λ (e : Slot). is_backlog e.mark) (remark s (rule s)) (remarked rule slots)
      (each-map (λ (e : Slot). is_earlier ordering e s ≡ true → is_backlog (rule e) ≡ false) (λ (e : Slot). is_earlier ordering e (remark s (rule s)) ≡ true → is_backlog e.mark ≡ false) (λ (e : Slot). remark e (rule e)) slots (λ e k. k) (none leased))) h

  still : (new old : Bool) → (new ≡ true → old ≡ true) → old ≡ false → new ≡ false
  still true old f h = absurd (false≢true (sym h ∙ f refl))
  still false old f h = refl

  -- a rule that leases nothing, and puts nothing into the backlog
  pub first-calm : (rule : Slot → Mark) → ((s : Slot) → is_leased (rule s) ≡ true → is_leased s.mark ≡ true) → ((s : Slot) → is_backlog (rule s) ≡ true → is_backlog s.mark ≡ true)
      → (slots : List Slot) → HasLeasedFirst ordering slots → HasLeasedFirst ordering (remarked rule slots)
  first-calm rule down up slots h =
      first-remarked rule slots
      (each-then (IsFirst ordering slots) (λ (s : Slot). is_leased (rule s) ≡ true → NoneEarlier ordering (λ (e : Slot). is_backlog (rule e)) s slots) slots
      (λ s first leased. each-then (λ (e : Slot). is_earlier ordering e s ≡ true → is_backlog e.mark ≡ false) (λ (e : Slot). is_earlier ordering e s ≡ true → is_backlog (rule e) ≡ false) slots
      (λ e none early. still (is_backlog (rule e)) (is_backlog e.mark) (up e) (none early)) (each-earlier (λ (e : Slot). is_backlog e.mark) s slots (first (down s leased)))) h)

  -- what is gone leaves
  pub first-live : (slots : List Slot) → HasLeasedFirst ordering slots → HasLeasedFirst ordering (live slots)
  first-live slots h =
      each-filter (IsFirst ordering slots) (IsFirst ordering (live slots)) (λ (s : Slot). not (is_gone s.mark)) slots
      (λ s here first leased. from-none-earlier (λ (e : Slot). is_backlog e.mark) s (live slots)
      (each-filter (λ (e : Slot). is_earlier ordering e s ≡ true → is_backlog e.mark ≡ false) (λ (e : Slot). is_earlier ordering e s ≡ true → is_backlog e.mark ≡ false) (λ (e : Slot). not (is_gone e.mark)) slots (λ e left none. none)
      (each-earlier (λ (e : Slot). is_backlog e.mark) s slots (first leased)))) h

  -- ---- a message more

  not-later : (e s : Slot) → s.item.number < e.item.number → is_earlier ordering e s ≡ false
  not-later e s above = false_from_ne_true (is_earlier ordering e s) (λ early. let below : e.item.number < s.item.number = earlier-number e s early in omega (arith, above, below))

  not-itself : (s : Slot) → is_earlier ordering s s ≡ false
  not-itself s = false_from_ne_true (is_earlier ordering s s) (λ early. let below : s.item.number < s.item.number = earlier-number s s early in omega (arith, below))

  in-order : (slots : List Slot) (item : Item) (mark : Mark) → IsInOrder ordering slots item mark → is_leased mark ≡ true → any_earlier ordering (λ (e : Slot). is_backlog e.mark) slots (record { item = item; mark = mark }) ≡ false
  in-order slots item (Leased failures lease deadline) h leased = h
  in-order slots item (Backlog failures until last) h leased = absurd (false≢true leased)
  in-order slots item (Ahead failures) h leased = absurd (false≢true leased)
  in-order slots item (Done cause) h leased = absurd (false≢true leased)
  in-order slots item (Gone cause) h leased = absurd (false≢true leased)

  none-more : (slots : List Slot) (last s : Slot) → is_earlier ordering last s ≡ false → any_earlier ordering (λ (e : Slot). is_backlog e.mark) slots s ≡ false → any_earlier ordering (λ (e : Slot). is_backlog e.mark) (slots ++ last ∷ []) s ≡ false
  none-more slots last s other h =
      from-none-earlier (λ (e : Slot). is_backlog e.mark) s (slots ++ last ∷ [])
      (each-behind (λ (e : Slot). is_earlier ordering e s ≡ true → is_backlog e.mark ≡ false) slots last (each-earlier (λ (e : Slot). is_backlog e.mark) s slots h) (λ early. absurd (false≢true (sym other ∙ early))))

  pub first-append : (slots : List Slot) (s : Slot) → AllByRecursion (λ (e : Slot). e.item.number < s.item.number) slots → IsInOrder ordering slots s.item s.mark → HasLeasedFirst ordering slots → HasLeasedFirst ordering (slots ++ s ∷ [])
  first-append slots s below order h =
      each-behind (IsFirst ordering (slots ++ s ∷ [])) slots s
      (each-then-both (λ (e : Slot). e.item.number < s.item.number) (IsFirst ordering slots) (IsFirst ordering (slots ++ s ∷ [])) slots (λ e under first leased. none-more slots s e (not-later s e under) (first leased)) below h)
      (λ leased. none-more slots s s (not-itself s) (in-order slots s.item s.mark order leased))

-- ---- acknowledging

ack-leased : (named early once : Bool) (m : Mark) → is_leased (if named then (if early then (if once then m else Ahead (failures_of m)) else Done Acknowledged) else m) ≡ true → is_leased m ≡ true
ack-leased false early once m h = h
ack-leased true false once m h = absurd (false≢true h)
ack-leased true true true m h = h
ack-leased true true false m h = absurd (false≢true h)

ack-backlog : (named early once : Bool) (m : Mark) → is_backlog (if named then (if early then (if once then m else Ahead (failures_of m)) else Done Acknowledged) else m) ≡ true → is_backlog m ≡ true
ack-backlog false early once m h = h
ack-backlog true false once m h = absurd (false≢true h)
ack-backlog true true true m h = h
ack-backlog true true false m h = absurd (false≢true h)

pub acknowledging-first : (config : SubConfig) (tickets : List Ticket) (slots : List Slot) → HasLeasedFirst config.ordering slots → HasLeasedFirst config.ordering (remarked (mark_after_ack config tickets slots) slots)
acknowledging-first config tickets slots h =
    first-calm config.ordering (mark_after_ack config tickets slots) (λ s. ack-leased (is_named config.exactly_once tickets s) (is_early config tickets slots s) config.exactly_once s.mark)
    (λ s. ack-backlog (is_named config.exactly_once tickets s) (is_early config tickets slots s) config.exactly_once s.mark) slots h

-- ---- failing

failed-free : (t : ℕ) (forward : Bool) (config : SubConfig) (m : Mark) → is_leased (failed t forward config m) ≡ false
failed-free t forward config (Leased failures lease deadline) =
    cond_both (is_dead config.dead_letter forward (one_more failures)) (Done Dead) (Backlog (one_more failures) (retry_at config.retry t (one_more failures)) (Some lease)) (λ (m : Mark). is_leased m ≡ false) (λ _. refl) (λ _. refl)
failed-free t forward config (Backlog failures until last) = refl
failed-free t forward config (Ahead failures) = refl
failed-free t forward config (Done cause) = refl
failed-free t forward config (Gone cause) = refl

fallen-free : (m : Mark) → is_leased (fallen m) ≡ false
fallen-free (Leased failures lease deadline) = refl
fallen-free (Backlog failures until last) = refl
fallen-free (Ahead failures) = refl
fallen-free (Done cause) = refl
fallen-free (Gone cause) = refl

-- what stays leased didn't fail, and neither did an earlier one of its key
left-leased : (t : ℕ) (forward : Bool) (config : SubConfig) (fails behind : Bool) (m : Mark) → is_leased (if fails then failed t forward config m else (if behind then fallen m else m)) ≡ true → (fails ≡ false) × ((behind ≡ false) × (is_leased m ≡ true))
left-leased t forward config true behind m h = absurd (false≢true (sym (failed-free t forward config m) ∙ h))
left-leased t forward config false true m h = absurd (false≢true (sym (fallen-free m) ∙ h))
left-leased t forward config false false m h = (refl, (refl, h))

pub failing-first : (fails : Slot → Bool) (t : ℕ) (forward : Bool) (config : SubConfig) (slots : List Slot) → HasLeasedFirst config.ordering slots → HasLeasedFirst config.ordering (remarked (mark_after_failing fails t forward config slots) slots)
failing-first fails t forward config slots h =
    first-remarked config.ordering rule slots (each-then (IsFirst config.ordering slots) (λ (s : Slot). is_leased (rule s) ≡ true → NoneEarlier config.ordering (λ (e : Slot). is_backlog (rule e)) s slots) slots one h)
  where
    rule : Slot → Mark
    rule = mark_after_failing fails t forward config slots

    stays : (e : Slot) → fails e ≡ false → any_earlier config.ordering fails slots e ≡ false → is_backlog e.mark ≡ false → is_backlog (mark_after_failing fails t forward config slots e) ≡ false
    stays e fine before other = rw (fine, before) other

    one : (s : Slot) → IsFirst config.ordering slots s → is_leased (mark_after_failing fails t forward config slots s) ≡ true → NoneEarlier config.ordering (λ (e : Slot). is_backlog (mark_after_failing fails t forward config slots e)) s slots
    one s first leased =
        let parts = left-leased t forward config (fails s) (any_earlier config.ordering fails slots s) s.mark leased in
        each-then-both (λ (e : Slot). is_earlier config.ordering e s ≡ true → fails e ≡ false) (λ (e : Slot). is_earlier config.ordering e s ≡ true → is_backlog e.mark ≡ false)
        (λ (e : Slot). is_earlier config.ordering e s ≡ true → is_backlog (mark_after_failing fails t forward config slots e) ≡ false) slots
        (λ e fine none early. stays e (fine early) (earlier-none config.ordering fails slots e s early parts.1.0) (none early))
        (each-earlier config.ordering fails s slots parts.1.0) (each-earlier config.ordering (λ (e : Slot). is_backlog e.mark) s slots (first parts.1.1))

-- ---- setting deadlines

set-leased : (deadline : ℕ) (m : Mark) → is_leased (set_deadline deadline m) ≡ is_leased m
set-leased deadline (Leased failures lease before) = refl
set-leased deadline (Backlog failures until last) = refl
set-leased deadline (Ahead failures) = refl
set-leased deadline (Done cause) = refl
set-leased deadline (Gone cause) = refl

set-backlog : (deadline : ℕ) (m : Mark) → is_backlog (set_deadline deadline m) ≡ is_backlog m
set-backlog deadline (Leased failures lease before) = refl
set-backlog deadline (Backlog failures until last) = refl
set-backlog deadline (Ahead failures) = refl
set-backlog deadline (Done cause) = refl
set-backlog deadline (Gone cause) = refl

-- what a mark is like stays with its deadline changed, if that holds of each
pub extended-same : (is : Mark → Bool) → ((deadline : ℕ) (m : Mark) → is (set_deadline deadline m) ≡ is m) → (t : ℕ) (m : Mark) (seconds : Option ℕ) → is (extended_by t m seconds) ≡ is m
extended-same is same t m None = refl
extended-same is same t m (Some seconds) = cond_both (nat_eq seconds 0) m (set_deadline (t + 1000 * seconds) m) (λ (n : Mark). is n ≡ is m) (λ _. refl) (λ _. same (t + 1000 * seconds) m)

pub extending-first : (ordering : Bool) (t : ℕ) (items : List (Ticket × ℕ)) (slots : List Slot) → HasLeasedFirst ordering slots → HasLeasedFirst ordering (remarked (extended_mark t items) slots)
extending-first ordering t items slots h =
    first-calm ordering (extended_mark t items) (λ s leased. sym (extended-same is_leased set-leased t s.mark (seconds_for items s None)) ∙ leased) (λ s waits. sym (extended-same is_backlog set-backlog t s.mark (seconds_for items s None)) ∙ waits) slots h

-- ---- expunging

module _ (is : Mark → Bool) (never : (m : Mark) → is (lapsed m) ≡ false) (caught : (m : Mark) → is (caught_up_as m) ≡ true → is m ≡ true) where
  kept-mark : (b : Bool) (m : Mark) → is (if b then m else lapsed m) ≡ true → is m ≡ true
  kept-mark true m h = h
  kept-mark false m h = absurd (false≢true (sym (never m) ∙ h))

  caught-mark : (b : Bool) (m : Mark) → is (if b then m else caught_up_as m) ≡ true → is m ≡ true
  caught-mark true m h = h
  caught-mark false m h = caught m h

  released : (b : Bool) (m : Mark) → is (if b then lapsed m else m) ≡ true → is m ≡ true
  released true m h = absurd (false≢true (sym (never m) ∙ h))
  released false m h = h

  was-before : (t : ℕ) (config : SubConfig) (held : Holds) (slots : List Slot) (s : Slot) → is (expunged_mark t config held slots s) ≡ true → is s.mark ≡ true
  was-before t config held slots s h =
      let first : Mark = expired_mark t config held s in
      let second : Mark = if is_behind t config held slots s then first else caught_up_as first in
      kept-mark (is_done s.mark || holds t config held s) s.mark (caught-mark (is_behind t config held slots s) first (released (is_done second && not (holds t config held (remark s second))) second h))

lapsed-free : (m : Mark) → is_leased (lapsed m) ≡ false
lapsed-free (Leased failures lease deadline) = refl
lapsed-free (Backlog failures until last) = refl
lapsed-free (Ahead failures) = refl
lapsed-free (Done cause) = refl
lapsed-free (Gone cause) = refl

lapsed-out : (m : Mark) → is_backlog (lapsed m) ≡ false
lapsed-out (Leased failures lease deadline) = refl
lapsed-out (Backlog failures until last) = refl
lapsed-out (Ahead failures) = refl
lapsed-out (Done cause) = refl
lapsed-out (Gone cause) = refl

caught-leased : (m : Mark) → is_leased (caught_up_as m) ≡ true → is_leased m ≡ true
caught-leased (Leased failures lease deadline) h = h
caught-leased (Backlog failures until last) h = h
caught-leased (Ahead failures) h = h
caught-leased (Done cause) h = h
caught-leased (Gone cause) h = h

caught-backlog : (m : Mark) → is_backlog (caught_up_as m) ≡ true → is_backlog m ≡ true
caught-backlog (Leased failures lease deadline) h = h
caught-backlog (Backlog failures until last) h = h
caught-backlog (Ahead failures) h = h
caught-backlog (Done cause) h = h
caught-backlog (Gone cause) h = h

pub expunging-first : (t : ℕ) (config : SubConfig) (held : Holds) (slots : List Slot) → HasLeasedFirst config.ordering slots → HasLeasedFirst config.ordering (live (remarked (expunged_mark t config held slots) slots))
expunging-first t config held slots h =
    first-live config.ordering (remarked (expunged_mark t config held slots) slots)
    (first-calm config.ordering (expunged_mark t config held slots) (was-before is_leased lapsed-free caught-leased t config held slots) (was-before is_backlog lapsed-out caught-backlog t config held slots) slots h)

-- ---- handing out

-- nothing is handed out under a number that is below all
below-none : (lease most budget n : ℕ) (xs : List Slot) → AllByRecursion (λ (x : Slot). n < x.item.number) xs → lease_in (handed lease (first_of_them most budget xs)) n ≡ None
below-none lease most budget n [] h = refl
below-none lease most budget n (x ∷ xs) h =
    let ne : x.item.number ≢ n = omega (arith, h.0) in
    cond_both (nat_eq most 0 || nat_eq budget 0) [] (x ∷ first_of_them (most - 1) (budget - x.item.size) xs) (λ ys. lease_in (handed lease ys) n ≡ None) (λ _. refl)
    (λ _. rw (ne_eqb x.item.number n ne) (below-none (lease + 1) (most - 1) (budget - x.item.size) n xs h.1))

-- what is handed out passes the test of those that it was chosen from
handed-passes : (p : Slot → Bool) (lease most budget : ℕ) (slots : List Slot) → IsAscending slots → AllByRecursion (λ (s : Slot). is_some (lease_in (handed lease (first_of_them most budget (filter p slots))) s.item.number) ≡ true → p s ≡ true) slots
handed-passes p lease most budget [] up = tt
handed-passes p lease most budget (x ∷ xs) up = by (p x) refl (handed-passes p lease most budget xs up.1) (handed-passes p (lease + 1) (most - 1) (budget - x.item.size) xs up.1)
  where
    above : AllByRecursion (λ (y : Slot). x.item.number < y.item.number) (filter p xs)
    above = each-filter (λ (y : Slot). x.item.number < y.item.number) (λ (y : Slot). x.item.number < y.item.number) p xs (λ y passes over. over) up.0

    later : (rest : List Slot) (y : Slot) → x.item.number < y.item.number → (is_some (lease_in (handed (lease + 1) rest) y.item.number) ≡ true → p y ≡ true) → is_some (lease_in (handed lease (x ∷ rest)) y.item.number) ≡ true → p y ≡ true
    later rest y over k some =
        let ne : x.item.number ≢ y.item.number = omega (arith, over) in
        k (ap (λ (b : Bool). is_some (cond b (Some lease) (lease_in (handed (lease + 1) rest) y.item.number))) (sym (ne_eqb x.item.number y.item.number ne)) ∙ some)

    by : (b : Bool) → p x ≡ b → AllByRecursion (λ (s : Slot). is_some (lease_in (handed lease (first_of_them most budget (filter p xs))) s.item.number) ≡ true → p s ≡ true) xs
        → AllByRecursion (λ (s : Slot). is_some (lease_in (handed (lease + 1) (first_of_them (most - 1) (budget - x.item.size) (filter p xs))) s.item.number) ≡ true → p s ≡ true) xs
        → AllByRecursion (λ (s : Slot). is_some (lease_in (handed lease (first_of_them most budget (cond b (x ∷ filter p xs) (filter p xs)))) s.item.number) ≡ true → p s ≡ true) (x ∷ xs)
    by false fails skipped taken =
        ((λ some. absurd (false≢true (ap is_some (sym (below-none lease most budget x.item.number (filter p xs) above)) ∙ some))), skipped)
    by true passes skipped taken = (
      (λ some. passes),
      cond_both (nat_eq most 0 || nat_eq budget 0) [] (x ∷ first_of_them (most - 1) (budget - x.item.size) (filter p xs)) (λ (chosen : List Slot). AllByRecursion (λ (s : Slot). is_some (lease_in (handed lease chosen) s.item.number) ≡ true → p s ≡ true) xs)
          (λ _. each-always (λ (s : Slot). false ≡ true → p s ≡ true) xs (λ s none. absurd (false≢true none)))
          (λ _. each-then-both (λ (y : Slot). x.item.number < y.item.number) (λ (y : Slot). is_some (lease_in (handed (lease + 1) (first_of_them (most - 1) (budget - x.item.size) (filter p xs))) y.item.number) ≡ true → p y ≡ true)
          (λ (y : Slot). is_some (lease_in (handed lease (x ∷ first_of_them (most - 1) (budget - x.item.size) (filter p xs))) y.item.number) ≡ true → p y ≡ true) xs (later (first_of_them (most - 1) (budget - x.item.size) (filter p xs))) up.0 taken),
    )

-- what is before something that is handed out is handed out
abbrev IsInFront : ℕ → List Slot → Slot → Type 0
IsInFront lease taken s = (k : ℕ) → s.item.number < k → is_some (lease_in (handed lease taken) k) ≡ true → is_some (lease_in (handed lease taken) s.item.number) ≡ true

ascending-filter : (p : Slot → Bool) (slots : List Slot) → IsAscending slots → IsAscending (filter p slots)
ascending-filter p [] h = tt
ascending-filter p (s ∷ ss) h =
    cond_both (p s) (s ∷ filter p ss) (filter p ss) IsAscending
    (λ _. (each-filter (λ (y : Slot). s.item.number < y.item.number) (λ (y : Slot). s.item.number < y.item.number) p ss (λ y passes over. over) h.0, ascending-filter p ss h.1)) (λ _. ascending-filter p ss h.1)

first-in-front : (lease most budget : ℕ) (xs : List Slot) → IsAscending xs → AllByRecursion (IsInFront lease (first_of_them most budget xs)) xs
first-in-front lease most budget [] h = tt
first-in-front lease most budget (s ∷ ss) h =
    cond_both (nat_eq most 0 || nat_eq budget 0) [] (s ∷ taken) (λ ys. AllByRecursion (IsInFront lease ys) (s ∷ ss))
    (λ _. each-always (IsInFront lease []) (s ∷ ss) (λ x k up e. absurd (false≢true e)))
    (λ _. (
      λ k up e. rw (eq-eqb s.item.number s.item.number refl) refl,
      each-then (λ x. (s.item.number < x.item.number) × IsInFront (lease + 1) taken x) (IsInFront lease (s ∷ taken)) ss (λ x p. behind x p.0 p.1)
          (each-both (λ (x : Slot). s.item.number < x.item.number) (IsInFront (lease + 1) taken) ss h.0 (first-in-front (lease + 1) (most - 1) (budget - s.item.size) ss h.1)),
    ))
  where
    taken : List Slot
    taken = first_of_them (most - 1) (budget - s.item.size) ss

    other : (k : ℕ) → s.item.number < k → nat_eq s.item.number k ≡ false
    other k up = let ne : s.item.number ≢ k = omega (arith, up) in ne_eqb s.item.number k ne

    behind : (x : Slot) → s.item.number < x.item.number → IsInFront (lease + 1) taken x → IsInFront lease (s ∷ taken) x
    behind x above k' k up e =
        let rest : is_some (lease_in (handed (lease + 1) taken) k) ≡ true = ap (λ b. is_some (cond b (Some lease) (lease_in (handed (lease + 1) taken) k))) (sym (other k (omega (arith, above, up)))) ∙ e in
        ap (λ b. is_some (cond b (Some lease) (lease_in (handed (lease + 1) taken) x.item.number))) (other x.item.number above) ∙ k' k up rest

waiting-or-ready : (t : ℕ) (mark : Mark) → is_backlog mark ≡ true → is_waiting t mark ≡ false → is_ready t mark ≡ true
waiting-or-ready t (Backlog f u l) e w = le-leb u t (ltb-false t u w)
waiting-or-ready t (Leased f l d) e w = absurd (false≢true e)
waiting-or-ready t (Ahead f) e w = absurd (false≢true e)
waiting-or-ready t (Done c) e w = absurd (false≢true e)
waiting-or-ready t (Gone c) e w = absurd (false≢true e)

module _ (t : ℕ) (ordering : Bool) (most budget lease deadline : ℕ) (slots : List Slot) (up : IsAscending slots) where
  abbrev given : List Handed
  given = handed lease (choice t ordering most budget slots)

  abbrev waits : Slot → Bool
  waits e = is_waiting t e.mark

  -- a message that could go out and is earlier than one that goes out does
  goes-too : (e s : Slot) → is_earlier ordering e s ≡ true → any_earlier ordering waits slots s ≡ false → is_waiting t e.mark ≡ false → (is_deliverable t ordering slots e ≡ true → IsInFront lease (choice t ordering most budget slots) e)
      → is_some (lease_in given s.item.number) ≡ true → is_backlog e.mark ≡ true → is_some (lease_in given e.item.number) ≡ true
  goes-too e s early none ready front some backlog =
      front (and_from (is_ready t e.mark) (not (any_earlier ordering waits slots e)) (waiting-or-ready t e.mark backlog ready) (ap not (earlier-none ordering waits slots e s early none))) s.item.number (earlier-number ordering e s early) some

  lent-backlog : (e : Slot) (o : Option ℕ) → lease_in given e.item.number ≡ o → (is_backlog e.mark ≡ true → is_some o ≡ true) → is_backlog (leased_as deadline e.mark o) ≡ false
  lent-backlog e (Some l) is h = refl
  lent-backlog e None is h = false_from_ne_true (is_backlog e.mark) (λ backlog. false≢true (h backlog))

  pub lending-first : HasLeasedFirst ordering slots → HasLeasedFirst ordering (remarked (lent_mark deadline given) slots)
  lending-first h =
      first-remarked ordering (lent_mark deadline given) slots
      (each-then-both (IsFirst ordering slots) (λ (s : Slot). is_some (lease_in given s.item.number) ≡ true → is_deliverable t ordering slots s ≡ true)
      (λ (s : Slot). is_leased (lent_mark deadline given s) ≡ true → NoneEarlier ordering (λ (e : Slot). is_backlog (lent_mark deadline given e)) s slots) slots
      (λ s first passes. one s (lease_in given s.item.number) refl first passes) h (handed-passes (is_deliverable t ordering slots) lease most budget slots up))
    where
      fronts : AllByRecursion (λ (e : Slot). is_deliverable t ordering slots e ≡ true → IsInFront lease (choice t ordering most budget slots) e) slots
      fronts = each-of-filter (IsInFront lease (choice t ordering most budget slots)) (is_deliverable t ordering slots) slots
          (first-in-front lease most budget (deliverable t ordering slots) (ascending-filter (is_deliverable t ordering slots) slots up))

      one : (s : Slot) (o : Option ℕ) → lease_in given s.item.number ≡ o → IsFirst ordering slots s → (is_some (lease_in given s.item.number) ≡ true → is_deliverable t ordering slots s ≡ true)
          → is_leased (leased_as deadline s.mark o) ≡ true → NoneEarlier ordering (λ (e : Slot). is_backlog (lent_mark deadline given e)) s slots
      one s None is first passes leased =
          each-then (λ (e : Slot). is_earlier ordering e s ≡ true → is_backlog e.mark ≡ false) (λ (e : Slot). is_earlier ordering e s ≡ true → is_backlog (lent_mark deadline given e) ≡ false) slots
          (λ e none early. lent-backlog e (lease_in given e.item.number) refl (λ backlog. absurd (false≢true (sym (none early) ∙ backlog)))) (each-earlier ordering (λ (e : Slot). is_backlog e.mark) s slots (first leased))
      one s (Some l) is first passes leased =
          let some : is_some (lease_in given s.item.number) ≡ true = ap is_some is in
          let none : any_earlier ordering waits slots s ≡ false = not-true (any_earlier ordering waits slots s) (and_parts (is_ready t s.mark) (not (any_earlier ordering waits slots s)) (passes some)).1 in
          each-then-both (λ (e : Slot). is_earlier ordering e s ≡ true → is_waiting t e.mark ≡ false) (λ (e : Slot). is_deliverable t ordering slots e ≡ true → IsInFront lease (choice t ordering most budget slots) e)
          (λ (e : Slot). is_earlier ordering e s ≡ true → is_backlog (lent_mark deadline given e) ≡ false) slots
          (λ e ready front early. lent-backlog e (lease_in given e.item.number) refl (goes-too e s early none (ready early) front some)) (each-earlier ordering waits s slots none) fronts
