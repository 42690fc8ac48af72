-- Whether a pull and an acknowledgement change the world, and when the next lease ends.
use Rattle.std.proofs.Common.{ℕ, ◌≡◌, ◌≢◌, ◌+◌, ◌*◌, ◌<◌, ◌≤◌, Bool, true, false, cond, nat_eq, List, [], ◌∷◌, Option, Some, None, IfSome, option_map, map, filter, length, refl, sym, ◌∙◌, ap, arith, if◌then◌else◌}
use Rattle.std.specs.List.{AllByRecursion, list_any}
use Rattle.std.proofs.lemmas.Bool.{cond_both, eq-eqb, eqb-false, false_from_ne_true, lt-leb, or_from, or_parts}
use Rattle.std.proofs.lemmas.List.{map-id, nil_from_length}
use Rattle.ps_config.specs.declared.config.SubConfig.{SubConfig}
use Rattle.ps_model.specs.declared.mark.DoneCause.TheVariants.{Acknowledged, Dead}
use Rattle.ps_model.specs.declared.mark.Handed.{Handed}
use Rattle.ps_model.specs.declared.mark.Mark.{Mark}
use Rattle.ps_model.specs.declared.mark.Mark.TheVariants.{Backlog, Leased, Ahead, Done, Gone}
use Rattle.ps_model.specs.declared.mark.Slot.{Slot}
use Rattle.ps_model.specs.declared.mark.Ticket.{Ticket}
use Rattle.ps_model.specs.declared.world.MarkRow.{MarkRow}
use Rattle.ps_model.specs.declared.world.SubRow.{SubRow}
use Rattle.ps_model.specs.Acknowledging.{acknowledge, is_early, is_named, mark_after_ack}
use Rattle.ps_model.specs.Choice.{lease_in, leased_as, lent_mark}
use Rattle.ps_model.specs.Failing.{failed, fallen, is_dead, is_due, is_over, one_more, retry_at}
use Rattle.ps_model.specs.Answering.{ticket_of}
use Rattle.ps_model.specs.Modifying.{extended_by, extended_mark, is_given_up, names, seconds_for, set_deadline}
use Rattle.ps_model.specs.Retention.{caught_up_as}
use Rattle.ps_sub.specs.Modifying.{modified_mark}
use Rattle.ps_base.specs.declared.ack_id.AckId.{AckId}
use Rattle.ps_core.specs.Delivering.{NotBefore, item_of, items_of}
use Rattle.ps_model.specs.Same.{WorldParts, same_world}
use Rattle.ps_model.specs.Slots.{any_earlier, failures_of, is_unacked, remark, remarked}
use Rattle.ps_model.specs.Worlds.{rows_of}
use Rattle.ps_model.proofs.SameLemmas.{same-world}
use Rattle.ps_tables.specs.declared.kept_subscription.KeptSubscription.{KeptSubscription}
use Rattle.ps_core.specs.Effects.{is_any_due, lend_subscription}
use Rattle.ps_core.specs.Settling.{has_due}
use Rattle.ps_core.specs.State.{State, flat_marks, seen, sub_row}
use Rattle.ps_core.specs.Steady.{IsSteady}
use Rattle.ps_base.proofs.Lists.{each-found, each-then, found-map, map-rests}
use Rattle.ps_core.proofs.delivering.Marked.{marked, marked_at, marked-holder, marked-idle, marked-order, StandsIn}
use Rattle.ps_core.proofs.delivering.Seen.{ack_rule, lent_at, rows-there, same-there}
use Rattle.ps_core.proofs.marks.OnePlace.{remarked-back}

-- where a view of all doesn't change, that of each doesn't
views-back : {A B : Type 0} (view : A → B) (f : A → A) (xs : List A) → map view xs ≡ map view (map f xs) → AllByRecursion (λ (x : A). view x ≡ view (f x)) xs
views-back view f [] e = tt
views-back view f (x ∷ xs) e =
    let first : view x ≡ view (f x) = cc (e) in
    let rest : map view xs ≡ map view (map f xs) = cc (e) in
    (first, views-back view f xs rest)

module _ (s : State) (h : IsSteady s) (x : KeptSubscription) (there : StandsIn s.subscriptions x) where
  module _ (rule : Slot → Mark) (next : ℕ → ℕ) where
    here : marked_at x.number rule next x ≡ marked x.number rule next x
    here = ap (λ (own : Bool). if own then marked x.number rule next x else x) (eq-eqb x.number x.number refl)

    -- the one that was marked stands among the others
    stands-marked : StandsIn (map (marked_at x.number rule next) s.subscriptions) (marked x.number rule next x)
    stands-marked =
        found-map (λ (y : KeptSubscription). nat_eq y.number x.number) (marked_at x.number rule next) s.subscriptions (λ y. ap (λ (n : ℕ). nat_eq n x.number) (marked-holder x.number rule next y).number)
        ∙ ap (option_map (marked_at x.number rule next)) there ∙ ap Some here

    -- the number of its next lease is in the world
    lease-moves : same_world (seen s) (seen (record s { subscriptions = map (marked_at x.number rule next) s.subscriptions })) ≡ true → x.sub.next_lease ≡ next x.sub.next_lease
    lease-moves e =
        let rows : map sub_row s.subscriptions ≡ map sub_row (map (marked_at x.number rule next) s.subscriptions) =
        ap (λ (p : WorldParts). p.1.1.1.1.1.0) (same-world (seen s) (seen (record s { subscriptions = map (marked_at x.number rule next) s.subscriptions })) e) in
        let row = each-found (λ (y : KeptSubscription). sub_row y ≡ sub_row (marked_at x.number rule next y)) (λ (y : KeptSubscription). nat_eq y.number x.number) s.subscriptions x there (views-back sub_row (marked_at x.number rule next) s.subscriptions rows) in
        ap (λ (r : SubRow). r.next_lease) (row ∙ ap sub_row here)

    -- and so are its marks
    marks-move : same_world (seen s) (seen (record s { subscriptions = map (marked_at x.number rule next) s.subscriptions })) ≡ true → remarked rule x.sub.slots ≡ x.sub.slots
    marks-move e =
        let marks : flat_marks s.subscriptions ≡ flat_marks (map (marked_at x.number rule next) s.subscriptions) =
        ap (λ (p : WorldParts). p.1.1.1.1.1.1.1.1) (same-world (seen s) (seen (record s { subscriptions = map (marked_at x.number rule next) s.subscriptions })) e) in
        remarked-back x.number rule x.sub.slots
        (sym (rows-there s.subscriptions h.subscriptions x there) ∙ ap (λ (rows : List MarkRow). rows_of rows x.number) marks
        ∙ rows-there (map (marked_at x.number rule next) s.subscriptions) (marked-order x.number rule next s.subscriptions h.subscriptions) (marked x.number rule next x) stands-marked)

  -- A pull that hands something out changes the world.
  pub pulled-moves : (deadline : ℕ) (given : List Handed) → given ≢ [] → same_world (seen s) (seen (record s { subscriptions = map (lent_at x deadline given) s.subscriptions })) ≡ false
  pulled-moves deadline given some =
      false_from_ne_true _ (λ e.
      let leases : x.sub.next_lease ≡ x.sub.next_lease + length given = lease-moves (lent_mark deadline given) (λ lease. lease + length given) e in
      some (nil_from_length given (omega (arith, leases))))

  -- New marks change the world, if one of them is another.
  pub marked-moves : (rule : Slot → Mark) → remarked rule x.sub.slots ≢ x.sub.slots → same_world (seen s) (seen (record s { subscriptions = map (marked_at x.number rule (λ (lease : ℕ). lease)) s.subscriptions })) ≡ false
  marked-moves rule moved = false_from_ne_true _ (λ e. moved (marks-move rule (λ lease. lease) e))

  -- New marks that are as before leave the subscriptions.
  pub marked-none : (rule : Slot → Mark) → remarked rule x.sub.slots ≡ x.sub.slots → map (marked_at x.number rule (λ (lease : ℕ). lease)) s.subscriptions ≡ s.subscriptions
  marked-none rule same =
      map-rests (marked_at x.number rule (λ (lease : ℕ). lease)) s.subscriptions
      (each-then (λ (y : KeptSubscription). nat_eq y.number x.number ≡ true → y ≡ x) (λ (y : KeptSubscription). marked_at x.number rule (λ (lease : ℕ). lease) y ≡ y) s.subscriptions (λ y own. by y (nat_eq y.number x.number) own) (same-there s h x there))
    where
      by : (y : KeptSubscription) (b : Bool) → (b ≡ true → y ≡ x) → (if b then marked x.number rule (λ (lease : ℕ). lease) y else y) ≡ y
      by y true own = ap (marked x.number rule (λ (lease : ℕ). lease)) (own refl) ∙ (λ i. record x { sub = record x.sub { slots = same i } }) ∙ sym (own refl)
      by y false own = refl

-- Others leave the subscription.
pub lent-none : (deadline : ℕ) (x : KeptSubscription) → lend_subscription deadline [] x ≡ x
lent-none deadline x =
    let leases : x.sub.next_lease + 0 ≡ x.sub.next_lease = omega arith in
    λ i. record x { sub = record x.sub { slots = map-id x.sub.slots i; next_lease = leases i } }

-- ---- the next end of a lease

-- a rule that makes no lease end by the moment
none-due : (at : ℕ) (rule : Slot → Mark) → ((slot : Slot) → is_over at slot.mark ≡ false → is_over at (rule slot) ≡ false)
    → (slots : List Slot) → list_any (is_due at) slots ≡ false → list_any (is_due at) (remarked rule slots) ≡ false
none-due at rule keeps [] h = refl
none-due at rule keeps (s ∷ ss) h =
    let parts = or_parts (is_due at s) (list_any (is_due at) ss) h in
    or_from (is_over at (rule s)) (list_any (is_due at) (remarked rule ss)) (keeps s parts.0) (none-due at rule keeps ss parts.1)

leased-later : (at deadline : ℕ) (mark : Mark) (lease : Option ℕ) → at < deadline → is_over at mark ≡ false → is_over at (leased_as deadline mark lease) ≡ false
leased-later at deadline mark None late h = h
leased-later at deadline mark (Some lease) late h = lt-leb deadline at late

caught-over : (at : ℕ) (m : Mark) → is_over at m ≡ false → is_over at (caught_up_as m) ≡ false
caught-over at (Backlog failures until last) h = h
caught-over at (Leased failures lease deadline) h = h
caught-over at (Ahead failures) h = refl
caught-over at (Done cause) h = h
caught-over at (Gone cause) h = h

acked-later : (at : ℕ) (config : SubConfig) (tickets : List Ticket) (slots : List Slot) (slot : Slot) → is_over at slot.mark ≡ false → is_over at (mark_after_ack config tickets slots slot) ≡ false
acked-later at config tickets slots slot h =
    let early : Mark = if config.exactly_once then slot.mark else Ahead (failures_of slot.mark) in
    let first : is_over at early ≡ false = cond_both config.exactly_once slot.mark (Ahead (failures_of slot.mark)) (λ (m : Mark). is_over at m ≡ false) (λ _. h) (λ _. refl) in
    cond_both (is_named config.exactly_once tickets slot) (if is_early config tickets slots slot then early else Done Acknowledged) slot.mark (λ (m : Mark). is_over at m ≡ false)
    (λ _. cond_both (is_early config tickets slots slot) early (Done Acknowledged) (λ (m : Mark). is_over at m ≡ false) (λ _. first) (λ _. refl)) (λ _. h)

-- after messages went out no lease ends before the earlier one of two moments: the one before which none ended, and their deadline
pub lent-idle : (s : State) (x : KeptSubscription) (deadline next_end next : ℕ) (given : List Handed) → next ≤ next_end → next ≤ deadline
    → ((at : ℕ) → at < next_end → is_any_due at s ≡ false) → (at : ℕ) → at < next → list_any (has_due at) (map (lent_at x deadline given) s.subscriptions) ≡ false
lent-idle s x deadline next_end next given before below idle at soon =
    marked-idle x.number (lent_mark deadline given) (λ (lease : ℕ). lease + length given) at
    (λ y none. none-due at (lent_mark deadline given) (λ slot h. leased-later at deadline slot.mark (lease_in given slot.item.number) (omega arith) h) y.sub.slots none) s.subscriptions (idle at (omega arith))

-- after new marks no lease ends before a moment, if none did and the rule makes none end
pub marked-later : (s : State) (x : KeptSubscription) (rule : Slot → Mark) (at : ℕ) → ((slot : Slot) → is_over at slot.mark ≡ false → is_over at (rule slot) ≡ false)
    → is_any_due at s ≡ false → list_any (has_due at) (map (marked_at x.number rule (λ (lease : ℕ). lease)) s.subscriptions) ≡ false
marked-later s x rule at keeps idle = marked-idle x.number rule (λ (lease : ℕ). lease) at (λ y none. none-due at rule keeps y.sub.slots none) s.subscriptions idle

-- after messages were acknowledged no lease ends earlier than before
pub returned-later : (at : ℕ) (x : KeptSubscription) (tickets : List Ticket) (slot : Slot) → is_over at slot.mark ≡ false → is_over at (ack_rule x tickets slot) ≡ false
returned-later at x tickets slot h =
    let rule : Mark = mark_after_ack x.sub.config tickets x.sub.slots slot in
    let acked : is_over at rule ≡ false = acked-later at x.sub.config tickets x.sub.slots slot h in
    cond_both (any_earlier x.sub.config.ordering (λ (e : Slot). is_unacked e.mark) (acknowledge x.sub.config tickets x.sub.slots) (remark slot rule)) rule (caught_up_as rule) (λ (m : Mark). is_over at m ≡ false) (λ _. acked) (λ _. caught-over at rule acked)

-- ---- deadlines that are set

-- what isn't before a moment isn't before an earlier one
pub none-sooner : (first less at : ℕ) (items : List (AckId × ℕ)) → less ≤ first → AllByRecursion (NotBefore first at) items → AllByRecursion (NotBefore less at) items
none-sooner first less at items below h = each-then (NotBefore first at) (NotBefore less at) items (λ x late some. omega (arith, below, late some)) h

seconds-among : (items : List (AckId × ℕ)) (first at : ℕ) → AllByRecursion (NotBefore first at) items → (n : ℕ) (s : Slot) (found : Option ℕ) → IfSome found (λ k. k ≢ 0 → first ≤ at + 1000 * k) → IfSome (seconds_for (items_of n items) s found) (λ k. k ≢ 0 → first ≤ at + 1000 * k)
seconds-among [] first at h n s found was = was
seconds-among (x ∷ xs) first at h n s found was = by (nat_eq x.0.sub n) (names (ticket_of x.0) s) (seconds-among xs first at h.1 n s found was) (seconds-among xs first at h.1 n s (Some x.1) h.0)
  where
    Late : Option ℕ → Type 0
    Late o = IfSome o (λ k. k ≢ 0 → first ≤ at + 1000 * k)

    by : (mine named : Bool) → Late (seconds_for (items_of n xs) s found) → Late (seconds_for (items_of n xs) s (Some x.1))
        → Late (seconds_for (map item_of (cond mine (x ∷ filter (λ (y : AckId × ℕ). nat_eq y.0.sub n) xs) (filter (λ (y : AckId × ℕ). nat_eq y.0.sub n) xs))) s found)
    by true named old new = pick (names (ticket_of x.0) s) old new
      where
        pick : (b : Bool) → Late (seconds_for (items_of n xs) s found) → Late (seconds_for (items_of n xs) s (Some x.1)) → Late (seconds_for (items_of n xs) s (if b then Some x.1 else found))
        pick true old new = new
        pick false old new = old
    by false named old new = old

over-set : (at deadline : ℕ) (m : Mark) → at < deadline → is_over at m ≡ false → is_over at (set_deadline deadline m) ≡ false
over-set at deadline (Leased failures lease before) late h = lt-leb deadline at late
over-set at deadline (Backlog failures until last) late h = refl
over-set at deadline (Ahead failures) late h = refl
over-set at deadline (Done cause) late h = refl
over-set at deadline (Gone cause) late h = refl

over-extended : (u first t : ℕ) (m : Mark) (seconds : Option ℕ) → u < first → IfSome seconds (λ k. k ≢ 0 → first ≤ t + 1000 * k) → is_over u m ≡ false → is_over u (extended_by t m seconds) ≡ false
over-extended u first t m None soon late h = h
over-extended u first t m (Some k) soon late h = by (nat_eq k 0) refl
  where
    by : (b : Bool) → nat_eq k 0 ≡ b → is_over u (if b then m else set_deadline (t + 1000 * k) m) ≡ false
    by true e = h
    by false e = over-set u (t + 1000 * k) m (omega (arith, soon, late (eqb-false k 0 e))) h

over-failed : (u t : ℕ) (config : SubConfig) (m : Mark) → is_over u m ≡ false → is_over u (failed t false config m) ≡ false
over-failed u t config (Leased failures lease deadline) h = cond_both (is_dead config.dead_letter false (one_more failures)) (Done Dead) (Backlog (one_more failures) (retry_at config.retry t (one_more failures)) (Some lease)) (λ (m : Mark). is_over u m ≡ false) (λ _. refl) (λ _. refl)
over-failed u t config (Backlog failures until last) h = refl
over-failed u t config (Ahead failures) h = refl
over-failed u t config (Done cause) h = refl
over-failed u t config (Gone cause) h = refl

over-fallen : (u : ℕ) (m : Mark) → is_over u m ≡ false → is_over u (fallen m) ≡ false
over-fallen u (Leased failures lease deadline) h = refl
over-fallen u (Backlog failures until last) h = refl
over-fallen u (Ahead failures) h = refl
over-fallen u (Done cause) h = refl
over-fallen u (Gone cause) h = refl

-- after deadlines were set no lease ends before the first of them, if none did
pub modified-later : (u first t : ℕ) (config : SubConfig) (n : ℕ) (items : List (AckId × ℕ)) (slots : List Slot) → AllByRecursion (NotBefore first t) items → u < first
    → (slot : Slot) → is_over u slot.mark ≡ false → is_over u (modified_mark t false config (items_of n items) slots slot) ≡ false
modified-later u first t config n items slots late soon slot h =
    let own : List (Ticket × ℕ) = items_of n items in
    let mark : Mark = extended_mark t own slot in
    let set : is_over u mark ≡ false = over-extended u first t slot.mark (seconds_for own slot None) soon (seconds-among items first t late n slot None tt) h in
    cond_both (is_given_up own slot) (failed t false config mark) (if any_earlier config.ordering (is_given_up own) slots slot then fallen mark else mark) (λ (m : Mark). is_over u m ≡ false)
    (λ _. over-failed u t config mark set)
    (λ _. cond_both (any_earlier config.ordering (is_given_up own) slots slot) (fallen mark) mark (λ (m : Mark). is_over u m ≡ false) (λ _. over-fallen u mark set) (λ _. set))
