-- What a pull and an acknowledgement of one subscription do to the world that a state stands for.
use Rattle.std.proofs.Common.{ℕ, ◌≡◌, ◌<◌, ◌+◌, ◌*◌, Bool, true, false, nat_eq, List, [], ◌∷◌, None, Some, is_some, map, length, if◌then◌else◌, refl, sym, ◌∙◌, ap}
use Rattle.std.specs.List.{AllByRecursion}
use Rattle.ps_model.specs.Sound.{Ordered}
use Rattle.ps_base.specs.declared.ack_id.AckId.{AckId}
use Rattle.ps_model.specs.declared.mark.Handed.{Handed}
use Rattle.ps_model.specs.declared.mark.Mark.{Mark}
use Rattle.ps_model.specs.declared.mark.Slot.{Slot}
use Rattle.ps_model.specs.declared.mark.Ticket.{Ticket}
use Rattle.ps_model.specs.declared.reply.Reply.{Reply}
use Rattle.ps_model.specs.declared.reply.Reply.TheVariants.{Acked, Modified, Received}
use Rattle.ps_model.specs.declared.world.MarkRow.{MarkRow}
use Rattle.ps_model.specs.declared.world.World.{World}
use Rattle.ps_model.specs.Acknowledging.{acknowledge, mark_after_ack}
use Rattle.ps_model.specs.Answering.{acknowledge_at, invalid_ids, modify_at, tickets_of, unknown_ids, unordered_ids}
use Rattle.ps_model.specs.Choice.{choice, handed, lent_mark}
use Rattle.ps_model.specs.Failing.{mark_after_failing}
use Rattle.ps_model.specs.Forwarding.{dead_topic, letters_of}
use Rattle.ps_model.specs.Modifying.{extended, extended_mark, is_given_up, modify_dead}
use Rattle.ps_model.specs.Outcomes.{Leaves, Outcome, answers}
use Rattle.ps_model.specs.Pulling.{pull_from, received_all}
use Rattle.ps_model.specs.Retention.{caught_up_mark}
use Rattle.ps_model.specs.Settling.{catch_up}
use Rattle.ps_model.specs.Slots.{remark, remarked}
use Rattle.ps_model.specs.Worlds.{put_sub, remark_at, remark_row, row_of, rows_of, slot_of, slots_of}
use Rattle.ps_sub.specs.Modifying.{modified_mark}
use Rattle.ps_sub.proofs.DueLemmas.{remarked-twice}
use Rattle.ps_sub.proofs.ModifyLemmas.{one-modified}
use Rattle.ps_tables.specs.declared.kept_subscription.KeptSubscription.{KeptSubscription}
use Rattle.ps_core.specs.Delivering.{items_of, modified_ids}
use Rattle.ps_core.specs.Effects.{given_of}
use Rattle.ps_core.specs.State.{State, flat_marks, seen, slots_in, sub_row}
use Rattle.ps_tables.specs.Subscriptions.{number_of, with_slots}
use Rattle.ps_core.specs.Steady.{HasGoodSettings, IsJoined, IsSteady, IsSteadySubscription}
use Rattle.ps_base.proofs.Lists.{each-both, each-found, each-map, each-then, map-unseen}
use Rattle.ps_core.proofs.delivering.Marked.{marked, marked_at, marked-either, marked-order, marked-put, StandsIn}
use Rattle.ps_core.proofs.marks.Flat.{flat-marked, Joined, slots-at}
use Rattle.ps_core.proofs.marks.OnePlace.{subs-put}
use Rattle.ps_core.proofs.settling.CaughtUp.{caught_up-rests}
use Rattle.ps_core.proofs.settling.Ending.{forward-no, no-letters}
use Rattle.ps_core.proofs.settling.Passes.{found-all, IsFound, pass-seen, remark_subscription}
use Rattle.ps_tables.proofs.numbers.Changes.{same-number}

-- the subscription with this one's number after these went out of it
abbrev pub lent_at : KeptSubscription → ℕ → List Handed → KeptSubscription → KeptSubscription
lent_at x deadline given = marked_at x.number (lent_mark deadline given) (λ (lease : ℕ). lease + length given)

-- and after these were acknowledged, before what is ahead of them catches up
abbrev pub acked_at : KeptSubscription → List Ticket → KeptSubscription → KeptSubscription
acked_at x tickets = marked_at x.number (mark_after_ack x.sub.config tickets x.sub.slots) (λ (lease : ℕ). lease)

-- the mark after both
abbrev pub ack_rule : KeptSubscription → List Ticket → Slot → Mark
ack_rule x tickets slot = caught_up_mark x.sub.config.ordering (acknowledge x.sub.config tickets x.sub.slots) (remark slot (mark_after_ack x.sub.config tickets x.sub.slots slot))

-- and after deadlines were set and leases given up
abbrev pub modified_at : KeptSubscription → ℕ → List (Ticket × ℕ) → KeptSubscription → KeptSubscription
modified_at x at items = marked_at x.number (modified_mark at false x.sub.config items x.sub.slots) (λ (lease : ℕ). lease)

abbrev pub returned_at : KeptSubscription → List Ticket → KeptSubscription → KeptSubscription
returned_at x tickets = marked_at x.number (ack_rule x tickets) (λ (lease : ℕ). lease)

-- the marks of a subscription that stands there
pub rows-there : (xs : List KeptSubscription) → Ordered (λ (a b : KeptSubscription). a.number < b.number) xs → (x : KeptSubscription) → StandsIn xs x → rows_of (flat_marks xs) x.number ≡ map (row_of x.number) x.sub.slots
rows-there xs up x there = (each-found (IsFound xs) (λ (y : KeptSubscription). nat_eq y.number x.number) xs x there (found-all xs up)).rows

pub rows-joined : (s : State) (x : KeptSubscription) → IsSteadySubscription s x → Joined s.messages x.number x.sub.slots
rows-joined s x own = each-then (IsJoined s x) (λ (slot : Slot). slot_of s.messages (row_of x.number slot) ≡ slot) x.sub.slots (λ slot j. j.row) own.joined

module _ (s : State) (h : IsSteady s) where
  -- the marks of the world after a rule went over one subscription
  marks-seen : (n : ℕ) (rule : Slot → Mark) (next : ℕ → ℕ) → (remark_at n rule (seen s)).marks ≡ flat_marks (map (marked_at n rule next) s.subscriptions)
  marks-seen n rule next =
      flat-marked number_of slots_in s.messages n rule (marked n rule next) (λ x. refl) (λ x. refl) s.subscriptions
      (each-then (IsSteadySubscription s) (λ (x : KeptSubscription). Joined s.messages x.number x.sub.slots) s.subscriptions (rows-joined s) h.each)

  module _ (x : KeptSubscription) (there : StandsIn s.subscriptions x) where
    -- it is as steady as all are
    pub steady-there : IsSteadySubscription s x
    steady-there = each-found (IsSteadySubscription s) (λ (y : KeptSubscription). nat_eq y.number x.number) s.subscriptions x there h.each

    -- its messages, in the world and in its own list
    pub slots-seen : slots_of (seen s) x.number ≡ x.sub.slots
    slots-seen = ap (map (slot_of s.messages)) (rows-there s.subscriptions h.subscriptions x there) ∙ slots-at s.messages x.number x.sub.slots (rows-joined s x steady-there)

    -- the world after a pull
    pub pulled-seen : (deadline : ℕ) (given : List Handed)
        → put_sub (record (sub_row x) { next_lease = x.sub.next_lease + length given }) (remark_at x.number (lent_mark deadline given) (seen s)) ≡ seen (record s { subscriptions = map (lent_at x deadline given) s.subscriptions })
    pulled-seen deadline given =
        let rule : Slot → Mark = lent_mark deadline given in
        let next : ℕ → ℕ = λ lease. lease + length given in
        let subs = subs-put (marked x.number rule next x) s.subscriptions ∙ ap (map sub_row) (marked-put x.number rule next x refl s.subscriptions h.subscriptions there) in
        let marks = marks-seen x.number rule next in
        λ i. record (seen s) { subs = subs i; marks = marks i }

    -- what a pull leaves and answers
    pub pulled-leaves : (at most budget seconds : ℕ)
        → let given = given_of at most budget x in
        pull_from (seen s) at (sub_row x) most budget seconds false
        ≡ answers (seen (record s { subscriptions = map (lent_at x (at + 1000 * seconds) given) s.subscriptions })) (Received x.sub.config.exactly_once x.sub.config.ordering (received_all (seen s) (sub_row x) given))
    pulled-leaves at most budget seconds =
        let reply = λ (given : List Handed). Received x.sub.config.exactly_once x.sub.config.ordering (received_all (seen s) (sub_row x) given) in
        let pulled : List Handed → Outcome = λ given.
        answers (put_sub (record (sub_row x) { next_lease = x.sub.next_lease + length given }) (remark_at x.number (lent_mark (at + 1000 * seconds) given) (seen s))) (reply given) in
        ap (λ (slots : List Slot). pulled (handed x.sub.next_lease (choice at x.sub.config.ordering most budget slots))) slots-seen
        ∙ ap (λ (w : World). answers w (reply (given_of at most budget x))) (pulled-seen (at + 1000 * seconds) (given_of at most budget x))

    -- the world after an acknowledgement
    pub acked-seen : (tickets : List Ticket) → remark_at x.number (mark_after_ack x.sub.config tickets (slots_of (seen s) x.number)) (seen s) ≡ seen (record s { subscriptions = map (acked_at x tickets) s.subscriptions })
    acked-seen tickets =
        let rule : Slot → Mark = mark_after_ack x.sub.config tickets x.sub.slots in
        let subs = map-unseen sub_row (acked_at x tickets) s.subscriptions (λ y. marked-either x.number rule (λ lease. lease) (λ (z : KeptSubscription). sub_row z ≡ sub_row y) y refl refl) in
        let marks = marks-seen x.number rule (λ lease. lease) in
        let made : remark_at x.number rule (seen s) ≡ seen (record s { subscriptions = map (acked_at x tickets) s.subscriptions }) = λ i. record (seen s) { subs = sym subs i; marks = marks i } in
        ap (λ (slots : List Slot). remark_at x.number (mark_after_ack x.sub.config tickets slots) (seen s)) slots-seen ∙ made

    -- what an acknowledgement leaves and answers
    pub acked-leaves : (name : List ℕ) (ids : List AckId)
        → acknowledge_at (seen s) name ids (Some (sub_row x))
        ≡ answers (seen (record s { subscriptions = map (acked_at x (tickets_of (sub_row x) ids)) s.subscriptions })) (Acked x.sub.config.exactly_once (invalid_ids (sub_row x) x.sub.slots ids) (unordered_ids (sub_row x) x.sub.slots ids))
    acked-leaves name ids =
        λ i. answers (acked-seen (tickets_of (sub_row x) ids) i) (Acked x.sub.config.exactly_once (invalid_ids (sub_row x) (slots-seen i) ids) (unordered_ids (sub_row x) (slots-seen i) ids))

    -- ---- what is ahead catches up

    pub same-there : AllByRecursion (λ (y : KeptSubscription). nat_eq y.number x.number ≡ true → y ≡ x) s.subscriptions
    same-there = same-number number_of x.number x s.subscriptions h.subscriptions there

    caught-one : (tickets : List Ticket) (y : KeptSubscription) → IsSteadySubscription s y → (b : Bool) → (b ≡ true → y ≡ x)
        → remark_subscription (λ sub. caught_up_mark sub.config.ordering) (if b then marked x.number (mark_after_ack x.sub.config tickets x.sub.slots) (λ (lease : ℕ). lease) y else y)
        ≡ (if b then marked x.number (ack_rule x tickets) (λ (lease : ℕ). lease) y else y)
    caught-one tickets y own true is =
        let rule : Slot → Mark = mark_after_ack x.sub.config tickets x.sub.slots in
        let slots : remarked (caught_up_mark y.sub.config.ordering (remarked rule y.sub.slots)) (remarked rule y.sub.slots) ≡ remarked (ack_rule x tickets) y.sub.slots =
        (λ i. remarked (caught_up_mark (is refl i).sub.config.ordering (remarked rule (is refl i).sub.slots)) (remarked rule (is refl i).sub.slots))
        ∙ remarked-twice (caught_up_mark x.sub.config.ordering (acknowledge x.sub.config tickets x.sub.slots)) rule x.sub.slots
        ∙ (λ i. remarked (ack_rule x tickets) (sym (is refl) i).sub.slots) in
        λ i. record y { sub = record y.sub { slots = slots i } }
    caught-one tickets y own false is = λ i. with_slots y (caught_up-rests y.sub.config.ordering y.sub.slots own.caught_up i)

    caught-each : (tickets : List Ticket) (ys : List KeptSubscription) → AllByRecursion (λ (y : KeptSubscription). IsSteadySubscription s y × (nat_eq y.number x.number ≡ true → y ≡ x)) ys
        → map (remark_subscription (λ sub. caught_up_mark sub.config.ordering)) (map (acked_at x tickets) ys) ≡ map (returned_at x tickets) ys
    caught-each tickets [] own = refl
    caught-each tickets (y ∷ ys) own = λ i. caught-one tickets y own.0.0 (nat_eq y.number x.number) own.0.1 i ∷ caught-each tickets ys own.1 i

    pub acked-caught : (tickets : List Ticket) → catch_up (seen (record s { subscriptions = map (acked_at x tickets) s.subscriptions })) ≡ seen (record s { subscriptions = map (returned_at x tickets) s.subscriptions })
    acked-caught tickets =
        let rule : Slot → Mark = mark_after_ack x.sub.config tickets x.sub.slots in
        let mid : State = record s { subscriptions = map (acked_at x tickets) s.subscriptions } in
        let joined : AllByRecursion (λ (y : KeptSubscription). Joined s.messages y.number y.sub.slots) mid.subscriptions =
        each-map (IsSteadySubscription s) (λ (y : KeptSubscription). Joined s.messages y.number y.sub.slots) (acked_at x tickets) s.subscriptions
        (λ y own. marked-either x.number rule (λ (lease : ℕ). lease) (λ (z : KeptSubscription). Joined s.messages z.number z.sub.slots) y
        (each-map (λ (slot : Slot). slot_of s.messages (row_of y.number slot) ≡ slot) (λ (slot : Slot). slot_of s.messages (row_of y.number slot) ≡ slot) (λ (slot : Slot). remark slot (rule slot)) y.sub.slots
        (λ slot row. ap (λ (e : Slot). remark e (rule slot)) row) (rows-joined s y own)) (rows-joined s y own)) h.each in
        pass-seen (λ sub. caught_up_mark sub.config.ordering) mid (marked-order x.number rule (λ (lease : ℕ). lease) s.subscriptions h.subscriptions) joined
        ∙ ap (λ (ys : List KeptSubscription). seen (record s { subscriptions = ys })) (caught-each tickets s.subscriptions (each-both (IsSteadySubscription s) (λ (y : KeptSubscription). nat_eq y.number x.number ≡ true → y ≡ x) s.subscriptions h.each same-there))

    -- ---- a change of deadlines

    -- two rules on one subscription are one
    twice : (n : ℕ) (first second : Slot → Mark) (w : World) → remark_at n second (remark_at n first w) ≡ remark_at n (λ (slot : Slot). second (remark slot (first slot))) w
    twice n first second w = λ i. record w { marks = each w.marks i }
      where
        once : (r : MarkRow) (b : Bool) → nat_eq r.sub n ≡ b
            → (let made : MarkRow = if b then remark_row r (first (slot_of w.messages r)) else r in if nat_eq made.sub n then remark_row made (second (slot_of w.messages made)) else made)
            ≡ (if b then remark_row r (second (remark (slot_of w.messages r) (first (slot_of w.messages r)))) else r)
        once r true is = rw is refl
        once r false is = rw is refl

        each : (rows : List MarkRow)
            → map (λ (r : MarkRow). if nat_eq r.sub n then remark_row r (second (slot_of w.messages r)) else r) (map (λ (r : MarkRow). if nat_eq r.sub n then remark_row r (first (slot_of w.messages r)) else r) rows)
            ≡ map (λ (r : MarkRow). if nat_eq r.sub n then remark_row r (second (remark (slot_of w.messages r) (first (slot_of w.messages r)))) else r) rows
        each [] = refl
        each (r ∷ rows) = λ i. once r (nat_eq r.sub n) refl i ∷ each rows i

    module _ (at : ℕ) (no_letter : x.sub.config.dead_letter ≡ None) (good : HasGoodSettings x.sub.config) where
      -- the world after deadlines were set and leases given up
      pub modified-seen : (items : List (Ticket × ℕ))
          → remark_at x.number (mark_after_failing (is_given_up items) at false x.sub.config (extended at items x.sub.slots)) (remark_at x.number (extended_mark at items) (seen s))
          ≡ seen (record s { subscriptions = map (modified_at x at items) s.subscriptions })
      modified-seen items =
          let rule : Slot → Mark = modified_mark at false x.sub.config items x.sub.slots in
          let subs = map-unseen sub_row (modified_at x at items) s.subscriptions (λ y. marked-either x.number rule (λ lease. lease) (λ (z : KeptSubscription). sub_row z ≡ sub_row y) y refl refl) in
          let marks = marks-seen x.number rule (λ lease. lease) in
          twice x.number (extended_mark at items) (mark_after_failing (is_given_up items) at false x.sub.config (extended at items x.sub.slots)) (seen s)
          ∙ (λ i. remark_at x.number (λ (slot : Slot). one-modified at items false x.sub.config x.sub.slots slot i) (seen s))
          ∙ (λ i. record (seen s) { subs = sym subs i; marks = marks i })

      -- what a change of deadlines leaves and answers
      pub modified-leaves : (name : List ℕ) (items : List (AckId × ℕ))
          → modify_at (seen s) at name items (Some (sub_row x))
          ≡ answers (seen (record s { subscriptions = map (modified_at x at (items_of x.number items)) s.subscriptions })) (Modified x.sub.config.exactly_once (modified_ids x items))
      modified-leaves name items =
          let own : List (Ticket × ℕ) = items_of x.number items in
          let forward : is_some (dead_topic (seen s) (sub_row x)) ≡ false = forward-no (seen s) x good in
          let letters : modify_dead at false x.sub.config own x.sub.slots ≡ [] = no-letters (is_given_up own) false x.sub.config good (extended at own x.sub.slots) in
          let reply : List Slot → Reply = λ slots. Modified x.sub.config.exactly_once (unknown_ids (sub_row x) slots (map (λ (y : AckId × ℕ). y.0) items)) in
          (λ i. Leaves
          (remark_at x.number (mark_after_failing (is_given_up own) at (forward i) x.sub.config (extended at own (slots-seen i))) (remark_at x.number (extended_mark at own) (seen s)))
          (letters_of (seen s) (sub_row x) (modify_dead at (forward i) x.sub.config own (slots-seen i)))
          (reply (slots-seen i)))
          ∙ (λ i. Leaves (modified-seen own i) (letters_of (seen s) (sub_row x) (letters i)) (reply x.sub.slots))
