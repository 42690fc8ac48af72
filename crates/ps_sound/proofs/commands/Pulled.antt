-- What a pull leaves.
use Rattle.std.proofs.Common.{ℕ, ◌≡◌, ◌≢◌, ◌+◌, ◌-◌, ◌*◌, ◌<◌, ◌≤◌, not, Bool, true, false, cond, nat_eq, nat_lt, is_some, List, [], ◌∷◌, Option, Some, None, IfSome, option_map, unwrap_or, map, length, refl, sym, ◌∙◌, ap, subst, arith, if◌then◌else◌}
use Rattle.std.specs.List.{AllByRecursion}
use Rattle.std.specs.Str.{bytes_eq}
use Rattle.std.proofs.lemmas.Bool.{eqb-true, eq-eqb, cond_both, or_parts, and_from, not_from_false, false_from_ne_true, both_ways, ltb-false}
use Rattle.ps_base.specs.declared.reason.Reason.TheVariants.{AckDeadlineSeconds}
use Rattle.ps_message.specs.Lists.{first_of}
use Rattle.ps_message.specs.Messages.{broken}
use Rattle.ps_model.specs.declared.mark.Mark.{Mark}
use Rattle.ps_model.specs.declared.mark.Mark.TheVariants.{Backlog, Leased, Ahead, Done, Gone}
use Rattle.ps_model.specs.declared.mark.Slot.{Slot}
use Rattle.ps_model.specs.declared.mark.Handed.{Handed}
use Rattle.ps_config.specs.declared.config.SubConfig.{SubConfig}
use Rattle.ps_model.specs.declared.world.World.{World}
use Rattle.ps_model.specs.declared.world.SubRow.{SubRow}
use Rattle.ps_model.specs.declared.world.MarkRow.{MarkRow}
use Rattle.ps_config.specs.Masks.{whole_mask}
use Rattle.ps_filter.specs.Filters.{meets}
use Rattle.ps_config.specs.Limits.{is_outside, sub_checks_before_filter, sub_checks_behind_filter}
use Rattle.ps_model.specs.Checks.{new_sub_fault, lease_seconds, filter_setting_fault}
use Rattle.ps_model.specs.Slots.{is_gone, is_leased, is_backlog, is_earlier, any_earlier}
use Rattle.ps_model.specs.Choice.{is_ready, is_waiting, is_deliverable, deliverable, choice, handed, lease_in, leased_as, lent_mark}
use Rattle.ps_model.specs.Worlds.{sub_named, sub_numbered, message_at, put_sub, remark_row, remark_at, rows_of, slot_of, slots_of}
use Rattle.ps_model.specs.Sound.{Precedes, IsNamed, WantedAt, IsWanted, FitsAt, MarkFits, leases_alive}
use Rattle.ps_base.proofs.Lists.{each-always, each-then, each-both, each-map, each-filter}
use Rattle.ps_sound.proofs.worlds.Lists.{found-numbered, ordered-map}
use Rattle.ps_sound.proofs.worlds.Settings.{first-none, broken-none}
use Rattle.ps_sound.proofs.worlds.Earlier.{earlier-number, from-none-earlier, none-earlier-on, rows-of-slots}
use Rattle.ps_sound.proofs.worlds.Underway.{ordering_of, InOrder, AllInOrder, IsGoneAt, SubsStand, MarksStand, IsUnderway, topics-more, snaps-beside}
use Rattle.ps_sound.proofs.worlds.Marked.{at_sub, remark_at-marked, marked}
use Rattle.ps_sound.proofs.worlds.Resubbed.{resubbed, IsKind, found-resubbed, still-gone, resubbed-stand}
use Rattle.ps_sound.proofs.commands.SubChanges.{put_sub-resubbed}
use Rattle.ps_sound.proofs.commands.Lending.{lent_row, lent-few, lease-below, lent-fits, handed-length, first-few, each-chosen, deliverable-lives, handed-one}
use Rattle.ps_sound.proofs.commands.Choosing.{IsInFront, waiting-or-ready, rows-in-front, chosen-none-waits}

-- the seconds of a lease
pub record IsLeaseTime (seconds : ℕ) : Type 0 where
  pub some : 1 ≤ seconds
  pub most : seconds ≤ 600

pub lease-time : (asked : Option ℕ) (config : SubConfig) → new_sub_fault config ≡ None → IsLeaseTime (unwrap_or (option_map lease_seconds asked) config.ack_seconds)
lease-time (Some seconds) config e = record { some = omega arith; most = omega arith }
lease-time None config e =
    let before : first_of (sub_checks_before_filter whole_mask config) ≡ None =
    (first-none (first_of (sub_checks_before_filter whole_mask config) ∷ filter_setting_fault config.filter ∷ first_of (sub_checks_behind_filter whole_mask config) ∷ []) e).0 in
    let check : broken (is_outside 10 600 config.ack_seconds) AckDeadlineSeconds ≡ None = (first-none (sub_checks_before_filter whole_mask config) before).0 in
    let parts = or_parts (nat_lt config.ack_seconds 10) (nat_lt 600 config.ack_seconds) (broken-none (is_outside 10 600 config.ack_seconds) AckDeadlineSeconds check) in
    let least : 10 ≤ config.ack_seconds = ltb-false config.ack_seconds 10 parts.0 in
    record { some = omega arith; most = ltb-false 600 config.ack_seconds parts.1 }

-- what a mark that isn't gone asks of its message
record IsHeldFor (w : World) (sub : SubRow) (message : ℕ) : Type 0 where
  kept : (message_at w.messages message).kept ≡ true
  topic : (message_at w.messages message).topic ≡ sub.topic
  met : meets sub.config.filter (message_at w.messages message).message ≡ true

-- Leases for a choice, on a subscription whose next lease is past them already.
module _ (t count : ℕ) (w : World) (sub : SubRow) (lease most budget deadline : ℕ) (own : sub_numbered w sub.number ≡ Some sub) (attached : sub.detached ≡ false) (up : t < deadline) (near : deadline ≤ t + 600000)
    (past : lease + length (handed lease (choice t sub.config.ordering most budget (slots_of w sub.number))) ≤ sub.next_lease) (h : MarksStand t count w) where
  abbrev n : ℕ
  n = sub.number

  abbrev slots : List Slot
  slots = slots_of w sub.number

  abbrev chosen : List Slot
  chosen = choice t sub.config.ordering most budget slots

  abbrev given : List Handed
  given = handed lease chosen

  abbrev lending : MarkRow → Mark
  lending = at_sub sub.number (lent_mark deadline given) w.messages

  below-past : (k : ℕ) (o : Option ℕ) → Rattle.ps_sound.proofs.commands.Lending.IsBelow (lease + length given) o → Rattle.ps_sound.proofs.commands.Lending.IsBelow sub.next_lease o
  below-past k None e = tt
  below-past k (Some l) e = omega (arith, e, past)

  lent-fit : (r : MarkRow) → FitsAt t (sub_numbered w r.sub) r.mark → FitsAt t (sub_numbered w r.sub) (lending r)
  lent-fit r p = at (nat_eq r.sub n) refl (sub_numbered w r.sub) refl p
    where
      at : (b : Bool) → nat_eq r.sub n ≡ b → (o : Option SubRow) → sub_numbered w r.sub ≡ o → FitsAt t o r.mark → FitsAt t o (cond b (leased_as deadline r.mark (lease_in given r.message)) r.mark)
      at b eb None eo p = p
      at false eb (Some q) eo p = p
      at true eb (Some q) eo p =
          let same : sub ≡ q = cc (own, eo, eqb-true r.sub n eb) in
          subst (λ (x : SubRow). MarkFits t x.next_lease (leased_as deadline r.mark (lease_in given r.message))) same
          (lent-fits t sub.next_lease sub.next_lease deadline r.mark (lease_in given r.message) (omega arith) up near (below-past 0 (lease_in given r.message) (lease-below lease chosen r.message)) (subst (λ (x : SubRow). MarkFits t x.next_lease r.mark) (sym same) p))

  -- what was handed out is kept
  chosen-held : AllByRecursion (λ (s : Slot). IsHeldFor w sub s.item.number) chosen
  chosen-held = each-chosen (IsHeldFor w sub) t sub.config.ordering most budget slots
      (each-then (λ (s : Slot). is_gone s.mark ≡ false → IsHeldFor w sub s.item.number) (λ (s : Slot). is_deliverable t sub.config.ordering slots s ≡ true → IsHeldFor w sub s.item.number) slots (λ s k e. k (deliverable-lives t sub.config.ordering slots s e))
      (each-map (λ (r : MarkRow). is_gone r.mark ≡ false → IsHeldFor w sub r.message) (λ (s : Slot). is_gone s.mark ≡ false → IsHeldFor w sub s.item.number) (slot_of w.messages) (rows_of w.marks n) (λ r k. k)
      (each-filter (IsWanted w) (λ (r : MarkRow). is_gone r.mark ≡ false → IsHeldFor w sub r.message) (λ (r : MarkRow). nat_eq r.sub n) w.marks
      (λ r e p. at r (subst (λ (o : Option SubRow). WantedAt w (message_at w.messages r.message) o r.mark) (ap (λ n. sub_numbered w n) (eqb-true r.sub n e) ∙ own) p)) h.wanted)))
    where
      at : (r : MarkRow) → WantedAt w (message_at w.messages r.message) (Some sub) r.mark → is_gone r.mark ≡ false → IsHeldFor w sub r.message
      at r p lives = record { kept = (p lives).kept; topic = (p lives).topic; met = (p lives).met }

  lent-wanted : (r : MarkRow) → IsWanted w r → IsWanted (marked lending w) (remark_row r (lending r))
  lent-wanted r p = at (nat_eq r.sub n) refl (sub_numbered w r.sub) refl p (lease_in given r.message) refl
    where
      at : (b : Bool) → nat_eq r.sub n ≡ b → (o : Option SubRow) → sub_numbered w r.sub ≡ o → WantedAt w (message_at w.messages r.message) o r.mark → (given_lease : Option ℕ) → lease_in given r.message ≡ given_lease
          → WantedAt (marked lending w) (message_at w.messages r.message) o (cond b (leased_as deadline r.mark given_lease) r.mark)
      at b eb None eo p l el = p
      at false eb (Some q) eo p l el = p
      at true eb (Some q) eo p None el = p
      at true eb (Some q) eo p (Some l) el =
          let same : sub ≡ q = cc (own, eo, eqb-true r.sub n eb) in
          let held : IsHeldFor w sub r.message = handed-one (IsHeldFor w sub) lease chosen r.message chosen-held (ap is_some el) in
          λ _. record { kept = held.kept; topic = held.topic ∙ ap (λ (x : SubRow). x.topic) same; met = subst (λ (x : SubRow). meets x.config.filter (message_at w.messages r.message).message ≡ true) same held.met }

  lent-gone : (r : MarkRow) → IsGoneAt (sub_numbered w r.sub) r.mark → IsGoneAt (sub_numbered w r.sub) (lending r)
  lent-gone r p = at (nat_eq r.sub n) refl (sub_numbered w r.sub) refl p
    where
      at : (b : Bool) → nat_eq r.sub n ≡ b → (o : Option SubRow) → sub_numbered w r.sub ≡ o → IsGoneAt o r.mark → IsGoneAt o (cond b (leased_as deadline r.mark (lease_in given r.message)) r.mark)
      at b eb None eo p = tt
      at false eb (Some q) eo p = p
      at true eb (Some q) eo p = λ detached. let same : sub ≡ q = cc (own, eo, eqb-true r.sub n eb) in absurd (both_ways sub.detached attached (ap (λ (x : SubRow). x.detached) same ∙ detached))

  -- what a row has in front of it, where its message is handed out
  front : (r : MarkRow) → AllByRecursion (λ (e : MarkRow). is_some (lease_in given r.message) ≡ true → e.sub ≡ n → is_earlier sub.config.ordering (slot_of w.messages e) (slot_of w.messages r) ≡ true → is_waiting t e.mark ≡ false) w.marks
  front r = cases (is_some (lease_in given r.message)) refl
    where
      cases : (b : Bool) → is_some (lease_in given r.message) ≡ b → AllByRecursion (λ (e : MarkRow). is_some (lease_in given r.message) ≡ true → e.sub ≡ n → is_earlier sub.config.ordering (slot_of w.messages e) (slot_of w.messages r) ≡ true → is_waiting t e.mark ≡ false) w.marks
      cases false eb = each-always (λ (e : MarkRow). is_some (lease_in given r.message) ≡ true → e.sub ≡ n → is_earlier sub.config.ordering (slot_of w.messages e) (slot_of w.messages r) ≡ true → is_waiting t e.mark ≡ false) w.marks
          (λ e some. absurd (both_ways (is_some (lease_in given r.message)) eb some))
      cases true eb = each-then (λ (e : MarkRow). e.sub ≡ n → is_earlier sub.config.ordering (slot_of w.messages e) (slot_of w.messages r) ≡ true → is_waiting t e.mark ≡ false)
          (λ (e : MarkRow). is_some (lease_in given r.message) ≡ true → e.sub ≡ n → is_earlier sub.config.ordering (slot_of w.messages e) (slot_of w.messages r) ≡ true → is_waiting t e.mark ≡ false) w.marks (λ e k _ same early. k same early)
          (rows-of-slots (λ (s : Slot). is_earlier sub.config.ordering s (slot_of w.messages r) ≡ true → is_waiting t s.mark ≡ false) w n (chosen-none-waits w n t lease most budget sub.config.ordering h.ascend r.message eb))

  pair : (e r : MarkRow) → InOrder w e r → (e.sub ≡ n → is_deliverable t sub.config.ordering slots (slot_of w.messages e) ≡ true → IsInFront lease chosen (slot_of w.messages e))
      → (is_some (lease_in given r.message) ≡ true → e.sub ≡ n → is_earlier sub.config.ordering (slot_of w.messages e) (slot_of w.messages r) ≡ true → is_waiting t e.mark ≡ false)
      → InOrder (marked lending w) (remark_row e (lending e)) (remark_row r (lending r))
  pair e r q inner none same early leased = at (nat_eq r.sub n) refl (nat_eq e.sub n) (ap (λ k. nat_eq k n) same) leased (lease_in given r.message) refl (lease_in given e.message) refl
    where
      -- where it is handed out and the one before it isn't, that one doesn't wait
      not-left : nat_eq r.sub n ≡ true → is_some (lease_in given r.message) ≡ true → lease_in given e.message ≡ None → is_backlog e.mark ≡ true → ⊥
      not-left eb some left waits =
          let mine : e.sub ≡ n = same ∙ eqb-true r.sub n eb in
          let before : is_earlier sub.config.ordering (slot_of w.messages e) (slot_of w.messages r) ≡ true = ap (λ o. is_earlier (ordering_of o) (slot_of w.messages e) (slot_of w.messages r)) (sym (ap (λ k. sub_numbered w k) (eqb-true r.sub n eb) ∙ own)) ∙ early in
          let ready : is_ready t e.mark ≡ true = waiting-or-ready t e.mark waits (none some mine before) in
          let clear : any_earlier sub.config.ordering (λ x. is_waiting t x.mark) slots (slot_of w.messages e) ≡ false =
          from-none-earlier sub.config.ordering (λ x. is_waiting t x.mark) (slot_of w.messages e) slots (none-earlier-on sub.config.ordering (λ x. is_waiting t x.mark) (slot_of w.messages e) (slot_of w.messages r) slots before
          (chosen-none-waits w n t lease most budget sub.config.ordering h.ascend r.message some)) in
          let out : is_deliverable t sub.config.ordering slots (slot_of w.messages e) ≡ true = and_from (is_ready t e.mark) (not (any_earlier sub.config.ordering (λ x. is_waiting t x.mark) slots (slot_of w.messages e))) ready (not_from_false (any_earlier sub.config.ordering (λ x. is_waiting t x.mark) slots (slot_of w.messages e)) clear) in
          let taken : is_some (lease_in given e.message) ≡ true = inner mine out r.message (earlier-number sub.config.ordering (slot_of w.messages e) (slot_of w.messages r) before) some in
          both_ways (is_some (lease_in given e.message)) (ap is_some left) taken

      at : (b : Bool) → nat_eq r.sub n ≡ b → (c : Bool) → c ≡ nat_eq r.sub n → is_leased (cond (nat_eq r.sub n) (leased_as deadline r.mark (lease_in given r.message)) r.mark) ≡ true
          → (lr : Option ℕ) → lease_in given r.message ≡ lr → (le : Option ℕ) → lease_in given e.message ≡ le → is_backlog (cond c (leased_as deadline e.mark (lease_in given e.message)) e.mark) ≡ false
      at false eb true ec l lr elr le ele = absurd (cc (eb, ec))
      at true eb false ec l lr elr le ele = absurd (cc (eb, ec))
      at false eb false ec l lr elr le ele = q same early (ap (λ b. is_leased (cond b (leased_as deadline r.mark (lease_in given r.message)) r.mark)) (sym eb) ∙ l)
      at true eb true ec l lr elr (Some x) ele = ap (λ o. is_backlog (leased_as deadline e.mark o)) ele
      at true eb true ec l (Some y) elr None ele = ap (λ o. is_backlog (leased_as deadline e.mark o)) ele ∙ false_from_ne_true (is_backlog e.mark) (not-left eb (ap is_some elr) ele)
      at true eb true ec l None elr None ele = ap (λ o. is_backlog (leased_as deadline e.mark o)) ele
          ∙ q same early ((λ i. is_leased (cond (sym eb i) (leased_as deadline r.mark (sym elr i)) r.mark)) ∙ l)

  lent-in_order : AllInOrder (marked lending w)
  lent-in_order = each-map (λ (r : MarkRow). AllByRecursion (λ (e : MarkRow). InOrder w e r) w.marks) (λ (r : MarkRow). AllByRecursion (λ (e : MarkRow). InOrder (marked lending w) e r) (marked lending w).marks) f w.marks
      (λ r p. each-map (λ e. InOrder w e r × (Inner e × Front r e)) (λ (e : MarkRow). InOrder (marked lending w) e (f r)) f w.marks (λ e k. pair e r k.0 k.1.0 k.1.1)
      (each-both (λ (e : MarkRow). InOrder w e r) (λ e. Inner e × Front r e) w.marks p (each-both Inner (Front r) w.marks (rows-in-front w n t lease most budget sub.config.ordering h.ascend) (front r)))) h.in_order
    where
      f : MarkRow → MarkRow
      f r = remark_row r (lending r)

      Inner : MarkRow → Type 0
      Inner e = e.sub ≡ n → is_deliverable t sub.config.ordering slots (slot_of w.messages e) ≡ true → IsInFront lease chosen (slot_of w.messages e)

      Front : MarkRow → MarkRow → Type 0
      Front r e = is_some (lease_in given r.message) ≡ true → e.sub ≡ n → is_earlier sub.config.ordering (slot_of w.messages e) (slot_of w.messages r) ≡ true → is_waiting t e.mark ≡ false

  pub lent-stand : (more : ℕ) → (w.next_message - 1) + (leases_alive w + length given) ≤ 1000 * more → MarksStand t more (marked lending w)
  lent-stand more room =
      let f : MarkRow → MarkRow = λ r. remark_row r (lending r) in
      record {
        ascend = ordered-map Precedes Precedes f w.marks (λ a b p. p) h.ascend;
        named = each-map (IsNamed w) (IsNamed (marked lending w)) f w.marks (λ r p. p) h.named;
        fit = each-map (λ (r : MarkRow). FitsAt t (sub_numbered w r.sub) r.mark) (λ (r : MarkRow). FitsAt t (sub_numbered w r.sub) r.mark) f w.marks lent-fit h.fit;
        wanted = each-map (IsWanted w) (IsWanted (marked lending w)) f w.marks lent-wanted h.wanted;
        in_order = lent-in_order;
        gone = each-map (λ (r : MarkRow). IsGoneAt (sub_numbered w r.sub) r.mark) (λ (r : MarkRow). IsGoneAt (sub_numbered w r.sub) r.mark) f w.marks lent-gone h.gone;
        few = few;
      }
    where
      lends : leases_alive (marked lending w) ≤ leases_alive w + length given
      lends = lent-few w.messages n deadline given w.marks h.ascend

      few : (w.next_message - 1) + leases_alive (marked lending w) ≤ 1000 * more
      few = omega (arith, lends, room)

-- a mark fits a later next lease
fits-later : (t next more : ℕ) (mark : Mark) → next ≤ more → MarkFits t next mark → MarkFits t more mark
fits-later t next more (Leased f l d) e h = record { lent = omega (arith, h.lent); lives = h.lives; near = h.near }
fits-later t next more (Backlog f u last) e h = record { near = h.near; lent = at last h.lent }
  where
    at : (o : Option ℕ) → IfSome o (λ lease. lease < next) → IfSome o (λ lease. lease < more)
    at None p = tt
    at (Some l) p = omega (arith, p)
fits-later t next more (Ahead f) e h = tt
fits-later t next more (Done c) e h = tt
fits-later t next more (Gone c) e h = tt

-- A pull of at most 1,000 messages from a subscription that isn't detached.
module _ (t count : ℕ) (w : World) (name : List ℕ) (sub : SubRow) (most budget seconds : ℕ) (found : sub_named w name ≡ Some sub) (attached : sub.detached ≡ false) (few : most ≤ 1000) (time : IsLeaseTime seconds) (h : IsUnderway t count w) where
  abbrev out : List Slot
  out = choice t sub.config.ordering most budget (slots_of w sub.number)

  abbrev handing : List Handed
  handing = handed sub.next_lease out

  abbrev lent : SubRow
  lent = record sub { next_lease = sub.next_lease + length handing }

  abbrev change : Bool → SubRow → SubRow
  change b r = record r { next_lease = if b then r.next_lease + length handing else r.next_lease }

  abbrev changed : SubRow → SubRow
  changed r = change (nat_eq r.number sub.number) r

  abbrev raised : World
  raised = resubbed changed w

  handing-few : length handing ≤ 1000
  handing-few = omega (arith, handed-length sub.next_lease out, first-few most budget (deliverable t sub.config.ordering (slots_of w sub.number)), few)

  own : sub_numbered w sub.number ≡ Some sub
  own = found-numbered (λ (r : SubRow). r.number) (λ (r : SubRow). bytes_eq r.name name) w.subs sub h.subs.ascend found

  kind : IsKind t changed
  kind = record {
    number = λ q. refl;
    topic = λ q. refl;
    filter = λ q. refl;
    ordering = λ q. refl;
    fits = λ q mark p. cond_both (nat_eq q.number sub.number) (q.next_lease + length handing) q.next_lease (λ next. MarkFits t next mark) (λ _. fits-later t q.next_lease (q.next_lease + length handing) mark (omega arith) p) (λ _. p);
  }

  raised-own : sub_numbered raised sub.number ≡ Some lent
  raised-own = found-resubbed t changed w sub.number kind ∙ ap (option_map changed) own ∙ ap (λ b. Some (change b sub)) (eq-eqb sub.number sub.number refl)

  raised-stand : MarksStand t count raised
  raised-stand = resubbed-stand t count count changed w kind (omega arith) (still-gone t count changed w kind (λ q e. e) h.marks) h.marks

  subs-stand : SubsStand (count + 1) w.next_sub w.next_topic (map changed w.subs)
  subs-stand = record {
    ascend = ordered-map (λ (a b : SubRow). a.number < b.number) (λ (a b : SubRow). a.number < b.number) changed w.subs (λ a b e. e) h.subs.ascend;
    below = each-map (λ (r : SubRow). r.number < w.next_sub) (λ (r : SubRow). r.number < w.next_sub) changed w.subs (λ r e. e) h.subs.below;
    names = ordered-map (λ (a b : SubRow). a.name ≢ b.name) (λ (a b : SubRow). a.name ≢ b.name) changed w.subs (λ a b e. e) h.subs.names;
    settings = each-map (λ (r : SubRow). new_sub_fault r.config ≡ None) (λ (r : SubRow). new_sub_fault r.config ≡ None) changed w.subs (λ r e. e) h.subs.settings;
    topics = each-map (λ (r : SubRow). r.topic < w.next_topic) (λ (r : SubRow). r.topic < w.next_topic) changed w.subs (λ r e. e) h.subs.topics;
    leases_from = each-map (λ (r : SubRow). 1 ≤ r.next_lease) (λ (r : SubRow). 1 ≤ r.next_lease) changed w.subs
        (λ r e. cond_both (nat_eq r.number sub.number) (r.next_lease + length handing) r.next_lease (λ next. 1 ≤ next) (λ _. omega (arith, e)) (λ _. e)) h.subs.leases_from;
    leases_few = each-map (λ r. (1 ≤ r.next_lease) × (r.next_lease - 1 ≤ 1000 * count)) (λ (r : SubRow). r.next_lease - 1 ≤ 1000 * (count + 1)) changed w.subs
        (λ r e. cond_both (nat_eq r.number sub.number) (r.next_lease + length handing) r.next_lease (λ next. next - 1 ≤ 1000 * (count + 1)) (λ _. omega (arith, e.0, e.1, handing-few)) (λ _. omega (arith, e.1)))
        (each-both (λ (r : SubRow). 1 ≤ r.next_lease) (λ (r : SubRow). r.next_lease - 1 ≤ 1000 * count) w.subs h.subs.leases_from h.subs.leases_few);
    from = h.subs.from;
    few = omega (arith, h.subs.few);
  }

  abbrev lending-mark : MarkRow → Mark
  lending-mark = at_sub sub.number (lent_mark (t + 1000 * seconds) handing) w.messages

  marks-stand : MarksStand t (count + 1) (marked lending-mark raised)
  marks-stand = lent-stand t count raised lent sub.next_lease most budget (t + 1000 * seconds) raised-own attached (omega (arith, time.some)) (omega (arith, time.most)) (omega arith) raised-stand (count + 1) (omega (arith, h.marks.few, handing-few))

  same : put_sub lent (remark_at sub.number (lent_mark (t + 1000 * seconds) handing) w) ≡ marked lending-mark raised
  same = λ i. record w {
    subs = put_sub-resubbed t count w name sub lent change h found refl (λ r. refl) i;
    marks = ap (λ (v : World). v.marks) (remark_at-marked sub.number (lent_mark (t + 1000 * seconds) handing) w) i;
  }

  pub pull-underway : IsUnderway t (count + 1) (put_sub lent (remark_at sub.number (lent_mark (t + 1000 * seconds) handing) w))
  pull-underway = subst (IsUnderway t (count + 1)) (sym same) (record {
    moment = h.moment;
    topics = topics-more count (count + 1) w.next_topic w.topics (omega arith) h.topics;
    subs = subs-stand;
    snaps = snaps-beside t count (count + 1) w w.next_topic w.next_sub w.now w.count w.topics (map changed w.subs) (marked lending-mark raised).marks (omega arith) (omega arith) h.snaps;
    messages = h.messages;
    marks = marks-stand;
  })
