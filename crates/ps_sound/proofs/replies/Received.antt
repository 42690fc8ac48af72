-- What a pull tells is so in the world after it.
use Rattle.std.proofs.Common.{ℕ, ◌≡◌, ◌≢◌, ◌+◌, ◌*◌, ◌<◌, ◌≤◌, min, Bool, true, false, cond, nat_eq, is_some, List, [], ◌∷◌, append-nil, Option, Some, None, option_map, unwrap_or, map, find, length, refl, sym, ◌∙◌, ap, subst, arith, if◌then◌else◌}
use Rattle.std.specs.List.{AllByRecursion}
use Rattle.std.specs.Str.{bytes_eq}
use Rattle.std.proofs.lemmas.Bool.{ne_eqb, eq-eqb, false≢true}
use Rattle.ps_base.specs.Moments.{last_moment}
use Rattle.ps_model.specs.declared.command.Command.TheVariants.{Pull}
use Rattle.ps_model.specs.declared.mark.Mark.{Mark}
use Rattle.ps_model.specs.declared.mark.Mark.TheVariants.{Leased}
use Rattle.ps_model.specs.declared.mark.Slot.{Slot}
use Rattle.ps_model.specs.declared.mark.Handed.{Handed}
use Rattle.ps_model.specs.declared.reply.Reply.{Reply}
use Rattle.ps_model.specs.declared.reply.Reply.TheVariants.{Received}
use Rattle.ps_model.specs.declared.reply.ReceivedMessage.{ReceivedMessage}
use Rattle.ps_model.specs.declared.world.World.{World}
use Rattle.ps_model.specs.declared.world.SubRow.{SubRow}
use Rattle.ps_model.specs.declared.world.MessageRow.{MessageRow}
use Rattle.ps_model.specs.declared.world.MarkRow.{MarkRow}
use Rattle.ps_model.specs.Same.{world_parts}
use Rattle.ps_model.specs.Slots.{failures_of}
use Rattle.ps_model.specs.Retention.{caught_up_as}
use Rattle.ps_model.specs.Choice.{is_deliverable, deliverable, choice, handed, lease_in, leased_as, lent_mark}
use Rattle.ps_model.specs.Worlds.{no_message, message_numbered, message_at, sub_named, sub_numbered, put_sub, remark_at, slot_of, slots_of}
use Rattle.ps_model.specs.Forwarding.{forward}
use Rattle.ps_model.specs.Settling.{expire, catch_up, release, let_go, expunge_world, settle}
use Rattle.ps_model.specs.Outcomes.{reply_in}
use Rattle.ps_model.specs.Pulling.{received, received_all, pull_from, pull_at}
use Rattle.ps_model.specs.Checks.{lease_seconds}
use Rattle.ps_model.specs.Standing.{mark_row}
use Rattle.ps_model.specs.Step.{moment, finished}
use Rattle.ps_model.specs.History.{called}
use Rattle.ps_model.specs.Sound.{Ordered, IsNamed, WantedAt, IsWanted}
use Rattle.ps_model.specs.Laws.{items_in}
use Rattle.ps_sound.specs.Told.{Found, IsMessage, IsHandedOut, lease_end, ReceivedIsHandedOut}
use Rattle.ps_base.proofs.Lists.{each-then, each-both, each-map, each-filter, found-map}
use Rattle.ps_sound.proofs.worlds.Lists.{found-numbered, put-same, ordered-filter}
use Rattle.ps_sound.proofs.worlds.Earlier.{slots-of-rows}
use Rattle.ps_sound.proofs.worlds.Marked.{at_sub}
use Rattle.ps_sound.proofs.worlds.Underway.{IsFinished}
use Rattle.ps_sound.proofs.phases.Stepping.{sound-settled}
use Rattle.ps_sound.proofs.phases.Resting.{forward-none}
use Rattle.ps_sound.proofs.commands.Lending.{is_at, deliverable-lives}
use Rattle.ps_sound.proofs.commands.Choosing.{slots-ascend}
use Rattle.ps_sound.proofs.commands.Outcomes.{each-first, first-ordered, each-handed}
use Rattle.ps_sound.proofs.replies.Calls.{told-carried, told-left}
use Rattle.ps_sound.proofs.replies.MarkRows.{HasMark, rows-own, has-remarked, has-expunged}

-- what holds of the number and the failures of each slot, holds of what is handed out
each-of-slots : (P : ℕ → ℕ → Type 0) (lease : ℕ) (xs : List Slot) → AllByRecursion (λ (s : Slot). P s.item.number (failures_of s.mark)) xs → AllByRecursion (λ (h : Handed). P h.number h.failures) (handed lease xs)
each-of-slots P lease [] h = tt
each-of-slots P lease (s ∷ ss) h = (h.0, each-of-slots P (lease + 1) ss h.1)

-- each that is handed out is found under its own lease
lease-own : (lease : ℕ) (xs : List Slot) → Ordered (λ (a b : Slot). a.item.number < b.item.number) xs → AllByRecursion (λ (h : Handed). lease_in (handed lease xs) h.number ≡ Some h.lease) (handed lease xs)
lease-own lease [] o = tt
lease-own lease (s ∷ ss) o = (
  rw (eq-eqb s.item.number s.item.number refl) refl,
  each-then (λ (h : Handed). (s.item.number < h.number) × (lease_in (handed (lease + 1) ss) h.number ≡ Some h.lease)) (λ (h : Handed). lease_in (handed lease (s ∷ ss)) h.number ≡ Some h.lease) (handed (lease + 1) ss)
      (λ h p. let ne : s.item.number ≢ h.number = omega (arith, p.0) in rw (ne_eqb s.item.number h.number ne) p.1)
      (each-both (λ (h : Handed). s.item.number < h.number) (λ (h : Handed). lease_in (handed (lease + 1) ss) h.number ≡ Some h.lease) (handed (lease + 1) ss)
      (each-handed (λ n. s.item.number < n) (lease + 1) ss o.0) (lease-own (lease + 1) ss o.1)),
)

-- a mark that is there with a property that only one has
mark-is : (w : World) (n k : ℕ) (mark : Mark) → HasMark (λ m. m ≡ mark) w n k → option_map (λ (r : MarkRow). r.mark) (mark_row w n k) ≡ Some mark
mark-is w n k mark p = at (mark_row w n k) p
  where
    at : (o : Option MarkRow) → Found (λ (r : MarkRow). r.mark ≡ mark) o → option_map (λ (r : MarkRow). r.mark) o ≡ Some mark
    at None p = absurd p
    at (Some r) p = ap Some p

-- of a message that can be handed out: its failures, and the topic of its message
record Lendable (v : World) (sub : SubRow) (k failures : ℕ) : Type 0 where
  mark : HasMark (λ m. failures_of m ≡ failures) v sub.number k
  message : Found (λ (m : MessageRow). m.topic ≡ sub.topic) (message_numbered v.messages k)

lendable-slots : (t count : ℕ) (v : World) (sub : SubRow) → sub_numbered v sub.number ≡ Some sub → IsFinished t count v
    → AllByRecursion (λ (s : Slot). is_deliverable t sub.config.ordering (slots_of v sub.number) s ≡ true → Lendable v sub s.item.number (failures_of s.mark)) (slots_of v sub.number)
lendable-slots t count v sub own fin = slots-of-rows (λ (s : Slot). is_deliverable t sub.config.ordering (slots_of v sub.number) s ≡ true → Lendable v sub s.item.number (failures_of s.mark)) v sub.number
    (each-then (λ (r : MarkRow). ((find (is_at r.sub r.message) v.marks ≡ Some r) × IsNamed v r) × IsWanted v r)
    (λ (r : MarkRow). r.sub ≡ sub.number → is_deliverable t sub.config.ordering (slots_of v sub.number) (slot_of v.messages r) ≡ true → Lendable v sub r.message (failures_of r.mark)) v.marks row
    (each-both _ (IsWanted v) v.marks (each-both _ (IsNamed v) v.marks (rows-own v.marks fin.underway.marks.ascend) fin.underway.marks.named) fin.underway.marks.wanted))
  where
    row : (r : MarkRow) → ((find (is_at r.sub r.message) v.marks ≡ Some r) × IsNamed v r) × IsWanted v r
        → r.sub ≡ sub.number → is_deliverable t sub.config.ordering (slots_of v sub.number) (slot_of v.messages r) ≡ true → Lendable v sub r.message (failures_of r.mark)
    row r p same e = record {
      mark = subst (λ n. HasMark (λ m. failures_of m ≡ failures_of r.mark) v n r.message) same (subst (Found (λ (x : MarkRow). failures_of x.mark ≡ failures_of r.mark)) (sym p.0.0) refl);
      message = message (message_numbered v.messages r.message) refl p.0.1.1 (subst (λ o. WantedAt v (message_at v.messages r.message) o r.mark) (ap (sub_numbered v) same ∙ own) p.1);
    }
      where
        message : (o : Option MessageRow) → message_numbered v.messages r.message ≡ o → is_some o ≡ true → WantedAt v (message_at v.messages r.message) (Some sub) r.mark → Found (λ (m : MessageRow). m.topic ≡ sub.topic) o
        message None eo some wanted = absurd (false≢true some)
        message (Some m) eo some wanted =
            ap (λ (o : Option MessageRow). (unwrap_or o (no_message r.message)).topic) (sym eo) ∙ (wanted (deliverable-lives t sub.config.ordering (slots_of v sub.number) (slot_of v.messages r) e)).topic

abbrev exactly_once_in : Reply → Bool
exactly_once_in (Received exactly_once ordering items) = exactly_once
exactly_once_in _ = false

abbrev ordering_in : Reply → Bool
ordering_in (Received exactly_once ordering items) = ordering
ordering_in _ = false

-- What a pull of the subscription leaves.
module _ (t count : ℕ) (v : World) (name : List ℕ) (sub : SubRow) (most budget seconds : ℕ) (found : sub_named v name ≡ Some sub) (fin : IsFinished t count v) where
  abbrev out : List Slot
  out = choice t sub.config.ordering most budget (slots_of v sub.number)

  abbrev given : List Handed
  given = handed sub.next_lease out

  abbrev deadline : ℕ
  deadline = t + 1000 * seconds

  abbrev lent : SubRow
  lent = record sub { next_lease = sub.next_lease + length given }

  abbrev made : World
  made = put_sub lent (remark_at sub.number (lent_mark deadline given) v)

  abbrev left : World
  left = expunge_world t (forward t [] made)

  own : sub_numbered v sub.number ≡ Some sub
  own = found-numbered (λ (r : SubRow). r.number) (λ (r : SubRow). bytes_eq r.name name) v.subs sub fin.underway.subs.ascend found

  pub lent-found : sub_named left name ≡ Some lent
  lent-found =
      ap (find (λ (r : SubRow). bytes_eq r.name name)) (put-same (λ (r : SubRow). r.number) v.subs sub lent change fin.underway.subs.ascend own refl (λ r. refl))
      ∙ found-map (λ (r : SubRow). bytes_eq r.name name) (λ (r : SubRow). change (nat_eq r.number sub.number) r) v.subs (λ r. refl)
      ∙ ap (option_map (λ (r : SubRow). change (nat_eq r.number sub.number) r)) found ∙ ap (λ b. Some (change b sub)) (eq-eqb sub.number sub.number refl)
    where
      change : Bool → SubRow → SubRow
      change b r = record r { next_lease = if b then sub.next_lease + length given else r.next_lease }

  -- the slots that are chosen stand by number
  out-ordered : Ordered (λ (a b : Slot). a.item.number < b.item.number) out
  out-ordered =
      first-ordered (λ (a b : Slot). a.item.number < b.item.number) most budget (deliverable t sub.config.ordering (slots_of v sub.number))
      (ordered-filter (λ (a b : Slot). a.item.number < b.item.number) (is_deliverable t sub.config.ordering (slots_of v sub.number)) (slots_of v sub.number) (slots-ascend v sub.number fin.underway.marks.ascend))

  given-lendable : AllByRecursion (λ (h : Handed). Lendable v sub h.number h.failures) given
  given-lendable =
      each-of-slots (Lendable v sub) sub.next_lease out
      (each-first (λ (s : Slot). Lendable v sub s.item.number (failures_of s.mark)) most budget (deliverable t sub.config.ordering (slots_of v sub.number))
      (each-filter (λ (s : Slot). is_deliverable t sub.config.ordering (slots_of v sub.number) s ≡ true → Lendable v sub s.item.number (failures_of s.mark)) (λ (s : Slot). Lendable v sub s.item.number (failures_of s.mark))
      (is_deliverable t sub.config.ordering (slots_of v sub.number)) (slots_of v sub.number) (λ s e k. k e) (lendable-slots t count v sub own fin)))

  -- the mark that is handed out
  leased : (h : Handed) → lease_in given h.number ≡ Some h.lease → HasMark (λ m. failures_of m ≡ h.failures) v sub.number h.number → HasMark (λ m. m ≡ Leased h.failures h.lease deadline) left sub.number h.number
  leased h under p =
      has-expunged (λ m. m ≡ Leased h.failures h.lease deadline) sub.number h.number t (forward t [] made) (λ mark e. ap caught_up_as e)
      (subst (λ (u : World). HasMark (λ m. m ≡ Leased h.failures h.lease deadline) u sub.number h.number) (sym (forward-none t made))
      (has-remarked (λ m. failures_of m ≡ h.failures) (λ m. m ≡ Leased h.failures h.lease deadline) sub.number h.number sub.number (lent_mark deadline given) v new p))
    where
      new : (r : MarkRow) → mark_row v sub.number h.number ≡ Some r → r.sub ≡ sub.number → r.message ≡ h.number → failures_of r.mark ≡ h.failures → at_sub sub.number (lent_mark deadline given) v.messages r ≡ Leased h.failures h.lease deadline
      new r _ es ek e =
          ap (λ b. cond b (leased_as deadline r.mark (lease_in given r.message)) r.mark) (eq-eqb r.sub sub.number es)
          ∙ ap (λ k. leased_as deadline r.mark (lease_in given k)) ek ∙ ap (leased_as deadline r.mark) under ∙ ap (λ f. Leased f h.lease deadline) e

  -- the message that it is of
  shown : (h : Handed) → Found (λ (m : MessageRow). m.topic ≡ sub.topic) (message_numbered v.messages h.number)
      → Found (IsMessage sub.topic (message_at v.messages h.number).publish (message_at v.messages h.number).message) (message_numbered left.messages h.number)
  shown h p = subst (Found (IsMessage sub.topic (message_at v.messages h.number).publish (message_at v.messages h.number).message)) (sym same) (at (message_numbered v.messages h.number) p)
    where
      gone : World
      gone = release t (catch_up (expire t (forward t [] made)))

      same : message_numbered left.messages h.number ≡ option_map (let_go t gone) (message_numbered v.messages h.number)
      same = ap (λ rows. message_numbered (map (let_go t gone) rows) h.number) (append-nil v.messages) ∙ found-map (λ (m : MessageRow). nat_eq m.number h.number) (let_go t gone) v.messages (λ m. refl)

      at : (o : Option MessageRow) → Found (λ (m : MessageRow). m.topic ≡ sub.topic) o → Found (IsMessage sub.topic (unwrap_or o (no_message h.number)).publish (unwrap_or o (no_message h.number)).message) (option_map (let_go t gone) o)
      at None p = absurd p
      at (Some m) p = record { topic = p; publish = refl; message = refl }

  pub handed-out : AllByRecursion (IsHandedOut left lent deadline) (received_all v sub given)
  handed-out = each-map (λ (h : Handed). Lendable v sub h.number h.failures × (lease_in given h.number ≡ Some h.lease)) (IsHandedOut left lent deadline) (λ (h : Handed). received sub h (message_at v.messages h.number)) given
      (λ h p. record {
        own = refl;
        failures = h.failures;
        leased = mark-is left sub.number h.number (Leased h.failures h.lease deadline) (leased h p.1 p.0.mark);
        attempt = refl;
        message = shown h p.0.message;
      })
      (each-both (λ (h : Handed). Lendable v sub h.number h.failures) (λ (h : Handed). lease_in given h.number ≡ Some h.lease) given given-lendable (lease-own sub.next_lease out out-ordered))

-- in a world with the same messages and marks
handed-same : (a b : World) (sub : SubRow) (until : ℕ) (r : ReceivedMessage) → a.messages ≡ b.messages → a.marks ≡ b.marks → IsHandedOut b sub until r → IsHandedOut a sub until r
handed-same a b sub until r messages marks p = record {
  own = p.own;
  failures = p.failures;
  leased = ap (λ rows. option_map (λ (x : MarkRow). x.mark) (find (is_at r.id.sub r.id.message) rows)) marks ∙ p.leased;
  attempt = p.attempt;
  message = subst (λ rows. Found (IsMessage sub.topic r.publish r.message) (message_numbered rows r.id.message)) (sym messages) p.message;
}

pub received_is_handed_out : ReceivedIsHandedOut
received_is_handed_out w at name most budget seconds exactly_once ordering items h told = by_sub (sub_named v name) refl (told-carried w at (Pull name most budget seconds) (Received exactly_once ordering items) told refl) (told-left w at (Pull name most budget seconds) (Received exactly_once ordering items) told refl)
  where
    t : ℕ
    t = moment w at

    v : World
    v = settle t w

    after : World
    after = called w (at, Pull name most budget seconds)

    later : w.now ≤ t
    later = omega (arith, h.in_time.now)

    last : t ≤ last_moment
    last = omega arith

    is : IsFinished t w.count v
    is = sound-settled t w later last h

    Goal : SubRow → Type 0
    Goal sub = record {
      exactly_once : exactly_once ≡ sub.config.exactly_once;
      ordering : ordering ≡ sub.config.ordering;
      each : AllByRecursion (IsHandedOut after sub (lease_end t sub seconds)) items;
    }

    by_detached : (sub : SubRow) → sub_named v name ≡ Some sub → (detached : Bool)
        → reply_in (pull_from v t sub (min most 1000) (min budget 10000000) (unwrap_or (option_map lease_seconds seconds) sub.config.ack_seconds) detached) ≡ Received exactly_once ordering items
        → world_parts after ≡ world_parts (finished t v (pull_from v t sub (min most 1000) (min budget 10000000) (unwrap_or (option_map lease_seconds seconds) sub.config.ack_seconds) detached))
        → Found Goal (sub_named after name)
    by_detached sub found true e left = absurd (cc (e))
    by_detached sub found false e parts =
        subst (Found Goal) (sym (ap (find (λ (r : SubRow). bytes_eq r.name name)) (ap (λ p. p.1.1.1.1.1.0) parts) ∙ lent-found t w.count v name sub (min most 1000) (min budget 10000000) asked found is)) (record {
          exactly_once = sym (ap exactly_once_in e);
          ordering = sym (ap ordering_in e);
          each = subst (AllByRecursion (IsHandedOut after lending (t + 1000 * asked))) (ap items_in e)
              (each-then (IsHandedOut leaving lending (t + 1000 * asked)) (IsHandedOut after lending (t + 1000 * asked)) (received_all v sub handing)
              (λ r. handed-same after leaving lending (t + 1000 * asked) r (ap (λ p. p.1.1.1.1.1.1.1.0) parts) (ap (λ p. p.1.1.1.1.1.1.1.1) parts)) (handed-out t w.count v name sub (min most 1000) (min budget 10000000) asked found is));
        })
      where
        asked : ℕ
        asked = unwrap_or (option_map lease_seconds seconds) sub.config.ack_seconds

        handing : List Handed
        handing = given t w.count v name sub (min most 1000) (min budget 10000000) asked found is

        lending : SubRow
        lending = lent t w.count v name sub (min most 1000) (min budget 10000000) asked found is

        leaving : World
        leaving = left t w.count v name sub (min most 1000) (min budget 10000000) asked found is

    by_sub : (o : Option SubRow) → sub_named v name ≡ o → reply_in (pull_at v t name (min most 1000) (min budget 10000000) (option_map lease_seconds seconds) o) ≡ Received exactly_once ordering items
        → world_parts after ≡ world_parts (finished t v (pull_at v t name (min most 1000) (min budget 10000000) (option_map lease_seconds seconds) o)) → Found Goal (sub_named after name)
    by_sub None found e parts = absurd (cc (e))
    by_sub (Some sub) found e parts = by_detached sub found sub.detached e parts
