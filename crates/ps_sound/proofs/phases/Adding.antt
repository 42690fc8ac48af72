-- What new messages keep.
use Rattle.std.proofs.Common.{ℕ, suc, ◌≡◌, ◌+◌, ◌-◌, ◌*◌, ◌<◌, ◌≤◌, ◌&&◌, not, true, false, nat_eq, is_some, List, [], ◌∷◌, ◌++◌, Option, Some, None, length, filter, flat_map, unwrap_or, refl, sym, ◌∙◌, ap, subst, arith}
use Rattle.std.specs.List.{AllByRecursion}
use Rattle.std.proofs.lemmas.Bool.{and_parts, eqb-true, both_ways, not-true}
use Rattle.ps_message.specs.declared.message.Message.{Message}
use Rattle.ps_model.specs.declared.world.World.{World}
use Rattle.ps_model.specs.declared.world.SubRow.{SubRow}
use Rattle.ps_model.specs.declared.world.SnapRow.{SnapRow}
use Rattle.ps_model.specs.declared.world.MarkRow.{MarkRow}
use Rattle.ps_model.specs.declared.world.MessageRow.{MessageRow}
use Rattle.ps_filter.specs.Filters.{meets}
use Rattle.ps_model.specs.Slots.{is_leased, is_earlier}
use Rattle.ps_model.specs.Seeking.{fresh}
use Rattle.ps_model.specs.Worlds.{sub_numbered, message_numbered, message_at, no_message, item_at, slot_of}
use Rattle.ps_model.specs.Forwarding.{message_rows, enters, entered, add_messages}
use Rattle.ps_model.specs.Sound.{Ordered, IsNamed, WantedAt, IsWanted, IsListedIn, KeepsWhatItHolds, FitsAt, leases_alive}
use Rattle.ps_base.proofs.Lists.{each-always, each-then, each-both, each-map, each-append, each-filter, each-flat_map, each-found, found-passes, found-append}
use Rattle.ps_sound.proofs.worlds.Lists.{found-own, ordered-map, ordered-filter, ordered-append}
use Rattle.ps_sound.proofs.worlds.Earlier.{earlier-number}
use Rattle.ps_sound.proofs.worlds.Underway.{ordering_of, InOrder, AllInOrder, IsGoneAt, SnapsStand, MessagesStand, MarksStand, IsUnderway}
use Rattle.ps_sound.proofs.worlds.Entering.{IsBefore, IsLast, each-enter_all, enter_all-ordered, tally-enter_all}

-- what holds of each row that a publish makes
pub rows-each : (P : MessageRow → Type 0) (topic number t : ℕ) (ms : List Message) → ((k : ℕ) (m : Message) → number ≤ k → k < number + length ms → P (record { number = k; topic = topic; publish = t; message = m; kept = true }))
    → AllByRecursion P (message_rows topic number t ms)
rows-each P topic number t [] k = tt
rows-each P topic number t (m ∷ ms) k = (k number m (omega arith) (omega arith), rows-each P topic (number + 1) t ms (λ n x a b. k n x (omega arith) (omega arith)))

pub rows-ascend : (topic number t : ℕ) (ms : List Message) → Ordered (λ (a b : MessageRow). a.number < b.number) (message_rows topic number t ms)
rows-ascend topic number t [] = tt
rows-ascend topic number t (m ∷ ms) = (rows-each (λ b. number < b.number) topic (number + 1) t ms (λ k x a b. omega arith), rows-ascend topic (number + 1) t ms)

pub rows-publishes : (topic number t : ℕ) (ms : List Message) → Ordered (λ (a b : MessageRow). a.publish ≤ b.publish) (message_rows topic number t ms)
rows-publishes topic number t [] = tt
rows-publishes topic number t (m ∷ ms) = (rows-each (λ b. t ≤ b.publish) topic (number + 1) t ms (λ k x a b. omega arith), rows-publishes topic (number + 1) t ms)

pub rows-length : (topic number t : ℕ) (ms : List Message) → length (message_rows topic number t ms) ≡ length ms
rows-length topic number t [] = refl
rows-length topic number t (m ∷ ms) = ap suc (rows-length topic (number + 1) t ms)

-- a message to be added, under a number from next on and below the end
pub record IsNewMessage (t next end next_topic : ℕ) (r : MessageRow) : Type 0 where
  pub from : next ≤ r.number
  pub below : r.number < end
  pub now : r.publish ≡ t
  pub topic : r.topic < next_topic
  pub kept : r.kept ≡ true

-- a new row of the marks
record IsNewRow (t next : ℕ) (w : World) (r : MarkRow) : Type 0 where
  from : next ≤ r.message
  named : IsNamed w r
  fit : FitsAt t (sub_numbered w r.sub) r.mark
  wanted : IsWanted w r
  gone : IsGoneAt (sub_numbered w r.sub) r.mark
  none_leased : is_leased r.mark ≡ false

each-rest : {A : Type 0} (P : A → Type 0) (xs ys : List A) → AllByRecursion P (xs ++ ys) → AllByRecursion P ys
each-rest P [] ys h = h
each-rest P (x ∷ xs) ys h = each-rest P xs ys h.1

module _ (t count : ℕ) (w : World) (rows : List MessageRow) (h : IsUnderway t count w)
    (ascend : Ordered (λ (a b : MessageRow). a.number < b.number) rows) (publishes : Ordered (λ (a b : MessageRow). a.publish ≤ b.publish) rows)
    (new : AllByRecursion (IsNewMessage t w.next_message (w.next_message + length rows) w.next_topic) rows) (room : (w.next_message - 1) + (leases_alive w + length rows) ≤ 1000 * count) where
  abbrev made : World
  made = add_messages rows w

  -- each old message is before each new one
  apart : (R : MessageRow → MessageRow → Type 0) → ((a b : MessageRow) → a.number < w.next_message → a.publish ≤ t → IsNewMessage t w.next_message (w.next_message + length rows) w.next_topic b → R a b) → AllByRecursion (λ a. AllByRecursion (R a) rows) w.messages
  apart R k = each-then (λ (a : MessageRow). (a.number < w.next_message) × (a.publish ≤ t)) (λ a. AllByRecursion (R a) rows) w.messages
      (λ a p. each-then (IsNewMessage t w.next_message (w.next_message + length rows) w.next_topic) (R a) rows (λ b q. k a b p.0 p.1 q) new)
      (each-both (λ (a : MessageRow). a.number < w.next_message) (λ (a : MessageRow). a.publish ≤ t) w.messages h.messages.below h.messages.past)

  messages-ascend : Ordered (λ (a b : MessageRow). a.number < b.number) (w.messages ++ rows)
  messages-ascend = ordered-append (λ (a b : MessageRow). a.number < b.number) w.messages rows (apart (λ a b. a.number < b.number) (λ a b below past q. omega (arith, q.from))) h.messages.ascend ascend

  messages-stand : MessagesStand t (w.next_message + length rows) w.next_topic (w.messages ++ rows)
  messages-stand = record {
    ascend = messages-ascend;
    below = each-append (λ (r : MessageRow). r.number < w.next_message + length rows) w.messages rows
        (each-then (λ (r : MessageRow). r.number < w.next_message) (λ (r : MessageRow). r.number < w.next_message + length rows) w.messages (λ r e. omega (arith, e)) h.messages.below)
        (each-then (IsNewMessage t w.next_message (w.next_message + length rows) w.next_topic) (λ (r : MessageRow). r.number < w.next_message + length rows) rows (λ r q. q.below) new);
    publishes = ordered-append (λ (a b : MessageRow). a.publish ≤ b.publish) w.messages rows (apart (λ a b. a.publish ≤ b.publish) (λ a b below past q. omega (arith, q.now))) h.messages.publishes publishes;
    past = each-append (λ (r : MessageRow). r.publish ≤ t) w.messages rows h.messages.past
        (each-then (IsNewMessage t w.next_message (w.next_message + length rows) w.next_topic) (λ (r : MessageRow). r.publish ≤ t) rows (λ r q. omega (arith, q.now)) new);
    topics = each-append (λ (r : MessageRow). r.topic < w.next_topic) w.messages rows h.messages.topics
        (each-then (IsNewMessage t w.next_message (w.next_message + length rows) w.next_topic) (λ (r : MessageRow). r.topic < w.next_topic) rows (λ r q. q.topic) new);
    from = omega (arith, h.messages.from);
  }

  -- a new message is found under its number
  found-new : AllByRecursion (λ (r : MessageRow). message_numbered (w.messages ++ rows) r.number ≡ Some r) rows
  found-new = each-rest (λ (r : MessageRow). message_numbered (w.messages ++ rows) r.number ≡ Some r) w.messages rows (found-own (λ (r : MessageRow). r.number) (w.messages ++ rows) messages-ascend)

  abbrev entry : SubRow → MessageRow → MarkRow
  entry sub r = record { sub = sub.number; message = r.number; mark = fresh }

  new-row : (sub : SubRow) (r : MessageRow) → sub_numbered w sub.number ≡ Some sub → enters sub r ≡ true
      → IsNewMessage t w.next_message (w.next_message + length rows) w.next_topic r × (message_numbered (w.messages ++ rows) r.number ≡ Some r) → IsNewRow t w.next_message made (entry sub r)
  new-row sub r own e p =
      let at : message_at (w.messages ++ rows) r.number ≡ r = ap (λ o. unwrap_or o (no_message r.number)) p.1 in
      let parts = and_parts (nat_eq r.topic sub.topic) (not sub.detached && meets sub.config.filter r.message) e in
      record {
        from = p.0.from;
        named = (ap is_some own, ap is_some p.1);
        fit = subst (λ (o : Option SubRow). FitsAt t o fresh) (sym own) (record { near = omega arith; lent = tt });
        wanted = subst (λ (o : Option SubRow). WantedAt made (message_at (w.messages ++ rows) r.number) o fresh) (sym own)
            (subst (λ (m : MessageRow). WantedAt made m (Some sub) fresh) (sym at)
            (λ _. record { kept = p.0.kept; topic = eqb-true r.topic sub.topic parts.0; met = (and_parts (not sub.detached) (meets sub.config.filter r.message) parts.1).1 }));
        gone = subst (λ (o : Option SubRow). IsGoneAt o fresh) (sym own) (λ detached. absurd (both_ways sub.detached (not-true sub.detached (and_parts (not sub.detached) (meets sub.config.filter r.message) parts.1).0) detached));
        none_leased = refl;
      }

  entered-new : (sub : SubRow) → sub_numbered w sub.number ≡ Some sub → AllByRecursion (IsNewRow t w.next_message made) (entered sub rows)
  entered-new sub own =
      each-map (IsEntering sub) (IsNewRow t w.next_message made) (entry sub) (filter (enters sub) rows) (λ r p. new-row sub r own p.0 p.1)
      (each-filter (λ (r : MessageRow). IsNewMessage t w.next_message (w.next_message + length rows) w.next_topic r × (message_numbered (w.messages ++ rows) r.number ≡ Some r)) (IsEntering sub) (enters sub) rows
      (λ r e p. (e, p)) (each-both (IsNewMessage t w.next_message (w.next_message + length rows) w.next_topic) (λ (r : MessageRow). message_numbered (w.messages ++ rows) r.number ≡ Some r) rows new found-new))
    where
      IsEntering : SubRow → MessageRow → Type 0
      IsEntering sub r = (enters sub r ≡ true) × (IsNewMessage t w.next_message (w.next_message + length rows) w.next_topic r × (message_numbered (w.messages ++ rows) r.number ≡ Some r))

  abbrev entering : List SubRow → List MarkRow
  entering subs = flat_map (λ (sub : SubRow). entered sub rows) subs

  entering-new : AllByRecursion (IsNewRow t w.next_message made) (entering w.subs)
  entering-new = each-flat_map (λ (sub : SubRow). sub_numbered w sub.number ≡ Some sub) (IsNewRow t w.next_message made) (λ (sub : SubRow). entered sub rows) w.subs entered-new (found-own (λ (sub : SubRow). sub.number) w.subs h.subs.ascend)

  -- each row of it is of the subscription
  entered-sub : (P : MarkRow → Type 0) (sub : SubRow) → ((message : ℕ) → P (record { sub = sub.number; message = message; mark = fresh })) → AllByRecursion P (entered sub rows)
  entered-sub P sub k = each-map (λ (r : MessageRow). Unit {0}) P (entry sub) (filter (enters sub) rows) (λ r _. k r.number) (each (filter (enters sub) rows))
    where
      each : (xs : List MessageRow) → AllByRecursion (λ (r : MessageRow). Unit {0}) xs
      each [] = tt
      each (x ∷ xs) = (tt, each xs)

  entering-ordered : (subs : List SubRow) → Ordered (λ (a b : SubRow). a.number < b.number) subs → Ordered IsBefore (entering subs)
  entering-ordered [] o = tt
  entering-ordered (sub ∷ subs) o =
      ordered-append IsBefore (entered sub rows) (entering subs)
      (entered-sub (λ x. AllByRecursion (IsBefore x) (entering subs)) sub (λ message. each-flat_map (λ (later : SubRow). sub.number < later.number) (IsBefore (record { sub = sub.number; message = message; mark = fresh })) (λ (later : SubRow). entered later rows) subs
      (λ later up. entered-sub (IsBefore (record { sub = sub.number; message = message; mark = fresh })) later (λ n same. absurd (omega arith))) o.0))
      (ordered-map (λ (a b : MessageRow). a.number < b.number) IsBefore (entry sub) (filter (enters sub) rows) (λ a b e _. e) (ordered-filter (λ (a b : MessageRow). a.number < b.number) (enters sub) rows ascend))
      (entering-ordered subs o.1)

  -- the message of an old row is below the next number
  old-below : AllByRecursion (λ (r : MarkRow). r.message < w.next_message) w.marks
  old-below = each-then (IsNamed w) (λ (r : MarkRow). r.message < w.next_message) w.marks (λ r p. at r (message_numbered w.messages r.message) refl p.1) h.marks.named
    where
      at : (r : MarkRow) (o : Option MessageRow) → message_numbered w.messages r.message ≡ o → is_some o ≡ true → r.message < w.next_message
      at r None e some = absurd (cc (some))
      at r (Some m) e some =
          let below : m.number < w.next_message = each-found (λ (x : MessageRow). x.number < w.next_message) (λ (x : MessageRow). nat_eq x.number r.message) w.messages m e h.messages.below in
          let same : m.number ≡ r.message = eqb-true m.number r.message (found-passes (λ (x : MessageRow). nat_eq x.number r.message) w.messages m e) in
          omega arith

  -- an old row's message is found as before
  old-found : (r : MarkRow) → IsNamed w r → message_numbered (w.messages ++ rows) r.message ≡ message_numbered w.messages r.message
  old-found r p = found-append (λ (x : MessageRow). nat_eq x.number r.message) w.messages rows p.1

  old-slot : (r : MarkRow) → IsNamed w r → slot_of (w.messages ++ rows) r ≡ slot_of w.messages r
  old-slot r p = ap (λ (m : MessageRow). record { item = item_at r.message m; mark = r.mark }) (ap (λ o. unwrap_or o (no_message r.message)) (old-found r p))

  in_order : AllInOrder made
  in_order = each-enter_all (λ (r : MarkRow). AllByRecursion (λ (e : MarkRow). InOrder made e r) made.marks) (entering w.subs) w.marks
      (each-then (IsNewRow t w.next_message made) (λ (r : MarkRow). AllByRecursion (λ (e : MarkRow). InOrder made e r) made.marks) (entering w.subs)
      (λ r p. each-always (λ (e : MarkRow). InOrder made e r) made.marks (λ e same early leased. absurd (both_ways (is_leased r.mark) p.none_leased leased))) entering-new)
      (each-then (λ r. (r.message < w.next_message) × (IsNamed w r × AllByRecursion (λ (e : MarkRow). InOrder w e r) w.marks)) (λ (r : MarkRow). AllByRecursion (λ (e : MarkRow). InOrder made e r) made.marks) w.marks
      (λ r p. each-enter_all (λ (e : MarkRow). InOrder made e r) (entering w.subs) w.marks
      (each-then (IsNewRow t w.next_message made) (λ (e : MarkRow). InOrder made e r) (entering w.subs)
      (λ e q same early leased. let up : e.message < r.message = earlier-number (ordering_of (sub_numbered w r.sub)) (slot_of (w.messages ++ rows) e) (slot_of (w.messages ++ rows) r) early in absurd (omega (arith, q.from, p.0))) entering-new)
      (each-then (λ e. IsNamed w e × InOrder w e r) (λ (e : MarkRow). InOrder made e r) w.marks
      (λ e q same early. q.1 same ((λ i. is_earlier (ordering_of (sub_numbered w r.sub)) (sym (old-slot e q.0) i) (sym (old-slot r p.1.0) i)) ∙ early))
      (each-both (IsNamed w) (λ (e : MarkRow). InOrder w e r) w.marks h.marks.named p.1.1)))
      (each-both (λ (r : MarkRow). r.message < w.next_message) (λ r. IsNamed w r × AllByRecursion (λ (e : MarkRow). InOrder w e r) w.marks) w.marks old-below
      (each-both (IsNamed w) (λ (r : MarkRow). AllByRecursion (λ (e : MarkRow). InOrder w e r) w.marks) w.marks h.marks.named h.marks.in_order)))

  marks-stand : MarksStand t count made
  marks-stand = record {
    ascend = enter_all-ordered (entering w.subs) w.marks (entering-ordered w.subs h.subs.ascend)
        (each-then (IsNewRow t w.next_message made) (IsLast w.marks) (entering w.subs) (λ r p. each-then (λ (x : MarkRow). x.message < w.next_message) (λ x. IsBefore x r) w.marks (λ x e same. omega (arith, e, p.from)) old-below) entering-new)
        h.marks.ascend;
    named = each-enter_all (IsNamed made) (entering w.subs) w.marks (each-then (IsNewRow t w.next_message made) (IsNamed made) (entering w.subs) (λ r p. p.named) entering-new)
        (each-then (IsNamed w) (IsNamed made) w.marks (λ r p. (p.0, ap is_some (old-found r p) ∙ p.1)) h.marks.named);
    fit = each-enter_all (λ (r : MarkRow). FitsAt t (sub_numbered w r.sub) r.mark) (entering w.subs) w.marks
        (each-then (IsNewRow t w.next_message made) (λ (r : MarkRow). FitsAt t (sub_numbered w r.sub) r.mark) (entering w.subs) (λ r p. p.fit) entering-new) h.marks.fit;
    wanted = each-enter_all (IsWanted made) (entering w.subs) w.marks (each-then (IsNewRow t w.next_message made) (IsWanted made) (entering w.subs) (λ r p. p.wanted) entering-new)
        (each-then (λ r. IsNamed w r × IsWanted w r) (IsWanted made) w.marks
        (λ r p. subst (λ (m : MessageRow). WantedAt made m (sub_numbered w r.sub) r.mark) (sym (ap (λ o. unwrap_or o (no_message r.message)) (old-found r p.0))) (same r (message_at w.messages r.message) (sub_numbered w r.sub) p.1))
        (each-both (IsNamed w) (IsWanted w) w.marks h.marks.named h.marks.wanted));
    in_order = in_order;
    gone = each-enter_all (λ (r : MarkRow). IsGoneAt (sub_numbered w r.sub) r.mark) (entering w.subs) w.marks
        (each-then (IsNewRow t w.next_message made) (λ (r : MarkRow). IsGoneAt (sub_numbered w r.sub) r.mark) (entering w.subs) (λ r p. p.gone) entering-new) h.marks.gone;
    few = few;
  }
    where
      same : (r : MarkRow) (m : MessageRow) (o : Option SubRow) → WantedAt w m o r.mark → WantedAt made m o r.mark
      same r m None p = p
      same r m (Some sub) p = p

      leases : leases_alive made ≡ leases_alive w
      leases = tally-enter_all (λ (r : MarkRow). is_leased r.mark) (entering w.subs) w.marks (each-then (IsNewRow t w.next_message made) (λ (r : MarkRow). is_leased r.mark ≡ false) (entering w.subs) (λ r p. p.none_leased) entering-new)

      few : (made.next_message - 1) + leases_alive made ≤ 1000 * count
      few = omega (arith, h.messages.from, leases, room)

  snaps-stand : SnapsStand t count made
  snaps-stand = record {
    ascend = h.snaps.ascend;
    below = h.snaps.below;
    names = h.snaps.names;
    labels = h.snaps.labels;
    lists = h.snaps.lists;
    bounds = each-then (λ (r : SnapRow). r.bound < w.next_message) (λ (r : SnapRow). r.bound < w.next_message + length rows) w.snaps (λ r e. omega (arith, e)) h.snaps.bounds;
    topics = h.snaps.topics;
    listed = each-then (λ (r : SnapRow). AllByRecursion (IsListedIn w r) r.listed) (λ (r : SnapRow). AllByRecursion (IsListedIn made r) r.listed) w.snaps
        (λ r p. each-then (IsListedIn w r) (IsListedIn made r) r.listed (λ n q. listed r n q) p) h.snaps.listed;
    held = each-then (λ (r : SnapRow). AllByRecursion (KeepsWhatItHolds r) w.messages) (λ (r : SnapRow). AllByRecursion (KeepsWhatItHolds r) (w.messages ++ rows)) w.snaps
        (λ r p. each-append (KeepsWhatItHolds r) w.messages rows p (each-then (IsNewMessage t w.next_message (w.next_message + length rows) w.next_topic) (KeepsWhatItHolds r) rows (λ m q _ _. q.kept) new)) h.snaps.held;
    live = h.snaps.live;
    near = h.snaps.near;
    from = h.snaps.from;
    few = h.snaps.few;
  }
    where
      listed : (r : SnapRow) (n : ℕ) → IsListedIn w r n → IsListedIn made r n
      listed r n q =
          let found : message_numbered (w.messages ++ rows) n ≡ message_numbered w.messages n = found-append (λ (x : MessageRow). nat_eq x.number n) w.messages rows q.there in
          let at : message_at (w.messages ++ rows) n ≡ message_at w.messages n = ap (λ o. unwrap_or o (no_message n)) found in
          record { there = ap is_some found ∙ q.there; topic = ap (λ (m : MessageRow). m.topic) at ∙ q.topic; kept = ap (λ (m : MessageRow). m.kept) at ∙ q.kept }

  -- New messages of topics that there are, where there is room for them.
  pub add-underway : IsUnderway t count made
  add-underway = record {
    moment = h.moment;
    topics = h.topics;
    subs = h.subs;
    snaps = snaps-stand;
    messages = messages-stand;
    marks = marks-stand;
  }
