-- What a new subscription leaves, and what is left without one.
use Rattle.std.proofs.Common.{ℕ, ◌≡◌, ◌≢◌, ◌+◌, ◌-◌, ◌*◌, ◌<◌, ◌≤◌, ◌&&◌, Bool, true, false, not, nat_eq, is_some, List, [], ◌∷◌, ◌++◌, Option, Some, None, unwrap_or, filter, refl, sym, ◌∙◌, ap, subst, arith, inl, inr}
use Rattle.std.specs.List.{AllByRecursion}
use Rattle.std.specs.Str.{bytes_eq}
use Rattle.std.proofs.lemmas.Bool.{and_parts, eqb-true, eq-eqb, ne_eqb, not-true, both_ways}
use Rattle.ps_model.specs.declared.mark.Mark.TheVariants.{Done}
use Rattle.ps_model.specs.declared.mark.DoneCause.TheVariants.{Acknowledged}
use Rattle.ps_config.specs.declared.config.SubConfig.{SubConfig}
use Rattle.ps_model.specs.declared.world.World.{World}
use Rattle.ps_model.specs.declared.world.TopicRow.{TopicRow}
use Rattle.ps_model.specs.declared.world.SubRow.{SubRow}
use Rattle.ps_model.specs.declared.world.MarkRow.{MarkRow}
use Rattle.ps_model.specs.declared.world.MessageRow.{MessageRow}
use Rattle.ps_filter.specs.Filters.{meets}
use Rattle.ps_model.specs.Retention.{is_within}
use Rattle.ps_model.specs.Checks.{new_sub_fault}
use Rattle.ps_model.specs.Slots.{is_leased, is_earlier}
use Rattle.ps_model.specs.Worlds.{topic_named, sub_named, sub_numbered, message_numbered, message_at, no_message, slot_of}
use Rattle.ps_model.specs.Subscriptions.{retained_rows}
use Rattle.ps_model.specs.Sound.{Precedes, IsNamed, WantedAt, IsWanted, FitsAt, leases_alive}
use Rattle.ps_base.proofs.Lists.{each-then, each-both, each-map, each-filter, each-left, each-append, each-behind, each-found, found-passes, found-append, found-left, found-last}
use Rattle.ps_sound.proofs.worlds.Lists.{found-own, other-names, ordered-map, ordered-filter, ordered-append, ordered-behind}
use Rattle.ps_sound.proofs.worlds.Counts.{tally-filter, tally-behind}
use Rattle.ps_sound.proofs.worlds.Underway.{ordering_of, InOrder, AllInOrder, IsGoneAt, IsUnderway, topics-more, subs-more, snaps-beside}

pub delete_sub-underway : (t count : ℕ) (w : World) (row : SubRow) → IsUnderway t count w
    → IsUnderway t (count + 1) (record w { subs = filter (λ (r : SubRow). not (nat_eq r.number row.number)) w.subs; marks = filter (λ (r : MarkRow). not (nat_eq r.sub row.number)) w.marks })
delete_sub-underway t count w row h = record {
  moment = h.moment;
  topics = topics-more count (count + 1) w.next_topic w.topics (omega arith) h.topics;
  subs = subs-more count (count + 1) w.next_sub w.next_topic (filter others w.subs) (omega arith) (record {
    ascend = ordered-filter (λ (a b : SubRow). a.number < b.number) others w.subs h.subs.ascend;
    below = each-left (λ (r : SubRow). r.number < w.next_sub) others w.subs h.subs.below;
    names = ordered-filter (λ (a b : SubRow). a.name ≢ b.name) others w.subs h.subs.names;
    settings = each-left (λ (r : SubRow). new_sub_fault r.config ≡ None) others w.subs h.subs.settings;
    topics = each-left (λ (r : SubRow). r.topic < w.next_topic) others w.subs h.subs.topics;
    leases_from = each-left (λ (r : SubRow). 1 ≤ r.next_lease) others w.subs h.subs.leases_from;
    leases_few = each-left (λ (r : SubRow). r.next_lease - 1 ≤ 1000 * count) others w.subs h.subs.leases_few;
    from = h.subs.from;
    few = h.subs.few;
  });
  snaps = snaps-beside t count (count + 1) w w.next_topic w.next_sub w.now w.count w.topics made.subs made.marks (omega arith) (omega arith) h.snaps;
  messages = h.messages;
  marks = record {
    ascend = ordered-filter Precedes its_not w.marks h.marks.ascend;
    named = each-filter (IsNamed w) (IsNamed made) its_not w.marks (λ r e p. (ap is_some (found r e) ∙ p.0, p.1)) h.marks.named;
    fit = each-filter (λ (r : MarkRow). FitsAt t (sub_numbered w r.sub) r.mark) (λ (r : MarkRow). FitsAt t (sub_numbered made r.sub) r.mark) its_not w.marks
        (λ r e p. subst (λ (o : Option SubRow). FitsAt t o r.mark) (sym (found r e)) p) h.marks.fit;
    wanted = each-filter (IsWanted w) (IsWanted made) its_not w.marks
        (λ r e p. subst (λ (o : Option SubRow). WantedAt made (message_at w.messages r.message) o r.mark) (sym (found r e)) (same r (sub_numbered w r.sub) p)) h.marks.wanted;
    in_order = each-filter (λ (r : MarkRow). AllByRecursion (λ (e : MarkRow). InOrder w e r) w.marks) (λ (r : MarkRow). AllByRecursion (λ (e : MarkRow). InOrder made e r) (filter its_not w.marks)) its_not w.marks
        (λ r kept p. each-filter (λ (e : MarkRow). InOrder w e r) (λ (e : MarkRow). InOrder made e r) its_not w.marks
        (λ e _ q same early. q same (ap (λ o. is_earlier (ordering_of o) (slot_of w.messages e) (slot_of w.messages r)) (sym (found r kept)) ∙ early)) p) h.marks.in_order;
    gone = each-filter (λ (r : MarkRow). IsGoneAt (sub_numbered w r.sub) r.mark) (λ (r : MarkRow). IsGoneAt (sub_numbered made r.sub) r.mark) its_not w.marks
        (λ r e p. subst (λ (o : Option SubRow). IsGoneAt o r.mark) (sym (found r e)) p) h.marks.gone;
    few = few;
  };
}
  where
    others : SubRow → Bool
    others r = not (nat_eq r.number row.number)

    its_not : MarkRow → Bool
    its_not r = not (nat_eq r.sub row.number)

    made : World
    made = record w { subs = filter others w.subs; marks = filter its_not w.marks }

    found : (r : MarkRow) → its_not r ≡ true → sub_numbered made r.sub ≡ sub_numbered w r.sub
    found r e = found-left (λ (x : SubRow). x.number) row.number r.sub w.subs (not-true (nat_eq r.sub row.number) e)

    same : (r : MarkRow) (o : Option SubRow) → WantedAt w (message_at w.messages r.message) o r.mark → WantedAt made (message_at w.messages r.message) o r.mark
    same r None p = p
    same r (Some sub) p = p

    fewer : leases_alive made ≤ leases_alive w
    fewer = tally-filter (λ (r : MarkRow). is_leased r.mark) its_not w.marks

    few : (w.next_message - 1) + leases_alive made ≤ 1000 * (count + 1)
    few = omega (arith, h.marks.few, fewer)

abbrev pub new_sub : World → List ℕ → TopicRow → SubConfig → SubRow
new_sub w name topic config = record { number = w.next_sub; name = name; topic = topic.number; config = config; detached = false; next_lease = 1 }

-- a mark that a new subscription takes over
record IsTaken (t : ℕ) (w : World) (number : ℕ) (r : MarkRow) : Type 0 where
  own : r.sub ≡ number
  named : IsNamed w r
  fit : FitsAt t (sub_numbered w r.sub) r.mark
  wanted : IsWanted w r
  gone : IsGoneAt (sub_numbered w r.sub) r.mark
  none_leased : is_leased r.mark ≡ false

module _ (t count : ℕ) (w : World) (name of : List ℕ) (topic : TopicRow) (config : SubConfig) (window : Option ℕ) (h : IsUnderway t count w) (free : sub_named w name ≡ None) (checked : new_sub_fault config ≡ None) (there : topic_named w of ≡ Some topic) where
  abbrev row : SubRow
  row = new_sub w name topic config

  abbrev rows : List MarkRow
  rows = retained_rows w t row window

  abbrev made : World
  made = record w { next_sub = w.next_sub + 1; subs = w.subs ++ row ∷ []; marks = w.marks ++ rows }

  abbrev takes : MessageRow → Bool
  takes r = nat_eq r.topic row.topic && (r.kept && (is_within t r.publish window && meets row.config.filter r.message))

  abbrev taken : MessageRow → MarkRow
  taken r = record { sub = row.number; message = r.number; mark = Done Acknowledged }

  listed : topic.number < w.next_topic
  listed = each-found (λ (r : TopicRow). r.number < w.next_topic) (λ (r : TopicRow). bytes_eq r.name of) w.topics topic there h.topics.below

  own : sub_numbered made w.next_sub ≡ Some row
  own = found-last (λ (x : SubRow). nat_eq x.number w.next_sub) w.subs row
      (each-then (λ (r : SubRow). r.number < w.next_sub) (λ (r : SubRow). nat_eq r.number w.next_sub ≡ false) w.subs (λ r e. let ne : r.number ≢ w.next_sub = omega (arith, e) in ne_eqb r.number w.next_sub ne) h.subs.below)
      (eq-eqb w.next_sub w.next_sub refl)

  rows-taken : AllByRecursion (IsTaken t made w.next_sub) rows
  rows-taken = each-map (λ (r : MessageRow). (takes r ≡ true) × (message_numbered w.messages r.number ≡ Some r)) (IsTaken t made w.next_sub) taken (filter takes w.messages) (λ r p. at r p.0 p.1)
      (each-filter (λ (r : MessageRow). message_numbered w.messages r.number ≡ Some r) (λ (r : MessageRow). (takes r ≡ true) × (message_numbered w.messages r.number ≡ Some r)) takes w.messages (λ r e p. (e, p)) (found-own (λ (r : MessageRow). r.number) w.messages h.messages.ascend))
    where
      at : (r : MessageRow) → takes r ≡ true → message_numbered w.messages r.number ≡ Some r → IsTaken t made w.next_sub (taken r)
      at r e found =
          let parts = and_parts (nat_eq r.topic row.topic) (r.kept && (is_within t r.publish window && meets row.config.filter r.message)) e in
          let more = and_parts r.kept (is_within t r.publish window && meets row.config.filter r.message) parts.1 in
          record {
            own = refl;
            named = (ap is_some own, ap is_some found);
            fit = subst (λ (o : Option SubRow). FitsAt t o (Done Acknowledged)) (sym own) tt;
            wanted = subst (λ (o : Option SubRow). WantedAt made (message_at w.messages r.number) o (Done Acknowledged)) (sym own)
                (subst (λ (m : MessageRow). WantedAt made m (Some row) (Done Acknowledged)) (sym (ap (λ o. unwrap_or o (no_message r.number)) found))
                (λ _. record { kept = more.0; topic = eqb-true r.topic row.topic parts.0; met = (and_parts (is_within t r.publish window) (meets row.config.filter r.message) more.1).1 }));
            gone = subst (λ (o : Option SubRow). IsGoneAt o (Done Acknowledged)) (sym own) (λ detached. absurd (cc (detached)));
            none_leased = refl;
          }

  -- the subscription of an old row is below the next number, and is found as before
  old-below : AllByRecursion (λ (r : MarkRow). r.sub < w.next_sub) w.marks
  old-below = each-then (IsNamed w) (λ (r : MarkRow). r.sub < w.next_sub) w.marks (λ r p. at r (sub_numbered w r.sub) refl p.0) h.marks.named
    where
      at : (r : MarkRow) (o : Option SubRow) → sub_numbered w r.sub ≡ o → is_some o ≡ true → r.sub < w.next_sub
      at r None e some = absurd (cc (some))
      at r (Some q) e some =
          let below : q.number < w.next_sub = each-found (λ (x : SubRow). x.number < w.next_sub) (λ (x : SubRow). nat_eq x.number r.sub) w.subs q e h.subs.below in
          let same : q.number ≡ r.sub = eqb-true q.number r.sub (found-passes (λ (x : SubRow). nat_eq x.number r.sub) w.subs q e) in
          omega arith

  old-found : (r : MarkRow) → IsNamed w r → sub_numbered made r.sub ≡ sub_numbered w r.sub
  old-found r p = found-append (λ (x : SubRow). nat_eq x.number r.sub) w.subs (row ∷ []) p.0

  old : (P Q : MarkRow → Type 0) → ((r : MarkRow) → sub_numbered made r.sub ≡ sub_numbered w r.sub → P r → Q r) → AllByRecursion P w.marks → AllByRecursion Q w.marks
  old P Q k p = each-then (λ r. IsNamed w r × P r) Q w.marks (λ r q. k r (old-found r q.0) q.1) (each-both (IsNamed w) P w.marks h.marks.named p)

  in_order : AllInOrder made
  in_order = each-append (λ (r : MarkRow). AllByRecursion (λ (e : MarkRow). InOrder made e r) made.marks) w.marks rows
      (each-then (λ r. (r.sub < w.next_sub) × ((sub_numbered made r.sub ≡ sub_numbered w r.sub) × AllByRecursion (λ (e : MarkRow). InOrder w e r) w.marks)) (λ (r : MarkRow). AllByRecursion (λ (e : MarkRow). InOrder made e r) made.marks) w.marks
      (λ r p. each-append (λ (e : MarkRow). InOrder made e r) w.marks rows
      (each-then (λ (e : MarkRow). InOrder w e r) (λ (e : MarkRow). InOrder made e r) w.marks (λ e q same early. q same (ap (λ o. is_earlier (ordering_of o) (slot_of w.messages e) (slot_of w.messages r)) (sym p.1.0) ∙ early)) p.1.1)
      (each-then (IsTaken t made w.next_sub) (λ (e : MarkRow). InOrder made e r) rows (λ e q same early leased. absurd (omega (arith, q.own, same, p.0))) rows-taken))
      (each-both (λ (r : MarkRow). r.sub < w.next_sub) (λ r. (sub_numbered made r.sub ≡ sub_numbered w r.sub) × AllByRecursion (λ (e : MarkRow). InOrder w e r) w.marks) w.marks old-below
      (each-both (λ (r : MarkRow). sub_numbered made r.sub ≡ sub_numbered w r.sub) (λ (r : MarkRow). AllByRecursion (λ (e : MarkRow). InOrder w e r) w.marks) w.marks (each-then (IsNamed w) (λ (r : MarkRow). sub_numbered made r.sub ≡ sub_numbered w r.sub) w.marks old-found h.marks.named) h.marks.in_order)))
      (each-then (IsTaken t made w.next_sub) (λ (r : MarkRow). AllByRecursion (λ (e : MarkRow). InOrder made e r) made.marks) rows
      (λ r p. every r p made.marks) rows-taken)
    where
      every : (r : MarkRow) → IsTaken t made w.next_sub r → (xs : List MarkRow) → AllByRecursion (λ (e : MarkRow). InOrder made e r) xs
      every r p [] = tt
      every r p (x ∷ xs) = (λ same early leased. absurd (both_ways (is_leased r.mark) p.none_leased leased), every r p xs)

  same : (r : MarkRow) (o : Option SubRow) → WantedAt w (message_at w.messages r.message) o r.mark → WantedAt made (message_at w.messages r.message) o r.mark
  same r None p = p
  same r (Some sub) p = p

  leases : leases_alive made ≡ leases_alive w
  leases = tally-behind (λ (r : MarkRow). is_leased r.mark) w.marks rows (each-then (IsTaken t made w.next_sub) (λ (r : MarkRow). is_leased r.mark ≡ false) rows (λ r p. p.none_leased) rows-taken)

  few : (w.next_message - 1) + leases_alive made ≤ 1000 * (count + 1)
  few = omega (arith, h.marks.few, leases)

  pub create_sub-underway : IsUnderway t (count + 1) made
  create_sub-underway = record {
    moment = h.moment;
    topics = topics-more count (count + 1) w.next_topic w.topics (omega arith) h.topics;
    subs = record {
      ascend = ordered-behind (λ (a b : SubRow). a.number < b.number) w.subs row h.subs.below h.subs.ascend;
      below = each-behind (λ (r : SubRow). r.number < w.next_sub + 1) w.subs row (each-then (λ (r : SubRow). r.number < w.next_sub) (λ (r : SubRow). r.number < w.next_sub + 1) w.subs (λ r e. omega (arith, e)) h.subs.below) (omega arith);
      names = ordered-behind (λ (a b : SubRow). a.name ≢ b.name) w.subs row (other-names (λ (r : SubRow). r.name) w.subs name free) h.subs.names;
      settings = each-behind (λ (r : SubRow). new_sub_fault r.config ≡ None) w.subs row h.subs.settings checked;
      topics = each-behind (λ (r : SubRow). r.topic < w.next_topic) w.subs row h.subs.topics listed;
      leases_from = each-behind (λ (r : SubRow). 1 ≤ r.next_lease) w.subs row h.subs.leases_from (omega arith);
      leases_few = each-behind (λ (r : SubRow). r.next_lease - 1 ≤ 1000 * (count + 1)) w.subs row (each-then (λ (r : SubRow). r.next_lease - 1 ≤ 1000 * count) (λ (r : SubRow). r.next_lease - 1 ≤ 1000 * (count + 1)) w.subs (λ r e. omega (arith, e)) h.subs.leases_few) (omega arith);
      from = omega arith;
      few = omega (arith, h.subs.few);
    };
    snaps = snaps-beside t count (count + 1) w w.next_topic (w.next_sub + 1) w.now w.count w.topics made.subs made.marks (omega arith) (omega arith) h.snaps;
    messages = h.messages;
    marks = record {
      ascend = ordered-append Precedes w.marks rows
          (each-then (λ (r : MarkRow). r.sub < w.next_sub) (λ a. AllByRecursion (Precedes a) rows) w.marks (λ a below. each-then (IsTaken t made w.next_sub) (Precedes a) rows (λ b p. inl (omega (arith, p.own, below))) rows-taken) old-below)
          h.marks.ascend
          (ordered-map (λ (a b : MessageRow). a.number < b.number) Precedes taken (filter takes w.messages) (λ a b e. inr (refl, e)) (ordered-filter (λ (a b : MessageRow). a.number < b.number) takes w.messages h.messages.ascend));
      named = each-append (IsNamed made) w.marks rows (each-then (IsNamed w) (IsNamed made) w.marks (λ r p. (ap is_some (old-found r p) ∙ p.0, p.1)) h.marks.named) (each-then (IsTaken t made w.next_sub) (IsNamed made) rows (λ r p. p.named) rows-taken);
      fit = each-append (λ (r : MarkRow). FitsAt t (sub_numbered made r.sub) r.mark) w.marks rows
          (old (λ (r : MarkRow). FitsAt t (sub_numbered w r.sub) r.mark) (λ (r : MarkRow). FitsAt t (sub_numbered made r.sub) r.mark) (λ r e p. subst (λ (o : Option SubRow). FitsAt t o r.mark) (sym e) p) h.marks.fit)
          (each-then (IsTaken t made w.next_sub) (λ (r : MarkRow). FitsAt t (sub_numbered made r.sub) r.mark) rows (λ r p. p.fit) rows-taken);
      wanted = each-append (IsWanted made) w.marks rows
          (old (IsWanted w) (IsWanted made) (λ r e p. subst (λ (o : Option SubRow). WantedAt made (message_at w.messages r.message) o r.mark) (sym e) (same r (sub_numbered w r.sub) p)) h.marks.wanted)
          (each-then (IsTaken t made w.next_sub) (IsWanted made) rows (λ r p. p.wanted) rows-taken);
      in_order = in_order;
      gone = each-append (λ (r : MarkRow). IsGoneAt (sub_numbered made r.sub) r.mark) w.marks rows
          (old (λ (r : MarkRow). IsGoneAt (sub_numbered w r.sub) r.mark) (λ (r : MarkRow). IsGoneAt (sub_numbered made r.sub) r.mark) (λ r e p. subst (λ (o : Option SubRow). IsGoneAt o r.mark) (sym e) p) h.marks.gone)
          (each-then (IsTaken t made w.next_sub) (λ (r : MarkRow). IsGoneAt (sub_numbered made r.sub) r.mark) rows (λ r p. p.gone) rows-taken);
      few = few;
    };
  }
