-- Worlds whose subscriptions are changed, each in its place.
use Rattle.std.proofs.Common.{ℕ, ◌≡◌, ◌+◌, ◌≤◌, true, nat_eq, is_some, Option, Some, None, option_map, map, refl, sym, ◌∙◌, ap, subst, arith}
use Rattle.std.specs.List.{AllByRecursion}
use Rattle.ps_model.specs.declared.mark.Mark.{Mark}
use Rattle.ps_model.specs.declared.world.World.{World}
use Rattle.ps_model.specs.declared.world.SubRow.{SubRow}
use Rattle.ps_model.specs.declared.world.MarkRow.{MarkRow}
use Rattle.ps_model.specs.declared.world.MessageRow.{MessageRow}
use Rattle.ps_filter.specs.Filters.{meets}
use Rattle.ps_model.specs.Slots.{is_earlier}
use Rattle.ps_model.specs.Worlds.{sub_numbered, message_at, slot_of}
use Rattle.ps_model.specs.Sound.{IsNamed, WantedAt, IsWanted, MarkFits, FitsAt}
use Rattle.ps_base.proofs.Lists.{each-then, found-map, some-mapped}
use Rattle.ps_sound.proofs.worlds.Underway.{ordering_of, InOrder, IsGoneAt, SubsStand, MarksStand, IsUnderway, topics-more, snaps-beside}

abbrev pub resubbed : (SubRow → SubRow) → World → World
resubbed change w = record w { subs = map change w.subs }

-- a change of subscriptions that leaves what their marks ask of them
pub record IsKind (t : ℕ) (change : SubRow → SubRow) : Type 0 where
  pub number : (q : SubRow) → (change q).number ≡ q.number
  pub topic : (q : SubRow) → (change q).topic ≡ q.topic
  pub filter : (q : SubRow) → (change q).config.filter ≡ q.config.filter
  pub ordering : (q : SubRow) → (change q).config.ordering ≡ q.config.ordering
  pub fits : (q : SubRow) (mark : Mark) → MarkFits t q.next_lease mark → MarkFits t (change q).next_lease mark

pub found-resubbed : (t : ℕ) (change : SubRow → SubRow) (w : World) (n : ℕ) → IsKind t change → sub_numbered (resubbed change w) n ≡ option_map change (sub_numbered w n)
found-resubbed t change w n k = found-map (λ (r : SubRow). nat_eq r.number n) change w.subs (λ q. ap (λ m. nat_eq m n) (k.number q))

pub resubbed-stand : (t count more : ℕ) (change : SubRow → SubRow) (w : World) → IsKind t change → count ≤ more → AllByRecursion (λ (r : MarkRow). IsGoneAt (sub_numbered (resubbed change w) r.sub) r.mark) w.marks → MarksStand t count w → MarksStand t more (resubbed change w)
resubbed-stand t count more change w k e gone h = record {
  ascend = h.ascend;
  named = each-then (IsNamed w) (IsNamed (resubbed change w)) w.marks (λ r p. (ap is_some (found r.sub) ∙ some-mapped change (sub_numbered w r.sub) ∙ p.0, p.1)) h.named;
  fit = each-then (λ (r : MarkRow). FitsAt t (sub_numbered w r.sub) r.mark) (λ (r : MarkRow). FitsAt t (sub_numbered (resubbed change w) r.sub) r.mark) w.marks
      (λ r p. subst (λ (o : Option SubRow). FitsAt t o r.mark) (sym (found r.sub)) (fits r.mark (sub_numbered w r.sub) p)) h.fit;
  wanted = each-then (IsWanted w) (IsWanted (resubbed change w)) w.marks
      (λ r p. subst (λ (o : Option SubRow). WantedAt (resubbed change w) (message_at w.messages r.message) o r.mark) (sym (found r.sub)) (wanted r.mark (message_at w.messages r.message) (sub_numbered w r.sub) p)) h.wanted;
  in_order = each-then (λ (r : MarkRow). AllByRecursion (λ (e : MarkRow). InOrder w e r) w.marks) (λ (r : MarkRow). AllByRecursion (λ (e : MarkRow). InOrder (resubbed change w) e r) w.marks) w.marks
      (λ r p. each-then (λ (e : MarkRow). InOrder w e r) (λ (e : MarkRow). InOrder (resubbed change w) e r) w.marks
      (λ e q same early. q same (ap (λ b. is_earlier b (slot_of w.messages e) (slot_of w.messages r)) (sym (ap ordering_of (found r.sub) ∙ ordering (sub_numbered w r.sub))) ∙ early)) p) h.in_order;
  gone = gone;
  few = omega (arith, h.few);
}
  where
    found : (n : ℕ) → sub_numbered (resubbed change w) n ≡ option_map change (sub_numbered w n)
    found n = found-resubbed t change w n k

    fits : (mark : Mark) (o : Option SubRow) → FitsAt t o mark → FitsAt t (option_map change o) mark
    fits mark None p = p
    fits mark (Some q) p = k.fits q mark p

    wanted : (mark : Mark) (m : MessageRow) (o : Option SubRow) → WantedAt w m o mark → WantedAt (resubbed change w) m (option_map change o) mark
    wanted mark m None p = p
    wanted mark m (Some q) p = λ lives. record { kept = (p lives).kept; topic = (p lives).topic ∙ sym (k.topic q); met = ap (λ f. meets f m.message) (k.filter q) ∙ (p lives).met }

    ordering : (o : Option SubRow) → ordering_of (option_map change o) ≡ ordering_of o
    ordering None = refl
    ordering (Some q) = k.ordering q

-- where as few are detached as before
pub still-gone : (t count : ℕ) (change : SubRow → SubRow) (w : World) → IsKind t change → ((q : SubRow) → (change q).detached ≡ true → q.detached ≡ true) → MarksStand t count w → AllByRecursion (λ (r : MarkRow). IsGoneAt (sub_numbered (resubbed change w) r.sub) r.mark) w.marks
still-gone t count change w k fewer h = each-then (λ (r : MarkRow). IsGoneAt (sub_numbered w r.sub) r.mark) (λ (r : MarkRow). IsGoneAt (sub_numbered (resubbed change w) r.sub) r.mark) w.marks
    (λ r p. subst (λ (o : Option SubRow). IsGoneAt o r.mark) (sym (found-resubbed t change w r.sub k)) (at r.mark (sub_numbered w r.sub) p)) h.gone
  where
    at : (mark : Mark) (o : Option SubRow) → IsGoneAt o mark → IsGoneAt (option_map change o) mark
    at mark None p = tt
    at mark (Some q) p = λ detached. p (fewer q detached)

pub resubbed-underway : (t count : ℕ) (change : SubRow → SubRow) (w : World) → IsKind t change → SubsStand (count + 1) w.next_sub w.next_topic (map change w.subs) → AllByRecursion (λ (r : MarkRow). IsGoneAt (sub_numbered (resubbed change w) r.sub) r.mark) w.marks
    → IsUnderway t count w → IsUnderway t (count + 1) (resubbed change w)
resubbed-underway t count change w k subs gone h = record {
  moment = h.moment;
  topics = topics-more count (count + 1) w.next_topic w.topics (omega arith) h.topics;
  subs = subs;
  snaps = snaps-beside t count (count + 1) w w.next_topic w.next_sub w.now w.count w.topics (map change w.subs) w.marks (omega arith) (omega arith) h.snaps;
  messages = h.messages;
  marks = resubbed-stand t count (count + 1) change w k (omega arith) gone h.marks;
}
