-- What changes of subscriptions leave.
use Rattle.std.proofs.Common.{ℕ, ◌≡◌, ◌≢◌, ◌+◌, ◌-◌, ◌*◌, ◌<◌, ◌≤◌, Bool, true, false, cond, nat_eq, List, Option, Some, None, option_map, map, refl, sym, ap, subst, arith, if◌then◌else◌}
use Rattle.std.specs.List.{AllByRecursion}
use Rattle.std.specs.Str.{bytes_eq}
use Rattle.std.proofs.lemmas.Bool.{cond_both, both_ways, eqb-true}
use Rattle.ps_model.specs.declared.mark.Mark.{Mark}
use Rattle.ps_config.specs.declared.config.SubConfig.{SubConfig}
use Rattle.ps_config.specs.declared.mask.Mask.{Mask}
use Rattle.ps_model.specs.declared.world.World.{World}
use Rattle.ps_model.specs.declared.world.SubRow.{SubRow}
use Rattle.ps_model.specs.declared.world.MarkRow.{MarkRow}
use Rattle.ps_config.specs.Masks.{masked_sub}
use Rattle.ps_config.specs.Limits.{sub_fault}
use Rattle.ps_model.specs.Checks.{new_sub_fault}
use Rattle.ps_model.specs.Slots.{is_gone, is_leased, is_backlog}
use Rattle.ps_model.specs.Retention.{lapsed}
use Rattle.ps_model.specs.Worlds.{sub_named, sub_numbered, put_sub, remark_at}
use Rattle.ps_model.specs.Sound.{MarkFits, FitsAt}
use Rattle.ps_base.proofs.Lists.{each-map, found-passes}
use Rattle.ps_sound.proofs.worlds.Lists.{found-numbered, put-same, ordered-map}
use Rattle.ps_sound.proofs.worlds.Marks.{lapsed-gone, gone-fits, gone-not-leased, gone-not-backlog}
use Rattle.ps_sound.proofs.worlds.Settings.{masked-sub-checked}
use Rattle.ps_sound.proofs.worlds.Underway.{IsGoneAt, SubsStand, IsUnderway}
use Rattle.ps_sound.proofs.worlds.Marked.{marked, at_sub, remark_at-marked, IsMild, calm-underway}
use Rattle.ps_sound.proofs.worlds.Resubbed.{resubbed, IsKind, found-resubbed, still-gone, resubbed-underway}

-- a row put in place of that of its number is a change of each
pub put_sub-resubbed : (t count : ℕ) (w : World) (name : List ℕ) (sub row : SubRow) (change : Bool → SubRow → SubRow) → IsUnderway t count w → sub_named w name ≡ Some sub → row ≡ change true sub → ((r : SubRow) → r ≡ change false r)
    → map (λ (r : SubRow). if nat_eq r.number sub.number then row else r) w.subs ≡ map (λ (r : SubRow). change (nat_eq r.number sub.number) r) w.subs
put_sub-resubbed t count w name sub row change h found one other =
    put-same (λ (r : SubRow). r.number) w.subs sub row change h.subs.ascend (found-numbered (λ (r : SubRow). r.number) (λ (r : SubRow). bytes_eq r.name name) w.subs sub h.subs.ascend found) one other

pub update_sub-underway : (t count : ℕ) (w : World) (name : List ℕ) (old : SubRow) (mask : Mask) (config : SubConfig) → sub_named w name ≡ Some old → sub_fault mask config ≡ None → IsUnderway t count w
    → IsUnderway t (count + 1) (put_sub (record old { config = masked_sub mask old.config config }) w)
update_sub-underway t count w name old mask config found checked h =
    subst (λ subs. IsUnderway t (count + 1) (record w { subs = subs })) (sym (put_sub-resubbed t count w name old (record old { config = masked_sub mask old.config config }) change h found refl (λ r. refl)))
    (resubbed-underway t count changed w kind stand (still-gone t count changed w kind (λ q e. e) h.marks) h)
  where
    change : Bool → SubRow → SubRow
    change b r = record r { config = if b then masked_sub mask r.config config else r.config }

    changed : SubRow → SubRow
    changed r = change (nat_eq r.number old.number) r

    kind : IsKind t changed
    kind = record {
      number = λ q. refl;
      topic = λ q. refl;
      filter = λ q. cond_both (nat_eq q.number old.number) (masked_sub mask q.config config) q.config (λ c. c.filter ≡ q.config.filter) (λ _. refl) (λ _. refl);
      ordering = λ q. cond_both (nat_eq q.number old.number) (masked_sub mask q.config config) q.config (λ c. c.ordering ≡ q.config.ordering) (λ _. refl) (λ _. refl);
      fits = λ q mark p. p;
    }

    stand : SubsStand (count + 1) w.next_sub w.next_topic (map changed w.subs)
    stand = record {
      ascend = ordered-map (λ (a b : SubRow). a.number < b.number) (λ (a b : SubRow). a.number < b.number) changed w.subs (λ a b e. e) h.subs.ascend;
      below = each-map (λ (r : SubRow). r.number < w.next_sub) (λ (r : SubRow). r.number < w.next_sub) changed w.subs (λ r e. e) h.subs.below;
      names = ordered-map (λ (a b : SubRow). a.name ≢ b.name) (λ (a b : SubRow). a.name ≢ b.name) changed w.subs (λ a b e. e) h.subs.names;
      settings = each-map (λ (r : SubRow). new_sub_fault r.config ≡ None) (λ (r : SubRow). new_sub_fault r.config ≡ None) changed w.subs
          (λ r e. cond_both (nat_eq r.number old.number) (masked_sub mask r.config config) r.config (λ c. new_sub_fault c ≡ None) (λ _. masked-sub-checked mask r.config config e checked) (λ _. e)) h.subs.settings;
      topics = each-map (λ (r : SubRow). r.topic < w.next_topic) (λ (r : SubRow). r.topic < w.next_topic) changed w.subs (λ r e. e) h.subs.topics;
      leases_from = each-map (λ (r : SubRow). 1 ≤ r.next_lease) (λ (r : SubRow). 1 ≤ r.next_lease) changed w.subs (λ r e. e) h.subs.leases_from;
      leases_few = each-map (λ (r : SubRow). r.next_lease - 1 ≤ 1000 * count) (λ (r : SubRow). r.next_lease - 1 ≤ 1000 * (count + 1)) changed w.subs (λ r e. omega (arith, e)) h.subs.leases_few;
      from = h.subs.from;
      few = omega (arith, h.subs.few);
    }

pub detach-underway : (t count : ℕ) (w : World) (name : List ℕ) (sub : SubRow) → sub_named w name ≡ Some sub → IsUnderway t count w
    → IsUnderway t (count + 1) (put_sub (record sub { detached = true }) (remark_at sub.number (λ s. lapsed s.mark) w))
detach-underway t count w name sub found h =
    subst (IsUnderway t (count + 1)) (sym same) (resubbed-underway t count changed lapsing kind stand all-gone lapsing-underway)
  where
    new : MarkRow → Mark
    new = at_sub sub.number (λ s. lapsed s.mark) w.messages

    lapsing : World
    lapsing = marked new w

    fits : (r : MarkRow) (o : Option SubRow) → FitsAt t o r.mark → FitsAt t o (new r)
    fits r None p = p
    fits r (Some q) p = cond_both (nat_eq r.sub sub.number) (lapsed r.mark) r.mark (MarkFits t q.next_lease) (λ _. gone-fits t q.next_lease (lapsed r.mark) (lapsed-gone r.mark)) (λ _. p)

    mild : IsMild t t w new
    mild = record {
      fits = λ r p. fits r (sub_numbered w r.sub) p;
      revives_none = λ r. cond_both (nat_eq r.sub sub.number) (lapsed r.mark) r.mark (λ mark. is_gone mark ≡ false → is_gone r.mark ≡ false) (λ _ e. absurd (both_ways (is_gone (lapsed r.mark)) e (lapsed-gone r.mark))) (λ _ e. e);
      lends_none = λ r. cond_both (nat_eq r.sub sub.number) (lapsed r.mark) r.mark (λ mark. is_leased mark ≡ true → is_leased r.mark ≡ true)
          (λ _ e. absurd (both_ways (is_leased (lapsed r.mark)) (gone-not-leased (lapsed r.mark) (lapsed-gone r.mark)) e)) (λ _ e. e);
    }

    lapsing-underway : IsUnderway t count lapsing
    lapsing-underway = calm-underway t count new w mild
        (λ r. cond_both (nat_eq r.sub sub.number) (lapsed r.mark) r.mark (λ mark. is_backlog mark ≡ true → is_backlog r.mark ≡ true)
        (λ _ e. absurd (both_ways (is_backlog (lapsed r.mark)) (gone-not-backlog (lapsed r.mark) (lapsed-gone r.mark)) e)) (λ _ e. e)) h

    change : Bool → SubRow → SubRow
    change b r = record r { detached = if b then true else r.detached }

    changed : SubRow → SubRow
    changed r = change (nat_eq r.number sub.number) r

    kind : IsKind t changed
    kind = record { number = λ q. refl; topic = λ q. refl; filter = λ q. refl; ordering = λ q. refl; fits = λ q mark p. p }

    same : put_sub (record sub { detached = true }) (remark_at sub.number (λ s. lapsed s.mark) w) ≡ resubbed changed lapsing
    same = λ i. record w {
      subs = put_sub-resubbed t count w name sub (record sub { detached = true }) change h found refl (λ r. refl) i;
      marks = ap (λ (v : World). v.marks) (remark_at-marked sub.number (λ s. lapsed s.mark) w) i;
    }

    stand : SubsStand (count + 1) w.next_sub w.next_topic (map changed w.subs)
    stand = record {
      ascend = ordered-map (λ (a b : SubRow). a.number < b.number) (λ (a b : SubRow). a.number < b.number) changed w.subs (λ a b e. e) h.subs.ascend;
      below = each-map (λ (r : SubRow). r.number < w.next_sub) (λ (r : SubRow). r.number < w.next_sub) changed w.subs (λ r e. e) h.subs.below;
      names = ordered-map (λ (a b : SubRow). a.name ≢ b.name) (λ (a b : SubRow). a.name ≢ b.name) changed w.subs (λ a b e. e) h.subs.names;
      settings = each-map (λ (r : SubRow). new_sub_fault r.config ≡ None) (λ (r : SubRow). new_sub_fault r.config ≡ None) changed w.subs (λ r e. e) h.subs.settings;
      topics = each-map (λ (r : SubRow). r.topic < w.next_topic) (λ (r : SubRow). r.topic < w.next_topic) changed w.subs (λ r e. e) h.subs.topics;
      leases_from = each-map (λ (r : SubRow). 1 ≤ r.next_lease) (λ (r : SubRow). 1 ≤ r.next_lease) changed w.subs (λ r e. e) h.subs.leases_from;
      leases_few = each-map (λ (r : SubRow). r.next_lease - 1 ≤ 1000 * count) (λ (r : SubRow). r.next_lease - 1 ≤ 1000 * (count + 1)) changed w.subs (λ r e. omega (arith, e)) h.subs.leases_few;
      from = h.subs.from;
      few = omega (arith, h.subs.few);
    }

    -- what is detached now was so, or has just lapsed
    all-gone : AllByRecursion (λ (r : MarkRow). IsGoneAt (sub_numbered (resubbed changed lapsing) r.sub) r.mark) lapsing.marks
    all-gone = each-map (λ (r : MarkRow). IsGoneAt (sub_numbered w r.sub) r.mark) (λ (r : MarkRow). IsGoneAt (sub_numbered (resubbed changed lapsing) r.sub) r.mark) (λ (r : MarkRow). record { sub = r.sub; message = r.message; mark = new r }) w.marks
        (λ r p. subst (λ (o : Option SubRow). IsGoneAt o (new r)) (sym (found-resubbed t changed lapsing r.sub kind)) (at r (sub_numbered w r.sub) refl p)) h.marks.gone
      where
        at : (r : MarkRow) (o : Option SubRow) → sub_numbered w r.sub ≡ o → IsGoneAt o r.mark → IsGoneAt (option_map changed o) (new r)
        at r None e p = tt
        at r (Some q) e p = cases (nat_eq q.number sub.number) (nat_eq r.sub sub.number) (ap (λ n. nat_eq n sub.number) (eqb-true q.number r.sub (found-passes (λ (x : SubRow). nat_eq x.number r.sub) w.subs q e)))
          where
            cases : (b c : Bool) → b ≡ c → cond b true q.detached ≡ true → is_gone (cond c (lapsed r.mark) r.mark) ≡ true
            cases true true same detached = lapsed-gone r.mark
            cases false false same detached = p detached
            cases true false same detached = absurd (cc (same))
            cases false true same detached = lapsed-gone r.mark
