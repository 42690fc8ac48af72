-- What changes of topics leave.
use Rattle.std.proofs.Common.{ℕ, ◌≡◌, ◌≢◌, ◌+◌, ◌<◌, ◌≤◌, Bool, not, nat_eq, List, [], ◌∷◌, ◌++◌, Some, None, map, filter, refl, sym, subst, arith, if◌then◌else◌}
use Rattle.std.specs.Str.{bytes_eq}
use Rattle.std.proofs.lemmas.Bool.{cond_both}
use Rattle.ps_config.specs.declared.config.TopicConfig.{TopicConfig}
use Rattle.ps_config.specs.declared.mask.Mask.{Mask}
use Rattle.ps_model.specs.declared.world.World.{World}
use Rattle.ps_model.specs.declared.world.TopicRow.{TopicRow}
use Rattle.ps_config.specs.Masks.{whole_mask, masked_topic}
use Rattle.ps_config.specs.Limits.{topic_fault}
use Rattle.ps_model.specs.Worlds.{topic_named, put_topic}
use Rattle.ps_base.proofs.Lists.{each-then, each-map, each-left, each-behind}
use Rattle.ps_sound.proofs.worlds.Lists.{other-names, ordered-map, ordered-filter, ordered-behind, found-numbered, put-same}
use Rattle.ps_sound.proofs.worlds.Settings.{masked-topic-checked}
use Rattle.ps_sound.proofs.worlds.Underway.{TopicsStand, IsUnderway, subs-more, subs-beside, snaps-beside, messages-beside, marks-beside}

-- other topics, in a world that stands beside them
retopicked : (t count next : ℕ) (w : World) (topics : List TopicRow) → w.next_topic ≤ next → TopicsStand (count + 1) next topics → IsUnderway t count w → IsUnderway t (count + 1) (record w { next_topic = next; topics = topics })
retopicked t count next w topics up stand h = record {
  moment = h.moment;
  topics = stand;
  subs = subs-beside (count + 1) w.next_sub w.next_topic next w.subs up (subs-more count (count + 1) w.next_sub w.next_topic w.subs (omega arith) h.subs);
  snaps = snaps-beside t count (count + 1) w next w.next_sub w.now w.count topics w.subs w.marks (omega arith) up h.snaps;
  messages = messages-beside t w.next_message w.next_topic next w.messages up h.messages;
  marks = marks-beside t count (count + 1) w next w.next_sub w.next_snap w.now w.count topics w.snaps (omega arith) h.marks;
}

pub create_topic-underway : (t count : ℕ) (w : World) (name : List ℕ) (config : TopicConfig) → topic_named w name ≡ None → topic_fault whole_mask config ≡ None → IsUnderway t count w
    → IsUnderway t (count + 1) (record w { next_topic = w.next_topic + 1; topics = w.topics ++ record { number = w.next_topic; name = name; config = config } ∷ [] })
create_topic-underway t count w name config free checked h = retopicked t count (w.next_topic + 1) w (w.topics ++ row ∷ []) (omega arith) stand h
  where
    row : TopicRow
    row = record { number = w.next_topic; name = name; config = config }

    stand : TopicsStand (count + 1) (w.next_topic + 1) (w.topics ++ row ∷ [])
    stand = record {
      ascend = ordered-behind (λ (a b : TopicRow). a.number < b.number) w.topics row h.topics.below h.topics.ascend;
      below = each-behind (λ (r : TopicRow). r.number < w.next_topic + 1) w.topics row (each-then (λ (r : TopicRow). r.number < w.next_topic) (λ (r : TopicRow). r.number < w.next_topic + 1) w.topics (λ r e. omega (arith, e)) h.topics.below) (omega arith);
      names = ordered-behind (λ (a b : TopicRow). a.name ≢ b.name) w.topics row (other-names (λ (r : TopicRow). r.name) w.topics name free) h.topics.names;
      settings = each-behind (λ (r : TopicRow). topic_fault whole_mask r.config ≡ None) w.topics row h.topics.settings checked;
      from = omega arith;
      few = omega (arith, h.topics.few);
    }

pub update_topic-underway : (t count : ℕ) (w : World) (name : List ℕ) (old : TopicRow) (mask : Mask) (config : TopicConfig) → topic_named w name ≡ Some old → topic_fault mask config ≡ None → IsUnderway t count w
    → IsUnderway t (count + 1) (put_topic (record old { config = masked_topic mask old.config config }) w)
update_topic-underway t count w name old mask config found checked h =
    subst (λ topics. IsUnderway t (count + 1) (record w { topics = topics })) (sym (put-same (λ (r : TopicRow). r.number) w.topics old (record old { config = masked_topic mask old.config config }) change h.topics.ascend
    (found-numbered (λ (r : TopicRow). r.number) (λ (r : TopicRow). bytes_eq r.name name) w.topics old h.topics.ascend found) refl (λ r. refl)))
    (retopicked t count w.next_topic w (map changed w.topics) (omega arith) stand h)
  where
    change : Bool → TopicRow → TopicRow
    change b r = record r { config = if b then masked_topic mask r.config config else r.config }

    changed : TopicRow → TopicRow
    changed r = change (nat_eq r.number old.number) r

    stand : TopicsStand (count + 1) w.next_topic (map changed w.topics)
    stand = record {
      ascend = ordered-map (λ (a b : TopicRow). a.number < b.number) (λ (a b : TopicRow). a.number < b.number) changed w.topics (λ a b e. e) h.topics.ascend;
      below = each-map (λ (r : TopicRow). r.number < w.next_topic) (λ (r : TopicRow). r.number < w.next_topic) changed w.topics (λ r e. e) h.topics.below;
      names = ordered-map (λ (a b : TopicRow). a.name ≢ b.name) (λ (a b : TopicRow). a.name ≢ b.name) changed w.topics (λ a b e. e) h.topics.names;
      settings = each-map (λ (r : TopicRow). topic_fault whole_mask r.config ≡ None) (λ (r : TopicRow). topic_fault whole_mask r.config ≡ None) changed w.topics
          (λ r e. cond_both (nat_eq r.number old.number) (masked_topic mask r.config config) r.config (λ c. topic_fault whole_mask c ≡ None) (λ _. masked-topic-checked mask r.config config e checked) (λ _. e)) h.topics.settings;
      from = h.topics.from;
      few = omega (arith, h.topics.few);
    }

pub delete_topic-underway : (t count : ℕ) (w : World) (row : TopicRow) → IsUnderway t count w → IsUnderway t (count + 1) (record w { topics = filter (λ (r : TopicRow). not (nat_eq r.number row.number)) w.topics })
delete_topic-underway t count w row h = retopicked t count w.next_topic w (filter others w.topics) (omega arith) stand h
  where
    others : TopicRow → Bool
    others r = not (nat_eq r.number row.number)

    stand : TopicsStand (count + 1) w.next_topic (filter others w.topics)
    stand = record {
      ascend = ordered-filter (λ (a b : TopicRow). a.number < b.number) others w.topics h.topics.ascend;
      below = each-left (λ (r : TopicRow). r.number < w.next_topic) others w.topics h.topics.below;
      names = ordered-filter (λ (a b : TopicRow). a.name ≢ b.name) others w.topics h.topics.names;
      settings = each-left (λ (r : TopicRow). topic_fault whole_mask r.config ≡ None) others w.topics h.topics.settings;
      from = h.topics.from;
      few = omega (arith, h.topics.few);
    }
