-- Tests that compute whether two values are the same, for what a command can change.
use Rattle.std.specs.Prelude.{ℕ, Bool, true, false, ◌&&◌, nat_eq, List, Option, Some, None}
use Rattle.std.specs.Cmp.Lexicographic.{pointwise}
use Rattle.ps_model.specs.declared.mark.Mark.{Mark}
use Rattle.ps_model.specs.declared.mark.Mark.TheVariants.{Backlog, Leased, Ahead, Done, Gone}
use Rattle.ps_model.specs.declared.mark.DoneCause.{DoneCause}
use Rattle.ps_model.specs.declared.mark.DoneCause.TheVariants as done
use Rattle.ps_model.specs.declared.mark.GoneCause.{GoneCause}
use Rattle.ps_model.specs.declared.mark.GoneCause.TheVariants as gone
use Rattle.ps_config.specs.declared.config.TopicConfig.{TopicConfig}
use Rattle.ps_config.specs.declared.config.SubConfig.{SubConfig}
use Rattle.ps_config.specs.declared.config.DeadLetterPolicy.{DeadLetterPolicy}
use Rattle.ps_config.specs.declared.config.RetryPolicy.{RetryPolicy}
use Rattle.ps_message.specs.declared.message.Message.{Message}
use Rattle.ps_model.specs.declared.world.World.{World}
use Rattle.ps_model.specs.declared.world.TopicRow.{TopicRow}
use Rattle.ps_model.specs.declared.world.SubRow.{SubRow}
use Rattle.ps_model.specs.declared.world.SnapRow.{SnapRow}
use Rattle.ps_model.specs.declared.world.MessageRow.{MessageRow}
use Rattle.ps_model.specs.declared.world.MarkRow.{MarkRow}
use Rattle.std.specs.Str.{bytes_eq}

abbrev pub same_bool : Bool → Bool → Bool
same_bool true b = b
same_bool false true = false
same_bool false false = true

abbrev pub same_option : {A : Type 0} → (A → A → Bool) → Option A → Option A → Bool
same_option same None None = true
same_option same (Some x) (Some y) = same x y
same_option same None (Some y) = false
same_option same (Some x) None = false

abbrev pub same_pair : {A B : Type 0} → (A → A → Bool) → (B → B → Bool) → A × B → A × B → Bool
same_pair first second a b = first a.0 b.0 && second a.1 b.1

-- the two values are the same in the parts that this function gives
abbrev pub same_by : {A B : Type 0} → (A → B) → (B → B → Bool) → A → A → Bool
same_by shows same a b = same (shows a) (shows b)

abbrev pub same_labels : List (List ℕ × List ℕ) → List (List ℕ × List ℕ) → Bool
same_labels = pointwise (same_pair bytes_eq bytes_eq)

abbrev pub same_done : DoneCause → DoneCause → Bool
same_done done.Acknowledged done.Acknowledged = true
same_done done.Dead done.Dead = true
same_done done.Acknowledged done.Dead = false
same_done done.Dead done.Acknowledged = false

abbrev pub same_gone : GoneCause → GoneCause → Bool
same_gone gone.Acknowledged gone.Acknowledged = true
same_gone gone.Dead gone.Dead = true
same_gone gone.Expired gone.Expired = true
same_gone _ _ = false

abbrev pub same_mark : Mark → Mark → Bool
same_mark (Backlog failures until last) (Backlog f u l) = nat_eq failures f && nat_eq until u && same_option nat_eq last l
same_mark (Leased failures lease deadline) (Leased f l d) = nat_eq failures f && nat_eq lease l && nat_eq deadline d
same_mark (Ahead failures) (Ahead f) = nat_eq failures f
same_mark (Done cause) (Done c) = same_done cause c
same_mark (Gone cause) (Gone c) = same_gone cause c
same_mark _ _ = false

abbrev pub policy_parts : DeadLetterPolicy → List ℕ × ℕ
policy_parts p = (p.topic, p.attempts)

abbrev pub same_policy : DeadLetterPolicy → DeadLetterPolicy → Bool
same_policy = same_by policy_parts (same_pair bytes_eq nat_eq)

abbrev pub retry_parts : RetryPolicy → ℕ × ℕ
retry_parts r = (r.least, r.most)

abbrev pub same_retry : RetryPolicy → RetryPolicy → Bool
same_retry = same_by retry_parts (same_pair nat_eq nat_eq)

abbrev pub Labels : Type 0
Labels = List (List ℕ × List ℕ)

abbrev pub topic_config_parts : TopicConfig → Labels × Option ℕ
topic_config_parts c = (c.labels, c.retention)

abbrev pub same_topic_config : TopicConfig → TopicConfig → Bool
same_topic_config = same_by topic_config_parts (same_pair same_labels (same_option nat_eq))

abbrev pub SubConfigParts : Type 0
SubConfigParts = ℕ × (Bool × (ℕ × (Labels × (Bool × (Option ℕ × (List ℕ × (Option DeadLetterPolicy × (Option RetryPolicy × Bool))))))))

abbrev pub sub_config_parts : SubConfig → SubConfigParts
sub_config_parts c = (c.ack_seconds, (c.retain_acked, (c.retention, (c.labels, (c.ordering, (c.expiration, (c.filter, (c.dead_letter, (c.retry, c.exactly_once)))))))))

abbrev pub same_sub_config : SubConfig → SubConfig → Bool
same_sub_config = same_by sub_config_parts
    (same_pair nat_eq (same_pair same_bool (same_pair nat_eq (same_pair same_labels (same_pair same_bool (same_pair (same_option nat_eq)
    (same_pair bytes_eq (same_pair (same_option same_policy) (same_pair (same_option same_retry) same_bool)))))))))

abbrev pub message_parts : Message → List ℕ × (Labels × List ℕ)
message_parts m = (m.payload, (m.attributes, m.key))

abbrev pub same_message : Message → Message → Bool
same_message = same_by message_parts (same_pair bytes_eq (same_pair same_labels bytes_eq))

abbrev pub topic_parts : TopicRow → ℕ × (List ℕ × TopicConfig)
topic_parts r = (r.number, (r.name, r.config))

abbrev pub same_topic : TopicRow → TopicRow → Bool
same_topic = same_by topic_parts (same_pair nat_eq (same_pair bytes_eq same_topic_config))

abbrev pub sub_parts : SubRow → ℕ × (List ℕ × (ℕ × (SubConfig × (Bool × ℕ))))
sub_parts r = (r.number, (r.name, (r.topic, (r.config, (r.detached, r.next_lease)))))

abbrev pub same_sub : SubRow → SubRow → Bool
same_sub = same_by sub_parts (same_pair nat_eq (same_pair bytes_eq (same_pair nat_eq (same_pair same_sub_config (same_pair same_bool nat_eq)))))

abbrev pub snap_parts : SnapRow → ℕ × (List ℕ × (ℕ × (Labels × (List ℕ × (ℕ × ℕ)))))
snap_parts r = (r.number, (r.name, (r.topic, (r.labels, (r.listed, (r.bound, r.expiry))))))

abbrev pub same_snap : SnapRow → SnapRow → Bool
same_snap = same_by snap_parts (same_pair nat_eq (same_pair bytes_eq (same_pair nat_eq (same_pair same_labels (same_pair bytes_eq (same_pair nat_eq nat_eq))))))

abbrev pub message_row_parts : MessageRow → ℕ × (ℕ × (ℕ × (Message × Bool)))
message_row_parts r = (r.number, (r.topic, (r.publish, (r.message, r.kept))))

abbrev pub same_message_row : MessageRow → MessageRow → Bool
same_message_row = same_by message_row_parts (same_pair nat_eq (same_pair nat_eq (same_pair nat_eq (same_pair same_message same_bool))))

abbrev pub mark_row_parts : MarkRow → ℕ × (ℕ × Mark)
mark_row_parts r = (r.sub, (r.message, r.mark))

abbrev pub same_mark_row : MarkRow → MarkRow → Bool
same_mark_row = same_by mark_row_parts (same_pair nat_eq (same_pair nat_eq same_mark))

-- everything of a world but `now` and `count`
abbrev pub WorldParts : Type 0
WorldParts = ℕ × (ℕ × (ℕ × (ℕ × (List TopicRow × (List SubRow × (List SnapRow × (List MessageRow × List MarkRow)))))))

abbrev pub world_parts : World → WorldParts
world_parts w = (w.next_topic, (w.next_sub, (w.next_snap, (w.next_message, (w.topics, (w.subs, (w.snaps, (w.messages, w.marks))))))))

-- the two worlds differ at most in `now` and `count`
abbrev pub same_world : World → World → Bool
same_world = same_by world_parts
    (same_pair nat_eq (same_pair nat_eq (same_pair nat_eq (same_pair nat_eq
    (same_pair (pointwise same_topic) (same_pair (pointwise same_sub) (same_pair (pointwise same_snap) (same_pair (pointwise same_message_row) (pointwise same_mark_row)))))))))
