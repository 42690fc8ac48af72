-- Subscriptions as resources (API reference, Subscription; Pub/Sub documentation, "Detach a subscription". That a new subscription receives the messages in its topic's window as acknowledged is this project's own).
use Rattle.std.specs.Prelude.{ℕ, ◌+◌, true, false, ◌&&◌, not, nat_eq, List, [], ◌∷◌, ◌++◌, Option, Some, None, map, filter, is_some, if◌then◌else◌}
use Rattle.ps_base.specs.declared.refusal.Refusal.TheVariants.{NotFound, AlreadyExists}
use Rattle.ps_model.specs.declared.mark.Mark.TheVariants.{Done}
use Rattle.ps_model.specs.declared.mark.DoneCause.TheVariants.{Acknowledged}
use Rattle.ps_config.specs.declared.config.SubConfig.{SubConfig}
use Rattle.ps_config.specs.declared.config.DeadLetterPolicy.{DeadLetterPolicy}
use Rattle.ps_config.specs.declared.mask.Mask.{Mask}
use Rattle.ps_model.specs.declared.reply.Reply.TheVariants.{Empty, Subscription}
use Rattle.ps_model.specs.declared.world.World.{World}
use Rattle.ps_model.specs.declared.world.TopicRow.{TopicRow}
use Rattle.ps_model.specs.declared.world.SubRow.{SubRow}
use Rattle.ps_model.specs.declared.world.MessageRow.{MessageRow}
use Rattle.ps_model.specs.declared.world.MarkRow.{MarkRow}
use Rattle.ps_model.specs.Retention.{is_within, lapsed}
use Rattle.ps_filter.specs.Filters.{meets}
use Rattle.ps_model.specs.Showing.{sub_shown}
use Rattle.ps_config.specs.Masks.{has_bit, masked_sub}
use Rattle.ps_model.specs.Worlds.{topic_named, sub_named, put_sub, remark_at}
use Rattle.ps_model.specs.Outcomes.{Outcome, Shows, answers, refuses}

-- the kept messages in the topic's window that match the filter, as acknowledged
abbrev pub retained_rows : World → ℕ → SubRow → Option ℕ → List MarkRow
retained_rows w t sub window = map (λ (r : MessageRow). record { sub = sub.number; message = r.number; mark = Done Acknowledged })
    (filter (λ (r : MessageRow). nat_eq r.topic sub.topic && (r.kept && (is_within t r.publish window && meets sub.config.filter r.message))) w.messages)

-- the dead-letter topic that a configuration names and that doesn't exist
abbrev pub missing_of : World → Option DeadLetterPolicy → Option (List ℕ)
missing_of w None = None
missing_of w (Some policy) = if is_some (topic_named w policy.topic) then None else Some policy.topic

abbrev pub create_sub_named : World → ℕ → List ℕ → TopicRow → SubConfig → Option (List ℕ) → Option SubRow → Outcome
create_sub_named w t name topic config (Some missing) taken = refuses w (NotFound missing)
create_sub_named w t name topic config None (Some taken) = refuses w (AlreadyExists name)
create_sub_named w t name topic config None None =
    let row : SubRow = record { number = w.next_sub; name = name; topic = topic.number; config = config; detached = false; next_lease = 1 } in
    let made = record w { next_sub = w.next_sub + 1; subs = w.subs ++ row ∷ []; marks = w.marks ++ retained_rows w t row topic.config.retention } in
    answers made (Subscription (sub_shown made row))

abbrev pub create_sub_at : World → ℕ → List ℕ → List ℕ → SubConfig → Option TopicRow → Outcome
create_sub_at w t name topic config None = refuses w (NotFound topic)
create_sub_at w t name topic config (Some row) = create_sub_named w t name row config (missing_of w config.dead_letter) (sub_named w name)

abbrev pub create_sub : World → ℕ → List ℕ → List ℕ → SubConfig → Outcome
create_sub w t name topic config = create_sub_at w t name topic config (topic_named w topic)

abbrev pub update_sub_masked : World → Mask → SubRow → SubConfig → Option (List ℕ) → Outcome
update_sub_masked w mask old config (Some missing) = refuses w (NotFound missing)
update_sub_masked w mask old config None =
    let row : SubRow = record old { config = masked_sub mask old.config config } in
    let made = put_sub row w in
    answers made (Subscription (sub_shown made row))

abbrev pub update_sub_at : World → List ℕ → Mask → SubConfig → Option SubRow → Outcome
update_sub_at w name mask config None = refuses w (NotFound name)
update_sub_at w name mask config (Some old) = update_sub_masked w mask old config (if has_bit mask 5 then missing_of w config.dead_letter else None)

abbrev pub update_sub : World → List ℕ → Mask → SubConfig → Outcome
update_sub w name mask config = update_sub_at w name mask config (sub_named w name)

abbrev pub get_sub_at : World → List ℕ → Option SubRow → Outcome
get_sub_at w name None = refuses w (NotFound name)
get_sub_at w name (Some row) = Shows (Subscription (sub_shown w row))

abbrev pub get_sub : World → List ℕ → Outcome
get_sub w name = get_sub_at w name (sub_named w name)

abbrev pub delete_sub_at : World → List ℕ → Option SubRow → Outcome
delete_sub_at w name None = refuses w (NotFound name)
delete_sub_at w name (Some row) = answers (record w {
  subs = filter (λ (r : SubRow). not (nat_eq r.number row.number)) w.subs;
  marks = filter (λ (r : MarkRow). not (nat_eq r.sub row.number)) w.marks;
}) Empty

abbrev pub delete_sub : World → List ℕ → Outcome
delete_sub w name = delete_sub_at w name (sub_named w name)

-- every mark is gone, and nothing enters any more
abbrev pub detach_at : World → List ℕ → Option SubRow → Outcome
detach_at w name None = refuses w (NotFound name)
detach_at w name (Some row) =
    answers (put_sub (record row { detached = true }) (remark_at row.number (λ s. lapsed s.mark) w)) Empty

abbrev pub detach : World → List ℕ → Outcome
detach w name = detach_at w name (sub_named w name)
