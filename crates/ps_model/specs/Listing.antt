-- Lists of resources in byte order of their names, a page at a time (API reference, the List calls; the order, the page sizes and the tokens are this project's own).
use Rattle.std.specs.Prelude.{ℕ, min, ◌&&◌, not, nat_eq, nat_lt, List, [], ◌∷◌, Option, Some, None, map, filter, length, take, if◌then◌else◌}
use Rattle.std.specs.Str.{bytes_eq}
use Rattle.ps_base.specs.Keys.{is_below}
use Rattle.ps_base.specs.declared.refusal.Refusal.TheVariants.{NotFound}
use Rattle.ps_model.specs.declared.command.Paging.{Paging}
use Rattle.ps_model.specs.declared.reply.Reply.{Reply}
use Rattle.ps_model.specs.declared.reply.Reply.TheVariants.{Page}
use Rattle.ps_model.specs.declared.reply.PageItems.{PageItems}
use Rattle.ps_model.specs.declared.reply.PageItems.TheVariants.{Topics, Subscriptions, Snapshots, SubscriptionNames, SnapshotNames}
use Rattle.ps_model.specs.declared.world.World.{World}
use Rattle.ps_model.specs.declared.world.TopicRow.{TopicRow}
use Rattle.ps_model.specs.declared.world.SubRow.{SubRow}
use Rattle.ps_model.specs.declared.world.SnapRow.{SnapRow}
use Rattle.ps_model.specs.Showing.{topic_shown, sub_shown, snap_shown}
use Rattle.ps_model.specs.Worlds.{topic_named}
use Rattle.ps_names.specs.Names.{project_part}
use Rattle.ps_model.specs.Outcomes.{Outcome, Shows, refuses}

module _ {A : Type 0} (name : A → List ℕ) where
  abbrev pub insert_by : A → List A → List A
  insert_by x [] = x ∷ []
  insert_by x (y ∷ ys) = if is_below (name x) (name y) then x ∷ (y ∷ ys) else y ∷ insert_by x ys

  -- in byte order of the names
  abbrev pub sorted_by : List A → List A
  sorted_by [] = []
  sorted_by (x ∷ xs) = insert_by x (sorted_by xs)

  -- the names after the token
  abbrev pub after_token : List ℕ → List A → List A
  after_token token xs = filter (λ x. is_below token (name x)) (sorted_by xs)

  -- the last name of the page, which is the next token if more remain
  abbrev pub last_name : List A → Option (List ℕ)
  last_name [] = None
  last_name (x ∷ []) = Some (name x)
  last_name (x ∷ y ∷ ys) = last_name (y ∷ ys)

-- 0 counts as 100, and more than 1,000 as 1,000
abbrev pub page_size : ℕ → ℕ
page_size size = if nat_eq size 0 then 100 else min size 1000

-- the first names after the token, and the next token if more remain
abbrev pub page_of : {A : Type 0} → (A → List ℕ) → (List A → PageItems) → Paging → List A → Reply
page_of name items paging xs =
    let rest = after_token name paging.after xs in
    let page = take (page_size paging.size) rest in
    Page (items page) (if nat_lt (length page) (length rest) then last_name name page else None)

abbrev pub list_topics : World → List ℕ → Paging → Outcome
list_topics w project paging = Shows
    (page_of (λ (r : TopicRow). r.name) (λ rows. Topics (map topic_shown rows)) paging (filter (λ (r : TopicRow). bytes_eq (project_part r.name) project) w.topics))

abbrev pub list_subs : World → List ℕ → Paging → Outcome
list_subs w project paging = Shows
    (page_of (λ (r : SubRow). r.name) (λ rows. Subscriptions (map (sub_shown w) rows)) paging (filter (λ (r : SubRow). bytes_eq (project_part r.name) project) w.subs))

abbrev pub list_snaps : World → List ℕ → Paging → Outcome
list_snaps w project paging = Shows
    (page_of (λ (r : SnapRow). r.name) (λ rows. Snapshots (map (snap_shown w) rows)) paging (filter (λ (r : SnapRow). bytes_eq (project_part r.name) project) w.snaps))

-- the names of the subscriptions attached to a topic and not detached
abbrev pub topic_subs_at : World → Paging → List ℕ → Option TopicRow → Outcome
topic_subs_at w paging name None = refuses w (NotFound name)
topic_subs_at w paging name (Some topic) = Shows
    (page_of (λ (r : SubRow). r.name) (λ rows. SubscriptionNames (map (λ (r : SubRow). r.name) rows)) paging (filter (λ (r : SubRow). nat_eq r.topic topic.number && not r.detached) w.subs))

-- the names of the snapshots of a topic
abbrev pub topic_snaps_at : World → Paging → List ℕ → Option TopicRow → Outcome
topic_snaps_at w paging name None = refuses w (NotFound name)
topic_snaps_at w paging name (Some topic) = Shows
    (page_of (λ (r : SnapRow). r.name) (λ rows. SnapshotNames (map (λ (r : SnapRow). r.name) rows)) paging (filter (λ (r : SnapRow). nat_eq r.topic topic.number) w.snaps))

abbrev pub list_topic_subs : World → List ℕ → Paging → Outcome
list_topic_subs w name paging = topic_subs_at w paging name (topic_named w name)

abbrev pub list_topic_snaps : World → List ℕ → Paging → Outcome
list_topic_snaps w name paging = topic_snaps_at w paging name (topic_named w name)
