-- Updates, as the rules say.
use Rattle.std.proofs.Common.{◌≡◌, ℕ, Bool, true, false, nat_eq, List, Option, Some, None, find, map, option_map, unwrap_or, refl, sym, ap, ◌∙◌, if◌then◌else◌}
use Rattle.std.specs.BTreeMap.{values}
use Rattle.std.proofs.lemmas.Bool.{eq-eqb, false≢true, false_from_ne_true}
use Rattle.ps_base.proofs.Lists.{found-map}
use Rattle.ps_base.specs.declared.refusal.Refusal.TheVariants.{NotFound}
use Rattle.ps_config.specs.declared.config.TopicConfig.{TopicConfig}
use Rattle.ps_config.specs.declared.mask.Mask.{Mask}
use Rattle.ps_config.specs.Masks.{masked_topic}
use Rattle.ps_model.specs.declared.command.Command.TheVariants.{UpdateTopic}
use Rattle.ps_model.specs.declared.reply.Reply.TheVariants.{Refused, Topic}
use Rattle.ps_model.specs.declared.world.TopicRow.{TopicRow}
use Rattle.ps_model.specs.Checks.{argument_fault}
use Rattle.ps_model.specs.Commands.{outcome}
use Rattle.ps_model.specs.Outcomes.{answers}
use Rattle.ps_model.specs.Same.{WorldParts, same_topic_config, same_world}
use Rattle.ps_model.specs.Showing.{topic_shown}
use Rattle.ps_model.specs.Topics.{update_topic_at}
use Rattle.ps_model.specs.Worlds.{put_topic, topic_named}
use Rattle.ps_model.proofs.SameLemmas.{exact-topic-config, same-world}
use Rattle.ps_tables.specs.declared.tables.KeptTopic.{KeptTopic}
use Rattle.ps_tables.specs.declared.tables.Tables.{Tables}
use Rattle.ps_core.specs.Carrying.{CanRecord, IsCarried}
use Rattle.ps_core.specs.Changing.{change_topic, with_config}
use Rattle.ps_tables.specs.Numbers.{changed_at}
use Rattle.ps_core.specs.Effects.{recorded_at}
use Rattle.ps_core.specs.Keeping.{IsKept, has_topic_name, the_row}
use Rattle.ps_tables.specs.Members.{numbered}
use Rattle.ps_core.specs.State.{State, seen, topic_number}
use Rattle.ps_core.specs.Steady.{IsSteady}
use Rattle.ps_core.proofs.carrying.Kept.{IsTopicAt, topic-nowhere, topic-there}
use Rattle.ps_tables.proofs.numbers.Changes.{found-by-number, keeps-numbers, put-changes, unchanged}
use Rattle.ps_core.proofs.carrying.Living.{live-seen}
use Rattle.ps_core.proofs.carrying.Outcomes.{carried-left, carried-rests, carried-shown, finished-seen, outcome-open}

module _ (at : ℕ) (name : List ℕ) (mask : Mask) (config : TopicConfig) (s : State) (can : CanRecord at s) (good : argument_fault (UpdateTopic name mask config) ≡ None) where
  pub topic-missing : topic_named (seen s) name ≡ None → IsCarried at (UpdateTopic name mask config) s s (Refused (NotFound name)) false
  topic-missing is =
      carried-shown at (UpdateTopic name mask config) s (Refused (NotFound name)) (outcome-open s at (UpdateTopic name mask config) can.room good ∙ ap (update_topic_at (seen s) name mask config) is)

  module _ (row : TopicRow) (h : IsSteady s) (is : topic_named (seen s) name ≡ Some row) where
    abbrev made : TopicConfig
    made = masked_topic mask row.config config

    here : find (λ (r : TopicRow). nat_eq r.number row.number) s.topics ≡ Some row
    here = found-by-number topic_number (has_topic_name name) s.topics row h.topics is

    puts : map (λ (r : TopicRow). if nat_eq r.number row.number then with_config made row else r) s.topics ≡ changed_at topic_number row.number (with_config made) s.topics
    puts = put-changes topic_number row.number (with_config made) row s.topics h.topics here

    ruled : outcome (seen s) at (UpdateTopic name mask config) ≡ answers (put_topic (with_config made row) (seen s)) (Topic (topic_shown (with_config made row)))
    ruled = outcome-open s at (UpdateTopic name mask config) can.room good ∙ ap (update_topic_at (seen s) name mask config) is

    -- nothing changes
    pub topic-rests : same_topic_config made row.config ≡ true → IsCarried at (UpdateTopic name mask config) s s (Topic (topic_shown (with_config made row))) false
    topic-rests same =
        let reply = Topic (topic_shown (with_config made row)) in
        let config-same : made ≡ row.config = exact-topic-config.one made row.config same in
        let rows : map (λ (r : TopicRow). if nat_eq r.number row.number then with_config made row else r) s.topics ≡ s.topics =
        ap (λ (c : TopicConfig). map (λ (r : TopicRow). if nat_eq r.number row.number then with_config c row else r) s.topics) config-same ∙ put-changes topic_number row.number (λ r. r) row s.topics h.topics here ∙ unchanged topic_number row.number s.topics in
        carried-rests at (UpdateTopic name mask config) s reply (answers (seen s) reply) (ruled ∙ ap (λ (rs : List TopicRow). answers (record (seen s) { topics = rs }) reply) rows) refl (finished-seen at (seen s) s reply h)

    differs : same_topic_config made row.config ≡ false → same_world (seen s) (seen (change_topic row.number (with_config made) s)) ≡ false
    differs other =
        false_from_ne_true (same_world (seen s) (seen (change_topic row.number (with_config made) s))) (λ same.
        let rows : s.topics ≡ changed_at topic_number row.number (with_config made) s.topics = ap (λ (p : WorldParts). p.1.1.1.1.0) (same-world (seen s) (seen (change_topic row.number (with_config made) s)) same) in
        let put : TopicRow → TopicRow = λ r. if nat_eq r.number row.number then with_config made r else r in
        let there : find (λ (r : TopicRow). nat_eq r.number row.number) (map put s.topics) ≡ Some (with_config made row) =
        found-map (λ (r : TopicRow). nat_eq r.number row.number) put s.topics (λ r. ap (λ n. nat_eq n row.number) (keeps-numbers topic_number row.number (with_config made) (λ x. refl) r)) ∙ ap (option_map put) here
        ∙ ap (λ (b : Bool). Some (if b then with_config made row else row)) (eq-eqb row.number row.number refl) in
        let both : Some row ≡ Some (with_config made row) = sym here ∙ ap (find (λ (r : TopicRow). nat_eq r.number row.number)) rows ∙ there in
        let config-same : row.config ≡ made = ap (λ (o : Option TopicRow). (unwrap_or o row).config) both in
        false≢true (sym other ∙ ap (same_topic_config made) config-same ∙ exact-topic-config.own made))

    -- the topic changes
    pub topic-changed : IsSteady (change_topic row.number (with_config made) (recorded_at at s)) → same_topic_config made row.config ≡ false
        → IsCarried at (UpdateTopic name mask config) s (change_topic row.number (with_config made) (recorded_at at s)) (Topic (topic_shown (with_config made row))) true
    topic-changed later other =
        carried-left at (UpdateTopic name mask config) s (change_topic row.number (with_config made) s) (Topic (topic_shown (with_config made row))) (put_topic (with_config made row) (seen s))
        later ruled
        ((λ i. record (seen s) { topics = puts i })) (differs other) refl

-- the topic that a look-up by the number of the name gives
pub topic-looked : (s self : State) (next_end : ℕ) (tables : Tables) → IsKept s next_end tables → s.topics ≡ map the_row (values tables.topics) → s ≡ self → (text name : List ℕ) → text ≡ name
    → (o : Option ℕ) (n : ℕ) → o ≡ numbered tables.topic_numbers text → o ≡ Some n → (x : KeptTopic) × (IsTopicAt s tables name n x × (topic_named (seen self) name ≡ Some x.row))
topic-looked s self next_end tables kept is view text name told o n looked at =
    let x = topic-there s next_end tables kept is name n (ap (numbered tables.topic_numbers) (sym told) ∙ sym looked ∙ at) in
    (x.0, (x.1, ap (λ (v : State). topic_named (seen v) name) (sym view) ∙ x.1.named))

pub topic-unlooked : (s self : State) (next_end : ℕ) (tables : Tables) → IsKept s next_end tables → s ≡ self → (text name : List ℕ) → text ≡ name
    → (o : Option ℕ) → o ≡ numbered tables.topic_numbers text → o ≡ None → topic_named (seen self) name ≡ None
topic-unlooked s self next_end tables kept view text name told o looked at =
    ap (λ (v : State). topic_named (seen v) name) (sym view) ∙ topic-nowhere s next_end tables kept name (ap (numbered tables.topic_numbers) (sym told) ∙ sym looked ∙ at)
