-- A new topic, as the rules say.
use Rattle.std.proofs.Common.{ℕ, ◌≡◌, ◌+◌, ◌^◌, ◌<◌, Bool, true, false, List, Some, None, refl, sym, subst, ◌∙◌, ap, arith}
use Rattle.std.proofs.lemmas.Bool.{false_from_ne_true}
use Rattle.ps_base.specs.declared.refusal.Refusal.TheVariants.{AlreadyExists}
use Rattle.ps_config.specs.declared.config.TopicConfig.{TopicConfig}
use Rattle.ps_config.specs.Limits.{topic_fault}
use Rattle.ps_config.specs.Masks.{whole_mask}
use Rattle.ps_model.specs.declared.command.Command.{Command}
use Rattle.ps_model.specs.declared.command.Command.TheVariants.{CreateTopic}
use Rattle.ps_model.specs.declared.reply.Reply.{Reply}
use Rattle.ps_model.specs.declared.reply.Reply.TheVariants.{Refused, Topic}
use Rattle.ps_model.specs.declared.world.World.{World}
use Rattle.ps_model.specs.declared.world.TopicRow.{TopicRow}
use Rattle.ps_model.specs.Commands.{outcome}
use Rattle.ps_model.specs.Live.{live}
use Rattle.ps_model.specs.Same.{same_world, WorldParts}
use Rattle.ps_model.specs.Showing.{topic_shown}
use Rattle.ps_model.specs.Topics.{create_topic_at}
use Rattle.ps_model.specs.Worlds.{topic_named}
use Rattle.ps_model.proofs.SameLemmas.{same-world}
use Rattle.ps_core.specs.Carrying.{IsCarried}
use Rattle.ps_core.specs.Effects.{recorded_at, add_topic}
use Rattle.ps_core.specs.State.{State, seen}
use Rattle.ps_core.specs.Steady.{IsSteady}
use Rattle.ps_core.proofs.carrying.Outcomes.{carried-left, carried-shown, outcome-open}

-- what a function returns is what was carried out
pub carried-as : (at : ℕ) (c : Command) (s made new : State) (told reply : Reply) (changed : Bool) → new ≡ made → reply ≡ told → changed ≡ true → IsCarried at c s made told true → IsCarried at c s new reply changed
carried-as at c s made new told reply changed state tells changes = subst (λ (p : State × Reply × Bool). IsCarried at c s p.0 p.1 p.2) (λ i. (sym state i, sym tells i, sym changes i))

topic-moves : (name : List ℕ) (config : TopicConfig) (s : State) → same_world (seen s) (seen (add_topic name config s)) ≡ false
topic-moves name config s =
    false_from_ne_true (same_world (seen s) (seen (add_topic name config s)))
    (λ e. let next : s.next_topic ≡ s.next_topic + 1 = ap (λ (p : WorldParts). p.0) (same-world (seen s) (seen (add_topic name config s)) e) in omega (arith, next))

topic-open : (at : ℕ) (name : List ℕ) (config : TopicConfig) (s : State) → s.count < 2 ^ 50 → topic_fault whole_mask config ≡ None → outcome (seen s) at (CreateTopic name config) ≡ create_topic_at (seen s) name config (topic_named (seen s) name)
topic-open at name config s room good = outcome-open s at (CreateTopic name config) room good

-- the name of a new topic is taken
pub topic-taken : (at : ℕ) (name : List ℕ) (config : TopicConfig) (s : State) → s.count < 2 ^ 50 → topic_fault whole_mask config ≡ None → (row : TopicRow) → topic_named (seen s) name ≡ Some row
    → IsCarried at (CreateTopic name config) s s (Refused (AlreadyExists name)) false
topic-taken at name config s room good row taken =
    carried-shown at (CreateTopic name config) s (Refused (AlreadyExists name)) (topic-open at name config s room good ∙ ap (create_topic_at (seen s) name config) taken)

pub topic-made : (at : ℕ) (name : List ℕ) (config : TopicConfig) (s : State) → IsSteady s → IsSteady (recorded_at at (add_topic name config s)) → s.count < 2 ^ 50 → topic_fault whole_mask config ≡ None → topic_named (seen s) name ≡ None
    → IsCarried at (CreateTopic name config) s (recorded_at at (add_topic name config s)) (Topic (topic_shown (record { number = s.next_topic; name = name; config = config }))) true
topic-made at name config s h steady room good new =
    let made : State = add_topic name config s in
    carried-left at (CreateTopic name config) s made (Topic (topic_shown (record { number = s.next_topic; name = name; config = config }))) (seen made) steady
    (topic-open at name config s room good ∙ ap (create_topic_at (seen s) name config) new) refl (topic-moves name config s) refl
