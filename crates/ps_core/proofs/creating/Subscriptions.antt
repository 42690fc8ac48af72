-- A new subscription, as the rules say.
use Rattle.std.proofs.Common.{ℕ, ◌≡◌, ◌+◌, ◌^◌, ◌<◌, Bool, true, false, ◌&&◌, nat_eq, List, [], ◌∷◌, ◌++◌, append-nil, Option, Some, None, option_map, map, filter, find, refl, sym, ◌∙◌, ap, arith, if◌then◌else◌}
use Rattle.std.proofs.lemmas.Bool.{false_from_ne_true}
use Rattle.std.proofs.lemmas.List.{map-append}
use Rattle.ps_base.specs.declared.refusal.Refusal.TheVariants.{NotFound, AlreadyExists}
use Rattle.ps_config.specs.declared.config.DeadLetterPolicy.{DeadLetterPolicy}
use Rattle.ps_config.specs.declared.config.SubConfig.{SubConfig}
use Rattle.ps_filter.specs.Filters.{meets}
use Rattle.ps_model.specs.declared.mark.Mark.TheVariants.{Done}
use Rattle.ps_model.specs.declared.mark.DoneCause.TheVariants.{Acknowledged}
use Rattle.ps_model.specs.declared.mark.Slot.{Slot}
use Rattle.ps_model.specs.declared.command.Command.TheVariants.{CreateSubscription}
use Rattle.ps_model.specs.declared.reply.Reply.TheVariants.{Refused, Subscription}
use Rattle.ps_model.specs.declared.world.MarkRow.{MarkRow}
use Rattle.ps_model.specs.declared.world.MessageRow.{MessageRow}
use Rattle.ps_model.specs.declared.world.SubRow.{SubRow}
use Rattle.ps_model.specs.declared.world.TopicRow.{TopicRow}
use Rattle.ps_model.specs.declared.world.World.{World}
use Rattle.ps_model.specs.Checks.{new_sub_fault}
use Rattle.ps_model.specs.Commands.{outcome}
use Rattle.ps_model.specs.Outcomes.{answers}
use Rattle.ps_model.specs.Retention.{is_within}
use Rattle.ps_model.specs.Same.{same_world, WorldParts}
use Rattle.ps_model.specs.Showing.{sub_shown}
use Rattle.ps_model.specs.Subscriptions.{retained_rows, missing_of, create_sub_named, create_sub_at}
use Rattle.ps_model.specs.Worlds.{row_of, topic_named, sub_named}
use Rattle.ps_model.proofs.SameLemmas.{same-world}
use Rattle.ps_tables.specs.declared.kept_subscription.KeptSubscription.{KeptSubscription}
use Rattle.ps_core.specs.Carrying.{IsCarried}
use Rattle.ps_core.specs.Effects.{recorded_at, add_subscription, new_subscription}
use Rattle.ps_tables.specs.Members.{has_name}
use Rattle.ps_core.specs.State.{State, sub_row, flat_marks, seen}
use Rattle.ps_core.specs.Steady.{HasGoodSettings, IsSteady}
use Rattle.ps_core.proofs.carrying.Kept.{sub-named-seen}
use Rattle.ps_core.proofs.carrying.Outcomes.{carried-left, carried-shown, outcome-open}
use Rattle.ps_core.proofs.creating.Settings.{no-dead-letter}

-- no message of the topic is in its window
retained-none : (at number : ℕ) (config : SubConfig) (rows : List MessageRow)
    → filter (λ (r : MessageRow). nat_eq r.topic number && (r.kept && (is_within at r.publish None && meets config.filter r.message))) rows ≡ []
retained-none at number config [] = refl
retained-none at number config (r ∷ rs) = ap (λ (b : Bool). if b then r ∷ filter (keeps) rs else filter keeps rs) (no (nat_eq r.topic number) r.kept) ∙ retained-none at number config rs
  where
    keeps : MessageRow → Bool
    keeps r = nat_eq r.topic number && (r.kept && (is_within at r.publish None && meets config.filter r.message))

    no : (a b : Bool) → (a && (b && false)) ≡ false
    no true true = refl
    no true false = refl
    no false b = refl

marks-push : (subscriptions : List KeptSubscription) (x : KeptSubscription) → x.sub.slots ≡ [] → flat_marks (subscriptions ++ x ∷ []) ≡ flat_marks subscriptions
marks-push [] x e = ap (λ (slots : List Slot). map (row_of x.number) slots ++ []) e
marks-push (y ∷ ys) x e = ap (λ (marks : List MarkRow). map (row_of y.number) y.sub.slots ++ marks) (marks-push ys x e)

subscription-moves : (name : List ℕ) (topic : ℕ) (config : SubConfig) (s : State) → same_world (seen s) (seen (add_subscription name topic config s)) ≡ false
subscription-moves name topic config s =
    false_from_ne_true (same_world (seen s) (seen (add_subscription name topic config s)))
    (λ e. let next : s.next_sub ≡ s.next_sub + 1 = ap (λ (p : WorldParts). p.1.0) (same-world (seen s) (seen (add_subscription name topic config s)) e) in omega (arith, next))

sub-open : (at : ℕ) (name topic : List ℕ) (config : SubConfig) (s : State) → s.count < 2 ^ 50 → new_sub_fault config ≡ None
    → outcome (seen s) at (CreateSubscription name topic config) ≡ create_sub_at (seen s) at name topic config (topic_named (seen s) topic)
sub-open at name topic config s room good = outcome-open s at (CreateSubscription name topic config) room good

-- if the topic is there
sub-there : (at : ℕ) (name topic : List ℕ) (config : SubConfig) (s : State) → s.count < 2 ^ 50 → HasGoodSettings config → (row : TopicRow) → topic_named (seen s) topic ≡ Some row
    → outcome (seen s) at (CreateSubscription name topic config) ≡ create_sub_named (seen s) at name row config None (option_map sub_row (find (has_name name) s.subscriptions))
sub-there at name topic config s room good row there =
    sub-open at name topic config s room good.good ∙ ap (create_sub_at (seen s) at name topic config) there
    ∙ ap (λ (p : Option DeadLetterPolicy). create_sub_named (seen s) at name row config (missing_of (seen s) p) (sub_named (seen s) name)) (no-dead-letter config good.built)
    ∙ ap (create_sub_named (seen s) at name row config None) (sub-named-seen s name)

pub sub-missing : (at : ℕ) (name topic : List ℕ) (config : SubConfig) (s : State) → s.count < 2 ^ 50 → HasGoodSettings config → topic_named (seen s) topic ≡ None
    → IsCarried at (CreateSubscription name topic config) s s (Refused (NotFound topic)) false
sub-missing at name topic config s room good missing =
    carried-shown at (CreateSubscription name topic config) s (Refused (NotFound topic))
    (sub-open at name topic config s room good.good ∙ ap (create_sub_at (seen s) at name topic config) missing)

-- the name of a new subscription is taken
pub sub-taken : (at : ℕ) (name topic : List ℕ) (config : SubConfig) (s : State) → s.count < 2 ^ 50 → HasGoodSettings config → (row : TopicRow) → topic_named (seen s) topic ≡ Some row
    → (x : KeptSubscription) → find (has_name name) s.subscriptions ≡ Some x → IsCarried at (CreateSubscription name topic config) s s (Refused (AlreadyExists name)) false
sub-taken at name topic config s room good row there x taken =
    carried-shown at (CreateSubscription name topic config) s (Refused (AlreadyExists name))
    (sub-there at name topic config s room good row there ∙ ap (λ (o : Option KeptSubscription). create_sub_named (seen s) at name row config None (option_map sub_row o)) taken)

-- the world of the rules, with the subscription
subscription-seen : (at : ℕ) (name : List ℕ) (topic : TopicRow) (config : SubConfig) (s : State) → topic.config.retention ≡ None
    → (let row : SubRow = sub_row (new_subscription s.next_sub name topic.number config) in
    record (seen s) { next_sub = s.next_sub + 1; subs = map sub_row s.subscriptions ++ row ∷ []; marks = flat_marks s.subscriptions ++ retained_rows (seen s) at row topic.config.retention }) ≡ seen (add_subscription name topic.number config s)
subscription-seen at name topic config s window =
    let x : KeptSubscription = new_subscription s.next_sub name topic.number config in
    let none : retained_rows (seen s) at (sub_row x) topic.config.retention ≡ [] =
    ap (λ (w : Option ℕ). retained_rows (seen s) at (sub_row x) w) window
    ∙ ap (map (λ (r : MessageRow). record { sub = s.next_sub; message = r.number; mark = Done Acknowledged })) (retained-none at topic.number config s.messages) in
    λ i. record (seen s) {
      next_sub = s.next_sub + 1;
      subs = sym (map-append sub_row s.subscriptions (x ∷ [])) i;
      marks = (ap (λ (marks : List MarkRow). flat_marks s.subscriptions ++ marks) none ∙ append-nil (flat_marks s.subscriptions) ∙ sym (marks-push s.subscriptions x refl)) i;
    }

pub sub-made : (at : ℕ) (name topic : List ℕ) (config : SubConfig) (s : State) → IsSteady s → (row : TopicRow) → IsSteady (recorded_at at (add_subscription name row.number config s)) → s.count < 2 ^ 50 → HasGoodSettings config
    → topic_named (seen s) topic ≡ Some row → row.config.retention ≡ None → find (has_name name) s.subscriptions ≡ None
    → IsCarried at (CreateSubscription name topic config) s (recorded_at at (add_subscription name row.number config s)) (Subscription (sub_shown (seen s) (sub_row (new_subscription s.next_sub name row.number config)))) true
sub-made at name topic config s h row steady room good there window new =
    let made : State = add_subscription name row.number config s in
    let reply = Subscription (sub_shown (seen s) (sub_row (new_subscription s.next_sub name row.number config))) in
    carried-left at (CreateSubscription name topic config) s made reply (seen made) steady
    (sub-there at name topic config s room good row there ∙ ap (λ (o : Option KeptSubscription). create_sub_named (seen s) at name row config None (option_map sub_row o)) new
    ∙ ap (λ (w : World). answers w reply) (subscription-seen at name row config s window))
    refl (subscription-moves name row.number config s) refl
