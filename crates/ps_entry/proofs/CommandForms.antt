-- The bytes of commands are exact.
use Rattle.std.proofs.Common.{◌≡◌, ℕ, nat_eq, Bool, true, false, List, [], ◌∷◌, ◌++◌, Option, Some, if◌then◌else◌, refl, ap, sym, subst, ◌∙◌}
use Rattle.std.proofs.lemmas.Bool.{eqb-true}
use Rattle.ps_base.specs.declared.ack_id.AckId.{AckId}
use Rattle.ps_message.specs.declared.message.Message.{Message}
use Rattle.ps_codec.specs.Fields.{IsBytes}
use Rattle.ps_codec.proofs.FieldLemmas.{IsBytes-behind}
use Rattle.ps_config.specs.declared.config.TopicConfig.{TopicConfig}
use Rattle.ps_config.specs.declared.config.SubConfig.{SubConfig}
use Rattle.ps_model.specs.declared.command.Command.{Command}
use Rattle.ps_model.specs.declared.command.Command.TheVariants.{Tick, CreateTopic, UpdateTopic, DeleteTopic, CreateSubscription, UpdateSubscription, DeleteSubscription, Detach, CreateSnapshot, UpdateSnapshot, DeleteSnapshot, Publish, Pull, Acknowledge, ModifyAckDeadline, SeekTime, SeekSnapshot}
use Rattle.ps_model.specs.Forms.{Reading, made_at}
use Rattle.ps_model.specs.FormLaws.{IsForm}
use Rattle.ps_model.proofs.FormLemmas.{made-again, made-only, form-checked}
use Rattle.ps_entry.specs.Commands.{has_spelling, command_form, fields_at, tagged_at, command_at, FieldsFit, CommandFits}
use Rattle.ps_entry.proofs.FieldForms.{form-create_topic, form-update_topic, form-delete_topic, form-create_subscription, form-update_subscription, form-delete_subscription, form-detach, form-create_snapshot, form-update_snapshot, form-delete_snapshot, form-publish, form-pull, form-acknowledge, form-modify_ack_deadline, form-seek_time, form-seek_snapshot}

-- ---- what a command is made of

abbrev make_create_topic : List ℕ × TopicConfig → Command
make_create_topic p = CreateTopic p.0 p.1

abbrev make_update_topic : List ℕ × (ℕ × TopicConfig) → Command
make_update_topic p = UpdateTopic p.0 (record { 0 = p.1.0 }) p.1.1

abbrev make_delete_topic : List ℕ → Command
make_delete_topic p = DeleteTopic p

abbrev make_create_subscription : List ℕ × (List ℕ × SubConfig) → Command
make_create_subscription p = CreateSubscription p.0 p.1.0 p.1.1

abbrev make_update_subscription : List ℕ × (ℕ × SubConfig) → Command
make_update_subscription p = UpdateSubscription p.0 (record { 0 = p.1.0 }) p.1.1

abbrev make_delete_subscription : List ℕ → Command
make_delete_subscription p = DeleteSubscription p

abbrev make_detach : List ℕ → Command
make_detach p = Detach p

abbrev make_create_snapshot : List ℕ × (List ℕ × List (List ℕ × List ℕ)) → Command
make_create_snapshot p = CreateSnapshot p.0 p.1.0 p.1.1

abbrev make_update_snapshot : List ℕ × List (List ℕ × List ℕ) → Command
make_update_snapshot p = UpdateSnapshot p.0 p.1

abbrev make_delete_snapshot : List ℕ → Command
make_delete_snapshot p = DeleteSnapshot p

abbrev make_publish : List ℕ × List Message → Command
make_publish p = Publish p.0 p.1

abbrev make_pull : List ℕ × (ℕ × (ℕ × Option ℕ)) → Command
make_pull p = Pull p.0 p.1.0 p.1.1.0 p.1.1.1

abbrev make_acknowledge : List ℕ × List AckId → Command
make_acknowledge p = Acknowledge p.0 p.1

abbrev make_modify_ack_deadline : List ℕ × List (AckId × ℕ) → Command
make_modify_ack_deadline p = ModifyAckDeadline p.0 p.1

abbrev make_seek_time : List ℕ × ℕ → Command
make_seek_time p = SeekTime p.0 p.1

abbrev make_seek_snapshot : List ℕ × List ℕ → Command
make_seek_snapshot p = SeekSnapshot p.0 p.1

-- ---- what was written is read again

tagged-again : (c : Command) (rest : List ℕ) → FieldsFit c → tagged_at (command_form c ++ rest) ≡ Some (c, rest)
tagged-again Tick rest fits = refl
tagged-again (CreateTopic topic config) rest fits = made-again make_create_topic _ _ _ form-create_topic (topic, config) rest fits
tagged-again (UpdateTopic topic mask config) rest fits = made-again make_update_topic _ _ _ form-update_topic (topic, (mask.0, config)) rest fits
tagged-again (DeleteTopic topic) rest fits = made-again make_delete_topic _ _ _ form-delete_topic topic rest fits
tagged-again (CreateSubscription subscription topic config) rest fits = made-again make_create_subscription _ _ _ form-create_subscription (subscription, (topic, config)) rest fits
tagged-again (UpdateSubscription subscription mask config) rest fits = made-again make_update_subscription _ _ _ form-update_subscription (subscription, (mask.0, config)) rest fits
tagged-again (DeleteSubscription subscription) rest fits = made-again make_delete_subscription _ _ _ form-delete_subscription subscription rest fits
tagged-again (Detach subscription) rest fits = made-again make_detach _ _ _ form-detach subscription rest fits
tagged-again (CreateSnapshot snapshot subscription labels) rest fits = made-again make_create_snapshot _ _ _ form-create_snapshot (snapshot, (subscription, labels)) rest fits
tagged-again (UpdateSnapshot snapshot labels) rest fits = made-again make_update_snapshot _ _ _ form-update_snapshot (snapshot, labels) rest fits
tagged-again (DeleteSnapshot snapshot) rest fits = made-again make_delete_snapshot _ _ _ form-delete_snapshot snapshot rest fits
tagged-again (Publish topic messages) rest fits = made-again make_publish _ _ _ form-publish (topic, messages) rest fits
tagged-again (Pull subscription max budget seconds) rest fits = made-again make_pull _ _ _ form-pull (subscription, (max, (budget, seconds))) rest fits
tagged-again (Acknowledge subscription ids) rest fits = made-again make_acknowledge _ _ _ form-acknowledge (subscription, ids) rest fits
tagged-again (ModifyAckDeadline subscription items) rest fits = made-again make_modify_ack_deadline _ _ _ form-modify_ack_deadline (subscription, items) rest fits
tagged-again (SeekTime subscription time) rest fits = made-again make_seek_time _ _ _ form-seek_time (subscription, time) rest fits
tagged-again (SeekSnapshot subscription snapshot) rest fits = made-again make_seek_snapshot _ _ _ form-seek_snapshot (subscription, snapshot) rest fits
tagged-again _ rest fits = absurd fits

-- ---- nothing else is read

-- the bytes of this command stand there
abbrev Stands : List ℕ → Command → List ℕ → Type 0
Stands bytes c rest = (bytes ≡ command_form c ++ rest) × FieldsFit c

-- the fields behind a tag, or else what the next tags read
behind : {A : Type 0} (own : ℕ) (make : A → Command) (form : A → List ℕ) (at : Reading A) (Fits : A → Type 0) → IsForm form at Fits → ((value : A) (rest : List ℕ) → command_form (make value) ++ rest ≡ own ∷ (form value ++ rest))
    → ((value : A) → Fits value → FieldsFit (make value)) → (tag : ℕ) (bytes : List ℕ) (c : Command) (rest : List ℕ) (other : Option (Command × List ℕ)) → IsBytes bytes → (other ≡ Some (c, rest) → Stands (tag ∷ bytes) c rest)
    → (if nat_eq tag own then made_at make at bytes else other) ≡ Some (c, rest) → Stands (tag ∷ bytes) c rest
behind own make form at Fits exact spelled fit tag bytes c rest other bound next reads = by (nat_eq tag own) refl reads
  where
    by : (found : Bool) → nat_eq tag own ≡ found → (if found then made_at make at bytes else other) ≡ Some (c, rest) → Stands (tag ∷ bytes) c rest
    by true found reads =
        let made = made-only make form at Fits exact bytes c rest bound reads in
        let stands : Stands (own ∷ bytes) c rest = subst (λ (c : Command). Stands (own ∷ bytes) c rest) made.same (ap (λ (xs : List ℕ). own ∷ xs) made.whole ∙ sym (spelled made.own rest), fit made.own made.fits) in
        subst (λ (t : ℕ). Stands (t ∷ bytes) c rest) (sym (eqb-true tag own found)) stands
    by false found reads = next reads

-- the fields behind the first tag
tick-only : (tag : ℕ) (bytes : List ℕ) (c : Command) (rest : List ℕ) (other : Option (Command × List ℕ)) → (other ≡ Some (c, rest) → Stands (tag ∷ bytes) c rest) → (if nat_eq tag 0x01 then Some (Tick, bytes) else other) ≡ Some (c, rest) → Stands (tag ∷ bytes) c rest
tick-only tag bytes c rest other next reads = by (nat_eq tag 0x01) refl reads
  where
    tick : ◌≡◌ {A = Option (Command × List ℕ)} (Some (Tick, bytes)) (Some (c, rest)) → Stands (0x01 ∷ bytes) c rest
    tick is =
        let same : ◌≡◌ {A = Command × List ℕ} (Tick, bytes) (c, rest) = cc in
        subst (λ (p : Command × List ℕ). Stands (0x01 ∷ bytes) p.0 p.1) same (refl, tt)

    by : (found : Bool) → nat_eq tag 0x01 ≡ found → (if found then Some (Tick, bytes) else other) ≡ Some (c, rest) → Stands (tag ∷ bytes) c rest
    by true found reads = subst (λ (t : ℕ). Stands (t ∷ bytes) c rest) (sym (eqb-true tag 0x01 found)) (tick reads)
    by false found reads = next reads

fields-only : (tag : ℕ) (bytes : List ℕ) (c : Command) (rest : List ℕ) → IsBytes bytes → fields_at tag bytes ≡ Some (c, rest) → Stands (tag ∷ bytes) c rest
fields-only tag bytes c rest bound =
    tick-only tag bytes c rest _
    (behind 0x02 make_create_topic _ _ _ form-create_topic (λ value rest. refl) (λ value fits. fits) tag bytes c rest _ bound
    (behind 0x03 make_update_topic _ _ _ form-update_topic (λ value rest. refl) (λ value fits. fits) tag bytes c rest _ bound
    (behind 0x04 make_delete_topic _ _ _ form-delete_topic (λ value rest. refl) (λ value fits. fits) tag bytes c rest _ bound
    (behind 0x05 make_create_subscription _ _ _ form-create_subscription (λ value rest. refl) (λ value fits. fits) tag bytes c rest _ bound
    (behind 0x06 make_update_subscription _ _ _ form-update_subscription (λ value rest. refl) (λ value fits. fits) tag bytes c rest _ bound
    (behind 0x07 make_delete_subscription _ _ _ form-delete_subscription (λ value rest. refl) (λ value fits. fits) tag bytes c rest _ bound
    (behind 0x08 make_detach _ _ _ form-detach (λ value rest. refl) (λ value fits. fits) tag bytes c rest _ bound
    (behind 0x09 make_create_snapshot _ _ _ form-create_snapshot (λ value rest. refl) (λ value fits. fits) tag bytes c rest _ bound
    (behind 0x0a make_update_snapshot _ _ _ form-update_snapshot (λ value rest. refl) (λ value fits. fits) tag bytes c rest _ bound
    (behind 0x0b make_delete_snapshot _ _ _ form-delete_snapshot (λ value rest. refl) (λ value fits. fits) tag bytes c rest _ bound
    (behind 0x0c make_publish _ _ _ form-publish (λ value rest. refl) (λ value fits. fits) tag bytes c rest _ bound
    (behind 0x0d make_pull _ _ _ form-pull (λ value rest. refl) (λ value fits. fits) tag bytes c rest _ bound
    (behind 0x0e make_acknowledge _ _ _ form-acknowledge (λ value rest. refl) (λ value fits. fits) tag bytes c rest _ bound
    (behind 0x0f make_modify_ack_deadline _ _ _ form-modify_ack_deadline (λ value rest. refl) (λ value fits. fits) tag bytes c rest _ bound
    (behind 0x10 make_seek_time _ _ _ form-seek_time (λ value rest. refl) (λ value fits. fits) tag bytes c rest _ bound
    (behind 0x11 make_seek_snapshot _ _ _ form-seek_snapshot (λ value rest. refl) (λ value fits. fits) tag bytes c rest _ bound
    (λ none. absurd (cc))))))))))))))))))

tagged-only : (bytes : List ℕ) (c : Command) (rest : List ℕ) → IsBytes bytes → tagged_at bytes ≡ Some (c, rest) → Stands bytes c rest
tagged-only [] c rest bound reads = absurd (cc)
tagged-only (tag ∷ bytes) c rest bound reads = fields-only tag bytes c rest (IsBytes-behind (tag ∷ []) bytes bound) reads

pub form-command : IsForm command_form command_at CommandFits
form-command = form-checked has_spelling command_form tagged_at FieldsFit (record { again = tagged-again; only = tagged-only })
