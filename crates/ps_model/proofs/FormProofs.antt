-- The forms of the service's values are exact.
use Rattle.std.proofs.Common.{ℕ, Bool, List, refl}
use Rattle.std.specs.Str.{is_utf8}
use Rattle.ps_base.specs.Keys.{has_ascending_keys}
use Rattle.ps_base.specs.declared.ack_id.AckId.{AckId}
use Rattle.ps_codec.specs.Fields.{bytes_field}
use Rattle.ps_message.specs.declared.message.Message.{Message}
use Rattle.ps_names.specs.Names.{is_topic_name}
use Rattle.ps_config.specs.declared.config.TopicConfig.{TopicConfig}
use Rattle.ps_config.specs.declared.config.SubConfig.{SubConfig}
use Rattle.ps_config.specs.declared.config.DeadLetterPolicy.{DeadLetterPolicy}
use Rattle.ps_config.specs.declared.config.RetryPolicy.{RetryPolicy}
use Rattle.ps_model.specs.Forms
use Rattle.ps_model.specs.FormLaws.{IsForm}
use Rattle.ps_model.proofs.FormLemmas.{form-number32, form-number64, form-truth, form-octets, form-checked, form-made, form-pair, form-option, form-list}

pub form-text : IsForm bytes_field Forms.text_at Forms.TextFits
form-text = form-checked is_utf8 _ _ _ form-octets

pub form-name : (test : List ℕ → Bool) → IsForm bytes_field (Forms.name_at test) (Forms.NameFits test)
form-name test = form-checked test _ _ _ form-text

pub form-labels : IsForm Forms.labels_form Forms.labels_at Forms.LabelsFit
form-labels = form-checked has_ascending_keys _ _ _ (form-list _ _ _ (form-pair _ _ _ _ _ _ form-text form-text))

pub form-message : IsForm Forms.message_form Forms.message_at Forms.MessageFits
form-message = form-made Forms.message_of (λ (m : Message). (m.payload, (m.attributes, m.key))) _ _ _ (λ m. refl) (λ parts. refl) (form-pair _ _ _ _ _ _ form-octets (form-pair _ _ _ _ _ _ form-labels form-text))

pub form-ack_id : IsForm Forms.ack_id_form Forms.ack_id_at Forms.AckIdFits
form-ack_id = form-made Forms.ack_id_of (λ (id : AckId). (id.sub, (id.message, id.lease))) _ _ _ (λ id. refl) (λ parts. refl) (form-pair _ _ _ _ _ _ form-number64 (form-pair _ _ _ _ _ _ form-number64 form-number64))

pub form-topic_config : IsForm Forms.topic_config_form Forms.topic_config_at Forms.TopicConfigFits
form-topic_config = form-made Forms.topic_config_of (λ (c : TopicConfig). (c.labels, c.retention)) _ _ _ (λ c. refl) (λ parts. refl) (form-pair _ _ _ _ _ _ form-labels (form-option _ _ _ form-number64))

pub form-dead_letter_policy : IsForm Forms.dead_letter_policy_form Forms.dead_letter_policy_at Forms.DeadLetterPolicyFits
form-dead_letter_policy = form-made Forms.dead_letter_policy_of (λ (p : DeadLetterPolicy). (p.topic, p.attempts)) _ _ _ (λ p. refl) (λ parts. refl) (form-pair _ _ _ _ _ _ (form-name is_topic_name) form-number32)

pub form-retry_policy : IsForm Forms.retry_policy_form Forms.retry_policy_at Forms.RetryPolicyFits
form-retry_policy = form-made Forms.retry_policy_of (λ (p : RetryPolicy). (p.least, p.most)) _ _ _ (λ p. refl) (λ parts. refl) (form-pair _ _ _ _ _ _ form-number64 form-number64)

pub form-sub_config : IsForm Forms.sub_config_form Forms.sub_config_at Forms.SubConfigFits
form-sub_config =
    form-made Forms.sub_config_of
    (λ (c : SubConfig). ((c.ack_seconds, (c.retain_acked, (c.retention, c.labels))), ((c.ordering, (c.expiration, c.filter)), (c.dead_letter, (c.retry, c.exactly_once))))) _ _ _ (λ c. refl) (λ parts. refl)
    (form-pair _ _ _ _ _ _ (form-pair _ _ _ _ _ _ form-number32 (form-pair _ _ _ _ _ _ form-truth (form-pair _ _ _ _ _ _ form-number64 form-labels)))
    (form-pair _ _ _ _ _ _ (form-pair _ _ _ _ _ _ form-truth (form-pair _ _ _ _ _ _ (form-option _ _ _ form-number64) form-text))
    (form-pair _ _ _ _ _ _ (form-option _ _ _ form-dead_letter_policy) (form-pair _ _ _ _ _ _ (form-option _ _ _ form-retry_policy) form-truth))))
