-- The bytes of the fields of each command are exact.
use Rattle.ps_codec.specs.Fields.{u32_field, u64_field, bytes_field}
use Rattle.ps_names.specs.Names.{is_topic_name, is_sub_name, is_snap_name}
use Rattle.ps_model.specs.Forms.{number32_at, number64_at, pair_form, pair_at, option_form, option_at, list_form, list_at, name_at, labels_form, labels_at, topic_config_form, topic_config_at, sub_config_form, sub_config_at, message_form, message_at, ack_id_form, ack_id_at, IsBelow32, IsBelow64, PairFits, OptionFits, ListFits, NameFits, LabelsFit, TopicConfigFits, SubConfigFits, MessageFits, AckIdFits}
use Rattle.ps_model.specs.FormLaws.{IsForm}
use Rattle.ps_model.proofs.FormLemmas.{form-pair, form-option, form-list, form-number32, form-number64}
use Rattle.ps_model.proofs.FormProofs.{form-name, form-labels, form-message, form-ack_id, form-topic_config, form-sub_config}

pub form-create_topic : IsForm (pair_form bytes_field topic_config_form) (pair_at (name_at is_topic_name) topic_config_at) (PairFits (NameFits is_topic_name) TopicConfigFits)
form-create_topic = form-pair _ _ _ _ _ _ (form-name is_topic_name) form-topic_config

pub form-update_topic : IsForm (pair_form bytes_field (pair_form u32_field topic_config_form)) (pair_at (name_at is_topic_name) (pair_at number32_at topic_config_at)) (PairFits (NameFits is_topic_name) (PairFits IsBelow32 TopicConfigFits))
form-update_topic = form-pair _ _ _ _ _ _ (form-name is_topic_name) (form-pair _ _ _ _ _ _ form-number32 form-topic_config)

pub form-delete_topic : IsForm bytes_field (name_at is_topic_name) (NameFits is_topic_name)
form-delete_topic = form-name is_topic_name

pub form-create_subscription : IsForm (pair_form bytes_field (pair_form bytes_field sub_config_form)) (pair_at (name_at is_sub_name) (pair_at (name_at is_topic_name) sub_config_at)) (PairFits (NameFits is_sub_name) (PairFits (NameFits is_topic_name) SubConfigFits))
form-create_subscription = form-pair _ _ _ _ _ _ (form-name is_sub_name) (form-pair _ _ _ _ _ _ (form-name is_topic_name) form-sub_config)

pub form-update_subscription : IsForm (pair_form bytes_field (pair_form u32_field sub_config_form)) (pair_at (name_at is_sub_name) (pair_at number32_at sub_config_at)) (PairFits (NameFits is_sub_name) (PairFits IsBelow32 SubConfigFits))
form-update_subscription = form-pair _ _ _ _ _ _ (form-name is_sub_name) (form-pair _ _ _ _ _ _ form-number32 form-sub_config)

pub form-delete_subscription : IsForm bytes_field (name_at is_sub_name) (NameFits is_sub_name)
form-delete_subscription = form-name is_sub_name

pub form-detach : IsForm bytes_field (name_at is_sub_name) (NameFits is_sub_name)
form-detach = form-name is_sub_name

pub form-create_snapshot : IsForm (pair_form bytes_field (pair_form bytes_field labels_form)) (pair_at (name_at is_snap_name) (pair_at (name_at is_sub_name) labels_at)) (PairFits (NameFits is_snap_name) (PairFits (NameFits is_sub_name) LabelsFit))
form-create_snapshot = form-pair _ _ _ _ _ _ (form-name is_snap_name) (form-pair _ _ _ _ _ _ (form-name is_sub_name) form-labels)

pub form-update_snapshot : IsForm (pair_form bytes_field labels_form) (pair_at (name_at is_snap_name) labels_at) (PairFits (NameFits is_snap_name) LabelsFit)
form-update_snapshot = form-pair _ _ _ _ _ _ (form-name is_snap_name) form-labels

pub form-delete_snapshot : IsForm bytes_field (name_at is_snap_name) (NameFits is_snap_name)
form-delete_snapshot = form-name is_snap_name

pub form-publish : IsForm (pair_form bytes_field (list_form message_form)) (pair_at (name_at is_topic_name) (list_at message_at)) (PairFits (NameFits is_topic_name) (ListFits MessageFits))
form-publish = form-pair _ _ _ _ _ _ (form-name is_topic_name) (form-list _ _ _ form-message)

pub form-pull : IsForm (pair_form bytes_field (pair_form u32_field (pair_form u64_field (option_form u32_field)))) (pair_at (name_at is_sub_name) (pair_at number32_at (pair_at number64_at (option_at number32_at)))) (PairFits (NameFits is_sub_name) (PairFits IsBelow32 (PairFits IsBelow64 (OptionFits IsBelow32))))
form-pull = form-pair _ _ _ _ _ _ (form-name is_sub_name) (form-pair _ _ _ _ _ _ form-number32 (form-pair _ _ _ _ _ _ form-number64 (form-option _ _ _ form-number32)))

pub form-acknowledge : IsForm (pair_form bytes_field (list_form ack_id_form)) (pair_at (name_at is_sub_name) (list_at ack_id_at)) (PairFits (NameFits is_sub_name) (ListFits AckIdFits))
form-acknowledge = form-pair _ _ _ _ _ _ (form-name is_sub_name) (form-list _ _ _ form-ack_id)

pub form-modify_ack_deadline : IsForm (pair_form bytes_field (list_form (pair_form ack_id_form u32_field))) (pair_at (name_at is_sub_name) (list_at (pair_at ack_id_at number32_at))) (PairFits (NameFits is_sub_name) (ListFits (PairFits AckIdFits IsBelow32)))
form-modify_ack_deadline = form-pair _ _ _ _ _ _ (form-name is_sub_name) (form-list _ _ _ (form-pair _ _ _ _ _ _ form-ack_id form-number32))

pub form-seek_time : IsForm (pair_form bytes_field u64_field) (pair_at (name_at is_sub_name) number64_at) (PairFits (NameFits is_sub_name) IsBelow64)
form-seek_time = form-pair _ _ _ _ _ _ (form-name is_sub_name) form-number64

pub form-seek_snapshot : IsForm (pair_form bytes_field bytes_field) (pair_at (name_at is_sub_name) (name_at is_snap_name)) (PairFits (NameFits is_sub_name) (NameFits is_snap_name))
form-seek_snapshot = form-pair _ _ _ _ _ _ (form-name is_sub_name) (form-name is_snap_name)
