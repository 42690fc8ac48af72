use Rattle.ps_names.specs.Names.{is_topic_name, is_sub_name, is_snap_name}
use Rattle.ps_model.proofs.FormProofs.{form-text, form-name, form-labels, form-message, form-ack_id, form-dead_letter_policy, form-retry_policy, form-topic_config, form-sub_config}
use Rattle.ps_model.proofs.laws.law_forms.Goals as goal

pub returns : goal.returns
returns c = record {
  text = form-text;
  topic_name = form-name is_topic_name;
  sub_name = form-name is_sub_name;
  snap_name = form-name is_snap_name;
  labels = form-labels;
  message = form-message;
  ack_id = form-ack_id;
  dead_letter = form-dead_letter_policy;
  retry = form-retry_policy;
  topic_config = form-topic_config;
  sub_config = form-sub_config;
}
