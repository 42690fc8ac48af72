use Rattle.std.proofs.Common.{◌∙◌, ap}
use Rattle.serde_json.specs.Written.{has_float}
use Rattle.ps_json.proofs.ReplyLemmas.{plain-body_of}
use Rattle.ps_json.proofs.reply.print_body.Goals as goal

pub json_text-requires : goal.json_text-requires
json_text-requires c = ap has_float c.in_ok-body.ensures ∙ plain-body_of c.args.reply.now
