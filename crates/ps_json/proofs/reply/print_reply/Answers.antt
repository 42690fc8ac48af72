use Rattle.std.proofs.Common.{◌∙◌, ap}
use Rattle.serde_json.specs.Written.{has_float}
use Rattle.ps_json.proofs.ReplyLemmas.{plain-body_of}
use Rattle.ps_json.proofs.reply.print_reply.Goals as goal

pub reply_line-requires : goal.reply_line-requires
reply_line-requires c = ap has_float c.in_ok-body.ensures ∙ plain-body_of c.args.reply.now
