use Rattle.std.proofs.Common.{◌∙◌, sym, arith}
use Rattle.ps_message.proofs.PublishLemmas.{fault_of_one, too_large, no_fault}
use Rattle.ps_message.proofs.publish.first_broken.Goals as goal

pub returns-in-Some : goal.returns-in-Some
returns-in-Some c = fault_of_one c.args.messages.now c.in-Some.reason (sym c.has_wrong_count.ensures.value ∙ c.if-has_wrong_count.false) c.in-Some.ensures

pub returns-then-total_size-gt-MOST_BYTES : goal.returns-then-total_size-gt-MOST_BYTES
returns-then-total_size-gt-MOST_BYTES c = too_large c.args.messages.now (sym c.has_wrong_count.ensures.value ∙ c.if-has_wrong_count.false) c.in_default.ensures (omega arith)

pub returns : goal.returns
returns c = no_fault c.args.messages.now (sym c.has_wrong_count.ensures.value ∙ c.if-has_wrong_count.false) c.in_default.ensures (omega arith)
