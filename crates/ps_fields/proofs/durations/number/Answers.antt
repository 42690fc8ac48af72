use Rattle.std.proofs.Common.{ap, ◌∙◌}
use Rattle.std.specs.Result.{result_ok}
use Rattle.ps_fields.proofs.DurationLemmas.{parsed}
use Rattle.ps_fields.proofs.durations.number.Goals as goal

pub returns-clause-value : goal.returns-clause-value
returns-clause-value c = c.ok.ensures.value ∙ ap result_ok (parsed c.args.digits.now c.parse.result c.parse.ensures.value.0 c.requires).0

pub returns-clause-bound : goal.returns-clause-bound
returns-clause-bound c = (parsed c.args.digits.now c.parse.result c.parse.ensures.value.0 c.requires).1
