use Rattle.std.proofs.Common.{◌∙◌, sym}
use Rattle.ps_core.specs.State.{seen}
use Rattle.ps_core.proofs.judging.Judged.{judged-refused-all}
use Rattle.ps_core.proofs.service.Core.judge_command.Goals as goal

pub returns-in-Some : goal.returns-in-Some
returns-in-Some c =
    judged-refused-all (λ v. v.reply) (λ v. v.entry) c.args.self.now c.args.now c.args.command.now c.in-Some.refusal (seen c.refuse.new.self) c.in_ok-refusal.ensures.steady (sym c.in_ok-refusal.ensures.refusal ∙ c.in-Some.is) c.refuse.result c.refuse.ensures.ticked c.refuse.ensures.reply
