use Rattle.std.proofs.Common.{arith, ◌∙◌}
use Rattle.std.proofs.lemmas.List.{take_rest}
use Rattle.std.proofs.lemmas.Grind.{common_steps}
use Rattle.ps_edge.proofs.Texts.{added}
use Rattle.ps_edge.proofs.link.send_all.Goals as goal

pub loop-done-preserved : goal.loop-done-preserved
loop-done-preserved g c =
    let before = c.loop-done.invariant in
    let step = c.in_ok-count.ensures in
    record {
      written = added _ _ _ c.args.text.now _ c.loop-done.done c.in_ok-count.count (take_rest c.args.text.now c.loop-done.done) before.written step.bytes;
      within = grind (arith, common_steps);
      left = step.left ∙ before.left;
      received = step.received ∙ before.received;
      faults = omega (arith, before.faults, step.cause.later);
      waits = omega (arith, before.waits, step.waits);
    }
