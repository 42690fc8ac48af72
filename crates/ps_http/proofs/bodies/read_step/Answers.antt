use Rattle.std.proofs.Common.{◌≡◌, ◌-◌, ℕ, List, length, take, drop, subst, sym, arith}
use Rattle.std.proofs.lemmas.Grind.{common_steps}
use Rattle.ps_http.specs.Chunks.{StepSays}
use Rattle.ps_http.specs.declared.chunks.Step.{Step}
use Rattle.ps_http.specs.declared.chunks.Step.TheVariants.{Waits}
use Rattle.ps_http.proofs.ReadingLemmas.{grew_on, reads_on, on_pause}
use Rattle.ps_http.proofs.bodies.read_step.Goals as goal

pub loop-link-preserved : goal.loop-link-preserved
loop-link-preserved g c =
    let step = c.in_default-read_more.ensures in
    grew_on g.L.Link c.args.link.now c.loop-link.link c.read_more.new.link c.args.bytes.now.items c.loop-link.bytes.items c.read_more.new.bytes.items c.loop-link.invariant step.reads

pub returns-in-Err-clause-reads : goal.returns-in-Err-clause-reads
returns-in-Err-clause-reads g c =
    reads_on g.L.Link (Unit {0}) Step c.args.link.now c.loop-link.link c.read_more.new.link c.args.bytes.now.items c.loop-link.bytes.items c.read_more.new.bytes.items c.in-Err.pause c.loop-link.invariant c.in-Err.ensures.reads

pub returns-in-Err-clause-waits : goal.returns-in-Err-clause-waits
returns-in-Err-clause-waits g c =
    let bytes = c.loop-link.bytes.items in
    let at = c.args.at in
    let had = c.args.had in
    let cut : take (length bytes - at) (drop at bytes) ≡ drop at bytes = grind (arith, common_steps) in
    let rest = take (length bytes - at) (drop at bytes) in
    let view : c.deref.result.now ≡ bytes = c.deref.ensures.value in
    let here = subst (λ (b : List ℕ). StepSays had (take (length b - at) (drop at b)) Waits) view c.in-Waits.ensures.says in
    let waits : StepSays had (drop at bytes) Waits = subst (λ (b : List ℕ). StepSays had b Waits) cut here in
    on_pause (Unit {0}) Step c.in-Err.pause (λ same. subst (λ (b : List ℕ). StepSays had (drop at b) Waits) (sym same) waits) c.in-Err.ensures.same
