use Rattle.std.proofs.Common.{rules, ◌≡◌, ◌≤◌, ◌+◌, ◌++◌, ℕ, length, take, drop, subst, refl, ap, ◌∙◌, arith}
use Rattle.std.proofs.lemmas.Grind.{common_steps}
use Rattle.std.specs.Vec.{vec_len}
use Rattle.ps_http.specs.Chunks.{StepSays}
use Rattle.ps_http.specs.declared.bodies.Arrived.{Arrived}
use Rattle.ps_http.specs.declared.chunks.Step.{Step}
use Rattle.ps_http.specs.declared.chunks.Step.TheVariants as Steps
use Rattle.ps_http.proofs.BodyLemmas.{Leads, leads_longer, leads_on, ends_last, ends_refused, ends_waits}
use Rattle.ps_http.proofs.ReadingLemmas.{grew_on, reads_on, on_pause_both, wanting}
use Rattle.ps_http.proofs.bodies.read_chunks.Goals as goal

pub loop-len-preserved : goal.loop-len-preserved
loop-len-preserved g c =
    let now = c.read_step.new.bytes.items in
    let body = c.loop-len.body.items in
    let next = c.loop-len.next in
    let at = c.args.at in
    let len = c.in-Ok-Chunk.len in
    let size = c.in-Ok-Chunk.size in
    let grew = c.in-Ok-Chunk.ensures.reads in
    let says = rw c.in-Ok-Chunk.field-0-is at c.in-Ok-Chunk.ensures.says in
    let fits = rw c.in-Ok-Chunk.field-0-is at c.in-Ok-Chunk.ensures.within in
    let before = c.loop-len.invariant in
    let longer : next ≤ length now = grind (arith, common_steps, ap length grew.1, before.within) in
    let leads : Leads at next now body = leads_longer at next c.loop-len.bytes.items now grew.0 body grew.1 before.leads in
    let size_is : vec_len c.loop-len.body ≡ length body = search rules in
    let had : c.len.result ≡ length body = c.len.ensures ∙ size_is in
    let step : StepSays (length body) (drop next now) (Steps.Chunk len size) = subst (λ (n : ℕ). StepSays n (drop next now) (Steps.Chunk len size)) had says in
    let text : c.extend_from_slice.new.self.items ≡ body ++ take size (drop (next + len) now) = grind (arith, common_steps, (c.in_ok-extend_from_slice-in-Ok-Chunk).ensures.items, c.deref.ensures.value) in
    record {
      grew = grew_on g.L.Link c.args.link.now c.loop-len.link c.read_step.new.link c.args.bytes.now.items c.loop-len.bytes.items now before.grew grew;
      begun = omega (arith, before.begun);
      within = grind (arith, common_steps, fits.0, longer);
      fits = grind (arith, common_steps, text, fits.2, had);
      leads = leads_on at next len size _ now body _ leads before.begun longer fits.0 step refl text;
    }

pub returns-in-Ok-Last-clause-reads : goal.returns-in-Ok-Last-clause-reads
returns-in-Ok-Last-clause-reads g c = grew_on g.L.Link c.args.link.now c.loop-len.link c.read_step.new.link c.args.bytes.now.items c.loop-len.bytes.items c.read_step.new.bytes.items c.loop-len.invariant.grew c.in-Ok-Last.ensures.reads

pub returns-in-Ok-Last-clause-says : goal.returns-in-Ok-Last-clause-says
returns-in-Ok-Last-clause-says g c =
    let now = c.read_step.new.bytes.items in
    let body = c.loop-len.body.items in
    let grew = c.in-Ok-Last.ensures.reads in
    let says = rw c.in-Ok-Last.field-0-is at c.in-Ok-Last.ensures.says in
    let size_is : vec_len c.loop-len.body ≡ length body = search rules in
    let had : c.len.result ≡ length body = c.len.ensures ∙ size_is in
    let step = subst (λ (n : ℕ). StepSays n (drop c.loop-len.next now) (Steps.Last c.in-Ok-Last.len)) had says in
    ends_last c.args.at c.loop-len.next c.in-Ok-Last.len now body (leads_longer c.args.at c.loop-len.next c.loop-len.bytes.items now grew.0 body grew.1 c.loop-len.invariant.leads) step

pub returns-in-Ok-Refused-clause-says : goal.returns-in-Ok-Refused-clause-says
returns-in-Ok-Refused-clause-says g c =
    let now = c.read_step.new.bytes.items in
    let body = c.loop-len.body.items in
    let grew = c.in-Ok-Refused.ensures.reads in
    let says = rw c.in-Ok-Refused.field-0-is at c.in-Ok-Refused.ensures.says in
    let size_is : vec_len c.loop-len.body ≡ length body = search rules in
    let had : c.len.result ≡ length body = c.len.ensures ∙ size_is in
    let step = subst (λ (n : ℕ). StepSays n (drop c.loop-len.next now) (Steps.Refused c.in-Ok-Refused.code)) had says in
    ends_refused c.args.at c.loop-len.next c.in-Ok-Refused.code now body (leads_longer c.args.at c.loop-len.next c.loop-len.bytes.items now grew.0 body grew.1 c.loop-len.invariant.leads) step

pub returns-in_err-extend_from_slice-in-Ok-Chunk-clause-reads : goal.returns-in_err-extend_from_slice-in-Ok-Chunk-clause-reads
returns-in_err-extend_from_slice-in-Ok-Chunk-clause-reads g c =
    let grew = grew_on g.L.Link c.args.link.now c.loop-len.link c.read_step.new.link c.args.bytes.now.items c.loop-len.bytes.items c.read_step.new.bytes.items c.loop-len.invariant.grew c.in-Ok-Chunk.ensures.reads in
    (grew.0, wanting _ c.from_residual.result c.from_residual.ensures.1, grew.2)

pub returns-in-Err-clause-reads : goal.returns-in-Err-clause-reads
returns-in-Err-clause-reads g c =
    reads_on g.L.Link Step Arrived c.args.link.now c.loop-len.link c.read_step.new.link c.args.bytes.now.items c.loop-len.bytes.items c.read_step.new.bytes.items c.in-Err.pause c.loop-len.invariant.grew c.in-Err.ensures.reads

pub returns-in-Err-clause-waits : goal.returns-in-Err-clause-waits
returns-in-Err-clause-waits g c =
    let now = c.read_step.new.bytes.items in
    let body = c.loop-len.body.items in
    let size_is : vec_len c.loop-len.body ≡ length body = search rules in
    let had : c.len.result ≡ length body = c.len.ensures ∙ size_is in
    let more = c.in-Err.ensures.reads.0 in
    let ends = λ (grew : now ≡ c.loop-len.bytes.items ++ more) (says : StepSays c.len.result (drop c.loop-len.next now) Steps.Waits).
    ends_waits c.args.at c.loop-len.next now body
    (leads_longer c.args.at c.loop-len.next c.loop-len.bytes.items now more body grew c.loop-len.invariant.leads)
    (subst (λ (n : ℕ). StepSays n (drop c.loop-len.next now) Steps.Waits) had says) in
    on_pause_both Step Arrived c.in-Err.pause ends c.in-Err.ensures.reads.1 c.in-Err.ensures.waits
