use Rattle.std.proofs.Common.{arith, ◌∙◌, ◌≡◌, drop}
use Rattle.std.proofs.lemmas.Grind.{common_steps}
use Rattle.ps_http.specs.Sections.{empty_line}
use Rattle.ps_http.proofs.SectionLemmas.{end_later}
use Rattle.ps_http.proofs.sections.section_end.Goals as goal

pub loop-at-preserved : goal.loop-at-preserved
loop-at-preserved c =
    let none : empty_line c.loop-at.begins (drop c.loop-at.at c.args.bytes.now) ≡ 0 = grind (arith, common_steps) in
    end_later c.args.bytes.now c.loop-at.at c.loop-at.begins (grind arith) none ∙ c.loop-at.invariant
