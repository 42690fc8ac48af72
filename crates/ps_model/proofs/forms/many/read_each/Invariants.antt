use Rattle.std.proofs.Common.{◌≡◌, ◌-◌}
use Rattle.ps_model.specs.Forms.{each_at}
use Rattle.ps_model.proofs.FormSteps.{prefixed}
use Rattle.ps_model.proofs.forms.many.read_each.Given as goal

-- the items so far, and those still to read
abbrev pub invariant-loop : goal.invariant-loop
invariant-loop g l = each_at g.A.Form.at l.count l.initial.reader ≡ prefixed l.items (each_at g.A.Form.at (l.count - l.counter) l.reader)
