use Rattle.std.proofs.Common.{◌≡◌, ◌++◌, drop}
use Rattle.ps_model.specs.Forms.{each_form, EachFits}
use Rattle.ps_model.proofs.forms.many.write_each.Given as goal

-- what was written, and what is left to write
abbrev pub invariant-loop-item : goal.invariant-loop-item
invariant-loop-item g l =
    let A = g.A.Form in
    record {
      written : l.writer ++ each_form A.form (drop l.item-index l.items) ≡ l.initial.writer ++ each_form A.form l.items;
      fits : EachFits A.fits (drop l.item-index l.items) → EachFits A.fits l.items;
    }
