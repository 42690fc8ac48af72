use Rattle.std.proofs.Common.{Some, ap, ◌∙◌, sym}
use Rattle.std.proofs.lemmas.Result.{IfOk-weaker}
use Rattle.serde_json.specs.View.{view}
use Rattle.ps_fields.specs.Kinds.{map_of}
use Rattle.ps_fields.proofs.KindLemmas.{map_of-Object}
use Rattle.ps_fields.proofs.kinds.map.Goals as goal

pub returns-in-Some-Object : goal.returns-in-Some-Object
returns-in-Some-Object c =
    IfOk-weaker c.labels.result _ _
    (λ labels is. is ∙ map_of-Object c.in-Some-Object.texts ∙ ap (λ v. map_of (Some (view v))) (sym c.in-Some-Object.field-0-is) ∙ ap map_of c.in-Some-Object.ensures)
    (rw c.in-Some-Object.texts-is at c.labels.ensures)
