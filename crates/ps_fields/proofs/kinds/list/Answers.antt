use Rattle.std.proofs.Common.{Some, map, ap, ◌∙◌, sym}
use Rattle.serde_json.specs.View.{view}
use Rattle.ps_fields.specs.Kinds.{list_of}
use Rattle.ps_fields.proofs.KindLemmas.{list_of-Array}
use Rattle.ps_fields.proofs.kinds.list.Goals as goal

pub returns-in-Some-Array : goal.returns-in-Some-Array
returns-in-Some-Array c =
    ap (λ vs. Some (map view vs)) (rw c.in-Some-Array.items-is at c.as_slice.ensures.value)
    ∙ sym (list_of-Array c.in-Some-Array.items)
    ∙ ap (λ v. list_of (Some (view v))) (sym c.in-Some-Array.field-0-is)
    ∙ ap list_of c.in-Some-Array.ensures
