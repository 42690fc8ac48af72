use Rattle.std.proofs.Common.{◌≡◌, ◌∙◌, ap, not, length, vec_len, rules, sym}
use Rattle.serde_json.specs.View.{view}
use Rattle.serde_json.proofs.Views.{view-Array, view-Object}
use Rattle.ps_fields.specs.Fields.{is_filled}
use Rattle.ps_fields.proofs.FieldLemmas.{has_items-items_view, has_members-members_view}
use Rattle.ps_fields.proofs.fields.is_filled.Goals as goal

pub returns-in-Array : goal.returns-in-Array
returns-in-Array c =
    let len : vec_len c.in-Array.items ≡ length c.in-Array.items.items = search rules in
    ap not c.is_empty-in-Array.ensures ∙ (has_items-items_view _ c.in-Array.items.items len
    ∙ sym (ap (λ v. is_filled (view v)) c.in-Array.is ∙ ap is_filled (view-Array c.in-Array.items)))

pub returns-in-Object : goal.returns-in-Object
returns-in-Object c =
    has_members-members_view c.is_empty-in-Object.result c.in-Object.fields.entries c.is_empty-in-Object.ensures
    ∙ sym (ap (λ v. is_filled (view v)) c.in-Object.is ∙ ap is_filled (view-Object c.in-Object.fields))
