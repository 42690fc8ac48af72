use Rattle.std.proofs.Common.{◌≡◌, ℕ, ◌<◌, List, [], ◌++◌, map, fold, Some, unwrap_or, ap, sym, ◌∙◌, rules}
use Rattle.std.proofs.lemmas.Result.{IfOk-weaker}
use Rattle.serde_json.specs.Data.{Data}
use Rattle.serde_json.specs.View.{view, members_view}
use Rattle.ps_fields.specs.declared.rows.Kind.TheVariants.{Items}
use Rattle.ps_fields.specs.Fields.{items_in}
use Rattle.ps_fields.specs.Paths.{lesser}
use Rattle.ps_fields.specs.Unknown.{unknown_at, unknown_in_items, unknown_paths}
use Rattle.ps_fields.proofs.KindLemmas.{items_in-Array}
use Rattle.ps_fields.proofs.ShapeLemmas.{unknown_step}
use Rattle.ps_fields.proofs.unknown.+unknown.Goals as goal

pub least_unknown-loop-name-init : goal.least_unknown-loop-name-init
least_unknown-loop-name-init t c =
    let some : 0 < c.args.deep = search rules in
    let all : c.into_iter-name-iterator.result ≡ c.args.fields.now.entries = search rules in
    rw all (ap (fold lesser c.args.least) (sym (unknown_step c.args.deep c.args.object c.args.at.now (members_view c.args.fields.now.entries) some)))

pub with_field-returns-in_ok-list-in-Some-Items-Array : goal.with_field-returns-in_ok-list-in-Some-Items-Array
with_field-returns-in_ok-list-in-Some-Items-Array t c =
    let list = c.args.at.now ++ c.args.name.now in
    let paths = unknown_paths c.args.deep in
    let inner = c.in-Some-Items-Array.inner in
    let field : List ℕ × Data = (c.args.name.now, view c.args.value.now) in
    let kind : c.args.kind ≡ Some (Items inner) = search rules in
    let path : c.as_str-in-Some-Items-Array.result.now ≡ list = search rules in
    let items : items_in (view c.args.value.now) ≡ Some (map view c.as_slice.result.now) =
    ap (λ v. items_in (view v)) c.in-Some-Items-Array.is-1 ∙ (items_in-Array c.in-Some-Items-Array.items ∙ ap (λ vs. Some (map view vs)) (sym c.as_slice.ensures.value)) in
    let same : unknown_at paths c.args.at.now c.args.kind field ≡ unknown_in_items paths inner c.as_str-in-Some-Items-Array.result.now (map view c.as_slice.result.now) =
    ap (λ kind. unknown_at paths c.args.at.now kind field) kind
    ∙ (ap (λ items. unknown_in_items paths inner list (unwrap_or items [])) items ∙ ap (λ l. unknown_in_items paths inner l (map view c.as_slice.result.now)) (sym path)) in
    IfOk-weaker c.with_items.result _ _ (λ least is. is ∙ ap (fold lesser c.args.least) (sym same)) c.with_items.ensures
