use Rattle.std.proofs.Common.{◌≡◌, length, map, sym, arith, List, ℕ, Bor}
use Rattle.std.proofs.lemmas.List.{length-map}
use Rattle.ps_names.proofs.PartLemmas.{parts-few, parts-many}
use Rattle.ps_names.proofs.grammar.is_parts_of.Goals as goal

pub returns-in_default : goal.returns-in_default
returns-in_default c =
    let texts = map (λ (part : Bor (List ℕ)). part.now) c.args.parts.now in
    let same : length texts ≡ length c.args.parts.now = length-map c.args.parts.now _ in
    sym (parts-few c.args.kind.now texts (omega (arith, c.in_default.len_below)))

pub returns-in_default-2 : goal.returns-in_default-2
returns-in_default-2 c =
    let texts = map (λ (part : Bor (List ℕ)). part.now) c.args.parts.now in
    let same : length texts ≡ length c.args.parts.now = length-map c.args.parts.now _ in
    sym (parts-many c.args.kind.now texts (omega (arith, c.in_default.len_at_least)))
