use Rattle.std.proofs.Common.{◌∙◌, ap, map, List, ℕ, Bor}
use Rattle.ps_names.specs.Parts.{is_parts_of}
use Rattle.ps_names.proofs.GrammarLemmas.{parts-are-name}
use Rattle.ps_names.proofs.names.is_name_of.Goals as goal

pub returns : goal.returns
returns c =
    c.is_parts_of.ensures ∙ ap (λ parts. is_parts_of c.args.kind.now (map (λ (part : Bor (List ℕ)). part.now) parts)) c.as_slice.ensures.value
    ∙ ap (is_parts_of c.args.kind.now) c.in_ok-parts.ensures ∙ parts-are-name c.args.kind.now c.args.text.now c.requires.plain
