use Rattle.std.proofs.Common.{◌≡◌, ◌++◌, List, ℕ, Err, subst, ap, ◌∙◌}
use Rattle.ps_http.specs.declared.starts.Start.{Start}
use Rattle.ps_http.specs.Exchanges.{Rest, PausesWith}
use Rattle.ps_http.specs.Reading.{Reads}
use Rattle.ps_http.proofs.ExchangeLemmas.{exchanges_after, head_paused}
use Rattle.ps_http.proofs.exchange.next.Goals as goal

pub returns-in-Ok-Read : goal.returns-in-Ok-Read
returns-in-Ok-Read g c =
    let same : c.kept.inside.bytes.items ≡ c.args.kept.now.bytes = ap (λ (r : Rest). r.bytes) c.kept.view_is in
    let grew = c.in-Ok-Read.ensures.reads in
    let mid : Rest = record { bytes = c.read_start.new.bytes.items; continued = c.kept.inside.continued } in
    exchanges_after g.L.Link c.args.link.now c.read_start.new.link c.read_rest.new.link c.args.kept.now mid c.read_rest.new.kept grew.0 c.read_rest.result grew.2
    (grew.1 ∙ ap (λ (b : List ℕ). b ++ grew.0) same) (ap (λ (r : Rest). r.continued) c.kept.view_is) c.read_rest.ensures

pub returns-in-Err : goal.returns-in-Err
returns-in-Err g c =
    let same : c.kept.inside.bytes.items ≡ c.args.kept.now.bytes = ap (λ (r : Rest). r.bytes) c.kept.view_is in
    let buffer = c.read_start.new.bytes.items in
    let rest : Rest = record { bytes = buffer; continued = c.kept.inside.continued } in
    let reads = subst (λ (b : List ℕ). Reads g.L.Link {T = Start} c.args.link.now c.read_start.new.link b buffer (Err c.in-Err.pause)) same c.in-Err.ensures.reads in
    let answers = subst (λ (b : List ℕ). PausesWith b c.in-Err.pause c.paused.result) c.as_slice.ensures.value c.paused.ensures in
    head_paused g.L.Link c.args.link.now c.read_start.new.link c.args.kept.now rest c.in-Err.pause c.paused.result
    reads c.in-Err.ensures.waits c.in-Err.ensures.paused (ap (λ (r : Rest). r.continued) c.kept.view_is) answers
