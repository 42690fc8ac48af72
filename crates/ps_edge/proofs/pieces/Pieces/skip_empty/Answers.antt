use Rattle.std.proofs.Common.{arith, ap, sym, ◌∙◌, ◌≡◌, ◌<◌, ◌+◌, ℕ, suc, length, drop, add-one}
use Rattle.std.proofs.lemmas.Grind.{common_steps}
use Rattle.ps_edge.specs.Pieces.{drop_empty, front, past_of}
use Rattle.ps_edge.proofs.PieceLemmas.{front-at, drop_empty-here, past-next, left-next, cut-none}
use Rattle.ps_edge.proofs.pieces.Pieces.skip_empty.Goals as goal

pub returns-then-len-self-clause-pieces : goal.returns-then-len-self-clause-pieces
returns-then-len-self-clause-pieces c =
    let items = c.loop-self.self-inside.items in
    let at = c.loop-self.self-inside.at in
    let taken = c.loop-self.self-inside.taken in
    let below : at < length items = grind (arith, common_steps) in
    let is = front-at items at c.index-as_slice-self.result below (grind (arith, common_steps)) in
    sym (drop_empty-here items at taken (grind (arith, common_steps, is))) ∙ c.loop-self.invariant.pieces

pub loop-self-preserved : goal.loop-self-preserved
loop-self-preserved c =
    let items = c.loop-self.self-inside.items in
    let at = c.loop-self.self-inside.at in
    let taken = c.loop-self.self-inside.taken in
    let below : at < length items = grind (arith, common_steps) in
    let is = front-at items at c.index-as_slice-self.result below (grind (arith, common_steps)) in
    let whole : length (front (drop at items)) ≡ taken = grind (arith, common_steps, is, c.loop-self.invariant.taken) in
    let next : at + 1 ≡ suc at = add-one at in
    record {
      past = ap (λ (k : ℕ). past_of k 0 items) next ∙ past-next items at taken below whole ∙ c.loop-self.invariant.past;
      pieces = ap drop_empty (cut-none (drop (at + 1) items)) ∙ ap (λ (k : ℕ). drop_empty (drop k items)) next ∙ left-next items at taken below whole ∙ c.loop-self.invariant.pieces;
      taken = omega arith;
    }
