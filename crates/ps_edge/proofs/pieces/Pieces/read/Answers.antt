use Rattle.std.proofs.Common.{arith, ap, ap₂, sym, ◌∙◌, ◌≡◌, ◌<◌, ◌≤◌, ◌+◌, ◌++◌, ℕ, List, take, length, drop}
use Rattle.std.proofs.lemmas.Grind.{common_steps}
use Rattle.ps_edge.specs.Pieces.{Stream, drop_empty, cut, front, advanced}
use Rattle.ps_edge.proofs.PieceLemmas.{front-at, front-cut, cut-more, past-more, same_stream}
use Rattle.ps_edge.proofs.pieces.Pieces.read.Goals as goal

below : (c : goal.After-self-1) → c.self.inside.at < length c.self.inside.items
below c = grind (arith, common_steps)

left : (c : goal.After-self-1) → cut c.self.inside.taken (drop c.self.inside.at c.self.inside.items) ≡ drop_empty c.args.self.now.pieces
left c = ap (λ (s : Stream). s.pieces) c.self.view_is ∙ c.skip_empty.ensures.pieces

rest : (c : goal.After-self-1) → front (drop_empty c.args.self.now.pieces) ≡ drop c.self.inside.taken c.index-as_slice-self.result
rest c =
    ap front (sym (left c))
    ∙ front-cut c.self.inside.items c.self.inside.at c.self.inside.taken c.index-as_slice-self.result (below c) (grind (arith, common_steps))

here : (c : goal.After-self-1) → front (drop c.self.inside.at c.self.inside.items) ≡ c.index-as_slice-self.result
here c = front-at c.self.inside.items c.self.inside.at c.index-as_slice-self.result (below c) (grind (arith, common_steps))

pub invariant_of-self : goal.invariant_of-self
invariant_of-self c =
    let fits : c.self.inside.taken + c.copy_front-count.result ≤ length c.index-as_slice-self.result = grind (arith, common_steps, c.self.invariant, here c) in
    grind (arith, here c, fits)

pub returns-clause-count : goal.returns-clause-count
returns-clause-count c = grind (arith, common_steps, rest c)

pub returns-clause-moved : goal.returns-clause-moved
returns-clause-moved c =
    let n = c.copy_front-count.result in
    let items = c.self.inside.items in
    let at = c.self.inside.at in
    let taken = c.self.inside.taken in
    let past = ap (λ (s : Stream). s.past) c.self.view_is ∙ c.skip_empty.ensures.past in
    let more : take n (drop taken (front (drop at items))) ≡ take n (front (drop_empty c.args.self.now.pieces)) =
    ap (λ (l : List ℕ). take n (drop taken l)) (here c) ∙ ap (take n) (sym (rest c)) in
    same_stream _ (advanced c.args.self.now n)
    (past-more items at taken n ∙ ap₂ (λ (a b : List ℕ). a ++ b) past more)
    (cut-more (drop at items) taken n ∙ ap (cut n) (left c))

pub returns-clause-bytes : goal.returns-clause-bytes
returns-clause-bytes c = grind (arith, common_steps, rest c)
