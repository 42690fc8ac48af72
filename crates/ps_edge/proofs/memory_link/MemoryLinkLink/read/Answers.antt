use Rattle.std.proofs.Common.{arith, ap, sym, subst, ◌∙◌, ◌≡◌, ◌<◌, ◌≤◌, ℕ, List, Some, take, length}
use Rattle.ps_edge.specs.declared.link.LinkGot.{LinkGot}
use Rattle.ps_edge.specs.Links.{TakesPart}
use Rattle.ps_edge.specs.MemoryLinks.{Connection}
use Rattle.ps_edge.specs.Pieces.{Stream, joined, front, cut, drop_empty}
use Rattle.ps_edge.proofs.LinkLemmas.{takes-bytes, takes-none}
use Rattle.ps_edge.proofs.memory_link.MemoryLinkLink.read.Goals.{then-count-eq0, else-count-eq0}
use Rattle.ps_edge.proofs.memory_link.MemoryLinkLink.read.Goals as goal

pub returns-clause-bytes : goal.returns-clause-bytes
returns-clause-bytes c =
    let n = c.read-count.result in
    let was = c.args.self.now.input.pieces in
    let now = c.read-count.new.self.pieces in
    let room = c.read-count.new.room in
    let same : c.self.inside.input.pieces ≡ was = ap (λ (s : Connection). s.input.pieces) c.self.view_is in
    let moved : now ≡ cut n (drop_empty was) = ap (λ (s : Stream). s.pieces) c.read-count.ensures.moved ∙ ap (λ (p : List (List ℕ)). cut n (drop_empty p)) same in
    let first : take n room ≡ take n (front (drop_empty was)) = c.read-count.ensures.bytes ∙ ap (λ (p : List (List ℕ)). take n (front (drop_empty p))) same in
    let size : length (front (drop_empty c.self.inside.input.pieces)) ≡ length (front (drop_empty was)) = ap (λ (p : List (List ℕ)). length (front (drop_empty p))) same in
    let fits : n ≤ length (front (drop_empty was)) = omega (arith, size, c.read-count.ensures.count) in
    let within : n ≤ length room = omega (arith, c.read-count.ensures.count, c.read-count.ensures.room) in
    elim c.if-count-eq0.branch [
      | then-count-eq0 w ↦
          let none : length (front (drop_empty was)) ≡ 0 = grind (arith, size, c.read-count.ensures.count, w.if-count-eq0.true, c.requires) in
          subst (λ (g : LinkGot). TakesPart (Some (joined was)) (Some (joined now)) room g) (sym w.result-is) (takes-none was now room n moved none (grind (arith, w.if-count-eq0.true)))
      | else-count-eq0 w ↦
          let some : 0 < n = grind (arith, w.if-count-eq0.false) in
          subst (λ (g : LinkGot). TakesPart (Some (joined was)) (Some (joined now)) room g) (sym w.result-is) (takes-bytes was now room n moved fits within first some)
    ]
