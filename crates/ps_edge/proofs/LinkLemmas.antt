-- What a read of pieces does to all bytes that are left.
use Rattle.std.proofs.Common.{◌≡◌, ◌<◌, ◌≤◌, ℕ, List, Some, length, take, drop, sym, ap, ◌∙◌, arith}
use Rattle.ps_edge.specs.declared.link.LinkGot.TheVariants.{Bytes, End}
use Rattle.ps_edge.specs.Links.{TakesPart}
use Rattle.ps_edge.specs.Pieces.{joined, front, cut, drop_empty}
use Rattle.ps_edge.proofs.PieceLemmas.{joined-drop_empty, none-left, joined-cut, take-front, front-fits}

-- some bytes of the next piece are taken
pub takes-bytes : (was now : List (List ℕ)) (room : List ℕ) (n : ℕ) → now ≡ cut n (drop_empty was) → n ≤ length (front (drop_empty was)) → n ≤ length room → take n room ≡ take n (front (drop_empty was)) → 0 < n → TakesPart (Some (joined was)) (Some (joined now)) room (Bytes n)
takes-bytes was now room n is fits within bytes some =
    let same = joined-drop_empty was in
    let size : n ≤ length (joined was) = omega (arith, front-fits (drop_empty was), ap length same) in
    let left : joined now ≡ drop n (joined was) = ap joined is ∙ joined-cut (drop_empty was) n fits ∙ ap (drop n) same in
    let first : take n room ≡ take n (joined was) = bytes ∙ sym (take-front (drop_empty was) n fits) ∙ ap (take n) same in
    (some, within, (size, ap Some left, first))

-- no piece with bytes is left
pub takes-none : (was now : List (List ℕ)) (room : List ℕ) (n : ℕ) → now ≡ cut n (drop_empty was) → length (front (drop_empty was)) ≡ 0 → n ≡ 0 → TakesPart (Some (joined was)) (Some (joined now)) room End
takes-none was now room n is none zero =
    let fits : n ≤ length (front (drop_empty was)) = omega (arith, zero) in
    let same = joined-drop_empty was in
    let left : joined now ≡ joined was = ap joined is ∙ joined-cut (drop_empty was) n fits ∙ ap (λ (k : ℕ). drop k (joined (drop_empty was))) zero ∙ same in
    (ap Some left, none-left was none)
