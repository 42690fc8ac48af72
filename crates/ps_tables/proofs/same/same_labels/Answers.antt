use Rattle.std.proofs.Common.{◌≡◌, Bool, false, ◌&&◌, nat_eq, length, sym, ap, ◌∙◌, arith}
use Rattle.std.specs.List.{list_all, zip}
use Rattle.std.specs.Str.{bytes_eq}
use Rattle.ps_model.specs.Same.{same_pair}
use Rattle.ps_tables.proofs.comparing.Same.{labels_together}
use Rattle.ps_tables.proofs.same.same_labels.Goals as goal

pub returns-else-one-other : goal.returns-else-one-other
returns-else-one-other c =
    let xs = c.args.one.now in
    let ys = c.args.other.now in
    let lengths : nat_eq (length c.as_slice-one.result.now) (length c.as_slice-other.result.now) ≡ nat_eq (length xs) (length ys) =
    λ i. nat_eq (length (c.as_slice-one.ensures.value i)) (length (c.as_slice-other.ensures.value i)) in
    let differs : nat_eq (length c.as_slice-one.result.now) (length c.as_slice-other.result.now) ≡ false = grind (arith, c.if-one-other.false) in
    differs ∙ sym (labels_together xs ys ∙ ap (λ (b : Bool). b && list_all (λ p. same_pair bytes_eq bytes_eq p.0 p.1) (zip xs ys)) (sym lengths ∙ differs))
