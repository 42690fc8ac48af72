use Rattle.std.proofs.Common.{List, ℕ, ◌≡◌, ◌+◌, ◌∷◌, [], ◌++◌, pos, ◌+ℤ◌, length, map, take, sym, ap, subst, ◌∙◌, w64, to_z, of_z, arith, length-take-le}
use Rattle.std.proofs.lemmas.List.{length-map, map_more}
use Rattle.std.proofs.lemmas.Int.{ints, to_z-of_z}
use Rattle.sqlite.specs.declared.types.Value.{Value}
use Rattle.sqlite.specs.declared.types.Value.TheVariants.{Blob}
use Rattle.sqlite.specs.State.{HasCleanDisk}
use Rattle.sqlite.specs.Held.{state}
use Rattle.sqlite.proofs.StateLemmas.{survives_then}
use Rattle.ps_sqlkeep.specs.Filling.{IsFilling}
use Rattle.ps_sqlkeep.proofs.Replace.{keeps_then}
use Rattle.ps_sqlkeep.proofs.replacing.fill.Goals as goal

pub rows-preserved : goal.rows-preserved
rows-preserved g c =
    let old = state g.S.Store c.args.tx.now.conn.now in
    let mid = state g.S.Store c.rows.tx.conn.now in
    let new = state g.S.Store c.put.new.tx.conn.now in
    let i = c.rows.row-index in
    let low = c.rows-test.true in
    let was = c.rows.invariant in
    let it = c.in-Ok.ensures in
    let number : to_z w64 (of_z w64 (to_z w64 c.rows.seq-bits +ℤ pos 1)) ≡ pos (i + 1) = grind (arith, ints, to_z-of_z, was.number) in
    let body = c.as_slice.ensures ∙ c.row-item.is in
    let done = map Blob (take i c.args.rows.now) in
    let len : 1 + length done ≡ i + 1 = omega (arith, length-map (take i c.args.rows.now) Blob, length-take-le i c.args.rows.now (omega (arith, low))) in
    record {
      same = it.same_reference ∙ was.same;
      survives = survives_then old mid new _ _ (λ _. ⊥) (λ _ db none. none) (λ _ db none. none) was.survives it.survives;
      kept = λ clean. keeps_then old mid new (was.kept (omega (arith, it.survives.clean))) (it.kept clean);
      number = number;
      filling = λ clean committed start.
          let early : HasCleanDisk mid = omega (arith, it.survives.clean) in
          let one = it.ok clean committed done (was.filling early committed start) (number ∙ ap pos (sym len)) in
          subst (λ (xs : List Value). IsFilling new committed xs) (ap (λ (b : List ℕ). done ++ Blob b ∷ []) body ∙ sym (map_more Blob c.args.rows.now i c.row-item.result low)) one;
    }
