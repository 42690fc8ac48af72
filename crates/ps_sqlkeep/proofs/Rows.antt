-- The rows of a log.
use Rattle.std.proofs.Common.{◌≡◌, ◌<◌, ℕ, ◌+◌, pos, List, [], ◌∷◌, ◌++◌, length, refl, ap, ◌∙◌, arith}
use Rattle.std.specs.declared.cmp.Ordering.TheVariants.{Less}
use Rattle.std.specs.Ordering.{match_ordering}
use Rattle.std.proofs.lemmas.Int.{ints}
use Rattle.std.proofs.lemmas.Bool.Decides.{nat_tests}
use Rattle.sqlite.specs.declared.types.Value.{Value}
use Rattle.sqlite.specs.declared.types.Value.TheVariants.{Int}
use Rattle.sqlite.specs.Order.{value_cmp}
use Rattle.sqlite.specs.Tree.{put_row}
use Rattle.sqlite_value.proofs.OrderLemmas.{value_cmp-Int}
use Rattle.ps_sqlkeep.specs.Kept.{row_of, rows_from, stored}

pub lower_id : (m n : ℕ) → m < n → value_cmp (Int (pos m)) (Int (pos n)) ≡ Less
lower_id m n h = value_cmp-Int (pos m) (pos n) ∙ grind (arith, ints, nat_tests)

-- the row with the next number comes last
pub put-last : (from : ℕ) (values : List Value) (n : ℕ) (body : Value) → n ≡ from + length values → put_row (row_of n body) (rows_from from values) ≡ rows_from from (values ++ body ∷ [])
put-last from [] n body e = let same : n ≡ from = omega (arith, e) in ap (λ k. row_of k body ∷ []) same
put-last from (b ∷ bs) n body e =
    let low : from < n = omega (arith, e) in
    let rest = put-last (from + 1) bs n body (omega (arith, e)) in
    ap (λ o. match_ordering o (row_of from b ∷ put_row (row_of n body) (rows_from (from + 1) bs)) (row_of n body ∷ rows_from (from + 1) bs) (row_of n body ∷ row_of from b ∷ rows_from (from + 1) bs)) (lower_id from n low)
    ∙ ap (λ rows. row_of from b ∷ rows) rest

pub stored-rows : (from : ℕ) (values : List Value) → stored (rows_from from values) ≡ values
stored-rows from [] = refl
stored-rows from (b ∷ bs) = ap (λ values. b ∷ values) (stored-rows (from + 1) bs)

pub length-rows : (from : ℕ) (values : List Value) → length (rows_from from values) ≡ length values
length-rows from [] = refl
length-rows from (b ∷ bs) = let e = length-rows (from + 1) bs in omega (arith, e)
