-- Rows in order, with as many numbers as they may have, are numbered without a gap.
use Rattle.std.proofs.Common.{◌≡◌, ◌≤◌, ◌&&◌, ℕ, ◌+◌, pos, List, [], ◌∷◌, length, Bool, true, false, IsTrue, refl, sym, ap, subst, ◌∙◌, arith}
use Rattle.std.specs.List.{AllByRecursion}
use Rattle.std.proofs.lemmas.Int.{ints}
use Rattle.std.proofs.lemmas.Bool.Decides.{nat_tests}
use Rattle.std.specs.declared.cmp.Ordering.TheVariants.{Less}
use Rattle.sqlite.specs.declared.types.Value.{Value}
use Rattle.sqlite.specs.declared.types.Value.TheVariants.{Null, Int, Real, Text, Blob}
use Rattle.sqlite.specs.Order.{Row, column, value_cmp}
use Rattle.sqlite.specs.Tree.{Trees, rowid, IsTable}
use Rattle.sqlite_value.proofs.OrderLemmas.{value_cmp-Int}
use Rattle.sqlite_trees.specs.View.{View, IsShaped, is_int}
use Rattle.sqlite_trees.specs.Objects.{catalog_tree}
use Rattle.sqlite_trees.specs.declared.store.Shape.TheVariants.{Table as TableShape}
use Rattle.sqlite_schema.specs.declared.schema.Constraint.TheVariants.{Datatype, NotNull}
use Rattle.sqlite_schema.specs.Rules.{passes}
use Rattle.sqlite_sql.specs.Ops.{is_null}
use Rattle.sqlite_schema.specs.declared.schema.Schema.{Schema}
use Rattle.sqlite_catalog.proofs.LayoutLemmas.{laid_out}
use Rattle.sqlite_catalog.specs.Listing.{IsSound}
use Rattle.ps_sqlkeep.specs.Entries.{entries, entries_schema}
use Rattle.ps_sqlkeep.specs.Kept.{row_of, rows_from, stored}
use Rattle.ps_sqlkeep.specs.Orders.{IsInOrder}
use Rattle.ps_sqlkeep.specs.Summary.{IsEntry, IsTableOfEntries}

never : (a b : Bool) → ¬ ((a && false) && b ≡ true)
never true b h = absurd (cc)
never false b h = absurd (cc)

-- the rules of the table give each row this form
entry_of : (db : Trees) (row : Row) → IsTrue (is_int (rowid row)) → passes Datatype entries_schema db entries row ≡ true → passes NotNull entries_schema db entries row ≡ true → IsEntry row
entry_of db [] int typed present = absurd (cc)
entry_of db (Null ∷ rest) int typed present = absurd (cc)
entry_of db (Real x ∷ rest) int typed present = absurd (cc)
entry_of db (Text t ∷ rest) int typed present = absurd (cc)
entry_of db (Blob b ∷ rest) int typed present = absurd (cc)
entry_of db (Int z ∷ []) int typed present = absurd (cc)
entry_of db (Int z ∷ s ∷ []) int typed present = absurd (cc)
entry_of db (Int z ∷ Null ∷ b ∷ []) int typed present = record { number = z; body = b; is = refl }
entry_of db (Int z ∷ Int n ∷ b ∷ []) int typed present = absurd (cc)
entry_of db (Int z ∷ Real x ∷ b ∷ []) int typed present = absurd (cc)
entry_of db (Int z ∷ Text t ∷ b ∷ []) int typed present = absurd (cc)
entry_of db (Int z ∷ Blob x ∷ b ∷ []) int typed present = absurd (cc)
entry_of db (Int z ∷ s ∷ b ∷ c ∷ more) int typed present = absurd (never (is_null s) _ typed)

entries_of : (db : Trees) (rows : List Row) → AllByRecursion (λ r. IsTrue (is_int (rowid r))) rows → AllByRecursion (λ r. passes Datatype entries_schema db entries r ≡ true) rows
    → AllByRecursion (λ r. passes NotNull entries_schema db entries r ≡ true) rows → AllByRecursion IsEntry rows
entries_of db [] ints typed present = tt
entries_of db (r ∷ rows) ints typed present = (entry_of db r ints.0 typed.0 present.0, entries_of db rows ints.1 typed.1 present.1)

-- the table of a store that is in order
pub table_of_entries : (v : View) (schema : Schema) → IsInOrder v → IsSound schema v.committed → schema ≡ entries_schema → IsTableOfEntries (v.committed 0)
table_of_entries v schema order sound is =
    let listed = subst (λ s. IsSound s v.committed) is sound in
    let objects = subst (λ s. IsShaped s (v.committed catalog_tree)) order.listed.itself.0 (order.ordered catalog_tree) in
    let shape : v.committed_shape 0 ≡ TableShape = (laid_out order.listed objects listed.lists.listed).tables.0 in
    let shaped = subst (λ s. IsShaped s (v.committed 0)) shape (order.ordered 0) in
    record { rising = shaped.0; each = entries_of v.committed (v.committed 0) shaped.1 (listed.obeys.rules Datatype).0 (listed.obeys.rules NotNull).0 }

-- a row whose number lies between these
pub record IsWithin (low high : ℕ) (row : Row) : Type 0 where
  pub number : ℕ
  pub body : Value
  pub is : row ≡ row_of number body
  pub above : low ≤ number
  pub below : number ≤ high

later : (n high : ℕ) (body : Value) (rows : List Row) → AllByRecursion (λ r. value_cmp (rowid (row_of n body)) (rowid r) ≡ Less) rows → (low : ℕ) → AllByRecursion (IsWithin low high) rows → AllByRecursion (IsWithin (n + 1) high) rows
later n high body [] up low all = tt
later n high body (r ∷ rows) up low all =
    let it = all.0 in
    let less = subst (λ (x : Row). value_cmp (Int (pos n)) (rowid x) ≡ Less) it.is up.0 in
    let above : n + 1 ≤ it.number = let e = sym (value_cmp-Int (pos n) (pos it.number)) ∙ less in grind (arith, ints, nat_tests) in
    (record { number = it.number; body = it.body; is = it.is; above = above; below = it.below }, later n high body rows up.1 low all.1)

-- so many rows fit between these numbers, and if there are as many they are numbered without a gap
pub runs : (low high : ℕ) (rows : List Row) → low ≤ high + 1 → IsTable rows → AllByRecursion (IsWithin low high) rows
    → (length rows + low ≤ high + 1) × (length rows + low ≡ high + 1 → rows ≡ rows_from low (stored rows))
runs low high [] room up all = (omega (arith, room), λ e. refl)
runs low high (r ∷ rows) room up all =
    let it = all.0 in
    let n = it.number in
    let up_is = subst (λ (x : Row). AllByRecursion (λ b. value_cmp (rowid x) (rowid b) ≡ Less) rows) it.is up.0 in
    let rest = runs (n + 1) high rows (omega (arith, it.below)) up.1 (later n high it.body rows up_is low all.1) in
    let most = rest.0 in (
      omega (arith, most, it.above),
      λ e.
          let same : n ≡ low = omega (arith, e, most, it.above) in
          let tail : rows ≡ rows_from (n + 1) (stored rows) = rest.1 (omega (arith, e, same)) in
          let head : r ≡ row_of low (column r 2) = it.is ∙ ap (λ k. row_of k it.body) same ∙ ap (row_of low) (sym (ap (λ (x : Row). column x 2) it.is)) in
          ap (λ (x : Row). x ∷ rows) head ∙ ap (λ xs. row_of low (column r 2) ∷ xs) (tail ∙ ap (λ k. rows_from (k + 1) (stored rows)) same),
    )
