-- What DELETE does.
use Rattle.std.proofs.Common.{◌||◌, ◌++◌, append_assoc, is_eq, inl, inr, ◌≡◌, ℕ, ◌+◌, ℤ, pos, List, [], ◌∷◌, map, Bool, true, false, None, Ok, Option, refl, sym, ap, subst, ◌∙◌, flat_map, IsPermutation}
use Rattle.std.specs.List.{AllByRecursion, list_any}
use Rattle.std.proofs.lemmas.Bool.{cases_Bool}
use Rattle.std.proofs.lemmas.Cmp.{tied_itself}
use Rattle.std.proofs.lemmas.List.Sorted.{list_any-IsPermutation, IsPermutation-map}
use Rattle.sqlite.specs.declared.types.Value.{Value}
use Rattle.sqlite.specs.declared.types.Value.TheVariants.{Int}
use Rattle.sqlite.specs.Order.{Row}
use Rattle.sqlite.specs.Term.{Env}
use Rattle.sqlite.specs.Command.TheVariants.{Delete}
use Rattle.sqlite.specs.Edit.{edit_of, without_all, id_in}
use Rattle.sqlite.specs.Rowids.TheVariants.{Given}
use Rattle.sqlite.specs.Does.{Tally, Does}
use Rattle.sqlite.specs.Rows.{Written}
use Rattle.sqlite.specs.Tree.{Trees, rowid, has_rowid, without_rowid}
use Rattle.sqlite.specs.declared.run.Mode.{Mode}
use Rattle.sqlite.specs.Effect.{Database}
use Rattle.sqlite.specs.Query.{Output, IsAnswer, output}
use Rattle.sqlite.specs.Program.{overlay}
use Rattle.sqlite_value.proofs.OrderLemmas.{value_cmp_total}
use Rattle.sqlite.proofs.Callers.{one_step}
use Rattle.ps_sqlkeep.specs.Entries.{entries, entries_schema}
use Rattle.ps_sqlkeep.specs.Kept.{row_of, rows_from}
use Rattle.ps_sqlkeep.proofs.Texts.{all_rows}
use Rattle.ps_sqlkeep.proofs.Insert.{went, same_value}

abbrev ids_of : List Row → List ℤ
ids_of = map (λ r. id_in (rowid r))

abbrev IsNamed : List ℤ → Row → Type 0
IsNamed ids r = list_any (λ id. has_rowid id r) ids ≡ true

-- rows that are each named are all taken out
left_named : (id : ℤ) (ids : List ℤ) (xs : List Row) → AllByRecursion (IsNamed (id ∷ ids)) xs → AllByRecursion (IsNamed ids) (without_rowid id xs)
left_named id ids [] all = tt
left_named id ids (x ∷ xs) all = elim (cases_Bool (has_rowid id x)) [
  | inl is ↦ rw is (left_named id ids xs all.1)
  | inr is ↦ rw is (rw is at all.0, left_named id ids xs all.1)
]

pub all_gone : (ids : List ℤ) (xs : List Row) → AllByRecursion (IsNamed ids) xs → without_all xs ids ≡ []
all_gone [] [] all = refl
all_gone [] (x ∷ xs) all = absurd (let e = all.0 in cc)
all_gone (id ∷ ids) xs all = all_gone ids (without_rowid id xs) (left_named id ids xs all)

module _ (params : Row) where
  abbrev env : Row → Env
  env r = params ∷ r ∷ []

  pub staged_is : (xs : List Row) → flat_map (λ r. env r ∷ []) xs ≡ map env xs
  staged_is [] = refl
  staged_is (x ∷ xs) = ap (λ rest. env x ∷ rest) (staged_is xs)

  abbrev out : Row → Output
  out r = ([], rowid r ∷ [])

  outs_are : (xs : List Row) → map (output all_rows) (map env xs) ≡ map out xs
  outs_are [] = refl
  outs_are (x ∷ xs) = ap (λ rest. out x ∷ rest) (outs_are xs)

  abbrev id_of : Output → ℤ
  id_of o = id_in (rowid o.1)

  ids_out : (xs : List Row) → map id_of (map out xs) ≡ map (λ r. id_in (rowid r)) xs
  ids_out [] = refl
  ids_out (x ∷ xs) = ap (λ rest. id_in (rowid x) ∷ rest) (ids_out xs)

  ids_shown : (os : List Output) → ids_of (map (λ (o : Output). o.1) os) ≡ map id_of os
  ids_shown [] = refl
  ids_shown (o ∷ os) = ap (λ rest. id_of o ∷ rest) (ids_shown os)

  -- the answer names the rows of the table, in some order
  named_by : (db : Trees) (rows : List Row) → IsAnswer all_rows (overlay db []) params rows → IsPermutation (map (λ r. id_in (rowid r)) (db 0)) (ids_of rows)
  named_by db rows a =
      let staged : a.staged ≡ map env (db 0) = a.grouped ∙ staged_is (db 0) in
      let kept : a.kept ≡ map out (db 0) = a.distinct ∙ ap (map (output all_rows)) staged ∙ outs_are (db 0) in
      let same = subst (λ k. IsPermutation k a.ordered) kept a.same in
      let ids = IsPermutation-map id_of _ _ same in
      let shown : ids_of rows ≡ map id_of a.ordered = ap ids_of a.shown ∙ ids_shown a.ordered in
      subst (λ k. IsPermutation (map (λ r. id_in (rowid r)) (db 0)) k) (sym shown) (subst (λ k. IsPermutation k (map id_of a.ordered)) (ids_out (db 0)) ids)

or_true : (b : Bool) → b || true ≡ true
or_true true = refl
or_true false = refl

any_here : (p : ℤ → Bool) (before rest : List ℤ) (k : ℤ) → p k ≡ true → list_any p (before ++ k ∷ rest) ≡ true
any_here p [] rest k h = rw h refl
any_here p (b ∷ bs) rest k h = rw (any_here p bs rest k h) (or_true (p b))

abbrev ids_from : ℕ → List Value → List ℤ
ids_from n values = map (λ r. id_in (rowid r)) (rows_from n values)

all_named : (before : List ℤ) (n : ℕ) (values : List Value) → AllByRecursion (IsNamed (before ++ ids_from n values)) (rows_from n values)
all_named before n [] = tt
all_named before n (b ∷ bs) =
    let own : has_rowid (pos n) (row_of n b) ≡ true = ap is_eq (tied_itself value_cmp_total (Int (pos n))) in (
      any_here (λ id. has_rowid id (row_of n b)) before (ids_from (n + 1) bs) (pos n) own,
      subst (λ ids. AllByRecursion (IsNamed ids) (rows_from (n + 1) bs)) (append_assoc before (pos n ∷ []) (ids_from (n + 1) bs)) (all_named (before ++ pos n ∷ []) (n + 1) bs),
    )

permuted : (one other : List ℤ) → IsPermutation one other → (xs : List Row) → AllByRecursion (IsNamed one) xs → AllByRecursion (IsNamed other) xs
permuted one other same [] all = tt
permuted one other same (x ∷ xs) all = (sym (list_any-IsPermutation (λ id. has_rowid id x) one other same) ∙ all.0, permuted one other same xs all.1)

-- the table is empty
pub deletes : (limit : Option ℕ) (mode : Mode) (db after : Database) (tally : Tally) (text : List ℕ) (values : List Value) → db.schema ≡ entries_schema → db.trees 0 ≡ rows_from 1 values
    → Does limit mode [] db text None (Delete 0 (record { lets = []; body = all_rows })) (Ok (tally, after)) → (after.schema ≡ entries_schema) × (after.trees 0 ≡ [])
deletes limit mode db after tally text values has rows does =
    let command = Delete 0 (record { lets = []; body = all_rows }) in
    let done = went (subst (λ s. Does limit mode [] (record db { schema = s }) text None command (Ok (tally, after))) has does) in
    let now = ap (λ (p : Tally × Database). p.1) (same_value (went (went done.2).2).2) in
    let source = went done.1 in
    let written = went source.2 in
    let trees : done.0.trees ≡ written.0 = ap (λ (it : Written). it.trees) (same_value written.2) in
    let edit = edit_of db.trees entries (ids_of source.0) Given 0 [] in
    let left = (one_step entries_schema _ db.trees written.0 edit refl written.1).rows in
    let same = named_by [] db.trees source.0 (source.1.answer Value.Null) in
    let all = permuted _ _ (subst (λ xs. IsPermutation (map (λ r. id_in (rowid r)) xs) (ids_of source.0)) rows same) (rows_from 1 values) (all_named [] 1 values) in
    let gone : without_all (db.trees 0) (ids_of source.0) ≡ [] = ap (λ xs. without_all xs (ids_of source.0)) rows ∙ all_gone (ids_of source.0) (rows_from 1 values) all in
    (ap (λ (d : Database). d.schema) now, ap (λ (d : Database). d.trees 0) now ∙ ap (λ (t : Trees). t 0) trees ∙ left ∙ gone)
