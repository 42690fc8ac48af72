-- What INSERT does.
use Rattle.std.proofs.Common.{◌≡◌, ◌⊎◌, inl, inr, ℕ, pos, List, [], ◌∷◌, Bool, true, false, cond, None, Ok, Err, Result, Option, refl, ap, subst, ◌∙◌}
use Rattle.sqlite.specs.declared.types.Value.{Value}
use Rattle.sqlite.specs.declared.types.Value.TheVariants.{Null, Int, Blob as Bytes}
use Rattle.sqlite.specs.Ops.{unary}
use Rattle.sqlite.specs.Kind.TheVariants.{Integer}
use Rattle.sqlite.specs.Source.TheVariants.{Values}
use Rattle.sqlite.specs.Command.TheVariants.{Insert}
use Rattle.sqlite.specs.Edit.{edit_of, edited}
use Rattle.sqlite.specs.Cast.{cast}
use Rattle.sqlite.specs.Rowids.TheVariants.{Chosen}
use Rattle.sqlite.specs.Does.{Tally, Does}
use Rattle.sqlite.specs.Rows.{Written}
use Rattle.sqlite.specs.Tree.{Trees, put_row}
use Rattle.sqlite.specs.declared.run.Mode.{Mode}
use Rattle.sqlite.specs.Effect.{Database}
use Rattle.sqlite.proofs.Callers.{one_step}
use Rattle.ps_sqlkeep.specs.Entries.{entries, entries_schema}
use Rattle.ps_sqlkeep.specs.Kept.{row_of}
use Rattle.ps_sqlkeep.proofs.Texts.{given}

either : (b : Bool) (x : Value) → cond b x x ≡ x
either true x = refl
either false x = refl

cast_null : cast Integer Null ≡ Null
unfolding unary
cast_null = either _ Null

cast_int : (n : ℕ) → cast Integer (Int (pos n)) ≡ Int (pos n)
unfolding unary
cast_int n = either _ (Int (pos n))

-- a part that gave a value did not stop on the way
pub went : {B E R : Type 0} {b : B} {Stops : E → Type 0} → ((stop : E) × Stops stop × (Ok b ≡ Err stop)) ⊎ R → R
went (inl stopped) = absurd (let e = stopped.2 in cc)
went (inr on) = on

pub same_value : {B E : Type 0} {a b : B} → ◌≡◌ {A = Result B E} (Ok a) (Ok b) → a ≡ b
same_value e = cc

-- the table has the row in its place
pub inserts : (limit : Option ℕ) (mode : Mode) (db after : Database) (tally : Tally) (text : List ℕ) (n : ℕ) (body : List ℕ) → db.schema ≡ entries_schema
    → Does limit mode (Int (pos n) ∷ Bytes body ∷ []) db text None (Insert 0 (Values given 3)) (Ok (tally, after))
    → (after.schema ≡ entries_schema) × (after.trees 0 ≡ put_row (row_of n (Bytes body)) (db.trees 0))
inserts limit mode db after tally text n body has does =
    let params = Int (pos n) ∷ Bytes body ∷ [] in
    let command = Insert 0 (Values given 3) in
    let done = went (subst (λ s. Does limit mode params (record db { schema = s }) text None command (Ok (tally, after))) has does) in
    let now = ap (λ (p : Tally × Database). p.1) (same_value (went (went done.2).2).2) in
    let source = went done.1 in
    let written = went (went source.2).2 in
    let counted = went written.2 in
    let trees : done.0.trees ≡ written.0 = ap (λ (it : Written). it.trees) (same_value counted.2) ∙ same_value counted.1 in
    let rows = (one_step entries_schema _ db.trees written.0 (edit_of db.trees entries [] Chosen 0 source.0) refl written.1).rows in
    let edit : edited db.trees (edit_of db.trees entries [] Chosen 0 source.0) ≡ put_row (row_of n (Bytes body)) (db.trees 0) =
    ap (λ all. edited db.trees (edit_of db.trees entries [] Chosen 0 all)) source.1.1 ∙ rw (cast_null, cast_int n) in
    (ap (λ (d : Database). d.schema) now, ap (λ (d : Database). d.trees 0) now ∙ ap (λ (t : Trees). t 0) trees ∙ rows ∙ edit)
