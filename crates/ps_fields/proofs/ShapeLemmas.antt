-- The rules of objects with listed fields, if their number isn't 0, and the first item of a list that passes a test.
use Rattle.std.proofs.Common.{◌≡◌, ℕ, suc, ◌+◌, ◌-◌, ◌<◌, List, [], ◌∷◌, map, Bool, cond, Some, refl, ap, sym, ◌∙◌, arith}
use Rattle.std.specs.List.{flat_map, position, position_from}
use Rattle.std.proofs.lemmas.Iterator.Adapters.{position_from-zero}
use Rattle.serde_json.specs.Data.{Members}
use Rattle.serde_json.specs.Find.{get_member}
use Rattle.ps_message.specs.Lists.{first_of}
use Rattle.ps_fields.specs.declared.rows.Object.{Object}
use Rattle.ps_fields.specs.Fields.{pairs_of}
use Rattle.ps_fields.specs.Rows.{kind_in, rows}
use Rattle.ps_fields.specs.Shapes.{first_wrong, wrong_field}
use Rattle.ps_fields.specs.Unknown.{unknown_at, unknown_paths}

deeper : {X : Type 0} (f : ℕ → X) (n : ℕ) → 0 < n → f n ≡ f (suc (n - 1))
deeper f n some = let e : n ≡ suc (n - 1) = omega arith in ap f e

pub wrong_step : (deep : ℕ) (table : Object) (at : List ℕ) (ms : Members) → 0 < deep
    → first_wrong deep table at ms ≡ first_of (map (λ row. wrong_field (first_wrong (deep - 1)) at row (get_member row.0 ms)) (rows table))
wrong_step deep table at ms some = deeper (λ n. first_wrong n table at ms) deep some

pub unknown_step : (deep : ℕ) (table : Object) (at : List ℕ) (ms : Members) → 0 < deep
    → unknown_paths deep table at ms ≡ flat_map (λ field. unknown_at (unknown_paths (deep - 1)) at (kind_in field.0 (rows table)) field) (pairs_of ms)
unknown_step deep table at ms some = deeper (λ n. unknown_paths n table at ms) deep some

position_from-map : {A B : Type 0} (test : B → Bool) (f : A → B) (from : ℕ) (xs : List A) → position_from test from (map f xs) ≡ position_from (λ x. test (f x)) from xs
position_from-map test f from [] = refl
position_from-map test f from (x ∷ xs) = ap (cond (test (f x)) (Some from)) (position_from-map test f (from + 1) xs)

pub position-map : {A B : Type 0} (test : B → Bool) (f : A → B) (xs : List A) → position test (map f xs) ≡ position (λ x. test (f x)) xs
position-map test f xs = position_from-zero test (map f xs) ∙ (position_from-map test f 0 xs ∙ sym (position_from-zero (λ x. test (f x)) xs))
