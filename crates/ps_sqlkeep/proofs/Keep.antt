-- From a connection to its keeper.
use Rattle.std.proofs.Common.{zero, suc, List, [], ◌∷◌, map, take, drop, min, length-take, take_all, inl, inr, ◌≡◌, ◌<◌, ◌≤◌, ◌^◌, ◌+◌, ◌&&◌, ℕ, pos, length, Bool, true, false, Option, Result, Ok, Err, IsTrue, IfSome, refl, ap, ◌∙◌, arith, w64, to_z}
use Rattle.std.proofs.lemmas.Bool.{cases_Bool}
use Rattle.std.proofs.lemmas.List.{length-map}
use Rattle.std.proofs.lemmas.Int.{to_z_pos}
use Rattle.sqlite_trees.proofs.Doubt.{clean_of, no_doubt}
use Rattle.sqlite.specs.View.{doubt}
use Rattle.sqlite.specs.declared.types.Value.{Value}
use Rattle.sqlite.specs.Order.{Row as Shown, bytes, column}
use Rattle.sqlite.specs.State.{State, HasCleanDisk}
use Rattle.ps_keeper.specs.declared.keeper.Row.{Row}
use Rattle.ps_keeper.specs.Log.{Log, Changes, Keeps}
use Rattle.ps_keeper.specs.Rows.{numbered_from, page}
use Rattle.ps_sqlkeep.specs.Kept.{bodies, stored, log_of, IsNext, shown_from}
use Rattle.ps_sqlkeep.specs.Shown.{log_row}
use Rattle.ps_sqlkeep.proofs.Append.{log_open, log_shut}

pub both_of : (a b : Bool) → IsTrue (a && b) → IsTrue a × IsTrue b
both_of true true h = (refl, refl)
both_of true false h = absurd cc
both_of false b h = absurd cc

pub both : (a b : Bool) → IsTrue a → IsTrue b → IsTrue (a && b)
both a b p q = rw (p, q) refl

-- what a keeper whose log is known knows of its connection, and that it was known before
pub record Known (holds_log : Bool) (old new : State) : Type 0 where
  pub kept : IsTrue holds_log
  pub clean : HasCleanDisk new
  pub was_clean : HasCleanDisk old
  pub was : IsTrue (holds_log && old.is_clean)

pub known_before : (holds_log : Bool) (old new : State) → doubt old.is_clean ≤ doubt new.is_clean → IsTrue (holds_log && new.is_clean) → Known holds_log old new
known_before holds_log old new falls h =
    let parts = both_of holds_log new.is_clean h in
    let clean = no_doubt new.is_clean parts.1 in
    let was_clean : HasCleanDisk old = omega (arith, falls, clean) in
    record { kept = parts.0; clean = clean; was_clean = was_clean; was = both holds_log old.is_clean parts.0 (clean_of old.is_clean was_clean) }

pub next_is : (holds_log : Bool) (s : State) (seq : ℕ) → IsTrue holds_log → seq ≤ 2 ^ 62 → (IsTrue (holds_log && s.is_clean) → IfSome (log_of s) (λ was. seq ≡ length was + 1)) → IsNext s (to_z w64 seq)
next_is holds_log s seq kept low next clean live =
    let is = rw (log_open s live) at (next (both holds_log s.is_clean kept (clean_of s.is_clean clean))) in
    let small : seq < 2 ^ 63 = omega (arith, low) in
    let same : length (bodies (s.now.trees 0)) ≡ length (s.now.trees 0) = length-map (stored (s.now.trees 0)) bytes ∙ length-map (s.now.trees 0) (λ r. column r 2) in
    let one : seq ≡ 1 + length (s.now.trees 0) = omega (arith, is, same) in
    to_z_pos w64 seq small ∙ ap pos one

-- the same change under the keeper's own answer
pub as_ok : {T U E F : Type 0} (change : Log → Log) (was now : Option Log) (before after : Log → Type 0) (x : T) (y : U)
    → Changes {T = T} {E = E} change was now before after (Ok x) → Changes {T = U} {E = F} change was now before after (Ok y)
as_ok change was now before after x y h = record { ok = h.ok; err = tt; crash = h.crash }

pub as_err : {T U E F : Type 0} (change : Log → Log) (was now : Option Log) (before after : Log → Type 0) (x : E) (y : F)
    → Changes {T = T} {E = E} change was now before after (Err x) → Changes {T = U} {E = F} change was now before after (Err y)
as_err change was now before after x y h = record { ok = tt; err = h.err; crash = h.crash }

pub reads_ok : {T U E F : Type 0} (was now : Option Log) (before after : Log → Type 0) (x : T) (y : U)
    → Keeps {T = T} {E = E} was now before after (Ok x) → Keeps {T = U} {E = F} was now before after (Ok y)
reads_ok was now before after x y h = record { same = h.same; ok = h.ok; readable = h.readable; crash = h.crash }

pub reads_err : {T U E F : Type 0} (was now : Option Log) (before after : Log → Type 0) (r : Result T E) (y : F)
    → Keeps {T = T} {E = E} was now before after r → Keeps {T = U} {E = F} was now before after (Err y)
reads_err was now before after r y h = record { same = h.same; ok = tt; readable = tt; crash = h.crash }

kept_shown : (n : ℕ) (values : List Value) → map log_row (shown_from n values) ≡ numbered_from n (map bytes values)
kept_shown n [] = refl
kept_shown n (b ∷ bs) = ap (λ rest. (record { seq = n; body = bytes b }) ∷ rest) (kept_shown (n + 1) bs)

length-shown : (n : ℕ) (values : List Value) → length (shown_from n values) ≡ length values
length-shown n [] = refl
length-shown n (b ∷ bs) = let e = length-shown (n + 1) bs in omega (arith, e)

-- the bodies of a part of the values
part_is : (after most : ℕ) (values : List Value) → map bytes (take most (drop after values)) ≡ take most (drop after (map bytes values))
part_is zero zero values = refl
part_is zero (suc most) [] = refl
part_is zero (suc most) (v ∷ values) = ap (λ rest. bytes v ∷ rest) (part_is zero most values)
part_is (suc after) zero [] = refl
part_is (suc after) (suc most) [] = refl
part_is (suc after) most (v ∷ values) = part_is after most values

kept_page : (after most : ℕ) (values : List Value) (rows : List Shown) → rows ≡ shown_from (after + 1) (take most (drop after values)) → map log_row (take (min (length rows) most) rows) ≡ page after most (map bytes values)
kept_page after most values rows is =
    let part = take most (drop after values) in
    let len : length rows ≡ length part = ap length is ∙ length-shown (after + 1) part in
    let few : length part ≤ most = omega (arith, length-take most (drop after values)) in
    let whole : take (min (length rows) most) rows ≡ rows = take_all (min (length rows) most) rows (omega (arith, len, few)) in
    ap (map log_row) whole ∙ ap (map log_row) is ∙ kept_shown (after + 1) part ∙ ap (numbered_from (after + 1)) (part_is after most values)

pub page_is : (s : State) (after most : ℕ) (rows : List Shown) (kept : List Row) → (IsTrue s.is_open → rows ≡ shown_from (after + 1) (take most (drop after (stored (s.now.trees 0)))))
    → kept ≡ map log_row (take (min (length rows) most) rows) → IfSome (log_of s) (λ log. kept ≡ page after most log)
page_is s after most rows kept shown is = elim (cases_Bool s.is_open) [
  | inl live ↦ rw (log_open s live) (is ∙ kept_page after most (stored (s.now.trees 0)) rows (shown live))
  | inr shut ↦ rw (log_shut s shut) tt
]
