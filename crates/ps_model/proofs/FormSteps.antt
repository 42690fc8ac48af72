-- What the loops over items have written and read so far.
use Rattle.std.proofs.Common.{◌≡◌, ◌<◌, ◌≤◌, ◌+◌, ◌-◌, ℕ, suc, List, [], ◌∷◌, ◌++◌, Option, Some, None, option_map, refl, sym, ap, ◌∙◌, append_assoc, arith, Bool, true, false, Ok, Err, subst}
use Rattle.std.proofs.lemmas.List.{append-nil}
use Rattle.ps_model.specs.Forms.{Reading, behind, each_at, octets_at, text_at, checked, IsShort, TextFits}
use Rattle.std.specs.Prelude.{IsUtf8, MatchOption, OnOk, Result, if◌then◌else◌}
use Rattle.std.specs.Str.{is_utf8}
use Rattle.std.proofs.lemmas.Str.{is_utf8-from_IsUtf8, IsUtf8-from_is_utf8}
use Rattle.std.proofs.lemmas.Bool.{false_from_ne_true}

-- items that were read before these
abbrev pub prefixed : {A : Type 0} → List A → Option (List A × List ℕ) → Option (List A × List ℕ)
prefixed made None = None
prefixed made (Some more) = Some (made ++ more.0, more.1)

prefixed-cons : {A : Type 0} (made : List A) (x : A) (more : Option (List A × List ℕ)) → prefixed made (option_map (λ (m : List A × List ℕ). (x ∷ m.0, m.1)) more) ≡ prefixed (made ++ x ∷ []) more
prefixed-cons made x None = refl
prefixed-cons made x (Some m) = ap (λ xs. Some (xs, m.1)) (sym (append_assoc made (x ∷ []) m.0))

each_at-step : {A : Type 0} (at : Reading A) (n left : ℕ) (bytes rest : List ℕ) (x : A) → n ≡ suc left → at bytes ≡ Some (x, rest) → each_at at n bytes ≡ option_map (λ (m : List A × List ℕ). (x ∷ m.0, m.1)) (each_at at left rest)
each_at-step at n left bytes rest x is reads = ap (λ (k : ℕ). each_at at k bytes) is ∙ ap (behind (λ x xs. x ∷ xs) (each_at at left)) reads

each_at-stop : {A : Type 0} (at : Reading A) (n left : ℕ) (bytes : List ℕ) → n ≡ suc left → at bytes ≡ None → each_at at n bytes ≡ None
each_at-stop at n left bytes is reads = ap (λ (k : ℕ). each_at at k bytes) is ∙ ap (behind (λ x xs. x ∷ xs) (each_at at left)) reads

-- one item more was read
pub each-more : {A : Type 0} (at : Reading A) (made : List A) (place count : ℕ) (bytes rest : List ℕ) (x : A) (whole : Option (List A × List ℕ)) → place < count
    → whole ≡ prefixed made (each_at at (count - place) bytes) → at bytes ≡ Some (x, rest) → whole ≡ prefixed (made ++ x ∷ []) (each_at at (count - (place + 1)) rest)
each-more at made place count bytes rest x whole lt so reads =
    so ∙ ap (prefixed made) (each_at-step at (count - place) (count - (place + 1)) bytes rest x (omega arith) reads) ∙ prefixed-cons made x (each_at at (count - (place + 1)) rest)

-- an item is missing
pub each-none : {A : Type 0} (at : Reading A) (made : List A) (place count : ℕ) (bytes : List ℕ) (whole : Option (List A × List ℕ)) → place < count
    → whole ≡ prefixed made (each_at at (count - place) bytes) → at bytes ≡ None → whole ≡ None
each-none at made place count bytes whole lt so reads = so ∙ ap (prefixed made) (each_at-stop at (count - place) (count - (place + 1)) bytes (omega arith) reads)

-- all were read
pub each-all : {A : Type 0} (at : Reading A) (made : List A) (place count : ℕ) (bytes : List ℕ) (whole : Option (List A × List ℕ)) → count ≤ place
    → whole ≡ prefixed made (each_at at (count - place) bytes) → whole ≡ Some (made, bytes)
each-all {A = A} at made place count bytes whole le so =
    let none : count - place ≡ 0 = omega arith in
    so ∙ ap (λ (k : ℕ). prefixed made (each_at at k bytes)) none ∙ ap (λ (xs : List A). Some (xs, bytes)) (append-nil made)

-- the bytes that were read are a text
pub text-read : (bytes value rest : List ℕ) → octets_at bytes ≡ Some (value, rest) → IsUtf8 value → text_at bytes ≡ Some (value, rest)
text-read bytes value rest reads valid = ap (checked is_utf8) reads ∙ ap (λ (b : Bool). if b then Some (value, rest) else None) (is_utf8-from_IsUtf8 value valid)

-- they are none
pub text-none : (bytes value rest : List ℕ) → octets_at bytes ≡ Some (value, rest) → ¬ (IsUtf8 value) → text_at bytes ≡ None
text-none bytes value rest reads not_valid = ap (checked is_utf8) reads ∙ ap (λ (b : Bool). if b then Some (value, rest) else None) (false_from_ne_true (is_utf8 value) (λ e. not_valid (IsUtf8-from_is_utf8 value e)))

-- nothing was read yet
pub prefixed-nil : {A : Type 0} (at : Reading A) (count : ℕ) (bytes : List ℕ) (made : List A) → made ≡ [] → each_at at count bytes ≡ prefixed made (each_at at (count - 0) bytes)
prefixed-nil {A = A} at count bytes made is = by (each_at at count bytes) ∙ ap (λ (xs : List A). prefixed xs (each_at at count bytes)) (sym is) ∙ ap (λ (n : ℕ). prefixed made (each_at at n bytes)) (omega arith)
  where
    by : (o : Option (List A × List ℕ)) → o ≡ prefixed [] o
    by None = refl
    by (Some m) = refl

-- what a test lets through was read
pub checked-read : {A : Type 0} (test : A → Bool) (at : Option (A × List ℕ)) (value : A) (rest : List ℕ) (made : Option A) → at ≡ Some (value, rest)
    → made ≡ (if test value then Some value else None) → MatchOption made (checked test at ≡ None) (λ x. checked test at ≡ Some (x, rest))
checked-read {A = A} test at value rest made reads is = subst (λ (m : Option A). MatchOption m (checked test at ≡ None) (λ x. checked test at ≡ Some (x, rest))) (sym is) (by (test value) refl)
  where
    by : (b : Bool) → test value ≡ b → MatchOption (if b then Some value else None) (checked test at ≡ None) (λ x. checked test at ≡ Some (x, rest))
    by true e = ap (checked test) reads ∙ ap (λ (b : Bool). if b then Some (value, rest) else None) e
    by false e = ap (checked test) reads ∙ ap (λ (b : Bool). if b then Some (value, rest) else None) e

-- the bytes of a text were written
pub text-fits : {T E : Type 0} (text bytes : List ℕ) (result : Result T E) → bytes ≡ text → IsUtf8 bytes → OnOk result (IsShort bytes) → OnOk result (TextFits text)
text-fits text bytes (Err fault) is valid fits = tt
text-fits text bytes (Ok done) is valid fits = (subst IsShort is fits, subst (λ (xs : List ℕ). is_utf8 xs ≡ true) is (is_utf8-from_IsUtf8 bytes valid))
