-- Each form is exact where the forms of its parts are.
use Rattle.std.proofs.Common.{◌≡◌, ℕ, zero, suc, Bool, true, false, List, [], ◌∷◌, ◌++◌, length, Result, Ok, Err, Option, Some, None, option_map, if◌then◌else◌, refl, sym, ap, subst, ◌∙◌, append_assoc}
use Rattle.ps_codec.specs.declared.fault.FieldError.{FieldError}
use Rattle.ps_codec.specs.Fields.{IsBytes, u32_field, u64_field, flag_field, bytes_field}
use Rattle.ps_codec.specs.Found.{u32_at, u64_at, flag_at, bytes_at}
use Rattle.ps_codec.proofs.FieldLemmas.{IsBytes-behind, u32_again, u64_again, flag_again, bytes_again, u32_only, u64_only, flag_only, bytes_only}
use Rattle.ps_model.specs.Forms.{Reading, found, number32_at, number64_at, truth_at, octets_at, checked, checked_at, behind, pair_form, pair_at, option_form, option_behind, option_at, each_form, list_form, each_at, list_behind, list_at, made_at, IsShort, IsBelow32, IsBelow64, PairFits, OptionFits, EachFits, ListFits, CheckedFits}
use Rattle.ps_model.specs.FormLaws.{IsForm}

-- ---- fields

found-is : {A : Type 0} (field : Result (A × List ℕ) FieldError) (value : A × List ℕ) → found field ≡ Some value → field ≡ Ok value
found-is (Ok own) value reads = cc
found-is (Err fault) value reads = absurd (cc)

pub form-number32 : IsForm u32_field number32_at IsBelow32
form-number32 = record {
  again = λ value rest fits. ap found (u32_again value rest fits);
  only = λ bytes value rest fits reads. u32_only bytes value rest fits (found-is (u32_at bytes) (value, rest) reads);
}

pub form-number64 : IsForm u64_field number64_at IsBelow64
form-number64 = record {
  again = λ value rest fits. ap found (u64_again value rest fits);
  only = λ bytes value rest fits reads. u64_only bytes value rest fits (found-is (u64_at bytes) (value, rest) reads);
}

pub form-truth : IsForm flag_field truth_at (λ value. Unit {0})
form-truth = record {
  again = λ value rest fits. ap found (flag_again value rest);
  only = λ bytes value rest fits reads. (flag_only bytes value rest (found-is (flag_at bytes) (value, rest) reads), tt);
}

pub form-octets : IsForm bytes_field octets_at IsShort
form-octets = record {
  again = λ value rest fits. ap found (bytes_again value rest fits);
  only = λ bytes value rest fits reads. bytes_only bytes value rest fits (found-is (bytes_at bytes) (value, rest) reads);
}

-- ---- values that a test lets through

checked-is : {A : Type 0} (test : A → Bool) (at : Option (A × List ℕ)) (value : A) (rest : List ℕ) → checked test at ≡ Some (value, rest) → (at ≡ Some (value, rest)) × (test value ≡ true)
checked-is test None value rest reads = absurd (cc)
checked-is {A = A} test (Some own) value rest reads = by (test own.0) refl reads
  where
    by : (b : Bool) → test own.0 ≡ b → ◌≡◌ {A = Option (A × List ℕ)} (if b then Some own else None) (Some (value, rest)) → (◌≡◌ {A = Option (A × List ℕ)} (Some own) (Some (value, rest))) × (test value ≡ true)
    by false e reads = absurd (cc)
    by true e reads =
        let same : own ≡ (value, rest) = cc in
        (reads, sym (ap (λ (p : A × List ℕ). test p.0) same) ∙ e)

pub form-checked : {A : Type 0} (test : A → Bool) (form : A → List ℕ) (at : Reading A) (Fits : A → Type 0) → IsForm form at Fits → IsForm form (checked_at test at) (CheckedFits test Fits)
form-checked test form at Fits exact = record {
  again = λ value rest fits. ap (checked test) (exact.again value rest fits.0) ∙ ap (λ (b : Bool). if b then Some (value, rest) else None) fits.1;
  only = λ bytes value rest bound reads.
      let parts = checked-is test (at bytes) value rest reads in
      let told = exact.only bytes value rest bound parts.0 in
      (told.0, (told.1, parts.1));
}

-- ---- a value made of another

abbrev pub put : {A B : Type 0} → (A → B) → A × List ℕ → B × List ℕ
put make value = (make value.0, value.1)

made-is : {A B : Type 0} (make : A → B) (at : Option (A × List ℕ)) (value : B) (rest : List ℕ) → option_map (put make) at ≡ Some (value, rest)
    → (own : A) × ((at ≡ Some (own, rest)) × (make own ≡ value))
made-is make None value rest reads = absurd (cc)
made-is {A = A} {B = B} make (Some own) value rest reads =
    let same : ◌≡◌ {A = B × List ℕ} (make own.0, own.1) (value, rest) = cc in
    (own.0, (ap (λ (xs : List ℕ). Some (own.0, xs)) (ap (λ (p : B × List ℕ). p.1) same), ap (λ (p : B × List ℕ). p.0) same))

-- a value that was read, and what it is made of
pub record IsMade {A B : Type 0} (make : A → B) (form : A → List ℕ) (Fits : A → Type 0) (bytes : List ℕ) (value : B) (rest : List ℕ) : Type 0 where
  pub own : A
  pub whole : bytes ≡ form own ++ rest
  pub fits : Fits own
  pub same : make own ≡ value

pub made-again : {A B : Type 0} (make : A → B) (form : A → List ℕ) (at : Reading A) (Fits : A → Type 0) → IsForm form at Fits → (own : A) (rest : List ℕ) → Fits own → made_at make at (form own ++ rest) ≡ Some (make own, rest)
made-again make form at Fits exact own rest fits = ap (option_map (put make)) (exact.again own rest fits)

pub made-only : {A B : Type 0} (make : A → B) (form : A → List ℕ) (at : Reading A) (Fits : A → Type 0) → IsForm form at Fits → (bytes : List ℕ) (value : B) (rest : List ℕ) → IsBytes bytes → made_at make at bytes ≡ Some (value, rest) → IsMade make form Fits bytes value rest
made-only make form at Fits exact bytes value rest bound reads =
    let own = made-is make (at bytes) value rest reads in
    let told = exact.only bytes own.0 rest bound own.1.0 in
    record { own = own.0; whole = told.0; fits = told.1; same = own.1.1 }

-- the parts of a value are what it is made of
pub form-made : {A B : Type 0} (make : A → B) (parts : B → A) (form : A → List ℕ) (at : Reading A) (Fits : A → Type 0) → ((value : B) → make (parts value) ≡ value) → ((own : A) → parts (make own) ≡ own) → IsForm form at Fits
    → IsForm (λ (value : B). form (parts value)) (made_at make at) (λ (value : B). Fits (parts value))
form-made {A = A} {B = B} make parts form at Fits whole apart exact = record {
  again = λ value rest fits. made-again make form at Fits exact (parts value) rest fits ∙ ap (λ (v : B). Some (v, rest)) (whole value);
  only = λ bytes value rest bound reads.
      let made = made-only make form at Fits exact bytes value rest bound reads in
      let is : made.own ≡ parts value = sym (apart made.own) ∙ ap parts made.same in
      (made.whole ∙ ap (λ (v : A). form v ++ rest) is, subst Fits is made.fits);
}

-- ---- one behind the other

behind-is : {A B C : Type 0} (join : A → B → C) (next : Reading B) (at : Option (A × List ℕ)) (value : C) (rest : List ℕ) → behind join next at ≡ Some (value, rest)
    → (first : A × List ℕ) × (second : B) × ((at ≡ Some first) × (next first.1 ≡ Some (second, rest)) × (join first.0 second ≡ value))
behind-is join next None value rest reads = absurd (cc)
behind-is join next (Some first) value rest reads = let made = made-is (λ second. join first.0 second) (next first.1) value rest reads in (first, made.0, (refl, made.1.0, made.1.1))

-- two fields that were read one after the other
record AreTwo {A B : Type 0} (form : A → List ℕ) (form' : B → List ℕ) (Fits : A → Type 0) (Fits' : B → Type 0) (bytes : List ℕ) (first : A) (second : B) (rest : List ℕ) : Type 0 where
  whole : bytes ≡ (form first ++ form' second) ++ rest
  one : Fits first
  two : Fits' second

are-two : {A B : Type 0} (form : A → List ℕ) (form' : B → List ℕ) (at : Reading A) (at' : Reading B) (Fits : A → Type 0) (Fits' : B → Type 0) → IsForm form at Fits → ((more : List ℕ) (second : B) (rest : List ℕ) → IsBytes more → at' more ≡ Some (second, rest) → (more ≡ form' second ++ rest) × Fits' second)
    → (bytes : List ℕ) (first : A) (more : List ℕ) (second : B) (rest : List ℕ) → IsBytes bytes → at bytes ≡ Some (first, more) → at' more ≡ Some (second, rest) → AreTwo form form' Fits Fits' bytes first second rest
are-two form form' at at' Fits Fits' exact only bytes first more second rest bound reads reads' =
    let one = exact.only bytes first more bound reads in
    let two = only more second rest (IsBytes-behind (form first) more (subst IsBytes one.0 bound)) reads' in
    record {
      whole = one.0 ∙ ap (λ (xs : List ℕ). form first ++ xs) two.0 ∙ sym (append_assoc (form first) (form' second) rest);
      one = one.1;
      two = two.1;
    }

pub form-pair : {A B : Type 0} (form : A → List ℕ) (form' : B → List ℕ) (at : Reading A) (at' : Reading B) (Fits : A → Type 0) (Fits' : B → Type 0) → IsForm form at Fits → IsForm form' at' Fits'
    → IsForm (pair_form form form') (pair_at at at') (PairFits Fits Fits')
form-pair {A = A} {B = B} form form' at at' Fits Fits' exact exact' = record {
  again = λ pair rest fits.
      ap (λ (xs : List ℕ). pair_at at at' xs) (append_assoc (form pair.0) (form' pair.1) rest) ∙ ap (behind (λ (a : A) (b : B). (a, b)) at') (exact.again pair.0 (form' pair.1 ++ rest) fits.0)
      ∙ ap (option_map (put (λ (second : B). (pair.0, second)))) (exact'.again pair.1 rest fits.1);
  only = λ bytes pair rest bound reads.
      let parts = behind-is (λ (a : A) (b : B). (a, b)) at' (at bytes) pair rest reads in
      let two = are-two form form' at at' Fits Fits' exact exact'.only bytes parts.0.0 parts.0.1 parts.1 rest bound parts.2.0 parts.2.1 in
      let same : ◌≡◌ {A = A × B} (parts.0.0, parts.1) pair = parts.2.2 in
      subst (λ (p : A × B). (bytes ≡ pair_form form form' p ++ rest) × PairFits Fits Fits' p) same (two.whole, (two.one, two.two));
}

-- ---- options

option-is : {A : Type 0} (at : Reading A) (flag : Option (Bool × List ℕ)) (value : Option A) (rest : List ℕ) → option_behind at flag ≡ Some (value, rest) → (form : A → List ℕ) (Fits : A → Type 0) → IsForm form at Fits
    → (bytes : List ℕ) → IsBytes bytes → truth_at bytes ≡ flag → (bytes ≡ option_form form value ++ rest) × OptionFits Fits value
option-is at None value rest reads form Fits exact bytes bound is = absurd (cc)
option-is {A = A} at (Some (false, more)) value rest reads form Fits exact bytes bound is =
    let same : ◌≡◌ {A = Option A × List ℕ} (None, more) (value, rest) = cc in
    subst (λ (p : Option A × List ℕ). (bytes ≡ option_form form p.0 ++ p.1) × OptionFits Fits p.0) same ((form-truth.only bytes false more bound is).0, tt)
option-is {A = A} at (Some (true, more)) value rest reads form Fits exact bytes bound is =
    let own = made-is (λ (v : A). Some v) (at more) value rest reads in
    let two = are-two flag_field form truth_at at (λ (b : Bool). Unit {0}) Fits form-truth exact.only bytes true more own.0 rest bound is own.1.0 in
    subst (λ (v : Option A). (bytes ≡ option_form form v ++ rest) × OptionFits Fits v) own.1.1 (two.whole, two.two)

option-again : {A : Type 0} (form : A → List ℕ) (at : Reading A) (Fits : A → Type 0) → IsForm form at Fits → (value : Option A) (rest : List ℕ) → OptionFits Fits value → option_at at (option_form form value ++ rest) ≡ Some (value, rest)
option-again form at Fits exact None rest fits = ap (option_behind at) (form-truth.again false rest tt)
option-again {A = A} form at Fits exact (Some value) rest fits =
    ap (λ (xs : List ℕ). option_at at xs) (append_assoc (flag_field true) (form value) rest) ∙ ap (option_behind at) (form-truth.again true (form value ++ rest) tt)
    ∙ ap (option_map (put (λ (v : A). Some v))) (exact.again value rest fits)

pub form-option : {A : Type 0} (form : A → List ℕ) (at : Reading A) (Fits : A → Type 0) → IsForm form at Fits → IsForm (option_form form) (option_at at) (OptionFits Fits)
form-option form at Fits exact = record {
  again = option-again form at Fits exact;
  only = λ bytes value rest bound reads. option-is at (truth_at bytes) value rest reads form Fits exact bytes bound refl;
}

-- ---- lists

each-again : {A : Type 0} (form : A → List ℕ) (at : Reading A) (Fits : A → Type 0) → IsForm form at Fits → (values : List A) (rest : List ℕ) → EachFits Fits values → each_at at (length values) (each_form form values ++ rest) ≡ Some (values, rest)
each-again form at Fits exact [] rest fits = refl
each-again {A = A} form at Fits exact (x ∷ xs) rest fits =
    ap (λ (bytes : List ℕ). behind (λ (v : A) (vs : List A). v ∷ vs) (each_at at (length xs)) (at bytes)) (append_assoc (form x) (each_form form xs) rest)
    ∙ ap (behind (λ (v : A) (vs : List A). v ∷ vs) (each_at at (length xs))) (exact.again x (each_form form xs ++ rest) fits.0)
    ∙ ap (option_map (put (λ (vs : List A). x ∷ vs))) (each-again form at Fits exact xs rest fits.1)

-- so many that were read
record AreEach {A : Type 0} (form : A → List ℕ) (Fits : A → Type 0) (n : ℕ) (bytes : List ℕ) (values : List A) (rest : List ℕ) : Type 0 where
  whole : bytes ≡ each_form form values ++ rest
  many : length values ≡ n
  fits : EachFits Fits values

each-only : {A : Type 0} (form : A → List ℕ) (at : Reading A) (Fits : A → Type 0) → IsForm form at Fits → (n : ℕ) (bytes : List ℕ) (values : List A) (rest : List ℕ) → IsBytes bytes → each_at at n bytes ≡ Some (values, rest) → AreEach form Fits n bytes values rest
each-only {A = A} form at Fits exact zero bytes values rest bound reads =
    let same : ◌≡◌ {A = List A × List ℕ} ([], bytes) (values, rest) = cc in
    subst (λ (p : List A × List ℕ). AreEach form Fits 0 bytes p.0 p.1) same (record { whole = refl; many = refl; fits = tt })
each-only {A = A} form at Fits exact (suc n) bytes values rest bound reads =
    let parts = behind-is (λ (v : A) (vs : List A). v ∷ vs) (each_at at n) (at bytes) values rest reads in
    let one = exact.only bytes parts.0.0 parts.0.1 bound parts.2.0 in
    let more = each-only form at Fits exact n parts.0.1 parts.1 rest (IsBytes-behind (form parts.0.0) parts.0.1 (subst IsBytes one.0 bound)) parts.2.1 in
    subst (λ (vs : List A). AreEach form Fits (suc n) bytes vs rest) parts.2.2 (record {
      whole = one.0 ∙ ap (λ (xs : List ℕ). form parts.0.0 ++ xs) more.whole ∙ sym (append_assoc (form parts.0.0) (each_form form parts.1) rest);
      many = ap suc more.many;
      fits = (one.1, more.fits);
    })

list-is : {A : Type 0} (form : A → List ℕ) (at : Reading A) (Fits : A → Type 0) → IsForm form at Fits → (count : Option (ℕ × List ℕ)) (values : List A) (rest : List ℕ) → list_behind at count ≡ Some (values, rest)
    → (bytes : List ℕ) → IsBytes bytes → number32_at bytes ≡ count → (bytes ≡ list_form form values ++ rest) × ListFits Fits values
list-is form at Fits exact None values rest reads bytes bound is = absurd (cc)
list-is form at Fits exact (Some count) values rest reads bytes bound is =
    let told = form-number32.only bytes count.0 count.1 bound is in
    let each = each-only form at Fits exact count.0 count.1 values rest (IsBytes-behind (u32_field count.0) count.1 (subst IsBytes told.0 bound)) reads in (
      told.0 ∙ ap (λ (xs : List ℕ). u32_field count.0 ++ xs) each.whole ∙ sym (append_assoc (u32_field count.0) (each_form form values) rest) ∙ ap (λ (n : ℕ). (u32_field n ++ each_form form values) ++ rest) (sym each.many),
      (subst IsBelow32 (sym each.many) told.1, each.fits),
    )

pub form-list : {A : Type 0} (form : A → List ℕ) (at : Reading A) (Fits : A → Type 0) → IsForm form at Fits → IsForm (list_form form) (list_at at) (ListFits Fits)
form-list form at Fits exact = record {
  again = λ values rest fits.
      ap (λ (xs : List ℕ). list_at at xs) (append_assoc (u32_field (length values)) (each_form form values) rest) ∙ ap (list_behind at) (form-number32.again (length values) (each_form form values ++ rest) fits.0)
      ∙ each-again form at Fits exact values rest fits.1;
  only = λ bytes values rest bound reads. list-is form at Fits exact (number32_at bytes) values rest reads bytes bound refl;
}
