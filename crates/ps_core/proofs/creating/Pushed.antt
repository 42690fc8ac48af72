-- Lists and maps by number, with one member more, and one value put at its number.
use Rattle.std.proofs.Common.{◌≡◌, ◌≢◌, ◌<◌, ℕ, Bool, true, false, cond, nat_cmp, List, [], ◌∷◌, ◌++◌, map, find, Some, None, option_map, refl, sym, ap, subst, ◌∙◌, if◌then◌else◌}
use Rattle.std.specs.List.{AllByRecursion}
use Rattle.std.specs.Map.{lookup, set_value, values_of}
use Rattle.std.specs.BTreeMap.{insert_entry}
use Rattle.std.specs.Str.{bytes_eq}
use Rattle.ps_model.proofs.SameLemmas.{exact-bytes}
use Rattle.ps_tables.specs.Numbers.{IsNumbered}
use Rattle.ps_base.proofs.Lists.{each-then, find-front, found-last, none-found}
use Rattle.ps_tables.proofs.numbers.Numbered.{numbered-pushed, numbered-push-keys, values-push}

-- the number of the first that passes, with one member more, which passes only if none did
pub number-push : {A : Type 0} (number : A → ℕ) (p : A → Bool) (xs : List A) (y : A) → (p y ≡ true → find p xs ≡ None) → option_map number (find p (xs ++ y ∷ [])) ≡ (if p y then Some (number y) else option_map number (find p xs))
number-push number p xs y none = by (p y) refl
  where
    by : (b : Bool) → p y ≡ b → option_map number (find p (xs ++ y ∷ [])) ≡ (if b then Some (number y) else option_map number (find p xs))
    by true is = ap (option_map number) (found-last p xs y (none-found p xs (none is)) is)
    by false is = ap (option_map number) (find-front p xs (y ∷ []) (ap (λ b. cond b (Some y) None) is))

-- a name that no member has differs from each one's
pub other-names : {A : Type 0} (name_of : A → List ℕ) (name : List ℕ) (xs : List A) → find (λ x. bytes_eq (name_of x) name) xs ≡ None → AllByRecursion (λ x. name_of x ≢ name) xs
other-names name_of name xs none =
    each-then (λ x. bytes_eq (name_of x) name ≡ false) (λ x. name_of x ≢ name) xs
    (λ x is same. let own : bytes_eq (name_of x) name ≡ true = ap (λ n. bytes_eq n name) same ∙ exact-bytes.own name in absurd (cc (is, own))) (none-found (λ x. bytes_eq (name_of x) name) xs none)

module _ {A : Type 0} (number : A → ℕ) where
  -- a map with one value more, whose number is above all
  pub entries-push : (n : ℕ) (v : A) (es fs : List (ℕ × A)) → IsNumbered number es → AllByRecursion (λ x. number x < n) (values_of es) → number v ≡ n → fs ≡ insert_entry nat_cmp es n v → IsNumbered number fs × (values_of fs ≡ values_of es ++ v ∷ [])
  entries-push n v es fs h below own is =
      let pushed : fs ≡ es ++ (n, v) ∷ [] = is ∙ numbered-pushed number n v es h below in
      (subst (IsNumbered number) (sym pushed) (numbered-push-keys number n v es h own), ap values_of pushed ∙ values-push number n v es)

-- what f shows of the values stays, if it shows the same of the one that is put
pub shown-put : {K A B : Type 0} (test : K → Bool) (f : A → B) (es : List (K × A)) (was w : A) → lookup test es ≡ Some was → f w ≡ f was → map f (values_of (set_value test es w)) ≡ map f (values_of es)
shown-put test f [] was w is same = refl
shown-put test f (e ∷ es) was w is same = by (test e.0) is (shown-put test f es was w)
  where
    by : (b : Bool) → cond b (Some e.1) (lookup test es) ≡ Some was → (lookup test es ≡ Some was → f w ≡ f was → map f (values_of (set_value test es w)) ≡ map f (values_of es)) → map f (values_of (cond b ((e.0, w) ∷ es) (e ∷ set_value test es w))) ≡ map f (values_of (e ∷ es))
    by true is ih = let here : e.1 ≡ was = cc (is) in λ i. (same ∙ ap f (sym here)) i ∷ map f (values_of es)
    by false is ih = ap (λ ys. f e.1 ∷ ys) (ih is same)
