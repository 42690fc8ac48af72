-- Rows in byte order of their names, as the rules sort them.
use Rattle.std.proofs.Common.{◌≡◌, ◌≢◌, ℕ, Bool, true, false, cond, List, [], ◌∷◌, find, filter, Some, refl, sym, ap, ◌∙◌, if◌then◌else◌}
use Rattle.std.specs.List.{AllByRecursion}
use Rattle.std.specs.Str.{bytes_eq}
use Rattle.std.proofs.lemmas.Slice.Eq.{bytes_eq-Decides}
use Rattle.ps_base.specs.Keys.{is_below}
use Rattle.ps_base.proofs.Lists.{each-left}
use Rattle.ps_model.specs.Listing.{insert_by, sorted_by}
use Rattle.ps_model.specs.Sound.{Ordered}
use Rattle.ps_tables.proofs.names.Order.{Up, below-trans, below-other}

-- ---- what a sorted list keeps

module _ {A : Type 0} (name : A → List ℕ) where
  pub each-insert : (P : A → Type 0) (x : A) (ys : List A) → P x → AllByRecursion P ys → AllByRecursion P (insert_by name x ys)
  each-insert P x [] p h = (p, tt)
  each-insert P x (y ∷ ys) p h = by (is_below (name x) (name y)) (each-insert P x ys p h.1)
    where
      by : (b : Bool) → AllByRecursion P (insert_by name x ys) → AllByRecursion P (if b then x ∷ (y ∷ ys) else y ∷ insert_by name x ys)
      by true ih = (p, h)
      by false ih = (h.0, ih)

  pub each-sorted : (P : A → Type 0) (xs : List A) → AllByRecursion P xs → AllByRecursion P (sorted_by name xs)
  each-sorted P [] h = tt
  each-sorted P (x ∷ xs) h = each-insert P x (sorted_by name xs) h.0 (each-sorted P xs h.1)

  each-beyond : (a b : List ℕ) (xs : List A) → is_below a b ≡ true → AllByRecursion (λ x. is_below b (name x) ≡ true) xs → AllByRecursion (λ x. is_below a (name x) ≡ true) xs
  each-beyond a b [] ab h = tt
  each-beyond a b (x ∷ xs) ab h = (below-trans a b (name x) ab h.0, each-beyond a b xs ab h.1)

  insert-up : (x : A) (ys : List A) → AllByRecursion (λ y. name x ≢ name y) ys → Up name ys → Up name (insert_by name x ys)
  insert-up x [] ne up = (tt, tt)
  insert-up x (y ∷ ys) ne up = by (is_below (name x) (name y)) refl (insert-up x ys ne.1 up.1)
    where
      by : (b : Bool) → is_below (name x) (name y) ≡ b → Up name (insert_by name x ys) → Up name (if b then x ∷ (y ∷ ys) else y ∷ insert_by name x ys)
      by true e ih = ((e, each-beyond (name x) (name y) ys e up.0), up)
      by false e ih = (each-insert (λ z. is_below (name y) (name z) ≡ true) x ys (below-other (name x) (name y) e ne.0) up.0, ih)

  pub sorted-up : (xs : List A) → Ordered (λ a b. name a ≢ name b) xs → Up name (sorted_by name xs)
  sorted-up [] h = tt
  sorted-up (x ∷ xs) h = insert-up x (sorted_by name xs) (each-sorted (λ y. name x ≢ name y) xs h.0) (sorted-up xs h.1)

  -- what is found by name
  insert-find : (q : List ℕ) (x : A) (ys : List A) → AllByRecursion (λ y. name x ≢ name y) ys → find (λ y. bytes_eq (name y) q) (insert_by name x ys) ≡ find (λ y. bytes_eq (name y) q) (x ∷ ys)
  insert-find q x [] ne = refl
  insert-find q x (y ∷ ys) ne = by (is_below (name x) (name y)) (insert-find q x ys ne.1)
    where
      swap : (a b : Bool) → bytes_eq (name x) q ≡ a → bytes_eq (name y) q ≡ b → cond b (Some y) (cond a (Some x) (find (λ y. bytes_eq (name y) q) ys)) ≡ cond a (Some x) (cond b (Some y) (find (λ y. bytes_eq (name y) q) ys))
      swap true true ax by = absurd (ne.0 ((bytes_eq-Decides (name x) q).0 ax ∙ sym ((bytes_eq-Decides (name y) q).0 by)))
      swap true false ax by = refl
      swap false true ax by = refl
      swap false false ax by = refl

      by : (b : Bool) → find (λ y. bytes_eq (name y) q) (insert_by name x ys) ≡ find (λ y. bytes_eq (name y) q) (x ∷ ys) → find (λ y. bytes_eq (name y) q) (if b then x ∷ (y ∷ ys) else y ∷ insert_by name x ys) ≡ find (λ y. bytes_eq (name y) q) (x ∷ y ∷ ys)
      by true ih = refl
      by false ih = ap (cond (bytes_eq (name y) q) (Some y)) ih ∙ swap (bytes_eq (name x) q) (bytes_eq (name y) q) refl refl

  pub sorted-find : (q : List ℕ) (xs : List A) → Ordered (λ a b. name a ≢ name b) xs → find (λ y. bytes_eq (name y) q) (sorted_by name xs) ≡ find (λ y. bytes_eq (name y) q) xs
  sorted-find q [] h = refl
  sorted-find q (x ∷ xs) h =
      insert-find q x (sorted_by name xs) (each-sorted (λ y. name x ≢ name y) xs h.0)
      ∙ ap (cond (bytes_eq (name x) q) (Some x)) (sorted-find q xs h.1)

  -- a filter of sorted rows
  insert-first : (x : A) (ys : List A) → AllByRecursion (λ y. is_below (name x) (name y) ≡ true) ys → insert_by name x ys ≡ x ∷ ys
  insert-first x [] h = refl
  insert-first x (y ∷ ys) h = ap (λ (b : Bool). if b then x ∷ (y ∷ ys) else y ∷ insert_by name x ys) h.0

  insert-filter : (p : A → Bool) (x : A) (ys : List A) → Up name ys → filter p (insert_by name x ys) ≡ cond (p x) (insert_by name x (filter p ys)) (filter p ys)
  insert-filter p x [] up = by (p x)
    where
      by : (b : Bool) → cond b (x ∷ []) [] ≡ cond b (x ∷ []) []
      by b = refl
  insert-filter p x (y ∷ ys) up = by (is_below (name x) (name y)) refl (insert-filter p x ys up.1)
    where
      first : is_below (name x) (name y) ≡ true → (b : Bool) → p y ≡ b → x ∷ cond b (y ∷ filter p ys) (filter p ys) ≡ insert_by name x (cond b (y ∷ filter p ys) (filter p ys))
      first e true py = sym (insert-first x (y ∷ filter p ys) (e, each-beyond (name x) (name y) (filter p ys) e (each-left (λ z. is_below (name y) (name z) ≡ true) p ys up.0)))
      first e false py = sym (insert-first x (filter p ys) (each-beyond (name x) (name y) (filter p ys) e (each-left (λ z. is_below (name y) (name z) ≡ true) p ys up.0)))

      behind : is_below (name x) (name y) ≡ false → (a b : Bool) → filter p (insert_by name x ys) ≡ cond a (insert_by name x (filter p ys)) (filter p ys) → cond b (y ∷ filter p (insert_by name x ys)) (filter p (insert_by name x ys)) ≡ cond a (insert_by name x (cond b (y ∷ filter p ys) (filter p ys))) (cond b (y ∷ filter p ys) (filter p ys))
      behind e true true ih = ap (λ zs. y ∷ zs) ih ∙ sym (ap (λ (b : Bool). if b then x ∷ (y ∷ filter p ys) else y ∷ insert_by name x (filter p ys)) e)
      behind e true false ih = ih
      behind e false true ih = ap (λ zs. y ∷ zs) ih
      behind e false false ih = ih

      by : (b : Bool) → is_below (name x) (name y) ≡ b → filter p (insert_by name x ys) ≡ cond (p x) (insert_by name x (filter p ys)) (filter p ys) → filter p (if b then x ∷ (y ∷ ys) else y ∷ insert_by name x ys) ≡ cond (p x) (insert_by name x (filter p (y ∷ ys))) (filter p (y ∷ ys))
      by true e ih = ap (λ zs. cond (p x) zs (filter p (y ∷ ys))) (first e (p y) refl)
      by false e ih = behind e (p x) (p y) ih

  pub sorted-filter : (p : A → Bool) (xs : List A) → Ordered (λ a b. name a ≢ name b) xs → sorted_by name (filter p xs) ≡ filter p (sorted_by name xs)
  sorted-filter p [] h = refl
  sorted-filter p (x ∷ xs) h =
      let rest = sorted-filter p xs h.1 in
      by (p x) rest ∙ sym (insert-filter p x (sorted_by name xs) (sorted-up xs h.1))
    where
      by : (b : Bool) → sorted_by name (filter p xs) ≡ filter p (sorted_by name xs) → sorted_by name (cond b (x ∷ filter p xs) (filter p xs)) ≡ cond b (insert_by name x (filter p (sorted_by name xs))) (filter p (sorted_by name xs))
      by true ih = ap (insert_by name x) ih
      by false ih = ih
