-- What a filter leaves, where a test, a map or a look-up doesn't see what it leaves out.
use Rattle.std.proofs.Common.{◌≡◌, ◌≤◌, Bool, true, false, cond, ◌||◌, List, [], ◌∷◌, ◌++◌, Option, Some, None, map, filter, filter_map, find, length, refl, sym, ◌∙◌, ap, arith}
use Rattle.std.specs.List.{AllByRecursion, list_any, cons_option}
use Rattle.std.proofs.lemmas.Bool.{both_ways}

module _ {A : Type 0} where
  -- a test on what another leaves, where each that it leaves out fails a third, and the first and the third say the same of the others
  pub filter-two : (p r q : A → Bool) (xs : List A) → ((x : A) → q x ≡ false → r x ≡ false) → ((x : A) → q x ≡ true → p x ≡ r x) → filter p (filter q xs) ≡ filter r xs
  filter-two p r q [] out same = refl
  filter-two p r q (x ∷ xs) out same = cases (q x) (out x) (same x) (filter-two p r q xs out same)
    where
      cases : (b : Bool) → (b ≡ false → r x ≡ false) → (b ≡ true → p x ≡ r x) → filter p (filter q xs) ≡ filter r xs
          → filter p (cond b (x ∷ filter q xs) (filter q xs)) ≡ cond (r x) (x ∷ filter r xs) (filter r xs)
      cases true none one ih = λ i. cond (one refl i) (x ∷ ih i) (ih i)
      cases false none one ih = ih ∙ ap (λ b. cond b (x ∷ filter r xs) (filter r xs)) (sym (none refl))

  -- where what passes the first test passes the second
  pub filter-within : (p q : A → Bool) (xs : List A) → ((x : A) → q x ≡ false → p x ≡ false) → filter p (filter q xs) ≡ filter p xs
  filter-within p q xs out = filter-two p p q xs out (λ x _. refl)

  pub filter-again : (p : A → Bool) (xs : List A) → filter p (filter p xs) ≡ filter p xs
  filter-again p xs = filter-within p p xs (λ x e. e)

  -- two filters in either order
  pub filter-either : (p q : A → Bool) (xs : List A) → filter p (filter q xs) ≡ filter q (filter p xs)
  filter-either p q [] = refl
  filter-either p q (x ∷ xs) = cases (p x) refl (q x) refl (filter-either p q xs)
    where
      cases : (b : Bool) → p x ≡ b → (c : Bool) → q x ≡ c → filter p (filter q xs) ≡ filter q (filter p xs)
          → filter p (cond c (x ∷ filter q xs) (filter q xs)) ≡ filter q (cond b (x ∷ filter p xs) (filter p xs))
      cases true eb true ec ih = ap (λ b. cond b (x ∷ filter p (filter q xs)) (filter p (filter q xs))) eb ∙ ap (λ ys. x ∷ ys) ih ∙ ap (λ b. cond b (x ∷ filter q (filter p xs)) (filter q (filter p xs))) (sym ec)
      cases true eb false ec ih = ih ∙ ap (λ b. cond b (x ∷ filter q (filter p xs)) (filter q (filter p xs))) (sym ec)
      cases false eb true ec ih = ap (λ b. cond b (x ∷ filter p (filter q xs)) (filter p (filter q xs))) eb ∙ ih
      cases false eb false ec ih = ih

  pub filter-append : (p : A → Bool) (xs ys : List A) → filter p (xs ++ ys) ≡ filter p xs ++ filter p ys
  filter-append p [] ys = refl
  filter-append p (x ∷ xs) ys = cases (p x) (filter-append p xs ys)
    where
      cases : (b : Bool) → filter p (xs ++ ys) ≡ filter p xs ++ filter p ys → cond b (x ∷ filter p (xs ++ ys)) (filter p (xs ++ ys)) ≡ cond b (x ∷ filter p xs) (filter p xs) ++ filter p ys
      cases true ih = ap (λ zs. x ∷ zs) ih
      cases false ih = ih

  -- some member passes, where those that are left out don't
  pub any-filter : (p q : A → Bool) (xs : List A) → ((x : A) → q x ≡ false → p x ≡ false) → list_any p (filter q xs) ≡ list_any p xs
  any-filter p q [] out = refl
  any-filter p q (x ∷ xs) out = cases (q x) (out x) (any-filter p q xs out)
    where
      cases : (b : Bool) → (b ≡ false → p x ≡ false) → list_any p (filter q xs) ≡ list_any p xs → list_any p (cond b (x ∷ filter q xs) (filter q xs)) ≡ (p x || list_any p xs)
      cases true none ih = ap (λ b. p x || b) ih
      cases false none ih = ih ∙ ap (λ b. b || list_any p xs) (sym (none refl))

  -- what is found, where it isn't left out
  pub find-filter : (p q : A → Bool) (xs : List A) (x : A) → find p xs ≡ Some x → q x ≡ true → find p (filter q xs) ≡ Some x
  find-filter p q [] x e k = e
  find-filter p q (y ∷ ys) x e k = cases (p y) refl (q y) refl e (λ e'. find-filter p q ys x e' k)
    where
      cases : (b : Bool) → p y ≡ b → (c : Bool) → q y ≡ c → cond b (Some y) (find p ys) ≡ Some x → (find p ys ≡ Some x → find p (filter q ys) ≡ Some x) → find p (cond c (y ∷ filter q ys) (filter q ys)) ≡ Some x
      cases true eb true ec e' ih = ap (λ b. cond b (Some y) (find p (filter q ys))) eb ∙ e'
      cases true eb false ec e' ih = let same : y ≡ x = cc (e') in absurd (both_ways (q y) ec (ap q same ∙ k))
      cases false eb true ec e' ih = ap (λ b. cond b (Some y) (find p (filter q ys))) eb ∙ ih e'
      cases false eb false ec e' ih = ih e'

  module _ {B : Type 0} where
    -- a map of what is left, where the images of the others fail the test behind it
    pub filter-map-two : (p : B → Bool) (q : A → Bool) (f g : A → B) (xs : List A) → AllByRecursion (λ (x : A). q x ≡ false → p (f x) ≡ false) xs → AllByRecursion (λ (x : A). q x ≡ true → g x ≡ f x) xs
        → filter p (map g (filter q xs)) ≡ filter p (map f xs)
    filter-map-two p q f g [] out same = refl
    filter-map-two p q f g (x ∷ xs) out same = cases (q x) out.0 same.0 (filter-map-two p q f g xs out.1 same.1)
      where
        cases : (b : Bool) → (b ≡ false → p (f x) ≡ false) → (b ≡ true → g x ≡ f x) → filter p (map g (filter q xs)) ≡ filter p (map f xs)
            → filter p (map g (cond b (x ∷ filter q xs) (filter q xs))) ≡ cond (p (f x)) (f x ∷ filter p (map f xs)) (filter p (map f xs))
        cases true none one ih = λ i. cond (p (one refl i)) (one refl i ∷ ih i) (ih i)
        cases false none one ih = ih ∙ ap (λ b. cond b (f x ∷ filter p (map f xs)) (filter p (map f xs))) (sym (none refl))

    pub filter-map : (p : B → Bool) (f : A → B) (xs : List A) → filter p (map f xs) ≡ map f (filter (λ (x : A). p (f x)) xs)
    filter-map p f [] = refl
    filter-map p f (x ∷ xs) = cases (p (f x)) (filter-map p f xs)
      where
        cases : (b : Bool) → filter p (map f xs) ≡ map f (filter (λ (y : A). p (f y)) xs)
            → cond b (f x ∷ filter p (map f xs)) (filter p (map f xs)) ≡ map f (cond b (x ∷ filter (λ (y : A). p (f y)) xs) (filter (λ (y : A). p (f y)) xs))
        cases true ih = ap (λ ys. f x ∷ ys) ih
        cases false ih = ih

    pub filter_map-filter : (f : A → Option B) (q : A → Bool) (xs : List A) → ((x : A) → q x ≡ false → f x ≡ None) → filter_map f (filter q xs) ≡ filter_map f xs
    filter_map-filter f q [] out = refl
    filter_map-filter f q (x ∷ xs) out = cases (q x) (out x) (filter_map-filter f q xs out)
      where
        cases : (b : Bool) → (b ≡ false → f x ≡ None) → filter_map f (filter q xs) ≡ filter_map f xs → filter_map f (cond b (x ∷ filter q xs) (filter q xs)) ≡ cons_option (f x) (filter_map f xs)
        cases true none ih = ap (cons_option (f x)) ih
        cases false none ih = ih ∙ ap (λ o. cons_option o (filter_map f xs)) (sym (none refl))

  -- The second list is the first after a change that leaves what fails the test.
  abbrev pub Fading : (A → Bool) → List A → List A → Type 0
  Fading p [] [] = Unit {0}
  Fading p (x ∷ xs) (y ∷ ys) = (p x ≡ false → x ≡ y) × Fading p xs ys
  Fading p [] (y ∷ ys) = ⊥
  Fading p (x ∷ xs) [] = ⊥

  pub fading-same : (p : A → Bool) (xs : List A) → Fading p xs xs
  fading-same p [] = tt
  fading-same p (x ∷ xs) = (λ _. refl, fading-same p xs)

  pub fading-map : (p : A → Bool) (f : A → A) (xs : List A) → AllByRecursion (λ (x : A). p x ≡ false → x ≡ f x) xs → Fading p xs (map f xs)
  fading-map p f [] k = tt
  fading-map p f (x ∷ xs) k = (k.0, fading-map p f xs k.1)

  pub fading-then : (p : A → Bool) (xs ys zs : List A) → Fading p xs ys → Fading p ys zs → Fading p xs zs
  fading-then p [] [] [] h k = tt
  fading-then p [] [] (z ∷ zs) h k = absurd k
  fading-then p [] (y ∷ ys) zs h k = absurd h
  fading-then p (x ∷ xs) [] zs h k = absurd h
  fading-then p (x ∷ xs) (y ∷ ys) [] h k = absurd k
  fading-then p (x ∷ xs) (y ∷ ys) (z ∷ zs) h k = (λ e. h.0 e ∙ k.0 (ap p (sym (h.0 e)) ∙ e), fading-then p xs ys zs h.1 k.1)

  -- no more pass after the change
  fading-fewer : (p : A → Bool) (xs ys : List A) → Fading p xs ys → length (filter p ys) ≤ length (filter p xs)
  fading-fewer p [] [] h = omega arith
  fading-fewer p [] (y ∷ ys) h = absurd h
  fading-fewer p (x ∷ xs) [] h = absurd h
  fading-fewer p (x ∷ xs) (y ∷ ys) h = cases (p x) refl (p y) refl (fading-fewer p xs ys h.1)
    where
      cases : (b : Bool) → p x ≡ b → (c : Bool) → p y ≡ c → length (filter p ys) ≤ length (filter p xs) → length (cond c (y ∷ filter p ys) (filter p ys)) ≤ length (cond b (x ∷ filter p xs) (filter p xs))
      cases true eb true ec ih = omega (arith, ih)
      cases true eb false ec ih = omega (arith, ih)
      cases false eb true ec ih = absurd (both_ways (p y) (ap p (sym (h.0 eb)) ∙ eb) ec)
      cases false eb false ec ih = ih

  -- a change that isn't seen among those that pass is none
  pub fading-seen : (p : A → Bool) (xs ys : List A) → Fading p xs ys → filter p xs ≡ filter p ys → xs ≡ ys
  fading-seen p [] [] h e = refl
  fading-seen p [] (y ∷ ys) h e = absurd h
  fading-seen p (x ∷ xs) [] h e = absurd h
  fading-seen p (x ∷ xs) (y ∷ ys) h e = cases (p x) refl (p y) refl e (fading-seen p xs ys h.1)
    where
      cases : (b : Bool) → p x ≡ b → (c : Bool) → p y ≡ c → cond b (x ∷ filter p xs) (filter p xs) ≡ cond c (y ∷ filter p ys) (filter p ys) → (filter p xs ≡ filter p ys → xs ≡ ys) → (x ∷ xs) ≡ (y ∷ ys)
      cases true eb true ec e' ih =
          let head : x ≡ y = cc (e') in
          let tails : filter p xs ≡ filter p ys = cc (e') in
          λ i. head i ∷ ih tails i
      cases true eb false ec e' ih =
          let more : length (x ∷ filter p xs) ≡ length (filter p ys) = ap length e' in
          absurd (omega (arith, more, fading-fewer p xs ys h.1))
      cases false eb true ec e' ih = absurd (both_ways (p y) (ap p (sym (h.0 eb)) ∙ eb) ec)
      cases false eb false ec e' ih = λ i. h.0 eb i ∷ ih e' i
