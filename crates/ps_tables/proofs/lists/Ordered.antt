-- Lists in order, mapped, filtered and joined.
use Rattle.std.proofs.Common.{Bool, true, false, cond, List, [], ◌∷◌, ◌++◌, map, filter}
use Rattle.std.specs.List.{AllByRecursion}
use Rattle.ps_model.specs.Sound.{Ordered}
use Rattle.ps_base.proofs.Lists.{each-append, each-left, each-map, each-of-map}

-- what f keeps between members stands in the map
pub ordered-map : {A B : Type 0} (R : A → A → Type 0) (S : B → B → Type 0) (f : A → B) (xs : List A) → ((x y : A) → R x y → S (f x) (f y)) → Ordered R xs → Ordered S (map f xs)
ordered-map R S f [] k h = tt
ordered-map R S f (x ∷ xs) k h = (each-map (R x) (S (f x)) f xs (k x) h.0, ordered-map R S f xs k h.1)

-- what is in order by f is in order
pub ordered-of-map : {A B : Type 0} (R : B → B → Type 0) (f : A → B) (xs : List A) → Ordered R (map f xs) → Ordered (λ a b. R (f a) (f b)) xs
ordered-of-map R f [] h = tt
ordered-of-map R f (x ∷ xs) h = (each-of-map (R (f x)) f xs h.0, ordered-of-map R f xs h.1)

pub ordered-filter : {A : Type 0} (R : A → A → Type 0) (test : A → Bool) (xs : List A) → Ordered R xs → Ordered R (filter test xs)
ordered-filter R test [] h = tt
ordered-filter R test (x ∷ xs) h = by (test x) (ordered-filter R test xs h.1)
  where
    by : (b : Bool) → Ordered R (filter test xs) → Ordered R (cond b (x ∷ filter test xs) (filter test xs))
    by true rest = (each-left (R x) test xs h.0, rest)
    by false rest = rest

pub ordered-append : {A : Type 0} (R : A → A → Type 0) (xs ys : List A) → Ordered R xs → Ordered R ys → AllByRecursion (λ (x : A). AllByRecursion (R x) ys) xs → Ordered R (xs ++ ys)
ordered-append R [] ys g h k = h
ordered-append R (x ∷ xs) ys g h k = (each-append (R x) xs ys g.0 k.0, ordered-append R xs ys g.1 h k.1)
