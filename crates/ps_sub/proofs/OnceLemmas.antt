-- Items that are kept once.
use Rattle.std.proofs.Common.{◌≡◌, Bool, true, false, cond, ◌||◌, List, [], ◌∷◌, ◌++◌, filter, Ordering, refl, sym, ◌∙◌, ap, append_assoc, if◌then◌else◌}
use Rattle.std.specs.BTreeMap.{is_at}
use Rattle.std.specs.BTreeSet.{BTreeSet, Updates, IsUnchanged, contains}
use Rattle.std.specs.List.{list_any}
use Rattle.std.proofs.lemmas.Bool.{or_right}
use Rattle.std.proofs.lemmas.List.Folds.{list_any-append}
use Rattle.ps_model.specs.Lists.{once_after}

module _ {A : Type 0} (same : A → A → Bool) where
  either : (b : Bool) (x : A) (p q r s : List A) → p ≡ q → r ≡ s → (if b then p else x ∷ r) ≡ (if b then q else x ∷ s)
  either true x p q r s e f = e
  either false x p q r s e f = ap (λ l. x ∷ l) f

  -- what is kept depends on which items were seen, and not on their order
  once_congr : (seen other xs : List A) → ((x : A) → list_any (same x) seen ≡ list_any (same x) other) → once_after same seen xs ≡ once_after same other xs
  once_congr seen other [] h = refl
  once_congr seen other (x ∷ xs) h =
      rw (h x) (either (list_any (same x) other) x _ _ _ _ (once_congr seen other xs h) (once_congr (x ∷ seen) (x ∷ other) xs (λ y. ap (λ b. same y x || b) (h y))))

  or_swap : (a b : Bool) → (a || b) ≡ (b || (a || false))
  or_swap true true = refl
  or_swap true false = refl
  or_swap false true = refl
  or_swap false false = refl

  pub seen_more : (kept left rest all : List A) (t : A) → left ≡ t ∷ rest → list_any (same t) kept ≡ true
      → kept ++ once_after same kept left ≡ all → kept ++ once_after same kept rest ≡ all
  seen_more kept left rest all t cut seen h = ap (λ r. kept ++ r) (sym (ap (once_after same kept) cut ∙ rw seen refl)) ∙ h

  pub kept_more : (kept new left rest all : List A) (t : A) → left ≡ t ∷ rest → list_any (same t) kept ≡ false → new ≡ kept ++ t ∷ []
      → kept ++ once_after same kept left ≡ all → new ++ once_after same new rest ≡ all
  kept_more kept new left rest all t cut fresh is h =
      let first : once_after same kept (t ∷ rest) ≡ t ∷ once_after same (t ∷ kept) rest = rw fresh refl in
      let alike : once_after same (t ∷ kept) rest ≡ once_after same (kept ++ t ∷ []) rest =
      once_congr (t ∷ kept) (kept ++ t ∷ []) rest (λ x. or_swap (same x t) (list_any (same x) kept) ∙ sym (list_any-append (same x) kept (t ∷ []))) in
      rw is (append_assoc kept (t ∷ []) (once_after same (kept ++ t ∷ []) rest) ∙ ap (λ r. kept ++ r) (sym (ap (once_after same kept) cut ∙ first ∙ ap (λ r. t ∷ r) alike)) ∙ h)

  -- a filter of items that are kept once asks of those items alone
  module _ (own : (x : A) → same x x ≡ true) where
    pub filter-once : (p q : A → Bool) (seen xs : List A) → ((t : A) → list_any (same t) xs ≡ true → p t ≡ q t) → filter p (once_after same seen xs) ≡ filter q (once_after same seen xs)
    filter-once p q seen [] h = refl
    filter-once p q seen (x ∷ xs) h =
        let later : (t : A) → list_any (same t) xs ≡ true → p t ≡ q t = λ t among. h t (ap (λ (b : Bool). same t x || b) among ∙ or_right (same t x) true refl) in
        by (list_any (same x) seen) (h x (ap (λ (b : Bool). b || list_any (same x) xs) (own x))) (filter-once p q seen xs later) (filter-once p q (x ∷ seen) xs later)
      where
        by : (b : Bool) → p x ≡ q x → filter p (once_after same seen xs) ≡ filter q (once_after same seen xs)
            → filter p (once_after same (x ∷ seen) xs) ≡ filter q (once_after same (x ∷ seen) xs)
            → filter p (if b then once_after same seen xs else x ∷ once_after same (x ∷ seen) xs) ≡ filter q (if b then once_after same seen xs else x ∷ once_after same (x ∷ seen) xs)
        by true here skipped kept = skipped
        by false here skipped kept = λ i. if here i then x ∷ kept i else kept i

-- ---- a set that has the keys of the items

cond-or : (a b : Bool) → cond a true b ≡ (b || a)
cond-or true true = refl
cond-or true false = refl
cond-or false true = refl
cond-or false false = refl

or-none : (b : Bool) → b ≡ (b || false)
or-none true = refl
or-none false = refl

module _ {A K : Type 0} (same : A → A → Bool) (cmp : K → K → Ordering) (key : A → K) (key-same : (a b : A) → is_at (cmp (key a)) (key b) ≡ same b a) where
  -- one item more
  pub set-more : (x q : A) (old new : BTreeSet K) → Updates cmp old new (key x) true → contains cmp new (key q) ≡ (contains cmp old (key q) || same q x)
  set-more x q old new puts = puts.0 (key q) ∙ ap (λ (b : Bool). cond b true (contains cmp old (key q))) (key-same x q) ∙ cond-or (same q x) (contains cmp old (key q))

  pub set-grown : (kept : List A) (x : A) (old new : BTreeSet K) → Updates cmp old new (key x) true → ((q : A) → contains cmp old (key q) ≡ list_any (same q) kept) → (q : A) → contains cmp new (key q) ≡ list_any (same q) (kept ++ x ∷ [])
  set-grown kept x old new puts so_far q =
      set-more x q old new puts ∙ (λ j. so_far q j || or-none (same q x) j) ∙ sym (list_any-append (same q) kept (x ∷ []))

  -- none more
  pub set-stays : (kept : List A) (old new : BTreeSet K) → IsUnchanged old new → ((q : A) → contains cmp old (key q) ≡ list_any (same q) kept) → (q : A) → contains cmp new (key q) ≡ list_any (same q) kept
  set-stays kept old new unchanged so_far q = ap (list_any (is_at (cmp (key q)))) unchanged ∙ so_far q
