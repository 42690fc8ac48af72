-- What an index lists of some rows is what the rules sort.
use Rattle.std.proofs.Common.{◌≡◌, ◌≢◌, ◌<◌, arith, ℕ, zero, suc, Bool, true, false, cond, ◌&&◌, nat_eq, List, [], ◌∷◌, ◌++◌, map, find, filter, take, Some, None, option_map, refl, sym, ap, ◌∙◌, length, nat_lt, if◌then◌else◌}
use Rattle.std.specs.List.{AllByRecursion}
use Rattle.std.specs.Map.{lookup}
use Rattle.std.specs.Option.{option_to_list}
use Rattle.std.specs.BTreeMap.{is_at}
use Rattle.std.specs.Str.{bytes_eq}
use Rattle.std.specs.Cmp.Lexicographic.{slice_cmp}
use Rattle.std.specs.Ordering.{nat_cmp}
use Rattle.std.proofs.lemmas.List.{length-map}
use Rattle.std.proofs.lemmas.Map.Text.{is_eq-slice_cmp}
use Rattle.std.proofs.lemmas.Slice.Eq.{bytes_eq-Decides}
use Rattle.std.proofs.lemmas.Bool.{both_ways, false_from_ne_true, eq-eqb, ne_eqb}
use Rattle.ps_base.specs.Keys.{is_below}
use Rattle.ps_model.specs.Listing.{sorted_by, after_token, last_name}
use Rattle.ps_model.specs.Sound.{Ordered}
use Rattle.ps_core.specs.Pages.{rows_at}
use Rattle.ps_tables.specs.Pages.{page_numbers, page_next}
use Rattle.ps_base.proofs.Lists.{each-left, each-then-both}
use Rattle.ps_tables.proofs.lists.Filtered.{filter-twice}
use Rattle.ps_tables.proofs.names.Order.{Up}
use Rattle.ps_core.proofs.listing.Sorting.{each-sorted, sorted-up, sorted-find, sorted-filter}
use Rattle.ps_tables.proofs.names.Paging.{key, entries-same}

module _ {A : Type 0} (name : A → List ℕ) (number : A → ℕ) where
  -- a row's name and number
  abbrev pub entry : A → List ℕ × ℕ
  entry x = (name x, number x)

  each-entry : (a : List ℕ) (xs : List A) → AllByRecursion (λ x. is_below a (name x) ≡ true) xs → AllByRecursion (λ (e : List ℕ × ℕ). is_below a e.0 ≡ true) (map entry xs)
  each-entry a [] h = tt
  each-entry a (x ∷ xs) h = (h.0, each-entry a xs h.1)

  entries-up : (xs : List A) → Up name xs → Up key (map entry xs)
  entries-up [] h = tt
  entries-up (x ∷ xs) h = (each-entry (name x) xs h.0, entries-up xs h.1)

  bytes-same : (a b : List ℕ) → bytes_eq a b ≡ bytes_eq b a
  bytes-same a b = at (bytes_eq b a) refl
    where
      at : (c : Bool) → bytes_eq b a ≡ c → bytes_eq a b ≡ c
      at true is = (bytes_eq-Decides a b).1 (sym ((bytes_eq-Decides b a).0 is))
      at false is = false_from_ne_true (bytes_eq a b) (λ yes. both_ways (bytes_eq b a) is ((bytes_eq-Decides b a).1 (sym ((bytes_eq-Decides a b).0 yes))))

  entries-find : (q : List ℕ) (xs : List A) → lookup (is_at (slice_cmp nat_cmp q)) (map entry xs) ≡ option_map number (find (λ x. bytes_eq (name x) q) xs)
  entries-find q [] = refl
  entries-find q (x ∷ xs) =
      ap (λ (b : Bool). cond b (Some (number x)) (lookup (is_at (slice_cmp nat_cmp q)) (map entry xs))) (is_eq-slice_cmp q (name x) ∙ bytes-same q (name x))
      ∙ by (bytes_eq (name x) q) (entries-find q xs)
    where
      by : (b : Bool) → lookup (is_at (slice_cmp nat_cmp q)) (map entry xs) ≡ option_map number (find (λ x. bytes_eq (name x) q) xs) → cond b (Some (number x)) (lookup (is_at (slice_cmp nat_cmp q)) (map entry xs)) ≡ option_map number (cond b (Some x) (find (λ x. bytes_eq (name x) q) xs))
      by true ih = refl
      by false ih = ih

  -- the entries of an index are the rows in order of name
  pub entries-rows : (es : List (List ℕ × ℕ)) (xs : List A) → Up key es → Ordered (λ a b. name a ≢ name b) xs → ((q : List ℕ) → lookup (is_at (slice_cmp nat_cmp q)) es ≡ option_map number (find (λ x. bytes_eq (name x) q) xs)) → es ≡ map entry (sorted_by name xs)
  entries-rows es xs up differ same =
      entries-same es (map entry (sorted_by name xs)) up (entries-up (sorted_by name xs) (sorted-up name xs differ))
      (λ q. same q ∙ ap (option_map number) (sym (sorted-find name q xs differ)) ∙ sym (entries-find q (sorted_by name xs)))

  filter-entries : (p : List ℕ → Bool) (xs : List A) → filter (λ (e : List ℕ × ℕ). p e.0) (map entry xs) ≡ map entry (filter (λ x. p (name x)) xs)
  filter-entries p [] = refl
  filter-entries p (x ∷ xs) = by (p (name x)) (filter-entries p xs)
    where
      by : (b : Bool) → filter (λ (e : List ℕ × ℕ). p e.0) (map entry xs) ≡ map entry (filter (λ x. p (name x)) xs) → cond b (entry x ∷ filter (λ (e : List ℕ × ℕ). p e.0) (map entry xs)) (filter (λ (e : List ℕ × ℕ). p e.0) (map entry xs)) ≡ map entry (cond b (x ∷ filter (λ x. p (name x)) xs) (filter (λ x. p (name x)) xs))
      by true ih = ap (λ es. entry x ∷ es) ih
      by false ih = ih

  filter-same : (a b : A → Bool) (xs : List A) → AllByRecursion (λ x. a x ≡ b x) xs → filter a xs ≡ filter b xs
  filter-same a b [] h = refl
  filter-same a b (x ∷ xs) h = λ i. cond (h.0 i) (x ∷ filter-same a b xs h.1 i) (filter-same a b xs h.1 i)

  -- those of a range are the rows that are kept, and that come after the token
  pub range-rows : (kept : A → Bool) (inside : List ℕ → Bool) (token : List ℕ) (xs : List A) → Ordered (λ a b. name a ≢ name b) xs → AllByRecursion (λ x. inside (name x) ≡ kept x) xs
      → filter (λ (e : List ℕ × ℕ). inside e.0 && is_below token e.0) (map entry (sorted_by name xs)) ≡ map entry (after_token name token (filter kept xs))
  range-rows kept inside token xs differ same =
      filter-entries (λ n. inside n && is_below token n) (sorted_by name xs)
      ∙ ap (map entry) (sym (filter-twice (λ x. inside (name x)) (λ x. is_below token (name x)) (λ x. inside (name x) && is_below token (name x)) (λ x. refl) (sorted_by name xs))
      ∙ ap (filter (λ x. is_below token (name x))) (filter-same (λ x. inside (name x)) kept (sorted_by name xs) (each-sorted name (λ x. inside (name x) ≡ kept x) xs same) ∙ sym (sorted-filter name kept xs differ)))

  -- ---- what a page shows of the entries of rows

  take-entries : (n : ℕ) (xs : List A) → take n (map entry xs) ≡ map entry (take n xs)
  take-entries zero [] = refl
  take-entries zero (x ∷ xs) = refl
  take-entries (suc n) [] = refl
  take-entries (suc n) (x ∷ xs) = ap (λ es. entry x ∷ es) (take-entries n xs)

  numbers-of : (xs : List A) → map (λ (e : List ℕ × ℕ). e.1) (map entry xs) ≡ map number xs
  numbers-of [] = refl
  numbers-of (x ∷ xs) = ap (λ ns. number x ∷ ns) (numbers-of xs)

  last-entry : (xs : List A) → last_name key (map entry xs) ≡ last_name name xs
  last-entry [] = refl
  last-entry (x ∷ []) = refl
  last-entry (x ∷ y ∷ ys) = last-entry (y ∷ ys)

  -- rows that are found by their numbers
  pub rows-found : (rows xs : List A) → AllByRecursion (λ x. find (λ r. nat_eq (number r) (number x)) rows ≡ Some x) xs → rows_at number (map number xs) rows ≡ xs
  rows-found rows [] h = refl
  rows-found rows (x ∷ xs) h = λ i. option_to_list (h.0 i) ++ rows-found rows xs h.1 i

  pub numbers-listed : (most : ℕ) (xs : List A) → page_numbers most (map entry xs) ≡ map number (take most xs)
  numbers-listed most xs = ap (map (λ (e : List ℕ × ℕ). e.1)) (take-entries most xs) ∙ numbers-of (take most xs)

  pub next-listed : (most : ℕ) (xs : List A) → page_next most (map entry xs) ≡ (if nat_lt (length (take most xs)) (length xs) then last_name name (take most xs) else None)
  next-listed most xs =
      (λ i. if nat_lt (length (take-entries most xs i)) (length-map xs entry i) then last_name key (take-entries most xs i) else None)
      ∙ (λ i. if nat_lt (length-map (take most xs) entry i) (length xs) then last-entry (take most xs) i else None)

  -- each row is found by its number
  all-found : (xs : List A) → Ordered (λ a b. number a < number b) xs → AllByRecursion (λ x. find (λ r. nat_eq (number r) (number x)) xs ≡ Some x) xs
  all-found [] up = tt
  all-found (x ∷ xs) up = (
    ap (λ (b : Bool). cond b (Some x) (find (λ r. nat_eq (number r) (number x)) xs)) (eq-eqb (number x) (number x) refl),
    each-then-both (λ y. number x < number y) (λ y. find (λ r. nat_eq (number r) (number y)) xs ≡ Some y) (λ y. find (λ r. nat_eq (number r) (number y)) (x ∷ xs) ≡ Some y) xs
        (λ y above found. let other : number x ≢ number y = omega (arith, above) in ap (λ (b : Bool). cond b (Some x) (find (λ r. nat_eq (number r) (number y)) xs)) (ne_eqb (number x) (number y) other) ∙ found) up.0 (all-found xs up.1),
  )

  each-take : (P : A → Type 0) (n : ℕ) (xs : List A) → AllByRecursion P xs → AllByRecursion P (take n xs)
  each-take P zero [] h = tt
  each-take P zero (x ∷ xs) h = tt
  each-take P (suc n) [] h = tt
  each-take P (suc n) (x ∷ xs) h = (h.0, each-take P n xs h.1)

  -- the rows of a page
  pub page-rows : (kept : A → Bool) (token : List ℕ) (most : ℕ) (xs : List A) → Ordered (λ a b. number a < number b) xs
      → rows_at number (page_numbers most (map entry (after_token name token (filter kept xs)))) xs ≡ take most (after_token name token (filter kept xs))
  page-rows kept token most xs up =
      let found = λ (x : A). find (λ r. nat_eq (number r) (number x)) xs ≡ Some x in
      ap (λ ns. rows_at number ns xs) (numbers-listed most (after_token name token (filter kept xs)))
      ∙ rows-found xs (take most (after_token name token (filter kept xs)))
      (each-take found most (after_token name token (filter kept xs)) (each-left found (λ x. is_below token (name x)) (sorted_by name (filter kept xs)) (each-sorted name found (filter kept xs) (each-left found kept xs (all-found xs up)))))
