-- What the query for the count, the least and the greatest number answers.
use Rattle.std.proofs.Common.{◌≡◌, inl, inr, ◌≤◌, ℕ, suc, ◌+◌, ℤ, pos, negsuc, min, List, [], ◌∷◌, ◌++◌, length, map, filter, fold, true, false, if◌then◌else◌, append-nil, append_assoc, Some, All, Contains, FitsSigned, IsTrue, IsPermutation, refl, sym, ap, subst, ◌∙◌, arith}
use Rattle.std.specs.List.{AllByRecursion, AllZip, list_all}
use Rattle.std.proofs.lemmas.Bool.{cases_Bool}
use Rattle.std.specs.Prelude.{int_lt}
use Rattle.std.specs.Int.{int_min, int_max, w64}
use Rattle.std.specs.Int.Signed.{◌≤ℤ◌}
use Rattle.std.proofs.lemmas.Int.{ints, fold-int_min_bounds, fold-int_max_bounds, fold-int_min_reached, fold-int_max_reached}
use Rattle.std.proofs.lemmas.List.{length-map}
use Rattle.std.proofs.lemmas.List.Elements.{All-nil, All-cons, Contains-append_right}
use Rattle.std.proofs.lemmas.List.Sorted.{length_permutation, All-permutation, Contains-permutation, IsPermutation-map, IsPermutation-sym}
use Rattle.std.specs.Ordering.{is_gt, is_lt}
use Rattle.sqlite.specs.Collation.TheVariants.{Binary}
use Rattle.sqlite.specs.declared.types.Value.{Value}
use Rattle.sqlite.specs.declared.types.Value.TheVariants.{Null, Int, Real, Text, Blob}
use Rattle.sqlite.specs.Order.{Row, column}
use Rattle.sqlite.specs.Term.{Env, lit, col, eval, holds}
use Rattle.sqlite.specs.Tree.{Trees, rowid}
use Rattle.sqlite.specs.Query.{Output, IsAnswer, output, page}
use Rattle.sqlite.specs.Program.{overlay}
use Rattle.sqlite.proofs.Callers.{one_permutation}
use Rattle.sqlite_value.proofs.OrderLemmas.{value_cmp-Int}
use Rattle.sqlite_trees.specs.View.{is_int}
use Rattle.sqlite_sql.specs.Aggregate.{count, best, better, skips, arguments}
use Rattle.sqlite_sql.specs.Group.{Aggregate, IsSummary, value_over}
use Rattle.ps_sqlkeep.specs.Kept.{rows_from, stored, IsNumbered}
use Rattle.ps_sqlkeep.specs.Summary.{CountsUp, IsEntry, IsTableOfEntries}
use Rattle.ps_sqlkeep.proofs.Numbers.{IsWithin, runs}
use Rattle.ps_sqlkeep.proofs.Texts.{counts, count_query}
use Rattle.ps_sqlkeep.proofs.Rows.{length-rows}
use Rattle.ps_sqlkeep.proofs.Delete.{staged_is}

abbrev env : Row → Env
env r = [] ∷ r ∷ []

-- the value of the number at each row of a group
abbrev numbers : List Env → List Value
numbers = map (eval (col 1 0))

-- the row that shows the summary of a group
abbrev pub summary : List Env → Row
summary order =
    let vs = arguments Binary false (numbers order) in
    count (length order) ∷ best Binary false vs ∷ best Binary true vs ∷ []

some_value : {X : Type 0} {x y : X} → Some x ≡ Some y → x ≡ y
some_value e = cc

values_are : (order : List Env) (values : Row) → AllZip (λ (a : Aggregate) v. value_over order a ≡ Some v) counts.aggregates values → values ≡ summary order
values_are order [] zip = absurd zip
values_are order (a ∷ []) zip = absurd zip.1
values_are order (a ∷ b ∷ []) zip = absurd zip.1.1
values_are order (a ∷ b ∷ c ∷ []) zip =
    let rows : a ≡ count (length order) = sym (some_value zip.0) ∙ ap count (length-map order (eval (lit Null))) in
    let low : b ≡ best Binary false (arguments Binary false (numbers order)) = sym (some_value zip.1.0) in
    let high : c ≡ best Binary true (arguments Binary false (numbers order)) = sym (some_value zip.1.1.0) in
    rw (rows, low, high) refl
values_are order (a ∷ b ∷ c ∷ d ∷ more) zip = absurd zip.1.1.1

one_summary : (order : List Env) (rows : List Row) → AllZip (IsSummary counts) (order ∷ []) rows → rows ≡ summary order ∷ []
one_summary order [] zip = absurd zip
one_summary order (r ∷ []) zip = ap (λ x. x ∷ []) (zip.0.2 ∙ values_are order zip.0.0 zip.0.1)
one_summary order (r ∷ q ∷ more) zip = absurd zip.1

-- the answer is one row, the summary of the table's rows in some order
pub answer_is : (db : Trees) (rows : List Row) → IsAnswer count_query (overlay db []) [] rows → (order : List Env) × IsPermutation (map env (db 0)) order × (rows ≡ summary order ∷ [])
answer_is db rows a =
    let g = a.grouped in
    let order = g.grouping.0 in
    let same = subst (λ xs. IsPermutation xs order) (staged_is [] (db 0)) g.grouping.1 in
    let one = one_summary order g.rows (subst (λ gs. AllZip (IsSummary counts) gs g.rows) g.grouping.2 g.summaries) in
    let staged : a.staged ≡ env (summary order) ∷ [] = g.having ∙ ap (λ rs. filter (λ e. list_all (holds e) counts.having) (map (λ (r : Row). [] ∷ r ∷ []) rs)) one in
    let kept : a.kept ≡ ([], summary order) ∷ [] = a.distinct ∙ ap (map (output count_query)) staged in
    let ordered : a.ordered ≡ ([], summary order) ∷ [] = one_permutation _ a.ordered (subst (λ k. IsPermutation k a.ordered) kept a.same) in
    (order, same, a.shown ∙ ap (λ xs. page count_query [] (map (λ (o : Output). o.1) xs)) ordered)

abbrev pub int_in : Value → ℤ
int_in (Int z) = z
int_in _ = pos 0

-- the numbers of rows whose numbers are integers
abbrev pub ints_in : List Value → List ℤ
ints_in vs = map int_in vs

only_ints : (vs : List Value) → AllByRecursion (λ v. IsTrue (is_int v)) vs → vs ≡ map Int (ints_in vs)
only_ints [] all = refl
only_ints (Int z ∷ vs) all = ap (λ rest. Int z ∷ rest) (only_ints vs all.1)
only_ints (Null ∷ vs) all = absurd (let e = all.0 in cc)
only_ints (Real x ∷ vs) all = absurd (let e = all.0 in cc)
only_ints (Text t ∷ vs) all = absurd (let e = all.0 in cc)
only_ints (Blob b ∷ vs) all = absurd (let e = all.0 in cc)

-- no integer is skipped
all_taken : (zs : List ℤ) (seen : List Value) → fold (λ seen v. if skips Binary false seen v then seen else seen ++ v ∷ []) seen (map Int zs) ≡ seen ++ map Int zs
all_taken [] seen = sym (append-nil seen)
all_taken (z ∷ zs) seen = all_taken zs (seen ++ Int z ∷ []) ∙ append_assoc seen (Int z ∷ []) (map Int zs)

lesser : (a x : ℤ) → better Binary false (Int a) (Int x) ≡ Int (int_min a x)
lesser a x = ap (λ o. if is_gt o then Int x else Int a) (value_cmp-Int a x) ∙ elim (cases_Bool (int_lt x a)) [
  | inl under ↦ let not : int_lt a x ≡ false = grind (arith, ints) in rw (not, under) refl
  | inr over ↦ elim (cases_Bool (int_lt a x)) [ inl up ↦ rw (up, over) refl | inr same ↦ rw (same, over) refl ]
]

greater : (a x : ℤ) → better Binary true (Int a) (Int x) ≡ Int (int_max a x)
greater a x = ap (λ o. if is_lt o then Int x else Int a) (value_cmp-Int a x) ∙ elim (cases_Bool (int_lt a x)) [
  | inl up ↦ let not : int_lt x a ≡ false = grind (arith, ints) in rw (up, not) refl
  | inr over ↦ elim (cases_Bool (int_lt x a)) [
    | inl under ↦ rw (over, under) refl
    | inr none ↦ let same : a ≡ x = grind (arith, ints) in rw (over, none) (ap Int same)
  ]
]

least_is : (zs : List ℤ) (a : ℤ) → fold (better Binary false) (Int a) (map Int zs) ≡ Int (fold int_min a zs)
least_is [] a = refl
least_is (z ∷ zs) a = ap (λ v. fold (better Binary false) v (map Int zs)) (lesser a z) ∙ least_is zs (int_min a z)

greatest_is : (zs : List ℤ) (a : ℤ) → fold (better Binary true) (Int a) (map Int zs) ≡ Int (fold int_max a zs)
greatest_is [] a = refl
greatest_is (z ∷ zs) a = ap (λ v. fold (better Binary true) v (map Int zs)) (greater a z) ∙ greatest_is zs (int_max a z)

-- some row has the least number, and no row has a lower one; the same of the greatest
record Bounds (zs : List ℤ) (low high : ℤ) : Type 0 where
  pub lowest : All (λ z. low ≤ℤ z) zs
  pub highest : All (λ z. z ≤ℤ high) zs
  pub has_low : Contains zs low
  pub has_high : Contains zs high

bounds_of : (z : ℤ) (zs : List ℤ) → Bounds (z ∷ zs) (fold int_min z zs) (fold int_max z zs)
bounds_of z zs =
    let low = fold-int_min_bounds z zs (fold int_min z zs) refl in
    let high = fold-int_max_bounds z zs (fold int_max z zs) refl in
    record {
      lowest = All-cons (λ y. fold int_min z zs ≤ℤ y) z zs low.0 low.1;
      highest = All-cons (λ y. y ≤ℤ fold int_max z zs) z zs high.0 high.1;
      has_low = elim (fold-int_min_reached z zs (fold int_min z zs) refl) [ inl first ↦ (0, omega arith, sym first) | inr later ↦ Contains-append_right (z ∷ []) zs _ later ];
      has_high = elim (fold-int_max_reached z zs (fold int_max z zs) refl) [ inl first ↦ (0, omega arith, sym first) | inr later ↦ Contains-append_right (z ∷ []) zs _ later ];
    }

all_of : {X : Type 0} (P : X → Type 0) (xs : List X) → AllByRecursion P xs → All P xs
all_of P [] all = All-nil P
all_of P (x ∷ xs) all = All-cons P x xs all.0 (all_of P xs all.1)

each_of : {X : Type 0} (P : X → Type 0) (xs : List X) → All P xs → AllByRecursion P xs
each_of P [] all = tt
each_of P (x ∷ xs) all = (all 0 x (omega arith), each_of P xs (λ i d low. all (suc i) d (omega (arith, low))))

at_element : {X : Type 0} (P : X → Type 0) (xs : List X) (x : X) → All P xs → Contains xs x → P x
at_element P xs x all found = subst P found.2 (all found.0 x found.1)

abbrev ids : List Row → List ℤ
ids rows = ints_in (map rowid rows)

ids_are_ints : (rows : List Row) → AllByRecursion IsEntry rows → AllByRecursion (λ v. IsTrue (is_int v)) (map rowid rows)
ids_are_ints [] each = tt
ids_are_ints (r ∷ rows) each = (rw each.0.is refl, ids_are_ints rows each.1)

evals_are : (rows : List Row) → map (eval (col 1 0)) (map env rows) ≡ map rowid rows
evals_are [] = refl
evals_are (r ∷ rows) = ap (λ rest. rowid r ∷ rest) (evals_are rows)

within : (high : ℕ) (rows : List Row) → AllByRecursion IsEntry rows → AllByRecursion (λ z. pos 1 ≤ℤ z) (ids rows) → AllByRecursion (λ z. z ≤ℤ pos high) (ids rows) → AllByRecursion (IsWithin 1 high) rows
within high [] each low most = tt
within high (r ∷ rows) each low most =
    let it = each.0 in
    (go it.number it.body it.is (subst (λ (x : Row). pos 1 ≤ℤ int_in (rowid x)) it.is low.0) (subst (λ (x : Row). int_in (rowid x) ≤ℤ pos high) it.is most.0), within high rows each.1 low.1 most.1)
  where
    go : (z : ℤ) (body : Value) → r ≡ Int z ∷ Null ∷ body ∷ [] → pos 1 ≤ℤ z → z ≤ℤ pos high → IsWithin 1 high r
    go (pos n) body is above below = record { number = n; body = body; is = is; above = omega (arith, ints, above); below = omega (arith, ints, below) }
    go (negsuc n) body is above below = absurd (omega (arith, ints, above))

-- the numbers of rows without a gap
all_above : (n : ℕ) (values : List Value) → 1 ≤ n → All (λ z. pos 1 ≤ℤ z) (ids (rows_from n values))
all_above n [] low = All-nil (λ z. pos 1 ≤ℤ z)
all_above n (v ∷ values) low = All-cons (λ z. pos 1 ≤ℤ z) (pos n) _ (omega (arith, ints, low)) (all_above (n + 1) values (omega (arith, low)))

all_below : (n high : ℕ) (values : List Value) → n + length values ≤ high + 1 → All (λ z. z ≤ℤ pos high) (ids (rows_from n values))
all_below n high [] low = All-nil (λ z. z ≤ℤ pos high)
all_below n high (v ∷ values) low = All-cons (λ z. z ≤ℤ pos high) (pos n) _ (omega (arith, ints, low)) (all_below (n + 1) high values (omega (arith, low)))

has_last : (n : ℕ) (v : Value) (values : List Value) → Contains (ids (rows_from n (v ∷ values))) (pos (n + length values))
has_last n v [] = (0, omega arith, ap pos (let e : n ≡ n + 0 = omega arith in e))
has_last n v (w ∷ values) =
    let e : n + 1 + length values ≡ n + suc (length values) = omega arith in
    Contains-append_right (pos n ∷ []) (ids (rows_from (n + 1) (w ∷ values))) _ (subst (λ k. Contains (ids (rows_from (n + 1) (w ∷ values))) (pos k)) e (has_last (n + 1) w values))

same_int : {a b : ℤ} → Int a ≡ Int b → a ≡ b
same_int e = cc

no_rows : (rows : List Row) → length rows ≡ 0 → rows ≡ []
no_rows [] e = refl
no_rows (r ∷ rows) e = absurd (omega (arith, e))

module _ (rows : List Row) (table : IsTableOfEntries rows) (order : List Env) (same : IsPermutation (map env rows) order) where
  abbrev zs : List ℤ
  zs = ints_in (numbers order)

  values_same : IsPermutation (map rowid rows) (numbers order)
  values_same = subst (λ vs. IsPermutation vs (numbers order)) (evals_are rows) (IsPermutation-map (eval (col 1 0)) (map env rows) order same)

  ids_same : IsPermutation (ids rows) zs
  ids_same = IsPermutation-map int_in (map rowid rows) (numbers order) values_same

  numbers_are : numbers order ≡ map Int zs
  numbers_are = only_ints (numbers order) (each_of (λ v. IsTrue (is_int v)) _ (All-permutation (λ v. IsTrue (is_int v)) (map rowid rows) (numbers order) values_same
      (all_of (λ v. IsTrue (is_int v)) _ (ids_are_ints rows table.each))))

  lengths : (length order ≡ length rows) × (length zs ≡ length rows)
  lengths =
      let one = length_permutation (map env rows) order same in
      let two = length-map rows env in
      (omega (arith, one, two), length-map (numbers order) int_in ∙ length-map order (eval (col 1 0)) ∙ omega (arith, one, two))

  taken : arguments Binary false (numbers order) ≡ map Int zs
  taken = ap (arguments Binary false) numbers_are ∙ all_taken zs []

  abbrev shown : List ℤ → Row
  shown ys = count (length order) ∷ best Binary false (map Int ys) ∷ best Binary true (map Int ys) ∷ []

  summary_is : summary order ≡ shown zs
  summary_is = ap (λ vs. count (length order) ∷ best Binary false vs ∷ best Binary true vs ∷ []) taken

  numbered_if : (ys : List ℤ) → zs ≡ ys → CountsUp (shown ys) → IsNumbered rows
  numbered_if ys is (inl none) =
      let zero : min (length order) 9223372036854775807 ≡ 0 = cc in
      rw (no_rows rows (omega (arith, zero, lengths.0))) refl
  numbered_if [] is (inr up) = absurd (let e = up.2 in cc)
  numbered_if (y ∷ ys) is (inr up) =
      let high = min (length order) 9223372036854775807 in
      let it = bounds_of y ys in
      let low : fold int_min y ys ≡ pos 1 = same_int (sym (least_is ys y) ∙ up.2) in
      let top : fold int_max y ys ≡ pos high = same_int (sym (greatest_is ys y) ∙ up.3 ∙ sym up.1) in
      let back = IsPermutation-sym (ids rows) zs ids_same in
      let above = All-permutation (λ z. pos 1 ≤ℤ z) zs (ids rows) back (rw (is, ← low) it.lowest) in
      let below = All-permutation (λ z. z ≤ℤ pos high) zs (ids rows) back (rw (is, ← top) it.highest) in
      let run = runs 1 high rows (omega arith) table.rising (within high rows table.each (each_of _ _ above) (each_of _ _ below)) in
      let most = run.0 in
      run.1 (omega (arith, most, lengths.0))

  pub numbered_by_count : CountsUp (summary order) → IsNumbered rows
  numbered_by_count h = numbered_if zs refl (subst CountsUp summary_is h)

  counts_if : (values : List Value) → rows ≡ rows_from 1 values → (ys : List ℤ) → zs ≡ ys → ((n : ℤ) → column (shown ys) 2 ≡ Int n → FitsSigned w64 n) → CountsUp (shown ys)
  counts_if [] is ys zs_is fits = inl (ap count (lengths.0 ∙ ap length is))
  counts_if (v ∷ values) is [] zs_is fits = absurd (
      let e = ap length zs_is in let f = ap length is in omega (arith, e, f, lengths.1))
  counts_if (v ∷ values) is (y ∷ ys) zs_is fits =
      let it = bounds_of y ys in
      let n = 1 + length values in
      let ids_is : ids rows ≡ ids (rows_from 1 (v ∷ values)) = ap ids is in
      let same_ids = subst (λ xs. IsPermutation xs (y ∷ ys)) ids_is (subst (IsPermutation (ids rows)) zs_is ids_same) in
      let above = at_element (λ z. pos 1 ≤ℤ z) (y ∷ ys) _ (All-permutation (λ z. pos 1 ≤ℤ z) _ _ same_ids (all_above 1 (v ∷ values) (omega arith))) it.has_low in
      let below = at_element (λ z. z ≤ℤ pos n) (y ∷ ys) _ (All-permutation (λ z. z ≤ℤ pos n) _ _ same_ids (all_below 1 n (v ∷ values) (omega arith))) it.has_high in
      let first = at_element (λ z. fold int_min y ys ≤ℤ z) (y ∷ ys) (pos 1) it.lowest (Contains-permutation _ _ (pos 1) same_ids (0, omega arith, refl)) in
      let last = at_element (λ z. z ≤ℤ fold int_max y ys) (y ∷ ys) (pos n) it.highest (Contains-permutation _ _ (pos n) same_ids (has_last 1 v values)) in
      let low : fold int_min y ys ≡ pos 1 = let a : pos 1 ≤ℤ fold int_min y ys = above in let b : fold int_min y ys ≤ℤ pos 1 = first in grind (arith, ints) in
      let top : fold int_max y ys ≡ pos n = let a : fold int_max y ys ≤ℤ pos n = below in let b : pos n ≤ℤ fold int_max y ys = last in grind (arith, ints) in
      let fit : FitsSigned w64 (pos n) = fits (pos n) (greatest_is ys y ∙ ap Int top) in
      let rows_are : length rows ≡ n = let e = ap length is in let f = length-rows 1 (v ∷ values) in omega (arith, e, f) in
      let count_is : count (length order) ≡ Int (pos n) = ap (λ k. Int (pos k)) (omega (arith, lengths.0, rows_are, fit)) in
      inr (pos n, count_is, least_is ys y ∙ ap Int low, greatest_is ys y ∙ ap Int top)

  pub counts_by_number : IsNumbered rows → ((n : ℤ) → column (summary order) 2 ≡ Int n → FitsSigned w64 n) → CountsUp (summary order)
  counts_by_number h fits = subst CountsUp (sym summary_is) (counts_if (stored rows) h zs refl (subst (λ (row : Row). (n : ℤ) → column row 2 ≡ Int n → FitsSigned w64 n) summary_is fits))
