-- What the query for a page answers.
use Rattle.std.proofs.Common.{inl, inr, if◌then◌else◌, ◌≡◌, ◌<◌, ℕ, zero, suc, ◌+◌, pos, List, [], ◌∷◌, map, take, drop, Bool, true, false, refl, ap, subst, ◌∙◌, arith, nat_lt, flat_map, IsPermutation}
use Rattle.std.specs.declared.cmp.Ordering.TheVariants.{Less, Equal}
use Rattle.std.specs.Ordering.{ordering_then, is_gt}
use Rattle.std.specs.List.{AllByRecursion, list_all}
use Rattle.std.proofs.lemmas.Bool.{cases_Bool}
use Rattle.std.proofs.lemmas.Int.{ints}
use Rattle.std.proofs.lemmas.Bool.Decides.{nat_tests}
use Rattle.sqlite.specs.declared.types.Value.{Value}
use Rattle.sqlite.specs.declared.types.Value.TheVariants.{Int}
use Rattle.sqlite.specs.Order.{Row, value_cmp}
use Rattle.sqlite.specs.Ops.{binary}
use Rattle.sqlite.specs.Term.{Env, holds}
use Rattle.sqlite.specs.Tree.{Trees, IsAscending}
use Rattle.sqlite.specs.Query.{Output, IsAnswer, output, output_cmp, page}
use Rattle.sqlite.specs.Program.{overlay}
use Rattle.sqlite_value.proofs.OrderLemmas.{value_cmp-Int}
use Rattle.sqlite_sql.proofs.QueryLemmas.{output_cmp_total}
use Rattle.sqlite_keyed.proofs.SortLemmas.{sorted_unique}
use Rattle.ps_sqlkeep.specs.Kept.{row_of, rows_from, shown_from}
use Rattle.ps_sqlkeep.proofs.Texts.{page_query}
use Rattle.ps_sqlkeep.proofs.Rows.{lower_id}

module _ (after most : ℕ) where
  abbrev params : Row
  params = Int (pos after) ∷ Int (pos most) ∷ []

  abbrev env : Row → Env
  env r = params ∷ r ∷ []

  abbrev passes : Row → Bool
  passes r = list_all (holds (env r)) page_query.filter

  greater : (k : ℕ) → is_gt (value_cmp (Int (pos k)) (Int (pos after))) ≡ nat_lt after k
  greater k = ap is_gt (value_cmp-Int (pos k) (pos after)) ∙ grind (arith, ints, nat_tests)

  pass_is : (k : ℕ) (body : Value) → passes (row_of k body) ≡ nat_lt after k
  unfolding binary
  pass_is k body = elim (cases_Bool (nat_lt after k)) [
    | inl above ↦ rw (greater k, above) refl
    | inr under ↦ rw (greater k, under) refl
  ]

  abbrev one : Row → List Env
  one r = if passes r then env r ∷ [] else []

  -- rows past the number are all found, and those up to it are not
  all_past : (n : ℕ) (values : List Value) → after < n → flat_map one (rows_from n values) ≡ map env (rows_from n values)
  all_past n [] low = refl
  all_past n (b ∷ bs) low =
      let above : passes (row_of n b) ≡ true = pass_is n b ∙ grind (arith, nat_tests) in
      rw above (ap (λ rest. env (row_of n b) ∷ rest) (all_past (n + 1) bs (omega (arith, low))))

  found : (n : ℕ) (values : List Value) (skip : ℕ) → n + skip ≡ after + 1 → flat_map one (rows_from n values) ≡ map env (rows_from (after + 1) (drop skip values))
  found n values zero e = let same : n ≡ after + 1 = omega (arith, e) in rw same (all_past (after + 1) values (omega arith))
  found n [] (suc skip) e = refl
  found n (b ∷ bs) (suc skip) e =
      let under : passes (row_of n b) ≡ false = pass_is n b ∙ grind (arith, nat_tests, e) in
      rw under (found (n + 1) bs skip (omega (arith, e)))

  abbrev out : ℕ → Value → Output
  out n body = (Int (pos n) ∷ [], Int (pos n) ∷ body ∷ [])

  abbrev outs : ℕ → List Value → List Output
  outs n [] = []
  outs n (b ∷ bs) = out n b ∷ outs (n + 1) bs

  outs_are : (n : ℕ) (values : List Value) → map (output page_query) (map env (rows_from n values)) ≡ outs n values
  outs_are n [] = refl
  outs_are n (b ∷ bs) = ap (λ rest. out n b ∷ rest) (outs_are (n + 1) bs)

  abbrev IsBelow : Output → Output → Type 0
  IsBelow a b = output_cmp page_query a b ≡ Less

  below : (k n : ℕ) (a b : Value) → k < n → IsBelow (out k a) (out n b)
  below k n a b low = ap (λ o. ordering_then o Equal) (lower_id k n low)

  below_all : (k : ℕ) (a : Value) (n : ℕ) (values : List Value) → k < n → AllByRecursion (IsBelow (out k a)) (outs n values)
  below_all k a n [] low = tt
  below_all k a n (b ∷ bs) low = (below k n a b low, below_all k a (n + 1) bs (omega (arith, low)))

  rising : (n : ℕ) (values : List Value) → IsAscending IsBelow (outs n values)
  rising n [] = tt
  rising n (b ∷ bs) = (below_all n b (n + 1) bs (omega arith), rising (n + 1) bs)

  shown_are : (count n : ℕ) (values : List Value) → take count (map (λ (o : Output). o.1) (outs n values)) ≡ shown_from n (take count values)
  shown_are zero n values = refl
  shown_are (suc count) n [] = refl
  shown_are (suc count) n (b ∷ bs) = ap (λ rest. (Int (pos n) ∷ b ∷ []) ∷ rest) (shown_are count (n + 1) bs)

  pub answer_is : (db : Trees) (values : List Value) (rows : List Row) → db 0 ≡ rows_from 1 values → IsAnswer page_query (overlay db []) params rows → rows ≡ shown_from (after + 1) (take most (drop after values))
  answer_is db values rows has a =
      let staged : a.staged ≡ map env (rows_from (after + 1) (drop after values)) = a.grouped ∙ ap (flat_map one) has ∙ found 1 values after (omega arith) in
      let kept : a.kept ≡ outs (after + 1) (drop after values) = a.distinct ∙ ap (map (output page_query)) staged ∙ outs_are (after + 1) (drop after values) in
      let ordered : a.ordered ≡ outs (after + 1) (drop after values) =
      sorted_unique (output_cmp page_query) (output_cmp_total page_query) _ a.ordered (rising (after + 1) (drop after values)) (subst (λ k. IsPermutation k a.ordered) kept a.same) a.sorted in
      a.shown ∙ ap (λ xs. page page_query params (map (λ (o : Output). o.1) xs)) ordered ∙ shown_are most (after + 1) (drop after values)
