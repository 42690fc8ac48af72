-- A page of entries: how far a walk over them goes, and what it takes.
use Rattle.std.proofs.Common.{◌≡◌, ◌≢◌, ◌+◌, ℕ, zero, suc, String, Bor, string_bytes, Bool, true, false, cond, ◌&&◌, List, [], ◌∷◌, ◌++◌, map, filter, take, length, length-append, nat_lt, nat_eq, ◌<◌, ◌⊎◌, inl, inr, Option, Some, None, MatchOption, option_map, refl, sym, ap, subst, ◌∙◌, arith, Ordering, if◌then◌else◌}
use Rattle.std.specs.List.{AllByRecursion, starts_with}
use Rattle.std.specs.Map.{lookup, keys_of}
use Rattle.std.specs.BTreeMap.{is_at}
use Rattle.std.specs.BTreeMap.Range.{entries_between}
use Rattle.std.specs.List.Sorted.{IsStrictlySortedBy}
use Rattle.std.specs.String.{string_cmp}
use Rattle.std.specs.declared.ops.Bound.TheVariants.{Excluded, Unbounded}
use Rattle.std.proofs.lemmas.Map.Keys.{sorted_head, sorted_tail}
use Rattle.std.specs.Str.{bytes_eq}
use Rattle.std.specs.Cmp.Lexicographic.{slice_cmp}
use Rattle.std.specs.Ordering.{is_lt, nat_cmp, ordering_then, MatchOrdering}
use Rattle.std.specs.declared.cmp.Ordering.TheVariants.{Less, Equal, Greater}
use Rattle.std.proofs.lemmas.Bool.{both_ways, false_from_ne_true, and_parts, and_from, eqb-true, eq-eqb, ne_eqb}
use Rattle.std.proofs.lemmas.Bool.Decides.{nat_tests}
use Rattle.std.proofs.lemmas.List.{append_assoc, append-nil}
use Rattle.std.proofs.lemmas.Map.Text.{is_eq-slice_cmp}
use Rattle.std.proofs.lemmas.Slice.Eq.{bytes_eq-Decides}
use Rattle.std.proofs.lemmas.Cmp.{ranked}
use Rattle.ps_base.specs.Keys.{is_below}
use Rattle.ps_model.specs.Listing.{last_name}
use Rattle.ps_model.specs.Sound.{Ordered}
use Rattle.ps_base.proofs.Lists.{each-always, each-filter, filter-none}
use Rattle.ps_tables.specs.Pages.{later, is_in_range, page_numbers, page_next, with_bytes}
use Rattle.ps_tables.proofs.lists.Filtered.{filter-twice}
use Rattle.ps_tables.proofs.lists.Ordered.{ordered-filter}
use Rattle.ps_tables.proofs.names.Order.{Up, below-trans, below-other, below-irrefl}

-- ---- fronts

abbrev pub begins : List ℕ → List ℕ → Bool
begins [] xs = true
begins (f ∷ fs) [] = false
begins (f ∷ fs) (x ∷ xs) = nat_eq f x && begins fs xs

pub starts-begins : (front xs : List ℕ) → starts_with nat_eq xs front ≡ begins front xs
starts-begins [] xs = refl
starts-begins (f ∷ fs) [] = refl
starts-begins (f ∷ fs) (x ∷ xs) = ap (λ b. nat_eq f x && b) (starts-begins fs xs)

-- the first bytes decide, or they are equal
below-parts : (a b : ℕ) (xs ys : List ℕ) → is_below (a ∷ xs) (b ∷ ys) ≡ true → (a < b) ⊎ ((a ≡ b) × (is_below xs ys ≡ true))
below-parts a b xs ys h = by (nat_cmp a b) (ranked a b (nat_cmp a b) refl) h
  where
    by : (o : Ordering) → MatchOrdering o (a < b) (a ≡ b) (b < a) → is_lt (ordering_then o (slice_cmp nat_cmp xs ys)) ≡ true → (a < b) ⊎ ((a ≡ b) × (is_below xs ys ≡ true))
    by Less r h = inl r
    by Equal r h = inr (r, h)
    by Greater r h = absurd (cc (h))

-- what lies between a front and a name with that front has the front too
begins-between : (front a b : List ℕ) → is_below front a ≡ true → is_below a b ≡ true → begins front b ≡ true → begins front a ≡ true
begins-between [] a b fa ab h = refl
begins-between (f ∷ fs) [] b fa ab h = absurd (cc (fa))
begins-between (f ∷ fs) (x ∷ xs) [] fa ab h = absurd (cc (h))
begins-between (f ∷ fs) (x ∷ xs) (y ∷ ys) fa ab h = at (below-parts f x fs xs fa) (below-parts x y xs ys ab) (begins-between fs xs ys)
  where
    q : (nat_eq f y ≡ true) × (begins fs ys ≡ true)
    q = and_parts (nat_eq f y) (begins fs ys) h

    fy : f ≡ y
    fy = eqb-true f y q.0

    at : (f < x) ⊎ ((f ≡ x) × (is_below fs xs ≡ true)) → (x < y) ⊎ ((x ≡ y) × (is_below xs ys ≡ true)) → (is_below fs xs ≡ true → is_below xs ys ≡ true → begins fs ys ≡ true → begins fs xs ≡ true) → (nat_eq f x && begins fs xs) ≡ true
    at (inl fx) (inl xy) ih = absurd (omega (arith, fx, xy, fy))
    at (inl fx) (inr d) ih = absurd (omega (arith, fx, d.0, fy))
    at (inr e) (inl xy) ih = absurd (omega (arith, e.0, xy, fy))
    at (inr e) (inr d) ih = and_from (nat_eq f x) (begins fs xs) (eq-eqb f x e.0) (ih e.1 d.1 q.1)

-- ---- walking over entries in order

abbrev pub key : List ℕ × ℕ → List ℕ
key = λ e. e.0

module _ (front : List ℕ) (most : ℕ) where
  -- what a loop over the entries comes to, that has these numbers already, and the last name
  abbrev pub walk : List (List ℕ × ℕ) → List ℕ → Option (List ℕ) → List ℕ × Option (List ℕ)
  walk [] numbers last = (numbers, None)
  walk (e ∷ es) numbers last = if starts_with nat_eq e.0 front then (if nat_eq (length numbers) most then (numbers, last) else walk es (numbers ++ e.1 ∷ []) (Some e.0)) else (numbers, None)

  abbrev last_of : Option (List ℕ) → List (List ℕ × ℕ) → Option (List ℕ)
  last_of last [] = last
  last_of last (e ∷ es) = last_of (Some e.0) es

  abbrev in_front : List (List ℕ × ℕ) → List (List ℕ × ℕ)
  in_front es = filter (λ (e : List ℕ × ℕ). starts_with nat_eq e.0 front) es

  -- behind a name without the front, none has it
  none-behind : (a : List ℕ) (es : List (List ℕ × ℕ)) → starts_with nat_eq a front ≡ false → is_below front a ≡ true → AllByRecursion (λ (e : List ℕ × ℕ). is_below a e.0 ≡ true) es → AllByRecursion (λ (e : List ℕ × ℕ). starts_with nat_eq e.0 front ≡ false) es
  none-behind a [] h fa up = tt
  none-behind a (e ∷ es) h fa up = (
    false_from_ne_true (starts_with nat_eq e.0 front) (λ is. both_ways (starts_with nat_eq a front) h (starts-begins front a ∙ begins-between front a e.0 fa up.0 (sym (starts-begins front e.0) ∙ is))),
    none-behind a es h fa up.1,
  )

  abbrev page_behind : ℕ → List ℕ → Option (List ℕ) → List (List ℕ × ℕ) → List ℕ × Option (List ℕ)
  page_behind left numbers last es = (numbers ++ map (λ (e : List ℕ × ℕ). e.1) (take left es), if nat_lt (length (take left es)) (length es) then last_of last (take left es) else None)

  page-empty : (left : ℕ) (numbers : List ℕ) (last : Option (List ℕ)) → (numbers, None) ≡ page_behind left numbers last []
  page-empty zero numbers last = λ i. (sym (append-nil numbers) i, None)
  page-empty (suc left) numbers last = λ i. (sym (append-nil numbers) i, None)

  more : (a b : ℕ) → nat_lt (suc a) (suc b) ≡ nat_lt a b
  more a b = grind (arith, nat_tests)

  some : (n : ℕ) → nat_lt 0 (suc n) ≡ true
  some n = grind (arith, nat_tests)

  walk-is : (es : List (List ℕ × ℕ)) (numbers : List ℕ) (last : Option (List ℕ)) (left : ℕ) → Ordered (λ (a b : List ℕ × ℕ). is_below a.0 b.0 ≡ true) es → AllByRecursion (λ (e : List ℕ × ℕ). is_below front e.0 ≡ true) es → length numbers + left ≡ most
      → walk es numbers last ≡ page_behind left numbers last (in_front es)
  walk-is [] numbers last left up below room = page-empty left numbers last
  walk-is (e ∷ es) numbers last left up below room = by (starts_with nat_eq e.0 front) refl left room (λ left room. walk-is es (numbers ++ e.1 ∷ []) (Some e.0) left up.1 below.1 room)
    where
      by : (b : Bool) → starts_with nat_eq e.0 front ≡ b → (left : ℕ) → length numbers + left ≡ most
          → ((left : ℕ) → length (numbers ++ e.1 ∷ []) + left ≡ most → walk es (numbers ++ e.1 ∷ []) (Some e.0) ≡ page_behind left (numbers ++ e.1 ∷ []) (Some e.0) (in_front es))
          → (if b then (if nat_eq (length numbers) most then (numbers, last) else walk es (numbers ++ e.1 ∷ []) (Some e.0)) else (numbers, None)) ≡ page_behind left numbers last (cond b (e ∷ in_front es) (in_front es))
      by false is left room ih = page-empty left numbers last ∙ ap (page_behind left numbers last) (sym (filter-none (λ (e : List ℕ × ℕ). starts_with nat_eq e.0 front) es (none-behind e.0 es is below.0 up.0)))
      by true is zero room ih =
          let full : length numbers ≡ most = omega (arith, room) in
          ap (λ (b : Bool). if b then (numbers, last) else walk es (numbers ++ e.1 ∷ []) (Some e.0)) (eq-eqb (length numbers) most full)
          ∙ (λ i. (sym (append-nil numbers) i, if sym (some (length (in_front es))) i then last else None))
      by true is (suc left) room ih =
          let free : length numbers ≢ most = omega (arith, room) in
          let next : length (numbers ++ e.1 ∷ []) + left ≡ most = omega (arith, room, length-append numbers (e.1 ∷ [])) in
          ap (λ (b : Bool). if b then (numbers, last) else walk es (numbers ++ e.1 ∷ []) (Some e.0)) (ne_eqb (length numbers) most free)
          ∙ ih left next
          ∙ (λ i. (append_assoc numbers (e.1 ∷ []) (map (λ (e : List ℕ × ℕ). e.1) (take left (in_front es))) i, if sym (more (length (take left (in_front es))) (length (in_front es))) i then last_of (Some e.0) (take left (in_front es)) else None))

  last-of : (e : List ℕ × ℕ) (es : List (List ℕ × ℕ)) → last_of (Some e.0) es ≡ last_name key (e ∷ es)
  last-of e [] = refl
  last-of e (f ∷ es) = last-of f es

  last-none : (es : List (List ℕ × ℕ)) → last_of None es ≡ last_name key es
  last-none [] = refl
  last-none (e ∷ es) = last-of e es

-- ---- two lists of entries in order in which the same is found

own-key : (q : List ℕ) → is_at (slice_cmp nat_cmp q) q ≡ true
own-key q = is_eq-slice_cmp q q ∙ (bytes_eq-Decides q q).1 refl

same-key : (q k : List ℕ) → is_at (slice_cmp nat_cmp q) k ≡ true → q ≡ k
same-key q k h = (bytes_eq-Decides q k).0 (sym (is_eq-slice_cmp q k) ∙ h)

nowhere : (q : List ℕ) (es : List (List ℕ × ℕ)) → AllByRecursion (λ (e : List ℕ × ℕ). is_below q e.0 ≡ true) es → lookup (is_at (slice_cmp nat_cmp q)) es ≡ None
nowhere q [] up = refl
nowhere q (e ∷ es) up =
    ap (λ (b : Bool). cond b (Some e.1) (lookup (is_at (slice_cmp nat_cmp q)) es)) (false_from_ne_true (is_at (slice_cmp nat_cmp q) e.0) (λ is. below-irrefl q e.0 up.0 (same-key q e.0 is)))
    ∙ nowhere q es up.1

here : (e : List ℕ × ℕ) (es : List (List ℕ × ℕ)) → lookup (is_at (slice_cmp nat_cmp e.0)) (e ∷ es) ≡ Some e.1
here e es = ap (λ (b : Bool). cond b (Some e.1) (lookup (is_at (slice_cmp nat_cmp e.0)) es)) (own-key e.0)

above-all : (a : List ℕ) (e : List ℕ × ℕ) (es : List (List ℕ × ℕ)) → is_below a e.0 ≡ true → AllByRecursion (λ (f : List ℕ × ℕ). is_below e.0 f.0 ≡ true) es → AllByRecursion (λ (f : List ℕ × ℕ). is_below a f.0 ≡ true) (e ∷ es)
above-all a e es ae up = (ae, rest es up)
  where
    rest : (fs : List (List ℕ × ℕ)) → AllByRecursion (λ (f : List ℕ × ℕ). is_below e.0 f.0 ≡ true) fs → AllByRecursion (λ (f : List ℕ × ℕ). is_below a f.0 ≡ true) fs
    rest [] h = tt
    rest (f ∷ fs) h = (below-trans a e.0 f.0 ae h.0, rest fs h.1)

abbrev FindSame : List (List ℕ × ℕ) → List (List ℕ × ℕ) → Type 0
FindSame es fs = (q : List ℕ) → lookup (is_at (slice_cmp nat_cmp q)) es ≡ lookup (is_at (slice_cmp nat_cmp q)) fs

pub entries-same : (es fs : List (List ℕ × ℕ)) → Up key es → Up key fs → FindSame es fs → es ≡ fs
entries-same [] [] up down h = refl
entries-same [] (f ∷ fs) up down h = absurd (let found = here f fs in let none = h f.0 in cc)
entries-same (e ∷ es) [] up down h = absurd (let found = here e es in let none = h e.0 in cc)
entries-same (e ∷ es) (f ∷ fs) up down h = by (is_below e.0 f.0) refl (is_below f.0 e.0) refl (entries-same es fs up.1 down.1)
  where
    first : e.0 ≡ f.0 → e.1 ≡ f.1
    first k = let one = here e es in let two = here f fs in let three = h e.0 in cc

    rest : e.0 ≡ f.0 → FindSame es fs
    rest k q = at (is_at (slice_cmp nat_cmp q) e.0) refl (is_at (slice_cmp nat_cmp q) f.0) (ap (is_at (slice_cmp nat_cmp q)) (sym k)) (h q)
      where
        at : (a : Bool) → is_at (slice_cmp nat_cmp q) e.0 ≡ a → (b : Bool) → b ≡ is_at (slice_cmp nat_cmp q) e.0 → cond a (Some e.1) (lookup (is_at (slice_cmp nat_cmp q)) es) ≡ cond b (Some f.1) (lookup (is_at (slice_cmp nat_cmp q)) fs) → lookup (is_at (slice_cmp nat_cmp q)) es ≡ lookup (is_at (slice_cmp nat_cmp q)) fs
        at true is b same given =
            let own = same-key q e.0 is in
            subst (λ (k : List ℕ). lookup (is_at (slice_cmp nat_cmp k)) es ≡ lookup (is_at (slice_cmp nat_cmp k)) fs) (sym own)
            (nowhere e.0 es up.0 ∙ sym (ap (λ (m : List ℕ). lookup (is_at (slice_cmp nat_cmp m)) fs) k ∙ nowhere f.0 fs down.0))
        at false is true same given = absurd (cc (is, same))
        at false is false same given = given

    by : (a : Bool) → is_below e.0 f.0 ≡ a → (b : Bool) → is_below f.0 e.0 ≡ b → (FindSame es fs → es ≡ fs) → e ∷ es ≡ f ∷ fs
    by true ef b fe ih = absurd (let found = here e es in let none = nowhere e.0 (f ∷ fs) (above-all e.0 f fs ef down.0) in let same = h e.0 in cc)
    by false ef true fe ih = absurd (let found = here f fs in let none = nowhere f.0 (e ∷ es) (above-all f.0 e es fe up.0) in let same = h f.0 in cc)
    by false ef false fe ih =
        let k : e.0 ≡ f.0 = cases (bytes_eq e.0 f.0) refl in
        λ i. (k i, first k i) ∷ ih (rest k) i
      where
        cases : (c : Bool) → bytes_eq e.0 f.0 ≡ c → e.0 ≡ f.0
        cases true is = (bytes_eq-Decides e.0 f.0).0 is
        cases false is = absurd (both_ways (is_below f.0 e.0) fe (below-other e.0 f.0 ef (λ same. both_ways (bytes_eq e.0 f.0) is ((bytes_eq-Decides e.0 f.0).1 same))))

-- ---- the page of a walk

range-start : (front after name : List ℕ) → is_below (later front after) name ≡ (is_below front name && is_below after name)
range-start front after name = by (is_below front after) refl (is_below front name) refl (is_below after name) refl
  where
    by : (a : Bool) → is_below front after ≡ a → (b : Bool) → is_below front name ≡ b → (c : Bool) → is_below after name ≡ c → is_below (if a then after else front) name ≡ (b && c)
    by true e true b true c = c
    by true e true b false c = c
    by true e false b true c = absurd (both_ways (is_below front name) b (below-trans front after name e c))
    by true e false b false c = c
    by false e true b true c = b
    by false e false b c is = b
    by false e true b false c = absurd (both_ways (is_below after name) c (cases (bytes_eq front after) refl))
      where
        cases : (d : Bool) → bytes_eq front after ≡ d → is_below after name ≡ true
        cases true is = ap (λ (n : List ℕ). is_below n name) (sym ((bytes_eq-Decides front after).0 is)) ∙ b
        cases false is = below-trans after front name (below-other front after e (λ same. both_ways (bytes_eq front after) is ((bytes_eq-Decides front after).1 same))) b

walk-page : (front after : List ℕ) (most : ℕ) (es : List (List ℕ × ℕ)) → Up key es
    → walk front most (filter (λ (e : List ℕ × ℕ). is_below (later front after) e.0) es) [] None
    ≡ (page_numbers most (filter (λ (e : List ℕ × ℕ). is_in_range front after e.0) es), page_next most (filter (λ (e : List ℕ × ℕ). is_in_range front after e.0) es))
walk-page front after most es up =
    let begun = filter (λ (e : List ℕ × ℕ). is_below (later front after) e.0) es in
    walk-is front most begun [] None most (ordered-filter (λ (a b : List ℕ × ℕ). is_below a.0 b.0 ≡ true) (λ (e : List ℕ × ℕ). is_below (later front after) e.0) es up)
    (each-filter (λ (e : List ℕ × ℕ). Unit {0}) (λ (e : List ℕ × ℕ). is_below front e.0 ≡ true) (λ (e : List ℕ × ℕ). is_below (later front after) e.0) es
    (λ e is _. (and_parts (is_below front e.0) (is_below after e.0) (sym (range-start front after e.0) ∙ is)).0) (each-always (λ (e : List ℕ × ℕ). Unit {0}) es (λ e. tt)))
    (omega arith)
    ∙ ap (page_behind front most most [] None) (filter-twice (λ (e : List ℕ × ℕ). is_below (later front after) e.0) (λ (e : List ℕ × ℕ). starts_with nat_eq e.0 front) (λ (e : List ℕ × ℕ). is_in_range front after e.0) (λ e. inside e.0) es)
    ∙ done (filter (λ (e : List ℕ × ℕ). is_in_range front after e.0) es)
  where
    turn : (a b c : Bool) → ((a && b) && c) ≡ ((c && a) && b)
    turn true true true = refl
    turn true true false = refl
    turn true false true = refl
    turn true false false = refl
    turn false b true = refl
    turn false b false = refl

    inside : (name : List ℕ) → (is_below (later front after) name && starts_with nat_eq name front) ≡ is_in_range front after name
    inside name = ap (λ b. b && starts_with nat_eq name front) (range-start front after name) ∙ turn (is_below front name) (is_below after name) (starts_with nat_eq name front)

    done : (xs : List (List ℕ × ℕ)) → page_behind front most most [] None xs ≡ (page_numbers most xs, page_next most xs)
    done xs = λ i. (map (λ (e : List ℕ × ℕ). e.1) (take most xs), if nat_lt (length (take most xs)) (length xs) then last-none front most (take most xs) i else None)

-- ---- the entries of a map by text

module _ {Y : Type 0} where
  each-bytes : (k : String Y) (es : List (String Y × ℕ)) → AllByRecursion (λ (y : String Y). string_cmp k y ≡ Less) (keys_of es) → AllByRecursion (λ (e : List ℕ × ℕ). is_below (string_bytes k) e.0 ≡ true) (with_bytes es)
  each-bytes k [] h = tt
  each-bytes k (e ∷ es) h = (ap is_lt h.0, each-bytes k es h.1)

  pub bytes-up : (es : List (String Y × ℕ)) → IsStrictlySortedBy string_cmp (keys_of es) → Up key (with_bytes es)
  bytes-up [] h = tt
  bytes-up (e ∷ es) h = (each-bytes e.0 es (sorted_head string_cmp e.0 (keys_of es) h), bytes-up es (sorted_tail string_cmp e.0 (keys_of es) h))

  from-start : (start : String Y) (es : List (String Y × ℕ)) → with_bytes (entries_between string_cmp (Excluded start) Unbounded es) ≡ filter (λ (e : List ℕ × ℕ). is_below (string_bytes start) e.0) (with_bytes es)
  from-start start [] = refl
  from-start start (e ∷ es) = by (is_below (string_bytes start) (string_bytes e.0)) (from-start start es)
    where
      rest : List (String Y × ℕ)
      rest = entries_between string_cmp (Excluded start) Unbounded es

      by : (b : Bool) → with_bytes (entries_between string_cmp (Excluded start) Unbounded es) ≡ filter (λ (e : List ℕ × ℕ). is_below (string_bytes start) e.0) (with_bytes es)
          → with_bytes (cond (b && true) (e ∷ entries_between string_cmp (Excluded start) Unbounded es) (entries_between string_cmp (Excluded start) Unbounded es)) ≡ cond b ((string_bytes e.0, e.1) ∷ filter (λ (e : List ℕ × ℕ). is_below (string_bytes start) e.0) (with_bytes es)) (filter (λ (e : List ℕ × ℕ). is_below (string_bytes start) e.0) (with_bytes es))
      by true ih = ap (λ fs. (string_bytes e.0, e.1) ∷ fs) ih
      by false ih = ih

  -- what the loop comes to that begins at the range
  pub paged : (front after : List ℕ) (most : ℕ) (start : String Y) (es begun : List (String Y × ℕ)) → string_bytes start ≡ later front after → begun ≡ entries_between string_cmp (Excluded start) Unbounded es → IsStrictlySortedBy string_cmp (keys_of es)
      → walk front most (with_bytes begun) [] None
      ≡ (page_numbers most (filter (λ (e : List ℕ × ℕ). is_in_range front after e.0) (with_bytes es)), page_next most (filter (λ (e : List ℕ × ℕ). is_in_range front after e.0) (with_bytes es)))
  paged front after most start es begun is between up =
      ap (λ (entries : List (String Y × ℕ)). walk front most (with_bytes entries) [] None) between
      ∙ ap (λ (entries : List (List ℕ × ℕ)). walk front most entries [] None) (from-start start es)
      ∙ ap (λ (n : List ℕ). walk front most (filter (λ (e : List ℕ × ℕ). is_below n e.0) (with_bytes es)) [] None) is
      ∙ walk-page front after most (with_bytes es) (bytes-up es up)

  -- ---- one turn of it

  abbrev pub name_bytes : Option (Bor (String Y)) → Option (List ℕ)
  name_bytes last = option_map (λ (x : Bor (String Y)). string_bytes x.now) last

  pub text-is : (last : Option (Bor (String Y))) (next : Option (List ℕ)) → MatchOption last (next ≡ None) (λ x. next ≡ Some (string_bytes x.now)) → next ≡ name_bytes last
  text-is None next h = h
  text-is (Some x) next h = h

  module _ (front : List ℕ) (most : ℕ) (rest es : List (String Y × ℕ)) (name : String Y) (number : ℕ) (numbers : List ℕ) (last : Option (List ℕ)) (is : rest ≡ (name, number) ∷ es) where
    abbrev Turn : List ℕ × Option (List ℕ) → Type 0
    Turn to = walk front most (with_bytes rest) numbers last ≡ to

    pub turn-more : starts_with nat_eq (string_bytes name) front ≡ true → length numbers ≢ most → Turn (walk front most (with_bytes es) (numbers ++ number ∷ []) (Some (string_bytes name)))
    turn-more has free =
        ap (λ (entries : List (String Y × ℕ)). walk front most (with_bytes entries) numbers last) is
        ∙ (λ i. if has i then (if ne_eqb (length numbers) most free i then (numbers, last) else walk front most (with_bytes es) (numbers ++ number ∷ []) (Some (string_bytes name))) else (numbers, None))

    pub turn-full : starts_with nat_eq (string_bytes name) front ≡ true → length numbers ≡ most → Turn (numbers, last)
    turn-full has full =
        ap (λ (entries : List (String Y × ℕ)). walk front most (with_bytes entries) numbers last) is
        ∙ (λ i. if has i then (if eq-eqb (length numbers) most full i then (numbers, last) else walk front most (with_bytes es) (numbers ++ number ∷ []) (Some (string_bytes name))) else (numbers, None))

    pub turn-out : starts_with nat_eq (string_bytes name) front ≡ false → Turn (numbers, None)
    turn-out out =
        ap (λ (entries : List (String Y × ℕ)). walk front most (with_bytes entries) numbers last) is
        ∙ (λ i. if out i then (if nat_eq (length numbers) most then (numbers, last) else walk front most (with_bytes es) (numbers ++ number ∷ []) (Some (string_bytes name))) else (numbers, None))
