-- The grammar's terms and expressions are read. One that mixes both words at a level may be told to mix them.
use Rattle.std.proofs.Common.{◌≡◌, ℕ, zero, suc, ◌+◌, ◌*◌, ◌<◌, ◌⊎◌, inl, inr, Bool, true, false, ◌||◌, not, List, [], ◌∷◌, ◌++◌, length, ap, refl, ◌∙◌, codes, arith, append_assoc, length-append}
use Rattle.ps_base.specs.declared.reason.Reason.TheVariants.{FilterMixed}
use Rattle.ps_filter.specs.declared.token.Token.{Token}
use Rattle.ps_filter.specs.declared.token.Token.TheVariants.{Word, Symbol}
use Rattle.ps_filter.specs.declared.token.Placed.{Placed}
use Rattle.ps_filter.specs.declared.grammar.Level.{Level}
use Rattle.ps_filter.specs.declared.grammar.Level.TheVariants.{Nothing, Ands, Ors}
use Rattle.ps_filter.specs.Filters.{Tree, Negated, Both, Either, Read, Found, Fails, then_read, is_mark, is_and, is_or, is_negation, one_key, one_token, has_ands, has_ors, expression, joined, term}
use Rattle.ps_filter.specs.Grammar.{IsKey, IsNegation, IsTest, is_there, is_value, is_no_value, is_front, IsTerm, simple, grouped, negated, IsJoined, alone, by_and, by_or}
use Rattle.ps_filter.proofs.TestReadings.{decided}

-- the reading gives this result, or where both words may mix, it tells that they do
abbrev pub Reaches : {A : Type 0} → Bool → Read A → Read A → Type 0
Reaches mixing reading result = (reading ≡ result) ⊎ ((mixing ≡ true) × (at : ℕ) × (reading ≡ Fails (FilterMixed at)))

reaches_by : {A : Type 0} (mixing : Bool) (r s goal : Read A) → r ≡ s → Reaches mixing s goal → Reaches mixing r goal
reaches_by mixing r s goal is (inl ends) = inl (is ∙ ends)
reaches_by mixing r s goal is (inr (mixes, at, fails)) = inr (mixes, at, is ∙ fails)

pub reaches_on : {A : Type 0} (mixing : Bool) (r s goal : Read A) → Reaches mixing r s → Reaches mixing s goal → Reaches mixing r goal
reaches_on mixing r s goal (inl is) next = reaches_by mixing r s goal is next
reaches_on mixing r s goal (inr fails) next = inr fails

pub then_reaches : {A B : Type 0} (mixing : Bool) (r : Read A) (a : A) (rest : List Placed) (S : A → List Placed → Read B) → Reaches mixing r (Found a rest) → Reaches mixing (then_read r S) (S a rest)
then_reaches mixing r a rest S (inl is) = inl (rw is refl)
then_reaches mixing r a rest S (inr (mixes, at, fails)) = inr (mixes, at, rw fails refl)

key_read : (k : Placed) (key : List ℕ) (rest : List Placed) → IsKey k.token key → one_key (k ∷ rest) ≡ Found key rest
key_read k key rest (inl is) = rw is refl
key_read k key rest (inr is) = rw is refl

test_read : (deep : ℕ) {own : List Placed} {tree : Tree} → IsTest own tree → (rest : List Placed) → term (suc deep) (own ++ rest) ≡ Found tree rest
test_read deep (is_there {key} attributes colon k named colons keyed) rest = rw (named, colons, key_read k key rest keyed) refl
test_read deep (is_value {key} attributes dot k equal string named points keyed equals quoted) rest =
    rw (named, points, key_read k key (equal ∷ string ∷ rest) keyed, equals, quoted) refl
test_read deep (is_no_value {key} attributes dot k differs string named points keyed other quoted) rest =
    rw (named, points, key_read k key (differs ∷ string ∷ rest) keyed, other, quoted) refl
test_read deep (is_front {key} prefix opening attributes dot k comma string closing begins opens named points keyed parts quoted closes) rest =
    rw (begins, opens, named, points, key_read k key (comma ∷ string ∷ closing ∷ rest) keyed, parts, quoted, closes) refl

negation_passes : (token : Token) → IsNegation token → is_negation token ≡ true
negation_passes token (inl is) = rw is refl
negation_passes token (inr is) = rw is refl

-- what a reading before these tokens gives, if its number is enough
abbrev pub TermRead : Bool → List Placed → Tree → Type 0
TermRead mixing own tree = (rest : List Placed) (deep : ℕ) → 2 * length (own ++ rest) < deep → Reaches mixing (term deep (own ++ rest)) (Found tree rest)

abbrev pub JoinedRead : Bool → Level → List Placed → Tree → Type 0
JoinedRead mixing level own tree = (rest : List Placed) (deep : ℕ) → 2 * length (own ++ rest) + 1 < deep
    → (left : ℕ) × (2 * length rest < left) × Reaches mixing (expression deep (own ++ rest)) (joined left level tree rest)

module _ (mixing : Bool) where
  test_reaches : {own : List Placed} {tree : Tree} → IsTest own tree → TermRead mixing own tree
  test_reaches test rest zero enough = let no_number : ⊥ = omega arith in absurd no_number
  test_reaches test rest (suc deep) enough = inl (test_read deep test rest)

  negated_reaches : (own : List Placed) (tree : Tree) (sign : Placed) → IsNegation sign.token → TermRead mixing own tree → TermRead mixing (sign ∷ own) (Negated tree)
  negated_reaches own tree sign is inner rest zero enough = let no_number : ⊥ = omega arith in absurd no_number
  negated_reaches own tree sign is inner rest (suc deep) enough =
      reaches_by mixing (term (suc deep) (sign ∷ (own ++ rest))) (then_read (term deep (own ++ rest)) (λ tree behind. Found (Negated tree) behind)) (Found (Negated tree) rest)
      (rw (negation_passes sign.token is) refl)
      (then_reaches mixing (term deep (own ++ rest)) tree rest (λ tree behind. Found (Negated tree) behind) (inner rest deep (omega arith)))

  pub stands_alone : (left : ℕ) (level : Level) (x : Tree) (t : Placed) (rest : List Placed) → 0 < left → is_and t.token ≡ false → is_or t.token ≡ false → joined left level x (t ∷ rest) ≡ Found x (t ∷ rest)
  stands_alone zero level x t rest some no_and no_or = let no_number : ⊥ = omega arith in absurd no_number
  stands_alone (suc left) level x t rest some no_and no_or = rw (no_and, no_or) refl

  closed_reaches : (level : Level) (own : List Placed) (tree : Tree) (closing : Placed) → closing.token ≡ Symbol 41 → JoinedRead mixing level own tree
      → (rest : List Placed) (deep : ℕ) → 2 * length (own ++ closing ∷ rest) + 1 < deep
      → Reaches mixing (then_read (expression deep (own ++ closing ∷ rest)) (λ tree behind. then_read (one_token (is_mark 41) behind) (λ closing more. Found tree more))) (Found tree rest)
  closed_reaches level own tree closing closes inner rest deep enough =
      let (left, some, reached) = inner (closing ∷ rest) deep enough in
      let ended : joined left level tree (closing ∷ rest) ≡ Found tree (closing ∷ rest) = stands_alone left level tree closing rest (omega arith) (rw closes refl) (rw closes refl) in
      let S : Tree → List Placed → Read Tree = λ (tree : Tree) (behind : List Placed). then_read (one_token (is_mark 41) behind) (λ closing more. Found tree more) in
      reaches_on mixing (then_read (expression deep (own ++ closing ∷ rest)) S) (S tree (closing ∷ rest)) (Found tree rest)
      (then_reaches mixing (expression deep (own ++ closing ∷ rest)) tree (closing ∷ rest) S
      (reaches_on mixing (expression deep (own ++ closing ∷ rest)) (joined left level tree (closing ∷ rest)) (Found tree (closing ∷ rest)) reached (inl ended)))
      (inl (rw closes refl))

  grouped_reaches : (level : Level) (own : List Placed) (tree : Tree) (opening closing : Placed) → opening.token ≡ Symbol 40 → closing.token ≡ Symbol 41 → JoinedRead mixing level own tree → TermRead mixing (opening ∷ (own ++ closing ∷ [])) tree
  grouped_reaches level own tree opening closing opens closes inner rest zero enough = let no_number : ⊥ = omega arith in absurd no_number
  grouped_reaches level own tree opening closing opens closes inner rest (suc deep) enough =
      let same : (own ++ closing ∷ []) ++ rest ≡ own ++ closing ∷ rest = append_assoc own (closing ∷ []) rest in
      let shown : 2 * length (own ++ closing ∷ rest) + 1 < deep = (let lengths : length ((own ++ closing ∷ []) ++ rest) ≡ length (own ++ closing ∷ rest) = ap (λ (x : List Placed). length x) same in omega arith) in
      reaches_by mixing (term (suc deep) (opening ∷ ((own ++ closing ∷ []) ++ rest)))
      (then_read (expression deep (own ++ closing ∷ rest)) (λ tree behind. then_read (one_token (is_mark 41) behind) (λ closing more. Found tree more))) (Found tree rest)
      (rw (same, opens) refl) (closed_reaches level own tree closing closes inner rest deep shown)

  alone_reaches : (own : List Placed) (tree : Tree) → TermRead mixing own tree → JoinedRead mixing Nothing own tree
  alone_reaches own tree inner rest zero enough = let no_number : ⊥ = omega arith in absurd no_number
  alone_reaches own tree inner rest (suc deep) enough =
      let lengths : length (own ++ rest) ≡ length own + length rest = length-append own rest in
      (deep, omega arith, then_reaches mixing (term deep (own ++ rest)) tree rest (λ tree rest. joined deep Nothing tree rest) (inner rest deep (omega arith)))

mixes_if : (mixing b : Bool) → (mixing || not b) ≡ true → b ≡ true → mixing ≡ true
mixes_if true b may is = refl
mixes_if false b may is = rw is at may

module _ (mixing : Bool) (one two : List Placed) (x y : Tree) (join : Placed) (level : Level) (before : JoinedRead mixing level one x) (behind : TermRead mixing two y) (rest : List Placed) where
  and_steps : (left : ℕ) → 2 * length (join ∷ (two ++ rest)) < left → (mixing || not (has_ors level)) ≡ true → join.token ≡ Word (codes "AND") → (has_ors level ≡ true) ⊎ (has_ors level ≡ false)
      → (more : ℕ) × (2 * length rest < more) × Reaches mixing (joined left level x (join ∷ (two ++ rest))) (joined more Ands (Both x y) rest)
  and_steps zero enough may is either = let no_number : ⊥ = omega arith in absurd no_number
  and_steps (suc left) enough may is (inl mixes) =
      let lengths : length (two ++ rest) ≡ length two + length rest = length-append two rest in
      (left, omega arith, inr (mixes_if mixing (has_ors level) may mixes, join.at, rw (is, mixes) refl))
  and_steps (suc left) enough may is (inr none) =
      let lengths : length (two ++ rest) ≡ length two + length rest = length-append two rest in (
        left,
        omega arith,
        reaches_by mixing (joined (suc left) level x (join ∷ (two ++ rest))) (then_read (term left (two ++ rest)) (λ next behind. joined left Ands (Both x next) behind)) (joined left Ands (Both x y) rest)
            (rw (is, none) refl) (then_reaches mixing (term left (two ++ rest)) y rest (λ next behind. joined left Ands (Both x next) behind) (behind rest left (omega arith))),
      )

  or_steps : (left : ℕ) → 2 * length (join ∷ (two ++ rest)) < left → (mixing || not (has_ands level)) ≡ true → join.token ≡ Word (codes "OR") → (has_ands level ≡ true) ⊎ (has_ands level ≡ false)
      → (more : ℕ) × (2 * length rest < more) × Reaches mixing (joined left level x (join ∷ (two ++ rest))) (joined more Ors (Either x y) rest)
  or_steps zero enough may is either = let no_number : ⊥ = omega arith in absurd no_number
  or_steps (suc left) enough may is (inl mixes) =
      let lengths : length (two ++ rest) ≡ length two + length rest = length-append two rest in
      (left, omega arith, inr (mixes_if mixing (has_ands level) may mixes, join.at, rw (is, mixes) refl))
  or_steps (suc left) enough may is (inr none) =
      let lengths : length (two ++ rest) ≡ length two + length rest = length-append two rest in (
        left,
        omega arith,
        reaches_by mixing (joined (suc left) level x (join ∷ (two ++ rest))) (then_read (term left (two ++ rest)) (λ next behind. joined left Ors (Either x next) behind)) (joined left Ors (Either x y) rest)
            (rw (is, none) refl) (then_reaches mixing (term left (two ++ rest)) y rest (λ next behind. joined left Ors (Either x next) behind) (behind rest left (omega arith))),
      )

  apart : (one ++ join ∷ two) ++ rest ≡ one ++ (join ∷ (two ++ rest))
  apart = append_assoc one (join ∷ two) rest

  and_reaches_at : (deep : ℕ) → 2 * length (one ++ (join ∷ (two ++ rest))) + 1 < deep → (mixing || not (has_ors level)) ≡ true → join.token ≡ Word (codes "AND")
      → (more : ℕ) × (2 * length rest < more) × Reaches mixing (expression deep (one ++ (join ∷ (two ++ rest)))) (joined more Ands (Both x y) rest)
  and_reaches_at deep enough may is =
      let (left, some, reached) = before (join ∷ (two ++ rest)) deep enough in
      let (more, some_left, next) = and_steps left some may is (decided (has_ors level)) in
      (more, some_left, reaches_on mixing (expression deep (one ++ (join ∷ (two ++ rest)))) (joined left level x (join ∷ (two ++ rest))) (joined more Ands (Both x y) rest) reached next)

  or_reaches_at : (deep : ℕ) → 2 * length (one ++ (join ∷ (two ++ rest))) + 1 < deep → (mixing || not (has_ands level)) ≡ true → join.token ≡ Word (codes "OR")
      → (more : ℕ) × (2 * length rest < more) × Reaches mixing (expression deep (one ++ (join ∷ (two ++ rest)))) (joined more Ors (Either x y) rest)
  or_reaches_at deep enough may is =
      let (left, some, reached) = before (join ∷ (two ++ rest)) deep enough in
      let (more, some_left, next) = or_steps left some may is (decided (has_ands level)) in
      (more, some_left, reaches_on mixing (expression deep (one ++ (join ∷ (two ++ rest)))) (joined left level x (join ∷ (two ++ rest))) (joined more Ors (Either x y) rest) reached next)

  and_reaches : (deep : ℕ) → 2 * length ((one ++ join ∷ two) ++ rest) + 1 < deep → (mixing || not (has_ors level)) ≡ true → join.token ≡ Word (codes "AND")
      → (more : ℕ) × (2 * length rest < more) × Reaches mixing (expression deep ((one ++ join ∷ two) ++ rest)) (joined more Ands (Both x y) rest)
  and_reaches deep = rw apart (and_reaches_at deep)

  or_reaches : (deep : ℕ) → 2 * length ((one ++ join ∷ two) ++ rest) + 1 < deep → (mixing || not (has_ands level)) ≡ true → join.token ≡ Word (codes "OR")
      → (more : ℕ) × (2 * length rest < more) × Reaches mixing (expression deep ((one ++ join ∷ two) ++ rest)) (joined more Ors (Either x y) rest)
  or_reaches deep = rw apart (or_reaches_at deep)

mutual
  pub term_reaches : (mixing : Bool) {own : List Placed} {tree : Tree} → IsTerm mixing own tree → TermRead mixing own tree
  term_reaches mixing (simple test) = test_reaches mixing test
  term_reaches mixing (grouped {level} {ts} {tree} opening closing opens inside closes) = grouped_reaches mixing level ts tree opening closing opens closes (joined_reaches mixing inside)
  term_reaches mixing (negated {ts} {tree} sign is inner) = negated_reaches mixing ts tree sign is (term_reaches mixing inner)

  pub joined_reaches : (mixing : Bool) {level : Level} {own : List Placed} {tree : Tree} → IsJoined mixing level own tree → JoinedRead mixing level own tree
  joined_reaches mixing (alone {ts} {tree} inner) = alone_reaches mixing ts tree (term_reaches mixing inner)
  joined_reaches mixing (by_and {level} {one} {other} {x} {y} join before may is behind) =
      λ rest deep enough. and_reaches mixing one other x y join level (joined_reaches mixing before) (term_reaches mixing behind) rest deep enough may is
  joined_reaches mixing (by_or {level} {one} {other} {x} {y} join before may is behind) =
      λ rest deep enough. or_reaches mixing one other x y join level (joined_reaches mixing before) (term_reaches mixing behind) rest deep enough may is
