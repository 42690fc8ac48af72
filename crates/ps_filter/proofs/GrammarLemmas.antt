-- A step of each rule of the grammar, where its number isn't 0.
use Rattle.std.proofs.Common.{◌≡◌, ℕ, suc, ◌+◌, ◌*◌, ◌-◌, ◌<◌, length, sym, true, false, List, ◌∷◌, ap, refl, arith}
use Rattle.ps_filter.specs.declared.grammar.Level.{Level}
use Rattle.ps_filter.specs.declared.grammar.Level.TheVariants.{Nothing, Ands, Ors}
use Rattle.ps_filter.specs.declared.token.Placed.{Placed}
use Rattle.ps_filter.specs.Filters.{Tree, Both, Either, Found, then_read, one_token, is_mark, is_and, is_or, is_negation, is_end, has_ands, has_ors, simple_test, expression, joined, term, read_filter, grouped}
use Rattle.ps_filter.specs.Tokens.{tokens}

deeper : {X : Type 0} (f : ℕ → X) (n : ℕ) → 0 < n → f n ≡ f (suc (n - 1))
deeper f n some = let e : n ≡ suc (n - 1) = omega arith in ap f e

pub expression_step : (deep : ℕ) (ts : List Placed) → 0 < deep
    → expression deep ts ≡ then_read (term (deep - 1) ts) (λ tree rest. joined (deep - 1) Nothing tree rest)
expression_step deep ts some = deeper (λ n. expression n ts) deep some

pub joined_by_and : (deep : ℕ) (level : Level) (tree : Tree) (ts rest : List Placed) (t : Placed) → 0 < deep → ts ≡ t ∷ rest → is_and t.token ≡ true → has_ors level ≡ false
    → joined deep level tree ts ≡ then_read (term (deep - 1) rest) (λ next behind. joined (deep - 1) Ands (Both tree next) behind)
joined_by_and deep level tree ts rest t some is and none = rw (deeper (λ n. joined n level tree ts) deep some, is, and, none) refl

pub joined_by_or : (deep : ℕ) (level : Level) (tree : Tree) (ts rest : List Placed) (t : Placed) → 0 < deep → ts ≡ t ∷ rest → is_and t.token ≡ false → is_or t.token ≡ true → has_ands level ≡ false
    → joined deep level tree ts ≡ then_read (term (deep - 1) rest) (λ next behind. joined (deep - 1) Ors (Either tree next) behind)
joined_by_or deep level tree ts rest t some is not_and or none = rw (deeper (λ n. joined n level tree ts) deep some, is, not_and, or, none) refl

pub term_in_parentheses : (deep : ℕ) (ts rest : List Placed) (t : Placed) → 0 < deep → ts ≡ t ∷ rest → is_negation t.token ≡ false → is_mark 40 t.token ≡ true
    → term deep ts ≡ grouped (expression (deep - 1) rest)
term_in_parentheses deep ts rest t some is plain opens = rw (deeper (λ n. term n ts) deep some, is, plain, opens) refl

pub term_alone : (deep : ℕ) (ts rest : List Placed) (t : Placed) → 0 < deep → ts ≡ t ∷ rest → is_negation t.token ≡ false → is_mark 40 t.token ≡ false
    → term deep ts ≡ simple_test t rest
term_alone deep ts rest t some is plain closed = rw (deeper (λ n. term n ts) deep some, is, plain, closed) refl

-- a text whose tokens are read to the end
pub read_whole : (text kept : List ℕ) (ts behind rest : List Placed) (tree : Tree) (none : Unit {0}) → kept ≡ text → ts ≡ tokens text
    → expression (2 * length text + 4) ts ≡ Found tree behind → one_token is_end behind ≡ Found none rest → read_filter kept ≡ Found tree rest
read_whole text kept ts behind rest tree none is made found ended = rw (is, sym made, found, ended) refl
