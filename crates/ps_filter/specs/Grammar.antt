-- The grammar of filters as relations between tokens and the trees that they stand for (Pub/Sub documentation, "Filter messages from a subscription").
use Rattle.std.specs.Prelude.{◌≡◌, ℕ, Bool, true, false, ◌||◌, not, ◌⊎◌, List, [], ◌∷◌, ◌++◌, codes}
use Rattle.ps_filter.specs.declared.token.Token.{Token}
use Rattle.ps_filter.specs.declared.token.Token.TheVariants.{Word, Quoted, Symbol, Differs, End}
use Rattle.ps_filter.specs.declared.token.Placed.{Placed}
use Rattle.ps_filter.specs.declared.grammar.Level.{Level}
use Rattle.ps_filter.specs.declared.grammar.Level.TheVariants.{Nothing, Ands, Ors}
use Rattle.ps_filter.specs.Filters.{Tree, Has, Equals, Begins, Negated, Both, Either, has_ands, has_ors}

-- a key is a word or a string
abbrev pub IsKey : Token → List ℕ → Type 0
IsKey token key = (token ≡ Word key) ⊎ (token ≡ Quoted key)

-- `NOT` or `-`
abbrev pub IsNegation : Token → Type 0
IsNegation token = (token ≡ Word (codes "NOT")) ⊎ (token ≡ Symbol 45)

-- these tokens are a test of the attributes
pub data IsTest : List Placed → Tree → Type 0 where
  -- `attributes : key`
  is_there : {key : List ℕ} (attributes colon k : Placed)
      → attributes.token ≡ Word (codes "attributes") → colon.token ≡ Symbol 58 → IsKey k.token key
      → IsTest (attributes ∷ colon ∷ k ∷ []) (Has key)
  -- `attributes . key = string`
  is_value : {key value : List ℕ} (attributes dot k equal string : Placed)
      → attributes.token ≡ Word (codes "attributes") → dot.token ≡ Symbol 46 → IsKey k.token key → equal.token ≡ Symbol 61 → string.token ≡ Quoted value
      → IsTest (attributes ∷ dot ∷ k ∷ equal ∷ string ∷ []) (Equals key value)
  -- `attributes . key != string`
  is_no_value : {key value : List ℕ} (attributes dot k differs string : Placed)
      → attributes.token ≡ Word (codes "attributes") → dot.token ≡ Symbol 46 → IsKey k.token key → differs.token ≡ Differs → string.token ≡ Quoted value
      → IsTest (attributes ∷ dot ∷ k ∷ differs ∷ string ∷ []) (Negated (Equals key value))
  -- `hasPrefix ( attributes . key , string )`
  is_front : {key front : List ℕ} (prefix opening attributes dot k comma string closing : Placed)
      → prefix.token ≡ Word (codes "hasPrefix") → opening.token ≡ Symbol 40 → attributes.token ≡ Word (codes "attributes") → dot.token ≡ Symbol 46
      → IsKey k.token key → comma.token ≡ Symbol 44 → string.token ≡ Quoted front → closing.token ≡ Symbol 41
      → IsTest (prefix ∷ opening ∷ attributes ∷ dot ∷ k ∷ comma ∷ string ∷ closing ∷ []) (Begins key front)

-- The first argument says whether `AND` and `OR` may both join the terms of one level. In a filter they may not.
mutual
  -- these tokens are a term: a test, an expression in parentheses, or a term with `NOT` or `-` before it
  pub data IsTerm (mixing : Bool) : List Placed → Tree → Type 0 where
    simple : {ts : List Placed} {tree : Tree} → IsTest ts tree → IsTerm mixing ts tree
    grouped : {level : Level} {ts : List Placed} {tree : Tree} (opening closing : Placed)
        → opening.token ≡ Symbol 40 → IsJoined mixing level ts tree → closing.token ≡ Symbol 41
        → IsTerm mixing (opening ∷ (ts ++ closing ∷ [])) tree
    negated : {ts : List Placed} {tree : Tree} (sign : Placed) → IsNegation sign.token → IsTerm mixing ts tree → IsTerm mixing (sign ∷ ts) (Negated tree)

  -- these tokens are a term, or terms joined by `AND` or `OR`; the level says by which at last
  pub data IsJoined (mixing : Bool) : Level → List Placed → Tree → Type 0 where
    alone : {ts : List Placed} {tree : Tree} → IsTerm mixing ts tree → IsJoined mixing Nothing ts tree
    by_and : {level : Level} {one other : List Placed} {x y : Tree} (join : Placed)
        → IsJoined mixing level one x → (mixing || not (has_ors level)) ≡ true → join.token ≡ Word (codes "AND") → IsTerm mixing other y
        → IsJoined mixing Ands (one ++ join ∷ other) (Both x y)
    by_or : {level : Level} {one other : List Placed} {x y : Tree} (join : Placed)
        → IsJoined mixing level one x → (mixing || not (has_ands level)) ≡ true → join.token ≡ Word (codes "OR") → IsTerm mixing other y
        → IsJoined mixing Ors (one ++ join ∷ other) (Either x y)

-- these tokens are a term, or terms joined by `AND`, or terms joined by `OR`
abbrev pub IsExpression : Bool → List Placed → Tree → Type 0
IsExpression mixing ts tree = (level : Level) × IsJoined mixing level ts tree

-- these tokens are an expression and the end of the text
abbrev pub IsWhole : Bool → List Placed → Tree → Type 0
IsWhole mixing ts tree = (own : List Placed) × (end : Placed) × (ts ≡ own ++ end ∷ []) × (end.token ≡ End) × IsExpression mixing own tree

-- these tokens are a filter, which stands for this tree
abbrev pub IsFilter : List Placed → Tree → Type 0
IsFilter = IsWhole false

-- these tokens can be continued to a filter
abbrev pub IsPrefix : Bool → List Placed → Type 0
IsPrefix mixing front = (more : List Placed) × (tree : Tree) × IsWhole mixing (front ++ more) tree
