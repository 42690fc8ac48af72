-- The tokens of the filter language (Pub/Sub documentation, "Filter messages from a subscription": syntax. Keys as bare words or strings, and the two escapes, are this project's own).
use Rattle.std.specs.Prelude.{ℕ, ◌+◌, Bool, ◌||◌, ◌==◌, List, [], ◌∷◌, ◌++◌, if◌then◌else◌}
use Rattle.std.specs.Char.{is_ascii_alphabetic, is_ascii_alphanumeric}
use Rattle.ps_filter.specs.declared.token.Token.{Token}
use Rattle.ps_filter.specs.declared.token.Token.TheVariants.{Word, Quoted, Symbol, Differs, Strange, End}
use Rattle.ps_filter.specs.declared.token.Placed.{Placed}
use Rattle.ps_filter.specs.declared.lexer.Open.{Open}
use Rattle.ps_filter.specs.declared.lexer.Open.TheVariants.{Between, InWord, InString, InEscape, BehindBang, Stopped}

-- space, tab, CR or LF
abbrev pub is_blank : ℕ → Bool
is_blank b = b == 32 || b == 9 || b == 13 || b == 10

abbrev pub begins_word : ℕ → Bool
begins_word b = is_ascii_alphabetic b || b == 95

abbrev pub is_in_word : ℕ → Bool
is_in_word b = is_ascii_alphanumeric b || b == 95 || b == 45

abbrev pub is_symbol : ℕ → Bool
is_symbol b = b == 40 || b == 41 || b == 58 || b == 46 || b == 61 || b == 44 || b == 45

abbrev pub place : ℕ → Token → Placed
place at token = record { at = at; token = token }

-- a byte while no token is open
abbrev pub begun : ℕ → ℕ → List Placed × Open
begun at b =
    if is_blank b then ([], Between)
    else if begins_word b then ([], InWord at (b ∷ []))
    else if b == 34 then ([], InString at [])
    else if b == 33 then ([], BehindBang at)
    else if is_symbol b then (place at (Symbol b) ∷ [], Between)
    else (place at Strange ∷ [], Stopped)

-- a byte in each state: the tokens that it completes, and what it leaves open
abbrev pub taken : Open → ℕ → ℕ → List Placed × Open
taken Between at b = begun at b
taken (InWord from word) at b =
    if is_in_word b then ([], InWord from (word ++ b ∷ []))
    else (place from (Word word) ∷ (begun at b).0, (begun at b).1)
taken (InString from text) at b =
    if b == 34 then (place from (Quoted text) ∷ [], Between)
    else if b == 92 then ([], InEscape from text)
    else ([], InString from (text ++ b ∷ []))
taken (InEscape from text) at b = if b == 34 || b == 92 then ([], InString from (text ++ b ∷ [])) else (place from Strange ∷ [], Stopped)
taken (BehindBang from) at b = if b == 61 then (place from Differs ∷ [], Between) else (place from Strange ∷ [], Stopped)
taken Stopped at b = ([], Stopped)

-- the end of the text in each state
abbrev pub ended : Open → ℕ → List Placed
ended Between at = place at End ∷ []
ended (InWord from word) at = place from (Word word) ∷ place at End ∷ []
ended (InString from text) at = place from Strange ∷ []
ended (InEscape from text) at = place from Strange ∷ []
ended (BehindBang from) at = place from Strange ∷ []
ended Stopped at = []

abbrev pub tokens_from : Open → ℕ → List ℕ → List Placed
tokens_from state at [] = ended state at
tokens_from state at (b ∷ bytes) = (taken state at b).0 ++ tokens_from (taken state at b).1 (at + 1) bytes

-- the tokens of a text, up to its end or to the first thing that isn't a token
abbrev pub tokens : List ℕ → List Placed
tokens = tokens_from Between 0
