-- Filters (Pub/Sub documentation, "Filter messages from a subscription": what a filter is and when it holds. That `AND` and `OR` don't mix at one level, `-` for `NOT`, and the places of errors are this project's own).
use Rattle.std.specs.Prelude.{ℕ, zero, suc, ◌+◌, ◌*◌, Bool, true, false, ◌&&◌, ◌||◌, not, nat_eq, nat_lt, List, [], ◌∷◌, Option, Some, None, length, find, is_some, codes, if◌then◌else◌}
use Rattle.std.specs.List.{starts_with}
use Rattle.std.specs.Str.{bytes_eq}
use Rattle.ps_base.specs.declared.reason.Reason.{Reason}
use Rattle.ps_base.specs.declared.reason.Reason.TheVariants.{FilterTooLong, FilterMixed, FilterSyntax}
use Rattle.ps_message.specs.declared.message.Message.{Message}
use Rattle.ps_filter.specs.declared.token.Token.{Token}
use Rattle.ps_filter.specs.declared.token.Token.TheVariants.{Word, Quoted, Symbol, Differs, Strange, End}
use Rattle.ps_filter.specs.declared.token.Placed.{Placed}
use Rattle.ps_filter.specs.declared.grammar.Level.{Level}
use Rattle.ps_filter.specs.declared.grammar.Level.TheVariants.{Nothing, Ands, Ors}
use Rattle.ps_filter.specs.Tokens.{tokens}

-- what a filter requires of the attributes
pub data Tree : Type 0 where
  -- the attributes have this key
  Has : List ℕ → Tree
  -- they have this key with this value
  Equals : List ℕ → List ℕ → Tree
  -- they have this key with a value that begins with this text
  Begins : List ℕ → List ℕ → Tree
  Negated : Tree → Tree
  Both : Tree → Tree → Tree
  Either : Tree → Tree → Tree

abbrev pub value_test : (List ℕ → Bool) → Option (List ℕ × List ℕ) → Bool
value_test test None = false
value_test test (Some pair) = test pair.1

abbrev pub attribute_named : List ℕ → List (List ℕ × List ℕ) → Option (List ℕ × List ℕ)
attribute_named key attributes = find (λ (pair : List ℕ × List ℕ). bytes_eq pair.0 key) attributes

abbrev pub holds : Tree → List (List ℕ × List ℕ) → Bool
holds (Has key) attributes = is_some (attribute_named key attributes)
holds (Equals key value) attributes = value_test (bytes_eq value) (attribute_named key attributes)
holds (Begins key front) attributes = value_test (λ value. starts_with nat_eq value front) (attribute_named key attributes)
holds (Negated tree) attributes = not (holds tree attributes)
holds (Both one other) attributes = holds one attributes && holds other attributes
holds (Either one other) attributes = holds one attributes || holds other attributes

-- what is read from the start of a list of tokens, with the tokens after it; or the first problem
pub data Read (A : Type 0) : Type 0 where
  Found : A → List Placed → Read A
  Fails : Reason → Read A

abbrev pub then_read : {A B : Type 0} → Read A → (A → List Placed → Read B) → Read B
then_read (Found x rest) next = next x rest
then_read (Fails reason) next = Fails reason

abbrev pub is_word : List ℕ → Token → Bool
is_word word (Word own) = bytes_eq own word
is_word word (Quoted text) = false
is_word word (Symbol b) = false
is_word word Differs = false
is_word word Strange = false
is_word word End = false

abbrev pub is_mark : ℕ → Token → Bool
is_mark b (Symbol own) = nat_eq own b
is_mark b (Word word) = false
is_mark b (Quoted text) = false
is_mark b Differs = false
is_mark b Strange = false
is_mark b End = false

abbrev pub is_differs : Token → Bool
is_differs Differs = true
is_differs (Word word) = false
is_differs (Quoted text) = false
is_differs (Symbol b) = false
is_differs Strange = false
is_differs End = false

abbrev pub is_end : Token → Bool
is_end End = true
is_end (Word word) = false
is_end (Quoted text) = false
is_end (Symbol b) = false
is_end Differs = false
is_end Strange = false

abbrev pub is_and : Token → Bool
is_and = is_word (codes "AND")

abbrev pub is_or : Token → Bool
is_or = is_word (codes "OR")

-- reads one token that passes the test
abbrev pub one_token : (Token → Bool) → List Placed → Read (Unit {0})
one_token test [] = Fails (FilterSyntax 0)
one_token test (t ∷ rest) = if test t.token then Found tt rest else Fails (FilterSyntax t.at)

abbrev pub key_in : ℕ → Token → List Placed → Read (List ℕ)
key_in at (Word word) rest = Found word rest
key_in at (Quoted text) rest = Found text rest
key_in at (Symbol b) rest = Fails (FilterSyntax at)
key_in at Differs rest = Fails (FilterSyntax at)
key_in at Strange rest = Fails (FilterSyntax at)
key_in at End rest = Fails (FilterSyntax at)

-- reads a word or a string
abbrev pub one_key : List Placed → Read (List ℕ)
one_key [] = Fails (FilterSyntax 0)
one_key (t ∷ rest) = key_in t.at t.token rest

abbrev pub text_in : ℕ → Token → List Placed → Read (List ℕ)
text_in at (Quoted text) rest = Found text rest
text_in at (Word word) rest = Fails (FilterSyntax at)
text_in at (Symbol b) rest = Fails (FilterSyntax at)
text_in at Differs rest = Fails (FilterSyntax at)
text_in at Strange rest = Fails (FilterSyntax at)
text_in at End rest = Fails (FilterSyntax at)

abbrev pub one_text : List Placed → Read (List ℕ)
one_text [] = Fails (FilterSyntax 0)
one_text (t ∷ rest) = text_in t.at t.token rest

-- reads `= string` or `!= string`
abbrev pub comparison : List ℕ → List Placed → Read Tree
comparison key [] = Fails (FilterSyntax 0)
comparison key (t ∷ rest) =
    if is_mark 61 t.token then then_read (one_text rest) (λ value behind. Found (Equals key value) behind)
    else if is_differs t.token then then_read (one_text rest) (λ value behind. Found (Negated (Equals key value)) behind)
    else Fails (FilterSyntax t.at)

-- reads what follows `attributes`: `: key`, `. key = string` or `. key != string`
abbrev pub attribute_test : List Placed → Read Tree
attribute_test [] = Fails (FilterSyntax 0)
attribute_test (t ∷ rest) =
    if is_mark 58 t.token then then_read (one_key rest) (λ key behind. Found (Has key) behind)
    else if is_mark 46 t.token then then_read (one_key rest) comparison
    else Fails (FilterSyntax t.at)

-- reads what follows `hasPrefix`: `( attributes . key , string )`
abbrev pub prefix_test : List Placed → Read Tree
prefix_test ts =
    then_read (one_token (is_mark 40) ts) (λ opening ts1.
    then_read (one_token (is_word (codes "attributes")) ts1) (λ attributes ts2.
    then_read (one_token (is_mark 46) ts2) (λ dot ts3.
    then_read (one_key ts3) (λ key ts4.
    then_read (one_token (is_mark 44) ts4) (λ comma ts5.
    then_read (one_text ts5) (λ front ts6.
    then_read (one_token (is_mark 41) ts6) (λ closing rest. Found (Begins key front) rest)))))))

abbrev pub simple_test : Placed → List Placed → Read Tree
simple_test t rest =
    if is_word (codes "attributes") t.token then attribute_test rest
    else if is_word (codes "hasPrefix") t.token then prefix_test rest
    else Fails (FilterSyntax t.at)

abbrev pub is_negation : Token → Bool
is_negation token = is_word (codes "NOT") token || is_mark 45 token

abbrev pub has_ands : Level → Bool
has_ands Nothing = false
has_ands Ands = true
has_ands Ors = false

abbrev pub has_ors : Level → Bool
has_ors Nothing = false
has_ors Ands = false
has_ors Ors = true

-- a tree, and the parenthesis that closes it
abbrev pub grouped : Read Tree → Read Tree
grouped read = then_read read (λ tree behind. then_read (one_token (is_mark 41) behind) (λ closing more. Found tree more))

-- The grammar. The first argument bounds the depth of the calls: two for each token, which is always enough.
abbrev mutual
  -- a term, or terms joined by `AND`, or terms joined by `OR`
  pub expression : ℕ → List Placed → Read Tree
  expression zero ts = Fails (FilterSyntax 0)
  expression (suc deep) ts = then_read (term deep ts) (λ tree rest. joined deep Nothing tree rest)

  -- joins this tree to the terms after it; both words at one level are the error FilterMixed
  pub joined : ℕ → Level → Tree → List Placed → Read Tree
  joined zero level tree ts = Fails (FilterSyntax 0)
  joined (suc deep) level tree [] = Found tree []
  joined (suc deep) level tree (t ∷ rest) =
      if is_and t.token then
      if has_ors level then Fails (FilterMixed t.at) else then_read (term deep rest) (λ next behind. joined deep Ands (Both tree next) behind)
      else if is_or t.token then
      if has_ands level then Fails (FilterMixed t.at) else then_read (term deep rest) (λ next behind. joined deep Ors (Either tree next) behind)
      else Found tree (t ∷ rest)

  -- a test, an expression in parentheses, or one of these with `NOT` or `-` before it
  pub term : ℕ → List Placed → Read Tree
  term zero ts = Fails (FilterSyntax 0)
  term (suc deep) [] = Fails (FilterSyntax 0)
  term (suc deep) (t ∷ rest) =
      if is_negation t.token then then_read (term deep rest) (λ tree behind. Found (Negated tree) behind)
      else if is_mark 40 t.token then grouped (expression deep rest)
      else simple_test t rest

-- an expression with nothing after it
abbrev pub read_filter : List ℕ → Read Tree
read_filter text = then_read (expression (2 * length text + 4) (tokens text)) (λ tree rest. then_read (one_token is_end rest) (λ end none. Found tree none))

abbrev pub fault_in : Read Tree → Option Reason
fault_in (Found tree rest) = None
fault_in (Fails reason) = Some reason

-- the problem that keeps a text from being a filter, if there is one
abbrev pub filter_fault : List ℕ → Option Reason
filter_fault text = if nat_lt 256 (length text) then Some FilterTooLong else fault_in (read_filter text)

abbrev pub passes : Read Tree → List (List ℕ × List ℕ) → Bool
passes (Found tree rest) attributes = holds tree attributes
passes (Fails reason) attributes = false

-- a message matches the filter of a subscription; the empty filter matches every message
abbrev pub meets : List ℕ → Message → Bool
meets [] m = true
meets (c ∷ cs) m = passes (read_filter (c ∷ cs)) m.attributes
