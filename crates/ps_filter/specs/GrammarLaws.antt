-- What the laws say of the reader of filters and the grammar.
use Rattle.std.specs.Prelude.{◌≡◌, ℕ, ◌+◌, ◌*◌, ◌<◌, ◌≤◌, Bool, true, false, ◌⊎◌, ◌↔◌, List, [], ◌∷◌, ◌++◌, length, None, Some}
use Rattle.ps_base.specs.declared.reason.Reason.{Reason}
use Rattle.ps_base.specs.declared.reason.Reason.TheVariants.{FilterTooLong, FilterMixed, FilterSyntax}
use Rattle.ps_filter.specs.declared.token.Token.{Token}
use Rattle.ps_filter.specs.declared.token.Token.TheVariants.{Word, Quoted, Symbol, Differs, Strange, End}
use Rattle.ps_filter.specs.declared.token.Placed.{Placed}
use Rattle.ps_filter.specs.Tokens.{tokens}
use Rattle.ps_filter.specs.Filters.{Tree, Found, Fails, expression, read_filter, filter_fault}
use Rattle.ps_filter.specs.Grammar.{IsFilter, IsPrefix}

-- a text is read as a tree exactly if its tokens are a filter that stands for this tree
abbrev pub ReadsTheGrammar : Type 0
ReadsTheGrammar = (text : List ℕ) (tree : Tree) → (read_filter text ≡ Found tree []) ↔ IsFilter (tokens text) tree

-- a text has no fault exactly if it has at most 256 bytes and its tokens are a filter
abbrev pub AcceptsTheGrammar : Type 0
AcceptsTheGrammar = (text : List ℕ) → (filter_fault text ≡ None) ↔ ((length text ≤ 256) × (tree : Tree) × IsFilter (tokens text) tree)

-- a filter stands for one tree
abbrev pub HasOneTree : Type 0
HasOneTree = (ts : List Placed) (one other : Tree) → IsFilter ts one → IsFilter ts other → one ≡ other

-- each text is read as a tree, or has both words at one level, or another problem
abbrev pub AnswersEachText : Type 0
AnswersEachText = (text : List ℕ)
    → ((tree : Tree) × (read_filter text ≡ Found tree []))
    ⊎ (((at : ℕ) × (read_filter text ≡ Fails (FilterMixed at))) ⊎ ((at : ℕ) × (read_filter text ≡ Fails (FilterSyntax at))))

-- the fault of a text: it is too long, or else the problem that is read
abbrev pub TellsFaults : Type 0
TellsFaults = (text : List ℕ) (reason : Reason)
    → (filter_fault text ≡ Some reason) ↔ (((256 < length text) × (reason ≡ FilterTooLong)) ⊎ ((length text ≤ 256) × (read_filter text ≡ Fails reason)))

-- the number that bounds the depth of the calls is always enough: each larger number gives the same answer
abbrev pub IsDeepEnough : Type 0
IsDeepEnough = (text : List ℕ) (more : ℕ) → expression (2 * length text + 4 + more) (tokens text) ≡ expression (2 * length text + 4) (tokens text)

-- behind such a token there is none
abbrev pub is_last : Token → Bool
is_last (Word word) = false
is_last (Quoted text) = false
is_last (Symbol b) = false
is_last Differs = false
is_last Strange = true
is_last End = true

-- tokens at rising bytes, from this one on, of a text of this length: the last is the end, at the length, or the first thing that is no token
pub data IsRun (bytes : ℕ) : ℕ → List Placed → Type 0 where
  up_to_end : {from : ℕ} (t : Placed) → from ≤ t.at → t.token ≡ End → t.at ≡ bytes → IsRun bytes from (t ∷ [])
  up_to_strange : {from : ℕ} (t : Placed) → from ≤ t.at → t.token ≡ Strange → t.at < bytes → IsRun bytes from (t ∷ [])
  and_behind : {from : ℕ} {ts : List Placed} (t : Placed) → from ≤ t.at → is_last t.token ≡ false → IsRun bytes (t.at + 1) ts → IsRun bytes from (t ∷ ts)

-- the tokens of a text are such a run from its first byte on
abbrev pub RunsToTheEnd : Type 0
RunsToTheEnd = (text : List ℕ) → IsRun (length text) 0 (tokens text)

-- the first problem is at this token of the text: the tokens before it can be continued to a filter, but with it they can't
abbrev pub IsFirstProblem : List ℕ → ℕ → List Placed → Placed → Type 0
IsFirstProblem text at before t =
    (behind : List Placed) × (tokens text ≡ before ++ t ∷ behind) × (t.at ≡ at) × IsPrefix false before × (IsPrefix false (before ++ t ∷ []) → ⊥)

-- both words at one level are reported at a byte exactly if the first problem is there, and would be none if both words might mix
abbrev pub TellsMixing : Type 0
TellsMixing = (text : List ℕ) (at : ℕ) → (read_filter text ≡ Fails (FilterMixed at))
    ↔ ((before : List Placed) × (t : Placed) × IsFirstProblem text at before t × IsPrefix true (before ++ t ∷ []))

-- any other problem is reported at a byte exactly if the first problem is there, and would be one even if both words might mix
abbrev pub TellsSyntax : Type 0
TellsSyntax = (text : List ℕ) (at : ℕ) → (read_filter text ≡ Fails (FilterSyntax at))
    ↔ ((before : List Placed) × (t : Placed) × IsFirstProblem text at before t × (IsPrefix true (before ++ t ∷ []) → ⊥))
