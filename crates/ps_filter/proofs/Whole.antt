-- The reader of filters against the grammar: what the laws say.
use Rattle.std.proofs.Common.{◌≡◌, ℕ, ◌+◌, ◌*◌, ◌<◌, ◌≤◌, ◌⊎◌, inl, inr, Bool, true, false, sym, List, [], ◌∷◌, ◌++◌, length, ap, subst, refl, ◌∙◌, arith, Option, Some, None, nat_lt, ltb-false, ltb-true}
use Rattle.ps_base.specs.declared.reason.Reason.{Reason}
use Rattle.ps_base.specs.declared.reason.Reason.TheVariants.{FilterTooLong, FilterSyntax}
use Rattle.ps_filter.specs.declared.token.Token.{Token}
use Rattle.ps_filter.specs.declared.token.Token.TheVariants.{Word, Quoted, Symbol, Differs, Strange, End}
use Rattle.ps_filter.specs.declared.token.Placed.{Placed}
use Rattle.ps_filter.specs.Tokens.{tokens}
use Rattle.ps_filter.specs.Filters.{Tree, Read, Found, Fails, then_read, is_end, one_token, expression, joined, read_filter, fault_in, filter_fault}
use Rattle.ps_filter.specs.Grammar.{IsExpression, IsWhole, IsFilter}
use Rattle.ps_filter.specs.GrammarLaws.{is_last, IsRun, up_to_end, up_to_strange, and_behind, ReadsTheGrammar, AcceptsTheGrammar, HasOneTree, IsDeepEnough}
use Rattle.ps_filter.proofs.Reading.{has_last, Finds}
use Rattle.ps_filter.proofs.TestReadings.{decided}
use Rattle.ps_filter.proofs.ExpressionReadings.{reads_expression}
use Rattle.ps_filter.proofs.Enough.{expression_stays}
use Rattle.ps_filter.proofs.Complete.{Reaches, then_reaches, reaches_on, stands_alone, joined_reaches}
use Rattle.ps_filter.proofs.TokenRuns.{runs, run_length}

same_end : (token : Token) → is_end token ≡ true → token ≡ End
same_end End is = refl
same_end (Word word) is = cc
same_end (Quoted text) is = cc
same_end (Symbol b) is = cc
same_end Differs is = cc
same_end Strange is = cc

abbrev pub ended : Tree → List Placed → Read Tree
ended tree rest = then_read (one_token is_end rest) (λ end none. Found tree none)

abbrev pub whole : ℕ → List Placed → Read Tree
whole deep ts = then_read (expression deep ts) ended

-- behind what is read as a whole
record IsEnded (ts : List Placed) (tree : Tree) (rest : List Placed) : Type 0 where
  own : List Placed
  end : Placed
  is : ts ≡ own ++ end ∷ rest
  last : end.token ≡ End
  within : IsExpression false own tree

ended_is : (x : Tree) (behind : List Placed) (tree : Tree) (rest : List Placed) → ended x behind ≡ Found tree rest → (end : Placed) × (behind ≡ end ∷ rest) × (end.token ≡ End) × (x ≡ tree)
ended_is x [] tree rest found = cc
ended_is x (t ∷ behind) tree rest found = part (decided (is_end t.token))
  where
    part : (is_end t.token ≡ true) ⊎ (is_end t.token ≡ false) → (end : Placed) × (t ∷ behind ≡ end ∷ rest) × (end.token ≡ End) × (x ≡ tree)
    part (inl is) = let same : Found x behind ≡ Found tree rest = rw is at found in (t, cc, same_end t.token is, cc)
    part (inr other) = let none : ◌≡◌ {A = Read Tree} (Fails (FilterSyntax t.at)) (Found tree rest) = rw other at found in cc

ended_from : (deep : ℕ) (ts : List Placed) → 2 * length ts + 1 < deep → (r : Read Tree) (tree : Tree) (rest : List Placed) → expression deep ts ≡ r → then_read r ended ≡ Found tree rest → IsEnded ts tree rest
ended_from deep ts enough (Fails reason) tree rest is found = cc
ended_from deep ts enough (Found x behind) tree rest is found =
    let f : Finds (expression deep) IsExpression ts x behind = (reads_expression deep ts enough).finds x behind is in
    let (end, split, last, same) = ended_is x behind tree rest found in
    record { own = f.own; end = end; is = f.is ∙ ap (λ (b : List Placed). f.own ++ b) split; last = last; within = subst (λ (y : Tree). IsExpression false f.own y) same f.within }

whole_is : (deep : ℕ) (ts : List Placed) → 2 * length ts + 1 < deep → (tree : Tree) (rest : List Placed) → whole deep ts ≡ Found tree rest → IsEnded ts tree rest
whole_is deep ts enough tree rest found = ended_from deep ts enough (expression deep ts) tree rest refl found

pub whole_reaches : (mixing : Bool) (deep : ℕ) (ts : List Placed) → 2 * length ts + 1 < deep → (tree : Tree) → IsWhole mixing ts tree → Reaches mixing (whole deep ts) (Found tree [])
whole_reaches mixing deep ts enough tree (own, end, is, last, (level, within)) =
    let enough_here : 2 * length (own ++ end ∷ []) + 1 < deep = subst (λ (x : List Placed). 2 * length x + 1 < deep) is enough in
    let (left, some, reached) = joined_reaches mixing within (end ∷ []) deep enough_here in
    let alone : joined left level tree (end ∷ []) ≡ Found tree (end ∷ []) = stands_alone mixing left level tree end [] (omega arith) (rw last refl) (rw last refl) in
    let found : Reaches mixing (expression deep (own ++ end ∷ [])) (Found tree (end ∷ [])) = reaches_on mixing (expression deep (own ++ end ∷ [])) (joined left level tree (end ∷ [])) (Found tree (end ∷ [])) reached (inl alone) in
    let closed : ended tree (end ∷ []) ≡ Found tree [] = rw last refl in
    rw is (reaches_on mixing (whole deep (own ++ end ∷ [])) (ended tree (end ∷ [])) (Found tree []) (then_reaches mixing (expression deep (own ++ end ∷ [])) tree (end ∷ []) ended found) (inl closed))

-- a filter is read as its tree
reached_strictly : {A : Type 0} (r goal : Read A) → Reaches false r goal → r ≡ goal
reached_strictly r goal (inl is) = is
reached_strictly r goal (inr (mixes, at, fails)) = cc

filter_read : (deep : ℕ) (ts : List Placed) → 2 * length ts + 1 < deep → (tree : Tree) → IsFilter ts tree → whole deep ts ≡ Found tree []
filter_read deep ts enough tree within = reached_strictly (whole deep ts) (Found tree []) (whole_reaches false deep ts enough tree within)

pub one_tree : HasOneTree
one_tree ts one other within_one within_other =
    let same : Found one [] ≡ Found other [] = sym (filter_read (2 * length ts + 2) ts (omega arith) one within_one) ∙ filter_read (2 * length ts + 2) ts (omega arith) other within_other in
    cc

-- the number of the reader is enough for the tokens of its text
pub enough_for : (text : List ℕ) → 2 * length (tokens text) + 1 < 2 * length text + 4
enough_for text = let count : length (tokens text) + 0 ≤ length text + 1 = run_length (length text) (runs text) in omega arith

pub deep_enough : IsDeepEnough
deep_enough text more =
    let enough : 2 * length (tokens text) + 1 < 2 * length text + 4 = enough_for text in
    expression_stays (2 * length text + 4 + more) (2 * length text + 4) (tokens text) (omega arith) enough

-- the first token of a run: the last one, or one before the others
pub run_head : (bytes from : ℕ) (t : Placed) (ts : List Placed) → IsRun bytes from (t ∷ ts) → (from ≤ t.at) × (((is_last t.token ≡ true) × (ts ≡ [])) ⊎ ((is_last t.token ≡ false) × IsRun bytes (t.at + 1) ts))
run_head bytes from t ts (up_to_end _ less end is) = (less, inl (rw end refl, refl))
run_head bytes from t ts (up_to_strange _ less strange below) = (less, inl (rw strange refl, refl))
run_head bytes from t ts (and_behind _ less plain run) = (less, inr (plain, run))

never_empty : (own : List Placed) (t : Placed) (rest : List Placed) → own ++ t ∷ rest ≡ [] → ⊥
never_empty [] t rest is = cc
never_empty (x ∷ own) t rest is = cc

-- the run behind a token that isn't the last one
pub run_tail : (bytes from : ℕ) (x : Placed) (own : List Placed) (t : Placed) (rest : List Placed) → IsRun bytes from (x ∷ (own ++ t ∷ rest)) → (from ≤ x.at) × IsRun bytes (x.at + 1) (own ++ t ∷ rest)
run_tail bytes from x own t rest run = part (run_head bytes from x (own ++ t ∷ rest) run).1
  where
    part : ((is_last x.token ≡ true) × (own ++ t ∷ rest ≡ [])) ⊎ ((is_last x.token ≡ false) × IsRun bytes (x.at + 1) (own ++ t ∷ rest)) → (from ≤ x.at) × IsRun bytes (x.at + 1) (own ++ t ∷ rest)
    part (inl (last, none)) = absurd (never_empty own t rest none)
    part (inr (plain, tail)) = ((run_head bytes from x (own ++ t ∷ rest) run).0, tail)

-- nothing is behind the end of a text
behind_end : (bytes from : ℕ) (own : List Placed) (end : Placed) (rest : List Placed) → IsRun bytes from (own ++ end ∷ rest) → end.token ≡ End → rest ≡ []
behind_end bytes from [] end rest run last = part (run_head bytes from end rest run).1
  where
    part : ((is_last end.token ≡ true) × (rest ≡ [])) ⊎ ((is_last end.token ≡ false) × IsRun bytes (end.at + 1) rest) → rest ≡ []
    part (inl (is, none)) = none
    part (inr (plain, tail)) = let ends : true ≡ false = rw last at plain in cc
behind_end bytes from (x ∷ own) end rest run last = behind_end bytes (x.at + 1) own end rest (run_tail bytes from x own end rest run).1 last

pub run_has_last : (bytes : ℕ) {from : ℕ} {ts : List Placed} → IsRun bytes from ts → has_last ts ≡ true
run_has_last bytes (up_to_end t less end is) = rw end refl
run_has_last bytes (up_to_strange t less strange below) = rw strange refl
run_has_last bytes (and_behind t less plain run) = rw plain (run_has_last bytes run)

pub filter_is : (text : List ℕ) (tree : Tree) (rest : List Placed) → read_filter text ≡ Found tree rest → IsFilter (tokens text) tree
filter_is text tree rest found =
    let f : IsEnded (tokens text) tree rest = whole_is (2 * length text + 4) (tokens text) (enough_for text) tree rest found in
    let none : rest ≡ [] = behind_end (length text) 0 f.own f.end rest (subst (λ (x : List Placed). IsRun (length text) 0 x) f.is (runs text)) f.last in
    (f.own, f.end, f.is ∙ ap (λ (x : List Placed). f.own ++ f.end ∷ x) none, f.last, f.within)

pub reads_the_grammar : ReadsTheGrammar
reads_the_grammar text tree = (filter_is text tree [], filter_read (2 * length text + 4) (tokens text) (enough_for text) tree)

faultless : (text : List ℕ) (r : Read Tree) → read_filter text ≡ r → fault_in r ≡ None → (tree : Tree) × IsFilter (tokens text) tree
faultless text (Found tree rest) is none = (tree, filter_is text tree rest is)
faultless text (Fails reason) is none = cc

accepted : (text : List ℕ) → (nat_lt 256 (length text) ≡ true) ⊎ (nat_lt 256 (length text) ≡ false) → filter_fault text ≡ None → (length text ≤ 256) × (tree : Tree) × IsFilter (tokens text) tree
accepted text (inl long) none = let fault : ◌≡◌ {A = Option Reason} (Some FilterTooLong) None = rw long at none in cc
accepted text (inr short) none = let (tree, within) = faultless text (read_filter text) refl (rw short at none) in (ltb-false 256 (length text) short, tree, within)

has_no_fault : (text : List ℕ) → (nat_lt 256 (length text) ≡ true) ⊎ (nat_lt 256 (length text) ≡ false) → (length text ≤ 256) × (tree : Tree) × IsFilter (tokens text) tree → filter_fault text ≡ None
has_no_fault text (inl long) (short, tree, within) = let below : 256 < length text = ltb-true 256 (length text) long in let no_number : ⊥ = omega arith in absurd no_number
has_no_fault text (inr not_long) (short, tree, within) = rw (not_long, (reads_the_grammar text tree).1 within) refl

pub accepts_the_grammar : AcceptsTheGrammar
accepts_the_grammar text = (accepted text (decided (nat_lt 256 (length text))), has_no_fault text (decided (nat_lt 256 (length text))))
