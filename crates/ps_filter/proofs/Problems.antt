-- The first problem of a text: where it is, and whether it is none if both words may mix.
use Rattle.std.proofs.Common.{◌≡◌, ℕ, ◌+◌, ◌*◌, ◌<◌, ◌≤◌, ◌⊎◌, inl, inr, Bool, true, false, sym, List, [], ◌∷◌, ◌++◌, length, ap, ap₂, subst, refl, ◌∙◌, arith, append_assoc, Some, nat_lt, ltb-false, ltb-true}
use Rattle.ps_base.specs.declared.reason.Reason.{Reason}
use Rattle.ps_base.specs.declared.reason.Reason.TheVariants.{FilterTooLong, FilterMixed, FilterSyntax}
use Rattle.ps_filter.specs.declared.token.Token.TheVariants.{End}
use Rattle.ps_filter.specs.declared.token.Placed.{Placed}
use Rattle.ps_filter.specs.Tokens.{place, tokens}
use Rattle.ps_filter.specs.Filters.{Tree, Read, Found, Fails, is_end, expression, read_filter, fault_in, filter_fault}
use Rattle.ps_filter.specs.Grammar.{IsExpression, IsWhole, IsFilter, IsPrefix}
use Rattle.ps_filter.specs.GrammarLaws.{IsRun, AnswersEachText, TellsFaults, IsFirstProblem, TellsMixing, TellsSyntax}
use Rattle.ps_filter.proofs.Reading.{has_last, Completes, Breaks, Tells, by_syntax, by_mixing, IsLanguage, InTurn, breaks_in_turn, breaks_here, breaks_wider}
use Rattle.ps_filter.proofs.TestReadings.{decided}
use Rattle.ps_filter.proofs.ExpressionReadings.{reads_expression, expression_loosened}
use Rattle.ps_filter.proofs.Complete.{Reaches}
use Rattle.ps_filter.proofs.TokenRuns.{runs}
use Rattle.ps_filter.proofs.Whole.{ended, whole, run_head, run_tail, run_has_last, enough_for, deep_enough, filter_is, whole_reaches, reads_the_grammar}

-- the byte that a reason names
abbrev place_of : Reason → ℕ
place_of (FilterMixed at) = at
place_of (FilterSyntax at) = at
place_of _ = 0

module _ {A : Type 0} (R : List Placed → Read A) (L : Bool → List Placed → A → Type 0) where
  tells_place : (before : List Placed) (t : Placed) (reason : Reason) → Tells R L before t reason → place_of reason ≡ t.at
  tells_place before t reason by_syntax = refl
  tells_place before t reason (by_mixing more) = refl

  tells_either : (before : List Placed) (t : Placed) (reason : Reason) → Tells R L before t reason → (reason ≡ FilterSyntax t.at) ⊎ ((reason ≡ FilterMixed t.at) × Completes (L true) (before ++ t ∷ []))
  tells_either before t reason by_syntax = inl refl
  tells_either before t reason (by_mixing more) = inr (refl, more)

-- the end of the text behind a tree
abbrev EndThen : Tree → Bool → List Placed → Tree → Type 0
EndThen tree mixing own x = (end : Placed) × (own ≡ end ∷ []) × (end.token ≡ End) × (x ≡ tree)

end_language : (tree : Tree) → IsLanguage (EndThen tree)
end_language tree = record { has = (place 0 End ∷ [], tree, (place 0 End, refl, refl, refl)); loosens = λ own x within. within }

ended_breaks : (tree : Tree) (rest : List Placed) (reason : Reason) → has_last rest ≡ true → ended tree rest ≡ Fails reason → Breaks (ended tree) (EndThen tree) rest reason
ended_breaks tree [] reason last fails = cc
ended_breaks tree (t ∷ rest) reason last fails = part (decided (is_end t.token))
  where
    part : (is_end t.token ≡ true) ⊎ (is_end t.token ≡ false) → Breaks (ended tree) (EndThen tree) (t ∷ rest) reason
    part (inl is) = let found : Found tree rest ≡ Fails reason = rw is at fails in cc
    part (inr other) = breaks_here (ended tree) (EndThen tree) t (λ rest. rw other refl) (end_language tree).has rest reason fails

whole_wider : (mixing : Bool) (ts : List Placed) (tree : Tree) → InTurn (expression 0) IsExpression ended EndThen mixing ts tree → IsWhole mixing ts tree
whole_wider mixing ts tree (one, other, x, is, within, (end, single, last, same)) = (one, end, rw single at is, last, subst (λ (y : Tree). IsExpression mixing one y) (sym same) within)

whole_breaks : (deep : ℕ) (ts : List Placed) → 2 * length ts + 1 < deep → (reason : Reason) → has_last ts ≡ true → whole deep ts ≡ Fails reason → Breaks (whole deep) IsWhole ts reason
whole_breaks deep ts enough reason last fails =
    breaks_wider (whole deep) (InTurn (expression deep) IsExpression ended EndThen) IsWhole whole_wider ts reason
    (breaks_in_turn (expression deep) IsExpression ended EndThen ts (reads_expression deep ts enough) end_language expression_loosened
    (λ tree one rest is within plain reason last fails. ended_breaks tree rest reason last fails) reason last fails)

-- a byte names one token of a run
behind_from : (bytes from : ℕ) (own : List Placed) (t : Placed) (rest : List Placed) → IsRun bytes from (own ++ t ∷ rest) → from ≤ t.at
behind_from bytes from [] t rest run = (run_head bytes from t rest run).0
behind_from bytes from (x ∷ own) t rest run =
    let (less, tail) = run_tail bytes from x own t rest run in
    let later : x.at + 1 ≤ t.at = behind_from bytes (x.at + 1) own t rest tail in
    omega arith

same_place : (bytes from : ℕ) (one : List Placed) (t : Placed) (behind : List Placed) (other : List Placed) (u : Placed) (behind' : List Placed)
    → IsRun bytes from (one ++ t ∷ behind) → one ++ t ∷ behind ≡ other ++ u ∷ behind' → t.at ≡ u.at → (one ≡ other) × (t ≡ u)
same_place bytes from [] t behind [] u behind' run is same = (refl, cc)
same_place bytes from [] t behind (y ∷ other) u behind' run is same =
    let first : t ≡ y = cc in
    let run' : IsRun bytes from (y ∷ (other ++ u ∷ behind')) = subst (λ (x : List Placed). IsRun bytes from x) is run in
    let later : y.at + 1 ≤ u.at = behind_from bytes (y.at + 1) other u behind' (run_tail bytes from y other u behind' run').1 in
    let at : t.at ≡ y.at = ap (λ (x : Placed). x.at) first in
    let no_number : ⊥ = omega arith in absurd no_number
same_place bytes from (x ∷ one) t behind [] u behind' run is same =
    let first : x ≡ u = cc in
    let later : x.at + 1 ≤ t.at = behind_from bytes (x.at + 1) one t behind (run_tail bytes from x one t behind run).1 in
    let at : x.at ≡ u.at = ap (λ (x : Placed). x.at) first in
    let no_number : ⊥ = omega arith in absurd no_number
same_place bytes from (x ∷ one) t behind (y ∷ other) u behind' run is same =
    let first : x ≡ y = cc in
    let tails : one ++ t ∷ behind ≡ other ++ u ∷ behind' = cc in
    let (fronts, tokens) = same_place bytes (x.at + 1) one t behind other u behind' (run_tail bytes from x one t behind run).1 tails same in
    (ap₂ (λ (x : Placed) (xs : List Placed). x ∷ xs) first fronts, tokens)

-- a text in which the reader tells a problem
module _ (text : List ℕ) (reason : Reason) (fails : read_filter text ≡ Fails reason) where
  fails_deeper : (more : ℕ) → whole (2 * length text + 4 + more) (tokens text) ≡ Fails reason
  fails_deeper more = rw (deep_enough text more) fails

  breaks_deeper : (more : ℕ) → Breaks (whole (2 * length text + 4 + more)) IsWhole (tokens text) reason
  breaks_deeper more =
      let enough : 2 * length (tokens text) + 1 < 2 * length text + 4 = enough_for text in
      whole_breaks (2 * length text + 4 + more) (tokens text) (omega arith) reason (run_has_last (length text) (runs text)) (fails_deeper more)

  module _ (before : List Placed) (t : Placed) (behind : List Placed) (is : tokens text ≡ before ++ t ∷ behind) (at_is : place_of reason ≡ t.at) where
    fails_with : (more : List Placed) (number : ℕ) → whole (2 * length text + 4 + number) ((before ++ t ∷ []) ++ more) ≡ Fails reason
    fails_with more number =
        let g : Breaks (whole (2 * length text + 4 + number)) IsWhole (tokens text) reason = breaks_deeper number in
        let at : t.at ≡ g.t.at = sym at_is ∙ tells_place (whole (2 * length text + 4 + number)) IsWhole g.before g.t reason g.tells in
        let (fronts, same) = same_place (length text) 0 before t behind g.before g.t g.behind (subst (λ (x : List Placed). IsRun (length text) 0 x) is (runs text)) (sym is ∙ g.is) at in
        rw (append_assoc before (t ∷ []) more, fronts, same) (g.again more)

    refused : (mixing : Bool) → IsPrefix mixing (before ++ t ∷ []) → (mixing ≡ true) × (at : ℕ) × (reason ≡ FilterMixed at)
    refused mixing (more, tree, within) =
        reached (whole_reaches mixing (2 * length text + 4 + (2 * length ((before ++ t ∷ []) ++ more) + 2)) ((before ++ t ∷ []) ++ more) (omega arith) tree within)
      where
        reached : Reaches mixing (whole (2 * length text + 4 + (2 * length ((before ++ t ∷ []) ++ more) + 2)) ((before ++ t ∷ []) ++ more)) (Found tree []) → (mixing ≡ true) × (at : ℕ) × (reason ≡ FilterMixed at)
        reached (inl found) = let both : ◌≡◌ {A = Read Tree} (Fails reason) (Found tree []) = sym (fails_with more (2 * length ((before ++ t ∷ []) ++ more) + 2)) ∙ found in cc
        reached (inr (mixes, at, told)) = let both : ◌≡◌ {A = Read Tree} (Fails reason) (Fails (FilterMixed at)) = sym (fails_with more (2 * length ((before ++ t ∷ []) ++ more) + 2)) ∙ told in (mixes, at, cc)

-- two splits of one list: at the same token, or one is before the other
abbrev AreSplitAt : List Placed → Placed → List Placed → Placed → Type 0
AreSplitAt one t other u = ((one ≡ other) × (t ≡ u)) ⊎ (((more : List Placed) × (other ≡ (one ++ t ∷ []) ++ more)) ⊎ ((more : List Placed) × (one ≡ (other ++ u ∷ []) ++ more)))

split_behind : (x y : Placed) (one other : List Placed) (t u : Placed) → x ≡ y → AreSplitAt one t other u → AreSplitAt (x ∷ one) t (y ∷ other) u
split_behind x y one other t u first (inl (fronts, same)) = inl (ap₂ (λ (x : Placed) (xs : List Placed). x ∷ xs) first fronts, same)
split_behind x y one other t u first (inr (inl (more, is))) = inr (inl (more, ap₂ (λ (x : Placed) (xs : List Placed). x ∷ xs) (sym first) is))
split_behind x y one other t u first (inr (inr (more, is))) = inr (inr (more, ap₂ (λ (x : Placed) (xs : List Placed). x ∷ xs) first is))

splits : (one : List Placed) (t : Placed) (behind other : List Placed) (u : Placed) (behind' : List Placed) → one ++ t ∷ behind ≡ other ++ u ∷ behind' → AreSplitAt one t other u
splits [] t behind [] u behind' is = let first : t ≡ u = cc in inl (refl, first)
splits [] t behind (y ∷ other) u behind' is = let first : y ≡ t = cc in inr (inl (other, ap (λ (x : Placed). x ∷ other) first))
splits (x ∷ one) t behind [] u behind' is = let first : x ≡ u = cc in inr (inr (one, ap (λ (y : Placed). y ∷ one) first))
splits (x ∷ one) t behind (y ∷ other) u behind' is =
    let first : x ≡ y = cc in
    let tails : one ++ t ∷ behind ≡ other ++ u ∷ behind' = cc in
    split_behind x y one other t u first (splits one t behind other u behind' tails)

-- what is before a prefix's last tokens is a prefix
prefix_front : (mixing : Bool) (front more : List Placed) → IsPrefix mixing (front ++ more) → IsPrefix mixing front
prefix_front mixing front more (rest, tree, within) = (more ++ rest, tree, rw (sym (append_assoc front more rest)) within)

one_problem : (one : List Placed) (t : Placed) (other : List Placed) (u : Placed) → IsPrefix false one → (IsPrefix false (one ++ t ∷ []) → ⊥) → IsPrefix false other → (IsPrefix false (other ++ u ∷ []) → ⊥)
    → AreSplitAt one t other u → (one ≡ other) × (t ≡ u)
one_problem one t other u begun stops begun' stops' (inl same) = same
one_problem one t other u begun stops begun' stops' (inr (inl (more, is))) = absurd (stops (prefix_front false (one ++ t ∷ []) more (subst (λ (x : List Placed). IsPrefix false x) is begun')))
one_problem one t other u begun stops begun' stops' (inr (inr (more, is))) = absurd (stops' (prefix_front false (other ++ u ∷ []) more (subst (λ (x : List Placed). IsPrefix false x) is begun)))

-- what the reader tells, with its place
module _ (text : List ℕ) (reason : Reason) (fails : read_filter text ≡ Fails reason) where
  abbrev IsTold : Type 0
  IsTold = (before : List Placed) × (t : Placed) × (behind : List Placed) × (tokens text ≡ before ++ t ∷ behind) × IsPrefix false before × (place_of reason ≡ t.at)
      × ((reason ≡ FilterSyntax t.at) ⊎ ((reason ≡ FilterMixed t.at) × IsPrefix true (before ++ t ∷ [])))

  told : IsTold
  told =
      let g : Breaks (whole (2 * length text + 4)) IsWhole (tokens text) reason = whole_breaks (2 * length text + 4) (tokens text) (enough_for text) reason (run_has_last (length text) (runs text)) fails in
      (g.before, g.t, g.behind, g.is, g.begun, tells_place (whole (2 * length text + 4)) IsWhole g.before g.t reason g.tells, tells_either (whole (2 * length text + 4)) IsWhole g.before g.t reason g.tells)

  no_prefix : (told : IsTold) → IsPrefix false (told.0 ++ told.1 ∷ []) → ⊥
  no_prefix told begun = let mixes : false ≡ true = (refused text reason fails told.0 told.1 told.2 told.3 told.5 false begun).0 in cc

abbrev MixesAt : List ℕ → ℕ → Type 0
MixesAt text at = (before : List Placed) × (t : Placed) × IsFirstProblem text at before t × IsPrefix true (before ++ t ∷ [])

abbrev StopsAt : List ℕ → ℕ → Type 0
StopsAt text at = (before : List Placed) × (t : Placed) × IsFirstProblem text at before t × (IsPrefix true (before ++ t ∷ []) → ⊥)

mixing_told : (text : List ℕ) (at : ℕ) → read_filter text ≡ Fails (FilterMixed at) → MixesAt text at
mixing_told text at fails = part (told text (FilterMixed at) fails) (told text (FilterMixed at) fails).6
  where
    part : (w : IsTold text (FilterMixed at) fails) → ((FilterMixed at ≡ FilterSyntax w.1.at) ⊎ ((FilterMixed at ≡ FilterMixed w.1.at) × IsPrefix true (w.0 ++ w.1 ∷ []))) → MixesAt text at
    part w (inl same) = cc
    part w (inr (same, mixed)) = (w.0, w.1, (w.2, w.3, sym w.5, w.4, no_prefix text (FilterMixed at) fails w), mixed)

syntax_told : (text : List ℕ) (at : ℕ) → read_filter text ≡ Fails (FilterSyntax at) → StopsAt text at
syntax_told text at fails =
    let w : IsTold text (FilterSyntax at) fails = told text (FilterSyntax at) fails in
    (w.0, w.1, (w.2, w.3, sym w.5, w.4, no_prefix text (FilterSyntax at) fails w), never w)
  where
    never : (w : IsTold text (FilterSyntax at) fails) → IsPrefix true (w.0 ++ w.1 ∷ []) → ⊥
    never w mixed = let (mixes, place, same) = refused text (FilterSyntax at) fails w.0 w.1 w.2 w.3 w.5 true mixed in (let wrong : FilterSyntax at ≡ FilterMixed place = same in cc)

-- a first problem, and what the reader says of the text
module _ (text : List ℕ) (at : ℕ) (before : List Placed) (t : Placed) (problem : IsFirstProblem text at before t) where
  never_read : (tree : Tree) (rest : List Placed) → read_filter text ≡ Found tree rest → ⊥
  never_read tree rest found =
      problem.4 (problem.0, tree, subst (λ (x : List Placed). IsFilter x tree) (problem.1 ∙ sym (append_assoc before (t ∷ []) problem.0)) (filter_is text tree rest found))

  same_problem : (reason : Reason) (fails : read_filter text ≡ Fails reason) (w : IsTold text reason fails) → (before ≡ w.0) × (t ≡ w.1)
  same_problem reason fails w =
      one_problem before t w.0 w.1 problem.3 problem.4 w.4 (no_prefix text reason fails w) (splits before t problem.0 w.0 w.1 w.2 (sym problem.1 ∙ w.3))

  place_is : (reason : Reason) (fails : read_filter text ≡ Fails reason) (w : IsTold text reason fails) → w.1.at ≡ at
  place_is reason fails w = ap (λ (x : Placed). x.at) (sym (same_problem reason fails w).1) ∙ problem.2

  mixing_reason : IsPrefix true (before ++ t ∷ []) → (reason : Reason) (fails : read_filter text ≡ Fails reason) (w : IsTold text reason fails)
      → ((reason ≡ FilterSyntax w.1.at) ⊎ ((reason ≡ FilterMixed w.1.at) × IsPrefix true (w.0 ++ w.1 ∷ []))) → reason ≡ FilterMixed at
  mixing_reason mixed reason fails w (inr (is, more)) = is ∙ ap (λ (x : ℕ). FilterMixed x) (place_is reason fails w)
  mixing_reason mixed reason fails w (inl is) =
      let same : (before ≡ w.0) × (t ≡ w.1) = same_problem reason fails w in
      let (mixes, place, told) = refused text reason fails before t problem.0 problem.1 (w.5 ∙ place_is reason fails w ∙ sym problem.2) true mixed in
      let wrong : FilterSyntax w.1.at ≡ FilterMixed place = sym is ∙ told in cc

  syntax_reason : (IsPrefix true (before ++ t ∷ []) → ⊥) → (reason : Reason) (fails : read_filter text ≡ Fails reason) (w : IsTold text reason fails)
      → ((reason ≡ FilterSyntax w.1.at) ⊎ ((reason ≡ FilterMixed w.1.at) × IsPrefix true (w.0 ++ w.1 ∷ []))) → reason ≡ FilterSyntax at
  syntax_reason stops reason fails w (inl is) = is ∙ ap (λ (x : ℕ). FilterSyntax x) (place_is reason fails w)
  syntax_reason stops reason fails w (inr (is, mixed)) =
      let same : (before ≡ w.0) × (t ≡ w.1) = same_problem reason fails w in
      absurd (stops (rw (same.0, same.1) mixed))

  reads_mixing : IsPrefix true (before ++ t ∷ []) → (r : Read Tree) → read_filter text ≡ r → r ≡ Fails (FilterMixed at)
  reads_mixing mixed (Found tree rest) is = absurd (never_read tree rest is)
  reads_mixing mixed (Fails reason) is = ap (λ (x : Reason). Fails x) (mixing_reason mixed reason is (told text reason is) (told text reason is).6)

  reads_syntax : (IsPrefix true (before ++ t ∷ []) → ⊥) → (r : Read Tree) → read_filter text ≡ r → r ≡ Fails (FilterSyntax at)
  reads_syntax stops (Found tree rest) is = absurd (never_read tree rest is)
  reads_syntax stops (Fails reason) is = ap (λ (x : Reason). Fails x) (syntax_reason stops reason is (told text reason is) (told text reason is).6)

pub tells_mixing : TellsMixing
tells_mixing text at = (mixing_told text at, λ w. reads_mixing text at w.0 w.1 w.2 w.3 (read_filter text) refl)

pub tells_syntax : TellsSyntax
tells_syntax text at = (syntax_told text at, λ w. reads_syntax text at w.0 w.1 w.2 w.3 (read_filter text) refl)

text_answered : (text : List ℕ) (r : Read Tree) → read_filter text ≡ r → ((tree : Tree) × (r ≡ Found tree [])) ⊎ (((at : ℕ) × (r ≡ Fails (FilterMixed at))) ⊎ ((at : ℕ) × (r ≡ Fails (FilterSyntax at))))
text_answered text (Found tree rest) is = inl (tree, sym is ∙ (reads_the_grammar text tree).1 (filter_is text tree rest is))
text_answered text (Fails reason) is = part (told text reason is) (told text reason is).6
  where
    part : (w : IsTold text reason is) → ((reason ≡ FilterSyntax w.1.at) ⊎ ((reason ≡ FilterMixed w.1.at) × IsPrefix true (w.0 ++ w.1 ∷ [])))
        → ((tree : Tree) × (Fails reason ≡ Found tree [])) ⊎ (((at : ℕ) × (◌≡◌ {A = Read Tree} (Fails reason) (Fails (FilterMixed at)))) ⊎ ((at : ℕ) × (◌≡◌ {A = Read Tree} (Fails reason) (Fails (FilterSyntax at)))))
    part w (inl same) = inr (inr (w.1.at, ap (λ (x : Reason). Fails x) same))
    part w (inr (same, mixed)) = inr (inl (w.1.at, ap (λ (x : Reason). Fails x) same))

pub answers_each_text : AnswersEachText
answers_each_text text = text_answered text (read_filter text) refl

fault_read : (r : Read Tree) (reason : Reason) → fault_in r ≡ Some reason → r ≡ Fails reason
fault_read (Found tree rest) reason fault = cc
fault_read (Fails own) reason fault = let same : own ≡ reason = cc in ap (λ (x : Reason). Fails x) same

abbrev HasFault : List ℕ → Reason → Type 0
HasFault text reason = ((256 < length text) × (reason ≡ FilterTooLong)) ⊎ ((length text ≤ 256) × (read_filter text ≡ Fails reason))

fault_told : (text : List ℕ) (reason : Reason) → (nat_lt 256 (length text) ≡ true) ⊎ (nat_lt 256 (length text) ≡ false) → filter_fault text ≡ Some reason → HasFault text reason
fault_told text reason (inl long) fault = let own : Some FilterTooLong ≡ Some reason = rw long at fault in let same : reason ≡ FilterTooLong = cc in inl (ltb-true 256 (length text) long, same)
fault_told text reason (inr short) fault = inr (ltb-false 256 (length text) short, fault_read (read_filter text) reason (rw short at fault))

tells_fault : (text : List ℕ) (reason : Reason) → (nat_lt 256 (length text) ≡ true) ⊎ (nat_lt 256 (length text) ≡ false) → HasFault text reason → filter_fault text ≡ Some reason
tells_fault text reason (inl is) (inl (long, same)) = rw (is, same) refl
tells_fault text reason (inr is) (inl (long, same)) = let below : length text ≤ 256 = ltb-false 256 (length text) is in let no_number : ⊥ = omega arith in absurd no_number
tells_fault text reason (inl is) (inr (short, fails)) = let below : 256 < length text = ltb-true 256 (length text) is in let no_number : ⊥ = omega arith in absurd no_number
tells_fault text reason (inr is) (inr (short, fails)) = rw (is, fails) refl

pub tells_faults : TellsFaults
tells_faults text reason = (fault_told text reason (decided (nat_lt 256 (length text))), tells_fault text reason (decided (nat_lt 256 (length text))))
