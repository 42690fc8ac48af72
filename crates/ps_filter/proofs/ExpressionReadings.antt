-- The readers of terms and expressions against the grammar, with a number that is enough for their tokens.
use Rattle.std.proofs.Common.{◌≡◌, ℕ, zero, suc, ◌+◌, ◌*◌, ◌<◌, ◌≤◌, ◌⊎◌, inl, inr, Bool, true, false, ◌||◌, not, sym, List, [], ◌∷◌, ◌++◌, length, ap, subst, refl, ◌∙◌, codes, arith, append_assoc, append-nil, length-append}
use Rattle.ps_base.specs.declared.reason.Reason.{Reason}
use Rattle.ps_base.specs.declared.reason.Reason.TheVariants.{FilterMixed, FilterSyntax}
use Rattle.ps_filter.specs.declared.token.Token.{Token}
use Rattle.ps_filter.specs.declared.token.Token.TheVariants.{Word, Symbol}
use Rattle.ps_filter.specs.declared.token.Placed.{Placed}
use Rattle.ps_filter.specs.declared.grammar.Level.{Level}
use Rattle.ps_filter.specs.declared.grammar.Level.TheVariants.{Nothing, Ands, Ors}
use Rattle.ps_filter.specs.Filters.{Tree, Negated, Both, Either, Read, Found, Fails, then_read, is_word, is_mark, is_and, is_or, is_negation, one_token, has_ands, has_ors, expression, joined, term}
use Rattle.ps_filter.specs.Grammar.{IsNegation, IsTerm, simple, grouped, negated, IsJoined, alone, by_and, by_or, IsExpression}
use Rattle.ps_filter.proofs.Loosened.{term_loosened, joined_loosened}
use Rattle.ps_filter.proofs.Reading.{is_last, SameHead, same_head, Completes, Finds, Breaks, Tells, by_mixing, IsLanguage, Reads, InTurn, reads_in_turn, reads_head, reads_none, NothingMore, reads_nothing, reads_wider}
use Rattle.ps_filter.proofs.TestReadings.{decided, same_word, same_mark, nothing_language, token_then, TokenThen, token_then_language, reads_token_then, reads_mark, some_test, reads_simple}

-- what joins a tree so far to the terms behind it
pub data IsTail (mixing : Bool) : Level → Tree → List Placed → Tree → Type 0 where
  ends : {level : Level} {x : Tree} → IsTail mixing level x [] x
  and_behind : {level : Level} {x y z : Tree} {one own : List Placed} (join : Placed)
      → (mixing || not (has_ors level)) ≡ true → join.token ≡ Word (codes "AND") → IsTerm mixing one y → IsTail mixing Ands (Both x y) own z
      → IsTail mixing level x (join ∷ (one ++ own)) z
  or_behind : {level : Level} {x y z : Tree} {one own : List Placed} (join : Placed)
      → (mixing || not (has_ands level)) ≡ true → join.token ≡ Word (codes "OR") → IsTerm mixing one y → IsTail mixing Ors (Either x y) own z
      → IsTail mixing level x (join ∷ (one ++ own)) z

tail_joins : (mixing : Bool) {level : Level} {x : Tree} {own : List Placed} {z : Tree} → IsTail mixing level x own z → (front : List Placed) → IsJoined mixing level front x → IsExpression mixing (front ++ own) z
tail_joins mixing {level} ends front before = (level, rw append-nil before)
tail_joins mixing (and_behind {one} {own} join may is other tail) front before =
    rw (sym (append_assoc front (join ∷ one) own)) (tail_joins mixing tail (front ++ join ∷ one) (by_and join before may is other))
tail_joins mixing (or_behind {one} {own} join may is other tail) front before =
    rw (sym (append_assoc front (join ∷ one) own)) (tail_joins mixing tail (front ++ join ∷ one) (by_or join before may is other))

tail_loosened : {level : Level} {x : Tree} {own : List Placed} {z : Tree} → IsTail false level x own z → IsTail true level x own z
tail_loosened ends = ends
tail_loosened (and_behind join may is other tail) = and_behind join refl is (term_loosened other) (tail_loosened tail)
tail_loosened (or_behind join may is other tail) = or_behind join refl is (term_loosened other) (tail_loosened tail)

abbrev pub Tail : Level → Tree → Bool → List Placed → Tree → Type 0
Tail level x mixing own z = IsTail mixing level x own z

tail_language : (level : Level) (x : Tree) → IsLanguage (Tail level x)
tail_language level x = record { has = ([], x, ends); loosens = λ own z tail. tail_loosened tail }

pub term_language : IsLanguage IsTerm
term_language = let (own, tree, test) = some_test in record { has = (own, tree, simple test); loosens = λ own tree within. term_loosened within }

pub expression_loosened : (own : List Placed) (tree : Tree) → IsExpression false own tree → IsExpression true own tree
expression_loosened own tree (level, within) = (level, joined_loosened within)

pub shorter : (ts one rest : List Placed) → ts ≡ one ++ rest → length rest ≤ length ts
shorter ts one rest is = let sum : length ts ≡ length one + length rest = rw (is, length-append) refl in omega arith

negation_is : (token : Token) → is_negation token ≡ true → IsNegation token
negation_is token is = part (decided (is_word (codes "NOT") token))
  where
    part : (is_word (codes "NOT") token ≡ true) ⊎ (is_word (codes "NOT") token ≡ false) → IsNegation token
    part (inl word) = inl (same_word (codes "NOT") token word)
    part (inr other) = inr (same_mark 45 token (rw other at is))

negation_plain : (token : Token) → IsNegation token → is_last token ≡ false
negation_plain token (inl is) = rw is refl
negation_plain token (inr is) = rw is refl

module _ (deep : ℕ) where
  abbrev negated_then : List Placed → Read Tree
  negated_then ts = then_read (term deep ts) (λ tree behind. Found (Negated tree) behind)

  abbrev NegatedThen : Bool → List Placed → Tree → Type 0
  NegatedThen = InTurn (term deep) IsTerm (λ tree behind. Found (Negated tree) behind) (λ tree. NothingMore (Negated tree))

  reads_negated : (ts : List Placed) → Reads (term deep) IsTerm ts → Reads negated_then NegatedThen ts
  reads_negated ts first = reads_in_turn (term deep) IsTerm (λ tree behind. Found (Negated tree) behind) (λ tree. NothingMore (Negated tree)) ts first
      (λ tree. nothing_language (Negated tree)) term_language.loosens (λ tree one rest is within plain. reads_nothing (Negated tree) rest)

  negated_behind : (t : Placed) → IsNegation t.token → (mixing : Bool) (own : List Placed) (tree : Tree) → NegatedThen mixing own tree → IsTerm mixing (t ∷ own) tree
  negated_behind t sign mixing own tree (one, other, inner, is, within, (none, is_tree)) = rw (is, none, append-nil, is_tree) (negated t sign within)

  abbrev grouped_then : List Placed → Read Tree
  grouped_then ts = then_read (expression deep ts) (λ tree behind. then_read (one_token (is_mark 41) behind) (λ closing more. Found tree more))

  abbrev closed_by : Tree → List Placed → Read Tree
  closed_by tree = token_then (Symbol 41) (is_mark 41) (reads_mark 41) (λ more. Found tree more) (NothingMore tree)

  abbrev ClosedBy : Tree → Bool → List Placed → Tree → Type 0
  ClosedBy tree = TokenThen (Symbol 41) (is_mark 41) (reads_mark 41) (λ more. Found tree more) (NothingMore tree)

  abbrev GroupedThen : Bool → List Placed → Tree → Type 0
  GroupedThen = InTurn (expression deep) IsExpression closed_by ClosedBy

  reads_grouped : (ts : List Placed) → Reads (expression deep) IsExpression ts → Reads grouped_then GroupedThen ts
  reads_grouped ts first = reads_in_turn (expression deep) IsExpression closed_by ClosedBy ts first
      (λ tree. token_then_language (Symbol 41) (is_mark 41) (reads_mark 41) (λ more. Found tree more) (NothingMore tree) (nothing_language tree)) expression_loosened
      (λ tree one rest is within plain. reads_token_then (Symbol 41) (is_mark 41) (reads_mark 41) (λ more. Found tree more) (NothingMore tree) (nothing_language tree) (reads_nothing tree) rest)

  grouped_behind : (t : Placed) → t.token ≡ Symbol 40 → (mixing : Bool) (own : List Placed) (tree : Tree) → GroupedThen mixing own tree → IsTerm mixing (t ∷ own) tree
  grouped_behind t opens mixing own tree (one, other, inner, is, (level, within), (c1, c2, u, is2, (closing, single, closes), (none, is_tree))) =
      rw (is, is2, single, none, is_tree) (grouped t closing opens within closes)

  reads_term_at : (t : Placed) (rest : List Placed) → (is_negation t.token ≡ true) ⊎ (is_negation t.token ≡ false) → (is_mark 40 t.token ≡ true) ⊎ (is_mark 40 t.token ≡ false)
      → Reads (term deep) IsTerm rest → Reads (expression deep) IsExpression rest → Reads (term (suc deep)) IsTerm (t ∷ rest)
  reads_term_at t rest (inl sign) either inner whole =
      reads_head (term (suc deep)) IsTerm negated_then NegatedThen t (λ rest. rw sign refl) (negated_behind t (negation_is t.token sign)) (negation_plain t.token (negation_is t.token sign)) rest (reads_negated rest inner)
  reads_term_at t rest (inr plain) (inl opens) inner whole =
      reads_head (term (suc deep)) IsTerm grouped_then GroupedThen t (λ rest. rw (plain, opens) refl) (grouped_behind t (same_mark 40 t.token opens)) (rw (same_mark 40 t.token opens) refl) rest (reads_grouped rest whole)
  reads_term_at t rest (inr plain) (inr other) inner whole =
      reads_simple (term (suc deep)) IsTerm t (λ rest. rw (plain, other) refl) (λ mixing own tree test. simple test) rest

may_join : (mixing b : Bool) → b ≡ false → (mixing || not b) ≡ true
may_join true b none = refl
may_join false b none = rw none refl

-- both words mix here, and any test may follow
mixed_more : (t : Placed) (level : Level) (x : Tree) → (is_and t.token ≡ true) ⊎ (is_or t.token ≡ true) → Completes (Tail level x true) ([] ++ t ∷ [])
mixed_more t level x (inl is) = let (own, tree, test) = some_test in
    (own ++ [], Both x tree, and_behind t refl (same_word (codes "AND") t.token is) (simple test) ends)
mixed_more t level x (inr is) = let (own, tree, test) = some_test in
    (own ++ [], Either x tree, or_behind t refl (same_word (codes "OR") t.token is) (simple test) ends)

module _ (deep : ℕ) (level : Level) (x : Tree) where
  reads_mixed : (t : Placed) (rest : List Placed) → ((rest : List Placed) → joined (suc deep) level x (t ∷ rest) ≡ Fails (FilterMixed t.at)) → Completes (Tail level x true) ([] ++ t ∷ [])
      → Reads (joined (suc deep) level x) (Tail level x) (t ∷ rest)
  reads_mixed t rest fails more = record {
    finds = λ z end found. (let whole : Fails (FilterMixed t.at) ≡ Found z end = sym (fails rest) ∙ found in cc);
    breaks = λ reason last is. mixed_breaks t rest fails more reason (let whole : ◌≡◌ {A = Read Tree} (Fails (FilterMixed t.at)) (Fails reason) = sym (fails rest) ∙ is in cc);
  }
    where
      mixed_breaks : (t : Placed) (rest : List Placed) → ((rest : List Placed) → joined (suc deep) level x (t ∷ rest) ≡ Fails (FilterMixed t.at)) → Completes (Tail level x true) ([] ++ t ∷ [])
          → (reason : Reason) → FilterMixed t.at ≡ reason → Breaks (joined (suc deep) level x) (Tail level x) (t ∷ rest) reason
      mixed_breaks t rest fails more reason same = record {
        before = [];
        t = t;
        behind = rest;
        is = refl;
        tells = subst (λ (r : Reason). Tells (joined (suc deep) level x) (Tail level x) [] t r) same (by_mixing more);
        begun = ([], x, ends);
        again = λ other. fails other ∙ ap (λ (r : Reason). Fails r) same;
      }

  ended_again : (t : Placed) (rest other : List Placed) → ((rest : List Placed) → joined (suc deep) level x (t ∷ rest) ≡ Found x (t ∷ rest)) → SameHead (t ∷ rest) other → joined (suc deep) level x other ≡ Found x other
  ended_again t rest other goes same_head = goes _

  reads_ended : (t : Placed) (rest : List Placed) → ((rest : List Placed) → joined (suc deep) level x (t ∷ rest) ≡ Found x (t ∷ rest)) → Reads (joined (suc deep) level x) (Tail level x) (t ∷ rest)
  reads_ended t rest goes = record {
    finds = λ z end found. (let whole : Found x (t ∷ rest) ≡ Found z end = sym (goes rest) ∙ found in let same : x ≡ z = cc in let is : t ∷ rest ≡ end = cc in ended_finds t rest goes z end same is);
    breaks = λ reason last is. (let whole : Found x (t ∷ rest) ≡ Fails reason = sym (goes rest) ∙ is in cc);
  }
    where
      ended_finds : (t : Placed) (rest : List Placed) → ((rest : List Placed) → joined (suc deep) level x (t ∷ rest) ≡ Found x (t ∷ rest)) → (z : Tree) (end : List Placed) → x ≡ z → t ∷ rest ≡ end → Finds (joined (suc deep) level x) (Tail level x) (t ∷ rest) z end
      ended_finds t rest goes z end same is = record {
        own = [];
        is = is;
        within = subst (λ (y : Tree). IsTail false level x [] y) same ends;
        plain = refl;
        again = λ other alike. rw (sym same) (ended_again t rest other goes (subst (λ (y : List Placed). SameHead y other) (sym is) alike));
      }

  abbrev and_then : List Placed → Read Tree
  and_then ts = then_read (term deep ts) (λ next behind. joined deep Ands (Both x next) behind)

  abbrev AndThen : Bool → List Placed → Tree → Type 0
  AndThen = InTurn (term deep) IsTerm (λ next behind. joined deep Ands (Both x next) behind) (λ next. Tail Ands (Both x next))

  abbrev or_then : List Placed → Read Tree
  or_then ts = then_read (term deep ts) (λ next behind. joined deep Ors (Either x next) behind)

  abbrev OrThen : Bool → List Placed → Tree → Type 0
  OrThen = InTurn (term deep) IsTerm (λ next behind. joined deep Ors (Either x next) behind) (λ next. Tail Ors (Either x next))

  and_then_behind : (t : Placed) → has_ors level ≡ false → t.token ≡ Word (codes "AND") → (mixing : Bool) (own : List Placed) (z : Tree) → AndThen mixing own z → IsTail mixing level x (t ∷ own) z
  and_then_behind t none is mixing own z (one, other, y, parts, within, tail) = rw parts (and_behind t (may_join mixing (has_ors level) none) is within tail)

  or_then_behind : (t : Placed) → has_ands level ≡ false → t.token ≡ Word (codes "OR") → (mixing : Bool) (own : List Placed) (z : Tree) → OrThen mixing own z → IsTail mixing level x (t ∷ own) z
  or_then_behind t none is mixing own z (one, other, y, parts, within, tail) = rw parts (or_behind t (may_join mixing (has_ands level) none) is within tail)

  module _ (rest : List Placed) (first : Reads (term deep) IsTerm rest) (next : (level : Level) (y : Tree) (one behind : List Placed) → rest ≡ one ++ behind → Reads (joined deep level y) (Tail level y) behind) where
    reads_and : Reads and_then AndThen rest
    reads_and = reads_in_turn (term deep) IsTerm (λ next behind. joined deep Ands (Both x next) behind) (λ next. Tail Ands (Both x next)) rest first
        (λ y. tail_language Ands (Both x y)) term_language.loosens (λ y one behind is within plain. next Ands (Both x y) one behind is)

    reads_or : Reads or_then OrThen rest
    reads_or = reads_in_turn (term deep) IsTerm (λ next behind. joined deep Ors (Either x next) behind) (λ next. Tail Ors (Either x next)) rest first
        (λ y. tail_language Ors (Either x y)) term_language.loosens (λ y one behind is within plain. next Ors (Either x y) one behind is)

    reads_by_and : (t : Placed) → is_and t.token ≡ true → (has_ors level ≡ true) ⊎ (has_ors level ≡ false) → Reads (joined (suc deep) level x) (Tail level x) (t ∷ rest)
    reads_by_and t is (inl mixes) = reads_mixed t rest (λ rest. rw (is, mixes) refl) (mixed_more t level x (inl is))
    reads_by_and t is (inr none) =
        reads_head (joined (suc deep) level x) (Tail level x) and_then AndThen t (λ rest. rw (is, none) refl) (and_then_behind t none (same_word (codes "AND") t.token is)) (rw (same_word (codes "AND") t.token is) refl) rest reads_and

    reads_by_or : (t : Placed) → is_and t.token ≡ false → is_or t.token ≡ true → (has_ands level ≡ true) ⊎ (has_ands level ≡ false) → Reads (joined (suc deep) level x) (Tail level x) (t ∷ rest)
    reads_by_or t no_and is (inl mixes) = reads_mixed t rest (λ rest. rw (no_and, is, mixes) refl) (mixed_more t level x (inr is))
    reads_by_or t no_and is (inr none) =
        reads_head (joined (suc deep) level x) (Tail level x) or_then OrThen t (λ rest. rw (no_and, is, none) refl) (or_then_behind t none (same_word (codes "OR") t.token is)) (rw (same_word (codes "OR") t.token is) refl) rest reads_or

    reads_joined_at : (t : Placed) → (is_and t.token ≡ true) ⊎ (is_and t.token ≡ false) → (is_or t.token ≡ true) ⊎ (is_or t.token ≡ false) → Reads (joined (suc deep) level x) (Tail level x) (t ∷ rest)
    reads_joined_at t (inl is) either = reads_by_and t is (decided (has_ors level))
    reads_joined_at t (inr no_and) (inl is) = reads_by_or t no_and is (decided (has_ands level))
    reads_joined_at t (inr no_and) (inr no_or) = reads_ended t rest (λ rest. rw (no_and, no_or) refl)

  no_head : (other : List Placed) → SameHead [] other → joined (suc deep) level x other ≡ Found x other
  no_head other same = elim same [ ]

  reads_joined_none : Reads (joined (suc deep) level x) (Tail level x) []
  reads_joined_none = record {
    finds = λ z end found. (let same : x ≡ z = cc in let is : [] ≡ end = cc in none_finds z end same is);
    breaks = λ reason last is. cc;
  }
    where
      none_finds : (z : Tree) (end : List Placed) → x ≡ z → [] ≡ end → Finds (joined (suc deep) level x) (Tail level x) [] z end
      none_finds z end same is = record {
        own = [];
        is = is;
        within = subst (λ (y : Tree). IsTail false level x [] y) same ends;
        plain = refl;
        again = λ other alike. rw (sym same) (no_head other (subst (λ (y : List Placed). SameHead y other) (sym is) alike));
      }

expression_from : (deep : ℕ) (mixing : Bool) (own : List Placed) (tree : Tree) → InTurn (term deep) IsTerm (λ tree rest. joined deep Nothing tree rest) (λ tree. Tail Nothing tree) mixing own tree → IsExpression mixing own tree
expression_from deep mixing own tree (one, other, first, is, within, tail) = rw is (tail_joins mixing tail one (alone within))

mutual
  pub reads_term : (deep : ℕ) (ts : List Placed) → 2 * length ts < deep → Reads (term deep) IsTerm ts
  reads_term zero ts enough = let no_number : ⊥ = omega arith in absurd no_number
  reads_term (suc deep) [] enough = reads_none (term (suc deep)) IsTerm (FilterSyntax 0) refl
  reads_term (suc deep) (t ∷ rest) enough =
      reads_term_at deep t rest (decided (is_negation t.token)) (decided (is_mark 40 t.token)) (reads_term deep rest (omega arith)) (reads_expression deep rest (omega arith))

  pub reads_expression : (deep : ℕ) (ts : List Placed) → 2 * length ts + 1 < deep → Reads (expression deep) IsExpression ts
  reads_expression zero ts enough = let no_number : ⊥ = omega arith in absurd no_number
  reads_expression (suc deep) ts enough =
      reads_wider (expression (suc deep)) (InTurn (term deep) IsTerm (λ tree rest. joined deep Nothing tree rest) (λ tree. Tail Nothing tree)) IsExpression (expression_from deep) ts
      (reads_in_turn (term deep) IsTerm (λ tree rest. joined deep Nothing tree rest) (λ tree. Tail Nothing tree) ts (reads_term deep ts (omega arith)) (λ tree. tail_language Nothing tree) term_language.loosens
      (λ tree one rest is within plain. reads_joined deep Nothing tree rest (let less : length rest ≤ length ts = shorter ts one rest is in omega arith)))

  pub reads_joined : (deep : ℕ) (level : Level) (x : Tree) (ts : List Placed) → 2 * length ts < deep → Reads (joined deep level x) (Tail level x) ts
  reads_joined zero level x ts enough = let no_number : ⊥ = omega arith in absurd no_number
  reads_joined (suc deep) level x [] enough = reads_joined_none deep level x
  reads_joined (suc deep) level x (t ∷ rest) enough =
      reads_joined_at deep level x rest (reads_term deep rest (omega arith))
      (λ own_level y one behind is. reads_joined deep own_level y behind (let less : length behind ≤ length rest = shorter rest one behind is in omega arith))
      t (decided (is_and t.token)) (decided (is_or t.token))
