-- A number that is enough for the tokens reads what each larger number reads.
use Rattle.std.proofs.Common.{◌≡◌, ℕ, zero, suc, ◌+◌, ◌*◌, ◌<◌, ◌≤◌, List, [], ◌∷◌, length, refl, arith}
use Rattle.ps_filter.specs.declared.token.Placed.{Placed}
use Rattle.ps_filter.specs.declared.grammar.Level.{Level}
use Rattle.ps_filter.specs.declared.grammar.Level.TheVariants.{Nothing, Ands, Ors}
use Rattle.ps_filter.specs.Filters.{Tree, Both, Either, Read, Found, Fails, then_read, expression, joined, term}
use Rattle.ps_filter.specs.Grammar.{IsTerm}
use Rattle.ps_filter.proofs.Reading.{Finds}
use Rattle.ps_filter.proofs.ExpressionReadings.{shorter, reads_term}

pub then_alike : {A B : Type 0} (r : Read A) (S S' : A → List Placed → Read B) → ((a : A) (rest : List Placed) → r ≡ Found a rest → S a rest ≡ S' a rest) → then_read r S ≡ then_read r S'
then_alike (Found a rest) S S' alike = alike a rest refl
then_alike (Fails reason) S S' alike = refl

less_behind : (deep : ℕ) (ts : List Placed) (tree : Tree) (behind : List Placed) → 2 * length ts < deep → term deep ts ≡ Found tree behind → length behind ≤ length ts
less_behind deep ts tree behind enough found =
    let f : Finds (term deep) IsTerm ts tree behind = (reads_term deep ts enough).finds tree behind found in shorter ts f.own behind f.is

mutual
  pub term_stays : (deep other : ℕ) (ts : List Placed) → 2 * length ts < deep → 2 * length ts < other → term deep ts ≡ term other ts
  term_stays zero other ts enough enough' = let no_number : ⊥ = omega arith in absurd no_number
  term_stays (suc deep) zero ts enough enough' = let no_number : ⊥ = omega arith in absurd no_number
  term_stays (suc deep) (suc other) [] enough enough' = refl
  term_stays (suc deep) (suc other) (t ∷ rest) enough enough' =
      rw (term_stays deep other rest (omega arith) (omega arith), expression_stays deep other rest (omega arith) (omega arith)) refl

  pub expression_stays : (deep other : ℕ) (ts : List Placed) → 2 * length ts + 1 < deep → 2 * length ts + 1 < other → expression deep ts ≡ expression other ts
  expression_stays zero other ts enough enough' = let no_number : ⊥ = omega arith in absurd no_number
  expression_stays (suc deep) zero ts enough enough' = let no_number : ⊥ = omega arith in absurd no_number
  expression_stays (suc deep) (suc other) ts enough enough' =
      rw (term_stays deep other ts (omega arith) (omega arith))
      (then_alike (term other ts) (λ tree rest. joined deep Nothing tree rest) (λ tree rest. joined other Nothing tree rest)
      (λ tree rest found. (let less : length rest ≤ length ts = less_behind other ts tree rest (omega arith) found in
      joined_stays deep other Nothing tree rest (omega arith) (omega arith))))

  pub joined_stays : (deep other : ℕ) (level : Level) (x : Tree) (ts : List Placed) → 2 * length ts < deep → 2 * length ts < other → joined deep level x ts ≡ joined other level x ts
  joined_stays zero other level x ts enough enough' = let no_number : ⊥ = omega arith in absurd no_number
  joined_stays (suc deep) zero level x ts enough enough' = let no_number : ⊥ = omega arith in absurd no_number
  joined_stays (suc deep) (suc other) level x [] enough enough' = refl
  joined_stays (suc deep) (suc other) level x (t ∷ rest) enough enough' =
      let by_and : then_read (term other rest) (λ next behind. joined deep Ands (Both x next) behind) ≡ then_read (term other rest) (λ next behind. joined other Ands (Both x next) behind) =
      then_alike (term other rest) (λ next behind. joined deep Ands (Both x next) behind) (λ next behind. joined other Ands (Both x next) behind)
      (λ next behind found. (let less : length behind ≤ length rest = less_behind other rest next behind (omega arith) found in
      joined_stays deep other Ands (Both x next) behind (omega arith) (omega arith))) in
      let by_or : then_read (term other rest) (λ next behind. joined deep Ors (Either x next) behind) ≡ then_read (term other rest) (λ next behind. joined other Ors (Either x next) behind) =
      then_alike (term other rest) (λ next behind. joined deep Ors (Either x next) behind) (λ next behind. joined other Ors (Either x next) behind)
      (λ next behind found. (let less : length behind ≤ length rest = less_behind other rest next behind (omega arith) found in
      joined_stays deep other Ors (Either x next) behind (omega arith) (omega arith))) in
      rw (term_stays deep other rest (omega arith) (omega arith), by_and, by_or) refl
