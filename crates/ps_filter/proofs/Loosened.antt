-- What joins by one word also joins if both may mix.
use Rattle.std.proofs.Common.{true, false, List, refl}
use Rattle.ps_filter.specs.declared.token.Placed.{Placed}
use Rattle.ps_filter.specs.declared.grammar.Level.{Level}
use Rattle.ps_filter.specs.Filters.{Tree}
use Rattle.ps_filter.specs.Grammar.{IsTerm, simple, grouped, negated, IsJoined, alone, by_and, by_or}

mutual
  pub term_loosened : {ts : List Placed} {tree : Tree} → IsTerm false ts tree → IsTerm true ts tree
  term_loosened (simple test) = simple test
  term_loosened (grouped opening closing opens inside closes) = grouped opening closing opens (joined_loosened inside) closes
  term_loosened (negated sign is more) = negated sign is (term_loosened more)

  pub joined_loosened : {level : Level} {ts : List Placed} {tree : Tree} → IsJoined false level ts tree → IsJoined true level ts tree
  joined_loosened (alone one) = alone (term_loosened one)
  joined_loosened (by_and join before may is other) = by_and join (joined_loosened before) refl is (term_loosened other)
  joined_loosened (by_or join before may is other) = by_or join (joined_loosened before) refl is (term_loosened other)
