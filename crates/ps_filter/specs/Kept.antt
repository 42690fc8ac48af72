-- What the tree that is kept for a filter means.
use Rattle.ps_filter.specs.declared.tree.Tree.{Tree as Kept}
use Rattle.ps_filter.specs.declared.tree.Tree.TheVariants.{Has as KeptHas, Equals as KeptEquals, Begins as KeptBegins, Negated' as KeptNegated, Both' as KeptBoth, Either' as KeptEither}
use Rattle.ps_filter.specs.Filters.{Tree, Has, Equals, Begins, Negated, Both, Either}

abbrev pub meaning : Kept → Tree
meaning (KeptHas key) = Has key
meaning (KeptEquals key value) = Equals key value
meaning (KeptBegins key front) = Begins key front
meaning (KeptNegated p tree) = Negated (meaning tree)
meaning (KeptBoth p one q other) = Both (meaning one) (meaning other)
meaning (KeptEither p one q other) = Either (meaning one) (meaning other)
