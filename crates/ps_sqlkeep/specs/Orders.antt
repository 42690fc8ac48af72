-- The order of a table's rows in a store.
use Rattle.sqlite_trees.specs.View.{View, IsOrdered}
use Rattle.sqlite_trees.specs.Objects.{IsListed, catalog_tree}

-- the last commit has each tree in the order of its shape, and lists these shapes
pub record IsInOrder (v : View) : Type 0 where
  pub ordered : IsOrdered v.committed_shape v.committed
  pub listed : IsListed (v.committed catalog_tree) v.committed_shape v.committed_reals
