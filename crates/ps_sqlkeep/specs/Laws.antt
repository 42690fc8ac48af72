-- The last commit of a store in memory, and of a store over files, is in order.
use Rattle.std.proofs.Common.{zero, suc, ◌==◌, if◌then◌else◌, List, [], ◌∷◌, map, true, false, refl, IsTrue}
use Rattle.std.proofs.Math.Logic.{∥∥₁_elim}
use Rattle.sqlite_disk.specs.declared.Disk.{Ghosts}
use Rattle.sqlite_wal.proofs.StateLemmas.{clean_of}
use Rattle.sqlite_pool.specs.File.{in_use, version_in}
use Rattle.sqlite_trees.specs.declared.memory.MemStore.{MemStore}
use Rattle.sqlite_trees.specs.declared.memory.tree.Tree.{Tree}
use Rattle.sqlite_trees.specs.declared.store.Shape.TheVariants.{Table}
use Rattle.sqlite_trees.specs.Memory.{memory_view, heading, rows_of, shape_of, shapes, objects_of, forest}
use Rattle.sqlite_trees.specs.Listing.{objects_are_ordered, objects_are_listed}
use Rattle.sqlite_trees.specs.Objects.{catalog_tree, version_tree, version_rows}
use Rattle.sqlite_trees.specs.Props.{IsShaped-prop, IsOrdered-prop}
use Rattle.sqlite_trees.specs.View.{IsShaped, IsOrdered}
use Rattle.sqlite_store.specs.declared.store.FileStore.{FileStore}
use Rattle.sqlite_store.specs.FileStore.{state, schema_of, view}
use Rattle.sqlite_store.specs.Saved.{kept_schema}
use Rattle.sqlite_store.specs.Listed.{catalog_rows, is_listed}
use Rattle.sqlite_store.proofs.ListingLemmas.{all_ordered}
use Rattle.ps_sqlkeep.specs.Orders.{IsInOrder}

trees_are_ordered : (trees : List Tree) → IsOrdered (shape_of trees) (rows_of trees)
trees_are_ordered [] t = refl
trees_are_ordered (x ∷ trees) zero = ∥∥₁_elim x.ordered (IsShaped-prop x.shape x.rows.items) (λ h. h)
trees_are_ordered (x ∷ trees) (suc t) = trees_are_ordered trees t

base_is_ordered : (s : MemStore) → IsOrdered (memory_view s).committed_shape (memory_view s).committed
base_is_ordered s t =
    let base = s.base.items in
    let below : IsShaped (shapes base t) (forest base t) =
    elim (t == catalog_tree) as (λ b. IsShaped (if b then Table else shape_of base t) (if b then objects_of base else rows_of base t))
    [ true ↦ objects_are_ordered (map heading base) 0 | false ↦ trees_are_ordered base t ] in
    elim (t == version_tree) as (λ b. IsShaped (if b then Table else shapes base t) (if b then version_rows s.base_version else forest base t))
    [ true ↦ ((tt, tt), (refl, tt)) | false ↦ below ]

pub memory_in_order : (s : MemStore) → IsTrue (memory_view s).is_open → IsInOrder (memory_view s)
memory_in_order s live = record { ordered = base_is_ordered s; listed = objects_are_listed (map heading s.base.items) }

module _ {D : Type 0} {g : Ghosts D} (it : FileStore D g) where
  pub file_in_order : IsTrue (view it).is_open → IsInOrder (view it)
  file_in_order live =
      let schema = kept_schema it.saved (schema_of it) in
      let clean = clean_of (state it) live in
      record {
        ordered = rw clean (∥∥₁_elim (it.stored live) (IsOrdered-prop _ _) (λ stored. all_ordered stored.ours.file.db (version_in (state it).committed)));
        listed = rw (clean, catalog_rows (state it).page_size schema (in_use (state it).page_size (state it).committed)) (is_listed schema);
      }
