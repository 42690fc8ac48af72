-- The slots of a cabinet: a path, and its keeper unless that is out.
use Rattle.std.specs.Prelude.{ℕ, List, [], ◌∷◌, Option, Some, None, Bool, true, false, nat_eq, is_none, option_and_then, if◌then◌else◌}
use Rattle.std.specs.Option.{option_map_or}
use Rattle.std.specs.List.{list_all}
use Rattle.std.specs.Str.{bytes_eq}
use Rattle.ps_edge.specs.declared.path_log.PathLog.{PathLog}

module _ {K : Type 0} where
  -- what lies in the first slot of a path: its keeper, or nothing while that is out
  abbrev pub slot_at : List ℕ → List (PathLog K) → Option (Option K)
  slot_at path [] = None
  slot_at path (s ∷ slots) = if bytes_eq s.path path then Some s.keeper else slot_at path slots

  -- the keeper that lies under a path
  abbrev pub kept : List ℕ → List (PathLog K) → Option K
  kept path slots = option_and_then (λ keeper. keeper) (slot_at path slots)

  -- whether a keeper is out for a path
  abbrev pub is_out_of : List ℕ → List (PathLog K) → Bool
  is_out_of path slots = option_map_or is_none (slot_at path slots) false

  -- the slots with this keeper, or with none, under a path
  abbrev pub stored : List ℕ → Option K → List (PathLog K) → List (PathLog K)
  stored path keeper [] = (record { path = path; keeper = keeper }) ∷ []
  stored path keeper (s ∷ slots) = if bytes_eq s.path path then (record { path = s.path; keeper = keeper }) ∷ slots else s ∷ stored path keeper slots

  -- the slots after a keeper came back for a path: if none is out for it, the keeper is dropped
  abbrev pub after_back : List ℕ → K → List (PathLog K) → List (PathLog K)
  after_back path keeper slots = if is_out_of path slots then stored path (Some keeper) slots else slots

  module _ (faults : K → ℕ) where
    -- a keeper that hasn't failed, or none
    abbrev pub is_unfailed : Option K → Bool
    is_unfailed keeper = option_map_or (λ k. nat_eq (faults k) 0) keeper true

    -- no keeper in these slots has failed
    abbrev pub all_unfailed : List (PathLog K) → Bool
    all_unfailed slots = list_all (λ s. is_unfailed s.keeper) slots
