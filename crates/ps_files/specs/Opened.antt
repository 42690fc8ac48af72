-- A keeper of a database that was just opened.
use Rattle.std.specs.Prelude.{◌≡◌, ◌↔◌, IsTrue}
use Rattle.sqlite.specs.Store.{Ghosts}
use Rattle.sqlite.specs.Held.{state}
use Rattle.ps_sqlkeep.specs.Keeper.{Kept, is_known}
use Rattle.ps_sqlkeep.specs.Adopting.{HoldsLog, StandsAlone}

module _ {S : Type 0} (g : Ghosts S) where
  pub record IsOpened (keeper : Kept S) : Type 0 where
    -- it hasn't failed
    pub unfailed : keeper.faults ≡ 0
    -- its log is known if the database holds one and the store is clean
    pub known : IsTrue (is_known g keeper) ↔ HoldsLog (state g keeper.held)
    -- a crash leaves a known log alone
    pub alone : IsTrue (is_known g keeper) → StandsAlone (state g keeper.held)
