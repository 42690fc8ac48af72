-- A keeper of a file that was just opened is handed out.
use Rattle.std.proofs.Common.{◌≡◌, Bool, true, false, Option, Some, None, sym, true≢false}
use Rattle.std.specs.Prelude.{is_some}
use Rattle.ps_files.specs.declared.keeper.FileKeeper.{FileKeeper}
use Rattle.ps_files.specs.Cabinets.{IsHandedOut, IsNew}

pub handed-new : (is_dash : Bool) (was : Option FileKeeper) (keeper : FileKeeper) → false ≡ is_dash → is_some was ≡ false → IsNew keeper → IsHandedOut is_dash was keeper
handed-new true was keeper path none new = absurd (true≢false (sym path))
handed-new false None keeper path none new = new
handed-new false (Some k) keeper path none new = absurd (true≢false none)
