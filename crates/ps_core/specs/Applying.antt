-- What an answer to an entry has to be: whether it is accepted, and then the world after it.
use Rattle.std.specs.Prelude.{◌≡◌, Bool, true, false, MatchOption}
use Rattle.ps_model.specs.declared.command.Entry.{Entry}
use Rattle.ps_model.specs.declared.world.World.{World}
use Rattle.ps_core.specs.Calls.{next}

abbrev pub Applies : World → Entry → Bool → World → Type 0
Applies w e taken new = MatchOption (next w e) (taken ≡ false) (λ v. (taken ≡ true) × (new ≡ v))
