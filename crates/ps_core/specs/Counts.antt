-- Each accepted entry counts as one.
use Rattle.std.specs.Prelude.{◌≡◌, ◌+◌, ℕ, Bool, true, false, Option, Some, None, if◌then◌else◌}
use Rattle.std.proofs.Common.{sym, ap}
use Rattle.ps_model.specs.declared.command.Entry.{Entry}
use Rattle.ps_model.specs.declared.world.World.{World}
use Rattle.ps_model.specs.Live.{live}
use Rattle.ps_model.specs.Step.{step}
use Rattle.ps_core.specs.Calls.{is_accepted, next}

abbrev pub CountsEntries : Type 0
CountsEntries = (w : World) (e : Entry) (v : World) → next w e ≡ Some v → v.count ≡ w.count + 1

-- the count of a world, and where there is none the one that an entry would lead to
abbrev counted : World → Option World → ℕ
counted w None = w.count + 1
counted w (Some v) = v.count

-- its proof, which the machine hands on to the book
pub counts_entries : CountsEntries
counts_entries w e v goes = by (is_accepted w e) goes
  where
    by : (accepted : Bool) → (if accepted then Some (live (step w e)) else None) ≡ Some v → v.count ≡ w.count + 1
    by true same = sym (ap (counted w) same)
    by false same = sym (ap (counted w) same)
