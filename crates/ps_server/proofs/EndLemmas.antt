-- Why a connection ended, from its start.
use Rattle.std.proofs.Common.{◌≤◌, arith}
use Rattle.ps_edge.specs.declared.link.Link as link
use Rattle.ps_run.proofs.Going.{rose_after}
use Rattle.ps_server.specs.declared.conn.ConnEnd.{ConnEnd}
use Rattle.ps_server.specs.declared.conn.ConnEnd.TheVariants.{Ended, Torn, ReadFault, WriteFault, Refused, Closed, OutOfMemory}
use Rattle.ps_server.specs.Serving.{CausesEnd, HasEndCause}

module _ {S : Type 0} (l : link.Ghosts S) where
  -- a count that rose since some moment rose since an earlier one
  caused_from : (was mid now : S) (end : ConnEnd) → l.faults was ≤ l.faults mid → CausesEnd l mid now end → CausesEnd l was now end
  caused_from was mid now Ended later caused = caused
  caused_from was mid now (Torn n) later caused = caused
  caused_from was mid now ReadFault later caused = rose_after (l.faults was) (l.faults mid) (l.faults now) later caused
  caused_from was mid now WriteFault later caused = rose_after (l.faults was) (l.faults mid) (l.faults now) later caused
  caused_from was mid now (Refused code) later caused = caused
  caused_from was mid now Closed later caused = tt
  caused_from was mid now OutOfMemory later caused = tt

  pub cause_from : (was mid now : S) (end : ConnEnd) → l.faults was ≤ l.faults mid → HasEndCause l mid now end → HasEndCause l was now end
  cause_from was mid now end later cause = record { later = omega (arith, later, cause.later); caused = caused_from was mid now end later cause.caused }
