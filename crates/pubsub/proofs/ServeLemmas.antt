-- A cabinet that was asked for nothing.
use Rattle.std.proofs.Common.{ℕ, List, refl}
use Rattle.std.specs.Str.{bytes_eq}
use Rattle.ps_edge.specs.declared.cabinet.Cabinet as cabinet
use Rattle.ps_edge.specs.Files.{dash}
use Rattle.ps_run.specs.Opening.{LeavesAll}
use Rattle.ps_run.specs.Outside.{no_input, no_output, outside}
use Rattle.ps_run.proofs.FileLemmas.{refused-leaves}

pub leaves_same : {S K : Type 0} (s : cabinet.Ghosts S K) (file : List ℕ) (it : S) → LeavesAll (outside no_input no_output s file tt tt it) (outside no_input no_output s file tt tt it)
leaves_same s file it = record {
  input = refl;
  output = refl;
  log = refused-leaves (bytes_eq file dash) (s.known it file) (s.log it file) (s.may_leave it file) (s.known it file) (s.log it file) (s.may_leave it file)
      (record { did = λ known. known; log = λ known. refl; crash = λ known left may. may });
}
