-- What a line comes to where its call is refused.
use Rattle.std.proofs.Common.{◌≡◌, Result, Err, arith}
use Rattle.ps_base.specs.declared.refusal.Refusal.{Refusal}
use Rattle.ps_json.specs.declared.read_error.ReadError.{ReadError}
use Rattle.ps_json.specs.declared.read_error.ReadError.TheVariants.{Refused, OutOfMemory}
use Rattle.ps_json.specs.Checks.{Reads}

pub refused_reading : {A : Type 0} (error : ReadError) (refusal : Refusal) (asked : Result A Refusal) → error ≡ Refused refusal → Reads (Err error) asked → asked ≡ Err refusal
refused_reading (Refused r) refusal asked is reads = grind (arith, is, reads)
refused_reading OutOfMemory refusal asked is reads = grind (arith, is)
