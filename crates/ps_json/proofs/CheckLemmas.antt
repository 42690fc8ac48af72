-- What a reading refuses, and what reading a name tells of it.
use Rattle.std.proofs.Common.{◌≡◌, ℕ, List, Bool, true, false, if◌then◌else◌, Some, None, Result, Ok, Err, IsErrAnd, refl}
use Rattle.ps_base.specs.declared.reason.Reason.TheVariants.{Name}
use Rattle.ps_base.specs.declared.refusal.Refusal.{Refusal}
use Rattle.ps_base.specs.declared.refusal.Refusal.TheVariants.{InvalidArgument}
use Rattle.ps_json.specs.declared.read_error.ReadError.{ReadError}
use Rattle.ps_json.specs.declared.read_error.ReadError.TheVariants.{Refused}
use Rattle.ps_json.specs.Checks.{name_read, Reads}

-- a reading that refuses what is refused
pub refused_as : {A : Type 0} (e : ReadError) (r : Refusal) (reading : Result A Refusal) → e ≡ Refused r → reading ≡ Err r → Reads {A = A} (Err e) reading
refused_as e r reading is refuses = rw is refuses

-- an error that is passed on as it is
pub passed_on : {A : Type 0} (r : Result A ReadError) (e : ReadError) (reading : Result A Refusal) → IsErrAnd r (λ x. x ≡ e) → Reads {A = A} (Err e) reading → Reads r reading
passed_on (Ok x) e reading same refuses = absurd same
passed_on (Err x) e reading same refuses = rw same refuses

pub name_given : (test : Bool) (name given : List ℕ) → Some given ≡ (if test then Some name else None) → name_read test name ≡ Ok given
name_given true name given is = cc
name_given false name given is = cc

pub name_refused : (test : Bool) (name : List ℕ) → None ≡ (if test then Some name else None) → name_read test name ≡ Err (InvalidArgument Name)
name_refused true name is = cc
name_refused false name is = refl
