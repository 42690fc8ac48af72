-- Each value has one encoding: what was written is read back, and nothing else is read.
use Rattle.std.specs.Prelude.{◌≡◌, ℕ, List, ◌++◌, Some}
use Rattle.ps_codec.specs.Fields.{IsBytes}
use Rattle.ps_model.specs.Forms.{Reading}

pub record IsForm {A : Type 0} (form : A → List ℕ) (at : Reading A) (Fits : A → Type 0) : Type 0 where
  -- a value that fits is read back, whatever follows its bytes
  pub again : (value : A) (rest : List ℕ) → Fits value → at (form value ++ rest) ≡ Some (value, rest)
  -- the bytes begin with the encoding of the value that is read, and the value fits
  pub only : (bytes : List ℕ) (value : A) (rest : List ℕ) → IsBytes bytes → at bytes ≡ Some (value, rest) → (bytes ≡ form value ++ rest) × Fits value
