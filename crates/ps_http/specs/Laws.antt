-- What the definition of a request is meant to have.
use Rattle.std.specs.Prelude.{◌≡◌, ◌≢◌, ℕ, Bool, List, [], ◌++◌, length}
use Rattle.ps_http.specs.Requests.{Framed, Frames}

-- any bytes have one answer
abbrev pub OneAnswer : Type 0
OneAnswer = (bytes : List ℕ) (f g : Framed) → Frames bytes f → Frames bytes g → f ≡ g

-- an answer other than waiting stays when bytes are added
abbrev pub Stays : Type 0
Stays = (bytes more : List ℕ) (f : Framed) → Frames bytes f → f ≢ Framed.waits → Frames (bytes ++ more) f

-- the bytes are one request and nothing more
abbrev pub IsRequest : List ℕ → Type 0
IsRequest bytes = (method target body : List ℕ) × (close : Bool) × Frames bytes (Framed.whole method target body close (length bytes))

-- no request is a proper prefix of another one
abbrev pub PrefixFree : Type 0
PrefixFree = (bytes more : List ℕ) → IsRequest bytes → IsRequest (bytes ++ more) → more ≡ []
