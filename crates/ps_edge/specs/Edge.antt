-- What reads and writes do.
use Rattle.std.specs.Prelude.{◌≡◌, ◌<◌, ◌≤◌, ℕ, List, [], ◌++◌, length, take, drop, Option, Some, IfSome, option_map, Result, OnErr}
use Rattle.ps_keeper.specs.Cause.{Rose}
use Rattle.ps_edge.specs.declared.edge.Got.{Got}
use Rattle.ps_edge.specs.declared.edge.Got.TheVariants.{Bytes, End, Failed}

-- a read moves bytes from what is left into the room, or leaves what is left
abbrev pub Takes : Option (List ℕ) → Option (List ℕ) → List ℕ → Got → Type 0
Takes was now room (Bytes n) = (0 < n) × (n ≤ length room) × IfSome was (λ bytes. (n ≤ length bytes) × (now ≡ Some (drop n bytes)) × (take n room ≡ take n bytes))
Takes was now room End = (now ≡ was) × IfSome was (λ bytes. bytes ≡ [])
Takes was now room Failed = now ≡ was

-- the count of faults doesn't fall, and a read that fails raises it
pub record HasReadCause (before now : ℕ) (got : Got) : Type 0 where
  pub later : before ≤ now
  pub failed : got ≡ Failed → Rose before now

-- the first n bytes of a piece were added
abbrev pub Adds : Option (List ℕ) → Option (List ℕ) → List ℕ → ℕ → Type 0
Adds was now piece n = now ≡ option_map (λ held. held ++ take n piece) was

-- the count of faults doesn't fall, and a write that fails raises it
pub record HasWriteCause {T E : Type 0} (before now : ℕ) (result : Result T E) : Type 0 where
  pub later : before ≤ now
  pub failed : OnErr result (Rose before now)
