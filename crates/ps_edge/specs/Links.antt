-- What reads of a link do.
use Rattle.std.specs.Prelude.{◌≡◌, ◌<◌, ◌≤◌, ℕ, List, [], ◌++◌, length, take, drop, Option, Some, IfSome, option_map}
use Rattle.ps_keeper.specs.Cause.{Rose}
use Rattle.ps_edge.specs.declared.link.LinkGot.{LinkGot}
use Rattle.ps_edge.specs.declared.link.LinkGot.TheVariants.{Bytes, End, NotYet, Failed}

-- a read moves bytes from what is left into the room, or leaves what is left; at the end nothing is left
abbrev pub TakesPart : Option (List ℕ) → Option (List ℕ) → List ℕ → LinkGot → Type 0
TakesPart was now room (Bytes n) = (0 < n) × (n ≤ length room) × IfSome was (λ bytes. (n ≤ length bytes) × (now ≡ Some (drop n bytes)) × (take n room ≡ take n bytes))
TakesPart was now room End = (now ≡ was) × IfSome was (λ bytes. bytes ≡ [])
TakesPart was now room NotYet = now ≡ was
TakesPart was now room Failed = now ≡ was

-- the bytes in the room are added to those that were read
abbrev pub Receives : Option (List ℕ) → Option (List ℕ) → List ℕ → LinkGot → Type 0
Receives was now room (Bytes n) = now ≡ option_map (λ had. had ++ take n room) was
Receives was now room End = now ≡ was
Receives was now room NotYet = now ≡ was
Receives was now room Failed = now ≡ was

-- neither count falls; a read that fails raises the count of faults, and one that finds nothing so far that of waits
pub record HasLinkCause (faults faults_after waits waits_after : ℕ) (got : LinkGot) : Type 0 where
  pub later : faults ≤ faults_after
  pub failed : got ≡ Failed → Rose faults faults_after
  pub waited_later : waits ≤ waits_after
  pub waited : got ≡ NotYet → Rose waits waits_after
