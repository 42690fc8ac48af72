-- What the calls of a net and of its doors do.
use Rattle.std.specs.Prelude.{◌≡◌, ◌≤◌, ⊤, ℕ, List, [], ◌∷◌, ◌++◌, Option, Some, None, IfSome, IsSomeAnd, Bool, true, false, Result, IsErrOf, All}
use Rattle.ps_keeper.specs.Cause.{Rose}
use Rattle.ps_edge.specs.declared.net.Port.{Port}
use Rattle.ps_edge.specs.declared.net.NetError.{NetError}
use Rattle.ps_edge.specs.declared.net.Accepted.{Accepted}
use Rattle.ps_edge.specs.declared.net.Accepted.TheVariants as accepted
use Rattle.ps_edge.specs.declared.net.NetError.TheVariants as net_error

-- the bytes that were read from a link, and those that were written to it
pub record Exchange : Type 0 where
  pub received : List ℕ
  pub written : List ℕ

-- what came of a link, if both are known
abbrev pub exchange : Option (List ℕ) → Option (List ℕ) → Option Exchange
exchange None written = None
exchange (Some received) None = None
exchange (Some received) (Some written) = Some (record { received = received; written = written })

-- one more link came back, if that is still known
abbrev pub HasServed : Option Exchange → Option (List Exchange) → Option (List Exchange) → Type 0
HasServed link was now = IfSome now (λ served. IsSomeAnd was (λ before. IsSomeAnd link (λ one. served ≡ before ++ one ∷ [])))

-- nothing was read from a link and nothing written to it, as far as that is known
pub record IsUnused (received holds : Option (List ℕ)) : Type 0 where
  pub unread : IfSome received (λ bytes. bytes ≡ [])
  pub unwritten : IfSome holds (λ bytes. bytes ≡ [])

module _ {L : Type 0} where
  -- no connection came, and none will
  abbrev pub is_closed : Accepted L → Bool
  is_closed (accepted.Link link) = false
  is_closed accepted.Closed = true
  is_closed accepted.Failed = false

  -- a link that came is unused
  abbrev pub GivesUnused : (L → Option (List ℕ)) → (L → Option (List ℕ)) → Accepted L → Type 0
  GivesUnused received holds (accepted.Link link) = IsUnused (received link) (holds link)
  GivesUnused received holds accepted.Closed = ⊤
  GivesUnused received holds accepted.Failed = ⊤

  -- the count of faults doesn't fall, and an accept that fails raises it
  pub record HasAcceptCause (before now : ℕ) (result : Accepted L) : Type 0 where
    pub later : before ≤ now
    pub failed : result ≡ accepted.Failed → Rose before now

-- one more port was asked for, with this number of doors, if that is still known
abbrev pub HasAskedFor : Port → ℕ → Option (List (Port × ℕ)) → Option (List (Port × ℕ)) → Type 0
HasAskedFor port number was now = IfSome now (λ calls. IsSomeAnd was (λ before. calls ≡ before ++ (port, number) ∷ []))

-- a door as it is given: no link came back to it, as far as that is known
pub record IsNew (closed : Bool) (served : Option (List Exchange)) (faults : ℕ) : Type 0 where
  pub is_not_closed : closed ≡ false
  pub unserved : IfSome served (λ links. links ≡ [])
  pub unfailed : faults ≡ 0

-- doors as they are given
abbrev pub AreNew : {D : Type 0} → (D → Bool) → (D → Option (List Exchange)) → (D → ℕ) → List D → Type 0
AreNew closed served faults doors = All (λ d. IsNew (closed d) (served d) (faults d)) doors

-- the count of faults doesn't fall, and a net that fails raises it
pub record HasNetCause {T : Type 0} (before now : ℕ) (result : Result T NetError) : Type 0 where
  pub later : before ≤ now
  pub failed : IsErrOf result net_error.Failed → Rose before now
