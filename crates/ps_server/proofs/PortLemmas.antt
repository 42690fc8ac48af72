-- What serving a port does, by how it ends.
use Rattle.std.proofs.Common.{◌≡◌, ◌≤◌, ◌⊎◌, inl, inr, ℕ, ◌+◌, ◌-◌, ◌^◌, min, [], Option, Some, None, Bool, true, false, refl, sym, ap, subst, ◌∙◌, arith}
use Rattle.std.specs.Prelude.{IfSome, IsSomeAnd, IsTrue, MatchBool, OnOk, Result, Ok, Err}
use Rattle.ps_keeper.specs.Cause.{Rose}
use Rattle.ps_keeper.specs.Log.{Log}
use Rattle.ps_book.specs.declared.error.CallError.{CallError}
use Rattle.ps_book.specs.declared.error.CallError.TheVariants as call
use Rattle.ps_book.specs.declared.machine.Machine as machine
use Rattle.ps_book.specs.Holding.{LogMeans}
use Rattle.ps_book.specs.Meaning.{meaning, IsFirstBad}
use Rattle.ps_edge.specs.declared.net.Net as net
use Rattle.ps_edge.specs.declared.net.NetError.{NetError}
use Rattle.ps_edge.specs.declared.net.NetError.TheVariants as net_error
use Rattle.ps_edge.specs.declared.net.Port.{Port}
use Rattle.ps_edge.specs.Nets.{HasAskedFor, HasNetCause}
use Rattle.ps_run.specs.declared.status.Status.{Status}
use Rattle.ps_run.specs.declared.status.Status.TheVariants.{Done, Usage, ReadFault, WriteFault, StoreFault, BadRow, OutOfMemory, TooLong, AcceptFault}
use Rattle.ps_run.specs.Fates.{Fate, HasFateCauses}
use Rattle.ps_run.specs.Opening.{BeganWith, FromOpening, LeavesAll, LeavesLog, Opens, ShowsBadRow}
use Rattle.ps_run.specs.Outside.{Outside}
use Rattle.ps_run.specs.Statuses.{begin_status}
use Rattle.ps_run.proofs.Batching.{beside}
use Rattle.ps_server.specs.declared.protocol.HttpProtocol as protocol
use Rattle.ps_server.specs.Ports.{Means, Over, Served, UsesNet, port_status}
use Rattle.ps_server.specs.Turns.{Led}
use Rattle.ps_server.proofs.LedLemmas.{led_as}

module _ {M C E R : Type 0} (m : machine.Ghosts M C E R) (p : protocol.Ghosts M C E R) (gives : ℕ → Type 0) (was now : Outside (Unit {0}) (Unit {0})) where
  -- a port that was served
  pub port_served : (served : Result (Unit {0}) NetError) → Over m p gives was now → Served m p gives was now (port_status served)
  port_served (Ok done) over = over
  port_served (Err net_error.Failed) over = over
  port_served (Err net_error.OutOfMemory) over = inr over

  -- a book that couldn't be opened
  pub begin_served : (e : CallError) → LeavesAll was now → (e ≡ call.StoreFault → Rose was.store_faults now.store_faults)
      → ((seq : ℕ) → e ≡ call.BadRow seq → ShowsBadRow (meaning m.next m.spelled m.first) (IsFirstBad m.next m.spelled m.first) was now seq) → Served m p gives was now (begin_status e)
  begin_served call.StoreFault same rose bad = (rose refl, same)
  begin_served (call.BadRow seq) same rose bad = (bad seq refl, same)
  begin_served call.OutOfMemory same rose bad = inl same

  -- from a keeper's log to the log under a path
  module _ (e k k' : Bool) (log log' : Option Log) (leaves leaves' : Log → Type 0) (before after : ℕ)
      (count : (n : ℕ) → min (was.store_faults + n) (2 ^ 64 - 1) ≤ now.store_faults → min (before + n) (2 ^ 64 - 1) ≤ after) where
    abbrev Was : Outside (Unit {0}) (Unit {0})
    Was = beside was e k log leaves before

    abbrev Now : Outside (Unit {0}) (Unit {0})
    Now = beside now e k' log' leaves' after

    module _ (known : IsTrue k' → IsTrue now.known)
        (began : IsTrue k' → (A : Log → Type 0) → BeganWith was now A → BeganWith Was Now A)
        (means : IsTrue k' → (w : m.World) (more : Option m.World) → Means m p gives was now w more → Means m p gives Was Now w more)
        (leaves_log : LeavesLog was now → LeavesLog Was Now) where
      leaves_moved : LeavesAll was now → LeavesAll Was Now
      leaves_moved it = record { input = it.input; output = it.output; log = leaves_log it.log }

      over_moved : Over m p gives was now → Over m p gives Was Now
      over_moved over t = let run = over (known t) in
          record {
            opening = run.opening;
            opens = began t (λ rows. meaning m.next m.spelled m.first rows ≡ Some run.opening) run.opens;
            runs = led_as m p gives (run.opening, None) (Means m p gives was now) (Means m p gives Was Now) was.store_faults now.store_faults before after (means t) count run.runs;
          }

      pub served_moved : (s : Status) → Served m p gives was now s → Served m p gives Was Now s
      unfolding leaves_moved over_moved
      served_moved Done it = over_moved it
      served_moved AcceptFault it = over_moved it
      served_moved OutOfMemory it = elim it [
        | inl same ↦ inl (leaves_moved same)
        | inr over ↦ inr (over_moved over)
      ]
      served_moved StoreFault it = (count 1 it.0, leaves_moved it.1)
      served_moved (BadRow seq) it = (λ t. began t (λ rows. IsFirstBad m.next m.spelled m.first rows seq × (meaning m.next m.spelled m.first rows ≡ None)) (it.0 (known t)), leaves_moved it.1)
      served_moved Usage it = it
      served_moved ReadFault it = it
      served_moved WriteFault it = it
      served_moved TooLong it = it

module _ {N D L : Type 0} (n : net.Ghosts N D L) (port : Port) (was now : N) where
  -- a net whose port was served
  pub port_uses : (served : Result (Unit {0}) NetError) → HasAskedFor port 1 (n.asked was) (n.asked now) → OnOk served (n.out now ≤ n.out was) → HasNetCause (n.faults was) (n.faults now) served → UsesNet n port was now (port_status served)
  port_uses (Ok done) asked closed cause = (asked, closed)
  port_uses (Err net_error.Failed) asked closed cause = (asked, cause.failed refl)
  port_uses (Err net_error.OutOfMemory) asked closed cause = inr asked

-- a net that was asked for nothing
pub begin_uses : {N D L : Type 0} (n : net.Ghosts N D L) (port : Port) (was : N) (e : CallError) → UsesNet n port was was (begin_status e)
begin_uses n port was call.StoreFault = refl
begin_uses n port was (call.BadRow seq) = refl
begin_uses n port was call.OutOfMemory = inl refl
