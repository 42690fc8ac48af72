-- What serving a port does to its log and to its net, by how it ends.
use Rattle.std.specs.Prelude.{◌≡◌, ◌⊎◌, ◌≤◌, ℕ, List, Option, IsTrue, Result, Ok, Err}
use Rattle.ps_keeper.specs.Cause.{Rose}
use Rattle.ps_keeper.specs.declared.keeper.Keeper as keeper
use Rattle.ps_book.specs.declared.machine.Machine as machine
use Rattle.ps_book.specs.Books.{BookMeans}
use Rattle.ps_book.specs.Holding.{LogMeans}
use Rattle.ps_book.specs.Journaled.{Journaled}
use Rattle.ps_book.specs.Meaning.{meaning, IsFirstBad}
use Rattle.ps_edge.specs.declared.cabinet.Cabinet as cabinet
use Rattle.ps_edge.specs.declared.clock.Clock as clock
use Rattle.ps_edge.specs.declared.link.Link as link
use Rattle.ps_edge.specs.declared.net.Net as net
use Rattle.ps_edge.specs.declared.net.NetError.{NetError}
use Rattle.ps_edge.specs.declared.net.NetError.TheVariants as net_error
use Rattle.ps_edge.specs.declared.net.Port.{Port}
use Rattle.ps_edge.specs.Nets.{HasAskedFor}
use Rattle.ps_run.specs.declared.status.Ended.{Ended}
use Rattle.ps_run.specs.declared.status.Status.{Status}
use Rattle.ps_run.specs.declared.status.Status.TheVariants.{Done, Usage, ReadFault, WriteFault, StoreFault, BadRow, OutOfMemory, TooLong, AcceptFault}
use Rattle.ps_run.specs.Opening.{FromOpening, LeavesAll, Opens, ShowsBadRow}
use Rattle.ps_run.specs.Outside.{Outside, around, no_input, no_output, outside}
use Rattle.ps_server.specs.declared.protocol.HttpProtocol as protocol
use Rattle.ps_server.specs.Serving.{From}
use Rattle.ps_server.specs.Turns.{Led}

-- the status of a port that was served
abbrev pub port_status : Result (Unit {0}) NetError → Status
port_status (Ok done) = Done
port_status (Err net_error.Failed) = AcceptFault
port_status (Err net_error.OutOfMemory) = OutOfMemory

module _ {M C E R : Type 0} (m : machine.Ghosts M C E R) (p : protocol.Ghosts M C E R) where
  -- what is known of the outside of a command that reads no input and writes no output; `gives`: the moments that the clock may give
  module _ (gives : ℕ → Type 0) (was now : Outside (Unit {0}) (Unit {0})) where
    -- the log, and each log that a crash may leave, means this world, or maybe the one with one more entry
    abbrev pub Means : m.World → Option m.World → Type 0
    Means w more = LogMeans (meaning m.next m.spelled m.first) w more now.log now.may_leave

    -- as long as the log is known: from the world that it meant when it was opened, requests led to what it means now
    abbrev pub Over : Type 0
    Over = IsTrue now.known → FromOpening (Opens (meaning m.next m.spelled m.first) was now) (Led m p gives Means was.store_faults now.store_faults)

    -- by the status: why it ended so, and what was done to the log
    abbrev pub Served : Status → Type 0
    Served Done = Over
    Served AcceptFault = Over
    Served OutOfMemory = LeavesAll was now ⊎ Over
    Served StoreFault = Rose was.store_faults now.store_faults × LeavesAll was now
    Served (BadRow seq) = ShowsBadRow (meaning m.next m.spelled m.first) (IsFirstBad m.next m.spelled m.first) was now seq × LeavesAll was now
    Served Usage = ⊥
    Served ReadFault = ⊥
    Served WriteFault = ⊥
    Served TooLong = ⊥

  module _ {T : Type 0} (c : clock.Ghosts T) where
    -- as long as the keeper's log is known: requests led from each state that the book was in to what it means now
    abbrev pub Leads : {K : Type 0} → keeper.Ghosts K → T → Journaled M K → Journaled M K → Type 0
    Leads k clock old new = From m p k old new (Led m p (c.may_give clock) (BookMeans m k new) (k.faults old.keeper) (k.faults new.keeper))

    -- the same table over a keeper's log, and over the log under a path
    abbrev pub ServesKeeper : {K : Type 0} → keeper.Ghosts K → T → K → Ended K → Type 0
    ServesKeeper k clock it ended = Served (c.may_give clock) (around no_input no_output k tt tt it) (around no_input no_output k tt tt ended.keeper) ended.status

    abbrev pub ServesFile : {S K : Type 0} → cabinet.Ghosts S K → List ℕ → T → S → S → Status → Type 0
    ServesFile s file clock it it_now status = Served (c.may_give clock) (outside no_input no_output s file tt tt it) (outside no_input no_output s file tt tt it_now) status

module _ {N D L : Type 0} (n : net.Ghosts N D L) (port : Port) (was now : N) where
  -- the net was asked for this port, with one door
  abbrev pub AsksForPort : Type 0
  AsksForPort = HasAskedFor port 1 (n.asked was) (n.asked now)

  -- by the status: what was asked of the net; at `Done` the door came back closed, and at `AcceptFault` the net had failed
  abbrev pub UsesNet : Status → Type 0
  UsesNet Done = AsksForPort × (n.out now ≤ n.out was)
  UsesNet AcceptFault = AsksForPort × Rose (n.faults was) (n.faults now)
  UsesNet OutOfMemory = (now ≡ was) ⊎ AsksForPort
  UsesNet StoreFault = now ≡ was
  UsesNet (BadRow seq) = now ≡ was
  UsesNet Usage = ⊥
  UsesNet ReadFault = ⊥
  UsesNet WriteFault = ⊥
  UsesNet TooLong = ⊥
