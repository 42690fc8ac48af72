-- A net in memory, and its doors.
use Rattle.std.specs.Prelude.{◌==◌, ◌-◌, ◌^◌, ◌+◌, ◌&&◌, nat_lt, nat_le, nat_eq, ℕ, zero, suc, min, List, [], ◌∷◌, ◌++◌, length, drop, map, filter, replicate, Option, Some, None, Bool, true, false, not, if◌then◌else◌, sum_by, count_by}
use Rattle.std.specs.List.{list_all}
use Rattle.ps_edge.specs.Memory.{Script, fails_next, resumed}
use Rattle.ps_edge.specs.MemoryLinks.{Connection}
use Rattle.ps_edge.specs.Nets.{Exchange}
use Rattle.ps_edge.specs.declared.net.Port.{Port}
use Rattle.ps_edge.specs.declared.net.Port.TheVariants.{Http, Stream}
use Rattle.ps_edge.specs.declared.net.Accepted.{Accepted}
use Rattle.ps_edge.specs.declared.net.Accepted.TheVariants.{Link, Closed, Failed}

-- a door: the links to come, those that came back, for how many it has memory, and whether one was dropped
pub record Entrance : Type 0 where
  pub waiting : List Connection
  pub served : List Connection
  pub capacity : ℕ
  pub script : Script
  pub closed : Bool
  pub lost : Bool

-- a net: the links of its ports, what it was asked for, and the doors that came back, with room for so many more calls
pub record Ports : Type 0 where
  pub links : List (Port × Connection)
  pub script : Script
  pub asked : Option (List (Port × ℕ))
  pub out : ℕ
  pub returned : List (List Entrance)
  pub room : ℕ

-- a net that was asked for nothing so far; it has room for one call more than it gives doors
abbrev pub ports : List (Port × Connection) → Script → Ports
ports links script = record { links = links; script = script; asked = Some []; out = 0; returned = []; room = 1 }

-- nothing was read from a link, and nothing written to it
abbrev pub is_unused : Connection → Bool
is_unused l = nat_eq (length l.input.past) 0 && nat_eq (length l.output.bytes) 0

-- no link of a net was used
abbrev pub all_unused : List (Port × Connection) → Bool
all_unused links = list_all (λ it. is_unused it.1) links

-- what came of a link
abbrev pub exchanged : Connection → Exchange
exchanged l = record { received = l.input.past; written = l.output.bytes }

-- what came of the links that came back, unless one was dropped
abbrev pub served_by : Entrance → Option (List Exchange)
served_by d = if d.lost then None else Some (map exchanged d.served)

-- the next link, or the end
abbrev pub next_link : List Connection → Accepted Connection
next_link [] = Closed
next_link (link ∷ links) = Link link

-- what an accept gives
abbrev pub accepted : Entrance → Accepted Connection
accepted d = if fails_next d.script then Failed else next_link d.waiting

-- the links to come after an accept
abbrev pub waiting_after : Entrance → List Connection
waiting_after d = if fails_next d.script then d.waiting else drop 1 d.waiting

-- a door after a link came back: if it has no memory for the link, it drops it
abbrev pub after_done : Connection → Entrance → Entrance
after_done link d = if nat_lt (length d.served) d.capacity then record d { served = d.served ++ link ∷ [] } else record d { lost = true }

-- a door without links, which has memory for so many; its calls are counted from those of the script on
abbrev pub entrance : ℕ → Script → Entrance
entrance capacity script = record { waiting = []; served = []; capacity = capacity; script = resumed script; closed = false; lost = false }

-- whether two ports are the same
abbrev pub same_port : Port → Port → Bool
same_port (Http a) (Http b) = a == b
same_port (Http a) (Stream b) = false
same_port (Stream a) (Http b) = false
same_port (Stream a) (Stream b) = a == b

-- whether a link is dealt to the doors of a port, if there are any
abbrev pub goes_to : Port → ℕ → Port × Connection → Bool
goes_to port number it = nat_lt 0 number && same_port it.0 port

-- the links that are dealt to the doors of a port
abbrev pub links_of : Port → ℕ → List (Port × Connection) → List Connection
links_of port number links = map (λ it. it.1) (filter (goes_to port number) links)

-- the links that stay with the net
abbrev pub others : Port → ℕ → List (Port × Connection) → List (Port × Connection)
others port number links = filter (λ it. not (goes_to port number it)) links

-- the doors with one more link at a place
abbrev pub given : ℕ → Connection → List Entrance → List Entrance
given at link [] = []
given zero link (d ∷ doors) = record d { waiting = d.waiting ++ link ∷ [] } ∷ doors
given (suc at) link (d ∷ doors) = d ∷ given at link doors

-- the place whose turn it is next
abbrev pub next_turn : ℕ → ℕ → ℕ
next_turn number at = if at + 1 == number then 0 else at + 1

-- the doors with these links, dealt to them in turn, from a place on
abbrev pub dealt : ℕ → List Connection → List Entrance → List Entrance
dealt at [] doors = doors
dealt at (link ∷ links) doors = dealt (next_turn (length doors) at) links (given at link doors)

-- the doors of a port
abbrev pub opened : Port → ℕ → Script → List (Port × Connection) → List Entrance
opened port number script links = dealt 0 (links_of port number links) (replicate number (entrance (length links) script))

-- how many of these doors are closed
abbrev pub closed_among : List Entrance → ℕ
closed_among doors = count_by (λ d. d.closed) doors

-- a count with the faults of these doors, which stays at the end of its type
abbrev pub with_faults_of : List Entrance → ℕ → ℕ
with_faults_of doors faults = min (faults + sum_by (λ d. d.script.faults) doors) (2 ^ 64 - 1)

-- whether each door has memory for so many more links to come
abbrev pub all_room : ℕ → List Entrance → Bool
all_room n doors = list_all (λ d. nat_le (length d.waiting + n) d.capacity) doors
