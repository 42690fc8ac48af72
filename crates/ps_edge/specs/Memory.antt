-- A source and a sink in memory, and the script of their faults.
use Rattle.std.specs.Prelude.{◌==◌, ℕ, min, List, length, Bool, if◌then◌else◌}
use Rattle.std.specs.List.{list_any}
use Rattle.ps_keeper.specs.Memory.{up}
use Rattle.ps_edge.specs.declared.edge.Got.{Got}
use Rattle.ps_edge.specs.declared.edge.Got.TheVariants.{Bytes, End, Failed}

-- which calls fail, how many there were, and how often one failed
pub record Script : Type 0 where
  pub failing : List ℕ
  pub calls : ℕ
  pub faults : ℕ

-- a script at its first call
abbrev pub unread : List ℕ → Script
unread failing = record { failing = failing; calls = 0; faults = 0 }

-- a source: what is left to read
pub record Input : Type 0 where
  pub left : List ℕ
  pub script : Script

-- a sink: what was written, and how many bytes it can hold in the memory that it has
pub record Output : Type 0 where
  pub bytes : List ℕ
  pub capacity : ℕ
  pub script : Script

-- a script that counts on from the calls of another, without its faults
abbrev pub resumed : Script → Script
resumed s = record { failing = s.failing; calls = s.calls; faults = 0 }

-- whether the script names the next call
abbrev pub fails_next : Script → Bool
fails_next s = list_any (λ n. n == up s.calls) s.failing

-- after one more call, which failed or didn't
abbrev pub after_call : Script → Bool → Script
after_call s failed = record { failing = s.failing; calls = up s.calls; faults = (if failed then up s.faults else s.faults) }

-- what a read of so many bytes gives, unless it fails: as many as there are
abbrev pub got_bytes : ℕ → Got
got_bytes n = if n == 0 then End else Bytes n

-- what a read into so much room gives
abbrev pub got : Input → ℕ → Got
got s room = if fails_next s.script then Failed else got_bytes (min (length s.left) room)
