-- A connection in memory, and the scripts of its faults and its waits.
use Rattle.std.specs.Prelude.{◌==◌, ℕ, min, length, Bool, ◌&&◌, not, if◌then◌else◌}
use Rattle.ps_edge.specs.Memory.{Script, Output, fails_next}
use Rattle.ps_edge.specs.Pieces.{Stream, front, drop_empty, advanced}
use Rattle.ps_edge.specs.declared.link.LinkGot.{LinkGot}
use Rattle.ps_edge.specs.declared.link.LinkGot.TheVariants.{Bytes, End, NotYet, Failed}

-- the pieces of the input, the script of the reads that fail, that of the reads that wait, and the output
pub record Connection : Type 0 where
  pub input : Stream
  pub reads : Script
  pub waiting : Script
  pub output : Output

-- whether the next read finds nothing so far
abbrev pub waits_next : Connection → Bool
waits_next l = not (fails_next l.reads) && fails_next l.waiting

-- what a read of so many bytes gives
abbrev pub got_part : ℕ → LinkGot
got_part n = if n == 0 then End else Bytes n

-- what a read into so much room gives: the next piece that has bytes, as far as there is room
abbrev pub link_got : Connection → ℕ → LinkGot
link_got l room =
    if fails_next l.reads then Failed
    else (if waits_next l then NotYet
    else got_part (min (length (front (drop_empty l.input.pieces))) room))

-- the input after a read
abbrev pub after_read : Stream → LinkGot → Stream
after_read s (Bytes n) = advanced s n
after_read s End = advanced s 0
after_read s NotYet = s
after_read s Failed = s
