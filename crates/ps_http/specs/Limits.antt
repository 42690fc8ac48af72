-- The limits on what a client may send.
use Rattle.std.specs.Prelude.{ℕ}

-- the bytes of a head, of a trailer, and of the line ends that are skipped before a head
abbrev pub most_head : ℕ
most_head = 65536

-- the lines of a head without the empty one
abbrev pub head_lines : ℕ
head_lines = 101

-- the fields of a head
abbrev pub most_fields : ℕ
most_fields = 100

-- the bytes of a body
abbrev pub most_body : ℕ
most_body = 16777216

-- the bytes of a chunk line
abbrev pub most_line : ℕ
most_line = 1024

-- the lines of a trailer without the empty one
abbrev pub trailer_lines : ℕ
trailer_lines = 100
