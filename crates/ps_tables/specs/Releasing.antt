-- Messages that one subscription less has.
use Rattle.std.specs.Prelude.{ℕ, ◌-◌, ◌||◌, nat_eq, nat_lt, List, Option, Some, None, filter_map, if◌then◌else◌}
use Rattle.ps_model.specs.declared.mark.Mark.{Mark}
use Rattle.ps_model.specs.Lists.{tally}
use Rattle.ps_tables.specs.declared.tables.KeptMessage.{KeptMessage}

abbrev pub message_number : KeptMessage → ℕ
message_number x = x.row.number

-- how often the message is named
abbrev pub times : List (ℕ × Mark) → ℕ → ℕ
times marks number = tally (λ (p : ℕ × Mark). nat_eq p.0 number) marks

abbrev pub once : ℕ → ℕ → ℕ
once named number = if nat_eq named number then 1 else 0

-- the message with so many holders less, as long as it has another or none is taken
abbrev pub with_less : ℕ → KeptMessage → Option KeptMessage
with_less less x = if nat_eq less 0 || nat_lt less x.holders then Some (record x { holders = x.holders - less }) else None

-- each message with so many holders less as this says of its number; without another it goes
abbrev pub released : (ℕ → ℕ) → List KeptMessage → List KeptMessage
released less messages = filter_map (λ (x : KeptMessage). with_less (less x.row.number) x) messages
