-- What `check` and `stat` print.
use Rattle.std.specs.Prelude.{ℕ, List, ◌++◌, codes}
use Rattle.std.specs.Fmt.{decimal}
use Rattle.ps_model.specs.declared.stat.Stat.{Stat}

-- a name and its number on a line
abbrev pub number_line : List ℕ → ℕ → List ℕ
number_line name number = name ++ codes " " ++ decimal number ++ codes "\n"

-- the line of `check`
abbrev pub check_text : ℕ → List ℕ
check_text count = number_line (codes "ok") count

-- the ten lines of `stat`
abbrev pub stat_text : Stat → List ℕ
stat_text s =
    number_line (codes "entries") s.entries
    ++ number_line (codes "now") s.now
    ++ number_line (codes "topics") s.topics
    ++ number_line (codes "subscriptions") s.subscriptions
    ++ number_line (codes "snapshots") s.snapshots
    ++ number_line (codes "messages") s.messages
    ++ number_line (codes "backlog") s.backlog
    ++ number_line (codes "leased") s.leased
    ++ number_line (codes "acknowledged") s.acknowledged
    ++ number_line (codes "dead-lettered") s.dead_lettered
