-- What holds of every world that a history reaches.
use Rattle.std.specs.Prelude.{List}
use Rattle.ps_model.specs.declared.command.Entry.{Entry}
use Rattle.ps_model.specs.Step.{empty_world}
use Rattle.ps_model.specs.History.{IsHistory, after}
use Rattle.ps_model.specs.Sound.{IsSound}

-- Every world that a history gives is sound.
abbrev pub SoundAfterHistories : Type 0
SoundAfterHistories = (es : List Entry) → IsHistory empty_world es → IsSound (after empty_world es)
