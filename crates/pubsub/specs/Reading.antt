-- What the bytes of a line ask: a call at a moment, or nothing but the line that refuses it.
use Rattle.std.specs.Prelude.{ℕ, List, Option, Some, None, Result, Ok, Err}
use Rattle.ps_base.specs.declared.refusal.Refusal.{Refusal}
use Rattle.ps_model.specs.declared.command.Command.{Command}
use Rattle.ps_run.specs.declared.protocol.Reading.{Reading}
use Rattle.ps_run.specs.declared.protocol.Reading.TheVariants.{Call, Refused}
use Rattle.ps_json.specs.Line.{Line, line_of}
use Rattle.ps_json.specs.Replies.{no_line_text, refusal_text}
use Rattle.ps_rest.specs.Calls.{asked_by}

-- a command is a call at the line's moment, a refusal is its own answer
abbrev pub reading_at : ℕ → Result Command Refusal → Reading Command
reading_at now (Ok command) = Call now command
reading_at now (Err refusal) = Refused (refusal_text refusal)

-- what a line comes to, where there is one
abbrev pub reading_in : Option Line → Reading Command
reading_in None = Refused no_line_text
reading_in (Some line) = reading_at line.at (asked_by line.verb line.path line.body)

-- what these bytes ask
abbrev pub reading_of : List ℕ → Reading Command
reading_of bytes = reading_in (line_of bytes)
