-- What requests ask of the service.
use Rattle.std.specs.Prelude.{ℕ, List, Result, Ok, Err}
use Rattle.ps_base.specs.declared.refusal.Refusal.{Refusal}
use Rattle.ps_core.specs.State.{State}
use Rattle.ps_model.specs.declared.command.Command.{Command}
use Rattle.ps_model.specs.declared.command.Entry.{Entry}
use Rattle.ps_model.specs.declared.reply.Reply.{Reply}
use Rattle.ps_rest.specs.Answers.{fault_answer, framing_body, refusal_answer, reply_answer}
use Rattle.ps_rest.specs.Calls.{routed}
use Rattle.ps_server.specs.declared.protocol.HttpProtocol as protocol

-- a command, or the code and the body of a refusal
abbrev pub asked_by : Result Command Refusal → Result Command (ℕ × List ℕ)
asked_by (Ok command) = Ok command
asked_by (Err refusal) = Err (refusal_answer refusal)

-- what a method, a target and a body ask
abbrev pub asked : List ℕ → List ℕ → List ℕ → Result Command (ℕ × List ℕ)
asked method target body = asked_by (routed method target body)

-- the core as a service over HTTP
abbrev pub service : protocol.Ghosts State Command Entry Reply
service = record { asked = asked; reply_answer = reply_answer; fault_answer = fault_answer; refusal_body = framing_body }
