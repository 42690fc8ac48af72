-- What the words of `serve` ask for, and what is done then.
use Rattle.std.specs.Prelude.{◌≡◌, ◌⊎◌, ◌<◌, ℕ, List, [], length, Some, true, false, String}
use Rattle.std.specs.declared.alloc.Global.{Global}
use Rattle.ps_book.specs.declared.machine.Machine as machine
use Rattle.ps_core.specs.State.{State}
use Rattle.ps_edge.specs.declared.cabinet.Cabinet as cabinet
use Rattle.ps_edge.specs.declared.clock.Clock as clock
use Rattle.ps_edge.specs.declared.edge.Sink as sink
use Rattle.ps_model.specs.declared.command.Command.{Command}
use Rattle.ps_model.specs.declared.command.Entry.{Entry}
use Rattle.ps_model.specs.declared.reply.Reply.{Reply}
use Rattle.ps_server.specs.Ports.{ServesFile}
use Rattle.ps_server.specs.Service.{service}
use Rattle.ps_words.specs.Serve.{accepts_words, file_in, http_in, texts}
use Rattle.pubsub.specs.Commands.{Tells}

-- the words ask to serve this port over this file
pub record AsksToServe (words : List (String Global)) (port : ℕ) (file : List ℕ) : Type 0 where
  pub accepted : accepts_words (texts words) ≡ true
  pub http : http_in (texts words) ≡ Some port
  pub file_is : file_in (texts words) ≡ Some file
  pub named : 0 < length file

-- the words ask for no service: the parser refuses them, or the file has no name
abbrev pub AsksNoService : List (String Global) → Type 0
AsksNoService words = (accepts_words (texts words) ≡ false) ⊎ (file_in (texts words) ≡ Some [])

-- this holds of the port and the file, if the words ask to serve them
abbrev pub OnServe : List (String Global) → (ℕ → List ℕ → Type 0) → Type 0
OnServe words P = (port : ℕ) (file : List ℕ) → AsksToServe words port file → P port file

-- the status was told, and the table holds of it
abbrev pub Serves : {S K T E : Type 0} → machine.Ghosts State Command Entry Reply → cabinet.Ghosts S K → clock.Ghosts T → sink.Ghosts E → List (String Global) → T → S → S → E → E → ℕ → Type 0
Serves m s c e words clock it it_now faults faults_now code = OnServe words (λ port file. Tells e faults faults_now code (ServesFile m service c s file clock it it_now))
