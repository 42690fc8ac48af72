-- The words of the command line, and what they ask for.
use Rattle.std.specs.Prelude.{ℕ, List, [], ◌∷◌, Option, Some, None, option_map, IfSome, map, nat_eq, length, string_bytes, String, if◌then◌else◌, codes}
use Rattle.std.specs.Str.{bytes_eq}
use Rattle.std.specs.declared.alloc.Global.{Global}
use Rattle.pubsub.specs.declared.words.Task.{Task}
use Rattle.pubsub.specs.declared.words.Task.TheVariants.{Batch, Print}
use Rattle.ps_run.specs.declared.protocol.Report.{Report}
use Rattle.ps_run.specs.declared.protocol.Report.TheVariants.{Check, Stat}

-- the bytes of the words
abbrev pub texts : List (String Global) → List (List ℕ)
texts words = map string_bytes words

-- the task of this name
abbrev pub task_of : List ℕ → Option Task
task_of verb =
    if bytes_eq verb (codes "batch") then Some Batch else (
    if bytes_eq verb (codes "check") then Some (Print Check) else (
    if bytes_eq verb (codes "stat") then Some (Print Stat) else None))

-- a task and its file, if the words are these two
abbrev pub request_in : List (List ℕ) → Option (Task × List ℕ)
request_in [] = None
request_in (verb ∷ []) = None
request_in (verb ∷ file ∷ []) = if nat_eq (length file) 0 then None else option_map (λ task. (task, file)) (task_of verb)
request_in (verb ∷ file ∷ more ∷ words) = None

-- this holds of the file, if the words ask for something
abbrev pub OnFile : List (String Global) → (List ℕ → Type 0) → Type 0
OnFile words P = IfSome (request_in (texts words)) (λ it. P it.1)

-- this holds of a task and its file: if it is a batch, and if it is a report
abbrev pub IfBatch : (List ℕ → Type 0) → Task × List ℕ → Type 0
IfBatch P (Batch, file) = P file
IfBatch P (Print report, file) = Unit {0}

abbrev pub IfReport : (Report → List ℕ → Type 0) → Task × List ℕ → Type 0
IfReport P (Batch, file) = Unit {0}
IfReport P (Print report, file) = P report file

-- this holds of the file, if the words are `batch FILE`
abbrev pub OnBatch : List (String Global) → (List ℕ → Type 0) → Type 0
OnBatch words P = IfSome (request_in (texts words)) (IfBatch P)

-- this holds of the report and the file, if the words are `check FILE` or `stat FILE`
abbrev pub OnReport : List (String Global) → (Report → List ℕ → Type 0) → Type 0
OnReport words P = IfSome (request_in (texts words)) (IfReport P)
