-- How a command ends, and what is written of that.
use Rattle.std.specs.Prelude.{◌≡◌, ◌⊎◌, ℕ, List, [], ◌++◌, take, Option, option_map, codes}
use Rattle.std.specs.Fmt.{decimal}
use Rattle.ps_keeper.specs.Cause.{Rose}
use Rattle.ps_edge.specs.declared.edge.Sink as sink
use Rattle.ps_book.specs.declared.error.CallError.{CallError}
use Rattle.ps_book.specs.declared.error.CallError.TheVariants as call
use Rattle.ps_run.specs.declared.status.Status.{Status}
use Rattle.ps_run.specs.declared.status.Status.TheVariants.{Done, Usage, ReadFault, WriteFault, StoreFault, BadRow, OutOfMemory, TooLong, AcceptFault}

-- the exit status of the process
abbrev pub code_of : Status → ℕ
code_of Done = 0
code_of Usage = 2
code_of ReadFault = 3
code_of WriteFault = 4
code_of StoreFault = 5
code_of (BadRow seq) = 6
code_of OutOfMemory = 7
code_of TooLong = 8
code_of AcceptFault = 9

abbrev pub usage_text : List ℕ
usage_text = codes "usage: pubsub batch FILE | check FILE | stat FILE | compact FILE | load N | serve OPTIONS FILE\n"

-- a number is the exit status of a status of which this holds
abbrev pub EndsWith : ℕ → (Status → Type 0) → Type 0
EndsWith code P = (status : Status) × (code ≡ code_of status) × P status

-- 0, or 7 if out of memory
abbrev pub EndsWell : ℕ → Type 0
EndsWell code = (code ≡ 0) ⊎ (code ≡ 7)

-- 2, 5 or 6: no log was opened
abbrev pub IsUnopened : ℕ → Type 0
IsUnopened code = (code ≡ 2) ⊎ (code ≡ 5) ⊎ (code ≡ 6)

-- the text of a status
abbrev pub status_text : Status → List ℕ
status_text Done = []
status_text Usage = usage_text
status_text ReadFault = codes "read fault\n"
status_text WriteFault = codes "write fault\n"
status_text StoreFault = codes "store fault\n"
status_text (BadRow seq) = codes "bad row " ++ (decimal seq ++ codes "\n")
status_text OutOfMemory = codes "out of memory\n"
status_text TooLong = codes "input too long\n"
status_text AcceptFault = codes "accept fault\n"

-- the status of a book that couldn't be opened
abbrev pub begin_status : CallError → Status
begin_status call.StoreFault = StoreFault
begin_status (call.BadRow seq) = BadRow seq
begin_status call.OutOfMemory = OutOfMemory

-- a text was written: whole, or cut if the count of faults rose
pub record IsWritten (text : List ℕ) (was now : Option (List ℕ)) (before after : ℕ) : Type 0 where
  pub cut : ℕ
  pub output : now ≡ option_map (λ held. held ++ take cut text) was
  pub whole : (now ≡ option_map (λ held. held ++ text) was) ⊎ Rose before after

-- a sink was given this text
abbrev pub Writes : {O : Type 0} → sink.Ghosts O → O → O → List ℕ → Type 0
Writes o was now text = IsWritten text (o.holds was) (o.holds now) (o.faults was) (o.faults now)
