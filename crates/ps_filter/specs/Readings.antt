-- What the reader of filters guarantees, by the definition of a filter.
use Rattle.std.specs.Prelude.{ℕ, ◌≡◌, ⊤, List, Option, Some, Result, Ok, Err}
use Rattle.ps_base.specs.declared.reason.Reason.{Reason}
use Rattle.ps_base.specs.declared.reason.Reason.TheVariants.{FilterTooLong, FilterMixed, FilterSyntax}
use Rattle.ps_filter.specs.declared.fault.FilterError.{FilterError}
use Rattle.ps_filter.specs.declared.fault.FilterError.TheVariants.{TooLong, Mixed, Syntax, OutOfMemory}
use Rattle.ps_filter.specs.declared.token.Placed.{Placed}
use Rattle.ps_filter.specs.Filters.{Tree, Read, Found, Fails, read_filter}

-- the result stands for what the definition reads before these tokens, or it is the problem that the definition reports, or memory ran out
abbrev pub ReadsAs : {A B : Type 0} → (A → B) → Read B → Result A FilterError → List Placed → Type 0
ReadsAs meaning reading (Ok value) rest = reading ≡ Found (meaning value) rest
ReadsAs meaning reading (Err TooLong) rest = reading ≡ Fails FilterTooLong
ReadsAs meaning reading (Err (Mixed at)) rest = reading ≡ Fails (FilterMixed at)
ReadsAs meaning reading (Err (Syntax at)) rest = reading ≡ Fails (FilterSyntax at)
ReadsAs meaning reading (Err OutOfMemory) rest = ⊤

-- what is read is what the definition reads
abbrev pub Reads : {A : Type 0} → Read A → Result A FilterError → List Placed → Type 0
Reads = ReadsAs (λ value. value)

-- the text is read as a whole, as this tree
abbrev pub IsReadAs : List ℕ → Tree → Type 0
IsReadAs text tree = (rest : List Placed) × (read_filter text ≡ Found tree rest)

-- the error reports this fault; memory may run out whatever the fault
abbrev pub Tells : Option Reason → FilterError → Type 0
Tells fault TooLong = fault ≡ Some FilterTooLong
Tells fault (Mixed at) = fault ≡ Some (FilterMixed at)
Tells fault (Syntax at) = fault ≡ Some (FilterSyntax at)
Tells fault OutOfMemory = ⊤
