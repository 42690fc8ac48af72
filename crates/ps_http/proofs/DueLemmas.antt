-- When the answer 100 is due.
use Rattle.std.proofs.Common.{◌≡◌, ℕ, Bool, true, List, ◌++◌, sym, ap, ◌∙◌}
use Rattle.ps_http.specs.declared.starts.Start.{Start}
use Rattle.ps_http.specs.declared.starts.Start.TheVariants as Starts
use Rattle.ps_http.specs.Requests.{IsDue, StartSays, waits_of}
use Rattle.ps_http.proofs.OneAnswer.{one_start}
use Rattle.ps_http.proofs.StartStays.{start_stays}

due_by : (bytes more : List ℕ) (start : Start) → StartSays bytes start → true ≡ waits_of start → IsDue (bytes ++ more) true
due_by bytes more Starts.Waits says due = absurd cc
due_by bytes more (Starts.Refused code) says due = absurd cc
due_by bytes more (Starts.Read head at) says due = (Starts.Read head at, start_stays bytes more (Starts.Read head at) (λ e. cc) says, due)

-- once it is due, it stays due when bytes are added
pub due_stays : (bytes more : List ℕ) → IsDue bytes true → IsDue (bytes ++ more) true
due_stays bytes more due = due_by bytes more due.0 due.1 due.2

-- it is due or it isn't
pub one_due : (bytes : List ℕ) (a b : Bool) → IsDue bytes a → IsDue bytes b → a ≡ b
one_due bytes a b x y = x.2 ∙ ap waits_of (one_start bytes x.0 y.0 x.1 y.1) ∙ sym y.2
