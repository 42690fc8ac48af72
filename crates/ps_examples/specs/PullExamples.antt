-- Worked examples: how much a pull hands out, and how its numbers are read.
use Rattle.std.specs.Prelude.{ℕ, ◌≡◌, List, [], ◌∷◌, ◌++◌, Option, Some, None}
use Rattle.ps_base.specs.declared.reason.Reason.TheVariants.{MaxMessages}
use Rattle.ps_model.specs.declared.command.Command.TheVariants.{Pull}
use Rattle.ps_model.specs.declared.command.Entry.{Entry}
use Rattle.ps_examples.specs.Samples.{Call, told, recorded_of, base, hi, publish_at, pull_at, id, out, plain_answer, sub_name, broken_by, none_named}

-- three messages of 2 bytes wait
abbrev pub three : List Call
three = base ++ publish_at 1000 (hi ∷ hi ∷ hi ∷ []) ∷ []

abbrev pub pull_with : ℕ → ℕ → Option ℕ → Call
pull_with most budget seconds = (2000, Pull sub_name most budget seconds)

-- a pull as it is recorded
abbrev pub pull_entry : ℕ → ℕ → Option ℕ → Option Entry
pull_entry most budget seconds = Some (record { now = 2000; command = Pull sub_name most budget seconds })

-- one message is out, under a lease of these seconds
abbrev pub out_for : ℕ → List Call
out_for seconds = base ++ publish_at 1000 (hi ∷ []) ∷ pull_with 1 10000000 (Some seconds) ∷ []

pub record PullExamples : Type 0 where
  -- the first messages in order of their numbers, at most so many
  pub two_of_three : told three (pull_at 2000 2) ≡ plain_answer (out (id 1 1 1) hi ∷ out (id 1 2 2) hi ∷ [])
  pub more_than_there_are : told three (pull_at 2000 10) ≡ plain_answer (out (id 1 1 1) hi ∷ out (id 1 2 2) hi ∷ out (id 1 3 3) hi ∷ [])
  pub the_rest : told (three ++ pull_at 2000 2 ∷ []) (pull_at 2000 10) ≡ plain_answer (out (id 1 3 3) hi ∷ [])
  pub none_asked_for : told three (pull_at 2000 0) ≡ broken_by MaxMessages
  pub no_subscription : told [] (pull_at 2000 1) ≡ none_named sub_name
  -- an empty answer changes nothing
  pub nothing_there : told base (pull_at 2000 1) ≡ plain_answer []
  pub nothing_there_is_not_recorded : recorded_of base (pull_at 2000 1) ≡ None
  -- it ends before a message where the bytes of those before it reach the budget
  pub budget_reached : told three (pull_with 10 2 None) ≡ plain_answer (out (id 1 1 1) hi ∷ [])
  pub budget_not_reached : told three (pull_with 10 3 None) ≡ plain_answer (out (id 1 1 1) hi ∷ out (id 1 2 2) hi ∷ [])
  pub message_above_the_budget : told three (pull_with 10 1 None) ≡ plain_answer (out (id 1 1 1) hi ∷ [])
  pub no_budget : told three (pull_with 10 0 None) ≡ plain_answer []
  -- more than 1,000 messages are read as 1,000, more than 10,000,000 bytes as so many, and seconds as the nearest number from 10 to 600
  pub as_asked : recorded_of three (pull_with 1000 10000000 None) ≡ pull_entry 1000 10000000 None
  pub too_many : recorded_of three (pull_with 1001 10000000 None) ≡ pull_entry 1000 10000000 None
  pub too_many_bytes : recorded_of three (pull_with 1 10000001 None) ≡ pull_entry 1 10000000 None
  pub too_short : recorded_of three (pull_with 1 10000000 (Some 9)) ≡ pull_entry 1 10000000 (Some 10)
  pub shortest : recorded_of three (pull_with 1 10000000 (Some 10)) ≡ pull_entry 1 10000000 (Some 10)
  pub longest : recorded_of three (pull_with 1 10000000 (Some 600)) ≡ pull_entry 1 10000000 (Some 600)
  pub too_long : recorded_of three (pull_with 1 10000000 (Some 601)) ≡ pull_entry 1 10000000 (Some 600)
  -- the lease lives as long as the pull said
  pub before_its_end : told (out_for 20) (pull_at 21999 1) ≡ plain_answer []
  pub at_its_end : told (out_for 20) (pull_at 22000 1) ≡ plain_answer (out (id 1 1 2) hi ∷ [])
