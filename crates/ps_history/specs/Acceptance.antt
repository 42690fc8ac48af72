-- What acceptance means.
use Rattle.std.specs.Prelude.{◌≡◌, ◌↔◌, List, [], ◌∷◌, Option, Some, None, fold, option_and_then}
use Rattle.ps_model.specs.declared.command.Entry.{Entry}
use Rattle.ps_model.specs.declared.world.World.{World}
use Rattle.ps_model.specs.History.{IsAccepted, IsHistory, after}
use Rattle.ps_model.specs.Live.{live}
use Rattle.ps_model.specs.Step.{empty_world, step}
use Rattle.ps_core.specs.Built.{unbuilt}
use Rattle.ps_core.specs.Calls.{next}

-- of what is built, an entry is accepted exactly where it is what would be recorded of its own command at its own moment
abbrev pub AcceptsWhatIsRecorded : Type 0
AcceptsWhatIsRecorded = (w : World) (e : Entry) (v : World) → (next w e ≡ Some v) ↔ ((unbuilt e.command ≡ None) × IsAccepted w e × (v ≡ live (step w e)))

-- the world after one more entry, where there is one and it is accepted
abbrev pub after_entry : Option World → Entry → Option World
after_entry was e = option_and_then (λ w. next w e) was

abbrev pub AllBuilt : List Entry → Type 0
AllBuilt [] = Unit {0}
AllBuilt (e ∷ es) = (unbuilt e.command ≡ None) × AllBuilt es

-- from the empty world entries lead to a world one by one exactly where they are a history of what is built, and it is the live part of the world after them
abbrev pub HistoriesLead : Type 0
HistoriesLead = (es : List Entry) (v : World) → (fold after_entry (Some empty_world) es ≡ Some v) ↔ (AllBuilt es × IsHistory empty_world es × (v ≡ live (after empty_world es)))
