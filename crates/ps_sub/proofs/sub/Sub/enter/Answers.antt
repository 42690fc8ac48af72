use Rattle.std.proofs.Common.{◌≡◌, ◌<◌, ◌++◌, ◌∷◌, [], List, Result, Ok, Err}
use Rattle.std.specs.List.{AllByRecursion}
use Rattle.std.specs.Result.{OnOk, OnErr}
use Rattle.ps_base.specs.declared.memory.OutOfMemory.{OutOfMemory}
use Rattle.ps_config.specs.declared.config.SubConfig.{SubConfig}
use Rattle.ps_model.specs.declared.mark.Slot.{Slot}
use Rattle.ps_sub.specs.Marks.{live}
use Rattle.ps_sub.specs.Steady.{IsSteady}
use Rattle.ps_sub.proofs.SteadyLemmas.{steady-entered}
use Rattle.ps_sub.specs.Entering.{IsInOrder}
use Rattle.ps_sub.proofs.sub.Sub.enter.Goals as goal

-- entered or not for want of memory
either_way : (r : Result (Unit {0}) OutOfMemory) (new old : List Slot) (config : SubConfig) (s : Slot) → OnOk r (new ≡ old ++ live (s ∷ [])) → OnErr r (new ≡ old)
    → AllByRecursion (λ (e : Slot). e.item.number < s.item.number) old → IsInOrder config.ordering old s.item s.mark → IsSteady old config → IsSteady new config
either_way (Ok u) new old config s ok err below order h = rw ok (steady-entered old config s below order h)
either_way (Err e) new old config s ok err below order h = rw err h

pub invariant_of-self : goal.invariant_of-self
invariant_of-self c =
    let below = rw (← c.self.view_is) at c.requires.number in
    let order = rw (← c.self.view_is) at c.requires.order in
    either_way c.push_live.result _ c.self.inside.slots.items _ _ c.push_live.ensures.ok c.push_live.ensures.err below order c.self.invariant
