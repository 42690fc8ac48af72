use Rattle.std.proofs.Common.{refl, ap, ◌∙◌, List, None}
use Rattle.ps_keeper.specs.Memory.{Memory}
use Rattle.ps_edge.specs.PathLogs.{slot_at, all_unfailed}
use Rattle.ps_edge.specs.declared.path_log.PathLog.{PathLog}
use Rattle.ps_edge.proofs.PathLogLemmas.{slot_at-stored, slot_at-other, unfailed-stored, unfailed-kept}
use Rattle.ps_edge.proofs.memory_cabinet.MemoryCabinetCabinet.keeper.Goals as goal

pub invariant_of-self-2 : goal.invariant_of-self-2
invariant_of-self-2 c =
    ap (all_unfailed (λ m. m.faults)) c.in_ok-keeper.ensures.ok ∙ unfailed-stored c.args.path.now (λ m. m.faults) _ c.self.inside.slots.items refl c.self.invariant

pub handed-requires : goal.handed-requires
handed-requires c =
    rw c.in_ok-keeper.ensures.keeper (unfailed-kept c.args.path.now (λ m. m.faults) c.self.inside.slots.items c.self.invariant)

pub returns-clause-taken : goal.returns-clause-taken
returns-clause-taken c =
    ap (λ (slots : List (PathLog Memory)). slot_at c.args.path.now slots) c.in_ok-keeper.ensures.ok ∙ slot_at-stored c.args.path.now None c.self.inside.slots.items

pub returns-clause-others : goal.returns-clause-others
returns-clause-others c other differ =
    rw (← c.self.view_is) (ap (λ (slots : List (PathLog Memory)). slot_at other slots) c.in_ok-keeper.ensures.ok ∙ slot_at-other c.args.path.now None c.self.inside.slots.items other differ)
