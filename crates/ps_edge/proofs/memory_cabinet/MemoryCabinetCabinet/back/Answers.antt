use Rattle.std.proofs.Common.{ap, ◌∙◌, List}
use Rattle.ps_keeper.specs.Memory.{Memory}
use Rattle.ps_edge.specs.PathLogs.{is_out_of, slot_at, all_unfailed}
use Rattle.ps_edge.specs.declared.path_log.PathLog.{PathLog}
use Rattle.ps_edge.proofs.PathLogLemmas.{back-out, back-kept, back-dropped, back-other, back-unfailed}
use Rattle.ps_edge.proofs.memory_cabinet.MemoryCabinetCabinet.back.Goals as goal

pub invariant_of-self : goal.invariant_of-self
invariant_of-self c =
    ap (all_unfailed (λ m. m.faults)) c.put_back.ensures ∙ back-unfailed c.args.path.now (λ m. m.faults) c.reopened.result c.self.inside.slots.items (rw c.reopened.ensures) c.self.invariant

pub returns-clause-out : goal.returns-clause-out
returns-clause-out c = ap (λ (slots : List (PathLog Memory)). is_out_of c.args.path.now slots) c.put_back.ensures ∙ back-out c.args.path.now c.reopened.result c.self.inside.slots.items

pub returns-clause-kept : goal.returns-clause-kept
returns-clause-kept c = rw (← c.self.view_is, ← c.reopened.ensures) (λ out.
    ap (λ (slots : List (PathLog Memory)). slot_at c.args.path.now slots) c.put_back.ensures ∙ back-kept c.args.path.now c.reopened.result c.self.inside.slots.items out)

pub returns-clause-dropped : goal.returns-clause-dropped
returns-clause-dropped c = rw (← c.self.view_is) (λ in_place. c.put_back.ensures ∙ back-dropped c.args.path.now c.reopened.result c.self.inside.slots.items in_place)

pub returns-clause-others : goal.returns-clause-others
returns-clause-others c other differ =
    rw (← c.self.view_is) (ap (λ (slots : List (PathLog Memory)). slot_at other slots) c.put_back.ensures ∙ back-other c.args.path.now c.reopened.result c.self.inside.slots.items other differ)
