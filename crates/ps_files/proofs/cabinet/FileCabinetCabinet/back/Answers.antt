use Rattle.std.proofs.Common.{ap, ◌∙◌, List}
use Rattle.ps_edge.specs.PathLogs.{is_out_of, slot_at}
use Rattle.ps_edge.specs.declared.path_log.PathLog.{PathLog}
use Rattle.ps_edge.proofs.PathLogLemmas.{back-out, back-kept, back-other}
use Rattle.ps_files.specs.declared.keeper.FileKeeper.{FileKeeper}
use Rattle.ps_files.proofs.cabinet.FileCabinetCabinet.back.Goals as goal

pub returns-clause-out : goal.returns-clause-out
returns-clause-out c =
    ap (λ (slots : List (PathLog FileKeeper)). is_out_of c.args.path.now slots) c.put_back.ensures ∙ back-out c.args.path.now c.reopened.result c.args.self.now.slots.items

pub returns-clause-kept : goal.returns-clause-kept
returns-clause-kept c = rw (← c.reopened.ensures) (λ out.
    ap (λ (slots : List (PathLog FileKeeper)). slot_at c.args.path.now slots) c.put_back.ensures ∙ back-kept c.args.path.now c.reopened.result c.args.self.now.slots.items out)

pub returns-clause-others : goal.returns-clause-others
returns-clause-others c other differ =
    ap (λ (slots : List (PathLog FileKeeper)). slot_at other slots) c.put_back.ensures ∙ back-other c.args.path.now c.reopened.result c.args.self.now.slots.items other differ
