use Rattle.std.proofs.Common.{ap, ◌∙◌, List, None}
use Rattle.ps_edge.specs.PathLogs.{slot_at}
use Rattle.ps_edge.specs.declared.path_log.PathLog.{PathLog}
use Rattle.ps_edge.proofs.PathLogLemmas.{slot_at-stored, slot_at-other}
use Rattle.ps_files.specs.declared.keeper.FileKeeper.{FileKeeper}
use Rattle.ps_files.proofs.cabinet.FileCabinetCabinet.keeper.Goals as goal

pub returns-in-Ok-clause-taken : goal.returns-in-Ok-clause-taken
returns-in-Ok-clause-taken c =
    ap (λ (slots : List (PathLog FileKeeper)). slot_at c.args.path.now slots) c.in-Ok.ensures.ok ∙ slot_at-stored c.args.path.now None c.args.self.now.slots.items

pub returns-in-Ok-clause-others : goal.returns-in-Ok-clause-others
returns-in-Ok-clause-others c other differ =
    ap (λ (slots : List (PathLog FileKeeper)). slot_at other slots) c.in-Ok.ensures.ok ∙ slot_at-other c.args.path.now None c.args.self.now.slots.items other differ
