use Rattle.std.proofs.Common.{sym, ap, ◌∙◌, List}
use Rattle.std.specs.Prelude.{is_some}
use Rattle.ps_edge.specs.PathLogs.{kept}
use Rattle.ps_edge.specs.declared.path_log.PathLog.{PathLog}
use Rattle.ps_files.specs.declared.keeper.FileKeeper.{FileKeeper}
use Rattle.ps_files.proofs.Handing.{handed-new}
use Rattle.ps_files.proofs.cabinet.hand_out.Goals as goal

pub returns-then-not-is_kept-clause-given : goal.returns-then-not-is_kept-clause-given
returns-then-not-is_kept-clause-given c =
    let shown = ap (λ (slots : List (PathLog FileKeeper)). is_some (kept c.args.path.now slots)) c.as_slice-2.ensures.value in
    handed-new _ _ _ c.if-eq.ensures (sym shown ∙ sym c.if-not-is_kept.ensures) c.in_ok-keeper.ensures.opened
