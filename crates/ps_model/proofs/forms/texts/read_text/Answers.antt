use Rattle.std.proofs.Common.{rules}
use Rattle.ps_model.proofs.FormSteps.{text-read, text-none}
use Rattle.ps_model.proofs.forms.texts.read_text.Goals as goal

pub returns-in-Ok : goal.returns-in-Ok
returns-in-Ok c = rw c.in-Ok.ensures.cases.0 (text-read _ c.in_ok-bytes.bytes.now c.bytes.new.self (search rules) c.in-Ok.ensures.cases.1)

pub returns-in-Err : goal.returns-in-Err
returns-in-Err c = text-none _ c.in_ok-bytes.bytes.now c.bytes.new.self (search rules) c.in-Err.ensures.cases.0
