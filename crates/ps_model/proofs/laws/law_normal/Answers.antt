use Rattle.ps_model.proofs.NormalForms.{read-normal, normal_is_read}
use Rattle.ps_model.proofs.laws.law_normal.Goals as goal

pub returns : goal.returns
returns c = record { read_is_normal = read-normal; normal_is_read = normal_is_read }
