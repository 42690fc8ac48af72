use Rattle.ps_model.proofs.EmptyPull.{empty_where_nothing_is}
use Rattle.ps_model.proofs.laws.law_5.Goals as goal

pub returns : goal.returns
returns c = record { empty_where_nothing_is = empty_where_nothing_is }
