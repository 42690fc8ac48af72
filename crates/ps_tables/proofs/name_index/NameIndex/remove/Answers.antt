use Rattle.std.proofs.Common.{arith}
use Rattle.std.proofs.lemmas.Map.Text.{text_keys}
use Rattle.ps_tables.proofs.name_index.NameIndex.remove.Goals as goal

pub returns : goal.returns
returns c = record { names = λ other. grind (arith, text_keys) }
