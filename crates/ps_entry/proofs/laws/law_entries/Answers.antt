use Rattle.ps_entry.proofs.EntryForms.{reads_back, reads_nothing_else}
use Rattle.ps_entry.proofs.laws.law_entries.Goals as goal

pub returns : goal.returns
returns c = record { back = reads_back; nothing_else = reads_nothing_else }
