use Rattle.std.proofs.Common.{◌≡◌, ◌∙◌, ap, rules, arith}
use Rattle.std.proofs.lemmas.Grind.{common_steps}
use Rattle.ps_entry.specs.Entries.{entry_form, entry_in, EntryFits}
use Rattle.ps_entry.proofs.EntryForms.{reads_back}
use Rattle.ps_entry.proofs.writing.write.Goals as goal

pub returns-clause-read : goal.returns-clause-read
returns-clause-read c =
    let whole : c.finish.result ≡ entry_form c.args.entry.now = grind (arith, common_steps) in
    let fits : EntryFits c.args.entry.now = search rules in
    ap entry_in whole ∙ reads_back c.args.entry.now fits
