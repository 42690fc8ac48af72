use Rattle.std.proofs.lemmas.Int.{to_z-of_z}
use Rattle.std.proofs.Common.{FitsSigned, w16, ◌≡◌, pos, ◌≤ℤ◌, ap, ◌∙◌, rules, arith}
use Rattle.jiff_core.specs.Date.{epoch_day}
use Rattle.jiff_core.proofs.SignedLemmas.{signed_arith}
use Rattle.ps_model.specs.Timestamps.{date_of}
use Rattle.ps_json.proofs.DateLemmas.{year_from_1970, pos-unsigned_abs, same_date}
use Rattle.ps_json.proofs.print.time.date_of.Goals as goal

pub returns-clause-date : goal.returns-clause-date
returns-clause-date c =
    let date = c.unwrap-date.result in
    let day : epoch_day date ≡ pos c.args.days = search rules in
    let late : pos 0 ≤ℤ epoch_day date = omega (arith, signed_arith, day) in
    let from : pos 1970 ≤ℤ date.year = year_from_1970 date late in
    let fits : FitsSigned w16 date.year = omega (arith, signed_arith, date.year_in) in
    let abs = simp to_z-of_z at c.unsigned_abs.ensures.value in
    let signed : pos c.unsigned_abs.result ≡ date.year = ap pos abs ∙ pos-unsigned_abs date.year (omega (arith, signed_arith)) in
    let parts = same_date date c.args.days c.requires day in
    let whole = signed ∙ parts.0 in
    let year : c.unsigned_abs.result ≡ (date_of c.args.days).year = cc whole in
    rw (year, parts.1, parts.2)
