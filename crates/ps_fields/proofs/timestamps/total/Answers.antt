use Rattle.std.proofs.Common.{◌≡◌, FitsSigned, w32, w64, pos, ◌+ℤ◌, ◌-ℤ◌, ◌*ℤ◌, arith, refl, ◌∙◌}
use Rattle.std.proofs.lemmas.Int.{to_z-of_z}
use Rattle.jiff_core.proofs.SignedLemmas.{signed_arith}
use Rattle.ps_fields.proofs.timestamps.total.Goals as goal

pub returns : goal.returns
returns c =
    let day : c.from.result ≡ c.args.day = c.from.ensures ∙ to_z-of_z w32 _ c.ranges.day in
    let minutes : c.from-3.result ≡ c.args.minutes = c.from-3.ensures ∙ to_z-of_z w32 _ c.ranges.minutes in
    let one : FitsSigned w64 c.args.day = omega (arith, signed_arith, c.ranges.day) in
    let two : FitsSigned w64 (pos c.args.ms) = omega (arith, signed_arith, c.ranges.ms.fits) in
    let three : FitsSigned w64 c.args.minutes = omega (arith, signed_arith, c.ranges.minutes) in
    let days : FitsSigned w64 (pos 86400000 *ℤ c.args.day) = omega (arith, signed_arith, c.ranges.day) in
    let sum : FitsSigned w64 (pos 86400000 *ℤ c.args.day +ℤ pos c.args.ms) = omega (arith, signed_arith, c.ranges.day, c.ranges.ms.fits) in
    let offset : FitsSigned w64 (pos 60000 *ℤ c.args.minutes) = omega (arith, signed_arith, c.ranges.minutes) in
    let whole : FitsSigned w64 (pos 86400000 *ℤ c.args.day +ℤ pos c.args.ms -ℤ pos 60000 *ℤ c.args.minutes) = omega (arith, signed_arith, c.ranges.day, c.ranges.ms.fits, c.ranges.minutes) in
    rw (day, c.from-2.ensures, minutes, to_z-of_z w64 _ one, to_z-of_z w64 _ two, to_z-of_z w64 _ three, to_z-of_z w64 _ days, to_z-of_z w64 _ sum, to_z-of_z w64 _ offset, to_z-of_z w64 _ whole) refl
