use Rattle.std.proofs.Common.{◌≡◌, ◌∙◌, ◌==◌, List, [], ◌∷◌, false, length, refl, sym}
use Rattle.ps_base.specs.declared.ack_id.AckId.{AckId}
use Rattle.ps_json.specs.Replies.{acked_code, details_of}
use Rattle.ps_json.proofs.print.error.acked_code.Goals.{else-is_empty-via-then-is_empty+else-is_empty-2, else-is_empty-via-else-is_empty}
use Rattle.ps_json.proofs.print.error.acked_code.Goals as goal

some_invalid : (invalid unordered : List AckId) → (length invalid == 0) ≡ false → 400 ≡ acked_code (details_of invalid unordered)
some_invalid [] unordered some = absurd (cc)
some_invalid (id ∷ ids) unordered some = refl

some_unordered : (invalid unordered : List AckId) → (length unordered == 0) ≡ false → 400 ≡ acked_code (details_of invalid unordered)
some_unordered [] [] some = absurd (cc)
some_unordered [] (id ∷ ids) some = refl
some_unordered (id ∷ ids) unordered some = refl

pub returns-else-is_empty : goal.returns-else-is_empty
returns-else-is_empty c =
    let invalid = c.args.invalid.now in
    let unordered = c.args.unordered.now in
    elim c.else-is_empty.branch [
      | else-is_empty-via-then-is_empty+else-is_empty-2 w ↦ some_unordered invalid unordered (sym w.is_empty-then-is_empty.ensures ∙ w.if-is_empty-2.false)
      | else-is_empty-via-else-is_empty w ↦ some_invalid invalid unordered (sym c.is_empty.ensures ∙ w.if-is_empty.false)
    ]
