use Rattle.std.proofs.Common.{◌∙◌, ap, drop, take}
use Rattle.std.specs.Int.{w64, to_be_bytes}
use Rattle.ps_ackid.proofs.SliceLemmas.{joined}
use Rattle.ps_ackid.proofs.text.id_of.Goals as goal

pub returns-clause-bytes : goal.returns-clause-bytes
returns-clause-bytes c =
    joined (to_be_bytes w64 c.number_of.result) (to_be_bytes w64 c.number_of-2.result) (to_be_bytes w64 c.number_of-3.result) c.args.bytes.now
    (c.number_of.ensures ∙ c.split_at.ensures.front)
    (c.number_of-2.ensures ∙ (c.split_at-2.ensures.front ∙ ap (take 8) c.split_at.ensures.back))
    (c.number_of-3.ensures ∙ (c.split_at-2.ensures.back ∙ ap (drop 8) c.split_at.ensures.back))
