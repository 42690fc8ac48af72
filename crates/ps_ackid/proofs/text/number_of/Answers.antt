use Rattle.std.proofs.Common.{◌≡◌, arith, rules}
use Rattle.std.specs.Int.{w64, from_be_bytes}
use Rattle.std.proofs.lemmas.Nat.{be_bytes_8}
use Rattle.ps_ackid.proofs.text.number_of.Goals as goal

pub returns : goal.returns
returns c =
    let value : c.from_be_bytes.result ≡ from_be_bytes w64 c.args.bytes.now = search rules in
    be_bytes_8 c.args.bytes.now c.from_be_bytes.result c.requires (λ i. let small = c.type_inv.bytes i in omega arith) value
