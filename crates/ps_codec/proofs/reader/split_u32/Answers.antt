use Rattle.std.proofs.Common.{arith}
use Rattle.ps_codec.proofs.FieldLemmas.{u32_written}
use Rattle.ps_codec.proofs.reader.split_u32.Goals as goal

pub returns-clause-written : goal.returns-clause-written
returns-clause-written c =
    let found = c.in-Some.ensures.cases in
    u32_written c.args.bytes.now _ _ _ (λ i. let small = c.type_inv.bytes i in omega arith) found.0 found.1 found.2 c.from_be_bytes.ensures
