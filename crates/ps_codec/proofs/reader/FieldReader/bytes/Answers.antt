use Rattle.std.proofs.lemmas.Result.{err_from_is_err_and}
use Rattle.ps_codec.proofs.FieldLemmas.{no_bytes}
use Rattle.ps_codec.proofs.reader.FieldReader.bytes.Goals as goal

pub returns-in_err-value-clause-none : goal.returns-in_err-value-clause-none
returns-in_err-value-clause-none c =
    let p = err_from_is_err_and c.from_residual.result c.from_residual.ensures.1 in
    rw (p.1, ← c.self.view_is) (no_bytes _ _ c.in_err-value.ensures.fault)
