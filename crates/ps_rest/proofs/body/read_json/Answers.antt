use Rattle.std.proofs.Common.{◌∙◌, sym, true≢false}
use Rattle.serde_json.specs.View.{view}
use Rattle.ps_rest.proofs.BodyLemmas.{json_is_read, no_json_is_null, view-Null}
use Rattle.ps_rest.proofs.body.read_json.Goals as goal

pub returns-in-Ok : goal.returns-in-Ok
returns-in-Ok c = sym (json_is_read c.args.bytes.now (view c.in-Ok.value) c.in-Ok.ensures.ok.0 c.in-Ok.ensures.ok.1)

pub returns-else-is_memory : goal.returns-else-is_memory
returns-else-is_memory c = view-Null ∙ sym (no_json_is_null c.args.bytes.now (c.in-Err.ensures.err (λ memory. true≢false (sym (c.if-is_memory.ensures.1 memory)))))
