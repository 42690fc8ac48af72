use Rattle.std.proofs.Common.{◌∙◌, sym, true≢false}
use Rattle.serde_json.specs.View.{view}
use Rattle.ps_json.proofs.LineLemmas.{line_of_read, line_of_refused}
use Rattle.ps_json.proofs.batch_line.read_batch_line.Goals as goal

pub returns-in-Ok : goal.returns-in-Ok
returns-in-Ok c = c.from_value.ensures ∙ sym (line_of_read c.args.bytes.now (view c.in-Ok.value) c.in-Ok.ensures.ok.0 c.in-Ok.ensures.ok.1)

pub returns-else-is_memory : goal.returns-else-is_memory
returns-else-is_memory c = sym (line_of_refused c.args.bytes.now (c.in-Err.ensures.err (λ memory. true≢false (sym (c.if-is_memory.ensures.1 memory)))))
