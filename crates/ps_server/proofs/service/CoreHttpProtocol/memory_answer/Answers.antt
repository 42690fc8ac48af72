use Rattle.std.proofs.Common.{refl}
use Rattle.std.specs.Fmt.{digits}
use Rattle.ps_server.specs.Asking.{text_with}
use Rattle.ps_server.proofs.service.CoreHttpProtocol.memory_answer.Goals as goal

pub returns-then-close : goal.returns-then-close
unfolding digits text_with
returns-then-close c = rw (c.if-close.true) refl

pub returns-else-close : goal.returns-else-close
unfolding digits text_with
returns-else-close c = rw (c.if-close.false) refl
