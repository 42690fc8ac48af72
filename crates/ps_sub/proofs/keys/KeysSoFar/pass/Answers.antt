use Rattle.std.proofs.Common.{◌∙◌, sym}
use Rattle.ps_sub.proofs.KeysLemmas.{noted-after}
use Rattle.ps_sub.proofs.keys.KeysSoFar.pass.Goals as goal

pub returns-in_ok-insert-clause-noted : goal.returns-in_ok-insert-clause-noted
returns-in_ok-insert-clause-noted c =
    noted-after c.args.self.now.keys c.insert.new.self c.args.ordering c.args.noted c.args.slot.now _ (c.in_ok-from_str.ensures.ok ∙ c.as_str-key.ensures) c.if-noted.true (sym c.has_order.ensures ∙ c.if-not-has_order.false) c.in_ok-insert.ensures.updates
