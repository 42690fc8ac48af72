use Rattle.std.proofs.Common.{arith, rules}
use Rattle.ps_model.proofs.FormSteps.{prefixed-nil, each-more, each-none, each-all}
use Rattle.ps_model.proofs.forms.many.read_each.Goals as goal

pub loop-init : goal.loop-init
loop-init g c = prefixed-nil g.A.Form.at c.args.count c.args.reader.now c.new-items.result c.new-items.ensures

pub returns-in-None : goal.returns-in-None
returns-in-None g c = each-none g.A.Form.at c.loop.items c.loop.counter c.args.count c.loop.reader _ c.loop-test.true c.loop.invariant (search rules)

pub loop-preserved : goal.loop-preserved
loop-preserved g c = rw c.in_ok-push-in-Some.ensures.ok (each-more g.A.Form.at c.loop.items c.loop.counter c.args.count c.loop.reader c.read_from.new.reader c.in-Some.item _ c.loop-test.true c.loop.invariant (search rules))

pub returns : goal.returns
returns g c = each-all g.A.Form.at c.loop.items c.loop.counter c.args.count c.loop.reader _ (omega arith) c.loop.invariant
