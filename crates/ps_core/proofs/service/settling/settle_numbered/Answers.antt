use Rattle.ps_core.proofs.settling.Loop.{settled-keys, settled-nowhere, settled-values}
use Rattle.ps_core.proofs.service.settling.settle_numbered.Goals as goal

pub returns-in-Some : goal.returns-in-Some
returns-in-Some c =
    let old = c.args.subscriptions.now.entries in
    let x = c.in-Some.subscription.now in
    let w = c.settle_one.new.subscription in
    let new = (c.get_mut.follows.lender w).entries in
    let is = (c.get_mut.follows.holds w).0 in
    record {
      numbered = settled-keys c.args.at c.args.number old c.requires.numbered c.requires.order c.settle_one.result new x w c.in-Some.ensures.value is c.settle_one.ensures;
      after = settled-values c.args.at c.args.number old c.requires.numbered c.requires.order c.settle_one.result new x w c.in-Some.ensures.value is c.settle_one.ensures;
    }

pub returns-in-None : goal.returns-in-None
returns-in-None c =
    let old = c.args.subscriptions.now.entries in
    rw c.get_mut.follows.holds-at-none (record {
      numbered = c.requires.numbered;
      after = settled-nowhere c.args.at c.args.number old c.requires.numbered c.requires.order c.in-None.ensures.value;
    })
