use Rattle.std.proofs.Common.{◌≡◌, ◌<◌, ◌+◌, ℕ, length, refl, sym, ap, ◌∙◌, arith, subst}
use Rattle.ps_model.specs.Forwarding.{message_rows}
use Rattle.ps_tables.specs.Entering.{IsReady, enter_wanted, new_row}
use Rattle.ps_tables.proofs.publishing.Entering.{counted-all, counted-one, entered-all, entered-one, few-at, ready-still, rest-stays, settings-stay}
use Rattle.ps_tables.proofs.entering.enter_one.Goals as goal

pub loop-place-init : goal.loop-place-init
loop-place-init c =
    let first : c.args.first ≡ c.args.first + 0 = omega arith in
    record {
      ready = subst (λ (n : ℕ). IsReady n c.args.at c.args.subscription.now) first c.requires.ready;
      settings = refl;
      entered = ap (λ (n : ℕ). enter_wanted (message_rows c.args.subscription.now.topic n c.args.at c.args.messages.now) c.args.subscription.now) (sym first);
      counts = refl;
      left = refl;
    }

pub enter_message-requires-clause-ready : goal.enter_message-requires-clause-ready
enter_message-requires-clause-ready c = c.loop-place.invariant.ready

pub enter_message-requires-clause-few : goal.enter_message-requires-clause-few
enter_message-requires-clause-few c =
    few-at c.loop-place.place c.args.holders.now c.loop-place.holders c.loop-place.invariant.left (omega (arith, c.loop-place.auto.holders, c.requires.each, c.loop-place-test.true)) (omega (arith, c.requires.each, c.loop-place-test.true)) c.requires.few

pub loop-place-preserved : goal.loop-place-preserved
loop-place-preserved c =
    let x = c.loop-place.subscription in
    let y = c.enter_message.new.subscription in
    let i = c.loop-place.place in
    let m = c.index-messages-place.result in
    let topic = c.args.subscription.now.topic in
    let made = c.in_ok-enter_message.ensures.subscription topic in
    let here : i < length c.loop-place.holders = omega (arith, c.loop-place.auto.holders, c.requires.each, c.loop-place-test.true) in
    let there : i < length c.args.holders.now = omega (arith, c.requires.each, c.loop-place-test.true) in
    let is = sym c.index-messages-place.is in
    record {
      ready = ready-still topic c.args.first c.args.at i m x y made c.loop-place.invariant.ready;
      settings = ap (λ z. z.sub.config) made ∙ settings-stay (new_row topic (c.args.first + i) c.args.at m) x ∙ c.loop-place.invariant.settings;
      entered = entered-one topic c.args.first c.args.at i c.args.messages.now m x y c.loop-place-test.true is made ∙ c.loop-place.invariant.entered;
      counts = counted-one i c.args.subscription.now x c.args.messages.now c.loop-place.holders m c.enter_message.new.holders c.loop-place-test.true here is c.loop-place.invariant.settings c.in_ok-enter_message.ensures.holders ∙ c.loop-place.invariant.counts;
      left = rest-stays i c.args.holders.now c.loop-place.holders c.enter_message.new.holders c.loop-place.invariant.left here there;
    }

pub returns-clause-subscription : goal.returns-clause-subscription
returns-clause-subscription c =
    sym (entered-all c.args.subscription.now.topic (c.args.first + c.loop-place.place) c.args.at c.loop-place.place c.args.messages.now c.loop-place.subscription (omega arith)) ∙ c.loop-place.invariant.entered

pub returns-clause-holders : goal.returns-clause-holders
returns-clause-holders c = sym (counted-all c.loop-place.place c.args.subscription.now c.args.messages.now c.loop-place.holders (omega arith)) ∙ c.loop-place.invariant.counts
