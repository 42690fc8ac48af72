use Rattle.std.proofs.Common.{◌≡◌, nat_eq, Some, None, map, sym, ap, subst, ◌∙◌, if◌then◌else◌}
use Rattle.std.specs.BTreeMap.{values}
use Rattle.std.proofs.lemmas.Result.{on_ok_weaker}
use Rattle.ps_model.specs.Forwarding.{message_rows}
use Rattle.ps_tables.specs.declared.kept_subscription.KeptSubscription.{KeptSubscription}
use Rattle.ps_tables.specs.Entering.{IsReady, count_found, enter_wanted, subscription_with}
use Rattle.ps_tables.specs.Numbers.{IsNumbered}
use Rattle.ps_tables.specs.Subscriptions.{number_of}
use Rattle.ps_tables.proofs.numbers.Numbered.{numbered-found, numbered-put, numbered-put-keys}
use Rattle.ps_tables.proofs.numbers.Changes.{found-number, none-changed, put-changes}
use Rattle.ps_tables.proofs.publishing.Numbers.{found-so}
use Rattle.ps_tables.proofs.entering.enter_numbered.Goals as goal

pub enter_one-requires-clause-ready : goal.enter_one-requires-clause-ready
enter_one-requires-clause-ready c =
    let xs = values c.args.subscriptions.now in
    let found : subscription_with c.args.number xs ≡ Some c.in-Some.subscription.now = sym (numbered-found number_of c.args.number c.args.subscriptions.now.entries c.requires.keys) ∙ sym c.in-Some.ensures.value in
    found-so (IsReady c.args.first c.args.at) c.args.number xs c.in-Some.subscription.now found c.requires.ready

pub returns-in-Some-clause-subscriptions : goal.returns-in-Some-clause-subscriptions
returns-in-Some-clause-subscriptions c =
    let n = c.args.number in
    let xs = values c.args.subscriptions.now in
    let x = c.in-Some.subscription.now in
    let y = c.enter_one.new.subscription in
    let enters : KeptSubscription → KeptSubscription = λ z. enter_wanted (message_rows z.topic c.args.first c.args.at c.args.messages.now) z in
    let found : subscription_with n xs ≡ Some x = sym (numbered-found number_of n c.args.subscriptions.now.entries c.requires.keys) ∙ sym c.in-Some.ensures.value in
    on_ok_weaker c.enter_one.result
    (λ made. ap (λ es. map (λ e. e.1) es) ((c.get_mut.follows.holds y).0) ∙ numbered-put number_of n y c.args.subscriptions.now.entries c.requires.keys c.requires.ordered
    ∙ (λ i. map (λ (z : KeptSubscription). if nat_eq z.number n then made i else z) xs) ∙ put-changes number_of n enters x xs c.requires.ordered found)
    c.enter_one.ensures.subscription

pub returns-in-Some-clause-keys : goal.returns-in-Some-clause-keys
returns-in-Some-clause-keys c =
    let n = c.args.number in
    let y = c.enter_one.new.subscription in
    on_ok_weaker c.enter_one.result
    (λ made. subst (IsNumbered number_of) (sym ((c.get_mut.follows.holds y).0))
    (numbered-put-keys number_of n y c.args.subscriptions.now.entries c.requires.keys (ap number_of made ∙ found-number number_of n c.in-Some.subscription.now c.args.subscriptions.now.entries c.requires.keys (sym c.in-Some.ensures.value))))
    c.enter_one.ensures.subscription

pub returns-in-Some-clause-holders : goal.returns-in-Some-clause-holders
returns-in-Some-clause-holders c =
    let n = c.args.number in
    let xs = values c.args.subscriptions.now in
    let found : subscription_with n xs ≡ Some c.in-Some.subscription.now = sym (numbered-found number_of n c.args.subscriptions.now.entries c.requires.keys) ∙ sym c.in-Some.ensures.value in
    on_ok_weaker c.enter_one.result (λ made. made ∙ ap (λ o. count_found c.args.messages.now o c.args.holders.now) (sym found)) c.enter_one.ensures.holders

pub returns-in-None-clause-subscriptions : goal.returns-in-None-clause-subscriptions
returns-in-None-clause-subscriptions c =
    let xs = values c.args.subscriptions.now in
    let none : subscription_with c.args.number xs ≡ None = sym (numbered-found number_of c.args.number c.args.subscriptions.now.entries c.requires.keys) ∙ sym c.in-None.ensures.value in
    ap values c.get_mut.follows.holds-at-none ∙ sym (none-changed number_of c.args.number (λ (z : KeptSubscription). enter_wanted (message_rows z.topic c.args.first c.args.at c.args.messages.now) z) xs none)

pub returns-in-None-clause-holders : goal.returns-in-None-clause-holders
returns-in-None-clause-holders c =
    let xs = values c.args.subscriptions.now in
    let none : subscription_with c.args.number xs ≡ None = sym (numbered-found number_of c.args.number c.args.subscriptions.now.entries c.requires.keys) ∙ sym c.in-None.ensures.value in
    ap (λ o. count_found c.args.messages.now o c.args.holders.now) (sym none)
