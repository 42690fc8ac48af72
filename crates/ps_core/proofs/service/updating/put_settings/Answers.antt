use Rattle.std.proofs.Common.{◌≡◌, true, nat_cmp, nat_eq, find, Some, sym, ap, ◌∙◌, subst}
use Rattle.std.specs.BTreeMap.{is_at}
use Rattle.std.specs.Map.{set_value, values_of}
use Rattle.ps_base.proofs.Lists.{each-found, found-passes}
use Rattle.ps_tables.specs.declared.kept_subscription.KeptSubscription.{KeptSubscription}
use Rattle.ps_core.specs.Changing.{KeepsRest, with_settings}
use Rattle.ps_tables.specs.Numbers.{IsNumbered}
use Rattle.ps_tables.specs.Subscriptions.{number_of}
use Rattle.ps_tables.proofs.numbers.Changes.{found-number, none-changed, set-changes, then-ok}
use Rattle.ps_tables.proofs.numbers.Numbered.{numbered-found, numbered-put-keys}
use Rattle.ps_core.proofs.service.updating.put_settings.Goals as goal

pub configure-requires-clause-ordering : goal.configure-requires-clause-ordering
configure-requires-clause-ordering c =
    let n = c.args.number in
    let xs = values_of c.args.subscriptions.now.entries in
    let x = c.in-Some.subscription.now in
    let found : find (λ (y : KeptSubscription). nat_eq y.number n) xs ≡ Some x = sym (numbered-found number_of n c.args.subscriptions.now.entries c.requires.numbered) ∙ sym c.in-Some.ensures.value in
    (each-found (λ (y : KeptSubscription). nat_eq y.number n ≡ true → KeepsRest c.args.config.now y.sub.config) (λ (y : KeptSubscription). nat_eq y.number n) xs x found c.requires.rest
    (found-passes (λ (y : KeptSubscription). nat_eq y.number n) xs x found)).ordering

pub returns-in-Some-clause-numbered : goal.returns-in-Some-clause-numbered
returns-in-Some-clause-numbered c =
    let n = c.args.number in
    let es = c.args.subscriptions.now.entries in
    let x = c.in-Some.subscription.now in
    then-ok _ _ c.configure.result
    (λ (is : c.configure.new.self ≡ record x.sub { config = c.args.config.now }). subst (IsNumbered number_of)
    (sym ((c.get_mut.follows.holds (record x { sub = c.configure.new.self })).0 ∙ ap (λ s. set_value (is_at (nat_cmp n)) es (record x { sub = s })) is))
    (numbered-put-keys number_of n (with_settings c.args.config.now x) es c.requires.numbered (found-number number_of n x es c.requires.numbered (sym c.in-Some.ensures.value))))
    c.configure.ensures

pub returns-in-Some-clause-values : goal.returns-in-Some-clause-values
returns-in-Some-clause-values c =
    let n = c.args.number in
    let es = c.args.subscriptions.now.entries in
    let x = c.in-Some.subscription.now in
    then-ok _ _ c.configure.result
    (λ (is : c.configure.new.self ≡ record x.sub { config = c.args.config.now }).
    ap values_of ((c.get_mut.follows.holds (record x { sub = c.configure.new.self })).0 ∙ ap (λ s. set_value (is_at (nat_cmp n)) es (record x { sub = s })) is)
    ∙ set-changes number_of n (with_settings c.args.config.now) x es c.requires.numbered c.requires.ordered (sym c.in-Some.ensures.value))
    c.configure.ensures

pub returns-in-None-clause-values : goal.returns-in-None-clause-values
returns-in-None-clause-values c =
    let es = c.args.subscriptions.now.entries in
    ap (λ m. values_of m.entries) c.get_mut.follows.holds-at-none
    ∙ sym (none-changed number_of c.args.number (with_settings c.args.config.now) (values_of es) (sym (numbered-found number_of c.args.number es c.requires.numbered) ∙ sym c.in-None.ensures.value))
