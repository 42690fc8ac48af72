use Rattle.std.proofs.Common.{◌≡◌, false, true, nat_cmp, nat_lt, Option, Some, sym, ap, ◌∙◌, subst}
use Rattle.std.specs.BTreeMap.{is_at}
use Rattle.std.specs.Map.{lookup, values_of}
use Rattle.std.specs.Option.{option_map_or}
use Rattle.ps_tables.specs.declared.tables.KeptMessage.{KeptMessage}
use Rattle.ps_tables.specs.Releasing.{message_number}
use Rattle.ps_tables.specs.Numbers.{IsNumbered}
use Rattle.ps_tables.proofs.numbers.Changes.{found-number}
use Rattle.ps_tables.proofs.letting_go.Released.{gone-one, kept-one, one_less}
use Rattle.ps_tables.proofs.numbers.Numbered.{numbered-put-keys, numbered-remove-keys}
use Rattle.ps_tables.proofs.releasing.release_one.Goals as goal

here : (c : goal.After-messages-in-Some-1) → lookup (is_at (nat_cmp c.args.number)) c.args.messages.now.entries ≡ Some c.in-Some.message.now
here c = sym c.in-Some.ensures.value

pub returns-in-Some-clause-numbered : goal.returns-in-Some-clause-numbered
returns-in-Some-clause-numbered c =
    let n = c.args.number in
    let es = c.args.messages.now.entries in
    let x = c.in-Some.message.now in
    subst (IsNumbered message_number) (sym (c.get_mut.follows.holds (one_less x)).0) (numbered-put-keys message_number n (one_less x) es c.requires.numbered (found-number message_number n x es c.requires.numbered (here c)))

pub returns-in-Some-clause-values : goal.returns-in-Some-clause-values
returns-in-Some-clause-values c =
    let n = c.args.number in
    let es = c.args.messages.now.entries in
    let x = c.in-Some.message.now in
    let more : nat_lt 1 x.holders ≡ true = ap (λ (found : Option KeptMessage). option_map_or (λ (y : KeptMessage). nat_lt 1 y.holders) found false) (sym (here c)) ∙ sym c.has_another.ensures ∙ c.if-has_another.true in
    ap values_of (c.get_mut.follows.holds (one_less x)).0 ∙ kept-one n x es c.requires.numbered c.requires.ordered (here c) more

pub returns-else-has_another-clause-numbered : goal.returns-else-has_another-clause-numbered
returns-else-has_another-clause-numbered c =
    subst (IsNumbered message_number) (sym c.remove-message.ensures.entries) (numbered-remove-keys message_number c.args.number c.args.messages.now.entries c.requires.numbered)

pub returns-else-has_another-clause-values : goal.returns-else-has_another-clause-values
returns-else-has_another-clause-values c =
    ap values_of c.remove-message.ensures.entries
    ∙ gone-one c.args.number c.args.messages.now.entries c.requires.numbered c.requires.ordered (sym c.has_another.ensures ∙ c.if-has_another.false)
