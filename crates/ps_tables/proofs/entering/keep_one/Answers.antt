use Rattle.std.proofs.Common.{◌≡◌, ◌++◌, ◌∷◌, [], map, nat_lt, true, sym, ap, subst, ◌∙◌, if◌then◌else◌}
use Rattle.std.specs.BTreeMap.{values}
use Rattle.std.proofs.lemmas.Bool.{lt-ltb}
use Rattle.ps_tables.specs.declared.tables.KeptMessage.{KeptMessage}
use Rattle.ps_tables.specs.Entering.{kept_with, new_row}
use Rattle.ps_tables.specs.Numbers.{IsNumbered}
use Rattle.ps_tables.proofs.numbers.Numbered.{numbered-push-keys, numbered-pushed, values-push}
use Rattle.ps_tables.proofs.entering.keep_one.Goals as goal

pub returns-in_ok-insert-clause-kept : goal.returns-in_ok-insert-clause-kept
returns-in_ok-insert-clause-kept c =
    let number = λ (x : KeptMessage). x.row.number in
    let n = c.args.number in
    let old = c.args.kept.now.entries in
    let some : nat_lt 0 c.args.holders ≡ true = lt-ltb 0 c.args.holders c.if-holders-gt0.true in
    ap (λ es. map (λ e. e.1) es) (c.in_ok-insert.ensures.entries ∙ numbered-pushed number n c.in_ok-message.message old c.requires.keys c.requires.below)
    ∙ values-push number n c.in_ok-message.message old
    ∙ ap (λ x. values c.args.kept.now ++ x ∷ []) c.in_ok-message.ensures
    ∙ ap (λ b. values c.args.kept.now ++ (if b then kept_with (new_row c.args.topic n c.args.at c.args.message.now) c.args.holders ∷ [] else [])) (sym some)

pub returns-in_ok-insert-clause-keys : goal.returns-in_ok-insert-clause-keys
returns-in_ok-insert-clause-keys c =
    let number = λ (x : KeptMessage). x.row.number in
    let n = c.args.number in
    let old = c.args.kept.now.entries in
    subst (IsNumbered number) (sym (c.in_ok-insert.ensures.entries ∙ numbered-pushed number n c.in_ok-message.message old c.requires.keys c.requires.below))
    (numbered-push-keys number n c.in_ok-message.message old c.requires.keys (ap number c.in_ok-message.ensures))
