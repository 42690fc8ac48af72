-- What a look-up by number finds among messages.
use Rattle.std.proofs.Common.{◌≡◌, ℕ, nat_cmp, nat_eq, List, map, Option, option_map, unwrap_or, sym, ap, ◌∙◌}
use Rattle.std.specs.BTreeMap.{is_at}
use Rattle.std.specs.Map.{lookup, values_of}
use Rattle.ps_model.specs.declared.world.MessageRow.{MessageRow}
use Rattle.ps_model.specs.Worlds.{message_at, no_message}
use Rattle.ps_tables.specs.declared.tables.KeptMessage.{KeptMessage}
use Rattle.ps_tables.specs.Numbers.{IsNumbered}
use Rattle.ps_core.specs.Keeping.{the_message}
use Rattle.ps_core.proofs.carrying.Kept.{find-in-map}
use Rattle.ps_tables.proofs.numbers.Numbered.{numbered-found}

pub message-looked : (n : ℕ) (es : List (ℕ × KeptMessage)) → IsNumbered (λ (x : KeptMessage). x.row.number) es → (answer : Option KeptMessage) → answer ≡ lookup (is_at (nat_cmp n)) es
    → message_at (map the_message (values_of es)) n ≡ unwrap_or (option_map the_message answer) (no_message n)
message-looked n es numbered answer is =
    let found = find-in-map the_message (λ (r : MessageRow). nat_eq r.number n) (values_of es) ∙ ap (option_map the_message) (sym (is ∙ numbered-found (λ (x : KeptMessage). x.row.number) n es numbered)) in
    ap (λ (o : Option MessageRow). unwrap_or o (no_message n)) found
