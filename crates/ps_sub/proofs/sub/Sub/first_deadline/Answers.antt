use Rattle.std.proofs.Common.{◌≡◌, ℕ, false, Option, nat_le, sym, ap, ◌∙◌, rules}
use Rattle.std.specs.Option.{option_map_or}
use Rattle.ps_sub.specs.Showing.{first_deadline}
use Rattle.ps_sub.proofs.DeadlineLemmas.{due-first}
use Rattle.ps_sub.proofs.sub.Sub.first_deadline.Goals as goal

pub returns-clause-due : goal.returns-clause-due
returns-clause-due c t =
    let told : c.first_deadline.result ≡ first_deadline c.args.self.now.slots = search rules in
    due-first t c.args.self.now.slots ∙ ap (λ (o : Option ℕ). option_map_or (λ deadline. nat_le deadline t) o false) (sym told)
