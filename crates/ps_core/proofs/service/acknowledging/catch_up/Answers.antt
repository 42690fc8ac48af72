use Rattle.std.proofs.Common.{◌≡◌, false, None, List, Result, Ok, Err, OnOk, sym, ap, ◌∙◌}
use Rattle.ps_config.specs.declared.config.SubConfig.{SubConfig}
use Rattle.ps_model.specs.declared.mark.Slot.{Slot}
use Rattle.ps_sub.specs.SubState.{SubState}
use Rattle.ps_tables.specs.Subscriptions.{with_slots}
use Rattle.ps_core.specs.Effects.{caught_up}
use Rattle.ps_core.proofs.delivering.Returning.{expunged-is}
use Rattle.ps_core.proofs.settling.CaughtUp.{caught_up-rests}
use Rattle.ps_core.proofs.service.acknowledging.catch_up.Goals as goal

pub returns-then-not-config : goal.returns-then-not-config
returns-then-not-config c =
    let x = c.args.subscription.now in
    let plain : x.sub.config.ordering ≡ false = sym (ap (λ (config : SubConfig). config.ordering) c.config.ensures) ∙ c.if-not-config.true in
    let stays : caught_up x.sub.config.ordering x.sub.slots ≡ x.sub.slots = ap (λ ordering. caught_up ordering x.sub.slots) plain ∙ caught_up-rests false x.sub.slots (c.requires.caught plain) in
    λ i. with_slots x (sym stays i)

then_ok : {A E P Q : Type 0} (r : Result A E) → (P → Q) → OnOk r P → OnOk r Q
then_ok (Ok a) f p = f p
then_ok (Err e) f p = tt

pub returns : goal.returns
returns c =
    let x = c.args.subscription.now in
    then_ok c.expunge.result
    (λ after. ap (λ (sub : SubState). record x { sub = sub }) after ∙ (λ i. with_slots x (expunged-is c.milliseconds.result x.sub.config (record { topic_window = None; snapshots = c.new.result }) x.sub.slots c.requires.here i)))
    c.expunge.ensures
