use Rattle.std.proofs.Common.{◌≡◌, ◌≤◌, ◌<◌, ◌^◌, Some, None, List, [], length, unwrap_or, refl, subst, sym, ap, ◌∙◌, arith}
use Rattle.std.proofs.lemmas.Bool.{eq-eqb, ne_eqb}
use Rattle.std.proofs.lemmas.List.{nil_from_length}
use Rattle.ps_base.specs.Moments.{last_moment}
use Rattle.ps_config.specs.declared.config.SubConfig.{SubConfig}
use Rattle.ps_model.specs.declared.reply.ReceivedMessage.{ReceivedMessage}
use Rattle.ps_core.specs.State.{State}
use Rattle.ps_core.specs.contracts.service.Core.{the_view}
use Rattle.ps_core.proofs.carrying.Outcomes.{missing-carried}
use Rattle.ps_core.proofs.delivering.Pulling.{pull-detached, pull-few, pull-kept, pull-leases, pull-missing, pull-moved, pull-rested, pull-rests, pull-short}
use Rattle.ps_core.proofs.delivering.Written.{got-some, got-there, looked-up, unwritten, unwritten-kept}
use Rattle.ps_core.proofs.service.Core.pull.Goals.{then-changed, else-changed}
use Rattle.ps_core.proofs.service.Core.pull.Goals as goal

pub returns-in_default : goal.returns-in_default
returns-in_default c =
    let s = the_view c.self.inside in
    let tables = c.self.inside.tables in
    let name = c.args.name.now in
    let room : s.count < 2 ^ 50 = subst (λ (v : State). v.count < 2 ^ 50) (sym c.self.view_is) c.requires.can.room in
    let nowhere = looked-up tables.subscription_numbers name c.text.result.now c.find.result None c.text.ensures.value c.find.ensures.number c.in_default.is in
    rw (← c.self.view_is)
    (missing-carried c.args.at _ s _ name c.missing.result c.missing.ensures.reply c.missing.ensures.same c.text-in_default.ensures.value
    (pull-missing s c.self.inside.next_end tables c.self.invariant refl room name c.args.max c.args.budget c.args.seconds c.requires.some c.args.at nowhere))

pub returns-in_default-get_mut : goal.returns-in_default-get_mut
returns-in_default-get_mut c =
    let s = the_view c.self.inside in
    let tables = c.self.inside.tables in
    let name = c.args.name.now in
    let at = looked-up tables.subscription_numbers name c.text.result.now c.find.result (Some c.in-Some.number) c.text.ensures.value c.find.ensures.number c.in-Some.is in
    absurd (got-some s c.self.inside.next_end tables c.self.invariant refl name c.in-Some.number at c.in_default-get_mut.ensures.value)

-- the subscription is detached

pub invariant_of-self-then-subscription : goal.invariant_of-self-then-subscription
invariant_of-self-then-subscription c =
    let s = the_view c.self.inside in
    let tables = c.self.inside.tables in
    let name = c.args.name.now in
    let at = looked-up tables.subscription_numbers name c.text.result.now c.find.result (Some c.in-Some.number) c.text.ensures.value c.find.ensures.number c.in-Some.is in
    let x = c.in-Some-get_mut.subscription.now in
    let there = got-there s c.self.inside.next_end tables c.self.invariant refl name c.in-Some.number at x c.in-Some-get_mut.ensures.value in
    let same = unwritten s c.self.inside.next_end tables c.self.invariant refl name c.in-Some.number x there (c.get_mut.follows.lender x).entries x (c.get_mut.follows.holds x).0 refl in
    unwritten-kept s c.self.inside.next_end tables c.self.invariant refl name c.in-Some.number x there (c.get_mut.follows.lender x).entries same (record tables { subscriptions = c.get_mut.follows.lender x }) refl refl refl refl refl

pub returns-then-subscription : goal.returns-then-subscription
returns-then-subscription c =
    let s = the_view c.self.inside in
    let tables = c.self.inside.tables in
    let name = c.args.name.now in
    let room : s.count < 2 ^ 50 = subst (λ (v : State). v.count < 2 ^ 50) (sym c.self.view_is) c.requires.can.room in
    let at = looked-up tables.subscription_numbers name c.text.result.now c.find.result (Some c.in-Some.number) c.text.ensures.value c.find.ensures.number c.in-Some.is in
    let x = c.in-Some-get_mut.subscription.now in
    let there = got-there s c.self.inside.next_end tables c.self.invariant refl name c.in-Some.number at x c.in-Some-get_mut.ensures.value in
    let same = unwritten s c.self.inside.next_end tables c.self.invariant refl name c.in-Some.number x there (c.get_mut.follows.lender x).entries x (c.get_mut.follows.holds x).0 refl in
    rw (same, c.not_allowed.ensures.reply, c.not_allowed.ensures.same, ← c.self.view_is)
    (pull-detached s c.self.inside.next_end tables c.self.invariant refl room name c.args.max c.args.budget c.args.seconds c.requires.some c.args.at c.in-Some.number x there c.if-subscription.true)

-- it isn't

pub hand_out-requires : goal.hand_out-requires
hand_out-requires c =
    let s = the_view c.self.inside in
    let tables = c.self.inside.tables in
    let name = c.args.name.now in
    let room : s.count < 2 ^ 50 = subst (λ (v : State). v.count < 2 ^ 50) (sym c.self.view_is) c.requires.can.room in
    let at = looked-up tables.subscription_numbers name c.text.result.now c.find.result (Some c.in-Some.number) c.text.ensures.value c.find.ensures.number c.in-Some.is in
    let x = c.in-Some-get_mut.subscription.now in
    let there = got-there s c.self.inside.next_end tables c.self.invariant refl name c.in-Some.number at x c.in-Some-get_mut.ensures.value in
    let lasts = c.unwrap_or-seconds.ensures ∙ ap (λ (config : SubConfig). unwrap_or c.args.seconds config.ack_seconds) c.config-config.ensures in
    record {
      few = pull-few name c.args.max c.args.budget c.args.seconds c.requires.read;
      lease = pull-short s c.self.inside.next_end tables c.self.invariant refl room name c.args.max c.args.budget c.args.seconds c.requires.some c.args.at c.in-Some.number x there c.unwrap_or-seconds.result lasts c.if-subscription.false c.requires.read;
      leases = pull-leases s c.self.inside.next_end tables c.self.invariant refl room name c.args.max c.args.budget c.args.seconds c.requires.some c.args.at c.in-Some.number x there;
      messages = c.self.invariant.messages;
    }

pub invariant_of-self-then-changed : goal.invariant_of-self-then-changed
invariant_of-self-then-changed c =
    let s = the_view c.self.inside in
    let tables = c.self.inside.tables in
    let name = c.args.name.now in
    let room : s.count < 2 ^ 50 = subst (λ (v : State). v.count < 2 ^ 50) (sym c.self.view_is) c.requires.can.room in
    let later : s.now ≤ c.args.at = subst (λ (v : State). v.now ≤ c.args.at) (sym c.self.view_is) c.requires.can.later in
    let within : c.args.at ≤ last_moment = omega (arith, c.milliseconds-now.ensures.within, c.milliseconds-now.ensures.value) in
    let at = looked-up tables.subscription_numbers name c.text.result.now c.find.result (Some c.in-Some.number) c.text.ensures.value c.find.ensures.number c.in-Some.is in
    let x = c.in-Some-get_mut.subscription.now in
    let x' = c.hand_out.new.subscription in
    let there = got-there s c.self.inside.next_end tables c.self.invariant refl name c.in-Some.number at x c.in-Some-get_mut.ensures.value in
    let few = pull-few name c.args.max c.args.budget c.args.seconds c.requires.read in
    let lasts = c.unwrap_or-seconds.ensures ∙ ap (λ (config : SubConfig). unwrap_or c.args.seconds config.ack_seconds) c.config-config.ensures in
    rw c.milliseconds-now.ensures.value
    (pull-kept s c.self.inside.next_end tables c.self.invariant refl room name c.args.max c.args.budget c.args.seconds c.requires.some c.args.at c.in-Some.number x there c.unwrap_or-seconds.result lasts c.if-subscription.false (c.get_mut.follows.lender x').entries x'
    (c.get_mut.follows.holds x').0 c.in-Ok.ensures.after few later within c.min-self-inside.result (omega (arith, c.min-self-inside.ensures)) (omega (arith, c.min-self-inside.ensures, c.from.ensures, c.milliseconds-now.ensures.value))
    (record tables { subscriptions = c.get_mut.follows.lender x' }) refl refl refl refl refl)

pub invariant_of-self-else-changed : goal.invariant_of-self-else-changed
invariant_of-self-else-changed c =
    let s = the_view c.self.inside in
    let tables = c.self.inside.tables in
    let name = c.args.name.now in
    let room : s.count < 2 ^ 50 = subst (λ (v : State). v.count < 2 ^ 50) (sym c.self.view_is) c.requires.can.room in
    let at = looked-up tables.subscription_numbers name c.text.result.now c.find.result (Some c.in-Some.number) c.text.ensures.value c.find.ensures.number c.in-Some.is in
    let x = c.in-Some-get_mut.subscription.now in
    let x' = c.hand_out.new.subscription in
    let there = got-there s c.self.inside.next_end tables c.self.invariant refl name c.in-Some.number at x c.in-Some-get_mut.ensures.value in
    let lasts = c.unwrap_or-seconds.ensures ∙ ap (λ (config : SubConfig). unwrap_or c.args.seconds config.ack_seconds) c.config-config.ensures in
    let none : c.in-Ok.items ≡ [] = nil_from_length c.in-Ok.items (omega (arith, c.len-changed.ensures, c.if-changed.false)) in
    let same =
    pull-rests s c.self.inside.next_end tables c.self.invariant refl room name c.args.max c.args.budget c.args.seconds c.requires.some c.args.at c.in-Some.number x there c.unwrap_or-seconds.result lasts c.if-subscription.false (c.get_mut.follows.lender x').entries x'
    (c.get_mut.follows.holds x').0 c.in-Ok.ensures.after (sym c.in-Ok.ensures.items ∙ none) in
    unwritten-kept s c.self.inside.next_end tables c.self.invariant refl name c.in-Some.number x there (c.get_mut.follows.lender x').entries same (record tables { subscriptions = c.get_mut.follows.lender x' }) refl refl refl refl refl

pub returns : goal.returns
returns c =
    let s = the_view c.self.inside in
    let tables = c.self.inside.tables in
    let name = c.args.name.now in
    let room : s.count < 2 ^ 50 = subst (λ (v : State). v.count < 2 ^ 50) (sym c.self.view_is) c.requires.can.room in
    let later : s.now ≤ c.args.at = subst (λ (v : State). v.now ≤ c.args.at) (sym c.self.view_is) c.requires.can.later in
    let at = looked-up tables.subscription_numbers name c.text.result.now c.find.result (Some c.in-Some.number) c.text.ensures.value c.find.ensures.number c.in-Some.is in
    let x = c.in-Some-get_mut.subscription.now in
    let x' = c.hand_out.new.subscription in
    let there = got-there s c.self.inside.next_end tables c.self.invariant refl name c.in-Some.number at x c.in-Some-get_mut.ensures.value in
    let new = (c.get_mut.follows.lender x').entries in
    let put = (c.get_mut.follows.holds x').0 in
    let few = pull-few name c.args.max c.args.budget c.args.seconds c.requires.read in
    let lasts = c.unwrap_or-seconds.ensures ∙ ap (λ (config : SubConfig). unwrap_or c.args.seconds config.ack_seconds) c.config-config.ensures in
    elim c.if-changed.branch [
      | then-changed w ↦
          let within : c.args.at ≤ last_moment = omega (arith, w.milliseconds-now.ensures.within, w.milliseconds-now.ensures.value) in
          rw (w.self-is, w.milliseconds-now.ensures.value, ne_eqb c.len-changed.result 0 w.if-changed.true, c.config-config.ensures, ← c.self.view_is)
          (pull-moved s c.self.inside.next_end tables c.self.invariant refl room name c.args.max c.args.budget c.args.seconds c.requires.some c.args.at c.in-Some.number x there c.unwrap_or-seconds.result lasts c.if-subscription.false new x' put c.in-Ok.ensures.after few later within
          c.in-Ok.items c.in-Ok.ensures.items (λ none. omega (arith, c.len-changed.ensures, w.if-changed.true, ap (λ (xs : List ReceivedMessage). length xs) none)))
      | else-changed w ↦
          let none : c.in-Ok.items ≡ [] = nil_from_length c.in-Ok.items (omega (arith, c.len-changed.ensures, w.if-changed.false)) in
          let same =
          pull-rests s c.self.inside.next_end tables c.self.invariant refl room name c.args.max c.args.budget c.args.seconds c.requires.some c.args.at c.in-Some.number x there c.unwrap_or-seconds.result lasts c.if-subscription.false new x' put c.in-Ok.ensures.after
          (sym c.in-Ok.ensures.items ∙ none) in
          rw (w.self-is, eq-eqb c.len-changed.result 0 w.if-changed.false, same, c.config-config.ensures, ← c.self.view_is)
          (pull-rested s c.self.inside.next_end tables c.self.invariant refl room name c.args.max c.args.budget c.args.seconds c.requires.some c.args.at c.in-Some.number x there c.unwrap_or-seconds.result lasts c.if-subscription.false new x' put c.in-Ok.ensures.after
          c.in-Ok.items c.in-Ok.ensures.items none)
    ]
