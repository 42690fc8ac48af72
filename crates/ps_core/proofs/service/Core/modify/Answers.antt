use Rattle.std.proofs.Common.{◌≤◌, ◌<◌, ◌^◌, Some, None, refl, sym, subst, arith}
use Rattle.ps_base.specs.Moments.{last_moment}
use Rattle.ps_core.specs.State.{State}
use Rattle.ps_core.specs.contracts.service.Core.{the_view}
use Rattle.ps_core.proofs.carrying.Outcomes.{missing-carried}
use Rattle.ps_core.proofs.delivering.Modifying.{modify-kept, modify-missing, modify-moved, modify-rested, modify-rests}
use Rattle.ps_core.proofs.delivering.Written.{got-some, got-there, looked-up, unwritten-kept}
use Rattle.ps_core.proofs.service.Core.modify.Goals.{then-changed, else-changed}
use Rattle.ps_core.proofs.service.Core.modify.Goals as goal

pub returns-in_default : goal.returns-in_default
returns-in_default c =
    let s = the_view c.self.inside in
    let tables = c.self.inside.tables in
    let name = c.args.name.now in
    let room : s.count < 2 ^ 50 = subst (λ (v : State). v.count < 2 ^ 50) (sym c.self.view_is) c.requires.can.room in
    let nowhere = looked-up tables.subscription_numbers name c.text.result.now c.find.result None c.text.ensures.value c.find.ensures.number c.in_default.is in
    rw (← c.self.view_is)
    (missing-carried c.args.at _ s _ name c.missing.result c.missing.ensures.reply c.missing.ensures.same c.text-in_default.ensures.value
    (modify-missing s c.self.inside.next_end tables c.self.invariant refl room name c.args.items.now c.args.at c.requires.good nowhere))

pub returns-in_default-get_mut : goal.returns-in_default-get_mut
returns-in_default-get_mut c =
    let s = the_view c.self.inside in
    let tables = c.self.inside.tables in
    let name = c.args.name.now in
    let at = looked-up tables.subscription_numbers name c.text.result.now c.find.result (Some c.in-Some.number) c.text.ensures.value c.find.ensures.number c.in-Some.is in
    absurd (got-some s c.self.inside.next_end tables c.self.invariant refl name c.in-Some.number at c.in_default-get_mut.ensures.value)

pub invariant_of-self-then-changed : goal.invariant_of-self-then-changed
invariant_of-self-then-changed c =
    let s = the_view c.self.inside in
    let tables = c.self.inside.tables in
    let name = c.args.name.now in
    let room : s.count < 2 ^ 50 = subst (λ (v : State). v.count < 2 ^ 50) (sym c.self.view_is) c.requires.can.room in
    let later : s.now ≤ c.args.at = subst (λ (v : State). v.now ≤ c.args.at) (sym c.self.view_is) c.requires.can.later in
    let within : c.args.at ≤ last_moment = omega (arith, c.milliseconds-self-inside.ensures.within, c.milliseconds-self-inside.ensures.value) in
    let at = looked-up tables.subscription_numbers name c.text.result.now c.find.result (Some c.in-Some.number) c.text.ensures.value c.find.ensures.number c.in-Some.is in
    let x' = c.set_deadlines.new.subscription in
    let there = got-there s c.self.inside.next_end tables c.self.invariant refl name c.in-Some.number at c.in-Some-get_mut.subscription.now c.in-Some-get_mut.ensures.value in
    rw c.milliseconds-self-inside.ensures.value
    (modify-kept s c.self.inside.next_end tables c.self.invariant refl room name c.args.items.now c.args.at c.requires.good c.in-Some.number c.in-Some-get_mut.subscription.now there (c.get_mut.follows.lender x').entries x' (c.get_mut.follows.holds x').0 c.in-Ok.ensures.after c.first_of.result c.min-self-inside.result c.first_of.ensures (omega (arith, c.min-self-inside.ensures)) (omega (arith, c.min-self-inside.ensures)) later within
    (record tables { subscriptions = c.get_mut.follows.lender x' }) refl refl refl refl refl)

pub invariant_of-self-else-changed : goal.invariant_of-self-else-changed
invariant_of-self-else-changed c =
    let s = the_view c.self.inside in
    let tables = c.self.inside.tables in
    let name = c.args.name.now in
    let room : s.count < 2 ^ 50 = subst (λ (v : State). v.count < 2 ^ 50) (sym c.self.view_is) c.requires.can.room in
    let at = looked-up tables.subscription_numbers name c.text.result.now c.find.result (Some c.in-Some.number) c.text.ensures.value c.find.ensures.number c.in-Some.is in
    let x' = c.set_deadlines.new.subscription in
    let there = got-there s c.self.inside.next_end tables c.self.invariant refl name c.in-Some.number at c.in-Some-get_mut.subscription.now c.in-Some-get_mut.ensures.value in
    let rests =
    modify-rests s c.self.inside.next_end tables c.self.invariant refl room name c.args.items.now c.args.at c.requires.good c.in-Some.number c.in-Some-get_mut.subscription.now there (c.get_mut.follows.lender x').entries x' (c.get_mut.follows.holds x').0 c.in-Ok.ensures.after
    (c.in-Ok.ensures.same c.if-changed.false) in
    unwritten-kept s c.self.inside.next_end tables c.self.invariant refl name c.in-Some.number c.in-Some-get_mut.subscription.now there (c.get_mut.follows.lender x').entries rests (record tables { subscriptions = c.get_mut.follows.lender x' }) refl refl refl refl refl

pub returns : goal.returns
returns c =
    let s = the_view c.self.inside in
    let tables = c.self.inside.tables in
    let name = c.args.name.now in
    let items = c.args.items.now in
    let room : s.count < 2 ^ 50 = subst (λ (v : State). v.count < 2 ^ 50) (sym c.self.view_is) c.requires.can.room in
    let later : s.now ≤ c.args.at = subst (λ (v : State). v.now ≤ c.args.at) (sym c.self.view_is) c.requires.can.later in
    let at = looked-up tables.subscription_numbers name c.text.result.now c.find.result (Some c.in-Some.number) c.text.ensures.value c.find.ensures.number c.in-Some.is in
    let x = c.in-Some-get_mut.subscription.now in
    let x' = c.set_deadlines.new.subscription in
    let there = got-there s c.self.inside.next_end tables c.self.invariant refl name c.in-Some.number at x c.in-Some-get_mut.ensures.value in
    let new = (c.get_mut.follows.lender x').entries in
    let put = (c.get_mut.follows.holds x').0 in
    elim c.if-changed.branch [
      | then-changed w ↦
          let within : c.args.at ≤ last_moment = omega (arith, w.milliseconds-self-inside.ensures.within, w.milliseconds-self-inside.ensures.value) in
          rw (w.self-is, w.milliseconds-self-inside.ensures.value, c.modified.ensures, c.in-Ok.ensures.mode, c.in-Ok.ensures.invalid, w.if-changed.true, ← c.self.view_is)
          (modify-moved s c.self.inside.next_end tables c.self.invariant refl room name items c.args.at c.requires.good c.in-Some.number x there new x' put c.in-Ok.ensures.after later within (c.in-Ok.ensures.changed w.if-changed.true))
      | else-changed w ↦
          let same = c.in-Ok.ensures.same w.if-changed.false in
          let rests = modify-rests s c.self.inside.next_end tables c.self.invariant refl room name items c.args.at c.requires.good c.in-Some.number x there new x' put c.in-Ok.ensures.after same in
          rw (w.self-is, c.modified.ensures, c.in-Ok.ensures.mode, c.in-Ok.ensures.invalid, w.if-changed.false, rests, ← c.self.view_is)
          (modify-rested s c.self.inside.next_end tables c.self.invariant refl room name items c.args.at c.requires.good c.in-Some.number x there new x' put c.in-Ok.ensures.after same)
    ]
