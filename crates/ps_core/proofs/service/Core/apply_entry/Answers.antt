use Rattle.std.proofs.Common.{◌≡◌, true, false, sym, ap, ◌∙◌}
use Rattle.ps_model.specs.Step.{moment}
use Rattle.ps_core.specs.State.{seen}
use Rattle.ps_core.proofs.applying.Applied.{IsTried, applies-not, can-carry, not-normal, refused-not, tried-at, tried-changed, tried-moved, tried-not}
use Rattle.ps_core.proofs.service.Core.apply_entry.Goals as goal

pub returns-then-refused : goal.returns-then-refused
returns-then-refused c = applies-not (seen c.args.self.now) c.args.recorded.now (seen c.args.self.now) (refused-not c.args.self.now c.args.recorded.now.now c.args.recorded.now.command c.is_refused.ensures.steady (sym c.in_ok-refused.ensures.refused ∙ c.if-refused.true))

pub returns-then-not-is_normal : goal.returns-then-not-is_normal
returns-then-not-is_normal c = applies-not (seen c.args.self.now) c.args.recorded.now (seen c.args.self.now) (not-normal (seen c.args.self.now) c.args.recorded.now.now c.args.recorded.now.command (sym c.is_normal.ensures ∙ c.if-not-is_normal.true))

pub carry_alone-requires : goal.carry_alone-requires
carry_alone-requires c =
    let asks = can-carry c.args.self.now c.args.recorded.now.command c.is_refused.ensures.steady (sym c.in_ok-refused.ensures.refused ∙ c.if-refused.false) (sym c.is_normal.ensures ∙ c.if-not-is_normal.false) in
    rw c.in_ok-moved.ensures.after (record {
      can = record { room = asks.0; later = c.moment-at.ensures.later };
      built = asks.1.0;
      normal = sym c.is_normal.ensures ∙ c.if-not-is_normal.false;
      good = asks.1.1;
    })

pub returns-then-branch : goal.returns-then-branch
returns-then-branch c =
    let entry = c.args.recorded.now in
    let here : c.moment-at.result ≡ entry.now = sym c.milliseconds.ensures.value ∙ c.if-milliseconds-recorded.false in
    let tried : IsTried c.args.self.now c.carry_alone.new.self c.moment-at.result entry.command c.in_ok-moved.moved true = record {
      steady = c.is_refused.ensures.steady;
      good = sym c.in_ok-refused.ensures.refused ∙ c.if-refused.false;
      normal = sym c.is_normal.ensures ∙ c.if-not-is_normal.false;
      moment = ap (moment (seen c.args.self.now)) here ∙ sym c.moment-at.ensures.value;
      due = c.in_ok-moved.ensures.moved;
      told = c.in_ok-carry_alone.ensures.0;
      carried = rw (← c.in_ok-moved.ensures.after, ← c.if-branch.true) c.in_ok-carry_alone.ensures.1;
    } in
    let same = tried-at c.args.self.now c.carry_alone.new.self c.moment-at.result entry.now entry.command c.in_ok-moved.moved true here tried in
    tried-changed c.args.self.now c.carry_alone.new.self entry.now entry.command c.in_ok-moved.moved same

pub returns-then-not-is_due_tick : goal.returns-then-not-is_due_tick
returns-then-not-is_due_tick c =
    let entry = c.args.recorded.now in
    let here : c.moment-at.result ≡ entry.now = sym c.milliseconds.ensures.value ∙ c.if-milliseconds-recorded.false in
    let tried : IsTried c.args.self.now c.carry_alone.new.self c.moment-at.result entry.command c.in_ok-moved.moved false = record {
      steady = c.is_refused.ensures.steady;
      good = sym c.in_ok-refused.ensures.refused ∙ c.if-refused.false;
      normal = sym c.is_normal.ensures ∙ c.if-not-is_normal.false;
      moment = ap (moment (seen c.args.self.now)) here ∙ sym c.moment-at.ensures.value;
      due = c.in_ok-moved.ensures.moved;
      told = c.in_ok-carry_alone.ensures.0;
      carried = rw (← c.in_ok-moved.ensures.after, ← c.if-branch.false) c.in_ok-carry_alone.ensures.1;
    } in
    let same = tried-at c.args.self.now c.carry_alone.new.self c.moment-at.result entry.now entry.command c.in_ok-moved.moved false here tried in
    tried-not c.args.self.now c.carry_alone.new.self (seen c.carry_alone.new.self) entry.now entry.command c.in_ok-moved.moved same (sym c.is_due_tick.ensures ∙ c.if-not-is_due_tick.true)

pub returns : goal.returns
returns c =
    let entry = c.args.recorded.now in
    let here : c.moment-at.result ≡ entry.now = sym c.milliseconds.ensures.value ∙ c.if-milliseconds-recorded.false in
    let tried : IsTried c.args.self.now c.carry_alone.new.self c.moment-at.result entry.command c.in_ok-moved.moved false = record {
      steady = c.is_refused.ensures.steady;
      good = sym c.in_ok-refused.ensures.refused ∙ c.if-refused.false;
      normal = sym c.is_normal.ensures ∙ c.if-not-is_normal.false;
      moment = ap (moment (seen c.args.self.now)) here ∙ sym c.moment-at.ensures.value;
      due = c.in_ok-moved.ensures.moved;
      told = c.in_ok-carry_alone.ensures.0;
      carried = rw (← c.in_ok-moved.ensures.after, ← c.if-branch.false) c.in_ok-carry_alone.ensures.1;
    } in
    let same = tried-at c.args.self.now c.carry_alone.new.self c.moment-at.result entry.now entry.command c.in_ok-moved.moved false here tried in
    rw (c.record.ensures, here) (tried-moved c.args.self.now c.carry_alone.new.self entry.now entry.command c.in_ok-moved.moved same (sym c.is_due_tick.ensures ∙ c.if-not-is_due_tick.false))
