use Rattle.ps_model.specs.Checks.{as_read}
use Rattle.ps_model.proofs.NormalForms.{read-normal}
use Rattle.ps_core.specs.Carrying.{IsCarried, IsEntryFor}
use Rattle.ps_core.specs.Effects.{settle_state}
use Rattle.ps_core.specs.State.{seen}
use Rattle.ps_core.proofs.judging.Judged.{can-still, judged-any}
use Rattle.ps_core.proofs.judging.Refused.{no_refusal, room_left}
use Rattle.ps_core.proofs.judging.Settled.{read-built}
use Rattle.ps_core.proofs.service.Core.judge_good.Goals as goal

pub carry-requires : goal.carry-requires
carry-requires c =
    let open_command = no_refusal (seen c.args.self.now) c.args.command.now c.requires in
    let room = room_left c.args.self.now c.moment-at.ensures.steady open_command.1.1 in
    rw (c.in_ok-moved.ensures.after, c.in_ok-read.ensures) (record {
      can = record { room = room; later = c.moment-at.ensures.later };
      built = read-built c.args.command.now open_command.0;
      normal = read-normal c.args.command.now;
      good = open_command.1.0;
    })

pub verdict-requires : goal.verdict-requires
verdict-requires c =
    let open_command = no_refusal (seen c.args.self.now) c.args.command.now c.requires in
    let room = room_left c.args.self.now c.moment-at.ensures.steady open_command.1.1 in
    record {
      can = can-still c.moment-at.result c.in_ok-read.read c.settle.new.self c.carry.new.self c.in-Ok.outcome.reply c.in-Ok.outcome.changed c.in-Ok.ensures
          (rw c.in_ok-moved.ensures.after (record { room = room; later = c.moment-at.ensures.later }));
    }

pub returns-in-Ok : goal.returns-in-Ok
returns-in-Ok c =
    let s = c.args.self.now in
    let command = c.args.command.now in
    let open_command = no_refusal (seen s) command c.requires in
    let steady = c.moment-at.ensures.steady in
    let room = room_left s steady open_command.1.1 in
    let carried : IsCarried c.moment-at.result (as_read command) (settle_state c.moment-at.result s) c.carry.new.self c.in-Ok.outcome.reply c.in-Ok.outcome.changed = rw (← c.in_ok-moved.ensures.after, ← c.in_ok-read.ensures) c.in-Ok.ensures in
    let for : IsEntryFor c.moment-at.result (as_read command) c.in_ok-moved.moved c.in-Ok.outcome.changed c.carry.new.self c.verdict.new.self c.verdict.result.entry = rw (← c.in_ok-read.ensures) c.verdict.ensures.entry in
    rw c.verdict.ensures.reply
    (judged-any s c.carry.new.self c.verdict.new.self c.args.now command c.in-Ok.outcome.reply c.verdict.result.entry c.in_ok-moved.moved c.in-Ok.outcome.changed steady room open_command.0 open_command.1.0 c.moment-at.result c.moment-at.ensures.value carried c.in_ok-moved.ensures.moved for)
