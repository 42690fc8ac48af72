use Rattle.std.proofs.Common.{refl}
use Rattle.ps_core.proofs.delivering.Search.{message-looked}
use Rattle.ps_core.proofs.service.delivering.received_one.Goals.{in-Some+in_ok-copy-in-Some, in-None}
use Rattle.ps_core.proofs.service.delivering.received_one.Goals as goal

pub returns : goal.returns
returns c =
    elim c.match-get.branch [
      | in-Some+in_ok-copy-in-Some w ↦
          let looked = message-looked c.args.handed.number c.args.messages.now.entries c.requires _ w.in-Some.ensures.value in
          rw (w.publish-is, looked, w.in_ok-copy-in-Some.ensures) refl
      | in-None w ↦
          let looked = message-looked c.args.handed.number c.args.messages.now.entries c.requires _ w.in-None.ensures.value in
          rw (w.publish-is, looked, w.no_message.ensures) refl
    ]
