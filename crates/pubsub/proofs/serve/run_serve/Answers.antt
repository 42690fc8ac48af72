use Rattle.std.proofs.Common.{inl, refl}
use Rattle.ps_run.specs.declared.status.Status.TheVariants.{OutOfMemory}
use Rattle.pubsub.proofs.ServeLemmas.{leaves_same}
use Rattle.pubsub.proofs.serve.run_serve.Goals as goal

pub returns-in-Err-OutOfMemory-clause-served : goal.returns-in-Err-OutOfMemory-clause-served
returns-in-Err-OutOfMemory-clause-served g c port file asks =
    let end = c.conclude-in-Err-OutOfMemory.ensures in
    (OutOfMemory, end.code, (end.written, inl (leaves_same g.S.Cabinet file c.args.cabinet.now)))

pub returns-in-Err-OutOfMemory-clause-net : goal.returns-in-Err-OutOfMemory-clause-net
returns-in-Err-OutOfMemory-clause-net g c port file asks = (OutOfMemory, c.conclude-in-Err-OutOfMemory.ensures.code, inl refl)
