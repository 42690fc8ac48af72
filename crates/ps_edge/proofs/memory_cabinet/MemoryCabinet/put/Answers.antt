use Rattle.ps_edge.proofs.PathLogLemmas.{put-unfailed}
use Rattle.ps_edge.proofs.memory_cabinet.MemoryCabinet.put.Goals as goal

pub invariant_of-self : goal.invariant_of-self
invariant_of-self c =
    put-unfailed c.args.path.now (λ m. m.faults) c.args.keeper c.self.inside.slots.items c.put_in.new.slots.items c.put_in.result c.requires.unfailed c.self.invariant c.put_in.ensures.ok c.put_in.ensures.err
