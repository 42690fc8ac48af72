use Rattle.ps_http.proofs.CodeLemmas.{refused_code}
use Rattle.ps_server.specs.Turns.{state_after}
use Rattle.ps_server.proofs.Steps as steps
use Rattle.ps_server.proofs.conn.serve_next.Goals as goal

pub refuse-requires : goal.refuse-requires
refuse-requires g c = refused_code _ c.in-Refused.code c.in-Refused.ensures.gives

pub returns-in-NotYet-clause-steps : goal.returns-in-NotYet-clause-steps
returns-in-NotYet-clause-steps g c known was old s goes =
    steps.waited g.M.Machine g.M.HttpProtocol g.K.Keeper g.L.Link g.C.Clock c.args.clock.now was old s c.args.link.now c.next.new.link c.args.book.now c.args.kept.now c.next.new.kept goes c.in-NotYet.ensures

pub returns-in-Ended-clause-steps : goal.returns-in-Ended-clause-steps
returns-in-Ended-clause-steps g c known was old s goes =
    steps.ended g.M.Machine g.M.HttpProtocol g.K.Keeper g.L.Link g.C.Clock c.args.clock.now was old s c.args.link.now c.next.new.link c.args.book.now c.args.kept.now c.next.new.kept goes c.in-Ended.ensures

pub returns-in-Torn-clause-steps : goal.returns-in-Torn-clause-steps
returns-in-Torn-clause-steps g c known was old s goes =
    steps.torn g.M.Machine g.M.HttpProtocol g.K.Keeper g.L.Link g.C.Clock c.args.clock.now was old s c.args.link.now c.next.new.link c.args.book.now c.args.kept.now c.next.new.kept goes c.in-Torn.bytes c.in-Torn.ensures

pub returns-in-ReadFault-clause-steps : goal.returns-in-ReadFault-clause-steps
returns-in-ReadFault-clause-steps g c known was old s goes =
    steps.unread g.M.Machine g.M.HttpProtocol g.K.Keeper g.L.Link g.C.Clock c.args.clock.now was old s c.args.link.now c.next.new.link c.args.book.now c.args.kept.now c.next.new.kept goes c.in-ReadFault.ensures

pub returns-in-WriteFault-clause-steps : goal.returns-in-WriteFault-clause-steps
returns-in-WriteFault-clause-steps g c known was old s goes =
    steps.unsent g.M.Machine g.M.HttpProtocol g.K.Keeper g.L.Link g.C.Clock c.args.clock.now was old s c.args.link.now c.next.new.link c.args.book.now c.args.kept.now c.next.new.kept goes c.in-WriteFault.ensures

pub returns-in-Refused-clause-steps : goal.returns-in-Refused-clause-steps
returns-in-Refused-clause-steps g c known was old s goes =
    steps.refused g.M.Machine g.M.HttpProtocol g.K.Keeper g.L.Link g.C.Clock c.args.clock.now was old s c.args.link.now c.next.new.link c.args.book.now c.args.kept.now c.next.new.kept goes c.in-Refused.code c.refuse.new.link c.in-Refused.ensures _ c.refuse.ensures.refuses

pub returns-in-OutOfMemory-clause-steps : goal.returns-in-OutOfMemory-clause-steps
returns-in-OutOfMemory-clause-steps g c known was old s goes =
    steps.ran_out g.M.Machine g.M.HttpProtocol g.K.Keeper g.L.Link g.C.Clock c.args.clock.now was old s c.args.link.now c.next.new.link c.args.book.now c.args.kept.now c.next.new.kept goes c.in-OutOfMemory.ensures

pub returns-in-Request-clause-steps : goal.returns-in-Request-clause-steps
returns-in-Request-clause-steps g c known was old s goes =
    let state = state_after g.M.Machine g.M.HttpProtocol s goes.turns in
    let it = c.serve_request-written.ensures.served known state.0 state.1 goes.answers.holds in
    rw (c.end_after.ensures)
    (steps.served g.M.Machine g.M.HttpProtocol g.K.Keeper g.L.Link g.C.Clock c.args.clock.now was old s c.args.link.now c.next.new.link c.args.book.now c.args.kept.now c.next.new.kept goes
    record { method = c.in-Request.method; target = c.in-Request.target; body = c.in-Request.body; close = c.in-Request.close }
    c.serve_request-written.new.link c.serve_request-written.new.book c.now.result c.now.ensures c.in-Request.ensures it.1.0 it.0 c.serve_request-written.result it.1.1)
