use Rattle.ps_book.proofs.Damage.{no_bad_row}
use Rattle.ps_book.proofs.book.Book.call.Goals as goal

pub returns-in-Err-clause-no_bad_row : goal.returns-in-Err-clause-no_bad_row
returns-in-Err-clause-no_bad_row g c seq is known =
    let M = g.M.Machine in
    let end = c.in-Err.ensures in
    let stood = c.requires in
    no_bad_row M.next M.spelled M.number g.met.M.Machine.counts M.first stood.0 stood.1 _ _ seq (stood.2.kept (end.still_known known)) (end.bad seq is known)
