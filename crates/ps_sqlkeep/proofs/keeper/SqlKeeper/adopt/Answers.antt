use Rattle.sqlite.specs.Held.{state}
use Rattle.ps_sqlkeep.proofs.Append.{log_open}
use Rattle.ps_sqlkeep.proofs.Read.{alone}
use Rattle.ps_sqlkeep.proofs.Keep.{both, both_of}
use Rattle.sqlite_trees.proofs.Doubt.{no_doubt}
use Rattle.ps_sqlkeep.proofs.keeper.SqlKeeper.adopt.Goals as goal

pub returns-in-Ok-clause-known : goal.returns-in-Ok-clause-known
returns-in-Ok-clause-known g c =
    let new = state g.S.Store c.examine.new.conn in (
      λ known.
          let parts = both_of c.in-Ok.holds_log new.is_clean known in
          let found = c.in-Ok.ensures.found (no_doubt new.is_clean parts.1) in
          let ours = found.ours parts.0 in
          record { clean = parts.1; schema = ours.schema; autocommit = ours.autocommit; numbered = ours.numbered },
      λ holds.
          let found = c.in-Ok.ensures.found (no_doubt new.is_clean holds.clean) in
          both c.in-Ok.holds_log new.is_clean (found.all holds) holds.clean,
    )

pub returns-in-Ok-clause-log : goal.returns-in-Ok-clause-log
returns-in-Ok-clause-log g c known =
    let new = state g.S.Store c.examine.new.conn in
    let parts = both_of c.in-Ok.holds_log new.is_clean known in
    let found = c.in-Ok.ensures.found (no_doubt new.is_clean parts.1) in
    record {
      log = log_open new found.is_open;
      alone = alone new found.is_open (found.ours parts.0) (λ db live may. g.met.S.Store.settled c.examine.new.conn.store db live may);
    }
