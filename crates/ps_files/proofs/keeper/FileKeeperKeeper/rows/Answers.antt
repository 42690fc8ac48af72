use Rattle.ps_files.proofs.keeper.FileKeeperKeeper.rows.Goals as goal

pub returns-in-Sql-clause-change : goal.returns-in-Sql-clause-change
returns-in-Sql-clause-change c known = rw c.in-Sql.is (c.rows.ensures.change known)
