use Rattle.std.proofs.Common.{◌≡◌, [], pos, take, map}
use Rattle.sqlite.specs.declared.types.Value.TheVariants.{Blob}
use Rattle.sqlite.specs.Effect.{Database}
use Rattle.sqlite.specs.State.{HasCleanDisk, KeepsCommit, Survives}
use Rattle.sqlite.specs.Held.{state}
use Rattle.ps_sqlkeep.specs.Filling.{IsFilling}
use Rattle.ps_sqlkeep.proofs.replacing.fill.Given as goal

abbrev pub invariant-rows : goal.invariant-rows
invariant-rows g l =
    let old = state g.S.Store l.fn.tx.conn.now in
    let now = state g.S.Store l.tx.conn.now in
    record {
      same : l.tx.conn.ghost_name ≡ l.fn.tx.conn.ghost_name;
      survives : Survives old now (λ _. ⊥);
      kept : HasCleanDisk now → KeepsCommit old now;
      number : l.seq ≡ pos l.row-index;
      filling : HasCleanDisk now → (committed : Database) → IsFilling old committed [] → IsFilling now committed (map Blob (take l.row-index l.rows));
    }
