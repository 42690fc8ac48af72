-- A command over a known log that means something, of which no part failed.
use Rattle.std.specs.Prelude.{◌<◌, ◌^◌, length, IsSomeAnd, IsTrue, MatchBool, is_some, []}
use Rattle.ps_keeper.specs.Log.{Log}
use Rattle.ps_keeper.specs.Cause.{Rose}
use Rattle.ps_run.specs.Outside.{Outside}
use Rattle.ps_run.specs.Rules.{Rules}

module _ {W I O : Type 0} (r : Rules W) (was now : Outside I O) where
  -- the log that the command begins with is known, and means a world
  abbrev pub HasMeaning : Type 0
  HasMeaning =
      let means : Log → Type 0 = λ rows. IsTrue (is_some (r.mean rows)) in
      MatchBool was.begins_empty (means []) (IsTrue was.known × IsSomeAnd was.log means)

  -- a report of which no part failed
  pub record NoReportFailed : Type 0 where
    -- the log is known when the command ends
    pub known : IsTrue now.known
    pub means : HasMeaning
    -- no write failed, and the store didn't
    pub writes : Rose was.write_faults now.write_faults → ⊥
    pub stores : Rose was.store_faults now.store_faults → ⊥

  -- a batch of which no part failed
  pub record NothingFailed : Type 0 where
    pub others : NoReportFailed
    -- no read failed
    pub reads : Rose was.read_faults now.read_faults → ⊥
    -- the input is known, and is shorter than 2 ^ 60 bytes
    pub short : IsSomeAnd was.left (λ bytes. length bytes < 2 ^ 60)
