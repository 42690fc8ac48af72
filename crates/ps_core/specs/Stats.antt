-- The ten numbers of a core. What is proved of a core bounds no sum over its subscriptions, so a sum beyond u64 is shown as
-- the greatest u64.
use Rattle.std.specs.Prelude.{ℕ, min, ◌-◌, ◌^◌}
use Rattle.ps_model.specs.declared.stat.Stat.{Stat}
use Rattle.ps_model.specs.declared.world.World.{World}
use Rattle.ps_model.specs.Counting.{stat}

abbrev pub capped : ℕ → ℕ
capped n = min n (2 ^ 64 - 1)

abbrev pub stat_of : World → Stat
stat_of w = record (stat w) {
  backlog = capped (stat w).backlog;
  leased = capped (stat w).leased;
  acknowledged = capped (stat w).acknowledged;
  dead_lettered = capped (stat w).dead_lettered;
}
