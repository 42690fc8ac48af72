-- Worked examples: what holds a message for a subscription, and what a mark lapses to.
use Rattle.std.specs.Prelude.{ℕ, ◌≡◌, true, false, List, [], ◌∷◌, Some, None}
use Rattle.ps_model.specs.declared.mark.Mark.{Mark}
use Rattle.ps_model.specs.declared.mark.Mark.TheVariants.{Backlog, Leased, Ahead, Done, Gone}
use Rattle.ps_model.specs.declared.mark.DoneCause.TheVariants.{Acknowledged, Dead}
use Rattle.ps_model.specs.declared.mark.GoneCause.TheVariants as gone
use Rattle.ps_model.specs.declared.mark.Slot.{Slot}
use Rattle.ps_config.specs.declared.config.SubConfig.{SubConfig}
use Rattle.ps_model.specs.declared.hold.Hold.{Hold}
use Rattle.ps_model.specs.declared.hold.Holds.{Holds}
use Rattle.ps_config.specs.Masks.{default_sub}
use Rattle.ps_model.specs.Retention.{is_held, lapsed}

-- message 7, published at 1000
abbrev pub marked : Mark → Slot
marked mark = record { item = record { number = 7; publish = 1000; key = []; size = 2 }; mark = mark }

abbrev pub waiting : Slot
waiting = marked (Backlog 0 0 None)

-- 10 minutes; acknowledged messages may be kept as long
abbrev pub ten_minutes : SubConfig
ten_minutes = record default_sub { retention = 600000 }

abbrev pub retaining : SubConfig
retaining = record ten_minutes { retain_acked = true }

-- a topic that keeps nothing, or keeps messages so long
abbrev pub nothing : Holds
nothing = record { topic_window = None; snapshots = [] }

abbrev pub topic_keeps : ℕ → Holds
topic_keeps window = record { topic_window = Some window; snapshots = [] }

-- a snapshot with these messages and all behind this number
abbrev pub snapshot : List ℕ → ℕ → Hold
snapshot numbers bound = record { numbers = numbers; after = bound }

abbrev pub one_snapshot : List ℕ → ℕ → Holds
one_snapshot numbers bound = record { topic_window = None; snapshots = snapshot numbers bound ∷ [] }

pub record RetentionExamples : Type 0 where
  -- the window of the subscription, which a message leaves when it is as old
  pub at_its_publish : is_held 1000 ten_minutes nothing waiting ≡ true
  pub just_inside : is_held 600999 ten_minutes nothing waiting ≡ true
  pub as_old_as_the_window : is_held 601000 ten_minutes nothing waiting ≡ false
  pub out_just_inside : is_held 600999 ten_minutes nothing (marked (Leased 0 1 601500)) ≡ true
  pub ahead_just_inside : is_held 600999 ten_minutes nothing (marked (Ahead 0)) ≡ true
  pub ahead_outside : is_held 601000 ten_minutes nothing (marked (Ahead 0)) ≡ false
  -- the topic's window, where the subscription's is over
  pub topic_just_inside : is_held 700999 ten_minutes (topic_keeps 700000) waiting ≡ true
  pub topic_as_old : is_held 701000 ten_minutes (topic_keeps 700000) waiting ≡ false
  pub shorter_window_of_the_topic : is_held 1600 (record ten_minutes { retention = 1000 }) (topic_keeps 500) waiting ≡ true
  -- a snapshot that lists it, or whose bound is below its number
  pub listed : is_held 601000 ten_minutes (one_snapshot (3 ∷ 7 ∷ []) 9) waiting ≡ true
  pub not_listed : is_held 601000 ten_minutes (one_snapshot (3 ∷ 8 ∷ []) 9) waiting ≡ false
  pub behind_the_bound : is_held 601000 ten_minutes (one_snapshot [] 6) waiting ≡ true
  pub the_bound_itself : is_held 601000 ten_minutes (one_snapshot [] 7) waiting ≡ false
  pub second_of_two_snapshots : is_held 601000 ten_minutes (record { topic_window = None; snapshots = snapshot [] 9 ∷ snapshot (7 ∷ []) 9 ∷ [] }) waiting ≡ true
  -- of what is dealt with, the subscription's window counts only where acknowledged messages are retained
  pub acknowledged : is_held 1000 ten_minutes nothing (marked (Done Acknowledged)) ≡ false
  pub acknowledged_and_retained : is_held 600999 retaining nothing (marked (Done Acknowledged)) ≡ true
  pub retained_no_longer : is_held 601000 retaining nothing (marked (Done Acknowledged)) ≡ false
  pub dead : is_held 1000 ten_minutes nothing (marked (Done Dead)) ≡ false
  pub acknowledged_in_the_topics_window : is_held 600999 ten_minutes (topic_keeps 600000) (marked (Done Acknowledged)) ≡ true
  pub acknowledged_in_a_snapshot : is_held 601000 ten_minutes (one_snapshot (7 ∷ []) 9) (marked (Done Acknowledged)) ≡ true
  -- what nothing holds is gone: expired where it wasn't acknowledged, and else with its cause
  pub waiting_expires : lapsed (Backlog 2 5000 (Some 3)) ≡ Gone gone.Expired
  pub out_expires : lapsed (Leased 2 3 5000) ≡ Gone gone.Expired
  pub ahead_goes_as_acknowledged : lapsed (Ahead 2) ≡ Gone gone.Acknowledged
  pub acknowledged_goes : lapsed (Done Acknowledged) ≡ Gone gone.Acknowledged
  pub dead_goes : lapsed (Done Dead) ≡ Gone gone.Dead
