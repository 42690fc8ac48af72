-- What contracts see of a keeper over SQLite.
use Rattle.std.specs.Prelude.{ℕ, Bool, ◌&&◌, refl, IsTrue}
use Rattle.std.specs.Coded.{Coded, code_by, coded×, coded_ℕ, coded_bool}
use Rattle.sqlite.specs.Store.{Ghosts}
use Rattle.sqlite.specs.Held.{Held, held_code, state}
use Rattle.ps_sqlkeep.specs.Kept.{IsReady}

-- a connection, whether its table was found to hold a log, and how often a statement was refused
pub record Kept (S : Type 0) : Type 0 where
  pub held : Held S
  pub holds_log : Bool
  pub faults : ℕ

abbrev pub kept_code : {S : Type 0} → Coded S → Coded (Kept S)
kept_code {S} store =
    code_by (Held S × (Bool × ℕ)) (coded× (held_code store) (coded× coded_bool coded_ℕ)) (λ k. (k.held, (k.holds_log, k.faults)))
    (λ p. record { held = p.0; holds_log = p.1.0; faults = p.1.1 }) (λ _. refl)

-- a table that was found to hold a log holds one, while the store is clean and open
abbrev pub IsKept : {S : Type 0} → Ghosts S → Held S → Bool → Type 0
IsKept g held holds_log = IsTrue holds_log → IsReady (state g held)

-- its log is known while the store is clean
abbrev pub is_known : {S : Type 0} → Ghosts S → Kept S → Bool
is_known g k = k.holds_log && (state g k.held).is_clean
