-- Sums of sizes, each counted with at most 2^40.
use Rattle.std.proofs.Common.{◌≡◌, ℕ, ◌+◌, ◌*◌, ◌^◌, ◌<◌, ◌≤◌, ◌-◌, List, [], ◌∷◌, length, get_or, drop, refl, arith, add-one, drop-cons}
use Rattle.ps_message.specs.declared.message.Message.{Message}
use Rattle.ps_message.specs.Lists.{total}
use Rattle.ps_message.specs.Messages.{bytes_of, size_of}

-- one more is counted
pub total-drop : {A : Type 0} (count : A → ℕ) (xs : List A) (i : ℕ) (x : A) → i < length xs → x ≡ get_or xs i x → total count (drop i xs) ≡ count x + total count (drop (i + 1) xs)
total-drop count xs i x lt is = rw (add-one, drop-cons xs i x lt, ← is) refl

pub total-size_le : (ms : List Message) → total size_of ms ≤ length ms * 2 ^ 40
total-size_le [] = omega arith
total-size_le (m ∷ ms) = let rest = total-size_le ms in omega arith

pub total-size_le_bytes : (ms : List Message) → total size_of ms ≤ total bytes_of ms
total-size_le_bytes [] = omega arith
total-size_le_bytes (m ∷ ms) = let rest = total-size_le_bytes ms in omega arith

pub total-bytes_le : (ms : List Message) (most : ℕ) → most < 2 ^ 40 → total size_of ms ≤ most → total bytes_of ms ≤ most
total-bytes_le [] most small le = omega arith
total-bytes_le (m ∷ ms) most small le = let rest = total-bytes_le ms (most - bytes_of m) (omega arith) (omega arith) in omega arith
