-- Rows of new messages.
use Rattle.std.proofs.Common.{ℕ, ◌≡◌, ◌+◌, ◌<◌, ◌≤◌, true, List, [], ◌∷◌, length, suc, refl, ap, arith}
use Rattle.std.specs.List.{AllByRecursion}
use Rattle.ps_message.specs.declared.message.Message.{Message}
use Rattle.ps_model.specs.declared.world.MessageRow.{MessageRow}
use Rattle.ps_model.specs.Forwarding.{message_rows}
use Rattle.ps_model.specs.Sound.{Ordered}
use Rattle.ps_base.proofs.Lists.{each-then}

pub rows-topic : (topic n at : ℕ) (messages : List Message) → AllByRecursion (λ (m : MessageRow). m.topic ≡ topic) (message_rows topic n at messages)
rows-topic topic n at [] = tt
rows-topic topic n at (m ∷ ms) = (refl, rows-topic topic (n + 1) at ms)

pub rows-kept : (topic n at : ℕ) (messages : List Message) → AllByRecursion (λ (m : MessageRow). m.kept ≡ true) (message_rows topic n at messages)
rows-kept topic n at [] = tt
rows-kept topic n at (m ∷ ms) = (refl, rows-kept topic (n + 1) at ms)

pub rows-published : (topic n at : ℕ) (messages : List Message) → AllByRecursion (λ (m : MessageRow). m.publish ≡ at) (message_rows topic n at messages)
rows-published topic n at [] = tt
rows-published topic n at (m ∷ ms) = (refl, rows-published topic (n + 1) at ms)

pub rows-from : (topic low n at : ℕ) (messages : List Message) → low ≤ n → AllByRecursion (λ (m : MessageRow). low ≤ m.number) (message_rows topic n at messages)
rows-from topic low n at [] h = tt
rows-from topic low n at (m ∷ ms) h = (h, rows-from topic low (n + 1) at ms (omega arith))

pub rows-length : (topic n at : ℕ) (messages : List Message) → length (message_rows topic n at messages) ≡ length messages
rows-length topic n at [] = refl
rows-length topic n at (m ∷ ms) = ap suc (rows-length topic (n + 1) at ms)

pub rows-to : (topic high n at : ℕ) (messages : List Message) → n + length messages ≤ high → AllByRecursion (λ (m : MessageRow). m.number < high) (message_rows topic n at messages)
rows-to topic high n at [] h = tt
rows-to topic high n at (m ∷ ms) h = (omega arith, rows-to topic high (n + 1) at ms (omega arith))

pub rows-ordered : (topic n at : ℕ) (messages : List Message) → Ordered (λ (a b : MessageRow). a.number < b.number) (message_rows topic n at messages)
rows-ordered topic n at [] = tt
rows-ordered topic n at (m ∷ ms) = (
  each-then (λ (b : MessageRow). n + 1 ≤ b.number) (λ (b : MessageRow). n < b.number) (message_rows topic (n + 1) at ms) (λ b k. omega (arith, k)) (rows-from topic (n + 1) (n + 1) at ms (omega arith)),
  rows-ordered topic (n + 1) at ms,
)
