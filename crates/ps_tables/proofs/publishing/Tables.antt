-- What a publish leaves in the tables.
use Rattle.std.proofs.Common.{◌≡◌, ◌<◌, ◌++◌, ℕ, List, length, map, filter, Result, Ok, Err, OnOk, take, sym, ap, ◌∙◌}
use Rattle.std.specs.List.{AllByRecursion}
use Rattle.std.proofs.Math.Seq.{take-append_seam}
use Rattle.ps_base.proofs.Lists.{each-then}
use Rattle.ps_message.specs.declared.message.Message.{Message}
use Rattle.ps_model.specs.Forwarding.{message_rows}
use Rattle.ps_model.specs.declared.mark.Slot.{Slot}
use Rattle.ps_model.specs.declared.world.MessageRow.{MessageRow}
use Rattle.ps_tables.specs.declared.kept_subscription.KeptSubscription.{KeptSubscription}
use Rattle.ps_tables.specs.declared.tables.KeptMessage.{KeptMessage}
use Rattle.ps_tables.specs.Subscriptions.{enter_subscription, is_had}
use Rattle.ps_tables.specs.Entering.{IsBefore, IsReady, kept_by, kept_rows}
use Rattle.ps_tables.proofs.publishing.Holders.{AllBelow, kept-right, wanting}

pub both-ok : {V E : Type 0} (P Q : Type 0) (r : Result V E) → OnOk r P → OnOk r Q → OnOk r (P × Q)
both-ok P Q (Ok v) p q = (p, q)
both-ok P Q (Err e) p q = tt

-- what is written over a whole vector
pub written-back : (new rest : List ℕ) (long : ℕ) → length new ≡ long → take long (new ++ rest) ≡ new
written-back new rest long is = ap (λ (n : ℕ). take n (new ++ rest)) (sym is) ∙ take-append_seam new rest

pub ready-below : (first at : ℕ) (xs : List KeptSubscription) → AllByRecursion (IsReady first at) xs → AllBelow first xs
ready-below first at xs ready =
    each-then (IsReady first at) (λ (x : KeptSubscription). AllByRecursion (λ (s : Slot). s.item.number < first) x.sub.slots) xs
    (λ x h. each-then (IsBefore first at) (λ (s : Slot). s.item.number < first) x.sub.slots (λ s k. k.number) h.slots) ready

-- what is kept of the messages
pub published-rows : (first at topic : ℕ) (messages : List Message) (xs : List KeptSubscription) (old new : List KeptMessage) (ys : List KeptSubscription) → AllByRecursion (IsReady first at) xs
    → new ≡ old ++ kept_rows (message_rows topic first at messages) (map (wanting topic xs) messages) → ys ≡ map (enter_subscription topic (message_rows topic first at messages)) xs
    → new ≡ old ++ map (kept_by ys) (filter (λ (m : MessageRow). is_had ys m.number) (message_rows topic first at messages))
published-rows first at topic messages xs old new ys ready kept made =
    kept
    ∙ ap (λ (more : List KeptMessage). old ++ more) (kept-right topic first at messages xs (ready-below first at xs ready))
    ∙ ap (λ (subscriptions : List KeptSubscription). old ++ map (kept_by subscriptions) (filter (λ (m : MessageRow). is_had subscriptions m.number) (message_rows topic first at messages))) (sym made)
