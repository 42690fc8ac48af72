-- New messages change the world, and no lease more is over.
use Rattle.std.proofs.Common.{ℕ, ◌≡◌, ◌+◌, ◌<◌, Bool, true, false, ◌||◌, List, [], ◌∷◌, map, length, if◌then◌else◌, refl, ◌∙◌, ap, arith}
use Rattle.std.specs.List.{list_any}
use Rattle.std.proofs.lemmas.Bool.{false_from_ne_true}
use Rattle.std.proofs.lemmas.List.Folds.{list_any-append}
use Rattle.ps_message.specs.declared.message.Message.{Message}
use Rattle.ps_model.specs.declared.world.MessageRow.{MessageRow}
use Rattle.ps_model.specs.Failing.{is_due}
use Rattle.ps_model.specs.Forwarding.{message_rows}
use Rattle.ps_model.specs.Same.{same_world, WorldParts}
use Rattle.ps_model.proofs.SameLemmas.{same-world}
use Rattle.ps_tables.specs.declared.kept_subscription.KeptSubscription.{KeptSubscription}
use Rattle.ps_core.specs.State.{State, seen}
use Rattle.ps_core.specs.Effects.{add_published, is_any_due}
use Rattle.ps_tables.specs.Subscriptions.{enter_subscription, is_attached, slot_in, wanted_of}
use Rattle.ps_tables.specs.Entering.{enter_wanted}
use Rattle.ps_tables.proofs.publishing.Rows.{rows-length}

pub published-moves : (at topic : ℕ) (messages : List Message) (s : State) → 0 < length messages → same_world (seen s) (seen (add_published at topic messages s)) ≡ false
published-moves at topic messages s some =
    false_from_ne_true (same_world (seen s) (seen (add_published at topic messages s)))
    (λ e. let next : s.next_message ≡ s.next_message + length (message_rows topic s.next_message at messages) = ap (λ (p : WorldParts). p.1.1.1.0) (same-world (seen s) (seen (add_published at topic messages s)) e) in
    omega (arith, next, rows-length topic s.next_message at messages, some))

-- a message that enters has no lease that could be over
new-not-due : (moment : ℕ) (rows : List MessageRow) → list_any (is_due moment) (map slot_in rows) ≡ false
new-not-due moment [] = refl
new-not-due moment (r ∷ rs) = new-not-due moment rs

entered-due : (moment topic : ℕ) (rows : List MessageRow) (x : KeptSubscription) → list_any (is_due moment) (enter_subscription topic rows x).sub.slots ≡ list_any (is_due moment) x.sub.slots
entered-due moment topic rows x = by (is_attached topic x)
  where
    none : (b : Bool) → (b || false) ≡ b
    none true = refl
    none false = refl

    by : (b : Bool) → list_any (is_due moment) (if b then enter_wanted rows x else x).sub.slots ≡ list_any (is_due moment) x.sub.slots
    by true =
        list_any-append (is_due moment) x.sub.slots (map slot_in (wanted_of x rows))
        ∙ ap (λ (b : Bool). list_any (is_due moment) x.sub.slots || b) (new-not-due moment (wanted_of x rows))
        ∙ none (list_any (is_due moment) x.sub.slots)
    by false = refl

-- no lease more is over
pub published-due : (moment at topic : ℕ) (messages : List Message) (s : State) → is_any_due moment (add_published at topic messages s) ≡ is_any_due moment s
published-due moment at topic messages s = each s.subscriptions
  where
    rows : List MessageRow
    rows = message_rows topic s.next_message at messages

    due : KeptSubscription → Bool
    due x = list_any (is_due moment) x.sub.slots

    each : (subscriptions : List KeptSubscription) → list_any due (map (enter_subscription topic rows) subscriptions) ≡ list_any due subscriptions
    each [] = refl
    each (x ∷ xs) = λ i. entered-due moment topic rows x i || each xs i
