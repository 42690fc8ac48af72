-- When settling changes the world.
use Rattle.std.proofs.Common.{ℕ, ◌≡◌, Bool, true, false, ◌||◌, List, [], ◌∷◌, Some, map, refl, sym, ◌∙◌, ap, if◌then◌else◌}
use Rattle.std.specs.List.{list_any}
use Rattle.std.proofs.lemmas.Bool.{false≢true, false_from_ne_true, or_parts, or_from, cond_both}
use Rattle.std.proofs.lemmas.List.Folds.{list_any-append}
use Rattle.ps_model.specs.declared.mark.Mark.{Mark}
use Rattle.ps_model.specs.declared.mark.Mark.TheVariants.{Backlog, Leased, Ahead, Done, Gone}
use Rattle.ps_model.specs.declared.mark.DoneCause.TheVariants.{Dead}
use Rattle.ps_model.specs.declared.mark.Slot.{Slot}
use Rattle.ps_config.specs.declared.config.SubConfig.{SubConfig}
use Rattle.ps_model.specs.declared.world.MarkRow.{MarkRow}
use Rattle.ps_model.specs.Failing.{failed, fallen, mark_after_failing, is_dead, one_more, retry_at, is_due, is_over}
use Rattle.ps_model.specs.Forwarding.{forward}
use Rattle.ps_model.specs.Same.{same_world, WorldParts}
use Rattle.ps_model.specs.Slots.{any_earlier, remarked}
use Rattle.ps_model.specs.Worlds.{row_of}
use Rattle.ps_model.proofs.SameLemmas.{same-world}
use Rattle.ps_sub.proofs.DueLemmas.{fail-rest}
use Rattle.ps_tables.specs.declared.kept_subscription.KeptSubscription.{KeptSubscription}
use Rattle.ps_core.specs.State.{State, seen, flat_marks}
use Rattle.ps_core.specs.Steady.{IsSteady}
use Rattle.ps_tables.specs.Subscriptions.{with_slots}
use Rattle.ps_core.specs.Effects.{settle_subscription, settle_state, is_any_due}
use Rattle.ps_core.specs.Settling.{has_due}

-- where no lease is over, the subscription stays
pub rest-subscription : (at : ℕ) (x : KeptSubscription) → has_due at x ≡ false → settle_subscription at x ≡ x
rest-subscription at x none = ap (with_slots x) (fail-rest at false x.sub.config x.sub.slots none)

rest-subscriptions : (at : ℕ) (xs : List KeptSubscription) → list_any (has_due at) xs ≡ false → map (settle_subscription at) xs ≡ xs
rest-subscriptions at [] h = refl
rest-subscriptions at (x ∷ xs) h =
    let p = or_parts (has_due at x) (list_any (has_due at) xs) h in
    λ i. rest-subscription at x p.0 i ∷ rest-subscriptions at xs p.1 i

pub settle-rests : (at : ℕ) (s : State) → IsSteady s → is_any_due at s ≡ false → settle_state at s ≡ s
settle-rests at s h none = ap (λ (xs : List KeptSubscription). record s { subscriptions = xs }) (rest-subscriptions at s.subscriptions none)

failed-ends : (at : ℕ) (forward : Bool) (config : SubConfig) (m : Mark) → is_over at (failed at forward config m) ≡ false
failed-ends at forward config (Leased failures lease deadline) =
    cond_both (is_dead config.dead_letter forward (one_more failures)) (Done Dead) (Backlog (one_more failures) (retry_at config.retry at (one_more failures)) (Some lease)) (λ (m : Mark). is_over at m ≡ false)
    (λ _. refl) (λ _. refl)
failed-ends at forward config (Backlog failures until last) = refl
failed-ends at forward config (Ahead failures) = refl
failed-ends at forward config (Done cause) = refl
failed-ends at forward config (Gone cause) = refl

fallen-ends : (at : ℕ) (m : Mark) → is_over at (fallen m) ≡ false
fallen-ends at (Leased failures lease deadline) = refl
fallen-ends at (Backlog failures until last) = refl
fallen-ends at (Ahead failures) = refl
fallen-ends at (Done cause) = refl
fallen-ends at (Gone cause) = refl

failing-ends : (at : ℕ) (forward : Bool) (config : SubConfig) (all : List Slot) (slot : Slot) → is_over at (mark_after_failing (is_due at) at forward config all slot) ≡ false
failing-ends at forward config all slot =
    cond_both (is_due at slot) (failed at forward config slot.mark) (if any_earlier config.ordering (is_due at) all slot then fallen slot.mark else slot.mark) (λ (m : Mark). is_over at m ≡ false)
    (λ _. failed-ends at forward config slot.mark)
    (λ lives. cond_both (any_earlier config.ordering (is_due at) all slot) (fallen slot.mark) slot.mark (λ (m : Mark). is_over at m ≡ false) (λ _. fallen-ends at slot.mark) (λ _. lives))

-- after leases ended none is over
fail-ends : (at : ℕ) (forward : Bool) (config : SubConfig) (all slots : List Slot) → list_any (is_due at) (remarked (mark_after_failing (is_due at) at forward config all) slots) ≡ false
fail-ends at forward config all [] = refl
fail-ends at forward config all (slot ∷ slots) = or_from _ _ (failing-ends at forward config all slot) (fail-ends at forward config all slots)

ended-subscription : (at : ℕ) (x : KeptSubscription) → has_due at (settle_subscription at x) ≡ false
ended-subscription at x = fail-ends at false x.sub.config x.sub.slots x.sub.slots

-- what is settled stays
pub settle-again : (at : ℕ) (x : KeptSubscription) → settle_subscription at (settle_subscription at x) ≡ settle_subscription at x
settle-again at x = rest-subscription at (settle_subscription at x) (ended-subscription at x)

ended-subscriptions : (at : ℕ) (xs : List KeptSubscription) → list_any (has_due at) (map (settle_subscription at) xs) ≡ false
ended-subscriptions at [] = refl
ended-subscriptions at (x ∷ xs) = or_from _ _ (ended-subscription at x) (ended-subscriptions at xs)

pub settled-none-due : (at : ℕ) (s : State) → IsSteady s → is_any_due at (settle_state at s) ≡ false
settled-none-due at s h = ended-subscriptions at s.subscriptions

-- a lease is over in a subscription where its row's is
over-slots : (at n : ℕ) (slots : List Slot) → list_any (λ (r : MarkRow). is_over at r.mark) (map (row_of n) slots) ≡ list_any (is_due at) slots
over-slots at n [] = refl
over-slots at n (slot ∷ slots) = ap (λ (later : Bool). is_due at slot || later) (over-slots at n slots)

over-marks : (at : ℕ) (xs : List KeptSubscription) → list_any (λ (r : MarkRow). is_over at r.mark) (flat_marks xs) ≡ list_any (λ (x : KeptSubscription). list_any (is_due at) x.sub.slots) xs
over-marks at [] = refl
over-marks at (x ∷ xs) =
    list_any-append (λ (r : MarkRow). is_over at r.mark) (map (row_of x.number) x.sub.slots) (flat_marks xs) ∙ λ i. over-slots at x.number x.sub.slots i || over-marks at xs i

-- Where some lease is over, settling changes the world.
pub settle-moves : (at : ℕ) (s : State) → IsSteady s → is_any_due at s ≡ true → same_world (seen s) (seen (settle_state at s)) ≡ false
settle-moves at s h some =
    false_from_ne_true (same_world (seen s) (seen (settle_state at s))) (λ same.
    let marks : flat_marks s.subscriptions ≡ flat_marks (settle_state at s).subscriptions = ap (λ (p : WorldParts). p.1.1.1.1.1.1.1.1) (same-world (seen s) (seen (settle_state at s)) same) in
    false≢true
    (sym (over-marks at (settle_state at s).subscriptions ∙ settled-none-due at s h)
    ∙ ap (list_any (λ (r : MarkRow). is_over at r.mark)) (sym marks) ∙ over-marks at s.subscriptions ∙ some))
