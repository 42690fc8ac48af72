-- What each call keeps of a subscription.
use Rattle.std.proofs.Common.{ℕ, ◌≡◌, ◌<◌, Bool, true, false, List, [], ◌∷◌, ◌++◌, Option, Some, None, refl, sym, subst, ◌∙◌, append-nil, if◌then◌else◌}
use Rattle.std.specs.List.{list_any, AllByRecursion}
use Rattle.std.proofs.lemmas.Bool.{or_parts, or_from, cond_both}
use Rattle.std.proofs.lemmas.List.Folds.{list_any-append}
use Rattle.ps_base.specs.declared.reason.Reason.{Reason}
use Rattle.ps_message.specs.Lists.{first_of}
use Rattle.ps_config.specs.declared.config.SubConfig.{SubConfig}
use Rattle.ps_model.specs.declared.mark.Slot.{Slot}
use Rattle.ps_model.specs.declared.mark.Mark.{Mark}
use Rattle.ps_model.specs.declared.mark.Mark.TheVariants.{Backlog, Leased, Ahead, Done, Gone}
use Rattle.ps_model.specs.declared.mark.Ticket.{Ticket}
use Rattle.ps_model.specs.declared.mark.Handed.{Handed}
use Rattle.ps_config.specs.Limits.{has_bad_delays, has_bad_attempts, sub_checks_before_filter, sub_checks_behind_filter}
use Rattle.ps_model.specs.Checks.{new_sub_fault, filter_setting_fault}
use Rattle.ps_config.specs.Masks.{whole_mask}
use Rattle.ps_message.specs.Messages.{broken}
use Rattle.ps_base.specs.declared.reason.Reason.TheVariants.{RetryPolicy, MaxDeliveryAttempts}
use Rattle.ps_model.specs.declared.mark.DoneCause.TheVariants.{Acknowledged}
use Rattle.ps_model.specs.Slots.{is_gone, remarked, any_earlier, failures_of}
use Rattle.ps_model.specs.Choice.{lease_in, leased_as, lent_mark}
use Rattle.ps_model.specs.Failing.{failed, fallen, is_dead, one_more, mark_after_failing}
use Rattle.ps_model.specs.Acknowledging.{mark_after_ack, is_named, is_early}
use Rattle.ps_sub.specs.Entering.{IsInOrder}
use Rattle.ps_sub.specs.Marks.{live}
use Rattle.ps_sub.specs.Steady.{HasLeasedFirst, HasShortDelays, IsAscending, IsLive, IsSteady}
use Rattle.ps_sub.proofs.FirstLemmas.{first-append}

pub above-remarked : (rule : Slot → Mark) (n : ℕ) (slots : List Slot) → AllByRecursion (λ (s : Slot). n < s.item.number) slots → AllByRecursion (λ (s : Slot). n < s.item.number) (remarked rule slots)
above-remarked rule n [] h = h
above-remarked rule n (s ∷ ss) h = (h.0, above-remarked rule n ss h.1)

pub ascending-remarked : (rule : Slot → Mark) (slots : List Slot) → IsAscending slots → IsAscending (remarked rule slots)
ascending-remarked rule [] h = h
ascending-remarked rule (s ∷ ss) h = (above-remarked rule s.item.number ss h.0, ascending-remarked rule ss h.1)

-- a rule that makes nothing gone
abbrev pub KeepsLive : (Slot → Mark) → Type 0
KeepsLive rule = (s : Slot) → is_gone s.mark ≡ false → is_gone (rule s) ≡ false

live-remarked : (rule : Slot → Mark) → KeepsLive rule → (slots : List Slot) → IsLive slots → IsLive (remarked rule slots)
live-remarked rule keeps [] h = refl
live-remarked rule keeps (s ∷ ss) h =
    let p = or_parts (is_gone s.mark) (list_any (λ (e : Slot). is_gone e.mark) ss) h in
    or_from _ _ (keeps s p.0) (live-remarked rule keeps ss p.1)

-- new marks keep a subscription steady if the rule makes nothing gone and keeps the leased messages of a key first
pub steady-remarked : (rule : Slot → Mark) (slots : List Slot) (config : SubConfig) → KeepsLive rule → HasLeasedFirst config.ordering (remarked rule slots) → IsSteady slots config → IsSteady (remarked rule slots) config
steady-remarked rule slots config keeps first h = record {
  ascending = ascending-remarked rule slots h.ascending;
  live = live-remarked rule keeps slots h.live;
  delays = h.delays;
  leased_first = first;
}

leased-live : (deadline : ℕ) (mark : Mark) (lease : Option ℕ) → is_gone mark ≡ false → is_gone (leased_as deadline mark lease) ≡ false
leased-live deadline mark None h = h
leased-live deadline mark (Some lease) h = refl

pub lending-live : (deadline : ℕ) (given : List Handed) → KeepsLive (lent_mark deadline given)
lending-live deadline given s h = leased-live deadline s.mark (lease_in given s.item.number) h

pub failed-live : (t : ℕ) (forward : Bool) (config : SubConfig) (mark : Mark) → is_gone mark ≡ false → is_gone (failed t forward config mark) ≡ false
failed-live t forward config (Leased failures lease deadline) h = cond_both (is_dead config.dead_letter forward (one_more failures)) _ _ (λ m. is_gone m ≡ false) (λ e. refl) (λ e. refl)
failed-live t forward config (Backlog failures until last) h = refl
failed-live t forward config (Ahead failures) h = refl
failed-live t forward config (Done cause) h = refl
failed-live t forward config (Gone cause) h = h

pub fallen-live : (mark : Mark) → is_gone mark ≡ false → is_gone (fallen mark) ≡ false
fallen-live (Leased failures lease deadline) h = refl
fallen-live (Backlog failures until last) h = refl
fallen-live (Ahead failures) h = refl
fallen-live (Done cause) h = refl
fallen-live (Gone cause) h = h

pub pick-live : (b : Bool) (x y : Mark) → is_gone x ≡ false → is_gone y ≡ false → is_gone (if b then x else y) ≡ false
pick-live true x y hx hy = hx
pick-live false x y hx hy = hy

pub failing-live : (fails : Slot → Bool) (t : ℕ) (forward : Bool) (config : SubConfig) (slots : List Slot) → KeepsLive (mark_after_failing fails t forward config slots)
failing-live fails t forward config slots s h =
    pick-live (fails s) (failed t forward config s.mark) (if any_earlier config.ordering fails slots s then fallen s.mark else s.mark) (failed-live t forward config s.mark h)
    (pick-live (any_earlier config.ordering fails slots s) (fallen s.mark) s.mark (fallen-live s.mark h) h)

pub acknowledging-live : (config : SubConfig) (tickets : List Ticket) (slots : List Slot) → KeepsLive (mark_after_ack config tickets slots)
acknowledging-live config tickets slots s h =
    let early : Mark = if config.exactly_once then s.mark else Ahead (failures_of s.mark) in
    pick-live (is_named config.exactly_once tickets s) (if is_early config tickets slots s then early else Done Acknowledged) s.mark
    (pick-live (is_early config tickets slots s) early (Done Acknowledged) (pick-live config.exactly_once s.mark (Ahead (failures_of s.mark)) h refl) refl) h

below-append : (n : ℕ) (slots : List Slot) (s : Slot) → AllByRecursion (λ (e : Slot). n < e.item.number) slots → n < s.item.number → AllByRecursion (λ (e : Slot). n < e.item.number) (slots ++ s ∷ [])
below-append n [] s h last = (last, tt)
below-append n (e ∷ es) s h last = (h.0, below-append n es s h.1 last)

ascending-append : (slots : List Slot) (s : Slot) → AllByRecursion (λ (e : Slot). e.item.number < s.item.number) slots → IsAscending slots → IsAscending (slots ++ s ∷ [])
ascending-append [] s below h = (tt, tt)
ascending-append (e ∷ es) s below h = (below-append e.item.number es s h.0 below.0, ascending-append es s below.1 h.1)

-- a message behind all others keeps a subscription steady
pub steady-append : (slots : List Slot) (config : SubConfig) (s : Slot) → AllByRecursion (λ (e : Slot). e.item.number < s.item.number) slots → is_gone s.mark ≡ false → IsInOrder config.ordering slots s.item s.mark → IsSteady slots config
    → IsSteady (slots ++ s ∷ []) config
steady-append slots config s below fresh order h = record {
  ascending = ascending-append slots s below h.ascending;
  live = list_any-append (λ (e : Slot). is_gone e.mark) slots (s ∷ []) ∙ or_from _ _ h.live (or_from _ _ fresh refl);
  delays = h.delays;
  leased_first = first-append config.ordering slots s below order h.leased_first;
}

last_of_two : (a b : Option Reason) → first_of (a ∷ b ∷ []) ≡ None → b ≡ None
last_of_two None None h = refl
last_of_two None (Some r) h = h
last_of_two (Some r) b h = absurd (cc)

last_of_three : (a b c : Option Reason) → first_of (a ∷ b ∷ c ∷ []) ≡ None → c ≡ None
last_of_three None b c h = last_of_two b c h
last_of_three (Some r) b c h = absurd (cc)

not_broken : (test : Bool) (r : Reason) → broken test r ≡ None → test ≡ false
not_broken true r h = absurd (cc)
not_broken false r h = refl

-- settings that pass their checks have short delays
pub delays-checked : (config : SubConfig) → new_sub_fault config ≡ None → HasShortDelays config
delays-checked config h =
    let behind = last_of_three (first_of (sub_checks_before_filter whole_mask config)) (filter_setting_fault config.filter) (first_of (sub_checks_behind_filter whole_mask config)) h in
    not_broken (has_bad_delays config.retry) RetryPolicy (last_of_two (broken (has_bad_attempts config.dead_letter) MaxDeliveryAttempts) (broken (has_bad_delays config.retry) RetryPolicy) behind)

-- no message is as steady as any
pub steady-none : (config : SubConfig) → HasShortDelays config → IsSteady [] config
steady-none config h = record { ascending = tt; live = refl; delays = h; leased_first = tt }

pub steady-configured : (slots : List Slot) (old new : SubConfig) → HasShortDelays new → new.ordering ≡ old.ordering → IsSteady slots old → IsSteady slots new
steady-configured slots old new h same s = record { ascending = s.ascending; live = s.live; delays = h; leased_first = subst (λ (ordering : Bool). HasLeasedFirst ordering slots) (sym same) s.leased_first }

-- a message behind all others keeps a subscription steady, if it is kept at all
pub steady-entered : (slots : List Slot) (config : SubConfig) (s : Slot) → AllByRecursion (λ (e : Slot). e.item.number < s.item.number) slots → IsInOrder config.ordering slots s.item s.mark → IsSteady slots config → IsSteady (slots ++ live (s ∷ [])) config
steady-entered slots config s below order h = by_mark (is_gone s.mark) refl
  where
    by_mark : (gone : Bool) → is_gone s.mark ≡ gone → IsSteady (slots ++ live (s ∷ [])) config
    by_mark true e = rw (e, append-nil) h
    by_mark false e = rw e (steady-append slots config s below e order h)
