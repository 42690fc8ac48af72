-- Updates of a subscription, as the rules say.
use Rattle.std.proofs.Common.{◌≡◌, ℕ, Bool, true, false, nat_eq, List, [], ◌∷◌, Option, Some, None, find, map, option_map, unwrap_or, ◌++◌, filter, not, refl, sym, ap, ◌∙◌, if◌then◌else◌}
use Rattle.std.specs.BTreeMap.{values}
use Rattle.std.proofs.lemmas.Bool.{eq-eqb, false≢true, false_from_ne_true}
use Rattle.ps_base.proofs.Lists.{found-map}
use Rattle.ps_base.specs.declared.refusal.Refusal.TheVariants.{NotFound}
use Rattle.ps_config.specs.declared.config.SubConfig.{SubConfig}
use Rattle.ps_config.specs.declared.mask.Mask.{Mask}
use Rattle.ps_config.specs.Masks.{masked_sub}
use Rattle.ps_model.specs.declared.command.Command.TheVariants.{UpdateSubscription}
use Rattle.ps_model.specs.declared.reply.Reply.TheVariants.{Refused, Subscription}
use Rattle.ps_model.specs.declared.world.SubRow.{SubRow}
use Rattle.ps_model.specs.declared.world.World.{World}
use Rattle.ps_model.specs.Checks.{argument_fault}
use Rattle.ps_model.specs.Commands.{outcome}
use Rattle.ps_model.specs.Outcomes.{answers}
use Rattle.ps_model.specs.Same.{WorldParts, same_sub_config, same_world}
use Rattle.ps_model.specs.Showing.{sub_shown}
use Rattle.ps_model.specs.Subscriptions.{missing_of, update_sub_at, update_sub_masked}
use Rattle.ps_model.specs.declared.world.MarkRow.{MarkRow}
use Rattle.ps_model.specs.Slots.{is_gone}
use Rattle.ps_model.specs.Worlds.{put_sub, row_of}
use Rattle.ps_model.proofs.SameLemmas.{exact-sub-config, same-world}
use Rattle.ps_tables.specs.declared.kept_subscription.KeptSubscription.{KeptSubscription}
use Rattle.ps_tables.specs.declared.tables.Tables.{Tables}
use Rattle.ps_core.specs.Built.{unbuilt_sub_mask}
use Rattle.ps_core.specs.Carrying.{CanRecord, IsCarried}
use Rattle.ps_core.specs.Changing.{change_subscription, with_settings}
use Rattle.ps_tables.specs.Numbers.{changed_at}
use Rattle.ps_core.specs.Effects.{recorded_at}
use Rattle.ps_core.specs.Keeping.{IsKept}
use Rattle.ps_tables.specs.Members.{has_name, numbered}
use Rattle.ps_core.specs.State.{State, flat_marks, seen, sub_row}
use Rattle.ps_tables.specs.Subscriptions.{number_of}
use Rattle.ps_core.specs.Steady.{IsSteady}
use Rattle.ps_core.proofs.carrying.Kept.{IsSubscriptionAt, find-in-map, sub-named-seen, subscription-nowhere, subscription-there}
use Rattle.ps_tables.proofs.numbers.Changes.{found-by-number, keeps-numbers, put-changes, unchanged}
use Rattle.ps_core.proofs.carrying.Living.{live-seen}
use Rattle.ps_core.proofs.carrying.Outcomes.{carried-left, carried-rests, carried-shown, finished-seen, outcome-open}
use Rattle.ps_core.proofs.changing.Settings.{letters-unmasked}

-- the row of each, of which one has other settings
rows-put : (n : ℕ) (x : KeptSubscription) (config : SubConfig) (ys : List KeptSubscription)
    → map (λ (r : SubRow). if nat_eq r.number n then sub_row (with_settings config x) else r) (map sub_row ys) ≡ map sub_row (map (λ (y : KeptSubscription). if nat_eq y.number n then with_settings config x else y) ys)
rows-put n x config [] = refl
rows-put n x config (y ∷ ys) = λ i. by (nat_eq y.number n) i ∷ rows-put n x config ys i
  where
    by : (b : Bool) → (if b then sub_row (with_settings config x) else sub_row y) ≡ sub_row (if b then with_settings config x else y)
    by true = refl
    by false = refl

-- marks don't read settings
marks-stay : (n : ℕ) (config : SubConfig) (ys : List KeptSubscription) → flat_marks (changed_at number_of n (with_settings config) ys) ≡ flat_marks ys
marks-stay n config [] = refl
marks-stay n config (y ∷ ys) = λ i. by (nat_eq y.number n) i ++ marks-stay n config ys i
  where
    by : (b : Bool) → map (row_of (if b then with_settings config y else y).number) (if b then with_settings config y else y).sub.slots ≡ map (row_of y.number) y.sub.slots
    by true = refl
    by false = refl

module _ (at : ℕ) (name : List ℕ) (mask : Mask) (config : SubConfig) (s : State) (can : CanRecord at s) (built : unbuilt_sub_mask mask ≡ None) (good : argument_fault (UpdateSubscription name mask config) ≡ None) where
  pub sub-missing : find (has_name name) s.subscriptions ≡ None → IsCarried at (UpdateSubscription name mask config) s s (Refused (NotFound name)) false
  sub-missing is =
      carried-shown at (UpdateSubscription name mask config) s (Refused (NotFound name))
      (outcome-open s at (UpdateSubscription name mask config) can.room good ∙ ap (update_sub_at (seen s) name mask config) (sub-named-seen s name ∙ ap (option_map sub_row) is))

  module _ (x : KeptSubscription) (h : IsSteady s) (is : find (has_name name) s.subscriptions ≡ Some x) where
    abbrev made : SubConfig
    made = masked_sub mask x.sub.config config

    abbrev changed : KeptSubscription
    changed = with_settings made x

    pub here : find (λ (y : KeptSubscription). nat_eq y.number x.number) s.subscriptions ≡ Some x
    here = found-by-number number_of (has_name name) s.subscriptions x h.subscriptions is

    puts : map (λ (r : SubRow). if nat_eq r.number x.number then sub_row changed else r) (map sub_row s.subscriptions) ≡ map sub_row (changed_at number_of x.number (with_settings made) s.subscriptions)
    puts = rows-put x.number x made s.subscriptions ∙ ap (map sub_row) (put-changes number_of x.number (with_settings made) x s.subscriptions h.subscriptions here)

    ruled : outcome (seen s) at (UpdateSubscription name mask config) ≡ answers (put_sub (sub_row changed) (seen s)) (Subscription (sub_shown (seen s) (sub_row changed)))
    ruled =
        outcome-open s at (UpdateSubscription name mask config) can.room good ∙ ap (update_sub_at (seen s) name mask config) (sub-named-seen s name ∙ ap (option_map sub_row) is)
        ∙ ap (λ (b : Bool). update_sub_masked (seen s) mask (sub_row x) config (if b then missing_of (seen s) config.dead_letter else None)) (letters-unmasked mask built)

    -- nothing changes
    pub sub-rests : same_sub_config made x.sub.config ≡ true → IsCarried at (UpdateSubscription name mask config) s s (Subscription (sub_shown (seen s) (sub_row changed))) false
    sub-rests same =
        let reply = Subscription (sub_shown (seen s) (sub_row changed)) in
        let config-same : made ≡ x.sub.config = exact-sub-config.one made x.sub.config same in
        let rows : map (λ (r : SubRow). if nat_eq r.number x.number then sub_row changed else r) (map sub_row s.subscriptions) ≡ map sub_row s.subscriptions =
        ap (λ (c : SubConfig). map (λ (r : SubRow). if nat_eq r.number x.number then sub_row (with_settings c x) else r) (map sub_row s.subscriptions)) config-same
        ∙ rows-put x.number x x.sub.config s.subscriptions
        ∙ ap (map sub_row) (put-changes number_of x.number (λ y. y) x s.subscriptions h.subscriptions here ∙ unchanged number_of x.number s.subscriptions) in
        carried-rests at (UpdateSubscription name mask config) s reply (answers (seen s) reply) (ruled ∙ ap (λ (rs : List SubRow). answers (record (seen s) { subs = rs }) reply) rows) refl (finished-seen at (seen s) s reply h)

    differs : same_sub_config made x.sub.config ≡ false → same_world (seen s) (seen (change_subscription x.number (with_settings made) s)) ≡ false
    differs other =
        false_from_ne_true (same_world (seen s) (seen (change_subscription x.number (with_settings made) s))) (λ same.
        let rows : map sub_row s.subscriptions ≡ map sub_row (changed_at number_of x.number (with_settings made) s.subscriptions) = ap (λ (p : WorldParts). p.1.1.1.1.1.0) (same-world (seen s) (seen (change_subscription x.number (with_settings made) s)) same) in
        let put : KeptSubscription → KeptSubscription = λ y. if nat_eq y.number x.number then with_settings made y else y in
        let there : find (λ (y : KeptSubscription). nat_eq y.number x.number) (map put s.subscriptions) ≡ Some changed =
        found-map (λ (y : KeptSubscription). nat_eq y.number x.number) put s.subscriptions (λ y. ap (λ n. nat_eq n x.number) (keeps-numbers number_of x.number (with_settings made) (λ z. refl) y)) ∙ ap (option_map put) here
        ∙ ap (λ (b : Bool). Some (if b then with_settings made x else x)) (eq-eqb x.number x.number refl) in
        let both : Some (sub_row x) ≡ Some (sub_row changed) =
        sym (find-in-map sub_row (λ (r : SubRow). nat_eq r.number x.number) s.subscriptions ∙ ap (option_map sub_row) here) ∙ ap (find (λ (r : SubRow). nat_eq r.number x.number)) rows
        ∙ find-in-map sub_row (λ (r : SubRow). nat_eq r.number x.number) (map put s.subscriptions) ∙ ap (option_map sub_row) there in
        let config-same : x.sub.config ≡ made = ap (λ (o : Option SubRow). (unwrap_or o (sub_row x)).config) both in
        false≢true (sym other ∙ ap (same_sub_config made) config-same ∙ exact-sub-config.own made))

    -- the subscription changes
    pub sub-changed : IsSteady (change_subscription x.number (with_settings made) (recorded_at at s)) → same_sub_config made x.sub.config ≡ false
        → IsCarried at (UpdateSubscription name mask config) s (change_subscription x.number (with_settings made) (recorded_at at s)) (Subscription (sub_shown (seen s) (sub_row changed))) true
    sub-changed later other =
        carried-left at (UpdateSubscription name mask config) s (change_subscription x.number (with_settings made) s) (Subscription (sub_shown (seen s) (sub_row changed))) (put_sub (sub_row changed) (seen s))
        later ruled (λ i. record (seen s) { subs = puts i; marks = sym (marks-stay x.number made s.subscriptions) i }) (differs other) refl

-- the subscription that a look-up by the number of the name gives
pub sub-looked : (s self : State) (next_end : ℕ) (tables : Tables) → IsKept s next_end tables → s.subscriptions ≡ values tables.subscriptions → s ≡ self → (text name : List ℕ) → text ≡ name
    → (o : Option ℕ) (n : ℕ) → o ≡ numbered tables.subscription_numbers text → o ≡ Some n → (x : KeptSubscription) × (IsSubscriptionAt s tables name n x × (find (has_name name) self.subscriptions ≡ Some x))
sub-looked s self next_end tables kept is view text name told o n looked at =
    let x = subscription-there s next_end tables kept is name n (ap (numbered tables.subscription_numbers) (sym told) ∙ sym looked ∙ at) in
    (x.0, (x.1, ap (λ (v : State). find (has_name name) v.subscriptions) (sym view) ∙ x.1.named))

pub sub-unlooked : (s self : State) (next_end : ℕ) (tables : Tables) → IsKept s next_end tables → s ≡ self → (text name : List ℕ) → text ≡ name
    → (o : Option ℕ) → o ≡ numbered tables.subscription_numbers text → o ≡ None → find (has_name name) self.subscriptions ≡ None
sub-unlooked s self next_end tables kept view text name told o looked at =
    ap (λ (v : State). find (has_name name) v.subscriptions) (sym view) ∙ subscription-nowhere s next_end tables kept name (ap (numbered tables.subscription_numbers) (sym told) ∙ sym looked ∙ at)
