-- What stands in the map of subscriptions after one of them was written.
use Rattle.std.proofs.Common.{◌≡◌, ◌<◌, ℕ, Bool, true, false, nat_cmp, nat_eq, cond, List, [], ◌∷◌, Option, Some, None, map, refl, sym, ap, subst, ◌∙◌, if◌then◌else◌}
use Rattle.std.specs.BTreeMap.{is_at, values}
use Rattle.std.specs.List.{list_any}
use Rattle.std.specs.Map.{lookup, set_value, values_of}
use Rattle.std.proofs.lemmas.List.{map-id}
use Rattle.ps_model.specs.declared.mark.Mark.{Mark}
use Rattle.ps_model.specs.declared.mark.Slot.{Slot}
use Rattle.ps_model.specs.Sound.{Ordered}
use Rattle.ps_tables.specs.declared.kept_subscription.KeptSubscription.{KeptSubscription}
use Rattle.ps_tables.specs.declared.name_index.NameIndex.{NameIndex}
use Rattle.ps_tables.specs.declared.tables.Tables.{Tables}
use Rattle.ps_core.specs.Effects.{recorded_at}
use Rattle.ps_tables.specs.Members.{has_name, numbered}
use Rattle.ps_core.specs.Keeping.{IsKept}
use Rattle.ps_tables.specs.Numbers.{IsNumbered}
use Rattle.ps_core.specs.Settling.{has_due}
use Rattle.ps_core.specs.State.{State, seen}
use Rattle.ps_tables.specs.Subscriptions.{number_of}
use Rattle.ps_core.specs.Steady.{IsSteady}
use Rattle.ps_base.proofs.Lists.{each-always}
use Rattle.ps_tables.proofs.numbers.Changes.{found-by-number}
use Rattle.ps_core.proofs.carrying.Kept.{IsSameHolder, IsSubscriptionAt, kept-changed, subscription-there}
use Rattle.ps_core.proofs.delivering.Marked.{marked, marked_at, marked-holder, marked-put, StandsIn}
use Rattle.ps_tables.proofs.numbers.Numbered.{numbered-put, numbered-put-keys}

-- the value that is there, written again
set-same : {A : Type 0} (test : ℕ → Bool) (x : A) (es : List (ℕ × A)) → lookup test es ≡ Some x → set_value test es x ≡ es
set-same test x [] got = refl
set-same {A = A} test x (e ∷ es) got = by (test e.0) got (set-same test x es)
  where
    by : (here : Bool) → cond here (Some e.1) (lookup test es) ≡ Some x → (lookup test es ≡ Some x → set_value test es x ≡ es) → cond here ((e.0, x) ∷ es) (e ∷ set_value test es x) ≡ e ∷ es
    by true is rest = let same : e.1 ≡ x = cc (is) in λ i. (e.0, sym same i) ∷ es
    by false is rest = ap (λ (fs : List (ℕ × A)). e ∷ fs) (rest is)

-- what an index of names has, where it was asked for the name
pub looked-up : (index : NameIndex) (name text : List ℕ) (answer number : Option ℕ) → text ≡ name → answer ≡ numbered index text → answer ≡ number → numbered index name ≡ number
looked-up index name text answer number same asked is = ap (numbered index) (sym same) ∙ sym asked ∙ is

-- the subscription that a look-up by the number of a name found
pub got-there : (s : State) (next_end : ℕ) (tables : Tables) → IsKept s next_end tables → s.subscriptions ≡ values tables.subscriptions → (name : List ℕ) (n : ℕ) → numbered tables.subscription_numbers name ≡ Some n
    → (x : KeptSubscription) → Some x ≡ lookup (is_at (nat_cmp n)) tables.subscriptions.entries → IsSubscriptionAt s tables name n x
got-there s next_end tables kept own name n at x got =
    let there = subscription-there s next_end tables kept own name n at in
    let same : there.0 ≡ x = cc (there.1.got, got) in
    subst (IsSubscriptionAt s tables name n) same there.1

-- a look-up by the number of a name finds a subscription
pub got-some : (s : State) (next_end : ℕ) (tables : Tables) → IsKept s next_end tables → s.subscriptions ≡ values tables.subscriptions → (name : List ℕ) (n : ℕ) → numbered tables.subscription_numbers name ≡ Some n
    → None ≡ lookup (is_at (nat_cmp n)) tables.subscriptions.entries → ⊥
got-some s next_end tables kept own name n at none = let there = subscription-there s next_end tables kept own name n at in cc (there.1.got, none)

-- the subscription of a name, of a core that keeps a state
module _ (s : State) (next_end : ℕ) (tables : Tables) (kept : IsKept s next_end tables) (own : s.subscriptions ≡ values tables.subscriptions) (name : List ℕ) (n : ℕ) (x : KeptSubscription) (there : IsSubscriptionAt s tables name n x) where
  pub stands : StandsIn s.subscriptions x
  stands = found-by-number number_of (has_name name) s.subscriptions x kept.steady.subscriptions there.named

  -- it was written as it was
  pub unwritten : (new : List (ℕ × KeptSubscription)) (x' : KeptSubscription) → new ≡ set_value (is_at (nat_cmp n)) tables.subscriptions.entries x' → x' ≡ x → new ≡ tables.subscriptions.entries
  unwritten new x' is same = is ∙ ap (set_value (is_at (nat_cmp n)) tables.subscriptions.entries) same ∙ set-same (is_at (nat_cmp n)) x tables.subscriptions.entries there.got

  pub unwritten-kept : (new : List (ℕ × KeptSubscription)) → new ≡ tables.subscriptions.entries → (after : Tables) → after.subscriptions.entries ≡ new → after.topics ≡ tables.topics → after.topic_numbers ≡ tables.topic_numbers → after.subscription_numbers ≡ tables.subscription_numbers → after.messages ≡ tables.messages
      → IsKept (record s { subscriptions = values after.subscriptions }) next_end after
  unwritten-kept new same after entries topics topic_numbers subscription_numbers messages =
      let rows : values after.subscriptions ≡ s.subscriptions = ap values_of (entries ∙ same) ∙ sym own in
      subst (λ (xs : List KeptSubscription). IsKept (record s { subscriptions = xs }) next_end after) (sym rows)
      (kept-changed s s next_end next_end tables after (λ (y : KeptSubscription). y) kept kept.steady
      (each-always (λ (y : KeptSubscription). IsSameHolder y y) s.subscriptions (λ y. record { number = refl; name = refl; topic = refl; detached = refl; holds = λ k. refl }))
      (sym (map-id s.subscriptions)) refl topics topic_numbers subscription_numbers messages (subst (IsNumbered number_of) (sym (entries ∙ same)) kept.subscriptions) kept.none_before)

  -- it was marked anew
  module _ (rule : Slot → Mark) (next_lease : ℕ → ℕ) (new : List (ℕ × KeptSubscription)) (x' : KeptSubscription) (is : new ≡ set_value (is_at (nat_cmp n)) tables.subscriptions.entries x') (anew : x' ≡ marked x.number rule next_lease x) where
    pub written : values_of new ≡ map (marked_at x.number rule next_lease) s.subscriptions
    written =
        let order : Ordered (λ (a b : KeptSubscription). a.number < b.number) (values_of tables.subscriptions.entries) = subst (Ordered (λ (a b : KeptSubscription). a.number < b.number)) own kept.steady.subscriptions in
        ap values_of is
        ∙ numbered-put number_of n x' tables.subscriptions.entries kept.subscriptions order
        ∙ (λ i. map (λ (y : KeptSubscription). if nat_eq y.number (sym there.number i) then anew i else y) (sym own i))
        ∙ marked-put x.number rule next_lease x refl s.subscriptions kept.steady.subscriptions stands

    pub written-keys : IsNumbered number_of new
    written-keys = subst (IsNumbered number_of) (sym is) (numbered-put-keys number_of n x' tables.subscriptions.entries kept.subscriptions (ap number_of anew ∙ there.number))

    -- What is kept beside the state stays right.
    pub written-kept : (at next : ℕ) (after : Tables) → after.subscriptions.entries ≡ new → after.topics ≡ tables.topics → after.topic_numbers ≡ tables.topic_numbers → after.subscription_numbers ≡ tables.subscription_numbers → after.messages ≡ tables.messages
        → IsSteady (recorded_at at (record s { subscriptions = map (marked_at x.number rule next_lease) s.subscriptions })) → ((u : ℕ) → u < next → list_any (has_due u) (map (marked_at x.number rule next_lease) s.subscriptions) ≡ false)
        → IsKept (recorded_at at (record s { subscriptions = values after.subscriptions })) next after
    written-kept at next after entries topics topic_numbers subscription_numbers messages steady none =
        let rows : values after.subscriptions ≡ map (marked_at x.number rule next_lease) s.subscriptions = ap values_of entries ∙ written in
        subst (λ (xs : List KeptSubscription). IsKept (recorded_at at (record s { subscriptions = xs })) next after) (sym rows)
        (kept-changed s (recorded_at at (record s { subscriptions = map (marked_at x.number rule next_lease) s.subscriptions })) next_end next tables after (marked_at x.number rule next_lease) kept steady
        (each-always (λ (y : KeptSubscription). IsSameHolder (marked_at x.number rule next_lease y) y) s.subscriptions (marked-holder x.number rule next_lease)) refl refl topics topic_numbers subscription_numbers messages
        (subst (IsNumbered number_of) (sym entries) written-keys) none)
