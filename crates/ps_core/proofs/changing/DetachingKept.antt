-- What is kept when a subscription is detached.
use Rattle.std.proofs.Common.{◌≡◌, ◌≢◌, ◌<◌, ◌+◌, ℕ, Bool, true, false, ◌||◌, nat_cmp, nat_eq, List, [], ◌∷◌, Option, Some, MatchOption, find, refl, sym, ap, ◌∙◌, subst, arith, if◌then◌else◌}
use Rattle.std.specs.BTreeMap.{is_at, values}
use Rattle.std.specs.List.{AllByRecursion, list_any}
use Rattle.std.specs.Map.{lookup, set_value, values_of}
use Rattle.ps_base.proofs.Lists.{each-found, each-map}
use Rattle.ps_model.specs.Failing.{is_due}
use Rattle.ps_names.specs.Names.{is_sub_name}
use Rattle.ps_sub.specs.Showing.{marks}
use Rattle.ps_tables.specs.declared.kept_subscription.KeptSubscription.{KeptSubscription}
use Rattle.ps_tables.specs.declared.tables.Tables.{Tables}
use Rattle.ps_core.specs.Changing.{change_subscription}
use Rattle.ps_tables.specs.Numbers.{changed_at, IsNumbered}
use Rattle.ps_tables.specs.Releasing.{message_number, released, times}
use Rattle.ps_tables.specs.Subscriptions.{detach_subscription, number_of}
use Rattle.ps_core.specs.Effects.{let_go}
use Rattle.ps_core.specs.Keeping.{IsKept, state_of, subscription_at}
use Rattle.ps_tables.specs.Members.{has_name, holders_of, numbered}
use Rattle.ps_core.specs.State.{State}
use Rattle.ps_core.specs.Steady.{IsSteadySubscription}
use Rattle.ps_tables.specs.TableEdits.{Detaches, LeavesTopic}
use Rattle.ps_tables.proofs.numbers.Changes.{found-by-number, same-number, set-changes}
use Rattle.ps_core.proofs.changing.KeptLeft.{IsLeftTables, left-kept, left-view}
use Rattle.ps_core.proofs.changing.LettingGo.{AreFewer}
use Rattle.ps_core.proofs.changing.Members.{IsAlone, all-alone, attached-detached, name-is}
use Rattle.ps_core.proofs.changing.Times.{holders-detached, times-once}
use Rattle.ps_tables.proofs.numbers.Numbered.{numbered-put-keys}
use Rattle.ps_tables.proofs.lists.Ordered.{ordered-map}

-- ---- what a detached subscription leaves as it was

-- the names stay
named-same : (n : ℕ) (name : List ℕ) (xs : List KeptSubscription) → subscription_at name (changed_at number_of n detach_subscription xs) ≡ subscription_at name xs
named-same n name [] = refl
named-same n name (x ∷ xs) = by (nat_eq x.number n) (has_name name x) refl (named-same n name xs)
  where
    by : (b own : Bool) → has_name name x ≡ own → subscription_at name (changed_at number_of n detach_subscription xs) ≡ subscription_at name xs
        → subscription_at name ((if b then detach_subscription x else x) ∷ changed_at number_of n detach_subscription xs) ≡ subscription_at name (x ∷ xs)
    by true true own rest = rw own refl
    by true false own rest = rw own rest
    by false true own rest = rw own refl
    by false false own rest = rw own rest

-- no lease ends that didn't
due-less : (n at : ℕ) (xs : List KeptSubscription) → list_any (λ (x : KeptSubscription). list_any (is_due at) x.sub.slots) xs ≡ false → list_any (λ (x : KeptSubscription). list_any (is_due at) x.sub.slots) (changed_at number_of n detach_subscription xs) ≡ false
due-less n at [] none = refl
due-less n at (x ∷ xs) none = by (nat_eq x.number n) (list_any (is_due at) x.sub.slots) refl none (due-less n at xs)
  where
    Any : List KeptSubscription → Bool
    Any = list_any (λ (y : KeptSubscription). list_any (is_due at) y.sub.slots)

    by : (b own : Bool) → list_any (is_due at) x.sub.slots ≡ own → (own || Any xs) ≡ false → (Any xs ≡ false → Any (changed_at number_of n detach_subscription xs) ≡ false) → Any ((if b then detach_subscription x else x) ∷ changed_at number_of n detach_subscription xs) ≡ false
    by b true own none rest = absurd (cc (none))
    by true false own none rest = rest none
    by false false own none rest = rw own (rest none)

-- ---- what it had

module _ (now count next_topic next_sub next_message next_end : ℕ) (tables after : Tables) (name : List ℕ) (x : KeptSubscription) (kept : IsKept (state_of now count next_topic next_sub next_message tables) next_end tables)
    (is : find (has_name name) (values tables.subscriptions) ≡ Some x) (got : lookup (is_at (nat_cmp x.number)) tables.subscriptions.entries ≡ Some x)
    (topics : LeavesTopic tables.topics x.topic name after.topics) (topic_numbers : after.topic_numbers ≡ tables.topic_numbers) (subscription_numbers : after.subscription_numbers ≡ tables.subscription_numbers)
    (subscriptions : Detaches tables.subscriptions x.number after.subscriptions) (messages : values after.messages ≡ released (times (marks x.sub.slots)) (values tables.messages)) where
  abbrev s : State
  s = state_of now count next_topic next_sub next_message tables

  abbrev xs : List KeptSubscription
  xs = values tables.subscriptions

  abbrev ys : List KeptSubscription
  ys = changed_at number_of x.number detach_subscription xs

  set : after.subscriptions.entries ≡ set_value (is_at (nat_cmp x.number)) tables.subscriptions.entries (detach_subscription x)
  set =
      subst (λ (o : Option KeptSubscription). MatchOption o (after.subscriptions.entries ≡ tables.subscriptions.entries) (λ y. after.subscriptions.entries ≡ set_value (is_at (nat_cmp x.number)) tables.subscriptions.entries (detach_subscription y))) got subscriptions

  changed : values after.subscriptions ≡ ys
  changed = ap values_of set ∙ set-changes number_of x.number detach_subscription x tables.subscriptions.entries kept.subscriptions kept.steady.subscriptions got

  -- it is the only one of its name and number
  alone : AllByRecursion (IsAlone x) xs
  alone = all-alone s name x kept.steady is

  here : find (λ (y : KeptSubscription). nat_eq y.number x.number) xs ≡ Some x
  here = found-by-number number_of (has_name name) xs x kept.steady.subscriptions is

  own : IsSteadySubscription s x
  own = each-found (IsSteadySubscription s) (has_name name) xs x is kept.steady.each

  fewer : (n : ℕ) → holders_of ys n + times (marks x.sub.slots) n ≡ holders_of xs n
  fewer n =
      ap (λ (k : ℕ). holders_of ys n + k) (times-once n x.sub.slots own.slots)
      ∙ holders-detached x n xs kept.steady.subscriptions (same-number number_of x.number x xs kept.steady.subscriptions here) here

  -- one that is detached is as steady as it was
  put-steady : (y : KeptSubscription) (b : Bool) → IsSteadySubscription s y → IsSteadySubscription s (if b then detach_subscription y else y)
  put-steady y true h = record {
    settings = h.settings;
    filter = h.filter;
    leases = h.leases;
    slots = tt;
    joined = tt;
    caught_up = tt;
    detached = λ e. refl;
    topic = h.topic;
  }
  put-steady y false h = h

  detached-fewer : AreFewer s ys
  detached-fewer =
      let put : KeptSubscription → KeptSubscription = λ y. if nat_eq y.number x.number then detach_subscription y else y in
      let number : (y : KeptSubscription) → (put y).number ≡ y.number = λ y. part number_of (λ z. refl) y (nat_eq y.number x.number) in
      let named : (y : KeptSubscription) → (put y).name ≡ y.name = λ y. part (λ (z : KeptSubscription). z.name) (λ z. refl) y (nat_eq y.number x.number) in
      record {
        ordered = ordered-map (λ (a b : KeptSubscription). a.number < b.number) (λ (a b : KeptSubscription). a.number < b.number) put xs (λ a b up. omega (arith, up, number a, number b)) kept.steady.subscriptions;
        below = each-map (λ (y : KeptSubscription). y.number < next_sub) (λ (y : KeptSubscription). y.number < next_sub) put xs (λ y below. omega (arith, below, number y)) kept.steady.subscriptions_below;
        names = ordered-map (λ (a b : KeptSubscription). a.name ≢ b.name) (λ (a b : KeptSubscription). a.name ≢ b.name) put xs (λ a b differ same. differ (sym (named a) ∙ same ∙ named b)) kept.steady.subscription_names;
        grammar = each-map (λ (y : KeptSubscription). is_sub_name y.name ≡ true) (λ (y : KeptSubscription). is_sub_name y.name ≡ true) put xs (λ y is. ap is_sub_name (named y) ∙ is) kept.steady.subscription_grammar;
        each = each-map (IsSteadySubscription s) (IsSteadySubscription s) put xs (λ y h. put-steady y (nat_eq y.number x.number) h) kept.steady.each;
      }
    where
      part : {B : Type 0} (g : KeptSubscription → B) → ((y : KeptSubscription) → g (detach_subscription y) ≡ g y) → (y : KeptSubscription) (b : Bool) → g (if b then detach_subscription y else y) ≡ g y
      part g same y true = same y
      part g same y false = refl

  left : IsNumbered message_number after.messages.entries → IsLeftTables x xs ys (times (marks x.sub.slots)) tables after
  left numbers = record {
    topics = subst (λ (n : List ℕ). LeavesTopic tables.topics x.topic n after.topics) (sym (name-is s name x is)) topics;
    topic_numbers = topic_numbers;
    subscriptions = changed;
    entries = subst (IsNumbered number_of) (sym set) (numbered-put-keys number_of x.number (detach_subscription x) tables.subscriptions.entries kept.subscriptions refl);
    numbers = λ other. ap (λ index. numbered index other) subscription_numbers ∙ kept.subscription_numbers other ∙ sym (named-same x.number other xs);
    without = λ topic other. attached-detached x topic other xs alone;
    fewer = fewer;
    messages = messages;
    message_entries = numbers;
  }

  pub detached-view : IsNumbered message_number after.messages.entries
      → state_of now count next_topic next_sub next_message after ≡ let_go (change_subscription x.number detach_subscription (state_of now count next_topic next_sub next_message tables))
  detached-view numbers = left-view now count next_topic next_sub next_message x ys (times (marks x.sub.slots)) next_end tables after kept (left numbers)

  pub kept-detached : IsNumbered message_number after.messages.entries → IsKept (let_go (change_subscription x.number detach_subscription (state_of now count next_topic next_sub next_message tables))) next_end after
  kept-detached numbers = left-kept s x ys (times (marks x.sub.slots)) next_end tables after refl kept detached-fewer (λ at none. due-less x.number at xs none) (left numbers)
