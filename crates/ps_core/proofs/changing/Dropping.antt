-- A subscription goes, with its marks and the messages that no other has.
use Rattle.std.proofs.Common.{◌≡◌, ◌≢◌, ◌<◌, ◌+◌, ℕ, Bool, true, false, ◌||◌, not, cond, nat_cmp, nat_eq, List, [], ◌∷◌, ◌++◌, Option, Some, None, find, filter, map, option_map, refl, sym, ap, ◌∙◌, subst, if◌then◌else◌}
use Rattle.std.specs.BTreeMap.{is_at, values}
use Rattle.std.specs.List.{AllByRecursion, list_any}
use Rattle.std.specs.Map.{remove_entry, values_of}
use Rattle.std.specs.Str.{bytes_eq}
use Rattle.std.proofs.lemmas.Bool.{false_from_ne_true}
use Rattle.ps_base.proofs.Lists.{each-found, each-left, each-then}
use Rattle.ps_model.specs.declared.command.Command.TheVariants.{DeleteSubscription}
use Rattle.ps_model.specs.declared.mark.Slot.{Slot}
use Rattle.ps_model.specs.declared.reply.Reply.TheVariants.{Empty}
use Rattle.ps_model.specs.declared.world.MarkRow.{MarkRow}
use Rattle.ps_model.specs.declared.world.SubRow.{SubRow}
use Rattle.ps_model.specs.declared.world.World.{World}
use Rattle.ps_model.specs.Failing.{is_due}
use Rattle.ps_model.specs.Live.{live}
use Rattle.ps_model.specs.Same.{WorldParts, same_world}
use Rattle.ps_model.specs.Settling.{catch_up}
use Rattle.ps_model.specs.Slots.{is_gone}
use Rattle.ps_model.specs.Sound.{Ordered}
use Rattle.ps_model.specs.Subscriptions.{delete_sub_at}
use Rattle.ps_model.specs.Worlds.{row_of}
use Rattle.ps_model.proofs.SameLemmas.{same-world}
use Rattle.ps_names.specs.Names.{is_sub_name}
use Rattle.ps_sub.specs.Showing.{marks}
use Rattle.ps_tables.specs.declared.kept_subscription.KeptSubscription.{KeptSubscription}
use Rattle.ps_tables.specs.declared.name_index.NameIndex.{NameIndex}
use Rattle.ps_tables.specs.declared.tables.Tables.{Tables}
use Rattle.ps_core.specs.Carrying.{CanRecord, IsCarried}
use Rattle.ps_tables.specs.Releasing.{message_number, released, times}
use Rattle.ps_core.specs.Effects.{drop_subscription, is_any_due, recorded_at}
use Rattle.ps_core.specs.Keeping.{IsKept, subscription_at}
use Rattle.ps_tables.specs.Numbers.{IsNumbered}
use Rattle.ps_tables.specs.Members.{has_name, holders_of, numbered}
use Rattle.ps_core.specs.State.{State, flat_marks, seen, sub_row}
use Rattle.ps_tables.specs.Subscriptions.{number_of}
use Rattle.ps_core.specs.Steady.{IsCaughtUp, IsSteady, IsSteadySubscription}
use Rattle.ps_tables.specs.TableEdits.{LeavesTopic, RemovesName}
use Rattle.ps_tables.proofs.lists.Filtered.{filter-mapped}
use Rattle.ps_tables.proofs.lists.Ordered.{ordered-filter}
use Rattle.ps_core.proofs.carrying.Kept.{find-in-map, sub-named-seen}
use Rattle.ps_tables.proofs.numbers.Changes.{found-by-number}
use Rattle.ps_core.proofs.carrying.Living.{live-seen}
use Rattle.ps_core.proofs.carrying.Outcomes.{carried-made, outcome-open}
use Rattle.ps_core.proofs.changing.Deleting.{taken-out}
use Rattle.ps_core.proofs.changing.KeptLeft.{IsLeftTables}
use Rattle.ps_core.proofs.changing.LettingGo.{AreFewer, left_with}
use Rattle.ps_core.proofs.changing.Lists.{filter-swap, found-dropped}
use Rattle.ps_core.proofs.changing.Members.{IsAlone, all-alone, attached-dropped, name-is}
use Rattle.ps_core.proofs.changing.Times.{holders-dropped, times-once}
use Rattle.ps_tables.proofs.numbers.Numbered.{numbered-remove-keys, numbered-removed}
use Rattle.ps_core.proofs.marks.Flat.{Joined}
use Rattle.ps_core.proofs.settling.Expunging.{IsPlain, catch_up-seen, caught-steady, plain-steady, rows-steady}

-- those of another number
abbrev pub others_of : ℕ → List KeptSubscription → List KeptSubscription
others_of n ys = filter (λ (y : KeptSubscription). not (nat_eq y.number n)) ys

abbrev is_other : ℕ → MarkRow → Bool
is_other n r = not (nat_eq r.sub n)

-- ---- what holds of the others

pub others-fewer : (n : ℕ) (s : State) → IsSteady s → AreFewer s (others_of n s.subscriptions)
others-fewer n s h = record {
  ordered = ordered-filter (λ (a b : KeptSubscription). a.number < b.number) stays s.subscriptions h.subscriptions;
  below = each-left (λ (y : KeptSubscription). y.number < s.next_sub) stays s.subscriptions h.subscriptions_below;
  names = ordered-filter (λ (a b : KeptSubscription). a.name ≢ b.name) stays s.subscriptions h.subscription_names;
  grammar = each-left (λ (y : KeptSubscription). is_sub_name y.name ≡ true) stays s.subscriptions h.subscription_grammar;
  each = each-left (IsSteadySubscription s) stays s.subscriptions h.each;
}
  where
    stays : KeptSubscription → Bool
    stays y = not (nat_eq y.number n)

-- what none has, none of those left has
none-left : {A : Type 0} (p test : A → Bool) (xs : List A) → list_any p xs ≡ false → list_any p (filter test xs) ≡ false
none-left p test [] h = refl
none-left p test (x ∷ xs) h = by (p x) refl (test x) h (none-left p test xs)
  where
    by : (a : Bool) → p x ≡ a → (b : Bool) → (a || list_any p xs) ≡ false → (list_any p xs ≡ false → list_any p (filter test xs) ≡ false) → list_any p (cond b (x ∷ filter test xs) (filter test xs)) ≡ false
    by true e b none rest = absurd (cc (none))
    by false e true none rest = ap (λ (a : Bool). a || list_any p (filter test xs)) e ∙ rest none
    by false e false none rest = rest none

pub others-due : (n at : ℕ) (s : State) → is_any_due at s ≡ false → is_any_due at (left_with (others_of n s.subscriptions) s) ≡ false
others-due n at s h = none-left (λ (x : KeptSubscription). list_any (is_due at) x.sub.slots) (λ (y : KeptSubscription). not (nat_eq y.number n)) s.subscriptions h

module _ (s : State) (name : List ℕ) (x : KeptSubscription) (h : IsSteady s) (is : find (has_name name) s.subscriptions ≡ Some x) where
  here : find (λ (y : KeptSubscription). nat_eq y.number x.number) s.subscriptions ≡ Some x
  here = found-by-number number_of (has_name name) s.subscriptions x h.subscriptions is

  alone : AllByRecursion (IsAlone x) s.subscriptions
  alone = all-alone s name x h is

  names-left : (index after : NameIndex) → ((other : List ℕ) → numbered index other ≡ subscription_at other s.subscriptions) → RemovesName index name after
      → (other : List ℕ) → numbered after other ≡ subscription_at other (others_of x.number s.subscriptions)
  names-left index after were removed other =
      removed other ∙ ap (λ o. if bytes_eq name other then None else o) (were other) ∙ numbers (bytes_eq name other) (find (has_name other) s.subscriptions)
      ∙ ap (option_map number_of) (sym (found-dropped number_of (λ (y : KeptSubscription). y.name) name other x.number s.subscriptions
      (each-then (IsAlone x) (λ (y : KeptSubscription). (bytes_eq y.name name ≡ true → y.number ≡ x.number) × (nat_eq y.number x.number ≡ true → y.name ≡ name)) s.subscriptions
      (λ y one. ((λ e. ap number_of (one.0 (ap (λ m. bytes_eq y.name m) (name-is s name x is) ∙ e))), (λ e. ap (λ (z : KeptSubscription). z.name) (one.1 e) ∙ name-is s name x is))) alone)))
    where
      numbers : (b : Bool) (o : Option KeptSubscription) → (if b then None else option_map number_of o) ≡ option_map number_of (if b then None else o)
      numbers true o = refl
      numbers false o = refl

  fewer-have : Ordered (λ (a b : Slot). a.item.number < b.item.number) x.sub.slots → (n : ℕ) → holders_of (others_of x.number s.subscriptions) n + times (marks x.sub.slots) n ≡ holders_of s.subscriptions n
  fewer-have up n =
      ap (λ k. holders_of (others_of x.number s.subscriptions) n + k) (times-once n x.sub.slots up)
      ∙ holders-dropped x n s.subscriptions h.subscriptions (each-then (IsAlone x) (λ (y : KeptSubscription). nat_eq y.number x.number ≡ true → y ≡ x) s.subscriptions (λ y one. one.1) alone) here

-- how the tables change
pub others-tables : (s : State) (name : List ℕ) (x : KeptSubscription) (next_end : ℕ) (tables after : Tables) → s.subscriptions ≡ values tables.subscriptions → IsKept s next_end tables → find (has_name name) s.subscriptions ≡ Some x
    → LeavesTopic tables.topics x.topic name after.topics → after.topic_numbers ≡ tables.topic_numbers → after.subscriptions.entries ≡ remove_entry (is_at (nat_cmp x.number)) tables.subscriptions.entries
    → RemovesName tables.subscription_numbers name after.subscription_numbers → IsNumbered message_number after.messages.entries → values after.messages ≡ released (times (marks x.sub.slots)) (values tables.messages)
    → IsLeftTables x s.subscriptions (others_of x.number s.subscriptions) (times (marks x.sub.slots)) tables after
others-tables s name x next_end tables after view kept is topics topic_numbers entries removed message_entries messages = record {
  topics = subst (λ n. LeavesTopic tables.topics x.topic n after.topics) (sym (name-is s name x is)) topics;
  topic_numbers = topic_numbers;
  subscriptions =
      ap values_of entries ∙ numbered-removed number_of x.number tables.subscriptions.entries kept.subscriptions (subst (Ordered (λ (a b : KeptSubscription). a.number < b.number)) view kept.steady.subscriptions)
      ∙ ap (others_of x.number) (sym view);
  entries = subst (IsNumbered number_of) (sym entries) (numbered-remove-keys number_of x.number tables.subscriptions.entries kept.subscriptions);
  numbers = names-left s name x kept.steady is tables.subscription_numbers after.subscription_numbers kept.subscription_numbers removed;
  without = λ topic other. attached-dropped x topic other s.subscriptions (all-alone s name x kept.steady is);
  fewer = fewer-have s name x kept.steady is (each-found (IsSteadySubscription s) (has_name name) s.subscriptions x is kept.steady.each).slots;
  messages = messages;
  message_entries = message_entries;
}

-- ---- the world

-- the marks of one subscription go or stay together
marks-of : (n k : ℕ) (slots : List Slot) (rest : List MarkRow) → filter (is_other n) (map (row_of k) slots ++ rest) ≡ (if nat_eq k n then filter (is_other n) rest else map (row_of k) slots ++ filter (is_other n) rest)
marks-of n k [] rest = by (nat_eq k n)
  where
    by : (b : Bool) → filter (is_other n) rest ≡ (if b then filter (is_other n) rest else filter (is_other n) rest)
    by true = refl
    by false = refl
marks-of n k (z ∷ zs) rest = by (nat_eq k n) refl (marks-of n k zs rest)
  where
    left : List MarkRow
    left = filter (is_other n) (map (row_of k) zs ++ rest)

    by : (b : Bool) → nat_eq k n ≡ b → left ≡ (if nat_eq k n then filter (is_other n) rest else map (row_of k) zs ++ filter (is_other n) rest)
        → cond (not (nat_eq k n)) (row_of k z ∷ left) left ≡ (if nat_eq k n then filter (is_other n) rest else row_of k z ∷ (map (row_of k) zs ++ filter (is_other n) rest))
    by true e ih = rw (e) (ih ∙ ap (λ (b : Bool). if b then filter (is_other n) rest else map (row_of k) zs ++ filter (is_other n) rest) e)
    by false e ih = rw (e) (ap (λ rs. row_of k z ∷ rs) (ih ∙ ap (λ (b : Bool). if b then filter (is_other n) rest else map (row_of k) zs ++ filter (is_other n) rest) e))

marks-dropped : (n : ℕ) (ys : List KeptSubscription) → filter (is_other n) (flat_marks ys) ≡ flat_marks (others_of n ys)
marks-dropped n [] = refl
marks-dropped n (y ∷ ys) = marks-of n y.number y.sub.slots (flat_marks ys) ∙ by (nat_eq y.number n) (marks-dropped n ys)
  where
    by : (b : Bool) → filter (is_other n) (flat_marks ys) ≡ flat_marks (others_of n ys)
        → (if b then filter (is_other n) (flat_marks ys) else map (row_of y.number) y.sub.slots ++ filter (is_other n) (flat_marks ys)) ≡ flat_marks (cond (not b) (y ∷ others_of n ys) (others_of n ys))
    by true rest = rest
    by false rest = ap (λ rs. map (row_of y.number) y.sub.slots ++ rs) rest

module _ (at : ℕ) (name : List ℕ) (s : State) (x : KeptSubscription) (can : CanRecord at s) (h : IsSteady s) (is : find (has_name name) s.subscriptions ≡ Some x) where
  abbrev made : State
  made = record s { subscriptions = others_of x.number s.subscriptions }

  abbrev ruled : World
  ruled = record (seen s) {
    subs = filter (λ (r : SubRow). not (nat_eq r.number x.number)) (map sub_row s.subscriptions);
    marks = filter (is_other x.number) (flat_marks s.subscriptions);
  }

  live-ruled : live ruled ≡ seen made
  live-ruled = λ i. record (live-seen s h i) { subs = filter-mapped sub_row (λ (r : SubRow). not (nat_eq r.number x.number)) s.subscriptions i; marks = live-marks i }
    where
      live-marks : filter (λ (r : MarkRow). not (is_gone r.mark)) (filter (is_other x.number) (flat_marks s.subscriptions)) ≡ flat_marks (others_of x.number s.subscriptions)
      live-marks =
          filter-swap (λ (r : MarkRow). not (is_gone r.mark)) (is_other x.number) (flat_marks s.subscriptions) ∙ ap (λ (v : World). filter (is_other x.number) v.marks) (live-seen s h)
          ∙ marks-dropped x.number s.subscriptions

  -- the others have caught up
  caught : catch_up ruled ≡ ruled
  caught =
      let stays : KeptSubscription → Bool = λ y. not (nat_eq y.number x.number) in
      let subs = filter-mapped sub_row (λ (r : SubRow). not (nat_eq r.number x.number)) s.subscriptions in
      let is-seen : ruled ≡ seen made = λ i. record (seen s) { subs = subs i; marks = marks-dropped x.number s.subscriptions i } in
      ap catch_up is-seen
      ∙ catch_up-seen made (ordered-filter (λ (a b : KeptSubscription). a.number < b.number) stays s.subscriptions h.subscriptions)
      (each-left (λ (y : KeptSubscription). Joined s.messages y.number y.sub.slots) stays s.subscriptions (rows-steady s h))
      (each-left (λ (y : KeptSubscription). IsCaughtUp y.sub.config.ordering y.sub.slots) stays s.subscriptions (caught-steady s h))
      ∙ sym is-seen

  plain : IsPlain made
  plain =
      let was : IsPlain s = plain-steady s h in
      record {
        topic_settings = was.topic_settings;
        marks = each-left (λ (y : KeptSubscription). AllByRecursion (λ (slot : Slot). is_gone slot.mark ≡ false) y.sub.slots) (λ (y : KeptSubscription). not (nat_eq y.number x.number)) s.subscriptions was.marks;
      }

  differs : same_world (seen s) (seen (drop_subscription x.number s)) ≡ false
  differs =
      false_from_ne_true (same_world (seen s) (seen (drop_subscription x.number s))) (λ same.
      let rows : map sub_row s.subscriptions ≡ map sub_row (others_of x.number s.subscriptions) = ap (λ (p : WorldParts). p.1.1.1.1.1.0) (same-world (seen s) (seen (drop_subscription x.number s)) same) in
      let there : find (λ (r : SubRow). nat_eq r.number x.number) (map sub_row s.subscriptions) ≡ Some (sub_row x) =
      find-in-map sub_row (λ (r : SubRow). nat_eq r.number x.number) s.subscriptions ∙ ap (option_map sub_row) (here s name x h is) in
      let gone : find (λ (r : SubRow). nat_eq r.number x.number) (map sub_row (others_of x.number s.subscriptions)) ≡ None =
      find-in-map sub_row (λ (r : SubRow). nat_eq r.number x.number) (others_of x.number s.subscriptions) ∙ ap (option_map sub_row) (taken-out number_of x.number s.subscriptions) in
      absurd (cc (sym there ∙ ap (find (λ (r : SubRow). nat_eq r.number x.number)) rows ∙ gone)))

  pub subscription-dropped : IsCarried at (DeleteSubscription name) s (drop_subscription x.number (recorded_at at s)) Empty true
  subscription-dropped =
      carried-made at (DeleteSubscription name) s made Empty ruled h plain
      (outcome-open s at (DeleteSubscription name) can.room refl ∙ ap (delete_sub_at (seen s) name) (sub-named-seen s name ∙ ap (option_map sub_row) is))
      live-ruled caught differs refl
