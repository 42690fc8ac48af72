-- New messages in the world, and in the state that it stands for.
use Rattle.std.proofs.Common.{ℕ, ◌≡◌, ◌+◌, Bool, true, false, cond, ◌&&◌, not, nat_eq, List, [], ◌∷◌, ◌++◌, append-nil, map, filter, flat_map, length, if◌then◌else◌, refl, sym, ◌∙◌, ap}
use Rattle.std.specs.List.{AllByRecursion}
use Rattle.std.proofs.lemmas.Bool.{cond_both, eqb-true, eqb-false, eq-eqb, ne_eqb}
use Rattle.ps_message.specs.declared.message.Message.{Message}
use Rattle.ps_model.specs.declared.mark.Slot.{Slot}
use Rattle.ps_model.specs.declared.world.SubRow.{SubRow}
use Rattle.ps_model.specs.declared.world.MessageRow.{MessageRow}
use Rattle.ps_model.specs.declared.world.MarkRow.{MarkRow}
use Rattle.ps_model.specs.Forwarding.{message_rows, enters, entered, enter_all, add_messages}
use Rattle.ps_model.specs.Seeking.{fresh}
use Rattle.ps_model.specs.Worlds.{row_of}
use Rattle.ps_tables.specs.declared.kept_subscription.KeptSubscription.{KeptSubscription}
use Rattle.ps_tables.specs.Subscriptions.{enter_subscription, is_attached, slot_in, wanted_of, number_of}
use Rattle.ps_tables.specs.Entering.{enter_wanted, is_wanted}
use Rattle.ps_core.specs.State.{State, sub_row, flat_marks, slots_in, seen}
use Rattle.ps_core.specs.Steady.{IsSteady}
use Rattle.ps_base.proofs.Lists.{each-then}
use Rattle.ps_core.proofs.marks.Entering.{enter-flat}
use Rattle.ps_tables.proofs.publishing.Rows.{rows-topic}

-- the slots that enter a subscription
abbrev pub new_slots : ℕ → List MessageRow → KeptSubscription → List Slot
new_slots topic rows x = if is_attached topic x then map slot_in (wanted_of x rows) else []

pub slots-entered : (topic : ℕ) (rows : List MessageRow) (x : KeptSubscription) → (enter_subscription topic rows x).sub.slots ≡ x.sub.slots ++ new_slots topic rows x
slots-entered topic rows x = by (is_attached topic x)
  where
    by : (b : Bool) → (if b then enter_wanted rows x else x).sub.slots ≡ x.sub.slots ++ (if b then map slot_in (wanted_of x rows) else [])
    by true = refl
    by false = sym (append-nil x.sub.slots)

pub row-entered : (topic : ℕ) (rows : List MessageRow) (x : KeptSubscription) → sub_row (enter_subscription topic rows x) ≡ sub_row x
row-entered topic rows x = cond_both (is_attached topic x) (enter_wanted rows x) x (λ (y : KeptSubscription). sub_row y ≡ sub_row x) (λ e. refl) (λ e. refl)

pub number-entered : (topic : ℕ) (rows : List MessageRow) (x : KeptSubscription) → (enter_subscription topic rows x).number ≡ x.number
number-entered topic rows x = ap (λ (r : SubRow). r.number) (row-entered topic rows x)

pub subs-entered : (topic : ℕ) (rows : List MessageRow) (subscriptions : List KeptSubscription) → map sub_row (map (enter_subscription topic rows) subscriptions) ≡ map sub_row subscriptions
subs-entered topic rows [] = refl
subs-entered topic rows (x ∷ xs) = λ i. row-entered topic rows x i ∷ subs-entered topic rows xs i

same-turned : (a b : ℕ) → nat_eq a b ≡ nat_eq b a
same-turned a b = by (nat_eq a b) refl
  where
    by : (c : Bool) → nat_eq a b ≡ c → nat_eq a b ≡ nat_eq b a
    by true e = e ∙ sym (eq-eqb b a (sym (eqb-true a b e)))
    by false e = e ∙ sym (ne_eqb b a (λ k. eqb-false a b e (sym k)))

-- the rule's test is that the subscription is attached and wants the message
enters-attached : (topic : ℕ) (x : KeptSubscription) (m : MessageRow) → m.topic ≡ topic → enters (sub_row x) m ≡ (is_attached topic x && is_wanted x m.message)
enters-attached topic x m own =
    let turned : nat_eq m.topic x.topic ≡ nat_eq x.topic topic = same-turned m.topic x.topic ∙ ap (nat_eq x.topic) own in
    ap (λ (b : Bool). b && (not x.detached && is_wanted x m.message)) turned ∙ by (nat_eq x.topic topic)
  where
    by : (a : Bool) → (a && (not x.detached && is_wanted x m.message)) ≡ ((a && not x.detached) && is_wanted x m.message)
    by true = refl
    by false = refl

abbrev mark_in : ℕ → MessageRow → MarkRow
mark_in sub r = record { sub = sub; message = r.number; mark = fresh }

rows-entered : (x : KeptSubscription) (b : Bool) (rows : List MessageRow) → AllByRecursion (λ (m : MessageRow). enters (sub_row x) m ≡ (b && is_wanted x m.message)) rows → entered (sub_row x) rows ≡ map (row_of x.number) (if b then map slot_in (wanted_of x rows) else [])
rows-entered x true [] h = refl
rows-entered x false [] h = refl
rows-entered x true (r ∷ rs) h =
    ap (λ (c : Bool). map (mark_in x.number) (cond c (r ∷ filter (enters (sub_row x)) rs) (filter (enters (sub_row x)) rs))) h.0
    ∙ by (is_wanted x r.message) (rows-entered x true rs h.1)
  where
    by : (c : Bool) → entered (sub_row x) rs ≡ map (row_of x.number) (map slot_in (wanted_of x rs))
        → map (mark_in x.number) (cond c (r ∷ filter (enters (sub_row x)) rs) (filter (enters (sub_row x)) rs)) ≡ map (row_of x.number) (map slot_in (cond c (r ∷ wanted_of x rs) (wanted_of x rs)))
    by true rest = ap (λ (marks : List MarkRow). mark_in x.number r ∷ marks) rest
    by false rest = rest
rows-entered x false (r ∷ rs) h = ap (λ (c : Bool). map (mark_in x.number) (cond c (r ∷ filter (enters (sub_row x)) rs) (filter (enters (sub_row x)) rs))) h.0 ∙ rows-entered x false rs h.1

all-entered : (topic : ℕ) (rows : List MessageRow) (subscriptions : List KeptSubscription) → AllByRecursion (λ (m : MessageRow). m.topic ≡ topic) rows
    → flat_map (λ (sub : SubRow). entered sub rows) (map sub_row subscriptions) ≡ flat_map (λ (x : KeptSubscription). map (row_of x.number) (new_slots topic rows x)) subscriptions
all-entered topic rows [] h = refl
all-entered topic rows (x ∷ xs) h = λ i.
    rows-entered x (is_attached topic x) rows (each-then (λ (m : MessageRow). m.topic ≡ topic) (λ (m : MessageRow). enters (sub_row x) m ≡ (is_attached topic x && is_wanted x m.message)) rows (λ m e. enters-attached topic x m e) h) i
    ++ all-entered topic rows xs h i

flat-entered : (topic : ℕ) (rows : List MessageRow) (subscriptions : List KeptSubscription)
    → flat_map (λ (x : KeptSubscription). map (row_of x.number) (x.sub.slots ++ new_slots topic rows x)) subscriptions ≡ flat_marks (map (enter_subscription topic rows) subscriptions)
flat-entered topic rows [] = refl
flat-entered topic rows (x ∷ xs) =
    let number : x.number ≡ (enter_subscription topic rows x).number = sym (number-entered topic rows x) in
    let slots : x.sub.slots ++ new_slots topic rows x ≡ (enter_subscription topic rows x).sub.slots = sym (slots-entered topic rows x) in
    λ i. map (row_of (number i)) (slots i) ++ flat-entered topic rows xs i

-- the new marks of all subscriptions, in the flat list and in the subscriptions
published-marks : (at topic : ℕ) (messages : List Message) (s : State) → IsSteady s
    → enter_all (flat_map (λ (sub : SubRow). entered sub (message_rows topic s.next_message at messages)) (map sub_row s.subscriptions)) (flat_marks s.subscriptions)
    ≡ flat_marks (map (enter_subscription topic (message_rows topic s.next_message at messages)) s.subscriptions)
published-marks at topic messages s h =
    let rows : List MessageRow = message_rows topic s.next_message at messages in
    ap (λ (marks : List MarkRow). enter_all marks (flat_marks s.subscriptions)) (all-entered topic rows s.subscriptions (rows-topic topic s.next_message at messages))
    ∙ enter-flat number_of slots_in (new_slots topic rows) s.subscriptions h.subscriptions
    ∙ flat-entered topic rows s.subscriptions

-- the state with all new messages, whether some subscription has them or not
abbrev pub with_published : ℕ → ℕ → List Message → State → State
with_published at topic messages s = record s {
  next_message = s.next_message + length (message_rows topic s.next_message at messages);
  subscriptions = map (enter_subscription topic (message_rows topic s.next_message at messages)) s.subscriptions;
  messages = s.messages ++ message_rows topic s.next_message at messages;
}

-- the world with new messages is that of the state with them
pub add-seen : (at topic : ℕ) (messages : List Message) (s : State) → IsSteady s → add_messages (message_rows topic s.next_message at messages) (seen s) ≡ seen (with_published at topic messages s)
add-seen at topic messages s h =
    let rows : List MessageRow = message_rows topic s.next_message at messages in
    let subs : map sub_row s.subscriptions ≡ map sub_row (map (enter_subscription topic rows) s.subscriptions) = sym (subs-entered topic rows s.subscriptions) in
    λ i. record (seen s) {
      next_message = s.next_message + length rows;
      subs = subs i;
      messages = s.messages ++ rows;
      marks = published-marks at topic messages s h i;
    }
