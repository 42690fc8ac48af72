-- Detaching a subscription, as the rules say.
use Rattle.std.proofs.Common.{◌≡◌, ◌<◌, ℕ, Bool, true, false, not, nat_eq, List, [], ◌∷◌, ◌++◌, Option, Some, filter, find, map, option_map, unwrap_or, refl, sym, ap, ◌∙◌, subst, arith, if◌then◌else◌}
use Rattle.std.specs.List.{AllByRecursion}
use Rattle.std.proofs.lemmas.Bool.{eq-eqb, eqb-true, false≢true, false_from_ne_true}
use Rattle.ps_base.proofs.Lists.{each-always, each-flat_map, each-found, each-map, found-map, map-rests}
use Rattle.ps_model.specs.declared.command.Command.TheVariants.{Detach}
use Rattle.ps_model.specs.declared.mark.Mark.{Mark}
use Rattle.ps_model.specs.declared.mark.Mark.TheVariants.{Backlog, Leased, Ahead, Done, Gone}
use Rattle.ps_model.specs.declared.mark.Slot.{Slot}
use Rattle.ps_model.specs.declared.reply.Reply.TheVariants.{Empty}
use Rattle.ps_model.specs.declared.world.MarkRow.{MarkRow}
use Rattle.ps_model.specs.declared.world.MessageRow.{MessageRow}
use Rattle.ps_model.specs.declared.world.SubRow.{SubRow}
use Rattle.ps_model.specs.declared.world.World.{World}
use Rattle.ps_model.specs.Commands.{outcome}
use Rattle.ps_model.specs.Live.{live}
use Rattle.ps_model.specs.Outcomes.{answers}
use Rattle.ps_model.specs.Retention.{lapsed}
use Rattle.ps_model.specs.Same.{WorldParts, same_world}
use Rattle.ps_model.specs.Settling.{catch_up}
use Rattle.ps_model.specs.Slots.{is_ahead, is_gone, remark, remarked}
use Rattle.ps_model.specs.Subscriptions.{detach_at}
use Rattle.ps_model.specs.Worlds.{put_sub, remark_at, remark_row, row_of, slot_of}
use Rattle.ps_model.proofs.SameLemmas.{same-world}
use Rattle.ps_tables.specs.declared.kept_subscription.KeptSubscription.{KeptSubscription}
use Rattle.ps_core.specs.Carrying.{CanRecord, IsCarried}
use Rattle.ps_core.specs.Changing.{change_subscription}
use Rattle.ps_tables.specs.Numbers.{changed_at}
use Rattle.ps_tables.specs.Subscriptions.{detach_subscription, number_of}
use Rattle.ps_core.specs.Effects.{let_go, recorded_at}
use Rattle.ps_tables.specs.Members.{has_name}
use Rattle.ps_core.specs.State.{State, flat_marks, seen, slots_in, sub_row}
use Rattle.ps_core.specs.Steady.{IsCaughtUp, IsSteady, IsSteadySubscription}
use Rattle.ps_core.proofs.carrying.Kept.{find-in-map, sub-named-seen}
use Rattle.ps_tables.proofs.numbers.Changes.{found-by-number, keeps-numbers, put-changes, same-number, unchanged}
use Rattle.ps_core.proofs.carrying.Living.{live-seen}
use Rattle.ps_core.proofs.carrying.Outcomes.{carried-made, carried-rests, finished-seen, outcome-open}
use Rattle.ps_core.proofs.marks.Flat.{Joined, flat-marked}
use Rattle.ps_core.proofs.marks.OnePlace.{subs-put}
use Rattle.ps_core.proofs.settling.CaughtUp.{none-ahead}
use Rattle.ps_tables.proofs.lists.Ordered.{ordered-map}
use Rattle.ps_core.proofs.settling.Expunging.{IsPlain, catch_up-seen, caught-steady, plain-steady, rows-steady}

-- ---- marks

gone-lapsed : (m : Mark) → is_gone (lapsed m) ≡ true
gone-lapsed (Backlog failures until last) = refl
gone-lapsed (Leased failures lease deadline) = refl
gone-lapsed (Ahead failures) = refl
gone-lapsed (Done cause) = refl
gone-lapsed (Gone cause) = refl

abbrev is_here : MarkRow → Bool
is_here r = not (is_gone r.mark)

-- the marks of one subscription are gone
abbrev lapsed_at : List MessageRow → ℕ → MarkRow → MarkRow
lapsed_at messages n r = if nat_eq r.sub n then remark_row r (lapsed (slot_of messages r).mark) else r

marks-own : (messages : List MessageRow) (n : ℕ) (ss : List Slot) (rest : List MarkRow) → filter is_here (map (lapsed_at messages n) (map (row_of n) ss ++ rest)) ≡ filter is_here (map (lapsed_at messages n) rest)
marks-own messages n [] rest = refl
marks-own messages n (s ∷ ss) rest = rw (eq-eqb n n refl, gone-lapsed s.mark) (marks-own messages n ss rest)

marks-other : (messages : List MessageRow) (n k : ℕ) (ss : List Slot) (rest : List MarkRow) → nat_eq k n ≡ false → AllByRecursion (λ (slot : Slot). is_gone slot.mark ≡ false) ss
    → filter is_here (map (lapsed_at messages n) (map (row_of k) ss ++ rest)) ≡ map (row_of k) ss ++ filter is_here (map (lapsed_at messages n) rest)
marks-other messages n k [] rest other plain = refl
marks-other messages n k (s ∷ ss) rest other plain = rw (other, plain.0) (ap (λ (rows : List MarkRow). row_of k s ∷ rows) (marks-other messages n k ss rest other plain.1))

-- the marks of the others are left
marks-left : (messages : List MessageRow) (n : ℕ) (xs : List KeptSubscription) → AllByRecursion (λ (x : KeptSubscription). AllByRecursion (λ (slot : Slot). is_gone slot.mark ≡ false) x.sub.slots) xs
    → filter is_here (map (lapsed_at messages n) (flat_marks xs)) ≡ flat_marks (changed_at number_of n detach_subscription xs)
marks-left messages n [] plain = refl
marks-left messages n (x ∷ xs) plain = by (nat_eq x.number n) refl (marks-left messages n xs plain.1)
  where
    by : (b : Bool) → nat_eq x.number n ≡ b → filter is_here (map (lapsed_at messages n) (flat_marks xs)) ≡ flat_marks (changed_at number_of n detach_subscription xs)
        → filter is_here (map (lapsed_at messages n) (flat_marks (x ∷ xs))) ≡ flat_marks ((if b then detach_subscription x else x) ∷ changed_at number_of n detach_subscription xs)
    by true own rest =
        let here : x.number ≡ n = eqb-true x.number n own in
        ap (λ (k : ℕ). filter is_here (map (lapsed_at messages k) (flat_marks (x ∷ xs)))) (sym here)
        ∙ marks-own messages x.number x.sub.slots (flat_marks xs)
        ∙ ap (λ (k : ℕ). filter is_here (map (lapsed_at messages k) (flat_marks xs))) here ∙ rest
    by false other rest = marks-other messages n x.number x.sub.slots (flat_marks xs) other plain.0 ∙ ap (λ (rows : List MarkRow). map (row_of x.number) x.sub.slots ++ rows) rest

-- ---- the rule

module _ (at : ℕ) (name : List ℕ) (s : State) (can : CanRecord at s) (x : KeptSubscription) (h : IsSteady s) (is : find (has_name name) s.subscriptions ≡ Some x) where
  here : find (λ (y : KeptSubscription). nat_eq y.number x.number) s.subscriptions ≡ Some x
  here = found-by-number number_of (has_name name) s.subscriptions x h.subscriptions is

  -- the world that the rule makes
  abbrev lapses : World
  lapses = put_sub (sub_row (detach_subscription x)) (remark_at x.number (λ (slot : Slot). lapsed slot.mark) (seen s))

  abbrev made : State
  made = change_subscription x.number detach_subscription s

  ruled : outcome (seen s) at (Detach name) ≡ answers lapses Empty
  ruled = outcome-open s at (Detach name) can.room refl ∙ ap (detach_at (seen s) name) (sub-named-seen s name ∙ ap (option_map sub_row) is)

  rows : map (λ (r : SubRow). if nat_eq r.number x.number then sub_row (detach_subscription x) else r) (map sub_row s.subscriptions) ≡ map sub_row (changed_at number_of x.number detach_subscription s.subscriptions)
  rows = subs-put (detach_subscription x) s.subscriptions ∙ ap (map sub_row) (put-changes number_of x.number detach_subscription x s.subscriptions h.subscriptions here)

  stands : live lapses ≡ seen made
  stands =
      let marks = marks-left s.messages x.number s.subscriptions (plain-steady s h).marks in
      λ i. record (live-seen s h i) { subs = rows i; marks = marks i }

  plain-made : IsPlain made
  plain-made = record {
    topic_settings = h.topic_settings;
    marks = each-map (λ (y : KeptSubscription). AllByRecursion (λ (slot : Slot). is_gone slot.mark ≡ false) y.sub.slots) (λ (y : KeptSubscription). AllByRecursion (λ (slot : Slot). is_gone slot.mark ≡ false) y.sub.slots)
        (λ y. if nat_eq y.number x.number then detach_subscription y else y) s.subscriptions (λ y p. one y (nat_eq y.number x.number) p) (plain-steady s h).marks;
  }
    where
      one : (y : KeptSubscription) (b : Bool) → AllByRecursion (λ (slot : Slot). is_gone slot.mark ≡ false) y.sub.slots → AllByRecursion (λ (slot : Slot). is_gone slot.mark ≡ false) (if b then detach_subscription y else y).sub.slots
      one y true p = tt
      one y false p = p

  -- the state with the marks that are gone
  abbrev lapse : KeptSubscription → KeptSubscription
  lapse y = record y { detached = true; sub = record y.sub { slots = remarked (λ (slot : Slot). lapsed slot.mark) y.sub.slots } }

  abbrev lapsing : State
  lapsing = change_subscription x.number lapse s

  lapses-seen : lapses ≡ seen lapsing
  lapses-seen =
      let subs = subs-put (lapse x) s.subscriptions ∙ ap (map sub_row) (put-changes number_of x.number lapse x s.subscriptions h.subscriptions here) in
      let marks = flat-marked number_of slots_in s.messages x.number (λ (slot : Slot). lapsed slot.mark) lapse (λ y. refl) (λ y. refl) s.subscriptions (rows-steady s h) in
      λ i. record (seen s) { subs = subs i; marks = marks i }

  ahead-lapsed : (m : Mark) → is_ahead (lapsed m) ≡ false
  ahead-lapsed (Backlog failures until last) = refl
  ahead-lapsed (Leased failures lease deadline) = refl
  ahead-lapsed (Ahead failures) = refl
  ahead-lapsed (Done cause) = refl
  ahead-lapsed (Gone cause) = refl

  lapsed-caught : (ordering : Bool) (slots : List Slot) → IsCaughtUp ordering (remarked (λ (slot : Slot). lapsed slot.mark) slots)
  lapsed-caught ordering slots =
      none-ahead ordering (remarked (λ (slot : Slot). lapsed slot.mark) slots)
      (each-map (λ (slot : Slot). Unit {0}) (λ (slot : Slot). is_ahead slot.mark ≡ false) (λ (slot : Slot). remark slot (lapsed slot.mark)) slots (λ slot _. ahead-lapsed slot.mark) (each-always (λ (slot : Slot). Unit {0}) slots (λ slot. tt)))

  -- what is gone isn't ahead, and the others have caught up
  caught : catch_up lapses ≡ lapses
  caught =
      let put : KeptSubscription → KeptSubscription = λ y. if nat_eq y.number x.number then lapse y else y in
      ap catch_up lapses-seen
      ∙ catch_up-seen lapsing
      (ordered-map (λ (a b : KeptSubscription). a.number < b.number) (λ (a b : KeptSubscription). a.number < b.number) put s.subscriptions (λ a b up. omega (arith, up, number a (nat_eq a.number x.number), number b (nat_eq b.number x.number))) h.subscriptions)
      (each-map (λ (y : KeptSubscription). Joined s.messages y.number y.sub.slots) (λ (y : KeptSubscription). Joined s.messages y.number y.sub.slots) put s.subscriptions (λ y rows. joined y (nat_eq y.number x.number) rows) (rows-steady s h))
      (each-map (λ (y : KeptSubscription). IsCaughtUp y.sub.config.ordering y.sub.slots) (λ (y : KeptSubscription). IsCaughtUp y.sub.config.ordering y.sub.slots) put s.subscriptions (λ y up. caught-one y (nat_eq y.number x.number) up) (caught-steady s h))
      ∙ sym lapses-seen
    where
      number : (y : KeptSubscription) (b : Bool) → (if b then lapse y else y).number ≡ y.number
      number y true = refl
      number y false = refl

      joined : (y : KeptSubscription) (b : Bool) → Joined s.messages y.number y.sub.slots → Joined s.messages (if b then lapse y else y).number (if b then lapse y else y).sub.slots
      joined y true rows =
          each-map (λ (slot : Slot). slot_of s.messages (row_of y.number slot) ≡ slot) (λ (slot : Slot). slot_of s.messages (row_of y.number slot) ≡ slot) (λ (slot : Slot). remark slot (lapsed slot.mark)) y.sub.slots (λ slot row. ap (λ (e : Slot). remark e (lapsed slot.mark)) row) rows
      joined y false rows = rows

      caught-one : (y : KeptSubscription) (b : Bool) → IsCaughtUp y.sub.config.ordering y.sub.slots → IsCaughtUp (if b then lapse y else y).sub.config.ordering (if b then lapse y else y).sub.slots
      caught-one y true up = lapsed-caught y.sub.config.ordering y.sub.slots
      caught-one y false up = up

  -- the row of the subscription says that it is detached
  differs : x.detached ≡ false → same_world (seen s) (seen (let_go made)) ≡ false
  differs attached =
      false_from_ne_true (same_world (seen s) (seen (let_go made))) (λ same.
      let those : map sub_row s.subscriptions ≡ map sub_row (changed_at number_of x.number detach_subscription s.subscriptions) = ap (λ (p : WorldParts). p.1.1.1.1.1.0) (same-world (seen s) (seen (let_go made)) same) in
      let put : KeptSubscription → KeptSubscription = λ y. if nat_eq y.number x.number then detach_subscription y else y in
      let there : find (λ (y : KeptSubscription). nat_eq y.number x.number) (map put s.subscriptions) ≡ Some (detach_subscription x) =
      found-map (λ (y : KeptSubscription). nat_eq y.number x.number) put s.subscriptions (λ y. ap (λ (n : ℕ). nat_eq n x.number) (keeps-numbers number_of x.number detach_subscription (λ z. refl) y)) ∙ ap (option_map put) here
      ∙ ap (λ (b : Bool). Some (if b then detach_subscription x else x)) (eq-eqb x.number x.number refl) in
      let both : Some (sub_row x) ≡ Some (sub_row (detach_subscription x)) =
      sym (find-in-map sub_row (λ (r : SubRow). nat_eq r.number x.number) s.subscriptions ∙ ap (option_map sub_row) here) ∙ ap (find (λ (r : SubRow). nat_eq r.number x.number)) those
      ∙ find-in-map sub_row (λ (r : SubRow). nat_eq r.number x.number) (map put s.subscriptions) ∙ ap (option_map sub_row) there in
      let flag : x.detached ≡ true = ap (λ (o : Option SubRow). (unwrap_or o (sub_row x)).detached) both in
      false≢true (sym attached ∙ flag))

  pub sub-detached : x.detached ≡ false → IsCarried at (Detach name) s (let_go (change_subscription x.number detach_subscription (recorded_at at s))) Empty true
  sub-detached attached = carried-made at (Detach name) s made Empty lapses h plain-made ruled stands caught (differs attached) refl

  -- detached already, it has nothing
  none-there : x.detached ≡ true → x.sub.slots ≡ []
  none-there detached = (each-found (IsSteadySubscription s) (has_name name) s.subscriptions x is h.each).detached detached

  rows-rest : x.detached ≡ true → map (λ (r : SubRow). if nat_eq r.number x.number then sub_row (detach_subscription x) else r) (map sub_row s.subscriptions) ≡ map sub_row s.subscriptions
  rows-rest detached =
      let none = none-there detached in
      let same : detach_subscription x ≡ x = λ i. record x { detached = sym detached i; sub = record x.sub { slots = sym none i } } in
      subs-put (detach_subscription x) s.subscriptions
      ∙ ap (λ (z : KeptSubscription). map sub_row (map (λ (y : KeptSubscription). if nat_eq y.number x.number then z else y) s.subscriptions)) same
      ∙ ap (map sub_row) (put-changes number_of x.number (λ y. y) x s.subscriptions h.subscriptions here ∙ unchanged number_of x.number s.subscriptions)

  marks-rest : x.detached ≡ true → map (lapsed_at s.messages x.number) (flat_marks s.subscriptions) ≡ flat_marks s.subscriptions
  marks-rest detached =
      map-rests (lapsed_at s.messages x.number) (flat_marks s.subscriptions)
      (each-flat_map (λ (y : KeptSubscription). nat_eq y.number x.number ≡ true → y ≡ x) (λ (r : MarkRow). lapsed_at s.messages x.number r ≡ r) (λ (y : KeptSubscription). map (row_of y.number) y.sub.slots) s.subscriptions
      (λ y own. one y (nat_eq y.number x.number) refl own) (same-number number_of x.number x s.subscriptions h.subscriptions here))
    where
      one : (y : KeptSubscription) (b : Bool) → nat_eq y.number x.number ≡ b → (nat_eq y.number x.number ≡ true → y ≡ x) → AllByRecursion (λ (r : MarkRow). lapsed_at s.messages x.number r ≡ r) (map (row_of y.number) y.sub.slots)
      one y true e own =
          let none : y.sub.slots ≡ [] = ap (λ (z : KeptSubscription). z.sub.slots) (own e) ∙ none-there detached in
          subst (λ (ss : List Slot). AllByRecursion (λ (r : MarkRow). lapsed_at s.messages x.number r ≡ r) (map (row_of y.number) ss)) (sym none) tt
      one y false e own =
          each-map (λ (slot : Slot). lapsed_at s.messages x.number (row_of y.number slot) ≡ row_of y.number slot) (λ (r : MarkRow). lapsed_at s.messages x.number r ≡ r) (row_of y.number) y.sub.slots (λ slot p. p)
          (each-always (λ (slot : Slot). lapsed_at s.messages x.number (row_of y.number slot) ≡ row_of y.number slot) y.sub.slots (λ slot. rw (e) refl))

  pub detached-again : x.detached ≡ true → IsCarried at (Detach name) s s Empty false
  detached-again detached =
      let subs = rows-rest detached in
      let marks = marks-rest detached in
      let w : lapses ≡ seen s = λ i. record (seen s) { subs = subs i; marks = marks i } in
      carried-rests at (Detach name) s Empty (answers (seen s) Empty) (ruled ∙ ap (λ (v : World). answers v Empty) w) refl (finished-seen at (seen s) s Empty h)
