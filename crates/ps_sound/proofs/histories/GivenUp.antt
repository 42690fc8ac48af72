-- Deadlines that are changed leave a lease out, where it isn't given up, nor an earlier one of its key.
use Rattle.std.proofs.Common.{ℕ, ◌≡◌, ◌+◌, ◌*◌, ◌<◌, ◌⊎◌, Bool, true, false, cond, ◌&&◌, ◌||◌, not, nat_eq, nat_lt, is_some, List, [], ◌∷◌, Option, Some, None, refl, sym, ◌∙◌, ap, subst, arith, inl, inr, if◌then◌else◌}
use Rattle.std.specs.List.{AllByRecursion}
use Rattle.std.specs.Str.{bytes_eq}
use Rattle.std.proofs.lemmas.Bool.{cond_both, and_right, or_parts, or_left, or_right, or_cases, eqb-true, eq-eqb, false≢true}
use Rattle.ps_base.specs.declared.ack_id.AckId.{AckId}
use Rattle.ps_message.specs.Lists.{is_empty}
use Rattle.ps_model.specs.declared.command.Command.TheVariants.{ModifyAckDeadline}
use Rattle.ps_model.specs.declared.mark.Mark.{Mark}
use Rattle.ps_model.specs.declared.mark.Mark.TheVariants.{Backlog, Leased, Ahead, Done, Gone}
use Rattle.ps_model.specs.declared.mark.DoneCause.TheVariants.{Dead}
use Rattle.ps_model.specs.declared.mark.Slot.{Slot}
use Rattle.ps_model.specs.declared.mark.Ticket.{Ticket}
use Rattle.ps_config.specs.declared.config.SubConfig.{SubConfig}
use Rattle.ps_model.specs.declared.world.World.{World}
use Rattle.ps_model.specs.declared.world.SubRow.{SubRow}
use Rattle.ps_model.specs.declared.world.MarkRow.{MarkRow}
use Rattle.ps_model.specs.Slots.{is_out, any_earlier, is_earlier}
use Rattle.ps_model.specs.Failing.{mark_after_failing, failed, fallen, is_due, is_dead, one_more, retry_at}
use Rattle.ps_model.specs.Retention.{lapsed, caught_up_as}
use Rattle.ps_model.specs.Seeking.{fresh}
use Rattle.ps_model.specs.Modifying.{names, seconds_for, set_deadline, extended_by, extended_mark, extended, is_zero, is_given_up}
use Rattle.ps_model.specs.Worlds.{remark_at, remark_row, item_at, message_at, slot_of, slots_of}
use Rattle.ps_model.specs.Settling.{settle}
use Rattle.ps_model.specs.Answering.{items_of}
use Rattle.ps_model.specs.Forwarding.{dead_topic}
use Rattle.ps_model.specs.Laws.{fails_at}
use Rattle.ps_base.proofs.Lists.{each-then, each-both, each-map}
use Rattle.ps_sound.proofs.worlds.Earlier.{each-earlier, from-none-earlier, earlier-number, rows-of-slots, slots-of-rows}
use Rattle.ps_sound.proofs.phases.Ending.{failing-same}
use Rattle.ps_sound.proofs.worlds.Slotted.{slots-at}
use Rattle.ps_sound.proofs.histories.PairSteps.{ModifySpares}
use Rattle.ps_sound.proofs.histories.Dealt.{dealt-failing}
use Rattle.ps_sound.proofs.histories.HandedOnce.{OutOrDealt}
use Rattle.ps_sound.proofs.histories.SubSteps.{IsSettling, OnSub, sub-settled, settled-message}

-- a slot of this number and mark, whatever its message
abbrev pub bare : ℕ → Mark → Slot
bare j mark = record { item = record { number = j; publish = 0; key = []; size = 0 }; mark = mark }

-- the seconds of a slot are read off its number and mark
seconds-bare : (items : List (Ticket × ℕ)) (s : Slot) (found : Option ℕ) → seconds_for items s found ≡ seconds_for items (bare s.item.number s.mark) found
seconds-bare [] s found = refl
seconds-bare (x ∷ xs) s found = seconds-bare xs s (if names x.0 s then Some x.1 else found)

pub given-bare : (items : List (Ticket × ℕ)) (s : Slot) → is_given_up items s ≡ is_given_up items (bare s.item.number s.mark)
given-bare items s = ap is_zero (seconds-bare items s None)

-- what isn't out is named by none
seconds-none : (items : List (Ticket × ℕ)) (j : ℕ) (mark : Mark) (found : Option ℕ) → ((lease : ℕ) → is_out lease mark ≡ false) → seconds_for items (bare j mark) found ≡ found
seconds-none [] j mark found k = refl
seconds-none (x ∷ xs) j mark found k = ap (λ b. seconds_for xs (bare j mark) (cond b (Some x.1) found)) (and_right (nat_eq j x.0.number) (is_out x.0.lease mark) (k x.0.lease)) ∙ seconds-none xs j mark found k

given-none : (items : List (Ticket × ℕ)) (j : ℕ) (mark : Mark) → ((lease : ℕ) → is_out lease mark ≡ false) → is_given_up items (bare j mark) ≡ false
given-none items j mark k = ap is_zero (seconds-none items j mark None k)

-- another deadline changes no name
seconds-set : (items : List (Ticket × ℕ)) (j deadline : ℕ) (mark : Mark) (found : Option ℕ) → seconds_for items (bare j (set_deadline deadline mark)) found ≡ seconds_for items (bare j mark) found
seconds-set [] j deadline mark found = refl
seconds-set (x ∷ xs) j deadline mark found = ap (λ b. seconds_for xs (bare j (set_deadline deadline mark)) (cond (nat_eq j x.0.number && b) (Some x.1) found)) (out-set x.0.lease mark) ∙ seconds-set xs j deadline mark (if names x.0 (bare j mark) then Some x.1 else found)
  where
    out-set : (lease : ℕ) (mark : Mark) → is_out lease (set_deadline deadline mark) ≡ is_out lease mark
    out-set lease (Backlog f u l) = refl
    out-set lease (Leased f own d) = refl
    out-set lease (Ahead f) = refl
    out-set lease (Done c) = refl
    out-set lease (Gone c) = refl

failed-not-out : (lease t : ℕ) (forward : Bool) (config : SubConfig) (mark : Mark) → is_out lease (failed t forward config mark) ≡ false
failed-not-out lease t forward config (Leased f l d) = cond_both (is_dead config.dead_letter forward (one_more f)) (Done Dead) (Backlog (one_more f) (retry_at config.retry t (one_more f)) (Some l)) (λ mark. is_out lease mark ≡ false) (λ _. refl) (λ _. refl)
failed-not-out lease t forward config (Backlog f u l) = refl
failed-not-out lease t forward config (Ahead f) = refl
failed-not-out lease t forward config (Done c) = refl
failed-not-out lease t forward config (Gone c) = refl

fallen-not-out : (lease : ℕ) (mark : Mark) → is_out lease (fallen mark) ≡ false
fallen-not-out lease (Leased f l d) = refl
fallen-not-out lease (Backlog f u l) = refl
fallen-not-out lease (Ahead f) = refl
fallen-not-out lease (Done c) = refl
fallen-not-out lease (Gone c) = refl

lapsed-not-out : (lease : ℕ) (mark : Mark) → is_out lease (lapsed mark) ≡ false
lapsed-not-out lease (Leased f l d) = refl
lapsed-not-out lease (Backlog f u l) = refl
lapsed-not-out lease (Ahead f) = refl
lapsed-not-out lease (Done c) = refl
lapsed-not-out lease (Gone c) = refl

-- not given up, where the number is one that matters
abbrev NotGiven : (ℕ → Bool) → List (Ticket × ℕ) → ℕ → Mark → Type 0
NotGiven matters items j mark = matters j ≡ true → is_given_up items (bare j mark) ≡ false

not-given-settling : (matters : ℕ → Bool) (items : List (Ticket × ℕ)) → IsSettling (NotGiven matters items)
not-given-settling matters items = record {
  starts = λ j _. given-none items j fresh (λ lease. refl);
  lapses = λ j mark _ _. given-none items j (lapsed mark) (λ lease. lapsed-not-out lease mark);
  catches = catches;
  fails = λ j t forward config mark _ _. given-none items j (failed t forward config mark) (λ lease. failed-not-out lease t forward config mark);
  falls = λ j mark _ _. given-none items j (fallen mark) (λ lease. fallen-not-out lease mark);
}
  where
    catches : (j : ℕ) (mark : Mark) → NotGiven matters items j mark → NotGiven matters items j (caught_up_as mark)
    catches j (Backlog f u l) k = k
    catches j (Leased f own d) k = k
    catches j (Ahead f) k = λ _. given-none items j (caught_up_as (Ahead f)) (λ lease. refl)
    catches j (Done c) k = k
    catches j (Gone c) k = k

-- On a subscription and at a moment where neither the pair nor an earlier one of its key is given up in the unsettled world.
module _ (w : World) (t : ℕ) (id : AckId) (sub : SubRow) (name : List ℕ) (given : List (AckId × ℕ)) (its : sub.number ≡ id.sub) (named : bytes_eq name sub.name ≡ true) (old : id.message < w.next_message)
    (none-before : any_earlier sub.config.ordering (fails_at t sub (ModifyAckDeadline name given)) (slots_of w sub.number) (record { item = item_at id.message (message_at w.messages id.message); mark = fresh }) ≡ false)
    (not-its : AllByRecursion (λ (r : MarkRow). r.sub ≡ sub.number → r.message ≡ id.message → fails_at t sub (ModifyAckDeadline name given) (slot_of w.messages r) ≡ false) w.marks) where
  abbrev items : List (Ticket × ℕ)
  items = items_of sub given

  abbrev this : Slot
  this = record { item = item_at id.message (message_at w.messages id.message); mark = fresh }

  abbrev at_number : ℕ → Slot
  at_number j = record { item = item_at j (message_at w.messages j); mark = fresh }

  abbrev matters : ℕ → Bool
  matters j = is_earlier sub.config.ordering (at_number j) this || nat_eq j id.message

  -- what gives up its lease fails
  gave : (s : Slot) → fails_at t sub (ModifyAckDeadline name given) s ≡ false → is_given_up items s ≡ false
  gave s e = second (bytes_eq name sub.name) (is_given_up items s) named (or_parts (is_due t s) (bytes_eq name sub.name && is_given_up items s) e).1
    where
      second : (a b : Bool) → a ≡ true → (a && b) ≡ false → b ≡ false
      second true b ea e = e
      second false b ea e = absurd (false≢true ea)

  rows-not-given : AllByRecursion (OnSub (NotGiven matters items) sub.number) w.marks
  rows-not-given = each-then (λ r. (r.sub ≡ sub.number → is_earlier sub.config.ordering (slot_of w.messages r) this ≡ true → fails_at t sub (ModifyAckDeadline name given) (slot_of w.messages r) ≡ false)
      × (r.sub ≡ sub.number → r.message ≡ id.message → fails_at t sub (ModifyAckDeadline name given) (slot_of w.messages r) ≡ false))
      (OnSub (NotGiven matters items) sub.number) w.marks
      (λ r p es m. sym (given-bare items (slot_of w.messages r)) ∙ either r p es (or_cases (is_earlier sub.config.ordering (at_number r.message) this) (nat_eq r.message id.message) m))
      (each-both (λ (r : MarkRow). r.sub ≡ sub.number → is_earlier sub.config.ordering (slot_of w.messages r) this ≡ true → fails_at t sub (ModifyAckDeadline name given) (slot_of w.messages r) ≡ false)
      (λ (r : MarkRow). r.sub ≡ sub.number → r.message ≡ id.message → fails_at t sub (ModifyAckDeadline name given) (slot_of w.messages r) ≡ false) w.marks
      (rows-of-slots (λ (s : Slot). is_earlier sub.config.ordering s this ≡ true → fails_at t sub (ModifyAckDeadline name given) s ≡ false) w sub.number (each-earlier sub.config.ordering (fails_at t sub (ModifyAckDeadline name given)) this (slots_of w sub.number) none-before)) not-its)
    where
      either : (r : MarkRow) → (r.sub ≡ sub.number → is_earlier sub.config.ordering (slot_of w.messages r) this ≡ true → fails_at t sub (ModifyAckDeadline name given) (slot_of w.messages r) ≡ false)
          × (r.sub ≡ sub.number → r.message ≡ id.message → fails_at t sub (ModifyAckDeadline name given) (slot_of w.messages r) ≡ false) → r.sub ≡ sub.number
          → (is_earlier sub.config.ordering (at_number r.message) this ≡ true) ⊎ (nat_eq r.message id.message ≡ true) → is_given_up items (slot_of w.messages r) ≡ false
      either r p es (inl early) = gave (slot_of w.messages r) (p.0 es early)
      either r p es (inr same) = gave (slot_of w.messages r) (p.1 es (eqb-true r.message id.message same))

  abbrev v : World
  v = settle t w

  abbrev later : World
  later = remark_at sub.number (extended_mark t items) v

  later-not-given : AllByRecursion (OnSub (NotGiven matters items) sub.number) later.marks
  later-not-given = each-map (OnSub (NotGiven matters items) sub.number) (OnSub (NotGiven matters items) sub.number) (λ (r : MarkRow). if nat_eq r.sub sub.number then remark_row r (extended_mark t items (slot_of v.messages r)) else r) v.marks
      (λ r p. cond_both (nat_eq r.sub sub.number) (remark_row r (extended_mark t items (slot_of v.messages r))) r (OnSub (NotGiven matters items) sub.number) (λ _ es m. by r.message r.mark (seconds_for items (slot_of v.messages r) None) (p es m)) (λ _. p))
      (sub-settled (NotGiven matters items) sub.number (not-given-settling matters items) t w rows-not-given)
    where
      by : (j : ℕ) (mark : Mark) (o : Option ℕ) → is_given_up items (bare j mark) ≡ false → is_given_up items (bare j (extended_by t mark o)) ≡ false
      by j mark None e = e
      by j mark (Some seconds) e = cond_both (nat_eq seconds 0) mark (set_deadline (t + 1000 * seconds) mark) (λ m. is_given_up items (bare j m) ≡ false) (λ _. e) (λ _. ap is_zero (seconds-set items j (t + 1000 * seconds) mark None) ∙ e)

  -- earlier in the settled world is earlier in the one before
  earlier-before : (e r : MarkRow) → r.message ≡ id.message → is_earlier sub.config.ordering (slot_of v.messages e) (slot_of v.messages r) ≡ true → is_earlier sub.config.ordering (at_number e.message) this ≡ true
  earlier-before e r em early =
      let below : e.message < r.message = earlier-number sub.config.ordering (slot_of v.messages e) (slot_of v.messages r) early in
      let one = ap (λ x. x.key) (settled-message t e.message w (omega (arith, below, em, old))) in
      let two = ap (λ x. x.key) (settled-message t id.message w old) in
      (λ i. sub.config.ordering && (nat_lt e.message id.message && (not (is_empty (sym two i)) && bytes_eq (sym one i) (sym two i))))
      ∙ (λ i. sub.config.ordering && (nat_lt e.message (sym em i) && (not (is_empty (message_at v.messages (sym em i)).message.key) && bytes_eq (message_at v.messages e.message).message.key (message_at v.messages (sym em i)).message.key)))
      ∙ early

  pub modifying-spares : ModifySpares (OutOrDealt id.lease) id.sub id.message t v given sub
  modifying-spares = each-then (OnSub (NotGiven matters items) sub.number) (λ (r : MarkRow). r.sub ≡ sub.number → r.sub ≡ id.sub → r.message ≡ id.message → OutOrDealt id.lease r.mark
      → OutOrDealt id.lease (mark_after_failing (is_given_up items) t (is_some (dead_topic v sub)) sub.config (extended t items (slots_of v sub.number)) (slot_of v.messages r))) later.marks (λ r p es _ em. at r (p es) em) later-not-given
    where
      none-earlier : (r : MarkRow) → r.message ≡ id.message → any_earlier sub.config.ordering (is_given_up items) (extended t items (slots_of v sub.number)) (slot_of v.messages r) ≡ false
      none-earlier r em = from-none-earlier sub.config.ordering (is_given_up items) (slot_of v.messages r) (extended t items (slots_of v sub.number))
          (subst (AllByRecursion (λ (e : Slot). is_earlier sub.config.ordering e (slot_of v.messages r) ≡ true → is_given_up items e ≡ false)) (slots-at (extended_mark t items) v sub.number)
          (slots-of-rows (λ (e : Slot). is_earlier sub.config.ordering e (slot_of v.messages r) ≡ true → is_given_up items e ≡ false) later sub.number
          (each-then (OnSub (NotGiven matters items) sub.number) (λ (e : MarkRow). e.sub ≡ sub.number → is_earlier sub.config.ordering (slot_of v.messages e) (slot_of v.messages r) ≡ true → is_given_up items (slot_of v.messages e) ≡ false) later.marks
          (λ e p es early. given-bare items (slot_of v.messages e) ∙ p es (or_left (is_earlier sub.config.ordering (at_number e.message) this) (nat_eq e.message id.message) (earlier-before e r em early))) later-not-given)))

      at : (r : MarkRow) → NotGiven matters items r.message r.mark → r.message ≡ id.message → OutOrDealt id.lease r.mark
          → OutOrDealt id.lease (mark_after_failing (is_given_up items) t (is_some (dead_topic v sub)) sub.config (extended t items (slots_of v sub.number)) (slot_of v.messages r))
      at r k em (inr dealt) = inr (dealt-failing (is_given_up items) t (is_some (dead_topic v sub)) sub.config (extended t items (slots_of v sub.number)) (slot_of v.messages r) dealt)
      at r k em (inl out) = inl (ap (is_out id.lease) (failing-same (is_given_up items) t (is_some (dead_topic v sub)) sub.config (extended t items (slots_of v sub.number)) (slot_of v.messages r)
          (given-bare items (slot_of v.messages r) ∙ k (or_right (is_earlier sub.config.ordering (at_number r.message) this) (nat_eq r.message id.message) (eq-eqb r.message id.message em))) (none-earlier r em)) ∙ out)
