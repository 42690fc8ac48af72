-- Changed deadlines, looked up by the numbers of message and lease.
use Rattle.std.proofs.Common.{ℕ, ◌≡◌, ◌+◌, ◌*◌, ◌<◌, Bool, true, false, cond, ◌&&◌, ◌||◌, nat_eq, List, [], ◌∷◌, ◌++◌, filter, filter_map, length, take, get_or, Option, Some, None, refl, sym, ◌∙◌, ap, if◌then◌else◌}
use Rattle.std.specs.BTreeMap.{BTreeMap, Updates, get, is_at}
use Rattle.std.specs.Option.{option_map_or}
use Rattle.std.proofs.lemmas.Bool.{and_right, cond_both}
use Rattle.std.proofs.lemmas.List.{take_more}
use Rattle.ps_config.specs.declared.config.SubConfig.{SubConfig}
use Rattle.ps_model.specs.declared.mark.DeadLetter.{DeadLetter}
use Rattle.ps_model.specs.declared.mark.Item.{Item}
use Rattle.ps_model.specs.declared.mark.Mark.{Mark}
use Rattle.ps_model.specs.declared.mark.Mark.TheVariants.{Backlog, Leased, Ahead, Done, Gone}
use Rattle.ps_model.specs.declared.mark.Slot.{Slot}
use Rattle.ps_model.specs.declared.mark.Ticket.{Ticket}
use Rattle.ps_model.specs.Acknowledging.{same_ticket}
use Rattle.ps_model.specs.Failing.{dead_letter, failed, fallen}
use Rattle.ps_model.specs.Modifying.{extended_by, extended_mark, is_given_up, is_zero, modify, modify_dead, names, seconds_for, set_deadline}
use Rattle.ps_model.specs.Slots.{any_earlier, is_earlier, is_gone, is_out, remark, remarked}
use Rattle.ps_sub.specs.Modifying.{HasItems, asked_for, gives_up, last_for, modified_mark}
use Rattle.ps_sub.specs.Tickets.{ack_lease, pair_cmp, pair_of}
use Rattle.ps_sub.proofs.DueLemmas.{remarked-twice}
use Rattle.ps_sub.proofs.SteadyLemmas.{KeepsLive, failed-live, fallen-live, pick-live}
use Rattle.ps_sub.proofs.TicketLemmas.{pair-same}

-- ---- the map of the items

last-append : (xs : List (Ticket × ℕ)) (x : Ticket × ℕ) (ticket : Ticket) (found : Option ℕ) → last_for (xs ++ x ∷ []) ticket found ≡ (if same_ticket ticket x.0 then Some x.1 else last_for xs ticket found)
last-append [] x ticket found = refl
last-append (y ∷ ys) x ticket found = last-append ys x ticket (if same_ticket ticket y.0 then Some y.1 else found)

-- one item more
pub items-more : (items : List (Ticket × ℕ)) (i : ℕ) (d : Ticket × ℕ) (old new : BTreeMap (ℕ × ℕ) ℕ) → i < length items
    → Updates pair_cmp old new (pair_of (get_or items i d).0) (Some (get_or items i d).1) → HasItems (take i items) old → HasItems (take (i + 1) items) new
items-more items i d old new short puts so_far = λ ticket.
    let x : Ticket × ℕ = get_or items i d in
    puts.0 (pair_of ticket)
    ∙ (λ j. cond (pair-same x.0 ticket j) (Some x.1) (so_far ticket j))
    ∙ sym (last-append (take i items) x ticket None)
    ∙ ap (λ (xs : List (Ticket × ℕ)). last_for xs ticket None) (sym (take_more items i d short))

leased-seconds : (items : List (Ticket × ℕ)) (item : Item) (failures lease deadline : ℕ) (found : Option ℕ)
    → seconds_for items (record { item = item; mark = Leased failures lease deadline }) found ≡ last_for items (record { number = item.number; lease = lease }) found
leased-seconds [] item failures lease deadline found = refl
leased-seconds (x ∷ xs) item failures lease deadline found = leased-seconds xs item failures lease deadline (if same_ticket (record { number = item.number; lease = lease }) x.0 then Some x.1 else found)

unnamed : (items : List (Ticket × ℕ)) (s : Slot) (found : Option ℕ) → ((lease : ℕ) → is_out lease s.mark ≡ false) → seconds_for items s found ≡ found
unnamed [] s found h = refl
unnamed (x ∷ xs) s found h =
    let none : names x.0 s ≡ false = and_right (nat_eq s.item.number x.0.number) (is_out x.0.lease s.mark) (h x.0.lease) in
    ap (λ (b : Bool). seconds_for xs s (if b then Some x.1 else found)) none ∙ unnamed xs s found h

seconds-are : (items : List (Ticket × ℕ)) (item : Item) (mark : Mark)
    → option_map_or (λ lease. last_for items (record { number = item.number; lease = lease }) None) (ack_lease true mark) None ≡ seconds_for items (record { item = item; mark = mark }) None
seconds-are items item (Leased failures lease deadline) = sym (leased-seconds items item failures lease deadline None)
seconds-are items item (Backlog failures until last) = sym (unnamed items (record { item = item; mark = Backlog failures until last }) None (λ lease. refl))
seconds-are items item (Ahead failures) = sym (unnamed items (record { item = item; mark = Ahead failures }) None (λ lease. refl))
seconds-are items item (Done cause) = sym (unnamed items (record { item = item; mark = Done cause }) None (λ lease. refl))
seconds-are items item (Gone cause) = sym (unnamed items (record { item = item; mark = Gone cause }) None (λ lease. refl))

-- what the map has for a message are the seconds of the last item that names it
pub asked-is : (items : List (Ticket × ℕ)) (seconds : BTreeMap (ℕ × ℕ) ℕ) → HasItems items seconds → (s : Slot) → asked_for seconds s ≡ seconds_for items s None
asked-is items seconds has s =
    found (ack_lease true s.mark) ∙ seconds-are items s.item s.mark
  where
    found : (lease : Option ℕ) → option_map_or (λ l. get pair_cmp seconds (s.item.number, l)) lease None ≡ option_map_or (λ l. last_for items (record { number = s.item.number; lease = l }) None) lease None
    found None = refl
    found (Some l) = has (record { number = s.item.number; lease = l })

pub gives-up-is : (items : List (Ticket × ℕ)) (seconds : BTreeMap (ℕ × ℕ) ℕ) → HasItems items seconds → (s : Slot) → gives_up seconds s ≡ is_given_up items s
gives-up-is items seconds has s = ap is_zero (asked-is items seconds has s)

-- ---- setting deadlines and failing as one rule

module _ (t : ℕ) where
  out-set : (deadline lease : ℕ) (mark : Mark) → is_out lease (set_deadline deadline mark) ≡ is_out lease mark
  out-set deadline lease (Leased failures own before) = refl
  out-set deadline lease (Backlog failures until last) = refl
  out-set deadline lease (Ahead failures) = refl
  out-set deadline lease (Done cause) = refl
  out-set deadline lease (Gone cause) = refl

  out-extended : (lease : ℕ) (mark : Mark) (seconds : Option ℕ) → is_out lease (extended_by t mark seconds) ≡ is_out lease mark
  out-extended lease mark None = refl
  out-extended lease mark (Some seconds) = cond_both (nat_eq seconds 0) mark (set_deadline (t + 1000 * seconds) mark) (λ m. is_out lease m ≡ is_out lease mark) (λ e. refl) (λ e. out-set (t + 1000 * seconds) lease mark)

  seconds-extended : (items : List (Ticket × ℕ)) (s : Slot) (seconds found : Option ℕ) → seconds_for items (remark s (extended_by t s.mark seconds)) found ≡ seconds_for items s found
  seconds-extended [] s seconds found = refl
  seconds-extended (x ∷ xs) s seconds found =
      seconds-extended xs s seconds (if nat_eq s.item.number x.0.number && is_out x.0.lease (extended_by t s.mark seconds) then Some x.1 else found)
      ∙ ap (λ (b : Bool). seconds_for xs s (if nat_eq s.item.number x.0.number && b then Some x.1 else found)) (out-extended x.0.lease s.mark seconds)

  module _ (items : List (Ticket × ℕ)) where
    gives : Slot → Bool
    gives = is_given_up items

    after : Slot → Slot
    after s = remark s (extended_mark t items s)

    gives-after : (s : Slot) → is_given_up items (remark s (extended_mark t items s)) ≡ is_given_up items s
    gives-after s = ap is_zero (seconds-extended items s (seconds_for items s None) None)

    earlier-after : (ordering : Bool) (slots : List Slot) (s : Slot) (mark : Mark)
        → any_earlier ordering (is_given_up items) (remarked (extended_mark t items) slots) (remark s mark) ≡ any_earlier ordering (is_given_up items) slots s
    earlier-after ordering [] s mark = refl
    earlier-after ordering (e ∷ es) s mark = λ i. (is_earlier ordering e s && gives-after e i) || earlier-after ordering es s mark i

    module _ (forward : Bool) (config : SubConfig) where
      pub one-modified : (slots : List Slot) (s : Slot)
          → (let m : Mark = extended_mark t items s in
          if is_given_up items (remark s m) then failed t forward config m
          else if any_earlier config.ordering (is_given_up items) (remarked (extended_mark t items) slots) (remark s m) then fallen m else m)
          ≡ modified_mark t forward config items slots s
      one-modified slots s =
          let m : Mark = extended_mark t items s in
          λ i. if gives-after s i then failed t forward config m else if earlier-after config.ordering slots s m i then fallen m else m

      all-modified : (all slots : List Slot)
          → remarked (λ s. let m : Mark = extended_mark t items s in
          if is_given_up items (remark s m) then failed t forward config m
          else if any_earlier config.ordering (is_given_up items) (remarked (extended_mark t items) all) (remark s m) then fallen m else m) slots
          ≡ remarked (modified_mark t forward config items all) slots
      all-modified all [] = refl
      all-modified all (s ∷ ss) = λ i. remark s (one-modified all s i) ∷ all-modified all ss i

-- a change of deadlines gives each slot one new mark
pub modify-is : (t : ℕ) (forward : Bool) (config : SubConfig) (items : List (Ticket × ℕ)) (slots : List Slot) → modify t forward config items slots ≡ remarked (modified_mark t forward config items slots) slots
modify-is t forward config items slots = remarked-twice _ (extended_mark t items) slots ∙ all-modified t items forward config slots slots

-- ---- dead letters

letter-set : (t : ℕ) (fails : Slot → Bool) (forward : Bool) (config : SubConfig) (mark : Mark) (seconds : Option ℕ) (s : Slot) → dead_letter fails forward config (extended_by t mark seconds) s ≡ dead_letter fails forward config mark s
letter-set t fails forward config mark None s = refl
letter-set t fails forward config mark (Some seconds) s =
    cond_both (nat_eq seconds 0) mark (set_deadline (t + 1000 * seconds) mark) (λ m. dead_letter fails forward config m s ≡ dead_letter fails forward config mark s) (λ e. refl) (λ e. set mark)
  where
    set : (m : Mark) → dead_letter fails forward config (set_deadline (t + 1000 * seconds) m) s ≡ dead_letter fails forward config m s
    set (Leased failures lease before) = refl
    set (Backlog failures until last) = refl
    set (Ahead failures) = refl
    set (Done cause) = refl
    set (Gone cause) = refl

letter-by : (fails : Slot → Bool) (forward : Bool) (config : SubConfig) (mark : Mark) (s : Slot) (b : Bool) → fails s ≡ b → dead_letter fails forward config mark s ≡ (if b then dead_letter (λ _. true) forward config mark s else None)
letter-by fails forward config (Leased failures lease deadline) s true h = rw h refl
letter-by fails forward config (Leased failures lease deadline) s false h = rw h refl
letter-by fails forward config (Backlog failures until last) s b h = cond_both b None None (λ o. None ≡ o) (λ e. refl) (λ e. refl)
letter-by fails forward config (Ahead failures) s b h = cond_both b None None (λ o. None ≡ o) (λ e. refl) (λ e. refl)
letter-by fails forward config (Done cause) s b h = cond_both b None None (λ o. None ≡ o) (λ e. refl) (λ e. refl)
letter-by fails forward config (Gone cause) s b h = cond_both b None None (λ o. None ≡ o) (λ e. refl) (λ e. refl)

-- a letter names the message's number alone
letter-number : (forward : Bool) (config : SubConfig) (mark : Mark) (s : Slot) (other : Mark) → dead_letter (λ _. true) forward config mark (remark s other) ≡ dead_letter (λ _. true) forward config mark s
letter-number forward config (Leased failures lease deadline) s other = refl
letter-number forward config (Backlog failures until last) s other = refl
letter-number forward config (Ahead failures) s other = refl
letter-number forward config (Done cause) s other = refl
letter-number forward config (Gone cause) s other = refl

-- the dead letters are those of the leases that are given up
letters-given : (t : ℕ) (forward : Bool) (config : SubConfig) (items : List (Ticket × ℕ)) (slots : List Slot)
    → filter_map (λ (s : Slot). dead_letter (λ _. true) forward config s.mark s) (filter (is_given_up items) slots) ≡ modify_dead t forward config items slots
letters-given t forward config items [] = refl
letters-given t forward config items (s ∷ ss) = by (is_given_up items s) refl (letters-given t forward config items ss)
  where
    here : (b : Bool) → is_given_up items s ≡ b
        → dead_letter (is_given_up items) forward config (extended_mark t items s) (remark s (extended_mark t items s)) ≡ (if b then dead_letter (λ _. true) forward config s.mark s else None)
    here b is =
        letter-set t (is_given_up items) forward config s.mark (seconds_for items s None) (remark s (extended_mark t items s))
        ∙ letter-by (is_given_up items) forward config s.mark (remark s (extended_mark t items s)) b (gives-after t items s ∙ is)
        ∙ ap (λ (o : Option DeadLetter). if b then o else None) (letter-number forward config s.mark s (extended_mark t items s))

    by : (b : Bool) → is_given_up items s ≡ b
        → filter_map (λ (s : Slot). dead_letter (λ _. true) forward config s.mark s) (filter (is_given_up items) ss) ≡ modify_dead t forward config items ss
        → filter_map (λ (s : Slot). dead_letter (λ _. true) forward config s.mark s) (filter (is_given_up items) (s ∷ ss)) ≡ modify_dead t forward config items (s ∷ ss)
    by true is later = rw (is, here true is, later) refl
    by false is later = rw (is, here false is) later

filter-same : (p q : Slot → Bool) → ((s : Slot) → p s ≡ q s) → (slots : List Slot) → filter p slots ≡ filter q slots
filter-same p q h [] = refl
filter-same p q h (s ∷ ss) = λ i. if h s i then s ∷ filter-same p q h ss i else filter-same p q h ss i

pub letters-are : (t : ℕ) (forward : Bool) (config : SubConfig) (items : List (Ticket × ℕ)) (seconds : BTreeMap (ℕ × ℕ) ℕ) → HasItems items seconds → (slots : List Slot)
    → filter_map (λ (s : Slot). dead_letter (λ _. true) forward config s.mark s) (filter (gives_up seconds) slots) ≡ modify_dead t forward config items slots
letters-are t forward config items seconds has slots =
    ap (filter_map (λ (s : Slot). dead_letter (λ _. true) forward config s.mark s)) (filter-same (gives_up seconds) (is_given_up items) (gives-up-is items seconds has) slots) ∙ letters-given t forward config items slots

-- ---- a change of deadlines makes nothing gone

set-live : (deadline : ℕ) (mark : Mark) → is_gone mark ≡ false → is_gone (set_deadline deadline mark) ≡ false
set-live deadline (Leased failures lease before) h = refl
set-live deadline (Backlog failures until last) h = refl
set-live deadline (Ahead failures) h = refl
set-live deadline (Done cause) h = refl
set-live deadline (Gone cause) h = h

extended-live : (t : ℕ) (mark : Mark) (seconds : Option ℕ) → is_gone mark ≡ false → is_gone (extended_by t mark seconds) ≡ false
extended-live t mark None h = h
extended-live t mark (Some seconds) h = pick-live (nat_eq seconds 0) mark (set_deadline (t + 1000 * seconds) mark) h (set-live (t + 1000 * seconds) mark h)

pub modifying-live : (t : ℕ) (forward : Bool) (config : SubConfig) (items : List (Ticket × ℕ)) (slots : List Slot) → KeepsLive (modified_mark t forward config items slots)
modifying-live t forward config items slots s h =
    let m : Mark = extended_mark t items s in
    let live : is_gone m ≡ false = extended-live t s.mark (seconds_for items s None) h in
    pick-live (is_given_up items s) (failed t forward config m) (if any_earlier config.ordering (is_given_up items) slots s then fallen m else m) (failed-live t forward config m live)
    (pick-live (any_earlier config.ordering (is_given_up items) slots s) (fallen m) m (fallen-live m live) live)
