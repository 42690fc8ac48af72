-- Tickets in sets, and the messages that they name.
use Rattle.std.proofs.Common.{ℕ, ◌≡◌, ◌≢◌, ◌+◌, ◌<◌, ◌≤◌, Bool, true, false, cond, ◌&&◌, ◌||◌, not, nat_eq, nat_lt, List, [], ◌∷◌, ◌++◌, filter, length, take, get_or, zero, suc, Option, Some, None, Result, Ok, Err, Ordering, Less, Equal, Greater, refl, sym, ◌∙◌, ap, subst, arith, if◌then◌else◌}
use Rattle.std.specs.BTreeMap.{is_at}
use Rattle.std.specs.BTreeSet.{BTreeSet, Updates, IsUnchanged, contains}
use Rattle.std.specs.List.{list_any}
use Rattle.std.specs.List.Sorted.{IsSearchInRange, IsBinarySearchResult, IsNonDecreasingBy}
use Rattle.std.specs.Option.{option_map_or}
use Rattle.std.specs.Result.{IfOk}
use Rattle.std.specs.Ordering.{is_eq, nat_cmp, ordering_index, ordering_then}
use Rattle.std.proofs.lemmas.Bool.{false≢true, and_right, or_from, or_right}
use Rattle.std.proofs.lemmas.Bool.Decides.{nat_tests}
use Rattle.std.proofs.lemmas.Cmp.{ranked}
use Rattle.std.proofs.lemmas.List.Folds.{list_any-append, list_any_more}
use Rattle.std.proofs.lemmas.List.Sorted.{IsNonDecreasingBy-from_default}
use Rattle.std.proofs.lemmas.Result.{IfOk-weaker}
use Rattle.ps_config.specs.declared.config.SubConfig.{SubConfig}
use Rattle.ps_model.specs.declared.mark.Mark.{Mark}
use Rattle.ps_model.specs.declared.mark.Mark.TheVariants.{Backlog, Leased, Ahead, Done, Gone}
use Rattle.ps_model.specs.declared.mark.DoneCause.TheVariants.{Acknowledged}
use Rattle.ps_model.specs.declared.mark.Slot.{Slot}
use Rattle.ps_model.specs.declared.mark.Ticket.{Ticket}
use Rattle.ps_model.specs.Acknowledging.{acknowledge, fits, unordered, is_early, is_good, is_named, is_unordered, mark_after_ack, may_ack, same_ticket}
use Rattle.ps_model.specs.Lists.{once, once_after}
use Rattle.ps_model.specs.Slots.{failures_of, is_out, remark, remarked}
use Rattle.ps_sub.specs.Steady.{IsAscending}
use Rattle.ps_sub.specs.Tickets.{HasTickets, ack_lease, pair_cmp, pair_of}
use Rattle.ps_sub.proofs.KeysLemmas.{at-place}
use Rattle.ps_sub.proofs.OnceLemmas.{filter-once, set-grown, set-more, set-stays}

-- ---- pairs

pub is_eq-then : (a b : Ordering) → is_eq (ordering_then a b) ≡ (is_eq a && is_eq b)
is_eq-then Less b = refl
is_eq-then Equal b = refl
is_eq-then Greater b = refl

pub is_eq-nat : (x y : ℕ) → is_eq (nat_cmp x y) ≡ nat_eq y x
is_eq-nat x y = grind (arith, nat_tests)

pub pair-same : (a b : Ticket) → is_at (pair_cmp (pair_of a)) (pair_of b) ≡ same_ticket b a
pair-same a b = is_eq-then (nat_cmp a.number b.number) (nat_cmp a.lease b.lease) ∙ (λ i. is_eq-nat a.number b.number i && is_eq-nat a.lease b.lease i)

-- one ticket more
pub tickets-more : (tickets : List Ticket) (i : ℕ) (d : Ticket) (old new : BTreeSet (ℕ × ℕ)) → i < length tickets
    → Updates pair_cmp old new (pair_of (get_or tickets i d)) true → HasTickets (take i tickets) old → HasTickets (take (i + 1) tickets) new
tickets-more tickets i d old new short puts so_far = λ q.
    set-more same_ticket pair_cmp pair_of pair-same (get_or tickets i d) q old new puts ∙ (λ j. so_far q j || same_ticket q (get_or tickets i d)) ∙ sym (list_any_more (same_ticket q) tickets i d short)

-- one ticket more of those that are kept
pub kept-more : (kept : List Ticket) (ticket : Ticket) (old new : BTreeSet (ℕ × ℕ)) → Updates pair_cmp old new (pair_of ticket) true → HasTickets kept old → HasTickets (kept ++ ticket ∷ []) new
kept-more kept ticket old new puts so_far = set-grown same_ticket pair_cmp pair_of pair-same kept ticket old new puts so_far

pub kept-unchanged : (kept : List Ticket) (old new : BTreeSet (ℕ × ℕ)) → IsUnchanged old new → HasTickets kept old → HasTickets kept new
kept-unchanged kept old new same so_far = set-stays same_ticket pair_cmp pair_of pair-same kept old new same so_far

-- what was added was new, and what wasn't added was there
pub was-new : (added there : Bool) → added ≡ not there → added ≡ true → there ≡ false
was-new added true is e = absurd (false≢true (sym is ∙ e))
was-new added false is e = refl

pub was-there : (added there : Bool) → added ≡ not there → added ≡ false → there ≡ true
was-there added true is e = refl
was-there added false is e = absurd (false≢true (sym e ∙ is))

-- ---- which tickets name a message

pub no-ticket : (number : ℕ) (tickets : List Ticket) → list_any (λ (t : Ticket). nat_eq number t.number && false) tickets ≡ false
no-ticket number [] = refl
no-ticket number (t ∷ ts) = or_from _ _ (and_right (nat_eq number t.number) false refl) (no-ticket number ts)

pub named-by : (exactly_once : Bool) (number : ℕ) (mark : Mark) (tickets : List Ticket)
    → option_map_or (λ lease. list_any (same_ticket (record { number = number; lease = lease })) tickets) (ack_lease exactly_once mark) false ≡ list_any (λ (t : Ticket). nat_eq number t.number && may_ack exactly_once t.lease mark) tickets
named-by exactly_once number (Leased failures lease deadline) tickets = refl
named-by true number (Backlog failures until last) tickets = sym (no-ticket number tickets)
named-by false number (Backlog failures until None) tickets = sym (no-ticket number tickets)
named-by false number (Backlog failures until (Some lease)) tickets = refl
named-by exactly_once number (Ahead failures) tickets = sym (no-ticket number tickets)
named-by exactly_once number (Done cause) tickets = sym (no-ticket number tickets)
named-by exactly_once number (Gone cause) tickets = sym (no-ticket number tickets)

-- ---- the message with a number

module _ (n : ℕ) (test : Slot → Bool) where
  above-none : (x : ℕ) (xs : List Slot) → n ≤ x → ((k : ℕ) (d : Slot) → k < length xs → x < (get_or xs k d).item.number) → list_any (λ (s : Slot). nat_eq s.item.number n && test s) xs ≡ false
  above-none x [] least h = refl
  above-none x (s ∷ ss) least h =
      let other : nat_eq s.item.number n ≡ false = grind (arith, nat_tests, h 0 s (omega arith)) in
      or_from _ _ (ap (λ (b : Bool). b && test s) other) (above-none x ss least (λ k d short. h (suc k) d (omega (arith, short))))

  pub found-at : (xs : List Slot) → IsAscending xs → (at : ℕ) (d : Slot) → at < length xs → (get_or xs at d).item.number ≡ n → list_any (λ (s : Slot). nat_eq s.item.number n && test s) xs ≡ test (get_or xs at d)
  found-at [] h at d short is = absurd (omega (arith, short))
  found-at (x ∷ xs) h zero d short is =
      let same : nat_eq x.item.number n ≡ true = grind (arith, nat_tests, is) in
      let rest = above-none x.item.number xs (omega (arith, is)) (λ k e short. at-place (λ (s : Slot). x.item.number < s.item.number) xs k e h.0 short) in
      (λ i. (same i && test x) || rest i) ∙ tail (test x)
    where
      tail : (b : Bool) → (b || false) ≡ b
      tail true = refl
      tail false = refl
  found-at (x ∷ xs) h (suc at) d short is =
      let short-there : at < length xs = omega (arith, short) in
      let other : nat_eq x.item.number n ≡ false = grind (arith, nat_tests, is, at-place (λ (s : Slot). x.item.number < s.item.number) xs at d h.0 short-there) in
      (λ i. (other i && test x) || found-at xs h.1 at d short-there is i)

  pub absent-all : (xs : List Slot) → ((k : ℕ) (d : Slot) → k < length xs → (get_or xs k d).item.number ≢ n) → list_any (λ (s : Slot). nat_eq s.item.number n && test s) xs ≡ false
  absent-all [] h = refl
  absent-all (x ∷ xs) h =
      let other : nat_eq x.item.number n ≡ false = grind (arith, nat_tests, h 0 x (omega arith)) in
      or_from _ _ (ap (λ (b : Bool). b && test x) other) (absent-all xs (λ k d short. h (suc k) d (omega (arith, short))))

some-slot : Slot
some-slot = record { item = record { number = 0; publish = 0; key = []; size = 0 }; mark = Ahead 0 }

rising : (xs : List Slot) → IsAscending xs → (i j : ℕ) (d : Slot) → i ≤ j → j < length xs → (get_or xs i d).item.number ≤ (get_or xs j d).item.number
rising [] h i j d le short = absurd (omega (arith, short))
rising (x ∷ xs) h zero zero d le short = omega arith
rising (x ∷ xs) h zero (suc j) d le short = omega (arith, at-place (λ (s : Slot). x.item.number < s.item.number) xs j d h.0 (omega (arith, short)))
rising (x ∷ xs) h (suc i) zero d le short = absurd (omega (arith, le))
rising (x ∷ xs) h (suc i) (suc j) d le short = rising xs h.1 i j d (omega (arith, le)) (omega (arith, short))

module _ (slots : List Slot) (ascending : IsAscending slots) (n : ℕ) where
  comparisons-rise : IsNonDecreasingBy (λ (s : Slot). ordering_index (nat_cmp s.item.number n)) slots
  comparisons-rise = IsNonDecreasingBy-from_default (λ (s : Slot). ordering_index (nat_cmp s.item.number n)) slots some-slot (λ i j le short.
      let rise = rising slots ascending i j some-slot le short in
      grind (arith, nat_tests, rise))

  -- a search ends at the message with the number
  pub place-found : (at : ℕ) → IsBinarySearchResult (λ (s : Slot). nat_cmp s.item.number n) slots (Ok at) → (d : Slot) → (get_or slots at d).item.number ≡ n
  place-found at equal d = ranked _ n _ (sym (equal d))

  -- or there is none
  pub place-absent : (at : ℕ) → IsBinarySearchResult (λ (s : Slot). nat_cmp s.item.number n) slots (Err at) → (k : ℕ) (d : Slot) → k < length slots → (get_or slots k d).item.number ≢ n
  place-absent at parted k d short = λ same. by (nat_lt k at) refl same
    where
      by : (b : Bool) → nat_lt k at ≡ b → (get_or slots k d).item.number ≡ n → ⊥
      by true before same =
          let less = ranked _ n _ (sym ((parted comparisons-rise).0 k d (omega arith) (grind (arith, nat_tests, before)))) in
          omega (arith, less, same)
      by false after same =
          let more = ranked _ n _ (sym ((parted comparisons-rise).1 k d (grind (arith, nat_tests, after)) short)) in
          omega (arith, more, same)

-- ---- living leases

out-acks : (lease : ℕ) (mark : Mark) → is_out lease mark ≡ may_ack true lease mark
out-acks lease (Leased failures own deadline) = refl
out-acks lease (Backlog failures until last) = refl
out-acks lease (Ahead failures) = refl
out-acks lease (Done cause) = refl
out-acks lease (Gone cause) = refl

pub good-out : (ticket : Ticket) (slots : List Slot) → list_any (λ (s : Slot). nat_eq s.item.number ticket.number && is_out ticket.lease s.mark) slots ≡ is_good true slots ticket
good-out ticket [] = refl
good-out ticket (s ∷ ss) = λ i. (nat_eq s.item.number ticket.number && out-acks ticket.lease s.mark i) || good-out ticket ss i

-- ---- after an acknowledgement in exactly-once mode the tickets that still name a living lease are those before their turn

fitting-named : (tickets : List Ticket) (ticket : Ticket) (s : Slot) → list_any (same_ticket ticket) tickets ≡ true → fits true ticket s ≡ true → is_named true tickets s ≡ true
fitting-named [] ticket s among good = absurd (false≢true among)
fitting-named (t ∷ ts) ticket s among good = by (same_ticket ticket t) refl (λ later. fitting-named ts ticket s later good)
  where
    exact : (a b c d : ℕ) → (nat_eq a c && nat_eq b d) ≡ true → (a ≡ c) × (b ≡ d)
    exact a b c d h = grind (arith, nat_tests, h)

    by : (b : Bool) → same_ticket ticket t ≡ b → (list_any (same_ticket ticket) ts ≡ true → is_named true ts s ≡ true) → (fits true t s || is_named true ts s) ≡ true
    by true same later =
        let parts = exact ticket.number ticket.lease t.number t.lease same in
        let here : fits true t s ≡ true = (λ i. nat_eq s.item.number (sym parts.0 i) && may_ack true (sym parts.1 i) s.mark) ∙ good in
        ap (λ (b : Bool). b || is_named true ts s) here
    by false other later =
        let named = later (ap (λ (b : Bool). b || list_any (same_ticket ticket) ts) (sym other) ∙ among) in
        ap (λ (b : Bool). fits true t s || b) named ∙ or_right (fits true t s) true refl

after-mark : (number lease : ℕ) (named early : Bool) (s : Slot) → ((nat_eq s.item.number number && may_ack true lease s.mark) ≡ true → named ≡ true)
    → (nat_eq s.item.number number && may_ack true lease (if named then (if early then s.mark else Done Acknowledged) else s.mark)) ≡ ((nat_eq s.item.number number && may_ack true lease s.mark) && early)
after-mark number lease true true s h = whole (nat_eq s.item.number number && may_ack true lease s.mark)
  where
    whole : (b : Bool) → b ≡ (b && true)
    whole true = refl
    whole false = refl
after-mark number lease true false s h = and_right (nat_eq s.item.number number) false refl ∙ sym (and_right (nat_eq s.item.number number && may_ack true lease s.mark) false refl)
after-mark number lease false early s h = by (nat_eq s.item.number number && may_ack true lease s.mark) refl
  where
    by : (b : Bool) → (nat_eq s.item.number number && may_ack true lease s.mark) ≡ b → (nat_eq s.item.number number && may_ack true lease s.mark) ≡ ((nat_eq s.item.number number && may_ack true lease s.mark) && early)
    by true is = absurd (false≢true (h is))
    by false is = is ∙ sym (ap (λ (b : Bool). b && early) is)

module _ (config : SubConfig) (once : config.exactly_once ≡ true) (tickets : List Ticket) (all : List Slot) where
  one-after : (ticket : Ticket) (s : Slot) → list_any (same_ticket ticket) tickets ≡ true → fits true ticket (remark s (mark_after_ack config tickets all s)) ≡ (fits config.exactly_once ticket s && is_early config tickets all s)
  one-after ticket s among =
      let early = is_early config tickets all s in
      (λ i. nat_eq s.item.number ticket.number && may_ack true ticket.lease (if is_named (once i) tickets s then (if early then (if once i then s.mark else Ahead (failures_of s.mark)) else Done Acknowledged) else s.mark))
      ∙ after-mark ticket.number ticket.lease (is_named true tickets s) early s (fitting-named tickets ticket s among)
      ∙ (λ i. fits (sym once i) ticket s && early)

  pub still-good : (ticket : Ticket) (slots : List Slot) → list_any (same_ticket ticket) tickets ≡ true
      → is_good true (remarked (mark_after_ack config tickets all) slots) ticket ≡ list_any (λ (s : Slot). fits config.exactly_once ticket s && is_early config tickets all s) slots
  still-good ticket [] among = refl
  still-good ticket (s ∷ ss) among = λ i. one-after ticket s among i || still-good ticket ss among i

own-ticket : (t : Ticket) → same_ticket t t ≡ true
own-ticket t = grind (arith, nat_tests)

pub unordered-after : (config : SubConfig) (tickets : List Ticket) (slots : List Slot) → config.exactly_once ≡ true
    → filter (is_good true (acknowledge config tickets slots)) (once_after same_ticket [] tickets) ≡ filter (is_unordered config tickets slots) (once_after same_ticket [] tickets)
unordered-after config tickets slots once = filter-once same_ticket own-ticket _ _ [] tickets (λ t among. still-good config once tickets slots t slots among)

-- the tickets that still name a living lease are the early ones
pub early-are : {E : Type 0} (config : SubConfig) (tickets kept : List Ticket) (after : List Slot) → config.exactly_once ≡ true → kept ≡ once same_ticket tickets → (r : Result (List Ticket) E)
    → IfOk r (λ early. early ≡ filter (is_good true after) kept) → IfOk r (λ early. (slots : List Slot) → after ≡ acknowledge config tickets slots → early ≡ unordered config slots tickets)
early-are config tickets kept after exactly is r =
    IfOk-weaker r (λ early. early ≡ filter (is_good true after) kept) (λ early. (slots : List Slot) → after ≡ acknowledge config tickets slots → early ≡ unordered config slots tickets)
    (λ early told slots same.
    told ∙ (λ i. filter (is_good true (same i)) (is i)) ∙ unordered-after config tickets slots exactly
    ∙ ap (λ (b : Bool). if b then filter (is_unordered config tickets slots) (once same_ticket tickets) else []) (sym exactly))
