-- Ids that are told of, each once, by the leases that they name.
use Rattle.std.proofs.Common.{ℕ, ◌≡◌, Bool, true, false, cond, ◌&&◌, ◌||◌, not, nat_eq, List, [], ◌∷◌, ◌++◌, map, filter, refl, sym, ap, subst, ◌∙◌, arith, if◌then◌else◌}
use Rattle.std.specs.BTreeMap.{is_at}
use Rattle.std.specs.BTreeSet.{BTreeSet, Updates, IsUnchanged, contains}
use Rattle.std.specs.Ordering.{nat_cmp}
use Rattle.std.specs.List.{list_any}
use Rattle.std.proofs.lemmas.Bool.{false≢true, or_right, or_from, and_right}
use Rattle.std.proofs.lemmas.Bool.Decides.{nat_tests}
use Rattle.ps_base.specs.declared.ack_id.AckId.{AckId}
use Rattle.ps_model.specs.declared.mark.Ticket.{Ticket}
use Rattle.ps_model.specs.Acknowledging.{same_ticket}
use Rattle.ps_model.specs.Answering.{same_id, ticket_of}
use Rattle.ps_model.specs.Lists.{once, once_after}
use Rattle.ps_sub.proofs.OnceLemmas.{filter-once, set-grown, set-stays}
use Rattle.ps_sub.proofs.TicketLemmas.{is_eq-nat, is_eq-then, pair-same}
use Rattle.ps_sub.specs.Tickets.{HasTickets, pair_cmp, pair_of}
use Rattle.ps_core.specs.Delivering.{HasIds, is_named, is_unknown, item_of, items_of, tickets_of, triple_cmp, triple_of}

abbrev own : ℕ → AckId → Bool
own n id = nat_eq id.sub n

own-id : (id : AckId) → same_id id id ≡ true
own-id id = grind (arith, nat_tests)

same-tickets : (t u : Ticket) → same_ticket t u ≡ true → t ≡ u
same-tickets t u h = let parts = exact t.number t.lease u.number u.lease h in λ i. record { number = parts.0 i; lease = parts.1 i }
  where
    exact : (a b c d : ℕ) → (nat_eq a c && nat_eq b d) ≡ true → (a ≡ c) × (b ≡ d)
    exact a b c d h = grind (arith, nat_tests, h)

-- ---- what is kept once is what is there

once-has : (seen xs : List Ticket) (t : Ticket) → list_any (same_ticket t) seen ≡ false → list_any (same_ticket t) (once_after same_ticket seen xs) ≡ list_any (same_ticket t) xs
once-has seen [] t fresh = refl
once-has seen (x ∷ xs) t fresh = by (list_any (same_ticket x) seen) refl (same_ticket t x) refl (once-has seen xs t fresh) (λ other. once-has (x ∷ seen) xs t (or_from (same_ticket t x) (list_any (same_ticket t) seen) other fresh))
  where
    by : (was : Bool) → list_any (same_ticket x) seen ≡ was → (here : Bool) → same_ticket t x ≡ here
        → list_any (same_ticket t) (once_after same_ticket seen xs) ≡ list_any (same_ticket t) xs
        → (same_ticket t x ≡ false → list_any (same_ticket t) (once_after same_ticket (x ∷ seen) xs) ≡ list_any (same_ticket t) xs)
        → list_any (same_ticket t) (if was then once_after same_ticket seen xs else x ∷ once_after same_ticket (x ∷ seen) xs) ≡ (same_ticket t x || list_any (same_ticket t) xs)
    by true there true same skipped kept = absurd (false≢true (sym fresh ∙ ap (λ (u : Ticket). list_any (same_ticket u) seen) (same-tickets t x same) ∙ there))
    by true there false other skipped kept = skipped ∙ ap (λ (b : Bool). b || list_any (same_ticket t) xs) (sym other)
    by false new true same skipped kept = ap (λ (b : Bool). b || list_any (same_ticket t) (once_after same_ticket (x ∷ seen) xs)) same ∙ ap (λ (b : Bool). b || list_any (same_ticket t) xs) (sym same)
    by false new false other skipped kept = λ i. same_ticket t x || kept other i

passing : (p : Ticket → Bool) (xs : List Ticket) (t : Ticket) → list_any (same_ticket t) (filter p xs) ≡ (p t && list_any (same_ticket t) xs)
passing p [] t = sym (and_right (p t) false refl)
passing p (x ∷ xs) t = by (p x) refl (same_ticket t x) refl (passing p xs t)
  where
    by : (passes : Bool) → p x ≡ passes → (here : Bool) → same_ticket t x ≡ here → list_any (same_ticket t) (filter p xs) ≡ (p t && list_any (same_ticket t) xs)
        → list_any (same_ticket t) (cond (p x) (x ∷ filter p xs) (filter p xs)) ≡ (p t && (same_ticket t x || list_any (same_ticket t) xs))
    by true holds true same rest =
        let good : p t ≡ true = ap p (same-tickets t x same) ∙ holds in
        rw (holds, same, good) refl
    by true holds false other rest = rw (holds, other) rest
    by false fails true same rest =
        let bad : p t ≡ false = ap p (same-tickets t x same) ∙ fails in
        rw (fails, same, bad) (rest ∙ ap (λ (b : Bool). b && list_any (same_ticket t) xs) bad)
    by false fails false other rest = rw (fails, other) rest

-- a ticket of the request is among those that pass, kept once, exactly if it passes
passing-once : (p : Ticket → Bool) (tickets : List Ticket) (t : Ticket) → list_any (same_ticket t) tickets ≡ true → list_any (same_ticket t) (filter p (once same_ticket tickets)) ≡ p t
passing-once p tickets t among =
    passing p (once same_ticket tickets) t ∙ ap (λ (b : Bool). p t && b) (once-has [] tickets t refl ∙ among) ∙ whole (p t)
  where
    whole : (b : Bool) → (b && true) ≡ b
    whole true = refl
    whole false = refl

-- the ticket of an id of the request is among its tickets
ticket-among : (n : ℕ) (ids : List AckId) (id : AckId) → own n id ≡ true → list_any (same_id id) ids ≡ true → list_any (same_ticket (ticket_of id)) (tickets_of n ids) ≡ true
ticket-among n [] id mine among = absurd (false≢true among)
ticket-among n (x ∷ xs) id mine among = by (same_id id x) refl (ticket-among n xs id mine)
  where
    exact : (a b c d e f : ℕ) → (nat_eq a d && (nat_eq b e && nat_eq c f)) ≡ true → (a ≡ d) × ((nat_eq b e && nat_eq c f) ≡ true)
    exact a b c d e f h = grind (arith, nat_tests, h)

    rest : List Ticket
    rest = tickets_of n xs

    more : (b : Bool) → list_any (same_ticket (ticket_of id)) rest ≡ true → list_any (same_ticket (ticket_of id)) (map ticket_of (cond b (x ∷ filter (λ (y : AckId). nat_eq y.sub n) xs) (filter (λ (y : AckId). nat_eq y.sub n) xs))) ≡ true
    more true h = ap (λ (b : Bool). same_ticket (ticket_of id) (ticket_of x) || b) h ∙ or_right (same_ticket (ticket_of id) (ticket_of x)) true refl
    more false h = h

    by : (b : Bool) → same_id id x ≡ b → (list_any (same_id id) xs ≡ true → list_any (same_ticket (ticket_of id)) rest ≡ true) → list_any (same_ticket (ticket_of id)) (tickets_of n (x ∷ xs)) ≡ true
    by true same later =
        let parts = exact id.sub id.message id.lease x.sub x.message x.lease same in
        let here : nat_eq x.sub n ≡ true = ap (λ (k : ℕ). nat_eq k n) (sym parts.0) ∙ mine in
        rw (here, parts.1) refl
    by false other later = more (nat_eq x.sub n) (later (ap (λ (b : Bool). b || list_any (same_id id) xs) (sym other) ∙ among))

-- the ids that name another subscription or no good lease
pub unknown-are : (good : Ticket → Bool) (n : ℕ) (ids : List AckId)
    → filter (is_unknown n (filter (λ (t : Ticket). not (good t)) (once same_ticket (tickets_of n ids)))) (once same_id ids) ≡ filter (λ (id : AckId). not (nat_eq id.sub n && good (ticket_of id))) (once same_id ids)
unknown-are good n ids =
    filter-once same_id own-id (is_unknown n (filter (λ (t : Ticket). not (good t)) (once same_ticket (tickets_of n ids)))) (λ (id : AckId). not (nat_eq id.sub n && good (ticket_of id))) [] ids
    (λ id among. by id among (nat_eq id.sub n) refl)
  where
    by : (id : AckId) → list_any (same_id id) ids ≡ true → (b : Bool) → nat_eq id.sub n ≡ b
        → is_unknown n (filter (λ (t : Ticket). not (good t)) (once same_ticket (tickets_of n ids))) id ≡ not (nat_eq id.sub n && good (ticket_of id))
    by id among true mine = rw mine (passing-once (λ (t : Ticket). not (good t)) (tickets_of n ids) (ticket_of id) (ticket-among n ids id mine among))
    by id among false other = rw other refl

-- the ids that name a lease of these
pub named-are : (p : Ticket → Bool) (n : ℕ) (ids : List AckId)
    → filter (is_named n (filter p (once same_ticket (tickets_of n ids)))) (once same_id ids) ≡ filter (λ (id : AckId). nat_eq id.sub n && p (ticket_of id)) (once same_id ids)
named-are p n ids =
    filter-once same_id own-id (is_named n (filter p (once same_ticket (tickets_of n ids)))) (λ (id : AckId). nat_eq id.sub n && p (ticket_of id)) [] ids
    (λ id among. by id among (nat_eq id.sub n) refl)
  where
    by : (id : AckId) → list_any (same_id id) ids ≡ true → (b : Bool) → nat_eq id.sub n ≡ b
        → is_named n (filter p (once same_ticket (tickets_of n ids))) id ≡ (nat_eq id.sub n && p (ticket_of id))
    by id among true mine = rw mine (passing-once p (tickets_of n ids) (ticket_of id) (ticket-among n ids id mine among))
    by id among false other = rw other refl

-- the tickets of the items are those of their ids
pub items-tickets : (n : ℕ) (items : List (AckId × ℕ)) → map (λ (x : Ticket × ℕ). x.0) (items_of n items) ≡ tickets_of n (map (λ (x : AckId × ℕ). x.0) items)
items-tickets n [] = refl
items-tickets n (x ∷ xs) = by (nat_eq x.0.sub n) (items-tickets n xs)
  where
    by : (b : Bool) → map (λ (y : Ticket × ℕ). y.0) (items_of n xs) ≡ tickets_of n (map (λ (y : AckId × ℕ). y.0) xs)
        → map (λ (y : Ticket × ℕ). y.0) (map item_of (cond b (x ∷ filter (λ (y : AckId × ℕ). nat_eq y.0.sub n) xs) (filter (λ (y : AckId × ℕ). nat_eq y.0.sub n) xs)))
        ≡ map ticket_of (cond b (x.0 ∷ filter (λ (y : AckId). nat_eq y.sub n) (map (λ (y : AckId × ℕ). y.0) xs)) (filter (λ (y : AckId). nat_eq y.sub n) (map (λ (y : AckId × ℕ). y.0) xs)))
    by true rest = ap (λ (ts : List Ticket). ticket_of x.0 ∷ ts) rest
    by false rest = rest

-- ---- ids in a set

triple-same : (a b : AckId) → is_at (triple_cmp (triple_of a)) (triple_of b) ≡ same_id b a
triple-same a b = is_eq-then (nat_cmp a.sub b.sub) (pair_cmp (a.message, a.lease) (b.message, b.lease)) ∙ (λ i. is_eq-nat a.sub b.sub i && pair-same (ticket_of a) (ticket_of b) i)

-- one id more of those that are kept
pub ids-more : (kept : List AckId) (id : AckId) (old new : BTreeSet (ℕ × (ℕ × ℕ))) → Updates triple_cmp old new (triple_of id) true → HasIds kept old → HasIds (kept ++ id ∷ []) new
ids-more kept id old new puts so_far = set-grown same_id triple_cmp triple_of triple-same kept id old new puts so_far

pub ids-unchanged : (kept : List AckId) (old new : BTreeSet (ℕ × (ℕ × ℕ))) → IsUnchanged old new → HasIds kept old → HasIds kept new
ids-unchanged kept old new same so_far = set-stays same_id triple_cmp triple_of triple-same kept old new same so_far

-- ---- what is told

-- in exactly-once mode, of the leases that are no good
pub told-unknown : (good : Ticket → Bool) (exactly_once : Bool) (n : ℕ) (ids : List AckId) (named : List Ticket) → named ≡ (if exactly_once then filter (λ (t : Ticket). not (good t)) (once same_ticket (tickets_of n ids)) else [])
    → (if exactly_once then filter (is_unknown n named) (once same_id ids) else []) ≡ (if exactly_once then filter (λ (id : AckId). not (nat_eq id.sub n && good (ticket_of id))) (once same_id ids) else [])
told-unknown good true n ids named are = ap (λ (ts : List Ticket). filter (is_unknown n ts) (once same_id ids)) are ∙ unknown-are good n ids
told-unknown good false n ids named are = refl

-- of the leases of which p holds
pub told-named : (p : Ticket → Bool) (exactly_once : Bool) (n : ℕ) (ids : List AckId) (named : List Ticket) → named ≡ (if exactly_once then filter p (once same_ticket (tickets_of n ids)) else [])
    → (if exactly_once then filter (is_named n named) (once same_id ids) else []) ≡ (if exactly_once then filter (λ (id : AckId). nat_eq id.sub n && p (ticket_of id)) (once same_id ids) else [])
told-named p true n ids named are = ap (λ (ts : List Ticket). filter (is_named n ts) (once same_id ids)) are ∙ named-are p n ids
told-named p false n ids named are = refl

-- a set of the leases asks the same of an id
pub unknown-in-set : (n : ℕ) (named : List Ticket) (pairs : BTreeSet (ℕ × ℕ)) → HasTickets named pairs → (ids : List AckId)
    → filter (λ (id : AckId). not (nat_eq id.sub n) || contains pair_cmp pairs (pair_of (ticket_of id))) ids ≡ filter (is_unknown n named) ids
unknown-in-set n named pairs has ids = λ i. filter (λ (id : AckId). not (nat_eq id.sub n) || has (ticket_of id) i) ids
