-- Slots that enter subscriptions, in the flat list of marks and in each subscription's own.
use Rattle.std.proofs.Common.{ℕ, ◌≡◌, ◌<◌, ◌≤◌, List, [], ◌∷◌, ◌++◌, append-nil, append_assoc, map, flat_map, refl, sym, ◌∙◌, ap, arith}
use Rattle.std.specs.List.{AllByRecursion}
use Rattle.std.proofs.lemmas.Bool.{le-ltb, lt-ltb}
use Rattle.std.proofs.lemmas.List.{map-append}
use Rattle.ps_model.specs.declared.mark.Slot.{Slot}
use Rattle.ps_model.specs.declared.world.MarkRow.{MarkRow}
use Rattle.ps_model.specs.Sound.{Ordered}
use Rattle.ps_model.specs.Worlds.{row_of}
use Rattle.ps_model.specs.Forwarding.{enter, enter_all}
use Rattle.ps_base.proofs.Lists.{each-append, each-then}

-- the first rows enter first
pub enter-all-append : (first second marks : List MarkRow) → enter_all (first ++ second) marks ≡ enter_all second (enter_all first marks)
enter-all-append [] second marks = refl
enter-all-append (r ∷ rs) second marks = enter-all-append rs second (enter r marks)

-- a row passes those of subscriptions that don't come after its own
pub enter-over : (r : MarkRow) (n : ℕ) (ss : List Slot) (rest : List MarkRow) → n ≤ r.sub → enter r (map (row_of n) ss ++ rest) ≡ map (row_of n) ss ++ enter r rest
enter-over r n [] rest h = refl
enter-over r n (s ∷ ss) rest h = rw (le-ltb r.sub n h) (ap (λ (rows : List MarkRow). row_of n s ∷ rows) (enter-over r n ss rest h))

-- a row stands before those of later subscriptions
pub enter-here : (r : MarkRow) (rest : List MarkRow) → AllByRecursion (λ (x : MarkRow). r.sub < x.sub) rest → enter r rest ≡ r ∷ rest
enter-here r [] h = refl
enter-here r (x ∷ xs) h = rw (lt-ltb r.sub x.sub h.0) refl

enter-all-over : (n : ℕ) (ss : List Slot) (rs rest : List MarkRow) → AllByRecursion (λ (r : MarkRow). n ≤ r.sub) rs → enter_all rs (map (row_of n) ss ++ rest) ≡ map (row_of n) ss ++ enter_all rs rest
enter-all-over n ss [] rest h = refl
enter-all-over n ss (r ∷ rs) rest h = ap (enter_all rs) (enter-over r n ss rest h.0) ∙ enter-all-over n ss rs (enter r rest) h.1

-- one slot more of one subscription
enter-one : (n : ℕ) (ss : List Slot) (s : Slot) (rest : List MarkRow) → AllByRecursion (λ (x : MarkRow). n < x.sub) rest → enter (row_of n s) (map (row_of n) ss ++ rest) ≡ map (row_of n) (ss ++ s ∷ []) ++ rest
enter-one n ss s rest h =
    enter-over (row_of n s) n ss rest (omega arith)
    ∙ ap (λ (rows : List MarkRow). map (row_of n) ss ++ rows) (enter-here (row_of n s) rest h)
    ∙ sym (ap (λ (rows : List MarkRow). rows ++ rest) (map-append (row_of n) ss (s ∷ [])) ∙ append_assoc (map (row_of n) ss) (row_of n s ∷ []) rest)

-- the new slots of one subscription stand behind those that it had
enter-own : (n : ℕ) (old new : List Slot) (rest : List MarkRow) → AllByRecursion (λ (x : MarkRow). n < x.sub) rest → enter_all (map (row_of n) new) (map (row_of n) old ++ rest) ≡ map (row_of n) (old ++ new) ++ rest
enter-own n old [] rest h = ap (λ (ss : List Slot). map (row_of n) ss ++ rest) (sym (append-nil old))
enter-own n old (s ∷ ss) rest h =
    ap (enter_all (map (row_of n) ss)) (enter-one n old s rest h)
    ∙ enter-own n (old ++ s ∷ []) ss rest h
    ∙ ap (λ (slots : List Slot). map (row_of n) slots ++ rest) (append_assoc old (s ∷ []) ss)

rows-above : (n k : ℕ) (ss : List Slot) → n < k → AllByRecursion (λ (r : MarkRow). n < r.sub) (map (row_of k) ss)
rows-above n k [] h = tt
rows-above n k (s ∷ ss) h = (h, rows-above n k ss h)

module _ {A : Type 0} (number : A → ℕ) where
  abbrev pub flat : (A → List Slot) → List A → List MarkRow
  flat slots xs = flat_map (λ (x : A). map (row_of (number x)) (slots x)) xs

  flat-above : (slots : A → List Slot) (n : ℕ) (xs : List A) → AllByRecursion (λ (x : A). n < number x) xs → AllByRecursion (λ (r : MarkRow). n < r.sub) (flat slots xs)
  flat-above slots n [] h = tt
  flat-above slots n (x ∷ xs) h = each-append (λ (r : MarkRow). n < r.sub) (map (row_of (number x)) (slots x)) (flat slots xs) (rows-above n (number x) (slots x) h.0) (flat-above slots n xs h.1)

  -- where numbers ascend, new slots of each subscription enter behind those that it had
  pub enter-flat : (slots new : A → List Slot) (xs : List A) → Ordered (λ (x y : A). number x < number y) xs → enter_all (flat new xs) (flat slots xs) ≡ flat (λ (x : A). slots x ++ new x) xs
  enter-flat slots new [] h = refl
  enter-flat slots new (x ∷ xs) h =
      let n : ℕ = number x in
      enter-all-append (map (row_of n) (new x)) (flat new xs) (map (row_of n) (slots x) ++ flat slots xs)
      ∙ ap (enter_all (flat new xs)) (enter-own n (slots x) (new x) (flat slots xs) (flat-above slots n xs h.0))
      ∙ enter-all-over n (slots x ++ new x) (flat new xs) (flat slots xs)
      (each-then (λ (r : MarkRow). n < r.sub) (λ (r : MarkRow). n ≤ r.sub) (flat new xs) (λ r k. omega (arith, k)) (flat-above new n xs h.0))
      ∙ ap (λ (rows : List MarkRow). map (row_of n) (slots x ++ new x) ++ rows) (enter-flat slots new xs h.1)
