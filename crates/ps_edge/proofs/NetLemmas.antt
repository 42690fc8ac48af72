-- Links that are dealt to doors.
use Rattle.std.proofs.Common.{◌≡◌, ◌<◌, ◌≤◌, ℕ, zero, suc, ◌+◌, List, [], ◌∷◌, ◌++◌, length, replicate, get_or, Bool, true, false, refl, ap, ◌∙◌, arith, append_assoc}
use Rattle.std.specs.Prelude.{⊤, slice_set}
use Rattle.std.proofs.lemmas.List.{length-replicate}
use Rattle.std.proofs.lemmas.Bool.{and_parts, and_from, leb-true, le-leb}
use Rattle.std.proofs.lemmas.Grind.{common_steps}
use Rattle.ps_edge.specs.Memory.{Script}
use Rattle.ps_edge.specs.MemoryLinks.{Connection}
use Rattle.ps_edge.specs.MemoryNets.{Entrance, all_room, all_unused, dealt, entrance, given, goes_to, is_unused, links_of, next_turn, opened, others, served_by}
use Rattle.ps_edge.specs.Nets.{AreNew, IsNew}
use Rattle.ps_edge.specs.declared.net.Port.{Port}

module _ (port : Port) (number : ℕ) where
  -- a link of the port is dealt, and isn't left to the others
  pub dealt-one : (it : Port × Connection) (links : List (Port × Connection)) (at : ℕ) (doors : List Entrance) → goes_to port number it ≡ true → dealt at (links_of port number (it ∷ links)) doors ≡ dealt (next_turn (length doors) at) (links_of port number links) (given at it.1 doors)
  dealt-one it links at doors goes = rw goes refl

  pub others-dealt : (it : Port × Connection) (links : List (Port × Connection)) → goes_to port number it ≡ true → others port number (it ∷ links) ≡ others port number links
  others-dealt it links goes = rw goes refl

  -- any other link is left
  pub dealt-none : (it : Port × Connection) (links : List (Port × Connection)) → goes_to port number it ≡ false → links_of port number (it ∷ links) ≡ links_of port number links
  dealt-none it links stays = rw stays refl

  pub others-one : (rest : List (Port × Connection)) (it : Port × Connection) (links : List (Port × Connection)) → goes_to port number it ≡ false → (rest ++ it ∷ []) ++ others port number links ≡ rest ++ others port number (it ∷ links)
  others-one rest it links stays = append_assoc rest (it ∷ []) (others port number links) ∙ ap (λ (l : List (Port × Connection)). rest ++ l) (rw stays refl)

  -- links that stay weren't used
  pub others-unused : (links : List (Port × Connection)) → all_unused links ≡ true → all_unused (others port number links) ≡ true
  others-unused [] unused = refl
  others-unused (it ∷ links) unused =
      let more = others-unused links (and_parts (is_unused it.1) (all_unused links) unused).1 in
      by_test (goes_to port number it)
      (λ goes. rw goes more)
      (λ stays. rw stays (and_from (is_unused it.1) _ (and_parts (is_unused it.1) (all_unused links) unused).0 more))
    where
      by_test : {P : Type 0} (b : Bool) → (b ≡ true → P) → (b ≡ false → P) → P
      by_test true if_true if_false = if_true refl
      by_test false if_true if_false = if_false refl

-- the door at a place, with one more link
pub given-set : (doors : List Entrance) (at : ℕ) (link : Connection) (d : Entrance) → at < length doors → d ≡ get_or doors at d → slice_set doors at (record d { waiting = d.waiting ++ link ∷ [] }) ≡ given at link doors
given-set [] at link d below is = absurd (omega arith)
given-set (one ∷ doors) zero link d below is = ap (λ (e : Entrance). let e' : Entrance = record e { waiting = e.waiting ++ link ∷ [] } in e' ∷ doors) is
given-set (one ∷ doors) (suc at) link d below is = ap (λ (l : List Entrance). one ∷ l) (given-set doors at link d (omega arith) is)

pub length-given : (doors : List Entrance) (at : ℕ) (link : Connection) → length (given at link doors) ≡ length doors
length-given [] at link = refl
length-given (one ∷ doors) zero link = refl
length-given (one ∷ doors) (suc at) link = ap suc (length-given doors at link)

pub length-dealt : (links : List Connection) (at : ℕ) (doors : List Entrance) → length (dealt at links doors) ≡ length doors
length-dealt [] at doors = refl
length-dealt (link ∷ links) at doors = length-dealt links (next_turn (length doors) at) (given at link doors) ∙ length-given doors at link

-- a door with memory for more links has memory for fewer
pub room-less : (n : ℕ) (doors : List Entrance) → all_room (suc n) doors ≡ true → all_room n doors ≡ true
room-less n [] room = refl
room-less n (d ∷ doors) room =
    let here : length d.waiting + suc n ≤ d.capacity = leb-true (length d.waiting + suc n) d.capacity ((and_parts _ (all_room (suc n) doors) room).0) in
    and_from _ _ (le-leb (length d.waiting + n) d.capacity (omega (arith, here))) (room-less n doors (and_parts _ (all_room (suc n) doors) room).1)

-- one of them was used for a link
pub room-given : (n at : ℕ) (link : Connection) (doors : List Entrance) → all_room (suc n) doors ≡ true → all_room n (given at link doors) ≡ true
room-given n at link [] room = refl
room-given n zero link (d ∷ doors) room =
    let here : length d.waiting + suc n ≤ d.capacity = leb-true (length d.waiting + suc n) d.capacity ((and_parts _ (all_room (suc n) doors) room).0) in
    let longer : length (d.waiting ++ link ∷ []) ≡ length d.waiting + 1 = grind (arith, common_steps) in
    and_from _ _ (le-leb (length (d.waiting ++ link ∷ []) + n) d.capacity (omega (arith, here, longer))) (room-less n doors (and_parts _ (all_room (suc n) doors) room).1)
room-given n (suc at) link (d ∷ doors) room =
    let here : length d.waiting + suc n ≤ d.capacity = leb-true (length d.waiting + suc n) d.capacity ((and_parts _ (all_room (suc n) doors) room).0) in
    and_from _ _ (le-leb (length d.waiting + n) d.capacity (omega (arith, here))) (room-given n at link doors (and_parts _ (all_room (suc n) doors) room).1)

-- the door at a place has memory for one more
pub room-at : (n at : ℕ) (doors : List Entrance) (d : Entrance) → all_room (suc n) doors ≡ true → at < length doors → d ≡ get_or doors at d → length d.waiting < d.capacity
room-at n at [] d room below is = absurd (omega arith)
room-at n zero (one ∷ doors) d room below is =
    let here : length one.waiting + suc n ≤ one.capacity = leb-true (length one.waiting + suc n) one.capacity ((and_parts _ (all_room (suc n) doors) room).0) in
    rw is (omega (arith, here))
room-at n (suc at) (one ∷ doors) d room below is = room-at n at doors d (and_parts _ (all_room (suc n) doors) room).1 (omega arith) is

-- doors without links have memory for as many as they were made for
pub room-made : (n k : ℕ) (script : Script) → all_room n (replicate k (entrance n script)) ≡ true
room-made n zero script = refl
room-made n (suc k) script = and_from _ _ (le-leb (0 + n) n (omega arith)) (room-made n k script)

-- doors as they are given, one by one
abbrev New : Entrance → Type 0
New d = IsNew d.closed (served_by d) d.script.faults

abbrev EachNew : List Entrance → Type 0
EachNew [] = ⊤
EachNew (d ∷ doors) = New d × EachNew doors

each-new-given : (at : ℕ) (link : Connection) (doors : List Entrance) → EachNew doors → EachNew (given at link doors)
each-new-given at link [] new = tt
each-new-given zero link (d ∷ doors) new = (record { is_not_closed = new.0.is_not_closed; unserved = new.0.unserved; unfailed = new.0.unfailed }, new.1)
each-new-given (suc at) link (d ∷ doors) new = (new.0, each-new-given at link doors new.1)

each-new-dealt : (links : List Connection) (at : ℕ) (doors : List Entrance) → EachNew doors → EachNew (dealt at links doors)
each-new-dealt [] at doors new = new
each-new-dealt (link ∷ links) at doors new = each-new-dealt links (next_turn (length doors) at) (given at link doors) (each-new-given at link doors new)

each-new-made : (k n : ℕ) (script : Script) → EachNew (replicate k (entrance n script))
each-new-made zero n script = tt
each-new-made (suc k) n script = (record { is_not_closed = refl; unserved = refl; unfailed = refl }, each-new-made k n script)

are-new : (doors : List Entrance) → EachNew doors → AreNew (λ d. d.closed) served_by (λ d. d.script.faults) doors
are-new [] new k other below = absurd (omega arith)
are-new (d ∷ doors) new zero other below = new.0
are-new (d ∷ doors) new (suc k) other below = are-new doors new.1 k other (omega arith)

-- the doors of a port are new, and as many as were asked for
pub opened-new : (port : Port) (number : ℕ) (script : Script) (links : List (Port × Connection)) → AreNew (λ d. d.closed) served_by (λ d. d.script.faults) (opened port number script links)
opened-new port number script links = are-new (opened port number script links) (each-new-dealt (links_of port number links) 0 (replicate number (entrance (length links) script)) (each-new-made number (length links) script))

pub length-opened : (port : Port) (number : ℕ) (script : Script) (links : List (Port × Connection)) → length (opened port number script links) ≡ number
length-opened port number script links = length-dealt (links_of port number links) 0 (replicate number (entrance (length links) script)) ∙ length-replicate number (entrance (length links) script)
