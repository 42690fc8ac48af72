use Rattle.std.proofs.Common.{◌≡◌, ◌<◌, ◌+◌, ◌++◌, ◌∷◌, [], ℕ, suc, sym, ap, ◌∙◌, arith, length, true, false, nat_lt, List, slice_set}
use Rattle.std.proofs.lemmas.Bool.{and_parts, leb-true}
use Rattle.std.proofs.lemmas.Grind.{common_steps}
use Rattle.ps_edge.specs.MemoryLinks.{Connection}
use Rattle.ps_edge.specs.MemoryNets.{Entrance, all_room, all_unused, dealt, given, goes_to, is_unused, links_of, next_turn, others}
use Rattle.ps_edge.specs.declared.net.Port.{Port}
use Rattle.ps_edge.proofs.NetLemmas.{dealt-none, dealt-one, given-set, length-given, others-dealt, others-one, room-given, room-less}
use Rattle.ps_edge.proofs.memory_net.deal.Goals as goal

pub loop-item-preserved-then-goes_to : goal.loop-item-preserved-then-goes_to
loop-item-preserved-then-goes_to c =
    let before = c.loop-item.invariant in
    let port = c.args.port in
    let number = length c.args.doors.now.items in
    let doors = c.loop-item.doors.items in
    let at = c.loop-item.at in
    let rest = c.loop-item.rest.items in
    let it = c.in-Some.item in
    let links = c.pop_front.new.self.items in
    let items = c.in-Some.ensures.items in
    let size : c.len.result ≡ number = omega (arith, c.len.ensures, c.loop-item.doors.ok.0, before.count) in
    let goes : goes_to port number it ≡ true = ap (λ (k : ℕ). goes_to port k it) (sym size) ∙ sym c.goes_to.ensures ∙ c.if-goes_to.true in
    let some : 0 < number = leb-true 1 number (and_parts (nat_lt 0 number) _ goes).0 in
    let below : at < length doors = omega (arith, before.turn some, before.count) in
    let set : slice_set doors at c.give.new.self ≡ given at it.1 doors = ap (λ (d : Entrance). slice_set doors at d) c.give.ensures ∙ given-set doors at it.1 c.index_mut-door.result.now below c.index_mut-door.ensures.value in
    let turn : c.next_turn-at.result ≡ next_turn (length doors) at = c.next_turn-at.ensures.value ∙ ap (λ (k : ℕ). next_turn k at) (omega (arith, c.len-then-goes_to.ensures)) in
    let room : all_room (suc (length links)) doors ≡ true = ap (λ (l : List (Port × Connection)). all_room (length l) doors) (sym items) ∙ before.room in
    record {
      doors =
          ap (λ (t : ℕ). dealt t (links_of port number links) (slice_set doors at c.give.new.self)) turn
          ∙ ap (λ (d : List Entrance). dealt (next_turn (length doors) at) (links_of port number links) d) set
          ∙ sym (dealt-one port number it links at doors goes)
          ∙ ap (λ (l : List (Port × Connection)). dealt at (links_of port number l) doors) (sym items)
          ∙ before.doors;
      rest =
          ap (λ (l : List (Port × Connection)). rest ++ l) (sym (others-dealt port number it links goes))
          ∙ ap (λ (l : List (Port × Connection)). rest ++ others port number l) (sym items)
          ∙ before.rest;
      count = ap length set ∙ length-given doors at it.1 ∙ before.count;
      turn = λ _. omega (arith, c.next_turn-at.ensures.within, c.len-then-goes_to.ensures, before.count);
      unused = (and_parts (is_unused it.1) (all_unused links) (ap all_unused (sym items) ∙ before.unused)).1;
      room = ap (all_room (length links)) set ∙ room-given (length links) at it.1 doors room;
      places = omega (arith, ap length items, before.places);
    }

pub loop-item-preserved : goal.loop-item-preserved
loop-item-preserved c =
    let before = c.loop-item.invariant in
    let port = c.args.port in
    let number = length c.args.doors.now.items in
    let doors = c.loop-item.doors.items in
    let at = c.loop-item.at in
    let rest = c.loop-item.rest.items in
    let it = c.in-Some.item in
    let links = c.pop_front.new.self.items in
    let items = c.in-Some.ensures.items in
    let size : c.len.result ≡ number = omega (arith, c.len.ensures, c.loop-item.doors.ok.0, before.count) in
    let stays : goes_to port number it ≡ false = ap (λ (k : ℕ). goes_to port k it) (sym size) ∙ sym c.goes_to.ensures ∙ c.if-goes_to.false in
    let room : all_room (suc (length links)) doors ≡ true = ap (λ (l : List (Port × Connection)). all_room (length l) doors) (sym items) ∙ before.room in
    let pushed = c.push_back_reserved.ensures in
    let longer : length (rest ++ it ∷ []) ≡ length rest + 1 = grind (arith, common_steps) in
    record {
      doors =
          ap (λ (l : List Connection). dealt at l doors) (sym (dealt-none port number it links stays))
          ∙ ap (λ (l : List (Port × Connection)). dealt at (links_of port number l) doors) (sym items)
          ∙ before.doors;
      rest =
          ap (λ (l : List (Port × Connection)). l ++ others port number links) pushed.items
          ∙ others-one port number rest it links stays
          ∙ ap (λ (l : List (Port × Connection)). rest ++ others port number l) (sym items)
          ∙ before.rest;
      count = before.count;
      turn = before.turn;
      unused = (and_parts (is_unused it.1) (all_unused links) (ap all_unused (sym items) ∙ before.unused)).1;
      room = room-less (length links) doors room;
      places = omega (arith, ap length items, before.places, ap length pushed.items, longer, pushed.capacity);
    }
