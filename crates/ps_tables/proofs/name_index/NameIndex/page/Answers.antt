-- The loop's page is the page of the whole range.
use Rattle.std.proofs.Common.{◌≡◌, ◌≢◌, ℕ, List, Option, None, Some, true, length, nat_eq, sym, ap, ◌∙◌, string_bytes, arith}
use Rattle.std.specs.List.{starts_with}
use Rattle.std.proofs.lemmas.Map.Iter.{rest_more, rest_all}
use Rattle.std.specs.Map.Iter.{deref_pair}
use Rattle.ps_tables.specs.Pages.{with_bytes, later}
use Rattle.ps_tables.proofs.names.Paging.{walk, name_bytes, paged, text-is, turn-more, turn-full, turn-out}
use Rattle.ps_tables.proofs.name_index.NameIndex.page.Goals as goal
use Rattle.ps_tables.proofs.name_index.NameIndex.page.Goals.{in-None, in-Some+then-not-has_front}

pub loop-name-init : goal.loop-name-init
loop-name-init c = ap (λ (ns : List ℕ). walk c.args.front.now c.args.most (with_bytes c.into_iter-name-iterator.result) ns None) c.new-numbers.ensures.items

pub loop-name-preserved : goal.loop-name-preserved
loop-name-preserved c =
    let front = c.args.front.now in
    let rest = rest_more deref_pair c.loop-name.name-iterator c.next.new.self c.next.result (c.in-Some.name, c.in-Some.number) c.in-Some.is c.next.ensures.steps in
    let has : starts_with nat_eq (string_bytes c.in-Some.name.now) front ≡ true = ap (λ n. starts_with nat_eq n front) (sym c.as_str.ensures.value) ∙ sym c.has_front.ensures ∙ c.if-not-has_front.false in
    let free : length c.loop-name.numbers.items ≢ c.args.most = omega arith in
    ap (λ (ns : List ℕ). walk front c.args.most (with_bytes c.next.new.self) ns (Some (string_bytes c.in-Some.name.now))) c.in_ok-push.ensures.items
    ∙ sym (turn-more front c.args.most c.loop-name.name-iterator c.next.new.self c.in-Some.name.now c.in-Some.number.now c.loop-name.numbers.items (name_bytes c.loop-name.last) rest has free)
    ∙ c.loop-name.invariant

pub returns-then-len-most-clause-numbers : goal.returns-then-len-most-clause-numbers
returns-then-len-most-clause-numbers c =
    let front = c.args.front.now in
    let rest = rest_more deref_pair c.loop-name.name-iterator c.next.new.self c.next.result (c.in-Some.name, c.in-Some.number) c.in-Some.is c.next.ensures.steps in
    let has : starts_with nat_eq (string_bytes c.in-Some.name.now) front ≡ true = ap (λ n. starts_with nat_eq n front) (sym c.as_str.ensures.value) ∙ sym c.has_front.ensures ∙ c.if-not-has_front.false in
    let full : length c.loop-name.numbers.items ≡ c.args.most = omega arith in
    let start : string_bytes c.in_ok-from_str.field-0 ≡ later front c.args.after.now = c.in_ok-from_str.ensures.ok ∙ c.later.ensures in
    ap (λ (p : List ℕ × Option (List ℕ)). p.0) (sym (turn-full front c.args.most c.loop-name.name-iterator c.next.new.self c.in-Some.name.now c.in-Some.number.now c.loop-name.numbers.items (name_bytes c.loop-name.last) rest has full)
    ∙ c.loop-name.invariant
    ∙ paged front c.args.after.now c.args.most c.in_ok-from_str.field-0 c.args.self.now.numbers.entries c.into_iter-name-iterator.result start (c.into_iter-name-iterator.ensures.into_iter_gives ∙ c.range-name-items.ensures.between tt) c.range-name-items.ensures.ordered)

pub returns-then-len-most-clause-next : goal.returns-then-len-most-clause-next
returns-then-len-most-clause-next c =
    let front = c.args.front.now in
    let rest = rest_more deref_pair c.loop-name.name-iterator c.next.new.self c.next.result (c.in-Some.name, c.in-Some.number) c.in-Some.is c.next.ensures.steps in
    let has : starts_with nat_eq (string_bytes c.in-Some.name.now) front ≡ true = ap (λ n. starts_with nat_eq n front) (sym c.as_str.ensures.value) ∙ sym c.has_front.ensures ∙ c.if-not-has_front.false in
    let full : length c.loop-name.numbers.items ≡ c.args.most = omega arith in
    let start : string_bytes c.in_ok-from_str.field-0 ≡ later front c.args.after.now = c.in_ok-from_str.ensures.ok ∙ c.later.ensures in
    text-is c.loop-name.last c.in_ok-next.next c.in_ok-next.ensures
    ∙ ap (λ (p : List ℕ × Option (List ℕ)). p.1) (sym (turn-full front c.args.most c.loop-name.name-iterator c.next.new.self c.in-Some.name.now c.in-Some.number.now c.loop-name.numbers.items (name_bytes c.loop-name.last) rest has full)
    ∙ c.loop-name.invariant
    ∙ paged front c.args.after.now c.args.most c.in_ok-from_str.field-0 c.args.self.now.numbers.entries c.into_iter-name-iterator.result start (c.into_iter-name-iterator.ensures.into_iter_gives ∙ c.range-name-items.ensures.between tt) c.range-name-items.ensures.ordered)

pub returns-clause-numbers : goal.returns-clause-numbers
returns-clause-numbers c =
    let front = c.args.front.now in
    let start : string_bytes c.in_ok-from_str.field-0 ≡ later front c.args.after.now = c.in_ok-from_str.ensures.ok ∙ c.later.ensures in
    let ends : walk front c.args.most (with_bytes c.loop-name.name-iterator) c.loop-name.numbers.items (name_bytes c.loop-name.last) ≡ (c.loop-name.numbers.items, None) =
    elim c.match-next.branch [
      | in-None w ↦ ap (λ es. walk front c.args.most (with_bytes es) c.loop-name.numbers.items (name_bytes c.loop-name.last)) (rest_all deref_pair c.loop-name.name-iterator c.next.new.self c.next.result w.in-None.is c.next.ensures.steps)
      | in-Some+then-not-has_front w ↦
          turn-out front c.args.most c.loop-name.name-iterator c.next.new.self w.in-Some.name.now w.in-Some.number.now c.loop-name.numbers.items (name_bytes c.loop-name.last)
          (rest_more deref_pair c.loop-name.name-iterator c.next.new.self c.next.result (w.in-Some.name, w.in-Some.number) w.in-Some.is c.next.ensures.steps)
          (ap (λ n. starts_with nat_eq n front) (sym w.as_str.ensures.value) ∙ sym w.has_front.ensures ∙ w.if-not-has_front.true)
    ] in
    ap (λ (p : List ℕ × Option (List ℕ)). p.0) (sym ends
    ∙ c.loop-name.invariant
    ∙ paged front c.args.after.now c.args.most c.in_ok-from_str.field-0 c.args.self.now.numbers.entries c.into_iter-name-iterator.result start (c.into_iter-name-iterator.ensures.into_iter_gives ∙ c.range-name-items.ensures.between tt) c.range-name-items.ensures.ordered)

pub returns-clause-next : goal.returns-clause-next
returns-clause-next c =
    let front = c.args.front.now in
    let start : string_bytes c.in_ok-from_str.field-0 ≡ later front c.args.after.now = c.in_ok-from_str.ensures.ok ∙ c.later.ensures in
    let ends : walk front c.args.most (with_bytes c.loop-name.name-iterator) c.loop-name.numbers.items (name_bytes c.loop-name.last) ≡ (c.loop-name.numbers.items, None) =
    elim c.match-next.branch [
      | in-None w ↦ ap (λ es. walk front c.args.most (with_bytes es) c.loop-name.numbers.items (name_bytes c.loop-name.last)) (rest_all deref_pair c.loop-name.name-iterator c.next.new.self c.next.result w.in-None.is c.next.ensures.steps)
      | in-Some+then-not-has_front w ↦
          turn-out front c.args.most c.loop-name.name-iterator c.next.new.self w.in-Some.name.now w.in-Some.number.now c.loop-name.numbers.items (name_bytes c.loop-name.last)
          (rest_more deref_pair c.loop-name.name-iterator c.next.new.self c.next.result (w.in-Some.name, w.in-Some.number) w.in-Some.is c.next.ensures.steps)
          (ap (λ n. starts_with nat_eq n front) (sym w.as_str.ensures.value) ∙ sym w.has_front.ensures ∙ w.if-not-has_front.true)
    ] in
    ap (λ (p : List ℕ × Option (List ℕ)). p.1) (sym ends
    ∙ c.loop-name.invariant
    ∙ paged front c.args.after.now c.args.most c.in_ok-from_str.field-0 c.args.self.now.numbers.entries c.into_iter-name-iterator.result start (c.into_iter-name-iterator.ensures.into_iter_gives ∙ c.range-name-items.ensures.between tt) c.range-name-items.ensures.ordered)
