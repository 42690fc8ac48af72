-- How many dead letters there are, and what their rows are.
use Rattle.std.proofs.Common.{ℕ, suc, ◌≡◌, ◌≢◌, ◌+◌, ◌<◌, ◌≤◌, ◌&&◌, Bool, true, false, cond, nat_eq, is_some, List, [], ◌∷◌, Option, Some, None, option_and_then, filter_map, flat_map, find, length, length-append, refl, sym, ap, arith}
use Rattle.std.specs.List.{AllByRecursion, cons_option}
use Rattle.std.specs.Str.{bytes_eq}
use Rattle.std.proofs.lemmas.Bool.{eqb-true, ne_eqb, eq-eqb}
use Rattle.ps_model.specs.declared.mark.DeadLetter.{DeadLetter}
use Rattle.ps_model.specs.declared.mark.Slot.{Slot}
use Rattle.ps_config.specs.declared.config.DeadLetterPolicy.{DeadLetterPolicy}
use Rattle.ps_model.specs.declared.world.World.{World}
use Rattle.ps_model.specs.declared.world.TopicRow.{TopicRow}
use Rattle.ps_model.specs.declared.world.SubRow.{SubRow}
use Rattle.ps_model.specs.declared.world.MessageRow.{MessageRow}
use Rattle.ps_model.specs.declared.world.MarkRow.{MarkRow}
use Rattle.ps_model.specs.Lists.{tally}
use Rattle.ps_model.specs.Failing.{dead_letter, dead_letters}
use Rattle.ps_model.specs.Worlds.{topic_named, message_at, slot_of, slots_of}
use Rattle.ps_model.specs.Forwarding.{Letter, letter_message, letter_rows, letter_of, letters_of, dead_topic}
use Rattle.ps_model.specs.Sound.{Ordered}
use Rattle.ps_base.proofs.Lists.{each-always, each-then, each-found, each-flat_map, find-none}
use Rattle.ps_sound.proofs.worlds.Counts.{one, tally-both, tally-map-filter}

filter_map-length : {A B : Type 0} (h : A → Option B) (xs : List A) → length (filter_map h xs) ≡ tally (λ x. is_some (h x)) xs
filter_map-length h [] = refl
filter_map-length {B = B} h (x ∷ xs) = cases (h x) (filter_map-length h xs)
  where
    cases : (o : Option B) → length (filter_map h xs) ≡ tally (λ x. is_some (h x)) xs → length (cons_option o (filter_map h xs)) ≡ one (is_some o) + tally (λ x. is_some (h x)) xs
    cases None ih = omega (arith, ih)
    cases (Some y) ih = omega (arith, ih)

flat_map-few : {A B : Type 0} (f : A → List B) (xs : List A) → ((x : A) → length (f x) ≤ 1) → length (flat_map f xs) ≤ length xs
flat_map-few f [] k = omega arith
flat_map-few f (x ∷ xs) k = omega (arith, length-append (f x) (flat_map f xs), k x, flat_map-few f xs k)

letter-few : (sub : SubRow) (o : Option TopicRow) (source : MessageRow) (failures : ℕ) → length (letter_of sub o source failures) ≤ 1
letter-few sub None source failures = omega arith
letter-few sub (Some topic) source failures = omega arith

-- a subscription's letters are no more than its leases that die
pub letters-few : (v w : World) (sub : SubRow) (fails : Slot → Bool) (forward : Bool)
    → length (letters_of v sub (dead_letters fails forward sub.config (slots_of w sub.number))) ≤ tally (λ (r : MarkRow). nat_eq r.sub sub.number && is_some (dead_letter fails forward sub.config r.mark (slot_of w.messages r))) w.marks
letters-few v w sub fails forward = omega (arith, few, dead, slots)
  where
    few : length (letters_of v sub (dead_letters fails forward sub.config (slots_of w sub.number))) ≤ length (dead_letters fails forward sub.config (slots_of w sub.number))
    few = flat_map-few (λ (d : DeadLetter). letter_of sub (dead_topic v sub) (message_at v.messages d.number) d.failures) (dead_letters fails forward sub.config (slots_of w sub.number)) (λ d. letter-few sub (dead_topic v sub) (message_at v.messages d.number) d.failures)

    dead : length (dead_letters fails forward sub.config (slots_of w sub.number)) ≡ tally (λ (s : Slot). is_some (dead_letter fails forward sub.config s.mark s)) (slots_of w sub.number)
    dead = filter_map-length (λ (s : Slot). dead_letter fails forward sub.config s.mark s) (slots_of w sub.number)

    slots : tally (λ (s : Slot). is_some (dead_letter fails forward sub.config s.mark s)) (slots_of w sub.number)
        ≡ tally (λ (r : MarkRow). nat_eq r.sub sub.number && is_some (dead_letter fails forward sub.config r.mark (slot_of w.messages r))) w.marks
    slots = tally-map-filter (λ (s : Slot). is_some (dead_letter fails forward sub.config s.mark s)) (slot_of w.messages) (λ (r : MarkRow). nat_eq r.sub sub.number) w.marks

-- Over all subscriptions: each row is of one of them at most.
module _ (marks : List MarkRow) (test : SubRow → MarkRow → Bool) {A : Type 0} (made : SubRow → List A) (few : (sub : SubRow) → length (made sub) ≤ tally (λ (r : MarkRow). nat_eq r.sub sub.number && test sub r) marks) where
  abbrev pub test_at : Option SubRow → MarkRow → Bool
  test_at None r = false
  test_at (Some sub) r = test sub r

  pub sum-few : (subs : List SubRow) → Ordered (λ (a b : SubRow). a.number < b.number) subs → length (flat_map made subs) ≤ tally (λ (r : MarkRow). test_at (find (λ (x : SubRow). nat_eq x.number r.sub) subs) r) marks
  sum-few [] o = omega arith
  sum-few (sub ∷ subs) o = omega (
    arith,
    length-append (made sub) (flat_map made subs),
    few sub,
    sum-few subs o.1,
    tally-both (λ (r : MarkRow). nat_eq r.sub sub.number && test sub r) (λ (r : MarkRow). test_at (find (λ (x : SubRow). nat_eq x.number r.sub) subs) r) (λ (r : MarkRow). test_at (find (λ (x : SubRow). nat_eq x.number r.sub) (sub ∷ subs)) r) marks
        (λ r. row sub subs o.0 r (nat_eq sub.number r.sub) refl),
  )
    where
      row : (sub : SubRow) (subs : List SubRow) → AllByRecursion (λ (b : SubRow). sub.number < b.number) subs → (r : MarkRow) (b : Bool) → nat_eq sub.number r.sub ≡ b
          → one (nat_eq r.sub sub.number && test sub r) + one (test_at (find (λ (x : SubRow). nat_eq x.number r.sub) subs) r) ≤ one (test_at (cond (nat_eq sub.number r.sub) (Some sub) (find (λ (x : SubRow). nat_eq x.number r.sub) subs)) r)
      row sub subs later r true e =
          let none : find (λ (x : SubRow). nat_eq x.number r.sub) subs ≡ None = find-none (λ (x : SubRow). nat_eq x.number r.sub) subs
          (each-then (λ (b : SubRow). sub.number < b.number) (λ (x : SubRow). nat_eq x.number r.sub ≡ false) subs (λ x up. let ne : x.number ≢ r.sub = omega (arith, eqb-true sub.number r.sub e) in ne_eqb x.number r.sub ne) later) in
          rw (none, e, eq-eqb r.sub sub.number (sym (eqb-true sub.number r.sub e))) (omega arith)
      row sub subs later r false e =
          let ne : r.sub ≢ sub.number = λ same. absurd (cc (e, eq-eqb sub.number r.sub (sym same))) in
          rw (e, ne_eqb r.sub sub.number ne) (omega arith)

-- each letter goes to a topic that is there
letters-at : (P : Letter → Type 0) (sub : SubRow) (o : Option TopicRow) (messages : List MessageRow) (dead : List DeadLetter) → ((topic : TopicRow) → o ≡ Some topic → (source : MessageRow) (failures : ℕ) → P (record { from = sub; topic = topic; source = source; failures = failures }))
    → AllByRecursion P (flat_map (λ (d : DeadLetter). letter_of sub o (message_at messages d.number) d.failures) dead)
letters-at P sub o messages dead k = each-flat_map (λ (d : DeadLetter). Unit {0}) P (λ (d : DeadLetter). letter_of sub o (message_at messages d.number) d.failures) dead (λ d _. at o refl (message_at messages d.number) d.failures) (each-always (λ (d : DeadLetter). Unit {0}) dead (λ d. tt))
  where
    at : (q : Option TopicRow) → o ≡ q → (source : MessageRow) (failures : ℕ) → AllByRecursion P (letter_of sub q source failures)
    at None e source failures = tt
    at (Some topic) e source failures = (k topic e source failures, tt)

pub letters-listed : (w : World) (next : ℕ) (sub : SubRow) (dead : List DeadLetter) → AllByRecursion (λ (r : TopicRow). r.number < next) w.topics → AllByRecursion (λ (l : Letter). l.topic.number < next) (letters_of w sub dead)
letters-listed w next sub dead below = letters-at (λ (l : Letter). l.topic.number < next) sub (dead_topic w sub) w.messages dead (λ topic e source failures. at sub.config.dead_letter topic e)
  where
    at : (policy : Option DeadLetterPolicy) (topic : TopicRow) → option_and_then (λ (p : DeadLetterPolicy). topic_named w p.topic) policy ≡ Some topic → topic.number < next
    at None topic e = absurd (cc (e))
    at (Some p) topic e = each-found (λ (r : TopicRow). r.number < next) (λ (r : TopicRow). bytes_eq r.name p.topic) w.topics topic e below

-- what holds of each row that letters make
pub letter-rows-each : (P : MessageRow → Type 0) (Q : Letter → Type 0) (number t : ℕ) (ls : List Letter)
    → ((k : ℕ) (l : Letter) → number ≤ k → k < number + length ls → Q l → P (record { number = k; topic = l.topic.number; publish = t; message = letter_message l; kept = true })) → AllByRecursion Q ls → AllByRecursion P (letter_rows number t ls)
letter-rows-each P Q number t [] k h = tt
letter-rows-each P Q number t (l ∷ ls) k h = (k number l (omega arith) (omega arith) h.0, letter-rows-each P Q (number + 1) t ls (λ n x a b. k n x (omega arith) (omega arith)) h.1)

every : (ls : List Letter) → AllByRecursion (λ (l : Letter). Unit {0}) ls
every ls = each-always (λ (l : Letter). Unit {0}) ls (λ l. tt)

pub letter-rows-ascend : (number t : ℕ) (ls : List Letter) → Ordered (λ (a b : MessageRow). a.number < b.number) (letter_rows number t ls)
letter-rows-ascend number t [] = tt
letter-rows-ascend number t (l ∷ ls) = (letter-rows-each (λ b. number < b.number) (λ (l : Letter). Unit {0}) (number + 1) t ls (λ k x a b _. omega arith) (every ls), letter-rows-ascend (number + 1) t ls)

pub letter-rows-publishes : (number t : ℕ) (ls : List Letter) → Ordered (λ (a b : MessageRow). a.publish ≤ b.publish) (letter_rows number t ls)
letter-rows-publishes number t [] = tt
letter-rows-publishes number t (l ∷ ls) = (letter-rows-each (λ b. t ≤ b.publish) (λ (l : Letter). Unit {0}) (number + 1) t ls (λ k x a b _. omega arith) (every ls), letter-rows-publishes (number + 1) t ls)

pub letter-rows-length : (number t : ℕ) (ls : List Letter) → length (letter_rows number t ls) ≡ length ls
letter-rows-length number t [] = refl
letter-rows-length number t (l ∷ ls) = ap suc (letter-rows-length (number + 1) t ls)
