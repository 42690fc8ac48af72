-- One read after another.
use Rattle.std.proofs.Common.{◌≡◌, ◌≤◌, ℕ, List, ◌++◌, length, take, drop, Option, Some, None, option_map, Result, Ok, Err, sym, ap, ◌∙◌, append_assoc, arith}
use Rattle.std.proofs.lemmas.List.{take-append-drop}
use Rattle.std.specs.Prelude.{IfSome}
use Rattle.std.specs.Result.{IsErrAnd}
use Rattle.ps_edge.specs.Links.{HasLinkCause, Receives, TakesPart}
use Rattle.ps_edge.specs.declared.link.Link as link
use Rattle.ps_edge.specs.declared.link.LinkGot.TheVariants.{Bytes}
use Rattle.ps_http.specs.declared.reading.Pause.{Pause}
use Rattle.ps_http.specs.declared.reading.Pause.TheVariants.{Ended, NotYet, ReadFault, OutOfMemory}
use Rattle.ps_http.specs.Reading.{Came, Grew, OnPause, Reads, UnlessWanting}

-- more text behind a text
pub joined : (was mid now : Option (List ℕ)) (one two : List ℕ) → mid ≡ option_map (λ had. had ++ one) was → now ≡ option_map (λ had. had ++ two) mid → now ≡ option_map (λ had. had ++ (one ++ two)) was
joined None mid now one two first second = second ∙ ap (λ (o : Option (List ℕ)). option_map (λ had. had ++ two) o) first
joined (Some had) mid now one two first second =
    second
    ∙ ap (λ (o : Option (List ℕ)). option_map (λ h. h ++ two) o) first
    ∙ ap (λ (l : List ℕ). Some l) (append_assoc had one two)

-- what is left after two texts were taken
pub left_on : (was mid now : Option (List ℕ)) (one two : List ℕ) → IfSome was (λ all. (rest : List ℕ) × (mid ≡ Some rest) × (all ≡ one ++ rest)) → IfSome mid (λ all. (rest : List ℕ) × (now ≡ Some rest) × (all ≡ two ++ rest)) → IfSome was (λ all. (rest : List ℕ) × (now ≡ Some rest) × (all ≡ (one ++ two) ++ rest))
left_on None mid now one two first second = first
left_on (Some all) mid now one two first second =
    let later = rw first.1 at second in
    (later.0, later.1, first.2 ∙ ap (λ (l : List ℕ). one ++ l) later.2 ∙ sym (append_assoc one two later.0))

-- one fact for another, unless there is no memory
pub unless_wanting : (T U : Type 0) {P Q : Type 0} (pause : Pause) → (P → Q) → UnlessWanting {T = T} (Err pause) P → UnlessWanting {T = U} (Err pause) Q
unless_wanting T U Ended f p = f p
unless_wanting T U NotYet f p = f p
unless_wanting T U ReadFault f p = f p
unless_wanting T U OutOfMemory f p = tt

-- what is left after a read
left_once : (was now : Option (List ℕ)) (n : ℕ) (room : List ℕ) → IfSome was (λ bytes. (n ≤ length bytes) × (now ≡ Some (drop n bytes)) × (take n room ≡ take n bytes)) → IfSome was (λ all. (rest : List ℕ) × (now ≡ Some rest) × (all ≡ take n room ++ rest))
left_once None now n room takes = takes
left_once (Some all) now n room takes =
    (drop n all, takes.1, sym (take-append-drop n all) ∙ ap (λ (b : List ℕ). b ++ drop n all) (sym takes.2))

module _ {S : Type 0} (l : link.Ghosts S) where
  -- what came in one read
  pub came_once : (was now : S) (n : ℕ) (room : List ℕ) → TakesPart (l.left was) (l.left now) room (Bytes n) → Receives (l.received was) (l.received now) room (Bytes n) → l.holds now ≡ l.holds was → HasLinkCause (l.faults was) (l.faults now) (l.waits was) (l.waits now) (Bytes n) → Came l was now (take n room)
  came_once was now n room takes receives holds cause = record {
    received = receives;
    left = left_once (l.left was) (l.left now) n room takes.2;
    holds = holds;
    faults = cause.later;
    waits = cause.waited_later;
  }

  pub came_on : (was mid now : S) (one two : List ℕ) → Came l was mid one → Came l mid now two → Came l was now (one ++ two)
  came_on was mid now one two first second = record {
    received = joined (l.received was) (l.received mid) (l.received now) one two first.received second.received;
    left = left_on (l.left was) (l.left mid) (l.left now) one two first.left second.left;
    holds = second.holds ∙ first.holds;
    faults = omega (arith, first.faults, second.faults);
    waits = omega (arith, first.waits, second.waits);
  }

  pub grew_on : (was mid now : S) (start buffer end : List ℕ) → Grew l was mid start buffer → Grew l mid now buffer end → Grew l was now start end
  grew_on was mid now start buffer end first second = (
    first.0 ++ second.0,
    second.1 ∙ ap (λ (b : List ℕ). b ++ second.0) first.1 ∙ append_assoc start first.0 second.0,
    came_on was mid now first.0 second.0 first.2 second.2,
  )

  -- a read that gave no more, after others
  pub reads_on : (T U : Type 0) (was mid now : S) (start buffer end : List ℕ) (pause : Pause) → Grew l was mid start buffer → Reads l {T = T} mid now buffer end (Err pause) → Reads l {T = U} was now start end (Err pause)
  reads_on T U was mid now start buffer end pause first second = (
    first.0 ++ second.0,
    unless_wanting T U pause (λ (is : end ≡ buffer ++ second.0). is ∙ ap (λ (b : List ℕ). b ++ second.0) first.1 ∙ append_assoc start first.0 second.0) second.1,
    came_on was mid now first.0 second.0 first.2 second.2,
  )

  -- the same, if its pause is passed on
  pub reads_passed : (T U : Type 0) (was mid now : S) (start buffer end : List ℕ) (pause : Pause) (r : Result U Pause) → IsErrAnd r (λ p. p ≡ pause) → Grew l was mid start buffer → Reads l {T = T} mid now buffer end (Err pause) → Reads l was now start end r
  reads_passed T U was mid now start buffer end pause (Ok value) same first second = absurd same
  reads_passed T U was mid now start buffer end pause (Err p) same first second = rw same (reads_on T U was mid now start buffer end pause first second)

-- no memory is left, so the fact isn't asked
pub wanting : {T : Type 0} (P : Type 0) (r : Result T Pause) → IsErrAnd r (λ pause. pause ≡ OutOfMemory) → UnlessWanting r P
wanting P (Ok value) is = absurd is
wanting P (Err pause) is = rw is tt

-- one fact for another, if it paused
pub on_pause : (T U : Type 0) {P Q : Type 0} (pause : Pause) → (P → Q) → OnPause {T = T} (Err pause) P → OnPause {T = U} (Err pause) Q
on_pause T U Ended f p = f p
on_pause T U NotYet f p = f p
on_pause T U ReadFault f p = f p
on_pause T U OutOfMemory f p = tt

-- one fact from two, if it paused
pub on_pause_both : (T U : Type 0) {O P Q : Type 0} (pause : Pause) → (O → P → Q) → UnlessWanting {T = T} (Err pause) O → OnPause {T = T} (Err pause) P → OnPause {T = U} (Err pause) Q
on_pause_both T U Ended f o p = f o p
on_pause_both T U NotYet f o p = f o p
on_pause_both T U ReadFault f o p = f o p
on_pause_both T U OutOfMemory f o p = tt
