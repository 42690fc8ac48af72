-- The first of some checks that is broken.
use Rattle.std.proofs.Common.{◌≡◌, ℕ, ◌+◌, ◌<◌, ◌≤◌, List, [], ◌∷◌, ◌++◌, Option, Some, None, true, false, ◌||◌, nat_lt, length, get_or, drop, refl, sym, ◌∙◌, ap, add-one, drop-cons, arith}
use Rattle.ps_base.specs.declared.reason.Reason.{Reason}
use Rattle.ps_message.specs.declared.message.Message.{Message}
use Rattle.ps_base.specs.declared.reason.Reason.TheVariants.{RequestSize}
use Rattle.std.proofs.lemmas.Bool.{lt-ltb, le-ltb}
use Rattle.ps_message.specs.Limits.{most_messages, most_bytes}
use Rattle.ps_message.specs.Lists.{first_of, is_empty, total}
use Rattle.ps_message.specs.Messages.{message_checks, all_message_checks, broken, bytes_of, size_of, publish_fault}
use Rattle.ps_message.proofs.SizeLemmas.{total-size_le_bytes, total-bytes_le}

pub first_of-append_some : (xs ys : List (Option Reason)) (x : Reason) → Some x ≡ first_of xs → Some x ≡ first_of (xs ++ ys)
first_of-append_some [] ys x is = cc is
first_of-append_some (None ∷ xs) ys x is = first_of-append_some xs ys x is
first_of-append_some (Some y ∷ xs) ys x is = is

pub first_of-append_none : (xs ys : List (Option Reason)) → None ≡ first_of xs → first_of (xs ++ ys) ≡ first_of ys
first_of-append_none [] ys is = refl
first_of-append_none (None ∷ xs) ys is = first_of-append_none xs ys is
first_of-append_none (Some y ∷ xs) ys is = cc is

-- the item at this place, and those after it
drop_here : {A : Type 0} (xs : List A) (i : ℕ) (x : A) → i < length xs → x ≡ get_or xs i x → drop i xs ≡ x ∷ drop (i + 1) xs
drop_here xs i x lt is = rw (add-one, drop-cons xs i x lt, ← is) refl

-- the checks from this place on, of the message there and those after it
checks-drop : (ms : List Message) (i place : ℕ) (m : Message) → i < length ms → m ≡ get_or ms i m → all_message_checks place (drop i ms) ≡ message_checks place m ++ all_message_checks (place + 1) (drop (i + 1) ms)
checks-drop ms i place m lt is = ap (all_message_checks place) (drop_here ms i m lt is)

-- where the message there is at fault, its fault is the first
pub is_first : (ms : List Message) (i place : ℕ) (m : Message) (x : Reason) (all : Option Reason) → i < length ms → m ≡ get_or ms i m → Some x ≡ first_of (message_checks place m)
    → first_of (all_message_checks place (drop i ms)) ≡ all → Some x ≡ all
is_first ms i place m x all lt is fault so_far =
    first_of-append_some (message_checks place m) (all_message_checks (place + 1) (drop (i + 1) ms)) x fault ∙ ap first_of (sym (checks-drop ms i place m lt is)) ∙ so_far

-- ---- the checks of a publish, where the count of its messages is right

pub fault_of_one : (ms : List Message) (x : Reason) → (is_empty ms || nat_lt most_messages (length ms)) ≡ false → Some x ≡ first_of (all_message_checks 0 ms) → Some x ≡ publish_fault ms
fault_of_one ms x right fault = rw right (first_of-append_some (all_message_checks 0 ms) (broken (nat_lt most_bytes (total bytes_of ms)) RequestSize ∷ []) x fault)

fault_of_all : (ms : List Message) → (is_empty ms || nat_lt most_messages (length ms)) ≡ false → None ≡ first_of (all_message_checks 0 ms) → publish_fault ms ≡ first_of (broken (nat_lt most_bytes (total bytes_of ms)) RequestSize ∷ [])
fault_of_all ms right none = rw right (first_of-append_none (all_message_checks 0 ms) (broken (nat_lt most_bytes (total bytes_of ms)) RequestSize ∷ []) none)

pub too_large : (ms : List Message) → (is_empty ms || nat_lt most_messages (length ms)) ≡ false → None ≡ first_of (all_message_checks 0 ms) → most_bytes < total size_of ms → Some RequestSize ≡ publish_fault ms
too_large ms right none large =
    let le = total-size_le_bytes ms in
    let over : nat_lt most_bytes (total bytes_of ms) ≡ true = lt-ltb _ _ (omega arith) in
    rw (fault_of_all ms right none, over) refl

pub no_fault : (ms : List Message) → (is_empty ms || nat_lt most_messages (length ms)) ≡ false → None ≡ first_of (all_message_checks 0 ms) → total size_of ms ≤ most_bytes → None ≡ publish_fault ms
no_fault ms right none small =
    let le = total-bytes_le ms most_bytes (omega arith) small in
    let over : nat_lt most_bytes (total bytes_of ms) ≡ false = le-ltb _ _ le in
    rw (fault_of_all ms right none, over) refl
