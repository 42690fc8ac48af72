-- New messages enter one subscription, and are counted.
use Rattle.std.proofs.Common.{◌≡◌, ◌<◌, ◌≤◌, ◌+◌, ◌^◌, ℕ, zero, suc, Bool, true, false, List, [], ◌∷◌, ◌++◌, append_assoc, length, map, get_or, set, drop, if◌then◌else◌, refl, sym, ap, subst, ◌∙◌, arith}
use Rattle.std.specs.List.{AllByRecursion}
use Rattle.std.proofs.lemmas.Bool.{cond_both}
use Rattle.std.proofs.lemmas.List.{drop_more, drop-set-lt}
use Rattle.ps_config.specs.declared.config.SubConfig.{SubConfig}
use Rattle.ps_filter.specs.Filters.{meets}
use Rattle.ps_message.specs.declared.message.Message.{Message}
use Rattle.ps_model.specs.declared.mark.Slot.{Slot}
use Rattle.ps_model.specs.declared.world.MessageRow.{MessageRow}
use Rattle.ps_model.specs.Forwarding.{message_rows}
use Rattle.ps_tables.specs.declared.kept_subscription.KeptSubscription.{KeptSubscription}
use Rattle.ps_tables.specs.Subscriptions.{slot_in, wanted_of, with_slots}
use Rattle.ps_tables.specs.Entering.{IsBefore, IsReady, counted, count_from, enter_message, enter_wanted, is_wanted, new_row}
use Rattle.ps_base.proofs.Lists.{each-append, each-at, each-then}

-- the first message enters, and then the others
enter-first : (m : MessageRow) (rows : List MessageRow) (x : KeptSubscription) → enter_wanted (m ∷ rows) x ≡ enter_wanted rows (enter_message m x)
enter-first m rows x = by (is_wanted x m.message)
  where
    rest : List MessageRow
    rest = wanted_of x rows

    by : (b : Bool) → with_slots x (x.sub.slots ++ map slot_in (if b then m ∷ rest else rest)) ≡ enter_wanted rows (if b then with_slots x (x.sub.slots ++ slot_in m ∷ []) else x)
    by true = ap (with_slots x) (sym (append_assoc x.sub.slots (slot_in m ∷ []) (map slot_in rest)))
    by false = refl

pub entered-one : (topic first at i : ℕ) (messages : List Message) (m : Message) (x y : KeptSubscription) → i < length messages → get_or messages i m ≡ m → y ≡ enter_message (new_row topic (first + i) at m) x
    → enter_wanted (message_rows topic (first + (i + 1)) at (drop (i + 1) messages)) y ≡ enter_wanted (message_rows topic (first + i) at (drop i messages)) x
entered-one topic first at i messages m x y within is made =
    let next : first + (i + 1) ≡ first + i + 1 = omega arith in
    (λ j. enter_wanted (message_rows topic (next j) at (drop (i + 1) messages)) (made j))
    ∙ sym (ap (λ (ms : List Message). enter_wanted (message_rows topic (first + i) at ms) x) (drop_more messages i m within)
    ∙ ap (λ (n : Message). enter_wanted (new_row topic (first + i) at n ∷ message_rows topic (first + i + 1) at (drop (i + 1) messages)) x) is
    ∙ enter-first (new_row topic (first + i) at m) (message_rows topic (first + i + 1) at (drop (i + 1) messages)) x)

pub entered-all : (topic n at i : ℕ) (messages : List Message) (x : KeptSubscription) → length messages ≤ i → enter_wanted (message_rows topic n at (drop i messages)) x ≡ x
entered-all topic n at i messages x all = ap (λ (ms : List Message). enter_wanted (message_rows topic n at ms) x) (none i messages all) ∙ ap (with_slots x) (behind x.sub.slots)
  where
    none : (i : ℕ) (ms : List Message) → length ms ≤ i → drop i ms ≡ []
    none zero [] h = refl
    none (suc i) [] h = refl
    none zero (m ∷ ms) h = absurd (omega arith)
    none (suc i) (m ∷ ms) h = none i ms (omega arith)

    behind : (slots : List Slot) → slots ++ [] ≡ slots
    behind [] = refl
    behind (s ∷ ss) = ap (λ (slots : List Slot). s ∷ slots) (behind ss)

pub settings-stay : (m : MessageRow) (x : KeptSubscription) → (enter_message m x).sub.config ≡ x.sub.config
settings-stay m x = cond_both (is_wanted x m.message) (with_slots x (x.sub.slots ++ slot_in m ∷ [])) x (λ (y : KeptSubscription). y.sub.config ≡ x.sub.config) (λ e. refl) (λ e. refl)

pub ready-still : (topic first at i : ℕ) (m : Message) (x y : KeptSubscription) → y ≡ enter_message (new_row topic (first + i) at m) x → IsReady (first + i) at x → IsReady (first + (i + 1)) at y
ready-still topic first at i m x y made h =
    let row : MessageRow = new_row topic (first + i) at m in
    let old : AllByRecursion (IsBefore (first + (i + 1)) at) x.sub.slots =
    each-then (IsBefore (first + i) at) (IsBefore (first + (i + 1)) at) x.sub.slots (λ slot b. record { number = omega (arith, b.number); publish = b.publish }) h.slots in
    let new : AllByRecursion (IsBefore (first + (i + 1)) at) (slot_in row ∷ []) = (record { number = omega arith; publish = omega arith }, tt) in
    subst (IsReady (first + (i + 1)) at) (sym made)
    (cond_both (is_wanted x m) (with_slots x (x.sub.slots ++ slot_in row ∷ [])) x (IsReady (first + (i + 1)) at)
    (λ e. record { filter = h.filter; slots = each-append (IsBefore (first + (i + 1)) at) x.sub.slots (slot_in row ∷ []) old new })
    (λ e. record { filter = h.filter; slots = old }))

-- ---- counts

-- only the settings decide
pub counted-by : (x y : KeptSubscription) (m : Message) (n : ℕ) → y.sub.config ≡ x.sub.config → counted y m n ≡ counted x m n
counted-by x y m n same = ap (λ (config : SubConfig). if meets config.filter m then n + 1 else n) same

count-place : (i : ℕ) (x : KeptSubscription) (messages : List Message) (counts : List ℕ) (m : Message) → i < length messages → i < length counts
    → count_from (suc i) x messages (set counts i (counted x (get_or messages i m) (get_or counts i 0))) ≡ count_from i x messages counts
count-place i x [] counts m h k = absurd (omega arith)
count-place i x (n ∷ ns) [] m h k = absurd (omega arith)
count-place zero x (n ∷ ns) (c ∷ cs) m h k = refl
count-place (suc i) x (n ∷ ns) (c ∷ cs) m h k = ap (λ (rest : List ℕ). c ∷ rest) (count-place i x ns cs m (omega arith) (omega arith))

pub counted-one : (i : ℕ) (x y : KeptSubscription) (messages : List Message) (counts : List ℕ) (m : Message) (n : ℕ) → i < length messages → i < length counts → get_or messages i m ≡ m
    → y.sub.config ≡ x.sub.config → n ≡ counted y m (get_or counts i 0) → count_from (i + 1) x messages (set counts i n) ≡ count_from i x messages counts
counted-one i x y messages counts m n within inside is same made =
    let next : i + 1 ≡ suc i = omega arith in
    let own : n ≡ counted x (get_or messages i m) (get_or counts i 0) = made ∙ counted-by x y m (get_or counts i 0) same ∙ ap (λ (k : Message). counted x k (get_or counts i 0)) (sym is) in
    (λ j. count_from (next j) x messages (set counts i (own j))) ∙ count-place i x messages counts m within inside

pub counted-all : (i : ℕ) (x : KeptSubscription) (messages : List Message) (counts : List ℕ) → length messages ≤ i → count_from i x messages counts ≡ counts
counted-all i x [] counts h = refl
counted-all zero x (m ∷ ms) counts h = absurd (omega arith)
counted-all (suc i) x (m ∷ ms) [] h = refl
counted-all (suc i) x (m ∷ ms) (c ∷ cs) h = ap (λ (rest : List ℕ). c ∷ rest) (counted-all i x ms cs (omega arith))

-- what is not yet counted is as it was
pub few-at : (i : ℕ) (old new : List ℕ) → drop i new ≡ drop i old → i < length new → i < length old → AllByRecursion (λ (n : ℕ). n + 1 < 2 ^ 64) old → get_or new i 0 + 1 < 2 ^ 64
few-at i old new same here there h =
    let own : get_or new i 0 ∷ drop (i + 1) new ≡ get_or old i 0 ∷ drop (i + 1) old = sym (drop_more new i 0 here) ∙ same ∙ drop_more old i 0 there in
    let is : get_or new i 0 ≡ get_or old i 0 = cc (own) in
    omega (arith, is, each-at (λ (n : ℕ). n + 1 < 2 ^ 64) old i 0 there h)

pub rest-stays : (i : ℕ) (old new : List ℕ) (n : ℕ) → drop i new ≡ drop i old → i < length new → i < length old → drop (i + 1) (set new i n) ≡ drop (i + 1) old
rest-stays i old new n same here there =
    let next : get_or new i 0 ∷ drop (i + 1) new ≡ get_or old i 0 ∷ drop (i + 1) old = sym (drop_more new i 0 here) ∙ same ∙ drop_more old i 0 there in
    let rest : drop (i + 1) new ≡ drop (i + 1) old = cc (next) in
    drop-set-lt (i + 1) new i n (omega arith) ∙ rest
