-- Of new messages those are kept that some subscription has.
use Rattle.std.proofs.Common.{◌≡◌, ◌<◌, ◌≤◌, ◌+◌, ℕ, Bool, true, false, nat_lt, List, [], ◌∷◌, ◌++◌, append-nil, append_assoc, length, get_or, drop, if◌then◌else◌, refl, sym, ap, subst, ◌∙◌, arith}
use Rattle.std.specs.List.{AllByRecursion}
use Rattle.std.proofs.lemmas.Bool.{cond_both}
use Rattle.std.proofs.lemmas.List.{drop_more}
use Rattle.ps_message.specs.declared.message.Message.{Message}
use Rattle.ps_model.specs.declared.world.MessageRow.{MessageRow}
use Rattle.ps_model.specs.Forwarding.{message_rows}
use Rattle.ps_tables.specs.declared.tables.KeptMessage.{KeptMessage}
use Rattle.ps_tables.specs.Entering.{kept_rows, kept_with, new_row}
use Rattle.ps_base.proofs.Lists.{each-append, each-then}
use Rattle.ps_tables.proofs.publishing.Numbers.{drop-end}

-- the first one, and then the others
kept-first : (m : MessageRow) (rows : List MessageRow) (n : ℕ) (counts : List ℕ) → kept_rows (m ∷ rows) (n ∷ counts) ≡ kept_rows (m ∷ []) (n ∷ []) ++ kept_rows rows counts
kept-first m rows n counts = by (nat_lt 0 n)
  where
    rest : List KeptMessage
    rest = kept_rows rows counts

    by : (b : Bool) → (if b then kept_with m n ∷ rest else rest) ≡ (if b then kept_with m n ∷ [] else []) ++ rest
    by true = refl
    by false = refl

pub kept-one : (topic first at i : ℕ) (messages : List Message) (counts : List ℕ) (m : Message) (old new : List KeptMessage) → i < length messages → i < length counts → get_or messages i m ≡ m
    → new ≡ old ++ kept_rows (message_rows topic (first + i) at (m ∷ [])) (get_or counts i 0 ∷ [])
    → new ++ kept_rows (message_rows topic (first + (i + 1)) at (drop (i + 1) messages)) (drop (i + 1) counts) ≡ old ++ kept_rows (message_rows topic (first + i) at (drop i messages)) (drop i counts)
kept-one topic first at i messages counts m old new within inside is made =
    let next : first + (i + 1) ≡ first + i + 1 = omega arith in
    let row : MessageRow = new_row topic (first + i) at m in
    let n : ℕ = get_or counts i 0 in
    let rest : List KeptMessage = kept_rows (message_rows topic (first + i + 1) at (drop (i + 1) messages)) (drop (i + 1) counts) in
    (λ j. made j ++ kept_rows (message_rows topic (next j) at (drop (i + 1) messages)) (drop (i + 1) counts))
    ∙ append_assoc old (kept_rows (row ∷ []) (n ∷ [])) rest
    ∙ ap (λ (more : List KeptMessage). old ++ more) (sym (
    (λ j. kept_rows (message_rows topic (first + i) at (drop_more messages i m within j)) (drop_more counts i 0 inside j))
    ∙ ap (λ (k : Message). kept_rows (new_row topic (first + i) at k ∷ message_rows topic (first + i + 1) at (drop (i + 1) messages)) (n ∷ drop (i + 1) counts)) is
    ∙ kept-first row (message_rows topic (first + i + 1) at (drop (i + 1) messages)) n (drop (i + 1) counts)))

pub kept-all : (topic n at i : ℕ) (messages : List Message) (counts : List ℕ) (kept : List KeptMessage) → length messages ≤ i → kept ++ kept_rows (message_rows topic n at (drop i messages)) (drop i counts) ≡ kept
kept-all topic n at i messages counts kept all =
    ap (λ (ms : List Message). kept ++ kept_rows (message_rows topic n at ms) (drop i counts)) (drop-end i messages all) ∙ append-nil kept

-- all are before the next number
pub below-next : (topic first at i : ℕ) (m : Message) (n : ℕ) (old new : List KeptMessage) → new ≡ old ++ kept_rows (message_rows topic (first + i) at (m ∷ [])) (n ∷ [])
    → AllByRecursion (λ (x : KeptMessage). x.row.number < first + i) old → AllByRecursion (λ (x : KeptMessage). x.row.number < first + (i + 1)) new
below-next topic first at i m n old new made h =
    let row : MessageRow = new_row topic (first + i) at m in
    let P : KeptMessage → Type 0 = λ (x : KeptMessage). x.row.number < first + (i + 1) in
    subst (AllByRecursion P) (sym made)
    (each-append P old (kept_rows (row ∷ []) (n ∷ [])) (each-then (λ (x : KeptMessage). x.row.number < first + i) P old (λ x k. omega (arith, k)) h)
    (cond_both (nat_lt 0 n) (kept_with row n ∷ []) [] (AllByRecursion P) (λ e. (omega arith, tt)) (λ e. tt)))
