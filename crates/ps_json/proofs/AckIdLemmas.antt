-- The text of an ack id, and the id that a text is.
use Rattle.std.proofs.Common.{◌≡◌, ℕ, List, Bool, true, false, ◌&&◌, if◌then◌else◌, Option, Some, None, option_and_then, IfSome, IfNone, refl, ap, sym, ◌∙◌, true≢false}
use Rattle.std.specs.Result.{result_ok}
use Rattle.std.proofs.lemmas.Bool.{lt-ltb, ltb-true}
use Rattle.std.proofs.lemmas.Nat.{from_be_bytes-to_be_bytes_8}
use Rattle.std.proofs.lemmas.Slice.Eq.{bytes_eq-Decides}
use Rattle.base64.specs.Engines.{standard}
use Rattle.base64.specs.GeneralPurpose.{decode_of}
use Rattle.base64.proofs.EngineFacts.{decode_of-encode_of}
use Rattle.ps_base.specs.declared.ack_id.AckId.{AckId}
use Rattle.ps_ackid.specs.AckTexts.{ack_bytes, ack_text, IsAckId}
use Rattle.ps_ackid.proofs.SliceLemmas.{IsBytes-ack_bytes}
use Rattle.ps_json.specs.AckIds.{ack_id_of, id_at, is_text_of, number_at}

id_at-ack_bytes : (id : AckId) → IsAckId id → id_at (ack_bytes id) ≡ id
id_at-ack_bytes id small =
    ap (λ (n : ℕ). record { sub = n; message = number_at 8 (ack_bytes id); lease = number_at 16 (ack_bytes id) }) (from_be_bytes-to_be_bytes_8 id.sub small.0)
    ∙ ap (λ (n : ℕ). record { sub = id.sub; message = n; lease = number_at 16 (ack_bytes id) }) (from_be_bytes-to_be_bytes_8 id.message small.1)
    ∙ ap (λ (n : ℕ). record { sub = id.sub; message = id.message; lease = n }) (from_be_bytes-to_be_bytes_8 id.lease small.2)

is_text_of-ack_text : (id : AckId) → IsAckId id → is_text_of (ack_text id) id ≡ true
is_text_of-ack_text id small = rw (lt-ltb _ _ small.0, lt-ltb _ _ small.1, lt-ltb _ _ small.2) ((bytes_eq-Decides (ack_text id) (ack_text id)).1 refl)

decoded : (id : AckId) → result_ok (decode_of standard (ack_text id)) ≡ Some (ack_bytes id)
unfolding ack_text
decoded id = ap result_ok (decode_of-encode_of standard (ack_bytes id) refl (IsBytes-ack_bytes id))

kept : (text : List ℕ) (at id : AckId) → at ≡ id → is_text_of text id ≡ true → (if is_text_of text at then Some at else None) ≡ Some id
kept text at id same is = rw (same, is)

-- the text of an id is that id
ack_id_of-ack_text : (id : AckId) → IsAckId id → ack_id_of (ack_text id) ≡ Some id
ack_id_of-ack_text id small =
    ap (option_and_then (λ bytes. if is_text_of (ack_text id) (id_at bytes) then Some (id_at bytes) else None)) (decoded id)
    ∙ kept (ack_text id) (id_at (ack_bytes id)) id (id_at-ack_bytes id small) (is_text_of-ack_text id small)

by_test : (test : Bool) (text : List ℕ) (at id : AckId) → is_text_of text at ≡ test → (if test then Some at else None) ≡ Some id → is_text_of text id ≡ true
by_test true text at id is found = let same : at ≡ id = cc in rw (← same) is
by_test false text at id is found = cc

by_bytes : (text : List ℕ) (bytes : Option (List ℕ)) (id : AckId) → option_and_then (λ bytes. if is_text_of text (id_at bytes) then Some (id_at bytes) else None) bytes ≡ Some id → is_text_of text id ≡ true
by_bytes text None id found = cc
by_bytes text (Some bytes) id found = by_test _ text (id_at bytes) id refl found

parts : (sub message lease same : Bool) → (sub && message && lease && same) ≡ true → (sub ≡ true) × (message ≡ true) × (lease ≡ true) × (same ≡ true)
parts true true true true is = (refl, refl, refl, refl)
parts false message lease same is = absurd (true≢false (sym is))
parts true false lease same is = absurd (true≢false (sym is))
parts true true false same is = absurd (true≢false (sym is))
parts true true true false is = absurd (true≢false (sym is))

-- a text that is an id is the id's text
text_of_id : (text : List ℕ) (id : AckId) → ack_id_of text ≡ Some id → IsAckId id × (text ≡ ack_text id)
text_of_id text id found =
    let all = parts _ _ _ _ (by_bytes text (result_ok (decode_of standard text)) id found) in
    ((ltb-true _ _ all.0, ltb-true _ _ all.1, ltb-true _ _ all.2), sym ((bytes_eq-Decides (ack_text id) text).0 all.3))

none_of : (text : List ℕ) (of : Option AckId) → ack_id_of text ≡ of → ((id : AckId) → IsAckId id → text ≡ ack_text id → ⊥) → None ≡ of
none_of text None is not_one = refl
none_of text (Some id) is not_one = let told = text_of_id text id is in absurd (not_one id told.0 told.1)

-- what reading a text answers is the id that it is
pub ack_id_told : (text : List ℕ) (read : Option AckId) → IfSome read IsAckId → IfSome read (λ id. text ≡ ack_text id) → IfNone read ((id : AckId) → IsAckId id → text ≡ ack_text id → ⊥) → read ≡ ack_id_of text
ack_id_told text (Some id) small some none = sym (ap ack_id_of some ∙ ack_id_of-ack_text id small)
ack_id_told text None small some none = none_of text _ refl none
