-- The numbers of messages, one after another.
use Rattle.std.proofs.Common.{◌≡◌, ℕ, zero, suc, ◌+◌, List, [], ◌∷◌, ◌++◌, map, ap, ap₂, ◌∙◌, sym, add-one, arith}
use Rattle.std.proofs.lemmas.List.{map_push}
use Rattle.serde_json.specs.View.{view}
use Rattle.serde_json.specs.declared.value.Value.{Value}
use Rattle.ps_json.specs.Messages.{message_id, numbers_from}

numbers_from-suc : (first n : ℕ) → numbers_from first (suc n) ≡ numbers_from first n ++ (first + n) ∷ []
numbers_from-suc first zero = ap (λ (k : ℕ). k ∷ []) (omega arith)
numbers_from-suc first (suc n) =
    let same : first + 1 + n ≡ first + suc n = omega arith in
    ap (λ ns. first ∷ ns) (numbers_from-suc (first + 1) n ∙ ap (λ (k : ℕ). numbers_from (first + 1) n ++ k ∷ []) same)

-- one more of them
pub ids_more : (ids : List Value) (id : Value) (first n : ℕ) → map view ids ≡ map message_id (numbers_from first n) → view id ≡ message_id (first + n)
    → map view (ids ++ id ∷ []) ≡ map message_id (numbers_from first (n + 1))
ids_more ids id first n so_far next =
    let last : numbers_from first (n + 1) ≡ numbers_from first n ++ (first + n) ∷ [] = rw add-one (numbers_from-suc first n) in
    map_push view ids id ∙ ap₂ (λ ds d. ds ++ d ∷ []) so_far next
    ∙ sym (ap (map message_id) last ∙ map_push message_id (numbers_from first n) (first + n))
