-- Bytes added to an output.
use Rattle.std.proofs.Common.{◌≡◌, ℕ, ◌+◌, take, drop, List, [], ◌++◌, Option, Some, None, option_map, refl, sym, ap, ◌∙◌, append_assoc}
use Rattle.std.proofs.lemmas.List.{append-nil}
use Rattle.std.proofs.Math.Seq.{take-add}

-- one text after another
pub joined : (was mid now : Option (List ℕ)) (one two : List ℕ) → mid ≡ option_map (λ held. held ++ one) was → now ≡ option_map (λ held. held ++ two) mid → now ≡ option_map (λ held. held ++ (one ++ two)) was
joined None mid now one two first second = second ∙ ap (λ (o : Option (List ℕ)). option_map (λ held. held ++ two) o) first
joined (Some held) mid now one two first second =
    second
    ∙ ap (λ (o : Option (List ℕ)). option_map (λ held. held ++ two) o) first
    ∙ ap (λ (l : List ℕ). Some l) (append_assoc held one two)

-- more of the same text
pub added : (was mid now : Option (List ℕ)) (text piece : List ℕ) (k n : ℕ) → piece ≡ drop k text → mid ≡ option_map (λ held. held ++ take k text) was → now ≡ option_map (λ held. held ++ take n piece) mid → now ≡ option_map (λ held. held ++ take (k + n) text) was
added was mid now text piece k n rest first second =
    joined was mid now (take k text) (take n piece) first second
    ∙ ap (λ (l : List ℕ). option_map (λ held. held ++ (take k text ++ take n l)) was) rest
    ∙ ap (λ (l : List ℕ). option_map (λ held. held ++ l) was) (sym (take-add k n text))

-- no text at all
pub unwritten : (was : Option (List ℕ)) → was ≡ option_map (λ held. held ++ []) was
unwritten None = refl
unwritten (Some held) = ap (λ (l : List ℕ). Some l) (sym (append-nil held))
