use Rattle.std.proofs.Common.{◌≡◌, ℕ, suc, ◌+◌, [], ◌∷◌, ap, ap₂, refl}
use Rattle.std.proofs.lemmas.List.{length-replicate}
use Rattle.std.specs.Prelude.{Option, nat_lt}
use Rattle.ps_base.specs.declared.reason.Reason.{Reason}
use Rattle.ps_base.specs.declared.reason.Reason.TheVariants.{RequestSize}
use Rattle.ps_message.specs.Lists.{first_of}
use Rattle.ps_message.specs.Messages.{publish_fault, broken}
use Rattle.ps_examples.specs.RequestSizeExamples.{payload_of, all_parts}
use Rattle.ps_examples.proofs.examples.request_size_examples.Goals as goal

-- what so many bytes break
sized : ℕ → Option Reason
sized bytes = first_of (broken (nat_lt 10000000 bytes) RequestSize ∷ [])

-- The payloads are too long to be counted one by one, so their length comes by a lemma.
of_one : (n : ℕ) → publish_fault (payload_of (suc n) ∷ []) ≡ sized (suc n + 0 + 0 + 0)
unfolding sized
of_one n = ap (λ (bytes : ℕ). sized (bytes + 0 + 0 + 0)) (length-replicate (suc n) 97)

of_two : (n m : ℕ) → publish_fault (payload_of (suc n) ∷ payload_of (suc m) ∷ []) ≡ sized (suc n + 0 + 0 + (suc m + 0 + 0 + 0))
unfolding sized
of_two n m = ap₂ (λ (one two : ℕ). sized (one + 0 + 0 + (two + 0 + 0 + 0))) (length-replicate (suc n) 97) (length-replicate (suc m) 97)

of_parts : (n : ℕ) → publish_fault (all_parts (suc n) ∷ []) ≡ sized (suc n + 3 + 3 + 0)
unfolding sized
of_parts n = ap (λ (bytes : ℕ). sized (bytes + 3 + 3 + 0)) (length-replicate (suc n) 97)

pub returns : goal.returns
unfolding sized
returns c = record {
  greatest = of_one 9999999;
  greater = of_one 10000000;
  greatest_together = of_two 3999999 5999999;
  greater_together = of_two 3999999 6000000;
  greatest_of_all_parts = of_parts 9999993;
  greater_of_all_parts = of_parts 9999994;
  messages_first = refl;
}
