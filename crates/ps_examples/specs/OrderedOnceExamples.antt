-- Worked examples: ordering keys in exactly-once mode.
use Rattle.std.specs.Prelude.{◌≡◌, true, [], ◌∷◌, ◌++◌, None}
use Rattle.ps_model.specs.declared.mark.Mark.TheVariants.{Leased}
use Rattle.ps_model.specs.declared.reply.Reply.TheVariants.{Acked, Received}
use Rattle.ps_examples.specs.Samples.{told, recorded_of, noted, counted, marks_after, standing, pull_at, id, ack_at, give_up_at, out}
use Rattle.ps_examples.specs.OrderingExamples.{ordered_once, three_out, of_k}

pub record OrderedOnceExamples : Type 0 where
  -- in exactly-once mode an acknowledgement before its turn changes nothing
  pub early : told (three_out ordered_once) (ack_at 2500 (id 1 3 3 ∷ [])) ≡ Acked true [] (id 1 3 3 ∷ [])
  pub early_is_unrecorded : recorded_of (three_out ordered_once) (ack_at 2500 (id 1 3 3 ∷ [])) ≡ None
  pub marks_after_early : marks_after (three_out ordered_once ++ ack_at 2500 (id 1 3 3 ∷ []) ∷ []) ≡ standing 1 1 (Leased 0 1 12000) ∷ standing 1 2 (Leased 0 2 12000) ∷ standing 1 3 (Leased 0 3 12000) ∷ []
  pub entries_after_early : (counted (three_out ordered_once ++ ack_at 2500 (id 1 3 3 ∷ []) ∷ [])).entries ≡ 4
  -- those before their turn are told in the order of the request, and each once
  pub two_early : told (three_out ordered_once) (ack_at 2500 (id 1 3 3 ∷ id 1 2 2 ∷ id 1 3 3 ∷ [])) ≡ Acked true [] (id 1 3 3 ∷ id 1 2 2 ∷ [])
  -- beside them an id of no lease is told, and one in its turn takes effect
  pub of_each_kind : told (three_out ordered_once) (ack_at 2500 (id 1 3 3 ∷ id 1 1 9 ∷ id 1 1 1 ∷ [])) ≡ Acked true (id 1 1 9 ∷ []) (id 1 3 3 ∷ [])
  pub of_each_kind_recorded : recorded_of (three_out ordered_once) (ack_at 2500 (id 1 3 3 ∷ id 1 1 9 ∷ id 1 1 1 ∷ [])) ≡ noted (ack_at 2500 (id 1 3 3 ∷ id 1 1 9 ∷ id 1 1 1 ∷ []))
  -- the rest in one request, the later one first
  pub the_rest : told (three_out ordered_once ++ ack_at 2500 (id 1 1 1 ∷ []) ∷ []) (ack_at 2600 (id 1 3 3 ∷ id 1 2 2 ∷ [])) ≡ Acked true [] []
  pub nothing_left : told (three_out ordered_once ++ (ack_at 2500 (id 1 1 1 ∷ []) ∷ ack_at 2600 (id 1 3 3 ∷ id 1 2 2 ∷ []) ∷ [])) (pull_at 12000 10) ≡ Received true true []
  -- a later message's lease ends with the failure of an earlier one, and then acknowledges nothing
  pub lease_ended : told (three_out ordered_once ++ give_up_at 3000 (id 1 1 1 ∷ []) ∷ []) (ack_at 3000 (id 1 2 2 ∷ [])) ≡ Acked true (id 1 2 2 ∷ []) []
  pub lease_ended_unrecorded : recorded_of (three_out ordered_once ++ give_up_at 3000 (id 1 1 1 ∷ []) ∷ []) (ack_at 3000 (id 1 2 2 ∷ [])) ≡ None
  pub all_again : told (three_out ordered_once ++ (give_up_at 3000 (id 1 1 1 ∷ []) ∷ ack_at 3000 (id 1 2 2 ∷ []) ∷ [])) (pull_at 3000 10) ≡ Received true true (out (id 1 1 4) of_k ∷ out (id 1 2 5) of_k ∷ out (id 1 3 6) of_k ∷ [])
