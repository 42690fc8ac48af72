-- Worked examples: what a failure does to the later messages of its ordering key.
use Rattle.std.specs.Prelude.{◌≡◌, false, List, [], ◌∷◌, ◌++◌, Some, None}
use Rattle.ps_model.specs.declared.command.Command.TheVariants.{Tick}
use Rattle.ps_model.specs.declared.mark.Mark.TheVariants.{Backlog, Leased, Ahead}
use Rattle.ps_model.specs.declared.reply.Reply.TheVariants.{Acked, Modified}
use Rattle.ps_config.specs.Masks.{default_sub}
use Rattle.ps_examples.specs.Samples.{Call, told, recorded_of, noted, tick_at, marks_after, standing, hi, pull_at, id, ack_at, modify_at, give_up_at, out}
use Rattle.ps_examples.specs.OrderingExamples.{ordered, out_with, three_out, third_early, of_k, of_j, ordered_answer}

-- the first of three leases of a key is given up
abbrev pub first_failed : List Call
first_failed = three_out ordered ++ give_up_at 3000 (id 1 1 1 ∷ []) ∷ []

-- a message of each of two keys and one of none, and the first is given up
abbrev pub three_keys : List Call
three_keys = out_with ordered (of_k ∷ of_j ∷ hi ∷ []) ++ give_up_at 3000 (id 1 1 1 ∷ []) ∷ []

-- the third failed once and is acknowledged early at its second delivery
abbrev pub failed_and_ahead : List Call
failed_and_ahead = three_out ordered ++ (give_up_at 2100 (id 1 3 3 ∷ []) ∷ pull_at 2100 10 ∷ ack_at 2500 (id 1 3 4 ∷ []) ∷ [])

pub record FallingBackExamples : Type 0 where
  -- the leases of the later ones end with the failure; these have failed no more than before
  pub first_given_up : told (three_out ordered) (give_up_at 3000 (id 1 1 1 ∷ [])) ≡ Modified false []
  pub all_back : marks_after first_failed ≡ standing 1 1 (Backlog 1 0 (Some 1)) ∷ standing 1 2 (Backlog 0 0 (Some 2)) ∷ standing 1 3 (Backlog 0 0 (Some 3)) ∷ []
  pub all_again : told first_failed (pull_at 3000 10) ≡ ordered_answer (out (id 1 1 4) of_k ∷ out (id 1 2 5) of_k ∷ out (id 1 3 6) of_k ∷ [])
  -- a lease that so ended still acknowledges, ahead of its turn, as long as the message isn't out again
  pub old_lease : told first_failed (ack_at 3000 (id 1 2 2 ∷ [])) ≡ Acked false [] []
  pub old_lease_is_recorded : recorded_of first_failed (ack_at 3000 (id 1 2 2 ∷ [])) ≡ noted (ack_at 3000 (id 1 2 2 ∷ []))
  pub old_lease_is_ahead : marks_after (first_failed ++ ack_at 3000 (id 1 2 2 ∷ []) ∷ []) ≡ standing 1 1 (Backlog 1 0 (Some 1)) ∷ standing 1 2 (Ahead 0) ∷ standing 1 3 (Backlog 0 0 (Some 3)) ∷ []
  pub the_others_again : told (first_failed ++ ack_at 3000 (id 1 2 2 ∷ []) ∷ []) (pull_at 3000 10) ≡ ordered_answer (out (id 1 1 4) of_k ∷ out (id 1 3 5) of_k ∷ [])
  pub older_lease : told (first_failed ++ pull_at 3000 10 ∷ []) (ack_at 3000 (id 1 2 2 ∷ [])) ≡ Acked false [] []
  pub older_lease_unrecorded : recorded_of (first_failed ++ pull_at 3000 10 ∷ []) (ack_at 3000 (id 1 2 2 ∷ [])) ≡ None
  pub both_old_leases : told (first_failed ++ ack_at 3000 (id 1 2 2 ∷ id 1 1 1 ∷ []) ∷ []) (pull_at 3000 10) ≡ ordered_answer (out (id 1 3 4) of_k ∷ [])
  -- messages of another key or of none stay out
  pub only_its_key : told three_keys (pull_at 3000 10) ≡ ordered_answer (out (id 1 1 4) of_k ∷ [])
  pub the_others_stay : marks_after (three_keys ++ pull_at 3000 10 ∷ []) ≡ standing 1 1 (Leased 1 4 13000) ∷ standing 1 2 (Leased 0 2 12000) ∷ standing 1 3 (Leased 0 3 12000) ∷ []
  -- earlier ones stay out
  pub only_later : marks_after (three_out ordered ++ give_up_at 3000 (id 1 3 3 ∷ []) ∷ []) ≡ standing 1 1 (Leased 0 1 12000) ∷ standing 1 2 (Leased 0 2 12000) ∷ standing 1 3 (Backlog 1 0 (Some 3)) ∷ []
  -- without ordering every lease is on its own
  pub unordered : marks_after (three_out default_sub ++ give_up_at 3000 (id 1 1 1 ∷ []) ∷ []) ≡ standing 1 1 (Backlog 1 0 (Some 1)) ∷ standing 1 2 (Leased 0 2 12000) ∷ standing 1 3 (Leased 0 3 12000) ∷ []
  -- leases that end together each fail; one that was put off comes back with them and hasn't failed
  pub ended_together : marks_after (three_out ordered ++ (12000, Tick) ∷ []) ≡ standing 1 1 (Backlog 1 0 (Some 1)) ∷ standing 1 2 (Backlog 1 0 (Some 2)) ∷ standing 1 3 (Backlog 1 0 (Some 3)) ∷ []
  pub put_off_in_vain : marks_after (three_out ordered ++ (modify_at 3000 ((id 1 2 2, 60) ∷ []) ∷ (12000, Tick) ∷ [])) ≡ standing 1 1 (Backlog 1 0 (Some 1)) ∷ standing 1 2 (Backlog 0 0 (Some 2)) ∷ standing 1 3 (Backlog 1 0 (Some 3)) ∷ []
  pub put_off_at_once_in_vain : marks_after (three_out ordered ++ modify_at 3000 ((id 1 2 2, 60) ∷ (id 1 1 1, 0) ∷ []) ∷ []) ≡ standing 1 1 (Backlog 1 0 (Some 1)) ∷ standing 1 2 (Backlog 0 0 (Some 2)) ∷ standing 1 3 (Backlog 0 0 (Some 3)) ∷ []
  -- what stood ahead comes again too, with no lease that could acknowledge it
  pub ahead_ended : told third_early (pull_at 12000 10) ≡ ordered_answer (out (id 1 1 4) of_k ∷ out (id 1 2 5) of_k ∷ out (id 1 3 6) of_k ∷ [])
  pub ahead_unleased : recorded_of (third_early ++ give_up_at 3000 (id 1 2 2 ∷ []) ∷ []) (ack_at 3000 (id 1 3 3 ∷ [])) ≡ None
  -- and its failures stay counted
  pub ahead_with_failures : marks_after failed_and_ahead ≡ standing 1 1 (Leased 0 1 12000) ∷ standing 1 2 (Leased 0 2 12000) ∷ standing 1 3 (Ahead 1) ∷ []
  pub back_with_failures : marks_after (failed_and_ahead ++ give_up_at 3000 (id 1 2 2 ∷ []) ∷ []) ≡ standing 1 1 (Leased 0 1 12000) ∷ standing 1 2 (Backlog 1 0 (Some 2)) ∷ standing 1 3 (Backlog 1 0 None) ∷ []
  -- a moment at which leases end is recorded, where the call itself changes nothing
  pub ending_is_recorded : recorded_of (three_out ordered) (12000, Tick) ≡ tick_at 12000
  pub nothing_ends : recorded_of (three_out ordered) (11999, Tick) ≡ None
