-- Deletions and detaching, as the rules say.
use Rattle.std.proofs.Common.{◌≡◌, ℕ, Bool, true, false, not, nat_eq, List, [], ◌∷◌, Some, None, filter, find, option_map, refl, sym, ap, ◌∙◌}
use Rattle.std.proofs.lemmas.Bool.{false_from_ne_true}
use Rattle.ps_base.specs.declared.refusal.Refusal.TheVariants.{NotFound}
use Rattle.ps_model.specs.declared.command.Command.TheVariants.{DeleteSubscription, DeleteTopic, Detach}
use Rattle.ps_model.specs.declared.reply.Reply.TheVariants.{Empty, Refused}
use Rattle.ps_model.specs.declared.world.TopicRow.{TopicRow}
use Rattle.ps_model.specs.declared.world.World.{World}
use Rattle.ps_model.specs.Same.{WorldParts, same_world}
use Rattle.ps_model.specs.Subscriptions.{delete_sub_at, detach_at}
use Rattle.ps_model.specs.Topics.{delete_topic_at}
use Rattle.ps_model.proofs.SameLemmas.{same-world}
use Rattle.ps_core.specs.Carrying.{CanRecord, IsCarried}
use Rattle.ps_core.specs.Effects.{drop_topic, recorded_at}
use Rattle.ps_tables.specs.Members.{has_name}
use Rattle.ps_core.specs.Keeping.{has_topic_name}
use Rattle.ps_core.specs.State.{State, seen, sub_row, topic_number}
use Rattle.ps_core.specs.Steady.{IsSteady}
use Rattle.ps_tables.proofs.numbers.Changes.{found-by-number}
use Rattle.ps_core.proofs.carrying.Kept.{sub-named-seen}
use Rattle.ps_core.proofs.carrying.Living.{live-seen}
use Rattle.ps_core.proofs.carrying.Outcomes.{carried-left, carried-shown, outcome-open}
use Rattle.ps_core.proofs.changing.Topics.{dropped-steady}

-- ---- a topic

pub topic-missing : (at : ℕ) (name : List ℕ) (s : State) → CanRecord at s → find (has_topic_name name) s.topics ≡ None → IsCarried at (DeleteTopic name) s s (Refused (NotFound name)) false
topic-missing at name s can is =
    carried-shown at (DeleteTopic name) s (Refused (NotFound name)) (outcome-open s at (DeleteTopic name) can.room refl ∙ ap (delete_topic_at (seen s) name) is)

-- nothing is found at a number that was taken out
pub taken-out : {A : Type 0} (number : A → ℕ) (n : ℕ) (xs : List A) → find (λ x. nat_eq (number x) n) (filter (λ x. not (nat_eq (number x) n)) xs) ≡ None
taken-out number n [] = refl
taken-out number n (x ∷ xs) = by (nat_eq (number x) n) refl (taken-out number n xs)
  where
    by : (b : Bool) → nat_eq (number x) n ≡ b → find (λ y. nat_eq (number y) n) (filter (λ y. not (nat_eq (number y) n)) xs) ≡ None → find (λ y. nat_eq (number y) n) (filter (λ y. not (nat_eq (number y) n)) (x ∷ xs)) ≡ None
    by true e rest = rw e rest
    by false e rest = rw (e, e) rest

topics_in : WorldParts → List TopicRow
topics_in p = p.1.1.1.1.0

topic-differs : (name : List ℕ) (row : TopicRow) (s : State) → IsSteady s → find (has_topic_name name) s.topics ≡ Some row → same_world (seen s) (seen (drop_topic row.number s)) ≡ false
topic-differs name row s h is =
    false_from_ne_true (same_world (seen s) (seen (drop_topic row.number s))) (λ same.
    let rows : s.topics ≡ (drop_topic row.number s).topics = ap (λ (p : WorldParts). p.1.1.1.1.0) (same-world (seen s) (seen (drop_topic row.number s)) same) in
    let there : find (λ (r : TopicRow). nat_eq r.number row.number) s.topics ≡ Some row = found-by-number topic_number (has_topic_name name) s.topics row h.topics is in
    absurd (cc (sym there ∙ ap (find (λ (r : TopicRow). nat_eq r.number row.number)) rows ∙ taken-out topic_number row.number s.topics)))

pub topic-deleted : (at : ℕ) (name : List ℕ) (row : TopicRow) (s : State) → CanRecord at s → IsSteady s → IsSteady (recorded_at at s) → find (has_topic_name name) s.topics ≡ Some row
    → IsCarried at (DeleteTopic name) s (drop_topic row.number (recorded_at at s)) Empty true
topic-deleted at name row s can h later is =
    let w : World = record (seen s) { topics = filter (λ (r : TopicRow). not (nat_eq r.number row.number)) s.topics } in
    carried-left at (DeleteTopic name) s (drop_topic row.number s) Empty w (dropped-steady row.number (recorded_at at s) later)
    (outcome-open s at (DeleteTopic name) can.room refl ∙ ap (delete_topic_at (seen s) name) is)
    refl
    (topic-differs name row s h is) refl

-- ---- a subscription

pub sub-missing : (at : ℕ) (name : List ℕ) (s : State) → CanRecord at s → find (has_name name) s.subscriptions ≡ None → IsCarried at (DeleteSubscription name) s s (Refused (NotFound name)) false
sub-missing at name s can is =
    carried-shown at (DeleteSubscription name) s (Refused (NotFound name))
    (outcome-open s at (DeleteSubscription name) can.room refl ∙ ap (delete_sub_at (seen s) name) (sub-named-seen s name ∙ ap (option_map sub_row) is))

pub detach-missing : (at : ℕ) (name : List ℕ) (s : State) → CanRecord at s → find (has_name name) s.subscriptions ≡ None → IsCarried at (Detach name) s s (Refused (NotFound name)) false
detach-missing at name s can is =
    carried-shown at (Detach name) s (Refused (NotFound name)) (outcome-open s at (Detach name) can.room refl ∙ ap (detach_at (seen s) name) (sub-named-seen s name ∙ ap (option_map sub_row) is))
