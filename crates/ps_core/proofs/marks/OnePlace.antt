-- What a change of one subscription does to rows and marks.
use Rattle.std.proofs.Common.{ℕ, ◌≡◌, Bool, true, false, nat_eq, List, [], ◌∷◌, map, refl, sym, ap, if◌then◌else◌}
use Rattle.ps_model.specs.declared.mark.Mark.{Mark}
use Rattle.ps_model.specs.declared.mark.Slot.{Slot}
use Rattle.ps_model.specs.declared.world.MarkRow.{MarkRow}
use Rattle.ps_model.specs.declared.world.SubRow.{SubRow}
use Rattle.ps_model.specs.Slots.{remark, remarked}
use Rattle.ps_model.specs.Worlds.{row_of}
use Rattle.ps_tables.specs.declared.kept_subscription.KeptSubscription.{KeptSubscription}
use Rattle.ps_core.specs.State.{sub_row}

-- the row of a subscription in place of that with its number
pub subs-put : (x : KeptSubscription) (subscriptions : List KeptSubscription) → map (λ (r : SubRow). if nat_eq r.number x.number then sub_row x else r) (map sub_row subscriptions) ≡ map sub_row (map (λ (y : KeptSubscription). if nat_eq y.number x.number then x else y) subscriptions)
subs-put x [] = refl
subs-put x (y ∷ ys) = λ i. by (nat_eq y.number x.number) i ∷ subs-put x ys i
  where
    by : (own : Bool) → (if own then sub_row x else sub_row y) ≡ sub_row (if own then x else y)
    by true = refl
    by false = refl

-- where a rule leaves the rows, it leaves the slots
pub remarked-back : (n : ℕ) (rule : Slot → Mark) (slots : List Slot) → map (row_of n) slots ≡ map (row_of n) (remarked rule slots) → remarked rule slots ≡ slots
remarked-back n rule [] e = refl
remarked-back n rule (s ∷ ss) e =
    let heads : row_of n s ≡ row_of n (remark s (rule s)) = cc (e) in
    let tails : map (row_of n) ss ≡ map (row_of n) (remarked rule ss) = cc (e) in
    let marks : rule s ≡ s.mark = ap (λ (r : MarkRow). r.mark) (sym heads) in
    λ i. remark s (marks i) ∷ remarked-back n rule ss tails i
