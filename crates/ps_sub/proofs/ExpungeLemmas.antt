-- The three parts of expunging as one rule.
use Rattle.std.proofs.Common.{ℕ, ◌≡◌, ◌<◌, Bool, true, false, ◌&&◌, ◌||◌, List, [], ◌∷◌, refl, ap}
use Rattle.std.specs.List.{AllByRecursion}
use Rattle.ps_config.specs.declared.config.SubConfig.{SubConfig}
use Rattle.ps_model.specs.declared.hold.Holds.{Holds}
use Rattle.ps_model.specs.declared.mark.Mark.{Mark}
use Rattle.ps_model.specs.declared.mark.Slot.{Slot}
use Rattle.ps_model.specs.Retention.{expired_mark, caught_up_mark, released_mark, expunge}
use Rattle.ps_model.specs.Slots.{is_gone, is_unacked, is_earlier, any_earlier, remark, remarked}
use Rattle.ps_sub.specs.Expunging.{expunged_mark}
use Rattle.ps_sub.specs.Marks.{live}
use Rattle.ps_sub.specs.Steady.{IsAscending, IsLive, IsSteady}
use Rattle.ps_sub.proofs.FirstLemmas.{expunging-first}
use Rattle.ps_sub.proofs.SteadyLemmas.{ascending-remarked}

-- an earlier message among slots with new marks
any_earlier-remarked : (ordering : Bool) (rule : Slot → Mark) (test : Mark → Bool) (slots : List Slot) (s : Slot) (mark : Mark)
    → any_earlier ordering (λ e. test e.mark) (remarked rule slots) (remark s mark) ≡ any_earlier ordering (λ e. test (rule e)) slots s
any_earlier-remarked ordering rule test [] s mark = refl
any_earlier-remarked ordering rule test (e ∷ es) s mark = ap (λ b. (is_earlier ordering e s && test (rule e)) || b) (any_earlier-remarked ordering rule test es s mark)

module _ (t : ℕ) (config : SubConfig) (held : Holds) (all : List Slot) where
  abbrev first : Slot → Mark
  first = expired_mark t config held

  one_mark : (s : Slot) → released_mark t config held (remark s (caught_up_mark config.ordering (remarked first all) (remark s (first s)))) ≡ expunged_mark t config held all s
  one_mark s = rw (any_earlier-remarked config.ordering first is_unacked all s (first s)) refl

  one_rule : (slots : List Slot) → remarked (released_mark t config held) (remarked (caught_up_mark config.ordering (remarked first all)) (remarked first slots)) ≡ remarked (expunged_mark t config held all) slots
  one_rule [] = refl
  one_rule (s ∷ ss) = λ i. remark s (one_mark s i) ∷ one_rule ss i

-- expunging gives each slot one new mark
pub expunge-is : (t : ℕ) (config : SubConfig) (held : Holds) (slots : List Slot) → expunge t config held slots ≡ remarked (expunged_mark t config held slots) slots
expunge-is t config held slots = one_rule t config held slots slots

above-live : (n : ℕ) (slots : List Slot) → AllByRecursion (λ (s : Slot). n < s.item.number) slots → AllByRecursion (λ (s : Slot). n < s.item.number) (live slots)
above-live n [] h = h
above-live n (s ∷ ss) h = by_mark (is_gone s.mark) refl (above-live n ss h.1)
  where
    by_mark : (gone : Bool) → is_gone s.mark ≡ gone → AllByRecursion (λ (e : Slot). n < e.item.number) (live ss) → AllByRecursion (λ (e : Slot). n < e.item.number) (live (s ∷ ss))
    by_mark true e later = rw e later
    by_mark false e later = rw e (h.0, later)

ascending-live : (slots : List Slot) → IsAscending slots → IsAscending (live slots)
ascending-live [] h = h
ascending-live (s ∷ ss) h = by_mark (is_gone s.mark) refl (ascending-live ss h.1)
  where
    by_mark : (gone : Bool) → is_gone s.mark ≡ gone → IsAscending (live ss) → IsAscending (live (s ∷ ss))
    by_mark true e later = rw e later
    by_mark false e later = rw e (above-live s.item.number ss h.0, later)

pub live-live : (slots : List Slot) → IsLive (live slots)
live-live [] = refl
live-live (s ∷ ss) = by_mark (is_gone s.mark) refl (live-live ss)
  where
    by_mark : (gone : Bool) → is_gone s.mark ≡ gone → IsLive (live ss) → IsLive (live (s ∷ ss))
    by_mark true e later = rw e later
    by_mark false e later = rw (e, e) later

-- what expunging leaves is steady
pub steady-expunged : (t : ℕ) (config : SubConfig) (held : Holds) (slots : List Slot) → IsSteady slots config → IsSteady (live (remarked (expunged_mark t config held slots) slots)) config
steady-expunged t config held slots h = record {
  ascending = ascending-live (remarked (expunged_mark t config held slots) slots) (ascending-remarked (expunged_mark t config held slots) slots h.ascending);
  live = live-live (remarked (expunged_mark t config held slots) slots);
  delays = h.delays;
  leased_first = expunging-first t config held slots h.leased_first;
}
