-- Where the moment changes nothing, and where it changes a mark.
use Rattle.std.proofs.Common.{ℕ, ◌≡◌, ◌≢◌, ◌≤◌, Bool, true, false, ◌&&◌, ◌||◌, not, List, [], ◌∷◌, None, length, suc, refl, sym, ◌∙◌, ap, subst, arith, if◌then◌else◌}
use Rattle.std.specs.List.{list_any}
use Rattle.std.proofs.lemmas.Bool.{false≢true, or_parts, or_from, not-false, not_from_false, cond_both, false_from_ne_true, and_right}
use Rattle.ps_config.specs.declared.config.SubConfig.{SubConfig}
use Rattle.ps_model.specs.declared.hold.Holds.{Holds}
use Rattle.ps_model.specs.declared.mark.Mark.{Mark}
use Rattle.ps_model.specs.declared.mark.Mark.TheVariants.{Backlog, Leased, Ahead, Done, Gone}
use Rattle.ps_model.specs.declared.mark.Slot.{Slot}
use Rattle.ps_model.specs.Failing.{fail, failed, dead_letter, dead_letters, is_dead, one_more, mark_after_failing, is_due, is_over}
use Rattle.ps_model.specs.Retention.{expired_mark, caught_up_as, lapsed, holds, expunge}
use Rattle.ps_model.specs.Same.{same_mark}
use Rattle.ps_model.specs.Slots.{is_gone, is_leased, is_done, is_earlier, any_earlier, remark, remarked}
use Rattle.ps_model.proofs.SameLemmas.{exact-mark}
use Rattle.ps_sub.specs.Expunging.{is_behind, expunged_mark, is_expunged, is_moved, settled}
use Rattle.ps_sub.specs.Marks.{live}
use Rattle.ps_sub.specs.Steady.{IsLive}
use Rattle.ps_sub.proofs.ExpungeLemmas.{expunge-is}

-- some new mark is another one
abbrev any_moves : (Slot → Mark) → List Slot → Bool
any_moves rule = list_any (λ (s : Slot). not (same_mark (rule s) s.mark))

-- where no mark moves, the slots stay
stays : (rule : Slot → Mark) (slots : List Slot) → any_moves rule slots ≡ false → remarked rule slots ≡ slots
stays rule [] h = refl
stays rule (s ∷ ss) h =
    let p = or_parts (not (same_mark (rule s) s.mark)) (any_moves rule ss) h in
    λ i. remark s (exact-mark.one (rule s) s.mark (not-false _ p.0) i) ∷ stays rule ss p.1 i

live-same : (slots : List Slot) → IsLive slots → live slots ≡ slots
live-same [] h = refl
live-same (s ∷ ss) h =
    let p = or_parts (is_gone s.mark) (list_any (λ (e : Slot). is_gone e.mark) ss) h in
    rw p.0 (ap (λ l. s ∷ l) (live-same ss p.1))

live-few : (slots : List Slot) → length (live slots) ≤ length slots
live-few [] = omega arith
live-few (s ∷ ss) = cond_both (not (is_gone s.mark)) (s ∷ live ss) (live ss) (λ l. length l ≤ suc (length ss)) (λ e. omega (arith, live-few ss)) (λ e. omega (arith, live-few ss))

-- where what is left is as long as all, it is all
live-all : (slots : List Slot) → length (live slots) ≡ length slots → live slots ≡ slots
live-all [] h = refl
live-all (s ∷ ss) h = by_mark (is_gone s.mark) refl h (live-all ss)
  where
    by_mark : (gone : Bool) → is_gone s.mark ≡ gone → length (live (s ∷ ss)) ≡ suc (length ss) → (length (live ss) ≡ length ss → live ss ≡ ss) → live (s ∷ ss) ≡ s ∷ ss
    by_mark true e long later = let short = rw e at long in absurd (omega (arith, short, live-few ss))
    by_mark false e long later = let same = rw e at long in rw e (ap (λ l. s ∷ l) (later (omega (arith, same))))

length-remarked : (rule : Slot → Mark) (slots : List Slot) → length (remarked rule slots) ≡ length slots
length-remarked rule [] = refl
length-remarked rule (s ∷ ss) = ap suc (length-remarked rule ss)

abbrev first_mark : Mark → List Slot → Mark
first_mark m [] = m
first_mark m (s ∷ ss) = s.mark

abbrev rest : List Slot → List Slot
rest [] = []
rest (s ∷ ss) = ss

still : (rule : Slot → Mark) (slots : List Slot) → remarked rule slots ≡ slots → any_moves rule slots ≡ false
still rule [] h = refl
still rule (s ∷ ss) h =
    let e : rule s ≡ s.mark = ap (first_mark s.mark) h in
    rw (ap (λ m. same_mark m s.mark) e ∙ exact-mark.own s.mark) (still rule ss (ap rest h))

-- where a mark moves, what is left isn't what was there
moves : (rule : Slot → Mark) (slots : List Slot) → any_moves rule slots ≡ true → live (remarked rule slots) ≢ slots
moves rule slots h = λ e.
    let long = ap length e ∙ sym (length-remarked rule slots) in
    let same = still rule slots (sym (live-all (remarked rule slots) long) ∙ e) in
    false≢true (sym same ∙ h)

any_within : (p q : Slot → Bool) → ((s : Slot) → p s ≡ true → q s ≡ true) → (slots : List Slot) → list_any p slots ≡ true → list_any q slots ≡ true
any_within p q h [] e = absurd (false≢true e)
any_within p q h (s ∷ ss) e = by_first (p s) refl (any_within p q h ss)
  where
    by_first : (b : Bool) → p s ≡ b → (list_any p ss ≡ true → list_any q ss ≡ true) → (q s || list_any q ss) ≡ true
    by_first true is later = rw (h s is) refl
    by_first false is later = rw (later (subst (λ b. (b || list_any p ss) ≡ true) is e)) (either (q s))
      where
        either : (b : Bool) → (b || true) ≡ true
        either true = refl
        either false = refl

either_any : (p q : Slot → Bool) (slots : List Slot) → list_any (λ s. p s || q s) slots ≡ (list_any p slots || list_any q slots)
either_any p q [] = refl
either_any p q (s ∷ ss) = ap (λ b. (p s || q s) || b) (either_any p q ss) ∙ swap (p s) (q s) (list_any p ss) (list_any q ss)
  where
    swap : (a b c d : Bool) → ((a || b) || (c || d)) ≡ ((a || c) || (b || d))
    swap true b c d = refl
    swap false true true d = refl
    swap false true false d = refl
    swap false false c d = refl

none_earlier : (ordering : Bool) (test : Slot → Bool) (slots : List Slot) (s : Slot) → list_any test slots ≡ false → any_earlier ordering test slots s ≡ false
none_earlier ordering test [] s h = refl
none_earlier ordering test (e ∷ es) s h =
    let p = or_parts (test e) (list_any test es) h in
    or_from _ _ (and_right (is_earlier ordering e s) (test e) p.0) (none_earlier ordering test es s p.1)

pick : (b : Bool) (x y : Mark) → is_leased x ≡ false → is_leased y ≡ false → is_leased (if b then x else y) ≡ false
pick true x y hx hy = hx
pick false x y hx hy = hy

lapsed-ends : (m : Mark) → is_leased (lapsed m) ≡ false
lapsed-ends (Backlog failures until last) = refl
lapsed-ends (Leased failures lease deadline) = refl
lapsed-ends (Ahead failures) = refl
lapsed-ends (Done cause) = refl
lapsed-ends (Gone cause) = refl

caught_up-ends : (m : Mark) → is_leased m ≡ false → is_leased (caught_up_as m) ≡ false
caught_up-ends (Backlog failures until last) h = h
caught_up-ends (Leased failures lease deadline) h = h
caught_up-ends (Ahead failures) h = refl
caught_up-ends (Done cause) h = h
caught_up-ends (Gone cause) h = h

-- expunging lends nothing
expunged-ends : (t : ℕ) (config : SubConfig) (held : Holds) (all : List Slot) (s : Slot) → is_leased s.mark ≡ false → is_leased (expunged_mark t config held all s) ≡ false
expunged-ends t config held all s h =
    let first : Mark = expired_mark t config held s in
    let second : Mark = if is_behind t config held all s then first else caught_up_as first in
    let ends : is_leased first ≡ false = pick (is_done s.mark || holds t config held s) s.mark (lapsed s.mark) h (lapsed-ends s.mark) in
    let ended : is_leased second ≡ false = pick (is_behind t config held all s) first (caught_up_as first) ends (caught_up-ends first ends) in
    pick (is_done second && not (holds t config held (remark s second))) (lapsed second) second (lapsed-ends second) ended

due-leased : (t : ℕ) (m : Mark) → is_over t m ≡ true → is_leased m ≡ true
due-leased t (Leased failures lease deadline) h = refl
due-leased t (Backlog failures until last) h = absurd (false≢true h)
due-leased t (Ahead failures) h = absurd (false≢true h)
due-leased t (Done cause) h = absurd (false≢true h)
due-leased t (Gone cause) h = absurd (false≢true h)

failed-ends : (t : ℕ) (forward : Bool) (config : SubConfig) (m : Mark) → is_over t m ≡ true → is_leased (failed t forward config m) ≡ false
failed-ends t forward config (Leased failures lease deadline) h = pick (is_dead config.dead_letter forward (one_more failures)) _ _ refl refl
failed-ends t forward config (Backlog failures until last) h = absurd (false≢true h)
failed-ends t forward config (Ahead failures) h = absurd (false≢true h)
failed-ends t forward config (Done cause) h = absurd (false≢true h)
failed-ends t forward config (Gone cause) h = absurd (false≢true h)

pub remarked-twice : (second first : Slot → Mark) (slots : List Slot) → remarked second (remarked first slots) ≡ remarked (λ s. second (remark s (first s))) slots
remarked-twice second first [] = refl
remarked-twice second first (s ∷ ss) = ap (λ l. remark s (second (remark s (first s))) ∷ l) (remarked-twice second first ss)

no_letter : (fails : Slot → Bool) (forward : Bool) (config : SubConfig) (m : Mark) (s : Slot) → fails s ≡ false → dead_letter fails forward config m s ≡ None
no_letter fails forward config (Leased failures lease deadline) s h = rw h refl
no_letter fails forward config (Backlog failures until last) s h = refl
no_letter fails forward config (Ahead failures) s h = refl
no_letter fails forward config (Done cause) s h = refl
no_letter fails forward config (Gone cause) s h = refl

-- where nothing fails, nothing is a dead letter
pub no-letters : (fails : Slot → Bool) (forward : Bool) (config : SubConfig) (slots : List Slot) → list_any fails slots ≡ false → dead_letters fails forward config slots ≡ []
no-letters fails forward config [] h = refl
no-letters fails forward config (s ∷ ss) h =
    let p = or_parts (fails s) (list_any fails ss) h in
    rw (no_letter fails forward config s.mark s p.0) (no-letters fails forward config ss p.1)

none_fails : (t : ℕ) (forward : Bool) (config : SubConfig) (all : List Slot) → list_any (is_due t) all ≡ false
    → (slots : List Slot) → list_any (is_due t) slots ≡ false → remarked (mark_after_failing (is_due t) t forward config all) slots ≡ slots
none_fails t forward config all none [] h = refl
none_fails t forward config all none (s ∷ ss) h =
    let p = or_parts (is_due t s) (list_any (is_due t) ss) h in
    let e : mark_after_failing (is_due t) t forward config all s ≡ s.mark = rw (p.0, none_earlier config.ordering (is_due t) all s none) refl in
    λ i. remark s (e i) ∷ none_fails t forward config all none ss p.1 i

-- where no lease is over, failing changes nothing
pub fail-rest : (t : ℕ) (forward : Bool) (config : SubConfig) (slots : List Slot) → list_any (is_due t) slots ≡ false → fail (is_due t) t forward config slots ≡ slots
fail-rest t forward config slots none = none_fails t forward config slots none slots none

-- where expunging changes no mark, it changes nothing
pub expunge-rest : (t : ℕ) (config : SubConfig) (held : Holds) (slots : List Slot) → list_any (is_expunged t config held slots) slots ≡ false → IsLive slots → live (expunge t config held slots) ≡ slots
expunge-rest t config held slots h live_all = ap live (expunge-is t config held slots ∙ stays (expunged_mark t config held slots) slots h) ∙ live-same slots live_all

module _ (t : ℕ) (forward : Bool) (config : SubConfig) (held : Holds) (all : List Slot) where
  abbrev failing : Slot → Mark
  failing = mark_after_failing (is_due t) t forward config all

  abbrev ending : Slot → Mark
  ending s = expunged_mark t config held (remarked failing all) (remark s (failing s))

  ending-moves : (s : Slot) → is_due t s ≡ true → not (same_mark (ending s) s.mark) ≡ true
  ending-moves s due =
      let ended : is_leased (failing s) ≡ false = rw due (failed-ends t forward config s.mark due) in
      let after : is_leased (ending s) ≡ false = expunged-ends t config held (remarked failing all) (remark s (failing s)) ended in
      let before : is_leased s.mark ≡ true = due-leased t s.mark due in
      not_from_false _ (false_from_ne_true (same_mark (ending s) s.mark) (λ e. false≢true (sym after ∙ ap is_leased (exact-mark.one (ending s) s.mark e) ∙ before)))

  pub settled-rest : list_any (is_moved t config held all) all ≡ false → IsLive all → settled t forward config held all ≡ all
  settled-rest h live_all =
      let p = or_parts _ _ (sym (either_any (is_due t) (is_expunged t config held all) all) ∙ h) in
      ap (λ l. live (expunge t config held l)) (fail-rest t forward config all p.0) ∙ expunge-rest t config held all p.1 live_all

  moved_by : (over : Bool) → list_any (is_due t) all ≡ over → (over || list_any (is_expunged t config held all) all) ≡ true → settled t forward config held all ≢ all
  moved_by true over h = λ same.
      let one : expunge t config held (remarked failing all) ≡ remarked ending all = expunge-is t config held (remarked failing all) ∙ remarked-twice (expunged_mark t config held (remarked failing all)) failing all in
      moves ending all (any_within (is_due t) _ ending-moves all over) (ap live (sym one) ∙ same)
  moved_by false over h = λ same.
      moves (expunged_mark t config held all) all h (ap live (sym (ap (expunge t config held) (fail-rest t forward config all over) ∙ expunge-is t config held all)) ∙ same)

  pub settled-due : list_any (is_moved t config held all) all ≡ true → settled t forward config held all ≢ all
  settled-due h = moved_by (list_any (is_due t) all) refl (sym (either_any (is_due t) (is_expunged t config held all) all) ∙ h)
