-- The slots of a cabinet in memory.
use Rattle.std.proofs.Common.{◌≡◌, ◌≢◌, ℕ, zero, suc, ◌<◌, ◌+◌, List, [], ◌∷◌, ◌++◌, length, get_or, Option, Some, None, Result, Ok, Err, Bool, true, false, if◌then◌else◌, refl, sym, ap, ◌∙◌, arith, true≢false}
use Rattle.std.specs.Prelude.{OnOk, OnErr, slice_set, is_none, is_some, not}
use Rattle.std.specs.List.{position, position_from}
use Rattle.std.proofs.lemmas.List.Quantifiers.{position-Some}
use Rattle.std.proofs.lemmas.Iterator.Adapters.{position_from-zero}
use Rattle.std.specs.Str.{bytes_eq}
use Rattle.std.proofs.lemmas.Slice.Eq.{bytes_eq-Decides}
use Rattle.ps_edge.specs.declared.path_log.PathLog.{PathLog}
use Rattle.ps_edge.specs.PathLogs.{slot_at, kept, stored, is_unfailed, all_unfailed, is_out_of, after_back}

by_test : {P : Type 0} (b : Bool) → (b ≡ true → P) → (b ≡ false → P) → P
by_test true if_true if_false = if_true refl
by_test false if_true if_false = if_false refl

-- what isn't there is nothing
pub none-of : {T : Type 0} (r : Bool) (o : Option T) → not r ≡ is_some o → r ≡ is_none o
none-of true None is = refl
none-of true (Some x) is = absurd (true≢false (sym is))
none-of false None is = absurd (true≢false is)
none-of false (Some x) is = refl

alone : (path other : List ℕ) → other ≢ path → bytes_eq path other ≡ false
alone path other differ = by_test (bytes_eq path other) (λ same. absurd (differ (sym ((bytes_eq-Decides path other).0 same)))) (λ e. e)

module _ {K : Type 0} (path : List ℕ) where
  abbrev here : PathLog K → Bool
  here s = bytes_eq s.path path

  -- the first slot of the path gets the keeper
  pub stored-at : (keeper : Option K) (slots : List (PathLog K)) (i : ℕ) (d : PathLog K) → i < length slots → here (get_or slots i d) ≡ true → ((k : ℕ) → k < i → here (get_or slots k d) ≡ false)
      → stored path keeper slots ≡ slice_set slots i (record { path = (get_or slots i d).path; keeper = keeper })
  stored-at keeper [] i d within is before = absurd (omega (arith, within))
  stored-at keeper (s ∷ slots) zero d within is before = rw is
  stored-at keeper (s ∷ slots) (suc i) d within is before =
      let first : here s ≡ false = before 0 (omega arith) in
      rw first (ap (λ (rest : List (PathLog K)). s ∷ rest) (stored-at keeper slots i d (omega (arith, within)) is (λ k lt. before (suc k) (omega (arith, lt)))))

  -- the first slot of the path is what lies there
  pub slot_at-at : (slots : List (PathLog K)) (i : ℕ) (d : PathLog K) → i < length slots → here (get_or slots i d) ≡ true → ((k : ℕ) → k < i → here (get_or slots k d) ≡ false)
      → slot_at path slots ≡ Some (get_or slots i d).keeper
  slot_at-at [] i d within is before = absurd (omega (arith, within))
  slot_at-at (s ∷ slots) zero d within is before = rw is
  slot_at-at (s ∷ slots) (suc i) d within is before =
      let first : here s ≡ false = before 0 (omega arith) in
      rw first (slot_at-at slots i d (omega (arith, within)) is (λ k lt. before (suc k) (omega (arith, lt))))

  pub slot_at-stored : (keeper : Option K) (slots : List (PathLog K)) → slot_at path (stored path keeper slots) ≡ Some keeper
  slot_at-stored keeper [] = rw ((bytes_eq-Decides path path).1 refl)
  slot_at-stored keeper (s ∷ slots) = by_test (here s) (λ is. rw is (rw is)) (λ not_is. rw not_is (rw not_is (slot_at-stored keeper slots)))

  apart : (s : PathLog K) (other : List ℕ) → other ≢ path → here s ≡ true → bytes_eq s.path other ≡ false
  apart s other differ is = by_test (bytes_eq s.path other) (λ same. absurd (differ (sym ((bytes_eq-Decides s.path other).0 same) ∙ (bytes_eq-Decides s.path path).0 is))) (λ e. e)

  pub slot_at-other : (keeper : Option K) (slots : List (PathLog K)) (other : List ℕ) → other ≢ path → slot_at other (stored path keeper slots) ≡ slot_at other slots
  slot_at-other keeper [] other differ = rw (alone path other differ)
  slot_at-other keeper (s ∷ slots) other differ =
      by_test (here s)
      (λ is. rw is (rw (apart s other differ is)))
      (λ not_is. rw not_is (ap (λ (rest : Option (Option K)). if bytes_eq s.path other then Some s.keeper else rest) (slot_at-other keeper slots other differ)))

  -- a slot that was found, written over
  pub stored-placed : (keeper : Option K) (slots : List (PathLog K)) (i : ℕ) (d : PathLog K) → position here slots ≡ Some i → d ≡ get_or slots i d → slice_set slots i (record { path = d.path; keeper = keeper }) ≡ stored path keeper slots
  stored-placed keeper slots i d found read =
      let there = position-Some here slots i d found in
      ap (λ (s : PathLog K). slice_set slots i (record { path = s.path; keeper = keeper })) read
      ∙ sym (stored-at keeper slots i d there.0 there.1 there.2)

  -- what lies in a slot that was found
  pub slot_at-placed : (slots : List (PathLog K)) (i : ℕ) (d : PathLog K) → position here slots ≡ Some i → d ≡ get_or slots i d → slot_at path slots ≡ Some d.keeper
  slot_at-placed slots i d found read =
      let there = position-Some here slots i d found in
      slot_at-at slots i d there.0 there.1 there.2 ∙ ap (λ (s : PathLog K). Some s.keeper) (sym read)

  none-first : (s : PathLog K) (slots : List (PathLog K)) (n : ℕ) → position_from here n (s ∷ slots) ≡ None → here s ≡ false
  none-first s slots n none = by_test (here s) (λ is. absurd (some_none n (sym (rw is at none)))) (λ e. e)
    where
      some_none : (n : ℕ) → None ≡ Some n → ⊥
      some_none n e = cc

  none-rest : (s : PathLog K) (slots : List (PathLog K)) (n : ℕ) → position_from here n (s ∷ slots) ≡ None → position_from here (n + 1) slots ≡ None
  none-rest s slots n none = rw (none-first s slots n none) at none

  slot_at-none_from : (slots : List (PathLog K)) (n : ℕ) → position_from here n slots ≡ None → slot_at path slots ≡ None
  slot_at-none_from [] n none = refl
  slot_at-none_from (s ∷ slots) n none = rw (none-first s slots n none) (slot_at-none_from slots (n + 1) (none-rest s slots n none))

  stored-none_from : (keeper : Option K) (slots : List (PathLog K)) (n : ℕ) → position_from here n slots ≡ None → stored path keeper slots ≡ slots ++ (record { path = path; keeper = keeper }) ∷ []
  stored-none_from keeper [] n none = refl
  stored-none_from keeper (s ∷ slots) n none =
      rw (none-first s slots n none) (ap (λ (rest : List (PathLog K)). s ∷ rest) (stored-none_from keeper slots (n + 1) (none-rest s slots n none)))

  -- nothing lies under a path that wasn't found
  pub slot_at-unplaced : (slots : List (PathLog K)) → position here slots ≡ None → slot_at path slots ≡ None
  slot_at-unplaced slots none = slot_at-none_from slots 0 (sym (position_from-zero here slots) ∙ none)

  pub stored-unplaced : (keeper : Option K) (slots : List (PathLog K)) → position here slots ≡ None → stored path keeper slots ≡ slots ++ (record { path = path; keeper = keeper }) ∷ []
  stored-unplaced keeper slots none = stored-none_from keeper slots 0 (sym (position_from-zero here slots) ∙ none)

  -- a search in a slice is one in the list that it shows
  pub found-in : (shown slots : List (PathLog K)) (r : Option ℕ) → shown ≡ slots → r ≡ position here shown → position here slots ≡ r
  found-in shown slots r same found = ap (λ (l : List (PathLog K)). position here l) (sym same) ∙ sym found

  -- a keeper that came back
  pub back-is : (keeper : K) (slots : List (PathLog K)) (there : Option K) → slot_at path slots ≡ Some there → is_none there ≡ true
      → stored path (Some keeper) slots ≡ (if is_out_of path slots then stored path (Some keeper) slots else slots)
  back-is keeper slots there lies out = rw (lies, out)

  pub back-not : (keeper : K) (slots : List (PathLog K)) (there : Option K) → slot_at path slots ≡ Some there → is_none there ≡ false
      → slots ≡ (if is_out_of path slots then stored path (Some keeper) slots else slots)
  back-not keeper slots there lies out = rw (lies, out)

  pub back-nowhere : (keeper : K) (slots : List (PathLog K)) → slot_at path slots ≡ None → slots ≡ (if is_out_of path slots then stored path (Some keeper) slots else slots)
  back-nowhere keeper slots none = rw none

  pub back-out : (keeper : K) (slots : List (PathLog K)) → is_out_of path (after_back path keeper slots) ≡ false
  back-out keeper slots = by_test (is_out_of path slots) (λ e. rw e (rw (slot_at-stored (Some keeper) slots))) (λ e. rw e e)

  pub back-kept : (keeper : K) (slots : List (PathLog K)) → is_out_of path slots ≡ true → slot_at path (after_back path keeper slots) ≡ Some (Some keeper)
  back-kept keeper slots out = rw out (slot_at-stored (Some keeper) slots)

  pub back-dropped : (keeper : K) (slots : List (PathLog K)) → is_out_of path slots ≡ false → after_back path keeper slots ≡ slots
  back-dropped keeper slots in_place = rw in_place

  pub back-other : (keeper : K) (slots : List (PathLog K)) (other : List ℕ) → other ≢ path → slot_at other (after_back path keeper slots) ≡ slot_at other slots
  back-other keeper slots other differ = by_test (is_out_of path slots) (λ e. rw e (slot_at-other (Some keeper) slots other differ)) (λ e. rw e)

  module _ (faults : K → ℕ) where
    pub unfailed-stored : (keeper : Option K) (slots : List (PathLog K)) → is_unfailed faults keeper ≡ true → all_unfailed faults slots ≡ true → all_unfailed faults (stored path keeper slots) ≡ true
    unfailed-stored keeper [] fine all = rw fine
    unfailed-stored keeper (s ∷ slots) fine all =
        by_test (here s)
        (λ is. rw is (both (record { path = s.path; keeper = keeper }) slots fine (rest s slots all)))
        (λ not_is. rw not_is (both s (stored path keeper slots) (first s slots all) (unfailed-stored keeper slots fine (rest s slots all))))
      where
        both : (s : PathLog K) (slots : List (PathLog K)) → is_unfailed faults s.keeper ≡ true → all_unfailed faults slots ≡ true → all_unfailed faults (s ∷ slots) ≡ true
        both s slots one others = rw (one, others)

        first : (s : PathLog K) (slots : List (PathLog K)) → all_unfailed faults (s ∷ slots) ≡ true → is_unfailed faults s.keeper ≡ true
        first s slots all = by_test (is_unfailed faults s.keeper) (λ e. e) (λ e. absurd (true≢false (sym all ∙ rw e)))

        rest : (s : PathLog K) (slots : List (PathLog K)) → all_unfailed faults (s ∷ slots) ≡ true → all_unfailed faults slots ≡ true
        rest s slots all = by_test (all_unfailed faults slots) (λ e. e) (λ e. absurd (true≢false (sym all ∙ by_test (is_unfailed faults s.keeper) (λ a. rw (a, e)) (λ a. rw a))))

    pub unfailed-kept : (slots : List (PathLog K)) → all_unfailed faults slots ≡ true → is_unfailed faults (kept path slots) ≡ true
    unfailed-kept [] all = refl
    unfailed-kept (s ∷ slots) all =
        by_test (here s)
        (λ is. rw is (first all))
        (λ not_is. rw not_is (unfailed-kept slots (rest all)))
      where
        first : all_unfailed faults (s ∷ slots) ≡ true → is_unfailed faults s.keeper ≡ true
        first all = by_test (is_unfailed faults s.keeper) (λ e. e) (λ e. absurd (true≢false (sym all ∙ rw e)))

        rest : all_unfailed faults (s ∷ slots) ≡ true → all_unfailed faults slots ≡ true
        rest all = by_test (all_unfailed faults slots) (λ e. e) (λ e. absurd (true≢false (sym all ∙ by_test (is_unfailed faults s.keeper) (λ a. rw (a, e)) (λ a. rw a))))

    -- whether a keeper was put or not, all are unfailed
    pub put-unfailed : {T E : Type 0} (keeper : K) (was now : List (PathLog K)) (r : Result T E) → faults keeper ≡ 0 → all_unfailed faults was ≡ true → OnOk r (now ≡ stored path (Some keeper) was) → OnErr r (now ≡ was) → all_unfailed faults now ≡ true
    put-unfailed keeper was now (Ok x) none all ok err = ap (all_unfailed faults) ok ∙ unfailed-stored (Some keeper) was (rw none) all
    put-unfailed keeper was now (Err e) none all ok err = ap (all_unfailed faults) err ∙ all

    pub back-unfailed : (keeper : K) (slots : List (PathLog K)) → faults keeper ≡ 0 → all_unfailed faults slots ≡ true → all_unfailed faults (after_back path keeper slots) ≡ true
    back-unfailed keeper slots none all = by_test (is_out_of path slots) (λ e. rw e (unfailed-stored (Some keeper) slots (rw none) all)) (λ e. rw e all)

pub on-err : {T E P : Type 0} (r : Result T E) → P → OnErr r P
on-err (Ok x) p = tt
on-err (Err e) p = p
