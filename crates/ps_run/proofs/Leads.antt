-- What is printed for lines with their fates, part by part.
use Rattle.std.proofs.Common.{◌≡◌, ◌≤◌, ℕ, ◌+◌, ◌-◌, ◌^◌, min, length, List, [], ◌∷◌, ◌++◌, Option, option_map, refl, sym, ap, ◌∙◌, subst, append_assoc, arith}
use Rattle.std.proofs.lemmas.List.{length-append}
use Rattle.ps_run.specs.Lines.{lines_of, HasNoFeed}
use Rattle.ps_run.specs.Fates.{Fate, texts_of_lines, state_after, store_faults, bad_rows, HasFateCauses}
use Rattle.ps_run.specs.Leading.{LeadsOn}
use Rattle.ps_run.proofs.FeedLemmas.{lines-feed, feeds-append, feeds-line}
use Rattle.ps_edge.proofs.Texts.{joined, unwritten}

store_faults-append : (one two : List Fate) → store_faults (one ++ two) ≡ store_faults one + store_faults two
store_faults-append [] two = omega arith
store_faults-append (f ∷ one) two = let rest = store_faults-append one two in omega arith

bad_rows-append : (one two : List Fate) → bad_rows one ≡ 0 → bad_rows two ≡ 0 → bad_rows (one ++ two) ≡ 0
bad_rows-append [] two first second = second
bad_rows-append (f ∷ one) two first second =
    let rest = bad_rows-append one two (omega arith) second in
    omega arith

rose_on : (a b c x y most : ℕ) → min (a + x) most ≤ b → min (b + y) most ≤ c → min (a + (x + y)) most ≤ c
rose_on a b c x y most first second = omega arith

-- no line, one part after another
pub causes_none : (before now : ℕ) → before ≤ now → HasFateCauses before now []
causes_none before now later = record { causes = still before now (2 ^ 64 - 1) later; no_bad_row = refl }
  where
    still : (a b most : ℕ) → a ≤ b → min (a + 0) most ≤ b
    still a b most later = omega arith

pub causes_on : (before mid now : ℕ) (one two : List Fate) → HasFateCauses before mid one → HasFateCauses mid now two → HasFateCauses before now (one ++ two)
causes_on before mid now one two first second = record {
  causes = subst (λ (n : ℕ). min (before + n) (2 ^ 64 - 1) ≤ now) (sym (store_faults-append one two)) (rose_on before mid now (store_faults one) (store_faults two) (2 ^ 64 - 1) first.causes second.causes);
  no_bad_row = bad_rows-append one two first.no_bad_row second.no_bad_row;
}

module _ {S F : Type 0} (text : S → F → List ℕ → List ℕ) (step : S → F → List ℕ → S) where
  pub texts_none : (s : S) (lines : List (List ℕ)) → texts_of_lines text step s lines [] ≡ []
  texts_none s [] = refl
  texts_none s (line ∷ lines) = refl

  pub state_none : (s : S) (lines : List (List ℕ)) → state_after step s lines [] ≡ s
  state_none s [] = refl
  state_none s (line ∷ lines) = refl

  -- nothing is answered yet
  pub led_none : (held : Option (List ℕ)) (s : S) (bytes : List ℕ) → LeadsOn text step held held s s [] bytes bytes
  led_none held s bytes = record {
    printed = [];
    output = unwritten held;
    texts = λ rest later. refl;
    states = λ rest later. refl;
    lines = λ rest. omega arith;
    ended = omega arith;
  }

  -- a line and its line feed
  pub led_line : (was now : Option (List ℕ)) (s : S) (f : F) (line : List ℕ) → HasNoFeed line → now ≡ option_map (λ held. held ++ text s f line) was → LeadsOn text step was now s (step s f line) (f ∷ []) (line ++ 10 ∷ []) []
  led_line was now s f line unended written = record {
    printed = text s f line;
    output = written;
    texts = λ rest later. ap (λ (ls : List (List ℕ)). texts_of_lines text step s ls (f ∷ later)) (whole rest);
    states = λ rest later. ap (λ (ls : List (List ℕ)). state_after step s ls (f ∷ later)) (whole rest);
    lines = λ rest. let same = ap length (whole rest) in omega arith;
    ended = let one = feeds-line line unended in omega arith;
  }
    where
      whole : (rest : List ℕ) → lines_of ((line ++ 10 ∷ []) ++ rest) ≡ line ∷ lines_of rest
      whole rest = ap lines_of (append_assoc line (10 ∷ []) rest) ∙ lines-feed line rest unended

  -- one part after another
  pub led_on : (was mid now : Option (List ℕ)) (s m t : S) (fates others : List F) (bytes over piece last : List ℕ) → LeadsOn text step was mid s m fates bytes over → LeadsOn text step mid now m t others (over ++ piece) last → LeadsOn text step was now s t (fates ++ others) (bytes ++ piece) last
  led_on was mid now s m t fates others bytes over piece last one two = record {
    printed = one.printed ++ two.printed;
    output = joined was mid now one.printed two.printed one.output two.output;
    texts = λ rest later.
        ap (λ (l : List ℕ). texts_of_lines text step s (lines_of l) ((fates ++ others) ++ later)) (append_assoc bytes piece rest)
        ∙ ap (λ (fs : List F). texts_of_lines text step s (lines_of (bytes ++ (piece ++ rest))) fs) (append_assoc fates others later)
        ∙ one.texts (piece ++ rest) (others ++ later)
        ∙ ap (λ (l : List ℕ). one.printed ++ texts_of_lines text step m (lines_of l) (others ++ later)) (sym (append_assoc over piece rest))
        ∙ ap (λ (l : List ℕ). one.printed ++ l) (two.texts rest later)
        ∙ sym (append_assoc one.printed two.printed (texts_of_lines text step t (lines_of (last ++ rest)) later));
    states = λ rest later.
        ap (λ (l : List ℕ). state_after step s (lines_of l) ((fates ++ others) ++ later)) (append_assoc bytes piece rest)
        ∙ ap (λ (fs : List F). state_after step s (lines_of (bytes ++ (piece ++ rest))) fs) (append_assoc fates others later)
        ∙ one.states (piece ++ rest) (others ++ later)
        ∙ ap (λ (l : List ℕ). state_after step m (lines_of l) (others ++ later)) (sym (append_assoc over piece rest))
        ∙ two.states rest later;
    lines = λ rest.
        let first = one.lines (piece ++ rest) in
        let second = two.lines rest in
        let left = ap (λ (l : List ℕ). length (lines_of l)) (append_assoc bytes piece rest) in
        let middle = ap (λ (l : List ℕ). length (lines_of l)) (append_assoc over piece rest) in
        let both = length-append fates others in
        omega arith;
    ended =
        let first = one.ended in
        let second = two.ended in
        let left = feeds-append bytes piece in
        let middle = feeds-append over piece in
        let both = length-append fates others in
        omega arith;
  }
