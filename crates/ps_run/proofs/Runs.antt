-- Parts of a run, one after another.
use Rattle.std.proofs.Common.{◌≡◌, ◌≢◌, ◌<◌, ◌≤◌, ℕ, ◌+◌, length, take, drop, get_or, List, [], ◌∷◌, ◌++◌, Option, option_map, Bool, true, refl, sym, ap, ◌∙◌, subst, append_assoc, arith}
use Rattle.std.proofs.lemmas.List.{append-nil, length-append, take_more, drop_more, take_all, take_at, drop_at, take-append-drop}
use Rattle.std.proofs.Math.Seq.{take-add}
use Rattle.ps_run.specs.declared.pending.Pending.{Pending}
use Rattle.ps_run.specs.Lines.{lines_of, feeds, HasNoFeed}
use Rattle.ps_run.specs.Fates.{Fate, texts_of_lines, state_after, HasFateCauses}
use Rattle.ps_run.specs.Pending.{IsPending}
use Rattle.ps_run.specs.Leading.{LeadsOn, LeadsOnWith, AnswersLine, IsUnended}
use Rattle.ps_run.specs.Serving.{AnswersSome, AnswersAllOf}
use Rattle.ps_run.proofs.FeedLemmas.{lines-feed, lines-last, feeds-none, no_feed_push}
use Rattle.ps_run.proofs.Leads.{causes_none, causes_on, texts_none, state_none, led_none, led_line, led_on}
use Rattle.ps_edge.proofs.Texts.{joined, unwritten}

-- a front of a text after a whole text
front_after : (one two : List ℕ) (cut : ℕ) → take (length one + cut) (one ++ two) ≡ one ++ take cut two
front_after one two cut =
    take-add (length one) cut (one ++ two)
    ∙ ap (λ (l : List ℕ). l ++ take cut (drop (length one) (one ++ two))) (take_at one two (length one) refl)
    ∙ ap (λ (l : List ℕ). one ++ take cut l) (drop_at one two (length one) refl)

module _ {W : Type 0} (text : W × Option W → Fate → List ℕ → List ℕ) (step : W × Option W → Fate → List ℕ → W × Option W) (stands : W → Option W → Type 0) where
  -- nothing is answered yet
  pub reaches_none : (s : W × Option W) (bytes over : List ℕ) (pending : Pending) (held : Option (List ℕ)) (before now : ℕ) → over ≡ bytes → IsUnended over pending → before ≤ now → stands s.0 s.1 → LeadsOnWith text step stands s bytes pending held held before now
  reaches_none s bytes over pending held before now same unended later holds = record {
    fates = [];
    state = s;
    over = over;
    unended = unended;
    holds = holds;
    led = subst (λ (l : List ℕ). LeadsOn text step held held s s [] bytes l) (sym same) (led_none text step held s bytes);
    causes = causes_none before now later;
  }

  -- a line feed
  pub reaches_line : (s : W × Option W) (line : List ℕ) (b : ℕ) (pending : Pending) (was out : Option (List ℕ)) (before now : ℕ) → HasNoFeed line → b ≡ 10 → IsPending [] pending → AnswersLine text step stands s line was out before now true → LeadsOnWith text step stands s (line ++ b ∷ []) pending was out before now
  reaches_line s line b pending was out before now unended feed empty served = record {
    fates = served.fate ∷ [];
    state = step s served.fate line;
    over = [];
    unended = record { pends = empty; unended = tt };
    holds = served.holds;
    led = subst (λ (n : ℕ). LeadsOn text step was out s (step s served.fate line) (served.fate ∷ []) (line ++ n ∷ []) []) (sym feed) (led_line text step was out s served.fate line unended (served.whole refl));
    causes = served.causes;
  }

  -- a byte of a line
  pub reaches_byte : (s : W × Option W) (line : List ℕ) (b : ℕ) (pending : Pending) (held : Option (List ℕ)) (before now : ℕ) → HasNoFeed line → b ≢ 10 → IsPending (line ++ b ∷ []) pending → before ≤ now → stands s.0 s.1 → LeadsOnWith text step stands s (line ++ b ∷ []) pending held held before now
  reaches_byte s line b pending held before now unended apart pends later holds =
      reaches_none s (line ++ b ∷ []) (line ++ b ∷ []) pending held before now refl (record { pends = pends; unended = no_feed_push line b unended apart }) later holds

  -- one part after another
  pub reaches_on : (middle : W → Option W → Type 0) (s : W × Option W) (bytes piece : List ℕ) (mid_pending pending : Pending) (was mid out : Option (List ℕ)) (before during now : ℕ)
      → LeadsOnWith text step middle s bytes mid_pending was mid before during
      → ((v : W) (m : Option W) → middle v m → (over : List ℕ) → IsUnended over mid_pending → LeadsOnWith text step stands (v, m) (over ++ piece) pending mid out during now)
      → LeadsOnWith text step stands s (bytes ++ piece) pending was out before now
  reaches_on middle s bytes piece mid_pending pending was mid out before during now one two =
      let there = two one.state.0 one.state.1 one.holds one.over one.unended in
      record {
        fates = one.fates ++ there.fates;
        state = there.state;
        over = there.over;
        unended = there.unended;
        holds = there.holds;
        led = led_on text step was mid out s one.state there.state one.fates there.fates bytes one.over piece there.over one.led there.led;
        causes = causes_on before during now one.fates there.fates one.causes there.causes;
      }

  -- no line is answered
  pub serves_none : (s : W × Option W) (bytes : List ℕ) (held : Option (List ℕ)) (before now : ℕ) → before ≤ now → stands s.0 s.1 → AnswersSome text step stands s bytes held held before now
  serves_none s bytes held before now later holds =
      let none = causes_none before now later in
      record {
        fates = [];
        within = omega arith;
        state = s;
        reached = sym (state_none text step s (lines_of bytes));
        holds = holds;
        cut = 0;
        output = unwritten held;
        causes = none.causes;
        no_bad_row = none.no_bad_row;
      }

  -- a line was answered, and a front of its text was written
  pub serves_first : (s : W × Option W) (line bytes : List ℕ) (more : List (List ℕ)) (was out : Option (List ℕ)) (before now : ℕ) (all : Bool) → lines_of bytes ≡ line ∷ more → AnswersLine text step stands s line was out before now all → AnswersSome text step stands s bytes was out before now
  serves_first s line bytes more was out before now all split served =
      let printed : texts_of_lines text step s (lines_of bytes) (served.fate ∷ []) ≡ text s served.fate line =
      ap (λ (ls : List (List ℕ)). texts_of_lines text step s ls (served.fate ∷ [])) split
      ∙ ap (λ (l : List ℕ). text s served.fate line ++ l) (texts_none text step (step s served.fate line) more)
      ∙ append-nil (text s served.fate line) in
      let count = ap length split in
      record {
        fates = served.fate ∷ [];
        within = omega arith;
        state = step s served.fate line;
        reached = sym (ap (λ (ls : List (List ℕ)). state_after step s ls (served.fate ∷ [])) split ∙ state_none text step (step s served.fate line) more);
        holds = served.holds;
        cut = served.cut;
        output = served.output ∙ ap (λ (l : List ℕ). option_map (λ held. held ++ take served.cut l) was) (sym printed);
        causes = served.causes.causes;
        no_bad_row = served.causes.no_bad_row;
      }

  -- the same of a line and its line feed, whatever follows
  pub serves_line : (s : W × Option W) (line : List ℕ) (b : ℕ) (rest : List ℕ) (was out : Option (List ℕ)) (before now : ℕ) (all : Bool) → HasNoFeed line → b ≡ 10 → AnswersLine text step stands s line was out before now all → AnswersSome text step stands s (line ++ b ∷ rest) was out before now
  serves_line s line b rest was out before now all unended feed served =
      let split : lines_of (line ++ b ∷ rest) ≡ line ∷ lines_of rest = ap (λ (n : ℕ). lines_of (line ++ n ∷ rest)) feed ∙ lines-feed line rest unended in
      serves_first s line (line ++ b ∷ rest) (lines_of rest) was out before now all split served

  -- the last line, which no line feed ends
  pub serves_last : (s : W × Option W) (line : List ℕ) (was out : Option (List ℕ)) (before now : ℕ) (all : Bool) → HasNoFeed line → line ≢ [] → AnswersLine text step stands s line was out before now all → AnswersSome text step stands s line was out before now
  serves_last s [] was out before now all unended some served = absurd (some refl)
  serves_last s (b ∷ line) was out before now all unended some served = serves_first s (b ∷ line) (b ∷ line) [] was out before now all (lines-last b line unended) served

  -- fates that reach a state by whole texts
  whole_of : (s : W × Option W) (bytes : List ℕ) (was out : Option (List ℕ)) (before now : ℕ) (fates : List Fate) (state : W × Option W) → length fates ≤ length (lines_of bytes) → state ≡ state_after step s (lines_of bytes) fates → stands state.0 state.1
      → out ≡ option_map (λ held. held ++ texts_of_lines text step s (lines_of bytes) fates) was → HasFateCauses before now fates → AnswersAllOf text step stands s bytes was out before now (length fates)
  whole_of s bytes was out before now fates state within reached holds written causes =
      let printed = texts_of_lines text step s (lines_of bytes) fates in
      record {
        serves = record {
          fates = fates;
          within = within;
          state = state;
          reached = reached;
          holds = holds;
          cut = length printed;
          output = written ∙ ap (λ (l : List ℕ). option_map (λ held. held ++ l) was) (sym (take_all (length printed) printed (omega arith)));
          causes = causes.causes;
          no_bad_row = causes.no_bad_row;
        };
        each = refl;
        whole = written;
      }

  pub whole_last : (s : W × Option W) (line : List ℕ) (was out : Option (List ℕ)) (before now : ℕ) → HasNoFeed line → line ≢ [] → AnswersLine text step stands s line was out before now true → AnswersAllOf text step stands s line was out before now (length (lines_of line))
  whole_last s [] was out before now unended some served = absurd (some refl)
  whole_last s (b ∷ line) was out before now unended some served =
      let split = lines-last b line unended in
      let count : length (served.fate ∷ []) ≡ length (lines_of (b ∷ line)) = sym (ap length split) in
      let printed : texts_of_lines text step s (lines_of (b ∷ line)) (served.fate ∷ []) ≡ text s served.fate (b ∷ line) =
      ap (λ (ls : List (List ℕ)). texts_of_lines text step s ls (served.fate ∷ [])) split
      ∙ append-nil (text s served.fate (b ∷ line)) in
      subst (λ (n : ℕ). AnswersAllOf text step stands s (b ∷ line) was out before now n) count
      (whole_of s (b ∷ line) was out before now (served.fate ∷ []) (step s served.fate (b ∷ line)) (omega arith)
      (sym (ap (λ (ls : List (List ℕ)). state_after step s ls (served.fate ∷ [])) split)) served.holds
      (served.whole refl ∙ ap (λ (l : List ℕ). option_map (λ held. held ++ l) was) (sym printed)) served.causes)

  pub whole_none : (s : W × Option W) (line : List ℕ) (held : Option (List ℕ)) (before now : ℕ) → line ≡ [] → before ≤ now → stands s.0 s.1 → AnswersAllOf text step stands s line held held before now (length (lines_of line))
  whole_none s line held before now empty later holds =
      let bare : AnswersAllOf text step stands s [] held held before now 0 = whole_of s [] held held before now [] s (omega arith) refl holds (unwritten held) (causes_none before now later) in
      subst (λ (l : List ℕ). AnswersAllOf text step stands s l held held before now (length (lines_of l))) (sym empty) bare

  -- what was answered so far, whole, a line for each line feed
  pub reaches_whole : (s : W × Option W) (bytes : List ℕ) (pending : Pending) (was out : Option (List ℕ)) (before now : ℕ) → LeadsOnWith text step stands s bytes pending was out before now → AnswersAllOf text step stands s bytes was out before now (feeds bytes)
  reaches_whole s bytes pending was out before now reached =
      let led = reached.led in
      let same : bytes ++ [] ≡ bytes = append-nil bytes in
      let fates : reached.fates ++ [] ≡ reached.fates = append-nil reached.fates in
      let lines = led.lines [] in
      let count = ap (λ (l : List ℕ). length (lines_of l)) same in
      let none = feeds-none reached.over reached.unended.unended in
      let ended = led.ended in
      let each : length reached.fates ≡ feeds bytes = omega arith in
      let printed : texts_of_lines text step s (lines_of bytes) reached.fates ≡ led.printed =
      sym (ap (λ (l : List ℕ). texts_of_lines text step s (lines_of l) reached.fates) same)
      ∙ sym (ap (λ (fs : List Fate). texts_of_lines text step s (lines_of (bytes ++ [])) fs) fates)
      ∙ led.texts [] []
      ∙ ap (λ (l : List ℕ). led.printed ++ l) (texts_none text step reached.state (lines_of (reached.over ++ [])))
      ∙ append-nil led.printed in
      let state : state_after step s (lines_of bytes) reached.fates ≡ reached.state =
      sym (ap (λ (l : List ℕ). state_after step s (lines_of l) reached.fates) same)
      ∙ sym (ap (λ (fs : List Fate). state_after step s (lines_of (bytes ++ [])) fs) fates)
      ∙ led.states [] []
      ∙ state_none text step reached.state (lines_of (reached.over ++ [])) in
      subst (λ (n : ℕ). AnswersAllOf text step stands s bytes was out before now n) each
      (whole_of s bytes was out before now reached.fates reached.state (omega arith) (sym state) reached.holds
      (led.output ∙ ap (λ (l : List ℕ). option_map (λ held. held ++ l) was) (sym printed)) reached.causes)

  -- more lines after what was answered so far
  pub serves_on : (middle : W → Option W → Type 0) (s : W × Option W) (bytes rest : List ℕ) (pending : Pending) (was mid out : Option (List ℕ)) (before during now : ℕ)
      → LeadsOnWith text step middle s bytes pending was mid before during
      → ((v : W) (m : Option W) → middle v m → (over : List ℕ) → IsUnended over pending → AnswersSome text step stands (v, m) (over ++ rest) mid out during now)
      → AnswersSome text step stands s (bytes ++ rest) was out before now
  serves_on middle s bytes rest pending was mid out before during now one two =
      let there = two one.state.0 one.state.1 one.holds one.over one.unended in
      let led = one.led in
      let joint = causes_on before during now one.fates there.fates one.causes (record { causes = there.causes; no_bad_row = there.no_bad_row }) in
      let lines = led.lines rest in
      let within = there.within in
      let both = length-append one.fates there.fates in
      let after = texts_of_lines text step one.state (lines_of (one.over ++ rest)) there.fates in
      record {
        fates = one.fates ++ there.fates;
        within = omega arith;
        state = there.state;
        reached = there.reached ∙ sym (led.states rest there.fates);
        holds = there.holds;
        cut = length led.printed + there.cut;
        output =
            joined was mid out led.printed (take there.cut after) led.output there.output
            ∙ ap (λ (l : List ℕ). option_map (λ held. held ++ l) was) (sym (front_after led.printed after there.cut))
            ∙ ap (λ (l : List ℕ). option_map (λ held. held ++ take (length led.printed + there.cut) l) was) (sym (led.texts rest there.fates));
        causes = joint.causes;
        no_bad_row = joint.no_bad_row;
      }

  -- all lines: those answered so far, and the last one
  pub whole_on : (middle : W → Option W → Type 0) (s : W × Option W) (bytes : List ℕ) (pending : Pending) (was mid out : Option (List ℕ)) (before during now : ℕ)
      → LeadsOnWith text step middle s bytes pending was mid before during
      → ((v : W) (m : Option W) → middle v m → (over : List ℕ) → IsUnended over pending → AnswersAllOf text step stands (v, m) over mid out during now (length (lines_of over)))
      → AnswersAllOf text step stands s bytes was out before now (length (lines_of bytes))
  whole_on middle s bytes pending was mid out before during now one two =
      let there = two one.state.0 one.state.1 one.holds one.over one.unended in
      let serves = there.serves in
      let led = one.led in
      let joint = causes_on before during now one.fates serves.fates one.causes (record { causes = serves.causes; no_bad_row = serves.no_bad_row }) in
      let same : bytes ++ [] ≡ bytes = append-nil bytes in
      let rest : one.over ++ [] ≡ one.over = append-nil one.over in
      let lines = led.lines [] in
      let count = ap (λ (l : List ℕ). length (lines_of l)) same in
      let left = ap (λ (l : List ℕ). length (lines_of l)) rest in
      let both = length-append one.fates serves.fates in
      let last = there.each in
      let each : length (one.fates ++ serves.fates) ≡ length (lines_of bytes) = omega arith in
      let printed : texts_of_lines text step s (lines_of bytes) (one.fates ++ serves.fates) ≡ led.printed ++ texts_of_lines text step one.state (lines_of one.over) serves.fates =
      sym (ap (λ (l : List ℕ). texts_of_lines text step s (lines_of l) (one.fates ++ serves.fates)) same)
      ∙ led.texts [] serves.fates
      ∙ ap (λ (l : List ℕ). led.printed ++ texts_of_lines text step one.state (lines_of l) serves.fates) rest in
      let state : state_after step s (lines_of bytes) (one.fates ++ serves.fates) ≡ state_after step one.state (lines_of one.over) serves.fates =
      sym (ap (λ (l : List ℕ). state_after step s (lines_of l) (one.fates ++ serves.fates)) same)
      ∙ led.states [] serves.fates
      ∙ ap (λ (l : List ℕ). state_after step one.state (lines_of l) serves.fates) rest in
      subst (λ (n : ℕ). AnswersAllOf text step stands s bytes was out before now n) each
      (whole_of s bytes was out before now (one.fates ++ serves.fates) serves.state (omega arith) (serves.reached ∙ sym state) serves.holds
      (joined was mid out led.printed (texts_of_lines text step one.state (lines_of one.over) serves.fates) led.output there.whole
      ∙ ap (λ (l : List ℕ). option_map (λ held. held ++ l) was) (sym printed)) joint)

  -- one byte of a piece after the others
  pub reaches_more : (middle : W → Option W → Type 0) (s : W × Option W) (start piece : List ℕ) (i : ℕ) (mid_pending pending : Pending) (was mid out : Option (List ℕ)) (before during now : ℕ) → i < length piece
      → LeadsOnWith text step middle s (start ++ take i piece) mid_pending was mid before during
      → ((v : W) (m : Option W) → middle v m → (over : List ℕ) → IsUnended over mid_pending → LeadsOnWith text step stands (v, m) (over ++ get_or piece i 0 ∷ []) pending mid out during now)
      → LeadsOnWith text step stands s (start ++ take (i + 1) piece) pending was out before now
  reaches_more middle s start piece i mid_pending pending was mid out before during now within one two =
      let joint : (start ++ take i piece) ++ get_or piece i 0 ∷ [] ≡ start ++ take (i + 1) piece =
      append_assoc start (take i piece) (get_or piece i 0 ∷ []) ∙ ap (λ (l : List ℕ). start ++ l) (sym (take_more piece i 0 within)) in
      subst (λ (l : List ℕ). LeadsOnWith text step stands s l pending was out before now) joint
      (reaches_on middle s (start ++ take i piece) (get_or piece i 0 ∷ []) mid_pending pending was mid out before during now one two)

  -- a run that stops at a byte of a piece, whatever follows the piece
  pub serves_more : (middle : W → Option W → Type 0) (s : W × Option W) (start piece rest : List ℕ) (i : ℕ) (pending : Pending) (was mid out : Option (List ℕ)) (before during now : ℕ) → i < length piece
      → LeadsOnWith text step middle s (start ++ take i piece) pending was mid before during
      → ((v : W) (m : Option W) → middle v m → (over : List ℕ) → IsUnended over pending → (after : List ℕ) → AnswersSome text step stands (v, m) (over ++ get_or piece i 0 ∷ after) mid out during now)
      → AnswersSome text step stands s (start ++ (piece ++ rest)) was out before now
  serves_more middle s start piece rest i pending was mid out before during now within one two =
      let after = drop (i + 1) piece ++ rest in
      let tail : get_or piece i 0 ∷ after ≡ drop i piece ++ rest = ap (λ (l : List ℕ). l ++ rest) (sym (drop_more piece i 0 within)) in
      let whole : take i piece ++ (drop i piece ++ rest) ≡ piece ++ rest = sym (append_assoc (take i piece) (drop i piece) rest) ∙ ap (λ (l : List ℕ). l ++ rest) (take-append-drop i piece) in
      let joint : (start ++ take i piece) ++ (get_or piece i 0 ∷ after) ≡ start ++ (piece ++ rest) =
      append_assoc start (take i piece) (get_or piece i 0 ∷ after) ∙ ap (λ (l : List ℕ). start ++ (take i piece ++ l)) tail ∙ ap (λ (l : List ℕ). start ++ l) whole in
      subst (λ (l : List ℕ). AnswersSome text step stands s l was out before now) joint
      (serves_on middle s (start ++ take i piece) (get_or piece i 0 ∷ after) pending was mid out before during now one (λ v m there over unended. two v m there over unended after))

  -- all bytes of a piece
  pub reaches_piece : (s : W × Option W) (start piece : List ℕ) (i : ℕ) (pending : Pending) (was out : Option (List ℕ)) (before now : ℕ) → length piece ≤ i → LeadsOnWith text step stands s (start ++ take i piece) pending was out before now → LeadsOnWith text step stands s (start ++ piece) pending was out before now
  reaches_piece s start piece i pending was out before now all reached =
      subst (λ (l : List ℕ). LeadsOnWith text step stands s (start ++ l) pending was out before now) (take_all i piece all) reached
