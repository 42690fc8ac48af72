-- The tokens of a text: where they begin, and how they end.
use Rattle.std.proofs.Common.{◌≡◌, ℕ, ◌+◌, ◌<◌, ◌≤◌, Bool, true, false, ◌||◌, ◌==◌, sym, List, [], ◌∷◌, ◌++◌, length, refl, arith, if◌then◌else◌}
use Rattle.ps_filter.specs.declared.token.Token.TheVariants.{Word, Quoted, Symbol, Differs, Strange, End}
use Rattle.ps_filter.specs.declared.token.Placed.{Placed}
use Rattle.ps_filter.specs.declared.lexer.Open.{Open}
use Rattle.ps_filter.specs.declared.lexer.Open.TheVariants.{Between, InWord, InString, InEscape, BehindBang, Stopped}
use Rattle.ps_filter.specs.Tokens.{is_blank, begins_word, is_in_word, is_symbol, place, begun, taken, ended, tokens_from, tokens}
use Rattle.ps_filter.specs.GrammarLaws.{is_last, IsRun, up_to_end, up_to_strange, and_behind}

either_way : {A : Type 0} (P : A → Type 0) (b : Bool) (x y : A) → P x → P y → P (if b then x else y)
either_way P true x y px py = px
either_way P false x y px py = py

-- where the token that a state leaves open begins, or the next one may
abbrev begins_at : Open → ℕ → ℕ
begins_at Between at = at
begins_at (InWord from word) at = from
begins_at (InString from text) at = from
begins_at (InEscape from text) at = from
begins_at (BehindBang from) at = from
begins_at Stopped at = at

-- an open token began before this byte; nothing has ended the tokens
abbrev GoesOn : Open → ℕ → Type 0
GoesOn Between at = Unit {0}
GoesOn (InWord from word) at = from < at
GoesOn (InString from text) at = from < at
GoesOn (InEscape from text) at = from < at
GoesOn (BehindBang from) at = from < at
GoesOn Stopped at = ⊥

-- what a byte before `next` completes, and the state behind it
data IsStep (next : ℕ) : ℕ → List Placed → Open → Type 0 where
  goes : {from : ℕ} {state : Open} → GoesOn state next → from ≤ begins_at state next → IsStep next from [] state
  stops : {from : ℕ} (t : Placed) → from ≤ t.at → t.at < next → t.token ≡ Strange → IsStep next from (t ∷ []) Stopped
  makes : {from : ℕ} {ts : List Placed} {state : Open} (t : Placed) → from ≤ t.at → is_last t.token ≡ false → IsStep next (t.at + 1) ts state → IsStep next from (t ∷ ts) state

step_runs : (next bytes : ℕ) → next ≤ bytes → {from : ℕ} {ts : List Placed} {state : Open} → IsStep next from ts state → (rest : List Placed)
    → ((from : ℕ) → GoesOn state next → from ≤ begins_at state next → IsRun bytes from rest) → (state ≡ Stopped → rest ≡ []) → IsRun bytes from (ts ++ rest)
step_runs next bytes within {from} (goes begun less) rest on none = on from begun less
step_runs next bytes within (stops t less below strange) rest on none = rw (none refl) (up_to_strange t less strange (omega arith))
step_runs next bytes within (makes t less plain step) rest on none = and_behind t less plain (step_runs next bytes within step rest on none)

abbrev StepsTo : ℕ → ℕ → List Placed × Open → Type 0
StepsTo at from p = IsStep (at + 1) from p.0 p.1

begun_steps : (at b from : ℕ) → from ≤ at → StepsTo at from (begun at b)
begun_steps at b from less =
    either_way (StepsTo at from) (is_blank b) _ _ (goes tt (omega arith))
    (either_way (StepsTo at from) (begins_word b) _ _ (goes (omega arith) less)
    (either_way (StepsTo at from) (b == 34) _ _ (goes (omega arith) less)
    (either_way (StepsTo at from) (b == 33) _ _ (goes (omega arith) less)
    (either_way (StepsTo at from) (is_symbol b) _ _ (makes (place at (Symbol b)) less refl (goes tt (omega arith)))
    (stops (place at Strange) less (omega arith) refl)))))

taken_steps : (state : Open) (at b from : ℕ) → GoesOn state at → from ≤ begins_at state at → StepsTo at from (taken state at b)
taken_steps Between at b from on less = begun_steps at b from less
taken_steps (InWord start word) at b from on less =
    either_way (StepsTo at from) (is_in_word b) _ _ (goes (omega arith) less) (makes (place start (Word word)) less refl (begun_steps at b (start + 1) (omega arith)))
taken_steps (InString start text) at b from on less =
    either_way (StepsTo at from) (b == 34) _ _ (makes (place start (Quoted text)) less refl (goes tt (omega arith)))
    (either_way (StepsTo at from) (b == 92) _ _ (goes (omega arith) less) (goes (omega arith) less))
taken_steps (InEscape start text) at b from on less =
    either_way (StepsTo at from) (b == 34 || b == 92) _ _ (goes (omega arith) less) (stops (place start Strange) less (omega arith) refl)
taken_steps (BehindBang start) at b from on less =
    either_way (StepsTo at from) (b == 61) _ _ (makes (place start Differs) less refl (goes tt (omega arith))) (stops (place start Strange) less (omega arith) refl)
taken_steps Stopped at b from on less = absurd on

ended_runs : (state : Open) (at from bytes : ℕ) → bytes ≡ at → GoesOn state at → from ≤ begins_at state at → IsRun bytes from (ended state at)
ended_runs Between at from bytes is on less = up_to_end (place at End) less refl (sym is)
ended_runs (InWord start word) at from bytes is on less = and_behind (place start (Word word)) less refl (up_to_end (place at End) (omega arith) refl (sym is))
ended_runs (InString start text) at from bytes is on less = up_to_strange (place start Strange) less refl (omega arith)
ended_runs (InEscape start text) at from bytes is on less = up_to_strange (place start Strange) less refl (omega arith)
ended_runs (BehindBang start) at from bytes is on less = up_to_strange (place start Strange) less refl (omega arith)
ended_runs Stopped at from bytes is on less = absurd on

nothing_behind : (at : ℕ) (text : List ℕ) → tokens_from Stopped at text ≡ []
nothing_behind at [] = refl
nothing_behind at (b ∷ text) = nothing_behind (at + 1) text

runs_from : (text : List ℕ) (state : Open) (at from bytes : ℕ) → bytes ≡ at + length text → GoesOn state at → from ≤ begins_at state at → IsRun bytes from (tokens_from state at text)
runs_from [] state at from bytes is on less = ended_runs state at from bytes (omega arith) on less
runs_from (b ∷ text) state at from bytes is on less =
    step_runs (at + 1) bytes (omega arith) (taken_steps state at b from on less) (tokens_from (taken state at b).1 (at + 1) text)
    (λ from on less. runs_from text (taken state at b).1 (at + 1) from bytes (omega arith) on less)
    (λ stopped. rw stopped (nothing_behind (at + 1) text))

pub runs : (text : List ℕ) → IsRun (length text) 0 (tokens text)
runs text = runs_from text Between 0 0 (length text) (omega arith) tt (omega arith)

pub run_length : (bytes : ℕ) {from : ℕ} {ts : List Placed} → IsRun bytes from ts → length ts + from ≤ bytes + 1
run_length bytes (up_to_end t less end is) = omega arith
run_length bytes (up_to_strange t less strange below) = omega arith
run_length bytes (and_behind t less plain run) = let behind : length _ + (t.at + 1) ≤ bytes + 1 = run_length bytes run in omega arith
