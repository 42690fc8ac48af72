-- What was read from a link into a buffer, and why no more was.
use Rattle.std.specs.Prelude.{◌≡◌, ◌≤◌, ℕ, List, [], ◌++◌, Some, option_map, IfSome, Result, Ok, Err, ⊤}
use Rattle.ps_keeper.specs.Cause.{Rose}
use Rattle.ps_edge.specs.declared.link.Link as link
use Rattle.ps_http.specs.declared.reading.Pause.{Pause}
use Rattle.ps_http.specs.declared.reading.Pause.TheVariants.{Ended, NotYet, ReadFault, OutOfMemory}

-- the fact holds unless there is no memory left
abbrev pub UnlessWanting : {T : Type 0} → Result T Pause → Type 0 → Type 0
UnlessWanting (Ok value) P = P
UnlessWanting (Err Ended) P = P
UnlessWanting (Err NotYet) P = P
UnlessWanting (Err ReadFault) P = P
UnlessWanting (Err OutOfMemory) P = ⊤

-- the fact holds if it paused for another cause than memory
abbrev pub OnPause : {T : Type 0} → Result T Pause → Type 0 → Type 0
OnPause (Ok value) P = ⊤
OnPause (Err Ended) P = P
OnPause (Err NotYet) P = P
OnPause (Err ReadFault) P = P
OnPause (Err OutOfMemory) P = ⊤

module _ {S : Type 0} (l : link.Ghosts S) where
  -- these bytes came from the link, and nothing was written
  pub record Came (was now : S) (more : List ℕ) : Type 0 where
    pub received : l.received now ≡ option_map (λ had. had ++ more) (l.received was)
    pub left : IfSome (l.left was) (λ all. (rest : List ℕ) × (l.left now ≡ Some rest) × (all ≡ more ++ rest))
    pub holds : l.holds now ≡ l.holds was
    pub faults : l.faults was ≤ l.faults now
    pub waits : l.waits was ≤ l.waits now

  -- what came was added to the buffer
  abbrev pub Grew : S → S → List ℕ → List ℕ → Type 0
  Grew was now bytes bytes_now = (more : List ℕ) × (bytes_now ≡ bytes ++ more) × Came was now more

  -- bytes came, and were added to the buffer unless there is no memory left
  abbrev pub Reads : {T : Type 0} → S → S → List ℕ → List ℕ → Result T Pause → Type 0
  Reads was now bytes bytes_now result = (more : List ℕ) × UnlessWanting result (bytes_now ≡ bytes ++ more) × Came was now more

  -- why no more was read
  abbrev pub HasPaused : S → S → Pause → Type 0
  HasPaused was now Ended = IfSome (l.left now) (λ rest. rest ≡ [])
  HasPaused was now NotYet = Rose (l.waits was) (l.waits now)
  HasPaused was now ReadFault = Rose (l.faults was) (l.faults now)
  HasPaused was now OutOfMemory = ⊤
