-- Requests that led from one state to another, some after others.
use Rattle.std.proofs.Common.{◌≡◌, ◌≤◌, ◌+◌, ◌-◌, ◌^◌, min, ℕ, List, [], ◌∷◌, ◌++◌, map, Option, Some, None, refl, sym, ap, subst, ◌∙◌}
use Rattle.std.specs.List.{AllByRecursion}
use Rattle.std.specs.Prelude.{IsTrue}
use Rattle.ps_base.proofs.Lists.{each-append}
use Rattle.ps_keeper.specs.declared.keeper.Keeper as keeper
use Rattle.ps_book.specs.declared.machine.Machine as machine
use Rattle.ps_book.specs.Books.{BookMeans}
use Rattle.ps_book.specs.Journaled.{Journaled}
use Rattle.ps_edge.specs.declared.clock.Clock as clock
use Rattle.ps_edge.specs.declared.link.Link as link
use Rattle.ps_run.specs.Fates.{Fate, HasFateCauses}
use Rattle.ps_run.proofs.Leads.{causes_none, causes_on}
use Rattle.ps_server.specs.declared.conn.ConnEnd.{ConnEnd}
use Rattle.ps_server.specs.declared.protocol.HttpProtocol as protocol
use Rattle.ps_server.specs.Serving.{Ends}
use Rattle.ps_server.specs.Turns.{Led, Turn, state_after, step}

fates_over : (one two : List Turn) → map (λ (t : Turn). t.fate) (one ++ two) ≡ map (λ (t : Turn). t.fate) one ++ map (λ (t : Turn). t.fate) two
fates_over [] two = refl
fates_over (t ∷ one) two = ap (λ (fates : List Fate). t.fate ∷ fates) (fates_over one two)

module _ {M C E R : Type 0} (m : machine.Ghosts M C E R) (p : protocol.Ghosts M C E R) where
  state_over : (s : m.World × Option m.World) (one two : List Turn) → state_after m p s (one ++ two) ≡ state_after m p (state_after m p s one) two
  state_over s [] two = refl
  state_over s (t ∷ one) two = state_over (step m p s t) one two

  module _ (gives : ℕ → Type 0) (s : m.World × Option m.World) where
    -- there was none
    pub led_none : (Means : m.World → Option m.World → Type 0) (before now : ℕ) → before ≤ now → Means s.0 s.1 → Led m p gives Means before now s
    led_none Means before now later holds = record { turns = []; moments = tt; holds = holds; causes = causes_none before now later }

    -- some more
    pub led_then : (Middle Means : m.World → Option m.World → Type 0) (before mid now : ℕ) → Led m p gives Middle before mid s
        → ((v : m.World) (more : Option m.World) → Middle v more → Led m p gives Means mid now (v, more)) → Led m p gives Means before now s
    led_then Middle Means before mid now one two =
        let state = state_after m p s one.turns in
        let then = two state.0 state.1 one.holds in
        record {
          turns = one.turns ++ then.turns;
          moments = each-append (λ (t : Turn). gives t.at) one.turns then.turns one.moments then.moments;
          holds = subst (λ (x : m.World × Option m.World). Means x.0 x.1) (sym (state_over s one.turns then.turns)) then.holds;
          causes = subst (λ (fates : List Fate). HasFateCauses before now fates) (sym (fates_over one.turns then.turns))
              (causes_on before mid now (map (λ (t : Turn). t.fate) one.turns) (map (λ (t : Turn). t.fate) then.turns) one.causes then.causes);
        }

    -- what they led to means more
    pub led_as : (Middle Means : m.World → Option m.World → Type 0) (before now before_too now_too : ℕ) → ((w : m.World) (more : Option m.World) → Middle w more → Means w more)
        → ((n : ℕ) → min (before + n) (2 ^ 64 - 1) ≤ now → min (before_too + n) (2 ^ 64 - 1) ≤ now_too) → Led m p gives Middle before now s → Led m p gives Means before_too now_too s
    led_as Middle Means before now before_too now_too means count led = record {
      turns = led.turns;
      moments = led.moments;
      holds = means (state_after m p s led.turns).0 (state_after m p s led.turns).1 led.holds;
      causes = record { causes = count _ led.causes.causes; no_bad_row = led.causes.no_bad_row };
    }

  -- those of one connection
  pub led_by : {K L T : Type 0} (k : keeper.Ghosts K) (l : link.Ghosts L) (c : clock.Ghosts T) (clock : T) (was now : L) (old new : Journaled M K) (s : m.World × Option m.World) (end : ConnEnd)
      → Ends m p k l c clock was now old new s end → Led m p (c.may_give clock) (BookMeans m k new) (k.faults old.keeper) (k.faults new.keeper) s
  led_by k l c clock was now old new s end ends = record { turns = ends.turns; moments = ends.answers.moments; holds = ends.answers.holds; causes = ends.answers.causes }
