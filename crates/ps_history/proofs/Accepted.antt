-- An entry is accepted exactly where it is what would be recorded.
use Rattle.std.proofs.Common.{◌≡◌, ℕ, Bool, true, false, not, ◌&&◌, nat_eq, List, [], ◌∷◌, Option, Some, None, if◌then◌else◌, refl, sym, ap, ◌∙◌}
use Rattle.std.specs.Prelude.{is_none, fold}
use Rattle.std.proofs.lemmas.Bool.{and_parts, and_from, eqb-true, eq-eqb, true≢false}
use Rattle.ps_model.specs.declared.command.Command.{Command}
use Rattle.ps_model.specs.declared.command.Command.TheVariants.{Tick}
use Rattle.ps_model.specs.declared.command.Entry.{Entry}
use Rattle.ps_model.specs.declared.world.World.{World}
use Rattle.ps_model.specs.Checks.{as_read, is_normal}
use Rattle.ps_model.proofs.NormalForms.{normal-read, read-normal}
use Rattle.ps_model.specs.Commands.{is_full}
use Rattle.ps_model.specs.History.{IsAccepted, IsHistory, after}
use Rattle.ps_model.specs.Live.{live}
use Rattle.ps_model.specs.Same.{same_world}
use Rattle.ps_model.specs.Step as rules
use Rattle.ps_sound.specs.Living.{IsLiveHistory, live_after}
use Rattle.ps_sound.proofs.living.LiveHistories.{live_is_enough}
use Rattle.ps_history.specs.Acceptance.{AcceptsWhatIsRecorded, HistoriesLead, AllBuilt, after_entry}
use Rattle.ps_core.specs.Built.{unbuilt}
use Rattle.ps_core.specs.Calls.{is_tick, is_step, is_accepted, next}
use Rattle.ps_core.proofs.applying.Applied.{tick-is}

none-is : {A : Type 0} (o : Option A) → is_none o ≡ true → o ≡ None
none-is None h = refl
none-is (Some x) h = absurd (cc)

not-is : (b : Bool) → not b ≡ true → b ≡ false
not-is true h = absurd (cc)
not-is false h = refl

abbrev entry : ℕ → Command → Entry
entry at c = record { now = at; command = c }

-- what would be recorded at t, by whether the command leaves the settled world, and whether settling leaves the world
abbrev made_at : ℕ → Command → Bool → Bool → Option Entry
made_at at c same rests = if same then (if rests then None else Some (entry at Tick)) else Some (entry at (as_read c))

abbrev goes_at : Command → Bool → Bool → Bool
goes_at c same rests = if same then is_tick c && not rests else is_normal c

goes-made : (at : ℕ) (c : Command) → unbuilt c ≡ None → (same rests : Bool) → goes_at c same rests ≡ true → made_at at c same rests ≡ Some (entry at c)
goes-made at c built true true h = let p = and_parts (is_tick c) false h in absurd (true≢false (sym p.1))
goes-made at c built true false h = let p = and_parts (is_tick c) true h in ap (λ (x : Command). Some (entry at x)) (sym (tick-is c p.0))
goes-made at c built false rests h = ap (λ (x : Command). Some (entry at x)) (normal-read c h)

-- it is this entry only at its own moment, and where the command goes
record Goes (at u : ℕ) (c : Command) (same rests : Bool) : Type 0 where
  moment : at ≡ u
  goes : goes_at c same rests ≡ true

made-goes : (at u : ℕ) (c : Command) → unbuilt c ≡ None → (same rests : Bool) → made_at at c same rests ≡ Some (entry u c) → Goes at u c same rests
made-goes at u c built true true h = absurd (cc)
made-goes at u c built true false h =
    let e : entry at Tick ≡ entry u c = cc in
    record { moment = ap (λ (x : Entry). x.now) e; goes = ap (λ (x : Command). is_tick x && true) (sym (ap (λ (x : Entry). x.command) e)) }
made-goes at u c built false rests h =
    let e : entry at (as_read c) ≡ entry u c = cc in
    record { moment = ap (λ (x : Entry). x.now) e; goes = ap is_normal (sym (ap (λ (x : Entry). x.command) e)) ∙ read-normal c }

pub accepts : AcceptsWhatIsRecorded
accepts w e v = (λ h. forth (is_accepted w e) refl h, back)
  where
    at : ℕ
    at = rules.moment w e.now

    same : ℕ → Bool
    same at = same_world (rules.settled at w) (rules.carried_out w at e.command)

    rests : ℕ → Bool
    rests at = same_world w (rules.settled at w)

    forth : (b : Bool) → is_accepted w e ≡ b → (if b then Some (live (rules.step w e)) else None) ≡ Some v → (unbuilt e.command ≡ None) × IsAccepted w e × (v ≡ live (rules.step w e))
    forth false test h = absurd (cc)
    forth true test h =
        let p = and_parts (not (is_full w)) (nat_eq at e.now && (is_none (unbuilt e.command) && is_step w e.now e.command)) test in
        let q = and_parts (nat_eq at e.now) (is_none (unbuilt e.command) && is_step w e.now e.command) p.1 in
        let r = and_parts (is_none (unbuilt e.command)) (is_step w e.now e.command) q.1 in
        let built = none-is (unbuilt e.command) r.0 in
        let is : live (rules.step w e) ≡ v = cc in (
          built,
          ap (λ (full : Bool). if full then None else rules.entry_at w at e.command) (not-is (is_full w) p.0)
              ∙ ap (λ (at : ℕ). rules.entry_at w at e.command) (eqb-true at e.now q.0) ∙ goes-made e.now e.command built (same e.now) (rests e.now) r.1,
          sym is,
        )

    back : (unbuilt e.command ≡ None) × IsAccepted w e × (v ≡ live (rules.step w e)) → next w e ≡ Some v
    back (built, recorded, is) = by (is_full w) refl recorded
      where
        by : (full : Bool) → is_full w ≡ full → (if full then None else rules.entry_at w at e.command) ≡ Some e → next w e ≡ Some v
        by true closed h = absurd (cc)
        by false closed h =
            let goes = made-goes at e.now e.command built (same at) (rests at) h in
            let steps : is_step w e.now e.command ≡ true = ap (λ (at : ℕ). is_step w at e.command) (sym goes.moment) ∙ goes.goes in
            ap (λ (b : Bool). if b then Some (live (rules.step w e)) else None)
            (and_from (not (is_full w)) (nat_eq at e.now && (is_none (unbuilt e.command) && is_step w e.now e.command)) (ap not closed)
            (and_from (nat_eq at e.now) (is_none (unbuilt e.command) && is_step w e.now e.command) (eq-eqb at e.now goes.moment)
            (and_from (is_none (unbuilt e.command)) (is_step w e.now e.command) (ap is_none built) steps)))
            ∙ ap Some (sym is)

-- ---- whole histories

after_none : (es : List Entry) → fold after_entry None es ≡ None
after_none [] = refl
after_none (e ∷ es) = after_none es

leads : (w : World) (es : List Entry) (v : World) → fold after_entry (Some w) es ≡ Some v → AllBuilt es × IsLiveHistory w es × (v ≡ live_after w es)
leads w [] v h = (tt, tt, cc)
leads w (e ∷ es) v h = by (next w e) refl (leads (live (rules.step w e)) es v) h
  where
    by : (o : Option World) → next w e ≡ o → (fold after_entry (Some (live (rules.step w e))) es ≡ Some v → AllBuilt es × IsLiveHistory (live (rules.step w e)) es × (v ≡ live_after (live (rules.step w e)) es)) → fold after_entry o es ≡ Some v
        → ((unbuilt e.command ≡ None) × AllBuilt es) × (IsAccepted w e × IsLiveHistory (live (rules.step w e)) es) × (v ≡ live_after (live (rules.step w e)) es)
    by None is more h = let nothing = after_none es in absurd (cc)
    by (Some made) is more h =
        let one = (accepts w e made).0 is in
        let rest = more (ap (λ (x : World). fold after_entry (Some x) es) (sym one.2) ∙ h) in
        ((one.0, rest.0), (one.1, rest.1), rest.2)

led : (w : World) (es : List Entry) (v : World) → AllBuilt es × IsLiveHistory w es × (v ≡ live_after w es) → fold after_entry (Some w) es ≡ Some v
led w [] v h = ap Some (sym h.2)
led w (e ∷ es) v h = ap (λ (o : Option World). fold after_entry o es) ((accepts w e (live (rules.step w e))).1 (h.0.0, h.1.0, refl)) ∙ led (live (rules.step w e)) es v (h.0.1, h.1.1, h.2)

pub histories_lead : HistoriesLead
histories_lead es v = (forth, back)
  where
    forth : fold after_entry (Some rules.empty_world) es ≡ Some v → AllBuilt es × IsHistory rules.empty_world es × (v ≡ live (after rules.empty_world es))
    forth h =
        let led_to = leads rules.empty_world es v h in
        let history = (live_is_enough es).accepts.0 led_to.1 in
        (led_to.0, history, led_to.2 ∙ (live_is_enough es).stays history)

    back : AllBuilt es × IsHistory rules.empty_world es × (v ≡ live (after rules.empty_world es)) → fold after_entry (Some rules.empty_world) es ≡ Some v
    back h = led rules.empty_world es v (h.0, (live_is_enough es).accepts.1 h.1, h.2 ∙ sym ((live_is_enough es).stays h.1))
