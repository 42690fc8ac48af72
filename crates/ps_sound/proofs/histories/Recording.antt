-- What a call records, and what follows from the record.
use Rattle.std.proofs.Common.{ℕ, ◌≡◌, ◌+◌, ◌^◌, Bool, true, false, cond, nat_eq, Option, Some, None, refl, sym, ◌∙◌, ap, subst, arith, inl, inr, if◌then◌else◌}
use Rattle.std.proofs.lemmas.Bool.{cond_both}
use Rattle.ps_base.specs.declared.reason.Reason.{Reason}
use Rattle.ps_base.specs.declared.refusal.Refusal.TheVariants.{Exhausted}
use Rattle.ps_model.specs.declared.command.Command.{Command}
use Rattle.ps_model.specs.declared.command.Command.TheVariants.{Tick}
use Rattle.ps_model.specs.declared.command.Entry.{Entry}
use Rattle.ps_model.specs.declared.world.World.{World}
use Rattle.ps_model.specs.Same.{world_parts, same_world}
use Rattle.ps_model.specs.Checks.{argument_fault, as_read}
use Rattle.ps_model.specs.Outcomes.{Outcome, Shows, Leaves, refuses, reply_in}
use Rattle.ps_model.specs.Commands.{carried, is_full, checked, outcome}
use Rattle.ps_model.specs.Settling.{settle}
use Rattle.ps_model.specs.Step.{moment, settled, finished, carried_out, step, reply, entry_at, entry_of}
use Rattle.ps_model.specs.History.{IsAccepted, recorded}
use Rattle.ps_model.specs.Sound.{IsSound}
use Rattle.ps_model.proofs.NormalForms.{read-twice}
use Rattle.ps_model.proofs.SameLemmas.{same-world, world-same}
use Rattle.ps_sound.specs.Recorded.{StandsStill, TellsAgain, ReplyIsRecorded, RecordedIsAccepted, RefusedOnlySettles, SettlesForGood}
use Rattle.ps_sound.proofs.commands.Stamped.{stamped, outcome_stamped, carried-stamped, finished-stamped}
use Rattle.ps_sound.proofs.commands.Refused.{refused-leaves}
use Rattle.ps_sound.proofs.phases.Resting.{sound-rests}
use Rattle.ps_sound.proofs.phases.Stepping.{stays_sound}

-- a moment that was taken is taken again
pub moment-twice : (w : World) (at : ℕ) → moment w (moment w at) ≡ moment w at
moment-twice w at = omega arith

-- worlds with the same parts, moments and counts
same-all : (a b : World) → a.now ≡ b.now → a.count ≡ b.count → same_world a b ≡ true → a ≡ b
same-all a b now count same = λ i. record {
  now = now i;
  count = count i;
  next_topic = (parts i).0;
  next_sub = (parts i).1.0;
  next_snap = (parts i).1.1.0;
  next_message = (parts i).1.1.1.0;
  topics = (parts i).1.1.1.1.0;
  subs = (parts i).1.1.1.1.1.0;
  snaps = (parts i).1.1.1.1.1.1.0;
  messages = (parts i).1.1.1.1.1.1.1.0;
  marks = (parts i).1.1.1.1.1.1.1.1;
}
  where
    parts : world_parts a ≡ world_parts b
    parts = same-world a b same

-- the settled world, by whether the record is full
abbrev pub settled_if : Bool → ℕ → World → World
settled_if full t w = if full then w else settle t w

-- settling leaves the moment and the count
settled-same : (t : ℕ) (w : World) → same_world w (settled t w) ≡ true → w ≡ settled t w
settled-same t w = at (is_full w)
  where
    at : (full : Bool) → same_world w (settled_if full t w) ≡ true → w ≡ settled_if full t w
    at true same = refl
    at false same = same-all w (settle t w) refl refl same

settled-count : (t : ℕ) (w : World) → (settled t w).count ≡ w.count
settled-count t w = at (is_full w)
  where
    at : (full : Bool) → (settled_if full t w).count ≡ w.count
    at true = refl
    at false = refl

-- a Tick leaves the settled world
pub ticked : (t : ℕ) (w : World) → carried_out w t Tick ≡ settled t w
ticked t w = cond_both (is_full (settled t w)) (refuses (settled t w) Exhausted) (carried (settled t w) t Tick) (λ (o : Outcome). finished t (settled t w) o ≡ settled t w) (λ _. refl) (λ _. refl)

-- what is recorded at t, by whether the command leaves the settled world, and whether settling leaves the world
abbrev made : ℕ → Command → Bool → Bool → Option Entry
made t c leaves rests = if leaves then if rests then None else Some (record { now = t; command = Tick }) else Some (record { now = t; command = as_read c })

-- of a Tick
tick-made : (w : World) (t : ℕ) → is_full w ≡ false → moment w t ≡ t → entry_of w t Tick ≡ made t Tick true (same_world w (settled t w))
tick-made w t room own =
    ap (λ full. cond full None (entry_at w (moment w t) Tick)) room ∙ ap (λ s. entry_at w s Tick) own
    ∙ ap (λ leaves. made t Tick leaves (same_world w (settled t w))) (world-same (settled t w) (carried_out w t Tick) (ap world_parts (sym (ticked t w))))

module _ (w : World) (at : ℕ) (c : Command) where
  abbrev changes_nothing : Bool
  changes_nothing = same_world (settled (moment w at) w) (carried_out w (moment w at) c)

  abbrev settles_nothing : Bool
  settles_nothing = same_world w (settled (moment w at) w)

  -- the command as it was read is carried out as the command is
  read-carried : carried_out w (moment w at) (as_read c) ≡ carried_out w (moment w at) c
  read-carried = ap (λ d. finished (moment w at) (settled (moment w at) w) (outcome (settled (moment w at) w) (moment w at) d)) (read-twice c)

  -- the two entries are recorded again at their place
  command-again : is_full w ≡ false → changes_nothing ≡ false → entry_of w (moment w at) (as_read c) ≡ Some (record { now = moment w at; command = as_read c })
  command-again room moves =
      ap (λ full. cond full None (entry_at w (moment w (moment w at)) (as_read c))) room ∙ ap (λ s. entry_at w s (as_read c)) (moment-twice w at)
      ∙ ap (λ (v : World). made (moment w at) (as_read c) (same_world (settled (moment w at) w) v) settles_nothing) read-carried
      ∙ ap (λ b. made (moment w at) (as_read c) b settles_nothing) moves ∙ ap (λ d. Some (record { now = moment w at; command = d })) (read-twice c)

  tick-again : is_full w ≡ false → settles_nothing ≡ false → entry_of w (moment w at) Tick ≡ Some (record { now = moment w at; command = Tick })
  tick-again room moves = tick-made w (moment w at) room (moment-twice w at) ∙ ap (made (moment w at) Tick true) moves

pub recorded_is_accepted : RecordedIsAccepted
recorded_is_accepted w at c e is = by_full (is_full w) refl is
  where
    by_test : is_full w ≡ false → (b : Bool) → changes_nothing w at c ≡ b → (q : Bool) → settles_nothing w at c ≡ q → made (moment w at) c b q ≡ Some e → IsAccepted w e
    by_test room true stays true still h = absurd (cc (h))
    by_test room true stays false moves h =
        let same : record { now = moment w at; command = Tick } ≡ e = cc (h) in subst (IsAccepted w) same (tick-again w at c room moves)
    by_test room false moves q _ h =
        let same : record { now = moment w at; command = as_read c } ≡ e = cc (h) in subst (IsAccepted w) same (command-again w at c room moves)

    by_full : (full : Bool) → is_full w ≡ full → cond full None (entry_at w (moment w at) c) ≡ Some e → IsAccepted w e
    by_full true closed h = absurd (cc (h))
    by_full false room h = by_test room (changes_nothing w at c) refl (settles_nothing w at c) refl h

-- beside another moment and another count the outcome is the same, where neither record is full
outcome-stamped : (now entries t : ℕ) (v : World) (c : Command) → is_full v ≡ false → is_full (stamped now entries v) ≡ false → outcome (stamped now entries v) t c ≡ outcome_stamped now entries (outcome v t c)
outcome-stamped now entries t v c room room' = at (argument_fault c)
  where
    at : (fault : Option Reason) → checked (stamped now entries v) t c fault ≡ outcome_stamped now entries (checked v t c fault)
    at (Some reason) = refl
    at None =
        ap (λ full. cond full (refuses v Exhausted) (carried (stamped now entries v) t c)) room' ∙ carried-stamped now entries t v c
        ∙ ap (λ full. outcome_stamped now entries (cond full (refuses v Exhausted) (carried v t c))) (sym room)

stamped-reply : (now entries : ℕ) (o : Outcome) → reply_in (outcome_stamped now entries o) ≡ reply_in o
stamped-reply now entries (Shows answer) = refl
stamped-reply now entries (Leaves left letters answer) = refl

-- an accepted entry leaves nothing to settle
step-rests : (w : World) (e : Entry) → IsSound w → IsAccepted w e → settled (step w e).now (step w e) ≡ step w e
step-rests w e h accepted = at (is_full (step w e))
  where
    at : (full : Bool) → settled_if full (step w e).now (step w e) ≡ step w e
    at true = refl
    at false = sound-rests (step w e) (stays_sound w e h accepted)

-- Where the moment alone was recorded.
module _ (w : World) (at : ℕ) (c : Command) (h : IsSound w) (room : is_full w ≡ false) (stays : changes_nothing w at c ≡ true) (moves : settles_nothing w at c ≡ false) where
  abbrev now : ℕ
  now = moment w at

  abbrev tick : Entry
  tick = record { now = now; command = Tick }

  abbrev passed : World
  passed = step w tick

  passed-is : passed ≡ stamped now (w.count + 1) (settled now w)
  passed-is = ap (λ s. stamped s (w.count + 1) (carried_out w s Tick)) (moment-twice w at) ∙ ap (stamped now (w.count + 1)) (ticked now w)

  passed-now : moment passed now ≡ now
  passed-now = omega arith

  passed-rests : settled now passed ≡ passed
  passed-rests = ap (λ s. settled s passed) (sym (moment-twice w at)) ∙ step-rests w tick h (tick-again w at c room moves)

  -- the settled world has room as the world has
  settled-room : is_full (settled now w) ≡ false
  settled-room = ap (λ n. nat_eq n (2 ^ 50)) (settled-count now w) ∙ room

  passed-outcome : is_full passed ≡ false → outcome (settled now passed) now (as_read c) ≡ outcome_stamped now (w.count + 1) (outcome (settled now w) now (as_read c))
  passed-outcome room' = ap (λ v. outcome v now (as_read c)) (passed-rests ∙ passed-is) ∙ outcome-stamped now (w.count + 1) now (settled now w) (as_read c) settled-room (ap is_full (sym passed-is) ∙ room')

  passed-told : is_full passed ≡ false → reply passed now c ≡ reply w at c
  passed-told room' = ap (λ s. reply_in (outcome (settled s passed) s (as_read c))) passed-now ∙ ap reply_in (passed-outcome room') ∙ stamped-reply now (w.count + 1) (outcome (settled now w) now (as_read c))

  passed-leaves : is_full passed ≡ false → same_world (settled now passed) (carried_out passed now c) ≡ true
  passed-leaves room' =
      ap (λ v. same_world v (finished now v (outcome (settled now passed) now (as_read c)))) (passed-rests ∙ passed-is)
      ∙ ap (λ o. same_world (stamped now (w.count + 1) (settled now w)) (finished now (stamped now (w.count + 1) (settled now w)) o)) (passed-outcome room')
      ∙ ap (same_world (settled now w)) (finished-stamped now (w.count + 1) now (settled now w) (outcome (settled now w) now (as_read c))) ∙ stays

  passed-records : entry_of passed now c ≡ None
  passed-records = by (is_full passed) refl
    where
      by : (full : Bool) → is_full passed ≡ full → cond full None (entry_at passed (moment passed now) c) ≡ None
      by true closed = refl
      by false room' =
          ap (λ s. entry_at passed s c) passed-now ∙ ap (λ b. made now c b (same_world passed (settled now passed))) (passed-leaves room')
          ∙ ap (made now c true) (ap (same_world passed) passed-rests ∙ world-same passed passed refl)

pub reply_is_recorded : ReplyIsRecorded
reply_is_recorded w at c h = by_full (is_full w) refl
  where
    -- where nothing is recorded
    still : entry_of w at c ≡ None → settled (moment w at) w ≡ w → StandsStill w at c
    still none rests = record { stays = ap (recorded w) none; rests = rests; told = ap (λ v. reply_in (outcome v (moment w at) (as_read c))) rests }

    by_test : is_full w ≡ false → (b : Bool) → changes_nothing w at c ≡ b → (q : Bool) → settles_nothing w at c ≡ q → TellsAgain w at c (made (moment w at) c b q)
    by_test room true stays true rest = still (ap (λ full. cond full None (entry_at w (moment w at) c)) room ∙ ap (λ b. made (moment w at) c b (settles_nothing w at c)) stays ∙ ap (made (moment w at) c true) rest) (sym (settled-same (moment w at) w rest))
    by_test room true stays false moves = inr (record { moment = refl; command = refl; told = passed-told w at c h room stays moves; records = passed-records w at c h room stays moves })
    by_test room false moves q _ = inl (record {
      moment = refl;
      command = refl;
      told = ap (λ s. reply_in (outcome (settled s w) s (as_read (as_read c)))) (moment-twice w at) ∙ ap (λ d. reply_in (outcome (settled (moment w at) w) (moment w at) d)) (read-twice c);
    })

    by_full : (full : Bool) → is_full w ≡ full → TellsAgain w at c (cond full None (entry_at w (moment w at) c))
    by_full true closed = still (ap (λ full. cond full None (entry_at w (moment w at) c)) closed) (ap (λ full. settled_if full (moment w at) w) closed)
    by_full false room = by_test room (changes_nothing w at c) refl (settles_nothing w at c) refl

pub refused_only_settles : RefusedOnlySettles
refused_only_settles w at c refusal told = record { leaves = leaves; records = ap (cond (is_full w) None) entries }
  where
    leaves : carried_out w (moment w at) c ≡ settled (moment w at) w
    leaves = refused-leaves (moment w at) (settled (moment w at) w) (as_read c) refusal told

    entries : entry_at w (moment w at) c ≡ entry_at w (moment w at) Tick
    entries =
        let own : same_world (settled (moment w at) w) (settled (moment w at) w) ≡ true = world-same (settled (moment w at) w) (settled (moment w at) w) refl in
        ap (λ b. made (moment w at) c b (settles_nothing w at c)) (ap (same_world (settled (moment w at) w)) leaves ∙ own)
        ∙ ap (λ b. made (moment w at) Tick b (settles_nothing w at c)) (sym (ap (same_world (settled (moment w at) w)) (ticked (moment w at) w) ∙ own))

-- the moment of a call, in the world that a recorded entry of this moment leaves
moment-after : (w : World) (at : ℕ) (e : Entry) → e.now ≡ moment w at → moment (step w e) at ≡ moment w at
moment-after w at e same = omega (arith, same)

pub settles_for_good : SettlesForGood
settles_for_good w at c h = by_entry (entry_of w at c) refl (reply_is_recorded w at c h)
  where
    -- where nothing is left to settle, a Tick records nothing
    nothing : (v : World) → moment v at ≡ moment w at → settled (moment w at) v ≡ v → entry_of v at Tick ≡ None
    nothing v now rests = by (is_full v) refl
      where
        by : (full : Bool) → is_full v ≡ full → cond full None (entry_at v (moment v at) Tick) ≡ None
        by true closed = refl
        by false room =
            ap (λ s. entry_at v s Tick) now
            ∙ ap (λ b. made (moment w at) Tick b (same_world v (settled (moment w at) v))) (world-same (settled (moment w at) v) (carried_out v (moment w at) Tick) (ap world_parts (sym (ticked (moment w at) v))))
            ∙ ap (made (moment w at) Tick true) (ap (same_world v) rests ∙ world-same v v refl)

    For : World → Type 0
    For v = record { rests : settled (moment w at) v ≡ v; records : entry_of v at Tick ≡ None }

    stepped : (e : Entry) → e.now ≡ moment w at → entry_of w at c ≡ Some e → For (step w e)
    stepped e same is =
        let own : moment w e.now ≡ moment w at = ap (moment w) same ∙ moment-twice w at in
        let rests : settled (moment w at) (step w e) ≡ step w e = ap (λ s. settled s (step w e)) (sym own) ∙ step-rests w e h (recorded_is_accepted w at c e is) in
        record { rests = rests; records = nothing (step w e) (moment-after w at e same) rests }

    by_entry : (o : Option Entry) → entry_of w at c ≡ o → TellsAgain w at c o → For (recorded w o)
    by_entry None is still = record { rests = still.rests; records = nothing w refl still.rests }
    by_entry (Some e) is (inl it_is) = stepped e it_is.moment is
    by_entry (Some e) is (inr it_is) = stepped e it_is.moment is
