-- New messages and dead letters, in a world and in its live part; settling.
use Rattle.std.proofs.Common.{ℕ, ◌≡◌, ◌≢◌, ◌<◌, ◌≤◌, Bool, true, false, cond, ◌&&◌, nat_eq, nat_lt, is_some, List, [], ◌∷◌, ◌++◌, Option, Some, None, filter, filter_map, flat_map, unwrap_or, refl, sym, ◌∙◌, ap, subst, arith, inl, inr}
use Rattle.std.specs.List.{AllByRecursion, cons_option}
use Rattle.std.proofs.lemmas.Bool.{ne_eqb, lt-ltb, ltb-true, ltb-false, cond_both}
use Rattle.ps_config.specs.declared.config.SubConfig.{SubConfig}
use Rattle.ps_model.specs.declared.mark.Mark.{Mark}
use Rattle.ps_model.specs.declared.mark.Mark.TheVariants.{Backlog, Leased, Ahead, Done, Gone}
use Rattle.ps_model.specs.declared.mark.DeadLetter.{DeadLetter}
use Rattle.ps_model.specs.declared.mark.Slot.{Slot}
use Rattle.ps_model.specs.declared.world.World.{World}
use Rattle.ps_model.specs.declared.world.SubRow.{SubRow}
use Rattle.ps_model.specs.declared.world.MarkRow.{MarkRow}
use Rattle.ps_model.specs.declared.world.MessageRow.{MessageRow}
use Rattle.ps_model.specs.Slots.{is_gone}
use Rattle.ps_model.specs.Seeking.{fresh}
use Rattle.ps_model.specs.Failing.{dead_letter, dead_letters, is_due, is_dead, one_more}
use Rattle.ps_model.specs.Worlds.{message_numbered, message_at, no_message, slot_of, slots_of, rows_of}
use Rattle.ps_model.specs.Forwarding.{Letter, letter_rows, letter_of, letters_of, dead_topic, enters, entered, enter, enter_all, add_messages, forward}
use Rattle.ps_model.specs.Settling.{drop_snapshots, end_leases, ended_letters, settle}
use Rattle.ps_model.specs.Live.{live}
use Rattle.ps_model.specs.Sound.{Ordered, Precedes}
use Rattle.ps_base.proofs.Lists.{each-always, each-then, each-both, each-map, each-filter, each-left, each-flat_map, find-behind, found-append}
use Rattle.ps_sound.proofs.worlds.Lists.{found-own, ordered-map, ordered-filter}
use Rattle.ps_sound.proofs.worlds.Entering.{each-enter, each-enter_all}
use Rattle.ps_sound.proofs.phases.Letters.{letter-rows-each, letter-rows-ascend}
use Rattle.ps_sound.proofs.living.Filters.{filter-again, filter-append}
use Rattle.ps_sound.proofs.living.Slotwise.{row_lives, kept_messages, KeptAt, AllKept, message_at-live, slots-live, dead-letters-live}
use Rattle.ps_sound.proofs.living.Passes.{Like, live-kept, end_leases-phase, expunge-like}

-- by subscription
abbrev pub BySub : List MarkRow → Type 0
BySub xs = Ordered (λ (a b : MarkRow). a.sub ≤ b.sub) xs

pub by-sub : (xs : List MarkRow) → Ordered Precedes xs → BySub xs
by-sub [] h = tt
by-sub (x ∷ xs) h = (each-then (Precedes x) (λ (y : MarkRow). x.sub ≤ y.sub) xs (λ y p. at y p) h.0, by-sub xs h.1)
  where
    at : (y : MarkRow) → Precedes x y → x.sub ≤ y.sub
    at y (inl p) = omega (arith, p)
    at y (inr p) = omega (arith, p.0)

enter-by-sub : (r : MarkRow) (xs : List MarkRow) → BySub xs → BySub (enter r xs)
enter-by-sub r [] h = (tt, tt)
enter-by-sub r (x ∷ xs) h =
    cond_both (nat_lt r.sub x.sub) (r ∷ (x ∷ xs)) (x ∷ enter r xs) BySub
    (λ e. let up : r.sub < x.sub = ltb-true r.sub x.sub e in ((omega (arith, up), each-then (λ (y : MarkRow). x.sub ≤ y.sub) (λ (y : MarkRow). r.sub ≤ y.sub) xs (λ y p. omega (arith, p, up)) h.0), h))
    (λ e. (each-enter (λ (y : MarkRow). x.sub ≤ y.sub) r xs (ltb-false r.sub x.sub e) h.0, enter-by-sub r xs h.1))

-- before rows of later subscriptions
enter-first : (r : MarkRow) (xs : List MarkRow) → AllByRecursion (λ (x : MarkRow). r.sub < x.sub) xs → enter r xs ≡ r ∷ xs
enter-first r [] h = refl
enter-first r (x ∷ xs) h = ap (λ b. cond b (r ∷ (x ∷ xs)) (x ∷ enter r xs)) (lt-ltb r.sub x.sub h.0)

-- a row that lives enters the rows that live as it enters all
enter-live : (r : MarkRow) (xs : List MarkRow) → row_lives r ≡ true → BySub xs → filter row_lives (enter r xs) ≡ enter r (filter row_lives xs)
enter-live r [] lives h = ap (λ b. cond b (r ∷ []) []) lives
enter-live r (x ∷ xs) lives h = cases (nat_lt r.sub x.sub) refl (row_lives x) refl (enter-live r xs lives h.1)
  where
    rest : List MarkRow
    rest = filter row_lives xs

    cases : (b : Bool) → nat_lt r.sub x.sub ≡ b → (c : Bool) → row_lives x ≡ c → filter row_lives (enter r xs) ≡ enter r rest
        → filter row_lives (cond b (r ∷ (x ∷ xs)) (x ∷ enter r xs)) ≡ enter r (cond (row_lives x) (x ∷ rest) rest)
    cases true eb c ec ih =
        let up : r.sub < x.sub = ltb-true r.sub x.sub eb in
        ap (λ b. cond b (r ∷ filter row_lives (x ∷ xs)) (filter row_lives (x ∷ xs))) lives
        ∙ sym (enter-first r (filter row_lives (x ∷ xs)) (each-left (λ (y : MarkRow). r.sub < y.sub) row_lives (x ∷ xs) (up, each-then (λ (y : MarkRow). x.sub ≤ y.sub) (λ (y : MarkRow). r.sub < y.sub) xs (λ y p. omega (arith, p, up)) h.0)))
    cases false eb true ec ih =
        ap (λ b. cond b (x ∷ filter row_lives (enter r xs)) (filter row_lives (enter r xs))) ec ∙ ap (λ ys. x ∷ ys) ih
        ∙ sym (ap (λ b. cond b (r ∷ (x ∷ rest)) (x ∷ enter r rest)) eb) ∙ sym (ap (λ b. enter r (cond b (x ∷ rest) rest)) ec)
    cases false eb false ec ih =
        ap (λ b. cond b (x ∷ filter row_lives (enter r xs)) (filter row_lives (enter r xs))) ec ∙ ih
        ∙ sym (ap (λ b. enter r (cond b (x ∷ rest) rest)) ec)

enter_all-live : (rs xs : List MarkRow) → AllByRecursion (λ (r : MarkRow). row_lives r ≡ true) rs → BySub xs → filter row_lives (enter_all rs xs) ≡ enter_all rs (filter row_lives xs)
enter_all-live [] xs lives h = refl
enter_all-live (r ∷ rs) xs lives h = enter_all-live rs (enter r xs) lives.1 (enter-by-sub r xs h) ∙ ap (enter_all rs) (enter-live r xs lives.0 h)

abbrev entering : World → List MessageRow → List MarkRow
entering w rows = flat_map (λ (sub : SubRow). entered sub rows) w.subs

-- what holds of each row that new messages make
each-entering : (P : MarkRow → Type 0) (w : World) (rows : List MessageRow) → AllByRecursion (λ (m : MessageRow). (sub : SubRow) → P (record { sub = sub.number; message = m.number; mark = fresh })) rows → AllByRecursion P (entering w rows)
each-entering P w rows h = each-flat_map (λ (sub : SubRow). Unit {0}) P (λ (sub : SubRow). entered sub rows) w.subs
    (λ sub _. each-map (λ (m : MessageRow). P (record { sub = sub.number; message = m.number; mark = fresh })) P (λ (m : MessageRow). record { sub = sub.number; message = m.number; mark = fresh }) (filter (enters sub) rows) (λ m p. p)
    (each-filter (λ (m : MessageRow). (sub : SubRow) → P (record { sub = sub.number; message = m.number; mark = fresh })) (λ (m : MessageRow). P (record { sub = sub.number; message = m.number; mark = fresh })) (enters sub) rows (λ m _ k. k sub) h))
    (each-always (λ (sub : SubRow). Unit {0}) w.subs (λ sub. tt))

-- new messages in the live part
pub add-live : (rows : List MessageRow) (w : World) → BySub w.marks → live (add_messages rows (live w)) ≡ live (add_messages rows w)
add-live rows w h = λ i. record (add_messages rows w) { messages = messages i; marks = marks i }
  where
    kept : MessageRow → Bool
    kept r = r.kept

    messages : filter kept (kept_messages w.messages ++ rows) ≡ filter kept (w.messages ++ rows)
    messages = filter-append kept (kept_messages w.messages) rows ∙ ap (λ ms. ms ++ filter kept rows) (filter-again kept w.messages) ∙ sym (filter-append kept w.messages rows)

    fresh-lives : AllByRecursion (λ (r : MarkRow). row_lives r ≡ true) (entering w rows)
    fresh-lives = each-entering (λ (r : MarkRow). row_lives r ≡ true) w rows (each-always (λ (m : MessageRow). (sub : SubRow) → true ≡ true) rows (λ m sub. refl))

    marks : filter row_lives (enter_all (entering w rows) (filter row_lives w.marks)) ≡ filter row_lives (enter_all (entering w rows) w.marks)
    marks =
        enter_all-live (entering w rows) (filter row_lives w.marks) fresh-lives (ordered-filter (λ (a b : MarkRow). a.sub ≤ b.sub) row_lives w.marks h)
        ∙ ap (enter_all (entering w rows)) (filter-again row_lives w.marks)
        ∙ sym (enter_all-live (entering w rows) w.marks fresh-lives h)

-- a message to be added
pub record IsNext (next : ℕ) (r : MessageRow) : Type 0 where
  pub from : next ≤ r.number
  pub kept : r.kept ≡ true

-- What isn't gone stays kept, and new messages are.
pub add-kept : (rows : List MessageRow) (w : World) → AllByRecursion (λ (r : MessageRow). r.number < w.next_message) w.messages → Ordered (λ (a b : MessageRow). a.number < b.number) rows → AllByRecursion (IsNext w.next_message) rows
    → AllKept w → AllKept (add_messages rows w)
add-kept rows w below ascend next h = each-enter_all (KeptAt (w.messages ++ rows)) (entering w rows) w.marks new old
  where
    old : AllByRecursion (KeptAt (w.messages ++ rows)) w.marks
    old = each-then (KeptAt w.messages) (KeptAt (w.messages ++ rows)) w.marks (λ r k lives. at r (message_numbered w.messages r.message) refl (k lives)) h
      where
        at : (r : MarkRow) (o : Option MessageRow) → message_numbered w.messages r.message ≡ o → (unwrap_or o (no_message r.message)).kept ≡ true → (message_at (w.messages ++ rows) r.message).kept ≡ true
        at r None e k = absurd (cc (k))
        at r (Some m) e k = ap (λ (o : Option MessageRow). (unwrap_or o (no_message r.message)).kept) (found-append (λ (x : MessageRow). nat_eq x.number r.message) w.messages rows (ap is_some e) ∙ e) ∙ k

    found : (m : MessageRow) → IsNext w.next_message m → message_numbered rows m.number ≡ Some m → message_numbered (w.messages ++ rows) m.number ≡ Some m
    found m n own = find-behind (λ (x : MessageRow). nat_eq x.number m.number) w.messages rows
        (each-then (λ (x : MessageRow). x.number < w.next_message) (λ (x : MessageRow). nat_eq x.number m.number ≡ false) w.messages (λ x e. let ne : x.number ≢ m.number = omega (arith, e, n.from) in ne_eqb x.number m.number ne) below)
        ∙ own

    new : AllByRecursion (KeptAt (w.messages ++ rows)) (entering w rows)
    new = each-entering (KeptAt (w.messages ++ rows)) w rows
        (each-then (λ m. IsNext w.next_message m × (message_numbered rows m.number ≡ Some m)) (λ (m : MessageRow). (sub : SubRow) → KeptAt (w.messages ++ rows) (record { sub = sub.number; message = m.number; mark = fresh })) rows
        (λ m p sub _. ap (λ (o : Option MessageRow). (unwrap_or o (no_message m.number)).kept) (found m p.0 p.1) ∙ p.0.kept)
        (each-both (IsNext w.next_message) (λ (m : MessageRow). message_numbered rows m.number ≡ Some m) rows next (found-own (λ (m : MessageRow). m.number) rows ascend)))

-- ---- dead letters

flat_map-same : {A B : Type 0} (f g : A → List B) (xs : List A) → AllByRecursion (λ (x : A). f x ≡ g x) xs → flat_map f xs ≡ flat_map g xs
flat_map-same f g [] h = refl
flat_map-same f g (x ∷ xs) h = λ i. h.0 i ++ flat_map-same f g xs h.1 i

each-filter_map : {A B : Type 0} (P : A → Type 0) (Q : B → Type 0) (f : A → Option B) (xs : List A) → ((x : A) (y : B) → f x ≡ Some y → P x → Q y) → AllByRecursion P xs → AllByRecursion Q (filter_map f xs)
each-filter_map P Q f [] k h = tt
each-filter_map P Q f (x ∷ xs) k h = cases (f x) refl (each-filter_map P Q f xs k h.1)
  where
    cases : (o : Option _) → f x ≡ o → AllByRecursion Q (filter_map f xs) → AllByRecursion Q (cons_option o (filter_map f xs))
    cases None e ih = ih
    cases (Some y) e ih = (k x y e h.0, ih)

-- a dead letter is of a slot that isn't gone
pub each-dead : (P : ℕ → Type 0) (fails : Slot → Bool) (forward : Bool) (config : SubConfig) (slots : List Slot) → AllByRecursion (λ (s : Slot). is_gone s.mark ≡ false → P s.item.number) slots → AllByRecursion (λ (d : DeadLetter). P d.number) (dead_letters fails forward config slots)
each-dead P fails forward config slots h = each-filter_map (λ (s : Slot). is_gone s.mark ≡ false → P s.item.number) (λ (d : DeadLetter). P d.number) (λ s. dead_letter fails forward config s.mark s) slots (λ s d e k. at s d s.mark e k) h
  where
    leased : (s : Slot) (d : DeadLetter) (f : ℕ) (b : Bool) → cond b (Some (record { number = s.item.number; failures = one_more f })) None ≡ Some d → P s.item.number → P d.number
    leased s d f true e p = let same : record { number = s.item.number; failures = one_more f } ≡ d = cc (e) in subst (λ (x : DeadLetter). P x.number) same p
    leased s d f false e p = absurd (cc (e))

    at : (s : Slot) (d : DeadLetter) (mark : Mark) → dead_letter fails forward config mark s ≡ Some d → (is_gone mark ≡ false → P s.item.number) → P d.number
    at s d (Leased f l deadline) e k = leased s d f (fails s && is_dead config.dead_letter forward (one_more f)) e (k refl)
    at s d (Backlog f u l) e k = absurd (cc (e))
    at s d (Ahead f) e k = absurd (cc (e))
    at s d (Done c) e k = absurd (cc (e))
    at s d (Gone c) e k = absurd (cc (e))

abbrev pub KeptNumber : World → ℕ → Type 0
KeptNumber w n = (message_at w.messages n).kept ≡ true

-- the messages of slots that aren't gone are kept
pub slots-kept : (w : World) (n : ℕ) → AllKept w → AllByRecursion (λ (s : Slot). is_gone s.mark ≡ false → KeptNumber w s.item.number) (slots_of w n)
slots-kept w n h = each-map (KeptAt w.messages) (λ (s : Slot). is_gone s.mark ≡ false → KeptNumber w s.item.number) (slot_of w.messages) (rows_of w.marks n) (λ r k. k) (each-left (KeptAt w.messages) (λ (r : MarkRow). nat_eq r.sub n) w.marks h)

pub letters-of-live : (w : World) (sub : SubRow) (dead : List DeadLetter) → AllByRecursion (λ (d : DeadLetter). KeptNumber w d.number) dead → letters_of (live w) sub dead ≡ letters_of w sub dead
letters-of-live w sub dead h = flat_map-same (λ (d : DeadLetter). letter_of sub (dead_topic w sub) (message_at (kept_messages w.messages) d.number) d.failures) (λ (d : DeadLetter). letter_of sub (dead_topic w sub) (message_at w.messages d.number) d.failures) dead
    (each-then (λ (d : DeadLetter). KeptNumber w d.number) (λ (d : DeadLetter). letter_of sub (dead_topic w sub) (message_at (kept_messages w.messages) d.number) d.failures ≡ letter_of sub (dead_topic w sub) (message_at w.messages d.number) d.failures) dead
    (λ d k. ap (λ m. letter_of sub (dead_topic w sub) m d.failures) (message_at-live w.messages d.number k)) h)

-- the letters of the slots of a subscription
letters-live : (w : World) (sub : SubRow) (fails : Slot → Bool) → AllKept w
    → letters_of (live w) sub (dead_letters fails (is_some (dead_topic w sub)) sub.config (slots_of (live w) sub.number)) ≡ letters_of w sub (dead_letters fails (is_some (dead_topic w sub)) sub.config (slots_of w sub.number))
letters-live w sub fails h =
    ap (λ slots. letters_of (live w) sub (dead_letters fails (is_some (dead_topic w sub)) sub.config slots)) (slots-live w sub.number h)
    ∙ ap (letters_of (live w) sub) (dead-letters-live fails (is_some (dead_topic w sub)) sub.config (slots_of w sub.number))
    ∙ letters-of-live w sub (dead_letters fails (is_some (dead_topic w sub)) sub.config (slots_of w sub.number)) (each-dead (KeptNumber w) fails (is_some (dead_topic w sub)) sub.config (slots_of w sub.number) (slots-kept w sub.number h))

pub ended-letters-live : (t : ℕ) (w : World) → AllKept w → ended_letters t (live w) ≡ ended_letters t w
ended-letters-live t w h = flat_map-same
    (λ (sub : SubRow). letters_of (live w) sub (dead_letters (is_due t) (is_some (dead_topic w sub)) sub.config (slots_of (live w) sub.number)))
    (λ (sub : SubRow). letters_of w sub (dead_letters (is_due t) (is_some (dead_topic w sub)) sub.config (slots_of w sub.number))) w.subs
    (each-always _ w.subs (λ sub. letters-live w sub (is_due t) h))

-- what forwarding asks of a world
pub record IsReady (w : World) : Type 0 where
  pub marks : BySub w.marks
  pub below : AllByRecursion (λ (r : MessageRow). r.number < w.next_message) w.messages

pub forward-like : (t : ℕ) (letters : List Letter) (a b : World) → IsReady a → IsReady b → Like a b → Like (forward t letters a) (forward t letters b)
forward-like t letters a b ra rb h = record {
  same = sym (add-live (rows a) a ra.marks) ∙ ap (λ (v : World). live (add_messages (letter_rows v.next_message t letters) v)) h.same ∙ add-live (rows b) b rb.marks;
  first = kept a ra h.first;
  second = kept b rb h.second;
}
  where
    rows : World → List Rattle.ps_model.specs.declared.world.MessageRow.MessageRow
    rows w = letter_rows w.next_message t letters

    kept : (w : World) → IsReady w → AllKept w → AllKept (forward t letters w)
    kept w r k = add-kept (rows w) w r.below (letter-rows-ascend w.next_message t letters)
        (letter-rows-each (IsNext w.next_message) (λ (l : Letter). Unit {0}) w.next_message t letters (λ n l from below _. record { from = from; kept = refl }) (each-always (λ (l : Letter). Unit {0}) letters (λ l. tt))) k

-- ---- settling

ended-ready : (t : ℕ) (w : World) → IsReady w → IsReady (end_leases t w)
ended-ready t w r = record { marks = ordered-map (λ (a b : MarkRow). a.sub ≤ b.sub) (λ (a b : MarkRow). a.sub ≤ b.sub) _ w.marks (λ a b e. e) r.marks; below = r.below }

pub live-ready : (w : World) → IsReady w → IsReady (live w)
live-ready w r = record { marks = ordered-filter (λ (a b : MarkRow). a.sub ≤ b.sub) row_lives w.marks r.marks; below = each-left (λ (m : MessageRow). m.number < w.next_message) (λ (m : MessageRow). m.kept) w.messages r.below }

dropped-ready : (t : ℕ) (w : World) → IsReady w → IsReady (drop_snapshots t w)
dropped-ready t w r = record { marks = r.marks; below = r.below }

pub settle-like : (t : ℕ) (w : World) → IsReady w → AllKept w → Like (settle t (live w)) (settle t w)
settle-like t w r h =
    expunge-like t (forward t (ended_letters t (live v)) (end_leases t (live v))) (forward t (ended_letters t v) (end_leases t v))
    (subst (λ letters. Like (forward t letters (end_leases t (live v))) (forward t (ended_letters t v) (end_leases t v))) (sym (ended-letters-live t v h))
    (forward-like t (ended_letters t v) (end_leases t (live v)) (end_leases t v) (ended-ready t (live v) (live-ready v (dropped-ready t w r))) (ended-ready t v (dropped-ready t w r))
    (record { same = (end_leases-phase t).reads v h; first = (end_leases-phase t).keeps (live v) (live-kept v h); second = (end_leases-phase t).keeps v h })))
  where
    v : World
    v = drop_snapshots t w
