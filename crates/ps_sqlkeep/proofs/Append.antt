-- What an append does to the log.
use Rattle.std.proofs.Common.{append-nil, map, ◌≡◌, ◌⊎◌, inl, inr, ℕ, ◌+◌, pos, List, [], ◌∷◌, ◌++◌, length, Bool, false, Some, None, Ok, Err, Result, IsTrue, refl, sym, ap, subst, ◌∙◌, arith}
use Rattle.std.proofs.lemmas.Bool.{cases_Bool}
use Rattle.std.proofs.lemmas.List.{length-map}
use Rattle.sqlite.specs.declared.types.Value.{Value}
use Rattle.sqlite.specs.declared.types.Value.TheVariants.{Int, Blob as Bytes}
use Rattle.sqlite.specs.Order.{Row, bytes, column}
use Rattle.sqlite.specs.Command.TheVariants.{Insert}
use Rattle.sqlite.specs.Source.TheVariants.{Values}
use Rattle.sqlite.specs.Tree.{Trees, put_row}
use Rattle.sqlite.specs.declared.error.Error.{Error}
use Rattle.sqlite.specs.Effect.{Database}
use Rattle.sqlite.specs.Does.{Does}
use Rattle.sqlite.specs.Listing.{understood}
use Rattle.sqlite.specs.State.{State, HasCleanDisk, Survives, IsUnchanged, IsRolledBack, ExecutesIn, Executes, IsNotRun, shows_rows, CommitsBy, Writes, text_of, mode_of}
use Rattle.sqlite.proofs.Callers.{IsPlain, command_of, statement_of, runs_as}
use Rattle.ps_keeper.specs.Log.{Log, IsMade, IsOldOrNew, MayAdd, appended}
use Rattle.ps_sqlkeep.specs.Entries.{entries_schema, insert_text}
use Rattle.ps_sqlkeep.specs.Kept.{row_of, rows_from, stored, bodies, IsNumbered, MayMean, IsOurs, leaves, log_of}
use Rattle.ps_sqlkeep.specs.Calls.{HasMade}
use Rattle.ps_sqlkeep.proofs.Texts.{given, insert_is, insert_plain}
use Rattle.ps_sqlkeep.proofs.Rows.{put-last, stored-rows}
use Rattle.ps_sqlkeep.proofs.Insert.{inserts}

-- a statement that is refused changes nothing, or the transaction is undone
pub undone : (in_batch : Bool) (sql : List ℕ) (params : Row) (old new : State) (e : Error) → ExecutesIn in_batch sql params old new (Err e) → IsUnchanged old new ⊎ IsRolledBack old new
unfolding ExecutesIn IsNotRun
undone in_batch sql params old new e (inl (inl h)) = inl h.1
undone in_batch sql params old new e (inl (inr h)) = inr h.3
undone in_batch sql params old new e (inr h) = elim (cases_Bool (shows_rows in_batch h.0)) [
  | inl shows ↦ inl (rw shows at h.2).1
  | inr runs ↦ elim (rw runs at h.2) [
    | inl refused ↦ inl refused.1
    | inr fails ↦ inr fails.3
  ]
]

pub not_run : (sql : List ℕ) (with : Row) (old new : State) (e : Error) → IsNotRun old new sql with e → IsUnchanged old new ⊎ IsRolledBack old new
unfolding IsNotRun
not_run sql with old new e (inl h) = inl h.1
not_run sql with old new e (inr h) = inr h.3

-- then the log is as it was, if it can still be read
pub record StaysOurs (old new : State) : Type 0 where
  pub was_open : IsTrue old.is_open
  pub same : new.now ≡ old.now
  pub ours : IsOurs new

-- the table of another state
pub ours_as : (old new : State) → IsOurs old → new.now ≡ old.now → new.in_transaction ≡ false → new.committed ≡ new.now → IsOurs new
ours_as old new was now autocommit settled = record {
  schema = ap (λ (d : Database). d.schema) now ∙ was.schema;
  autocommit = autocommit;
  settled = settled;
  numbered = subst (λ (d : Database). IsNumbered (d.trees 0)) (sym now) was.numbered;
}

pub stays_ours : (old new : State) → (IsTrue old.is_open → IsOurs old) → IsUnchanged old new ⊎ IsRolledBack old new → IsTrue new.is_open → StaysOurs old new
stays_ours old new ours (inl h) live =
    let was = ours h.0.was_open in
    let now = h.0.now_is in
    record { was_open = h.0.was_open; same = now; ours = ours_as old new was now (h.0.mode ∙ was.autocommit) (h.0.committed_is ∙ was.settled ∙ sym now) }
stays_ours old new ours (inr h) live =
    let was_open = h.was_open live in
    let was = ours was_open in
    let both = h.undone live in
    let now : new.now ≡ old.now = both.0 ∙ was.settled in
    record { was_open = was_open; same = now; ours = ours_as old new was now h.autocommit (both.1 ∙ sym both.0) }

-- a log that can be read
pub log_open : (s : State) → IsTrue s.is_open → log_of s ≡ Some (bodies (s.now.trees 0))
log_open s live = rw live refl

pub log_shut : (s : State) → s.is_open ≡ false → log_of s ≡ None
log_shut s shut = rw shut refl

-- the new log is the old one or another, by whether each is open
pub old_or_new : (change : Log → Log) (old new : State) → (IsTrue new.is_open → StaysOurs old new) → IsOldOrNew change (log_of old) (log_of new)
old_or_new change old new stays = elim (cases_Bool new.is_open) [
  | inl live ↦
      let it = stays live in
      rw (log_open old it.was_open, log_open new live) (inl (ap (λ (d : Database). bodies (d.trees 0)) it.same))
  | inr shut ↦ elim (cases_Bool old.is_open) [
    | inl was ↦ rw (log_open old was, log_shut new shut) tt
    | inr not ↦ rw (log_shut old not, log_shut new shut) tt
  ]
]

abbrev params : ℕ → List ℕ → Row
params n body = Int (pos n) ∷ Bytes body ∷ []

-- what a crash in the middle of the commit may leave
pub committed_row : (old : State) (n : ℕ) (body : List ℕ) (db : Trees) → old.now.schema ≡ entries_schema → CommitsBy insert_text (params n body) old db
    → db 0 ≡ put_row (row_of n (Bytes body)) (old.now.trees 0)
unfolding CommitsBy
committed_row old n body db has h =
    let known = sym h.1.is ∙ ap (λ s. understood s insert_text) has in
    let bare = subst IsPlain (sym known) insert_plain in
    let command : h.0.command ≡ Insert 0 (Values given 3) = ap command_of known ∙ insert_is in
    elim h.2 [
      | inl ends ↦ absurd (elim ends.0 [
        | inl commit ↦ cc
        | inr release ↦ let e = release.2 in cc
      ])
      | inr write ↦
          let does = subst (λ k. Does old.step_limit (mode_of old) (params n body) old.now (text_of insert_text h.0) None k (Ok (write.1, write.2))) command (rw (bare.0, bare.1, append-nil (params n body)) at write.3) in
          let done = inserts old.step_limit (mode_of old) old.now write.2 write.1 (text_of insert_text h.0) n body has does in
          ap (λ (t : Trees). t 0) write.5 ∙ done.1
    ]

module _ (rows : List Row) (values : List Value) (is : rows ≡ rows_from 1 values) where
  pub stored_is : stored rows ≡ values
  stored_is = ap stored is ∙ stored-rows 1 values

  pub numbered_by : IsNumbered rows
  numbered_by = is ∙ ap (rows_from 1) (sym stored_is)

  pub bodies_are : bodies rows ≡ map bytes values
  bodies_are = ap (map bytes) stored_is

  -- rows that hold a log mean that log alone
  pub means : (left : Log) → MayMean rows left → left ≡ map bytes values
  means left (inl one) = one.1 ∙ bodies_are
  means left (inr none) = absurd (none numbered_by)

bytes_more : (values : List Value) (body : List ℕ) → map bytes (values ++ Bytes body ∷ []) ≡ map bytes values ++ body ∷ []
bytes_more [] body = refl
bytes_more (v ∷ values) body = ap (λ rest. bytes v ∷ rest) (bytes_more values body)

-- nothing is added if nothing was committed
pub adds_nothing : (change : Log → Log) (old new : State) → Survives old new (λ _. ⊥) → HasCleanDisk new → MayAdd change (log_of old) (leaves old) (leaves new)
adds_nothing change old new survives clean left h = elim (survives.crash clean h.0 h.1) [
  | inl before ↦ inl (h.0, before, h.2)
  | inr none ↦ absurd none
]

-- a call that is refused before it runs anything
pub refused : {T : Type 0} (change : Log → Log) (old new : State) (e : Error) → (IsTrue old.is_open → IsOurs old) → IsUnchanged old new ⊎ IsRolledBack old new → Survives old new (λ _. ⊥) → HasCleanDisk new
    → HasMade {T = T} change old new (Err e)
refused change old new e ours left survives clean =
    let stays = stays_ours old new ours left in
    record {
      ready = λ live. (stays live).ours;
      change = record { ok = tt; err = old_or_new change old new stays; crash = adds_nothing change old new survives clean };
    }

module _ (old mid new : State) (n : ℕ) (body : List ℕ) (ours : IsTrue old.is_open → IsOurs old) (next : IsTrue old.is_open → n ≡ 1 + length (old.now.trees 0)) (same : IsUnchanged old mid) where
  abbrev was : List Value
  was = stored (old.now.trees 0)

  put_is : put_row (row_of n (Bytes body)) (mid.now.trees 0) ≡ rows_from 1 (was ++ Bytes body ∷ [])
  put_is =
      let live = same.0.was_open in
      let last : n ≡ 1 + length was = omega (arith, next live, length-map (old.now.trees 0) (λ r. column r 2)) in
      ap (λ (d : Database). put_row (row_of n (Bytes body)) (d.trees 0)) same.0.now_is ∙ ap (put_row (row_of n (Bytes body))) (ours live).numbered
      ∙ put-last 1 was n (Bytes body) last

  has : mid.now.schema ≡ entries_schema
  has = ap (λ (d : Database). d.schema) same.0.now_is ∙ (ours same.0.was_open).schema

  log_is : map bytes (was ++ Bytes body ∷ []) ≡ appended body (bodies (old.now.trees 0))
  log_is = bytes_more was body

  -- a crash finds what it could find before, or the log with the body
  pub may_add : Survives old mid (λ _. ⊥) → Survives mid new (CommitsBy insert_text (params n body) mid) → HasCleanDisk new → MayAdd (appended body) (log_of old) (leaves old) (leaves new)
  may_add first second clean left h = elim (second.crash clean h.0 h.1) [
    | inl before ↦ elim (first.crash (omega (arith, second.clean)) h.0 before) [
      | inl early ↦ inl (h.0, early, h.2)
      | inr none ↦ absurd none
    ]
    | inr commit ↦
        let row = committed_row mid n body h.0 has commit ∙ put_is in
        inr (rw (log_open old same.0.was_open) (means (h.0 0) _ row left h.2 ∙ log_is))
  ]

  written : (count : ℕ) → Executes insert_text (params n body) mid new (Ok count)
      → Writes mid new None (Insert 0 (Values given 3)) (statement_of insert_text (understood entries_schema insert_text)) (params n body) count
  written count h = runs_as insert_text (params n body) mid new entries_schema has (Insert 0 (Values given 3)) insert_is insert_plain count h

  pub made : (count : ℕ) → Executes insert_text (params n body) mid new (Ok count) → ((db : Trees) → IsTrue new.is_open → new.may_leave db → db ≡ new.committed.trees)
      → IsMade (appended body) (log_of old) (log_of new) (leaves new) × IsOurs new
  made count h settled =
      let w = written count h in
      let done = inserts mid.step_limit (mode_of mid) mid.now new.now w.tally (statement_of insert_text (understood entries_schema insert_text)) n body has w.changed in
      let rows : new.now.trees 0 ≡ rows_from 1 (was ++ Bytes body ∷ []) = done.1 ∙ put_is in
      let autocommit : mid.in_transaction ≡ false = same.0.mode ∙ (ours same.0.was_open).autocommit in
      let committed : new.committed ≡ new.now = w.shown.committed_is ∙ rw autocommit refl in (
        record {
          old = bodies (old.now.trees 0);
          from = log_open old same.0.was_open;
          to = log_open new w.shown.is_open ∙ ap Some (bodies_are _ _ rows ∙ log_is);
          alone = λ left it. means (it.0 0) _ (ap (λ (t : Trees). t 0) (settled it.0 w.shown.is_open it.1) ∙ ap (λ (d : Database). d.trees 0) committed ∙ rows) left it.2 ∙ log_is;
        },
        record {
          schema = done.0;
          autocommit = w.shown.mode ∙ autocommit;
          settled = committed;
          numbered = numbered_by _ _ rows;
        },
      )

  stays_after : (e : Error) → Executes insert_text (params n body) mid new (Err e) → IsTrue new.is_open → StaysOurs old new
  stays_after e h live =
      let before = λ (was : IsTrue mid.is_open). (stays_ours old mid ours (inl same) was).ours in
      let it = stays_ours mid new before (undone false insert_text (params n body) mid new e h) live in
      record { was_open = same.0.was_open; same = it.same ∙ same.0.now_is; ours = it.ours }

  pub ran : (r : Result ℕ Error) → Executes insert_text (params n body) mid new r → Survives old mid (λ _. ⊥) → Survives mid new (CommitsBy insert_text (params n body) mid) → HasCleanDisk new
      → ((db : Trees) → IsTrue new.is_open → new.may_leave db → db ≡ new.committed.trees) → HasMade (appended body) old new r
  ran (Ok count) h first second clean settled =
      let done = made count h settled in
      record { ready = λ live. done.1; change = record { ok = done.0; err = tt; crash = may_add first second clean } }
  ran (Err e) h first second clean settled = record {
    ready = λ live. (stays_after e h live).ours;
    change = record { ok = tt; err = old_or_new (appended body) old new (stays_after e h); crash = may_add first second clean };
  }
