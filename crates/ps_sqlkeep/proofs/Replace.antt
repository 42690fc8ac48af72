-- What the statements of a replacement do.
use Rattle.std.proofs.Common.{inl, inr, ◌≡◌, ℕ, ◌+◌, pos, List, [], ◌∷◌, ◌++◌, length, map, true, false, Some, Ok, Err, Result, ℤ, OnOk, IfErr, subst, IsTrue, refl, sym, ap, ◌∙◌, arith}
use Rattle.sqlite.specs.declared.types.Value.{Value}
use Rattle.sqlite.specs.declared.types.Value.TheVariants.{Int, Blob as Bytes}
use Rattle.sqlite.specs.Order.{bytes}
use Rattle.sqlite.specs.Command.TheVariants.{Insert, Delete}
use Rattle.sqlite.specs.Source.TheVariants.{Values}
use Rattle.sqlite.specs.declared.error.Error.{Error}
use Rattle.sqlite.specs.Effect.{Database}
use Rattle.sqlite.specs.Listing.{understood}
use Rattle.sqlite.specs.State.{State, HasCleanDisk, Survives, Shows, KeepsCounts, IsUnchanged, IsRolledBack, KeepsCommit, ExecutesInside, mode_of}
use Rattle.sqlite.proofs.Callers.{statement_of, runs_as}
use Rattle.sqlite.specs.Tree.{Trees, put_row}
use Rattle.sqlite.specs.Steps.{FailsToCommit}
use Rattle.ps_keeper.specs.Log.{Log, IsMade, MayAdd, Changes, replaced}
use Rattle.ps_sqlkeep.specs.Entries.{entries_schema, insert_text, delete_text}
use Rattle.ps_sqlkeep.specs.Kept.{row_of, rows_from, stored, bodies, IsOurs, leaves, log_of}
use Rattle.ps_sqlkeep.specs.Calls.{HasMade}
use Rattle.ps_sqlkeep.specs.Filling.{IsFilling}
use Rattle.ps_sqlkeep.proofs.Texts.{given, all_rows, insert_is, insert_plain, delete_is, delete_plain}
use Rattle.ps_sqlkeep.proofs.Rows.{put-last}
use Rattle.ps_sqlkeep.proofs.Append.{StaysOurs, ours_as, log_open, means, numbered_by, bodies_are, old_or_new}
use Rattle.ps_sqlkeep.proofs.Insert.{inserts}
use Rattle.ps_sqlkeep.proofs.Read.{no_more}
use Rattle.ps_sqlkeep.proofs.Delete.{deletes}

pub blobs-bytes : (rows : Log) → map bytes (map Bytes rows) ≡ rows
blobs-bytes [] = refl
blobs-bytes (r ∷ rows) = ap (λ rest. r ∷ rest) (blobs-bytes rows)

pub keeps_then : (a b c : State) → KeepsCommit a b → KeepsCommit b c → KeepsCommit a c
keeps_then a b c one two = record { was_open = λ live. one.was_open (two.was_open live); committed = λ live. two.committed live ∙ one.committed (two.was_open live) }

pub one_more : (old new : State) (committed : Database) (values : List Value) (n : ℕ) (body : List ℕ) (count : ℕ) → IsFilling old committed values → n ≡ 1 + length values
    → ExecutesInside 0 insert_text (Int (pos n) ∷ Bytes body ∷ []) old new (Ok count) → IsFilling new committed (values ++ Bytes body ∷ [])
one_more old new committed values n body count it next h =
    let with = Int (pos n) ∷ Bytes body ∷ [] in
    let w = runs_as insert_text with old new entries_schema it.schema (Insert 0 (Values given 3)) insert_is insert_plain count h.0 in
    let done = inserts old.step_limit (mode_of old) old.now new.now w.tally (statement_of insert_text (understood entries_schema insert_text)) n body it.schema w.changed in
    record {
      live = h.1.is_open;
      inside = h.1.mode;
      schema = done.0;
      committed_is = h.1.committed_is ∙ it.committed_is;
      rows = done.1 ∙ ap (put_row (row_of n (Bytes body))) it.rows ∙ put-last 1 values n (Bytes body) next;
    }

pub none_left : (old new : State) (committed : Database) (values : List Value) (count : ℕ) → IsFilling old committed values → ExecutesInside 0 delete_text [] old new (Ok count) → IsFilling new committed []
none_left old new committed values count it h =
    let w = runs_as delete_text [] old new entries_schema it.schema (Delete 0 (record { lets = []; body = all_rows })) delete_is delete_plain count h.0 in
    let done = deletes old.step_limit (mode_of old) old.now new.now w.tally (statement_of delete_text (understood entries_schema delete_text)) values it.schema it.rows w.changed in
    record {
      live = h.1.is_open;
      inside = h.1.mode;
      schema = done.0;
      committed_is = h.1.committed_is ∙ it.committed_is;
      rows = done.1;
    }

pub puts : (old new : State) (seq : ℤ) (body : List ℕ) (r : Result ℕ Error) → (IsTrue old.in_transaction → ExecutesInside 0 insert_text (Int seq ∷ Bytes body ∷ []) old new r)
    → OnOk r ((committed : Database) (values : List Value) → IsFilling old committed values → seq ≡ pos (1 + length values) → IsFilling new committed (values ++ Bytes body ∷ []))
puts old new seq body (Err e) h = tt
puts old new seq body (Ok count) h = λ committed values it is. one_more old new committed values (1 + length values) body count it refl (rw is at (h it.inside))

pub clears : (old new : State) (r : Result ℕ Error) → (IsTrue old.in_transaction → ExecutesInside 0 delete_text [] old new r)
    → OnOk r ((committed : Database) (values : List Value) → IsFilling old committed values → IsFilling new committed [])
clears old new (Err e) h = tt
clears old new (Ok count) h = λ committed values it. none_left old new committed values count it (h it.inside)

pub then_filled : {T : Type 0} (old mid new : State) (filled : List Value) (r : Result T Error) → ((committed : Database) (values : List Value) → IsFilling old committed values → IsFilling mid committed [])
    → OnOk r ((committed : Database) → IsFilling mid committed [] → IsFilling new committed filled)
    → OnOk r ((committed : Database) (values : List Value) → IsFilling old committed values → IsFilling new committed filled)
then_filled old mid new filled (Err e) first second = tt
then_filled old mid new filled (Ok x) first second = λ committed values it. second committed (first committed values it)

-- a transaction that is rolled back leaves the log
pub rolled : (old t end : State) → (IsTrue old.is_open → IsOurs old) → KeepsCommit old t → IsRolledBack t end → IsTrue end.is_open → StaysOurs old end
rolled old t end ours kept back live =
    let then = back.was_open live in
    let was_open = kept.was_open then in
    let was = ours was_open in
    let both = back.undone live in
    let now : end.now ≡ old.now = both.0 ∙ kept.committed then ∙ was.settled in
    record { was_open = was_open; same = now; ours = ours_as old end was now back.autocommit (both.1 ∙ sym both.0) }

module _ (old t end : State) (rows : Log) (live : IsTrue old.is_open) (it : IsFilling t old.committed (map Bytes rows)) where
  committed_all : Shows t end t.now t.now false → ((db : Trees) → IsTrue end.is_open → end.may_leave db → db ≡ end.committed.trees)
      → IsMade (replaced rows) (log_of old) (log_of end) (leaves end) × IsOurs end
  committed_all shown settled =
      let same : end.committed ≡ end.now = shown.committed_is ∙ sym shown.now_is in
      let table : end.now.trees 0 ≡ rows_from 1 (map Bytes rows) = ap (λ (d : Database). d.trees 0) shown.now_is ∙ it.rows in (
        record {
          old = bodies (old.now.trees 0);
          from = log_open old live;
          to = log_open end shown.is_open ∙ ap Some (bodies_are _ _ table ∙ blobs-bytes rows);
          alone = λ left h. means (h.0 0) _ (ap (λ (x : Trees). x 0) (settled h.0 shown.is_open h.1) ∙ ap (λ (d : Database). d.trees 0) same ∙ table) left h.2 ∙ blobs-bytes rows;
        },
        record {
          schema = ap (λ (d : Database). d.schema) shown.now_is ∙ it.schema;
          autocommit = shown.mode;
          settled = same;
          numbered = numbered_by _ _ table;
        },
      )

  may_replace : Survives old t (λ _. ⊥) → Survives t end (λ db. db ≡ t.now.trees) → HasCleanDisk end → MayAdd (replaced rows) (log_of old) (leaves old) (leaves end)
  may_replace first second clean left h = elim (second.crash clean h.0 h.1) [
    | inl before ↦ elim (first.crash (omega (arith, second.clean)) h.0 before) [
      | inl early ↦ inl (h.0, early, h.2)
      | inr none ↦ absurd none
    ]
    | inr commit ↦ inr (rw (log_open old live) (means (h.0 0) _ (ap (λ (x : Trees). x 0) commit ∙ it.rows) left h.2 ∙ blobs-bytes rows))
  ]

  not_committed : (e : Error) → FailsToCommit t end e → IsRolledBack t end
  not_committed e (inl fails) = fails.3
  not_committed e (inr late) = absurd (let a = late.1 in let b = it.inside in cc)

  pub finish : IsOurs old → KeepsCommit old t → (r : Result (Unit {0}) Error)
      → OnOk r (IsTrue t.in_transaction × Shows t end t.now t.now false × KeepsCounts t end × (end.marks ≡ [])) → IfErr r (FailsToCommit t end)
      → Survives old t (λ _. ⊥) → Survives t end (λ db. db ≡ t.now.trees) → HasCleanDisk end → ((db : Trees) → IsTrue end.is_open → end.may_leave db → db ≡ end.committed.trees)
      → HasMade (replaced rows) old end r
  finish ours kept (Ok x) ok err first second clean settled =
      let done = committed_all ok.1 settled in
      record { ready = λ _. done.1; change = record { ok = done.0; err = tt; crash = may_replace first second clean } }
  finish ours kept (Err e) ok err first second clean settled =
      let stays = rolled old t end (λ _. ours) kept (not_committed e err) in
      record { ready = λ still. (stays still).ours; change = record { ok = tt; err = old_or_new (replaced rows) old end stays; crash = may_replace first second clean } }

-- a transaction is ready to fill the table that it finds
pub begins_filling : (old begun : State) → IsTrue old.is_open → IsOurs old → IsTrue begun.is_open → begun.in_transaction ≡ true → begun.now ≡ old.now → begun.committed ≡ old.committed
    → IsFilling begun old.committed (stored (old.now.trees 0))
begins_filling old begun live ours still inside now committed = record {
  live = still;
  inside = inside;
  schema = ap (λ (d : Database). d.schema) now ∙ ours.schema;
  committed_is = committed;
  rows = ap (λ (d : Database). d.trees 0) now ∙ ours.numbered;
}

-- a change after a call that changed nothing
pub rebase : {T E : Type 0} (change : Log → Log) (old mid new : State) (r : Result T E) → IsUnchanged old mid → Survives old mid (λ _. ⊥) → HasCleanDisk mid
    → HasMade change mid new r → HasMade change old new r
rebase change old mid new r same survives clean made =
    let log_is : log_of mid ≡ log_of old = log_open mid same.0.is_open ∙ ap (λ (d : Database). Some (bodies (d.trees 0))) same.0.now_is ∙ sym (log_open old same.0.was_open) in
    let it = subst (λ was. Changes change was (log_of new) (leaves mid) (leaves new) r) log_is made.change in
    record {
      ready = made.ready;
      change = record {
        ok = it.ok;
        err = it.err;
        crash = λ left x. elim (it.crash left x) [
          | inl before ↦ inl (no_more old mid survives clean left before)
          | inr added ↦ inr added
        ];
      };
    }
