-- What a read of a page does.
use Rattle.std.proofs.Common.{inl, inr, ◌≡◌, ◌⊎◌, ℕ, ◌+◌, pos, List, [], ◌∷◌, take, drop, Some, None, Ok, Err, Result, Option, IsTrue, IfSome, IfOk, IfErr, sym, ap, subst, ◌∙◌, arith}
use Rattle.std.proofs.lemmas.Bool.{cases_Bool}
use Rattle.sqlite.specs.declared.types.Value.TheVariants.{Int}
use Rattle.sqlite.specs.declared.types.Value.{Value}
use Rattle.sqlite.specs.Order.{Row}
use Rattle.sqlite.specs.Tree.{Trees}
use Rattle.sqlite.specs.declared.error.Error.{Error}
use Rattle.sqlite.specs.Effect.{Database}
use Rattle.sqlite.specs.Listing.{understood}
use Rattle.sqlite_schema.specs.declared.command.Returning.{Returning}
use Rattle.sqlite.specs.State.{State, HasCleanDisk, Survives, IsUnchanged, IsRolledBack, Shown, ShowsRows, FailsToQuery, FailsToShow, CommitsShowing}
use Rattle.sqlite.specs.Clock.{timed}
use Rattle.sqlite.proofs.Callers.{IsPlain, reads_as, never_commits}
use Rattle.ps_keeper.specs.Log.{Log, IsAlone}
use Rattle.ps_sqlkeep.specs.Entries.{entries_schema, page_text}
use Rattle.ps_sqlkeep.specs.Kept.{stored, bodies, IsOurs, leaves, log_of, shown_from}
use Rattle.ps_sqlkeep.specs.Calls.{HasShown}
use Rattle.ps_sqlkeep.proofs.Texts.{page_is, page_plain}
use Rattle.ps_sqlkeep.proofs.Append.{StaysOurs, stays_ours, log_open, log_shut, not_run, means}
use Rattle.ps_sqlkeep.proofs.Page.{answer_is}

-- a query that shows rows changes nothing
pub shown_same : (sql : List ℕ) (params : Row) (old new : State) (rows : List Row) → IsPlain (understood old.now.schema sql) → Shown sql params old new rows → IsUnchanged old new
unfolding Shown
shown_same sql params old new rows plain h =
    let none = (subst IsPlain h.1.is plain).0 in
    (subst (ShowsRows old new sql h.0 _ rows) none h.2).3

-- a query that fails changes nothing, or the transaction is undone
pub failed : (sql : List ℕ) (params : Row) (old new : State) (e : Error) → FailsToQuery sql params old new e → IsUnchanged old new ⊎ IsRolledBack old new
unfolding FailsToQuery
failed sql params old new e (inl h) = not_run sql params old new e h
failed sql params old new e (inr h) = shows h.0.returning h.2
  where
    shows : (returning : Option Returning) → FailsToShow old new sql h.0 (timed params h.0.formats h.1.now) e returning → IsUnchanged old new ⊎ IsRolledBack old new
    shows None it = inl it.3
    shows (Some what) (inl it) = inl it.1
    shows (Some what) (inr it) = inr it.3

-- the log that can be read is the old one
pub same_log : (old new : State) → (IsTrue new.is_open → StaysOurs old new) → IfSome (log_of new) (λ log. log_of old ≡ Some log)
same_log old new stays = elim (cases_Bool new.is_open) [
  | inl live ↦ rw (log_open new live) (log_open old (stays live).was_open ∙ ap (λ (d : Database). Some (bodies (d.trees 0))) (sym (stays live).same))
  | inr shut ↦ rw (log_shut new shut) tt
]

-- a crash finds what it could find before
pub no_more : (old new : State) → Survives old new (λ _. ⊥) → HasCleanDisk new → (log : Log) → leaves new log → leaves old log
no_more old new survives clean log h = elim (survives.crash clean h.0 h.1) [
  | inl before ↦ (h.0, before, h.2)
  | inr none ↦ absurd none
]

-- a crash leaves the log alone, where the connection is open
pub alone : (s : State) → IsTrue s.is_open → IsOurs s → ((db : Trees) → IsTrue s.is_open → s.may_leave db → db ≡ s.committed.trees) → IsAlone (bodies (s.now.trees 0)) (leaves s)
alone s live ours settled log h = means (h.0 0) (stored (s.now.trees 0)) (ap (λ (t : Trees). t 0) (settled h.0 live h.1) ∙ ap (λ (d : Database). d.trees 0) ours.settled ∙ ours.numbered) log h.2

module _ (old mid new : State) (after most : ℕ) (ours : IsTrue old.is_open → IsOurs old) (same : IsUnchanged old mid) where
  abbrev with : Row
  with = Int (pos after) ∷ Int (pos most) ∷ []

  has : mid.now.schema ≡ entries_schema
  has = ap (λ (d : Database). d.schema) same.0.now_is ∙ (ours same.0.was_open).schema

  plain : IsPlain (understood mid.now.schema page_text)
  plain = subst (λ s. IsPlain (understood s page_text)) (sym has) page_plain

  pub rows_are : (rows : List Row) → Shown page_text with mid new rows → rows ≡ shown_from (after + 1) (take most (drop after (stored (old.now.trees 0))))
  rows_are rows h =
      let reads = reads_as page_text with mid new entries_schema has _ page_is.0 page_plain page_is.1 rows h in
      answer_is after most mid.now.trees (stored (old.now.trees 0)) rows (ap (λ (d : Database). d.trees 0) same.0.now_is ∙ (ours same.0.was_open).numbered) (reads.answer Value.Null)

  over : StaysOurs mid new → StaysOurs old new
  over it = record { was_open = same.0.was_open; same = it.same ∙ same.0.now_is; ours = it.ours }

  before : IsTrue mid.is_open → IsOurs mid
  before was = (stays_ours old mid ours (inl same) was).ours

  pub stays_shown : (rows : List Row) → Shown page_text with mid new rows → IsTrue new.is_open × StaysOurs old new
  stays_shown rows h =
      let kept = shown_same page_text with mid new rows plain h in
      (kept.0.is_open, over (stays_ours mid new before (inl kept) kept.0.is_open))

  pub stays_failed : (e : Error) → FailsToQuery page_text with mid new e → IsTrue new.is_open → StaysOurs old new
  stays_failed e h live = over (stays_ours mid new before (failed page_text with mid new e h) live)

  pub no_more_read : Survives old mid (λ _. ⊥) → Survives mid new (CommitsShowing page_text with mid) → HasCleanDisk new → (log : Log) → leaves new log → leaves old log
  no_more_read first second clean log h = elim (second.crash clean h.0 h.1) [
    | inl early ↦ no_more old mid first (omega (arith, second.clean)) log (h.0, early, h.2)
    | inr commits ↦ absurd (never_commits page_text with mid h.0 plain commits)
  ]

  pub read : {T : Type 0} (items : T → List Row) (r : Result T Error) → IfOk r (λ out. Shown page_text with mid new (items out)) → IfErr r (FailsToQuery page_text with mid new)
      → Survives old mid (λ _. ⊥) → Survives mid new (CommitsShowing page_text with mid) → HasCleanDisk new → ((db : Trees) → IsTrue new.is_open → new.may_leave db → db ≡ new.committed.trees)
      → HasShown after most items old new r
  read items (Ok out) shown fails first second clean settled =
      let it = stays_shown (items out) shown in
      let stays = λ (live : IsTrue new.is_open). it.1 in
      record {
        ready = λ live. it.1.ours;
        keeps = record {
          same = same_log old new stays;
          ok = rw (log_open new it.0) (alone new it.0 it.1.ours settled);
          readable = (bodies (new.now.trees 0), log_open new it.0);
          crash = no_more_read first second clean;
        };
        rows = λ live. rows_are (items out) shown ∙ ap (λ (d : Database). shown_from (after + 1) (take most (drop after (stored (d.trees 0))))) (sym it.1.same);
      }
  read items (Err e) shown fails first second clean settled =
      let stays = stays_failed e fails in
      record {
        ready = λ live. (stays live).ours;
        keeps = record { same = same_log old new stays; ok = tt; readable = tt; crash = no_more_read first second clean };
        rows = tt;
      }

-- a page that is refused before it runs anything
pub refused_page : {T : Type 0} (after most : ℕ) (items : T → List Row) (old new : State) (e : Error) → (IsTrue old.is_open → IsOurs old) → IsUnchanged old new ⊎ IsRolledBack old new
    → Survives old new (λ _. ⊥) → HasCleanDisk new → HasShown after most items old new (Err e)
refused_page after most items old new e ours left survives clean =
    let stays = stays_ours old new ours left in
    record {
      ready = λ live. (stays live).ours;
      keeps = record { same = same_log old new stays; ok = tt; readable = tt; crash = no_more old new survives clean };
      rows = tt;
    }
