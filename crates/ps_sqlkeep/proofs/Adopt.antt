-- What the statements of an adoption do.
use Rattle.std.proofs.Common.{◌≡◌, ◌⊎◌, inl, inr, ℕ, List, [], ◌∷◌, Bool, false, Ok, Err, Result, OnOk, OnErr, IfOk, IfErr, IsTrue, sym, ap, subst, ◌∙◌}
use Rattle.std.proofs.lemmas.Bool.{cases_Bool}
use Rattle.sqlite.specs.declared.types.Value.{Value}
use Rattle.sqlite.specs.Order.{Row}
use Rattle.sqlite.specs.Command.TheVariants.{CreateTable}
use Rattle.sqlite.specs.Change.{created, next_tree}
use Rattle.sqlite.specs.Does.{Tally, lacks_sequence}
use Rattle.sqlite.specs.Effect.{Database}
use Rattle.sqlite.specs.declared.error.Error.{Error}
use Rattle.sqlite.specs.State.{State, IsUnchanged, IsRolledBack, ExecutesIn, Executes, Runs, FailsToQuery, Shown, ShowsRows, shows_rows, text_of}
use Rattle.sqlite.specs.Clock.{timed}
use Rattle.sqlite.proofs.Callers.{runs_as, reads_as}
use Rattle.ps_sqlkeep.specs.Entries.{entries, entries_schema, no_schema, create_text, count_text}
use Rattle.ps_sqlkeep.specs.Adopting.{HasEntries, IsEntriesAlone, IsFound, IsLeft, IsMade, IsSettled}
use Rattle.ps_sqlkeep.specs.Summary.{IsTableOfEntries, HoldsEntries, Sums, CountsUp, Fits}
use Rattle.ps_sqlkeep.proofs.Texts.{create_is, create_plain, count_is, count_plain}
use Rattle.ps_sqlkeep.proofs.Compiled.{create_means, count_returns}
use Rattle.ps_sqlkeep.proofs.Append.{undone}
use Rattle.ps_sqlkeep.proofs.Read.{failed}
use Rattle.ps_sqlkeep.proofs.Insert.{went, same_value}
use Rattle.ps_sqlkeep.proofs.Count.{answer_is, summary, numbered_by_count, counts_by_number}

left_of : (old new : State) → IsUnchanged old new ⊎ IsRolledBack old new → IsLeft old new
left_of old new (inl h) live = inl h.0.now_is
left_of old new (inr h) live = inr (h.undone live).0

abbrev IsRun : State → State → Type 0
IsRun old new = IsTrue new.is_open × (HasEntries old.now.schema → IsUnchanged old new)

-- under any schema CREATE makes a table, or changes nothing
ran : (old new : State) (count : ℕ) → Executes create_text [] old new (Ok count) → IsRun old new
unfolding ExecutesIn
ran old new count h = elim (cases_Bool (shows_rows false h.0)) [
  | inl shows ↦ absurd (let e = (rw shows at h.2).0 in cc)
  | inr runs ↦
      let it = rw runs at h.2 in
      let text = text_of create_text h.0 in
      let with = timed [] h.0.formats h.1.now in
      elim (create_means old.now.schema h.0 h.1.is) [
        | inl none ↦ let same = subst (λ k. Runs old new h.0.returning k text with count) none it in (same.0.0.is_open, λ has. same.0)
        | inr makes ↦
            let w = subst (λ k. Runs old new h.0.returning k text with count) makes.0 it in
            (w.shown.is_open, λ has. absurd (let e = makes.1 in let f = has in cc))
      ]
]

-- in an empty database it makes this one
fresh : (old new : State) (count : ℕ) → old.now.schema ≡ no_schema → Executes create_text [] old new (Ok count) → (new.now.schema ≡ entries_schema) × (new.now.trees 0 ≡ [])
fresh old new count has h =
    let w = runs_as create_text [] old new no_schema has CreateTable create_is.0 create_plain count h in
    let all = went w.changed in
    let first = went all.1 in
    let made = first.1 in
    let both : Ok made.table ≡ Ok entries = sym made.defined ∙ create_is.1 in
    let same : made.table ≡ entries = cc in
    let schema : first.0.schema ≡ entries_schema = made.is ∙ ap (λ s. created s made.table) has ∙ ap (created no_schema) same in
    let plain : lacks_sequence first.0.schema ≡ false = ap lacks_sequence schema in
    let now : new.now ≡ first.0 = ap (λ (p : Tally × Database). p.1) (same_value all.2) ∙ same_value (rw plain at first.2) in
    (ap (λ (d : Database). d.schema) now ∙ schema, ap (λ (d : Database). d.trees 0) now ∙ subst (λ s. first.0.trees (next_tree s) ≡ []) has made.empty)

pub made : (old new : State) (r : Result ℕ Error) → Executes create_text [] old new r → OnOk r (IsMade old new)
made old new (Err e) h = tt
made old new (Ok count) h =
    let it = ran old new count h in
    record { is_open = it.0; same = it.1; fresh = λ none. fresh old new count none h }

-- the count only reads
pub counted_same : (old new : State) (rows : List Row) → Shown count_text [] old new rows → IsUnchanged old new
unfolding Shown
counted_same old new rows h = (subst (ShowsRows old new count_text h.0 _ rows) (count_returns old.now.schema h.0 h.1.is) h.2).3

sums : (old new : State) (rows : List Row) → HoldsEntries old → Shown count_text [] old new rows → Sums (old.now.trees 0) rows
sums old new rows holds h =
    let reads = reads_as count_text [] old new entries_schema holds.schema _ count_is.0 count_plain count_is.1 rows h in
    let it = answer_is old.now.trees rows (reads.answer Value.Null) in
    record {
      row = summary it.0;
      is = it.2;
      numbered = numbered_by_count (old.now.trees 0) holds.rows it.0 it.1;
      counts = counts_by_number (old.now.trees 0) holds.rows it.0 it.1;
    }

pub all_same : {T : Type 0} (items : T → List Row) (old new : State) (r : Result T Error) → IfOk r (λ out. Shown count_text [] old new (items out)) → OnOk r (IsUnchanged old new)
all_same items old new (Err e) shown = tt
all_same items old new (Ok out) shown = counted_same old new (items out) shown

pub all_sums : {T : Type 0} (items : T → List Row) (old new : State) (r : Result T Error) → IfOk r (λ out. Shown count_text [] old new (items out))
    → IfOk r (λ out. HoldsEntries old → Sums (old.now.trees 0) (items out))
all_sums items old new (Err e) shown = tt
all_sums items old new (Ok out) shown = λ holds. sums old new (items out) holds shown

pub refused : (sql : List ℕ) (with : Row) (old new : State) (r : Result ℕ Error) → Executes sql with old new r → OnErr r (IsLeft old new)
refused sql with old new (Ok count) h = tt
refused sql with old new (Err e) h = left_of old new (undone false sql with old new e h)

pub refused_query : {T : Type 0} (sql : List ℕ) (with : Row) (old new : State) (r : Result T Error) → IfErr r (FailsToQuery sql with old new) → OnErr r (IsLeft old new)
refused_query sql with old new (Ok out) h = tt
refused_query sql with old new (Err e) h = left_of old new (failed sql with old new e h)

module _ (mid new : State) (found : Bool) (answer : List Row) (same : IsUnchanged mid new) (settled : IsSettled new)
    (table : IsEntriesAlone new → IsTableOfEntries (new.now.trees 0)) (sum : HoldsEntries mid → Sums (mid.now.trees 0) answer)
    (is_alone : IsTrue found → IsEntriesAlone new) (counts : IsTrue found → (row : Row) → answer ≡ row ∷ [] → CountsUp row)
    (all : IsEntriesAlone new → (row : Row) → answer ≡ row ∷ [] → CountsUp row → IsTrue found) (fits : (row : Row) → answer ≡ row ∷ [] → Fits row) where
  summed : IsEntriesAlone new → Sums (new.now.trees 0) answer
  summed it = subst (λ (d : Database). Sums (d.trees 0) answer) (sym same.0.now_is) (sum (record {
    schema = ap (λ (d : Database). d.schema) (sym same.0.now_is) ∙ it.schema;
    rows = subst (λ (d : Database). IsTableOfEntries (d.trees 0)) same.0.now_is (table it);
  }))

  pub is_found : IsFound new found
  is_found = record {
    is_open = same.0.is_open;
    ours = λ yes_is.
        let it = is_alone yes_is in
        let sums = summed it in
        record { schema = it.schema; autocommit = it.autocommit; settled = sym (settled it.autocommit same.0.is_open); numbered = sums.numbered (counts yes_is sums.row sums.is) };
    all = λ holds.
        let it : IsEntriesAlone new = record { schema = holds.schema; autocommit = holds.autocommit } in
        let sums = summed it in
        all it sums.row sums.is (sums.counts holds.numbered (fits sums.row sums.is));
  }
