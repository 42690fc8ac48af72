-- The bytes of entries are exact.
use Rattle.std.proofs.Common.{◌≡◌, ℕ, nat_eq, Bool, true, false, List, [], ◌∷◌, ◌++◌, Option, Some, None, if◌then◌else◌, refl, ap, sym, ◌∙◌}
use Rattle.std.proofs.lemmas.Bool.{eqb-true}
use Rattle.std.proofs.lemmas.List.{append-nil}
use Rattle.ps_codec.specs.Fields.{u64_field}
use Rattle.ps_codec.proofs.FieldLemmas.{IsBytes-behind}
use Rattle.ps_model.specs.declared.command.Command.{Command}
use Rattle.ps_model.specs.declared.command.Entry.{Entry}
use Rattle.ps_model.specs.Forms.{pair_form, pair_at, made_at, number64_at, PairFits, IsBelow64}
use Rattle.ps_model.specs.FormLaws.{IsForm}
use Rattle.ps_model.proofs.FormLemmas.{form-made, form-pair, form-number64}
use Rattle.ps_entry.specs.Commands.{command_form, command_at, CommandFits}
use Rattle.ps_entry.specs.Entries.{entry_form, entry_of, entry_at, whole, entry_in, EntryFits, ReadsBack, ReadsNothingElse}
use Rattle.ps_entry.proofs.CommandForms.{form-command}

-- the moment and the command
abbrev parts_of : Entry → ℕ × Command
parts_of e = (e.now, e.command)

form-parts : IsForm (λ (e : Entry). pair_form u64_field command_form (parts_of e)) (made_at entry_of (pair_at number64_at command_at)) (λ (e : Entry). PairFits IsBelow64 CommandFits (parts_of e))
form-parts = form-made entry_of parts_of _ _ _ (λ e. refl) (λ parts. refl) (form-pair _ _ _ _ _ _ form-number64 form-command)

pub reads_back : ReadsBack
reads_back e fits =
    ap (λ (xs : List ℕ). entry_in xs) (sym (append-nil (entry_form e))) ∙ ap whole (form-parts.again e [] fits)

-- nothing stands behind
whole-is : (read : Option (Entry × List ℕ)) (e : Entry) → whole read ≡ Some e → read ≡ Some (e, [])
whole-is None e is = absurd (cc)
whole-is (Some (own, [])) e is = let same : own ≡ e = cc in ap (λ (x : Entry). Some (x, [])) same
whole-is (Some (own, x ∷ xs)) e is = absurd (cc)

pub reads_nothing_else : ReadsNothingElse
reads_nothing_else [] e bound reads = absurd (cc)
reads_nothing_else (format ∷ bytes) e bound reads = by (nat_eq format 0x01) refl (whole-is (entry_at (format ∷ bytes)) e reads)
  where
    by : (first : Bool) → nat_eq format 0x01 ≡ first → (if first then made_at entry_of (pair_at number64_at command_at) bytes else None) ≡ Some (e, []) → ((format ∷ bytes) ≡ entry_form e) × EntryFits e
    by true first reads =
        let told = form-parts.only bytes e [] (IsBytes-behind (format ∷ []) bytes bound) reads in
        (ap (λ (x : ℕ). x ∷ bytes) (eqb-true format 0x01 first) ∙ ap (λ (xs : List ℕ). 0x01 ∷ xs) (told.0 ∙ append-nil (u64_field e.now ++ command_form e.command)), told.1)
    by false first reads = absurd (cc)
