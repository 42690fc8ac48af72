-- What two of the texts mean under any schema.
use Rattle.std.proofs.Common.{◌≡◌, ◌⊎◌, inl, inr, ◌&&◌, if◌then◌else◌, ℕ, List, Bool, true, false, not, length, ◌==◌, None, Some, Option, Ok, Err, Result, codes, is_some, bytes_eq, refl, sym, ap, subst, ◌∙◌}
use Rattle.std.specs.Option.{option_or}
use Rattle.std.proofs.lemmas.Bool.{cases_Bool}
use Rattle.std.proofs.lemmas.Slice.Eq.{bytes_eq-Decides}
use Rattle.sqlite_ast.specs.declared.Statement.{Statement}
use Rattle.sqlite_ast.specs.declared.Statement.TheVariants as written
use Rattle.sqlite_ast.specs.declared.CreateTable.{CreateTable}
use Rattle.sqlite_syntax.specs.declared.statement.Parsed.{Parsed}
use Rattle.sqlite_schema.specs.declared.schema.Schema.{Schema}
use Rattle.sqlite_schema.specs.declared.schema.Table.{Table}
use Rattle.sqlite_schema.specs.declared.command.Command.{Command}
use Rattle.sqlite_schema.specs.declared.command.Returning.{Returning}
use Rattle.sqlite_schema.specs.declared.command.Command.TheVariants.{Nothing, CreateTable as MakeTable}
use Rattle.sqlite_schema.specs.Names.{table_named, index_named, view_named}
use Rattle.sqlite_resolve.specs.declared.error.CompileError.{CompileError}
use Rattle.sqlite_resolve.specs.declared.error.CompileError.TheVariants.{Unsupported}
use Rattle.sqlite_resolve.specs.Define as define
use Rattle.sqlite_resolve.specs.declared.compiled.Compiled.{Compiled}
use Rattle.sqlite_resolve.specs.Lowering.{Checked, and_then}
use Rattle.sqlite_resolve.specs.Compile.{first, planned, meaning, compiled, returning, command, create_table, creates, is_attached, is_reserved}
use Rattle.sqlite_tied.specs.Compute.{everything}
use Rattle.sqlite.specs.Listing.{understood, reads_listing, if_select, listing_schema, is_select}
use Rattle.ps_sqlkeep.specs.Entries.{create_text, count_text}

-- a value is given by each part in turn
bound : {A B : Type 0} (r : Checked A) (f : A → Checked B) (b : B) → and_then r f ≡ Ok b → (a : A) × (r ≡ Ok a) × (f a ≡ Ok b)
bound (Ok a) f b h = (a, refl, h)
bound (Err e) f b h = absurd (cc)

given : {A : Type 0} {a b : A} → ◌≡◌ {A = Checked A} (Ok a) (Ok b) → a ≡ b
given e = cc

abbrev statement_in : Checked Parsed → Statement
statement_in (Ok p) = p.statement
statement_in (Err e) = written.Empty

-- CREATE TABLE IF NOT EXISTS, for this name
abbrev makes_entries : Statement → Bool
makes_entries (written.CreateTable def) = def.if_missing && bytes_eq def.name (codes "entries")
makes_entries _ = false

create_is_read : makes_entries (statement_in (first create_text)) ≡ true
unfolding everything
create_is_read = refl

create_shows : (schema : Schema) (base : ℕ) → returning schema base (statement_in (first create_text)) ≡ Ok None
unfolding everything
create_shows schema base = refl

count_shows : (schema : Schema) (base : ℕ) → returning schema base (statement_in (first count_text)) ≡ Ok None
unfolding everything
count_shows schema base = refl

-- a compiled text is planned, and its parts are those of the plan
record IsPlanned (schema : Schema) (text : List ℕ) (c : Compiled) : Type 0 where
  pub parsed : Parsed
  pub read : first text ≡ Ok parsed
  pub base : ℕ
  pub shows : returning schema base parsed.statement ≡ Ok c.returning
  pub means : command schema parsed.formats base parsed.statement ≡ Ok c.command

planned_of : (schema : Schema) (text : List ℕ) (c : Compiled) → compiled schema text ≡ Ok c → IsPlanned schema text c
unfolding compiled planned meaning
planned_of schema text c h =
    let one = bound (first text) _ c h in
    let two = bound (planned schema one.0) _ c one.2 in
    let three = bound _ _ two.0 two.1 in
    let four = bound (returning schema _ one.0.statement) _ three.0 three.1 in
    let five = bound (command schema one.0.formats _ one.0.statement) _ three.0 four.2 in
    let whole = given two.2 in
    let plan = given three.2 in
    let found = given five.2 in
    record {
      parsed = one.0;
      read = one.1;
      base = _;
      shows = four.1 ∙ ap Ok (ap (λ (x : Command × Option Returning). x.1) found ∙ ap (λ (x : List (List ℕ) × (Command × Option Returning)). x.1.1) plan ∙ ap (λ (x : Compiled). x.returning) whole);
      means = five.1 ∙ ap Ok (ap (λ (x : Command × Option Returning). x.0) found ∙ ap (λ (x : List (List ℕ) × (Command × Option Returning)). x.1.0) plan ∙ ap (λ (x : Compiled). x.command) whole);
    }

-- the text is compiled under some schema
compiled_of : (schema : Schema) (text : List ℕ) (c : Compiled) → understood schema text ≡ Ok c → (under : Schema) × ((under ≡ schema) ⊎ (is_select c.command ≡ true)) × (compiled under text ≡ Ok c)
unfolding understood
compiled_of schema text c h = elim (cases_Bool (reads_listing schema text)) [
  | inl listing ↦ let it = selected (compiled listing_schema text) (rw listing at h) in (listing_schema, inr it.0, it.1)
  | inr plain ↦ (schema, inl refl, rw plain at h)
]
  where
    selected : (r : Result Compiled CompileError) → if_select r ≡ Ok c → (is_select c.command ≡ true) × (r ≡ Ok c)
    selected (Err e) h = absurd (cc)
    selected (Ok k) h = elim (cases_Bool (is_select k.command)) [
      | inl reads ↦ let same : k ≡ c = given (rw reads at h) in (ap (λ (x : Compiled). is_select x.command) (sym same) ∙ reads, ap Ok same)
      | inr other ↦ absurd (let e = rw other at h in cc)
    ]

-- the query for the count writes nothing
pub count_returns : (schema : Schema) (c : Compiled) → understood schema count_text ≡ Ok c → c.returning ≡ None
count_returns schema c h =
    let under = compiled_of schema count_text c h in
    let it = planned_of under.0 count_text c under.2 in
    given (sym it.shows ∙ ap (λ r. returning under.0 it.base (statement_in r)) (sym it.read) ∙ count_shows under.0 it.base)

-- it makes the table if there is none of that name, or does nothing
abbrev pub MayCreate : Schema → Command → Type 0
MayCreate schema c = (c ≡ Nothing) ⊎ ((c ≡ MakeTable) × (is_some (table_named schema (codes "entries")) ≡ false))

first_none : (a b : Option ℕ) → is_some (option_or a b) ≡ false → is_some a ≡ false
first_none None b h = refl
first_none (Some x) b h = absurd (cc)

new_only : (is_missing : Bool) (name : List ℕ) (same other : Option ℕ) → is_missing ≡ true → creates is_missing name same other ≡ Ok true → is_some same ≡ false
unfolding creates
new_only is_missing name same other missing h = elim (cases_Bool (is_reserved name)) [
  | inl reserved ↦ absurd (let e = rw reserved at h in cc)
  | inr free ↦ elim (cases_Bool (is_some other)) [
    | inl taken ↦ absurd (let e = rw (free, taken) at h in cc)
    | inr alone ↦ elim (cases_Bool (is_some same)) [
      | inl there ↦ absurd (let e = rw (free, alone, there, missing) at h in cc)
      | inr none ↦ none
    ]
  ]
]

table_only : (r : Checked Table) (fits : Table → Bool) (e : CompileError) (c : Command) → and_then r (λ t. if fits t then Ok MakeTable else Err e) ≡ Ok c → c ≡ MakeTable
table_only (Err other) fits e c h = absurd (cc)
table_only (Ok t) fits e c h = elim (cases_Bool (fits t)) [ inl fit ↦ sym (given (rw fit at h)) | inr bad ↦ absurd (let k = rw bad at h in cc) ]

create_only : (schema : Schema) (formats : List (List ℕ)) (def : CreateTable) (c : Command) → def.if_missing ≡ true → def.name ≡ codes "entries" → create_table schema formats def ≡ Ok c → MayCreate schema c
unfolding create_table
create_only schema formats def c missing name h = elim (cases_Bool (is_attached schema def.name)) [
  | inl attached ↦ absurd (let e = rw attached at h in cc)
  | inr apart ↦
      let it = bound (creates def.if_missing def.name (option_or (table_named schema def.name) (view_named schema def.name)) (index_named schema def.name)) _ c (rw apart at h) in
      elim (cases_Bool it.0) [
        | inl is_new ↦
            let none = first_none _ _ (new_only def.if_missing def.name _ _ missing (it.1 ∙ ap Ok is_new)) in
            inr (table_only (define.table formats def) (λ t. (length t.computed == length t.stamps.places) && not def.resolves) Unsupported c (rw is_new at it.2), subst (λ n. is_some (table_named schema n) ≡ false) name none)
        | inr old ↦ inl (sym (given (rw old at it.2)))
      ]
]

command_only : (schema : Schema) (formats : List (List ℕ)) (base : ℕ) (s : Statement) (c : Command) → makes_entries s ≡ true → command schema formats base s ≡ Ok c → MayCreate schema c
unfolding command
command_only schema formats base (written.CreateTable def) c makes h = let both = parts def.if_missing _ makes in create_only schema formats def c both.0 ((bytes_eq-Decides def.name (codes "entries")).0 both.1) h
  where
    parts : (a b : Bool) → a && b ≡ true → (a ≡ true) × (b ≡ true)
    parts true b e = (refl, e)
    parts false b e = absurd (cc)
command_only schema formats base _ c makes h = absurd (cc)

-- what CREATE means under any schema
pub create_means : (schema : Schema) (c : Compiled) → understood schema create_text ≡ Ok c → MayCreate schema c.command
create_means schema c h =
    let under = compiled_of schema create_text c h in
    let it = planned_of under.0 create_text c under.2 in
    let made = command_only under.0 it.parsed.formats it.base it.parsed.statement c.command (ap (λ r. makes_entries (statement_in r)) (sym it.read) ∙ create_is_read) it.means in
    elim under.1 [
      | inl same ↦ subst (λ s. MayCreate s c.command) same made
      | inr reads ↦ absurd (elim made [ inl none ↦ (let e = rw none at reads in cc) | inr new ↦ (let e = rw new.0 at reads in cc) ])
    ]
