-- What the statements mean.
use Rattle.std.proofs.Common.{◌≡◌, List, [], ◌∷◌, None, Some, Ok, refl, pos, negsuc, codes, false}
use Rattle.sqlite.specs.declared.types.Value.TheVariants.{Null, Int}
use Rattle.sqlite.specs.Command.TheVariants.{CreateTable, Nothing, Insert, Delete, Select}
use Rattle.sqlite.specs.Source.TheVariants.{Values}
use Rattle.sqlite.specs.Collation.TheVariants.{Binary}
use Rattle.sqlite.specs.Term.{Term, lit, col, op2}
use Rattle.sqlite_sql.specs.declared.ops.BinaryOp.TheVariants.{Compare}
use Rattle.sqlite_sql.specs.declared.ops.CompareOp.TheVariants.{Gt}
use Rattle.sqlite.specs.Query.{Query, inner, end}
use Rattle.sqlite_sql.specs.Group.{Grouping}
use Rattle.sqlite_sql.specs.declared.aggregate.AggregateOp.TheVariants.{CountRows, Min, Max}
use Rattle.sqlite.specs.Compile.{table_defined_by}
use Rattle.sqlite_tied.specs.Compute.{everything}
use Rattle.sqlite.specs.Listing.{understood, reads_listing}
use Rattle.sqlite.proofs.Callers.{IsPlain, command_of, statement_of}
use Rattle.ps_sqlkeep.specs.Entries.{entries, entries_schema, no_schema, create_text, insert_text, delete_text, page_text, count_text}

-- the rows that INSERT is given, and the queries
abbrev pub given : List Term
given = col 0 0 ∷ lit Null ∷ col 0 1 ∷ []

abbrev pub all_rows : Query
all_rows = record {
  from = inner 0 end;
  filter = [];
  group = None;
  project = col 1 0 ∷ [];
  distinct = false;
  collations = [];
  order = [];
  limit = lit (Int (negsuc 0));
  offset = lit (Int (pos 0));
}

abbrev pub page_query : Query
page_query = record {
  from = inner 0 end;
  filter = op2 (Compare Gt Binary) (col 1 0) (col 0 0) ∷ [];
  group = None;
  project = col 1 0 ∷ col 1 2 ∷ [];
  distinct = false;
  collations = [];
  order = (col 1 0, record { collation = Binary; descending = false }) ∷ [];
  limit = col 0 1;
  offset = lit (Int (pos 0));
}

-- the rows, their least number and their greatest
abbrev pub counts : Grouping
counts = record {
  keys = [];
  collations = [];
  aggregates = (record { op = CountRows; distinct = false; collation = Binary; argument = lit Null })
      ∷ (record { op = Min; distinct = false; collation = Binary; argument = col 1 0 }) ∷ (record { op = Max; distinct = false; collation = Binary; argument = col 1 0 }) ∷ [];
  having = [];
}

abbrev pub count_query : Query
count_query = record {
  from = inner 0 end;
  filter = [];
  group = Some counts;
  project = col 1 0 ∷ col 1 1 ∷ col 1 2 ∷ [];
  distinct = false;
  collations = [];
  order = [];
  limit = lit (Int (negsuc 0));
  offset = lit (Int (pos 0));
}

pub create_is : (command_of (understood no_schema create_text) ≡ CreateTable) × (table_defined_by (statement_of create_text (understood no_schema create_text)) ≡ Ok entries)
unfolding understood everything
create_is = (refl, refl)

pub again_is : command_of (understood entries_schema create_text) ≡ Nothing
unfolding understood everything
again_is = refl

pub insert_is : command_of (understood entries_schema insert_text) ≡ Insert 0 (Values given 3)
unfolding understood everything
insert_is = refl

pub delete_is : command_of (understood entries_schema delete_text) ≡ Delete 0 (record { lets = []; body = all_rows })
unfolding understood everything
delete_is = refl

pub page_is : (command_of (understood entries_schema page_text) ≡ Select (record { lets = []; body = page_query }) (codes "seq" ∷ codes "body" ∷ [])) × (reads_listing entries_schema page_text ≡ false)
unfolding understood everything
page_is = (refl, refl)

pub count_is : (command_of (understood entries_schema count_text) ≡ Select (record { lets = []; body = count_query }) (codes "count(*)" ∷ codes "min(seq)" ∷ codes "max(seq)" ∷ [])) × (reads_listing entries_schema count_text ≡ false)
unfolding understood everything
count_is = (refl, refl)

pub count_plain : IsPlain (understood entries_schema count_text)
unfolding understood everything
count_plain = (refl, refl)

pub create_plain : IsPlain (understood no_schema create_text)
unfolding understood everything
create_plain = (refl, refl)

pub again_plain : IsPlain (understood entries_schema create_text)
unfolding understood everything
again_plain = (refl, refl)

pub insert_plain : IsPlain (understood entries_schema insert_text)
unfolding understood everything
insert_plain = (refl, refl)

pub delete_plain : IsPlain (understood entries_schema delete_text)
unfolding understood everything
delete_plain = (refl, refl)

pub page_plain : IsPlain (understood entries_schema page_text)
unfolding understood everything
page_plain = (refl, refl)
