-- The table of a log, and the texts of the statements.
use Rattle.sqlite.specs.Collation.TheVariants.{Binary}
use Rattle.std.specs.Prelude.{true, false, [], ◌∷◌, Some, codes, List, ℕ}
use Rattle.sqlite.specs.declared.types.Value.TheVariants.{Null}
use Rattle.sqlite.specs.Table.{Table}
use Rattle.sqlite_schema.specs.declared.schema.Column.{Column}
use Rattle.sqlite.specs.Schema.{Schema}
use Rattle.sqlite.specs.Kind.TheVariants.{Integer, Any}

abbrev pub seq_column : Column
seq_column = record { name = codes "seq"; kind = Integer; is_strict = false; not_null = false; default = Null; collation = Binary }

abbrev pub body_column : Column
body_column = record { name = codes "body"; kind = Any; is_strict = false; not_null = true; default = Null; collation = Binary }

abbrev pub entries : Table
entries = record {
  name = codes "entries";
  tree = 0;
  columns = seq_column ∷ body_column ∷ [];
  key = Some 0;
  primary = 0 ∷ [];
  uniques = [];
  orders = [];
  checks = [];
  references = [];
  computed = [];
  stamps = record { places = []; terms = []; formats = [] };
  is_counted = false;
}

abbrev pub entries_schema : Schema
entries_schema = record { tables = entries ∷ []; indexes = []; views = [] }

abbrev pub no_schema : Schema
no_schema = record { tables = []; indexes = []; views = [] }

abbrev pub create_text : List ℕ
create_text = codes "CREATE TABLE IF NOT EXISTS entries(seq INTEGER PRIMARY KEY, body BLOB NOT NULL)"

abbrev pub insert_text : List ℕ
insert_text = codes "INSERT INTO entries(seq, body) VALUES (?1, ?2)"

abbrev pub delete_text : List ℕ
delete_text = codes "DELETE FROM entries"

abbrev pub page_text : List ℕ
page_text = codes "SELECT seq, body FROM entries WHERE seq > ?1 ORDER BY seq LIMIT ?2"

abbrev pub count_text : List ℕ
count_text = codes "SELECT count(*), min(seq), max(seq) FROM entries"
