-- The line that a `BatchLine` stands for.
use Rattle.std.specs.Prelude.{string_bytes}
use Rattle.serde_json.specs.View.{view}
use Rattle.ps_json.specs.Line.{Line, line_with}
use Rattle.ps_json.specs.declared.batch_line.BatchLine.{BatchLine}

abbrev pub shown : BatchLine → Line
shown line = line_with line.at (string_bytes line.verb) (string_bytes line.path) (view line.body)
