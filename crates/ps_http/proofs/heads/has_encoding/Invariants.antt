use Rattle.std.proofs.Common.{◌≡◌, map, take}
use Rattle.std.specs.List.{list_any}
use Rattle.httparse.specs.Spans.{header_bytes}
use Rattle.ps_http.specs.Heads.{is_encoding}
use Rattle.ps_http.proofs.heads.has_encoding.Given as goal

abbrev pub invariant-loop-header : goal.invariant-loop-header
invariant-loop-header l = l.found ≡ list_any is_encoding (map (header_bytes l.head) (take l.header-index l.headers))
