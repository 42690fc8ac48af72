-- What is left of the loop comes to what the whole loop does.
use Rattle.std.proofs.Common.{◌≡◌, [], None}
use Rattle.ps_tables.specs.Pages.{with_bytes}
use Rattle.ps_tables.proofs.names.Paging.{name_bytes, walk}
use Rattle.ps_tables.proofs.name_index.NameIndex.page.Given as goal

abbrev pub invariant-loop-name : goal.invariant-loop-name
invariant-loop-name l = walk l.front l.most (with_bytes l.name-iterator) l.numbers.items (name_bytes l.last) ≡ walk l.front l.most (with_bytes l.initial.name-iterator) [] None
