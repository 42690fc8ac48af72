use Rattle.std.proofs.Common.{◌≡◌, ◌++◌, drop}
use Rattle.ps_filter.specs.Tokens.{tokens, tokens_from}
use Rattle.ps_filter.proofs.lexer.tokens.Given as goal

-- the tokens so far, and those of the bytes that are left
abbrev pub invariant-loop-byte : goal.invariant-loop-byte
invariant-loop-byte l = (l.at ≡ l.byte-index) × (l.made ++ tokens_from l.state l.at (drop l.byte-index l.text) ≡ tokens l.text)
