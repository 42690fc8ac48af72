use Rattle.ps_filter.proofs.TokenRuns.{runs}
use Rattle.ps_filter.proofs.Problems.{answers_each_text, tells_faults, tells_mixing, tells_syntax}
use Rattle.ps_filter.proofs.laws.law_problems.Goals as goal

pub returns : goal.returns
returns c = record { tokens = runs; answers = answers_each_text; faults = tells_faults; mixed = tells_mixing; syntax = tells_syntax }
