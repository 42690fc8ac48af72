use Rattle.std.proofs.Common.{◌∙◌}
use Rattle.ps_words.specs.Serve.{texts}
use Rattle.ps_words.proofs.FoundLemmas.{has_file, has_http, has_rows}
use Rattle.ps_words.proofs.TakesLemmas.{faultless, refused}
use Rattle.ps_words.proofs.serve.parse.Goals as goal

pub returns-in-Ok-try_get_matches_from-clause-rows : goal.returns-in-Ok-try_get_matches_from-clause-rows
returns-in-Ok-try_get_matches_from-clause-rows c = has_rows c.in-Ok.command c.in-Ok.ensures _ (texts c.args.words.now) c.in-Ok-try_get_matches_from.ensures.matches

pub returns-in-Ok-try_get_matches_from-clause-http : goal.returns-in-Ok-try_get_matches_from-clause-http
returns-in-Ok-try_get_matches_from-clause-http c = has_http c.in-Ok.command c.in-Ok.ensures _ c.in-Ok-try_get_matches_from.ensures.parsed

pub returns-in-Ok-try_get_matches_from-clause-file : goal.returns-in-Ok-try_get_matches_from-clause-file
returns-in-Ok-try_get_matches_from-clause-file c = has_file c.in-Ok.command c.in-Ok.ensures _ c.in-Ok-try_get_matches_from.ensures.parsed

pub returns-in-Ok-try_get_matches_from-clause-accepted : goal.returns-in-Ok-try_get_matches_from-clause-accepted
returns-in-Ok-try_get_matches_from-clause-accepted c = faultless _ (texts c.args.words.now) c.in-Ok.ensures c.in-Ok-try_get_matches_from.ensures.kinds

pub returns : goal.returns
returns c = record {
  usage = λ is. refused _ (texts c.args.words.now) c.in-Err.error c.in-Ok.ensures c.in-Err.ensures.kinds (λ memory. c.in_default-kind.not-OutOfMemory (c.kind.ensures ∙ memory));
  accepted = tt;
  rows = tt;
  http = tt;
  file = tt;
}
