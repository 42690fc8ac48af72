use Rattle.std.proofs.Common.{◌∙◌, inl, inr, sym, ap, rules, Some, List, ℕ, [], refl}
use Rattle.clap.specs.Words.{found_of}
use Rattle.clap.proofs.SimpleLemmas.{is_nil}
use Rattle.ps_words.specs.Serve.{texts}
use Rattle.ps_words.proofs.PlainLemmas.{not_refused, same_file, same_port, without_usage}
use Rattle.ps_words.proofs.WordLemmas.{accepted, file_is, http_is, not_taken, other_verb}
use Rattle.ps_words.proofs.serve.serve_words.Goals as goal

pub returns-then-not-begins_with_serve-clause-usage : goal.returns-then-not-begins_with_serve-clause-usage
returns-then-not-begins_with_serve-clause-usage c = λ is. inl (other_verb (texts c.args.words.now) (sym c.if-not-begins_with_serve.ensures))

pub returns-in_err-matches-clause-usage : goal.returns-in_err-matches-clause-usage
returns-in_err-matches-clause-usage c = λ is. inl (not_taken (texts c.args.words.now) (c.in_err-matches.ensures.usage (search rules)))

pub returns-then-is_empty-clause-usage : goal.returns-then-is_empty-clause-usage
returns-then-is_empty-clause-usage c = λ is. inr (file_is (found_of c.in_ok-matches.matches) (texts c.args.words.now) c.in_ok-matches.ensures.rows []
    (ap (λ (text : List ℕ). Some text) (sym (is_nil _ (sym c.if-is_empty.ensures))) ∙ c.in-Some-get_str.ensures))

pub returns-clause-http : goal.returns-clause-http
returns-clause-http c = http_is (found_of c.in_ok-matches.matches) (texts c.args.words.now) c.in_ok-matches.ensures.rows _ _ c.in_ok-matches.ensures.http.1 (c.in-Some.ensures.value _ c.in_ok-matches.ensures.http.1).0.1

pub returns-clause-file : goal.returns-clause-file
returns-clause-file c = file_is (found_of c.in_ok-matches.matches) (texts c.args.words.now) c.in_ok-matches.ensures.rows _
    (ap (λ (text : List ℕ). Some text) c.in-Ok.ensures.ok ∙ c.in-Some-get_str.ensures)

pub returns-clause-accepted : goal.returns-clause-accepted
returns-clause-accepted c = accepted (texts c.args.words.now) (sym c.if-not-begins_with_serve.ensures) c.in_ok-matches.ensures.accepted

pub returns-in_err-matches-clause-plain : goal.returns-in_err-matches-clause-plain
returns-in_err-matches-clause-plain c = λ port file plain. without_usage port file _ (search rules)
    (λ is. not_refused (texts c.args.words.now) port file plain (returns-in_err-matches-clause-usage c is))

pub returns-then-is_empty-clause-plain : goal.returns-then-is_empty-clause-plain
returns-then-is_empty-clause-plain c = λ port file plain. absurd (not_refused (texts c.args.words.now) port file plain (returns-then-is_empty-clause-usage c refl))

pub returns-clause-plain : goal.returns-clause-plain
returns-clause-plain c = λ port file plain. (
  same_port (texts c.args.words.now) port file plain _ (returns-clause-http c),
  same_file (texts c.args.words.now) port file plain _ (returns-clause-file c),
)
