-- What the parser finds if it takes the words.
use Rattle.std.proofs.Common.{◌≡◌, ◌∙◌, ◌<◌, ℕ, zero, suc, true, false, List, [], ◌∷◌, length, map, refl, sym, ap, subst, arith, codes, slice_index, Some, is_some, pos, inl, inr}
use Rattle.std.specs.List.{list_all, slice_index_or}
use Rattle.std.specs.Str.{bytes_eq}
use Rattle.std.proofs.lemmas.List.{length-map}
use Rattle.std.proofs.Math.ListN.{get_or-map}
use Rattle.clap.specs.Words.{App, HasMatchesOf, IsParsedFrom, IsPlain, Rule, Shape, Text, app_of, args_of, first_value, found_of, is_simple, matches_of, one_text, rows_of, rule_of, shape_of, without_minus}
use Rattle.clap.specs.Facts.{least_values, unwrap_or_range}
use Rattle.clap.specs.Simple.{IsSimple}
use Rattle.clap.proofs.CallerLemmas.{required_has_value}
use Rattle.clap.proofs.CallerReads.{required_reads}
use Rattle.clap.proofs.OnLiterals.{clap_on_literals}
use Rattle.clap.proofs.FaultLemmas.{free_args}
use Rattle.clap.proofs.SimpleLemmas.{ready_simple, simple_groups}
use Rattle.clap.specs.Simple.{is_ready, is_ready_leaf}
use Rattle.clap.specs.declared.builder.arg.Arg.{Arg}
use Rattle.clap.specs.declared.builder.command.Command.{Command}
use Rattle.clap.specs.declared.builder.command.Command.TheViews.{out-Command}
use Rattle.clap.specs.declared.builder.value_parser.ValueParser.TheVariants as vp
use Rattle.clap.specs.declared.parser.matches.ArgMatches.{ArgMatches}
use Rattle.ps_words.specs.Serve.{HasPort, file_rule, http_rule, serve_app, tick_rule}

-- the rules of the command, in order
abbrev rules : List Rule
rules = http_rule ∷ tick_rule ∷ file_rule ∷ []

-- no two of them have one id
distinct : (j k : ℕ) (r s : Rule) → j < 3 → k < 3 → bytes_eq (slice_index_or rules j r).id (slice_index_or rules k s).id ≡ true → j ≡ k
distinct zero zero r s low below e = refl
distinct zero (suc zero) r s low below e = cc
distinct zero (suc (suc zero)) r s low below e = cc
distinct zero (suc (suc (suc k))) r s low below e = absurd (omega arith)
distinct (suc zero) zero r s low below e = cc
distinct (suc zero) (suc zero) r s low below e = refl
distinct (suc zero) (suc (suc zero)) r s low below e = cc
distinct (suc zero) (suc (suc (suc k))) r s low below e = absurd (omega arith)
distinct (suc (suc zero)) zero r s low below e = cc
distinct (suc (suc zero)) (suc zero) r s low below e = cc
distinct (suc (suc zero)) (suc (suc zero)) r s low below e = refl
distinct (suc (suc zero)) (suc (suc (suc k))) r s low below e = absurd (omega arith)
distinct (suc (suc (suc j))) k r s low below e = absurd (omega arith)

serve_is_simple : is_simple serve_app ≡ true
unfolding serve_app clap_on_literals
serve_is_simple = refl

module _ (c : Command) (is : app_of c ≡ serve_app) where
  rules_are : map rule_of (args_of c) ≡ rules
  unfolding serve_app
  rules_are = ap (λ (a : App). a.top.rules) is

  three : length (args_of c) ≡ 3
  three = sym (length-map (args_of c) rule_of) ∙ ap length rules_are

  not_none : args_of c ≡ [] → ⊥
  not_none e =
      let none : length (args_of c) ≡ 0 = ap length e in
      let all = three in
      omega (arith, none, all)

  rule_at : (k : ℕ) (d : Arg) → rule_of (slice_index_or (args_of c) k d) ≡ slice_index_or rules k (rule_of d)
  rule_at k d = sym (get_or-map rule_of (args_of c) k d) ∙ ap (λ l. slice_index_or l k (rule_of d)) rules_are

  top_is : shape_of c ≡ serve_app.top
  top_is = ap (λ (a : App). a.top) is

  simple : IsSimple c
  unfolding serve_app
  simple = ready_simple c (ap is_ready top_is) (ap (λ (a : App). list_all is_ready_leaf a.subs) is)

  plain : IsPlain c
  unfolding serve_app
  plain = (
    (λ k d lt.
        let free = free_args c simple (ap (λ (s : Shape). list_all (λ (r : Rule). r.is_free) s.rules) top_is) k d lt in
        let groups = simple_groups c (ap (λ (s : Shape). list_all (λ (r : Rule). r.is_simple) s.rules) top_is) k d lt in
        (free.exclusive, free.conflicts, free.overrides, groups)),
    simple.groups,
  )

  negates : (out-Command c).subcommand_negates_reqs ≡ false
  unfolding serve_app
  negates = ap (λ (a : App). a.top.subcommand_negates_reqs) is

  only : (k : ℕ) (d : Arg) → k < length (args_of c) → (j : ℕ) (e : Arg) → j < length (args_of c)
      → bytes_eq (slice_index_or (args_of c) j e).id.now (slice_index_or (args_of c) k d).id.now ≡ true → j ≡ k
  only k d below j e low same =
      let j_id : (slice_index_or (args_of c) j e).id.now ≡ (slice_index_or rules j (rule_of e)).id = ap (λ (r : Rule). r.id) (rule_at j e) in
      let k_id : (slice_index_or (args_of c) k d).id.now ≡ (slice_index_or rules k (rule_of d)).id = ap (λ (r : Rule). r.id) (rule_at k d) in
      distinct j k (rule_of e) (rule_of d) (rw three at low) (rw three at below) (rw (j_id, k_id) at same)

  -- a port is found, in its range
  pub has_http : (m : ArgMatches) → IsParsedFrom c m
      → HasPort m
  has_http m parsed = go (args_of c) refl
    where
      at : (d : Arg) → HasPort m
      at d =
          let a = slice_index_or (args_of c) 0 d in
          let is_http : rule_of a ≡ http_rule = rule_at 0 d in
          let id : a.id.now ≡ codes "http" = ap (λ (r : Rule). r.id) is_http in
          let below : 0 < length (args_of c) = rw three (omega arith) in
          let least : least_values a ≡ 1 = ap (λ (r : Rule). (unwrap_or_range r.range).start_inclusive) is_http in
          let case : a.ignore_case ≡ false = ap (λ (r : Rule). r.ignore_case) is_http in
          let read = required_reads c m parsed plain simple.globals negates 0 d below
          (ap (λ (r : Rule). r.required) is_http) (ap (λ (r : Rule). r.action) is_http) (simple.args 0 d below).delimiter
          (rw least (omega arith)) (only 0 d below)
          (λ none. let bad : 4 ≡ 0 = ap length (sym id ∙ none) in absurd (omega arith))
          (λ auto. elim auto [
            | inl h ↦ let bad : 116 ≡ 101 = ap (λ t. slice_index t 1) (sym id ∙ h) in absurd (omega arith)
            | inr h ↦ let bad : 104 ≡ 118 = ap (λ t. slice_index t 0) (sym id ∙ h) in absurd (omega arith)
          ])
          (vp.Signed (pos 1) (pos 65535)) (ap (λ (r : Rule). r.parser) is_http) in
          (read.0, subst (λ (w : Text). one_text (found_of m) w ≡ Some (without_minus read.0)) id read.1, read.2)

      go : (xs : List Arg) → args_of c ≡ xs → HasPort m
      go [] e = absurd (not_none e)
      go (x ∷ xs) e = at x

  -- and a file
  pub has_file : (m : ArgMatches) → IsParsedFrom c m → is_some (first_value (found_of m) (codes "file")) ≡ true
  has_file m parsed = go (args_of c) refl
    where
      at : (d : Arg) → is_some (first_value (found_of m) (codes "file")) ≡ true
      at d =
          let a = slice_index_or (args_of c) 2 d in
          let is_file : rule_of a ≡ file_rule = rule_at 2 d in
          let id : a.id.now ≡ codes "file" = ap (λ (r : Rule). r.id) is_file in
          let below : 2 < length (args_of c) = rw three (omega arith) in
          let least : least_values a ≡ 1 = ap (λ (r : Rule). (unwrap_or_range r.range).start_inclusive) is_file in
          let has = required_has_value c m parsed plain simple.globals negates 2 d below
          (ap (λ (r : Rule). r.required) is_file) (ap (λ (r : Rule). r.action) is_file) (simple.args 2 d below).delimiter
          (rw least (omega arith)) (only 2 d below)
          (λ none. let bad : 4 ≡ 0 = ap length (sym id ∙ none) in absurd (omega arith))
          (λ auto. elim auto [
            | inl h ↦ let bad : 102 ≡ 104 = ap (λ t. slice_index t 0) (sym id ∙ h) in absurd (omega arith)
            | inr h ↦ let bad : 102 ≡ 118 = ap (λ t. slice_index t 0) (sym id ∙ h) in absurd (omega arith)
          ]) in
          subst (λ (w : Text). is_some (first_value (found_of m) w) ≡ true) id has

      go : (xs : List Arg) → args_of c ≡ xs → is_some (first_value (found_of m) (codes "file")) ≡ true
      go [] e = absurd (not_none e)
      go (x ∷ xs) e = at x

  -- and the rows are those of the words
  pub has_rows : (m : ArgMatches) (words : List Text) → HasMatchesOf (app_of c) words m → rows_of (found_of m) ≡ matches_of serve_app words
  has_rows m words has = (subst (λ (a : App). HasMatchesOf a words m) is has serve_is_simple).0
