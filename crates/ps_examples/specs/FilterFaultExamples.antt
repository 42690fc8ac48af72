-- Worked examples: what keeps a text from being a filter, and where it does: a token that can't follow.
use Rattle.std.specs.Prelude.{ℕ, ◌≡◌, Option, Some, None, codes}
use Rattle.ps_base.specs.declared.reason.Reason.{Reason}
use Rattle.ps_base.specs.declared.reason.Reason.TheVariants.{FilterMixed, FilterSyntax}
use Rattle.ps_filter.specs.Filters.{filter_fault}

-- the byte at which `AND` and `OR` are mixed
abbrev pub mixed_at : ℕ → Option Reason
mixed_at place = Some (FilterMixed place)

-- the byte at which the text stops being the front of a filter
abbrev pub wrong_at : ℕ → Option Reason
wrong_at place = Some (FilterSyntax place)

pub record FilterFaultExamples : Type 0 where
  -- a level that has `AND` has no `OR`, and the other way round
  pub or_behind_and : filter_fault (codes "attributes:a AND attributes:b OR attributes:c") ≡ mixed_at 30
  pub and_behind_or : filter_fault (codes "attributes:a OR attributes:b AND attributes:c") ≡ mixed_at 29
  pub mixed_behind_a_negation : filter_fault (codes "NOT attributes:a AND attributes:b OR attributes:c") ≡ mixed_at 34
  pub mixed_in_parentheses : filter_fault (codes "(attributes:a AND attributes:b OR attributes:c)") ≡ mixed_at 31
  pub mixed_behind_parentheses : filter_fault (codes "(attributes:a OR attributes:b) AND attributes:c OR attributes:d") ≡ mixed_at 48
  -- another level may have the other word
  pub each_level_its_own : filter_fault (codes "(attributes:a OR attributes:b) AND attributes:c") ≡ None
  pub the_outer_level_goes_on : filter_fault (codes "attributes:a AND (attributes:b OR attributes:c) AND attributes:d") ≡ None
  -- the first problem from the left is the one that is told
  pub mixed_before_the_end : filter_fault (codes "attributes:a AND attributes:b OR") ≡ mixed_at 30
  pub mixed_before_an_open_string : filter_fault (codes "attributes:a AND attributes:b OR attributes.c = \"x") ≡ mixed_at 30
  pub wrong_before_mixed : filter_fault (codes "attributes:a AND = OR attributes:b") ≡ wrong_at 17
  pub other_word_right_behind : filter_fault (codes "attributes:a AND OR attributes:b") ≡ wrong_at 17
  -- what can't begin a term
  pub joining_word_first : filter_fault (codes "AND attributes:a") ≡ wrong_at 0
  pub other_word_first : filter_fault (codes "a = \"x\"") ≡ wrong_at 0
  pub other_spelling : filter_fault (codes "Attributes:a") ≡ wrong_at 0
  pub small_letters : filter_fault (codes "attributes:a and attributes:b") ≡ wrong_at 13
  pub hyphen_makes_one_word : filter_fault (codes "NOT-attributes:a") ≡ wrong_at 0
  pub nothing_in_parentheses : filter_fault (codes "()") ≡ wrong_at 1
  -- what can't stand behind a term
  pub two_terms : filter_fault (codes "attributes:a attributes:b") ≡ wrong_at 13
  pub parenthesis_too_many : filter_fault (codes "attributes:a)") ≡ wrong_at 12
  pub compared_twice : filter_fault (codes "attributes.a = \"x\" = \"y\"") ≡ wrong_at 19
