-- Small texts, by the grammar and by the reader.
use Rattle.std.proofs.Common.{◌≡◌, inl, [], ◌∷◌, refl, codes, Some}
use Rattle.ps_base.specs.declared.reason.Reason.TheVariants.{FilterMixed, FilterSyntax}
use Rattle.ps_filter.specs.declared.token.Token.TheVariants.{Word, Symbol, End}
use Rattle.ps_filter.specs.declared.grammar.Level.TheVariants.{Ands}
use Rattle.ps_filter.specs.Tokens.{place, tokens}
use Rattle.ps_filter.specs.Filters.{Has, Both, Negated, filter_fault}
use Rattle.ps_filter.specs.Grammar.{is_there, simple, negated, alone, by_and, IsFilter}

joined_by_and : IsFilter (tokens (codes "attributes:a AND NOT attributes:b")) (Both (Has (codes "a")) (Negated (Has (codes "b"))))
joined_by_and = (
  place 0 (Word (codes "attributes")) ∷ place 10 (Symbol 58) ∷ place 11 (Word (codes "a")) ∷ place 13 (Word (codes "AND"))
      ∷ place 17 (Word (codes "NOT")) ∷ place 21 (Word (codes "attributes")) ∷ place 31 (Symbol 58) ∷ place 32 (Word (codes "b")) ∷ [],
  place 33 End,
  refl,
  refl,
  (
    Ands,
    by_and (place 13 (Word (codes "AND")))
        (alone (simple (is_there (place 0 (Word (codes "attributes"))) (place 10 (Symbol 58)) (place 11 (Word (codes "a"))) refl refl (inl refl)))) refl refl
        (negated (place 17 (Word (codes "NOT"))) (inl refl)
        (simple (is_there (place 21 (Word (codes "attributes"))) (place 31 (Symbol 58)) (place 32 (Word (codes "b"))) refl refl (inl refl)))),
  ),
)

both_words : filter_fault (codes "attributes:a AND attributes:b OR attributes:c") ≡ Some (FilterMixed 30)
both_words = refl

no_key : filter_fault (codes "attributes:") ≡ Some (FilterSyntax 11)
no_key = refl
