-- Tests of sameness, taken apart.
use Rattle.std.proofs.Common.{◌≡◌, ℕ, suc, Bool, true, false, ◌&&◌, nat_eq, List, [], ◌∷◌, length, refl, sym, ap, ◌∙◌, arith}
use Rattle.std.specs.List.{list_all, zip}
use Rattle.std.specs.Str.{bytes_eq}
use Rattle.std.proofs.Math.Bool.{and-true}
use Rattle.std.proofs.lemmas.Bool.{and_right}
use Rattle.ps_config.specs.declared.config.SubConfig.{SubConfig}
use Rattle.ps_model.specs.Same.{same_bool, same_labels, same_option, same_pair, same_policy, same_retry, same_sub_config}
use Rattle.ps_tables.specs.Sameness.{same_numbers}

-- two lists of one length whose pairs are the same
pub labels_together : (xs ys : List (List ℕ × List ℕ)) → same_labels xs ys ≡ (nat_eq (length xs) (length ys) && list_all (λ p. same_pair bytes_eq bytes_eq p.0 p.1) (zip xs ys))
labels_together [] [] = refl
labels_together [] (y ∷ ys) = ap (λ (b : Bool). b && true) (sym (one-empty (length ys)))
  where
    one-empty : (n : ℕ) → nat_eq 0 (suc n) ≡ false
    one-empty n = grind arith
labels_together (x ∷ xs) [] = ap (λ (b : Bool). b && true) (sym (other-empty (length xs)))
  where
    other-empty : (n : ℕ) → nat_eq (suc n) 0 ≡ false
    other-empty n = grind arith
labels_together (x ∷ xs) (y ∷ ys) =
    by (same_pair bytes_eq bytes_eq x y) (labels_together xs ys)
    ∙ ap (λ (b : Bool). b && (same_pair bytes_eq bytes_eq x y && list_all (λ p. same_pair bytes_eq bytes_eq p.0 p.1) (zip xs ys))) (sym (one-more (length xs) (length ys)))
  where
    one-more : (n k : ℕ) → nat_eq (suc n) (suc k) ≡ nat_eq n k
    one-more n k = grind arith

    by : (b : Bool) → same_labels xs ys ≡ (nat_eq (length xs) (length ys) && list_all (λ p. same_pair bytes_eq bytes_eq p.0 p.1) (zip xs ys))
        → (b && same_labels xs ys) ≡ (nat_eq (length xs) (length ys) && (b && list_all (λ p. same_pair bytes_eq bytes_eq p.0 p.1) (zip xs ys)))
    by true rest = rest
    by false rest = sym (and_right (nat_eq (length xs) (length ys)) false refl)

in_turn : (a b c d e f g h i j : Bool)
    → (a && (b && (c && (d && (e && (f && (g && (h && (i && j))))))))) ≡ ((a && (b && (c && (e && (f && (i && j)))))) && (d && (g && h)))
in_turn false b c d e f g h i j = refl
in_turn true false c d e f g h i j = refl
in_turn true true false d e f g h i j = refl
in_turn true true true false e f g h i j = sym (and_right (e && (f && (i && j))) false refl)
in_turn true true true true false f g h i j = refl
in_turn true true true true true false g h i j = refl
in_turn true true true true true true false h i j = sym (and_right (i && j) false refl)
in_turn true true true true true true true false i j = sym (and_right (i && j) false refl)
in_turn true true true true true true true true i j = sym (and-true (i && j))

-- numbers and flags, labels, the filter and the policy
pub sub_config_together : (a b : SubConfig)
    → same_sub_config a b ≡ (same_numbers a b && (same_labels a.labels b.labels && (bytes_eq a.filter b.filter && same_option same_policy a.dead_letter b.dead_letter)))
sub_config_together a b =
    in_turn (nat_eq a.ack_seconds b.ack_seconds) (same_bool a.retain_acked b.retain_acked) (nat_eq a.retention b.retention) (same_labels a.labels b.labels) (same_bool a.ordering b.ordering)
    (same_option nat_eq a.expiration b.expiration) (bytes_eq a.filter b.filter) (same_option same_policy a.dead_letter b.dead_letter) (same_option same_retry a.retry b.retry) (same_bool a.exactly_once b.exactly_once)
