-- What the words ask for, from what the parser finds in them.
use Rattle.std.proofs.Common.{◌≡◌, ◌∙◌, ◌&&◌, ℕ, Bool, true, false, List, refl, sym, ap, codes, Some}
use Rattle.clap.specs.Words.{Row, Text, first_of, first_value, matches_of, one_of, one_text, rows_of}
use Rattle.clap.specs.declared.parser.matches.Found.{Found}
use Rattle.clap.proofs.WalkLemmas.{first_value-rows, one_text-rows}
use Rattle.ps_words.specs.Serve.{accepts_words, begins_with_serve, file_in, http_in, is_faultless, number_of, serve_app}

pub other_verb : (words : List Text) → begins_with_serve words ≡ false → accepts_words words ≡ false
unfolding accepts_words
other_verb words is = rw is refl

and_false : (b : Bool) → (b && false) ≡ false
and_false true = refl
and_false false = refl

pub accepted : (words : List Text) → begins_with_serve words ≡ true → is_faultless words ≡ true → accepts_words words ≡ true
unfolding accepts_words
accepted words serve none = rw (serve, none) refl

pub not_taken : (words : List Text) → is_faultless words ≡ false → accepts_words words ≡ false
unfolding accepts_words
not_taken words is = rw is (and_false (begins_with_serve words))

module _ (f : Found) (words : List Text) (rows : rows_of f ≡ matches_of serve_app words) where
  pub file_is : (text : Text) → Some text ≡ first_value f (codes "file") → file_in words ≡ Some text
  unfolding file_in
  file_is text is = sym (is ∙ first_value-rows f (codes "file") ∙ ap (λ (r : List Row). first_of (codes "file") r) rows)

  pub http_is : (text : Text) (port : ℕ) → one_text f (codes "http") ≡ Some text → port ≡ number_of text → http_in words ≡ Some port
  unfolding http_in
  http_is text port is number =
      let found : one_of (codes "http") (matches_of serve_app words) ≡ Some text =
      sym (ap (λ (r : List Row). one_of (codes "http") r) rows) ∙ sym (one_text-rows f (codes "http")) ∙ is in
      rw found (ap (λ (n : ℕ). Some n) (sym number))
