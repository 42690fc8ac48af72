-- Words of `serve`, worked out.
use Rattle.std.proofs.Common.{◌≡◌, ◌∷◌, true, false, [], codes, refl, Some, inl, inr, arith, rules}
use Rattle.std.specs.Fmt.{digits}
use Rattle.clap.proofs.OnLiterals.{clap_on_literals}
use Rattle.ps_words.specs.Serve.{IsPlain, accepts_words, file_in, http_in, is_faultless, serve_app, tick_first, tick_last, without_tick}

-- words that are taken
pub takes_port : accepts_words (codes "serve" ∷ codes "--http" ∷ codes "8085" ∷ codes "f" ∷ []) ≡ true
unfolding accepts_words is_faultless serve_app clap_on_literals
takes_port = refl

pub takes_tick_first : accepts_words (codes "serve" ∷ codes "--tick" ∷ codes "60000" ∷ codes "f" ∷ codes "--http" ∷ codes "8080" ∷ []) ≡ true
unfolding accepts_words is_faultless serve_app clap_on_literals
takes_tick_first = refl

-- a port out of range
pub refuses_port_zero : accepts_words (codes "serve" ∷ codes "--http" ∷ codes "0" ∷ codes "f" ∷ []) ≡ false
unfolding accepts_words is_faultless serve_app clap_on_literals
refuses_port_zero = refl

pub refuses_high_port : accepts_words (codes "serve" ∷ codes "--http" ∷ codes "70000" ∷ codes "f" ∷ []) ≡ false
unfolding accepts_words is_faultless serve_app clap_on_literals
refuses_high_port = refl

-- a word that is missing
pub refuses_no_file : accepts_words (codes "serve" ∷ codes "--http" ∷ codes "8085" ∷ []) ≡ false
unfolding accepts_words is_faultless serve_app clap_on_literals
refuses_no_file = refl

pub refuses_no_port : accepts_words (codes "serve" ∷ codes "f" ∷ []) ≡ false
unfolding accepts_words is_faultless serve_app clap_on_literals
refuses_no_port = refl

-- a word too many, or an unknown one
pub refuses_second_file : accepts_words (codes "serve" ∷ codes "--http" ∷ codes "8085" ∷ codes "f" ∷ codes "g" ∷ []) ≡ false
unfolding accepts_words is_faultless serve_app clap_on_literals
refuses_second_file = refl

pub refuses_unknown : accepts_words (codes "serve" ∷ codes "--http" ∷ codes "8085" ∷ codes "--grpc" ∷ codes "f" ∷ []) ≡ false
unfolding accepts_words is_faultless serve_app clap_on_literals
refuses_unknown = refl

pub refuses_help : accepts_words (codes "serve" ∷ codes "--http" ∷ codes "8085" ∷ codes "--help" ∷ codes "f" ∷ []) ≡ false
unfolding accepts_words is_faultless serve_app clap_on_literals
refuses_help = refl

-- a tick out of range
pub refuses_short_tick : accepts_words (codes "serve" ∷ codes "--http" ∷ codes "8085" ∷ codes "--tick" ∷ codes "9" ∷ codes "f" ∷ []) ≡ false
unfolding accepts_words is_faultless serve_app clap_on_literals
refuses_short_tick = refl

-- another verb
pub refuses_verb : accepts_words (codes "batch" ∷ codes "--http" ∷ codes "8085" ∷ codes "f" ∷ []) ≡ false
unfolding accepts_words is_faultless serve_app clap_on_literals
refuses_verb = refl

-- what words give
pub gives_port : http_in (codes "serve" ∷ codes "--http" ∷ codes "8085" ∷ codes "f" ∷ []) ≡ Some 8085
unfolding http_in serve_app clap_on_literals
gives_port = refl

pub gives_file : file_in (codes "serve" ∷ codes "--tick" ∷ codes "1000" ∷ codes "f" ∷ codes "--http=8085" ∷ []) ≡ Some (codes "f")
unfolding file_in serve_app clap_on_literals
gives_file = refl

-- the parser takes a file without a name
pub takes_empty_file : accepts_words (codes "serve" ∷ codes "--http" ∷ codes "8085" ∷ [] ∷ []) ≡ true
unfolding accepts_words is_faultless serve_app clap_on_literals
takes_empty_file = refl

pub gives_empty_file : file_in (codes "serve" ∷ codes "--http" ∷ codes "8085" ∷ [] ∷ []) ≡ Some []
unfolding file_in serve_app clap_on_literals
gives_empty_file = refl

-- plain words
pub is_plain : IsPlain (codes "serve" ∷ codes "--http" ∷ codes "8085" ∷ codes "f" ∷ []) 8085 (codes "f")
unfolding digits
is_plain = without_tick 8085 (codes "f") (search rules) (inr (omega arith, λ e. omega (arith, e)))

pub is_plain_with_tick : IsPlain (codes "serve" ∷ codes "--http" ∷ codes "1" ∷ codes "--tick" ∷ codes "60000" ∷ codes "-" ∷ []) 1 (codes "-")
unfolding digits
is_plain_with_tick = tick_last 1 60000 (codes "-") (search rules) (search rules) (inl refl)

pub is_plain_with_tick_first : IsPlain (codes "serve" ∷ codes "--tick" ∷ codes "10" ∷ codes "--http" ∷ codes "65535" ∷ codes "a-b" ∷ []) 65535 (codes "a-b")
unfolding digits
is_plain_with_tick_first = tick_first 65535 10 (codes "a-b") (search rules) (search rules) (inr (omega arith, λ e. omega (arith, e)))
