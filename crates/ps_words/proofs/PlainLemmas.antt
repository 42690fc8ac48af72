-- Plain words of `serve` are taken, and give the port and the file that they name.
use Rattle.std.proofs.Common.{◌≡◌, ◌≢◌, ◌⊎◌, ◌==◌, ◌∙◌, ◌<◌, ◌≤◌, ◌^◌, true, false, [], ◌∷◌, codes, length, slice_index, refl, ap, subst, sym, Option, unwrap_or, Result, Ok, Err, Some, None, List, ℕ, pos, inl, inr, arith, rules}
use Rattle.std.specs.Fmt.{decimal}
use Rattle.std.specs.Prelude.{fold}
use Rattle.std.specs.Result.{IsErr}
use Rattle.std.specs.Str.{bytes_eq}
use Rattle.std.specs.Str.Parse.{IsNumeral}
use Rattle.std.proofs.lemmas.Bool.{ne_eqb}
use Rattle.std.proofs.lemmas.Fmt.{decimal_is_IsNumeral}
use Rattle.std.proofs.lemmas.Str.Parse.{digit_from_value}
use Rattle.clap.proofs.OnLiterals.{clap_on_literals}
use Rattle.clap.proofs.ValueTestLemmas.{Accepts-accepts}
use Rattle.clap.specs.Lexer.{long_of, short_of}
use Rattle.clap.specs.ValueTests.{accepts}
use Rattle.clap.specs.Faults.{defaults_fault, turn_fault, walk_fault}
use Rattle.clap.specs.Simple.{Shape, built}
use Rattle.clap.specs.Walk.{Row, Waiting, Walk, idle, nothing_held, option, walk_from, walked}
use Rattle.clap.specs.Words.{IsSignedIn, Text, without_minus}
use Rattle.clap.specs.declared.builder.value_parser.Reading.{Reading}
use Rattle.clap.specs.declared.builder.value_parser.Reading.TheVariants.{AsWritten, WithoutMinus}
use Rattle.clap.specs.declared.parser.matches.ValueSource.TheVariants.{CommandLine}
use Rattle.clap.specs.declared.builder.value_parser.ValueParser.TheVariants as vp
use Rattle.ps_words.specs.declared.serve.ServeWords.{ServeWords}
use Rattle.ps_words.specs.declared.serve.WordsError.{WordsError}
use Rattle.ps_words.specs.declared.serve.WordsError.TheVariants.{OutOfMemory, Usage}
use Rattle.ps_words.specs.Serve.{Gives, IsFileName, IsPlain, IsPort, IsTick, without_tick, tick_last, tick_first, accepts_words, file_in, http_in, is_faultless, number_of, serve_app}

-- a word that the parser takes for a value
record IsValue (word : Text) : Type 0 where
  ends_nothing : bytes_eq word (45 ∷ 45 ∷ []) ≡ false
  is_not_long : long_of word ≡ None
  is_not_short : short_of word ≡ None

value_word : (word : Text) → 0 < length word → slice_index word 0 ≢ 45 → IsValue word
value_word [] some other = absurd (omega arith)
value_word (x ∷ xs) some other =
    let no : (x == 45) ≡ false = ne_eqb x 45 other in
    record { ends_nothing = rw no refl; is_not_long = rw no refl; is_not_short = rw no refl }

hyphen : IsValue (codes "-")
hyphen = record { ends_nothing = refl; is_not_long = refl; is_not_short = refl }

file_word : (file : Text) → IsFileName file → IsValue file
file_word file (inl is) = subst IsValue (sym is) hyphen
file_word file (inr h) = value_word file h.0 h.1

-- a word that writes the number n, which lies from low to high
record IsNumber (low high n : ℕ) (word : Text) : Type 0 where
  is_value : IsValue word
  is_taken : accepts false (vp.Signed (pos low) (pos high)) word ≡ true
  has_no_minus : without_minus word ≡ word
  is_read : number_of word ≡ n

numeral_head : (word : Text) → IsNumeral 10 word → (slice_index word 0 ≢ 45) × (slice_index word 0 ≢ 43)
numeral_head [] h = absurd (omega (arith, h.0))
numeral_head (x ∷ xs) h = (λ e. omega (arith, e, digit_from_value x h.1.0), λ e. omega (arith, e, digit_from_value x h.1.0))

no_minus : (word : Text) → slice_index word 0 ≢ 45 → without_minus word ≡ word
no_minus [] other = refl
no_minus (x ∷ xs) other = let no : (x == 45) ≡ false = ne_eqb x 45 other in rw no refl

decimal_number : (low high n : ℕ) → low ≤ n → n ≤ high → high < 2 ^ 32 → IsNumber low high n (decimal n)
decimal_number low high n least most small =
    let numeral = decimal_is_IsNumeral n (omega arith) in
    let head = numeral_head (decimal n) numeral.0 in
    let minus : (slice_index (decimal n) 0 == 45) ≡ false = ne_eqb _ _ head.0 in
    let plus : (slice_index (decimal n) 0 == 43) ≡ false = ne_eqb _ _ head.1 in
    let inside : IsSignedIn (pos low) (pos high) (decimal n) = rw (minus, plus, numeral.1) (numeral.0, search rules, search rules, search rules) in
    record {
      is_value = value_word (decimal n) numeral.0.0 head.0;
      is_taken = Accepts-accepts false (vp.Signed (pos low) (pos high)) (decimal n) inside;
      has_no_minus = no_minus (decimal n) head.0;
      is_read = rw plus numeral.1;
    }

-- ---- the walk over plain words

-- what the parser reads of the command
abbrev top : Shape
unfolding serve_app
top = (built serve_app).top

-- one more word has no fault, and the walk goes on at `next`
record Turns (w : Walk) (word : Text) (after : Walk) : Type 0 where
  is_fine : turn_fault top [] w word ≡ []
  goes_on : walked top.rules [] w word ≡ after

-- so do all these words
record Walks (w : Walk) (words : List Text) (end : Walk) : Type 0 where
  is_fine : walk_fault top [] w words ≡ []
  goes_on : fold (walked top.rules []) w words ≡ end

ends : (w : Walk) → Walks w [] w
unfolding walk_fault
ends w = record { is_fine = refl; goes_on = refl }

turn : {w after end : Walk} {word : Text} {words : List Text} → Turns w word after → Walks after words end → Walks w (word ∷ words) end
unfolding walk_fault
turn one rest = record {
  is_fine = rw (one.is_fine, one.goes_on) rest.is_fine;
  goes_on = rw one.goes_on rest.goes_on;
}

-- the walk with these values of the argument that is being read
abbrev at : ℕ → Waiting → List Row → Text → List Text → Walk
at position waiting rows id values = record {
  held = record { rows = rows; pending = Some (id, values); skip = 0 };
  waiting = waiting;
  position = position;
  is_trailing = false;
  stopped = None;
}

abbrev row_of : Text → Reading → Text → Row
row_of id how text = record { id = id; values = text ∷ []; count = None; source = Some CommandLine; reading = how }

abbrev http_row : Text → Row
http_row text = row_of (codes "http") WithoutMinus text

abbrev tick_row : Text → Row
tick_row text = row_of (codes "tick") WithoutMinus text

abbrev TakenBy : ℕ → ℕ → Text → Type 0
TakenBy low high text = accepts false (vp.Signed (pos low) (pos high)) text ≡ true

http_first : Turns (walk_from nothing_held) (codes "--http") (at 1 (option (codes "http")) [] (codes "http") [])
unfolding serve_app clap_on_literals
http_first = record { is_fine = refl; goes_on = refl }

tick_before : Turns (walk_from nothing_held) (codes "--tick") (at 1 (option (codes "tick")) [] (codes "tick") [])
unfolding serve_app clap_on_literals
tick_before = record { is_fine = refl; goes_on = refl }

http_value : (rows : List Row) (p : Text) → IsValue p → Turns (at 1 (option (codes "http")) rows (codes "http") []) p (at 1 idle rows (codes "http") (p ∷ []))
unfolding serve_app clap_on_literals
http_value rows p is = record { is_fine = simp (is.ends_nothing, is.is_not_long, is.is_not_short); goes_on = simp (is.ends_nothing, is.is_not_long, is.is_not_short) }

tick_value : (rows : List Row) (t : Text) → IsValue t → Turns (at 1 (option (codes "tick")) rows (codes "tick") []) t (at 1 idle rows (codes "tick") (t ∷ []))
unfolding serve_app clap_on_literals
tick_value rows t is = record { is_fine = simp (is.ends_nothing, is.is_not_long, is.is_not_short); goes_on = simp (is.ends_nothing, is.is_not_long, is.is_not_short) }

http_after_tick : (t : Text) → TakenBy 10 60000 t → Turns (at 1 idle [] (codes "tick") (t ∷ [])) (codes "--http") (at 1 (option (codes "http")) (tick_row t ∷ []) (codes "http") [])
unfolding serve_app clap_on_literals
http_after_tick t taken = record { is_fine = simp taken; goes_on = refl }

tick_after_http : (p : Text) → TakenBy 1 65535 p → Turns (at 1 idle [] (codes "http") (p ∷ [])) (codes "--tick") (at 1 (option (codes "tick")) (http_row p ∷ []) (codes "tick") [])
unfolding serve_app clap_on_literals
tick_after_http p taken = record { is_fine = simp taken; goes_on = refl }

module _ (file : Text) (named : IsValue file) where
  file_after_http : (p : Text) → TakenBy 1 65535 p → Turns (at 1 idle [] (codes "http") (p ∷ [])) file (at 2 idle (http_row p ∷ []) (codes "file") (file ∷ []))
  unfolding serve_app clap_on_literals
  file_after_http p taken = record {
    is_fine = simp (named.ends_nothing, named.is_not_long, named.is_not_short, taken);
    goes_on = simp (named.ends_nothing, named.is_not_long, named.is_not_short);
  }

  file_after_both : (p t : Text) → TakenBy 1 65535 p → Turns (at 1 idle (tick_row t ∷ []) (codes "http") (p ∷ [])) file (at 2 idle (tick_row t ∷ http_row p ∷ []) (codes "file") (file ∷ []))
  unfolding serve_app clap_on_literals
  file_after_both p t taken = record {
    is_fine = simp (named.ends_nothing, named.is_not_long, named.is_not_short, taken);
    goes_on = simp (named.ends_nothing, named.is_not_long, named.is_not_short);
  }

  file_after_tick : (p t : Text) → TakenBy 10 60000 t → Turns (at 1 idle (http_row p ∷ []) (codes "tick") (t ∷ [])) file (at 2 idle (http_row p ∷ tick_row t ∷ []) (codes "file") (file ∷ []))
  unfolding serve_app clap_on_literals
  file_after_tick p t taken = record {
    is_fine = simp (named.ends_nothing, named.is_not_long, named.is_not_short, taken);
    goes_on = simp (named.ends_nothing, named.is_not_long, named.is_not_short);
  }

abbrev file_row : Text → Row
file_row text = row_of (codes "file") AsWritten text

-- the parser takes the words, and finds this port and this file
record IsTakenAs (words : List Text) (port : ℕ) (file : Text) : Type 0 where
  is_accepted : accepts_words words ≡ true
  has_port : http_in words ≡ Some port
  has_file : file_in words ≡ Some file

-- the words after `serve` by the rows that are found before the file
module _ (words : List Text) (port : ℕ) (p file : Text) (http : IsNumber 1 65535 port p) where
  ends_http : Walks (walk_from nothing_held) words (at 2 idle (http_row p ∷ []) (codes "file") (file ∷ [])) → IsTakenAs (codes "serve" ∷ words) port file
  unfolding accepts_words http_in file_in is_faultless serve_app defaults_fault
  ends_http w = record {
    is_accepted = rw (w.is_fine, w.goes_on) refl;
    has_port = rw (w.goes_on, http.has_no_minus, http.is_read) refl;
    has_file = rw w.goes_on refl;
  }

  ends_tick_last : (t : Text) → Walks (walk_from nothing_held) words (at 2 idle (http_row p ∷ tick_row t ∷ []) (codes "file") (file ∷ [])) → IsTakenAs (codes "serve" ∷ words) port file
  unfolding accepts_words http_in file_in is_faultless serve_app defaults_fault
  ends_tick_last t w = record {
    is_accepted = rw (w.is_fine, w.goes_on) refl;
    has_port = rw (w.goes_on, http.has_no_minus, http.is_read) refl;
    has_file = rw w.goes_on refl;
  }

  ends_tick_first : (t : Text) → Walks (walk_from nothing_held) words (at 2 idle (tick_row t ∷ http_row p ∷ []) (codes "file") (file ∷ [])) → IsTakenAs (codes "serve" ∷ words) port file
  unfolding accepts_words http_in file_in is_faultless serve_app defaults_fault
  ends_tick_first t w = record {
    is_accepted = rw (w.is_fine, w.goes_on) refl;
    has_port = rw (w.goes_on, http.has_no_minus, http.is_read) refl;
    has_file = rw w.goes_on refl;
  }

-- the digits of a port, and those of a tick
port_number : (port : ℕ) → IsPort port → IsNumber 1 65535 port (decimal port)
port_number port h = decimal_number 1 65535 port h.0 h.1 (omega arith)

tick_number : (tick : ℕ) → IsTick tick → IsNumber 10 60000 tick (decimal tick)
tick_number tick h = decimal_number 10 60000 tick h.0 h.1 (omega arith)

module _ (port : ℕ) (p file : Text) (http : IsNumber 1 65535 port p) (named : IsValue file) where
  takes_http : IsTakenAs (codes "serve" ∷ codes "--http" ∷ p ∷ file ∷ []) port file
  takes_http = ends_http _ port p file http
      (turn http_first (turn (http_value [] p http.is_value) (turn (file_after_http file named p http.is_taken) (ends _))))

  takes_tick_last : (tick : ℕ) (t : Text) → IsNumber 10 60000 tick t → IsTakenAs (codes "serve" ∷ codes "--http" ∷ p ∷ codes "--tick" ∷ t ∷ file ∷ []) port file
  takes_tick_last tick t ticks = ends_tick_last _ port p file http t
      (turn http_first (turn (http_value [] p http.is_value) (turn (tick_after_http p http.is_taken)
      (turn (tick_value (http_row p ∷ []) t ticks.is_value) (turn (file_after_tick file named p t ticks.is_taken) (ends _))))))

  takes_tick_first : (tick : ℕ) (t : Text) → IsNumber 10 60000 tick t → IsTakenAs (codes "serve" ∷ codes "--tick" ∷ t ∷ codes "--http" ∷ p ∷ file ∷ []) port file
  takes_tick_first tick t ticks = ends_tick_first _ port p file http t
      (turn tick_before (turn (tick_value [] t ticks.is_value) (turn (http_after_tick t ticks.is_taken)
      (turn (http_value (tick_row t ∷ []) p http.is_value) (turn (file_after_both file named p t http.is_taken) (ends _))))))

taken_as : (words : List Text) (port : ℕ) (file : Text) → IsPlain words port file → IsTakenAs words port file
taken_as _ _ _ (without_tick port file http named) = takes_http port (decimal port) file (port_number port http) (file_word file named)
taken_as _ _ _ (tick_last port tick file http ticks named) =
    takes_tick_last port (decimal port) file (port_number port http) (file_word file named) tick (decimal tick) (tick_number tick ticks)
taken_as _ _ _ (tick_first port tick file http ticks named) =
    takes_tick_first port (decimal port) file (port_number port http) (file_word file named) tick (decimal tick) (tick_number tick ticks)

named_file : (words : List Text) (port : ℕ) (file : Text) → IsPlain words port file → IsFileName file
named_file _ _ _ (without_tick port file http named) = named
named_file _ _ _ (tick_last port tick file http ticks named) = named
named_file _ _ _ (tick_first port tick file http ticks named) = named

not_empty : (file : Text) → IsFileName file → file ≢ []
not_empty file (inl is) none = let one : 1 ≡ 0 = ap length (sym is ∙ none) in omega (arith, one)
not_empty file (inr h) none = let zero : length file ≡ 0 = ap length none in omega (arith, zero, h.0)

module _ (words : List Text) (port : ℕ) (file : Text) (plain : IsPlain words port file) where
  -- no reason to refuse them holds
  pub not_refused : (accepts_words words ≡ false) ⊎ (file_in words ≡ Some []) → ⊥
  not_refused (inl other) = let both : true ≡ false = sym (taken_as words port file plain).is_accepted ∙ other in cc
  not_refused (inr none) =
      not_empty file (named_file words port file plain) (ap (λ (found : Option Text). unwrap_or found []) (sym (taken_as words port file plain).has_file ∙ none))

  pub same_port : (found : ℕ) → http_in words ≡ Some found → found ≡ port
  same_port found is = ap (λ (n : Option ℕ). unwrap_or n 0) (sym is ∙ (taken_as words port file plain).has_port)

  pub same_file : (found : Text) → file_in words ≡ Some found → found ≡ file
  same_file found is = ap (λ (text : Option Text). unwrap_or text []) (sym is ∙ (taken_as words port file plain).has_file)

-- an error that isn't `Usage` is want of memory
pub without_usage : (port : ℕ) (file : Text) (result : Result ServeWords WordsError) → IsErr result → (result ≡ Err Usage → ⊥) → Gives port file result
without_usage port file (Ok it) err other = let bad : false ≡ true = err in cc
without_usage port file (Err Usage) err other = absurd (other refl)
without_usage port file (Err OutOfMemory) err other = refl
