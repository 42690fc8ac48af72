-- The words of `serve`: what the parser takes, and what they ask for.
use Rattle.std.specs.Prelude.{◌≡◌, ◌≢◌, ◌⊎◌, ◌<◌, ◌≤◌, ◌&&◌, codes, length, slice_index, Some, pos, true, Bool, ℕ, List, [], ◌∷◌, false, map, string_bytes, String, Option, option_map, Result, MatchResult}
use Rattle.std.specs.Fmt.{decimal}
use Rattle.std.specs.Str.{bytes_eq}
use Rattle.std.specs.Str.Parse.{digits_value, without_leading_plus}
use Rattle.std.specs.declared.alloc.Global.{Global}
use Rattle.clap.specs.Words.{App, IsSignedIn, Rule, Text, fault_of, first_of, found_of, matches_of, new_app, new_rule, one_of, one_text, with_rule, without_minus}
use Rattle.clap.specs.Walk.{is_empty}
use Rattle.clap.specs.declared.builder.action.ArgAction.TheVariants.{Set}
use Rattle.clap.specs.declared.parser.matches.ArgMatches.{ArgMatches}
use Rattle.clap.specs.declared.builder.value_parser.ValueParser.TheVariants as vp
use Rattle.ps_words.specs.declared.serve.ServeWords.{ServeWords}
use Rattle.ps_words.specs.declared.serve.WordsError.{WordsError}
use Rattle.ps_words.specs.declared.serve.WordsError.TheVariants.{OutOfMemory}

-- `--http PORT`, from 1 to 65535
abbrev pub http_rule : Rule
http_rule = record (new_rule (codes "http")) { long = Some (codes "http"); required = true; action = Some Set; parser = Some (vp.Signed (pos 1) (pos 65535)) }

-- `--tick MS`, from 10 to 60000
abbrev pub tick_rule : Rule
tick_rule = record (new_rule (codes "tick")) { long = Some (codes "tick"); action = Some Set; parser = Some (vp.Signed (pos 10) (pos 60000)) }

-- `FILE`
abbrev pub file_rule : Rule
file_rule = record (new_rule (codes "file")) { required = true; action = Some Set }

-- a command of the name `serve` without an option for help
abbrev pub bare_app : App
bare_app = record (new_app (codes "serve")) { top = record (new_app (codes "serve")).top { disable_help_flag = true } }

-- `serve --http PORT [--tick MS] FILE`
unfoldable pub serve_app : App
serve_app = with_rule (with_rule (with_rule bare_app http_rule) tick_rule) file_rule

-- the bytes of the words
abbrev pub texts : List (String Global) → List Text
texts words = map string_bytes words

-- the first word is `serve`
abbrev pub begins_with_serve : List Text → Bool
begins_with_serve [] = false
begins_with_serve (verb ∷ words) = bytes_eq verb (codes "serve")

-- the parser finds no fault in these words
unfoldable pub is_faultless : List Text → Bool
is_faultless words = is_empty (fault_of serve_app words)

-- the parser takes these words, the first of them `serve`
unfoldable pub accepts_words : List Text → Bool
accepts_words words = begins_with_serve words && is_faultless words

-- the file that the words name
unfoldable pub file_in : List Text → Option Text
file_in words = first_of (codes "file") (matches_of serve_app words)

-- the number that a text writes
abbrev pub number_of : Text → ℕ
number_of text = digits_value 10 (without_leading_plus text)

-- the port that the words give, as a number
unfoldable pub http_in : List Text → Option ℕ
http_in words = option_map number_of (one_of (codes "http") (matches_of serve_app words))

-- a port was found, in its range
abbrev pub HasPort : ArgMatches → Type 0
HasPort m = (text : Text) × (one_text (found_of m) (codes "http") ≡ Some (without_minus text)) × IsSignedIn (pos 1) (pos 65535) text

-- a port, and milliseconds of a tick, as the options want them
abbrev pub IsPort : ℕ → Type 0
IsPort port = (1 ≤ port) × (port ≤ 65535)

abbrev pub IsTick : ℕ → Type 0
IsTick tick = (10 ≤ tick) × (tick ≤ 60000)

-- `-`, or a text that isn't empty and doesn't begin with a hyphen
abbrev pub IsFileName : Text → Type 0
IsFileName file = (file ≡ codes "-") ⊎ ((0 < length file) × (slice_index file 0 ≢ 45))

-- plain words of `serve` with this port and this file: `--http` and at most one `--tick`, in any order, and then the file
pub data IsPlain : List Text → ℕ → Text → Type 0 where
  without_tick : (port : ℕ) (file : Text) → IsPort port → IsFileName file
      → IsPlain (codes "serve" ∷ codes "--http" ∷ decimal port ∷ file ∷ []) port file
  tick_last : (port tick : ℕ) (file : Text) → IsPort port → IsTick tick → IsFileName file
      → IsPlain (codes "serve" ∷ codes "--http" ∷ decimal port ∷ codes "--tick" ∷ decimal tick ∷ file ∷ []) port file
  tick_first : (port tick : ℕ) (file : Text) → IsPort port → IsTick tick → IsFileName file
      → IsPlain (codes "serve" ∷ codes "--tick" ∷ decimal tick ∷ codes "--http" ∷ decimal port ∷ file ∷ []) port file

-- the words were read as this port and this file, unless there was no memory
abbrev pub Gives : ℕ → Text → Result ServeWords WordsError → Type 0
Gives port file result = MatchResult result (λ it. (it.http ≡ port) × (string_bytes it.file ≡ file)) (λ error. error ≡ OutOfMemory)
