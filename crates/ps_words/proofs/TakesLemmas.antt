-- Which words the parser takes.
use Rattle.std.proofs.Common.{◌≡◌, inl, inr, true, false, List, [], ◌∷◌, refl, subst, length, arith}
use Rattle.std.proofs.lemmas.Bool.{ne_eqb}
use Rattle.clap.proofs.OnLiterals.{clap_on_literals}
use Rattle.clap.specs.Kinds.{HasKind, Kinds}
use Rattle.clap.specs.Walk.{is_empty}
use Rattle.clap.specs.Words.{App, Text, fault_of, is_simple_and_free, kind_of}
use Rattle.clap.specs.declared.error.Error.{Error}
use Rattle.clap.specs.declared.error.kind.ErrorKind.TheVariants.{OutOfMemory}
use Rattle.ps_words.specs.Serve.{is_faultless, serve_app}

is_simple_serve : is_simple_and_free serve_app ≡ true
unfolding serve_app clap_on_literals
is_simple_serve = refl

-- a parse that went well
pub faultless : (made : App) (words : List Text) → made ≡ serve_app → (is_simple_and_free made ≡ true → fault_of made words ≡ []) → is_faultless words ≡ true
unfolding is_faultless
faultless made words is none =
    let empty : fault_of serve_app words ≡ [] = subst (λ (a : App). is_simple_and_free a ≡ true → fault_of a words ≡ []) is none is_simple_serve in
    rw empty refl

-- a parse that was refused for another cause than memory
has_some : (kinds : Kinds) (e : Error) → HasKind kinds e → (kind_of e ≡ OutOfMemory → ⊥) → is_empty kinds ≡ false
has_some [] e (inl h) other = absurd (other h)
has_some [] e (inr h) other = absurd h
has_some (kind ∷ kinds) e h other = ne_eqb (length (kind ∷ kinds)) 0 (λ none. omega (arith, none))

pub refused : (made : App) (words : List Text) (e : Error) → made ≡ serve_app → (is_simple_and_free made ≡ true → HasKind (fault_of made words) e) → (kind_of e ≡ OutOfMemory → ⊥)
    → is_faultless words ≡ false
unfolding is_faultless
refused made words e is has other =
    has_some (fault_of serve_app words) e (subst (λ (a : App). is_simple_and_free a ≡ true → HasKind (fault_of a words) e) is has is_simple_serve) other
