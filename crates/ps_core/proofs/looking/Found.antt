-- What a look-up returns, of what is found.
use Rattle.std.proofs.Common.{◌≡◌, true, false, Option, Some, None, MatchOption, is_some, option_map, sym}
use Rattle.std.specs.Option.{option_copied}
use denote.Bor.{Bor}

pub looked : {A B : Type 0} (f : A → B) (found : Option B) (o : Option (Bor A)) → option_map f (option_copied o) ≡ found → MatchOption o (found ≡ None) (λ x. found ≡ Some (f x.now))
looked f found None e = sym e
looked f found (Some x) e = sym e

pub looked-self : {A : Type 0} (found : Option A) (o : Option (Bor A)) → option_copied o ≡ found → MatchOption o (found ≡ None) (λ x. found ≡ Some x.now)
looked-self found None e = sym e
looked-self found (Some x) e = sym e

-- what was found, by whether a look-up returned something
pub found-some : {A B : Type 0} (f : A → B) (found : Option B) (o : Option (Bor A)) → MatchOption o (found ≡ None) (λ x. found ≡ Some (f x.now)) → is_some o ≡ true → (y : B) × (found ≡ Some y)
found-some f found None h e = absurd (cc (e))
found-some f found (Some x) h e = (f x.now, h)

pub found-none : {A B : Type 0} (f : A → B) (found : Option B) (o : Option (Bor A)) → MatchOption o (found ≡ None) (λ x. found ≡ Some (f x.now)) → is_some o ≡ false → found ≡ None
found-none f found None h e = h
found-none f found (Some x) h e = absurd (cc (e))
