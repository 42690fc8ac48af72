-- What an option has.
use Rattle.std.proofs.Common.{◌≡◌, false, Option, Some, None, is_some, refl}

pub one-some : {A : Type 0} {a b : A} → Some a ≡ Some b → a ≡ b
one-some e = cc

pub none-of : {A : Type 0} (o : Option A) → is_some o ≡ false → o ≡ None
none-of None e = refl
none-of (Some x) e = absurd (cc (e))
