-- Moments, in whole milliseconds since 1970.
use Rattle.std.specs.Prelude.{ℕ}

-- 9999-12-31T23:59:59.999Z
abbrev pub last_moment : ℕ
last_moment = 253402300799999
