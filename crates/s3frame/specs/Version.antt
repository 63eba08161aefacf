-- The version of the library.
use Rattle.std.specs.Prelude.{ℕ}

-- 0.9.0, as the header says it: 10,000 times the major number, 100 times the minor one, and the patch number
abbrev pub version : ℕ
version = 900
