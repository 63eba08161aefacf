-- Characters as octets.
use Rattle.std.specs.Prelude.{ℕ}

abbrev pub SPACE : ℕ
SPACE = 32

abbrev pub LINE-FEED : ℕ
LINE-FEED = 10

abbrev pub ZERO : ℕ
ZERO = 48
