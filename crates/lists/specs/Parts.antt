-- A part of a list, and a list put into another.
use Rattle.std.specs.Prelude.{List, ◌++◌, ℕ, ◌+◌, ◌-◌, length, take, drop}

-- the elements from a on, to before e: what `&xs[a..e]` is
abbrev pub part : ℕ → ℕ → List ℕ → List ℕ
part a e xs = take (e - a) (drop a xs)

-- xs with the elements from a on replaced by ys, as far as ys goes
unfoldable pub put : ℕ → List ℕ → List ℕ → List ℕ
put a ys xs = take a xs ++ (ys ++ drop (a + length ys) xs)
