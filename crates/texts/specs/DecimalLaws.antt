-- How long decimal numbers are.
use Rattle.std.specs.Prelude.{Bool, true, false, List, [], ◌∷◌, ℕ, ◌≤◌, ltb, length}
use Rattle.std.proofs.Common.{arith, length-append}
use Rattle.lists.specs.Choice.{pick}
use Rattle.texts.specs.Decimals.{decimal, field}

short : (a b : Bool) (x y z : List ℕ) → length x ≤ 3 → length y ≤ 3 → length z ≤ 3 → length (pick a x (pick b y z)) ≤ 3
short true b x y z h k l = h
short false true x y z h k l = k
short false false x y z h k l = l

pub length_decimal : (n : ℕ) → length (decimal n) ≤ 3
unfolding decimal
length_decimal n = short (ltb n 10) (ltb n 100) _ _ _ (omega arith) (omega arith) (omega arith)

pub length_field : (n : ℕ) → length (field n) ≤ 4
unfolding field
length_field n = omega (arith, length-append (decimal n) (32 ∷ []), length_decimal n)
