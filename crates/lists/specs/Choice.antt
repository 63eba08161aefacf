-- Choosing by a test, and refusal numbers in their order.
use Rattle.std.specs.Prelude.{Bool, true, false, ℕ, eqb}

-- a where the test holds, else b
abbrev pub pick : {A : Type 0} → Bool → A → A → A
pick true a b = a
pick false a b = b

-- document 01, "Refusal list": the numbers of a call are tested in the order listed. The number a where it
-- refuses, else b
abbrev pub and_then : ℕ → ℕ → ℕ
and_then a b = pick (eqb a 0) b a
