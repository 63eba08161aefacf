-- `plan_text::read_lines`: the lines passed are right, and their numbers stand in the columns.
use mathlib.Core.Path.{◌≡◌}
use mathlib.Core.List.{List}
use Prim.Native.Nat.{ℕ, ◌-◌}
use lib.ListN.{length}
use Rattle.plan_text.specs.declared.Line.{Line}
use Rattle.plan_text.specs.Reading.{line_of, line_start, column}
use Rattle.plan_text.proofs.Lines.{Passed}
use Rattle.plan_text.proofs.read_lines.Given as goal

-- one number of each line, as the definition of the plan has it
abbrev pub numbers : List ℕ → (Line → ℕ) → ℕ → List ℕ
numbers t f n = column (λ g. f (line_of t (line_start t g))) n

pub record Inv (text modulation rate slots : List ℕ) (at count : ℕ) : Type 0 where
  pub lines : Passed text count at
  pub first : modulation ≡ numbers text (λ l. l.modulation) count
  pub second : rate ≡ numbers text (λ l. l.rate) count
  pub third : slots ≡ numbers text (λ l. l.slots) count

abbrev pub invariant-loop-at : goal.invariant-loop-at
invariant-loop-at l = Inv l.text l.modulation l.rate l.slots l.at l.count

abbrev pub decreases-loop-at : goal.decreases-loop-at
decreases-loop-at l = length l.text - l.at
