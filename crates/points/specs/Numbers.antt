-- The refusals of the calls on points (document 02, N6: "the order is 1, 6, 4, 12, 18").
use Rattle.std.specs.Prelude.{Bool, true, not, ◌&&◌, ◌||◌, List, ℕ, ◌^◌, eqb, ltb, Float, Result, Ok, Err, length, get_or}
use Rattle.lists.specs.Choice.{pick, and_then}
use Rattle.lists.specs.Count.{every}
use Rattle.refusal.specs.Numbers.{PLAN, LENGTH, REGISTER, LABEL, COORDINATE}
use Rattle.refusal.specs.Answers.{number_of}
use Rattle.refusal.specs.declared.Refusal.{Refusal}
use Rattle.dispersal.specs.Register.{step, settings_ok}
use Rattle.plan.specs.Rates.{modulation_ok}
use Rattle.symbols.specs.Labels.{label_number}
use Rattle.points.specs.declared.StepAnswer.{StepAnswer}
use Rattle.points.specs.Points.{bpsk, arranged_width, used_ok}

-- "the symbol number from 1 in the frame (0 is refused as 4)", which counts for BPSK alone
unfoldable pub symbol_ok : ℕ → ℕ → Bool
symbol_ok m symbol = not (eqb m bpsk) || ltb 0 symbol

-- both lists, given as their lengths, have "one entry for each label", and the symbol number is allowed
unfoldable pub lent_ok : ℕ → ℕ → ℕ → ℕ → Bool
lent_ok m symbol ins quads = eqb ins (2 ^ m) && (eqb quads (2 ^ m) && symbol_ok m symbol)

-- 1, 6 and 4: handed in are whether mask and register are allowed, true where a call has none, and whether what is lent, with
-- the areas that the call fills, is
unfoldable pub lent_number : ℕ → Bool → Bool → ℕ
lent_number m register lent = and_then (pick (modulation_ok m) 0 PLAN) (and_then (pick register 0 REGISTER) (pick lent 0 LENGTH))

-- the number of a call on one label
unfoldable pub mapped_number : Bool → ℕ → ℕ → ℕ → List Float → List Float → ℕ
mapped_number register m label symbol ins quads =
    and_then (lent_number m register (lent_ok m symbol (length ins) (length quads)))
    (and_then (pick (ltb label (2 ^ m)) 0 LABEL) (pick (used_ok ins quads label) 0 COORDINATE))

-- of a symbol: 1, 4, 12, 18
abbrev pub point_number : ℕ → ℕ → ℕ → List Float → List Float → ℕ
point_number m label symbol ins quads = mapped_number true m label symbol ins quads

-- of one of the signal point arrangement signal, for which "the caller gives mask and register as it stands": 1, 6, 4, 12, 18
abbrev pub arranged_number : ℕ → ℕ → ℕ → List Float → List Float → ℕ → ℕ → ℕ
arranged_number m label symbol ins quads mask register = mapped_number (settings_ok arranged_width mask register) m label symbol ins quads

-- 18: "an entry used is infinite or not a number"
unfoldable pub used_number : List ℕ → List Float → List Float → ℕ
used_number labels ins quads = pick (every (length labels) (λ r. used_ok ins quads (get_or labels r 0))) 0 COORDINATE

-- both areas, given as their lengths, have an entry for each label
unfoldable pub room_ok : ℕ → ℕ → ℕ → Bool
room_ok labels i q = eqb i labels && eqb q labels

-- of a run of labels: each test over all labels before the next
unfoldable pub points_number : ℕ → ℕ → List ℕ → List Float → List Float → ℕ → ℕ → ℕ
points_number m symbol labels ins quads i q =
    and_then (lent_number m true (lent_ok m symbol (length ins) (length quads) && room_ok (length labels) i q))
    (and_then (label_number m labels) (used_number labels ins quads))

-- "a call of its own steps it, refusing only 6": the register one step on, and 0 with a refusal
unfoldable pub step_answer : ℕ → ℕ → StepAnswer
step_answer mask register =
    pick (settings_ok arranged_width mask register)
    (record { number = 0; register = step arranged_width mask register })
    (record { number = REGISTER; register = 0 })

-- what that call answers, a register or a refusal, as its number and a register
abbrev pub as_step : Result ℕ Refusal → StepAnswer
as_step (Ok register) = record { number = 0; register = register }
as_step (Err r) = record { number = number_of r; register = 0 }
