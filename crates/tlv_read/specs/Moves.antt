-- What the code answers of a step.
use Rattle.std.specs.Prelude.{true, false, List, ℕ, Option, Some, None}
use Rattle.tlv.specs.Read.{Step}
use Rattle.tlv_read.specs.declared.steps.Move.{Move}
use Rattle.tlv_read.specs.declared.steps.Move.TheVariants.{Stop, On}
use Rattle.tlv_read.specs.Needs.{moved, Whole}

-- the step that a Move is
abbrev pub made : (ℕ → ℕ) → ℕ → Move → Step
made o p (Stop at) = moved o p true at 0
made o p (On size at) = moved o p false at size

-- nothing is written, and reading goes on
abbrev pub goes_on : ℕ → Move
goes_on at = On 0 at

-- what to do instead where octets p to e are not there
abbrev pub Instead : ℕ → ℕ → List ℕ → List ℕ → ℕ → ℕ → Option Move → Type 0
Instead D n lost begins p e None = Whole D n lost begins p e true false p 0
Instead D n lost begins p e (Some (Stop at)) = Whole D n lost begins p e false true at 0
Instead D n lost begins p e (Some (On size at)) = Whole D n lost begins p e false false at size
