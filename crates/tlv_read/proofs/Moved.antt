-- What is done instead where octets are not there is the step at their first; and what reading asks.
use Rattle.std.specs.Prelude.{◌≡◌, refl, true, List, ℕ, ◌+◌, ◌*◌, ◌≤◌, Some, length}
use Rattle.std.proofs.Common.{arith}
use Rattle.tlv.specs.Packets.{head_ok, size_at}
use Rattle.tlv.specs.Read.{step}
use Rattle.tlv_read.specs.declared.steps.Move.{Move}
use Rattle.tlv_read.specs.declared.steps.Move.TheVariants.{Stop, On}
use Rattle.tlv_read.specs.StepLaws.{Headed, no_head, no_body}
use Rattle.tlv_read.specs.Needs.{Lending, ReadNeeds}
use Rattle.tlv_read.specs.Moves.{made, Instead}

module _ (D n : ℕ) (lost begins : List ℕ) (o : ℕ → ℕ) (p : ℕ) where
  pub instead_of_head : (p ≡ D * n → ⊥) → (m : Move) → Instead D n lost begins p (p + 4) (Some m) → made o p m ≡ step D n lost begins o p
  instead_of_head more (Stop at) w = no_head D n lost begins o p more _ _ at 0 w refl
  instead_of_head more (On size at) w = no_head D n lost begins o p more _ _ at size w refl

  pub instead_of_body : Headed D n lost begins o p → head_ok o p ≡ true → (long : ℕ) → long ≡ size_at o p → (m : Move) → Instead D n lost begins p (p + long) (Some m)
      → made o p m ≡ step D n lost begins o p
  instead_of_body h right long sized (Stop at) w = no_body D n lost begins o p h right long sized _ _ at 0 w refl
  instead_of_body h right long sized (On size at) w = no_body D n lost begins o p h right long sized _ _ at size w refl

-- what reading from p asks, of lent slots
pub lent_needs : (D : ℕ) (slots lost begins : List ℕ) (p : ℕ) (area : List ℕ) → Lending D slots lost begins → p ≤ length slots → length area ≡ length slots
    → ReadNeeds D (length begins) slots lost begins p area
lent_needs D slots lost begins p area l within place = record { lent = record { reported = l.reported; long = l.long; within = omega (arith, l.long) }; place = place }
