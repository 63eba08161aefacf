-- A card and its blocks (document 02, N4): reading and replacing one by its number.
use Rattle.std.specs.Prelude.{Bool, ◌&&◌, List, ℕ, ◌+◌, ◌*◌, ◌/◌, ◌%◌, eqb, leb, ltb, length}
use Rattle.lists.specs.Choice.{pick, and_then}
use Rattle.lists.specs.Parts.{part, put}
use Rattle.refusal.specs.Numbers.{LENGTH, BLOCK}
use Rattle.plan.specs.declared.Plan.{Plan}
use Rattle.setting_block.specs.declared.Registers.{Registers}
use Rattle.setting_block.specs.declared.SettingsAnswer.{SettingsAnswer}
use Rattle.setting_block.specs.Layout.{setting_octets, edition}
use Rattle.setting_block.specs.Blocks.{answer, block_of, plan_in, registers_in, setting_number, block_number}

-- "A card area holds up to 64 whole blocks"
unfoldable pub card_ok : ℕ → Bool
card_ok octets = eqb (octets % setting_octets) 0 && leb (octets / setting_octets) 64

-- "(else 4)", and "17 block (number past the area ..), tested after 4"
unfoldable pub card_number : ℕ → ℕ → ℕ
card_number octets n = and_then (pick (card_ok octets) 0 LENGTH) (pick (ltb n (octets / setting_octets)) 0 BLOCK)

-- a block "by its number from 0"
abbrev pub block_at : ℕ → List ℕ → List ℕ
block_at n card = part (setting_octets * n) (setting_octets * n + setting_octets) card

-- the numbers of reading a block
unfoldable pub read_number : List ℕ → ℕ → ℕ
read_number card n = and_then (card_number (length card) n) (block_number edition (block_at n card))

-- what "an operator reads": plan and registers of the block
unfoldable pub read_answer : List ℕ → ℕ → SettingsAnswer
read_answer card n = answer (read_number card n) (plan_in edition (block_at n card)) (registers_in edition (block_at n card))

-- those of replacing one, of which the number alone is looked at: "A replacement doesn't look at the old block"
unfoldable pub replace_number : ℕ → ℕ → Plan → Registers → ℕ
replace_number octets n p r = and_then (card_number octets n) (setting_number p r)

-- the card with a block replaced: "the others keep their octets"
unfoldable pub replaced : List ℕ → ℕ → Plan → Registers → List ℕ
replaced card n p r = put (setting_octets * n) (block_of edition p r) card
