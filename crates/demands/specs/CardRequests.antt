-- What document 02, N4, asks of settings kept in blocks, as statements over the definitions that the contracts of the public
-- entries cite.
use Rattle.std.specs.Prelude.{◌≡◌, true, false, List, [], ◌∷◌, ◌++◌, ◌↔◌, ℕ, ◌+◌, ◌*◌, ◌/◌, ◌<◌, ◌≤◌, length, get_or, take, drop, replicate, set}
use Rattle.lists.specs.Runs.{Octets}
use Rattle.refusal.specs.Numbers.{LENGTH, REGISTER, BLOCK}
use Rattle.refusal.specs.Answers.{BackAgain}
use Rattle.plan.specs.declared.Plan.{Plan}
use Rattle.plan.specs.Records.{of_columns, no_plan}
use Rattle.plan.specs.Plans.{plan_number}
use Rattle.plan_octets.specs.Groups.{unused_zero}
use Rattle.setting_block.specs.declared.Registers.{Registers}
use Rattle.setting_block.specs.Layout.{setting_octets, layout, mark, edition}
use Rattle.octet_numbers.specs.Numbers.{sum_of}
use Rattle.setting_block.specs.Blocks.{block_of, field_in, number_in, plan_in, registers_in, unused_in, block_ok, registers_ok, setting_number, no_registers}
use Rattle.settings.specs.Cards.{card_ok, card_number, block_at, read_number, read_answer, replace_number, replaced}

-- "A card area holds up to 64 whole blocks (else 4)", and "17 block (number past the area ..), tested after 4"
pub record CardRefused (octets n : ℕ) : Type 0 where
  pub card : card_ok octets ≡ false → card_number octets n ≡ LENGTH
  pub past : card_ok octets ≡ true → octets / setting_octets ≤ n → card_number octets n ≡ BLOCK

-- "17 block (.. wrong mark, edition, sum or a filler not zero)": the block of an edition that has one of these is refused, a
-- filler being an octet of the zeros or of a group behind the count
pub record WrongRefused (e : ℕ) (block : List ℕ) : Type 0 where
  pub mark_wrong : (field_in (layout e).mark block ≡ mark → ⊥) → block_ok e block ≡ false
  pub edition_wrong : (number_in (layout e).edition block ≡ e → ⊥) → block_ok e block ≡ false
  pub sum_wrong : (number_in (layout e).sum block ≡ sum_of (take (layout e).sum.at block) → ⊥) → block_ok e block ≡ false
  pub zero_wrong : (k : ℕ) → (get_or (field_in (layout e).zeros block) k 0 ≡ 0 → ⊥) → block_ok e block ≡ false
  pub unused_wrong : (k : ℕ) → (get_or (unused_in e block) k 0 ≡ 0 → ⊥) → block_ok e block ≡ false

-- ".. before the plan and register checks": the first that fails is the answer
pub record SettingRefused (p : Plan) (r : Registers) : Type 0 where
  pub plan : (plan_number p ≡ 0 → ⊥) → setting_number p r ≡ plan_number p
  pub registers : plan_number p ≡ 0 → registers_ok r ≡ false → setting_number p r ≡ REGISTER

-- reading, by these tests in this order
pub record ReadRefused (card : List ℕ) (n : ℕ) : Type 0 where
  pub first : (card_number (length card) n ≡ 0 → ⊥) → read_number card n ≡ card_number (length card) n
  pub block : card_number (length card) n ≡ 0 → block_ok edition (block_at n card) ≡ false → read_number card n ≡ BLOCK
  pub setting : card_number (length card) n ≡ 0 → block_ok edition (block_at n card) ≡ true
      → read_number card n ≡ setting_number (plan_in edition (block_at n card)) (registers_in edition (block_at n card))
  pub zeros : (read_number card n ≡ 0 → ⊥) → read_answer card n ≡ record { number = read_number card n; plan = no_plan; registers = no_registers }

-- and replacing, which asks nothing of the block
pub record ReplaceRefused (octets n : ℕ) (p : Plan) (r : Registers) : Type 0 where
  pub first : (card_number octets n ≡ 0 → ⊥) → replace_number octets n p r ≡ card_number octets n
  pub setting : card_number octets n ≡ 0 → replace_number octets n p r ≡ setting_number p r

pub record SettingsRefused : Type 0 where
  pub cards : (octets n : ℕ) → CardRefused octets n
  pub none : (n : ℕ) → card_number 0 n ≡ BLOCK
  pub wrong : (e : ℕ) (block : List ℕ) → WrongRefused e block
  pub settings : (p : Plan) (r : Registers) → SettingRefused p r
  pub read : (card : List ℕ) (n : ℕ) → ReadRefused card n
  pub replace : (octets n : ℕ) (p : Plan) (r : Registers) → ReplaceRefused octets n p r

-- "an operator reads or replaces one block by its number": what was replaced is read again, unused groups as zeros
abbrev pub ReplacedRead : Type 0
ReplacedRead =
    (card : List ℕ) (n : ℕ) (p : Plan) (r : Registers)
    → replace_number (length card) n p r ≡ 0
    → read_answer (replaced card n p r) n ≡ record { number = 0; plan = unused_zero p; registers = r }

-- and a block replaced with what was read of it is the block
abbrev pub ReadReplaced : Type 0
ReadReplaced =
    (card : List ℕ) (n : ℕ)
    → Octets card
    → read_number card n ≡ 0
    → BackAgain (replace_number (length card) n (read_answer card n).plan (read_answer card n).registers) (replaced card n (read_answer card n).plan (read_answer card n).registers) card

-- "the others keep their octets", and so are read as before
pub record Kept (card : List ℕ) (n : ℕ) (p : Plan) (r : Registers) : Type 0 where
  pub long : length (replaced card n p r) ≡ length card
  pub octets : (m : ℕ) → (m ≡ n → ⊥) → block_at m (replaced card n p r) ≡ block_at m card
  pub read : (m : ℕ) → (m ≡ n → ⊥) → read_answer (replaced card n p r) m ≡ read_answer card m

abbrev pub OthersKept : Type 0
OthersKept = (card : List ℕ) (n : ℕ) (p : Plan) (r : Registers) → replace_number (length card) n p r ≡ 0 → Kept card n p r

-- a block is accepted exactly when it is one that a replacement writes: one that leaves the card as it is
pub record Written (card : List ℕ) (n : ℕ) : Type 0 where
  pub plan : Plan
  pub registers : Registers
  pub again : BackAgain (replace_number (length card) n plan registers) (replaced card n plan registers) card

abbrev pub AcceptedWritten : Type 0
AcceptedWritten = (card : List ℕ) (n : ℕ) → Octets card → (read_number card n ≡ 0) ↔ Written card n

-- "A replacement doesn't look at the old block": two cards that differ in that block alone become one card
abbrev pub OldUnseen : Type 0
OldUnseen =
    (a b : List ℕ) (n : ℕ) (p : Plan) (r : Registers)
    → length a ≡ length b
    → take (setting_octets * n) a ≡ take (setting_octets * n) b
    → drop (setting_octets * n + setting_octets) a ≡ drop (setting_octets * n + setting_octets) b
    → (replace_number (length a) n p r ≡ replace_number (length b) n p r) × (replaced a n p r ≡ replaced b n p r)

-- "wrong .. sum": a block of which one octet is another is refused
abbrev pub OneOctetRefused : Type 0
OneOctetRefused =
    (card : List ℕ) (n k x : ℕ)
    → Octets card
    → read_number card n ≡ 0
    → k < setting_octets
    → x < 256
    → (x ≡ get_or card (setting_octets * n + k) 0 → ⊥)
    → read_number (set card (setting_octets * n + k) x) n ≡ BLOCK

-- a block worked by hand: two groups, 290 + 1 + 2 + 136 + 208 + 1 + 65 + 382 = 1085 = 4 * 256 + 61
abbrev pub WorkedBlock : Type 0
WorkedBlock =
    block_of edition
    (of_columns 2 (4 ∷ 2 ∷ replicate 6 0) (7 ∷ 3 ∷ replicate 6 0) (115 ∷ 5 ∷ replicate 6 0))
    (record { slots = record { mask = 19088743; start = 1 }; tmcc = record { mask = 16385; start = 32767 } })
    ≡ 83 ∷ 51 ∷ 80 ∷ 76 ∷ 1 ∷ 2 ∷ 4 ∷ 7 ∷ 115 ∷ 2 ∷ 3 ∷ 5 ∷ replicate 18 0
    ++ (1 ∷ 35 ∷ 69 ∷ 103 ∷ 0 ∷ 0 ∷ 0 ∷ 1 ∷ 0 ∷ 0 ∷ 64 ∷ 1 ∷ 0 ∷ 0 ∷ 127 ∷ 255 ∷ replicate 464 0 ++ (4 ∷ 61 ∷ []))
