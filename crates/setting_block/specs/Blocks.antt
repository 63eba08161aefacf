-- A setting in its block (document 02, N4): what is written, what is read, and when a block is refused.
use Rattle.std.specs.Prelude.{Bool, ◌&&◌, List, ◌++◌, ℕ, ◌+◌, ◌*◌, eqb, take, drop, replicate, Result, Ok, Err}
use Rattle.lists.specs.Choice.{pick, and_then}
use Rattle.lists.specs.Parts.{part}
use Rattle.refusal.specs.Numbers.{REGISTER, BLOCK}
use Rattle.refusal.specs.Answers.{number_of as refusal_number}
use Rattle.refusal.specs.declared.Refusal.{Refusal}
use Rattle.bits.specs.Same.{same}
use Rattle.dispersal.specs.Register.{settings_ok}
use Rattle.plan.specs.declared.Plan.{Plan}
use Rattle.plan.specs.Records.{no_plan}
use Rattle.plan.specs.Sizes.{slot_width, block_width}
use Rattle.plan.specs.Plans.{plan_number}
use Rattle.plan_octets.specs.Groups.{of_octets, groups_of}
use Rattle.setting_block.specs.declared.Registers.{Registers}
use Rattle.setting_block.specs.declared.Settings.{Settings}
use Rattle.setting_block.specs.declared.SettingsAnswer.{SettingsAnswer}
use Rattle.setting_block.specs.Layout.{Field, layout, mark}
use Rattle.octet_numbers.specs.Numbers.{big_endian, number_of, sum_of, all_zero}

-- "group count in one octet .., eight groups"
abbrev pub plan_octets : ℕ → Plan → List ℕ
plan_octets e p = big_endian (layout e).count.octets p.count ++ groups_of p

-- "`S3PL`, edition 1", and these
abbrev pub head_octets : ℕ → Plan → List ℕ
head_octets e p = mark ++ (big_endian (layout e).edition.octets e ++ plan_octets e p)

-- "then four 4-octet numbers: slot mask, slot start, TMCC mask, TMCC start"
abbrev pub register_octets : ℕ → Registers → List ℕ
register_octets e r =
    big_endian (layout e).slot_mask.octets r.slots.mask
    ++ (big_endian (layout e).slot_start.octets r.slots.start
    ++ (big_endian (layout e).tmcc_mask.octets r.tmcc.mask
    ++ big_endian (layout e).tmcc_start.octets r.tmcc.start))

-- "then zeros": the octets of a block before its sum
unfoldable pub body : ℕ → Plan → Registers → List ℕ
body e p r = head_octets e p ++ (register_octets e r ++ replicate (layout e).zeros.octets 0)

-- the block of plan and registers: "last two octets the sum of the 510 before them modulo 65536"
unfoldable pub block_of : ℕ → Plan → Registers → List ℕ
block_of e p r = body e p r ++ big_endian (layout e).sum.octets (sum_of (body e p r))

-- what stands in a field of a block, and the number there
abbrev pub field_in : Field → List ℕ → List ℕ
field_in f block = part f.at (f.at + f.octets) block

abbrev pub number_in : Field → List ℕ → ℕ
number_in f block = number_of f.octets (field_in f block)

-- plan and registers of a block
unfoldable pub plan_in : ℕ → List ℕ → Plan
plan_in e block = of_octets (number_in (layout e).count block) (field_in (layout e).groups block)

unfoldable pub registers_in : ℕ → List ℕ → Registers
registers_in e block =
    record {
      slots = record { mask = number_in (layout e).slot_mask block; start = number_in (layout e).slot_start block };
      tmcc = record { mask = number_in (layout e).tmcc_mask block; start = number_in (layout e).tmcc_start block };
    }

-- the octets of the groups that are not used: those behind the count
abbrev pub unused_in : ℕ → List ℕ → List ℕ
unused_in e block = drop (3 * number_in (layout e).count block) (field_in (layout e).groups block)

-- "wrong mark, edition, sum or a filler not zero": none of them
unfoldable pub block_ok : ℕ → List ℕ → Bool
block_ok e block =
    same (field_in (layout e).mark block) mark
    && (eqb (number_in (layout e).edition block) e
    && (all_zero (unused_in e block)
    && (all_zero (field_in (layout e).zeros block)
    && eqb (number_in (layout e).sum block) (sum_of (take (layout e).sum.at block)))))

-- "start .. 0 or too wide; mask too wide or lacking the top weight", of neither register
unfoldable pub registers_ok : Registers → Bool
registers_ok r = settings_ok slot_width r.slots.mask r.slots.start && settings_ok block_width r.tmcc.mask r.tmcc.start

-- "the plan and register checks"
unfoldable pub setting_number : Plan → Registers → ℕ
setting_number p r = and_then (plan_number p) (pick (registers_ok r) 0 REGISTER)

-- "17 block .., before the plan and register checks"
unfoldable pub block_number : ℕ → List ℕ → ℕ
block_number e block = and_then (pick (block_ok e block) 0 BLOCK) (setting_number (plan_in e block) (registers_in e block))

-- the registers of a refusal, zeros
abbrev pub no_registers : Registers
no_registers = record { slots = record { mask = 0; start = 0 }; tmcc = record { mask = 0; start = 0 } }

-- a number with plan and registers, and zeros where it refuses ("Every other number returned with a refusal is 0")
abbrev pub answer : ℕ → Plan → Registers → SettingsAnswer
answer n p r = record { number = n; plan = pick (eqb n 0) p no_plan; registers = pick (eqb n 0) r no_registers }

-- what reading a block answers, as its number, plan and registers
abbrev pub as_settings : Result Settings Refusal → SettingsAnswer
as_settings (Ok s) = record { number = 0; plan = s.plan; registers = s.registers }
as_settings (Err r) = record { number = refusal_number r; plan = no_plan; registers = no_registers }
