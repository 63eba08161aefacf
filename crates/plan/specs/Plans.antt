-- The slot plan (document 01, "Plan and place"): which plans are accepted, and which rule the others break.
use Rattle.std.specs.Prelude.{Bool, ◌&&◌, ◌||◌, ℕ, ◌+◌, ◌-◌, ◌*◌, ◌/◌, ◌%◌, eqb, ltb, leb, get_or}
use Rattle.lists.specs.Choice.{pick, and_then}
use Rattle.lists.specs.Count.{sum, every}
use Rattle.refusal.specs.Numbers.{PLAN, VALUE, ORDER, TOTAL}
use Rattle.plan.specs.declared.Plan.{Plan}
use Rattle.plan.specs.Rates.{rate_ok, modulation_ok}

-- modulation, rate and slot count of group g, from 0
abbrev pub modulation_of : Plan → ℕ → ℕ
modulation_of p g = get_or p.modulation g 0

abbrev pub rate_of : Plan → ℕ → ℕ
rate_of p g = get_or p.rate g 0

abbrev pub slots_of : Plan → ℕ → ℕ
slots_of p g = get_or p.slots g 0

-- the slots of the groups before group g
unfoldable pub slots_before : Plan → ℕ → ℕ
slots_before p g = sum g (slots_of p)

-- "A plan is 1 to 8 groups"
unfoldable pub groups_ok : Plan → Bool
groups_ok p = leb 1 p.count && leb p.count 8

-- a group's values: modulation and rate are known, and "Each count is a positive multiple of 5"
unfoldable pub values_ok : Plan → ℕ → Bool
values_ok p g = modulation_ok (modulation_of p g) && (rate_ok (rate_of p g) && (leb 1 (slots_of p g) && eqb (slots_of p g % 5) 0))

-- "Groups fall strictly: higher modulation first, then higher rate": group g + 1 falls below group g
unfoldable pub falls_after : Plan → ℕ → Bool
falls_after p g =
    ltb (modulation_of p (g + 1)) (modulation_of p g)
    || (eqb (modulation_of p (g + 1)) (modulation_of p g) && ltb (rate_of p (g + 1)) (rate_of p g))

-- both "over the whole plan" (document 02, N1)
abbrev pub all_values_ok : Plan → Bool
all_values_ok p = every p.count (values_ok p)

abbrev pub all_fall : Plan → Bool
all_fall p = every (p.count - 1) (falls_after p)

-- "the counts add to 120"
abbrev pub total_ok : Plan → Bool
total_ok p = eqb (slots_before p p.count) 120

-- a plan that keeps all four: any other "breaks a rule above" (document 01, "Refusal list")
unfoldable pub plan_ok : Plan → Bool
plan_ok p = groups_ok p && (all_values_ok p && (all_fall p && total_ok p))

-- document 02, N1: "13 value .., 14 order .., 15 total ..": that of the first rule that does not hold
abbrev pub rule_number : Bool → Bool → Bool → ℕ
rule_number values order total = and_then (pick values 0 VALUE) (and_then (pick order 0 ORDER) (pick total 0 TOTAL))

-- "tested after 1 in that order over the whole plan"
unfoldable pub plan_number : Plan → ℕ
plan_number p = and_then (pick (groups_ok p) 0 PLAN) (rule_number (all_values_ok p) (all_fall p) (total_ok p))

-- "Of a group's n slots the first n × modulation / 5 carry data"
unfoldable pub data_slots_of : Plan → ℕ → ℕ
data_slots_of p g = slots_of p g * modulation_of p g / 5
