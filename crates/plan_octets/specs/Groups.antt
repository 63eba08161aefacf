-- Plans as octets (document 02, N4: "eight groups of modulation, rate and count in an octet each (unused ones 0)").
use Rattle.std.specs.Prelude.{List, [], ◌∷◌, ℕ, ◌+◌, ltb, get_or}
use Rattle.lists.specs.Choice.{pick}
use Rattle.lists.specs.Count.{table, joined}
use Rattle.plan.specs.declared.Plan.{Plan}
use Rattle.plan.specs.Records.{of_columns}
use Rattle.plan.specs.Plans.{modulation_of, rate_of, slots_of}

-- octet k of each group, and 0 where there is no such group
unfoldable pub column : ℕ → List ℕ → List ℕ
column k octets =
    get_or octets k 0
    ∷ get_or octets (k + 3) 0
    ∷ get_or octets (k + 6) 0
    ∷ get_or octets (k + 9) 0
    ∷ get_or octets (k + 12) 0
    ∷ get_or octets (k + 15) 0
    ∷ get_or octets (k + 18) 0
    ∷ get_or octets (k + 21) 0
    ∷ []

-- the plan of so many groups in these octets
unfoldable pub of_octets : ℕ → List ℕ → Plan
of_octets count octets = of_columns count (column 0 octets) (column 1 octets) (column 2 octets)

-- a group's value, and 0 for a group that is not used
abbrev pub used : Plan → (ℕ → ℕ) → ℕ → ℕ
used p value g = pick (ltb g p.count) (value g) 0

-- "modulation, rate and count" of group g
unfoldable pub group_of : Plan → ℕ → List ℕ
group_of p g = used p (modulation_of p) g ∷ used p (rate_of p) g ∷ used p (slots_of p) g ∷ []

-- "eight groups"
unfoldable pub groups_of : Plan → List ℕ
groups_of p = joined 8 (group_of p)

-- the plan with zeros for the groups that are not used
unfoldable pub unused_zero : Plan → Plan
unused_zero p =
    of_columns p.count (table 8 (used p (modulation_of p))) (table 8 (used p (rate_of p))) (table 8 (used p (slots_of p)))
