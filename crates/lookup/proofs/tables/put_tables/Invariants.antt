-- `lookup::put_tables`: the area is filled with the groups' tables, one at a time.
use mathlib.Core.Path.{◌≡◌}
use mathlib.Core.List.{List}
use Prim.Native.Nat.{ℕ, ◌≤◌}
use Rattle.lists.specs.Filling.{Filling}
use Rattle.plan.specs.declared.Plan.{Plan}
use Rattle.lookup.specs.Lookups.{tables_of}
use Rattle.lookup.proofs.LookupLaws.{table_start}
use Rattle.lookup.proofs.tables.put_tables.Given as goal

pub record Inv (p : Plan) (found tables : List ℕ) (at g : ℕ) : Type 0 where
  pub few : p.count ≤ 8
  pub place : at ≡ table_start p g
  pub filling : Filling (tables_of p) found at tables

abbrev pub invariant-loop-g : goal.invariant-loop-g
invariant-loop-g l = Inv l.plan l.initial.tables l.tables l.at l.g
