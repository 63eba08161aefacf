-- `tlv_fill::begins::mark_begins`: h is the first beginning at or behind the slot's first octet.
use mathlib.Core.Path.{◌≡◌}
use mathlib.Core.List.{List}
use Prim.Native.Nat.{ℕ, ◌+◌, ◌-◌, ◌*◌, ◌<◌, ◌≤◌}
use native.Mathlib.Decide.{dec_lt}
use native.Mathlib.Omega.{arith}
use lib.ListN.{length}
use Rattle.lists.specs.Filling.{Filling}
use Rattle.tlv.specs.Fill.{reports}
use Rattle.tlv_fill.specs.BeginTurns.{Ahead}
use Rattle.tlv_fill.proofs.begins.mark_begins.Given as goal

pub record Inv (D : ℕ) (packets : List ℕ) (taken owed : ℕ) (found begins : List ℕ) (k start h : ℕ) : Type 0 where
  pub place : start ≡ D * k
  pub ahead : Ahead packets (taken + (start - owed)) h
  pub filling : Filling (reports D (length found) packets taken owed) found k begins

-- where the first beginning lies
pub record Found (packets : List ℕ) (taken owed start h : ℕ) : Type 0 where
  pub from : taken + (start - owed) ≤ h
  pub near : h < length packets + start + 4

pub found : (packets : List ℕ) (taken owed start target h : ℕ) → taken ≤ length packets → target ≡ taken + (start - owed) → Ahead packets target h → target ≤ h
    → Found packets taken owed start h
found packets taken owed start target h w e a l = record { from = omega arith; near = go (dec_lt (length packets) h) }
  where
    go : Dec (length packets < h) → h < length packets + start + 4
    go (yes m) = let n = a.near m in omega arith
    go (no m) = omega arith

abbrev pub invariant-loop-begin : goal.invariant-loop-begin
invariant-loop-begin l = Inv l.size l.packets l.taken l.owed l.initial.begins l.begins l.begin-index l.start l.h
