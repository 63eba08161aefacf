-- `tlv_fill::packets::packets_ok`: what is left to test is the test from h on.
use mathlib.Core.Path.{◌≡◌}
use mathlib.Core.List.{List}
use Prim.Native.Nat.{ℕ, ◌-◌, ◌≤◌}
use lib.ListN.{length}
use Rattle.tlv.specs.Packets.{octets, packets_from, packets_ok}
use Rattle.tlv_fill.proofs.packets.packets_ok.Given as goal

pub record Inv (packets : List ℕ) (h : ℕ) : Type 0 where
  pub within : h ≤ length packets
  pub left : packets_ok packets ≡ packets_from (octets packets) (length packets) (length packets) h

abbrev pub invariant-loop-h : goal.invariant-loop-h
invariant-loop-h l = Inv l.packets l.h

abbrev pub decreases-loop-h : goal.decreases-loop-h
decreases-loop-h l = length l.packets - l.h
