-- What the call has lent to the functions behind it.
use Rattle.std.specs.Prelude.{◌≡◌, List, Bool, ℕ, ◌*◌, ◌<◌, ◌≤◌}
use Rattle.std.proofs.Math.Path.{refl}
use Rattle.std.proofs.Common.{sym, ap, ◌∙◌}
use Rattle.std.proofs.Math.Bool.{true, false}
use Rattle.std.proofs.Math.Nat.{mul-le-mul_left}
use native.Mathlib.Omega.{arith}
use Rattle.std.proofs.lemmas.Bool.{eqb-false}
use Rattle.std.proofs.Math.Dec.{eqb}
use Rattle.std.proofs.Math.ListN.{length}
use Rattle.lists.specs.Choice.{pick}
use Rattle.plan.specs.Rates.{data_octets_of}
use Rattle.tlv.specs.Packets.{octets}
use Rattle.tlv.specs.Fill.{none}
use Rattle.tlv.specs.Read.{on_from, read, start}
use Rattle.tlv.specs.ReadForward.{Inside, on_within}
use Rattle.tlv.specs.Calls.{read_number, reading_of}
use Rattle.tlv.specs.CallLaws.{ReadReady, read_ready, place_inside, all_hold_law}
use Rattle.tlv_read.specs.Needs.{Reported, ReadNeeds}

module _ (rate : ℕ) (slots begins lost : List ℕ) (f : ℕ) (packets : List ℕ) (h : read_number rate slots begins lost f (length packets) ≡ 0) where
  ready : ReadReady rate slots begins lost f (length packets)
  ready = read_ready rate slots begins lost f (length packets) h

  pos : 0 < data_octets_of rate
  pos = omega (arith, ready.octets.low)

  inside : Inside (data_octets_of rate) (length begins) begins
  inside k l n = place_inside (data_octets_of rate) _ (all_hold_law _ begins ready.inside k l) n

  long : length slots ≡ data_octets_of rate * length begins
  long = ready.lent.whole ∙ ap (λ (n : ℕ). data_octets_of rate * n) (sym ready.lent.reports)

  module _ (size : ℕ) (e : size ≡ data_octets_of rate) where
    pub reported : length slots < 9223372036854775808 → Reported size (length begins) lost begins
    reported room =
        rw e
        (record {
          marked = record { some = pos; room = omega (arith, long); marks = ready.marks };
          reports = refl;
          inside = inside;
        })

    -- where reading begins is inside the slots
    start_within : start (data_octets_of rate) (length begins) lost begins f ≤ data_octets_of rate * length begins
    unfolding start
    start_within = go (eqb f none) refl
      where
        go : (t : Bool) → eqb f none ≡ t → pick t (on_from (data_octets_of rate) (length begins) lost begins 0) f ≤ data_octets_of rate * length begins
        go true x = (on_within (data_octets_of rate) (length begins) pos lost begins inside 0 (omega arith)).1
        go false x =
            let l : f < data_octets_of rate = place_inside (data_octets_of rate) f ready.place (eqb-false f none x) in
            let m : data_octets_of rate * 1 ≤ data_octets_of rate * length begins = mul-le-mul_left (data_octets_of rate) (omega (arith, ready.lent.some, ready.lent.reports)) in
            omega arith

    pub read_needs : length slots < 9223372036854775808 → (from : ℕ) → from ≡ start size (length begins) lost begins f → ReadNeeds size (length begins) slots lost begins from packets
    read_needs room from a =
        record {
          lent = record { reported = reported room; long = rw e long; within = rw (a, e) start_within };
          place = ready.room;
        }

    -- what the call reads
    pub reading_is : (from : ℕ) → from ≡ start size (length begins) lost begins f
        → read size (length begins) lost begins (octets slots) (size * length begins) from ≡ reading_of rate slots begins lost f
    unfolding reading_of
    reading_is from a = rw (a, e, ← long, ready.lent.reports)
