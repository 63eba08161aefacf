-- Laws of packing and unpacking: lengths, what stands where, there and back.
use Rattle.std.specs.Prelude.{◌≡◌, refl, true, ◌&&◌, ℕ, zero, suc, ◌+◌, ◌-◌, ◌*◌, ◌<◌, eqb, length, get_or, take, drop}
use Rattle.std.proofs.Common.{sym, ◌∙◌, add-one, arith, eqb-true, eq-eqb, drop-cons, drop-drop, get_or-drop, get_or-take}
use Rattle.std.proofs.Math.Path.{ap}
use mathlib.Core.List.{List, [], ◌∷◌, ◌++◌}
use Rattle.lists.specs.Choice.{pick}
use Rattle.lists.specs.ChoiceLaws.{and_left, and_right, then_zero, then_both, not_refused}
use Rattle.refusal.specs.Numbers.{PLAN, LENGTH, SYNC}
use Rattle.lists.specs.Count.{every}
use Rattle.lists.specs.CountLaws.{every_at, every_all, joined_none, joined_more, joined_same}
use Rattle.lists.specs.Parts.{part}
use Rattle.lists.specs.Runs.{Octets}
use Rattle.lists.specs.RunLaws.{below_append, below_part}
use Rattle.lists.specs.PartLaws.{length_part}
use Rattle.plan.specs.Rates.{rate_ok, data_octets_of, packets_of}
use Rattle.plan.proofs.RateLaws.{rate_sizes}
use Rattle.refusal.specs.Answers.{BackAgain}
use Rattle.packets.specs.Packets.{sync_octet, carried, packed, restored, unpacked, begins_sync, size_number, pack_number, unpack_number}
use Rattle.lists.specs.Pieces.{length_pieces, pieces_at, pieces_whole}

pub packed_none : (packets : List ℕ) → packed 0 packets ≡ []
unfolding packed
packed_none packets = joined_none (carried packets)

pub packed_more : (n : ℕ) (packets : List ℕ) → packed (n + 1) packets ≡ packed n packets ++ carried packets n
unfolding packed
packed_more n packets = joined_more n (carried packets)

-- the first element of a part, and the part without it
part_first : (a e : ℕ) (xs : List ℕ) → a < e → get_or (part a e xs) 0 0 ≡ get_or xs a 0
part_first a e xs h =
    let z : a + 0 ≡ a = omega arith in
    get_or-take (e - a) (drop a xs) 0 0 (omega arith) ∙ get_or-drop a xs 0 0 ∙ ap (λ (k : ℕ). get_or xs k 0) z

drop_take : (n : ℕ) (xs : List ℕ) → drop 1 (take (suc n) xs) ≡ take n (drop 1 xs)
drop_take zero [] = refl
drop_take (suc n) [] = refl
drop_take n (x ∷ xs) = refl

part_rest : (a e : ℕ) (xs : List ℕ) → a < e → part (a + 1) e xs ≡ drop 1 (part a e xs)
part_rest a e xs h =
    let n : e - a ≡ suc (e - (a + 1)) = omega arith in
    rw (n, drop_take (e - (a + 1)) (drop a xs), drop-drop 1 a xs)

module _ (n : ℕ) (packets : List ℕ) (long : length packets ≡ 188 * n) where
  pub carried_each : (k : ℕ) → k < n → length (carried packets k) ≡ 187
  carried_each k h = length_part (188 * k + 1) (188 * (k + 1)) packets (omega arith) ∙ omega arith

  pub length_packed : length (packed n packets) ≡ 187 * n
  unfolding packed
  length_packed = length_pieces n 187 (carried packets) carried_each

  -- the data octets of packet k
  pub packed_at : (k : ℕ) → k < n → part (187 * k) (187 * (k + 1)) (packed n packets) ≡ carried packets k
  unfolding packed
  packed_at k h = pieces_at n 187 (carried packets) carried_each k h

  -- packet k with its first octet
  whole : (k : ℕ) → k < n → begins_sync packets k ≡ true → sync_octet ∷ carried packets k ≡ part (188 * k) (188 * (k + 1)) packets
  whole k h t =
      let x : get_or packets (188 * k) 0 ≡ sync_octet = eqb-true (get_or packets (188 * k) 0) sync_octet t in
      let e : 188 * (k + 1) - 188 * k ≡ suc (188 * (k + 1) - (188 * k + 1)) = omega arith in
      let d : drop (188 * k) packets ≡ get_or packets (188 * k) 0 ∷ drop (suc (188 * k)) packets = drop-cons packets (188 * k) 0 (omega arith) in
      rw (e, d, x, add-one (188 * k))

  -- unpacking what was packed returns the packets
  pub unpacked_packed : every n (begins_sync packets) ≡ true → unpacked n (packed n packets) ≡ packets
  unfolding unpacked
  unpacked_packed t =
      joined_same n (restored (packed n packets)) (λ k. part (188 * k) (188 * (k + 1)) packets)
      (λ k h. ap (λ (xs : List ℕ). sync_octet ∷ xs) (packed_at k h) ∙ whole k h (every_at n (begins_sync packets) t k h))
      ∙ pieces_whole n 188 packets long

module _ (n : ℕ) (octets : List ℕ) (long : length octets ≡ 187 * n) where
  pub restored_each : (k : ℕ) → k < n → length (restored octets k) ≡ 188
  restored_each k h = ap suc (length_part (187 * k) (187 * (k + 1)) octets (omega arith)) ∙ omega arith

  pub length_unpacked : length (unpacked n octets) ≡ 188 * n
  unfolding unpacked
  length_unpacked = length_pieces n 188 (restored octets) restored_each

  -- packet k
  pub unpacked_at : (k : ℕ) → k < n → part (188 * k) (188 * (k + 1)) (unpacked n octets) ≡ restored octets k
  unfolding unpacked
  unpacked_at k h = pieces_at n 188 (restored octets) restored_each k h

  pub unpacked_first : (k : ℕ) → k < n → get_or (unpacked n octets) (188 * k) 0 ≡ sync_octet
  unpacked_first k h =
      sym (part_first (188 * k) (188 * (k + 1)) (unpacked n octets) (omega arith)) ∙ ap (λ (xs : List ℕ). get_or xs 0 0) (unpacked_at k h)

  pub unpacked_rest : (k : ℕ) → k < n → carried (unpacked n octets) k ≡ part (187 * k) (187 * (k + 1)) octets
  unpacked_rest k h = part_rest (188 * k) (188 * (k + 1)) (unpacked n octets) (omega arith) ∙ ap (drop 1) (unpacked_at k h)

  -- what was unpacked begins 0x47 everywhere
  pub unpacked_syncs : every n (begins_sync (unpacked n octets)) ≡ true
  unpacked_syncs =
      every_all n (begins_sync (unpacked n octets))
      (λ k h. eq-eqb (get_or (unpacked n octets) (188 * k) 0) sync_octet (unpacked_first k h))

  -- packing what was unpacked returns the data octets
  pub packed_unpacked : packed n (unpacked n octets) ≡ octets
  unfolding packed
  packed_unpacked =
      joined_same n (carried (unpacked n octets)) (λ k. part (187 * k) (187 * (k + 1)) octets) unpacked_rest
      ∙ pieces_whole n 187 octets long

-- what a call with number 0 for rate and lengths had
pub record Sized (rate xs ys : ℕ) : Type 0 where
  pub known : rate_ok rate ≡ true
  pub packets : xs ≡ 188 * packets_of rate
  pub octets : ys ≡ 187 * packets_of rate

pub sized : (rate packets octets : ℕ) → size_number rate packets octets ≡ 0 → Sized rate packets octets
unfolding size_number
sized rate packets octets h =
    let a = then_zero (pick (rate_ok rate) 0 PLAN) _ h in
    let r = not_refused (rate_ok rate) PLAN (omega arith) a.0 in
    let t = not_refused (eqb packets (188 * packets_of rate) && eqb octets (data_octets_of rate)) LENGTH (omega arith) a.1 in
    record {
      known = r;
      packets = eqb-true packets (188 * packets_of rate) (and_left (eqb packets (188 * packets_of rate)) _ t);
      octets = eqb-true octets (data_octets_of rate) (and_right (eqb packets (188 * packets_of rate)) _ t) ∙ (rate_sizes rate r).packed;
    }

pub sized_yes : (rate packets octets : ℕ) → Sized rate packets octets → size_number rate packets octets ≡ 0
unfolding size_number
sized_yes rate packets octets s =
    let o : octets ≡ data_octets_of rate = s.octets ∙ sym (rate_sizes rate s.known).packed in
    rw (s.known, eq-eqb packets (188 * packets_of rate) s.packets, eq-eqb octets (data_octets_of rate) o)

-- what a packing with number 0 had
pub record PackReady (rate : ℕ) (packets : List ℕ) (room : ℕ) : Type 0 where
  pub sized : Sized rate (length packets) room
  pub syncs : every (packets_of rate) (begins_sync packets) ≡ true

pub pack_ready : (rate : ℕ) (packets : List ℕ) (room : ℕ) → pack_number rate packets room ≡ 0 → PackReady rate packets room
unfolding pack_number
pack_ready rate packets room h =
    let a = then_zero (size_number rate (length packets) room) _ h in
    record { sized = sized rate (length packets) room a.0; syncs = not_refused (every (packets_of rate) (begins_sync packets)) SYNC (omega arith) a.1 }

pub pack_ready_yes : (rate : ℕ) (packets : List ℕ) (room : ℕ) → PackReady rate packets room → pack_number rate packets room ≡ 0
unfolding pack_number
pack_ready_yes rate packets room r =
    then_both (size_number rate (length packets) room) _ (sized_yes rate (length packets) room r.sized) (rw r.syncs)

-- packing makes octets of octets
pub packed_octets : (n : ℕ) (packets : List ℕ) → Octets packets → Octets (packed n packets)
packed_octets zero packets o = λ k. rw (packed_none packets) (omega arith)
packed_octets (suc n) packets o =
    rw (← add-one n, packed_more n packets)
    (below_append 255 (packed n packets) _ (packed_octets n packets o) (below_part 255 (188 * n + 1) (188 * (n + 1)) packets o))

pub pack_unpack : (rate : ℕ) (packets : List ℕ) (room : ℕ) → pack_number rate packets room ≡ 0
    → BackAgain (unpack_number rate (packed (packets_of rate) packets) (length packets)) (unpacked (packets_of rate) (packed (packets_of rate) packets)) packets
unfolding unpack_number
pack_unpack rate packets room h =
    let r = pack_ready rate packets room h in
    let l = r.sized.packets in
    record {
      taken = sized_yes rate (length packets) _ (record { known = r.sized.known; packets = l; octets = length_packed (packets_of rate) packets l });
      same = unpacked_packed (packets_of rate) packets l r.syncs;
    }

pub unpack_pack : (rate : ℕ) (octets : List ℕ) (room : ℕ) → unpack_number rate octets room ≡ 0
    → BackAgain (pack_number rate (unpacked (packets_of rate) octets) (length octets)) (packed (packets_of rate) (unpacked (packets_of rate) octets)) octets
unfolding unpack_number
unpack_pack rate octets room h =
    let s = sized rate room (length octets) h in
    let l = s.octets in
    let n = packets_of rate in
    record {
      taken =
          pack_ready_yes rate (unpacked n octets) (length octets)
          (record { sized = record { known = s.known; packets = length_unpacked n octets l; octets = l }; syncs = unpacked_syncs n octets l });
      same = packed_unpacked n octets l;
    }
