-- What was filled and is read with its reports, some slots lost, is what arrives of it.
use Rattle.std.specs.Prelude.{◌≡◌, Bool, true, not, ◌&&◌, List, [], ℕ, ◌+◌, ◌-◌, ◌*◌, ◌/◌, ◌<◌, ◌≤◌, leb, length, get_or}
use Rattle.std.proofs.Math.Path.{refl}
use Rattle.std.proofs.Common.{ap, ◌∙◌, arith}
use Rattle.std.proofs.Math.Bool.{false}
use Rattle.std.proofs.Math.Decide.{dec_lt}
use borrow.Author.Tests.{le-ltb, le-leb, leb-true}
use Rattle.std.proofs.Math.Dec.{ltb}
use Rattle.lists.specs.Choice.{pick}
use Rattle.lists.specs.ChoiceLaws.{clash}
use Rattle.lists.specs.Parts.{part}
use Rattle.lists.specs.Count.{first, joined}
use Rattle.lists.specs.CountLaws.{get_or_table, joined_same}
use Rattle.tlv.specs.Packets.{octets, packets_ok, size_at, empty_null, head_at}
use Rattle.tlv.specs.Fill.{stream_at, stream_begins, filled, reports}
use Rattle.tlv.specs.FillLaws.{reports_at_law}
use Rattle.tlv.specs.Honest.{stream_honest}
use Rattle.tlv.specs.Read.{lost_slot, meets, read, start}
use Rattle.tlv.specs.Sent.{cut_at, sent_packet, plain_packet}
use Rattle.tlv.specs.SentLaws.{arrives_sent}
use Rattle.tlv.specs.PacketLaws.{head_packet}
use Rattle.tlv.specs.SlotLaws.{read_same, met}
use Rattle.tlv.specs.ReadLaws.{arrives, Told, report_told, read_honest}

-- the same octets in all slots that are not lost
abbrev pub Agree : ℕ → ℕ → List ℕ → List ℕ → List ℕ → Type 0
Agree D n lost xs ys = (i : ℕ) → i < D * n → lost_slot lost (i / D) ≡ false → get_or xs i 0 ≡ get_or ys i 0

module _ (D n : ℕ) (pos : 0 < D) (small : D ≤ 65535) (some : 0 < n) (packets : List ℕ) (taken owed : ℕ) (ok : packets_ok packets ≡ true) where
  reports_told : (k : ℕ) → k < n → Told D (stream_begins packets taken owed) k (get_or (reports D n packets taken owed) k 0)
  reports_told k h = rw (reports_at_law D n packets taken owed k h) (report_told D small (stream_begins packets taken owed) k)

  pub filled_read : (lost slots : List ℕ) → Agree D n lost slots (filled packets taken owed (D * n))
      → (f : ℕ) → ((f ≡ 65535 → ⊥) → f ≡ get_or (reports D n packets taken owed) 0 0)
      → read D n lost (reports D n packets taken owed) (octets slots) (D * n) (start D n lost (reports D n packets taken owed) f)
      ≡ record {
        written = joined (D * n) (arrives D n lost (stream_at packets taken owed) (stream_begins packets taken owed));
        unfinished = first (D * n) (cut_at D n lost (stream_at packets taken owed) (stream_begins packets taken owed));
      }
  unfolding filled
  filled_read lost slots same f h =
      read_same D n pos lost (reports D n packets taken owed) (octets slots) (stream_at packets taken owed)
      (λ i l e. same i l e ∙ get_or_table (D * n) (stream_at packets taken owed) i l) (D * n) (start D n lost (reports D n packets taken owed) f)
      ∙ read_honest D n pos lost (reports D n packets taken owed) (stream_at packets taken owed) (stream_begins packets taken owed)
      (stream_honest packets ok taken owed) reports_told some f h

  -- exactly the sent packets that lie whole in the slots, touch no lost slot and are no empty nulls, in order; and
  -- the cut one that touches no lost slot is the unfinished one
  pub round_trip : taken ≤ length packets → owed ≤ D * n → (lost slots : List ℕ) → Agree D n lost slots (filled packets taken owed (D * n))
      → (f : ℕ) → ((f ≡ 65535 → ⊥) → f ≡ get_or (reports D n packets taken owed) 0 0)
      → read D n lost (reports D n packets taken owed) (octets slots) (D * n) (start D n lost (reports D n packets taken owed) f)
      ≡ record {
        written = joined (length packets) (sent_packet D n lost packets taken owed);
        unfinished = first (D * n) (cut_at D n lost (stream_at packets taken owed) (stream_begins packets taken owed));
      }
  round_trip within room lost slots same f h =
      filled_read lost slots same f h
      ∙ ap (λ (xs : List ℕ). record { written = xs; unfinished = first (D * n) (cut_at D n lost (stream_at packets taken owed) (stream_begins packets taken owed)) })
      (arrives_sent D n lost packets taken owed ok within room)

-- without marks, and with room for all, these are all packets from `taken` on that are no empty nulls
module _ (D n : ℕ) (lost packets : List ℕ) (taken owed : ℕ) (ok : packets_ok packets ≡ true) where
  plain_one : ((k : ℕ) → k < n → lost_slot lost k ≡ false) → owed + (length packets - taken) ≤ D * n → (j : ℕ) → j < length packets
      → sent_packet D n lost packets taken owed j ≡ plain_packet packets taken j
  unfolding sent_packet plain_packet
  plain_one none room j l = go (leb taken j) (head_at packets j) refl refl
    where
      unmet : (p e : ℕ) → Dec (meets D n lost p e < n) → ltb (meets D n lost p e) n ≡ false
      unmet p e (yes m) = absurd (clash _ (none _ m) (met D n lost p e m).gone)
      unmet p e (no m) = le-ltb _ n (omega arith)

      go : (x y : Bool) → leb taken j ≡ x → head_at packets j ≡ y
          → pick (x && (y && (not (ltb (meets D n lost (owed + (j - taken)) (owed + (j - taken) + size_at (octets packets) j)) n)
          && (leb (owed + (j - taken) + size_at (octets packets) j) (D * n) && not (empty_null (octets packets) j))))) (part j (j + size_at (octets packets) j) packets) []
          ≡ pick (x && (y && not (empty_null (octets packets) j))) (part j (j + size_at (octets packets) j) packets) []
      go false y a b = refl
      go true false a b = refl
      go true true a b =
          let w = (head_packet (octets packets) (length packets) (length packets) 0 j ok b l).within in
          let t = leb-true taken j a in
          rw (unmet (owed + (j - taken)) (owed + (j - taken) + size_at (octets packets) j) (dec_lt _ n), le-leb (owed + (j - taken) + size_at (octets packets) j) (D * n) (omega arith))

  pub plain_all : ((k : ℕ) → k < n → lost_slot lost k ≡ false) → owed + (length packets - taken) ≤ D * n
      → joined (length packets) (sent_packet D n lost packets taken owed) ≡ joined (length packets) (plain_packet packets taken)
  plain_all none room = joined_same (length packets) _ _ (plain_one none room)
