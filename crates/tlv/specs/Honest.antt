-- An honest stream: what begins is a right packet, and the next begins behind it. Filling makes one.
use Rattle.std.specs.Prelude.{◌≡◌, Bool, true, false, not, List, ℕ, ◌+◌, ◌-◌, ◌%◌, ◌<◌, ◌≤◌, ltb}
use Rattle.std.proofs.Common.{sym, ◌∙◌}
use Rattle.std.proofs.Math.Path.{ap}
use Rattle.std.proofs.Math.Decide.{dec_lt}
use native.Mathlib.Omega.{arith}
use borrow.Author.Tests.{lt-ltb, le-ltb, ltb-false, eq-eqb, ne_eqb, eqb-true, not-true}
use Rattle.std.proofs.Math.ListN.{length, get_or}
use Rattle.lists.specs.ChoiceLaws.{and_left}
use Rattle.tlv.specs.Packets.{octets, packets_ok, type_ok, head_ok, size_at, body_ok, head_at}
use Rattle.tlv.specs.PacketLaws.{Packet, size_least, head_same, size_same, body_same, head_packet, head_next, head_between}
use Rattle.tlv.specs.Fill.{filler, sent_at, sent_begins, stream_at, stream_begins}
use Rattle.tlv.specs.FillLaws.{sent_behind, begins_behind}

-- the octets o, with a beginning at p
pub record HonestAt (o : ℕ → ℕ) (b : ℕ → Bool) (p : ℕ) : Type 0 where
  pub head : head_ok o p ≡ true
  pub body : body_ok o p ≡ true
  pub next : b (p + size_at o p) ≡ true
  pub between : (i : ℕ) → p < i → i < p + size_at o p → b i ≡ false

abbrev pub Honest : (ℕ → ℕ) → (ℕ → Bool) → Type 0
Honest o b = (p : ℕ) → b p ≡ true → HonestAt o b p

-- a stream that is another one from t on, w octets later, with no beginnings before
honest_later : (o u : ℕ → ℕ) (b d : ℕ → Bool) (t w : ℕ) → ((i : ℕ) → w ≤ i → o i ≡ u (t + (i - w))) → ((i : ℕ) → w ≤ i → b i ≡ d (t + (i - w)))
    → Honest u d → (p : ℕ) → w ≤ p → b p ≡ true → HonestAt o b p
honest_later o u b d t w f g h p l e =
    let j : ℕ = t + (p - w) in
    let a : HonestAt u d j = h j (sym (g p l) ∙ e) in
    let same : (k : ℕ) → k < size_at o p → o (p + k) ≡ u (j + k) = λ k _. f (p + k) (omega arith) ∙ ap u (shift k) in
    let four = size_least o p in
    let size : size_at o p ≡ size_at u j = size_same o u p j (size_at o p) same four in
    record {
      head = head_same o u p j (size_at o p) same four ∙ a.head;
      body = body_same o u p j (size_at o p) same four (omega arith) ∙ a.body;
      next = g (p + size_at o p) (omega arith) ∙ ap d (shift (size_at o p) ∙ ap (λ (k : ℕ). j + k) size) ∙ a.next;
      between = λ i x y. g i (omega arith) ∙ a.between (t + (i - w)) (omega arith) (omega arith);
    }
  where
    shift : (k : ℕ) → t + (p + k - w) ≡ t + (p - w) + k
    shift k = omega arith

module _ (packets : List ℕ) where
  pub sent_within : (j : ℕ) → j < length packets → sent_at packets j ≡ get_or packets j 0
  unfolding sent_at
  sent_within j h = rw (lt-ltb j (length packets) h)

  pub begins_within : (j : ℕ) → j < length packets → sent_begins packets j ≡ head_at packets j
  unfolding sent_begins
  begins_within j h = rw (lt-ltb j (length packets) h)

  -- behind the packets
  filler_honest : (j : ℕ) → length packets ≤ j → sent_begins packets j ≡ true → HonestAt (sent_at packets) (sent_begins packets) j
  unfolding head_ok type_ok size_at body_ok Rattle.lists.specs.Count.every
  filler_honest j l e =
      let r : (j - length packets) % 4 ≡ 0 = eqb-true ((j - length packets) % 4) 0 (sym (begins_behind packets j l) ∙ e) in
      let same : (k : ℕ) → k < 4 → sent_at packets (j + k) ≡ octets filler (0 + k)
      = λ k m. let d : (j + k - length packets) % 4 ≡ 0 + k = omega arith in sent_behind packets (j + k) (omega arith) ∙ ap (λ (i : ℕ). get_or filler i 0) d in
      let size : size_at (sent_at packets) j ≡ 4 = size_same (sent_at packets) (octets filler) j 0 4 same (omega arith) in
      record {
        head = head_same (sent_at packets) (octets filler) j 0 4 same (omega arith);
        body = body_same (sent_at packets) (octets filler) j 0 4 same (omega arith) (omega arith);
        next = rw size (begins_behind packets (j + 4) (omega arith) ∙ eq-eqb ((j + 4 - length packets) % 4) 0 (omega arith));
        between = λ i x y. begins_behind packets i (omega arith) ∙ ne_eqb ((i - length packets) % 4) 0 (omega arith);
      }

  module _ (ok : packets_ok packets ≡ true) where
    packet_honest : (j : ℕ) → j < length packets → sent_begins packets j ≡ true → HonestAt (sent_at packets) (sent_begins packets) j
    packet_honest j l e =
        let o : ℕ → ℕ = octets packets in
        let L : ℕ = length packets in
        let t : head_at packets j ≡ true = sym (begins_within j l) ∙ e in
        let a : Packet o L j = head_packet o L L 0 j ok t l in
        let w : j + size_at o j ≤ L = a.within in
        let four = size_least o j in
        let same : (k : ℕ) → k < size_at o j → sent_at packets (j + k) ≡ o (j + k) = λ k m. sent_within (j + k) (omega arith) in
        let size : size_at (sent_at packets) j ≡ size_at o j = size_same (sent_at packets) o j j (size_at o j) same four in
        record {
          head = head_same (sent_at packets) o j j (size_at o j) same four ∙ a.head;
          body = body_same (sent_at packets) o j j (size_at o j) same four (omega arith) ∙ a.body;
          next = rw size (next t (dec_lt (j + size_at o j) L) w);
          between = λ i x y. begins_within i (omega arith) ∙ head_between o L 0 j i t x (omega arith);
        }
      where
        next : head_at packets j ≡ true → Dec (j + size_at (octets packets) j < length packets)
            → j + size_at (octets packets) j ≤ length packets → sent_begins packets (j + size_at (octets packets) j) ≡ true
        next t (yes m) w = begins_within _ m ∙ head_next (octets packets) (length packets) (length packets) 0 j ok t m
        next t (no m) w =
            begins_behind packets (j + size_at (octets packets) j) (omega arith)
            ∙ eq-eqb ((j + size_at (octets packets) j - length packets) % 4) 0 (omega arith)

    pub sent_honest : Honest (sent_at packets) (sent_begins packets)
    sent_honest j e = go (dec_lt j (length packets))
      where
        go : Dec (j < length packets) → HonestAt (sent_at packets) (sent_begins packets) j
        go (yes l) = packet_honest j l e
        go (no l) = filler_honest j (omega arith) e

    pub stream_honest : (taken owed : ℕ) → Honest (stream_at packets taken owed) (stream_begins packets taken owed)
    unfolding stream_at stream_begins
    stream_honest taken owed p e =
        honest_later (stream_at packets taken owed) (sent_at packets) (stream_begins packets taken owed) (sent_begins packets) taken owed
        (λ i l. rw (le-ltb i owed l))
        (λ i l. rw (le-ltb i owed l))
        sent_honest p (ltb-false p owed (not-true (ltb p owed) (and_left (not (ltb p owed)) _ e))) e
