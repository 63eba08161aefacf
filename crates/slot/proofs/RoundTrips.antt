-- Coding and then reading a slot, and reading and then coding one: over the definitions of a slot, and over the calls
-- with their numbers, states and areas. Reading answers 0 exactly when both checks hold. The state after a slot is
-- the same whether it was coded or read, read well or not, and it is sound for the next call.
use Rattle.std.specs.Prelude.{◌≡◌, List, ◌↔◌, ℕ, length}
use Rattle.std.proofs.Common.{sym, ap, ◌∙◌, inl, arith, eq-eqb}
use Rattle.lists.specs.Runs.{Octets}
use Rattle.lists.specs.Choice.{pick, and_then}
use Rattle.lists.specs.ChoiceLaws.{then_zero, then_next, then_both}
use Rattle.bits.specs.Octets.{bits_of}
use Rattle.bits.specs.OctetLaws.{octets_bits}
use Rattle.dispersal.specs.RegisterLaws.{after_ok}
use Rattle.plan.specs.Needs.{Rows}
use Rattle.plan.specs.declared.FrameState.{FrameState}
use Rattle.plan.specs.Sizes.{slot_width}
use Rattle.plan.specs.States.{sound_number}
use Rattle.plan.proofs.StateLaws.{sound_yes, moved_sound}
use Rattle.codeword.proofs.CallLaws.{lent_lengths}
use Rattle.codeword.proofs.AnswerLaws.{earlier_none}
use Rattle.codeword.proofs.WordLaws.{Message}
use Rattle.codeword.specs.Reading.{taken_off, message_in, Good}
use Rattle.codeword.proofs.ReadingLaws.{Received}
use Rattle.codeword.proofs.RoundTrips.{coded_read as word_back, coded_again as word-again, coded_same as IsWord-same}
use Rattle.slot.specs.Slots.{source_octets, covered_bits, stuff_bits, slot_shape, slot_of, register_after}
use Rattle.slot.proofs.SlotLaws.{Source, fits, message, length_slot_of}
use Rattle.slot.specs.Reading.{received_number, stuff_in, stuff_ones, source_of, MovesOn}
use Rattle.slot.proofs.ReadingLaws.{stuff_ones_law, received_numbers, received_good, source_of_source, source_of_bits}
use Rattle.slot.specs.Calls.{rows_at, data_number, slot_number, next_state, code_answer, code_area, read_number, read_answer, read_area, Reads, CodedAgain, CodedBack}
use Rattle.slot.proofs.CallLaws.{accepted_slot, slot_earlier}

-- that reading the slot c answers 0 and gives these header and data octets, and stuff bits of ones
pub record ReadsAs (R : ℕ) (t : List ℕ) (mask r : ℕ) (c octets : List ℕ) : Type 0 where
  pub number : received_number R t mask r c ≡ 0
  pub source : source_of R mask r c ≡ octets
  pub stuff : stuff_in R mask r c ≡ stuff_ones

-- coding and then reading returns header and data
pub coded_read : (R : ℕ) (t : List ℕ) (mask r : ℕ) (source : List ℕ) → Rows R → Source R source → ReadsAs R t mask r (slot_of R t mask r source) source
unfolding received_number source_of slot_of
coded_read R t mask r source w o =
    let F = slot_shape R in
    let c = slot_of R t mask r source in
    let long = length_slot_of R t mask r source in
    let b = word_back F t mask r (bits_of source) stuff_bits (fits R w) (message R source w o.long) in
    record {
      number = b.number;
      source = rw b.message (octets_bits (source_octets R) source o.long o.octets);
      stuff = (stuff_ones_law R mask r c w long).0 b.tail;
    }

-- an accepted slot coded again at the same register, from the header and data that were read
pub read_coded : (R : ℕ) (t : List ℕ) (mask r : ℕ) (c : List ℕ) → Rows R → Received (slot_shape R) c → received_number R t mask r c ≡ 0
    → CodedAgain R t mask r (stuff_in R mask r c) c (slot_of R t mask r (source_of R mask r c))
unfolding received_number slot_of
read_coded R t mask r c w o h =
    let F = slot_shape R in
    let e = source_of_bits R mask r c w o.long in
    let m : Message F (message_in F (taken_off F mask r c)) stuff_bits = rw e at (message R (source_of R mask r c) w (source_of_source R mask r c).long) in
    let a = IsWord-same F t mask r c (fits R w) o h stuff_bits m in
    let b = stuff_ones_law R mask r c w o.long in
    rw e (record { same = ((λ d. b.0 (a.0 d)), (λ d. a.1 (b.1 d))); anew = word-again F t mask r c (fits R w) o h stuff_bits })

-- of the lent areas only the lengths count for the number of a call
pub slot_number_lengths : (s : FrameState) (t source coded source' coded' : List ℕ) → length source ≡ length source' → length coded ≡ length coded'
    → slot_number s t source coded ≡ slot_number s t source' coded'
unfolding slot_number
slot_number_lengths s t source coded source' coded' l m =
    ap (and_then (data_number s)) (lent_lengths (slot_shape (rows_at s)) (source_octets (rows_at s)) t source coded source' coded' l m)

-- a reading that is refused for nothing before the slot itself is read answers 0 exactly when both checks hold
pub read_good : (s : FrameState) (t coded source : List ℕ) → slot_number s t source coded ≡ 0
    → ((read_answer s t coded source).number ≡ 0) ↔ Good (slot_shape (rows_at s)) t s.mask s.register coded
unfolding read_answer read_number
read_good s t coded source h =
    let a = accepted_slot s t source coded h in
    rw (then_next (slot_number s t source coded) (received_number (rows_at s) t s.mask s.register coded) h)
    (received_good (rows_at s) t s.mask s.register coded a.place.rows a.areas.coded_long)

-- a reading that moves on is one that was refused for nothing before the slot itself was read
pub read_moves : (s : FrameState) (t coded source : List ℕ) → MovesOn (read_answer s t coded source).number ↔ (slot_number s t source coded ≡ 0)
unfolding read_answer read_number
read_moves s t coded source =
    let n = slot_number s t source coded in
    let found = received_number (rows_at s) t s.mask s.register coded in (
      earlier_none n found (slot_earlier s t source coded),
      (λ e. rw (then_next n found e) (received_numbers (rows_at s) t s.mask s.register coded)),
    )

-- the state after a slot: one place on, with the register stepped over what is dispersed
pub coded_state : (s : FrameState) (t source coded : List ℕ) → (code_answer s t source coded).number ≡ 0 → (code_answer s t source coded).state ≡ next_state s
unfolding code_answer
coded_state s t source coded h = rw (eq-eqb (slot_number s t source coded) 0 h)

pub read_state : (s : FrameState) (t coded source : List ℕ) → MovesOn (read_answer s t coded source).number → (read_answer s t coded source).state ≡ next_state s
unfolding read_answer
read_state s t coded source m = ap (λ b. pick b (next_state s) s) (eq-eqb (slot_number s t source coded) 0 ((read_moves s t coded source).0 m))

-- it is the same whether the slot was coded, read well, or read with 8 or 9
pub next_same : (s : FrameState) (t source coded t' coded' source' : List ℕ)
    → (code_answer s t source coded).number ≡ 0 → MovesOn (read_answer s t' coded' source').number
    → (code_answer s t source coded).state ≡ (read_answer s t' coded' source').state
next_same s t source coded t' coded' source' h m = coded_state s t source coded h ∙ sym (read_state s t' coded' source' m)

-- a state handed back is never refused for its plan or its register by the next call
next_sound : (s : FrameState) (t source coded : List ℕ) → slot_number s t source coded ≡ 0 → sound_number (next_state s) ≡ 0
unfolding register_after
next_sound s t source coded h =
    let o = (accepted_slot s t source coded h).place.ready.sound in
    let n = covered_bits (rows_at s) in
    sound_yes (next_state s) (moved_sound s (register_after (rows_at s) s.mask s.register) o (after_ok slot_width s.mask s.register n (omega arith) o.mask o.register))

pub coded_next : (s : FrameState) (t source coded : List ℕ) → (code_answer s t source coded).number ≡ 0 → sound_number (code_answer s t source coded).state ≡ 0
unfolding code_answer
coded_next s t source coded h = rw (coded_state s t source coded h) (next_sound s t source coded h)

pub read_next : (s : FrameState) (t coded source : List ℕ) → MovesOn (read_answer s t coded source).number → sound_number (read_answer s t coded source).state ≡ 0
read_next s t coded source m = rw (read_state s t coded source m) (next_sound s t source coded ((read_moves s t coded source).0 m))

-- a slot that was coded with 0, read at the same state with the same table: 0, the same next state, stuff bits of ones, header
-- and data
pub code_then_read : (s : FrameState) (t source coded out : List ℕ) → Octets source → length out ≡ length source
    → (code_answer s t source coded).number ≡ 0
    → Reads (read_answer s t (code_area s t source coded) out) (read_area s t (code_area s t source coded) out) (code_answer s t source coded).state stuff_ones source
unfolding code_answer code_area read_answer read_area read_number
code_then_read s t source coded out o l h =
    let R = rows_at s in
    let c = slot_of R t s.mask s.register source in
    let a = accepted_slot s t source coded h in
    let again = coded_read R t s.mask s.register source a.place.rows (record { octets = o; long = a.areas.source_long }) in
    let area : code_area s t source coded ≡ c = rw (eq-eqb (slot_number s t source coded) 0 h) in
    let n : slot_number s t out c ≡ 0 = slot_number_lengths s t out c source coded l (length_slot_of R t s.mask s.register source ∙ sym a.areas.coded_long) ∙ h in
    let k : read_number s t c out ≡ 0 = then_both (slot_number s t out c) _ n again.number in
    rw area (record {
      number = k;
      state = sym (next_same s t source coded t c out h (inl k));
      stuff_is = rw (eq-eqb (read_number s t c out) 0 k) again.stuff;
      octets_are = rw (eq-eqb (read_number s t c out) 0 k) again.source;
    })

-- a slot that was read with 0, coded again at the same state with the same table: 0, the same next state, the slot again
pub read_then_code : (s : FrameState) (t coded source out : List ℕ) → Octets coded → length out ≡ length coded
    → (read_answer s t coded source).number ≡ 0
    → CodedBack s t (read_answer s t coded source) (code_answer s t (read_area s t coded source) out) coded (code_area s t (read_area s t coded source) out)
unfolding code_answer code_area read_answer read_area read_number
read_then_code s t coded source out o l h =
    let R = rows_at s in
    let m = source_of R s.mask s.register coded in
    let z = then_zero (slot_number s t source coded) _ h in
    let a = accepted_slot s t source coded z.0 in
    let area : read_area s t coded source ≡ m = rw (eq-eqb (read_number s t coded source) 0 h) in
    let n : slot_number s t m out ≡ 0 = slot_number_lengths s t m out source coded ((source_of_source R s.mask s.register coded).long ∙ sym a.areas.source_long) l ∙ z.0 in
    rw area (record {
      number = n;
      state = next_same s t m out t coded source n (inl h);
      slot =
          rw (eq-eqb (slot_number s t m out) 0 n, eq-eqb (read_number s t coded source) 0 h)
          (read_coded R t s.mask s.register coded a.place.rows (record { octets = o; long = a.areas.coded_long }) z.1);
    })
