-- What document 02, N6, asks of signal points, as statements over the definitions that the contracts of the public entries cite.
use Rattle.std.specs.Prelude.{◌≡◌, Bool, true, false, ◌&&◌, List, ◌⊎◌, ℕ, ◌+◌, ◌*◌, ◌%◌, ◌^◌, ◌<◌, T, ltb, Float, Result, Ok, Err, length, get_or}
use Rattle.std.specs.Float.{nan, binary32}
use Rattle.std.specs.Float.Ieee.{neg, is_nan, fits, to_bits, of_bits}
use Rattle.std.specs.Float.Ieee.Scale.{finite}
use Rattle.lists.specs.Count.{every}
use Rattle.refusal.specs.Answers.{number_of}
use Rattle.refusal.specs.declared.Refusal.{Refusal}
use Rattle.refusal.specs.Numbers.{PLAN, LENGTH, REGISTER, PARITY, LABEL, COORDINATE}
use Rattle.dispersal.specs.Register.{step, top, settings_ok}
use Rattle.plan.specs.Rates.{modulation_ok, symbols_of}
use Rattle.symbols.specs.Labels.{block_labels, labels_of_slot, labels_of_block, label_number}
use Rattle.points.specs.declared.Point.{Point}
use Rattle.points.specs.Points.{quarter_turn, half_turn, lent_point, bpsk, point_of, arranged_width, arranged_of, in_phase_of, quadrature_of, used_ok}
use Rattle.points.specs.declared.PointValues.{PointValues}
use Rattle.points.specs.Answers.{no_coordinate, as_values, point_values, Answers}
use Rattle.points.specs.Numbers.{lent_ok, room_ok, point_number, arranged_number, points_number, step_answer}

-- "The answer is a point with both coordinates, or the refusal": a contract with number n and point p leaves one answer
pub record PointOrRefusal (n : ℕ) (p : Point) (r : Result Point Refusal) : Type 0 where
  pub accepted : n ≡ 0 → r ≡ Ok p
  pub refused : (n ≡ 0 → ⊥) → (e : Refusal) × (r ≡ Err e) × (number_of e ≡ n)
  -- only the refusal of a parity, which no call on points gives, has more to it than its number
  pub alone : (n ≡ PARITY → ⊥) → (s : Result Point Refusal) → Answers n p s → s ≡ r

-- so the contract of each call leaves one answer, whatever is handed in
pub record OneAnswer : Type 0 where
  pub any : (n : ℕ) (p : Point) (r : Result Point Refusal) → Answers n p r → PointOrRefusal n p r
  pub point : (m label symbol : ℕ) (ins quads : List Float) (p : Point) (r s : Result Point Refusal)
      → Answers (point_number m label symbol ins quads) p r
      → Answers (point_number m label symbol ins quads) p s
      → s ≡ r
  pub arranged : (m label symbol : ℕ) (ins quads : List Float) (mask register : ℕ) (p : Point) (r s : Result Point Refusal)
      → Answers (arranged_number m label symbol ins quads mask register) p r
      → Answers (arranged_number m label symbol ins quads mask register) p s → s ≡ r

-- the same for C, where number and coordinates stand side by side: those of the point where the number is 0; and "Every other
-- number returned with a refusal is 0" (document 01), so that both are +0 where it is not
pub record SideBySide (n : ℕ) (p : Point) (v : PointValues) : Type 0 where
  pub number_is : v.number ≡ n
  pub accepted : n ≡ 0 → (v.i ≡ p.i) × (v.q ≡ p.q)
  pub refused : (n ≡ 0 → ⊥) → (v.i ≡ no_coordinate) × (v.q ≡ no_coordinate)

pub record AnswerByValue : Type 0 where
  pub told : (n : ℕ) (p : Point) → SideBySide n p (point_values n p)
  -- it is made of the answer's number and values
  pub made : (n : ℕ) (p : Point) (r : Result Point Refusal) → Answers n p r → as_values r ≡ point_values n p

-- "For BPSK the caller gives the symbol number from 1 in the frame .., and even symbols turn by 90 degrees anticlockwise, which
-- makes (I, Q) into (−Q, I)"; other symbols, and other modulations, have the lent point
pub record SymbolsTurned : Type 0 where
  pub odd : (k : ℕ) (ins quads : List Float) (label : ℕ) → point_of bpsk (1 + 2 * k) ins quads label ≡ lent_point ins quads label
  pub even : (k : ℕ) (ins quads : List Float) (label : ℕ)
      → point_of bpsk (2 + 2 * k) ins quads label ≡ record { i = neg (get_or quads label nan); q = get_or ins label nan }
  pub others : (m symbol : ℕ) (ins quads : List Float) (label : ℕ) → (m ≡ bpsk → ⊥) → point_of m symbol ins quads label ≡ lent_point ins quads label

-- "Symbols of the signal point arrangement signal turn by 180 degrees where a 15-bit register gives 1": by the register's bit of
-- weight 2^14
pub record ArrangedTurned : Type 0 where
  pub one : (register : ℕ) (p : Point) → top arranged_width register ≡ 1 → arranged_of register p ≡ record { i = neg p.i; q = neg p.q }
  pub zero : (register : ℕ) (p : Point) → top arranged_width register ≡ 0 → arranged_of register p ≡ p

-- "a call of its own steps it, refusing only 6": and the register that it returns is not refused by the next call
pub record RegisterStepped (mask register : ℕ) : Type 0 where
  pub stepped : settings_ok arranged_width mask register ≡ true
      → step_answer mask register ≡ record { number = 0; register = step arranged_width mask register }
  pub refused : settings_ok arranged_width mask register ≡ false → step_answer mask register ≡ record { number = REGISTER; register = 0 }
  pub again : settings_ok arranged_width mask register ≡ true → settings_ok arranged_width mask (step_answer mask register).register ≡ true

abbrev pub ArrangedStepped : Type 0
ArrangedStepped = (mask register : ℕ) → RegisterStepped mask register

-- "Every coordinate is right": it is an entry of the label, or one with its sign turned over
abbrev pub EntryOrNegation : List Float → List Float → ℕ → Float → Type 0
EntryOrNegation ins quads label x =
    ((x ≡ get_or ins label nan) ⊎ (x ≡ neg (get_or ins label nan))) ⊎ ((x ≡ get_or quads label nan) ⊎ (x ≡ neg (get_or quads label nan)))

pub record CoordinatesLent (m symbol : ℕ) (ins quads : List Float) (label : ℕ) : Type 0 where
  pub i : EntryOrNegation ins quads label (point_of m symbol ins quads label).i
  pub q : EntryOrNegation ins quads label (point_of m symbol ins quads label).q
  pub arranged_i : (register : ℕ) → EntryOrNegation ins quads label (arranged_of register (point_of m symbol ins quads label)).i
  pub arranged_q : (register : ℕ) → EntryOrNegation ins quads label (arranged_of register (point_of m symbol ins quads label)).q

-- "to the last bit, signs of zero too": turning a sign over changes the first of the 32 bits and no other, of every float but a
-- NaN, which no accepted call uses; worked for both zeros
pub record SignsTurned : Type 0 where
  pub bits : (x : Float) → T (fits binary32 x) → is_nan x ≡ false → to_bits binary32 (neg x) ≡ (to_bits binary32 x + 2 ^ 31) % 2 ^ 32
  pub zero : to_bits binary32 (neg (of_bits binary32 0)) ≡ 2 ^ 31
  pub minus_zero : to_bits binary32 (neg (of_bits binary32 (2 ^ 31))) ≡ 0

abbrev pub CoordinatesExact : Type 0
CoordinatesExact = ((m symbol : ℕ) (ins quads : List Float) (label : ℕ) → CoordinatesLent m symbol ins quads label) × SignsTurned

-- no accepted call gives out an infinity or a NaN
pub record Finite (p : Point) : Type 0 where
  pub i : finite p.i ≡ true
  pub q : finite p.q ≡ true

pub record PointsFinite : Type 0 where
  pub point : (m label symbol : ℕ) (ins quads : List Float) → point_number m label symbol ins quads ≡ 0 → Finite (point_of m symbol ins quads label)
  pub arranged : (m label symbol : ℕ) (ins quads : List Float) (mask register : ℕ)
      → arranged_number m label symbol ins quads mask register ≡ 0
      → Finite (arranged_of register (point_of m symbol ins quads label))

-- "two half turns give the lent point back", and so do four quarter turns, of which two are a half turn
pub record TurnsBack (p : Point) : Type 0 where
  pub half_turns : half_turn (half_turn p) ≡ p
  pub by_register : (register : ℕ) → arranged_of register (arranged_of register p) ≡ p
  pub quarter_turns : quarter_turn (quarter_turn (quarter_turn (quarter_turn p))) ≡ p
  pub two_quarters : quarter_turn (quarter_turn p) ≡ half_turn p

-- "the order is 1, 6, 4, 12, 18": the first test that fails gives the number
pub record InOrder (modulation register lengths labels entries : Bool) (n : ℕ) : Type 0 where
  pub first : modulation ≡ false → n ≡ PLAN
  pub second : modulation ≡ true → register ≡ false → n ≡ REGISTER
  pub third : modulation ≡ true → register ≡ true → lengths ≡ false → n ≡ LENGTH
  pub fourth : modulation ≡ true → register ≡ true → lengths ≡ true → labels ≡ false → n ≡ LABEL
  pub fifth : modulation ≡ true → register ≡ true → lengths ≡ true → labels ≡ true → entries ≡ false → n ≡ COORDINATE
  pub none : modulation ≡ true → register ≡ true → lengths ≡ true → labels ≡ true → entries ≡ true → n ≡ 0

pub record PointsRefused : Type 0 where
  pub point : (m label symbol : ℕ) (ins quads : List Float)
      → InOrder (modulation_ok m) true (lent_ok m symbol (length ins) (length quads)) (ltb label (2 ^ m)) (used_ok ins quads label) (point_number m label symbol ins quads)
  pub arranged : (m label symbol : ℕ) (ins quads : List Float) (mask register : ℕ)
      → InOrder (modulation_ok m) (settings_ok arranged_width mask register) (lent_ok m symbol (length ins) (length quads)) (ltb label (2 ^ m)) (used_ok ins quads label) (arranged_number m label symbol ins quads mask register)
  pub run : (m symbol : ℕ) (labels : List ℕ) (ins quads : List Float) (i q : ℕ)
      → InOrder (modulation_ok m) true (lent_ok m symbol (length ins) (length quads) && room_ok (length labels) i q) (every (length labels) (λ r. ltb (get_or labels r 0) (2 ^ m))) (every (length labels) (λ r. used_ok ins quads (get_or labels r 0))) (points_number m symbol labels ins quads i q)
  -- "(0 is refused as 4)", for BPSK alone
  pub symbol_0 : (ins quads : ℕ) → lent_ok bpsk 0 ins quads ≡ false
  pub symbol_any : (m symbol ins quads : ℕ) → (m ≡ bpsk → ⊥) → lent_ok m symbol ins quads ≡ lent_ok m 0 ins quads

-- "18 coordinate (an entry used is infinite or not a number)": lists that differ in entries of other labels alone give the same
-- number and the same point
abbrev pub UnusedUnseen : Type 0
UnusedUnseen =
    (m label symbol : ℕ) (ins quads ins' quads' : List Float)
    → length ins ≡ length ins'
    → length quads ≡ length quads'
    → get_or ins label nan ≡ get_or ins' label nan
    → get_or quads label nan ≡ get_or quads' label nan
    → (point_number m label symbol ins quads ≡ point_number m label symbol ins' quads') × (point_of m symbol ins quads label ≡ point_of m symbol ins' quads' label)

-- the points of a run of labels are those of the labels, one by one, under the symbol number of each; the run is accepted where
-- each label is
pub record OneByOne (m symbol : ℕ) (labels : List ℕ) (ins quads : List Float) : Type 0 where
  pub i_long : length (in_phase_of m symbol labels ins quads) ≡ length labels
  pub q_long : length (quadrature_of m symbol labels ins quads) ≡ length labels
  pub i : (r : ℕ) → r < length labels → get_or (in_phase_of m symbol labels ins quads) r nan ≡ (point_of m (symbol + r) ins quads (get_or labels r 0)).i
  pub q : (r : ℕ) → r < length labels → get_or (quadrature_of m symbol labels ins quads) r nan ≡ (point_of m (symbol + r) ins quads (get_or labels r 0)).q
  pub each : (i q : ℕ) → points_number m symbol labels ins quads i q ≡ 0 → (r : ℕ) → r < length labels → point_number m (get_or labels r 0) (symbol + r) ins quads ≡ 0
  pub all : 0 < length labels → ((r : ℕ) → r < length labels → point_number m (get_or labels r 0) (symbol + r) ins quads ≡ 0)
      → points_number m symbol labels ins quads (length labels) (length labels) ≡ 0

abbrev pub RunOneByOne : Type 0
RunOneByOne = (m symbol : ℕ) (labels : List ℕ) (ins quads : List Float) → OneByOne m symbol labels ins quads

-- "The modulator wants points, not labels": the labels that the symbol calls make of slots and of TMCC blocks are runs, as many
-- as there are symbols, and none of them is refused as 12
pub record LabelsTaken : Type 0 where
  pub slot_many : (m rate : ℕ) (slot : List ℕ) → length (labels_of_slot m rate slot) ≡ symbols_of m
  pub slot_taken : (m rate : ℕ) (slot : List ℕ) → label_number m (labels_of_slot m rate slot) ≡ 0
  pub block_many : (block : List ℕ) → length (labels_of_block block) ≡ block_labels
  pub block_taken : (block : List ℕ) → label_number bpsk (labels_of_block block) ≡ 0
