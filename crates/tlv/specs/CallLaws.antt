-- Laws of the calls' numbers: the ways out of the tests, and what a call with number 0 had.
use Rattle.std.specs.Prelude.{◌≡◌, refl, Bool, true, false, ◌||◌, List, ℕ, zero, suc, ◌+◌, ◌-◌, ◌*◌, ◌/◌, ◌%◌, ◌<◌, ◌≤◌, eqb, leb, ltb, length, get_or}
use Rattle.std.proofs.Math.Path.{sym}
use Rattle.std.proofs.Common.{ap, ap₂, ◌∙◌, mul-le-mul_left, arith}
use Rattle.std.proofs.Math.Nat.{div-add-mod, mul-mod_right}
use Rattle.std.proofs.Math.Decide.{ℕ_discrete}
use borrow.Author.Tests.{lt-ltb, le-ltb, ltb-true, eq-eqb, ne_eqb, eqb-true, leb-true, le-leb}
use Rattle.lists.specs.Choice.{pick}
use Rattle.lists.specs.ChoiceLaws.{and_left, and_right, or_true, then_zero, not_refused}
use Rattle.lists.specs.Count.{every, first}
use Rattle.lists.specs.CountLaws.{every_at, every_all, every_not}
use Rattle.refusal.specs.Numbers.{PLAN, LENGTH, PACKET}
use Rattle.plan.specs.Rates.{rate_ok, data_bits_of, data_octets_of}
use Rattle.plan.proofs.RateLaws.{rate_rows}
use Rattle.tlv.specs.declared.ReadAnswer.{ReadAnswer}
use Rattle.tlv.specs.Packets.{packets_ok}
use Rattle.tlv.specs.Fill.{none, stream_begins, filled, report, reports, taken_after, owed_after}
use Rattle.tlv.specs.FillLaws.{reports_at_law, length_reports}
use Rattle.tlv.specs.Calls.{slots_of, slots_ok, taken_ok, fill_lent, fill_number, fill_answer, fill_slots, fill_begins, place_ok, mark_ok, all_hold, read_ok, read_number, reading_of, read_answer, laid, read_packets}

module _ (D T b : ℕ) where
  pub slots_none : T ≡ 0 → false ≡ slots_ok D T b
  unfolding slots_ok
  slots_none e = rw (le-ltb 0 T (omega arith))

  pub slots_part : (T ≡ 0 → ⊥) → (T % D ≡ 0 → ⊥) → false ≡ slots_ok D T b
  unfolding slots_ok
  slots_part e h = rw (lt-ltb 0 T (omega arith), ne_eqb (T % D) 0 h)

  pub slots_whole : (T ≡ 0 → ⊥) → T % D ≡ 0 → eqb b (T / D) ≡ slots_ok D T b
  unfolding slots_ok
  slots_whole e h = rw (lt-ltb 0 T (omega arith), eq-eqb (T % D) 0 h)

-- the data octets of a known rate's slot
pub record Data (D : ℕ) : Type 0 where
  pub low : 1870 ≤ D
  pub high : D ≤ 5049

pub rate_data : (rate : ℕ) → rate_ok rate ≡ true → Data (data_octets_of rate)
unfolding data_octets_of data_bits_of
rate_data rate h = let w = rate_rows rate h in record { low = omega (arith, w.low); high = omega (arith, w.high) }

-- what lent slots of D octets are
pub record Slots (D T b : ℕ) : Type 0 where
  pub some : 0 < T / D
  pub least : D ≤ T
  pub whole : T ≡ D * (T / D)
  pub reports : b ≡ T / D

pub slots_are : (D T b : ℕ) → 0 < D → slots_ok D T b ≡ true → Slots D T b
unfolding slots_ok
slots_are D T b pos h =
    let t = and_right (ltb 0 T) _ h in
    let z : T % D ≡ 0 = eqb-true (T % D) 0 (and_left (eqb (T % D) 0) _ t) in
    let w : T ≡ D * (T / D) = sym (div-add-mod T D) ∙ omega arith in
    let p = positive (T / D) refl w in
    let m : D * 1 ≤ D * (T / D) = mul-le-mul_left D p in
    record { some = p; least = omega arith; whole = w; reports = eqb-true b (T / D) (and_right (eqb (T % D) 0) _ t) }
  where
    positive : (n : ℕ) → T / D ≡ n → T ≡ D * (T / D) → 0 < T / D
    positive zero e w =
        let l : 0 < T = ltb-true 0 T (and_left (ltb 0 T) _ h) in
        absurd (let z : T ≡ 0 = w ∙ ap (λ (k : ℕ). D * k) e ∙ omega arith in omega arith)
    positive (suc n) e w = omega arith

-- a report that is none or inside its slot
pub place_inside : (D x : ℕ) → place_ok D x ≡ true → (x ≡ none → ⊥) → x < D
place_inside D x h n = go (ltb x D) refl
  where
    go : (t : Bool) → ltb x D ≡ t → x < D
    go true e = ltb-true x D e
    go false e = absurd (n (eqb-true x none (rw e at h)))

pub all_hold_law : (f : ℕ → Bool) (xs : List ℕ) → all_hold f xs ≡ true → (k : ℕ) → k < length xs → f (get_or xs k 0) ≡ true
unfolding all_hold
all_hold_law f xs h k l = every_at (length xs) (λ i. f (get_or xs i 0)) h k l

report_place : (D : ℕ) (b : ℕ → Bool) (k : ℕ) → place_ok D (report D b k) ≡ true
unfolding report
report_place D b k = go (first D (λ i. b (D * k + i))) (ltb (first D (λ i. b (D * k + i))) D) refl
  where
    go : (r : ℕ) (t : Bool) → ltb r D ≡ t → place_ok D (pick t r none) ≡ true
    go r true e = rw e
    go r false e = or_true (ltb none D) (eqb none none) refl

module _ (f : ℕ → Bool) (xs : List ℕ) (k : ℕ) where
  pub hold_not : k < length xs → f (get_or xs k 0) ≡ false → false ≡ all_hold f xs
  unfolding all_hold
  hold_not l e = sym (every_not (length xs) (λ i. f (get_or xs i 0)) k l e)

  pub hold_all : length xs ≤ k → every k (λ i. f (get_or xs i 0)) ≡ true → true ≡ all_hold f xs
  unfolding all_hold
  hold_all l h = sym (every_all (length xs) (λ i. f (get_or xs i 0)) (λ i m. every_at k (λ i. f (get_or xs i 0)) h i (omega arith)))

-- what a reading with number 0 had
pub record ReadReady (rate : ℕ) (slots begins lost : List ℕ) (f area : ℕ) : Type 0 where
  pub known : rate_ok rate ≡ true
  pub octets : Data (data_octets_of rate)
  pub lent : Slots (data_octets_of rate) (length slots) (length begins)
  pub marks : length lost ≡ length begins
  pub room : area ≡ length slots
  pub place : place_ok (data_octets_of rate) f ≡ true
  pub inside : all_hold (place_ok (data_octets_of rate)) begins ≡ true
  pub marked : all_hold mark_ok lost ≡ true

pub read_ready : (rate : ℕ) (slots begins lost : List ℕ) (f area : ℕ) → read_number rate slots begins lost f area ≡ 0 → ReadReady rate slots begins lost f area
unfolding read_number read_ok
read_ready rate slots begins lost f area h =
    let a = then_zero (pick (rate_ok rate) 0 PLAN) _ h in
    let r = not_refused (rate_ok rate) PLAN (omega arith) a.0 in
    let D : ℕ = data_octets_of rate in
    let t = not_refused _ LENGTH (omega arith) a.1 in
    let u = and_right (slots_ok D (length slots) (length begins)) _ t in
    let v = and_right (eqb (length lost) (length begins)) _ u in
    let w = and_right (eqb area (length slots)) _ v in
    let x = and_right (place_ok D f) _ w in
    let d = rate_data rate r in
    record {
      known = r;
      octets = d;
      lent = slots_are D (length slots) (length begins) (omega (arith, d.low)) (and_left (slots_ok D (length slots) (length begins)) _ t);
      marks = eqb-true (length lost) (length begins) (and_left (eqb (length lost) (length begins)) _ u);
      room = eqb-true area (length slots) (and_left (eqb area (length slots)) _ v);
      place = and_left (place_ok D f) _ w;
      inside = and_left (all_hold (place_ok D) begins) _ x;
      marked = and_right (all_hold (place_ok D) begins) _ x;
    }

-- what a filling with number 0 had
pub record FillReady (rate : ℕ) (packets : List ℕ) (taken owed : ℕ) (slots begins : List ℕ) : Type 0 where
  pub known : rate_ok rate ≡ true
  pub octets : Data (data_octets_of rate)
  pub lent : Slots (data_octets_of rate) (length slots) (length begins)
  pub within : taken ≤ length packets
  pub few : owed ≤ 3
  pub owing : (owed ≡ 0 → ⊥) → (taken ≡ 0 → ⊥) → taken ≡ length packets
  pub right : packets_ok packets ≡ true

owing_at : (L taken owed : ℕ) → (eqb owed 0 || (eqb taken 0 || eqb taken L)) ≡ true → (owed ≡ 0 → ⊥) → (taken ≡ 0 → ⊥) → taken ≡ L
owing_at L taken owed h a b = eqb-true taken L (rw (ne_eqb owed 0 a, ne_eqb taken 0 b) at h)

pub fill_ready : (rate : ℕ) (packets : List ℕ) (taken owed : ℕ) (slots begins : List ℕ) → fill_number rate packets taken owed slots begins ≡ 0
    → FillReady rate packets taken owed slots begins
unfolding fill_number fill_lent taken_ok
fill_ready rate packets taken owed slots begins h =
    let L : ℕ = length packets in
    let D : ℕ = data_octets_of rate in
    let a = then_zero (fill_lent rate L taken owed (length slots) (length begins)) _ h in
    let b = then_zero (pick (rate_ok rate) 0 PLAN) _ a.0 in
    let r = not_refused (rate_ok rate) PLAN (omega arith) b.0 in
    let d = rate_data rate r in
    let t = not_refused _ LENGTH (omega arith) b.1 in
    let u = and_right (slots_ok D (length slots) (length begins)) _ t in
    let v = and_right (leb taken L) _ u in
    record {
      known = r;
      octets = d;
      lent = slots_are D (length slots) (length begins) (omega (arith, d.low)) (and_left (slots_ok D (length slots) (length begins)) _ t);
      within = leb-true taken L (and_left (leb taken L) _ u);
      few = leb-true owed 3 (and_left (leb owed 3) _ v);
      owing = owing_at L taken owed (and_right (leb owed 3) _ v);
      right = not_refused (packets_ok packets) PACKET (omega arith) a.1;
    }

-- a refused reading
module _ (rate : ℕ) (slots begins lost : List ℕ) (f : ℕ) (packets : List ℕ) (n : ℕ) (e : n ≡ read_number rate slots begins lost f (length packets)) where
  pub read_refused : (n ≡ 0 → ⊥) → (record { number = n; written = 0; unfinished = 0 } ≡ read_answer rate slots begins lost f packets) × (packets ≡ read_packets rate slots begins lost f packets)
  unfolding read_answer read_packets
  read_refused h =
      let z = ne_eqb (read_number rate slots begins lost f (length packets)) 0 (λ x. h (e ∙ x)) in
      (rw z (ap (λ (k : ℕ). record { number = k; written = 0; unfinished = 0 }) e), rw z)

  pub read_done : n ≡ 0 → (r : ReadAnswer) (left : List ℕ)
      → r ≡ record { number = 0; written = length (reading_of rate slots begins lost f).written; unfinished = (reading_of rate slots begins lost f).unfinished }
      → left ≡ laid (reading_of rate slots begins lost f).written packets
      → (r ≡ read_answer rate slots begins lost f packets) × (left ≡ read_packets rate slots begins lost f packets)
  unfolding read_answer read_packets
  read_done h r left a b = let z = eq-eqb (read_number rate slots begins lost f (length packets)) 0 (sym e ∙ h) in (rw z a, rw z b)

-- a refused filling, and one that is accepted
module _ (rate : ℕ) (packets : List ℕ) (taken owed : ℕ) (slots begins : List ℕ) (n : ℕ) (e : n ≡ fill_number rate packets taken owed slots begins) where
  pub fill_refused : (n ≡ 0 → ⊥)
      → (record { number = n; taken = 0; owed = 0 } ≡ fill_answer rate packets taken owed slots begins)
      × ((slots ≡ fill_slots rate packets taken owed slots begins)
      × (begins ≡ fill_begins rate packets taken owed slots begins))
  unfolding fill_answer fill_slots fill_begins
  fill_refused h =
      let z = ne_eqb (fill_number rate packets taken owed slots begins) 0 (λ x. h (e ∙ x)) in
      (rw z (ap (λ (k : ℕ). record { number = k; taken = 0; owed = 0 }) e), (rw z, rw z))

  pub fill_done : n ≡ 0 → (t w : ℕ) (area told : List ℕ)
      → t ≡ taken_after packets taken owed (length slots)
      → w ≡ owed_after packets taken owed (length slots)
      → area ≡ filled packets taken owed (length slots)
      → told ≡ reports (data_octets_of rate) (slots_of rate slots) packets taken owed
      → (record { number = 0; taken = t; owed = w } ≡ fill_answer rate packets taken owed slots begins)
      × ((area ≡ fill_slots rate packets taken owed slots begins)
      × (told ≡ fill_begins rate packets taken owed slots begins))
  unfolding fill_answer fill_slots fill_begins
  fill_done h t w area told a b c d =
      let z = eq-eqb (fill_number rate packets taken owed slots begins) 0 (sym e ∙ h) in
      (rw z (ap₂ (λ (x y : ℕ). record { number = 0; taken = x; owed = y }) a b), (rw z c, rw z d))

-- the reports of filling are such as reading takes
pub reports_inside : (D n : ℕ) (packets : List ℕ) (taken owed : ℕ) → all_hold (place_ok D) (reports D n packets taken owed) ≡ true
reports_inside D n packets taken owed =
    sym (hold_all (place_ok D) (reports D n packets taken owed) n (omega (arith, length_reports D n packets taken owed))
    (every_all n (λ i. place_ok D (get_or (reports D n packets taken owed) i 0)) (λ k l. ap (place_ok D) (reports_at_law D n packets taken owed k l) ∙ report_place D (stream_begins packets taken owed) k)))

-- what numbers of 0 want
slots_yes : (D T b : ℕ) → 0 < D → Slots D T b → slots_ok D T b ≡ true
unfolding slots_ok
slots_yes D T b pos s =
    let l = s.least in
    let z : T % D ≡ 0 = ap (λ (x : ℕ). x % D) s.whole ∙ mul-mod_right D (T / D) in
    rw (lt-ltb 0 T (omega arith), eq-eqb (T % D) 0 z, eq-eqb b (T / D) s.reports)

pub read_accepted : (rate : ℕ) (slots begins lost : List ℕ) (f area : ℕ) → ReadReady rate slots begins lost f area → read_number rate slots begins lost f area ≡ 0
unfolding read_number read_ok
read_accepted rate slots begins lost f area r =
    let s = slots_yes (data_octets_of rate) (length slots) (length begins) (omega (arith, r.octets.low)) r.lent in
    rw (r.known, s, eq-eqb (length lost) (length begins) r.marks, eq-eqb area (length slots) r.room, r.place, r.inside, r.marked)

taken_yes : (L taken owed : ℕ) → taken ≤ L → owed ≤ 3 → ((owed ≡ 0 → ⊥) → (taken ≡ 0 → ⊥) → taken ≡ L) → taken_ok L taken owed ≡ true
unfolding taken_ok
taken_yes L taken owed l m h = rw (le-leb taken L l, le-leb owed 3 m) (go (ℕ_discrete owed 0) (ℕ_discrete taken 0))
  where
    go : Dec (owed ≡ 0) → Dec (taken ≡ 0) → (eqb owed 0 || (eqb taken 0 || eqb taken L)) ≡ true
    go (yes a) d = rw (eq-eqb owed 0 a)
    go (no a) (yes b) = rw (ne_eqb owed 0 a, eq-eqb taken 0 b)
    go (no a) (no b) = rw (ne_eqb owed 0 a, ne_eqb taken 0 b, eq-eqb taken L (h a b))

pub fill_accepted : (rate : ℕ) (packets : List ℕ) (taken owed : ℕ) (slots begins : List ℕ) → FillReady rate packets taken owed slots begins
    → fill_number rate packets taken owed slots begins ≡ 0
unfolding fill_number fill_lent
fill_accepted rate packets taken owed slots begins r =
    let s = slots_yes (data_octets_of rate) (length slots) (length begins) (omega (arith, r.octets.low)) r.lent in
    let t = taken_yes (length packets) taken owed r.within r.few r.owing in
    rw (r.known, s, t, r.right)
