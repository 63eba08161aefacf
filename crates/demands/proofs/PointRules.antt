-- Document 02, N6, proved.
use Rattle.std.specs.Prelude.{◌≡◌, false, not, ◌&&◌, List, [], ◌∷◌, T, eqb, Float, ℤ, Result, Ok, Err, length, get_or}
use Rattle.std.proofs.Math.Path.{refl}
use Rattle.std.proofs.Common.{sym, ap, ap₂, ◌∙◌, inl, inr}
use Rattle.std.proofs.Math.Bool.{Bool, true}
use Rattle.std.proofs.lemmas.Bool.{false≢true}
use Prim.Native.Nat.{ℕ, ◌+◌, ◌*◌, ◌%◌, ◌^◌, ◌<◌}
use native.Mathlib.Omega.{arith}
use borrow.Author.Tests.{eq-eqb, ne_eqb, ltb-true, lt-ltb}
use Rattle.std.proofs.Math.Dec.{ltb}
use Rattle.std.specs.Float.{nan, inf, fin, binary32}
use Rattle.std.specs.Float.Ieee.{neg, is_nan, fits, to_bits, of_bits}
use Rattle.std.specs.Float.Ieee.Bits.{to_bits-lt}
use Rattle.std.specs.Float.Ieee.Fits.{neg-fits}
use Rattle.std.specs.Float.Ieee.Scale.{finite}
use Rattle.lists.specs.Choice.{pick, and_then}
use Rattle.lists.specs.ChoiceLaws.{pick_each, and_left, and_right, and_both, or_cases, then_zero, not_refused}
use Rattle.lists.specs.Count.{every}
use Rattle.lists.specs.CountLaws.{every_at, every_all}
use Rattle.refusal.specs.Numbers.{PLAN, LENGTH, REGISTER, PARITY, LABEL, COORDINATE}
use Rattle.refusal.specs.declared.Refusal.{Refusal}
use Rattle.demands.specs.CallStatements.{among}
use Rattle.demands.proofs.OneRefusal.{one_refusal}
use Rattle.demands.proofs.NumberRules.{own_numbers}
use Rattle.dispersal.specs.Register.{top, mask_ok, settings_ok}
use Rattle.dispersal.specs.RegisterLaws.{after_none, after_more, after_ok}
use Rattle.plan.specs.Rates.{modulation_ok, symbols_of}
use Rattle.symbols.specs.Index.{right_to_left}
use Rattle.symbols.specs.Labels.{block_labels, label_number, labels_of_octets}
use Rattle.symbols.specs.LabelLaws.{length_octet_labels, octet_labels_below}
use Rattle.symbols.specs.CallLaws.{labels_fit_yes}
use Rattle.points.specs.declared.Point.{Point}
use Rattle.points.specs.Points.{quarter_turn, half_turn, lent_point, bpsk, shifted, point_of, arranged_width, arranged_of, used_ok}
use Rattle.points.specs.Answers.{Answers}
use Rattle.points.proofs.PointLaws.{length_in_phase, length_quadrature, in_phase_at, quadrature_at}
use Rattle.points.proofs.AnswerLaws.{point_answered, refusal_answered, values_answered}
use Rattle.points.specs.Numbers.{symbol_ok, lent_ok, lent_number, mapped_number, room_ok, used_number, point_number, points_number, step_answer}
use Rattle.points.proofs.NumberLaws.{Lent, lent, and_true}
use Rattle.demands.specs.PointRequests.{PointOrRefusal, OneAnswer, AnswerByValue, SymbolsTurned, ArrangedTurned, ArrangedStepped, EntryOrNegation, CoordinatesLent, SignsTurned, CoordinatesExact, Finite, PointsFinite, TurnsBack, InOrder, PointsRefused, UnusedUnseen, LabelsTaken, RunOneByOne}

-- answers of one number and one point are the same
agree : (n : ℕ) (p : Point) (r s : Result Point Refusal) → (n ≡ PARITY → ⊥) → Answers n p r → Answers n p s → s ≡ r
agree n p (Ok x) (Ok y) h a b = ap Ok ((point_answered n p y b).1 ∙ sym (point_answered n p x a).1)
agree n p (Ok x) (Err e) h a b = absurd ((refusal_answered n p e b).1 (point_answered n p x a).0)
agree n p (Err e) (Ok y) h a b = absurd ((refusal_answered n p e a).1 (point_answered n p y b).0)
agree n p (Err e) (Err f) h a b =
    let d = (refusal_answered n p f b).0 in
    ap Err (one_refusal f e (d ∙ sym (refusal_answered n p e a).0) (λ z. h (sym d ∙ z)))

one_of : (n : ℕ) (p : Point) (r : Result Point Refusal) → Answers n p r → PointOrRefusal n p r
one_of n p (Ok r) a =
    let f = point_answered n p r a in
    record { accepted = λ z. rw f.1; refused = λ d. absurd (d f.0); alone = λ h s b. agree n p (Ok r) s h a b }
one_of n p (Err e) a =
    let f = refusal_answered n p e a in
    record { accepted = λ z. absurd (f.1 z); refused = λ d. (e, refl, f.0); alone = λ h s b. agree n p (Err e) s h a b }

-- a number of a list that lacks the parity's is not the parity's
apart : (ns : List ℕ) (n : ℕ) → among ns n ≡ true → among ns PARITY ≡ false → n ≡ PARITY → ⊥
apart ns n h f e = false≢true (sym f ∙ (rw e at h))

pub one_answer : OneAnswer
one_answer =
    record {
      any = one_of;
      point = λ m label symbol ins quads p r s a b. agree _ p r s (apart (0 ∷ PLAN ∷ LENGTH ∷ LABEL ∷ COORDINATE ∷ []) _ (own_numbers.point m label symbol ins quads) refl) a b;
      arranged = λ m label symbol ins quads mask register p r s a b. agree _ p r s (apart (0 ∷ PLAN ∷ REGISTER ∷ LENGTH ∷ LABEL ∷ COORDINATE ∷ []) _ (own_numbers.arranged_point m label symbol ins quads mask register) refl) a b;
    }

pub answer_by_value : AnswerByValue
answer_by_value =
    record {
      told = λ n p. record {
        number_is = refl;
        accepted = λ z. rw (eq-eqb n 0 z) (refl, refl);
        refused = λ d. rw (ne_eqb n 0 d) (refl, refl);
      };
      made = values_answered;
    }

pub symbols_turned : SymbolsTurned
unfolding point_of shifted
symbols_turned =
    record {
      odd = λ k ins quads label. rw (ne_eqb ((1 + 2 * k) % 2) 0 (λ e. omega arith));
      even = λ k ins quads label. rw (eq-eqb ((2 + 2 * k) % 2) 0 (omega arith));
      others = λ m symbol ins quads label d. rw (ne_eqb m 1 d);
    }

pub arranged_turned : ArrangedTurned
unfolding arranged_of
arranged_turned =
    record {
      one = λ register p e. rw (eq-eqb (top arranged_width register) 1 e);
      zero = λ register p e. rw (ne_eqb (top arranged_width register) 1 (λ z. omega (arith, e, z)));
    }

pub arranged_stepped : ArrangedStepped
unfolding step_answer
arranged_stepped mask register =
    record {
      stepped = λ t. rw t;
      refused = λ f. rw f;
      again = λ t.
          let m = and_left (mask_ok arranged_width mask) _ t in
          let r = after_ok arranged_width mask register 1 (omega arith) m (and_right (mask_ok arranged_width mask) _ t) in
          rw t (and_both (mask_ok arranged_width mask) _ m (rw (after_more arranged_width mask register 0, after_none) at r));
    }

twice : (x : Float) → neg (neg x) ≡ x
unfolding neg
twice nan = refl
twice (inf true) = refl
twice (inf false) = refl
twice (fin true m e) = refl
twice (fin false m e) = refl

-- the negation of an entry or of its negation is one too
negated : (ins quads : List Float) (label : ℕ) (x : Float) → EntryOrNegation ins quads label x → EntryOrNegation ins quads label (neg x)
negated ins quads label x (inl (inl e)) = inl (inr (ap neg e))
negated ins quads label x (inl (inr e)) = inl (inl (ap neg e ∙ twice _))
negated ins quads label x (inr (inl e)) = inr (inr (ap neg e))
negated ins quads label x (inr (inr e)) = inr (inl (ap neg e ∙ twice _))

coordinates_lent : (m symbol : ℕ) (ins quads : List Float) (label : ℕ) → CoordinatesLent m symbol ins quads label
unfolding point_of shifted arranged_of
coordinates_lent m symbol ins quads label =
    let t = eqb m bpsk && eqb (symbol % 2) 0 in
    let l = lent_point ins quads label in
    let i : EntryOrNegation ins quads label (point_of m symbol ins quads label).i
    = pick_each (λ (p : Point). EntryOrNegation ins quads label p.i) t {a = quarter_turn l} {b = l} (inr (inr refl)) (inl (inl refl)) in
    let q : EntryOrNegation ins quads label (point_of m symbol ins quads label).q
    = pick_each (λ (p : Point). EntryOrNegation ins quads label p.q) t {a = quarter_turn l} {b = l} (inl (inl refl)) (inr (inl refl)) in
    let p = point_of m symbol ins quads label in
    record {
      i = i;
      q = q;
      arranged_i = λ register. pick_each (λ (x : Point). EntryOrNegation ins quads label x.i) (eqb (top arranged_width register) 1) {a = half_turn p} {b = p} (negated ins quads label _ i) i;
      arranged_q = λ register. pick_each (λ (x : Point). EntryOrNegation ins quads label x.q) (eqb (top arranged_width register) 1) {a = half_turn p} {b = p} (negated ins quads label _ q) q;
    }

-- the sign stands in the bit of weight 2^31
signed : (m : ℕ) (e : ℤ) → to_bits binary32 (fin true m e) ≡ 2 ^ 31 + to_bits binary32 (fin false m e)
unfolding to_bits
signed m e = omega arith

infinite : (s : Bool) → to_bits binary32 (inf (not s)) ≡ (to_bits binary32 (inf s) + 2 ^ 31) % 2 ^ 32
unfolding to_bits
infinite true = refl
infinite false = refl

sign_turned : (x : Float) → T (fits binary32 x) → is_nan x ≡ false → to_bits binary32 (neg x) ≡ (to_bits binary32 x + 2 ^ 31) % 2 ^ 32
unfolding is_nan neg
sign_turned nan f n = absurd (false≢true (sym n))
sign_turned (inf s) f n = infinite s
sign_turned (fin true m e) f n = omega (arith, signed m e, to_bits-lt binary32 (fin true m e) f)
sign_turned (fin false m e) f n = omega (arith, signed m e, to_bits-lt binary32 (fin true m e) (neg-fits binary32 (fin false m e) f))

signs_turned : SignsTurned
unfolding neg of_bits to_bits
signs_turned = record { bits = sign_turned; zero = refl; minus_zero = refl }

pub coordinates_exact : CoordinatesExact
coordinates_exact = (coordinates_lent, signs_turned)

half_twice : (p : Point) → half_turn (half_turn p) ≡ p
half_twice p = ap₂ (λ (x y : Float). record { i = x; q = y }) (twice p.i) (twice p.q)

pub turns_back : (p : Point) → TurnsBack p
unfolding arranged_of
turns_back p =
    record {
      half_turns = half_twice p;
      by_register = λ register. by_bit (eqb (top arranged_width register) 1);
      quarter_turns = half_twice p;
      two_quarters = refl;
    }
  where
    by_bit : (t : Bool) → pick t (half_turn (pick t (half_turn p) p)) (pick t (half_turn p) p) ≡ p
    by_bit true = half_twice p
    by_bit false = refl

-- five tests, one after the other
ordered : (a b c d e : Bool) → InOrder a b c d e (and_then (and_then (pick a 0 PLAN) (and_then (pick b 0 REGISTER) (pick c 0 LENGTH))) (and_then (pick d 0 LABEL) (pick e 0 COORDINATE)))
ordered a b c d e =
    record {
      first = λ p. rw p;
      second = λ p q. rw (p, q);
      third = λ p q r. rw (p, q, r);
      fourth = λ p q r s. rw (p, q, r, s);
      fifth = λ p q r s t. rw (p, q, r, s, t);
      none = λ p q r s t. rw (p, q, r, s, t);
    }

and-false : (b : Bool) → (b && false) ≡ false
and-false true = refl
and-false false = refl

-- a call on one label
mapped_ordered : (register : Bool) (m label symbol : ℕ) (ins quads : List Float)
    → InOrder (modulation_ok m) register (lent_ok m symbol (length ins) (length quads)) (ltb label (2 ^ m)) (used_ok ins quads label) (mapped_number register m label symbol ins quads)
unfolding mapped_number lent_number
mapped_ordered register m label symbol ins quads =
    ordered (modulation_ok m) register (lent_ok m symbol (length ins) (length quads)) (ltb label (2 ^ m)) (used_ok ins quads label)

pub points_refused : PointsRefused
unfolding points_number lent_number label_number used_number lent_ok symbol_ok
points_refused =
    record {
      point = λ m label symbol ins quads. mapped_ordered true m label symbol ins quads;
      arranged = λ m label symbol ins quads mask register. mapped_ordered (settings_ok arranged_width mask register) m label symbol ins quads;
      run = λ m symbol labels ins quads i q. ordered (modulation_ok m) true (lent_ok m symbol (length ins) (length quads) && room_ok (length labels) i q) (every (length labels) (λ r. ltb (get_or labels r 0) (2 ^ m))) (every (length labels) (λ r. used_ok ins quads (get_or labels r 0)));
      symbol_0 = λ ins quads. ap (λ (t : Bool). eqb ins 2 && t) (and-false (eqb quads 2)) ∙ and-false (eqb ins 2);
      symbol_any = λ m symbol ins quads d. rw (ne_eqb m 1 d);
    }

pub unused_unseen : UnusedUnseen
unfolding mapped_number used_ok point_of
unused_unseen m label symbol ins quads ins' quads' k l i q = (rw (k, l, i, q), rw (i, q))

-- a later symbol has a number where the first has
later : (m symbol r : ℕ) → symbol_ok m symbol ≡ true → symbol_ok m (symbol + r) ≡ true
unfolding symbol_ok
later m symbol r h =
    or_cases (not (eqb m bpsk)) (ltb 0 symbol) h (λ a. rw a) (λ a b. rw (a, lt-ltb 0 (symbol + r) (omega (arith, ltb-true 0 symbol b))))

-- what is lent is right for a later symbol too
lent_later : (m symbol r ins quads : ℕ) {room : Bool} → Lent m symbol ins quads room → lent_ok m (symbol + r) ins quads ≡ true
unfolding lent_ok
lent_later m symbol r ins quads l =
    and_both (eqb ins (2 ^ m)) _ (eq-eqb ins (2 ^ m) l.in_phase)
    (and_both (eqb quads (2 ^ m)) _ (eq-eqb quads (2 ^ m) l.quadrature) (later m symbol r l.numbered))

-- a label that is accepted
record Taken (m label symbol : ℕ) (ins quads : List Float) : Type 0 where
  lent_right : Lent m symbol (length ins) (length quads) true
  label_right : ltb label (2 ^ m) ≡ true
  used_right : used_ok ins quads label ≡ true

taken : (register : Bool) (m label symbol : ℕ) (ins quads : List Float) → mapped_number register m label symbol ins quads ≡ 0 → Taken m label symbol ins quads
unfolding mapped_number
taken register m label symbol ins quads h =
    let a = then_zero (lent_number m register (lent_ok m symbol (length ins) (length quads))) _ h in
    let b = then_zero (pick (ltb label (2 ^ m)) 0 LABEL) _ a.1 in
    record {
      lent_right = lent m symbol (length ins) (length quads) register true (rw (and_true (lent_ok m symbol (length ins) (length quads))) a.0);
      label_right = not_refused (ltb label (2 ^ m)) LABEL (omega arith) b.0;
      used_right = not_refused (used_ok ins quads label) COORDINATE (omega arith) b.1;
    }

finite_negated : (x : Float) → finite x ≡ true → finite (neg x) ≡ true
unfolding neg
finite_negated nan h = h
finite_negated (inf s) h = h
finite_negated (fin s m e) h = h

-- turns keep a point finite
point_finite : (m symbol : ℕ) (ins quads : List Float) (label : ℕ) → used_ok ins quads label ≡ true → Finite (point_of m symbol ins quads label)
unfolding used_ok point_of shifted
point_finite m symbol ins quads label h =
    let i = and_left (finite (get_or ins label nan)) _ h in
    let q = and_right (finite (get_or ins label nan)) _ h in
    pick_each Finite (eqb m bpsk && eqb (symbol % 2) 0) (record { i = finite_negated _ q; q = i }) (record { i = i; q = q })

arranged_finite : (register : ℕ) (p : Point) → Finite p → Finite (arranged_of register p)
unfolding arranged_of
arranged_finite register p f =
    pick_each Finite (eqb (top arranged_width register) 1) (record { i = finite_negated _ f.i; q = finite_negated _ f.q }) f

pub points_finite : PointsFinite
points_finite =
    record {
      point = λ m label symbol ins quads h. point_finite m symbol ins quads label (taken true m label symbol ins quads h).used_right;
      arranged = λ m label symbol ins quads mask register h.
          arranged_finite register _ (point_finite m symbol ins quads label (taken (settings_ok arranged_width mask register) m label symbol ins quads h).used_right);
    }

module _ (m symbol : ℕ) (labels : List ℕ) (ins quads : List Float) where
  -- of an accepted run each label is accepted
  each_taken : (i q : ℕ) → points_number m symbol labels ins quads i q ≡ 0 → (r : ℕ) → r < length labels → point_number m (get_or labels r 0) (symbol + r) ins quads ≡ 0
  unfolding points_number label_number used_number
  each_taken i q h r b =
      let a = then_zero (lent_number m true (lent_ok m symbol (length ins) (length quads) && room_ok (length labels) i q)) _ h in
      let d = then_zero (label_number m labels) _ a.1 in
      let l = lent m symbol (length ins) (length quads) true (room_ok (length labels) i q) a.0 in
      let f : ℕ → Bool = λ k. ltb (get_or labels k 0) (2 ^ m) in
      let g : ℕ → Bool = λ k. used_ok ins quads (get_or labels k 0) in
      (points_refused.point m (get_or labels r 0) (symbol + r) ins quads).none l.known refl (lent_later m symbol r _ _ l)
      (every_at (length labels) f (not_refused (every (length labels) f) LABEL (omega arith) d.0) r b)
      (every_at (length labels) g (not_refused (every (length labels) g) COORDINATE (omega arith) d.1) r b)

  -- and a run of accepted labels is
  all_taken : 0 < length labels → ((r : ℕ) → r < length labels → point_number m (get_or labels r 0) (symbol + r) ins quads ≡ 0)
      → points_number m symbol labels ins quads (length labels) (length labels) ≡ 0
  unfolding room_ok
  all_taken some h =
      let z : symbol + 0 ≡ symbol = omega arith in
      let l = rw z at (taken true m (get_or labels 0 0) (symbol + 0) ins quads (h 0 some)).lent_right in
      let y : lent_ok m symbol (length ins) (length quads) ≡ true = rw z at (lent_later m symbol 0 (length ins) (length quads) l) in
      (points_refused.run m symbol labels ins quads (length labels) (length labels)).none l.known refl
      (rw (y, eq-eqb (length labels) (length labels) refl))
      (every_all (length labels) _ (λ r b. (taken true m (get_or labels r 0) (symbol + r) ins quads (h r b)).label_right))
      (every_all (length labels) _ (λ r b. (taken true m (get_or labels r 0) (symbol + r) ins quads (h r b)).used_right))

pub run_one_by_one : RunOneByOne
run_one_by_one m symbol labels ins quads =
    record {
      i_long = length_in_phase m symbol labels ins quads;
      q_long = length_quadrature m symbol labels ins quads;
      i = in_phase_at m symbol labels ins quads;
      q = quadrature_at m symbol labels ins quads;
      each = each_taken m symbol labels ins quads;
      all = all_taken m symbol labels ins quads;
    }

-- labels that are made of octets are never refused
made_taken : (m s : ℕ) (leftward : Bool) (octets : List ℕ) → label_number m (labels_of_octets m s leftward octets) ≡ 0
made_taken m s leftward octets = labels_fit_yes m (labels_of_octets m s leftward octets) (λ r l. octet_labels_below m s leftward octets r)

pub labels_taken : LabelsTaken
labels_taken =
    record {
      slot_many = λ m rate slot. length_octet_labels m (symbols_of m) (right_to_left m rate) slot;
      slot_taken = λ m rate slot. made_taken m (symbols_of m) (right_to_left m rate) slot;
      block_many = λ block. length_octet_labels 1 block_labels false block;
      block_taken = λ block. made_taken 1 block_labels false block;
    }
