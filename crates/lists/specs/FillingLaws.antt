-- Laws of an area that a loop fills: its beginning, one element or a part more, its end.
use Rattle.std.specs.Prelude.{◌≡◌, refl, List, ◌++◌, ℕ, suc, ◌+◌, ◌-◌, ◌<◌, ◌≤◌, length, get_or, take, drop, set}
use Rattle.std.proofs.Common.{sym, ap, ◌∙◌, append_assoc, append-nil, arith, add-one, length-append, length-drop, drop_of_length-le, length-take-le, take_at, drop_at, take_all, take-add, take-suc, drop-cons, drop-drop, get_or-drop, get_or-append-add}
use Rattle.std.proofs.lemmas.List.{set_at}
use Rattle.std.proofs.Math.Seq.{append_snoc}
use borrow.Rule.Slice.PartMut.{put_mid}
use Rattle.lists.specs.Parts.{part}
use Rattle.lists.specs.Filling.{Filling}

length_mixed : {A : Type 0} (goal found : List A) (i : ℕ) → length goal ≡ length found → i ≤ length found → length (take i goal ++ drop i found) ≡ length found
length_mixed goal found i l h =
    length-append (take i goal) (drop i found) ∙ omega (arith, length-take-le i goal (omega arith), length-drop i found)

filled : {A : Type 0} (goal found : List A) (i : ℕ) (area : List A) → length goal ≡ length found → i ≤ length found → area ≡ take i goal ++ drop i found → Filling goal found i area
filled goal found i area l h e = record { long = l; within = h; same = ap length e ∙ length_mixed goal found i l h; done = e }

pub filling_none : {A : Type 0} (goal found : List A) → length goal ≡ length found → Filling goal found 0 found
filling_none goal found l = record { long = l; within = omega arith; same = refl; done = refl }

module _ {A : Type 0} (goal found : List A) (i : ℕ) (area : List A) (f : Filling goal found i area) where
  front : length (take i goal) ≡ i
  front = length-take-le i goal (omega (arith, f.long, f.within))

  -- what is not reached yet
  pub filling_rest : drop i area ≡ drop i found
  filling_rest = ap (drop i) f.done ∙ drop_at (take i goal) (drop i found) i front

  -- one element stored, d being what stands past the end
  pub filling_set : (d v : A) → i < length found → v ≡ get_or goal i d → Filling goal found (i + 1) (set area i v)
  filling_set d v h e =
      let g : i < length goal = omega (arith, f.long) in
      filled goal found (i + 1) (set area i v) f.long (omega arith)
      (rw (add-one, take-suc goal i d g, ← e, f.done, drop-cons found i d h)
      (set_at (take i goal) (get_or found i d) (drop (suc i) found) v i front ∙ sym (append_snoc (take i goal) v (drop (suc i) found))))

  pub filling_all : length found ≤ i → area ≡ goal
  filling_all h =
      let g : length goal ≤ i = omega (arith, f.long) in
      f.done ∙ rw (drop_of_length-le found h, take_all i goal g) (append-nil goal)

module _ (goal found : List ℕ) (i : ℕ) (area : List ℕ) (f : Filling goal found i area) where
  -- an element that is not reached yet
  pub filling_ahead : (k : ℕ) → get_or area (i + k) 0 ≡ get_or found (i + k) 0
  filling_ahead k =
      let n = front goal found i area f in
      ap (λ (l : List ℕ). get_or l (i + k) 0) f.done
      ∙ ap (λ (n : ℕ). get_or (take i goal ++ drop i found) (n + k) 0) (sym n)
      ∙ get_or-append-add (take i goal) (drop i found) k 0
      ∙ get_or-drop i found k 0

  pub filling_here : get_or area i 0 ≡ get_or found i 0
  filling_here = let e : i + 0 ≡ i = omega arith in rw e at (filling_ahead 0)

  -- one number stored
  pub filling_more : (v : ℕ) → i < length found → v ≡ get_or goal i 0 → Filling goal found (i + 1) (set area i v)
  filling_more = filling_set goal found i area f 0

  -- a part stored, as a call that was lent it leaves it
  pub filling_part : (e : ℕ) (ys : List ℕ) → i ≤ e → e ≤ length found → ys ≡ part i e goal → Filling goal found e (put_mid i (e - i) area ys)
  filling_part e ys h k d =
      let n : i + (e - i) ≡ e = omega arith in
      let a : take i area ≡ take i goal = ap (take i) f.done ∙ take_at (take i goal) (drop i found) i (front goal found i area f) in
      let s : take e goal ≡ take i goal ++ part i e goal = ap (λ (m : ℕ). take m goal) (sym n) ∙ take-add i (e - i) goal in
      let t : drop (e - i) (drop i found) ≡ drop e found = drop-drop (e - i) i found ∙ ap (λ (m : ℕ). drop m found) n in
      filled goal found e (put_mid i (e - i) area ys) f.long k
      (rw (a, filling_rest goal found i area f, t, s, d) (sym (append_assoc (take i goal) (part i e goal) (drop e found))))
