-- Laws of counting by index.
use Rattle.std.specs.Prelude.{◌≡◌, refl, Bool, true, false, ◌&&◌, List, [], ◌∷◌, ◌++◌, ℕ, zero, suc, ◌+◌, ◌-◌, ◌*◌, ◌<◌, ◌≤◌, ltb, length, get_or, drop, set}
use Rattle.std.proofs.Common.{sym, ap, ap₂, ◌∙◌, ⊎_elim, append-nil, append_assoc, le_of_suc-le-suc, eq-or-lt_of_le, not-suc-le-zero, suc-mul, add-suc, add-zero, add-one, arith, lt-ltb, le-ltb, ltb-true, ltb-false, length-append, length-drop, ext_get_or, get_or-set_same, get_or-set_other, take_all, drop_at}
use Rattle.std.proofs.Math.Decide.{ℕ_discrete, dec_lt}
use Rattle.std.proofs.Math.ListN.{get_or-append}
use Rattle.std.proofs.lemmas.List.{get_or_at, take-append-le, drop-append-le}
use Rattle.lists.specs.Choice.{pick}
use Rattle.lists.specs.ChoiceLaws.{and_left, and_right, and_both, false_of, clash, same_test}
use Rattle.lists.specs.Count.{sum, every, first, table, joined}
use Rattle.lists.specs.Parts.{part}

-- either k is n or it is below
last_or_below : {k n : ℕ} {C : Type 0} → k < suc n → (k ≡ n → C) → (k < n → C) → C
last_or_below h e l = ⊎_elim e l (eq-or-lt_of_le (le_of_suc-le-suc h))

pub sum_none : (f : ℕ → ℕ) → sum 0 f ≡ 0
unfolding sum
sum_none f = refl

pub sum_more : (n : ℕ) (f : ℕ → ℕ) → sum (n + 1) f ≡ sum n f + f n
unfolding sum
sum_more n f = rw add-one

pub sum_same : (n : ℕ) (f g : ℕ → ℕ) → ((k : ℕ) → k < n → f k ≡ g k) → sum n f ≡ sum n g
unfolding sum
sum_same zero f g h = refl
sum_same (suc n) f g h = ap₂ (λ (x y : ℕ). x + y) (sum_same n f g (λ k l. h k (omega arith))) (h n (omega arith))

pub sum_add : (n : ℕ) (f g : ℕ → ℕ) → sum n (λ k. f k + g k) ≡ sum n f + sum n g
unfolding sum
sum_add zero f g = refl
sum_add (suc n) f g = let h = sum_add n f g in omega arith

pub sum_le : (n d : ℕ) (f : ℕ → ℕ) → sum n f ≤ sum (n + d) f
sum_le n zero f = let e : n + zero ≡ n = omega arith in rw e (omega arith)
sum_le n (suc d) f =
    let e : n + suc d ≡ n + d + 1 = omega arith in
    rw e (omega (arith, sum_more (n + d) f, sum_le n d f))

pub sum_mono : (m n : ℕ) (f : ℕ → ℕ) → m ≤ n → sum m f ≤ sum n f
sum_mono m n f h = let e : m + (n - m) ≡ n = omega arith in rw e at (sum_le m (n - m) f)

-- each value the same number
pub sum_each : (n w : ℕ) (f : ℕ → ℕ) → ((k : ℕ) → k < n → f k ≡ w) → sum n f ≡ n * w
unfolding sum
sum_each zero w f h = omega arith
sum_each (suc n) w f h = let e = sum_each n w f (λ k l. h k (omega arith)) in let d = h n (omega arith) in omega (arith, suc-mul n w)

-- a sum of which only term k is not 0
pub sum_only : (n k : ℕ) (f : ℕ → ℕ) → k < n → ((i : ℕ) → i < n → (i ≡ k → ⊥) → f i ≡ 0) → sum n f ≡ f k
unfolding sum
sum_only zero k f h z = absurd (omega arith)
sum_only (suc n) k f h z = go (ℕ_discrete k n) (λ l. sum_only n k f l (λ i j. z i (omega arith)))
  where
    go : Dec (k ≡ n) → (k < n → sum n f ≡ f k) → sum n f + f n ≡ f k
    go (yes e) _ =
        let s : sum n f ≡ n * 0 = sum_each n 0 f (λ i l. z i (omega arith) (λ d. absurd (omega arith))) in
        rw e (omega arith)
    go (no d) below = omega (arith, below (omega arith), z n (omega arith) (λ e. d (sym e)))

-- a sum of which one term is set
pub sum_set : (n k x : ℕ) (xs : List ℕ) → k < n → n ≤ length xs → sum n (λ i. get_or (set xs k x) i 0) + get_or xs k 0 ≡ sum n (λ i. get_or xs i 0) + x
unfolding sum
sum_set zero k x xs h l = absurd (omega arith)
sum_set (suc n) k x xs h l = go (ℕ_discrete k n) (λ j. sum_set n k x xs j (omega arith))
  where
    go : Dec (k ≡ n) → (k < n → sum n (λ i. get_or (set xs k x) i 0) + get_or xs k 0 ≡ sum n (λ i. get_or xs i 0) + x)
        → sum n (λ i. get_or (set xs k x) i 0) + get_or (set xs k x) n 0 + get_or xs k 0 ≡ sum n (λ i. get_or xs i 0) + get_or xs n 0 + x
    go (yes e) _ =
        let same = sum_same n (λ i. get_or (set xs k x) i 0) (λ i. get_or xs i 0) (λ i j. get_or-set_other xs k i x 0 (λ d. omega (arith, d, e, j))) in
        let there : get_or (set xs k x) n 0 ≡ x = rw (sym e) (get_or-set_same xs k x 0 (omega arith)) in
        let found : get_or xs n 0 ≡ get_or xs k 0 = ap (λ (i : ℕ). get_or xs i 0) (sym e) in
        omega (arith, same, there, found)
    go (no d) below =
        omega (arith, below (omega arith), get_or-set_other xs k n x 0 (λ e. d (sym e)))

pub every_none : (f : ℕ → Bool) → every 0 f ≡ true
unfolding every
every_none f = refl

pub every_more : (n : ℕ) (f : ℕ → Bool) → every (n + 1) f ≡ (every n f && f n)
unfolding every
every_more n f = rw add-one

pub every_at : (n : ℕ) (f : ℕ → Bool) → every n f ≡ true → (k : ℕ) → k < n → f k ≡ true
unfolding every
every_at zero f t k h = absurd (not-suc-le-zero h)
every_at (suc n) f t k h =
    last_or_below h (λ (w : k ≡ n). rw w (and_right (every n f) (f n) t)) (λ (w : k < n). every_at n f (and_left (every n f) (f n) t) k w)

pub every_all : (n : ℕ) (f : ℕ → Bool) → ((k : ℕ) → k < n → f k ≡ true) → every n f ≡ true
unfolding every
every_all zero f h = refl
every_all (suc n) f h = and_both (every n f) (f n) (every_all n f (λ k l. h k (omega arith))) (h n (omega arith))

pub every_next : (n : ℕ) (f : ℕ → Bool) → every n f ≡ true → f n ≡ true → every (n + 1) f ≡ true
every_next n f a b = every_more n f ∙ and_both (every n f) (f n) a b

-- one of which f does not hold is enough
pub every_not : (n : ℕ) (f : ℕ → Bool) (k : ℕ) → k < n → f k ≡ false → every n f ≡ false
every_not n f k h e = false_of (every n f) (λ t. clash (f k) e (every_at n f t k h))

pub every_same : (n : ℕ) (f g : ℕ → Bool) → ((k : ℕ) → k < n → f k ≡ g k) → every n f ≡ every n g
every_same n f g h =
    same_test (every n f) (every n g)
    (λ t. every_all n g (λ k l. sym (h k l) ∙ every_at n f t k l))
    (λ t. every_all n f (λ k l. h k l ∙ every_at n g t k l))

-- what makes r the first k below n of which f holds
pub record First (n : ℕ) (f : ℕ → Bool) (r : ℕ) : Type 0 where
  pub within : r ≤ n
  pub before : (k : ℕ) → k < r → f k ≡ false
  pub there : r < n → f r ≡ true

first_step : (n : ℕ) (f : ℕ → Bool) (r : ℕ) → First (suc n) f r → ((q : ℕ) → First n f q → first n f ≡ q)
    → pick (ltb (first n f) n) (first n f) (pick (f n) n (suc n)) ≡ r
first_step n f r h below = go (dec_lt r n) (ℕ_discrete r n)
  where
    go : Dec (r < n) → Dec (r ≡ n) → pick (ltb (first n f) n) (first n f) (pick (f n) n (suc n)) ≡ r
    go (yes l) d =
        let e : first n f ≡ r = below r (record { within = omega arith; before = h.before; there = λ k. h.there (omega arith) }) in
        rw (e, lt-ltb r n l)
    go (no l) (yes d) =
        let e : first n f ≡ n
        = below n (record { within = omega arith; before = λ k j. h.before k (omega arith); there = λ k. absurd (omega arith) }) in
        let t : f n ≡ true = rw d at (h.there (omega arith)) in
        rw (e, le-ltb n n (omega arith), t) (sym d)
    go (no l) (no d) =
        let w = h.within in
        let e : first n f ≡ n
        = below n (record { within = omega arith; before = λ k j. h.before k (omega arith); there = λ k. absurd (omega arith) }) in
        let t : f n ≡ false = h.before n (omega arith) in
        rw (e, le-ltb n n (omega arith), t) (omega arith)

pub first_is : (n : ℕ) (f : ℕ → Bool) (r : ℕ) → First n f r → first n f ≡ r
unfolding first
first_is zero f r h = let w = h.within in omega arith
first_is (suc n) f r h = first_step n f r h (first_is n f)

first_next : (n : ℕ) (f : ℕ → Bool) (q : ℕ) → First n f q → (b t : Bool) → ltb q n ≡ b → f n ≡ t → First (suc n) f (pick b q (pick t n (suc n)))
first_next n f q h true t e d =
    let l : q < n = ltb-true q n e in
    record { within = omega arith; before = h.before; there = λ k. h.there l }
first_next n f q h false true e d =
    let w = h.within in
    let l : q ≡ n = omega (arith, ltb-false q n e) in
    record { within = omega arith; before = rw l at h.before; there = λ k. d }
first_next n f q h false false e d =
    let w = h.within in
    let l : q ≡ n = omega (arith, ltb-false q n e) in
    let b : (k : ℕ) → k < n → f k ≡ false = rw l at h.before in
    record { within = omega arith; before = λ k j. last_or_below j (λ (w : k ≡ n). rw w d) (λ (w : k < n). b k w); there = λ k. absurd (omega arith) }

pub first_first : (n : ℕ) (f : ℕ → Bool) → First n f (first n f)
unfolding first
first_first zero f = record { within = omega arith; before = λ k j. absurd (omega arith); there = λ k. absurd (omega arith) }
first_first (suc n) f = first_next n f (first n f) (first_first n f) (ltb (first n f) n) (f n) refl refl

pub first_same : (n : ℕ) (f g : ℕ → Bool) → ((k : ℕ) → k < n → f k ≡ g k) → first n f ≡ first n g
first_same n f g h =
    let r = first_first n g in
    let w = r.within in
    first_is n f (first n g) (record { within = w; before = λ k l. h k (omega arith) ∙ r.before k l; there = λ l. h (first n g) l ∙ r.there l })

pub length_table : {A : Type 0} (n : ℕ) (f : ℕ → A) → length (table n f) ≡ n
unfolding table
length_table zero f = refl
length_table (suc n) f = length-append (table n f) (f n ∷ []) ∙ omega (arith, length_table n f)

-- element k, d being what stands past the end
pub table_at : {A : Type 0} (d : A) (n : ℕ) (f : ℕ → A) (k : ℕ) → k < n → get_or (table n f) k d ≡ f k
unfolding table
table_at d zero f k h = absurd (not-suc-le-zero h)
table_at d (suc n) f k h =
    last_or_below h
    (λ (w : k ≡ n). rw w (get_or_at (table n f) (f n) [] d n (length_table n f)))
    (λ (w : k < n). get_or-append (table n f) (f n ∷ []) d k (omega (arith, length_table n f)) ∙ table_at d n f k w)

pub get_or_table : (n : ℕ) (f : ℕ → ℕ) (k : ℕ) → k < n → get_or (table n f) k 0 ≡ f k
get_or_table = table_at 0

-- a list of n elements that are f's values is their table
pub table_is : (n : ℕ) (f : ℕ → ℕ) (xs : List ℕ) → length xs ≡ n → ((k : ℕ) → k < n → get_or xs k 0 ≡ f k) → xs ≡ table n f
table_is n f xs l h =
    ext_get_or 0 xs (table n f) (l ∙ sym (length_table n f)) (λ k j. h k (omega arith) ∙ sym (get_or_table n f k (omega arith)))

pub table_same : (n : ℕ) (f g : ℕ → ℕ) → ((k : ℕ) → k < n → f k ≡ g k) → table n f ≡ table n g
table_same n f g h = table_is n g (table n f) (length_table n f) (λ k l. get_or_table n f k l ∙ h k l)

pub table_split : (m n : ℕ) (f : ℕ → ℕ) → table (m + n) f ≡ table m f ++ table n (λ i. f (m + i))
unfolding table
table_split m zero f = rw add-zero (sym (append-nil (table m f)))
table_split m (suc n) f =
    rw add-suc (ap (λ (xs : List ℕ). xs ++ (f (m + n) ∷ [])) (table_split m n f) ∙ append_assoc (table m f) (table n (λ i. f (m + i))) (f (m + n) ∷ []))

pub joined_none : (f : ℕ → List ℕ) → joined 0 f ≡ []
unfolding joined
joined_none f = refl

pub joined_more : (n : ℕ) (f : ℕ → List ℕ) → joined (n + 1) f ≡ joined n f ++ f n
unfolding joined
joined_more n f = rw add-one

pub joined_same : (n : ℕ) (f g : ℕ → List ℕ) → ((k : ℕ) → k < n → f k ≡ g k) → joined n f ≡ joined n g
unfolding joined
joined_same zero f g h = refl
joined_same (suc n) f g h = ap₂ (λ (x y : List ℕ). x ++ y) (joined_same n f g (λ k l. h k (omega arith))) (h n (omega arith))

-- lists that are empty add nothing
joined_add : (f : ℕ → List ℕ) (p d : ℕ) → ((i : ℕ) → p ≤ i → i < p + d → f i ≡ []) → joined (p + d) f ≡ joined p f
joined_add f p zero h = rw add-zero
joined_add f p (suc d) h =
    let e : p + suc d ≡ p + d + 1 = omega arith in
    rw (e, joined_more (p + d) f, h (p + d) (omega arith) (omega arith))
    (append-nil (joined (p + d) f) ∙ joined_add f p d (λ i a b. h i a (omega arith)))

pub joined_quiet : (f : ℕ → List ℕ) (p q : ℕ) → p ≤ q → ((i : ℕ) → p ≤ i → i < q → f i ≡ []) → joined q f ≡ joined p f
joined_quiet f p q l h =
    let e : p + (q - p) ≡ q = omega arith in
    rw e at (joined_add f p (q - p) (λ i a b. h i a (omega arith)))

-- empty lists in front may be left out
pub joined_shift : (f : ℕ → List ℕ) (p d : ℕ) → ((i : ℕ) → i < p → f i ≡ []) → joined (p + d) f ≡ joined d (λ k. f (p + k))
joined_shift f p zero h = rw add-zero (joined_quiet f 0 p (omega arith) (λ i a b. h i b) ∙ joined_none f ∙ sym (joined_none (λ k. f (p + k))))
joined_shift f p (suc d) h =
    let e : p + suc d ≡ p + d + 1 = omega arith in
    let m : suc d ≡ d + 1 = omega arith in
    rw (e, m) (joined_more (p + d) f ∙ ap (λ (xs : List ℕ). xs ++ f (p + d)) (joined_shift f p d h) ∙ sym (joined_more d (λ k. f (p + k))))

-- where list k begins
abbrev pub joined_at : (ℕ → List ℕ) → ℕ → ℕ
joined_at f k = sum k (λ i. length (f i))

pub length_joined : (n : ℕ) (f : ℕ → List ℕ) → length (joined n f) ≡ joined_at f n
unfolding joined sum
length_joined zero f = refl
length_joined (suc n) f = length-append (joined n f) (f n) ∙ omega (arith, length_joined n f)

-- the part of list k
pub joined_part : (n : ℕ) (f : ℕ → List ℕ) (k : ℕ) → k < n → part (joined_at f k) (joined_at f (k + 1)) (joined n f) ≡ f k
unfolding joined
joined_part zero f k h = absurd (not-suc-le-zero h)
joined_part (suc n) f k h =
    let m = sum_more k (λ i. length (f i)) in
    last_or_below h
    (λ (w : k ≡ n).
    let e : joined_at f (k + 1) - joined_at f k ≡ length (f n) = omega (arith, ap (λ (i : ℕ). length (f i)) w) in
    let l : length (joined n f) ≡ joined_at f k = length_joined n f ∙ ap (joined_at f) (sym w) in
    rw (e, drop_at (joined n f) (f n) (joined_at f k) l) (take_all (length (f n)) (f n) (omega arith) ∙ ap f (sym w)))
    (λ (w : k < n).
    let b = sum_mono (k + 1) n (λ i. length (f i)) (omega arith) in
    let l = length_joined n f in
    let d : drop (joined_at f k) (joined n f ++ f n) ≡ drop (joined_at f k) (joined n f) ++ f n = drop-append-le (joined_at f k) (joined n f) (f n) (omega arith) in
    let s : length (drop (joined_at f k) (joined n f)) ≡ length (joined n f) - joined_at f k = length-drop (joined_at f k) (joined n f) in
    rw d (take-append-le (joined_at f (k + 1) - joined_at f k) (drop (joined_at f k) (joined n f)) (f n) (omega arith) ∙ joined_part n f k w))
