-- Laws of a part of a list, and of a part that was lent and came back.
use Rattle.std.specs.Prelude.{◌≡◌, List, [], ◌∷◌, ◌++◌, ℕ, ◌+◌, ◌-◌, ◌<◌, ◌≤◌, length, take, drop, set}
use Rattle.std.proofs.Common.{sym, ap, ap₂, ◌∙◌, append_assoc, append-nil, arith, add-one, length-append, length-drop, drop_of_length-le, take-append-drop, length-take-le, take_at, drop_at, take_all, drop-drop}
use Rattle.std.proofs.lemmas.List.{take-append-le, drop-append-le, set_split}
use borrow.Rule.Slice.PartMut.{put_mid, Post-is}
use Rattle.lists.specs.Parts.{part, put}

pub length_part : (a e : ℕ) (xs : List ℕ) → e ≤ length xs → length (part a e xs) ≡ e - a
length_part a e xs h = length-take-le (e - a) (drop a xs) (rw length-drop (omega arith))

-- the part from the start, as `&xs[0..n]` is lent
pub take_lent : (n m : ℕ) (xs : List ℕ) → n ≡ m → take (n - 0) xs ≡ take m xs
take_lent n m xs e = let z : n - 0 ≡ m = omega arith in rw z

-- the part to the end
pub part_rest : (a : ℕ) (xs : List ℕ) → part a (length xs) xs ≡ drop a xs
part_rest a xs = take_all (length xs - a) (drop a xs) (rw (length-drop a xs) (omega arith))

pub length_put : (a : ℕ) (ys xs : List ℕ) → a + length ys ≤ length xs → length (put a ys xs) ≡ length xs
unfolding put
length_put a ys xs h =
    let t : length (take a xs) ≡ a = length-take-le a xs (omega arith) in
    rw (length-append, length-append, length-drop) (omega arith)

-- what was put, with what stands before it
pub take_put_end : (a : ℕ) (ys xs : List ℕ) → a ≤ length xs → take (a + length ys) (put a ys xs) ≡ take a xs ++ ys
unfolding put
take_put_end a ys xs h =
    let t : length (take a xs) ≡ a = length-take-le a xs h in
    let m : length (take a xs ++ ys) ≡ a + length ys = length-append (take a xs) ys ∙ omega arith in
    rw (← append_assoc (take a xs) ys (drop (a + length ys) xs)) (take_at (take a xs ++ ys) (drop (a + length ys) xs) (a + length ys) m)

-- what stands behind it stays
pub drop_put : (a : ℕ) (ys xs : List ℕ) → a ≤ length xs → drop (a + length ys) (put a ys xs) ≡ drop (a + length ys) xs
unfolding put
drop_put a ys xs h =
    let t : length (take a xs) ≡ a = length-take-le a xs h in
    let m : length (take a xs ++ ys) ≡ a + length ys = length-append (take a xs) ys ∙ omega arith in
    rw (← append_assoc (take a xs) ys (drop (a + length ys) xs)) (drop_at (take a xs ++ ys) (drop (a + length ys) xs) (a + length ys) m)

-- a part of the first of two lists
part_front : (a e : ℕ) (xs ys : List ℕ) → e ≤ length xs → a ≤ e → part a e (xs ++ ys) ≡ part a e xs
part_front a e xs ys h k =
    ap (take (e - a)) (drop-append-le a xs ys (omega arith)) ∙ take-append-le (e - a) (drop a xs) ys (rw length-drop (omega arith))

-- a part before what was put stays, and so does one behind it
pub part_before : (a e p : ℕ) (ys xs : List ℕ) → a ≤ e → e ≤ p → p ≤ length xs → part a e (put p ys xs) ≡ part a e xs
unfolding put
part_before a e p ys xs h k l =
    let t : length (take p xs) ≡ p = length-take-le p xs l in
    part_front a e (take p xs) _ (omega arith) h
    ∙ sym (part_front a e (take p xs) (drop p xs) (omega arith) h)
    ∙ ap (part a e) (take-append-drop p xs)

pub part_behind : (a e p : ℕ) (ys xs : List ℕ) → p ≤ length xs → p + length ys ≤ a → part a e (put p ys xs) ≡ part a e xs
part_behind a e p ys xs h k =
    let n : p + length ys + (a - (p + length ys)) ≡ a = omega arith in
    let d : (zs : List ℕ) → drop a zs ≡ drop (a - (p + length ys)) (drop (p + length ys) zs)
    = λ zs. ap (λ (i : ℕ). drop i zs) (sym n) ∙ sym (drop-drop (a - (p + length ys)) (p + length ys) zs) in
    ap (take (e - a)) (d (put p ys xs) ∙ ap (drop (a - (p + length ys))) (drop_put p ys xs h) ∙ sym (d xs))

-- two lists put one behind the other are one list put
pub put_put : (a : ℕ) (ys zs xs : List ℕ) → a ≤ length xs → put (a + length ys) zs (put a ys xs) ≡ put a (ys ++ zs) xs
unfolding put
put_put a ys zs xs h =
    let n : a + length ys + length zs ≡ a + length (ys ++ zs) = rw length-append (omega arith) in
    let d : drop (a + length ys + length zs) (put a ys xs) ≡ drop (a + length (ys ++ zs)) xs =
    sym (drop-drop (length zs) (a + length ys) (put a ys xs))
    ∙ ap (drop (length zs)) (drop_put a ys xs h)
    ∙ drop-drop (length zs) (a + length ys) xs
    ∙ ap (λ (k : ℕ). drop k xs) n in
    ap₂ (λ (x y : List ℕ). x ++ (zs ++ y)) (take_put_end a ys xs h) d ∙ simp append_assoc

-- nothing put
pub put_none : (a : ℕ) (xs : List ℕ) → put a [] xs ≡ xs
unfolding put
put_none a xs = let e : a + 0 ≡ a = omega arith in rw e (take-append-drop a xs)

-- one element put is a store
pub put_one : (a y : ℕ) (xs : List ℕ) → a < length xs → set xs a y ≡ put a (y ∷ []) xs
unfolding put
put_one a y xs h = rw add-one (set_split xs a y h)

-- a part lent and come back
pub put_lent : (a e : ℕ) (xs ys : List ℕ) → a ≤ e → length ys ≡ e - a → put_mid a (e - a) xs ys ≡ put a ys xs
unfolding put
put_lent a e xs ys h l = let m : a + length ys ≡ e = omega arith in rw (Post-is a e xs h, m)

-- a list that fills the whole area
pub put_whole : (ys xs : List ℕ) → length ys ≡ length xs → put 0 ys xs ≡ ys
unfolding put
put_whole ys xs l = let k : length xs ≤ 0 + length ys = omega arith in rw (drop_of_length-le xs k) (append-nil ys)

-- two parts stored one behind the other, to the places p and q
pub two_parts : (xs a b : List ℕ) (p q : ℕ) → length xs ≡ q → p ≤ q → length a ≡ p - 0 → length b ≡ q - p → put_mid p (q - p) (put_mid 0 (p - 0) xs a) b ≡ a ++ b
two_parts xs a b p q l h la lb =
    let ab = length-append a b in
    let m : p ≡ 0 + length a = omega arith in
    rw (put_lent 0 p xs a (omega arith) la, put_lent p q (put 0 a xs) b h lb)
    (ap (λ (i : ℕ). put i b (put 0 a xs)) m ∙ put_put 0 a b xs (omega arith) ∙ put_whole (a ++ b) xs (omega arith))

-- three parts, to the places p, q and r
pub three_parts : (xs a b c : List ℕ) (p q r : ℕ) → length xs ≡ r → p ≤ q → q ≤ r → length a ≡ p - 0 → length b ≡ q - p → length c ≡ r - q
    → put_mid q (r - q) (put_mid p (q - p) (put_mid 0 (p - 0) xs a) b) c ≡ a ++ (b ++ c)
three_parts xs a b c p q r l h k la lb lc =
    let ab = length-append a b in
    let abc = length-append (a ++ b) c in
    let m : p ≡ 0 + length a = omega arith in
    let n : q ≡ 0 + length (a ++ b) = omega arith in
    rw (put_lent 0 p xs a (omega arith) la, put_lent p q (put 0 a xs) b h lb, put_lent q r (put p b (put 0 a xs)) c k lc)
    (ap (λ (i : ℕ). put q c (put i b (put 0 a xs))) m
    ∙ ap (put q c) (put_put 0 a b xs (omega arith))
    ∙ ap (λ (i : ℕ). put i c (put 0 (a ++ b) xs)) n
    ∙ put_put 0 (a ++ b) c xs (omega arith)
    ∙ put_whole ((a ++ b) ++ c) xs (omega arith)
    ∙ append_assoc a b c)

-- a list put at the end of the area
pub put_end : (a : ℕ) (ys xs : List ℕ) → a + length ys ≡ length xs → put a ys xs ≡ take a xs ++ ys
unfolding put
put_end a ys xs l = let k : length xs ≤ a + length ys = omega arith in rw (drop_of_length-le xs k) (ap (λ (v : List ℕ). take a xs ++ v) (append-nil ys))
