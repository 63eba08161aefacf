-- Laws of a block of which one octet is another: its sum is wrong.
use Rattle.std.specs.Prelude.{◌≡◌, true, false, List, ℕ, ◌+◌, ◌-◌, ◌<◌, length, get_or, take, drop, set}
use Rattle.std.proofs.Common.{sym, ap, ◌∙◌, arith, length-set, length-take-le, drop-set-lt, get_or-set_same, get_or-set_other, get_or-take, get_or-drop}
use Rattle.std.proofs.Math.Decide.{ℕ_discrete, dec_lt}
use Rattle.std.proofs.lemmas.List.{take-set-le, drop-set-add}
use Rattle.std.proofs.Math.Seq.{take-set-lt}
use Rattle.lists.specs.ChoiceLaws.{false_of}
use Rattle.lists.specs.CountLaws.{sum_set}
use Rattle.lists.specs.Runs.{Octets}
use Rattle.lists.specs.RunLaws.{below_take, below_part}
use Rattle.setting_block.specs.Layout.{layout, setting_octets}
use Rattle.octet_numbers.specs.Numbers.{big_endian, number_of, sum_of}
use Rattle.octet_numbers.specs.NumberLaws.{written_number}
use Rattle.setting_block.specs.Blocks.{field_in, number_in, block_ok}
use Rattle.setting_block.specs.BlockLaws.{length_field, right}

-- an octet set is an octet still
octets_set : (xs : List ℕ) (k x : ℕ) → Octets xs → k < length xs → x < 256 → Octets (set xs k x)
octets_set xs k x o l h j = go (ℕ_discrete j k)
  where
    go : Dec (j ≡ k) → get_or (set xs k x) j 0 < 256
    go (yes e) = rw (e, get_or-set_same xs k x 0 l) h
    go (no d) = rw (get_or-set_other xs k j x 0 d) (o j)

-- octets that differ in one place have another sum, and make another number
sum_other : (xs : List ℕ) (k x : ℕ) → Octets xs → k < length xs → x < 256 → sum_of (set xs k x) ≡ sum_of xs → x ≡ get_or xs k 0
unfolding sum_of
sum_other xs k x o h l e =
    omega (arith, sum_set (length xs) k x xs h (omega arith), o k, rw (length-set xs k x) at e)

number_other : (n : ℕ) (xs : List ℕ) (k x : ℕ) → Octets xs → length xs ≡ n → k < n → x < 256 → number_of n (set xs k x) ≡ number_of n xs → x ≡ get_or xs k 0
number_other n xs k x o l h m e =
    sym (get_or-set_same xs k x 0 (omega arith))
    ∙ ap (λ (ys : List ℕ). get_or ys k 0)
    (sym (written_number n (set xs k x) (length-set xs k x ∙ l) (octets_set xs k x o (omega arith) m)) ∙ ap (big_endian n) e ∙ written_number n xs l o)

module _ (e : ℕ) (block : List ℕ) (l : length block ≡ setting_octets) (o : Octets block) (t : block_ok e block ≡ true) (k x : ℕ) (h : k < setting_octets) (m : x < 256) where
  -- with the sum that a turned block must have to be right, the octet is the old one
  before_sum : k < (layout e).sum.at → block_ok e (set block k x) ≡ true → x ≡ get_or block k 0
  before_sum b w =
      let s : number_in (layout e).sum (set block k x) ≡ number_in (layout e).sum block = ap (λ (ys : List ℕ). number_of 2 (take 2 ys)) (drop-set-lt 510 block k x b) in
      let f : take 510 (set block k x) ≡ set (take 510 block) k x = take-set-lt 510 block k x b in
      let n : length (take 510 block) ≡ 510 = length-take-le 510 block (omega arith) in
      sum_other (take 510 block) k x (below_take 255 510 block o) (omega arith) m
      (ap sum_of (sym f) ∙ sym (right e (set block k x) w).sum_right ∙ s ∙ (right e block t).sum_right)
      ∙ get_or-take 510 block k 0 b

  in_sum : (i : ℕ) → i < 2 → k ≡ 510 + i → block_ok e (set block k x) ≡ true → x ≡ get_or block k 0
  in_sum i b d w =
      let f : take 510 (set block k x) ≡ take 510 block = take-set-le 510 block k x (omega arith) in
      let g : drop 510 (set block k x) ≡ set (drop 510 block) i x = ap (λ (j : ℕ). drop 510 (set block j x)) d ∙ drop-set-add 510 block i x in
      let s : field_in (layout e).sum (set block k x) ≡ set (field_in (layout e).sum block) i x = ap (take 2) g ∙ take-set-lt 2 (drop 510 block) i x b in
      number_other 2 (field_in (layout e).sum block) i x (below_part 255 510 512 block o) (length_field block l (layout e).sum (omega arith)) b m
      (ap (number_of 2) (sym s) ∙ (right e (set block k x) w).sum_right ∙ ap sum_of f ∙ sym (right e block t).sum_right)
      ∙ get_or-take 2 (drop 510 block) i 0 b
      ∙ get_or-drop 510 block i 0
      ∙ ap (λ (j : ℕ). get_or block j 0) (sym d)

  pub turned_wrong : (x ≡ get_or block k 0 → ⊥) → block_ok e (set block k x) ≡ false
  turned_wrong d = false_of (block_ok e (set block k x)) (λ w. d (go (dec_lt k (layout e).sum.at) w))
    where
      go : Dec (k < (layout e).sum.at) → block_ok e (set block k x) ≡ true → x ≡ get_or block k 0
      go (yes b) w = before_sum b w
      go (no b) w = in_sum (k - 510) (omega arith) (omega arith) w
