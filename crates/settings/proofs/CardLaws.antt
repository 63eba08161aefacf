-- Laws of cards: where a block lies, and what a replacement leaves.
use Rattle.std.specs.Prelude.{◌≡◌, List, ℕ, ◌+◌, ◌*◌, ◌-◌, ◌/◌, ◌%◌, ◌<◌, ◌≤◌, eqb, ltb, length, take, drop, set}
use Rattle.std.proofs.Common.{ap, ◌∙◌, eqb-true, leb-true, ltb-true, length-take-le}
use Rattle.std.proofs.Math.Decide.{ℕ_discrete, dec_lt}
use native.Mathlib.Omega.{arith}
use Rattle.std.proofs.Math.Seq.{take-set-lt}
use Rattle.std.proofs.lemmas.List.{drop-set-add}
use Rattle.lists.specs.Choice.{pick}
use Rattle.lists.specs.ChoiceLaws.{and_left, and_right, then_zero, not_refused}
use Rattle.lists.specs.Parts.{put}
use Rattle.lists.specs.PartLaws.{length_part, length_put, part_before, part_behind}
use Rattle.lists.specs.ThreeRuns.{second_of_three, three_whole}
use Rattle.refusal.specs.Numbers.{LENGTH, BLOCK}
use Rattle.plan.specs.declared.Plan.{Plan}
use Rattle.setting_block.specs.declared.Registers.{Registers}
use Rattle.setting_block.specs.Layout.{setting_octets, edition}
use Rattle.setting_block.specs.Blocks.{block_of}
use Rattle.setting_block.specs.BlockLaws.{length_block}
use Rattle.settings.specs.Cards.{card_ok, card_number, block_at, replaced}

-- a card that has block n
pub record There (octets n : ℕ) : Type 0 where
  pub low : octets ≤ 64 * setting_octets
  pub room : setting_octets * n + setting_octets ≤ octets

pub there : (octets n : ℕ) → card_number octets n ≡ 0 → There octets n
unfolding card_number card_ok
there octets n h =
    let a = then_zero (pick (card_ok octets) 0 LENGTH) _ h in
    let t = not_refused (card_ok octets) LENGTH (omega arith) a.0 in
    let w = eqb-true (octets % setting_octets) 0 (and_left (eqb (octets % setting_octets) 0) _ t) in
    let m = leb-true (octets / setting_octets) 64 (and_right (eqb (octets % setting_octets) 0) _ t) in
    let l = ltb-true n (octets / setting_octets) (not_refused (ltb n (octets / setting_octets)) BLOCK (omega arith) a.1) in
    record { low = omega arith; room = omega arith }

-- a replaced block is the one written, and the others stay
module _ (card : List ℕ) (n : ℕ) (p : Plan) (r : Registers) (t : There (length card) n) where
  within : setting_octets * n ≤ length card
  within = omega (arith, t.room)

  pub length_replaced : length (replaced card n p r) ≡ length card
  unfolding replaced
  length_replaced = length_put (setting_octets * n) (block_of edition p r) card (omega (arith, t.room, length_block edition p r))

  pub block_replaced : block_at n (replaced card n p r) ≡ block_of edition p r
  unfolding replaced put
  block_replaced =
      second_of_three (take (setting_octets * n) card) (block_of edition p r) _ (setting_octets * n) setting_octets
      (length-take-le (setting_octets * n) card within) (length_block edition p r)

  pub other_kept : (m : ℕ) → (m ≡ n → ⊥) → block_at m (replaced card n p r) ≡ block_at m card
  unfolding replaced
  other_kept m d = go (dec_lt m n)
    where
      go : Dec (m < n) → block_at m (put (setting_octets * n) (block_of edition p r) card) ≡ block_at m card
      go (yes l) =
          part_before (setting_octets * m) (setting_octets * m + setting_octets) (setting_octets * n) (block_of edition p r) card (omega arith) (omega arith) within
      go (no l) =
          part_behind (setting_octets * m) (setting_octets * m + setting_octets) (setting_octets * n) (block_of edition p r) card within
          (omega (arith, length_block edition p r, above (ℕ_discrete m n)))
        where
          above : Dec (m ≡ n) → n < m
          above (yes w) = absurd (d w)
          above (no w) = omega arith

pub length_block_at : (card : List ℕ) (n : ℕ) → There (length card) n → length (block_at n card) ≡ setting_octets
length_block_at card n t = length_part (setting_octets * n) (setting_octets * n + setting_octets) card t.room ∙ omega arith

-- a block put where it stands
pub put_same : (card : List ℕ) (n : ℕ) → There (length card) n → put (setting_octets * n) (block_at n card) card ≡ card
unfolding put
put_same card n t = rw (length_block_at card n t) (three_whole (setting_octets * n) setting_octets card)

-- an octet of a block is one of its card
pub block_set : (card : List ℕ) (n k x : ℕ) → k < setting_octets → block_at n (set card (setting_octets * n + k) x) ≡ set (block_at n card) k x
block_set card n k x h =
    let z : setting_octets * n + setting_octets - setting_octets * n ≡ setting_octets = omega arith in
    ap (take (setting_octets * n + setting_octets - setting_octets * n)) (drop-set-add (setting_octets * n) card k x)
    ∙ take-set-lt (setting_octets * n + setting_octets - setting_octets * n) (drop (setting_octets * n) card) k x (omega arith)
