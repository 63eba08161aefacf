-- Proofs of the statements on settings kept in blocks (document 02, N4).
use Rattle.std.specs.Prelude.{◌≡◌, refl, true, List, ℕ, ◌+◌, ◌*◌, ◌-◌, ◌/◌, length, get_or, drop}
use Rattle.std.proofs.Common.{sym, ap, ◌∙◌, arith, eq-eqb, ne_eqb, le-ltb, length-set, get_or-take, get_or-drop}
use Rattle.lists.specs.Choice.{pick}
use Rattle.lists.specs.ChoiceLaws.{false_of, not_refused, then_zero, then_next, then_first}
use Rattle.lists.specs.Count.{sum, joined}
use Rattle.lists.specs.Parts.{put}
use Rattle.lists.specs.Runs.{Octets}
use Rattle.lists.specs.RunLaws.{below_part}
use Rattle.refusal.specs.Numbers.{BLOCK}
use Rattle.refusal.specs.Answers.{BackAgain}
use Rattle.bits.specs.Digits.{digits, number}
use Rattle.bits.specs.Octets.{octets_of}
use Rattle.plan.specs.declared.Plan.{Plan}
use Rattle.plan.specs.Plans.{plan_number}
use Rattle.plan_octets.specs.Groups.{group_of, groups_of}
use Rattle.setting_block.specs.declared.Registers.{Registers}
use Rattle.setting_block.specs.declared.SettingsAnswer.{SettingsAnswer}
use Rattle.setting_block.specs.Layout.{setting_octets, layout, edition}
use Rattle.octet_numbers.specs.Numbers.{big_endian, sum_of}
use Rattle.octet_numbers.specs.NumberLaws.{zero_at}
use Rattle.setting_block.specs.Blocks.{body, block_of, field_in, plan_in, registers_in, unused_in, block_ok, setting_number, block_number}
use Rattle.setting_block.specs.BlockLaws.{length_block, right, plan_back, registers_back, number_back, accepted_again}
use Rattle.settings.specs.Cards.{card_ok, card_number, block_at, read_number, read_answer, replace_number, replaced}
use Rattle.settings.proofs.CardLaws.{There, there, length_replaced, block_replaced, other_kept, length_block_at, put_same, block_set}
use Rattle.setting_block.specs.TurnedLaws.{turned_wrong}
use Rattle.demands.specs.CardRequests.{CardRefused, WrongRefused, SettingRefused, ReadRefused, ReplaceRefused, SettingsRefused, ReplacedRead, ReadReplaced, OthersKept, Written, AcceptedWritten, OldUnseen, OneOctetRefused, WorkedBlock}

card_refused : (octets n : ℕ) → CardRefused octets n
unfolding card_number
card_refused octets n = record { card = λ c. rw c; past = λ c l. rw (c, le-ltb n (octets / setting_octets) l) }

wrong_refused : (e : ℕ) (block : List ℕ) → WrongRefused e block
wrong_refused e block =
    record {
      mark_wrong = λ d. false_of (block_ok e block) (λ t. d (right e block t).mark_right);
      edition_wrong = λ d. false_of (block_ok e block) (λ t. d (right e block t).edition_right);
      sum_wrong = λ d. false_of (block_ok e block) (λ t. d (right e block t).sum_right);
      zero_wrong = λ k d. false_of (block_ok e block) (λ t. d (zero_at (field_in (layout e).zeros block) (right e block t).zeros_right k));
      unused_wrong = λ k d. false_of (block_ok e block) (λ t. d (zero_at (unused_in e block) (right e block t).unused_right k));
    }

setting_refused : (p : Plan) (r : Registers) → SettingRefused p r
unfolding setting_number
setting_refused p r = record { plan = λ d. then_first (plan_number p) _ d; registers = λ z w. then_next (plan_number p) _ z ∙ rw w }

read_refused : (card : List ℕ) (n : ℕ) → ReadRefused card n
unfolding read_number block_number read_answer
read_refused card n =
    record {
      first = λ d. then_first (card_number (length card) n) _ d;
      block = λ z w. then_next (card_number (length card) n) _ z ∙ rw w;
      setting = λ z t. then_next (card_number (length card) n) _ z ∙ rw t;
      zeros = λ d. rw (ne_eqb (read_number card n) 0 d);
    }

replace_refused : (octets n : ℕ) (p : Plan) (r : Registers) → ReplaceRefused octets n p r
unfolding replace_number
replace_refused octets n p r =
    record { first = λ d. then_first (card_number octets n) _ d; setting = λ z. then_next (card_number octets n) _ z }

-- a card of no blocks is a card
empty_card : card_ok 0 ≡ true
unfolding card_ok
empty_card = refl

pub settings_refused : SettingsRefused
settings_refused =
    record {
      cards = card_refused;
      none = λ n. (card_refused 0 n).past empty_card (omega arith);
      wrong = wrong_refused;
      settings = setting_refused;
      read = read_refused;
      replace = replace_refused;
    }

-- what an accepted replacement has
record Free (card : List ℕ) (n : ℕ) (p : Plan) (r : Registers) : Type 0 where
  card_free : card_number (length card) n ≡ 0
  block_there : There (length card) n
  setting_free : setting_number p r ≡ 0

free : (card : List ℕ) (n : ℕ) (p : Plan) (r : Registers) → replace_number (length card) n p r ≡ 0 → Free card n p r
unfolding replace_number
free card n p r h =
    let a = then_zero (card_number (length card) n) _ h in
    record { card_free = a.0; block_there = there (length card) n a.0; setting_free = a.1 }

pub replaced_read : ReplacedRead
unfolding read_answer read_number
replaced_read card n p r h =
    let f = free card n p r h in
    let b = block_replaced card n p r f.block_there in
    rw (length_replaced card n p r f.block_there, f.card_free, b, number_back edition p r (omega arith) f.setting_free, plan_back edition p r (omega arith) f.setting_free, registers_back edition p r (omega arith) f.setting_free)

-- what an accepted reading has
record Taken (card : List ℕ) (n : ℕ) : Type 0 where
  card_free : card_number (length card) n ≡ 0
  block_there : There (length card) n
  block_free : block_number edition (block_at n card) ≡ 0

taken : (card : List ℕ) (n : ℕ) → read_number card n ≡ 0 → Taken card n
unfolding read_number
taken card n h =
    let a = then_zero (card_number (length card) n) _ h in
    record { card_free = a.0; block_there = there (length card) n a.0; block_free = a.1 }

again : (card : List ℕ) (n : ℕ) → Octets card → read_number card n ≡ 0
    → BackAgain (replace_number (length card) n (plan_in edition (block_at n card)) (registers_in edition (block_at n card))) (replaced card n (plan_in edition (block_at n card)) (registers_in edition (block_at n card))) card
unfolding replace_number replaced
again card n o h =
    let t = taken card n h in
    let b = accepted_again edition (block_at n card) (length_block_at card n t.block_there) (below_part 255 (setting_octets * n) (setting_octets * n + setting_octets) card o) t.block_free in
    record {
      taken = then_next (card_number (length card) n) _ t.card_free ∙ b.0;
      same = ap (λ (ys : List ℕ). put (setting_octets * n) ys card) b.1 ∙ put_same card n t.block_there;
    }

pub read_replaced : ReadReplaced
unfolding read_answer
read_replaced card n o h = rw (eq-eqb (read_number card n) 0 h) (again card n o h)

pub others_kept : OthersKept
unfolding read_answer read_number
others_kept card n p r h =
    let t = (free card n p r h).block_there in
    record {
      long = length_replaced card n p r t;
      octets = other_kept card n p r t;
      read = λ m d. rw (length_replaced card n p r t, other_kept card n p r t m d);
    }

pub accepted_written : AcceptedWritten
unfolding read_answer
accepted_written card n o = (λ h. record { plan = plan_in edition (block_at n card); registers = registers_in edition (block_at n card); again = again card n o h }, back)
  where
    back : Written card n → read_number card n ≡ 0
    back w =
        ap (λ (xs : List ℕ). read_number xs n) (sym w.again.same)
        ∙ ap (λ (a : SettingsAnswer). a.number) (replaced_read card n w.plan w.registers w.again.taken)

pub old_unseen : OldUnseen
unfolding replaced put
old_unseen a b n p r l front behind =
    let d : setting_octets * n + length (block_of edition p r) ≡ setting_octets * n + setting_octets = ap (λ (k : ℕ). setting_octets * n + k) (length_block edition p r) in
    (ap (λ (k : ℕ). replace_number k n p r) l, rw (d, front, behind))

pub one_octet_refused : OneOctetRefused
unfolding read_number block_number
one_octet_refused card n k x o h l m d =
    let t = taken card n h in
    let b = block_at n card in
    let w = not_refused (block_ok edition b) BLOCK (omega arith) (then_zero (pick (block_ok edition b) 0 BLOCK) _ t.block_free).0 in
    let old : get_or b k 0 ≡ get_or card (setting_octets * n + k) 0
    = get_or-take (setting_octets * n + setting_octets - setting_octets * n) (drop (setting_octets * n) card) k 0 (omega arith) ∙ get_or-drop (setting_octets * n) card k 0 in
    let f = turned_wrong edition b (length_block_at card n t.block_there) (below_part 255 (setting_octets * n) (setting_octets * n + setting_octets) card o) w k x l m (λ e. d (e ∙ old)) in
    rw (length-set card (setting_octets * n + k) x, t.card_free, block_set card n k x l, f)

pub worked_block : WorkedBlock
unfolding block_of body big_endian octets_of digits number groups_of group_of joined sum_of sum
worked_block = refl
