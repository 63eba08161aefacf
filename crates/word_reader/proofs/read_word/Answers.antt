-- `word_reader::read_word`: the parity is checked before dispersal is taken off the bits in front of it.
use mathlib.Core.Path.{◌≡◌, ap, ap₂, ◌∙◌}
use mathlib.Core.List.{List}
use Prim.Native.Nat.{ℕ, ◌-◌, ◌≤◌}
use native.Mathlib.Omega.{arith}
use lib.ListN.{length, take}
use lib.Seq.{length-take-le, take_at}
use borrow.Rule.Slice.PartMut.{put_mid, same_len_mid}
use Rattle.lists.specs.PartLaws.{take_lent}
use Rattle.bits.specs.Octets.{bits_of}
use Rattle.dispersal.specs.Register.{after}
use Rattle.dispersal.specs.Dispersal.{dispersed}
use Rattle.dispersal.specs.DispersalLaws.{length_dispersed}
use Rattle.codeword.specs.declared.Shape.{Shape}
use Rattle.codeword.specs.Words.{run_bits, register_after}
use Rattle.codeword.specs.Reading.{taken_off, word_answer, checks_number, word_number}
use Rattle.codeword.proofs.ReadingLaws.{taken_off_bits, wrong_few}
use Rattle.word_reader.proofs.read_word.Goals as goal

-- the area with dispersal taken off the bits at its head, its length kept
abbrev left : (run : ℕ) (bits off : List ℕ) → List ℕ
left run bits off = put_mid 0 (run - 0) bits off

-- these bits are those of the word with dispersal taken off
plain : (F : Shape) (mask r n : ℕ) (coded bits off : List ℕ) → n ≡ run_bits F → n ≤ length bits → bits ≡ bits_of coded
    → off ≡ dispersed F.width mask r (take (n - 0) bits) → take (run_bits F) (left n bits off) ≡ taken_off F mask r coded
unfolding taken_off
plain F mask r n coded bits off e h b d =
    let l : length off ≡ run_bits F = ap length d ∙ length_dispersed F.width mask r (take (n - 0) bits) ∙ length-take-le (n - 0) bits (omega arith) ∙ omega arith in
    take_at off _ (run_bits F) l ∙ d ∙ ap (dispersed F.width mask r) (take_lent n (run_bits F) bits e ∙ ap (take (run_bits F)) b)

pub check_word-requires : goal.check_word-requires
check_word-requires c =
    let a = c.args in
    let F = a.shape in
    let g = c.requires.checked.lent in
    let n = c.run_bits-run.result in
    let all = c.wrong_position-wrong.new.bits in
    let e = c.run_bits-run.ensures in
    let room : n ≤ length all = omega (arith, e, c.wrong_position-wrong.auto.bits, g.fits.whole, g.bits_long) in
    let p = plain F a.mask a.register n a.coded.now all _ e room c.wrong_position-wrong.ensures.bits_after c.disperse-next.ensures.run_after in
    let u = left n all c.disperse-next.new.run in
    let kept : length u ≡ length all = same_len_mid 0 (n - 0) all c.disperse-next.new.run c.disperse-next.auto.run in
    record {
      run = record {
        fits = g.fits;
        long = length-take-le (n - 0) u (omega (arith, room, kept)) ∙ omega (arith, e);
        bits = rw (take_lent n (run_bits F) u e, p) (taken_off_bits F a.coded.now a.mask a.register);
      };
      few = omega (arith, c.wrong_position-wrong.ensures.value, wrong_few F a.table.now a.coded.now, e, g.fits.input);
    }

pub returns : goal.returns
unfolding register_after word_number
returns c =
    let a = c.args in
    let F = a.shape in
    let g = c.requires.checked.lent in
    let n = c.run_bits-run.result in
    let all = c.wrong_position-wrong.new.bits in
    let e = c.run_bits-run.ensures in
    let room : n ≤ length all = omega (arith, e, c.wrong_position-wrong.auto.bits, g.fits.whole, g.bits_long) in
    let p = plain F a.mask a.register n a.coded.now all _ e room c.wrong_position-wrong.ensures.bits_after c.disperse-next.ensures.run_after in
    let u = left n all c.disperse-next.new.run in
    let told = c.check_word.ensures ∙ ap₂ (λ (w : ℕ) (v : List ℕ). word_answer (checks_number F w v) w) c.wrong_position-wrong.ensures.value (take_lent n (run_bits F) u e ∙ p) in
    let l : length (take (n - 0) all) ≡ run_bits F = length-take-le (n - 0) all (omega (arith, room)) ∙ omega (arith, e) in
    record {
      number = ap (λ a. a.number) told;
      position = ap (λ a. a.position) told;
      register = c.disperse-next.ensures.value ∙ ap (after F.width a.mask a.register) l;
      plain = p;
    }
