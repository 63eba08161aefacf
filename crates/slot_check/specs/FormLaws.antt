-- Laws of the lone check: what a number 0 says of what it is lent, and its answer where the form is refused and where it is not.
use Rattle.std.specs.Prelude.{◌≡◌, true, List, ℕ, eqb, length, Err}
use Rattle.std.proofs.Common.{arith, sym, subst, ◌∙◌, eqb-true}
use Rattle.lists.specs.Choice.{pick}
use Rattle.lists.specs.ChoiceLaws.{then_zero, not_refused}
use Rattle.refusal.specs.Numbers.{PLAN, LENGTH, TABLE}
use Rattle.parity_table.specs.Tables.{table_ok}
use Rattle.plan.specs.Rates.{rate_ok, rows_of}
use Rattle.plan.specs.Sizes.{slot_octets}
use Rattle.refusal.specs.Answers.{number_of}
use Rattle.refusal.specs.AnswerLaws.{refused_some}
use Rattle.refusal.specs.declared.Refusal.{Refusal}
use Rattle.codeword.proofs.AnswerLaws.{Earlier, answer≡, earlier_told, answer_refused, answer_looked}
use Rattle.codeword.specs.Reading.{no_position, as_word_answer}
use Rattle.slot.specs.Reading.{checked_answer}
use Rattle.slot.specs.Calls.{form_number, check_number, check_answer}
use Rattle.slot.proofs.CallLaws.{form_earlier}

-- what a number 0 says of the rate, the slot and the table
pub record Formed (rate : ℕ) (t c : List ℕ) : Type 0 where
  pub rate_known : rate_ok rate ≡ true
  pub whole : length c ≡ slot_octets
  pub table : table_ok (rows_of rate) t ≡ true

pub formed : (rate : ℕ) (t c : List ℕ) → form_number rate t c ≡ 0 → Formed rate t c
unfolding form_number
formed rate t c h =
    let a = then_zero (pick (rate_ok rate) 0 PLAN) _ h in
    let b = then_zero (pick (eqb (length c) slot_octets) 0 LENGTH) _ a.1 in
    record {
      rate_known = not_refused (rate_ok rate) PLAN (omega arith) a.0;
      whole = eqb-true (length c) slot_octets (not_refused (eqb (length c) slot_octets) LENGTH (omega arith) b.0);
      table = not_refused (table_ok (rows_of rate) t) TABLE (omega arith) b.1;
    }

module _ (rate : ℕ) (t c : List ℕ) where
  pub check_refused : (form_number rate t c ≡ 0 → ⊥) → check_answer rate t c ≡ record { number = form_number rate t c; position = no_position }
  unfolding check_answer check_number
  check_refused = answer_refused (form_number rate t c) _ _ (form_earlier rate t c)

  pub check_looked : form_number rate t c ≡ 0 → check_answer rate t c ≡ checked_answer (rows_of rate) t c
  unfolding check_answer check_number
  check_looked = answer_looked (form_number rate t c) _ _

  -- a refusal of the form is the answer, with no position
  pub form_refused : (r : Refusal) → number_of r ≡ form_number rate t c → as_word_answer {A = Unit} (Err r) ≡ check_answer rate t c
  form_refused r n =
      let p = earlier_told r (subst Earlier (sym n) (form_earlier rate t c)) in
      answer≡ n p ∙ sym (check_refused (λ z. refused_some r (n ∙ z)))
