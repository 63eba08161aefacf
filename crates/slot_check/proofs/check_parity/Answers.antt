-- `slot_check::check_parity`: the form decides, then the parity.
use Rattle.std.proofs.Common.{sym, ap, ◌∙◌, ℕ}
use lib.ListN.{length-replicate}
use Rattle.plan.proofs.RateLaws.{rate_rows}
use Rattle.slot.specs.Reading.{checked_answer}
use Rattle.slot_check.specs.FormLaws.{formed, check_looked}
use Rattle.slot_check.proofs.check_parity.Goals as goal

pub checked-requires : goal.checked-requires
checked-requires c =
    let a = c.args in
    let f = formed a.rate a.table.now a.coded.now (sym c.in_ok-check_form.ensures) in
    record {
      rate = rw c.rows.ensures (rate_rows a.rate f.rate_known);
      table = rw c.rows.ensures f.table;
      whole = f.whole;
      bits_long = length-replicate {A = ℕ} 44880 0;
      input_long = length-replicate {A = ℕ} 44880 0;
      sums_long = length-replicate {A = ℕ} 29546 0;
    }

pub returns : goal.returns
returns c =
    let a = c.args in
    c.checked.ensures
    ∙ ap (λ (R : ℕ). checked_answer R a.table.now a.coded.now) c.rows.ensures
    ∙ sym (check_looked a.rate a.table.now a.coded.now (sym c.in_ok-check_form.ensures))
