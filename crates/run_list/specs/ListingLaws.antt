-- How long the texts of the list are: the list of any plan of at most 8 groups fits 512 octets.
use Rattle.std.specs.Prelude.{◌≡◌, refl, Bool, true, false, List, [], ℕ, zero, suc, ◌+◌, ◌*◌, ◌≤◌, eqb, leb, length}
use Rattle.std.proofs.Common.{arith, length-append}
use Rattle.lists.specs.Choice.{pick}
use Rattle.lists.specs.Count.{joined}
use Rattle.lists.specs.CountLaws.{first_first}
use Rattle.plan.specs.declared.Plan.{Plan}
use Rattle.plan.specs.Plans.{modulation_of, rate_of}
use Rattle.plan.specs.Places.{run_first, run_last}
use Rattle.texts.specs.DecimalLaws.{length_decimal, length_field}
use Rattle.plan_text.specs.Reading.{read_number, plan_of, lines_of, stops_at}
use Rattle.run_list.specs.Listing.{heading, kind_word, run_line, run_text, group_text, total_word, data_word, total_line, data_total, dummy_total, list_text, refused_word, refused_text, answer_text}

pub length_kind_word : (b : Bool) → length (kind_word b) ≤ 6
unfolding kind_word
length_kind_word true = omega arith
length_kind_word false = omega arith

pub length_run_line : (from to m r : ℕ) (word : List ℕ) → length (run_line from to m r word) ≤ 16 + length word
unfolding run_line
length_run_line from to m r word =
    simp length-append (omega (arith, length_field from, length_field to, length_field m, length_field r))

none_or : (b : Bool) (x : List ℕ) (n : ℕ) → length x ≤ n → length (pick b x []) ≤ n
none_or true x n h = h
none_or false x n h = omega arith

pub length_run_text : (p : Plan) (g : ℕ) (b : Bool) → length (run_text p g b) ≤ 22
unfolding run_text
length_run_text p g b =
    none_or (leb (run_first p g b) (run_last p g b)) _ 22
    (let k = length_kind_word b in omega (arith, length_run_line (run_first p g b) (run_last p g b) (modulation_of p g) (rate_of p g) (kind_word b)))

pub length_group_text : (p : Plan) (g : ℕ) → length (group_text p g) ≤ 44
unfolding group_text
length_group_text p g = simp length-append (omega (arith, length_run_text p g true, length_run_text p g false))

pub length_groups : (p : Plan) (n : ℕ) → length (joined n (group_text p)) ≤ 44 * n
unfolding joined
length_groups p zero = omega arith
length_groups p (suc n) = simp length-append (omega (arith, length_groups p n, length_group_text p n))

pub length_total_line : (d u : ℕ) → length (total_line d u) ≤ 25
unfolding total_line total_word data_word kind_word
length_total_line d u = simp length-append (omega (arith, length_field d, length_field u))

pub length_heading : length heading ≡ 25
unfolding heading
length_heading = refl

pub length_list_text : (p : Plan) → p.count ≤ 8 → length (list_text p) ≤ 402
unfolding list_text
length_list_text p h =
    simp length-append
    (omega (arith, length_heading, length_groups p p.count, length_total_line (data_total p) (dummy_total p)))

pub length_refused_text : (n : ℕ) → length (refused_text n) ≤ 12
unfolding refused_text refused_word
length_refused_text n = simp length-append (omega (arith, length_decimal n))

either : (b : Bool) (x y : List ℕ) (n : ℕ) → length x ≤ n → length y ≤ n → length (pick b x y) ≤ n
either true x y n h k = h
either false x y n h k = k

-- the answer to any text fits the area that plan-list lends
pub length_answer_text : (t : List ℕ) → length (answer_text t) ≤ 512
unfolding answer_text plan_of lines_of
length_answer_text t =
    either (eqb (read_number t) 0) (list_text (plan_of t)) (refused_text (read_number t)) 512
    (omega (arith, length_list_text (plan_of t) (first_first 8 (stops_at t)).within))
    (omega (arith, length_refused_text (read_number t)))
