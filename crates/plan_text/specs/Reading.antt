-- A plan's text, read (document 01, "Worked by hand": "Program plan-list reads lines of modulation, rate, slots"). Past
-- the end of a text stands 0, which is neither a digit nor a separator.
use Rattle.std.specs.Prelude.{Bool, ◌&&◌, ◌||◌, not, List, ℕ, zero, suc, ◌+◌, eqb, leb, ltb, length, get_or, Result, Ok, Err}
use Rattle.lists.specs.Choice.{pick, and_then}
use Rattle.lists.specs.Count.{first, table}
use Rattle.refusal.specs.Numbers.{PLAN}
use Rattle.refusal.specs.Answers.{number_of}
use Rattle.refusal.specs.declared.Refusal.{Refusal}
use Rattle.plan.specs.declared.Plan.{Plan}
use Rattle.plan.specs.Records.{of_columns, no_plan}
use Rattle.plan.specs.Plans.{plan_number}
use Rattle.plan_text.specs.declared.Line.{Line}
use Rattle.plan_text.specs.declared.PlanRead.{PlanRead}
use Rattle.texts.specs.Characters.{SPACE, LINE-FEED, ZERO}
use Rattle.numerals.specs.Numerals.{is_digit, value_of}

-- how many digits stand at a place, counted up to three
unfoldable pub digits_at : List ℕ → ℕ → ℕ
digits_at t at =
    pick (is_digit 10 (get_or t at 0))
    (pick (is_digit 10 (get_or t (at + 1) 0)) (pick (is_digit 10 (get_or t (at + 2) 0)) 3 2) 1)
    0

-- "1 to 3 digits, no leading zero except 0 itself", and behind them the separator
unfoldable pub field_ok : List ℕ → ℕ → ℕ → Bool
field_ok t at separator =
    leb 1 (digits_at t at)
    && ((eqb (digits_at t at) 1 || not (eqb (get_or t at 0) ZERO)) && eqb (get_or t (at + digits_at t at) 0) separator)

abbrev pub field_value : List ℕ → ℕ → ℕ
field_value t at = value_of 10 t at (digits_at t at)

-- the place behind a field and its separator
abbrev pub field_end : List ℕ → ℕ → ℕ
field_end t at = at + digits_at t at + 1

-- where field k of a line that begins at a place begins
unfoldable pub field_start : List ℕ → ℕ → ℕ → ℕ
field_start t at zero = at
field_start t at (suc k) = field_end t (field_start t at k)

-- "one space between, line feed after each"
unfoldable pub line_ok : List ℕ → ℕ → Bool
line_ok t at = field_ok t (field_start t at 0) SPACE && (field_ok t (field_start t at 1) SPACE && field_ok t (field_start t at 2) LINE-FEED)

-- a line: "modulation, rate, slots"
unfoldable pub line_of : List ℕ → ℕ → Line
line_of t at =
    record {
      modulation = field_value t (field_start t at 0);
      rate = field_value t (field_start t at 1);
      slots = field_value t (field_start t at 2);
      next = field_start t at 3;
    }

-- where line k begins
unfoldable pub line_start : List ℕ → ℕ → ℕ
line_start t zero = 0
line_start t (suc k) = (line_of t (line_start t k)).next

-- reading stops at the end of the text and at a line that is not right
unfoldable pub stops_at : List ℕ → ℕ → Bool
stops_at t k = leb (length t) (line_start t k) || not (line_ok t (line_start t k))

-- the lines read: at most 8, one for each group
unfoldable pub lines_of : List ℕ → ℕ
lines_of t = first 8 (stops_at t)

-- "128 octets at most", all of them read as lines; "else refused as 1", document 02's "unreadable text"
unfoldable pub text_number : List ℕ → ℕ
text_number t = pick (leb (length t) 128 && eqb (line_start t (lines_of t)) (length t)) 0 PLAN

-- one number of each line, and zeros for the groups not in use
unfoldable pub column : (ℕ → ℕ) → ℕ → List ℕ
column f n = table 8 (λ g. pick (ltb g n) (f g) 0)

unfoldable pub plan_of : List ℕ → Plan
plan_of t =
    of_columns (lines_of t)
    (column (λ g. (line_of t (line_start t g)).modulation) (lines_of t))
    (column (λ g. (line_of t (line_start t g)).rate) (lines_of t))
    (column (λ g. (line_of t (line_start t g)).slots) (lines_of t))

-- a number, with the text's plan where it is 0; "Every other number returned with a refusal is 0"
abbrev pub read_as : ℕ → List ℕ → PlanRead
read_as n t = record { number = n; plan = pick (eqb n 0) (plan_of t) no_plan }

-- what reading answers, as its number and a plan
abbrev pub as_read : Result Plan Refusal → PlanRead
as_read (Ok p) = record { number = 0; plan = p }
as_read (Err r) = record { number = number_of r; plan = no_plan }

-- the text's refusal, then the plan's
unfoldable pub read_number : List ℕ → ℕ
read_number t = and_then (text_number t) (plan_number (plan_of t))

unfoldable pub plan_read : List ℕ → PlanRead
plan_read t = read_as (read_number t) t
