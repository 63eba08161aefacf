-- `run_list::answer`: what was read decides between the list and the refusal.
use Rattle.std.proofs.Common.{◌≡◌, sym, ap, ◌∙◌, ℕ, ◌≤◌, List, length, arith, rules, Ok, Err, length-take-le}
use Rattle.lists.specs.Parts.{put}
use Rattle.lists.specs.ChoiceLaws.{then_zero}
use Rattle.refusal.specs.Answers.{number_of}
use Rattle.refusal.specs.AnswerLaws.{refused_not_0}
use Rattle.refusal.specs.declared.Refusal.{Refusal}
use Rattle.plan.specs.declared.Plan.{Plan}
use Rattle.plan.specs.Plans.{plan_number}
use Rattle.plan_text.specs.declared.PlanRead.{PlanRead}
use Rattle.plan_text.specs.Reading.{text_number, read_number, plan_of, as_read, plan_read}
use Rattle.run_list.specs.Listing.{list_text, refused_text, answer_text}
use Rattle.run_list.specs.ListingLaws.{length_answer_text}
use Rattle.run_list.specs.Needs.{Taken}
use Rattle.texts.specs.Written.{Written}
use Rattle.run_list.proofs.answer.Goals as goal

-- an accepted text's plan, and its list
read_ok : (t : List ℕ) (p : Plan) → as_read (Ok p) ≡ plan_read t → (plan_number p ≡ 0) × (list_text p ≡ answer_text t)
unfolding plan_read read_number answer_text
read_ok t p e =
    let z : 0 ≡ read_number t = ap (λ (r : PlanRead). r.number) e in
    let q : p ≡ plan_of t = ap (λ (r : PlanRead). r.plan) e ∙ rw (← z) in
    (ap plan_number q ∙ (then_zero (text_number t) _ (sym z)).1, ap list_text q ∙ rw (← z))

-- a refusal's line
read_err : (t : List ℕ) (r : Refusal) → as_read (Err r) ≡ plan_read t → refused_text (number_of r) ≡ answer_text t
unfolding plan_read answer_text
read_err t r e =
    let n : number_of r ≡ read_number t = ap (λ (r : PlanRead). r.number) e in
    rw (← n, refused_not_0 r)

-- an answer written from the area's beginning on
record Whole (t found area : List ℕ) (n : ℕ) : Type 0 where
  value : n ≡ length (answer_text t)
  out_after : area ≡ put 0 (answer_text t) found
  taken : Taken n area

whole : (x t found area : List ℕ) (n : ℕ) → x ≡ answer_text t → length found ≡ 512 → Written x 0 found area n → Whole t found area n
whole x t found area n e l w =
    let m : n ≡ length (answer_text t) = omega (arith, w.reached, ap length e) in
    let h : n ≤ length area = omega (arith, w.same, length_answer_text t) in
    record { value = m; out_after = w.filled ∙ ap (λ (y : List ℕ). put 0 y found) e; taken = record { within = h; counted = sym (length-take-le n area h) } }

pub write_all-requires : goal.write_all-requires
write_all-requires c = record { plan = (read_ok _ _ c.in-Ok.ensures).0; long = search rules }

pub returns-in-Ok : goal.returns-in-Ok
returns-in-Ok c =
    let q = whole _ c.args.text.now _ _ _ (read_ok _ _ c.in-Ok.ensures).1 (search rules) c.write_all.ensures in
    record { value = q.value; out_after = q.out_after; taken = q.taken }

pub returns-in-Err : goal.returns-in-Err
returns-in-Err c =
    let n = c.from.ensures ∙ c.number.ensures in
    let q = whole _ c.args.text.now _ _ _ (ap refused_text n ∙ read_err _ _ c.in-Err.ensures) (search rules) c.write_refusal.ensures in
    record { value = q.value; out_after = q.out_after; taken = q.taken }
