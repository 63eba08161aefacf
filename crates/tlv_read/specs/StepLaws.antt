-- The step that the code takes, by what it found.
use Rattle.std.specs.Prelude.{◌≡◌, Bool, not, ◌&&◌, ℕ, ◌+◌, ◌*◌, ◌/◌, ◌<◌, ◌≤◌, ltb}
use Rattle.std.proofs.Math.Path.{refl, sym}
use Rattle.std.proofs.Common.{ap, ◌∙◌}
use Rattle.std.proofs.Math.Bool.{true, false}
use mathlib.Core.List.{List, []}
use borrow.Author.Tests.{lt-ltb, le-ltb, ltb-false, eq-eqb, ne_eqb, not-true}
use Rattle.std.proofs.Math.Dec.{eqb}
use Rattle.lists.specs.Choice.{pick}
use Rattle.lists.specs.ChoiceLaws.{clash}
use Rattle.lists.specs.Count.{table}
use Rattle.tlv.specs.Packets.{head_ok, size_at, body_ok, empty_null, run}
use Rattle.tlv.specs.Read.{lost_from, meets, on_from, Step, stop, on, whole, wrong, step}
use Rattle.tlv_read.specs.Needs.{Whole, moved, kept_of}

-- whether octets are there, from the first lost slot g that they meet
module _ (D n : ℕ) (lost begins : List ℕ) (s p e : ℕ) (place : s ≡ p / D) (g : ℕ) (gone : g ≡ lost_from D n lost s e) where
  met : meets D n lost p e ≡ g
  met = ap (λ (k : ℕ). lost_from D n lost k e) (sym place) ∙ sym gone

  pub whole_lost : g < n → (there ends : Bool) (at size : ℕ) → there ≡ false → ends ≡ false → at ≡ on_from D n lost begins (g + 1) → size ≡ 0
      → Whole D n lost begins p e there ends at size
  unfolding whole
  whole_lost l there ends at size t f a z = record { none = z; fits = λ y. absurd (clash there t y); is = λ s. rw (met, lt-ltb g n l, t, f, a) }

  pub whole_sound : n ≤ g → (past : Bool) → past ≡ ltb (D * n) e → Whole D n lost begins p e (not past) past p 0
  unfolding whole
  whole_sound l past h =
      record {
        none = refl;
        fits = λ y. ltb-false (D * n) e (sym h ∙ not-true past y);
        is = λ s. rw (met, le-ltb g n l, ← h) (exchanged past s);
      }
    where
      exchanged : (t : Bool) (s : Step) → pick t (stop p) s ≡ pick (not t) s (pick t (stop p) (on [] p))
      exchanged true s = refl
      exchanged false s = refl

module _ (D n : ℕ) (lost begins : List ℕ) (o : ℕ → ℕ) (p : ℕ) where
  abbrev rest : Step
  rest = pick (body_ok o p) (on (pick (empty_null o p) [] (run o p (size_at o p))) (p + size_at o p)) (wrong D n lost begins p)

  -- what is left of the step where the head is there, and where the body is there too
  abbrev pub Headed : Type 0
  Headed = step D n lost begins o p ≡ pick (head_ok o p) (whole D n lost begins p (p + size_at o p) rest) (wrong D n lost begins p)

  abbrev pub Bodied : Type 0
  Bodied = step D n lost begins o p ≡ rest

  pub step_end : p ≡ D * n → moved o p true p 0 ≡ step D n lost begins o p
  unfolding step moved
  step_end h = rw (eq-eqb p (D * n) h)

  -- nothing is written
  bare : (ends : Bool) (at size : ℕ) → size ≡ 0 → moved o p ends at size ≡ pick ends (stop at) (on [] at)
  unfolding moved table
  bare ends at size z = rw z

  module _ (e : ℕ) (there ends : Bool) (at size : ℕ) (w : Whole D n lost begins p e there ends at size) (s : Step) where
    broken : there ≡ false → moved o p ends at size ≡ whole D n lost begins p e s
    broken t = bare ends at size w.none ∙ sym (w.is s ∙ ap (λ (x : Bool). pick x s (pick ends (stop at) (on [] at))) t)

    sound : there ≡ true → whole D n lost begins p e s ≡ s
    sound t = w.is s ∙ ap (λ (x : Bool). pick x s (pick ends (stop at) (on [] at))) t

  module _ (more : p ≡ D * n → ⊥) (there ends : Bool) (at size : ℕ) (w : Whole D n lost begins p (p + 4) there ends at size) where
    begun : step D n lost begins o p ≡ whole D n lost begins p (p + 4) (pick (head_ok o p) (whole D n lost begins p (p + size_at o p) rest) (wrong D n lost begins p))
    unfolding step
    begun = rw (ne_eqb p (D * n) more)

    pub no_head : there ≡ false → moved o p ends at size ≡ step D n lost begins o p
    no_head t = broken (p + 4) there ends at size w _ t ∙ sym begun

    pub headed : there ≡ true → Headed
    headed t = begun ∙ sound (p + 4) there ends at size w _ t

  -- reading goes on behind slot s, where the head lies
  module _ (s : ℕ) (place : s ≡ p / D) (ends : Bool) (at size : ℕ) (f : ends ≡ false) (a : at ≡ on_from D n lost begins (s + 1)) (z : size ≡ 0) where
    goes_wrong : moved o p ends at size ≡ wrong D n lost begins p
    unfolding wrong
    goes_wrong = bare ends at size z ∙ rw (f, a, place)

    pub wrong_head : Headed → head_ok o p ≡ false → moved o p ends at size ≡ step D n lost begins o p
    wrong_head h e = goes_wrong ∙ sym (rw e at h)

    pub wrong_body : Bodied → body_ok o p ≡ false → moved o p ends at size ≡ step D n lost begins o p
    wrong_body b e = goes_wrong ∙ sym (rw e at b)

  module _ (h : Headed) (right : head_ok o p ≡ true) (long : ℕ) (sized : long ≡ size_at o p)
      (there ends : Bool) (at size : ℕ) (w : Whole D n lost begins p (p + long) there ends at size) where
    to_body : whole D n lost begins p (p + long) rest ≡ step D n lost begins o p
    to_body = ap (λ (m : ℕ). whole D n lost begins p (p + m) rest) sized ∙ sym (rw right at h)

    pub no_body : there ≡ false → moved o p ends at size ≡ step D n lost begins o p
    no_body t = broken (p + long) there ends at size w rest t ∙ to_body

    pub bodied : there ≡ true → Bodied
    bodied t = sym to_body ∙ sound (p + long) there ends at size w rest t

  written : (null : Bool) (m : ℕ) → on (run o p (pick null 0 m)) (p + m) ≡ on (pick null [] (run o p m)) (p + m)
  unfolding table
  written true m = refl
  written false m = refl

  pub packet_kept : Bodied → body_ok o p ≡ true → (long k : ℕ) → long ≡ size_at o p → k ≡ kept_of (o (p + 1)) long → moved o p false (p + long) k ≡ step D n lost begins o p
  unfolding moved empty_null
  packet_kept b h long k sized e =
      let r : step D n lost begins o p ≡ on (pick (eqb (o (p + 1)) 0xFF && eqb (size_at o p) 4) [] (run o p (size_at o p))) (p + size_at o p) = rw h at b in
      rw (e, sized) (written (eqb (o (p + 1)) 0xFF && eqb (size_at o p) 4) (size_at o p)) ∙ sym r
