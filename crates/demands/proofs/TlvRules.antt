-- Proofs of the statements on TLV packets (document 02, N2).
use Rattle.std.specs.Prelude.{◌≡◌, refl, Bool, ◌&&◌, List, ◌++◌, ℕ, ◌+◌, ◌-◌, ◌*◌, ◌/◌, ◌<◌, eqb, ltb, length, get_or}
use Rattle.std.proofs.Common.{sym, ap, ap₂, ◌∙◌, mul-add, arith, length-append}
use Rattle.std.proofs.Math.Bool.{true, false}
use Rattle.std.proofs.Math.Nat.{mul-div_cancel_left}
use Rattle.std.proofs.Math.Decide.{ℕ_discrete}
use borrow.Author.Tests.{eq-eqb}
use Rattle.lists.specs.ChoiceLaws.{or_true}
use Rattle.lists.specs.Choice.{pick}
use Rattle.lists.specs.Count.{first, table}
use Rattle.refusal.specs.Numbers.{PLAN, LENGTH, PACKET}
use Rattle.plan.specs.Rates.{rate_ok, data_octets_of}
use Rattle.tlv.specs.Packets.{octets, packets_ok}
use Rattle.tlv.specs.Fill.{none, filled, reports, taken_after, owed_after, report, stream_at, stream_begins, sent_at, sent_begins}
use Rattle.tlv.specs.FillLaws.{length_reports, owed_small, owed_behind, taken_within, OneCall, two_calls}
use Rattle.tlv.specs.Read.{lost_slot, Reading, read, start}
use Rattle.tlv.specs.Sent.{sent_packets, sent_cut}
use Rattle.tlv.specs.Calls.{slots_of, slots_ok, taken_ok, fill_lent, fill_number, fill_answer, fill_slots, fill_begins, place_ok, read_ok, read_number, read_answer, read_packets, reading_of}
use Rattle.tlv.specs.CallLaws.{Slots, slots_are, FillReady, fill_ready, fill_accepted, ReadReady, read_ready, read_accepted, reports_inside, all_hold_law}
use Rattle.tlv.specs.TripLaws.{round_trip, plain_all}
use Rattle.tlv.specs.SlotLaws.{read_same}
use Rattle.tlv.specs.LostLaws.{start_heard, read_heard}
use Rattle.demands.specs.Requests.{FillRefused, ReadRefused, TlvRefused, OneFilling, FilledInTwo, Monitored, Arrived, FilledRead, AllArrive, LostUnseen, WorkedFillers}

-- the numbers in their order
module _ (rate : ℕ) (packets : List ℕ) (taken owed : ℕ) (slots begins : List ℕ) where
  abbrev lent : Bool
  lent = slots_ok (data_octets_of rate) (length slots) (length begins) && taken_ok (length packets) taken owed

  fill_order : (a b d : Bool) → rate_ok rate ≡ a → lent ≡ b → packets_ok packets ≡ d
      → fill_number rate packets taken owed slots begins ≡ pick a (pick b (pick d 0 PACKET) LENGTH) PLAN
  unfolding fill_number fill_lent
  fill_order false b d x y z = rw x
  fill_order true false d x y z = rw (x, y)
  fill_order true true false x y z = rw (x, y, z)
  fill_order true true true x y z = rw (x, y, z)

  fill_refused : FillRefused rate packets taken owed slots begins
  fill_refused =
      record {
        unknown = λ x. fill_order false _ _ x refl refl;
        lent = λ x y. fill_order true false _ x y refl;
        packet = λ x y z. fill_order true true false x y z;
      }

module _ (rate : ℕ) (slots begins lost : List ℕ) (f area : ℕ) where
  read_order : (a b : Bool) → rate_ok rate ≡ a → read_ok (data_octets_of rate) (length slots) begins lost f area ≡ b
      → read_number rate slots begins lost f area ≡ pick a (pick b 0 LENGTH) PLAN
  unfolding read_number
  read_order false b x y = rw x
  read_order true false x y = rw (x, y)
  read_order true true x y = rw (x, y)

  no_packet : (a b : Bool) → pick a (pick b 0 LENGTH) PLAN ≡ PACKET → ⊥
  no_packet false b e = omega (arith, e)
  no_packet true false e = omega (arith, e)
  no_packet true true e = omega (arith, e)

  read_refused : ReadRefused rate slots begins lost f area
  read_refused =
      record {
        unknown = λ x. read_order false _ x refl;
        lent = λ x y. read_order true false x y;
        never = λ e. no_packet (rate_ok rate) (read_ok (data_octets_of rate) (length slots) begins lost f area) (sym (read_order _ _ refl refl) ∙ e);
      }

pub tlv_refused : TlvRefused
tlv_refused = (fill_refused, read_refused)

-- what an accepted filling leaves
module _ (rate : ℕ) (packets : List ℕ) (taken owed : ℕ) (slots begins : List ℕ) (h : fill_number rate packets taken owed slots begins ≡ 0) where
  slots_filled : fill_slots rate packets taken owed slots begins ≡ filled packets taken owed (length slots)
  unfolding fill_slots
  slots_filled = rw (eq-eqb _ 0 h)

  begins_filled : fill_begins rate packets taken owed slots begins ≡ reports (data_octets_of rate) (slots_of rate slots) packets taken owed
  unfolding fill_begins
  begins_filled = rw (eq-eqb _ 0 h)

  numbers_filled : fill_answer rate packets taken owed slots begins
      ≡ record { number = 0; taken = taken_after packets taken owed (length slots); owed = owed_after packets taken owed (length slots) }
  unfolding fill_answer
  numbers_filled = rw (eq-eqb _ 0 h)

-- two calls
module _ (rate : ℕ) (packets : List ℕ) (taken owed : ℕ) (slots begins further told : List ℕ)
    (h : fill_number rate packets taken owed slots begins ≡ 0) (k : slots_ok (data_octets_of rate) (length further) (length told) ≡ true) where
  ready : FillReady rate packets taken owed slots begins
  ready = fill_ready rate packets taken owed slots begins h

  pos : 0 < data_octets_of rate
  pos = omega (arith, ready.octets.low)

  more : Slots (data_octets_of rate) (length further) (length told)
  more = slots_are (data_octets_of rate) (length further) (length told) pos k

  both_long : length (slots ++ further) ≡ data_octets_of rate * (slots_of rate slots + slots_of rate further)
  both_long = length-append slots further ∙ ap₂ (λ (x y : ℕ). x + y) ready.lent.whole more.whole ∙ sym (mul-add (data_octets_of rate) (slots_of rate slots) (slots_of rate further))

  both_slots : slots_of rate (slots ++ further) ≡ slots_of rate slots + slots_of rate further
  both_slots = ap (λ (x : ℕ). x / data_octets_of rate) both_long ∙ mul-div_cancel_left (slots_of rate slots + slots_of rate further) pos

  joined_slots : Slots (data_octets_of rate) (length (slots ++ further)) (length (begins ++ told))
  joined_slots =
      record {
        some = rw both_slots (omega (arith, ready.lent.some));
        least = omega (arith, length-append slots further, ready.lent.least);
        whole = both_long ∙ ap (λ (x : ℕ). data_octets_of rate * x) (sym both_slots);
        reports = length-append begins told ∙ ap₂ (λ (x y : ℕ). x + y) ready.lent.reports more.reports ∙ sym both_slots;
      }

  second_ready : FillReady rate packets (taken_after packets taken owed (length slots)) (owed_after packets taken owed (length slots)) further told
  second_ready =
      record {
        known = ready.known;
        octets = ready.octets;
        lent = more;
        within = taken_within packets taken owed (length slots);
        few = omega (arith, owed_small packets taken owed (length slots));
        owing = λ a b. owed_behind packets taken owed (length slots) (omega arith);
        right = ready.right;
      }

  once_ready : FillReady rate packets taken owed (slots ++ further) (begins ++ told)
  once_ready =
      record {
        known = ready.known;
        octets = ready.octets;
        lent = joined_slots;
        within = ready.within;
        few = ready.few;
        owing = ready.owing;
        right = ready.right;
      }

  -- with the octets of the first call's slots, in place of their product
  two : (T : ℕ) → T ≡ data_octets_of rate * slots_of rate slots
      → OneCall (data_octets_of rate) (slots_of rate slots) (slots_of rate further) packets taken owed (taken_after packets taken owed T) (owed_after packets taken owed T)
  two T e =
      rw e
      (two_calls (data_octets_of rate) (slots_of rate slots) (slots_of rate further) packets taken owed
      (omega (arith, ready.few, ready.lent.whole, ready.lent.least, ready.octets.low))
      (omega (arith, more.whole, more.least, ready.octets.low)))

  abbrev t : ℕ
  t = taken_after packets taken owed (length slots)

  abbrev w : ℕ
  w = owed_after packets taken owed (length slots)

  one_filling : OneFilling rate packets taken owed slots begins further told (taken_after packets taken owed (length slots)) (owed_after packets taken owed (length slots))
  one_filling =
      let x : fill_number rate packets (taken_after packets taken owed (length slots)) (owed_after packets taken owed (length slots)) further told ≡ 0
      = fill_accepted rate packets _ _ further told second_ready in
      let y : fill_number rate packets taken owed (slots ++ further) (begins ++ told) ≡ 0 = fill_accepted rate packets taken owed (slots ++ further) (begins ++ told) once_ready in
      let c = two (length slots) ready.lent.whole in
      record {
        second = x;
        once = y;
        octets =
            slots_filled rate packets taken owed (slots ++ further) (begins ++ told) y
            ∙ ap (filled packets taken owed) both_long
            ∙ c.octets
            ∙ ap₂ (λ (u v : List ℕ). u ++ v)
            (ap (filled packets taken owed) (sym ready.lent.whole) ∙ sym (slots_filled rate packets taken owed slots begins h))
            (ap (filled packets t w) (sym more.whole) ∙ sym (slots_filled rate packets t w further told x));
        places =
            begins_filled rate packets taken owed (slots ++ further) (begins ++ told) y
            ∙ ap (λ (n : ℕ). reports (data_octets_of rate) n packets taken owed) both_slots
            ∙ c.begins
            ∙ ap₂ (λ (u v : List ℕ). u ++ v)
            (sym (begins_filled rate packets taken owed slots begins h))
            (sym (begins_filled rate packets t w further told x));
        numbers =
            numbers_filled rate packets taken owed (slots ++ further) (begins ++ told) y
            ∙ ap₂ (λ (u v : ℕ). record { number = 0; taken = u; owed = v })
            (ap (taken_after packets taken owed) both_long ∙ c.taken ∙ ap (taken_after packets t w) (sym more.whole))
            (ap (owed_after packets taken owed) both_long ∙ c.owed ∙ ap (owed_after packets t w) (sym more.whole))
            ∙ sym (numbers_filled rate packets t w further told x);
      }

pub filled_in_two : FilledInTwo
filled_in_two rate packets taken owed slots begins further told h k =
    rw (numbers_filled rate packets taken owed slots begins h) (one_filling rate packets taken owed slots begins further told h k)

-- what arrives
module _ (rate : ℕ) (packets : List ℕ) (taken owed : ℕ) (slots begins lost received : List ℕ) (f : ℕ) (area : List ℕ)
    (m : Monitored rate packets taken owed slots begins lost received f area) where
  filling : FillReady rate packets taken owed slots begins
  filling = fill_ready rate packets taken owed slots begins m.filled

  abbrev told : List ℕ
  told = reports (data_octets_of rate) (slots_of rate slots) packets taken owed

  told_are : fill_begins rate packets taken owed slots begins ≡ reports (data_octets_of rate) (slots_of rate slots) packets taken owed
  told_are = begins_filled rate packets taken owed slots begins m.filled

  told_long : length told ≡ length begins
  told_long = length_reports (data_octets_of rate) (slots_of rate slots) packets taken owed ∙ sym filling.lent.reports

  from : (f ≡ none → ⊥) → f ≡ get_or told 0 0
  from n = m.from n ∙ ap (λ (xs : List ℕ). get_or xs 0 0) told_are

  place : place_ok (data_octets_of rate) f ≡ true
  place = go (ℕ_discrete f none)
    where
      go : Dec (f ≡ none) → place_ok (data_octets_of rate) f ≡ true
      go (yes e) = or_true (ltb f (data_octets_of rate)) (eqb f none) (eq-eqb f none e)
      go (no n) =
          ap (place_ok (data_octets_of rate)) (from n)
          ∙ all_hold_law (place_ok (data_octets_of rate)) told (reports_inside (data_octets_of rate) (slots_of rate slots) packets taken owed) 0
          (omega (arith, told_long, filling.lent.some, filling.lent.reports))

  taken_in : ReadReady rate received told lost f (length area)
  taken_in =
      record {
        known = filling.known;
        octets = filling.octets;
        lent = rw (m.long, told_long) filling.lent;
        marks = m.marks ∙ sym told_long;
        room = m.room ∙ sym m.long;
        place = place;
        inside = reports_inside (data_octets_of rate) (slots_of rate slots) packets taken owed;
        marked = m.marked;
      }

  accepted : read_number rate received told lost f (length area) ≡ 0
  accepted = read_accepted rate received told lost f (length area) taken_in

  agree : (i : ℕ) → i < data_octets_of rate * slots_of rate slots → lost_slot lost (i / data_octets_of rate) ≡ false
      → get_or received i 0 ≡ get_or (filled packets taken owed (data_octets_of rate * slots_of rate slots)) i 0
  agree i l e =
      m.sound i (omega (arith, filling.lent.whole)) e
      ∙ ap (λ (xs : List ℕ). get_or xs i 0) (slots_filled rate packets taken owed slots begins m.filled ∙ ap (filled packets taken owed) filling.lent.whole)

  abbrev arrives : Reading
  arrives =
      record {
        written = sent_packets (data_octets_of rate) (slots_of rate slots) lost packets taken owed;
        unfinished = sent_cut (data_octets_of rate) (slots_of rate slots) lost packets taken owed;
      }

  reading_at : (T n : ℕ) → T ≡ data_octets_of rate * slots_of rate slots → n ≡ slots_of rate slots
      → read (data_octets_of rate) n lost told (octets received) T (start (data_octets_of rate) n lost told f) ≡ arrives
  reading_at T n e d =
      let low = filling.octets.low in
      let high = filling.octets.high in
      rw (e, d)
      (round_trip (data_octets_of rate) (slots_of rate slots) (omega arith) (omega arith) filling.lent.some packets taken owed filling.right
      filling.within (omega (arith, filling.few, filling.lent.whole, filling.lent.least)) lost received agree f from)

  reading : reading_of rate received told lost f ≡ arrives
  unfolding reading_of
  reading = reading_at (length received) (slots_of rate received) (m.long ∙ filling.lent.whole) (ap (λ (x : ℕ). x / data_octets_of rate) m.long)

  arrived : Arrived rate packets taken owed slots begins lost received f area
  unfolding read_answer read_packets
  arrived =
      let e = eq-eqb (read_number rate received told lost f (length area)) 0 accepted in
      record { answer = rw (told_are, e, reading); packets_area = rw (told_are, e, reading) }

pub filled_read : FilledRead
filled_read = arrived

pub all_arrive : AllArrive
all_arrive rate packets taken owed slots begins lost h none-lost room =
    let r = fill_ready rate packets taken owed slots begins h in
    plain_all (data_octets_of rate) (slots_of rate slots) lost packets taken owed r.right
    (λ k l. none-lost k (omega (arith, r.lent.reports))) (omega (arith, r.lent.whole))

-- a lost slot
pub lost_unseen : LostUnseen
unfolding read_answer read_packets reading_of
lost_unseen rate slots others begins told lost f area h k octets-agree reports-agree =
    let a = read_ready rate slots begins lost f (length area) h in
    let b = read_ready rate others told lost f (length area) k in
    let D : ℕ = data_octets_of rate in
    let n : ℕ = slots_of rate slots in
    let same : length others ≡ length slots = sym b.room ∙ a.room in
    let heard : (i : ℕ) → i < n → lost_slot lost i ≡ false → get_or begins i 0 ≡ get_or told i 0 = λ i l. reports-agree i (omega (arith, a.lent.reports)) in
    let seen : (i : ℕ) → i < D * n → lost_slot lost (i / D) ≡ false → octets slots i ≡ octets others i = λ i l. octets-agree i (omega (arith, a.lent.whole)) in
    let e : reading_of rate slots begins lost f ≡ reading_of rate others told lost f
    = rw (same, ← start_heard D n lost begins told heard f)
    (read_same D n (omega (arith, a.octets.low)) lost begins (octets slots) (octets others) seen (length slots) (start D n lost begins f)
    ∙ read_heard D n lost begins told heard (octets others) (length slots) (start D n lost begins f)) in
    rw (eq-eqb (read_number rate slots begins lost f (length area)) 0 h, eq-eqb (read_number rate others told lost f (length area)) 0 k, e) (refl, refl)

pub worked_fillers : WorkedFillers
unfolding filled owed_after taken_after report stream_at stream_begins sent_at sent_begins table first Rattle.tlv.specs.Packets.head_from Rattle.tlv.specs.Packets.size_at
worked_fillers = record { fillers = refl; owed = refl; carried = refl; carried_report = refl; lent_report = refl; taken = refl }
