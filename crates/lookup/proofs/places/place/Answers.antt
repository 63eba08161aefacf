-- `lookup::place`: a slot that is not refused is one of an accepted plan.
use Rattle.std.proofs.Common.{sym}
use Rattle.lookup.proofs.LookupLaws.{slot_there}
use Rattle.lookup.proofs.places.place.Goals as goal

pub place_of-requires : goal.place_of-requires
place_of-requires c = slot_there _ _ (sym c.in_ok-check_place.ensures)
