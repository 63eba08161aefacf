-- `published::copy_table`: the constant is all tables end to end, by one computation.
use mathlib.Core.Path.{refl}
use Rattle.lists.specs.Count.{joined}
use Rattle.published.specs.Printed.{rate1, rate2, rate3, rate4, rate5, rate6, rate7, rate8, rate9, rate10, rate11}
use Rattle.published.specs.Published.{printed, form, nth, table_at}
use Rattle.published.proofs.copies.copy_table.Goals as goal

pub slice_bounds-copy_from-end : goal.slice_bounds-copy_from-end
slice_bounds-copy_from-end c = refl

pub copy_from-requires : goal.copy_from-requires
unfolding joined table_at form nth printed rate1 rate2 rate3 rate4 rate5 rate6 rate7 rate8 rate9 rate10 rate11
copy_from-requires c = refl
