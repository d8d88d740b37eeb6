-- The worked cases hold, by one computation.
use mathlib.Core.Path.{refl}
use Rattle.worked_cases.specs.Cases.{CasesHold, run}

pub cases_hold : CasesHold
unfolding run
cases_hold = refl
