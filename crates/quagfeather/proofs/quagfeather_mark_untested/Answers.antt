-- `quagfeather_mark_untested` meets its contract: the range's check, then the marks.
use lib.ListN.{length}
use mathlib.Core.Bool.{true}
use mathlib.Core.Path.{◌≡◌, sym, ◌∙◌}
use Rattle.laws.specs.Choose.{pick}
use Rattle.quagfeather.specs.Exported.{in_map, mark_untested_of}
use Rattle.quagfeather.proofs.MapLaws.{in_map_lem, mark_made}
use Rattle.quagfeather.proofs.quagfeather_mark_untested.Goals as goal
use Rattle.quagfeather.proofs.quagfeather_mark_untested.Goals.{Else-not-in_map}

-- the range lies in the map
inside : (c : Else-not-in_map) → let a = c.args in in_map (length a.map.now) a.at a.count ≡ true
inside c = sym c.in_map.ensures ∙ c.if-not-in_map.false

pub returns-then-not-in_map : goal.returns-then-not-in_map
unfolding mark_untested_of pick
returns-then-not-in_map c = rw (← c.in_map.ensures, c.if-not-in_map.true)

pub returns : goal.returns
returns c = mark_made _ _ _ (inside (goal.at.returns c).Else-not-in_map) _ c.mark.ensures

pub mark-requires-clause-n_bound : goal.mark-requires-clause-n_bound
mark-requires-clause-n_bound c = (in_map_lem _ _ _ (inside (goal.at.mark-requires-clause-n_bound c).Else-not-in_map)).0

pub mark-requires-clause-n_bound_2 : goal.mark-requires-clause-n_bound_2
mark-requires-clause-n_bound_2 c = (in_map_lem _ _ _ (inside (goal.at.mark-requires-clause-n_bound_2 c).Else-not-in_map)).1
