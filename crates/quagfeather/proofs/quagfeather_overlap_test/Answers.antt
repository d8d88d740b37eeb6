-- `quagfeather_overlap_test` meets its contract: the range's check, then the test.
use lib.ListN.{length}
use mathlib.Core.Bool.{true}
use mathlib.Core.Path.{◌≡◌, sym, ◌∙◌}
use Rattle.laws.specs.Choose.{pick}
use Rattle.quagfeather.specs.Exported.{in_map, overlap_test_of}
use Rattle.quagfeather.proofs.MapLaws.{in_map_lem, test_left, test_taken}
use Rattle.quagfeather.proofs.quagfeather_overlap_test.Goals as goal
use Rattle.quagfeather.proofs.quagfeather_overlap_test.Goals.{Else-not-in_map}

-- the range lies in the map
inside : (c : Else-not-in_map) → let a = c.args in in_map (length a.map.now) a.at a.count ≡ true
inside c = sym c.in_map.ensures ∙ c.if-not-in_map.false

pub returns-then-not-in_map : goal.returns-then-not-in_map
unfolding overlap_test_of pick
returns-then-not-in_map c = rw (← c.in_map.ensures, c.if-not-in_map.true)

pub returns-then-is_touched : goal.returns-then-is_touched
returns-then-is_touched c = test_taken _ _ _ (inside (goal.at.returns-then-is_touched c).Else-not-in_map) (sym c.is_touched.ensures ∙ c.if-is_touched.true)

pub returns : goal.returns
returns c = test_left _ _ _ (inside (goal.at.returns c).Else-not-in_map) (sym c.is_touched.ensures ∙ c.if-is_touched.false)

pub is_touched-requires-clause-n_bound : goal.is_touched-requires-clause-n_bound
is_touched-requires-clause-n_bound c = (in_map_lem _ _ _ (inside (goal.at.is_touched-requires-clause-n_bound c).Else-not-in_map)).0

pub is_touched-requires-clause-n_bound_2 : goal.is_touched-requires-clause-n_bound_2
is_touched-requires-clause-n_bound_2 c = (in_map_lem _ _ _ (inside (goal.at.is_touched-requires-clause-n_bound_2 c).Else-not-in_map)).1
