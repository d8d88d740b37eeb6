-- `quagfeather_mark` meets its contract: the test, and then the marks.
use mathlib.Core.Path.{◌∙◌}
use Rattle.quagfeather.proofs.MapLaws.{decides}
use Rattle.quagfeather.proofs.quagfeather_mark.Goals as goal

pub returns-then-tested-ne0 : goal.returns-then-tested-ne0
returns-then-tested-ne0 c = let t = c.quagfeather_overlap_test-tested in (decides _ _ _ t.result t.ensures).1 c.if-tested-ne0.true

pub returns : goal.returns
returns c =
    let t = c.quagfeather_overlap_test-tested in
    c.quagfeather_mark_untested.ensures ∙ (decides _ _ _ t.result t.ensures).0 c.if-tested-ne0.false
