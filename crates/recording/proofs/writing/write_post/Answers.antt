-- `recording::writing::write_post` meets its contract: its numbers are written, and no bytes behind them.
use mathlib.Core.Bool.{Bool, true, false}
use mathlib.Core.List.{append-nil}
use mathlib.Core.Path.{◌≡◌, refl, sym, ◌∙◌}
use mir.Val.{bool_byte}
use Rattle.laws.specs.Choose.{pick}
use Rattle.trace.specs.Recorded.{kind_of}
use Rattle.recording.proofs.writing.write_post.Goals as goal

as_number : (t : Bool) → pick t 1 0 ≡ bool_byte t
unfolding pick
as_number true = refl
as_number false = refl

pub returns : goal.returns
returns c =
    let e : kind_of c.args.receive ≡ c.from-kind.result = as_number c.args.receive.tagged ∙ sym c.from-kind.ensures in
    rw e (rw append-nil at c.write.ensures)
