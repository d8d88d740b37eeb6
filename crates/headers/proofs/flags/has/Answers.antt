-- `headers::flags::has` meets its contract.
use mathlib.Core.Path.{refl}
use Rattle.protocol.specs.Flags.{has_flag}
use Rattle.headers.proofs.flags.has.Goals as goal

pub returns : goal.returns
unfolding has_flag
returns c = refl
