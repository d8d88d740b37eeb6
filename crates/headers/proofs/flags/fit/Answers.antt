-- `headers::flags::fit` meets its contract.
use mathlib.Core.Path.{refl}
use Rattle.protocol.specs.Flags.{flags_fit}
use Rattle.headers.proofs.flags.fit.Goals as goal

pub returns : goal.returns
unfolding flags_fit
returns c = refl
