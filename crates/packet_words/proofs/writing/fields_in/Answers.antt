-- `packet_words::writing::fields_in` meets its contract: each field is read from its word.
use mathlib.Core.Path.{refl}
use Rattle.packet_words.proofs.writing.fields_in.Goals as goal

pub returns : goal.returns
returns c = refl
