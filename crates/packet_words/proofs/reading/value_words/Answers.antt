-- `packet_words::reading::value_words` meets its contract.
use mathlib.Core.Path.{◌≡◌, refl}
use Rattle.std.proofs.Common.{rules}
use Rattle.packet_words.specs.Values.{value_words}
use Rattle.packet_words.proofs.reading.value_words.Goals as goal

pub returns : goal.returns
unfolding value_words
returns c =
    let same : c.map.result ≡ c.args.packet.header.connid = search rules in
    rw (c.bit_of.ensures, c.option_bit.ensures, c.option_value.ensures, c.option_bit-2.ensures, c.option_value-2.ensures, same) refl
