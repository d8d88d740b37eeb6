-- What the reader and the writer answer, by 01's numbers and values ("For an answer that is an enum, a definition gives this paper's number and
-- values for each of its cases. The promises use this definition").
use Rattle.std.specs.Prelude.{ℕ, List, Result, Ok, Err}
use Rattle.protocol.specs.Checks.{Said, gives, refused}
use Rattle.protocol.specs.Values.{Values, values_in}
use Rattle.protocol.specs.declared.types.Packet.{Packet}
use Rattle.protocol.specs.declared.refusals.Refusal.{Refusal}
use Rattle.protocol.specs.Refusals.{number}

-- of the packet in the bytes bs: "A packet's values are its type, that type's own fields .., the optional headers present and the data"
abbrev pub read_says : List ℕ → Result Packet Refusal → Said Values
read_says bs (Err k) = refused (number k)
read_says bs (Ok p) = gives (values_in p bs)

-- the length of the packet that was written
abbrev pub written_says : Result ℕ Refusal → Said ℕ
written_says (Err k) = refused (number k)
written_says (Ok n) = gives n
