-- Flags (01: "0x1 raw address, 0x2 CQ data, 0x4 message, 0x8 tagged, 0x8000 connid").
use Rattle.std.specs.Prelude.{ℕ, ◌-◌, ◌/◌, ◌%◌, Bool, eqb}
use Rattle.std.specs.Int.Bits.{bit_and}
use Rattle.protocol.specs.declared.table.TypeRow.{TypeRow}

abbrev pub raw_address_flag : ℕ
raw_address_flag = 0x1

abbrev pub cq_data_flag : ℕ
cq_data_flag = 0x2

abbrev pub connid_flag : ℕ
connid_flag = 0x8000

-- flag k, a power of two, is among the flags f
unfoldable pub has_flag : ℕ → ℕ → Bool
has_flag f k = eqb (f / k % 2) 1

-- without those that its type may have, a packet's flags are those that its type must have: "must have .., may have .., and no other"
unfoldable pub flags_fit : TypeRow → ℕ → Bool
flags_fit r f = eqb (f - bit_and f r.may) r.must
