-- A grant's CTS as its receiver reads it (01: "a CTS in the first 24 reply bytes (flags and multiuse 0 ..)"). Proved in proofs/CtsRead.antt.
use Rattle.std.specs.Prelude.{ℕ, ◌^◌, ◌≤◌, ◌<◌, length, List, [], ◌∷◌, ◌≡◌, None}
use Rattle.protocol.specs.Checks.{gives}
use Rattle.protocol.specs.Cts.{cts_bytes}
use Rattle.protocol.specs.Reading.{read_of}
use Rattle.protocol.specs.Says.{read_says}
use Rattle.protocol.specs.Values.{Values}
use Rattle.protocol.specs.Types.{every_row}
use Rattle.wire.specs.LittleEndian.{le_at}
use Rattle.protocol.specs.Limits.{packet_limit}

-- the values of a CTS: type 3, its fields "send_id 4, recv_id 4, recv_length 8", no optional header and no data
abbrev pub cts_values : ℕ → ℕ → ℕ → Values
cts_values send_id recv_id recv_length =
    record {
      kind = 3;
      own = send_id ∷ recv_id ∷ recv_length ∷ [];
      raw_address = None;
      cq_data = None;
      connid = None;
      body = [];
    }

-- 24 bytes that the reader reads as this CTS, with "flags and multiuse 0"
pub record ReadsAsCts (bs : List ℕ) (send_id recv_id recv_length : ℕ) : Type 0 where
  pub size : length bs ≡ 24
  pub says : read_says bs (read_of every_row packet_limit bs) ≡ gives (cts_values send_id recv_id recv_length)
  pub flags : le_at 2 bs 2 ≡ 0
  pub multiuse : le_at 4 bs 4 ≡ 0

-- the bytes of a grant's CTS are such a packet, for all numbers that its fields hold
unfoldable pub CtsReadBack : Type 0
CtsReadBack =
    (send_id recv_id recv_length : ℕ) → send_id < 2 ^ 32 → recv_id < 2 ^ 32 → 1 ≤ recv_length → recv_length < 2 ^ 64
    → ReadsAsCts (cts_bytes send_id recv_id recv_length) send_id recv_id recv_length
