-- The CTS packet of a grant (01: "a CTS in the first 24 reply bytes (flags and multiuse 0, rest untouched)").
use Rattle.std.specs.Prelude.{ℕ, List, [], false, None}
use Rattle.protocol.specs.declared.types.Header.{Header}
use Rattle.protocol.specs.Types.{cts_row}
use Rattle.protocol.specs.Writing.{packet_bytes}

abbrev pub cts_header : ℕ → ℕ → ℕ → Header
cts_header send_id recv_id recv_length =
    record {
      kind = 3;
      fields = record {
        msg_id = 0;
        recv_id = recv_id;
        send_id = send_id;
        msg_length = 0;
        seg_length = 0;
        recv_length = recv_length;
        seg_offset = 0;
        credit_request = 0;
        tag = 0;
      };
      raw_address = false;
      cq_data = None;
      connid = None;
    }

-- its bytes, as the packet writer writes them
unfoldable pub cts_bytes : ℕ → ℕ → ℕ → List ℕ
cts_bytes send_id recv_id recv_length = packet_bytes cts_row (cts_header send_id recv_id recv_length) [] [] []
