-- A call as eight words: its number, then what it takes. A packet and its reply buffer are given by place and length.
use Rattle.std.specs.Prelude.{ℕ, ◌+◌, List, Option, None, Some, get_or, leb, eqb}
use Rattle.laws.specs.Choose.{pick}
use Rattle.peer.specs.declared.types.Call.{Call}
use Rattle.peer.specs.declared.types.LocalCall.{LocalCall}
use Rattle.peer.specs.declared.types.Request.{Request}

-- the words of a call, and of its answer
abbrev pub words_each : ℕ
words_each = 8

-- a call of the peer whose number is the second word
abbrev pub request_with : List ℕ → ℕ → Call → Option Request
request_with w at c = Some (record { peer = get_or w (at + 1) 0; call = c })

-- 1, peer, 0 plain or 1 tagged, tag, ignore, start, capacity
unfoldable pub packed_post : List ℕ → ℕ → Option Request
packed_post w at =
    pick (leb (get_or w (at + 2) 0) 1)
    (request_with w at (Call.Local (LocalCall.Post (record {
      tagged = eqb (get_or w (at + 2) 0) 1;
      tag = get_or w (at + 3) 0;
      ignore = get_or w (at + 4) 0;
      start = get_or w (at + 5) 0;
      capacity = get_or w (at + 6) 0;
    }))))
    None

-- 2, peer, place and length of the packet, place and length of the reply buffer
unfoldable pub packed_packet : List ℕ → ℕ → ℕ → ℕ → Option Request
packed_packet w bytes replies at =
    pick (leb (get_or w (at + 2) 0 + get_or w (at + 3) 0) bytes)
    (pick (leb (get_or w (at + 4) 0 + get_or w (at + 5) 0) replies)
    (request_with w at
    (Call.Packet (record { at = get_or w (at + 2) 0; size = get_or w (at + 3) 0 }) (record { at = get_or w (at + 4) 0; size = get_or w (at + 5) 0 })))
    None)
    None

-- the call of the words from `at` on, where so many bytes and reply bytes are lent; 3 is a cancel and 4 a report, of peer and slot
unfoldable pub request_at : List ℕ → ℕ → ℕ → ℕ → Option Request
request_at w bytes replies at =
    pick (eqb (get_or w at 0) 1) (packed_post w at)
    (pick (eqb (get_or w at 0) 2) (packed_packet w bytes replies at)
    (pick (eqb (get_or w at 0) 3) (request_with w at (Call.Local (LocalCall.Cancel (get_or w (at + 2) 0))))
    (pick (eqb (get_or w at 0) 4) (request_with w at (Call.Local (LocalCall.Report (get_or w (at + 2) 0)))) None)))
