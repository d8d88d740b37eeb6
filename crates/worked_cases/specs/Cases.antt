-- The cases of 01 that are marked to be proved (n=2, A=256, L=96), as one table: the calls of peer 1, and what they yield. The bytes of the
-- packets are written out by the protocol's tables, not by the writer.
use Rattle.std.specs.Prelude.{ℕ, ◌≡◌, List, [], ◌∷◌, ◌++◌, map, true, false, length, replicate}
use Rattle.wire.specs.LittleEndian.{le_at, le_bytes, le_of}
use Rattle.peer.specs.Says.{Saying, say, refused, posted, stored, granted, done, truncated, missing}
use Rattle.engine.specs.SetUp.{engine_fits, lent_fits, numbers_fit, peer_at, set_up}
use Rattle.peer.specs.Calls.{LentCall, cancel_effect, cancel_slot, count_older, count_posted, packet, packet_effect, peer_step, placed, placed_in, post, post_effect, read_effect, renumbered, report, report_effect, report_slot}
use Rattle.guarantees.specs.Runs.{calls_of, observe, world_after}
use Rattle.guarantees.specs.Receiving.{LentRequest, Seen, fresh_world, no_starts, receiving, turn_of}
use Rattle.laws.specs.Choose.{pick}
use Rattle.laws.specs.Parts.{part, store_at}
use Rattle.protocol.specs.Cts.{cts_bytes}
use Rattle.protocol.specs.Flags.{has_flag, flags_fit}
use Rattle.protocol.specs.Arrays.{array_count, array_length}
use Rattle.protocol.specs.FieldNumbers.{field_bytes, field_in, fields_in, count_in, number_there}
use Rattle.protocol.specs.Layout.{layout}
use Rattle.protocol.specs.Lengths.{lengths_fit}
use Rattle.protocol.specs.Optional.{flagged, flags_of, sections_of}
use Rattle.protocol.specs.Options.{raw_address_bytes, cq_data_bytes, connid_bytes, connid_or_zero, cq_data_in, connid_in}
use Rattle.protocol.specs.Reading.{header_in, packet_in, read_lengths, read_sections, read_flags, read_typed, read_of}
use Rattle.protocol.specs.Sections.{array_span, raw_span, begin_of, connid_at, data_at, sections_in, extent_of}
use Rattle.protocol.specs.Types.{row_in, row_of, admit}
use Rattle.protocol.specs.Writing.{base_bytes, mandatory_bytes, packet_bytes}
use Rattle.bitmap.specs.Map.{bit, bit_at, set_bit, clear_bit, marked, cleared, touched, count_set, first_clear}
use Rattle.peer.specs.Effects.{progress_of, grant_of, settled_as, accept, begun, truncated_at, carry}
use Rattle.peer.specs.Incomings.{incoming_of}
use Rattle.peer.specs.Judging.{judge_more, judge_again, judge_data, judge_fit, judge_new, judge_found, judge}
use Rattle.peer.specs.Matching.{open_here, find_open, same_outside, fits, older, older_here, oldest, ahead, same_medium, same_message}
use Rattle.peer.specs.State.{fresh_peer, overlap, overlaps_use, phase_fits, clash, pairs_apart, peer_fits}
use Rattle.engine.specs.Steps.{World, put_back, peer_turn, call_turn}

-- ---- packets

-- EAGER_MSGRTM: type 64, version 4, flags 0x4, msg_id
abbrev pub eager : ℕ → List ℕ → List ℕ
eager id body = 64 ∷ 4 ∷ 4 ∷ 0 ∷ (le_bytes 4 id ++ body)

-- EAGER_TAGRTM: flags 0xC, a tag besides
abbrev pub eager_tagged : ℕ → List ℕ
eager_tagged tag = 65 ∷ 4 ∷ 12 ∷ 0 ∷ (le_bytes 4 0 ++ le_bytes 8 tag)

-- MEDIUM_MSGRTM of message 0: msg_length, seg_offset
abbrev pub medium : ℕ → ℕ → List ℕ → List ℕ
medium len offset body = 66 ∷ 4 ∷ 4 ∷ 0 ∷ (le_bytes 4 0 ++ le_bytes 8 len ++ le_bytes 8 offset ++ body)

-- LONGCTS_MSGRTM of message 0: msg_length, send_id 7, credit_request
abbrev pub long : ℕ → ℕ → List ℕ → List ℕ
long len request body = 68 ∷ 4 ∷ 4 ∷ 0 ∷ (le_bytes 4 0 ++ le_bytes 8 len ++ le_bytes 4 7 ++ le_bytes 4 request ++ body)

-- CTSDATA for recv_id 0: seg_length, seg_offset
abbrev pub cts_data : ℕ → List ℕ → List ℕ
cts_data offset body = 4 ∷ 4 ∷ 0 ∷ 0 ∷ (le_bytes 4 0 ++ le_bytes 8 (length body) ++ le_bytes 8 offset ++ body)

-- ---- calls

abbrev pub receive : ℕ → LentCall
receive capacity = post (record { tagged = false; tag = 0; ignore = 0; start = 10; capacity = capacity })

abbrev pub receive_tagged : ℕ → ℕ → LentCall
receive_tagged tag ignore = post (record { tagged = true; tag = tag; ignore = ignore; start = 0; capacity = 0 })

-- with a reply buffer of 24 bytes
abbrev pub give : List ℕ → LentCall
give bs = packet bs (replicate 24 255)

abbrev pub as_peer : LentCall → LentRequest
as_peer a = record { peer = 1; call = a }

-- ---- the table

-- what a call yields: its answer in 01's words, the reply packet, and the bytes of a done message
pub record Yield : Type 0 where
  pub answer : Saying
  pub reply : List ℕ
  pub bytes : List ℕ

abbrev pub answers : Saying → Yield
answers s = record { answer = s; reply = []; bytes = [] }

abbrev pub yields_done : ℕ → List ℕ → Yield
yields_done len bytes = record { answer = say done (0 ∷ 0 ∷ len ∷ []); reply = []; bytes = bytes }

-- "03 04 00 00 00 00 00 00 07 00 00 00 00 00 00 00 80 00 00 00 00 00 00 00" and its like
abbrev pub grants : ℕ → Yield
grants n =
    record {
      answer = say granted (n ∷ []);
      reply = 3 ∷ 4 ∷ 0 ∷ 0 ∷ 0 ∷ 0 ∷ 0 ∷ 0 ∷ 7 ∷ 0 ∷ 0 ∷ 0 ∷ 0 ∷ 0 ∷ 0 ∷ 0 ∷ n ∷ 0 ∷ 0 ∷ 0 ∷ 0 ∷ 0 ∷ 0 ∷ 0 ∷ [];
      bytes = [];
    }

-- the calls, what each yields, and the next id after them
pub record Case : Type 0 where
  pub calls : List LentCall
  pub yields : List Yield
  pub next : ℕ

abbrev pub case : List LentCall → List Yield → ℕ → Case
case calls yields next = record { calls = calls; yields = yields; next = next }

abbrev abc : List ℕ
abc = 0x41 ∷ 0x42 ∷ 0x43 ∷ []

abbrev ab : List ℕ
ab = 0x61 ∷ 0x62 ∷ []

abbrev cd : List ℕ
cd = 0x63 ∷ 0x64 ∷ []

abbrev posted_first : Yield
posted_first = answers (say posted (0 ∷ []))

abbrev no : ℕ → Yield
no k = answers (say refused (k ∷ []))

abbrev pub cases : List Case
cases =
    -- "The 11-byte packet above, capacity 3: done, 3. Capacity 2: truncated, 3; next is 1."
    case (receive 3 ∷ give (eager 0 abc) ∷ []) (posted_first ∷ yields_done 3 abc ∷ []) 1
    ∷ case (receive 2 ∷ give (eager 0 abc) ∷ []) (posted_first ∷ answers (say truncated (0 ∷ 0 ∷ 3 ∷ [])) ∷ []) 1
    -- "Eager without data, capacity 0: done, 0."
    ∷ case (receive 0 ∷ give (eager 0 []) ∷ []) (posted_first ∷ yields_done 0 [] ∷ []) 1
    -- "Seven bytes: 7." "Type 64 with flags 0x000C: 10."
    ∷ case (give (64 ∷ 4 ∷ 4 ∷ 0 ∷ 0 ∷ 0 ∷ 0 ∷ []) ∷ []) (no 7 ∷ []) 0
    ∷ case (give (64 ∷ 4 ∷ 0x0C ∷ 0 ∷ 0 ∷ 0 ∷ 0 ∷ 0 ∷ []) ∷ []) (no 10 ∷ []) 0
    -- "Medium, length 4: `cd` at 2 stored, `ab` at 0 done. `cd` at 2 twice: 16, not done."
    ∷ case (receive 4 ∷ give (medium 4 2 cd) ∷ give (medium 4 0 ab) ∷ []) (posted_first ∷ answers (say stored []) ∷ yields_done 4 (ab ++ cd) ∷ []) 1
    ∷ case (receive 4 ∷ give (medium 4 2 cd) ∷ give (medium 4 2 cd) ∷ []) (posted_first ∷ answers (say stored []) ∷ no 16 ∷ []) 1
    -- "Next 0: ids 1 and 0x7FFFFFFF: 12; 0x80000000 and 0xFFFFFFFF: 15."
    ∷ case (give (eager 1 []) ∷ give (eager 0x7FFFFFFF []) ∷ give (eager 0x80000000 []) ∷ give (eager 0xFFFFFFFF []) ∷ [])
    (no 12 ∷ no 12 ∷ no 15 ∷ no 15 ∷ []) 0
    -- "Long, length 200, data 40, request 2, send_id 7: ..; later a grant of 32." "After the 128 grant: one byte at 167 stored, at 168: 17."
    ∷ case
    (receive 200 ∷ give (long 200 2 (replicate 40 1)) ∷ give (cts_data 167 (9 ∷ [])) ∷ give (cts_data 168 (9 ∷ []))
    ∷ give (cts_data 40 (replicate 72 2)) ∷ give (cts_data 112 (replicate 55 2)) ∷ give (cts_data 168 (replicate 32 3)) ∷ [])
    (posted_first ∷ grants 128 ∷ answers (say stored []) ∷ no 17 ∷ answers (say stored []) ∷ grants 32
    ∷ yields_done 200 (replicate 40 1 ++ replicate 127 2 ++ (9 ∷ []) ++ replicate 32 3) ∷ []) 1
    -- "Request 0: 64, 64, 32."
    ∷ case
    (receive 200 ∷ give (long 200 0 (replicate 40 1)) ∷ give (cts_data 40 (replicate 64 2)) ∷ give (cts_data 104 (replicate 64 2))
    ∷ give (cts_data 168 (replicate 32 2)) ∷ [])
    (posted_first ∷ grants 64 ∷ grants 64 ∷ grants 32 ∷ yields_done 200 (replicate 40 1 ++ replicate 160 2) ∷ []) 1
    -- 02, request 3: "Accept 0 bytes when msg_length is at least 1"; "The first grant then starts at offset 0". Length 200, request 2: 128, then 72;
    -- right after the start 0 bytes are received, and 0 is the first missing
    ∷ case
    (receive 200 ∷ give (long 200 2 []) ∷ report 0 ∷ give (cts_data 128 (9 ∷ [])) ∷ give (cts_data 0 (replicate 64 1)) ∷ give (cts_data 64 (replicate 64 2))
    ∷ give (cts_data 128 (replicate 72 3)) ∷ [])
    (posted_first ∷ grants 128 ∷ answers (say missing (0 ∷ 0 ∷ [])) ∷ no 17 ∷ answers (say stored []) ∷ grants 72
    ∷ yields_done 200 (replicate 64 1 ++ replicate 64 2 ++ replicate 72 3) ∷ []) 1
    -- request 0: 64, 64, 64, 8
    ∷ case
    (receive 200 ∷ give (long 200 0 []) ∷ give (cts_data 0 (replicate 64 1)) ∷ give (cts_data 64 (replicate 64 1)) ∷ give (cts_data 128 (replicate 64 1))
    ∷ give (cts_data 192 (replicate 8 2)) ∷ [])
    (posted_first ∷ grants 64 ∷ grants 64 ∷ grants 64 ∷ grants 8 ∷ yields_done 200 (replicate 192 1 ++ replicate 8 2) ∷ []) 1
    -- "a msg_length of 0 stays refusal 11", and so does data above it; a message that does not fit its receive is truncated
    ∷ case
    (receive 199 ∷ give (long 0 2 []) ∷ give (long 0 2 (1 ∷ [])) ∷ give (long 2 2 (1 ∷ 1 ∷ 1 ∷ [])) ∷ give (long 200 2 []) ∷ [])
    (posted_first ∷ no 11 ∷ no 11 ∷ no 11 ∷ answers (say truncated (0 ∷ 0 ∷ 200 ∷ [])) ∷ []) 1
    -- "Want 0x10, ignore 0x0F: tag 0x1A fits; 0x2A: 13."
    ∷ case (receive_tagged 0x10 0x0F ∷ give (eager_tagged 0x2A) ∷ give (eager_tagged 0x1A) ∷ []) (posted_first ∷ no 13 ∷ yields_done 0 [] ∷ []) 1
    ∷ []

-- ---- what the definitions say of a case

abbrev yield_of : Seen → Yield
yield_of s = record { answer = s.says; reply = s.reply; bytes = s.bytes }

unfoldable pub run : List LentCall → Case
unfolding pick part store_at le_bytes le_of le_at cts_bytes has_flag flags_fit flagged flags_of sections_of layout field_bytes field_in fields_in
    lengths_fit raw_address_bytes cq_data_bytes connid_bytes connid_or_zero cq_data_in connid_in header_in packet_in read_lengths read_sections read_flags
    read_typed read_of array_length array_count count_in number_there array_span raw_span begin_of connid_at data_at sections_in extent_of row_in row_of admit
    base_bytes mandatory_bytes packet_bytes bit bit_at set_bit clear_bit marked cleared touched count_set first_clear count_posted
    count_older renumbered placed placed_in post_effect read_effect packet_effect cancel_slot cancel_effect report_slot report_effect peer_step progress_of
    grant_of settled_as accept begun truncated_at carry incoming_of judge_more judge_again judge_data judge_fit judge_new judge_found judge open_here
    find_open same_outside fits older older_here oldest ahead same_medium same_message fresh_peer overlap overlaps_use phase_fits clash
    pairs_apart peer_fits numbers_fit lent_fits engine_fits put_back peer_turn call_turn set_up fresh_world turn_of world_after
    observe calls_of
run calls =
    let start : World = fresh_world 2 256 96 (replicate 512 7) (replicate 8 1) in
    let all : List LentRequest = map as_peer calls in
    record {
      calls = calls;
      yields = map yield_of (observe receiving 1 start no_starts all);
      next = (peer_at (world_after receiving start all).engine 1).next;
    }

abbrev pub CasesHold : Type 0
CasesHold = map (λ (c : Case). run c.calls) cases ≡ cases
