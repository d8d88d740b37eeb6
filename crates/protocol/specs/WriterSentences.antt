-- The writer's checks in 01's order and words, over numbers (01: "Writer: 9, 10 (an optional header its type can't have), 11, 6, 21; bytes past
-- the packet stay"). Proved in proofs/WriterHolds.antt.
use Rattle.std.specs.Prelude.{ℕ, ◌+◌, ◌<◌, length, get_or, Bool, true, List, [], ◌∷◌, ◌⊎◌, ◌↔◌, ◌≡◌, Option, Some, None}
use Rattle.laws.specs.Choose.{pick}
use Rattle.protocol.specs.ByType.{CtsOrData, Known, LengthRule, connid_header, header_length}
use Rattle.protocol.specs.Checks.{First, gives, refused}
use Rattle.protocol.specs.Says.{written_says}
use Rattle.protocol.specs.Writing.{write_of}
use Rattle.protocol.specs.declared.types.Header.{Header}

-- ---- the packet's length

-- "raw address (size 4, then size bytes)", "CQ data 8"; the connid as its type has it
abbrev pub raw_address_takes : Bool → ℕ → ℕ
raw_address_takes there size = pick there (4 + size) 0

abbrev pub cq_data_takes : Option ℕ → ℕ
cq_data_takes None = 0
cq_data_takes (Some d) = 8

abbrev pub connid_takes : ℕ → Option ℕ → ℕ
connid_takes k None = 0
connid_takes k (Some c) = connid_header k

-- with so many bytes of raw address and of data
abbrev pub packet_length : Header → ℕ → ℕ → ℕ
packet_length h raw body =
    header_length h.kind + raw_address_takes h.raw_address raw + cq_data_takes h.cq_data + connid_takes h.kind h.connid + body

-- ---- the checks

pub data WriterCheck : Type 0 where
  no_type misplaced_header broken_lengths over_longest short_buffer : WriterCheck

-- "9, 10 (an optional header its type can't have), 11, 6, 21"
abbrev pub writer_checks : List WriterCheck
writer_checks = no_type ∷ misplaced_header ∷ broken_lengths ∷ over_longest ∷ short_buffer ∷ []

abbrev pub write_refused_as : WriterCheck → ℕ
write_refused_as no_type = 9
write_refused_as misplaced_header = 10
write_refused_as broken_lengths = 11
write_refused_as over_longest = 6
write_refused_as short_buffer = 21

-- "RTM types .. may have 0x1, 0x2, 0x8000", "Types 3 and 4 may have 0x8000 only": a CTS or CTSDATA with a raw address or with CQ data
abbrev pub Misplaced : Header → Type 0
Misplaced h = CtsOrData h.kind × ((h.raw_address ≡ true) ⊎ ((d : ℕ) × (h.cq_data ≡ Some d)))

-- the check fails for the header h, the raw address, the data and the buffer `out`; "packet above L (reader and writer alone: 8,192)"
abbrev pub WriteFails : Header → List ℕ → List ℕ → List ℕ → WriterCheck → Type 0
WriteFails h raw body out no_type = Known true h.kind → ⊥
WriteFails h raw body out misplaced_header = Misplaced h
WriteFails h raw body out broken_lengths = LengthRule h.kind h.fields (length body) → ⊥
WriteFails h raw body out over_longest = 8192 < packet_length h (length raw) (length body)
WriteFails h raw body out short_buffer = length out < packet_length h (length raw) (length body)

-- the check at place i of the list
abbrev pub writer_check_at : ℕ → WriterCheck
writer_check_at i = get_or writer_checks i short_buffer

-- ---- the statements

-- refused with n exactly if the first check that fails has the number n
unfoldable pub WriteRefusedByFirstToFail : Type 0
WriteRefusedByFirstToFail =
    (h : Header) (raw body out : List ℕ) (n : ℕ)
    → (written_says (write_of h raw body out).answer ≡ refused n)
    ↔ ((i : ℕ) × (i < 5) × (write_refused_as (writer_check_at i) ≡ n) × First (WriteFails h raw body out) writer_check_at i)

-- written exactly if none fails, and then the length is the packet's
unfoldable pub WrittenIfNoneFails : Type 0
WrittenIfNoneFails =
    (h : Header) (raw body out : List ℕ) (n : ℕ)
    → (written_says (write_of h raw body out).answer ≡ gives n)
    ↔ ((n ≡ packet_length h (length raw) (length body)) × ((c : WriterCheck) → WriteFails h raw body out c → ⊥))

-- "Each refusal returns its number alone and changes nothing lent"
unfoldable pub RefusedWriteChangesNothing : Type 0
RefusedWriteChangesNothing =
    (h : Header) (raw body out : List ℕ) (n : ℕ) → written_says (write_of h raw body out).answer ≡ refused n → (write_of h raw body out).out ≡ out
