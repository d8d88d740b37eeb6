-- The writer's checks on words in 01's order and words, over the words' numbers (01: "Writer: 9, 10 (an optional header its type can't have),
-- 11, 6, 21; bytes past the packet stay"). Proved in proofs/OrderHolds.antt.
use Rattle.std.specs.Prelude.{ℕ, ◌+◌, ◌^◌, ◌≤◌, ◌<◌, eqb, length, get_or, true, ◌⊎◌, ◌↔◌, ◌≡◌}
use mathlib.Core.List.{List, [], ◌∷◌, Memᴰ}
use Rattle.laws.specs.Choose.{pick}
use Rattle.protocol.specs.ByType.{CtsOrData, Known, LengthRule, connid_header, fields_of, header_length}
use Rattle.protocol.specs.Checks.{First, gives, refused}
use Rattle.protocol.specs.Layout.{Field, credit_request, msg_id, msg_length, recv_id, recv_length, seg_length, seg_offset, send_id, tag, width}
use Rattle.protocol.specs.declared.types.Fields.{Fields}
use Rattle.packet_words.specs.Says.{own_by_type, put_says}
use Rattle.packet_words.specs.Writing.{connid_number, connid_word, cq_data_word, field_word, raw_address_word, refused_put, type_word, write_from}
use Rattle.protocol.specs.Limits.{packet_limit}

-- ---- the packet's length

-- the bytes n of an optional header whose word is not 0
abbrev pub option_takes : ℕ → ℕ → ℕ
option_takes word n = pick (eqb word 0) 0 n

-- "raw address (size 4, then size bytes), CQ data 8"; the connid as its type has it; with so many bytes of raw address and of data
abbrev pub put_length : List ℕ → ℕ → ℕ → ℕ
put_length v raw body =
    header_length (type_word v)
    + option_takes (raw_address_word v) (4 + raw)
    + option_takes (cq_data_word v) 8
    + option_takes (connid_word v) (connid_header (type_word v))
    + body

-- ---- the checks

pub data PutCheck : Type 0 where
  few_words wrong_type wrong_option wrong_numbers over_limit no_room : PutCheck

-- "9, 10 (an optional header its type can't have), 11, 6, 21", after the words themselves
abbrev pub put_checks : List PutCheck
put_checks = few_words ∷ wrong_type ∷ wrong_option ∷ wrong_numbers ∷ over_limit ∷ no_room ∷ []

abbrev pub put_refused_as : PutCheck → ℕ
put_refused_as few_words = 21
put_refused_as wrong_type = 9
put_refused_as wrong_option = 10
put_refused_as wrong_numbers = 11
put_refused_as over_limit = 6
put_refused_as no_room = 21

-- a number that its place in the packet cannot hold: of an own field, or of a connid that is there
abbrev pub TooLarge : List ℕ → Type 0
TooLarge v =
    ((f : Field) × Memᴰ f (own_by_type (type_word v)) × (256 ^ width f ≤ field_word v f))
    ⊎ ((connid_word v ≡ 0 → ⊥) × (2 ^ 32 ≤ connid_number v))

-- the words' numbers by field
abbrev pub fields_said : List ℕ → Fields
fields_said v =
    fields_of (field_word v msg_id) (field_word v recv_id) (field_word v send_id) (field_word v msg_length) (field_word v seg_length) (field_word v recv_length)
    (field_word v seg_offset) (field_word v credit_request) (field_word v tag)

-- the check fails for the words v, the raw address, the data and the buffer `out`. A packet's values are 19 words; "Types 3 and 4 may have 0x8000
-- only"; "packet above L (reader and writer alone: 8,192)"
abbrev pub PutFails : List ℕ → List ℕ → List ℕ → List ℕ → PutCheck → Type 0
PutFails v raw body out few_words = length v < 19
PutFails v raw body out wrong_type = Known true (type_word v) → ⊥
PutFails v raw body out wrong_option = CtsOrData (type_word v) × ((raw_address_word v ≡ 0 → ⊥) ⊎ (cq_data_word v ≡ 0 → ⊥))
PutFails v raw body out wrong_numbers = TooLarge v ⊎ (LengthRule (type_word v) (fields_said v) (length body) → ⊥)
PutFails v raw body out over_limit = packet_limit < put_length v (length raw) (length body)
PutFails v raw body out no_room = length out < put_length v (length raw) (length body)

-- the check at place i of the list
abbrev pub put_check_at : ℕ → PutCheck
put_check_at i = get_or put_checks i no_room

-- ---- the statements

-- refused with n exactly if the first check that fails has the number n
unfoldable pub PutRefusedByFirstToFail : Type 0
PutRefusedByFirstToFail =
    (v raw body out : List ℕ) (size n : ℕ)
    → (put_says (write_from v raw body out size) ≡ refused n)
    ↔ ((i : ℕ) × (i < 6) × (put_refused_as (put_check_at i) ≡ n) × First (PutFails v raw body out) put_check_at i)

-- written exactly if none fails, and then the length is the packet's
unfoldable pub PutIfNoneFails : Type 0
PutIfNoneFails =
    (v raw body out : List ℕ) (size n : ℕ)
    → (put_says (write_from v raw body out size) ≡ gives n)
    ↔ ((n ≡ put_length v (length raw) (length body)) × ((c : PutCheck) → PutFails v raw body out c → ⊥))

-- "Each refusal returns its number alone and changes nothing lent": buffer and length are as they were
unfoldable pub RefusedPutChangesNothing : Type 0
RefusedPutChangesNothing =
    (v raw body out : List ℕ) (size n : ℕ)
    → put_says (write_from v raw body out size) ≡ refused n
    → write_from v raw body out size ≡ refused_put n out size
