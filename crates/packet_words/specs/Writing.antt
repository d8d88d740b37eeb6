-- Writing a packet from its 19 words, with the checks in 01's order: "Writer: 9, 10 (an optional header its type can't have), 11, 6, 21".
-- Too few words come first. Only the type's own fields are looked at.
use Rattle.std.specs.Prelude.{ℕ, ◌%◌, ◌^◌, List, [], ◌∷◌, Bool, true, not, ◌&&◌, length, get_or, leb, ltb, eqb, Option, Some, None, Result, Ok, Err}
use Rattle.laws.specs.Choose.{pick}
use Rattle.protocol.specs.Refusals.{bad_flags, bad_length, bad_type, no_room, number}
use Rattle.protocol.specs.declared.table.TypeRow.{TypeRow}
use Rattle.protocol.specs.declared.types.Fields.{Fields}
use Rattle.protocol.specs.declared.types.Header.{Header}
use Rattle.protocol.specs.Layout.{Field, own_fields, width}
use Rattle.protocol.specs.Optional.{options_fit}
use Rattle.protocol.specs.Types.{row_of}
use Rattle.protocol.specs.Writing.{WriteLeaves, write_of}
use Rattle.packet_words.specs.Values.{value_count}
use Rattle.protocol.specs.declared.refusals.Refusal.{Refusal}

-- ---- the words of the values

-- the number that the words give an own field; padding, multiuse and count have none
abbrev pub field_word : List ℕ → Field → ℕ
field_word v Field.msg_id = get_or v 1 0
field_word v Field.recv_id = get_or v 2 0
field_word v Field.send_id = get_or v 3 0
field_word v Field.msg_length = get_or v 4 0
field_word v Field.seg_length = get_or v 5 0
field_word v Field.recv_length = get_or v 6 0
field_word v Field.seg_offset = get_or v 7 0
field_word v Field.credit_request = get_or v 8 0
field_word v Field.tag = get_or v 9 0
field_word v Field.multiuse = 0
field_word v Field.padding = 0
field_word v Field.count = 0

abbrev pub type_word : List ℕ → ℕ
type_word v = get_or v 0 0

-- not 0 where the optional header is there
abbrev pub raw_address_word : List ℕ → ℕ
raw_address_word v = get_or v 10 0

abbrev pub cq_data_word : List ℕ → ℕ
cq_data_word v = get_or v 13 0

abbrev pub cq_data_number : List ℕ → ℕ
cq_data_number v = get_or v 14 0

abbrev pub connid_word : List ℕ → ℕ
connid_word v = get_or v 15 0

abbrev pub connid_number : List ℕ → ℕ
connid_number v = get_or v 16 0

-- ---- what they say

-- numbers of 32 bits: what is above is cut, and looked at by `words_fit` where the type has the field
abbrev pub words_fields : List ℕ → Fields
words_fields v =
    record {
      msg_id = field_word v Field.msg_id % 2 ^ 32;
      recv_id = field_word v Field.recv_id % 2 ^ 32;
      send_id = field_word v Field.send_id % 2 ^ 32;
      msg_length = field_word v Field.msg_length;
      seg_length = field_word v Field.seg_length;
      recv_length = field_word v Field.recv_length;
      seg_offset = field_word v Field.seg_offset;
      credit_request = field_word v Field.credit_request % 2 ^ 32;
      tag = field_word v Field.tag;
    }

abbrev pub words_cq : List ℕ → Option ℕ
words_cq v = pick (eqb (cq_data_word v) 0) None (Some (cq_data_number v))

abbrev pub words_connid : List ℕ → Option ℕ
words_connid v = pick (eqb (connid_word v) 0) None (Some (connid_number v % 2 ^ 32))

abbrev pub words_header : List ℕ → Header
words_header v =
    record {
      kind = type_word v % 256;
      fields = words_fields v;
      raw_address = not (eqb (raw_address_word v) 0);
      cq_data = words_cq v;
      connid = words_connid v;
    }

-- ---- the checks on the words' numbers

-- each of these fields can hold its number
unfoldable pub fields_fit : List ℕ → List Field → Bool
fields_fit v [] = true
fields_fit v (f ∷ fs) = ltb (field_word v f) (256 ^ width f) && fields_fit v fs

-- a number of 32 bits, if it is there
abbrev pub holds : ℕ → ℕ → Bool
holds there n = pick (eqb there 0) true (ltb n (2 ^ 32))

abbrev pub connid_fits : List ℕ → Bool
connid_fits v = holds (connid_word v) (connid_number v)

-- every number of 32 bits is one, whatever fields the type has
unfoldable pub all_narrow : List ℕ → Bool
all_narrow v =
    ltb (field_word v Field.msg_id) (2 ^ 32)
    && (ltb (field_word v Field.recv_id) (2 ^ 32)
    && (ltb (field_word v Field.send_id) (2 ^ 32) && (ltb (field_word v Field.credit_request) (2 ^ 32) && ltb (connid_number v) (2 ^ 32))))

-- the type's own fields, and a connid that is there
unfoldable pub words_fit : TypeRow → List ℕ → Bool
words_fit r v = fields_fit v (own_fields r) && connid_fits v

-- ---- the writer

-- 0 or the refusal's number, and what is left of the buffer and of the length
pub record Put : Type 0 where
  pub refusal : ℕ
  pub out : List ℕ
  pub size : ℕ

abbrev pub put_as : ℕ → List ℕ → Result ℕ Refusal → Put
put_as size out (Err k) = record { refusal = number k; out = out; size = size }
put_as size out (Ok n) = record { refusal = 0; out = out; size = n }

-- of what the packet writer leaves
abbrev pub put_of : ℕ → WriteLeaves → Put
put_of size o = put_as size o.out o.answer

abbrev pub refused_put : ℕ → List ℕ → ℕ → Put
refused_put k out size = record { refusal = k; out = out; size = size }

-- 9; then 10 (an optional header its type can't have); then a number that its field cannot hold, the first cause of 11; then the packet
-- writer's own checks: lengths 11, 6, 21
unfoldable pub put_typed : Option TypeRow → List ℕ → List ℕ → List ℕ → List ℕ → ℕ → Put
put_typed None v raw body out size = refused_put (number bad_type) out size
put_typed (Some r) v raw body out size =
    pick (options_fit r (words_header v))
    (pick (words_fit r v)
    (put_of size (write_of (words_header v) raw body out))
    (refused_put (number bad_length) out size))
    (refused_put (number bad_flags) out size)

-- with too few words nothing is written
unfoldable pub write_from : List ℕ → List ℕ → List ℕ → List ℕ → ℕ → Put
write_from v raw body out size =
    pick (leb value_count (length v)) (put_typed (row_of (type_word v)) v raw body out size) (refused_put (number no_room) out size)
