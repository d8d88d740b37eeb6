-- What words say, and what the reader and the writer on words answer, by 01's numbers and values (01: "A packet's values are its type, that
-- type's own fields (padding and multiuse are none; a flagged multiuse is the connid), the optional headers present and the data").
use Rattle.std.specs.Prelude.{ℕ, eqb, get_or, List, [], ◌∷◌, map, Some, None}
use Rattle.laws.specs.Choose.{pick}
use Rattle.laws.specs.Parts.{part}
use Rattle.protocol.specs.ByType.{column}
use Rattle.protocol.specs.Checks.{Said, gives, refused}
use Rattle.protocol.specs.Layout.{Field, credit_request, msg_id, msg_length, recv_id, recv_length, seg_length, seg_offset, send_id, tag}
use Rattle.protocol.specs.Values.{Values}
use Rattle.packet_words.specs.Values.{Took}
use Rattle.packet_words.specs.Writing.{Put, connid_number, connid_word, cq_data_number, cq_data_word, field_word, raw_address_word, type_word}

-- the fields that type k has of its own (column "Fields after type 1, version 1, flags 2"); none for a type that is not in the table
abbrev pub own_by_type : ℕ → List Field
own_by_type =
    column []
    ((3, send_id ∷ recv_id ∷ recv_length ∷ [])
    ∷ (4, recv_id ∷ seg_length ∷ seg_offset ∷ [])
    ∷ (64, msg_id ∷ [])
    ∷ (65, msg_id ∷ tag ∷ [])
    ∷ (66, msg_id ∷ msg_length ∷ seg_offset ∷ [])
    ∷ (67, msg_id ∷ msg_length ∷ seg_offset ∷ tag ∷ [])
    ∷ (68, msg_id ∷ msg_length ∷ send_id ∷ credit_request ∷ [])
    ∷ (69, msg_id ∷ msg_length ∷ send_id ∷ credit_request ∷ tag ∷ [])
    ∷ [])

-- the values that the words v say with this raw address and these data: whole words, nothing cut
unfoldable pub words_say : List ℕ → List ℕ → List ℕ → Values
words_say v raw body =
    record {
      kind = type_word v;
      own = map (field_word v) (own_by_type (type_word v));
      raw_address = pick (eqb (raw_address_word v) 0) None (Some raw);
      cq_data = pick (eqb (cq_data_word v) 0) None (Some (cq_data_number v));
      connid = pick (eqb (connid_word v) 0) None (Some (connid_number v));
      body = body;
    }

-- the bytes at the places that the words give
abbrev pub words_raw_address : List ℕ → List ℕ → List ℕ
words_raw_address v bs = part bs (get_or v 11 0) (get_or v 12 0)

abbrev pub words_data : List ℕ → List ℕ → List ℕ
words_data v bs = part bs (get_or v 17 0) (get_or v 18 0)

-- an answer on words: 0 and what was asked for, or "its number alone"
abbrev pub answer_says : {A : Type 0} → ℕ → A → Said A
answer_says answer asked = pick (eqb answer 0) (gives asked) (refused answer)

-- the writer's: the packet's length
abbrev pub put_says : Put → Said ℕ
put_says p = answer_says p.refusal p.size

-- the reader's, of the packet in the bytes bs: its values
unfoldable pub took_says : List ℕ → Took → Said Values
took_says bs t = answer_says t.refusal (words_say t.values (words_raw_address t.values bs) (words_data t.values bs))
