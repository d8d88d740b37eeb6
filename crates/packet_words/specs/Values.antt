-- A packet's values as 19 words, and the reader into them (01: "A packet's values are its type, that type's own fields ..").
use Rattle.std.specs.Prelude.{ℕ, List, [], ◌∷◌, length, leb, Result, Ok, Err}
use Rattle.laws.specs.Choose.{pick}
use Rattle.laws.specs.Parts.{store_at}
use Rattle.protocol.specs.Refusals.{no_room, number}
use Rattle.protocol.specs.declared.types.Fields.{Fields}
use Rattle.protocol.specs.declared.types.Header.{Header}
use Rattle.protocol.specs.declared.types.Packet.{Packet}
use Rattle.protocol.specs.Reading.{read_of}
use Rattle.protocol.specs.Types.{every_row}
use Rattle.protocol.specs.Limits.{packet_limit}
use Rattle.words.specs.Presence.{bool_bit, option_bit, option_value}
use Rattle.protocol.specs.declared.refusals.Refusal.{Refusal}

abbrev pub value_count : ℕ
value_count = 19

unfoldable pub value_words : Packet → List ℕ
value_words p =
    let h : Header = p.header in
    let f : Fields = h.fields in
    h.kind ∷ f.msg_id ∷ f.recv_id ∷ f.send_id ∷ f.msg_length ∷ f.seg_length ∷ f.recv_length ∷ f.seg_offset
    ∷ f.credit_request ∷ f.tag ∷ bool_bit h.raw_address ∷ p.raw_address.at ∷ p.raw_address.size
    ∷ option_bit h.cq_data ∷ option_value h.cq_data ∷ option_bit h.connid ∷ option_value h.connid ∷ p.«data».at ∷ p.«data».size ∷ []

-- 0 or the refusal's number, and what is left of the values' words
pub record Took : Type 0 where
  pub refusal : ℕ
  pub values : List ℕ

abbrev pub took_as : List ℕ → Result Packet Refusal → Took
took_as values (Err k) = record { refusal = number k; values = values }
took_as values (Ok p) = record { refusal = 0; values = store_at values 0 (value_words p) }

-- with too few words nothing is read
unfoldable pub read_into : List ℕ → List ℕ → Took
read_into bytes values =
    pick (leb value_count (length values)) (took_as values (read_of every_row packet_limit bytes)) (record { refusal = number no_room; values = values })
