-- `packet::writer::put` meets its contract: the parts of a packet are stored side by side.
use Prim.Native.Nat.{◌+◌, ◌≤◌}
use lib.ListN.{length, length-append}
use mathlib.Core.List.{◌++◌}
use native.Mathlib.Omega.{arith}
use Rattle.protocol.specs.Options.{connid_bytes, cq_data_bytes, raw_address_bytes}
use Rattle.protocol.specs.Writing.{mandatory_bytes}
use Rattle.laws.proofs.Storing.{store_next}
use Rattle.protocol.proofs.StepLaws.{packet_in_steps}
use Rattle.protocol.proofs.WritingLaws.{length_mandatory, length_packet, raw_fits}
use Rattle.packet.proofs.writer.put.Goals as goal
use Rattle.packet.proofs.writer.put.Goals.{Start}

-- the parts have room
room : (c : Start) → let a = c.args in
    a.row.header
    + length a.array.now
    + length (raw_address_bytes a.header.raw_address a.raw.now)
    + length (cq_data_bytes a.header.cq_data)
    + length (connid_bytes a.row a.header.connid)
    + length a.«data».now
    ≤ length a.out.now
room c =
    let a = c.args in
    let p = c.requires in
    rw (← length_packet a.row a.header a.array.now a.raw.now a.«data».now p.sound p.header_value p.array_value) p.data_in_bounds

pub write_bytes-after_array-requires : goal.write_bytes-after_array-requires
write_bytes-after_array-requires c = omega (arith, room (goal.at.write_bytes-after_array-requires c).Start)

pub write_cq_data-after_cq-requires : goal.write_cq_data-after_cq-requires
write_cq_data-after_cq-requires c =
    omega (arith, room (goal.at.write_cq_data-after_cq-requires c).Start)

pub write_bytes-requires : goal.write_bytes-requires
write_bytes-requires c =
    omega (arith, c.write_connid-data_at, c.write_cq_data-after_cq, c.write_raw_address-after_raw, c.write_bytes-after_array, c.put_mandatory.auto, room (goal.at.write_bytes-requires c).Start)

pub returns : goal.returns
returns c =
    let r = c.args.row in
    let h = c.args.header in
    let l = c.args.out.now in
    let arr = c.args.array.now in
    let head = mandatory_bytes r h (length arr) in
    let raw = raw_address_bytes h.raw_address c.args.raw.now in
    let cq = cq_data_bytes h.cq_data in
    let id = connid_bytes r h.connid in
    let n1 = length_mandatory r h (length arr) c.requires.sound in
    let n2 = length-append head arr in
    let n3 = length-append (head ++ arr) raw in
    let n4 = length-append (head ++ arr ++ raw) cq in
    let n5 = length-append (head ++ arr ++ raw ++ cq) id in
    let n6 = room (goal.at.returns c).Start in
    let p = c.requires in
    rw (
      packet_in_steps r h arr c.args.raw.now c.args.«data».now p.sound p.header_value p.array_value,
      c.write_bytes.ensures.1,
      c.write_connid-data_at.ensures.1,
      c.write_cq_data-after_cq.ensures.1,
      c.write_raw_address-after_raw.ensures.1,
      c.write_bytes-after_array.ensures.1,
      c.put_mandatory.ensures,
      store_next l 0 head arr r.header (omega arith) (omega arith),
      store_next l 0 (head ++ arr) raw c.write_bytes-after_array.result (omega arith) (omega arith),
      store_next l 0 (head ++ arr ++ raw) cq c.write_raw_address-after_raw.result (omega arith) (omega arith),
      store_next l 0 (head ++ arr ++ raw ++ cq) id c.write_cq_data-after_cq.result (omega arith) (omega arith),
    )
    (store_next l 0 (head ++ arr ++ raw ++ cq ++ id) c.args.«data».now c.write_connid-data_at.result (omega arith) (omega arith))

pub put_mandatory-requires-clause-header_in_bounds : goal.put_mandatory-requires-clause-header_in_bounds
put_mandatory-requires-clause-header_in_bounds c = omega (arith, room (goal.at.put_mandatory-requires-clause-header_in_bounds c).Start)

pub put_mandatory-requires-clause-n_le_packet_limit : goal.put_mandatory-requires-clause-n_le_packet_limit
put_mandatory-requires-clause-n_le_packet_limit c =
    let a = c.args in
    let p = c.requires in
    omega (arith, length_packet a.row a.header a.array.now a.raw.now a.«data».now p.sound p.header_value p.array_value, p.data_len_bound)

pub write_raw_address-after_raw-requires-clause-raw_in_bounds : goal.write_raw_address-after_raw-requires-clause-raw_in_bounds
write_raw_address-after_raw-requires-clause-raw_in_bounds c = omega (arith, room (goal.at.write_raw_address-after_raw-requires-clause-raw_in_bounds c).Start)

pub write_raw_address-after_raw-requires-clause-raw_len_bound : goal.write_raw_address-after_raw-requires-clause-raw_len_bound
write_raw_address-after_raw-requires-clause-raw_len_bound c =
    let a = c.args in
    let p = c.requires in
    raw_fits a.row a.header a.array.now a.raw.now a.«data».now p.sound p.header_value p.array_value p.data_len_bound

pub write_connid-data_at-requires-clause-connid_in_bounds : goal.write_connid-data_at-requires-clause-connid_in_bounds
write_connid-data_at-requires-clause-connid_in_bounds c =
    omega (
      arith,
      c.write_cq_data-after_cq,
      c.write_raw_address-after_raw,
      c.write_bytes-after_array,
      c.put_mandatory.auto,
      room (goal.at.write_connid-data_at-requires-clause-connid_in_bounds c).Start,
    )
