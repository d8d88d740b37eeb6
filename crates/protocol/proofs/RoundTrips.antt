-- Reader and writer undo each other: the three statements of specs/RoundTrip.antt.
use lib.ListN.{length}
use mathlib.Core.List.{[]}
use mathlib.Core.Path.{◌≡◌, sym, ap, ◌∙◌}
use native.Mathlib.Nat.{zero-add}
use native.Mathlib.Omega.{arith}
use Rattle.laws.specs.Parts.{part, store_at}
use Rattle.protocol.specs.Checks.{gives}
use Rattle.protocol.specs.RoundTrip.{LengthIsPackets, ReadsWhatWasWritten, WritesWhatWasRead}
use Rattle.protocol.specs.Says.{read_says, written_says}
use Rattle.protocol.specs.Values.{values, values_in}
use Rattle.protocol.specs.Writing.{WriteLeaves, packet_bytes, write_of}
use Rattle.protocol.specs.declared.types.Packet.{Packet}
use Rattle.wire.specs.LittleEndian.{le_at}
use Rattle.laws.proofs.Storing.{drop_store, part_store}
use Rattle.protocol.proofs.Accepted.{as_read, as_written, packet_of, read_as, write_as}
use Rattle.protocol.proofs.ReadBack.{written_reads, written_values}
use Rattle.protocol.proofs.Sayings.{read_gives, written_gives}
use Rattle.protocol.proofs.Served.{any_read}
use Rattle.protocol.proofs.ValuesWritten.{same_written}
use Rattle.protocol.proofs.WriteBack.{write_back}

pub length_is_packets : LengthIsPackets
unfolding part
length_is_packets h raw body out n r row e =
    let (q, w, l) = as_written h raw body out n (written_gives _ n e) in
    let same : q ≡ r = cc w.row in
    let b : (write_of h raw body out).out ≡ store_at out 0 (packet_bytes r h [] raw body) = ap (λ o. o.out) (write_as h raw body out q w) ∙ rw same in
    let l : n ≡ length (packet_bytes r h [] raw body) = rw same at l in
    let rest = rw zero-add at (drop_store out 0 (packet_bytes r h [] raw body) (omega arith)) in
    (l, rw (b, l) (part_store out 0 (packet_bytes r h [] raw body) (omega arith)), rw (b, l) rest)

pub reads_what_was_written : ReadsWhatWasWritten
reads_what_was_written h raw body out limit n x l e =
    let (r, w, k) = as_written h raw body out n (written_gives _ n e) in
    let b = (length_is_packets h raw body out n r w.row e).1 in
    let bytes = packet_bytes r h [] raw body in
    let read = read_as limit bytes r (written_reads h raw body out r w x limit (omega arith)) in
    rw b (ap (read_says bytes) read ∙ ap gives (written_values h raw body out r w x))

pub writes_what_was_read : WritesWhatWasRead
unfolding values_in
writes_what_was_read which limit bs h raw body out b small room e =
    let (p, y, v) = read_gives bs _ (values h raw body) e in
    let (r, a, q) = as_read limit bs p (any_read which limit bs p y) in
    let again = write_back limit bs r a b out small room in
    let v : values_in (packet_of r (le_at 2 bs 2) bs) bs ≡ values h raw body = ap (λ (x : Packet). values_in x bs) (sym q) ∙ v in
    let w = same_written h (packet_of r (le_at 2 bs 2) bs).header raw _ body _ (sym v) out ∙ again in
    (ap (λ (o : WriteLeaves). written_says o.answer) w, ap (λ (o : WriteLeaves). o.out) w)
