-- A peer's checks from 5 on, each in 01's own words over a view of the peer, and each call's list of them in 01's order: a call is refused by
-- the first that fails, and by none exactly if it is not refused. Proved in proofs/Refusals/AnswersChecked.antt, proofs/Refusals/AcceptOrRefuse.antt and
-- proofs/Refusals/HistoryChecked.antt.
use Rattle.std.specs.Prelude.{◌≡◌, ℕ, ◌+◌, ◌%◌, ◌^◌, ◌<◌, ◌≤◌, true, false, ◌≢◌, ◌⊎◌, List, [], ◌∷◌, ◌++◌, map, length}
use Rattle.protocol.specs.ByType.{tagged_told}
use Rattle.protocol.specs.Sentences.{ReadFails, ReaderCheck, bit_of, reader_checks, refused_as}
use Rattle.peer.specs.Calls.{Call, cancel, packet, peer_step, post, report}
use Rattle.peer.specs.Claims.{AreBytes, history}
use Rattle.peer.specs.Expected.{expected}
use Rattle.peer.specs.Firsts.{RefusedByFirst}
use Rattle.peer.specs.Sentences.{HasByte}
use Rattle.peer.specs.Says.{said}
use Rattle.peer.specs.PacketBytes.{RtmIn, id_in, length_in, offset_in, size_in, tag_in, type_in, type_of}
use Rattle.peer.specs.Plain.{Plain, idle, receiving, waiting}
use Rattle.peer.specs.State.{peer_fits, slot_count}
use Rattle.peer.specs.View.{OneEach, OpenIn, UsesRange, View, view_in, view_of}
use Rattle.peer.specs.declared.types.Answer.{Answer}
use Rattle.peer.specs.declared.types.Inbound.{Inbound}
use Rattle.peer.specs.declared.types.Message.{Message}
use Rattle.peer.specs.declared.types.Peer.{Peer}
use Rattle.peer.specs.declared.types.Receive.{Receive}

-- ---- what the checks of a packet look at

-- "type, length or tag differs, or the type isn't medium"
abbrev pub Differs : List ℕ → Message → Type 0
Differs bs m = (type_in bs ≢ type_of m) ⊎ ((length_in bs ≢ m.length) ⊎ ((tag_in bs ≢ m.tag) ⊎ ((type_in bs ≢ 66) × (type_in bs ≢ 67))))

-- "segment shares a byte with one already accepted": some offset of the segment was accepted of the message in slot i
abbrev pub Repeats : View → List ℕ → ℕ → Type 0
Repeats v bs i = (x : ℕ) × (offset_in bs ≤ x) × (x < offset_in bs + size_in bs) × (v.taken i x ≡ true)

-- no message with the packet's id is open
abbrev pub NotOpen : View → List ℕ → Type 0
NotOpen v bs = (i : ℕ) (o : Inbound) → OpenIn v (id_in bs) i o → ⊥

-- "d = (id − next) mod 2^32": the number below 2^32 that leads from next to id
abbrev pub Ahead : View → List ℕ → ℕ → Type 0
Ahead v bs d = (d < 2 ^ 32) × ((v.next + d) % 2 ^ 32 ≡ id_in bs)

-- "A receive fits an RTM of its kind; a tagged one if every tag bit outside ignore is equal"
abbrev pub FitsIn : List ℕ → Receive → Type 0
FitsIn bs r =
    ((tagged_told (type_in bs) ≡ false) × (r.tagged ≡ false))
    ⊎ ((tagged_told (type_in bs) ≡ true) × (r.tagged ≡ true) × ((k : ℕ) → bit_of r.ignore k ≡ 0 → bit_of (tag_in bs) k ≡ bit_of r.tag k))

-- a message that "68/69 LONGCTS MSG/TAG RTM" began
abbrev pub Long : Message → Type 0
Long m = (type_of m ≡ 68) ⊎ (type_of m ≡ 69)

-- ---- the checks

-- of a post of a receive; of a packet's bytes, with the reply buffer's length first; of a cancel and of a report of a slot
pub data CallCheck : Type 0 where
  beyond_area in_use : Receive → CallCheck
  none_free : CallCheck
  short_reply : ℕ → CallCheck
  unread : List ℕ → ReaderCheck → CallCheck
  rtm_differs rtm_repeats rtm_late rtm_early rtm_unmatched data_late data_beyond data_repeats : List ℕ → CallCheck
  slot_free slot_not_open : ℕ → CallCheck

-- "Packet order: .. 5, 6, then 7 if under 4 bytes, 8, 9, 10, 7, 11; then RTMs: if open, 14, 16; if not open, 15, 12, 13. CTSDATA: 15, 17, 16.
-- .. Post: .. 11, 19, 18. Cancel and report: .. 20."
abbrev pub judged_checks : List ℕ → List CallCheck
judged_checks bs =
    rtm_differs bs
    ∷ rtm_repeats bs
    ∷ rtm_late bs
    ∷ rtm_early bs
    ∷ rtm_unmatched bs
    ∷ data_late bs
    ∷ data_beyond bs
    ∷ data_repeats bs
    ∷ []

abbrev pub checks_of : Call → List CallCheck
checks_of (post r) = beyond_area r ∷ in_use r ∷ none_free ∷ []
checks_of (packet bs room) = short_reply room ∷ (map (unread bs) reader_checks ++ judged_checks bs)
checks_of (cancel i) = slot_free i ∷ []
checks_of (report i) = slot_not_open i ∷ []

abbrev pub call_refused_as : CallCheck → ℕ
call_refused_as (beyond_area r) = 11
call_refused_as (in_use r) = 19
call_refused_as none_free = 18
call_refused_as (short_reply room) = 5
call_refused_as (unread bs c) = refused_as c
call_refused_as (rtm_differs bs) = 14
call_refused_as (rtm_repeats bs) = 16
call_refused_as (rtm_late bs) = 15
call_refused_as (rtm_early bs) = 12
call_refused_as (rtm_unmatched bs) = 13
call_refused_as (data_late bs) = 15
call_refused_as (data_beyond bs) = 17
call_refused_as (data_repeats bs) = 16
call_refused_as (slot_free i) = 20
call_refused_as (slot_not_open i) = 20

-- the check fails
abbrev pub CallFails : ℕ → ℕ → View → CallCheck → Type 0
-- 11: "a post whose start + capacity exceeds A"
CallFails area limit v (beyond_area r) = area < r.start + r.capacity
-- 19: "post overlaps a used range of this peer (empty ranges overlap nothing)": some byte lies in both
CallFails area limit v (in_use r) = (i : ℕ) × (s : Receive) × UsesRange (v.role i) s × ((x : ℕ) × HasByte r x × HasByte s x)
-- 18: "no free slot (a freed slot counts as free)"
CallFails area limit v none_free = (i : ℕ) → i < slot_count → v.role i ≢ idle
-- 5: "reply buffer below 24 bytes"
CallFails area limit v (short_reply room) = room < 24
-- 6 to 11, the reader's
CallFails area limit v (unread bs c) = ReadFails false limit bs c
-- 14: "id is open, but type, length or tag differs, or the type isn't medium"
CallFails area limit v (rtm_differs bs) = RtmIn bs × ((i : ℕ) × (o : Inbound) × OpenIn v (id_in bs) i o × Differs bs o.message)
-- 16: "segment shares a byte with one already accepted"
CallFails area limit v (rtm_repeats bs) = RtmIn bs × ((i : ℕ) × (o : Inbound) × OpenIn v (id_in bs) i o × Repeats v bs i)
-- 15: "late: id behind next and not open"; "above that, late"
CallFails area limit v (rtm_late bs) = RtmIn bs × NotOpen v bs × ((d : ℕ) × Ahead v bs d × (2 ^ 31 ≤ d))
-- 12: "early: id ahead of next"; "1 to 2^31−1 is early"
CallFails area limit v (rtm_early bs) = RtmIn bs × NotOpen v bs × ((d : ℕ) × Ahead v bs d × (1 ≤ d) × (d < 2 ^ 31))
-- 13: "id is next and no posted receive of this peer fits"
CallFails area limit v (rtm_unmatched bs) =
    RtmIn bs × NotOpen v bs × Ahead v bs 0 × ((i : ℕ) (r : Receive) → v.role i ≡ waiting r → FitsIn bs r → ⊥)
-- 15: "CTSDATA for no open long message"
CallFails area limit v (data_late bs) = (type_in bs ≡ 4) × ((i : ℕ) (o : Inbound) → OpenIn v (id_in bs) i o → Long o.message → ⊥)
-- 17: "CTSDATA's offset + length, as whole numbers, is beyond the granted end"
CallFails area limit v (data_beyond bs) =
    (type_in bs ≡ 4)
    × ((i : ℕ) × (o : Inbound) × OpenIn v (id_in bs) i o × Long o.message × (o.message.granted < offset_in bs + size_in bs))
-- 16: "segment shares a byte with one already accepted"
CallFails area limit v (data_repeats bs) =
    (type_in bs ≡ 4) × ((i : ℕ) × (o : Inbound) × OpenIn v (id_in bs) i o × Long o.message × Repeats v bs i)
-- 20, of a cancel: "slot not below 8, or free"
CallFails area limit v (slot_free i) = (slot_count ≤ i) ⊎ (v.role i ≡ idle)
-- 20, of a report: "slot not below 8, or ..; for the missing-byte report, not open"
CallFails area limit v (slot_not_open i) = (slot_count ≤ i) ⊎ ((o : Inbound) → v.role i ≢ receiving o)

-- ---- the statement, of states

-- the answer to the call is that of the first of its checks that fails
abbrev pub Checked : ℕ → ℕ → View → Call → Answer → Type 0
Checked area limit v c a = RefusedByFirst (CallFails area limit v) call_refused_as (checks_of c) (said a)

-- of every peer that can be (the others are refused 2), also one that no run reaches; ids are numbers of 4 bytes
unfoldable pub CallsAreChecked : Type 0
CallsAreChecked =
    (area limit : ℕ) (p : Peer) (ws : List ℕ) (c : Call) → peer_fits area p ≡ true → length p.slots ≡ slot_count → p.next < 2 ^ 32 → AreBytes c
    → Checked area limit (view_of p ws) c (peer_step area limit p ws c).answer

-- ---- the statements, of histories

-- the answer that 01 demands, of every plain receiver that no two messages with one id are open in
unfoldable pub AnswersAreChecked : Type 0
AnswersAreChecked =
    (area limit : ℕ) (l : Plain) (c : Call) → OneEach (view_in l) → length l.entries ≡ slot_count → l.next < 2 ^ 32 → AreBytes c
    → Checked area limit (view_in l) c (expected area limit l c)

-- after every history
unfoldable pub HistoriesAreChecked : Type 0
HistoriesAreChecked =
    (area limit : ℕ) (calls : List Call) (c : Call) → AreBytes c
    → Checked area limit (view_in (history area limit calls)) c (expected area limit (history area limit calls) c)
