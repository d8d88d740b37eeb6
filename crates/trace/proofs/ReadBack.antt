-- What was recorded is read: `SetUpReadBack`, `EntryReadBack` and `BadIfNothingRecorded` of specs/ExactlyRecorded.antt. The numbers are read
-- one after the other, each where it stands.
use Prim.Native.Nat.{ℕ, ◌+◌, ◌≤◌}
use borrow.Author.Tests.{le-leb}
use lib.Dec.{eqb}
use lib.ListN.{length, drop, length-append}
use lib.Seq.{drop-append_seam, drop-drop}
use mathlib.Core.Bool.{Bool, true, false}
use mathlib.Core.List.{List, [], ◌∷◌, ◌++◌, append_assoc}
use mathlib.Core.Path.{◌≡◌, refl, sym, ap, ◌∙◌}
use native.Mathlib.Nat.{add-zero, add_assoc}
use native.Mathlib.Omega.{arith}
use Rattle.std.specs.Prelude.{Some}
use Rattle.laws.specs.Choose.{pick}
use Rattle.laws.specs.Parts.{part}
use Rattle.laws.proofs.Storing.{length_part}
use Rattle.trace.specs.Entries.{pair_at, set_up_at, set_up_is, receive_at, post_at, packet_at, cancel_at, entry_at, entry_of}
use Rattle.trace.specs.Numbers.{number_at, number_bytes}
use Rattle.trace.specs.ShortestForm.{IsWord}
use Rattle.trace.specs.ExactlyRecorded.{BadIfNothingRecorded, CallStands, EntryReadBack, SetUpReadBack, Stands}
use Rattle.trace.specs.Recorded.{kind_of, numbers_bytes}
use Rattle.peer.specs.declared.types.Call.{Call}
use Rattle.peer.specs.declared.types.LocalCall.{LocalCall}
use Rattle.trace.proofs.GroupsRead.{number_read}
use Rattle.trace.proofs.StandsLaws.{stands_drop}

-- the numbers stand at a place of s, and r behind them
record Stand (s : List ℕ) (at : ℕ) (ns r : List ℕ) : Type 0 where
  bytes : drop at s ≡ numbers_bytes ns ++ r

-- the place behind them
abbrev behind : ℕ → List ℕ → ℕ
behind at [] = at
behind at (n ∷ ns) = behind (at + length (number_bytes n)) ns

behind_is : (ns : List ℕ) (at : ℕ) → behind at ns ≡ at + length (numbers_bytes ns)
unfolding numbers_bytes
behind_is [] at = sym (add-zero at)
behind_is (n ∷ ns) at = rw (behind_is ns, length-append, add_assoc)

number : {s ns r : List ℕ} {at n : ℕ} → IsWord n → Stand s at (n ∷ ns) r
    → (number_at s at ≡ Some (n, behind at (n ∷ []))) × Stand s (behind at (n ∷ [])) ns r
unfolding numbers_bytes
number {s} {ns} {r} {at} {n} h w =
    let e = w.bytes ∙ append_assoc (number_bytes n) (numbers_bytes ns) r in
    (number_read s at n _ h e, record { bytes = rw (← drop-drop, e) (drop-append_seam (number_bytes n) (numbers_bytes ns ++ r)) })

pair : {s ns r : List ℕ} {at a b : ℕ} → IsWord a → IsWord b → Stand s at (a ∷ b ∷ ns) r
    → (pair_at s at ≡ Some (a, b, behind at (a ∷ b ∷ []))) × Stand s (behind at (a ∷ b ∷ [])) ns r
unfolding pair_at
pair p q w = let (x, w) = number p w in let (y, w) = number q w in (rw (x, y), w)

-- a kind is 0 or 1, and says which it is
kind : (t : Bool) → (pick t 1 0 ≤ 1) × (eqb (pick t 1 0) 1 ≡ t)
unfolding pick
kind true = (omega arith, refl)
kind false = (omega arith, refl)

-- a set-up, or an entry without bytes of its own
start : (s : List ℕ) (at next : ℕ) (ns : List ℕ) → Stands s at (numbers_bytes ns) next → Stand s at ns (drop next s) × (behind at ns ≡ next)
start s at next ns w = (record { bytes = stands_drop w }, behind_is ns at ∙ sym w.place)

pub set_up_read_back : SetUpReadBack
unfolding set_up_at
set_up_read_back s at n area limit next (hn, ha, hl, h) =
    let (w, b) = start s at next (n ∷ area ∷ limit ∷ []) h in
    let (x, w) = pair hn ha w in
    let (y, w) = number hl w in
    rw (x, y) (ap (set_up_is n area limit) b)

call_read_back : (s : List ℕ) (at peer : ℕ) (c : Call) (next : ℕ) → CallStands s at peer c next → entry_at s at ≡ entry_of peer c next
unfolding entry_at post_at receive_at packet_at cancel_at pick
call_read_back s at peer (Call.Local (LocalCall.Post r)) next (hp, ht, hi, hs, hc, h) =
    let k = kind r.tagged in
    let (w, b) = start s at next (1 ∷ peer ∷ kind_of r ∷ r.tag ∷ r.ignore ∷ r.start ∷ r.capacity ∷ []) h in
    let (x, w) = number (omega arith) w in
    let (y, w) = pair hp (omega arith) w in
    let (z, w) = pair ht hi w in
    let (v, w) = pair hs hc w in
    rw (x, y, le-leb (kind_of r) 1 k.0, z, v, k.1) (ap (entry_of peer (Call.Local (LocalCall.Post r))) b)
call_read_back s at peer (Call.Packet sent reply) next (hp, hc, e, none, h) =
    let place = sent.at in
    let count = sent.size in
    let ns : List ℕ = 2 ∷ peer ∷ count ∷ [] in
    let bytes = part s place count in
    let n : length bytes ≡ count = length_part s place count (omega (arith, h.inside)) in
    let h : Stands s at (numbers_bytes ns ++ bytes) next = rw n at h in
    let w : Stand s at ns (bytes ++ drop next s) = record { bytes = stands_drop h ∙ append_assoc (numbers_bytes ns) bytes (drop next s) } in
    let (x, w) = number (omega arith) w in
    let (y, w) = pair hp hc w in
    let b : behind at ns ≡ place = omega (arith, behind_is ns at, length-append (numbers_bytes ns) bytes, h.place) in
    rw (x, y, b, le-leb (place + count) (length s) (omega (arith, h.inside)), e, none)
call_read_back s at peer (Call.Local (LocalCall.Report _)) next h = elim h [ ]
call_read_back s at peer (Call.Local (LocalCall.Cancel slot)) next (hp, hs, h) =
    let (w, b) = start s at next (3 ∷ peer ∷ slot ∷ []) h in
    let (x, w) = number (omega arith) w in
    let (y, w) = pair hp hs w in
    rw (x, y) (ap (entry_of peer (Call.Local (LocalCall.Cancel slot))) b)

pub entry_read_back : EntryReadBack
entry_read_back s at q next h = call_read_back s at q.peer q.call next h

pub bad_if_nothing_recorded : BadIfNothingRecorded
bad_if_nothing_recorded s at b q next h =
    let r = entry_read_back s at q next h in
    let z : ◌≡◌ {A = ℕ} 0 1 = cc in
    omega arith
