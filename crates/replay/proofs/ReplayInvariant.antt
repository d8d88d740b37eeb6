-- The invariant of the loop over a trace's entries: that of every loop over requests, of a run whose calls are read from the trace.
use Prim.Native.Nat.{ℕ, suc, ◌+◌, ◌-◌, ◌*◌, ◌≤◌, ◌<◌}
use lib.ListN.{length}
use mathlib.Core.Bool.{Bool}
use mathlib.Core.List.{List, ◌∷◌}
use mathlib.Core.Logic.{◌⊎◌, ⊎_map}
use mathlib.Core.Path.{◌≡◌, refl, ap₂, ap, ◌∙◌}
use native.Mathlib.Nat.{sub-zero, zero-add}
use native.Mathlib.Omega.{arith}
use Rattle.std.specs.Prelude.{None, Some}
use Rattle.laws.specs.Parts.{store_at}
use Rattle.peer.specs.declared.types.Answer.{Answer}
use Rattle.peer.specs.declared.types.Call.{Call}
use Rattle.peer.specs.declared.types.Request.{Request}
use Rattle.peer.specs.LentCalls.{LiesWithin}
use Rattle.engine.specs.Steps.{World}
use Rattle.trace.specs.Entries.{entry_at}
use Rattle.trace.proofs.EntryLaws.{PacketInside, entry_inside}
use Rattle.guarantees.specs.Outputs.{RunLeaves, run_leaves}
use Rattle.guarantees.proofs.RunInvariant.{CallMade, RunInvariant, ended, run_end}
use Rattle.replay.specs.Decoding.{Decoded, decode, ending_at, lent_buffer, no_more, with_buffer}
use Rattle.replay.specs.Lines.{answer_line}
use Rattle.replay.specs.Replaying.{replay_leaves}
use Rattle.replay.specs.declared.types.Ending.{Ending}
use Rattle.replay.proofs.DecodeLaws.{calls_few, decode_bad, decode_end, decode_entry}
use Rattle.replay.proofs.LineRoom.{answer_room}

-- the run of at most `budget` entries whose calls are lent a reply buffer as long as `buffer`, with these calls to come
abbrev Running : List ℕ → List ℕ → ℕ → RunLeaves → List Request → World → List ℕ → List ℕ → ℕ → ℕ → Type 0
Running s buffer = RunInvariant s buffer answer_line 80

-- `all` is what the whole replay of the trace s leaves, and `last` how it ends
pub record ReplayInvariant (s buffer : List ℕ) (budget : ℕ) (all : RunLeaves) (last : Ending) (w : World) (reply text : List ℕ) (place written taken : ℕ) : Type 0 where
  pub ends : last ≡ (decode (budget - taken) s buffer place).ending
  pub run : Running s buffer budget all (decode (budget - taken) s buffer place).calls w reply text written taken

-- no entry is taken yet
pub replay_start : (s reply : List ℕ) (w : World) (text : List ℕ) (from at budget : ℕ) → at + 80 * budget ≤ length text
    → let d = decode budget s reply from in ReplayInvariant s reply budget (run_leaves s reply answer_line w text at d.calls) d.ending w reply text from at 0
replay_start s reply w text from at budget h =
    record {
      ends = rw sub-zero;
      run = record { short = answer_room; few = calls_few (budget - 0) s reply from; lent = refl; room = rw sub-zero h; whole = rw (sub-zero, zero-add) };
    }

-- a packet of the trace and the whole reply buffer lie in what is lent
inside : (n room : ℕ) (c : Call) → PacketInside n c → LiesWithin n room (with_buffer room c)
inside n room (Call.Local c) h = tt
inside n room (Call.Packet sent reply) h = (h, omega arith)

module _ {s buffer : List ℕ} {budget : ℕ} {all : RunLeaves} {last : Ending} {w : World} {reply text : List ℕ} {place written taken : ℕ}
    (g : ReplayInvariant s buffer budget all last w reply text place written taken) where
  -- what is left of a replay that ends here
  stops : (e : Ending) → decode (budget - taken) s buffer place ≡ no_more e
      → replay_leaves last all ≡ replay_leaves e (ended s buffer answer_line taken w reply text written)
  stops e d =
      let r = rw d at g.run in
      ap₂ replay_leaves (g.ends ∙ ap (λ (d : Decoded). d.ending) d) (run_end r)

  pub replay_end : (budget ≤ taken) ⊎ (length s ≤ place)
      → replay_leaves last all ≡ replay_leaves (ending_at place (length s)) (ended s buffer answer_line taken w reply text written)
  replay_end h = stops (ending_at place (length s)) (decode_end (budget - taken) s buffer place (⊎_map (λ l. omega arith) (λ l. l) h))

  module _ (h : taken < budget) (l : place < length s) where
    more : budget - taken ≡ suc (budget - (taken + 1))
    more = omega arith

    pub replay_bad : entry_at s place ≡ None
        → replay_leaves last all ≡ replay_leaves (Ending.Bad place) (ended s buffer answer_line taken w reply text written)
    replay_bad f = stops (Ending.Bad place) (rw more (decode_bad (budget - (taken + 1)) s buffer place l f))

    module _ (q : Request) (next : ℕ) (f : entry_at s place ≡ Some (q, next)) where
      pub replay_inside : LiesWithin (length s) (length reply) (with_buffer (length reply) q.call)
      replay_inside = inside (length s) (length reply) q.call (entry_inside s place q next f)

      -- the entry is the next call of the run
      pub replay_next : Running s buffer budget all (lent_buffer (length reply) q ∷ (decode (budget - (taken + 1)) s buffer next).calls) w reply text written taken
      replay_next = rw g.run.lent (rw (more, decode_entry (budget - (taken + 1)) s buffer place q next l f) at g.run)

      -- it is made, and the others follow it
      pub replay_again : {good : Bool} {w' : World} {reply' : List ℕ} {a : Answer}
          → CallMade s buffer answer_line 80 budget all (decode (budget - (taken + 1)) s buffer next).calls good text written taken w' reply' a
          → (written' : ℕ) (text' : List ℕ) → written' ≡ written + length (answer_line a) → text' ≡ store_at text written (answer_line a)
          → ReplayInvariant s buffer budget all last w' reply' text' next written' (taken + 1)
      replay_again m written' text' e x =
          record {
            ends = g.ends ∙ rw (more, decode_entry (budget - (taken + 1)) s buffer place q next l f);
            run = m.next written' text' e x;
          }
