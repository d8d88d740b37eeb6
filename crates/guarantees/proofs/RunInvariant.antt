-- The invariant of a loop over requests (specs/Outputs.antt): the calls so far have left world, replies and output, and the calls to come make
-- the whole run from there. It goes on over a call that its gate refuses, and over one whose peer makes its step.
use Prim.Native.Nat.{ℕ, suc, ◌+◌, ◌-◌, ◌*◌, ◌≤◌}
use lib.ListN.{length, length-append}
use mathlib.Core.Bool.{Bool}
use mathlib.Core.List.{List, [], ◌∷◌}
use mathlib.Core.Path.{◌≡◌, refl, sym, ◌∙◌}
use native.Mathlib.Nat.{add-zero, mul-le-mul}
use native.Mathlib.Omega.{arith}
use Rattle.laws.specs.Parts.{store_at}
use Rattle.laws.proofs.Storing.{length_part, length_store, store_next, store_nothing}
use Rattle.peer.specs.declared.types.Answer.{Answer}
use Rattle.peer.specs.declared.types.Call.{Call}
use Rattle.peer.specs.declared.types.Request.{Request}
use Rattle.peer.specs.LentCalls.{LiesWithin, reply_place}
use Rattle.engine.specs.Steps.{Turn, World}
use Rattle.guarantees.specs.Outputs.{RunLeaves, output_of, replies_after, requests_of}
use Rattle.guarantees.specs.Runs.{world_after}
use Rattle.guarantees.specs.Receiving.{receiving, request_of, turn_of}
use Rattle.guarantees.proofs.CheckedOnce.{CheckedOnce}

-- of a reply buffer only the length counts
turn_lent : (w : World) (bytes a b : List ℕ) (peer : ℕ) (c : Call) → length a ≡ length b → LiesWithin (length bytes) (length a) c
    → turn_of w (request_of bytes a (record { peer = peer; call = c })) ≡ turn_of w (request_of bytes b (record { peer = peer; call = c }))
unfolding turn_of
turn_lent w bytes a b peer (Call.Local c) h i = refl
turn_lent w bytes a b peer (Call.Packet sent reply) h i =
    let f : reply.at + reply.size ≤ length b = omega (arith, i.1) in
    rw (length_part a reply.at reply.size i.1, length_part b reply.at reply.size f)

module _ (bytes buffers : List ℕ) (form : Answer → List ℕ) where
  -- a run that has made some calls, with the calls qs to come, whose reply buffers are as long as in `buffers`
  abbrev pub leaves_with : ℕ → World → List ℕ → List ℕ → ℕ → List Request → RunLeaves
  leaves_with taken w replies output at qs =
      record {
        world = world_after receiving w (requests_of bytes buffers qs);
        taken = taken + length qs;
        replies = replies_after bytes buffers w replies qs;
        output = store_at output at (output_of bytes buffers form w qs);
        place = at + length (output_of bytes buffers form w qs);
      }

  -- it has made its last call
  abbrev pub ended : ℕ → World → List ℕ → List ℕ → ℕ → RunLeaves
  ended taken w replies output at = record { world = w; taken = taken; replies = replies; output = output; place = at }

  pub output_room : (size : ℕ) → ((a : Answer) → length (form a) ≤ size) → (w : World) (qs : List Request)
      → length (output_of bytes buffers form w qs) ≤ size * length qs
  unfolding output_of
  output_room size short w [] = omega arith
  output_room size short w (q ∷ qs) =
      let t = turn_of w (request_of bytes buffers q) in
      let a = short t.answer in
      let ih = output_room size short t.world qs in
      rw length-append (omega arith)

  module _ (taken : ℕ) (w : World) (replies output : List ℕ) (at : ℕ) where
    leaves_turn : (q : Request) (qs : List Request) → let t = turn_of w (request_of bytes buffers q) in let l = form t.answer in
        at + length l + length (output_of bytes buffers form t.world qs) ≤ length output
        → leaves_with taken w replies output at (q ∷ qs)
        ≡ leaves_with (taken + 1) t.world (store_at replies (reply_place q.call) t.reply) (store_at output at l) (at + length l) qs
    unfolding output_of replies_after world_after
    leaves_turn q qs h =
        let t = turn_of w (request_of bytes buffers q) in
        let l = form t.answer in
        let ls = output_of bytes buffers form t.world qs in
        let e : taken + suc (length qs) ≡ taken + 1 + length qs = omega arith in
        let n : at + (length l + length ls) ≡ at + length l + length ls = omega arith in
        rw (length-append, n, e, store_next output at l ls (at + length l) refl h)

    leaves_end : leaves_with taken w replies output at [] ≡ ended taken w replies output at
    unfolding output_of replies_after world_after
    leaves_end = rw (add-zero, add-zero, store_nothing)

-- `all` is what the whole run leaves, of at most `most` calls, each of whose answers has room in `size` elements of the output
pub record RunInvariant (bytes buffers : List ℕ) (form : Answer → List ℕ) (size most : ℕ) (all : RunLeaves) (qs : List Request) (w : World)
    (replies output : List ℕ) (at taken : ℕ) : Type 0 where
  pub short : (a : Answer) → length (form a) ≤ size
  pub few : length qs ≤ most - taken
  pub lent : length replies ≡ length buffers
  pub room : at + size * (most - taken) ≤ length output
  pub whole : all ≡ leaves_with bytes buffers form taken w replies output at qs

-- a call has left this world and these replies, with this answer, which is still to be put into the output: then the run goes on with qs
pub record CallMade (bytes buffers : List ℕ) (form : Answer → List ℕ) (size most : ℕ) (all : RunLeaves) (qs : List Request) (good : Bool)
    (output : List ℕ) (at taken : ℕ) (w : World) (replies : List ℕ) (a : Answer) : Type 0 where
  pub once : CheckedOnce good w.engine
  pub next : (at' : ℕ) (output' : List ℕ) → at' ≡ at + length (form a) → output' ≡ store_at output at (form a)
      → RunInvariant bytes buffers form size most all qs w replies output' at' (taken + 1)

module _ {bytes buffers : List ℕ} {form : Answer → List ℕ} {size most : ℕ} {all : RunLeaves} {w : World} {replies output : List ℕ} {at taken : ℕ} where
  -- no call is to come
  pub run_end : RunInvariant bytes buffers form size most all [] w replies output at taken → all ≡ ended bytes buffers form taken w replies output at
  run_end g = g.whole ∙ leaves_end bytes buffers form taken w replies output at

  module _ {q : Request} {qs : List Request} (g : RunInvariant bytes buffers form size most all (q ∷ qs) w replies output at taken)
      (i : LiesWithin (length bytes) (length replies) q.call) where
    -- the answer of the next call has room
    pub run_room : (a : Answer) → at + length (form a) ≤ length output
    run_room a =
        let n = g.few in
        let k : most - taken ≡ suc (most - (taken + 1)) = omega arith in
        let l = rw k at g.room in
        omega (arith, g.short a)

    -- the next call is made
    run_next : (t : Turn) → t ≡ turn_of w (request_of bytes replies q) → length (store_at replies (reply_place q.call) t.reply) ≡ length replies
        → RunInvariant bytes buffers form size most all qs t.world (store_at replies (reply_place q.call) t.reply)
        (store_at output at (form t.answer)) (at + length (form t.answer)) (taken + 1)
    run_next t u n =
        let e : turn_of w (request_of bytes buffers q) ≡ t = sym (u ∙ turn_lent w bytes replies buffers q.peer q.call g.lent i) in
        let f = g.few in
        let k : most - taken ≡ suc (most - (taken + 1)) = omega arith in
        let r = rw k at g.room in
        let a = g.short t.answer in
        let ls = output_room bytes buffers form size g.short t.world qs in
        let rest : length qs ≤ most - (taken + 1) = omega arith in
        let same : size ≤ size = omega arith in
        let m : size * length qs ≤ size * (most - (taken + 1)) = mul-le-mul same rest in
        let next = leaves_turn bytes buffers form taken w replies output at q qs in
        record {
          short = g.short;
          few = omega arith;
          lent = n ∙ g.lent;
          room = rw (length_store output at (form t.answer) (run_room t.answer)) (omega arith);
          whole = g.whole ∙ rw e at next (omega arith);
        }

    -- the call is made: this world, these replies and this answer are those of its turn
    pub run_made : {good : Bool} {w' : World} {replies' : List ℕ} {a : Answer} → let t = turn_of w (request_of bytes replies q) in
        w' ≡ t.world → a ≡ t.answer → replies' ≡ store_at replies (reply_place q.call) t.reply → length replies' ≡ length replies
        → CheckedOnce good w'.engine → CallMade bytes buffers form size most all qs good output at taken w' replies' a
    run_made x y z n s =
        let t = turn_of w (request_of bytes replies q) in
        rw (x, y, z) (record { once = rw x at s; next = λ at' output' b c. rw (b, c) (run_next t refl (rw z at n)) })
