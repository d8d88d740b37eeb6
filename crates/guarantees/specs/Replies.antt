-- The reply buffer (01: "gets a CTS in the first 24 reply bytes (flags and multiuse 0, rest untouched) and answers granted; no other answer
-- touches the reply buffer"), for every world and every call. What the CTS says: `reply` of Delivered in Delivery. Proved in
-- proofs/Replied.antt.
use Rattle.std.specs.Prelude.{◌≤◌, length, drop, true, false, ◌≡◌}
use Rattle.engine.specs.Steps.{World}
use Rattle.peer.specs.LentCalls.{buffer_of}
use Rattle.guarantees.specs.Receiving.{LentRequest, buffer_after, turn_of}
use Rattle.peer.specs.Claims.{is_grant}

-- "no other answer touches the reply buffer"
unfoldable pub ReplyUntouched : Type 0
ReplyUntouched = (w : World) (q : LentRequest) → is_grant (turn_of w q).answer ≡ false → buffer_after w q ≡ buffer_of q.call

-- "in the first 24 reply bytes .., rest untouched"
pub record RestKept (w : World) (q : LentRequest) : Type 0 where
  pub room : 24 ≤ length (buffer_of q.call)
  pub size : length (buffer_after w q) ≡ length (buffer_of q.call)
  pub rest : drop 24 (buffer_after w q) ≡ drop 24 (buffer_of q.call)

unfoldable pub RestUntouched : Type 0
RestUntouched = (w : World) (q : LentRequest) → is_grant (turn_of w q).answer ≡ true → RestKept w q
