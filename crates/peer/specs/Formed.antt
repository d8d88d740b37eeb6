-- What a packet that was read keeps to.
use Rattle.std.specs.Prelude.{◌≡◌, ℕ, ◌+◌, ◌≤◌, true}
use Rattle.peer.specs.declared.types.Incoming.{Incoming}
use Rattle.peer.specs.Incomings.{is_rtm, is_long}

-- a packet with n bytes of data: an RTM's segment lies in its message, and a long message begins at its start and is never empty (02, request 3:
-- "a msg_length of 0 stays refusal 11")
pub record Formed (h : Incoming) (n : ℕ) : Type 0 where
  pub size : h.size ≡ n
  pub inside : is_rtm h.shape ≡ true → h.offset + h.size ≤ h.length
  pub start : is_long h.shape ≡ true → h.offset ≡ 0
  pub some : is_long h.shape ≡ true → 1 ≤ h.length
