-- What a call leaves of what it is lent, by its effect.
use Rattle.std.specs.Prelude.{ℕ, List}
use Rattle.laws.specs.Parts.{store_at}
use Rattle.peer.specs.declared.types.SlotStep.{SlotStep}
use Rattle.peer.specs.declared.types.Step.{Step}
use Rattle.peer.specs.Effects.{Effect, SegmentEffect, Settled}

-- the step, and the lent area, map words and reply buffer
pub record PacketLeaves : Type 0 where
  pub step : Step
  pub area : List ℕ
  pub words : List ℕ
  pub reply : List ℕ

-- the effect's bytes are put into the area, and its reply packet at the start of the reply buffer
abbrev pub packet_leaves : List ℕ → List ℕ → Effect → PacketLeaves
packet_leaves area reply f =
    record {
      step = record { peer = f.peer; answer = f.answer };
      area = store_at area f.at f.bytes;
      words = f.words;
      reply = store_at reply 0 f.reply;
    }

-- what a message comes to, for its slot
abbrev slot_step : Settled → SlotStep
slot_step s = record { phase = s.phase; answer = s.answer }

-- the same of a segment, which knows its slot alone
pub record SegmentLeaves : Type 0 where
  pub step : SlotStep
  pub area : List ℕ
  pub words : List ℕ
  pub reply : List ℕ

abbrev pub segment_leaves : List ℕ → List ℕ → SegmentEffect → SegmentLeaves
segment_leaves area reply s =
    record {
      step = slot_step s.settled;
      area = store_at area s.at s.bytes;
      words = s.words;
      reply = store_at reply 0 s.settled.reply;
    }

-- and of a part that writes the reply buffer alone
pub record Replied : Type 0 where
  pub step : SlotStep
  pub reply : List ℕ

abbrev pub replies : List ℕ → Settled → Replied
replies reply s = record { step = slot_step s; reply = store_at reply 0 s.reply }
