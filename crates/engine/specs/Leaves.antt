-- What a call leaves of what it is lent, by its turn.
use Rattle.std.specs.Prelude.{ℕ, List, []}
use Rattle.laws.specs.Parts.{store_at}
use Rattle.engine.specs.declared.types.Engine.{Engine}
use Rattle.engine.specs.declared.types.Outcome.{Outcome}
use Rattle.engine.specs.Steps.{World, Turn}

abbrev pub world : Engine → List ℕ → List ℕ → World
world engine arena map = record { engine = engine; arena = arena; map = map }

-- a call that writes no reply
abbrev pub silent : Outcome → List ℕ → List ℕ → Turn
silent r arena map = record { world = world r.engine arena map; answer = r.answer; reply = [] }

-- the outcome, and the lent arena, map and reply buffer
pub record CallLeaves : Type 0 where
  pub outcome : Outcome
  pub arena : List ℕ
  pub map : List ℕ
  pub reply : List ℕ

-- the reply packet is put at the start of the reply buffer
abbrev pub call_leaves : List ℕ → Turn → CallLeaves
call_leaves reply t =
    record {
      outcome = record { engine = t.world.engine; answer = t.answer };
      arena = t.world.arena;
      map = t.world.map;
      reply = store_at reply 0 t.reply;
    }
