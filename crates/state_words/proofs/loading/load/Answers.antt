-- `state_words::loading::load` meets its contract: the words are a state's where the engine that is read is written as them again.
use lib.Dec.{eqb}
use lib.Pointwise.{pointwise}
use mathlib.Core.Path.{◌≡◌, sym, ap, ◌∙◌}
use native.Mathlib.Omega.{arith}
use Rattle.laws.specs.Choose.{pick}
use Rattle.state_words.specs.Flat.{same}
use Rattle.state_words.specs.Loading.{is_state, loaded}
use Rattle.state_words.specs.Saving.{engine_words}
use Rattle.state_words.proofs.FlatLaws.{same_pointwise}
use Rattle.state_words.proofs.Sizes.{not_state}
use Rattle.state_words.proofs.loading.load.Goals as goal
use Rattle.state_words.proofs.loading.load.Goals.{After-eq}

-- what was compared is whether the words are a state's
compared : (c : After-eq) → is_state c.args.words.now ≡ c.eq.result
unfolding is_state
compared c =
    let w = c.args.words.now in
    ap (λ e. same w (engine_words e)) (sym c.engine_in-engine.ensures)
    ∙ ap (same w) (sym c.save.ensures) ∙ sym (same_pointwise w c.save.new.words)
    ∙ ap (pointwise eqb w) (sym c.as_slice.ensures) ∙ sym c.eq.ensures

pub returns-then-words-ne-STATE : goal.returns-then-words-ne-STATE
unfolding loaded pick
returns-then-words-ne-STATE c =
    let w = c.args.words.now in
    rw (not_state w (λ e. omega arith))

pub returns-then-eq : goal.returns-then-eq
unfolding loaded pick
returns-then-eq c = rw (compared (goal.at.returns-then-eq c).After-eq ∙ c.if-eq.true, c.engine_in-engine.ensures)

pub returns-else-eq : goal.returns-else-eq
unfolding loaded pick
returns-else-eq c = rw (compared (goal.at.returns-else-eq c).After-eq ∙ c.if-eq.false)
