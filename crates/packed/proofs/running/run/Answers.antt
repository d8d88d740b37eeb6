-- `packed::running::run` meets its contract: words that are no state's are run as an engine of no peers, and stay.
use mathlib.Core.Path.{sym, ◌∙◌}
use Rattle.packed.proofs.Keeping.{loaded_eights, run_left, run_saved, state_length}
use Rattle.state_words.proofs.Reading.{loaded_some}
use Rattle.packed.proofs.running.run.Goals as goal

pub returns-in_default : goal.returns-in_default
returns-in_default c = run_left _ _ _ _ _ _ _ _ _ c.run_calls.ensures (sym c.load.ensures ∙ c.in_default.is) c.fresh.ensures

pub run_calls-ran-requires : goal.run_calls-ran-requires
run_calls-ran-requires c = loaded_eights _ _ (sym c.load.ensures ∙ c.in-Some.is)

pub save-requires : goal.save-requires
save-requires c = state_length _ (loaded_some _ _ (sym c.load.ensures ∙ c.in-Some.is)).0

pub returns : goal.returns
returns c = rw c.save.ensures (run_saved _ _ _ _ _ _ _ _ _ c.run_calls-ran.ensures (sym c.load.ensures ∙ c.in-Some.is))
