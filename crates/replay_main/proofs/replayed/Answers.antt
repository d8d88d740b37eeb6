-- The text has room for the most entries that are taken, so the replay is not refused.
use Rattle.std.proofs.Common.{ap, ◌∙◌}
use Rattle.replay.specs.Replaying.{ReplayLeaves}
use Rattle.replay.proofs.WholeLaws.{written_kept}
use Rattle.replay_main.proofs.ProgramLaws.{not_refused}
use Rattle.replay_main.proofs.replayed.Goals as goal

pub returns-clause-value : goal.returns-clause-value
returns-clause-value c =
    ap (λ (l : ReplayLeaves). l.replayed.written) (c.replay-replayed.ensures ∙ not_refused c.args.trace.now c.args.text.now c.requires)

pub returns-clause-text_after : goal.returns-clause-text_after
returns-clause-text_after c = ap (λ (l : ReplayLeaves). l.text) (c.replay-replayed.ensures ∙ not_refused c.args.trace.now c.args.text.now c.requires)

pub returns-clause-upper_bound : goal.returns-clause-upper_bound
returns-clause-upper_bound c = written_kept _ _ _ _ _ _ _ c.replay-replayed.ensures c.replay-replayed.auto.text
