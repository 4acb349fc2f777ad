use Rattle.std.proofs.Common.{ap, ◌∙◌}
use Rattle.row_keys.specs.Passes.{are_distinct, share_key}
use Rattle.row_keys.proofs.SeenKeys.{distinct_alike}
use Rattle.batch_model.specs.WellFormed.{are_one_attempt}
use Rattle.tables_check.specs.RowKeys.{attempt_key}
use Rattle.tables_check.proofs.KeyTests.{attempt_test}
use Rattle.tables_check.proofs.named.are_main_runs_distinct.Goals as goal

pub returns : goal.returns
returns c =
    c.in_ok-distinct.ensures
    ∙ ap (are_distinct (share_key attempt_key)) c.runs.ensures
    ∙ distinct_alike (share_key attempt_key) are_one_attempt attempt_test c.args.tables.now.state.runs
