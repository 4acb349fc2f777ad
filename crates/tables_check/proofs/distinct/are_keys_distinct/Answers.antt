use Rattle.std.proofs.Common.{◌&&◌, ap, ◌∙◌}
use Rattle.bt_rows.specs.Keys.{same_pool, same_node, same_job, same_task, same_run, same_prep, same_sample, same_scale}
use Rattle.row_keys.specs.Passes.{are_distinct}
use Rattle.tables_check.proofs.KnownKeys.{with_known}
use Rattle.tables_check.proofs.distinct.are_keys_distinct.Goals as goal

pub returns : goal.returns
returns c =
    let s = c.args.tables.now.state in
    ap (λ first. first && c.in_ok-last.last) c.in_ok-first.ensures
    ∙ ap (λ last. (are_distinct same_pool s.pools && (are_distinct same_node s.nodes && are_distinct same_job s.jobs)) && last) c.in_ok-last.ensures
    ∙ with_known (are_distinct same_pool s.pools) (are_distinct same_node s.nodes) (are_distinct same_job s.jobs) (are_distinct same_task s.tasks)
    (are_distinct same_run s.runs) (are_distinct same_prep s.preps) (are_distinct same_sample s.samples) (are_distinct same_scale s.scales)
    c.known_keys.ensures.tasks c.known_keys.ensures.runs
