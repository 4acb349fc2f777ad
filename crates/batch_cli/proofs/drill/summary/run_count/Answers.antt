use Rattle.std.proofs.Common.{◌≡◌, arith, rules, ap, inl, length}
use Rattle.batch_cli.proofs.DrillRows.{rows_few}
use Rattle.batch_cli.proofs.drill.summary.run_count.Goals as goal

pub count-requires-clause-fits : goal.count-requires-clause-fits
count-requires-clause-fits c =
    let source : c.filter.result.iter ≡ c.runs.result = search rules in
    inl (omega (arith, ap length source, ap length c.runs.ensures, ap length c.places_known.ensures.runs, rows_few c.args.tables.now.run_slots))
