use Rattle.std.proofs.Common.{◌≡◌, IfOk, map, subst, ap, ◌∙◌}
use Rattle.table_reads.specs.Pages.{page_of}
use Rattle.table_reads.specs.Reads.{job_shown}
use Rattle.table_reads.proofs.Lists.{filter_all}
use Rattle.table_reads.proofs.reads.list_jobs.Goals as goal

pub returns : goal.returns
returns c =
    let s = c.args.tables.now.state in
    let all = ap (λ rows. page_of c.args.listing.now (map (job_shown s) rows)) (filter_all c.jobs.result ∙ c.jobs.ensures) in
    subst (λ told. IfOk c.page_of.result (λ reply. reply ≡ told)) all c.page_of.ensures
