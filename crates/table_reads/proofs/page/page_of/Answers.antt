use Rattle.std.proofs.Common.{◌≡◌, IfOk, map, filter, subst, sym, ap, ◌∙◌}
use Rattle.batch_model.specs.Finding.{names}
use Rattle.bt_base.specs.Ids.{same}
use Rattle.table_reads.specs.Pages.{has_id, items_after, first_page, page_of}
use Rattle.table_reads.proofs.Lists.{shown_after}
use Rattle.table_reads.proofs.page.page_of.Goals as goal

pub returns-in_ok-rest-in-Some : goal.returns-in_ok-rest-in-Some
returns-in_ok-rest-in-Some g c =
    let item_of = g.R.Shown.item_of c.args.tables.now.state in
    let is_in = g.R.Shown.is_in c.args.owner.now in
    let listing = c.args.listing.now in
    let id = c.in-Some.id in
    let shown = shown_after is_in (λ row. same (g.R.Shown.id_of row) id) item_of (has_id id)
    (λ row. ap (λ name. names name id) (g.met.R.Shown.shows_id c.args.tables.now.state row)) c.args.rows in
    let page : first_page listing.count (map item_of (filter is_in c.in_ok-rest-in-Some.rest)) ≡ page_of listing (map item_of (filter is_in c.args.rows)) =
    ap (λ rest. first_page listing.count (map item_of (filter is_in rest))) c.in_ok-rest-in-Some.ensures
    ∙ ap (first_page listing.count) shown
    ∙ ap (λ after. first_page listing.count (items_after after (map item_of (filter is_in c.args.rows)))) (sym c.in-Some.is)
    in
    subst (λ told. IfOk c.first_page-in-Some.result (λ reply. reply ≡ told)) page c.first_page-in-Some.ensures
