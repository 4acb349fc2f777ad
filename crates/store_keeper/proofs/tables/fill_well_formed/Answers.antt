use Rattle.store_keeper.proofs.Filled.{IsTested, found_content, no_content}
use Rattle.store_keeper.proofs.tables.fill_well_formed.Goals as goal

pub returns-clause-yes : goal.returns-clause-yes
returns-clause-yes c =
    let s = c.fill.new.tables.state in
    let tested : IsTested c.args.stored.now s c.in_ok-is_whole.is_whole c.in_ok-formed.formed = record {
      state = c.in_ok-is_whole.ensures.state;
      rows_is = c.in_ok-is_whole.ensures.rows;
      yes = c.in_ok-formed.ensures.yes;
      no = c.in_ok-formed.ensures.no;
    } in
    found_content c.args.stored.now s c.in_ok-is_whole.is_whole c.in_ok-formed.formed c.requires.version tested

pub returns-clause-no : goal.returns-clause-no
returns-clause-no c =
    let s = c.fill.new.tables.state in
    let tested : IsTested c.args.stored.now s c.in_ok-is_whole.is_whole c.in_ok-formed.formed = record {
      state = c.in_ok-is_whole.ensures.state;
      rows_is = c.in_ok-is_whole.ensures.rows;
      yes = c.in_ok-formed.ensures.yes;
      no = c.in_ok-formed.ensures.no;
    } in
    no_content c.args.stored.now s c.in_ok-is_whole.is_whole c.in_ok-formed.formed tested
