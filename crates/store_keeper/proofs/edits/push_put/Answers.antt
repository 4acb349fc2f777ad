use Rattle.store_keeper.proofs.edits.push_put.Goals as goal

pub returns : goal.returns
returns g c = record {
  entry = c.in_ok-entry_of.field-0;
  added = c.in_ok-push.ensures.items;
  key = c.in_ok-entry_of.ensures.key;
  known = c.in_ok-entry_of.ensures.known;
  text = c.in_ok-entry_of.ensures.text;
}
