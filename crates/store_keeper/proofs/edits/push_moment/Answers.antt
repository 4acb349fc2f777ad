use Rattle.store_keeper.proofs.OneEdit.{extends_now}
use Rattle.store_keeper.proofs.edits.push_moment.Goals as goal

pub returns : goal.returns
returns c = extends_now c.args.moment c.args.edits.now.items c.push.new.self.items c.in_ok-push.ensures.items
