use Rattle.std.proofs.Common.{◌≡◌, drop}
use Rattle.keeper_store.specs.Contents.{apply_edits}
use Rattle.keeper_store.proofs.content.Stored.edit_all.Given as goal

-- what the edits that are left make of it is what all make of the content at first
abbrev pub invariant-loop-edit : goal.invariant-loop-edit
invariant-loop-edit l = apply_edits (drop l.edit-index l.edits) l.self ≡ apply_edits l.edits l.fn.self
