use Rattle.std.proofs.Common.{◌≡◌, ◌++◌, drop, string_bytes}
use Rattle.std.specs.Prelude.{codes, flat_map}
use Rattle.wire_words.specs.Nodes.{node_id}
use Rattle.child_words.specs.declared.instances.Instance.{Instance}
use Rattle.child_words.specs.RunNames.{node_list}
use Rattle.child_words.proofs.run_names.node_list.Given as goal

-- the list so far, and what the other instances add to it
abbrev pub invariant-loop-one : goal.invariant-loop-one
invariant-loop-one l =
    string_bytes l.list ++ flat_map (λ (one : Instance). codes ";" ++ node_id one.node) (drop l.one-index l.others) ≡ node_list l.instances
