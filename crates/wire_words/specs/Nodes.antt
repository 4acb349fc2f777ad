-- The ids of nodes.
use Rattle.std.specs.Prelude.{ℕ, List, ◌++◌, codes}
use Rattle.std.specs.Fmt.{decimal}

-- `node-` and the digits of its number
unfoldable pub node_id : ℕ → List ℕ
node_id number = codes "node-" ++ decimal number
