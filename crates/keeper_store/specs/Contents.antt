-- What a store contains, and what edits make of it.
use Rattle.std.specs.Prelude.{ℕ, List, [], ◌∷◌, Option, Some, None}
use Rattle.std.specs.Option.{option_map}
use Rattle.row_texts.specs.declared.row.RowKind.{RowKind}
use Rattle.row_texts.specs.declared.row.RowKind.TheVariants as kinds
use Rattle.keeper_store.specs.declared.entries.Entry.{Entry}
use Rattle.keeper_store.specs.declared.content.Metas.{Metas}
use Rattle.keeper_store.specs.declared.content.Stored.{Stored}
use Rattle.keeper_store.specs.declared.edit.MetaName.{MetaName}
use Rattle.keeper_store.specs.declared.edit.MetaName.TheVariants as names
use Rattle.keeper_store.specs.declared.edit.Edit.{Edit}
use Rattle.keeper_store.specs.declared.edit.Edit.TheVariants as edits
use Rattle.keeper_store.specs.Lists.{put_entry, drop_entry}

-- no rows, and no numbers
abbrev pub empty_content : Stored
empty_content = record {
  pools = [];
  nodes = [];
  jobs = [];
  tasks = [];
  runs = [];
  preps = [];
  samples = [];
  scales = [];
  metas = record { next_node = None; next_run = None; moment = None; version = None };
}

-- with an entry of this kind put
abbrev pub put_in : RowKind → Entry → Stored → Stored
put_in kinds.Pool entry s = record s { pools = put_entry entry s.pools }
put_in kinds.Node entry s = record s { nodes = put_entry entry s.nodes }
put_in kinds.Job entry s = record s { jobs = put_entry entry s.jobs }
put_in kinds.Task entry s = record s { tasks = put_entry entry s.tasks }
put_in kinds.Run entry s = record s { runs = put_entry entry s.runs }
put_in kinds.Prep entry s = record s { preps = put_entry entry s.preps }
put_in kinds.Sample entry s = record s { samples = put_entry entry s.samples }
put_in kinds.Scale entry s = record s { scales = put_entry entry s.scales }

-- without the entry of this kind that has the key
abbrev pub drop_in : RowKind → List ℕ → Stored → Stored
drop_in kinds.Pool key s = record s { pools = drop_entry key s.pools }
drop_in kinds.Node key s = record s { nodes = drop_entry key s.nodes }
drop_in kinds.Job key s = record s { jobs = drop_entry key s.jobs }
drop_in kinds.Task key s = record s { tasks = drop_entry key s.tasks }
drop_in kinds.Run key s = record s { runs = drop_entry key s.runs }
drop_in kinds.Prep key s = record s { preps = drop_entry key s.preps }
drop_in kinds.Sample key s = record s { samples = drop_entry key s.samples }
drop_in kinds.Scale key s = record s { scales = drop_entry key s.scales }

-- with another number of this name
abbrev pub set_meta : MetaName → ℕ → Metas → Metas
set_meta names.NextNode value metas = record metas { next_node = Some value }
set_meta names.NextRun value metas = record metas { next_run = Some value }
set_meta names.Moment value metas = record metas { moment = Some value }
set_meta names.Version value metas = record metas { version = Some value }

-- after one edit
abbrev pub apply_edit : Edit → Stored → Stored
apply_edit (edits.Put kind entry) s = put_in kind entry s
apply_edit (edits.Drop kind key) s = drop_in kind key s
apply_edit (edits.Meta name value) s = record s { metas = set_meta name value s.metas }

-- after these, from the first to the last
abbrev pub apply_edits : List Edit → Stored → Stored
apply_edits [] s = s
apply_edits (edit ∷ edits) s = apply_edits edits (apply_edit edit s)

-- what contracts see of a store after edits
abbrev pub content_after : List Edit → Option Stored → Option Stored
content_after edits content = option_map (apply_edits edits) content
