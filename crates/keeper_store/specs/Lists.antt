-- Entries of one kind of rows in a store, by their keys.
use Rattle.std.specs.Prelude.{ℕ, Bool, List}
use Rattle.std.specs.Str.{bytes_eq}
use Rattle.bt_rows.specs.Lists.{put_row, drop_row}
use Rattle.keeper_store.specs.declared.entries.Entry.{Entry}

-- the entry has the key
abbrev pub has_key : List ℕ → Entry → Bool
has_key key entry = bytes_eq entry.key key

-- an entry that is put replaces the first that has its key, or goes to the end
abbrev pub put_entry : Entry → List Entry → List Entry
put_entry entry entries = put_row (has_key entry.key) entry entries

-- the first entry that has the key is dropped
abbrev pub drop_entry : List ℕ → List Entry → List Entry
drop_entry key entries = drop_row (has_key key) entries
