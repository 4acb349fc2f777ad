-- What contracts see of a desk, of its journal, and of its part that has no journal.
use Rattle.std.specs.Prelude.{◌≡◌, ℕ, List, Option, IfSome}
use Rattle.bt_rows.specs.State.{State}
use Rattle.bt_rows.specs.declared.tables.Tables.{Tables}
use Rattle.batch_desk.specs.declared.entry.Entry.{Entry}

-- a keeper, and the machine's tables beside it
pub record SavedMachine (K : Type 0) : Type 0 where
  pub keeper : K
  pub state : State
  pub seats : ℕ

-- a keeper that tells its tables tells these
abbrev pub Tells : Option State → State → Type 0
Tells told s = IfSome told (λ kept. kept ≡ s)

-- a journal: the opened tables, the seats, the most calls that it takes, and its entries
pub record JournalFields : Type 0 where
  pub opened : Tables
  pub seats : ℕ
  pub limit : ℕ
  pub entries : List Entry

-- a keeper, the tables, and the journal: the opened tables, the seats, the most calls that it takes, and its entries
pub record Desk (K : Type 0) : Type 0 where
  pub keeper : K
  pub state : State
  pub opened : State
  pub seats : ℕ
  pub limit : ℕ
  pub entries : List Entry
