-- Interactions with an asker: each call or read depends on the answers to those before it. At each point the rows are known.
use Rattle.std.specs.Prelude.{◌≡◌, ℕ, List, [], ◌∷◌, ◌⊎◌, Result}
use Rattle.bt_base.specs.declared.memory.NoMemory.{NoMemory}
use Rattle.bt_rows.specs.declared.event.EventKind.{EventKind}
use Rattle.bt_rows.specs.declared.reply.Reply.{Reply}
use Rattle.table_reads.specs.declared.request.Read.{Read}
use Rattle.batch_desk.specs.declared.answer.Answer.{Answer}
use Rattle.batch_desk.specs.Exchanges.{Exchange, Called, Looked}
use Rattle.schedule_rows.specs.Rows.{Schedule}

-- an interaction ends with the rows, passes a point at which nothing is asked, or asks for a call or a read and continues by the answer
pub data Interaction : Type 0 where
  Ends : List Schedule → Interaction
  Passes : List Schedule → Interaction → Interaction
  Asks : List Schedule → ℕ → EventKind → (Answer → Interaction) → Interaction
  Looks : List Schedule → Read → (Result Reply NoMemory → Interaction) → Interaction

-- The exchanges lead from the start of the interaction to this point of it: they are its calls and reads, in order, each with the answer by
-- which it continues.
abbrev pub Reaches : Interaction → List Exchange → Interaction → Type 0
Reaches (Ends rows) [] point = point ≡ Ends rows
Reaches (Ends rows) (x ∷ xs) point = ⊥
Reaches (Passes rows rest) [] point = (point ≡ Passes rows rest) ⊎ Reaches rest [] point
Reaches (Passes rows rest) (x ∷ xs) point = Reaches rest (x ∷ xs) point
Reaches (Asks rows moment event rest) [] point = point ≡ Asks rows moment event rest
Reaches (Asks rows moment event rest) (Called at asked answer ∷ xs) point = (at ≡ moment) × (asked ≡ event) × Reaches (rest answer) xs point
Reaches (Asks rows moment event rest) (Looked read reply ∷ xs) point = ⊥
Reaches (Looks rows read rest) [] point = point ≡ Looks rows read rest
Reaches (Looks rows read rest) (Called at asked answer ∷ xs) point = ⊥
Reaches (Looks rows read rest) (Looked asked reply ∷ xs) point = (asked ≡ read) × Reaches (rest reply) xs point

-- at this point, before the end, the rows are these
abbrev pub StandsAt : Interaction → List Schedule → Type 0
StandsAt (Ends end) rows = ⊥
StandsAt (Passes here rest) rows = rows ≡ here
StandsAt (Asks here moment event rest) rows = rows ≡ here
StandsAt (Looks here read rest) rows = rows ≡ here

-- the exchanges are those of the whole interaction, which ends with these rows
pub record IsWhole (interaction : Interaction) (exchanges : List Exchange) (rows : List Schedule) : Type 0 where
  pub ended : Reaches interaction exchanges (Ends rows)

-- the exchanges are a prefix of those of the interaction, and the rows are those at the point that they lead to
pub record IsBegun (interaction : Interaction) (exchanges : List Exchange) (rows : List Schedule) : Type 0 where
  pub point : Interaction
  pub reached : Reaches interaction exchanges point
  pub stands : StandsAt point rows
