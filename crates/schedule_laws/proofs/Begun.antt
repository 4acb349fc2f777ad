-- Interactions that were begun.
use Rattle.std.proofs.Common.{ℕ, List, [], ◌∷◌, ◌++◌, Ok, refl}
use Rattle.bt_rows.specs.declared.reply.Reply.TheVariants as replies
use Rattle.batch_desk.specs.declared.answer.Answer.TheVariants as answers
use Rattle.batch_desk.specs.Exchanges.{Exchange, Called, Looked}
use Rattle.schedule_rows.specs.Interactions.{Interaction, Ends, Passes, Asks, Looks, Reaches}
use Rattle.schedule_rows.specs.Rows.{Schedule}
use Rattle.schedule_rows.specs.Turns.{turns}
use Rattle.schedule_laws.specs.Laws.{EachMakesOneAtMost}
use Rattle.schedule_laws.proofs.All.{each_one}
use Rattle.schedule_laws.proofs.Reaching.{passed, reaches_on}

-- exchanges that lead to the end of an interaction
record GoesOn (interaction : Interaction) : Type 0 where
  pub more : List Exchange
  pub rows : List Schedule
  pub reached : Reaches interaction more (Ends rows)

goes_on : (interaction : Interaction) → GoesOn interaction
goes_on (Ends rows) = record { more = []; rows = rows; reached = refl }
goes_on (Passes rows interaction) =
    let left = goes_on interaction in record { more = left.more; rows = left.rows; reached = passed rows interaction (Ends left.rows) left.more left.reached }
goes_on (Asks rows moment event interaction) =
    let left = goes_on (interaction answers.KeeperFault) in
    record { more = Called moment event answers.KeeperFault ∷ left.more; rows = left.rows; reached = (refl, refl, left.reached) }
goes_on (Looks rows read interaction) =
    let left = goes_on (interaction (Ok (replies.Status 0))) in
    record { more = Looked read (Ok (replies.Status 0)) ∷ left.more; rows = left.rows; reached = (refl, left.reached) }

pub begun_one : (now : ℕ) (rows : List Schedule) (xs : List Exchange) (point : Interaction) → Reaches (turns now [] rows) xs point
    → (more : List Exchange) × (lasts : List Schedule) × EachMakesOneAtMost now rows lasts (xs ++ more)
begun_one now rows xs point h =
    let left = goes_on point in (
      left.more,
      left.rows,
      each_one now rows left.rows (xs ++ left.more) (reaches_on (turns now [] rows) xs left.more point (Ends left.rows) h left.reached),
    )
