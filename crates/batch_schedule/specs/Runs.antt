-- Turns of schedules over an asker: its exchanges are those of the definition of turns, or a prefix of them if memory ran out.
use Rattle.std.specs.Prelude.{◌≡◌, ℕ, Bool, true, false, List, [], ◌++◌, ◌⊎◌, Ok, Err}
use Rattle.bt_base.specs.declared.memory.NoMemory.{NoMemory}
use Rattle.bt_rows.specs.declared.event.EventKind.{EventKind}
use Rattle.bt_rows.specs.declared.reply.Reply.{Reply}
use Rattle.table_reads.specs.declared.request.Read.{Read}
use Rattle.batch_desk.specs.declared.answer.Answer.{Answer}
use Rattle.batch_desk.specs.Exchanges.{Exchange, Called, Looked, Leads}
use Rattle.schedule_rows.specs.Interactions.{Interaction, Ends, Reaches, StandsAt, IsBegun}
use Rattle.schedule_rows.specs.Fires.{fire_of, fires_of, AllAnswered, StopsWithoutMemory}
use Rattle.schedule_rows.specs.Rows.{Schedule}
use Rattle.schedule_rows.specs.Turns.{outcome_of, is_free, Part, turns}
use Rattle.schedule_rows.specs.declared.fire.Fire.{Fire}
use Rattle.schedule_rows.specs.declared.outcome.CallOutcome.{CallOutcome}

module _ {A : Type 0} (exchanged : A → Exchange → A → Type 0) where
  -- one call was made, with this outcome
  pub record MakesCall (old new : A) (now : ℕ) (event : EventKind) (before after : List Fire) (h : CallOutcome) : Type 0 where
    pub answer : Answer
    pub made : exchanged old (Called now event answer) new
    pub fires : after ≡ before ++ fire_of event answer
    pub outcome_is : h ≡ outcome_of answer

  -- a read showed whether the next job may be requested
  pub record ReadShows (old new : A) (read : Read) (free : Bool) : Type 0 where
    pub reply : Reply
    pub made : exchanged old (Looked read (Ok reply)) new
    pub shows : free ≡ is_free (Ok reply)

  -- no read was made, or memory ran out in the asker
  abbrev pub ReadFails : A → A → Read → NoMemory → Type 0
  ReadFails old new read e = (new ≡ old) ⊎ exchanged old (Looked read (Err e)) new

  -- a part of a turn was run, or a prefix of it if memory ran out
  pub record RunsPart (part : Part) (old new : A) (row : Schedule) (before after : List Fire) (whole : Bool) : Type 0 where
    pub exchanges : List Exchange
    pub leads : Leads exchanged old exchanges new
    pub fires : after ≡ before ++ fires_of exchanges
    pub stops : StopsWithoutMemory exchanges
    pub answered : whole ≡ true → AllAnswered exchanges
    pub ended : whole ≡ true → (put : Schedule → List Schedule) (next : Schedule → Interaction) → Reaches (part put next) exchanges (next row)
    pub begun : whole ≡ false → (put : Schedule → List Schedule) (next : Schedule → Interaction) → ((r : Schedule) → StandsAt (next r) (put r)) →
        IsBegun (part put next) exchanges (put row)

  -- a turn was run, or a prefix of it if memory ran out
  pub record RunsTurn (part : Part) (old new : A) (row : Schedule) (before after : List Fire) (whole : Bool) : Type 0 where
    pub exchanges : List Exchange
    pub leads : Leads exchanged old exchanges new
    pub fires : after ≡ before ++ fires_of exchanges
    pub stops : StopsWithoutMemory exchanges
    pub answered : whole ≡ true → AllAnswered exchanges
    pub ended : whole ≡ true → (put : Schedule → List Schedule) (next : Schedule → Interaction) → Reaches (part put next) exchanges (next row)
    pub begun : whole ≡ false → (put : Schedule → List Schedule) (next : Schedule → Interaction) → IsBegun (part put next) exchanges (put row)

  -- the turns of these schedules were run, or a prefix of them if memory ran out
  pub record RunsTurns (now : ℕ) (old_rows new_rows : List Schedule) (old new : A) (before after : List Fire) (whole : Bool) : Type 0 where
    pub exchanges : List Exchange
    pub leads : Leads exchanged old exchanges new
    pub fires : after ≡ before ++ fires_of exchanges
    pub stops : StopsWithoutMemory exchanges
    pub answered : whole ≡ true → AllAnswered exchanges
    pub ended : whole ≡ true → Reaches (turns now [] old_rows) exchanges (Ends new_rows)
    pub begun : whole ≡ false → IsBegun (turns now [] old_rows) exchanges new_rows
