-- Words that could not be read because memory ran out.
use Rattle.std.proofs.Common.{ℕ, List, Option, Some, None, refl, arith, inl, inr}
use Rattle.byte_streams.proofs.Gaining.{gains_nothing}
use Rattle.byte_streams.proofs.Reading.{of_input}
use Rattle.batch_model.specs.Variants.{State}
use Rattle.batch_keeper.specs.declared.error.KeepError.TheVariants.{Memory as NoMemory}
use Rattle.cli_words.specs.declared.command.Command.{Command}
use Rattle.cli_words.specs.declared.command.Command.TheVariants.{Replay, Calendar, Formula, Export, Drill, Serve}
use Rattle.cli_words.specs.declared.command.Invocation.{Invocation}
use Rattle.batch_cli.specs.Headline.{Observed, IsUnopened, RanCommand, Ran}
use Rattle.batch_cli.specs.declared.status.Status.TheVariants.{Memory}

-- what is seen if nothing was called and nothing written
abbrev pub unchanged : Option (List ℕ) → Option State → ℕ → Observed
unchanged taken told count = record { taken_before = taken; taken_now = taken; loaded = told; kept = told; faults_before = count; faults_now = count }

unopened : (taken : Option (List ℕ)) (told : Option State) (count : ℕ) → IsUnopened (unchanged taken told count) NoMemory
unopened taken told count = record { fails = record { same = refl; later = omega arith; failed = λ e. absurd (cc) }; written = gains_nothing taken }

unread_command : (command : Command) (left taken : Option (List ℕ)) (told : Option State) (count : ℕ) →
    RanCommand command left (unchanged taken told count) Memory
unread_command (Replay options) left taken told count = of_input left _ (λ script. inl (unopened taken told count))
unread_command (Calendar options) left taken told count = of_input left _ (λ script. inl (unopened taken told count))
unread_command (Formula options) left taken told count = of_input left _ (λ formula. inl (gains_nothing taken))
unread_command Export left taken told count = inl (unopened taken told count)
unread_command (Drill tasks) left taken told count = inl (unopened taken told count)
unread_command (Serve options) left taken told count = (inr refl, gains_nothing taken)

-- nothing was done
pub unread : (invocation : Option Invocation) (left taken : Option (List ℕ)) (told : Option State) (count : ℕ) →
    Ran invocation left (unchanged taken told count) Memory
unread None left taken told count = (inr refl, gains_nothing taken)
unread (Some invocation) left taken told count = unread_command invocation.command left taken told count
