-- From the run of a calendar over an opened desk to the whole run.
use Rattle.std.proofs.Common.{◌≡◌, ◌≤◌, ◌+◌, ℕ, List, Option, IfSome, ap, ◌∙◌, sym, subst, length, inl, inr, take}
use Rattle.std.specs.Str.Lines.{lines}
use Rattle.byte_streams.specs.Content.{Gains, HoldsOfInput}
use Rattle.byte_streams.proofs.Reading.{input_so}
use Rattle.batch_model.specs.Opening.{opening}
use Rattle.batch_model.specs.Variants.{State}
use Rattle.batch_desk.specs.declared.entry.Entry.{Entry}
use Rattle.batch_desk.specs.Kept.{Desk}
use Rattle.batch_desk.specs.History.{fault_count}
use Rattle.batch_desk.specs.Answers.{IsInOrder, Begins}
use Rattle.batch_cli.specs.Written.{GainsBetween}
use Rattle.batch_cli.specs.CalendarShown.{cal_outputs, line_outputs, cal_questions}
use Rattle.batch_cli.specs.CalendarGoing.{CalPart, CalCutOff, CalEndsWith, CalDeskRan, cal_ending_of}
use Rattle.batch_cli.specs.CalendarRuns.{IsCalendarDone, IsCalendarBegun, IsCalendarCutOff, CalendarRan}
use Rattle.batch_cli.proofs.Headlines.{Runs, seen_of, begins_from, legal_from, laws_from, kept_from, within_from, counted_from, opened_from}
use Rattle.cli_words.specs.declared.command.ReplayOptions.{ReplayOptions as Options}
use Rattle.batch_cli.specs.declared.status.Status.{Status}
use Rattle.batch_cli.specs.declared.status.Status.TheVariants.{Done, Memory, Usage, SourceFault, SinkFault, KeeperFault, UnreadableLines, ScriptTooLong}
use Rattle.batch_cli.specs.declared.status.Status.TheVariants.{FormulaError, JournalFull}

module _ {K : Type 0} {told : K → Option State} {faults : K → ℕ} {options : Options} {loaded : Option State} {count : ℕ} {start now : Desk K} where
  -- what shows a history, from the opened tables
  outputs_from : (script : List (List ℕ)) (history : List Entry) → Runs told faults options loaded count start now →
      cal_outputs start.seats script start.limit history start.state ≡ cal_outputs options.seats script options.limit history start.opened
  outputs_from script history r =
      ap (λ seats. cal_outputs seats script start.limit history start.state) r.begins.seats_are
      ∙ ap (λ limit. cal_outputs options.seats script limit history start.state) r.begins.limit_is
      ∙ ap (λ s. cal_outputs options.seats script options.limit history s) r.begins.state

  line_outputs_from : (script : List (List ℕ)) (history : List Entry) → Runs told faults options loaded count start now →
      line_outputs start.seats script start.limit history start.state ≡ line_outputs options.seats script options.limit history start.opened
  line_outputs_from script history r =
      ap (λ seats. line_outputs seats script start.limit history start.state) r.begins.seats_are
      ∙ ap (λ limit. line_outputs options.seats script limit history start.state) r.begins.limit_is
      ∙ ap (λ s. line_outputs options.seats script options.limit history s) r.begins.state

  -- what it asks
  questions_from : (script : List (List ℕ)) (history : List Entry) → Runs told faults options loaded count start now →
      cal_questions start.seats script start.limit history start.state ≡ cal_questions options.seats script options.limit history start.opened
  questions_from script history r =
      ap (λ seats. cal_questions seats script start.limit history start.state) r.begins.seats_are
      ∙ ap (λ limit. cal_questions options.seats script limit history start.state) r.begins.limit_is
      ∙ ap (λ s. cal_questions options.seats script options.limit history s) r.begins.state

  begun_from : (script : List ℕ) (before taken : Option (List ℕ)) → Runs told faults options loaded count start now →
      CalPart faults start now (lines script) before taken →
      IsCalendarBegun options script (seen_of told faults loaded count now before taken)
  begun_from script before taken r p = record {
    opened = start.opened;
    begins = begins_from r p.same;
    history = now.entries;
    legal = legal_from r p.same;
    laws = laws_from r p.same;
    within = within_from r p.same;
    lines_done = p.lines_done;
    calls = p.calls ∙ ap (take (length now.entries)) (questions_from (take (p.lines_done + 1) (lines script)) now.entries r);
    written = subst (λ w. GainsBetween before taken w (cal_outputs options.seats (lines script) options.limit now.entries start.opened))
        (line_outputs_from (take p.lines_done (lines script)) now.entries r)
        (subst (GainsBetween before taken (line_outputs start.seats (take p.lines_done (lines script)) start.limit now.entries start.state))
        (outputs_from (lines script) now.entries r) p.written);
    kept = kept_from r p.same;
    counted = counted_from (fault_count now.entries) r p.rose;
  }

  done_from : {status : Status} (script : List ℕ) (before taken : Option (List ℕ)) → Runs told faults options loaded count start now →
      CalEndsWith faults start now script before taken status →
      IsCalendarDone options script (seen_of told faults loaded count now before taken) status
  done_from {status} script before taken r e =
      let p = e.whole in
      record {
        few = e.few;
        opened = start.opened;
        begins = begins_from r p.same;
        history = now.entries;
        legal = legal_from r p.same;
        laws = laws_from r p.same;
        calls = p.calls
            ∙ ap (λ limit. take limit (cal_questions start.seats (lines script) start.limit now.entries start.state)) r.begins.limit_is
            ∙ ap (take options.limit) (questions_from (lines script) now.entries r);
        settled = p.settled;
        written = subst (Gains before taken) (outputs_from (lines script) now.entries r) p.written;
        kept = kept_from r p.same;
        counted = counted_from (fault_count now.entries) r p.rose;
        ending = e.ending
            ∙ ap (λ limit. cal_ending_of limit (lines script) (cal_questions start.seats (lines script) start.limit now.entries start.state) now.entries)
            r.begins.limit_is
            ∙ ap (λ questions. cal_ending_of options.limit (lines script) questions now.entries) (questions_from (lines script) now.entries r);
      }

  cut_off_from : (script : List ℕ) (before taken : Option (List ℕ)) → Runs told faults options loaded count start now →
      CalCutOff faults start now script before taken → IsCalendarCutOff options script (seen_of told faults loaded count now before taken)
  unfolding begun_from
  cut_off_from script before taken r d = record { few = d.few; begun = begun_from script before taken r d.part; settled = d.settled }

  cal_ran_from : (script : List ℕ) (before taken : Option (List ℕ)) (status : Status) → Runs told faults options loaded count start now →
      CalDeskRan faults start now script before taken status →
      CalendarRan options script (seen_of told faults loaded count now before taken) status
  cal_ran_from script before taken Usage r d = d
  cal_ran_from script before taken SourceFault r d = opened_from before taken r d
  cal_ran_from script before taken ScriptTooLong r d = (d.0, opened_from before taken r d.1)
  cal_ran_from script before taken SinkFault r d = cut_off_from script before taken r d
  cal_ran_from script before taken Memory r (inl d) = inr (inl (opened_from before taken r d))
  cal_ran_from script before taken Memory r (inr d) = inr (inr (d.0, begun_from script before taken r d.1))
  cal_ran_from script before taken KeeperFault r d = inr (done_from script before taken r d)
  cal_ran_from script before taken JournalFull r d = done_from script before taken r d
  cal_ran_from script before taken UnreadableLines r d = done_from script before taken r d
  cal_ran_from script before taken (FormulaError position) r d = d
  cal_ran_from script before taken Done r d = done_from script before taken r d

-- of what the source gave
pub cal_ran_opened : {K : Type 0} (told : K → Option State) (faults : K → ℕ) (options : Options) (keeper kept : K) (start now : Desk K)
    (left before taken : Option (List ℕ)) (status : Status) →
    Begins start options.seats options.limit → IfSome (told keeper) (λ s. start.opened ≡ opening s) → faults keeper ≤ faults start.keeper →
    IsInOrder told faults now →
    HoldsOfInput left (λ script. CalDeskRan faults start now script before taken status) → kept ≡ now.keeper →
    HoldsOfInput left (λ script. CalendarRan options script (record {
      taken_before = before;
      taken_now = taken;
      loaded = told keeper;
      kept = told kept;
      faults_before = faults keeper;
      faults_now = faults kept;
    }) status)
cal_ran_opened {K} told faults options keeper kept start now left before taken status b o later in_order d back =
    subst (λ k. HoldsOfInput left (λ script. CalendarRan options script
    (record { taken_before = before; taken_now = taken; loaded = told keeper; kept = told k; faults_before = faults keeper; faults_now = faults k })
    status)) (sym back)
    (input_so d (λ script ran. cal_ran_from {told = told} {faults = faults} {options = options} {loaded = told keeper} {count = faults keeper} {start = start}
    {now = now} script before taken status (record { begins = b; opened = o; later = later; in_order = in_order }) ran))
