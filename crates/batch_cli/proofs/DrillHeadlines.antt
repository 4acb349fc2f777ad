-- From the drill of an opened desk to the whole run.
use Rattle.std.proofs.Common.{◌≡◌, ◌≤◌, ℕ, List, Option, IfSome, sym, subst, inl, inr}
use Rattle.byte_streams.specs.Content.{Gains, GainsFront}
use Rattle.batch_model.specs.Opening.{opening}
use Rattle.batch_model.specs.Variants.{State}
use Rattle.batch_desk.specs.Kept.{Desk}
use Rattle.batch_desk.specs.History.{fault_count}
use Rattle.batch_desk.specs.Answers.{IsInOrder, Begins}
use Rattle.batch_cli.specs.Drill.{IsDrilled, BeginsDrill, summary_text}
use Rattle.batch_cli.specs.Drilling.{DrillWhole, DrillEnds, DrillCut, DrillBroken, DeskDrilled}
use Rattle.batch_cli.specs.EndStatus.{drill_ending}
use Rattle.batch_cli.specs.Headline.{IsMade, IsMadeWhole, IsMadeCut, IsMadePart, RanDrill}
use Rattle.batch_cli.specs.declared.drill.limits.TheConstants.{DRILL_SEATS, DRILL_JOURNAL_LIMIT}
use Rattle.cli_words.specs.declared.command.ReplayOptions.{ReplayOptions as Options}
use Rattle.batch_cli.specs.declared.status.Status.{Status}
use Rattle.batch_cli.specs.declared.status.Status.TheVariants.{Done, Memory, Usage, SourceFault, SinkFault, KeeperFault, UnreadableLines, ScriptTooLong}
use Rattle.batch_cli.specs.declared.status.Status.TheVariants.{FormulaError, JournalFull}
use Rattle.batch_cli.proofs.Headlines.{Runs, seen_of, begins_from, legal_from, laws_from, state_from, kept_from, counted_from}

-- the seats and the journal of a drill
abbrev drill_options : Options
drill_options = record { seats = DRILL_SEATS; limit = DRILL_JOURNAL_LIMIT }

module _ {K : Type 0} {told : K → Option State} {faults : K → ℕ} {loaded : Option State} {risen : ℕ} {start now : Desk K} where
  made_from : (count : ℕ) (before taken : Option (List ℕ)) → Runs told faults drill_options loaded risen start now → DrillWhole faults start now count →
      IsMade count (seen_of told faults loaded risen now before taken)
  made_from count before taken r w = record {
    opened = start.opened;
    begins = begins_from r w.same;
    history = now.entries;
    drilled = subst (λ seats. IsDrilled count seats start.opened now.entries) r.begins.seats_are
        (subst (λ s. IsDrilled count start.seats s now.entries) r.begins.state w.drilled);
    legal = legal_from r w.same;
    laws = laws_from r w.same;
    settled = w.settled;
    kept = kept_from r w.same;
    counted = counted_from (fault_count now.entries) r w.rose;
  }

  part_from : (count : ℕ) (before taken : Option (List ℕ)) → Runs told faults drill_options loaded risen start now →
      DrillBroken faults start now count before taken → IsMadePart count (seen_of told faults loaded risen now before taken)
  part_from count before taken r d =
      let p = d.part in
      record {
        opened = start.opened;
        begins = begins_from r p.same;
        history = now.entries;
        begun = subst (λ seats. BeginsDrill count seats start.opened now.entries) r.begins.seats_are
            (subst (λ s. BeginsDrill count start.seats s now.entries) r.begins.state p.begun);
        legal = legal_from r p.same;
        laws = laws_from r p.same;
        settled = p.settled;
        written = d.written;
        kept = kept_from r p.same;
        counted = counted_from (fault_count now.entries) r p.rose;
      }

  whole_from : (status : Status) (count : ℕ) (before taken : Option (List ℕ)) → Runs told faults drill_options loaded risen start now →
      DrillEnds faults start now count before taken → status ≡ drill_ending now.entries →
      IsMadeWhole count (seen_of told faults loaded risen now before taken) status
  unfolding made_from
  whole_from status count before taken r d ending = record {
    made = made_from count before taken r d.whole;
    written = subst (λ s. Gains before taken (summary_text count s)) (state_from r d.whole.same) d.written;
    ending = ending;
  }

  cut_from : (count : ℕ) (before taken : Option (List ℕ)) → Runs told faults drill_options loaded risen start now →
      DrillCut faults start now count before taken → IsMadeCut count (seen_of told faults loaded risen now before taken)
  unfolding made_from
  cut_from count before taken r d = record {
    made = made_from count before taken r d.whole;
    written = subst (λ s. GainsFront before taken (summary_text count s)) (state_from r d.whole.same) d.written;
  }

  drilled_from : (count : ℕ) (before taken : Option (List ℕ)) (status : Status) → Runs told faults drill_options loaded risen start now →
      DeskDrilled faults start now count before taken status → RanDrill count (seen_of told faults loaded risen now before taken) status
  drilled_from count before taken Done r d = whole_from Done count before taken r d.0 d.1
  drilled_from count before taken KeeperFault r d = inr (whole_from KeeperFault count before taken r d.0 d.1)
  drilled_from count before taken SinkFault r d = cut_from count before taken r d
  drilled_from count before taken Memory r (inl d) = inr (inl (part_from count before taken r d))
  drilled_from count before taken Memory r (inr d) = inr (inr (cut_from count before taken r d))
  drilled_from count before taken Usage r d = d
  drilled_from count before taken SourceFault r d = d
  drilled_from count before taken ScriptTooLong r d = d
  drilled_from count before taken UnreadableLines r d = d
  drilled_from count before taken JournalFull r d = d
  drilled_from count before taken (FormulaError position) r d = d

-- over an opened desk, whose keeper is handed back
pub drilled_opened : {K : Type 0} (told : K → Option State) (faults : K → ℕ) (count : ℕ) (keeper kept : K) (start now : Desk K)
    (before taken : Option (List ℕ)) (status : Status) →
    Begins start DRILL_SEATS DRILL_JOURNAL_LIMIT → IfSome (told keeper) (λ s. start.opened ≡ opening s) → faults keeper ≤ faults start.keeper →
    IsInOrder told faults now → DeskDrilled faults start now count before taken status → kept ≡ now.keeper →
    RanDrill count (record {
      taken_before = before;
      taken_now = taken;
      loaded = told keeper;
      kept = told kept;
      faults_before = faults keeper;
      faults_now = faults kept;
    }) status
drilled_opened {K} told faults count keeper kept start now before taken status b o later in_order d back =
    subst (λ k. RanDrill count
    (record { taken_before = before; taken_now = taken; loaded = told keeper; kept = told k; faults_before = faults keeper; faults_now = faults k })
    status) (sym back)
    (drilled_from {told = told} {faults = faults} {loaded = told keeper} {risen = faults keeper} {start = start} {now = now} count before taken status
    (record { begins = b; opened = o; later = later; in_order = in_order }) d)
