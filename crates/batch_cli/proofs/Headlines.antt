-- From the run of an opened desk to the whole run.
use Rattle.std.proofs.Common.{◌≡◌, ◌≤◌, ℕ, List, Option, IfSome, ap, ◌∙◌, refl, sym, subst, arith, length, inl, inr, map, take}
use Rattle.std.specs.Str.Lines.{lines}
use Rattle.byte_streams.specs.Content.{Gains, HoldsOfInput}
use Rattle.byte_streams.proofs.Gaining.{gains_nothing}
use Rattle.byte_streams.proofs.Reading.{input_so}
use Rattle.batch_model.specs.Opening.{opening}
use Rattle.batch_model.specs.Sound.{IsSound}
use Rattle.batch_model.specs.Variants.{State}
use Rattle.batch_desk.specs.declared.entry.Entry.{Entry}
use Rattle.batch_desk.specs.Kept.{Desk, Tells}
use Rattle.batch_desk.specs.Laws.{KeepsLaws}
use Rattle.batch_desk.specs.History.{IsLegal, after_all, asked_of, fault_count}
use Rattle.batch_desk.specs.Answers.{IsInOrder, Begins, HasSameOpening}
use Rattle.batch_cli.specs.Shown.{outputs, outputs_before, calls_of}
use Rattle.batch_cli.specs.Advance.{RoseBy}
use Rattle.batch_cli.specs.Written.{GainsBetween}
use Rattle.batch_cli.specs.EndStatus.{ending_of}
use Rattle.batch_cli.specs.Going.{Part, CutOff, NothingDone, EndsWith, DeskRan}
use Rattle.batch_cli.specs.Headline.{Observed, BeginsFrom, IsDone, IsBegun, IsCutOff, IsOnlyOpened, RanWith}
use Rattle.cli_words.specs.declared.command.ReplayOptions.{ReplayOptions as Options}
use Rattle.batch_cli.specs.declared.status.Status.{Status}
use Rattle.batch_cli.specs.declared.status.Status.TheVariants.{Done, Memory, Usage, SourceFault, SinkFault, KeeperFault, UnreadableLines, ScriptTooLong}
use Rattle.batch_cli.specs.declared.status.Status.TheVariants.{FormulaError, JournalFull}

-- a desk in order, on its way from one that was opened
pub record Runs {K : Type 0} (told : K → Option State) (faults : K → ℕ) (options : Options) (loaded : Option State) (count : ℕ) (start now : Desk K) : Type 0 where
  pub begins : Begins start options.seats options.limit
  pub opened : IfSome loaded (λ s. start.opened ≡ opening s)
  pub later : count ≤ faults start.keeper
  pub in_order : IsInOrder told faults now

-- what is seen of such a run
abbrev pub seen_of : {K : Type 0} → (K → Option State) → (K → ℕ) → Option State → ℕ → Desk K → Option (List ℕ) → Option (List ℕ) → Observed
seen_of told faults loaded count now before taken =
    record { taken_before = before; taken_now = taken; loaded = loaded; kept = told now.keeper; faults_before = count; faults_now = faults now.keeper }

module _ {K : Type 0} {told : K → Option State} {faults : K → ℕ} {options : Options} {loaded : Option State} {count : ℕ} {start now : Desk K} where
  pub seats_from : Runs told faults options loaded count start now → HasSameOpening start now → now.seats ≡ options.seats
  seats_from r same = same.seats ∙ r.begins.seats_are

  -- what shows a history, from the opened tables
  shown_from : (script : List (List ℕ)) (history : List Entry) → Runs told faults options loaded count start now →
      outputs start.seats 1 script start.limit history start.state ≡ outputs options.seats 1 script options.limit history start.opened
  shown_from script history r =
      ap (λ seats. outputs seats 1 script start.limit history start.state) r.begins.seats_are
      ∙ ap (λ limit. outputs options.seats 1 script limit history start.state) r.begins.limit_is
      ∙ ap (λ s. outputs options.seats 1 script options.limit history s) r.begins.state

  before_from : (script : List (List ℕ)) (history : List Entry) → Runs told faults options loaded count start now →
      outputs_before start.seats script start.limit history start.state ≡ outputs_before options.seats script options.limit history start.opened
  before_from script history r =
      ap (λ seats. outputs_before seats script start.limit history start.state) r.begins.seats_are
      ∙ ap (λ limit. outputs_before options.seats script limit history start.state) r.begins.limit_is
      ∙ ap (λ s. outputs_before options.seats script options.limit history s) r.begins.state

  pub begins_from : Runs told faults options loaded count start now → HasSameOpening start now → BeginsFrom options.seats loaded start.opened
  begins_from r same = record {
    sound = subst (λ seats. IsSound seats start.opened) (seats_from r same) (subst (IsSound now.seats) same.opened r.in_order.begun);
    opening_is = r.opened;
  }

  pub legal_from : Runs told faults options loaded count start now → HasSameOpening start now → IsLegal options.seats start.opened now.entries
  legal_from r same =
      subst (λ seats. IsLegal seats start.opened now.entries) (seats_from r same)
      (subst (λ s. IsLegal now.seats s now.entries) same.opened r.in_order.legal)

  pub laws_from : Runs told faults options loaded count start now → HasSameOpening start now → KeepsLaws options.seats start.opened now.entries
  laws_from r same =
      subst (λ seats. KeepsLaws seats start.opened now.entries) (seats_from r same)
      (subst (λ s. KeepsLaws now.seats s now.entries) same.opened r.in_order.laws)

  -- the tables are those after the history
  pub state_from : Runs told faults options loaded count start now → HasSameOpening start now →
      now.state ≡ after_all options.seats start.opened now.entries
  state_from r same =
      r.in_order.state
      ∙ ap (λ seats. after_all seats now.opened now.entries) (seats_from r same)
      ∙ ap (λ s. after_all options.seats s now.entries) same.opened

  pub kept_from : Runs told faults options loaded count start now → HasSameOpening start now →
      Tells (told now.keeper) (after_all options.seats start.opened now.entries)
  kept_from r same = subst (λ s. Tells (told now.keeper) s) (state_from r same) r.in_order.kept

  pub within_from : Runs told faults options loaded count start now → HasSameOpening start now → length now.entries ≤ options.limit
  within_from r same = omega (arith, r.in_order.within, same.limit, r.begins.limit_is)

  pub counted_from : (by : ℕ) → Runs told faults options loaded count start now → RoseBy by (faults start.keeper) (faults now.keeper) →
      RoseBy by count (faults now.keeper)
  counted_from by r rose = omega (arith, r.later, rose)

  begun_from : (script : List ℕ) (before taken : Option (List ℕ)) → Runs told faults options loaded count start now →
      Part faults start now (lines script) before taken →
      IsBegun options script (seen_of told faults loaded count now before taken)
  begun_from script before taken r p = record {
    opened = start.opened;
    begins = begins_from r p.same;
    history = now.entries;
    legal = legal_from r p.same;
    laws = laws_from r p.same;
    within = within_from r p.same;
    calls = p.calls;
    settled = p.settled;
    written = subst (λ w. GainsBetween before taken w (outputs options.seats 1 (lines script) options.limit now.entries start.opened))
        (before_from (lines script) now.entries r)
        (subst (λ w. GainsBetween before taken (outputs_before start.seats (lines script) start.limit now.entries start.state) w)
        (shown_from (lines script) now.entries r) p.written);
    kept = kept_from r p.same;
    counted = counted_from (fault_count now.entries) r p.rose;
  }

  done_from : {status : Status} (script : List ℕ) (before taken : Option (List ℕ)) → Runs told faults options loaded count start now →
      EndsWith faults start now script before taken status →
      IsDone options script (seen_of told faults loaded count now before taken) status
  done_from {status} script before taken r e =
      let p = e.whole in
      record {
        few = e.few;
        opened = start.opened;
        begins = begins_from r p.same;
        history = now.entries;
        legal = legal_from r p.same;
        laws = laws_from r p.same;
        calls = subst (λ limit. map asked_of now.entries ≡ take limit (calls_of (lines script))) r.begins.limit_is p.calls;
        settled = p.settled;
        written = subst (λ w. Gains before taken w) (shown_from (lines script) now.entries r) p.written;
        kept = kept_from r p.same;
        counted = counted_from (fault_count now.entries) r p.rose;
        ending = subst (λ limit. status ≡ ending_of limit (lines script) now.entries) r.begins.limit_is e.ending;
      }

  pub opened_from : (before taken : Option (List ℕ)) → Runs told faults options loaded count start now → NothingDone start now before taken →
      IsOnlyOpened options (seen_of told faults loaded count now before taken)
  opened_from before taken r d = record {
    opened = start.opened;
    begins = record {
      sound = subst (λ seats. IsSound seats start.opened) r.begins.seats_are (subst (λ (x : Desk K). IsSound x.seats x.opened) d.same r.in_order.begun);
      opening_is = r.opened;
    };
    written = d.written;
    kept = subst (λ s. Tells (told now.keeper) s) (ap (λ (x : Desk K). x.state) d.same ∙ r.begins.state) r.in_order.kept;
  }

  cut_off_from : (script : List ℕ) (before taken : Option (List ℕ)) → Runs told faults options loaded count start now →
      CutOff faults start now script before taken →
      IsCutOff options script (seen_of told faults loaded count now before taken)
  unfolding begun_from
  cut_off_from script before taken r d = record { few = d.few; begun = begun_from script before taken r d.part; settled = d.settled }

  ran_from : (script : List ℕ) (before taken : Option (List ℕ)) (status : Status) → Runs told faults options loaded count start now →
      DeskRan faults start now script before taken status →
      RanWith options script (seen_of told faults loaded count now before taken) status
  ran_from script before taken Usage r d = d
  ran_from script before taken SourceFault r d = opened_from before taken r d
  ran_from script before taken ScriptTooLong r d = (d.0, opened_from before taken r d.1)
  ran_from script before taken SinkFault r d = cut_off_from script before taken r d
  ran_from script before taken Memory r (inl d) = inr (inl (opened_from before taken r d))
  ran_from script before taken Memory r (inr d) = inr (inr (d.0, begun_from script before taken r d.1))
  ran_from script before taken KeeperFault r d = inr (done_from script before taken r d)
  ran_from script before taken JournalFull r d = done_from script before taken r d
  ran_from script before taken UnreadableLines r d = done_from script before taken r d
  ran_from script before taken (FormulaError position) r d = d
  ran_from script before taken Done r d = done_from script before taken r d

-- nothing was called, and nothing written
pub nothing_done : {K : Type 0} (desk : Desk K) (taken : Option (List ℕ)) → NothingDone desk desk taken taken
nothing_done desk taken = record { same = refl; written = gains_nothing taken }

-- of what the source gave
pub ran_opened : {K : Type 0} (told : K → Option State) (faults : K → ℕ) (options : Options) (keeper kept : K) (start now : Desk K)
    (left before taken : Option (List ℕ)) (status : Status) →
    Begins start options.seats options.limit → IfSome (told keeper) (λ s. start.opened ≡ opening s) → faults keeper ≤ faults start.keeper →
    IsInOrder told faults now →
    HoldsOfInput left (λ script. DeskRan faults start now script before taken status) → kept ≡ now.keeper →
    HoldsOfInput left (λ script. RanWith options script (record {
      taken_before = before;
      taken_now = taken;
      loaded = told keeper;
      kept = told kept;
      faults_before = faults keeper;
      faults_now = faults kept;
    }) status)
ran_opened {K} told faults options keeper kept start now left before taken status b o later in_order d back =
    subst (λ k. HoldsOfInput left (λ script. RanWith options script
    (record { taken_before = before; taken_now = taken; loaded = told keeper; kept = told k; faults_before = faults keeper; faults_now = faults k })
    status)) (sym back)
    (input_so d (λ script ran. ran_from {told = told} {faults = faults} {options = options} {loaded = told keeper} {count = faults keeper} {start = start}
    {now = now} script before taken status (record { begins = b; opened = o; later = later; in_order = in_order }) ran))
