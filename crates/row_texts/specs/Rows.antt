-- Rows of all tables as texts.
use Rattle.std.specs.Prelude.{ℕ, List, [], ◌∷◌, Option, Result, Ok, nat_eq}
use Rattle.std.specs.List.{find}
use Rattle.serde_json.specs.Data.{Data}
use Rattle.bt_base.specs.Fails.{◌>>=◌}
use Rattle.row_fields.specs.declared.fault.RowFault.{RowFault}
use Rattle.row_fields.specs.Fields.{or_not_a_row}
use Rattle.row_texts.specs.declared.row.Row.{Row}
use Rattle.row_texts.specs.declared.row.Row.TheVariants as rows
use Rattle.row_texts.specs.declared.row.RowKind.{RowKind}
use Rattle.row_texts.specs.declared.row.RowKind.TheVariants as kinds
use Rattle.row_texts.specs.Texts.{row_in_text}
use Rattle.row_texts.specs.Pools.{pool_data, pool_in}
use Rattle.row_texts.specs.Nodes.{node_data, node_in}
use Rattle.row_texts.specs.Jobs.{job_data, job_in}
use Rattle.row_texts.specs.Tasks.{task_data, task_in}
use Rattle.row_texts.specs.Runs.{run_data, run_in}
use Rattle.row_texts.specs.Preps.{prep_data, prep_in}
use Rattle.row_texts.specs.Samples.{sample_data, sample_in}
use Rattle.row_texts.specs.Scales.{scale_data, scale_in}

-- the number of a kind of rows
abbrev pub kind_number : RowKind → ℕ
kind_number kinds.Pool = 1
kind_number kinds.Node = 2
kind_number kinds.Job = 3
kind_number kinds.Task = 4
kind_number kinds.Run = 5
kind_number kinds.Prep = 6
kind_number kinds.Sample = 7
kind_number kinds.Scale = 8

-- all kinds, in the order of their numbers
abbrev pub all_kinds : List RowKind
all_kinds =
    kinds.Pool ∷ kinds.Node ∷ kinds.Job ∷ kinds.Task ∷ kinds.Run ∷ kinds.Prep ∷ kinds.Sample ∷ kinds.Scale ∷ []

-- the kind of this number
abbrev pub kind_of_number : ℕ → Option RowKind
kind_of_number number = find (λ kind. nat_eq number (kind_number kind)) all_kinds

-- the kind of a row
abbrev pub kind_of : Row → RowKind
kind_of (rows.Pool row) = kinds.Pool
kind_of (rows.Node row) = kinds.Node
kind_of (rows.Job row) = kinds.Job
kind_of (rows.Task row) = kinds.Task
kind_of (rows.Run row) = kinds.Run
kind_of (rows.Prep row) = kinds.Prep
kind_of (rows.Sample row) = kinds.Sample
kind_of (rows.Scale row) = kinds.Scale

-- the JSON of a row
abbrev pub row_data : Row → Data
row_data (rows.Pool row) = pool_data row
row_data (rows.Node row) = node_data row
row_data (rows.Job row) = job_data row
row_data (rows.Task row) = task_data row
row_data (rows.Run row) = run_data row
row_data (rows.Prep row) = prep_data row
row_data (rows.Sample row) = sample_data row
row_data (rows.Scale row) = scale_data row

-- the row of this kind that the text is
abbrev pub row_of_kind : RowKind → List ℕ → Result Row RowFault
row_of_kind kinds.Pool text = row_in_text pool_in text >>= λ row. Ok (rows.Pool row)
row_of_kind kinds.Node text = row_in_text node_in text >>= λ row. Ok (rows.Node row)
row_of_kind kinds.Job text = row_in_text job_in text >>= λ row. Ok (rows.Job row)
row_of_kind kinds.Task text = row_in_text task_in text >>= λ row. Ok (rows.Task row)
row_of_kind kinds.Run text = row_in_text run_in text >>= λ row. Ok (rows.Run row)
row_of_kind kinds.Prep text = row_in_text prep_in text >>= λ row. Ok (rows.Prep row)
row_of_kind kinds.Sample text = row_in_text sample_in text >>= λ row. Ok (rows.Sample row)
row_of_kind kinds.Scale text = row_in_text scale_in text >>= λ row. Ok (rows.Scale row)

-- the row of the kind of this number that the text is
abbrev pub row_of : ℕ → List ℕ → Result Row RowFault
row_of kind text = or_not_a_row (kind_of_number kind) >>= λ k. row_of_kind k text
