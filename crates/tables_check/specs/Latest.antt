-- Labels of samples, one after another.
use Rattle.std.specs.Prelude.{ℕ, Bool, true, nat_lt, List, filter, Option}
use Rattle.std.specs.Option.{option_map_or}
use Rattle.row_keys.specs.Passes.{has_key}
use Rattle.batch_model.specs.Samples.{last_label}
use Rattle.batch_model.specs.Variants.{SampleRow}
use Rattle.tables_check.specs.RowKeys.{metric_key}

-- above the label before it, if there is one
abbrev pub is_above : Option ℕ → ℕ → Bool
is_above before label = option_map_or (λ one. nat_lt one label) before true

-- the last label of the samples whose pool and metric have this text
abbrev pub latest : List ℕ → List SampleRow → Option ℕ
latest text samples = last_label (filter (has_key metric_key text) samples)
