-- Numbers of names.
use Rattle.std.specs.Prelude.{ℕ, List, Option, Some, if◌then◌else◌}
use Rattle.std.specs.BTreeMap.{get_by}
use Rattle.std.specs.Cmp.Lexicographic.{slice_cmp}
use Rattle.std.specs.Ordering.{nat_cmp}
use Rattle.std.specs.Str.{bytes_eq}
use Rattle.name_index.specs.declared.index.NameIndex.{NameIndex}

-- the number of a name in an index
abbrev pub number_of : NameIndex → List ℕ → Option ℕ
number_of index name = get_by (λ k. slice_cmp nat_cmp name k.items) index.numbers

-- the numbers, of which this name has this one
abbrev pub with_number : (List ℕ → Option ℕ) → List ℕ → ℕ → List ℕ → Option ℕ
with_number numbers name number other = if bytes_eq name other then Some number else numbers other
