-- What a history holds after any samples.
use Rattle.std.specs.Prelude.{◌≡◌, ℕ, Bool, List, [], ◌∷◌, ◌++◌, nat_lt, if◌then◌else◌}
use Rattle.std.specs.List.{list_all}
use Rattle.bt_samples.specs.declared.history.Sample.{Sample}
use Rattle.bt_samples.specs.Histories.{last_kept, pushed}

-- the history after these samples were pushed, one by one
abbrev pub pushed_all : List Sample → List Sample → List Sample
pushed_all history [] = history
pushed_all history (sample ∷ samples) = pushed_all (pushed history sample) samples

-- a sample was taken before this label
abbrev pub is_before : ℕ → Sample → Bool
is_before label sample = nat_lt sample.label label

-- the samples that are taken after earlier ones: each whose label is greater than those of all samples before it
abbrev pub taken_after : List Sample → List Sample → List Sample
taken_after earlier [] = []
taken_after earlier (sample ∷ samples) =
    if list_all (is_before sample.label) earlier then sample ∷ taken_after (earlier ++ (sample ∷ [])) samples
    else taken_after (earlier ++ (sample ∷ [])) samples

-- an empty history to which any samples were pushed holds the last 2,880 of those that are taken
abbrev pub HoldsTheLastTaken : Type 0
HoldsTheLastTaken = (samples : List Sample) → pushed_all [] samples ≡ last_kept (taken_after [] samples)
