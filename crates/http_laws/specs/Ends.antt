-- Two ends that the same bytes allow.
use Rattle.std.specs.Prelude.{◌≡◌, ℕ, ◌⊎◌, List, take}
use Rattle.http_head.specs.declared.heads.TheConstants.{HEAD_LIMIT}
use Rattle.http_head.specs.Heads.{NeverHasHead, HasManyFields}
use Rattle.http_serving.specs.declared.end.End.{End}
use Rattle.http_serving.specs.Reading.{AllowsEnd, IsFault}

-- no head can come, and more fields than the limit have come, so that either of two ends is right
abbrev pub IsInDoubt : List ℕ → Type 0
IsInDoubt bytes = NeverHasHead bytes × HasManyFields (take HEAD_LIMIT bytes)

-- they are the same, or one is a fault, or the bytes are in doubt
abbrev pub Agree : List ℕ → End → End → Type 0
Agree bytes e f = (e ≡ f) ⊎ ((IsFault e ⊎ IsFault f) ⊎ IsInDoubt bytes)

abbrev pub EndsAgree : Type 0
EndsAgree = (bytes : List ℕ) (e f : End) → AllowsEnd bytes e → AllowsEnd bytes f → Agree bytes e f
