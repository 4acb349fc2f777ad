-- Input that ends inside the target of a request.
use Rattle.std.specs.Prelude.{◌≡◌, ◌<◌, ℕ, ◌⊎◌, List, length}
use Rattle.httparse.specs.Grammar.{EndsInTarget}
use Rattle.http_head.specs.declared.heads.TheConstants.{HEAD_LIMIT}
use Rattle.http_serving.specs.declared.end.End.{End}
use Rattle.http_serving.specs.declared.end.End.TheVariants.{Truncated}
use Rattle.http_serving.specs.Reading.{AllowsEnd, IsFault}

-- bytes within the limit of a head that end inside a target, whatever bytes it has, allow Truncated, and no other end but a fault
abbrev pub TargetsAreTruncated : Type 0
TargetsAreTruncated =
    (bytes : List ℕ) → EndsInTarget bytes → length bytes < HEAD_LIMIT
    → AllowsEnd bytes Truncated × ((end : End) → AllowsEnd bytes end → (end ≡ Truncated) ⊎ IsFault end)
