-- Heads with a field `Origin`, as a browser sends with the requests of a page.
use Rattle.std.specs.Prelude.{◌≡◌, ℕ, ◌⊎◌, true, List}
use Rattle.httparse.specs.Grammar.{RequestHead}
use Rattle.http_serving.specs.declared.end.End.{End}
use Rattle.http_serving.specs.declared.end.End.TheVariants.{OriginRefused, BadFraming}
use Rattle.http_serving.specs.Reading.{BeginsWith, HasMessage, AllowsEnd, IsFault, names_origin}

-- the end of a head with `Origin`: its refusal, or that of faulty fields, or a fault
abbrev pub IsRefusal : End → Type 0
IsRefusal end = (end ≡ OriginRefused) ⊎ ((end ≡ BadFraming) ⊎ IsFault end)

-- if bytes begin with a head with `Origin`, they begin with no message, and allow no other end
abbrev pub OriginsAreRefused : Type 0
OriginsAreRefused =
    (bytes : List ℕ) (h : RequestHead) (rest : List ℕ) → BeginsWith bytes h rest → names_origin h ≡ true
    → ((k : RequestHead) (body tail : List ℕ) → ¬ HasMessage bytes k body tail)
    × ((end : End) → AllowsEnd bytes end → IsRefusal end)

-- if they begin with a head and allow this end, the head has an `Origin`
abbrev pub OnlyOriginsAreRefused : Type 0
OnlyOriginsAreRefused =
    (bytes : List ℕ) (h : RequestHead) (rest : List ℕ) → BeginsWith bytes h rest → AllowsEnd bytes OriginRefused
    → names_origin h ≡ true
