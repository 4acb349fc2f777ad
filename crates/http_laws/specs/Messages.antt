-- The bytes tell the message at their front.
use Rattle.std.specs.Prelude.{◌≡◌, ℕ, ◌⊎◌, true, List}
use Rattle.httparse.specs.Grammar.{RequestHead}
use Rattle.http_serving.specs.declared.connection.TheConstants.{MESSAGE_LIMIT}
use Rattle.http_serving.specs.declared.end.End.{End}
use Rattle.http_serving.specs.Reading.{HasMessage, AllowsEnd, IsFault}
use Rattle.http_serving.specs.Connection.{Position, EndsAt}

-- bytes begin with one message at most
abbrev pub OneMessage : Type 0
OneMessage =
    (bytes : List ℕ) (h k : RequestHead) (body content rest tail : List ℕ)
    → HasMessage bytes h body rest → HasMessage bytes k content tail → (h ≡ k) × (body ≡ content) × (rest ≡ tail)

-- if they begin with one, they allow no end but a fault
abbrev pub OnlyFaultsBeforeMessage : Type 0
OnlyFaultsBeforeMessage =
    (bytes : List ℕ) (h : RequestHead) (body rest : List ℕ) (end : End) → HasMessage bytes h body rest → AllowsEnd bytes end → IsFault end

-- if a message is left where a connection ends, a fault came, or its last request asked for the end, or it has no more requests
abbrev pub MessagesAreAnswered : Type 0 → Type 0
MessagesAreAnswered S =
    (p : Position S) (end : End) (h : RequestHead) (body rest : List ℕ)
    → EndsAt p end → HasMessage p.left h body rest → IsFault end ⊎ ((p.asked ≡ true) ⊎ (p.answered ≡ MESSAGE_LIMIT))
