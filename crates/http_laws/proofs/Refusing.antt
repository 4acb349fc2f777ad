-- Heads with a field `Origin`.
use Rattle.std.proofs.Common.{◌≡◌, ℕ, true, List, refl, sym, ap, ◌∙◌, inl, inr}
use Rattle.httparse.specs.Grammar.{RequestHead}
use Rattle.http_serving.specs.declared.end.End.{End}
use Rattle.http_serving.specs.Reading.{names_origin}
use Rattle.http_laws.proofs.Agreeing.{ByBody, bad, refused, too_long, short, fault, out_of_memory, by_body}
use Rattle.http_laws.proofs.Telling.{same_head, tells_apart}
use Rattle.http_laws.specs.Origins.{IsRefusal, OriginsAreRefused, OnlyOriginsAreRefused}

refusal : {h : RequestHead} {rest : List ℕ} {e : End} → names_origin h ≡ true → ByBody h rest e → IsRefusal e
refusal o (bad x) = inr (inl refl)
refusal o (refused x) = inl refl
refusal o (too_long x) = absurd (tells_apart o x.no_origin)
refusal o (short n x p less) = absurd (tells_apart o p)
refusal o (fault x) = inr (inr tt)
refusal o (out_of_memory x) = inr (inr tt)

pub origins_are_refused : OriginsAreRefused
origins_are_refused bytes h rest x o = (
  (λ k body tail m. tells_apart o (ap names_origin (same_head x m.begins).0 ∙ m.no_origin)),
  (λ end s. refusal o (by_body end x s)),
)

pub only_origins : OnlyOriginsAreRefused
only_origins bytes h rest x (k, after, b, f) = ap names_origin (same_head x b).0 ∙ f.origin
