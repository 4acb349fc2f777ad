-- What a service is asked, and what it may have done without a response.
use Rattle.std.specs.Prelude.{◌≡◌, ℕ, ◌⊎◌, List}
use Rattle.http_serving.specs.declared.response.Response.{Response}

-- a request, as a service sees it: the bytes of its method, of its target and of its body
pub record Request : Type 0 where
  pub method : List ℕ
  pub target : List ℕ
  pub body : List ℕ

-- a service without memory for a response is as it was, or it answered and the response is lost
abbrev pub LosesResponse : {S : Type 0} → (S → Request → Response → S → Type 0) → Request → S → S → Type 0
LosesResponse answers request old new = (new ≡ old) ⊎ ((response : Response) × answers old request response new)
