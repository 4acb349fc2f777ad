-- The asker of a door over its exchanges.
use Rattle.std.proofs.Common.{◌≡◌, List, [], ◌∷◌, refl, ap, subst, ◌∙◌}
use Rattle.batch_desk.specs.Exchanges.{Exchange, Called, Looked, Leads}
use Rattle.batch_http.specs.Services.{HttpService}
use Rattle.counted_lock.specs.Passes.{LockIdentity}
use Rattle.shared_desk.specs.Openings.{Opening}
use Rattle.shared_desk.specs.Sharing.{Caller}
use Rattle.shared_desk.specs.Askers.{AskerState, IsSharedExchange}

-- an exchange leaves the asker its desk
same_desk : (old new : AskerState) (x : Exchange) → IsSharedExchange old x new → new.desk ≡ old.desk
same_desk old new (Called moment event answer) e = e.0.desk
same_desk old new (Looked read reply) e = e.0.desk

-- all exchanges do
pub desk_stays : (old new : AskerState) (exchanges : List Exchange) → Leads IsSharedExchange old exchanges new → new.desk ≡ old.desk
desk_stays old new [] same = ap (λ a. a.desk) same
desk_stays old new (x ∷ xs) (middle, first, rest) = desk_stays middle new xs rest ∙ same_desk old middle x first

-- an exchange leaves the pass its number
same_number : (old new : AskerState) (x : Exchange) → IsSharedExchange old x new → new.pass.number ≡ old.pass.number
same_number old new (Called moment event answer) e = e.0.number
same_number old new (Looked read reply) e = e.0.number

-- all exchanges do
pub number_stays : (old new : AskerState) (exchanges : List Exchange) → Leads IsSharedExchange old exchanges new → new.pass.number ≡ old.pass.number
number_stays old new [] same = ap (λ a. a.pass.number) same
number_stays old new (x ∷ xs) (middle, first, rest) = number_stays middle new xs rest ∙ same_number old middle x first

-- a service by what it consists of
pub service_is : {C : Type 0} (s : HttpService AskerState C) (desk : LockIdentity Opening) (p : Caller) (c : C) → s.asker.desk ≡ desk → s.asker.pass ≡ p → s.clock ≡ c
    → s ≡ record { asker = record { desk = desk; pass = p }; clock = c }
service_is s desk p c d e k =
    subst (λ z. s ≡ record { asker = record { desk = z; pass = p }; clock = c }) d
    (subst (λ z. s ≡ record { asker = record { desk = s.asker.desk; pass = z }; clock = c }) e
    (subst (λ z. s ≡ record { asker = record { desk = s.asker.desk; pass = s.asker.pass }; clock = z }) k refl))
