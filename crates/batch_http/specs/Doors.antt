-- The links that a door serves.
use Rattle.std.specs.Prelude.{◌≡◌, ◌≤◌, ◌++◌, ◌∷◌, [], ℕ, Bool, true, false, List, Option}
use Rattle.std.specs.List.{list_any}
use Rattle.bt_base.specs.Causes.{Rose}
use Rattle.batch_desk.specs.Exchanges.{Exchange, Leads}
use Rattle.http_serving.specs.declared.end.End.{End}
use Rattle.http_serving.specs.declared.end.End.TheVariants.{LinkFault, Memory}
use Rattle.batch_http.specs.Services.{HttpService}
use Rattle.batch_http.specs.Connections.{GivesMoments, IsServed}
use Rattle.link_doors.specs.Answers.{has_link}
use Rattle.link_doors.specs.declared.accepted.Accepted.{Accepted}
use Rattle.link_doors.specs.declared.accepted.Accepted.TheVariants.{Link}

-- a door: its service, which is an asker and a clock, and its listener
pub record DoorState (A C N : Type 0) : Type 0 where
  pub service : HttpService A C
  pub listener : N

-- whether a connection ended because memory ran out
abbrev pub is_memory : End → Bool
is_memory Memory = true
is_memory end = false

-- the listener was asked for a link and had none, since it has ended or failed; nothing was served
pub record FindsNone {A C N L : Type 0} (accepted : N → Accepted L → N → Type 0) (old new : DoorState A C N) : Type 0 where
  pub answer : Accepted L
  pub no_link : has_link answer ≡ false
  pub asked : accepted old.listener answer new.listener
  pub same_service : new.service ≡ old.service

module _ {A C N L : Type 0} (exchanged : A → Exchange → A → Type 0) (gives : C → ℕ → C → Type 0)
    (accepted : N → Accepted L → N → Type 0) (taken_back : N → L → N → Type 0)
    (left taken : L → Option (List ℕ)) (faults : L → ℕ) where
  -- the listener gave a link, which was served as a connection with this end, and was then handed back as it was left; its count of
  -- faults did not fall, and rose if the end says that the link failed
  pub record ServesOne (old : DoorState A C N) (end : End) (new : DoorState A C N) : Type 0 where
    pub waiting : N
    pub given : L
    pub handed : L
    pub asked : accepted old.listener (Link given) waiting
    pub served : IsServed exchanged gives old.service new.service (left given) (left handed) (taken given) (taken handed) end
    pub later : faults given ≤ faults handed
    pub fault : end ≡ LinkFault → Rose (faults given) (faults handed)
    pub back : taken_back waiting handed new.listener

  -- links were served one after the other; the ends of their connections, in order
  pub data AreServed : DoorState A C N → List End → DoorState A C N → Type 0 where
    none : (door : DoorState A C N) → AreServed door [] door
    more : (old middle new : DoorState A C N) (ends : List End) (end : End)
        → AreServed old ends middle → ServesOne middle end new → AreServed old (ends ++ end ∷ []) new

  -- the exchanges of all these links, joined in order
  abbrev pub exchanges_of : {old new : DoorState A C N} {ends : List End} → AreServed old ends new → List Exchange
  exchanges_of (none door) = []
  exchanges_of (more old middle new ends end before one) = exchanges_of before ++ one.served.made.exchanges

  -- links were served one after the other; whether one of their connections ended because memory ran out
  pub record HasServed (old new : DoorState A C N) (met_memory : Bool) : Type 0 where
    pub ends : List End
    pub links : AreServed old ends new
    pub memory : met_memory ≡ list_any is_memory ends

  -- links were served one after the other, and then the listener had none; the exchanges of all these links lead the asker from its
  -- old state to its new one, and the clock gave the moments of the calls among them, in order, and no other
  pub record ServesAll (old new : DoorState A C N) (met_memory : Bool) : Type 0 where
    pub last : DoorState A C N
    pub so_far : HasServed old last met_memory
    pub end : FindsNone accepted last new
    pub leads : Leads exchanged old.service.asker (exchanges_of so_far.links) new.service.asker
    pub moments : GivesMoments gives old.service.clock (exchanges_of so_far.links) new.service.clock
