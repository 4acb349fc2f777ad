-- Links that are served one after the other.
use Rattle.std.proofs.Common.{◌≡◌, ℕ, Bool, false, List, [], ◌∷◌, ◌++◌, ◌||◌, Option, refl, sym, ap, ◌∙◌, subst}
use Rattle.std.specs.List.{list_any}
use Rattle.std.proofs.Math.Bool.{or-false}
use Rattle.std.proofs.lemmas.List.Folds.{list_any-append}
use Rattle.batch_desk.specs.Exchanges.{Exchange, Called, Looked, Leads}
use Rattle.http_serving.specs.declared.end.End.{End}
use Rattle.batch_http.specs.Connections.{GivesMoments}
use Rattle.link_doors.specs.declared.accepted.Accepted.{Accepted}
use Rattle.batch_http.specs.Doors.{DoorState, is_memory, FindsNone, ServesOne, AreServed, none, more, exchanges_of, HasServed, ServesAll}

-- exchanges lead an asker on from where others have led it
lead_on : {A : Type 0} (exchanged : A → Exchange → A → Type 0) (old middle new : A) (xs ys : List Exchange)
    → Leads exchanged old xs middle → Leads exchanged middle ys new → Leads exchanged old (xs ++ ys) new
lead_on exchanged old middle new [] ys same rest = subst (λ a. Leads exchanged a ys new) same rest
lead_on exchanged old middle new (x ∷ xs) ys (next, first, later) rest = (next, first, lead_on exchanged next middle new xs ys later rest)

-- a clock gives the moments of exchanges, and then those of others
give_on : {C : Type 0} (gives : C → ℕ → C → Type 0) (old middle new : C) (xs ys : List Exchange)
    → GivesMoments gives old xs middle → GivesMoments gives middle ys new → GivesMoments gives old (xs ++ ys) new
give_on gives old middle new [] ys same rest = subst (λ c. GivesMoments gives c ys new) same rest
give_on gives old middle new (Called moment event answer ∷ xs) ys (next, first, later) rest = (next, first, give_on gives next middle new xs ys later rest)
give_on gives old middle new (Looked read shown ∷ xs) ys later rest = give_on gives old middle new xs ys later rest

-- whether memory ran out in one of several connections and one more
met_on : (met also : Bool) (ends : List End) (end : End) → met ≡ list_any is_memory ends → also ≡ is_memory end
    → (met || also) ≡ list_any is_memory (ends ++ end ∷ [])
met_on met also ends end h k =
    ap (λ b. b || also) h ∙ ap (λ b. list_any is_memory ends || b) (k ∙ sym (or-false (is_memory end))) ∙ sym (list_any-append is_memory ends (end ∷ []))

module _ {A C N L : Type 0} (exchanged : A → Exchange → A → Type 0) (gives : C → ℕ → C → Type 0)
    (accepted : N → Accepted L → N → Type 0) (taken_back : N → L → N → Type 0)
    (left taken : L → Option (List ℕ)) (faults : L → ℕ) where
  abbrev Links : DoorState A C N → List End → DoorState A C N → Type 0
  Links old ends new = AreServed exchanged gives accepted taken_back left taken faults old ends new

  abbrev joined : (old new : DoorState A C N) (ends : List End) → Links old ends new → List Exchange
  joined old new ends links = exchanges_of exchanged gives accepted taken_back left taken faults links

  -- the exchanges of all links lead the asker
  led : (old new : DoorState A C N) (ends : List End) (links : Links old ends new)
      → Leads exchanged old.service.asker (joined old new ends links) new.service.asker
  led old new ends (none door) = refl
  led old new ends (more from middle to before end links one) =
      lead_on exchanged from.service.asker middle.service.asker to.service.asker (joined from middle before links) one.served.made.exchanges
      (led from middle before links) one.served.made.leads

  -- the clock gave their moments
  given : (old new : DoorState A C N) (ends : List End) (links : Links old ends new)
      → GivesMoments gives old.service.clock (joined old new ends links) new.service.clock
  given old new ends (none door) = refl
  given old new ends (more from middle to before end links one) =
      give_on gives from.service.clock middle.service.clock to.service.clock (joined from middle before links) one.served.made.exchanges
      (given from middle before links) one.served.made.moments

  abbrev Has : DoorState A C N → DoorState A C N → Bool → Type 0
  Has old new met = HasServed exchanged gives accepted taken_back left taken faults old new met

  pub nothing : (door : DoorState A C N) → Has door door false
  nothing door = record { ends = []; links = none door; memory = refl }

  -- one link more
  pub one_more : (old middle new : DoorState A C N) (met also : Bool) (end : End) → Has old middle met → also ≡ is_memory end
      → ServesOne exchanged gives accepted taken_back left taken faults middle end new → Has old new (met || also)
  one_more old middle new met also end so_far k one = record {
    ends = so_far.ends ++ end ∷ [];
    links = more old middle new so_far.ends end so_far.links one;
    memory = met_on met also so_far.ends end so_far.memory k;
  }

  -- no link more
  pub all : (old last new : DoorState A C N) (met : Bool) → Has old last met → FindsNone accepted last new
      → ServesAll exchanged gives accepted taken_back left taken faults old new met
  all old last new met so_far end =
      let exchanges = joined old last so_far.ends so_far.links in
      let same = sym end.same_service in
      record {
        last = last;
        so_far = so_far;
        end = end;
        leads = subst (λ s. Leads exchanged old.service.asker exchanges s.asker) same (led old last so_far.ends so_far.links);
        moments = subst (λ s. GivesMoments gives old.service.clock exchanges s.clock) same (given old last so_far.ends so_far.links);
      }
