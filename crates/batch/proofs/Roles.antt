-- Roles of workers that are added to others.
use Rattle.std.proofs.Common.{◌≡◌, ℕ, zero, suc, ◌+◌, ◌-◌, max, List, [], ◌∷◌, ◌++◌, map, replicate, append_assoc, append-nil, sym, ap, ◌∙◌, arith}
use Rattle.std.specs.List.{repeat}
use Rattle.std.proofs.lemmas.List.{replicate_more}
use Rattle.std.proofs.lemmas.List.FromFn.{map-range_with_len_more}
use Rattle.batch.specs.Crew.{LaneOf, DoorRole, lanes_to}

-- what was added to what was made before is added to where both began
pub grown : {X : Type 0} {new old : List X} (start made more : List X) {all : List X}
    → new ≡ old ++ more → old ≡ start ++ made → made ++ more ≡ all → new ≡ start ++ all
grown start made more n o a = n ∙ ap (λ l. l ++ more) o ∙ append_assoc start made more ∙ ap (λ l. start ++ l) a

-- a lane at one seat more
pub lanes_more : (n : ℕ) → lanes_to n ++ LaneOf (n + 1) ∷ [] ≡ lanes_to (n + 1)
lanes_more n = sym (map-range_with_len_more LaneOf 1 n (n + 1) (omega arith))

turned : {X : Type 0} (n : ℕ) (xs : List X) → repeat n xs ++ xs ≡ xs ++ repeat n xs
turned zero xs = sym (append-nil xs)
turned (suc n) xs = append_assoc xs (repeat n xs) xs ∙ ap (λ l. xs ++ l) (turned n xs)

-- one round more
pub rounds_more : {X : Type 0} (n : ℕ) (xs : List X) → repeat n xs ++ xs ≡ repeat (n + 1) xs
rounds_more n xs =
    let e : suc n ≡ n + 1 = omega arith in
    turned n xs ∙ ap (λ k. repeat k xs) e

-- the last door beside the others
pub doors_more : (doors others : ℕ) → others ≡ doors - 1 → replicate others DoorRole ++ DoorRole ∷ [] ≡ replicate (max 1 doors) DoorRole
doors_more doors others o =
    let e : others + 1 ≡ max 1 doors = omega arith in
    replicate_more others DoorRole ∙ ap (λ k. replicate k DoorRole) e

-- lanes, then the timer, then doors, each added to those before
pub crew_made : {W X : Type 0} (role : W → X) (lanes doors : List X) {timer worker : X} {none : List W} {first second third : List X}
    → first ≡ map role none ++ lanes → second ≡ first ++ worker ∷ [] → worker ≡ timer → third ≡ second ++ doors
    → none ≡ [] → third ≡ lanes ++ timer ∷ doors
crew_made role lanes doors {timer} {worker} f s w t n =
    t
    ∙ ap (λ l. l ++ doors) (s ∙ ap (λ l. l ++ worker ∷ []) (f ∙ ap (λ l. map role l ++ lanes) n) ∙ ap (λ x. lanes ++ x ∷ []) w)
    ∙ append_assoc lanes (timer ∷ []) doors
