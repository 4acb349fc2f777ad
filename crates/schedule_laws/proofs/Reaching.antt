-- Interactions that are run in parts.
use Rattle.std.proofs.Common.{List, [], ◌∷◌, ◌++◌, inl, inr, refl, subst}
use Rattle.batch_desk.specs.Exchanges.{Exchange, Called, Looked}
use Rattle.schedule_rows.specs.Interactions.{Interaction, Ends, Passes, Asks, Looks, Reaches}
use Rattle.schedule_rows.specs.Rows.{Schedule}

-- an interaction is at its start
pub reaches_itself : (c : Interaction) → Reaches c [] c
reaches_itself (Ends rows) = refl
reaches_itself (Passes rows rest) = inl refl
reaches_itself (Asks rows moment event rest) = refl
reaches_itself (Looks rows read rest) = refl

-- a point at which nothing is asked is passed
pub passed : (rows : List Schedule) (rest point : Interaction) (xs : List Exchange) → Reaches rest xs point → Reaches (Passes rows rest) xs point
passed rows rest point [] h = inr h
passed rows rest point (x ∷ xs) h = h

-- exchanges from a point that was reached
pub reaches_on : (c : Interaction) (xs ys : List Exchange) (middle point : Interaction) → Reaches c xs middle → Reaches middle ys point
    → Reaches c (xs ++ ys) point
reaches_on (Ends rows) [] ys middle point h k = subst (λ m. Reaches m ys point) h k
reaches_on (Ends rows) (x ∷ xs) ys middle point h k = absurd h
reaches_on (Passes rows rest) [] ys middle point h k =
    elim h [ inl e ↦ subst (λ m. Reaches m ys point) e k | inr r ↦ passed rows rest point ys (reaches_on rest [] ys middle point r k) ]
reaches_on (Passes rows rest) (x ∷ xs) ys middle point h k = reaches_on rest (x ∷ xs) ys middle point h k
reaches_on (Asks rows moment event rest) [] ys middle point h k = subst (λ m. Reaches m ys point) h k
reaches_on (Asks rows moment event rest) (Called at asked answer ∷ xs) ys middle point h k =
    (h.0, h.1, reaches_on (rest answer) xs ys middle point h.2 k)
reaches_on (Asks rows moment event rest) (Looked read reply ∷ xs) ys middle point h k = absurd h
reaches_on (Looks rows read rest) [] ys middle point h k = subst (λ m. Reaches m ys point) h k
reaches_on (Looks rows read rest) (Called at asked answer ∷ xs) ys middle point h k = absurd h
reaches_on (Looks rows read rest) (Looked asked reply ∷ xs) ys middle point h k = (h.0, reaches_on (rest reply) xs ys middle point h.1 k)
