-- The node that leaves before the others is kept by going once over the nodes.
use Rattle.std.proofs.Common.{◌≡◌, ℕ, Bool, true, false, ◌&&◌, ◌||◌, nat_eq, nat_lt, List, [], ◌∷◌, Option, Some, None, cond, filter, refl, sym, ◌∙◌, ap, arith}
use Rattle.std.proofs.lemmas.Grind.{common_steps}
use Rattle.batch_model.specs.Dues.{leaves_before}
use Rattle.batch_model.specs.Finding.{best}
use Rattle.batch_model.specs.Nodes.{stays}
use Rattle.batch_model.specs.Slots.{held_slots}
use Rattle.batch_model.specs.Variants.{State, NodeRow}
use Rattle.model_lists.proofs.BestRows.{leading, leading_joined, best_first_row}
use Rattle.pool_resize.specs.LeavingFirst.{ahead, first_from, is_ahead}

-- fewer held slots, or as many and a higher number
abbrev before : (held node other_held other : ℕ) → Bool
before held node other_held other = nat_lt held other_held || (nat_eq held other_held && nat_lt other node)

before_all : (x a y b z c : ℕ) → before y b x a ≡ true → before z c y b ≡ true → before z c x a ≡ true
before_all x a y b z c h k = grind (arith, common_steps)

not_before_all : (x a y b z c : ℕ) → before y b x a ≡ false → before z c y b ≡ false → before z c x a ≡ false
not_before_all x a y b z c h k = grind (arith, common_steps)

module _ (s : State) where
  nodes_joined : (a b c : Option NodeRow) → leading (leaves_before s) (leading (leaves_before s) a b) c ≡ leading (leaves_before s) a (leading (leaves_before s) b c)
  nodes_joined =
      leading_joined (leaves_before s)
      (λ a b c h k. before_all (held_slots s a.number) a.number (held_slots s b.number) b.number (held_slots s c.number) c.number h k)
      (λ a b c h k. not_before_all (held_slots s a.number) a.number (held_slots s b.number) b.number (held_slots s c.number) c.number h k)

  same_leading : (a b : Option NodeRow) → ahead s a b ≡ leading (leaves_before s) a b
  same_leading None b = refl
  same_leading (Some a) None = refl
  same_leading (Some a) (Some b) = refl

  none_later : (o : Option NodeRow) → ahead s o None ≡ o
  none_later None = refl
  none_later (Some node) = refl

  -- the one so far leaves first once no node is left
  pub none_left : (pool : List ℕ) (so_far : Option NodeRow) → first_from s pool so_far [] ≡ so_far
  none_left pool so_far = none_later so_far

  module _ (pool : List ℕ) (node : NodeRow) (rest : List NodeRow) where
    -- that of the nodes that are left
    abbrev later : Option NodeRow
    later = best (leaves_before s) (filter (stays pool) rest)

    -- a node that does not stay changes nothing
    pub passed_over : (so_far : Option NodeRow) → stays pool node ≡ false → first_from s pool so_far rest ≡ first_from s pool so_far (node ∷ rest)
    passed_over so_far h =
        ap (λ b. ahead s so_far (best (leaves_before s) (cond b (node ∷ filter (stays pool) rest) (filter (stays pool) rest)))) (sym h)

    -- one that stays is compared with the one so far
    in_front : (so_far : Option NodeRow) → stays pool node ≡ true → first_from s pool so_far (node ∷ rest) ≡ leading (leaves_before s) (leading (leaves_before s) so_far (Some node)) later
    in_front so_far h =
        ap (λ b. ahead s so_far (best (leaves_before s) (cond b (node ∷ filter (stays pool) rest) (filter (stays pool) rest)))) h
        ∙ ap (ahead s so_far) (best_first_row (leaves_before s) node (filter (stays pool) rest))
        ∙ same_leading so_far (leading (leaves_before s) (Some node) later)
        ∙ sym (nodes_joined so_far (Some node) later)

    now_ahead : (so_far : Option NodeRow) → is_ahead s so_far node ≡ true → leading (leaves_before s) so_far (Some node) ≡ Some node
    now_ahead None h = refl
    now_ahead (Some other) h = rw h refl

    still_ahead : (so_far : Option NodeRow) → is_ahead s so_far node ≡ false → leading (leaves_before s) so_far (Some node) ≡ so_far
    still_ahead None h = cc
    still_ahead (Some other) h = rw h refl

    -- one that leaves before it is the one from then on
    pub taken : (so_far : Option NodeRow) → stays pool node ≡ true → is_ahead s so_far node ≡ true → first_from s pool (Some node) rest ≡ first_from s pool so_far (node ∷ rest)
    taken so_far h k =
        sym
        (in_front so_far h
        ∙ ap (λ o. leading (leaves_before s) o later) (now_ahead so_far k)
        ∙ sym (same_leading (Some node) later))

    -- and any other changes nothing
    pub kept_back : (so_far : Option NodeRow) → stays pool node ≡ true → is_ahead s so_far node ≡ false → first_from s pool so_far rest ≡ first_from s pool so_far (node ∷ rest)
    kept_back so_far h k =
        sym
        (in_front so_far h
        ∙ ap (λ o. leading (leaves_before s) o later) (still_ahead so_far k)
        ∙ sym (same_leading so_far later))
