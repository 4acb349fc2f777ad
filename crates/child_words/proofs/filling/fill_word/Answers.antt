use Rattle.std.proofs.Common.{◌≡◌, ℕ, true, List, [], ◌∷◌, ◌++◌, length, refl, sym, ap, ◌∙◌, arith}
use Rattle.std.proofs.lemmas.Bool.Decides.{nat_tests}
use Rattle.std.specs.Prelude.{◌==◌}
use Rattle.std.proofs.lemmas.List.{append-nil}
use Rattle.child_words.specs.declared.names.Names.{Names}
use Rattle.child_words.specs.Filling.{fill_word}
use Rattle.child_words.proofs.filling.fill_word.Goals as goal

-- no bytes give nothing
nothing_left : (names : Names) (rest : List ℕ) → (length rest == 0) ≡ true → fill_word names rest ≡ []
unfolding fill_word
nothing_left names [] h = refl
nothing_left names (byte ∷ rest) h = absurd (grind (arith, nat_tests))

pub returns : goal.returns
returns c =
    let done = nothing_left c.args.names.now c.loop-rest.rest.now (sym c.is_empty.ensures ∙ c.loop-rest-test.false) in
    c.new.ensures ∙ sym (append-nil c.loop-rest.filled.items) ∙ ap (λ rest. c.loop-rest.filled.items ++ rest) (sym done) ∙ c.loop-rest.invariant
