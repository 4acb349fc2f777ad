use Rattle.std.proofs.Common.{◌+◌, ◌∷◌, take, sym, ap, ◌∙◌}
use Rattle.std.specs.List.{slice_split}
use Rattle.std.proofs.lemmas.List.{take_rest}
use Rattle.http_head.specs.Items.{is_comma}
use Rattle.http_head.proofs.Splits.{parts_at}
use Rattle.http_head.proofs.items.split_first.Goals as goal

pub returns-in-Some-clause-parts : goal.returns-in-Some-clause-parts
returns-in-Some-clause-parts c =
    let text = c.args.text.now in
    let at = c.in-Some.at in
    (parts_at is_comma text _ (sym c.in-Some.is ∙ c.first_comma.ensures)).0
    ∙ ap (λ rest. take at text ∷ slice_split is_comma rest) (sym (take_rest text (at + 1)))

pub returns-in-None-clause-parts : goal.returns-in-None-clause-parts
returns-in-None-clause-parts c = parts_at is_comma c.args.text.now _ (sym c.in-None.is ∙ c.first_comma.ensures)
