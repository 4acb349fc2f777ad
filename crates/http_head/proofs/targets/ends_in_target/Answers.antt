use Rattle.std.proofs.Common.{◌+◌, true, false, sym, ap, ◌∙◌, arith}
use Rattle.std.specs.List.{list_all}
use Rattle.std.proofs.lemmas.Bool.{false≢true}
use Rattle.std.proofs.lemmas.List.{take_rest}
use Rattle.httparse.specs.Grammar.{is_uri_byte}
use Rattle.http_head.proofs.TargetEnds.{no_target_before, no_target_of, no_target_after, target_after}
use Rattle.http_head.proofs.targets.ends_in_target.Goals as goal

pub returns-then-at-buf-clause-no : goal.returns-then-at-buf-clause-no
returns-then-at-buf-clause-no c = λ same. no_target_before c.args.buf.now c.before_space-at.result c.before_space-at.ensures.count (omega (arith, c.if-at-buf.true))

pub returns-in-Partial-clause-yes : goal.returns-in-Partial-clause-yes
returns-in-Partial-clause-yes c = λ all.
    let buf = c.args.buf.now in
    let at = c.before_space-at.result in
    target_after buf at c.before_space-at.ensures.count (omega (arith, c.if-at-buf.false, c.before_space-at.ensures.within)) c.in-Partial.ensures.1
    (ap (list_all is_uri_byte) (sym (take_rest buf (at + 1))) ∙ sym c.are_of_target.ensures ∙ all)

pub returns-in-Partial-clause-no : goal.returns-in-Partial-clause-no
returns-in-Partial-clause-no c = λ none.
    let buf = c.args.buf.now in
    let at = c.before_space-at.result in
    no_target_of buf at c.before_space-at.ensures.count (ap (list_all is_uri_byte) (sym (take_rest buf (at + 1))) ∙ sym c.are_of_target.ensures ∙ none)

pub returns-in_default : goal.returns-in_default
returns-in_default c = record {
  yes = λ e. absurd (false≢true e);
  no = λ same. no_target_after c.args.buf.now c.before_space-at.result c.ask_parser.result c.before_space-at.ensures.count c.ask_parser.ensures c.in_default.not-Partial;
}
