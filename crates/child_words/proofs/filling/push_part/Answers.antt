use Rattle.child_words.proofs.filling.push_part.Goals as goal
use Rattle.std.proofs.Common.{sym, ◌<◌, length, length-drop, arith}
use Rattle.std.proofs.lemmas.List.{take_rest}
use Rattle.child_words.proofs.Parts.{name_long, single_written, named_written}

pub returns-in_ok-push-in-None-clause-filled : goal.returns-in_ok-push-in-None-clause-filled
returns-in_ok-push-in-None-clause-filled c =
    let none = single_written c.args.names.now c.args.filled.now.items c.args.bytes.now c.requires (sym c.in-None.ensures) in
    rw (take_rest c.args.bytes.now 1, c.in_ok-push-in-None.ensures.items) none

pub returns-in_ok-push_named-in-Some-clause-shorter : goal.returns-in_ok-push_named-in-Some-clause-shorter
returns-in_ok-push_named-in-Some-clause-shorter c =
    let long : 0 < length c.text.result.now = rw c.text.ensures (name_long c.in-Some.name) in
    rw (take_rest c.args.bytes.now (length c.text.result.now)) (omega (arith, length-drop (length c.text.result.now) c.args.bytes.now, c.requires))

pub returns-in_ok-push_named-in-Some-clause-filled : goal.returns-in_ok-push_named-in-Some-clause-filled
returns-in_ok-push_named-in-Some-clause-filled c =
    let named = named_written c.args.names.now c.args.filled.now.items c.args.bytes.now c.in-Some.name c.requires (sym c.in-Some.ensures) in
    rw (take_rest c.args.bytes.now (length c.text.result.now), c.text.ensures, c.in_ok-push_named-in-Some.ensures) named
