use Rattle.std.proofs.Common.{rules, Some, ◌≡◌, sym, refl, subst, inl, inr}
use Rattle.std.specs.Prelude.{IfSome}
use Rattle.cli_words.specs.Commands.{command_of}
use Rattle.batch_serve.specs.Serving.{serve_options, IsOpenedFor}
use Rattle.batch_serve.proofs.Outcomes.{unopened_is}
use Rattle.batch_serve.proofs.Promises.{promises}
use Rattle.batch_serve.proofs.Statuses.{within_limit, listen_says, memory_says, full_says, done_says}
use Rattle.batch_serve.proofs.serving.serve_words.Goals as goal

pub returns-in-Err-clause-served : goal.returns-in-Err-clause-served
returns-in-Err-clause-served g c = unopened_is _ _ _ _ _ _ _ refl refl c.unopened.ensures.journal (inl c.unopened.ensures.status)

pub returns-in-Some-clause-opened : goal.returns-in-Some-clause-opened
returns-in-Some-clause-opened g c =
    let is : serve_options (command_of c.args.words.now) ≡ Some c.in-Some.options = search rules in
    subst (λ z. IfSome c.serve.result.journal (λ j. IfSome z (λ options. IsOpenedFor options (g.K.Keeper.told c.args.keeper) j))) (sym is) c.serve.ensures.opened

pub returns-in-None-clause-served : goal.returns-in-None-clause-served
returns-in-None-clause-served g c = let left = c.unopened-in-None.ensures in unopened_is _ _ _ _ _ _ _ refl refl left.journal (inr (inl left.status))

pub returns-in-Some-clause-promises : goal.returns-in-Some-clause-promises
returns-in-Some-clause-promises g c = promises _ _ _ _ _ c.serve.ensures.served

pub returns-in-Err-clause-memory : goal.returns-in-Err-clause-memory
returns-in-Err-clause-memory g c is = memory_says _ _ _ _ _ (returns-in-Err-clause-served g c) is

pub returns-in-None-clause-memory : goal.returns-in-None-clause-memory
returns-in-None-clause-memory g c is = memory_says _ _ _ _ _ (returns-in-None-clause-served g c) is

pub returns-in-Some-clause-listen_fault : goal.returns-in-Some-clause-listen_fault
returns-in-Some-clause-listen_fault g c is = listen_says _ _ _ _ _ c.serve.ensures.served is

pub returns-in-Some-clause-memory : goal.returns-in-Some-clause-memory
returns-in-Some-clause-memory g c is = memory_says _ _ _ _ _ c.serve.ensures.served is

pub returns-in-Some-clause-journal_full : goal.returns-in-Some-clause-journal_full
returns-in-Some-clause-journal_full g c is = full_says _ _ _ _ _ c.serve.ensures.served (within_limit _ _ _ _ c.serve.ensures.kept) is

pub returns-in-Some-clause-done : goal.returns-in-Some-clause-done
returns-in-Some-clause-done g c is = done_says _ _ _ _ _ c.serve.ensures.served is
