use Rattle.base_tests.proofs.dependency_counts_tests.ready_tasks_are_found_in_the_order_of_adding.Given as goal

-- the ledger is the blank's
abbrev pub ghosts-find_ready : goal.ghosts-find_ready
ghosts-find_ready a = record { name = a.blank.name; parts = a.blank.parts }
