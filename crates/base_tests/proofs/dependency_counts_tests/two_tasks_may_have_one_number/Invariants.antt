use Rattle.base_tests.proofs.dependency_counts_tests.two_tasks_may_have_one_number.Given as goal

-- the ledger is the blank's
abbrev pub ghosts-count_numbers : goal.ghosts-count_numbers
ghosts-count_numbers a = record { name = a.blank.name; parts = a.blank.parts }
