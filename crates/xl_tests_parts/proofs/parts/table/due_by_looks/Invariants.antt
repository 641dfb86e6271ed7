use Rattle.xl_tests_parts.proofs.parts.table.due_by_looks.Given as goal

abbrev pub ghosts-counted_due : goal.ghosts-counted_due
ghosts-counted_due a = record { name = a.blank.name; parts = a.blank.parts }
