use Rattle.xl_tests_parts.proofs.parts.table.blockers_by_looks.Given as goal

abbrev pub ghosts-counted_blockers : goal.ghosts-counted_blockers
ghosts-counted_blockers a = record { name = a.blank.name; parts = a.blank.parts }
