use Rattle.xl_tests_parts.proofs.parts.spans.mode_by_looks.Given as goal

abbrev pub ghosts-counted_mode : goal.ghosts-counted_mode
ghosts-counted_mode a = record { name = a.blank.name; parts = a.blank.parts }
