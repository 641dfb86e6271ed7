use Rattle.xl_table.proofs.listing.list_blockers.Given as goal

abbrev pub ghosts-list_blockers_by : goal.ghosts-list_blockers_by
ghosts-list_blockers_by a = record { name = a.blank.name; parts = a.blank.parts }
