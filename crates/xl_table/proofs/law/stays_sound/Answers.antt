use Rattle.xl_table.proofs.KeptLaws.{sound_removed}
use Rattle.xl_table.proofs.InsertLaws.{sound_inserted, sound_inserted_other, sound_changed_other, spans_of-inserted_own, spans_of-inserted_apart}
use Rattle.xl_table.proofs.law.stays_sound.Goals as goal

pub returns-clause-entered : goal.returns-clause-entered
returns-clause-entered c = sound_inserted

pub returns-clause-others : goal.returns-clause-others
returns-clause-others c = sound_inserted_other

pub returns-clause-changed : goal.returns-clause-changed
returns-clause-changed c = sound_changed_other

pub returns-clause-taken : goal.returns-clause-taken
returns-clause-taken c = sound_removed

pub returns-clause-spans : goal.returns-clause-spans
returns-clause-spans c = spans_of-inserted_own

pub returns-clause-apart : goal.returns-clause-apart
returns-clause-apart c = spans_of-inserted_apart
