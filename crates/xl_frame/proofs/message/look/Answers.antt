use Rattle.xl_frame.proofs.Growth.{Resumes-more, seen_short, seen_faulty, seen_last}
use Rattle.xl_frame.proofs.message.look.Goals as goal

pub returns-in-Short-clause-sight : goal.returns-in-Short-clause-sight
returns-in-Short-clause-sight c = seen_short c.args.kind (record { at = c.fragments.at; left = c.fragments.left; sum = c.fragments.sum }) c.args.bytes.now c.fragments.invariant (rw c.behind.ensures at c.in-Short.ensures.value)

pub returns-in-Faulty-clause-sight : goal.returns-in-Faulty-clause-sight
returns-in-Faulty-clause-sight c = seen_faulty c.args.kind (record { at = c.fragments.at; left = c.fragments.left; sum = c.fragments.sum }) c.args.bytes.now c.in-Faulty.fault c.fragments.invariant (rw c.behind.ensures at c.in-Faulty.ensures.value)

pub returns-in-Last-clause-sight : goal.returns-in-Last-clause-sight
returns-in-Last-clause-sight c = seen_last c.args.kind (record { at = c.fragments.at; left = c.fragments.left; sum = c.fragments.sum }) c.args.bytes.now c.in-Last.field-0.now c.in-Last.field-1.now c.fragments.invariant (rw c.behind.ensures at c.in-Last.ensures.value)

pub fragments-preserved : goal.fragments-preserved
fragments-preserved c = Resumes-more c.args.kind (record { at = c.fragments.at; left = c.fragments.left; sum = c.fragments.sum }) c.args.bytes.now c.in-More.body.now c.in-More.field-1.now c.fragments.invariant c.in-More.ensures.more.0 c.in-More.ensures.more.1 (rw c.behind.ensures at c.in-More.ensures.body.0) (rw c.behind.ensures at c.in-More.ensures.body.1) (rw c.behind.ensures at c.in-More.ensures.value)
