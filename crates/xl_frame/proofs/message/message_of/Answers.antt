use Rattle.std.proofs.Common.{◌+◌, ◌≤◌, length, drop, arith, inl, inr}
use Rattle.std.proofs.lemmas.List.{length-drop}
use Rattle.xl_frame.specs.Frames.{front_of}
use Rattle.xl_frame.proofs.Growth.{read_more, read_last, read_short, read_faulty}
use Rattle.xl_frame.proofs.message.message_of.Goals as goal

pub fragments-preserved : goal.fragments-preserved
fragments-preserved c =
    let place : 4 + length c.in-More.body.now ≤ length (drop c.fragments.at c.args.bytes.now) = rw c.behind.ensures at c.in-More.ensures.body.0 in
    record {
      within = omega (arith, c.fragments.invariant.within, length-drop c.fragments.at c.args.bytes.now);
      sum = c.in-More.ensures.more.1;
      message = rw c.in_ok-extend_from_slice-in-More.ensures.items (read_more c.args.kind c.fragments.at c.fragments.left c.fragments.sum c.args.bytes.now c.fragments.message.items c.in-More.body.now c.in-More.field-1.now (front_of c.args.kind c.args.bytes.now) c.fragments.invariant.message c.in-More.ensures.more.0 (rw c.behind.ensures at c.in-More.ensures.body.1) (rw c.behind.ensures at c.in-More.ensures.value));
    }

pub returns-in-Last-clause-message : goal.returns-in-Last-clause-message
returns-in-Last-clause-message c = rw c.in_ok-extend_from_slice-in-Last.ensures.items (read_last c.args.kind c.fragments.at c.fragments.left c.fragments.sum c.args.bytes.now c.fragments.message.items c.in-Last.end.now c.in-Last.field-1.now (front_of c.args.kind c.args.bytes.now) c.fragments.invariant.message (rw c.behind.ensures at c.in-Last.ensures.body.1) (rw c.behind.ensures at c.in-Last.ensures.value))

pub unreachable-requires : goal.unreachable-requires
unreachable-requires c =
    let value = rw c.behind.ensures at c.fragment_at.ensures.value in
    elim c.in-Short.is [
      | inl short ↦ read_short c.args.kind c.fragments.at c.fragments.left c.fragments.sum c.args.bytes.now c.fragments.message.items (front_of c.args.kind c.args.bytes.now) c.fragments.invariant.message c.requires (rw short at value)
      | inr faulty ↦ read_faulty c.args.kind c.fragments.at c.fragments.left c.fragments.sum c.args.bytes.now c.fragments.message.items faulty.0 (front_of c.args.kind c.args.bytes.now) c.fragments.invariant.message c.requires (rw faulty.1 at value)
    ]
