use Rattle.std.proofs.Common.{not}
use Rattle.xl_table.specs.Files.{joined}
use Rattle.xl_table.specs.Leaving.{goes_on}
use Rattle.xl_table.proofs.DropLaws.{fewer_than}
use Rattle.xl_table.proofs.LeavingLaws.{dropping_more, dropping_done}
use Rattle.xl_table.proofs.leaving.drop_by.Goals as goal

pub files-preserved : goal.files-preserved
files-preserved c =
    let now = joined c.files.lists.items in (
      dropping_more c.args.leaver c.args.who c.files.past c.in-Some.file (joined c.args.lists.now.items) now (joined c.drop_on.new.lists.items) c.files.invariant.0 (c.in-Some.ensures now c.files.invariant.2) c.drop_on.ensures.claims,
      c.drop_on.ensures.filed,
      c.drop_on.ensures.index,
      fewer_than (λ x. not (goes_on c.args.leaver c.in-Some.file x)) now (joined c.drop_on.new.lists.items) c.drop_on.ensures.claims c.files.invariant.3,
    )

pub returns-clause-gone : goal.returns-clause-gone
returns-clause-gone c =
    let now = joined c.files.lists.items in
    dropping_done c.args.leaver c.args.who c.files.past (joined c.args.lists.now.items) now c.files.invariant.0 (c.in_default.ensures now c.files.invariant.2)
