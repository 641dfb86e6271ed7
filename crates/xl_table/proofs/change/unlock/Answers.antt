use Rattle.xl_table.specs.Files.{joined}
use Rattle.xl_table.specs.Pages.{paged}
use Rattle.xl_table.proofs.GrantLaws.{kept_here, all_here, short_here, unlock_written}
use Rattle.xl_table.proofs.change.unlock.Goals as goal

pub relock-requires-clause-kept : goal.relock-requires-clause-kept
relock-requires-clause-kept c = kept_here c.args.ask.now.file (joined c.args.lists.now) (paged c.on_file-pages.result.now) c.requires.kept c.on_file-pages.ensures.claims

pub relock-requires-clause-party : goal.relock-requires-clause-party
relock-requires-clause-party c = all_here c.args.ask.now c.args.ask.now.file (joined c.args.lists.now) (paged c.on_file-pages.result.now) c.requires.party c.on_file-pages.ensures.claims

pub relock-requires-clause-count : goal.relock-requires-clause-count
relock-requires-clause-count c = short_here c.args.ask.now.file (joined c.args.lists.now) (paged c.on_file-pages.result.now) c.args.count c.requires.kept.ordered c.on_file-pages.ensures.claims c.requires.count

pub returns-clause-claims : goal.returns-clause-claims
returns-clause-claims c = (unlock_written c.args.ask.now c.args.first c.args.last c.args.count (joined c.args.lists.now) (paged c.on_file-pages.result.now) c.in_ok-change.change c.requires.kept c.requires.posix c.requires.range c.requires.ends c.requires.party c.on_file-pages.ensures.claims c.requires.count c.in_ok-change.ensures.claims c.in_ok-change.ensures.on).claims

pub returns-clause-fits : goal.returns-clause-fits
returns-clause-fits c = (unlock_written c.args.ask.now c.args.first c.args.last c.args.count (joined c.args.lists.now) (paged c.on_file-pages.result.now) c.in_ok-change.change c.requires.kept c.requires.posix c.requires.range c.requires.ends c.requires.party c.on_file-pages.ensures.claims c.requires.count c.in_ok-change.ensures.claims c.in_ok-change.ensures.on).fits
