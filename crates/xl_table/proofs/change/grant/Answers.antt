use Rattle.xl_table.specs.Files.{joined}
use Rattle.xl_table.specs.Pages.{paged}
use Rattle.xl_table.proofs.GrantLaws.{kept_here, all_here, short_here, grant_written}
use Rattle.xl_table.proofs.change.grant.Goals as goal

pub grant_on-requires-clause-kept : goal.grant_on-requires-clause-kept
grant_on-requires-clause-kept c = kept_here c.args.claim.now.file (joined c.args.lists.now) (paged c.on_file.result.now) c.requires.kept c.on_file.ensures.claims

pub grant_on-requires-clause-party : goal.grant_on-requires-clause-party
grant_on-requires-clause-party c = all_here c.args.claim.now c.args.claim.now.file (joined c.args.lists.now) (paged c.on_file.result.now) c.requires.party c.on_file.ensures.claims

pub grant_on-requires-clause-count : goal.grant_on-requires-clause-count
grant_on-requires-clause-count c = short_here c.args.claim.now.file (joined c.args.lists.now) (paged c.on_file.result.now) c.args.count c.requires.kept.ordered c.on_file.ensures.claims c.requires.count

pub returns-clause-claims : goal.returns-clause-claims
returns-clause-claims c = (grant_written c.args.claim.now c.args.count (joined c.args.lists.now) (paged c.on_file.result.now) c.in_ok-change.change c.requires.kept c.requires.grantable c.requires.party c.on_file.ensures.claims c.requires.count c.in_ok-change.ensures.claims c.in_ok-change.ensures.on).claims

pub returns-clause-fits : goal.returns-clause-fits
returns-clause-fits c = (grant_written c.args.claim.now c.args.count (joined c.args.lists.now) (paged c.on_file.result.now) c.in_ok-change.change c.requires.kept c.requires.grantable c.requires.party c.on_file.ensures.claims c.requires.count c.in_ok-change.ensures.claims c.in_ok-change.ensures.on).fits
