use Rattle.std.proofs.Common.{refl, rules}
use Rattle.xl_nfs_opens.proofs.OwnerLaws.{kinds_fit}
use Rattle.xl_nfs_opens.proofs.shares.share_ask.Goals as goal

pub returns-clause-fit : goal.returns-clause-fit
returns-clause-fit c = record { act = tt; own = refl; party = search rules; wish = kinds_fit c.in_ok-id.id c.args.wish c.in_ok-kinds.kinds (search rules) }
