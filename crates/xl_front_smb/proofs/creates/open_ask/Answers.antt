use Rattle.std.proofs.Common.{ap, ◌∙◌}
use Rattle.xl_front_smb.specs.Files.{choices_by}
use Rattle.xl_smb.specs.Creates.{shown_create_call}
use Rattle.xl_front_smb.proofs.AskLaws.{asks_open}
use Rattle.xl_front_smb.proofs.creates.open_ask.Goals as goal

pub returns-clause-open : goal.returns-clause-open
returns-clause-open c =
    asks_open c.args.conn c.args.number c.args.row.now (shown_create_call c.args.call.now) c.party_for.result c.access_of-access.result c.deny_of-deny.result c.in_ok-wish.wish c.party_for.ensures (c.in_ok-wish.ensures ∙ ap (choices_by c.args.call.now.oplock_level) c.lease_asked.ensures) c.requires
