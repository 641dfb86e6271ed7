use Rattle.std.proofs.Common.{rules}
use Rattle.xl_smb_locks.proofs.LevelLaws.{leased_told}
use Rattle.xl_smb_locks.proofs.levels.caching_of.Goals as goal

pub returns-in_ok-found-in-Some : goal.returns-in_ok-found-in-Some
returns-in_ok-found-in-Some c =
    leased_told c.args.core.now c.args.number c.args.row.now c.in-Some.key c.party_of-party.result c.in_ok-found-in-Some.found c.lease_found.result (search rules) c.party_of-party.ensures c.in_ok-found-in-Some.ensures.value c.lease_found.ensures
