use Rattle.xl_cache.proofs.PartyLaws.{kept_kind, joined_kind}
use Rattle.xl_cache.proofs.law.kinds_go_by_party.Goals as goal

pub returns-clause-broken : goal.returns-clause-broken
returns-clause-broken c = kept_kind

pub returns-clause-joined : goal.returns-clause-joined
returns-clause-joined c = joined_kind
