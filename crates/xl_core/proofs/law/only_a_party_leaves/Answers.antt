use Rattle.xl_core.proofs.SettleLaws.{cancel_is, cancel_names, give_back_is, party_claims, party_waiters, open_claims, open_waiters}
use Rattle.xl_core.proofs.law.only_a_party_leaves.Goals as goal

pub returns-clause-cancelled : goal.returns-clause-cancelled
returns-clause-cancelled c = cancel_is

pub returns-clause-named : goal.returns-clause-named
returns-clause-named c = cancel_names

pub returns-clause-given_back : goal.returns-clause-given_back
returns-clause-given_back c = give_back_is

pub returns-clause-claims : goal.returns-clause-claims
returns-clause-claims c = party_claims

pub returns-clause-waiters : goal.returns-clause-waiters
returns-clause-waiters c = party_waiters

pub returns-clause-opened : goal.returns-clause-opened
returns-clause-opened c = open_claims

pub returns-clause-locking : goal.returns-clause-locking
returns-clause-locking c = open_waiters
