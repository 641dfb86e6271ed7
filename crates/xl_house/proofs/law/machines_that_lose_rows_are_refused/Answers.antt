use Rattle.xl_house.proofs.MeantLaws.{always_free_is, cache_kept_is, first_lost_is, renewal_lost_is, owner_kept_is, share_kept_is}
use Rattle.xl_house.proofs.law.machines_that_lose_rows_are_refused.Goals as goal

pub returns-clause-first_lost : goal.returns-clause-first_lost
returns-clause-first_lost c = first_lost_is

pub returns-clause-share_kept : goal.returns-clause-share_kept
returns-clause-share_kept c = share_kept_is

pub returns-clause-delegation_kept : goal.returns-clause-delegation_kept
returns-clause-delegation_kept c = cache_kept_is

pub returns-clause-renewal_lost : goal.returns-clause-renewal_lost
returns-clause-renewal_lost c = renewal_lost_is

pub returns-clause-owner_kept : goal.returns-clause-owner_kept
returns-clause-owner_kept c = owner_kept_is

pub returns-clause-always_free : goal.returns-clause-always_free
returns-clause-always_free c = always_free_is
