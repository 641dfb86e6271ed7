-- What NFSv4's front remembers and what the core holds are tied (RFC 7530 9.1.4, 9.1.8, 9.5, 10.4).
use Rattle.xl_nfs_laws.specs.AnsweredStateids.{LockersCloseNothing}
use Rattle.xl_nfs_laws.specs.Delegated.{AreClients, AreDelegated, AreShut}
use Rattle.xl_nfs_laws.specs.Leased.{AreLeased}
use Rattle.xl_nfs_laws.specs.Orderly.{IsOrderly}
use Rattle.xl_nfs_laws.specs.StateidNumbers.{AreGivenOut}
use Rattle.xl_house.specs.State.{Whole}

-- No two owners have one number, and no two stateids one number or one place; a stateid is its owner's, who is its client's, and an
-- open is closed exactly if its owner's last request closed it (orderly), which no owner of locks did (lockers). Each stateid has a
-- number that was given out (numbers), what was closed by a request too, and is an open (closed). No two confirmed clients have one
-- number or one id string (clients), and a client has a lease exactly if its record is confirmed (leases). And each client has on each
-- file just the delegation that its cache there is: if it has a cache its record is confirmed and it has a stateid for that, and if it
-- has such a stateid it has the cache, both of one kind (delegations).
pub record IsNfsTied (s : Whole) : Type 0 where
  pub orderly : IsOrderly s.front.nfs.state
  pub lockers : LockersCloseNothing s.front.nfs.state
  pub numbers : AreGivenOut s.core.counter s.front.nfs.state
  pub closed : AreShut s.core.counter s.front.nfs.state.stateids s.front.nfs.state.owners
  pub clients : AreClients s.core.counter s.front.nfs.state.clients
  pub leases : AreLeased s.core s.front.nfs.state
  pub delegations : AreDelegated s.core s.front.nfs.state
