-- How connections, sessions, tree connects and opens begin, and the numbers that they have (MS-SMB2 3.3.5.4, 3.3.5.5,
-- 3.3.5.7).
use Rattle.std.specs.Prelude.{◌≡◌, ◌≤◌, ◌==◌, ℕ, Bool, true, false, List, Some}
use Rattle.std.specs.List.{AllByRecursion}
use Rattle.xl_smb.specs.Calls.{CallItem, Negotiate}
use Rattle.xl_smb_state.specs.State.{Lists, client_of, connection_of}

-- Each session, tree connect and open has a number that was given out, of which the last is this; and so has each open
-- that a request waits for, or waits to make.
pub record AreNumbered (last : ℕ) (l : Lists) : Type 0 where
  pub sessions : AllByRecursion (λ e. e.0 ≤ last) l.sessions
  pub trees : AllByRecursion (λ e. e.0 ≤ last) l.trees
  pub opens : AllByRecursion (λ e. e.0 ≤ last) l.opens
  pub waiting : AllByRecursion (λ e. e.1.opened ≤ last) l.waiting

-- the connection is of this client; each other one is as it was, and so is all else
pub record IsNegotiated (l : Lists) (conn : ℕ) (client : List ℕ) (m : Lists) : Type 0 where
  pub client_is : client_of conn m ≡ Some client
  pub others : (other : ℕ) → other == conn ≡ false → connection_of other m ≡ connection_of other l
  pub rest : m ≡ record l { connections = m.connections }

abbrev pub is_negotiate : CallItem → Bool
is_negotiate (Negotiate c) = true
is_negotiate call = false
