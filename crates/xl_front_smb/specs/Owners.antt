-- Whose the deeds of a message are.
use Rattle.std.specs.Prelude.{◌≡◌, ℕ, ◌+◌, Bool, true, false, ◌==◌, ◌⊎◌, List, Option, Some, None}
use Rattle.std.specs.List.{AllByRecursion}
use Rattle.xl_base.specs.Lists.{IsIn}
use Rattle.xl_base.specs.declared.name.Party.{Party}
use Rattle.xl_base.specs.declared.name.Party.TheVariants as parties
use Rattle.xl_names.specs.declared.name.Name.{Name}
use Rattle.xl_smb_state.specs.State.{Lists, client_of, session_of, tree_of, opens_under, waiting_under}
use Rattle.xl_smb_state.specs.declared.row.Open.{Open}
use Rattle.xl_smb_state.specs.declared.row.Scope.{Scope}
use Rattle.xl_smb_state.specs.declared.row.Scope.TheVariants as scope
use Rattle.xl_smb_state.specs.declared.row.Session.{Session}
use Rattle.xl_smb_state.specs.declared.row.Tree.{Tree}
use Rattle.xl_core.specs.Deeds.{Deed, Draws, Closes, Asks, Acks, Cancels}
use Rattle.xl_core.specs.State.{CoreState}
use Rattle.xl_core.specs.declared.ask.Who.{Who}
use Rattle.xl_core.specs.declared.ask.Who.TheVariants as who
use Rattle.xl_smb_locks.specs.Levels.{party_for, party_of, lease_party}
use Rattle.xl_front_smb.specs.Ending.{numbers_under}
use Rattle.xl_front_smb.specs.State.{FrontSmb}

-- a session and a tree connect, as they are found, are on the connection
abbrev pub is_session_on : ℕ → Option Session → Bool
is_session_on conn None = false
is_session_on conn (Some row) = row.connection == conn

abbrev pub is_tree_on : ℕ → Option Tree → Bool
is_tree_on conn None = false
is_tree_on conn (Some row) = row.connection == conn

-- it is the connection, or a session or a tree connect on it
abbrev pub is_on : ℕ → Lists → Scope → Bool
is_on conn l (scope.Connection number) = number == conn
is_on conn l (scope.Session number) = is_session_on conn (session_of number l)
is_on conn l (scope.Tree number) = is_tree_on conn (tree_of number l)

-- the open is under the connection, or under a session or a tree connect on it, or one that a request under it waits to make
abbrev pub IsOpenOn : ℕ → Lists → ℕ → Type 0
IsOpenOn conn l number = (under : Scope) × (is_on conn l under ≡ true) × IsIn number (numbers_under under l)

-- the party is a lease of this client
abbrev pub IsLeaseOf : List Name → Option (List ℕ) → Party → Type 0
IsLeaseOf names None party = ⊥
IsLeaseOf names (Some client) party = (key : List ℕ) × (party ≡ lease_party names client key)

-- the party is an open under the connection, or a lease of the connection's client
abbrev pub IsHolderOn : List Name → ℕ → Lists → Party → Type 0
IsHolderOn names conn l (parties.Open number) = IsIn number (opens_under (scope.Connection conn) l)
IsHolderOn names conn l (parties.Name protocol number) = IsLeaseOf names (client_of conn l) (parties.Name protocol number)

-- the open of this number is new, as the next, or is under the connection
abbrev pub IsAskerOn : ℕ → Lists → ℕ → ℕ → Type 0
IsAskerOn conn l last number = (number ≡ last + 1) ⊎ IsIn number (opens_under (scope.Connection conn) l)

-- the open's row is in the lists, or is of the connection's client
abbrev pub IsRowOn : ℕ → Lists → ℕ → Open → Type 0
IsRowOn conn l number row = IsIn (number, row) l.opens ⊎ (client_of conn l ≡ Some row.client)

-- it asks for such an open, as its own party or as the lease that it is under
abbrev pub IsAskedBy : ℕ → Lists → ℕ → Who → Who → Type 0
IsAskedBy conn l last (who.Open number) party = IsAskerOn conn l last number × (row : Open) × IsRowOn conn l number row × (party ≡ party_for number row)
IsAskedBy conn l last (who.Named name) party = ⊥

-- the party whose caches go with an open is the one that it has by a row of these
abbrev pub IsPartyIn : List Name → List (ℕ × Open) → ℕ → Option Party → Type 0
IsPartyIn names es number None = Unit {0}
IsPartyIn names es number (Some party) = (row : Open) × IsIn (number, row) es × (party ≡ party_of names number row)

-- It draws a number, closes an open under the connection, whose own caches go with it or those of its lease, or one
-- that a request under it waits to make, cancels a request that came by it, answers the break of an oplock of an open
-- under it, or of a lease of its client, or asks for an open under it, or for the open of the next number, which is
-- new, if this was the last one. What is asked is no reclaim, and no record names its client.
abbrev pub IsOwn : List Name → ℕ → Lists → ℕ → Deed → Type 0
IsOwn names conn l last Draws = Unit {0}
IsOwn names conn l last (Closes number party) = IsOpenOn conn l number × IsPartyIn names l.opens number party
IsOwn names conn l last (Asks left a) = IsAskedBy conn l last a.owner a.party × (a.reclaim ≡ false) × (a.monitored ≡ false)
IsOwn names conn l last (Acks cache to) = IsHolderOn names conn l cache.party
IsOwn names conn l last (Cancels id) = IsIn id (waiting_under (scope.Connection conn) l)
IsOwn names conn l last _ = ⊥

-- each deed of a message from a connection, or of its end, is of this kind
abbrev pub AreOwn : FrontSmb → CoreState → ℕ → List Deed → Type 0
AreOwn f s conn deeds = AllByRecursion (IsOwn s.names conn f.state s.counter) deeds

-- an open is closed
abbrev pub is_end : Deed → Bool
is_end (Closes number party) = true
is_end deed = false
