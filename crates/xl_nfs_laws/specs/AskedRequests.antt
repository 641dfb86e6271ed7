-- What a request asks for is its own (RFC 7530 9.6.2, 16.2, 16.10 to 16.12, 16.16): each operation asks for what it says, on the
-- file that it names by the current handle, and reclaims only if it says so. It asks as a confirmed client, with its verifier.
use Rattle.std.specs.Prelude.{◌≡◌, ℕ, Bool, true, false, List, [], ◌∷◌, ◌++◌, Option, Some}
use Rattle.std.specs.List.{AllByRecursion, find}
use Rattle.std.specs.Option.{option_and_then}
use Rattle.xl_base.specs.declared.journal.Exports.{Exports}
use Rattle.xl_base.specs.declared.stable.Mark.TheVariants.{Verifier}
use Rattle.xl_matrix.specs.declared.claim.Extent.TheVariants.{Bytes}
use Rattle.xl_names.specs.declared.name.Name.TheVariants.{NfsParty}
use Rattle.xl_nfs.specs.Ops.{OpItem, Open, Close, Lock, LockT, LockU}
use Rattle.xl_nfs_state.specs.State.{NfsLists, is_client}
use Rattle.xl_nfs_state.specs.declared.client.ClientRow.{ClientRow}
use Rattle.xl_programs.specs.Programs.{RequestItem}
use Rattle.xl_wait.specs.Waiting.{no_rows}
use Rattle.xl_wait.specs.declared.waiter.Rooms.{Rooms}
use Rattle.xl_core.specs.Deeds.{Deed, Asks}
use Rattle.xl_core.specs.State.{CoreState}
use Rattle.xl_core.specs.declared.ask.Act.{Act}
use Rattle.xl_core.specs.declared.ask.Act.TheVariants as acts
use Rattle.xl_core.specs.declared.ask.Ask.{Ask}
use Rattle.xl_core.specs.declared.ask.Who.TheVariants.{Named}
use Rattle.xl_plan.specs.Plans.{carried}
use Rattle.xl_nfs_opens.specs.Asks.{all_ones}
use Rattle.xl_nfs_opens.specs.Opens.{all_rooms, file_claimed, reclaims, rights_of}
use Rattle.xl_nfs_locks.specs.Ranges.{is_exclusive, last_byte}
use Rattle.xl_front_nfs.specs.FrontNfs.{Called, Compound, call_in}
use Rattle.xl_front_nfs.specs.State.{FrontNfs}
use Rattle.xl_front_nfs.specs.Steps.{Step, Runs, Course, begun, step_plan, goes_on}

-- the file that an operation is on: that of the current handle, or the one that an OPEN claims there
abbrev pub file_of : List (List ℕ) → Option ℕ → OpItem → Option ℕ
file_of files current (Open a) = option_and_then (λ at. file_claimed files at a.claim) current
file_of files current op = current

-- the operation says that it reclaims: OPEN by CLAIM_PREVIOUS, LOCK by its argument
abbrev pub says_reclaim : OpItem → Bool
says_reclaim (Open a) = reclaims a.claim
says_reclaim (Lock a) = a.reclaim
says_reclaim op = false

-- The bytes that a range names.
abbrev pub IsRange : ℕ → ℕ → (ℕ → Act) → Act → Type 0
IsRange offset len by act = (last : ℕ) × (last_byte offset len ≡ Some last) × (act ≡ by last)

-- What it asks for: OPEN the access and the deny that it says, LOCK, LOCKT and LOCKU the range that they say, CLOSE that the
-- locks under the open go. No other operation asks.
abbrev pub IsAct : OpItem → Act → Type 0
IsAct (Open a) act = act ≡ acts.Share (rights_of a.access) (rights_of a.deny)
IsAct (Close a) act = act ≡ acts.Unlock (Bytes 0 all_ones)
IsAct (Lock a) act = IsRange a.offset a.len (λ last. acts.Ranges ((Bytes a.offset last, is_exclusive a.kind) ∷ [])) act
IsAct (LockT a) act = IsRange a.offset a.len (λ last. acts.Test (Bytes a.offset last) (is_exclusive a.kind)) act
IsAct (LockU a) act = IsRange a.offset a.len (λ last. acts.Unlock (Bytes a.offset last)) act
IsAct op act = ⊥

-- An operation's ask: for what it says, on its file, and a reclaim exactly if it says so. Its client is to be recorded before a
-- grant (9.6.3), it never waits, and of the fronts' tables it adds to none, so that no room of theirs turns it away: the front
-- has counted before.
pub record IsItsAsk (files : List (List ℕ)) (current : Option ℕ) (op : OpItem) (left : Rooms) (a : Ask) : Type 0 where
  pub file : file_of files current op ≡ Some a.file
  pub act : IsAct op a.act
  pub reclaim : a.reclaim ≡ says_reclaim op
  pub monitored : a.monitored ≡ true
  pub blocking : a.blocking ≡ false
  pub awaits : a.awaits ≡ false
  pub room : left ≡ all_rooms
  pub rows : a.rows ≡ no_rows

-- It is of a confirmed client: in the name of its record, with the verifier there, which changes if the client starts anew. So the
-- client is recorded with that one, and reclaims with it once the server has started anew (9.1.1, 9.6.3).
pub record IsOfClient (clients : List ClientRow) (a : Ask) : Type 0 where
  pub number : ℕ
  pub client : ClientRow
  pub found : find (is_client number true) clients ≡ Some client
  pub party : a.party ≡ Named (NfsParty client.id)
  pub mark : a.mark ≡ Some (Verifier client.details.verifier)

-- if a deed is an ask
abbrev pub IsAskedBy : List (List ℕ) → List ClientRow → Option ℕ → OpItem → Deed → Type 0
IsAskedBy files clients current op (Asks left a) = IsItsAsk files current op left a × IsOfClient clients a
IsAskedBy files clients current op deed = Unit {0}

-- so are an operation's asks, by the current handle and the clients that those before it left; if its arguments can't be read it
-- does nothing
abbrev pub IsAsking : List (List ℕ) → Course → List ClientRow → Step → List Deed → Type 0
IsAsking files c clients (Runs op) deeds = AllByRecursion (λ d. IsAskedBy files clients c.current op d) deeds
IsAsking files c clients step deeds = deeds ≡ []

-- the first if others are run behind it, else the second
abbrev pub IfRun : Bool → Type 0 → Type 0 → Type 0
IfRun true Rest None = Rest
IfRun false Rest None = None

-- These are the deeds of operations in order, each in the state that those before it left, and none once one has failed.
abbrev pub AreAllAsking : List (List ℕ) → ℕ → ℕ → Course → CoreState → NfsLists → List Step → List Deed → Type 0
AreAllAsking files others n c s l [] deeds = deeds ≡ []
AreAllAsking files others n c s l (step ∷ steps) deeds =
    (own : List Deed) × (rest : List Deed) × (deeds ≡ own ++ rest) × IsAsking files c l.clients step own
    × IfRun (goes_on (carried n s l (step_plan files others c s l step)).0)
    (AreAllAsking files others n (carried n s l (step_plan files others c s l step)).0 (carried n s l (step_plan files others c s l step)).3 (carried n s l (step_plan files others c s l step)).2 steps rest)
    (rest ≡ [])

abbrev pub AreAskingBy : ℕ → List (List ℕ) → ℕ → FrontNfs → CoreState → Called → List Deed → Type 0
AreAskingBy n files others f s (Compound tag steps) deeds = AreAllAsking files others n begun s f.state steps deeds
AreAskingBy n files others f s called deeds = deeds ≡ []

-- so they are those of a request
abbrev pub AreRequestAsks : ℕ → Exports → ℕ → FrontNfs → CoreState → RequestItem → List Deed → Type 0
AreRequestAsks n exports others f s r deeds = AreAskingBy n exports.files others f s (call_in r) deeds
