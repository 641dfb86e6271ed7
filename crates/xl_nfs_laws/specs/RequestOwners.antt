-- Whose deeds those of a request are: of each operation, of the clients that it names; and whose leases it renews.
use Rattle.std.specs.Prelude.{◌≡◌, ℕ, Bool, true, false, List, [], ◌∷◌, Option, Some, None, option_map}
use Rattle.std.specs.List.{find}
use Rattle.std.specs.Option.{option_and_then}
use Rattle.xl_base.specs.Lists.{IsIn}
use Rattle.xl_base.specs.declared.journal.Exports.{Exports}
use Rattle.xl_nfs.specs.Ops.{OpItem, SetClientIdConfirm}
use Rattle.xl_nfs_state.specs.State.{NfsLists, is_client}
use Rattle.xl_nfs_state.specs.declared.client.ClientRow.{ClientRow}
use Rattle.xl_programs.specs.Programs.{RequestItem}
use Rattle.xl_core.specs.Deeds.{Renews}
use Rattle.xl_core.specs.State.{CoreState}
use Rattle.xl_front_nfs.specs.Clients.{confirmed_by}
use Rattle.xl_front_nfs.specs.FrontNfs.{Called, Compound, call_in}
use Rattle.xl_core.specs.Ids.{number_in}
use Rattle.xl_plan.specs.Plans.{deeds_of, carried}
use Rattle.xl_nfs_opens.specs.Owners.{Names, AreBy}
use Rattle.xl_front_nfs.specs.State.{FrontNfs}
use Rattle.xl_front_nfs.specs.Steps.{Step, Runs, Course, begun, step_plan, goes_on}

-- ---- whose leases are renewed

-- the first record, if there is one, else the second
abbrev pub else_row : Option ClientRow → Option ClientRow → Option ClientRow
else_row None held = held
else_row (Some r) held = Some r

-- the record that a SETCLIENTID_CONFIRM with this verifier means: the unconfirmed one that it confirms, else the confirmed one
abbrev pub row_meant : NfsLists → List ℕ → ℕ → Option ClientRow
row_meant l verifier number = else_row (confirmed_by verifier (find (is_client number false) l.clients)) (find (is_client number true) l.clients)

-- The operation is to renew the lease of the client of this id string: of each confirmed client that it names by a clientid or by a
-- live stateid, and SETCLIENTID_CONFIRM of the one whose record it means (RFC 7530 9.5) (NFS-13).
abbrev pub IsToRenew : CoreState → NfsLists → OpItem → List ℕ → Type 0
IsToRenew s l (SetClientIdConfirm a) id = option_map (λ r. r.id) (option_and_then (λ number. row_meant l a.verifier number) (number_in s a.clientid)) ≡ Some id
IsToRenew s l op id = Names s l op id

-- ---- whose deeds they are

-- an operation's deeds are of the clients that it names, and they renew those that it renews; if its arguments can't be
-- read it has none
abbrev pub IsTheirs : List (List ℕ) → ℕ → ℕ → Course → CoreState → NfsLists → Step → Type 0
IsTheirs files others n c s l (Runs op) =
    AreBy n s (Names s l op) (deeds_of n s (step_plan files others c s l (Runs op))) × ((id : List ℕ) → IsToRenew s l op id → IsIn (Renews id) (deeds_of n s (step_plan files others c s l (Runs op))))
IsTheirs files others n c s l step = deeds_of n s (step_plan files others c s l step) ≡ []

-- if others are run behind it
abbrev pub IfMore : Bool → Type 0 → Type 0
IfMore true Rest = Rest
IfMore false Rest = Unit {0}

-- each in the state that those before it left
abbrev pub AreAllTheirs : List (List ℕ) → ℕ → ℕ → Course → CoreState → NfsLists → List Step → Type 0
AreAllTheirs files others n c s l [] = Unit {0}
AreAllTheirs files others n c s l (step ∷ steps) =
    IsTheirs files others n c s l step
    × IfMore (goes_on (carried n s l (step_plan files others c s l step)).0)
    (AreAllTheirs files others n (carried n s l (step_plan files others c s l step)).0 (carried n s l (step_plan files others c s l step)).3 (carried n s l (step_plan files others c s l step)).2 steps)

abbrev pub AreTheirsBy : ℕ → List (List ℕ) → ℕ → FrontNfs → CoreState → Called → Type 0
AreTheirsBy n files others f s (Compound tag steps) = AreAllTheirs files others n begun s f.state steps
AreTheirsBy n files others f s called = Unit {0}

-- a request's deeds are of the clients that its operations name, and each of these is renewed
abbrev pub AreTheirs : ℕ → Exports → ℕ → FrontNfs → CoreState → RequestItem → Type 0
AreTheirs n exports others f s r = AreTheirsBy n exports.files others f s (call_in r)
