use Rattle.std.proofs.Common.{◌≡◌, eqb, refl}
use Rattle.xl_smb_state.specs.State.{covers_holder, opens_under}
use Rattle.xl_smb_state.specs.declared.row.Scope.TheVariants as scope
use Rattle.xl_front_smb.specs.Ending.{leavers_under, numbers_under}
use Rattle.xl_front_smb.specs.Laws.{rows_but, IsLeased, Without}
use Rattle.xl_front_smb.specs.Plans.{Outcome}
use Rattle.xl_front_smb.specs.declared.told.Told.TheVariants.{Disconnected}
use Rattle.xl_front_smb.proofs.GoneLaws.{done_without, opens_out, tree_trees, closed_sessions, closed_connections, disconnected, disconnect_lost, disconnect_refused}
use Rattle.xl_smb_state.specs.State.{tree_dropped}
use Rattle.xl_smb_laws.specs.WaitingRequests.{AreLeft}
use Rattle.xl_front_smb.specs.Ending.{all_closed, all_dismissed}
use Rattle.xl_smb_laws.proofs.KeptWaiterLaws.{under_left}
use Rattle.xl_smb_laws.proofs.LeaseKeyLaws.{stay_leased}
use Rattle.xl_smb_laws.proofs.WaitConnectionLaws.{closed_waiting}
use Rattle.xl_smb_laws.proofs.requests.a_tree_disconnect_leaves_nothing.Goals as goal

pub returns-clause-told : goal.returns-clause-told
returns-clause-told c = λ n s files others l conn h client session place named. disconnected n s files others l conn h client (λ (r : Outcome). r.0 ≡ Disconnected) session place named refl

pub returns-clause-core : goal.returns-clause-core
returns-clause-core c = λ n s files others l conn h client session place named. disconnected n s files others l conn h client (λ (r : Outcome). Without (leavers_under s.names (scope.Tree place.tree) l) s r.3) session place named (done_without n (leavers_under s.names (scope.Tree place.tree) l) s)

pub returns-clause-opens : goal.returns-clause-opens
returns-clause-opens c = λ n s files others l conn h client session place named distinct. disconnected n s files others l conn h client (λ (r : Outcome). r.2.opens ≡ rows_but (λ e. covers_holder (scope.Tree place.tree) e.1.holder) l.opens) session place named (opens_out (scope.Tree place.tree) l distinct.opens)

pub returns-clause-trees : goal.returns-clause-trees
returns-clause-trees c = λ n s files others l conn h client session place named distinct. disconnected n s files others l conn h client (λ (r : Outcome). r.2.trees ≡ rows_but (λ e. eqb place.tree e.0) l.trees) session place named (tree_trees l place.tree (opens_under (scope.Tree place.tree) l) distinct)

pub returns-clause-sessions : goal.returns-clause-sessions
returns-clause-sessions c = λ n s files others l conn h client session place named. disconnected n s files others l conn h client (λ (r : Outcome). r.2.sessions ≡ l.sessions) session place named (closed_sessions (opens_under (scope.Tree place.tree) l) l)

pub returns-clause-connections : goal.returns-clause-connections
returns-clause-connections c = λ n s files others l conn h client session place named. disconnected n s files others l conn h client (λ (r : Outcome). r.2.connections ≡ l.connections) session place named (closed_connections (opens_under (scope.Tree place.tree) l) l)

pub returns-clause-unnamed : goal.returns-clause-unnamed
returns-clause-unnamed c = λ n s files others l conn h client known none. disconnect_lost n s files others l conn h client known none

pub returns-clause-refused : goal.returns-clause-refused
returns-clause-refused c = λ n s files others l conn h client session named none. disconnect_refused n s files others l conn h client session named none

pub returns-clause-waiting : goal.returns-clause-waiting
returns-clause-waiting c = λ n s files others l conn h client session place named good distinct awaited.
    disconnected n s files others l conn h client (λ (r : Outcome). AreLeft (numbers_under (scope.Tree place.tree) l) l (all_dismissed r.1 r.2).1) session place named
    (under_left n s l good awaited (scope.Tree place.tree) (tree_dropped place.tree (all_closed (opens_under (scope.Tree place.tree) l) l)) distinct (closed_waiting (opens_under (scope.Tree place.tree) l) l))

pub returns-clause-leases : goal.returns-clause-leases
returns-clause-leases c = λ n s files others l conn h client session place named number made apart leased.
    disconnected n s files others l conn h client (λ (r : Outcome). IsLeased r.2 number made) session place named (stay_leased (opens_under (scope.Tree place.tree) l) number made l apart leased)
