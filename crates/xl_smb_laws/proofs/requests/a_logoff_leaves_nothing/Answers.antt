use Rattle.std.proofs.Common.{◌≡◌, eqb, refl}
use Rattle.xl_smb_state.specs.State.{covers_holder, opens_under}
use Rattle.xl_smb_state.specs.declared.row.Scope.TheVariants as scope
use Rattle.xl_front_smb.specs.Ending.{leavers_under, numbers_under}
use Rattle.xl_front_smb.specs.Laws.{rows_but, IsLeased, Without}
use Rattle.xl_front_smb.specs.Plans.{Outcome}
use Rattle.xl_front_smb.specs.declared.told.Told.TheVariants.{LoggedOff}
use Rattle.xl_front_smb.proofs.GoneLaws.{done_without, off_opens, off_trees, off_sessions, off_connections, logged_off, logoff_refused}
use Rattle.std.proofs.Common.{◌∙◌}
use Rattle.xl_smb_laws.specs.WaitingRequests.{AreLeft}
use Rattle.xl_front_smb.specs.Ending.{all_closed, all_dismissed, session_gone}
use Rattle.xl_smb_laws.proofs.KeptWaiterLaws.{under_left}
use Rattle.xl_smb_laws.proofs.LeaseKeyLaws.{gone_leases, leased_with, stay_leased}
use Rattle.xl_smb_laws.proofs.WaitConnectionLaws.{closed_waiting, gone_waiting}
use Rattle.xl_smb_laws.proofs.requests.a_logoff_leaves_nothing.Goals as goal

pub returns-clause-told : goal.returns-clause-told
returns-clause-told c = λ n s files others l conn h client session named. logged_off n s files others l conn h client (λ (r : Outcome). r.0 ≡ LoggedOff) session named refl

pub returns-clause-core : goal.returns-clause-core
returns-clause-core c = λ n s files others l conn h client session named. logged_off n s files others l conn h client (λ (r : Outcome). Without (leavers_under s.names (scope.Session session) l) s r.3) session named (done_without n (leavers_under s.names (scope.Session session) l) s)

pub returns-clause-opens : goal.returns-clause-opens
returns-clause-opens c = λ n s files others l conn h client session named distinct. logged_off n s files others l conn h client (λ (r : Outcome). r.2.opens ≡ rows_but (λ e. covers_holder (scope.Session session) e.1.holder) l.opens) session named (off_opens session l distinct)

pub returns-clause-trees : goal.returns-clause-trees
returns-clause-trees c = λ n s files others l conn h client session named distinct. logged_off n s files others l conn h client (λ (r : Outcome). r.2.trees ≡ rows_but (λ e. eqb e.1.session session) l.trees) session named (off_trees session l (opens_under (scope.Session session) l) distinct)

pub returns-clause-sessions : goal.returns-clause-sessions
returns-clause-sessions c = λ n s files others l conn h client session named distinct. logged_off n s files others l conn h client (λ (r : Outcome). r.2.sessions ≡ rows_but (λ e. eqb session e.0) l.sessions) session named (off_sessions session l (opens_under (scope.Session session) l) distinct)

pub returns-clause-connections : goal.returns-clause-connections
returns-clause-connections c = λ n s files others l conn h client session named. logged_off n s files others l conn h client (λ (r : Outcome). r.2.connections ≡ l.connections) session named (off_connections session l (opens_under (scope.Session session) l))

pub returns-clause-refused : goal.returns-clause-refused
returns-clause-refused c = λ n s files others l conn h client known none. logoff_refused n s files others l conn h client known none

pub returns-clause-waiting : goal.returns-clause-waiting
returns-clause-waiting c = λ n s files others l conn h client session named good distinct awaited.
    let closes = all_closed (opens_under (scope.Session session) l) l in
    logged_off n s files others l conn h client (λ (r : Outcome). AreLeft (numbers_under (scope.Session session) l) l (all_dismissed r.1 r.2).1) session named
    (under_left n s l good awaited (scope.Session session) (session_gone session closes) distinct (gone_waiting session closes ∙ closed_waiting (opens_under (scope.Session session) l) l))

pub returns-clause-leases : goal.returns-clause-leases
returns-clause-leases c = λ n s files others l conn h client session named number made apart leased.
    let numbers = opens_under (scope.Session session) l in
    let closes = all_closed numbers l in
    logged_off n s files others l conn h client (λ (r : Outcome). IsLeased r.2 number made) session named
    (leased_with closes (session_gone session closes) number made (gone_leases session closes) (stay_leased numbers number made l apart leased))
