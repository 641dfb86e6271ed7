use Rattle.std.proofs.Common.{[], ◌∷◌}
use Rattle.xl_smb_state.specs.declared.row.Scope.TheVariants as scope
use Rattle.xl_front_smb.specs.Ending.{leavers_under, party_going}
use Rattle.xl_front_smb.specs.Laws.{Without}
use Rattle.xl_front_smb.specs.Plans.{Outcome}
use Rattle.xl_front_smb.proofs.GoneLaws.{closes_open, disconnected, done_without, end_without, logged_off}
use Rattle.xl_smb_laws.specs.OpenRights.{LeavesNothing}
use Rattle.xl_smb_laws.proofs.NothingHeldLaws.{closed_leaves, nothing_left}
use Rattle.xl_smb_laws.proofs.ending.nothing_is_held_of_what_ended.Goals as goal

pub returns-clause-logoff : goal.returns-clause-logoff
returns-clause-logoff c = λ n s files others l conn h client session named sound.
    let under = scope.Session session in
    logged_off n s files others l conn h client (λ (r : Outcome). LeavesNothing s.names under l r.3) session named (nothing_left s.names under l s _ sound (done_without n (leavers_under s.names under l) s))

pub returns-clause-disconnect : goal.returns-clause-disconnect
returns-clause-disconnect c = λ n s files others l conn h client session place named sound.
    let under = scope.Tree place.tree in
    disconnected n s files others l conn h client (λ (r : Outcome). LeavesNothing s.names under l r.3) session place named (nothing_left s.names under l s _ sound (done_without n (leavers_under s.names under l) s))

pub returns-clause-ends : goal.returns-clause-ends
returns-clause-ends c = λ f s conn sound. nothing_left s.names (scope.Connection conn) f.state s _ sound (end_without f s conn)

pub returns-clause-closed : goal.returns-clause-closed
returns-clause-closed c = λ n s files others l conn h client call session place number claim named at here own.
    closed_leaves number (party_going s.names l number) s _ claim
    (closes_open n s files others l conn h client (λ (r : Outcome). Without ((number, party_going s.names l number) ∷ []) s r.3) call session place number named at (done_without n ((number, party_going s.names l number) ∷ []) s))
    here own
