use Rattle.std.proofs.Common.{◌≡◌, eqb, [], ◌∷◌, refl}
use Rattle.xl_front_smb.specs.Ending.{party_going}
use Rattle.xl_front_smb.specs.Laws.{rows_but, Without}
use Rattle.xl_front_smb.specs.Plans.{Outcome}
use Rattle.xl_front_smb.specs.declared.told.Told.TheVariants.{Closed}
use Rattle.xl_front_smb.proofs.GoneLaws.{done_without, out_one, closes_open, close_lost, close_apart, close_refused}
use Rattle.xl_smb_state.specs.State.{closed}
use Rattle.xl_smb_laws.specs.WaitingRequests.{AreLeft}
use Rattle.xl_front_smb.specs.Ending.{all_dismissed}
use Rattle.xl_smb_laws.proofs.KeptWaiterLaws.{same_left}
use Rattle.xl_smb_laws.proofs.requests.a_close_leaves_nothing.Goals as goal

pub returns-clause-told : goal.returns-clause-told
returns-clause-told c = λ n s files others l conn h client call session place number named at. closes_open n s files others l conn h client (λ (r : Outcome). r.0 ≡ Closed) call session place number named at refl

pub returns-clause-core : goal.returns-clause-core
returns-clause-core c = λ n s files others l conn h client call session place number named at. closes_open n s files others l conn h client (λ (r : Outcome). Without ((number, party_going s.names l number) ∷ []) s r.3) call session place number named at (done_without n ((number, party_going s.names l number) ∷ []) s)

pub returns-clause-opens : goal.returns-clause-opens
returns-clause-opens c = λ n s files others l conn h client call session place number named at distinct. closes_open n s files others l conn h client (λ (r : Outcome). r.2.opens ≡ rows_but (λ e. eqb number e.0) l.opens) call session place number named at (out_one number l.opens distinct.opens)

pub returns-clause-trees : goal.returns-clause-trees
returns-clause-trees c = λ n s files others l conn h client call session place number named at. closes_open n s files others l conn h client (λ (r : Outcome). r.2.trees ≡ l.trees) call session place number named at refl

pub returns-clause-sessions : goal.returns-clause-sessions
returns-clause-sessions c = λ n s files others l conn h client call session place number named at. closes_open n s files others l conn h client (λ (r : Outcome). r.2.sessions ≡ l.sessions) call session place number named at refl

pub returns-clause-connections : goal.returns-clause-connections
returns-clause-connections c = λ n s files others l conn h client call session place number named at. closes_open n s files others l conn h client (λ (r : Outcome). r.2.connections ≡ l.connections) call session place number named at refl

pub returns-clause-unnamed : goal.returns-clause-unnamed
returns-clause-unnamed c = λ n s files others l conn h client call known none. close_lost n s files others l conn h client call known none

pub returns-clause-apart : goal.returns-clause-apart
returns-clause-apart c = λ n s files others l conn h client call session named none. close_apart n s files others l conn h client call session named none

pub returns-clause-refused : goal.returns-clause-refused
returns-clause-refused c = λ n s files others l conn h client call session place named none. close_refused n s files others l conn h client call session place named none

pub returns-clause-waiting : goal.returns-clause-waiting
returns-clause-waiting c = λ n s files others l conn h client call session place number named at good distinct awaited.
    closes_open n s files others l conn h client (λ (r : Outcome). AreLeft (number ∷ []) l (all_dismissed r.1 r.2).1) call session place number named at (same_left n s l good awaited ((number, party_going s.names l number) ∷ []) (closed number l) distinct refl)
