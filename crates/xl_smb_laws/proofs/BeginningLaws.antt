-- How connections, sessions and tree connects begin, and what is refused before a command.
use Rattle.std.proofs.Common.{◌≡◌, ℕ, ◌+◌, ◌<◌, ◌≤◌, Bool, true, false, not, if◌then◌else◌, eqb, List, [], ◌∷◌, ◌++◌, length, Option, Some, None, is_some, Err, refl, sym, ap, subst, ◌∙◌, inl, inr, arith}
use Rattle.std.specs.Prelude.{◌==◌, nat_eq, nat_lt}
use Rattle.std.specs.List.{list_any}
use Rattle.std.specs.Map.{keys_of, lookup, set_value}
use Rattle.std.proofs.lemmas.Bool.{cases_Bool, true≢false, false≢true, eqb-true}
use Rattle.std.proofs.lemmas.Bool.Decides.{nat_tests}
use Rattle.xl_base.specs.Lists.{IsIn}
use Rattle.xl_base.specs.declared.journal.Exports.{Exports}
use Rattle.xl_smb.specs.Calls.{CallItem, Cancel, Close, Create, Echo, Lock, Logoff, Negotiate, OplockBreak, Other, SessionSetup, TreeConnect, TreeDisconnect}
use Rattle.xl_smb.specs.Heads.{command_of, head_of}
use Rattle.xl_smb.specs.Messages.{message_at}
use Rattle.xl_smb.specs.Sessions.{NegotiateCallItem, SetupCallItem, dialects_of}
use Rattle.xl_smb.specs.declared.fault.SmbBad.{SmbBad}
use Rattle.xl_smb.specs.declared.head.SmbHead.{SmbHead}
use Rattle.xl_smb_state.proofs.RowLaws.{equal_from}
use Rattle.xl_smb_state.specs.State.{Lists, client_of, connection_changed, connection_of, sessions_on, trees_on}
use Rattle.xl_smb_state.specs.declared.row.Connection.{Connection}
use Rattle.xl_core.specs.State.{CoreState, drawn}
use Rattle.xl_core.specs.Ids.{id_of}
use Rattle.xl_smb_locks.specs.Finals.{dismissed}
use Rattle.xl_smb_locks.specs.declared.status.SmbStatus.{SmbStatus}
use Rattle.xl_smb_locks.specs.declared.status.SmbStatus.TheVariants as status
use Rattle.xl_front_smb.specs.Checks.{in_session, is_fresh, negotiated_by, refused, session_named}
use Rattle.xl_front_smb.specs.FrontSmb.{answered, head_heard, sent_by, smb_step, stepped}
use Rattle.xl_front_smb.specs.Laws.{IsInSession, outcome_of}
use Rattle.xl_front_smb.specs.Plans.{Does, Fails, Outcome, Plan, carried}
use Rattle.xl_front_smb.specs.Replies.{reply_of}
use Rattle.xl_front_smb.specs.Requests.{commanded, planned, read_as, requested}
use Rattle.xl_front_smb.specs.Sessions.{connect, connect_as, has_room_for_session, has_room_for_tree, negotiate, offers, session_setup, set_up_as, tree_connect}
use Rattle.xl_front_smb.specs.State.{FrontSmb}
use Rattle.xl_front_smb.specs.Texts.{is_share}
use Rattle.xl_front_smb.specs.declared.told.Told.TheVariants as told
use Rattle.xl_smb_laws.specs.Beginnings.{AreNumbered, IsNegotiated, is_negotiate}
use Rattle.xl_smb_laws.proofs.GivenNumberLaws.{no_session, no_tree}

-- ---- NEGOTIATE

set_found : (k : ℕ) (es : List (ℕ × Connection)) (w : Connection) → is_some (lookup (nat_eq k) es) ≡ true → lookup (nat_eq k) (set_value (nat_eq k) es w) ≡ Some w
set_found k [] w is = absurd (false≢true is)
set_found k (e ∷ es) w is =
    elim (cases_Bool (eqb k e.0)) [
      | inl same ↦ rw same (rw same refl)
      | inr apart ↦ rw apart (rw apart (set_found k es w (rw apart at is)))
    ]

set_other : (k q : ℕ) (es : List (ℕ × Connection)) (w : Connection) → eqb q k ≡ false → lookup (nat_eq q) (set_value (nat_eq k) es w) ≡ lookup (nat_eq q) es
set_other k q [] w apart = refl
set_other k q (e ∷ es) w apart =
    elim (cases_Bool (eqb k e.0)) [
      | inl same ↦ (let no : eqb q e.0 ≡ false = ap (λ (x : ℕ). eqb q x) (equal_from k e.0 same) ∙ apart in rw same (rw no refl))
      | inr other ↦ rw other (ap (λ (r : Option Connection). if eqb q e.0 then Some e.1 else r) (set_other k q es w apart))
    ]

negotiated_lists : (l : Lists) (conn : ℕ) (client : List ℕ) → connection_of conn l ≡ Some (record { client = None }) → IsNegotiated l conn client (connection_changed conn (record { client = Some client }) l)
negotiated_lists l conn client at = record {
  client_is = rw (set_found conn l.connections (record { client = Some client }) (ap (λ (o : Option Connection). is_some o) at)) refl;
  others = λ other apart. set_other conn other l.connections (record { client = Some client }) apart;
  rest = refl;
}

offered : (dialects : List ℕ) → IsIn 0x0210 dialects → list_any (λ d. d == 0x0210) dialects ≡ true
offered [] here = absurd here
offered (d ∷ ds) here =
    elim here [
      | inl is ↦ rw is refl
      | inr later ↦ elim (cases_Bool (d == 0x0210)) [ inl e ↦ rw e refl | inr e ↦ rw e (offered ds later) ]
    ]

not_offered : (dialects : List ℕ) → (IsIn 0x0210 dialects → ⊥) → list_any (λ d. d == 0x0210) dialects ≡ false
not_offered [] none = refl
not_offered (d ∷ ds) none =
    elim (cases_Bool (d == 0x0210)) [
      | inl e ↦ absurd (none (inl (eqb-true d 0x0210 e)))
      | inr e ↦ rw e (not_offered ds (λ later. none (inr later)))
    ]

no_zero : (k : ℕ) → 1 ≤ k → k == 0 ≡ false
no_zero k some = grind (arith, nat_tests)

some_in : (dialects : List ℕ) → IsIn 0x0210 dialects → length dialects == 0 ≡ false
some_in [] here = absurd here
some_in (d ∷ ds) here = no_zero (length (d ∷ ds)) (omega arith)

some_there : (dialects : List ℕ) → (dialects ≡ [] → ⊥) → length dialects == 0 ≡ false
some_there [] some = absurd (some refl)
some_there (d ∷ ds) some = no_zero (length (d ∷ ds)) (omega arith)

stale_by : (client : Option (List ℕ)) → (client ≡ None → ⊥) → not (is_some client) ≡ false
stale_by None other = absurd (other refl)
stale_by (Some x) other = refl

-- the row of a connection
abbrev row_by : Option (List ℕ) → Option Connection
row_by client = Some (record { client = client })

stale : (o : Option Connection) → (o ≡ Some (record { client = None }) → ⊥) → is_fresh o ≡ false
stale None other = refl
stale (Some row) other = stale_by row.client (λ e. other (ap (λ (x : Option (List ℕ)). row_by x) e))

negotiate_by : (n : ℕ) (s : CoreState) (l : Lists) (conn : ℕ) (c : NegotiateCallItem) (fresh bare offer : Bool) → is_fresh (connection_of conn l) ≡ fresh → length (dialects_of c.dialects) == 0 ≡ bare → offers c.dialects ≡ offer
    → carried n s l (negotiate l conn c) ≡ carried n s l (refused ((not fresh, status.InvalidParameter) ∷ (bare, status.InvalidParameter) ∷ (not offer, status.NotSupported) ∷ []) (Does [] (connection_changed conn (record { client = Some c.client_guid }) l) told.Negotiated))
unfolding negotiate
negotiate_by n s l conn c fresh bare offer a b d = rw (a, b, d) refl

module _ (n : ℕ) (s : CoreState) (files : List (List ℕ)) (others : ℕ) (l : Lists) (conn : ℕ) (h : SmbHead) where
  negotiate_is : (c : NegotiateCallItem) → outcome_of n s files others l conn h (Negotiate c) ≡ carried n s l (negotiate l conn c)
  unfolding planned
  negotiate_is c = refl

  pub negotiates : (c : NegotiateCallItem) → connection_of conn l ≡ Some (record { client = None }) → IsIn 0x0210 (dialects_of c.dialects)
      → (let r = outcome_of n s files others l conn h (Negotiate c) in (r.0 ≡ told.Negotiated) × (r.1 ≡ []) × IsNegotiated l conn c.client_guid r.2 × (r.3 ≡ s))
  negotiates c at here =
      subst (λ (r : Outcome). (r.0 ≡ told.Negotiated) × (r.1 ≡ []) × IsNegotiated l conn c.client_guid r.2 × (r.3 ≡ s))
      (sym (negotiate_is c ∙ negotiate_by n s l conn c true false true (ap is_fresh at) (some_in (dialects_of c.dialects) here) (offered (dialects_of c.dialects) here)))
      (refl, refl, negotiated_lists l conn c.client_guid at, refl)

  pub negotiates_again : (c : NegotiateCallItem) → (connection_of conn l ≡ Some (record { client = None }) → ⊥) → outcome_of n s files others l conn h (Negotiate c) ≡ (told.Failed status.InvalidParameter, [], l, s)
  negotiates_again c other = negotiate_is c ∙ negotiate_by n s l conn c false (length (dialects_of c.dialects) == 0) (offers c.dialects) (stale (connection_of conn l) other) refl refl

  pub negotiates_bare : (c : NegotiateCallItem) → dialects_of c.dialects ≡ [] → outcome_of n s files others l conn h (Negotiate c) ≡ (told.Failed status.InvalidParameter, [], l, s)
  negotiates_bare c none = by (is_fresh (connection_of conn l)) refl
    where
      by : (fresh : Bool) → is_fresh (connection_of conn l) ≡ fresh → outcome_of n s files others l conn h (Negotiate c) ≡ (told.Failed status.InvalidParameter, [], l, s)
      by true is = negotiate_is c ∙ negotiate_by n s l conn c true true (offers c.dialects) is (ap (λ (ds : List ℕ). length ds == 0) none) refl
      by false is = negotiate_is c ∙ negotiate_by n s l conn c false true (offers c.dialects) is (ap (λ (ds : List ℕ). length ds == 0) none) refl

  pub negotiates_others : (c : NegotiateCallItem) → connection_of conn l ≡ Some (record { client = None }) → (dialects_of c.dialects ≡ [] → ⊥) → (IsIn 0x0210 (dialects_of c.dialects) → ⊥) → outcome_of n s files others l conn h (Negotiate c) ≡ (told.Failed status.NotSupported, [], l, s)
  negotiates_others c at some none = negotiate_is c ∙ negotiate_by n s l conn c true false false (ap is_fresh at) (some_there (dialects_of c.dialects) some) (not_offered (dialects_of c.dialects) none)

  pub negotiates_first : (call : CallItem) → client_of conn l ≡ None → is_negotiate call ≡ false → outcome_of n s files others l conn h call ≡ (told.Failed status.InvalidParameter, [], l, s)
  unfolding planned
  negotiates_first (Negotiate c) none is = absurd (true≢false is)
  negotiates_first (SessionSetup c) none is = ap (λ (o : Option (List ℕ)). carried n s l (negotiated_by (commanded s files others l conn h (SessionSetup c)) o)) none
  negotiates_first Logoff none is = ap (λ (o : Option (List ℕ)). carried n s l (negotiated_by (commanded s files others l conn h Logoff) o)) none
  negotiates_first (TreeConnect path) none is = ap (λ (o : Option (List ℕ)). carried n s l (negotiated_by (commanded s files others l conn h (TreeConnect path)) o)) none
  negotiates_first TreeDisconnect none is = ap (λ (o : Option (List ℕ)). carried n s l (negotiated_by (commanded s files others l conn h TreeDisconnect) o)) none
  negotiates_first (Create c) none is = ap (λ (o : Option (List ℕ)). carried n s l (negotiated_by (commanded s files others l conn h (Create c)) o)) none
  negotiates_first (Close c) none is = ap (λ (o : Option (List ℕ)). carried n s l (negotiated_by (commanded s files others l conn h (Close c)) o)) none
  negotiates_first (Lock c) none is = ap (λ (o : Option (List ℕ)). carried n s l (negotiated_by (commanded s files others l conn h (Lock c)) o)) none
  negotiates_first Cancel none is = ap (λ (o : Option (List ℕ)). carried n s l (negotiated_by (commanded s files others l conn h Cancel) o)) none
  negotiates_first Echo none is = ap (λ (o : Option (List ℕ)). carried n s l (negotiated_by (commanded s files others l conn h Echo) o)) none
  negotiates_first (OplockBreak b) none is = ap (λ (o : Option (List ℕ)). carried n s l (negotiated_by (commanded s files others l conn h (OplockBreak b)) o)) none
  negotiates_first Other none is = ap (λ (o : Option (List ℕ)). carried n s l (negotiated_by (commanded s files others l conn h Other) o)) none

-- ---- SESSION_SETUP

few_is : (k : ℕ) → k < 16 → nat_lt k 16 ≡ true
few_is k few = grind (arith, nat_tests)

many_is : (k : ℕ) → 16 ≤ k → nat_lt k 16 ≡ false
many_is k many = grind (arith, nat_tests)

room_for_session : (s : CoreState) (l : Lists) (conn : ℕ) → AreNumbered s.counter l → length (sessions_on conn l) < 16 → has_room_for_session l conn (s.counter + 1) ≡ true
room_for_session s l conn numbered few = rw (few_is (length (sessions_on conn l)) few, no_session s l numbered) refl

no_room_for_session : (s : CoreState) (l : Lists) (conn : ℕ) → 16 ≤ length (sessions_on conn l) → has_room_for_session l conn (s.counter + 1) ≡ false
no_room_for_session s l conn many = rw (many_is (length (sessions_on conn l)) many) refl

room_for_tree : (s : CoreState) (l : Lists) (conn : ℕ) → AreNumbered s.counter l → length (trees_on conn l) < 16 → has_room_for_tree l conn (s.counter + 1) ≡ true
room_for_tree s l conn numbered few = rw (few_is (length (trees_on conn l)) few, no_tree s l numbered) refl

no_room_for_tree : (s : CoreState) (l : Lists) (conn : ℕ) → 16 ≤ length (trees_on conn l) → has_room_for_tree l conn (s.counter + 1) ≡ false
no_room_for_tree s l conn many = rw (many_is (length (trees_on conn l)) many) refl

setup_new : (n : ℕ) (s : CoreState) (l : Lists) (conn : ℕ) (h : SmbHead) (room : Bool) → (h.session_id == 0) ≡ true → has_room_for_session l conn (s.counter + 1) ≡ room
    → carried n s l (session_setup s l conn h) ≡ carried n s l (if room then set_up_as s l conn (s.counter + 1) else Fails status.InsufficientResources)
unfolding session_setup
setup_new n s l conn h room new is = rw (new, is) refl

setup_old : (n : ℕ) (s : CoreState) (l : Lists) (conn : ℕ) (h : SmbHead) (o : Option ℕ) → (h.session_id == 0) ≡ false → session_named s l conn h.session_id ≡ o
    → carried n s l (session_setup s l conn h) ≡ carried n s l (in_session (λ session. Does [] l (told.SetUp h.session_id)) o)
unfolding session_setup
setup_old n s l conn h o old is = rw old (ap (λ (x : Option ℕ). carried n s l (in_session (λ session. Does [] l (told.SetUp h.session_id)) x)) is)

-- ---- TREE_CONNECT

connect_by : (n : ℕ) (s : CoreState) (l : Lists) (conn : ℕ) (path : List ℕ) (session : ℕ) (room shared : Bool) → has_room_for_tree l conn (s.counter + 1) ≡ room → is_share path ≡ shared
    → carried n s l (connect s l conn path session) ≡ carried n s l (refused ((not room, status.InsufficientResources) ∷ (not shared, status.BadNetworkName) ∷ []) (connect_as l conn session (s.counter + 1)))
connect_by n s l conn path session room shared a b = rw (a, b) refl

connect_in : (n : ℕ) (s : CoreState) (l : Lists) (conn : ℕ) (h : SmbHead) (path : List ℕ) (o : Option ℕ) → session_named s l conn h.session_id ≡ o → carried n s l (tree_connect s l conn h path) ≡ carried n s l (in_session (connect s l conn path) o)
unfolding tree_connect
connect_in n s l conn h path o at = ap (λ (x : Option ℕ). carried n s l (in_session (connect s l conn path) x)) at

module _ (n : ℕ) (s : CoreState) (files : List (List ℕ)) (others : ℕ) (l : Lists) (conn : ℕ) (h : SmbHead) (client : List ℕ) where
  setup_is : (c : SetupCallItem) → client_of conn l ≡ Some client → outcome_of n s files others l conn h (SessionSetup c) ≡ carried n s l (session_setup s l conn h)
  unfolding planned commanded
  setup_is c known = ap (λ (o : Option (List ℕ)). carried n s l (negotiated_by (λ k. session_setup s l conn h) o)) known

  pub sets_up : (c : SetupCallItem) → client_of conn l ≡ Some client → AreNumbered s.counter l → (h.session_id == 0) ≡ true → length (sessions_on conn l) < 16 → outcome_of n s files others l conn h (SessionSetup c) ≡ (told.SetUp (id_of s (s.counter + 1)), [], record l { sessions = l.sessions ++ (s.counter + 1, record { connection = conn }) ∷ [] }, drawn s)
  sets_up c known numbered new few = setup_is c known ∙ setup_new n s l conn h true new (room_for_session s l conn numbered few)

  pub setup_full : (c : SetupCallItem) → client_of conn l ≡ Some client → (h.session_id == 0) ≡ true → 16 ≤ length (sessions_on conn l) → outcome_of n s files others l conn h (SessionSetup c) ≡ (told.Failed status.InsufficientResources, [], l, s)
  setup_full c known new many = setup_is c known ∙ setup_new n s l conn h false new (no_room_for_session s l conn many)

  pub setup_again : (c : SetupCallItem) (session : ℕ) → IsInSession s l conn h client session → (h.session_id == 0) ≡ false → outcome_of n s files others l conn h (SessionSetup c) ≡ (told.SetUp h.session_id, [], l, s)
  setup_again c session named old = setup_is c named.0 ∙ setup_old n s l conn h (Some session) old named.1

  pub setup_lost : (c : SetupCallItem) → client_of conn l ≡ Some client → (h.session_id == 0) ≡ false → session_named s l conn h.session_id ≡ None → outcome_of n s files others l conn h (SessionSetup c) ≡ (told.Failed status.UserSessionDeleted, [], l, s)
  setup_lost c known old none = setup_is c known ∙ setup_old n s l conn h None old none

  connect_is : (path : List ℕ) → client_of conn l ≡ Some client → outcome_of n s files others l conn h (TreeConnect path) ≡ carried n s l (tree_connect s l conn h path)
  unfolding planned commanded
  connect_is path known = ap (λ (o : Option (List ℕ)). carried n s l (negotiated_by (λ k. tree_connect s l conn h path) o)) known

  connect_here : (path : List ℕ) (session : ℕ) (room shared : Bool) → IsInSession s l conn h client session → has_room_for_tree l conn (s.counter + 1) ≡ room → is_share path ≡ shared
      → outcome_of n s files others l conn h (TreeConnect path) ≡ carried n s l (refused ((not room, status.InsufficientResources) ∷ (not shared, status.BadNetworkName) ∷ []) (connect_as l conn session (s.counter + 1)))
  connect_here path session room shared named a b = connect_is path named.0 ∙ connect_in n s l conn h path (Some session) named.1 ∙ connect_by n s l conn path session room shared a b

  pub connects : (path : List ℕ) (session : ℕ) → IsInSession s l conn h client session → AreNumbered s.counter l → length (trees_on conn l) < 16 → is_share path ≡ true → outcome_of n s files others l conn h (TreeConnect path) ≡ (told.Connected (s.counter + 1), [], record l { trees = l.trees ++ (s.counter + 1, record { connection = conn; session = session }) ∷ [] }, drawn s)
  connects path session named numbered few shared = connect_here path session true true named (room_for_tree s l conn numbered few) shared

  pub connect_full : (path : List ℕ) (session : ℕ) → IsInSession s l conn h client session → 16 ≤ length (trees_on conn l) → outcome_of n s files others l conn h (TreeConnect path) ≡ (told.Failed status.InsufficientResources, [], l, s)
  connect_full path session named many = connect_here path session false (is_share path) named (no_room_for_tree s l conn many) refl

  pub connect_elsewhere : (path : List ℕ) (session : ℕ) → IsInSession s l conn h client session → AreNumbered s.counter l → length (trees_on conn l) < 16 → is_share path ≡ false → outcome_of n s files others l conn h (TreeConnect path) ≡ (told.Failed status.BadNetworkName, [], l, s)
  connect_elsewhere path session named numbered few other = connect_here path session true false named (room_for_tree s l conn numbered few) other

  pub connect_lost : (path : List ℕ) → client_of conn l ≡ Some client → session_named s l conn h.session_id ≡ None → outcome_of n s files others l conn h (TreeConnect path) ≡ (told.Failed status.UserSessionDeleted, [], l, s)
  connect_lost path known none = connect_is path known ∙ connect_in n s l conn h path None none

  -- ---- ECHO, and what isn't served

  pub echoes : client_of conn l ≡ Some client → outcome_of n s files others l conn h Echo ≡ (told.Echoed, [], l, s)
  unfolding planned commanded
  echoes known = ap (λ (o : Option (List ℕ)). carried n s l (negotiated_by (λ k. Does [] l told.Echoed) o)) known

  pub not_served : client_of conn l ≡ Some client → outcome_of n s files others l conn h Other ≡ (told.Failed status.NotSupported, [], l, s)
  unfolding planned commanded
  not_served known = ap (λ (o : Option (List ℕ)). carried n s l (negotiated_by (λ k. Fails status.NotSupported) o)) known

-- ---- what is no request

nobody_dismissed : (ids : List ℕ) (l : Lists) → dismissed [] ids l ≡ ([], l)
nobody_dismissed [] l = refl
nobody_dismissed (id ∷ ids) l = nobody_dismissed ids l

fails_alone : (n : ℕ) (f : FrontSmb) (s : CoreState) (conn : ℕ) (h : SmbHead) (refusal : SmbStatus) → answered conn h (carried n s f.state (Fails refusal)) ≡ (sent_by conn (reply_of h (told.Failed refusal)), [], f, s)
fails_alone n f s conn h refusal = rw (nobody_dismissed (keys_of f.state.waiting) f.state) refl

module _ (n : ℕ) (exports : Exports) (others : ℕ) (f : FrontSmb) (s : CoreState) (conn : ℕ) (bytes : List ℕ) where
  pub is_silent : head_heard (head_of bytes) ≡ None → smb_step n exports others f s conn bytes ≡ ([], [], f, s)
  unfolding smb_step
  is_silent none = ap (λ (o : Option SmbHead). stepped n exports others f s conn bytes o) none

  fails_so : (h : SmbHead) (refusal : SmbStatus) → head_heard (head_of bytes) ≡ Some h → requested s exports.files others f.state conn bytes h ≡ Fails refusal → smb_step n exports others f s conn bytes ≡ (sent_by conn (reply_of h (told.Failed refusal)), [], f, s)
  unfolding smb_step
  fails_so h refusal heard fails =
      ap (λ (o : Option SmbHead). stepped n exports others f s conn bytes o) heard ∙ ap (λ (p : Plan). answered conn h (carried n s f.state p)) fails ∙ fails_alone n f s conn h refusal

  refused_by : (h : SmbHead) (several past unserved : Bool) → not (h.next_command == 0) ≡ several → nat_lt 18 h.command ≡ past → not (is_some (command_of h.command)) ≡ unserved
      → requested s exports.files others f.state conn bytes h ≡ refused ((several, status.InvalidParameter) ∷ (past, status.InvalidParameter) ∷ (unserved, status.NotSupported) ∷ []) (read_as s exports.files others f.state conn (message_at bytes))
  unfolding requested
  refused_by h several past unserved a b d = rw (a, b, d) refl

  pub refuses_several : (h : SmbHead) → head_heard (head_of bytes) ≡ Some h → (h.next_command == 0) ≡ false → smb_step n exports others f s conn bytes ≡ (sent_by conn (reply_of h (told.Failed status.InvalidParameter)), [], f, s)
  refuses_several h heard more = fails_so h status.InvalidParameter heard (refused_by h true (nat_lt 18 h.command) (not (is_some (command_of h.command))) (rw more refl) refl refl)

  past_by : (h : SmbHead) (several : Bool) → not (h.next_command == 0) ≡ several → nat_lt 18 h.command ≡ true → requested s exports.files others f.state conn bytes h ≡ Fails status.InvalidParameter
  past_by h true is past = refused_by h true true (not (is_some (command_of h.command))) is past refl
  past_by h false is past = refused_by h false true (not (is_some (command_of h.command))) is past refl

  pub refuses_past : (h : SmbHead) → head_heard (head_of bytes) ≡ Some h → nat_lt 18 h.command ≡ true → smb_step n exports others f s conn bytes ≡ (sent_by conn (reply_of h (told.Failed status.InvalidParameter)), [], f, s)
  refuses_past h heard past = fails_so h status.InvalidParameter heard (past_by h (not (h.next_command == 0)) refl past)

  pub refuses_unserved : (h : SmbHead) → head_heard (head_of bytes) ≡ Some h → (h.next_command == 0) ≡ true → nat_lt 18 h.command ≡ false → command_of h.command ≡ None → smb_step n exports others f s conn bytes ≡ (sent_by conn (reply_of h (told.Failed status.NotSupported)), [], f, s)
  refuses_unserved h heard alone low none = fails_so h status.NotSupported heard (refused_by h false false true (rw alone refl) low (rw none refl))

  unread_by : (h : SmbHead) (fault : SmbBad) (several past : Bool) → not (h.next_command == 0) ≡ several → nat_lt 18 h.command ≡ past → is_some (command_of h.command) ≡ true → message_at bytes ≡ Err fault → requested s exports.files others f.state conn bytes h ≡ Fails status.InvalidParameter
  unread_by h fault true past a b served bad = refused_by h true past false a b (rw served refl)
  unread_by h fault false true a b served bad = refused_by h false true false a b (rw served refl)
  unread_by h fault false false a b served bad = refused_by h false false false a b (rw served refl) ∙ ap (λ m. read_as s exports.files others f.state conn m) bad

  pub refuses_unread : (h : SmbHead) (fault : SmbBad) → head_heard (head_of bytes) ≡ Some h → is_some (command_of h.command) ≡ true → message_at bytes ≡ Err fault → smb_step n exports others f s conn bytes ≡ (sent_by conn (reply_of h (told.Failed status.InvalidParameter)), [], f, s)
  refuses_unread h fault heard served bad = fails_so h status.InvalidParameter heard (unread_by h fault (not (h.next_command == 0)) (nat_lt 18 h.command) refl refl served bad)
