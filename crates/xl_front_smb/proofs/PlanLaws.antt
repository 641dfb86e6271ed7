-- What a plan leaves and tells.
use Rattle.std.proofs.Common.{◌≡◌, ℕ, ◌+◌, ◌<◌, Bool, true, false, not, ◌&&◌, List, Option, Some, None, is_some, length, if◌then◌else◌, [], ◌∷◌, refl, sym, ap, ◌∙◌, arith, append-nil}
use Rattle.std.specs.Prelude.{nat_lt}
use Rattle.std.specs.Option.{option_and_then}
use Rattle.std.proofs.lemmas.Bool.{false≢true, true≢false, ltb-true}
use Rattle.xl_base.specs.declared.name.Party.{Party}
use Rattle.xl_smb.specs.declared.file.FileId.{FileId}
use Rattle.xl_smb.specs.declared.head.SmbHead.{SmbHead}
use Rattle.xl_smb_state.specs.Links.{most_sessions, most_trees}
use Rattle.xl_smb_state.specs.State.{Lists, connection_of, client_of, session_of, sessions_on, tree_of, trees_on, open_of, closed}
use Rattle.xl_smb_state.specs.declared.row.Connection.{Connection}
use Rattle.xl_smb_state.specs.declared.row.Place.{Place}
use Rattle.xl_core.specs.Limits.{most_opens}
use Rattle.xl_core.specs.Deeds.{Closes}
use Rattle.xl_core.specs.Settle.{close_open as close_core}
use Rattle.xl_core.specs.State.{CoreState}
use Rattle.xl_core.specs.declared.ask.Effect.{Effect}
use Rattle.xl_front_smb.specs.Checks.{is_fresh, session_named, tree_named, open_named, in_session, on_tree, on_open}
use Rattle.xl_front_smb.specs.Files.{all_opens, has_room_for_open, close_open, close}
use Rattle.xl_front_smb.specs.Ending.{party_going}
use Rattle.xl_front_smb.specs.Plans.{Plan, Fails, Does, Outcome, carried}
use Rattle.xl_front_smb.specs.Sessions.{has_room_for_session, set_up_as, set_up, has_room_for_tree, connect_as, connect}
use Rattle.xl_front_smb.specs.Texts.{is_share}
use Rattle.xl_smb_locks.specs.declared.status.SmbStatus.TheVariants.{InsufficientResources, BadNetworkName}
use Rattle.xl_front_smb.specs.declared.told.Told.TheVariants.{Closed}

-- ---- a connection on which nobody has negotiated

fresh_some : (found : Option Connection) → is_fresh found ≡ true → is_some found ≡ true
fresh_some None h = absurd (false≢true h)
fresh_some (Some row) h = refl

pub fresh_there : (conn : ℕ) (l : Lists) → is_fresh (connection_of conn l) ≡ true → is_some (connection_of conn l) ≡ true
fresh_there conn l h = fresh_some (connection_of conn l) h

none_from : (client : Option (List ℕ)) → not (is_some client) ≡ true → client ≡ None
none_from None h = refl
none_from (Some guid) h = absurd (false≢true h)

fresh_none : (found : Option Connection) → is_fresh found ≡ true → option_and_then (λ c. c.client) found ≡ None
fresh_none None h = absurd (false≢true h)
fresh_none (Some row) h = none_from row.client h

pub fresh_unnamed : (conn : ℕ) (l : Lists) → is_fresh (connection_of conn l) ≡ true → client_of conn l ≡ None
fresh_unnamed conn l h = fresh_none (connection_of conn l) h

-- ---- where there is room

pub room_of : (a b : Bool) → (a && not b) ≡ true → (a ≡ true) × (b ≡ false)
room_of true false h = (refl, refl)
room_of true true h = absurd (false≢true h)
room_of false b h = absurd (false≢true h)

pub below : (n most : ℕ) → nat_lt n most ≡ true → n < most
below n most h = ltb-true n most h

pub none_of : {X : Type 0} (o : Option X) → is_some o ≡ false → o ≡ None
none_of None h = refl
none_of (Some x) h = absurd (true≢false h)

pub session_room : (l : Lists) (conn number : ℕ) → has_room_for_session l conn number ≡ true → length (sessions_on conn l) < most_sessions
session_room l conn number h = below (length (sessions_on conn l)) most_sessions (room_of (nat_lt (length (sessions_on conn l)) most_sessions) (is_some (session_of number l)) h).0

pub session_new : (l : Lists) (conn number : ℕ) → has_room_for_session l conn number ≡ true → session_of number l ≡ None
session_new l conn number h = none_of (session_of number l) (room_of (nat_lt (length (sessions_on conn l)) most_sessions) (is_some (session_of number l)) h).1

pub tree_room : (l : Lists) (conn number : ℕ) → has_room_for_tree l conn number ≡ true → length (trees_on conn l) < most_trees
tree_room l conn number h = below (length (trees_on conn l)) most_trees (room_of (nat_lt (length (trees_on conn l)) most_trees) (is_some (tree_of number l)) h).0

pub tree_new : (l : Lists) (conn number : ℕ) → has_room_for_tree l conn number ≡ true → tree_of number l ≡ None
tree_new l conn number h = none_of (tree_of number l) (room_of (nat_lt (length (trees_on conn l)) most_trees) (is_some (tree_of number l)) h).1

pub open_room : (others : ℕ) (l : Lists) (number : ℕ) → has_room_for_open others l number ≡ true → all_opens others l < most_opens
open_room others l number h = below (all_opens others l) most_opens (room_of (nat_lt (all_opens others l) most_opens) (is_some (open_of number l)) h).0

pub open_within : (others : ℕ) (l : Lists) (number : ℕ) → has_room_for_open others l number ≡ true → length l.opens < most_opens
open_within others l number h = omega (arith, open_room others l number h)

pub open_new : (others : ℕ) (l : Lists) (number : ℕ) → has_room_for_open others l number ≡ true → open_of number l ≡ None
open_new others l number h = none_of (open_of number l) (room_of (nat_lt (all_opens others l) most_opens) (is_some (open_of number l)) h).1

-- ---- CLOSE

pub closes : (n : ℕ) (s new : CoreState) (l after : Lists) (number : ℕ) (party : Option Party) (effects : List Effect) → new ≡ (close_core s number party).1 → effects ≡ (close_core s number party).0 → party ≡ party_going s.names l number → after ≡ closed number l
    → carried n s l (close_open s l number) ≡ (Closed, effects, after, new)
closes n s new l after number party effects core told going lists =
    ap (λ (p : Option Party). carried n s l (Does (Closes number p ∷ []) (closed number l) Closed)) (sym going)
    ∙ (λ i. (Closed, (append-nil (close_core s number party).0 ∙ sym told) i, (sym lists) i, (sym core) i))

-- ---- what goes on where the checks before it pass

passed : (b : Bool) (p q : Plan) → b ≡ true → (if b then p else q) ≡ p
passed true p q h = refl
passed false p q h = absurd (false≢true h)

-- each of two checks refuses where it doesn't pass
passed_both : (a b : Bool) (p q r : Plan) → a ≡ true → b ≡ true → (if not a then p else if not b then q else r) ≡ r
passed_both true true p q r first second = refl
passed_both true false p q r first second = absurd (false≢true second)
passed_both false true p q r first second = absurd (false≢true first)
passed_both false false p q r first second = absurd (false≢true first)

pub set_up_done : (n : ℕ) (s : CoreState) (l : Lists) (conn last : ℕ) (room : Bool) (x : Outcome) → last ≡ s.counter → room ≡ has_room_for_session l conn (last + 1) → room ≡ true
    → carried n s l (set_up_as s l conn (s.counter + 1)) ≡ x → carried n s l (set_up s l conn) ≡ x
set_up_done n s l conn last room x at is passes done =
    let has : has_room_for_session l conn (s.counter + 1) ≡ true = ap (λ (k : ℕ). has_room_for_session l conn (k + 1)) (sym at) ∙ sym is ∙ passes in
    ap (carried n s l) (passed (has_room_for_session l conn (s.counter + 1)) (set_up_as s l conn (s.counter + 1)) (Fails InsufficientResources) has) ∙ done

pub connect_done : (n : ℕ) (s : CoreState) (l : Lists) (conn : ℕ) (path : List ℕ) (session last : ℕ) (room share : Bool) (x : Outcome) → last ≡ s.counter → room ≡ has_room_for_tree l conn (last + 1) → share ≡ is_share path → room ≡ true → share ≡ true
    → carried n s l (connect_as l conn session (s.counter + 1)) ≡ x → carried n s l (connect s l conn path session) ≡ x
connect_done n s l conn path session last room share x at is named passes too done =
    let has : has_room_for_tree l conn (s.counter + 1) ≡ true = ap (λ (k : ℕ). has_room_for_tree l conn (k + 1)) (sym at) ∙ sym is ∙ passes in
    ap (carried n s l) (passed_both (has_room_for_tree l conn (s.counter + 1)) (is_share path) (Fails InsufficientResources) (Fails BadNetworkName) (connect_as l conn session (s.counter + 1)) has (sym named ∙ too)) ∙ done

pub close_done : (n : ℕ) (s : CoreState) (l : Lists) (conn : ℕ) (client : List ℕ) (h : SmbHead) (id : FileId) (session : ℕ) (place : Place) (number : ℕ) (x : Outcome)
    → session_named s l conn h.session_id ≡ Some session → tree_named l conn client h session ≡ Some place → open_named s l conn id ≡ Some number → carried n s l (close_open s l number) ≡ x → carried n s l (close s l conn client h id) ≡ x
unfolding close
close_done n s l conn client h id session place number x first second third done =
    ap (carried n s l)
    (ap (in_session (λ k. on_tree (λ _. on_open (close_open s l) (open_named s l conn id)) (tree_named l conn client h k))) first
    ∙ ap (on_tree (λ _. on_open (close_open s l) (open_named s l conn id))) second
    ∙ ap (on_open (close_open s l)) third)
    ∙ done
