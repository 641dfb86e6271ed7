-- Where an open that a request waits to make is to stand: which places stay, and that it may stand still.
use Rattle.std.proofs.Common.{◌≡◌, ℕ, Bool, true, false, not, ◌&&◌, ◌||◌, eqb, List, [], ◌∷◌, ◌++◌, Option, Some, None, is_some, refl, sym, ap, ◌∙◌, inl, inr}
use Rattle.std.specs.Prelude.{nat_eq, bytes_eq}
use Rattle.std.specs.List.{list_any}
use Rattle.std.specs.Map.{lookup}
use Rattle.std.specs.Option.{option_and_then}
use Rattle.std.proofs.lemmas.Bool.{cases_Bool, true≢false, false≢true}
use Rattle.std.proofs.lemmas.Slice.Eq.{bytes_eq-Decides}
use Rattle.xl_base.specs.Lists.{IsIn}
use Rattle.xl_smb_state.proofs.LinkLaws.{place_linked}
use Rattle.xl_smb_state.proofs.RowLaws.{equal_from, equal_self, unequal_both, lookup_added, lookup_removed, lookup_set, none_some, same_Some}
use Rattle.xl_smb_state.specs.Links.{is_tree_at, is_client, has_place, AreDistinct, IsSound}
use Rattle.xl_smb_state.specs.State.{Lists, client_of, connection_of, connection_added, connection_changed, covers, creates_under, is_key, made_in, makes_open, makes_under, open_of, opens_under, tree_added, tree_dropped, tree_of}
use Rattle.xl_smb_state.specs.declared.row.Connection.{Connection}
use Rattle.xl_smb_state.specs.declared.row.LeaseKey.{LeaseKey}
use Rattle.xl_smb_state.specs.declared.row.Open.{Open}
use Rattle.xl_smb_state.specs.declared.row.Place.{Place}
use Rattle.xl_smb_state.specs.declared.row.Request.{Request}
use Rattle.xl_smb_state.specs.declared.row.Request.TheVariants as request
use Rattle.xl_smb_state.specs.declared.row.Scope.{Scope}
use Rattle.xl_smb_state.specs.declared.row.Tree.{Tree}
use Rattle.xl_smb_state.specs.declared.row.Waiting.{Waiting}
use Rattle.xl_core.specs.State.{CoreState}
use Rattle.xl_smb_laws.proofs.LeaseKeyLaws.{LeasesStay, used_still}
use Rattle.xl_smb_laws.specs.WaitingRequests.{IsUnder, IsUsedOn}
use Rattle.xl_front_smb.specs.Checks.{is_fresh, is_open_on}
use Rattle.xl_front_smb.specs.Ending.{all_closed, numbers_under, session_gone, smb_end}
use Rattle.xl_front_smb.specs.Laws.{rows_but}
use Rattle.xl_front_smb.specs.State.{FrontSmb}
use Rattle.xl_front_smb.proofs.GoneLaws.{closed_connections, closed_trees, end_connections, end_trees, off_connections, off_trees}

-- ---- places

-- the tree connect of a place, as it stands
abbrev pub tree_at : Place → Tree
tree_at place = record { connection = place.connection; session = place.session }

-- a place stays where its tree connect does, and its connection's client
abbrev pub StaysAt : Place → Lists → Lists → Type 0
StaysAt place l m = (tree_of place.tree l ≡ Some (tree_at place) → tree_of place.tree m ≡ Some (tree_at place)) × ((client : List ℕ) → client_of place.connection l ≡ Some client → client_of place.connection m ≡ Some client)

both_true : (a b : Bool) → a ≡ true → b ≡ true → (a && b) ≡ true
both_true a b first second = rw (first, second) refl

at_place : (place : Place) (o : Option Tree) → o ≡ Some (tree_at place) → is_tree_at place o ≡ true
at_place place o at = ap (is_tree_at place) at ∙ both_true (eqb place.connection place.connection) (eqb place.session place.session) (equal_self place.connection) (equal_self place.session)

same_bytes : (xs : List ℕ) → bytes_eq xs xs ≡ true
same_bytes xs = (bytes_eq-Decides xs xs).1 refl

pub place_stays : (place : Place) (client : List ℕ) (l m : Lists) → StaysAt place l m → has_place place client l ≡ true → has_place place client m ≡ true
place_stays place client l m stays here =
    let linked = place_linked place client l here in
    both_true (is_tree_at place (tree_of place.tree m)) (is_client client (client_of place.connection m)) (at_place place (tree_of place.tree m) (stays.0 linked.0)) (ap (is_client client) (stays.1 client linked.1) ∙ same_bytes client)

-- the same tree connects and connections
pub same_places : (place : Place) (client : List ℕ) (l m : Lists) → m.trees ≡ l.trees → m.connections ≡ l.connections → has_place place client l ≡ true → has_place place client m ≡ true
same_places place client l m trees connections here =
    place_stays place client l m
    ((λ at. ap (λ (es : List (ℕ × Tree)). lookup (nat_eq place.tree) es) trees ∙ at), (λ guid at. ap (λ (es : List (ℕ × Connection)). option_and_then (λ (c : Connection). c.client) (lookup (nat_eq place.connection) es)) connections ∙ at))
    here

-- ---- what changes of the tree connects and connections

module _ {X : Type 0} where
  -- a row that is found, and stays, is found again
  pub lookup_but : (p : ℕ × X → Bool) (k : ℕ) (es : List (ℕ × X)) (row : X) → lookup (nat_eq k) es ≡ Some row → p (k, row) ≡ false → lookup (nat_eq k) (rows_but p es) ≡ Some row
  lookup_but p k [] row at stays = absurd (none_some at)
  lookup_but p k (e ∷ es) row at stays =
      elim (cases_Bool (eqb k e.0)) [
        | inl same ↦
            let this : e.1 ≡ row = same_Some (rw same at at) in
            let kept : p e ≡ false = ap p (λ i. (equal_from k e.0 same i, this i)) ∙ stays in
            rw kept (rw same (ap (λ (x : X). Some x) this))
        | inr other ↦ elim (cases_Bool (p e)) [
          | inl out ↦ rw out (lookup_but p k es row (rw other at at) stays)
          | inr kept ↦ rw kept (rw other (lookup_but p k es row (rw other at at) stays))
        ]
      ]

-- of a connection on which nobody has negotiated no client is known
fresh_none : (o : Option Connection) → is_fresh o ≡ true → option_and_then (λ c. c.client) o ≡ None
fresh_none None fresh = refl
fresh_none (Some row) fresh = by row.client fresh
  where
    by : (o : Option (List ℕ)) → not (is_some o) ≡ true → o ≡ None
    by None h = refl
    by (Some guid) h = absurd (false≢true h)

pub changed_place : (conn : ℕ) (row : Connection) (l : Lists) (place : Place) (client : List ℕ) → is_fresh (connection_of conn l) ≡ true → has_place place client l ≡ true → has_place place client (connection_changed conn row l) ≡ true
changed_place conn row l place client fresh here =
    place_stays place client l (connection_changed conn row l) (
      (λ at. at),
      (λ guid at.
          elim (cases_Bool (eqb conn place.connection)) [
            | inl same ↦ absurd (none_some (sym (fresh_none (connection_of conn l) fresh) ∙ ap (λ (k : ℕ). client_of k l) (sym (equal_from conn place.connection same)) ∙ at))
            | inr other ↦ ap (option_and_then (λ (c : Connection). c.client)) (lookup_set place.connection conn l.connections row other) ∙ at
          ]),
    )
    here

pub begun_place : (number : ℕ) (row : Connection) (l : Lists) (place : Place) (client : List ℕ) → has_place place client l ≡ true → has_place place client (connection_added number row l) ≡ true
begun_place number row l place client here =
    place_stays place client l (connection_added number row l)
    ((λ at. at), (λ guid at. added_client (connection_of place.connection l) refl guid at))
    here
  where
    added_client : (o : Option Connection) → connection_of place.connection l ≡ o → (guid : List ℕ) → option_and_then (λ (c : Connection). c.client) o ≡ Some guid → client_of place.connection (connection_added number row l) ≡ Some guid
    added_client None is guid at = absurd (none_some at)
    added_client (Some c) is guid at = ap (option_and_then (λ (x : Connection). x.client)) (lookup_added (nat_eq place.connection) l.connections ((number, row) ∷ []) c is) ∙ at

pub tree_place : (number : ℕ) (row : Tree) (l : Lists) (place : Place) (client : List ℕ) → has_place place client l ≡ true → has_place place client (tree_added number row l) ≡ true
tree_place number row l place client here =
    place_stays place client l (tree_added number row l)
    ((λ at. lookup_added (nat_eq place.tree) l.trees ((number, row) ∷ []) (tree_at place) at), (λ guid at. at))
    here

pub closed_place : (numbers : List ℕ) (l : Lists) (place : Place) (client : List ℕ) → has_place place client l ≡ true → has_place place client (all_closed numbers l) ≡ true
closed_place numbers l place client here = same_places place client l (all_closed numbers l) (closed_trees numbers l) (closed_connections numbers l) here

-- a tree connect goes, and the places on others stay
pub disconnected_place : (numbers : List ℕ) (tree : ℕ) (l : Lists) (place : Place) (client : List ℕ) → eqb place.tree tree ≡ false → has_place place client l ≡ true → has_place place client (tree_dropped tree (all_closed numbers l)) ≡ true
disconnected_place numbers tree l place client apart here =
    let m : Lists = all_closed numbers l in
    place_stays place client m (tree_dropped tree m)
    ((λ at. lookup_removed place.tree tree m.trees (unequal_both place.tree tree apart) ∙ at), (λ guid at. at))
    (closed_place numbers l place client here)

-- a session goes, and the places in others stay
pub logged_off_place : (numbers : List ℕ) (session : ℕ) (l : Lists) (place : Place) (client : List ℕ) → AreDistinct l → eqb place.session session ≡ false → has_place place client l ≡ true → has_place place client (session_gone session (all_closed numbers l)) ≡ true
logged_off_place numbers session l place client distinct apart here =
    place_stays place client l (session_gone session (all_closed numbers l)) (
      (λ at. ap (λ (es : List (ℕ × Tree)). lookup (nat_eq place.tree) es) (off_trees session l numbers distinct) ∙ lookup_but (λ (e : ℕ × Tree). eqb e.1.session session) place.tree l.trees (tree_at place) at apart),
      (λ guid at. ap (λ (es : List (ℕ × Connection)). option_and_then (λ (c : Connection). c.client) (lookup (nat_eq place.connection) es)) (off_connections session l numbers) ∙ at),
    )
    here

-- a connection ends, and the places on others stay
pub ended_place : (f : FrontSmb) (s : CoreState) (conn : ℕ) (place : Place) (client : List ℕ) → IsSound f.state → AreDistinct f.state → eqb place.connection conn ≡ false → has_place place client f.state ≡ true → has_place place client (smb_end f s conn).1.state ≡ true
ended_place f s conn place client sound distinct apart here =
    place_stays place client f.state (smb_end f s conn).1.state (
      (λ at. ap (λ (es : List (ℕ × Tree)). lookup (nat_eq place.tree) es) (end_trees f s conn sound distinct) ∙ lookup_but (λ (e : ℕ × Tree). eqb e.1.connection conn) place.tree f.state.trees (tree_at place) at apart),
      (λ guid at. ended_client guid (connection_of place.connection f.state) refl at),
    )
    here
  where
    ended_client : (guid : List ℕ) (o : Option Connection) → connection_of place.connection f.state ≡ o → option_and_then (λ (c : Connection). c.client) o ≡ Some guid → client_of place.connection (smb_end f s conn).1.state ≡ Some guid
    ended_client guid None is at = absurd (none_some at)
    ended_client guid (Some c) is at =
        ap (λ (es : List (ℕ × Connection)). option_and_then (λ (x : Connection). x.client) (lookup (nat_eq place.connection) es)) (end_connections f s conn distinct)
        ∙ ap (option_and_then (λ (x : Connection). x.client)) (lookup_but (λ (e : ℕ × Connection). eqb conn e.0) place.connection f.state.connections c is (unequal_both place.connection conn apart))
        ∙ at

-- ---- an open that may stand still may

-- what keeps the open that this request waits to make fit to stand
pub record KeepsFit (l m : Lists) (e : ℕ × Waiting) (made : Open) : Type 0 where
  pub places : (client : List ℕ) → has_place e.1.place client l ≡ true → has_place e.1.place client m ≡ true
  pub opens : is_some (open_of e.1.opened l) ≡ false → is_some (open_of e.1.opened m) ≡ false
  pub rows : (x : ℕ × Waiting) → IsIn x m.waiting → makes_open x.1.request ≡ true → x.1.opened ≡ e.1.opened → IsIn x l.waiting
  pub keyed : (key : LeaseKey) → is_key key made.client made.lease ≡ true → IsUsedOn key made.file l → IsUsedOn key made.file m

-- an open that stands on a connection stays there
abbrev pub Stays : ℕ → Lists → Lists → Type 0
Stays k l m = (c : ℕ) → is_open_on c (open_of k l) ≡ true → is_open_on c (open_of k m) ≡ true

-- what keeps the open of a request as it waits for it
abbrev pub Keeps : Lists → Lists → ℕ × Waiting → Request → Type 0
Keeps l m e request.Lock = Stays e.1.opened l m
Keeps l m e (request.Create made) = KeepsFit l m e made

pub under_still : (l m : Lists) (e : ℕ × Waiting) (r : Request) → Keeps l m e r → IsUnder l e r → IsUnder m e r
under_still l m e request.Lock keeps on = keeps e.1.place.connection on
under_still l m e (request.Create made) keeps may = record {
  held = may.held;
  place = keeps.places made.client may.place;
  free = keeps.opens may.free;
  earlier = may.earlier;
  single = λ x here makes same. may.single x (keeps.rows x here makes same) makes same;
  keyed = λ key is. keeps.keyed key is (may.keyed key is);
}

pub keeps_by : (l m : Lists) (e : ℕ × Waiting) (r : Request) → Stays e.1.opened l m → ((made : Open) → r ≡ request.Create made → KeepsFit l m e made) → Keeps l m e r
keeps_by l m e request.Lock stays fits = stays
keeps_by l m e (request.Create made) stays fits = fits made refl

-- where the opens, the tree connects and the connections stand, no lease came, and no request
pub keeps_all : (l m : Lists) (e : ℕ × Waiting) (r : Request) → m.opens ≡ l.opens → LeasesStay l m → ((client : List ℕ) → has_place e.1.place client l ≡ true → has_place e.1.place client m ≡ true)
    → ((x : ℕ × Waiting) → IsIn x m.waiting → IsIn x l.waiting) → Keeps l m e r
keeps_all l m e r opens leases places rows =
    let same : open_of e.1.opened m ≡ open_of e.1.opened l = ap (λ (es : List (ℕ × Open)). lookup (nat_eq e.1.opened) es) opens in
    keeps_by l m e r (λ c on. ap (is_open_on c) same ∙ on)
    (λ made is. record {
      places = places;
      opens = λ free. ap (λ (o : Option Open). is_some o) same ∙ free;
      rows = λ x here makes at. rows x here;
      keyed = λ key own. used_still l m key made.file leases rows;
    })

pub keeps_self : (l : Lists) (e : ℕ × Waiting) (r : Request) → Keeps l l e r
keeps_self l e r = keeps_all l l e r refl (λ key file all. all) (λ client here. here) (λ x here. here)

-- ---- requests that wait under a scope

any_of : (p : ℕ → Bool) (xs ys : List ℕ) → list_any p (xs ++ ys) ≡ false → list_any p ys ≡ false
any_of p [] ys none = none
any_of p (x ∷ xs) ys none = elim (cases_Bool (p x)) [ inl here ↦ absurd (true≢false (rw here at none)) | inr later ↦ any_of p xs ys (rw later at none) ]

either_first : (a b : Bool) → a ≡ true → (a || b) ≡ true
either_first a b h = rw h refl

second_not : (a b : Bool) → a ≡ true → (a && b) ≡ false → b ≡ false
second_not true b is h = h
second_not false b is h = absurd (false≢true is)

-- a request that waits to make an open which is none of those under it came by another place
not_under : (under : Scope) (es : List (ℕ × Waiting)) (e : ℕ × Waiting) → IsIn e es → makes_open e.1.request ≡ true → list_any (nat_eq e.1.opened) (made_in under es) ≡ false → covers under e.1.place ≡ false
not_under under [] e here makes none = absurd here
not_under under (x ∷ es) e here makes none =
    elim (cases_Bool (makes_under under x.1)) [
      | inl in_it ↦ elim here [
        | inl same ↦ absurd (true≢false (sym (first x same in_it none) ∙ refl))
        | inr rest ↦ not_under under es e rest makes (behind x in_it none)
      ]
      | inr out ↦ elim here [
        | inl same ↦ apart x same out
        | inr rest ↦ not_under under es e rest makes (rw out at none)
      ]
    ]
  where
    first : (y : ℕ × Waiting) → y ≡ e → makes_under under y.1 ≡ true → list_any (nat_eq e.1.opened) (made_in under (y ∷ es)) ≡ false → false ≡ true
    first y same in_it none_there = let n : list_any (nat_eq e.1.opened) (y.1.opened ∷ made_in under es) ≡ false = rw in_it at none_there in absurd (true≢false (sym (either_first (eqb e.1.opened y.1.opened) _ (ap (λ (z : ℕ × Waiting). eqb e.1.opened z.1.opened) same ∙ equal_self e.1.opened)) ∙ n))

    behind : (y : ℕ × Waiting) → makes_under under y.1 ≡ true → list_any (nat_eq e.1.opened) (made_in under (y ∷ es)) ≡ false → list_any (nat_eq e.1.opened) (made_in under es) ≡ false
    behind y in_it none_there = let n : list_any (nat_eq e.1.opened) (y.1.opened ∷ made_in under es) ≡ false = rw in_it at none_there in any_of (nat_eq e.1.opened) (y.1.opened ∷ []) (made_in under es) n

    apart : (y : ℕ × Waiting) → y ≡ e → makes_under under y.1 ≡ false → covers under e.1.place ≡ false
    apart y same out = second_not (makes_open e.1.request) (covers under e.1.place) makes (ap (λ (z : ℕ × Waiting). makes_under under z.1) (sym same) ∙ out)

pub apart_under : (under : Scope) (l : Lists) (e : ℕ × Waiting) → IsIn e l.waiting → makes_open e.1.request ≡ true → list_any (nat_eq e.1.opened) (numbers_under under l) ≡ false → covers under e.1.place ≡ false
apart_under under l e here makes none = not_under under l.waiting e here makes (any_of (nat_eq e.1.opened) (opens_under under l) (creates_under under l) none)
