-- Each NFSv4 client has the delegations that it had where others ask, wait, answer, come or go.
use Rattle.std.proofs.Common.{◌≡◌, ◌⊎◌, ℕ, Bool, true, false, not, List, [], ◌∷◌, ◌++◌, Option, Some, None, is_some, refl, sym, ap, subst, ◌∙◌, inl, inr, true≢false}
use Rattle.std.proofs.lemmas.Bool.{and_parts, cases_Bool}
use Rattle.std.specs.Bool.{◌==◌}
use Rattle.std.specs.List.{find, slice_get}
use Rattle.std.specs.Prelude.{◌&&◌, IfSome}
use Rattle.xl_base.proofs.Members.{all_in, in_append_right}
use Rattle.xl_base.specs.Lists.{IsIn}
use Rattle.xl_base.specs.Stable.{same_protocol}
use Rattle.xl_base.specs.declared.name.Owner.{Owner}
use Rattle.xl_base.specs.declared.name.Owner.TheVariants as owners
use Rattle.xl_base.specs.declared.name.Party.{Party}
use Rattle.xl_base.specs.declared.name.Party.TheVariants as parties
use Rattle.xl_base.specs.declared.name.Protocol.{Protocol}
use Rattle.xl_base.specs.declared.name.Protocol.TheVariants.{Nlm, Nfs, Smb}
use Rattle.xl_cache.specs.Parties.{is_kind_of}
use Rattle.xl_cache.specs.Targets.{is_delegation}
use Rattle.xl_matrix.proofs.EqualLaws.{same_parties-true}
use Rattle.xl_matrix.specs.Equal.{same_parties}
use Rattle.xl_matrix.specs.declared.claim.CacheKind.{CacheKind}
use Rattle.xl_matrix.specs.declared.claim.Claim.{Claim}
use Rattle.xl_matrix.specs.declared.claim.What.TheVariants as whats
use Rattle.xl_names.specs.Names.{protocol_of}
use Rattle.xl_names.specs.declared.name.Name.{Name}
use Rattle.xl_names.specs.declared.name.Name.TheVariants.{NlmRange, NlmShare, NlmParty, NfsRange, NfsShare, NfsParty, SmbLease}
use Rattle.xl_nfs_state.specs.State.{NfsLists}
use Rattle.xl_table.specs.Flat.{with_what}
use Rattle.xl_table.specs.Held.{is_cache}
use Rattle.xl_wait.specs.declared.waiter.Rooms.{Rooms}
use Rattle.xl_wait.specs.declared.waiter.Waiter.{Waiter}
use Rattle.xl_core.proofs.DeedCaches.{deeds_caches}
use Rattle.xl_core.proofs.SettleLaws.{turn_is}
use Rattle.xl_core.proofs.WayAsks.{ask_own}
use Rattle.xl_core.proofs.WayLaws.{Begins, NoWay, way_is}
use Rattle.xl_core.specs.Askers.{asking_party, client_of, is_name, party_in, who_entered}
use Rattle.xl_core.specs.BreakAnswers.{client_of as client_by, id_of, with_rest}
use Rattle.xl_core.specs.Causes.{IsTurn}
use Rattle.xl_core.specs.Decide.{ask, way}
use Rattle.xl_core.specs.Deeds.{Deed, Asks, GivesBack, Acks, Ends, Closes, Serves, Lapses, Expires, caches_after, caches_without, caches_without_party, done, turned, IsFitDeed}
use Rattle.xl_core.specs.Good.{IsGood, IsHeld, IsWaiter, IsWished, agree, are_kept, caches_beside, caches_of, is_lease_of}
use Rattle.xl_core.specs.Places.{is_cache_on}
use Rattle.xl_core.specs.Settle.{plea_again, settle, way_again}
use Rattle.xl_core.specs.State.{CoreState}
use Rattle.xl_core.specs.declared.ask.Ask.{Ask}
use Rattle.xl_core.specs.declared.ask.Effect.{Effect}
use Rattle.xl_core.specs.declared.ask.Who.{Who}
use Rattle.xl_core.specs.declared.ask.Who.TheVariants as who
use Rattle.xl_nfs_opens.specs.Opens.{delegation_in}
use Rattle.xl_nfs_laws.specs.Delegated.{AreDelegated, delegation_held}
use Rattle.xl_nfs_laws.specs.OtherDeeds.{is_nfs_party, is_nfs_who, SparesNfs}
use Rattle.xl_nfs_laws.proofs.QuietCacheLaws.{asked_kind, begun_kind, deed_held, find_changed, find_kept, find_removed, kind_among, kind_in}

-- ---- caches of others

on_party : (file number : ℕ) (c : Claim) → is_cache_on file (parties.Name Nfs number) c ≡ true → c.party ≡ parties.Name Nfs number
on_party file number c on =
    let party = parties.Name Nfs number in
    same_parties-true c.party party (and_parts (c.file == file) (same_parties c.party party) (and_parts (is_cache c.what) ((c.file == file) && same_parties c.party party) on).1).1

-- a party that is no client of NFSv4 has no cache of one
other_cache : (file number : ℕ) (c : Claim) → is_nfs_party c.party ≡ false → is_cache_on file (parties.Name Nfs number) c ≡ false
other_cache file number c other =
    elim (cases_Bool (is_cache_on file (parties.Name Nfs number) c)) [
      | inr e ↦ e
      | inl on ↦ absurd (true≢false (sym (ap is_nfs_party (on_party file number c on)) ∙ other))
    ]

-- and is another party
other_party : (file number : ℕ) (party : Party) (c : Claim) → is_nfs_party party ≡ false → is_cache_on file (parties.Name Nfs number) c ≡ true → same_parties c.party party ≡ false
other_party file number party c other on =
    elim (cases_Bool (same_parties c.party party)) [
      | inr e ↦ e
      | inl same ↦ absurd (true≢false (sym (ap is_nfs_party (on_party file number c on)) ∙ ap is_nfs_party (same_parties-true c.party party same) ∙ other))
    ]

-- beside its cache all of theirs are found
beside_kind : (at : ℕ) (party : Party) (cs : List Claim) (file number : ℕ) → is_nfs_party party ≡ false → kind_in (caches_beside at party cs) file number ≡ kind_in cs file number
beside_kind at party cs file number other =
    ap delegation_in (find_kept (is_cache_on file (parties.Name Nfs number)) (λ (c : Claim). not (is_cache c.what && ((c.file == at) && same_parties c.party party))) (caches_of cs) (λ c there on. ap not (apart c on)))
    ∙ kind_among cs file number
  where
    apart : (c : Claim) → is_cache_on file (parties.Name Nfs number) c ≡ true → (is_cache c.what && ((c.file == at) && same_parties c.party party)) ≡ false
    apart c on =
        elim (cases_Bool (is_cache c.what && ((c.file == at) && same_parties c.party party))) [
          | inr e ↦ e
          | inl its ↦ absurd (true≢false (sym (and_parts (c.file == at) (same_parties c.party party) (and_parts (is_cache c.what) ((c.file == at) && same_parties c.party party) its).1).1 ∙ other_party file number party c other on))
        ]

without_kind : (party : Party) (cs : List Claim) (file number : ℕ) → is_nfs_party party ≡ false → kind_in (caches_without_party (Some party) cs) file number ≡ kind_in cs file number
without_kind party cs file number other =
    ap delegation_in (find_kept (is_cache_on file (parties.Name Nfs number)) (λ (c : Claim). not (same_parties c.party party)) cs (λ c there on. ap not (other_party file number party c other on)))

some_kind : (party : Option Party) (cs : List Claim) (file number : ℕ) → IfSome party (λ p. is_nfs_party p ≡ false) → kind_in (caches_without_party party cs) file number ≡ kind_in cs file number
some_kind None cs file number other = refl
some_kind (Some party) cs file number other = without_kind party cs file number other

rest_kind : (cache : Claim) (to : Option CacheKind) (cs : List Claim) (file number : ℕ) → is_nfs_party cache.party ≡ false → kind_in (with_rest cache to cs) file number ≡ kind_in cs file number
rest_kind cache None cs file number other = ap delegation_in (find_removed (is_cache_on file (parties.Name Nfs number)) cache cs (other_cache file number cache other))
rest_kind cache (Some kind) cs file number other =
    ap delegation_in (find_changed (is_cache_on file (parties.Name Nfs number)) cache (whats.Cache kind None) cs (other_cache file number cache other) (other_cache file number (with_what cache (whats.Cache kind None)) other))

-- ---- an ask

asker_other : (w : Who) (names : List Name) → is_nfs_who w ≡ false → is_nfs_party (party_in w names) ≡ false
asker_other (who.Named name) names other = other
asker_other (who.Open number) names other = refl

ask_kind : (n : ℕ) (left : Rooms) (s : CoreState) (a : Ask) (file number : ℕ) → IsGood s → IsFitDeed s (Asks left a) → is_nfs_who a.party ≡ false → kind_in (ask n left s a).2.claims file number ≡ kind_in s.claims file number
ask_kind n left s a file number good fit other =
    let t = (way left s a).1 in
    let party = asking_party a t.names in
    let plain = asker_other a.party (who_entered a.owner t.names) other in
    sym (beside_kind a.file party (ask n left s a).2.claims file number plain)
    ∙ ap (λ (cs : List Claim). kind_in cs file number) (ask_own n left s a good fit.party).caches
    ∙ beside_kind a.file party t.claims file number plain
    ∙ sym (kind_among t.claims file number)
    ∙ asked_kind left s a file number good

-- ---- a turn

again_kind : (earlier : List Waiter) (s : CoreState) (w : Waiter) (file number : ℕ) → IsGood s → kind_in (way_again earlier s w).1.claims file number ≡ kind_in s.claims file number
again_kind earlier s w file number good =
    elim (way_is earlier (plea_again s w) w.asked s) [
      | NoWay e ↦ ap (λ (way : List Effect × CoreState). kind_in way.1.claims file number) e
      | Begins c cs is does e ↦ ap (λ (way : List Effect × CoreState). kind_in way.1.claims file number) e ∙ begun_kind c s file number good
    ]

plain_party : (party : Party) (kind : CacheKind) → is_kind_of party kind ≡ true → is_delegation kind ≡ false → is_nfs_party party ≡ false
unfolding is_kind_of
plain_party (parties.Name Nlm number) kind may plain = refl
plain_party (parties.Name Nfs number) kind may plain = absurd (true≢false (sym may ∙ plain))
plain_party (parties.Name Smb number) kind may plain = refl
plain_party (parties.Open number) kind may plain = refl

-- who waits with a wish is no client of NFSv4
waiter_plain : (kinds : List CacheKind) (claim : Claim) (claims : List Claim) → IsWished kinds (claim ∷ claims) → (kinds ≡ []) ⊎ (is_nfs_party claim.party ≡ false)
waiter_plain [] claim claims wished = inl refl
waiter_plain (kind ∷ kinds) claim claims wished = inr (plain_party claim.party kind wished.0.0 wished.0.2)

turn_kind : (n : ℕ) (left : Rooms) (s t : CoreState) (told : List Effect) (file number : ℕ) → IsGood s → IsTurn n left s told t → kind_in t.claims file number ≡ kind_in s.claims file number
turn_kind n left s t told file number good turn =
    let w = turn.waiter in
    let u = (way_again turn.before s w).1 in
    let there : IsIn w s.waiters = subst (λ (ws : List Waiter). IsIn w ws) (sym turn.stood) (in_append_right w turn.before (w ∷ turn.behind) (inl refl)) in
    let is = all_in (IsWaiter s.names s.counter) w s.waiters good.waiters there in
    let wished = subst (λ (asked : List Claim). IsWished w.wish asked) turn.asked is.3 in
    elim (waiter_plain w.wish turn.claim turn.claims wished) [
      | inl none ↦
          sym (kind_among t.claims file number)
          ∙ ap (λ (cs : List Claim). kind_in cs file number) (turn.unwished none)
          ∙ kind_among u.claims file number
          ∙ again_kind turn.before s w file number good
      | inr plain ↦
          sym (beside_kind turn.claim.file turn.claim.party t.claims file number plain)
          ∙ ap (λ (cs : List Claim). kind_in cs file number) turn.caches
          ∙ beside_kind turn.claim.file turn.claim.party u.claims file number plain
          ∙ again_kind turn.before s w file number good
    ]

turned_kind : (n : ℕ) (left : Rooms) (s : CoreState) (file number : ℕ) → IsGood s → (o : Option (List Effect × CoreState)) → IfSome o (λ r. IsTurn n left s r.0 r.1) → kind_in (turned s o).2.claims file number ≡ kind_in s.claims file number
turned_kind n left s file number good None turn = refl
turned_kind n left s file number good (Some r) turn = turn_kind n left s r.1 r.0 file number good turn

-- ---- each deed

-- by what it leaves of the caches
after_kind : (n : ℕ) (s : CoreState) (d : Deed) (file number : ℕ) → IsGood s → IsFitDeed s d → kind_in (caches_after n s d (caches_of s.claims)) file number ≡ kind_in (caches_of s.claims) file number → kind_in (done n s d).claims file number ≡ kind_in s.claims file number
after_kind n s d file number good fit same =
    sym (kind_among (done n s d).claims file number)
    ∙ ap (λ (cs : List Claim). kind_in cs file number) (deeds_caches n s (d ∷ []) good (fit, tt))
    ∙ same
    ∙ kind_among s.claims file number

other_kind : (n : ℕ) (s : CoreState) (d : Deed) (file number : ℕ) → IsGood s → IsFitDeed s d → SparesNfs d → kind_in (done n s d).claims file number ≡ kind_in s.claims file number
other_kind n s (Asks left a) file number good fit spares = ask_kind n left s a file number good fit spares
other_kind n s (Serves left) file number good fit spares = turned_kind n left s file number good (settle n left s) (turn_is n left s good)
other_kind n s (GivesBack claim) file number good fit spares =
    after_kind n s (GivesBack claim) file number good fit (ap delegation_in (find_removed (is_cache_on file (parties.Name Nfs number)) claim (caches_of s.claims) (other_cache file number claim spares)))
other_kind n s (Acks cache to) file number good fit spares = after_kind n s (Acks cache to) file number good fit (rest_kind cache to (caches_of s.claims) file number spares)
other_kind n s (Ends party) file number good fit spares = after_kind n s (Ends party) file number good fit (without_kind party (caches_of s.claims) file number spares)
other_kind n s (Closes opened party) file number good fit spares = after_kind n s (Closes opened party) file number good fit (some_kind party (caches_of s.claims) file number spares)
other_kind n s (Lapses cache) file number good fit spares = absurd spares
other_kind n s (Expires client) file number good fit spares = absurd spares
other_kind n s d file number good fit spares = after_kind n s d file number good fit refl

-- each client has the delegations that it had
pub other_held : (n : ℕ) (s : CoreState) (d : Deed) (id : List ℕ) (file : ℕ) → IsGood s → IsFitDeed s d → SparesNfs d → delegation_held (done n s d) id file ≡ delegation_held s id file
other_held n s d id file good fit spares =
    deed_held n s d id file good fit
    (λ number known.
    ap (λ (cs : List Claim). kind_in cs file number) (sym (deeds_caches n s (d ∷ []) good (fit, tt))) ∙ kind_among (done n s d).claims file number ∙ other_kind n s d file number good fit spares)

-- ---- a break that is over of a cache that is no client's of NFSv4

-- a lease of SMB is no name of NFSv4
no_lease : (o : Option Name) → is_lease_of Nfs o ≡ true → ⊥
no_lease None e = true≢false (sym e)
no_lease (Some (NlmRange caller svid oh)) e = true≢false (sym e)
no_lease (Some (NlmShare caller oh)) e = true≢false (sym e)
no_lease (Some (NlmParty caller)) e = true≢false (sym e)
no_lease (Some (NfsRange client owner)) e = true≢false (sym e)
no_lease (Some (NfsShare client owner)) e = true≢false (sym e)
no_lease (Some (NfsParty client)) e = true≢false (sym e)
no_lease (Some (SmbLease guid key)) e = true≢false (sym e)

-- the client of an owner is no owner
no_range : (owner : Name) (client bytes : List ℕ) → is_name (client_of owner) (NfsRange client bytes) ≡ false
no_range (NlmRange caller svid oh) client bytes = refl
no_range (NlmShare caller oh) client bytes = refl
no_range (NlmParty caller) client bytes = refl
no_range (NfsRange other owner) client bytes = refl
no_range (NfsShare other owner) client bytes = refl
no_range (NfsParty other) client bytes = refl
no_range (SmbLease guid key) client bytes = refl

no_share : (owner : Name) (client bytes : List ℕ) → is_name (client_of owner) (NfsShare client bytes) ≡ false
no_share (NlmRange caller svid oh) client bytes = refl
no_share (NlmShare caller oh) client bytes = refl
no_share (NlmParty caller) client bytes = refl
no_share (NfsRange other owner) client bytes = refl
no_share (NfsShare other owner) client bytes = refl
no_share (NfsParty other) client bytes = refl
no_share (SmbLease guid key) client bytes = refl

-- a name of NFSv4 that stands for an owner's client is a client's
named_client : (protocol : Protocol) (owner : Name) (x : Name) → agree protocol Nfs (Some owner) (Some x) ≡ true → id_of (Some x) ≡ None → ⊥
named_client protocol owner x e none =
    let parts = and_parts (same_protocol protocol (protocol_of owner)) (same_protocol Nfs (protocol_of x) && is_name (client_of owner) x) e in
    let both = and_parts (same_protocol Nfs (protocol_of x)) (is_name (client_of owner) x) parts.1 in
    by x both.0 both.1 none
  where
    by : (y : Name) → same_protocol Nfs (protocol_of y) ≡ true → is_name (client_of owner) y ≡ true → id_of (Some y) ≡ None → ⊥
    by (NfsParty client) same is nobody = true≢false (ap is_some nobody)
    by (NfsRange client bytes) same is nobody = true≢false (sym is ∙ no_range owner client bytes)
    by (NfsShare client bytes) same is nobody = true≢false (sym is ∙ no_share owner client bytes)
    by (NlmRange caller svid oh) same is nobody = true≢false (sym same)
    by (NlmShare caller oh) same is nobody = true≢false (sym same)
    by (NlmParty caller) same is nobody = true≢false (sym same)
    by (SmbLease guid key) same is nobody = true≢false (sym same)

agreed_client : (protocol : Protocol) (owner party : Option Name) → agree protocol Nfs owner party ≡ true → id_of party ≡ None → ⊥
agreed_client protocol None party e none = true≢false (sym e)
agreed_client protocol (Some owner) None e none = true≢false (sym e)
agreed_client protocol (Some owner) (Some party) e none = named_client protocol owner party e none

-- so a party that is no client's isn't of NFSv4
no_client : (names : List Name) (owner : Owner) (party : Party) → are_kept names owner party ≡ true → client_by names party ≡ None → is_nfs_party party ≡ false
no_client names owner (parties.Open number) kept none = refl
no_client names owner (parties.Name Nlm number) kept none = refl
no_client names owner (parties.Name Smb number) kept none = refl
no_client names (owners.Open number) (parties.Name Nfs at) kept none = absurd (no_lease (slice_get names at) kept)
no_client names (owners.Name protocol number) (parties.Name Nfs at) kept none = absurd (agreed_client protocol (slice_get names number) (slice_get names at) kept none)

pub lapsed_held : (n : ℕ) (s : CoreState) (cache : Claim) (id : List ℕ) (file : ℕ) → IsGood s → IsFitDeed s (Lapses cache) → IsIn cache s.claims → client_by s.names cache.party ≡ None → delegation_held (done n s (Lapses cache)) id file ≡ delegation_held s id file
lapsed_held n s cache id file good fit here nobody =
    let plain = no_client s.names cache.owner cache.party (all_in (IsHeld s.names) cache s.claims good.known here).1 nobody in
    deed_held n s (Lapses cache) id file good fit
    (λ number known.
    ap (λ (o : Option (List ℕ)). kind_in (caches_without s.names cache o (caches_of s.claims)) file number) nobody
    ∙ rest_kind cache None (caches_of s.claims) file number plain
    ∙ kind_among s.claims file number)

-- so its delegations are those that its caches are
pub others_delegated : (n : ℕ) (s : CoreState) (l : NfsLists) (d : Deed) → IsGood s → IsFitDeed s d → SparesNfs d → AreDelegated s l → AreDelegated (done n s d) l
others_delegated n s l d good fit spares delegated = λ id file. other_held n s d id file good fit spares ∙ delegated id file
