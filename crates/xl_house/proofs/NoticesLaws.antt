-- What is sent of an effect is what is due to it.
use Rattle.std.proofs.Common.{◌≡◌, ℕ, ◌+◌, ◌≤◌, Bool, List, [], ◌∷◌, map, Option, Some, None, refl, sym, ap, subst, ◌∙◌, inl, inr}
use Rattle.std.proofs.lemmas.Bool.{cases_Bool, leb-true, le-leb}
use Rattle.std.specs.Prelude.{nat_le, option_map, slice_get, if◌then◌else◌}
use Rattle.std.specs.Option.{option_and_then}
use Rattle.xl_base.specs.Lists.{IsIn}
use Rattle.xl_base.specs.declared.event.Kind.TheVariants.{Rpc, Smb as SmbStream}
use Rattle.xl_base.specs.declared.event.Dest.TheVariants.{Conn}
use Rattle.xl_base.specs.declared.event.Out.{Out}
use Rattle.xl_base.specs.declared.journal.Exports.{Exports}
use Rattle.xl_base.specs.declared.name.Owner.{Owner}
use Rattle.xl_base.specs.declared.name.Owner.TheVariants as owners
use Rattle.xl_base.specs.declared.name.Party.{Party}
use Rattle.xl_base.specs.declared.name.Party.TheVariants as parties
use Rattle.xl_base.specs.declared.name.Protocol.{Protocol}
use Rattle.xl_base.specs.declared.name.Protocol.TheVariants.{Nlm, Nfs, Smb}
use Rattle.xl_matrix.specs.declared.claim.CacheKind.{CacheKind}
use Rattle.xl_matrix.specs.declared.claim.Claim.{Claim}
use Rattle.xl_matrix.specs.declared.claim.Extent.TheVariants.{Bytes, Empty}
use Rattle.xl_matrix.specs.declared.claim.What.{What}
use Rattle.xl_matrix.specs.declared.claim.What.TheVariants.{Share, Range, Cache}
use Rattle.xl_names.specs.declared.name.Name.{Name}
use Rattle.xl_names.specs.declared.name.Name.TheVariants.{NlmRange, NlmShare, NlmParty, NfsRange, NfsShare, NfsParty, SmbLease}
use Rattle.xl_smb_state.proofs.RowLaws.{none_some, same_Some}
use Rattle.xl_smb_state.specs.State.{Lists, open_of, lowest_open, waiting_of}
use Rattle.xl_smb_state.specs.declared.row.Holder.{Holder}
use Rattle.xl_smb_state.specs.declared.row.Holder.TheVariants as holder
use Rattle.xl_smb_state.specs.declared.row.Open.{Open}
use Rattle.xl_smb_state.specs.declared.row.Place.{Place}
use Rattle.xl_smb_state.specs.declared.row.Waiting.{Waiting}
use Rattle.xl_core.specs.Ids.{id_of}
use Rattle.xl_core.specs.State.{CoreState}
use Rattle.xl_core.specs.Told.{told_to}
use Rattle.xl_core.specs.declared.ask.Answer.{Answer}
use Rattle.xl_core.specs.declared.ask.Answer.TheVariants as answers
use Rattle.xl_core.specs.declared.ask.Effect.{Effect}
use Rattle.xl_core.specs.declared.ask.Effect.TheVariants.{Begun, Served, Cancelled, Expired}
use Rattle.xl_frame.specs.Frames.{wrapped}
use Rattle.xl_front_nlm.specs.Grants.{address_of, addressed, bytes_of, call_of, grant_by, grant_of, name_of, shown, told_by, with_address}
use Rattle.xl_front_nlm.specs.State.{FrontState}
use Rattle.xl_front_nlm.specs.declared.grant.Grant.{Grant}
use Rattle.xl_front_nfs.specs.Recalls.{recalls}
use Rattle.xl_front_nfs.specs.State.{FrontNfs}
use Rattle.xl_front_smb.specs.FrontSmb.{smb_shown}
use Rattle.xl_front_smb.specs.State.{FrontSmb}
use Rattle.xl_smb_locks.specs.Finals.{concluded, final_reply, refusal_of, request_served, served_with, told_of}
use Rattle.xl_smb_locks.specs.Levels.{lease_notice_of, notice_of, noticed, noticed_by, noticed_to, noticed_under}
use Rattle.xl_smb_locks.proofs.NoticeLaws.{served_final}
use Rattle.xl_smb_laws.proofs.ReplyHeadLaws.{final_carries}
use Rattle.xl_nfs_laws.proofs.RecallLaws.{recall_alone, recall_exactly}
use Rattle.xl_house.specs.Notices.{IsFinalIf, IsGrantOf, IsGrantSent, Called, Unreached, IsNews, IsNewsBy, IsNfsNews, IsNlmNews, IsNotice, Oplock, Lease, IsOneIf, IsRecallSent, Recalled, Returned, IsSmbNews, connection_by, connection_of, connection_under, reached_by}
use Rattle.xl_house.specs.Telling.{framed, shown_by}
use Rattle.xl_house.specs.declared.layers.Fronts.{Fronts}

-- ---- a grant

fits_grant : (names : List Name) (claim : Claim) (g : Grant) → IsGrantOf names claim g → grant_of names claim ≡ Some g
unfolding grant_of
fits_grant names claim g is =
    ap (λ (w : What). grant_by claim.file (bytes_of w) (name_of names claim.owner)) is.range
    ∙ ap (λ (b : Bool). grant_by claim.file (if b then Some (g.first, g.last, g.exclusive) else None) (name_of names claim.owner)) (le-leb g.first g.last is.real)
    ∙ ap (λ (o : Owner). grant_by claim.file (Some (g.first, g.last, g.exclusive)) (name_of names o)) is.owner
    ∙ ap (λ (o : Option Name). grant_by claim.file (Some (g.first, g.last, g.exclusive)) o) is.named
    ∙ ap (λ (file : ℕ). Some (record { file = file; caller = g.caller; svid = g.svid; oh = g.oh; first = g.first; last = g.last; exclusive = g.exclusive })) is.file

abbrev Fits : List Name → Claim → Option Grant → Type 0
Fits names claim None = Unit {0}
Fits names claim (Some g) = IsGrantOf names claim g

named_fits : (names : List Name) (claim : Claim) (first last : ℕ) (exclusive : Bool) (number : ℕ) (o : Option Name) → claim.what ≡ Range (Bytes first last) exclusive → first ≤ last → claim.owner ≡ owners.Name Nlm number → slice_get names number ≡ o
    → Fits names claim (grant_by claim.file (Some (first, last, exclusive)) o)
named_fits names claim first last exclusive number None range real owner named = tt
named_fits names claim first last exclusive number (Some (NlmRange caller svid oh)) range real owner named = record { number = number; owner = owner; named = named; file = refl; range = range; real = real }
named_fits names claim first last exclusive number (Some (NlmShare caller oh)) range real owner named = tt
named_fits names claim first last exclusive number (Some (NlmParty caller)) range real owner named = tt
named_fits names claim first last exclusive number (Some (NfsRange client owns)) range real owner named = tt
named_fits names claim first last exclusive number (Some (NfsShare client owns)) range real owner named = tt
named_fits names claim first last exclusive number (Some (NfsParty client)) range real owner named = tt
named_fits names claim first last exclusive number (Some (SmbLease guid key)) range real owner named = tt

owned_fits : (names : List Name) (claim : Claim) (first last : ℕ) (exclusive : Bool) (o : Owner) → claim.what ≡ Range (Bytes first last) exclusive → first ≤ last → claim.owner ≡ o → Fits names claim (grant_by claim.file (Some (first, last, exclusive)) (name_of names o))
owned_fits names claim first last exclusive (owners.Name Nlm number) range real owner = named_fits names claim first last exclusive number (slice_get names number) range real owner refl
owned_fits names claim first last exclusive (owners.Name Nfs number) range real owner = tt
owned_fits names claim first last exclusive (owners.Name Smb number) range real owner = tt
owned_fits names claim first last exclusive (owners.Open number) range real owner = tt

claim_fits : (names : List Name) (claim : Claim) (w : What) → claim.what ≡ w → Fits names claim (grant_by claim.file (bytes_of w) (name_of names claim.owner))
claim_fits names claim (Share access deny) range = tt
claim_fits names claim (Range (Bytes first last) exclusive) range =
    elim (cases_Bool (nat_le first last)) [
      | inl e ↦ rw e (owned_fits names claim first last exclusive claim.owner range (leb-true first last e) refl)
      | inr e ↦ rw e tt
    ]
claim_fits names claim (Range (Empty at) exclusive) range = tt
claim_fits names claim (Cache kind running) range = tt

grant_fits : (names : List Name) (claim : Claim) (g : Grant) → grant_of names claim ≡ Some g → IsGrantOf names claim g
unfolding grant_of
grant_fits names claim g e = subst (Fits names claim) e (claim_fits names claim claim.what refl)

grant_sent : (exports : Exports) (f : FrontState) (s : CoreState) (claim : Claim) (o : Option Grant) → grant_of s.names claim ≡ o → IsGrantSent exports s claim (map (framed Rpc) (told_by f s (option_map (λ told. (claim, told.0, told.1)) (addressed exports o))).0)
grant_sent exports f s claim None e = Unreached (λ g to is at. none_some (sym e ∙ fits_grant s.names claim g is)) refl
grant_sent exports f s claim (Some g) e = by (address_of exports.addresses g.caller) refl
  where
    by : (o : Option (List ℕ)) → address_of exports.addresses g.caller ≡ o → IsGrantSent exports s claim (map (framed Rpc) (told_by f s (option_map (λ told. (claim, told.0, told.1)) (with_address g o))).0)
    by None at = Unreached (λ h to is there. none_some (sym at ∙ ap (λ (x : Grant). address_of exports.addresses x.caller) (same_Some (sym e ∙ fits_grant s.names claim h is)) ∙ there)) refl
    by (Some to) at = Called g to (call_of (s.counter + 1) to g) (grant_fits s.names claim g e) at refl refl refl refl

nlm_news : (exports : Exports) (f : FrontState) (s : CoreState) (effect : Effect) → IsNlmNews exports s effect (map (framed Rpc) (shown exports f s effect).0)
unfolding shown
nlm_news exports f s (Served party id (answers.Granted claim)) = grant_sent exports f s claim (grant_of s.names claim) refl
nlm_news exports f s (Served party id (answers.Queued number)) = refl
nlm_news exports f s (Served party id (answers.Conflict c)) = refl
nlm_news exports f s (Served party id (answers.Recall c)) = refl
nlm_news exports f s (Served party id (answers.Grace until)) = refl
nlm_news exports f s (Served party id (answers.NoGrace clock)) = refl
nlm_news exports f s (Served party id answers.NotRecorded) = refl
nlm_news exports f s (Served party id (answers.Full limit)) = refl
nlm_news exports f s (Served party id answers.NotHeld) = refl
nlm_news exports f s (Served party id answers.StoreFailed) = refl
nlm_news exports f s (Begun cache to call) = refl
nlm_news exports f s (Cancelled party id) = refl
nlm_news exports f s (Expired client) = refl

-- ---- a recall

none_one : (out : Out) → [] ≡ (out ∷ []) → ⊥
none_one out e = cc

recall_sent : (f : FrontNfs) (s : CoreState) (cache : Claim) (to : Option CacheKind) (number : ℕ) (outs : List Out) → recalls f s (Begun cache to (Some number)) ≡ outs → IsRecallSent f s cache number (map (framed Rpc) outs)
recall_sent f s cache to number [] e = Returned (λ out is. none_one out (sym e ∙ recall_alone f s cache to number out ((recall_exactly f s cache to number out).1 is))) refl
recall_sent f s cache to number (out ∷ rest) e =
    let here = subst (λ (xs : List Out). IsIn out xs) (sym e) (inl refl) in
    let is = (recall_exactly f s cache to number out).0 here in
    let same : framed Rpc out ≡ out = ap (λ (x : Out). framed Rpc x) is.sent ∙ sym is.sent in
    Recalled out is (ap (λ (xs : List Out). map (framed Rpc) xs) (sym e ∙ recall_alone f s cache to number out here) ∙ ap (λ (x : Out). x ∷ []) same)

nfs_news : (f : FrontNfs) (s : CoreState) (effect : Effect) → IsNfsNews f s effect (map (framed Rpc) (recalls f s effect))
unfolding recalls
nfs_news f s (Begun cache to (Some number)) = recall_sent f s cache to number (recalls f s (Begun cache to (Some number))) refl
nfs_news f s (Begun cache to None) = refl
nfs_news f s (Served party id answer) = refl
nfs_news f s (Cancelled party id) = refl
nfs_news f s (Expired client) = refl

-- ---- a notice

held_noticed : (bytes : List ℕ) (Says : List ℕ → Type 0) (by : Holder) → Says bytes → IsOneIf (connection_by by) Says (map (framed SmbStream) (noticed_by bytes by))
held_noticed bytes Says (holder.Tree place) says = (bytes, says, refl)
held_noticed bytes Says (holder.Nobody until) says = refl

open_noticed : (bytes : List ℕ) (Says : List ℕ → Type 0) (o : Option Open) → Says bytes → IsOneIf (connection_of o) Says (map (framed SmbStream) (noticed_to bytes o))
open_noticed bytes Says None says = refl
open_noticed bytes Says (Some row) says = held_noticed bytes Says row.holder says

lease_noticed : (s : CoreState) (l : Lists) (cache : Claim) (to : Option CacheKind) (protocol : Protocol) (number : ℕ) (o : Option Name) → cache.party ≡ parties.Name protocol number → slice_get s.names number ≡ o → IsOneIf (connection_under l o) (IsNotice s cache to) (map (framed SmbStream) (noticed_under cache.what to l o))
lease_noticed s l cache to protocol number None party named = refl
lease_noticed s l cache to protocol number (Some (SmbLease client key)) party named =
    open_noticed (lease_notice_of key cache.what to) (IsNotice s cache to) (option_and_then (λ k. open_of k l) (lowest_open (record { client = client; key = key }) l)) (Lease protocol number client key party named refl)
lease_noticed s l cache to protocol number (Some (NlmRange caller svid oh)) party named = refl
lease_noticed s l cache to protocol number (Some (NlmShare caller oh)) party named = refl
lease_noticed s l cache to protocol number (Some (NlmParty caller)) party named = refl
lease_noticed s l cache to protocol number (Some (NfsRange client owns)) party named = refl
lease_noticed s l cache to protocol number (Some (NfsShare client owns)) party named = refl
lease_noticed s l cache to protocol number (Some (NfsParty client)) party named = refl

party_noticed : (s : CoreState) (l : Lists) (cache : Claim) (to : Option CacheKind) (p : Party) → cache.party ≡ p → IsOneIf (reached_by s.names l p) (IsNotice s cache to) (map (framed SmbStream) (noticed s p cache.what to l))
party_noticed s l cache to (parties.Open number) party = open_noticed (notice_of (id_of s number) to) (IsNotice s cache to) (open_of number l) (Oplock number party refl)
party_noticed s l cache to (parties.Name protocol number) party = lease_noticed s l cache to protocol number (slice_get s.names number) party refl

-- ---- a final reply

unasked : (s : CoreState) (l : Lists) (party : Party) (id : ℕ) (answer : Answer) → waiting_of id l ≡ None → (told_of s (Served party id answer) l).0 ≡ []
unfolding told_of request_served
unasked s l party id answer none = ap (λ (o : Option Waiting). (served_with s id answer o l).0) none

final_sent : (s : CoreState) (l : Lists) (party : Party) (id : ℕ) (answer : Answer) (o : Option Waiting) → waiting_of id l ≡ o → IsFinalIf id o (map (framed SmbStream) (told_of s (Served party id answer) l).0)
final_sent s l party id answer None at = ap (λ (outs : List Out). map (framed SmbStream) outs) (unasked s l party id answer at)
final_sent s l party id answer (Some row) at = (final_reply id row (concluded s row (refusal_of answer row.request) l).0, final_carries id row (concluded s row (refusal_of answer row.request) l).0, ap (λ (outs : List Out). map (framed SmbStream) outs) (served_final s l party id answer row at).0)

told_news : (s : CoreState) (l : Lists) (effect : Effect) → IsSmbNews l s effect (map (framed SmbStream) (told_of s effect l).0)
unfolding told_of
told_news s l (Begun cache to call) = party_noticed s l cache to cache.party refl
told_news s l (Served party id answer) = final_sent s l party id answer (waiting_of id l) refl
told_news s l (Cancelled party id) = refl
told_news s l (Expired client) = refl

smb_news : (f : FrontSmb) (s : CoreState) (effect : Effect) → IsSmbNews f.state s effect (map (framed SmbStream) (smb_shown f s effect).0)
unfolding smb_shown
smb_news f s effect = told_news s f.state effect

-- ---- each effect

by_news : (exports : Exports) (f : Fronts) (s : CoreState) (effect : Effect) (p : Protocol) → IsNewsBy exports f s effect p (shown_by exports f s effect p).0
by_news exports f s effect Nlm = nlm_news exports f.nlm s effect
by_news exports f s effect Nfs = nfs_news f.nfs s effect
by_news exports f s effect Smb = smb_news f.smb s effect

pub effect_news : (exports : Exports) (f : Fronts) (s : CoreState) (effect : Effect) → IsNews exports f s effect (shown_by exports f s effect (told_to effect)).0
effect_news exports f s effect = by_news exports f s effect (told_to effect)

-- ---- machines that don't

-- one begins the break of an open's oplock and sends no notice
pub unnoticed_is : (l : Lists) (s : CoreState) (cache : Claim) (to : Option CacheKind) (call : Option ℕ) (number : ℕ) (row : Open) (place : Place) → cache.party ≡ parties.Open number → open_of number l ≡ Some row → row.holder ≡ holder.Tree place → IsSmbNews l s (Begun cache to call) [] → ⊥
unnoticed_is l s cache to call number row place party at held news =
    let reached : reached_by s.names l cache.party ≡ Some place.connection = ap (λ (p : Party). reached_by s.names l p) party ∙ ap (λ (o : Option Open). connection_of o) at ∙ ap connection_by held in
    let sent = subst (λ (o : Option ℕ). IsOneIf o (IsNotice s cache to) []) reached news in
    none_one (record { dest = Conn place.connection; to = []; bytes = wrapped SmbStream sent.0 }) sent.2

two_one : (a b c : Out) → (a ∷ b ∷ []) ≡ (c ∷ []) → ⊥
two_one a b c e = cc

two_none : (a b : Out) → (a ∷ b ∷ []) ≡ [] → ⊥
two_none a b e = cc

-- one sends a call of GRANTED twice
pub granted_twice_is : (exports : Exports) (s : CoreState) (party : Party) (id : ℕ) (claim : Claim) (call : Out) → IsNlmNews exports s (Served party id (answers.Granted claim)) (call ∷ call ∷ []) → ⊥
granted_twice_is exports s party id claim call (Called g to out is at sent dest address same) = two_one call call out sent
granted_twice_is exports s party id claim call (Unreached none sent) = two_none call call sent

-- one sends a final reply by another connection than the request's
same_dest : (a b : Out) → (a ∷ []) ≡ (b ∷ []) → a.dest ≡ b.dest
same_dest a b e = cc

pub final_astray_is : (l : Lists) (s : CoreState) (party : Party) (id : ℕ) (answer : Answer) (row : Waiting) (other : ℕ) (bytes : List ℕ) → waiting_of id l ≡ Some row → (Conn other ≡ Conn row.place.connection → ⊥) → IsSmbNews l s (Served party id answer) (record { dest = Conn other; to = []; bytes = bytes } ∷ []) → ⊥
final_astray_is l s party id answer row other bytes waits apart news =
    let sent = subst (λ (o : Option Waiting). IsFinalIf id o (record { dest = Conn other; to = []; bytes = bytes } ∷ [])) waits news in
    apart (same_dest (record { dest = Conn other; to = []; bytes = bytes }) (record { dest = Conn row.place.connection; to = []; bytes = wrapped SmbStream sent.0 }) sent.2)
