-- Final replies and notices go to connections on which requests wait or opens are held.
use Rattle.std.proofs.Common.{◌≡◌, ℕ, Bool, true, false, eqb, if◌then◌else◌, ◌++◌, List, [], ◌∷◌, Option, Some, None, refl, sym, ap, subst, inl, inr}
use Rattle.std.specs.Prelude.{nat_eq, slice_get}
use Rattle.std.specs.List.{AllByRecursion, IsDistinct, list_any}
use Rattle.std.specs.Map.{keys_of, lookup, remove_entry}
use Rattle.std.proofs.lemmas.Bool.{cases_Bool, true≢false}
use Rattle.std.proofs.lemmas.Map.Keys.{IsDistinct-head, IsDistinct-tail, IsDistinct-cons}
use Rattle.xl_base.proofs.Members.{all_append}
use Rattle.xl_base.specs.declared.event.Dest.{Dest}
use Rattle.xl_base.specs.declared.event.Dest.TheVariants.{Conn, Back}
use Rattle.xl_base.specs.declared.event.Out.{Out}
use Rattle.xl_base.specs.declared.name.Party.{Party}
use Rattle.xl_base.specs.declared.name.Party.TheVariants as parties
use Rattle.xl_matrix.specs.declared.claim.CacheKind.{CacheKind}
use Rattle.xl_smb_state.proofs.RowLaws.{none_some, some_none, same_Some, unequal_both}
use Rattle.xl_smb_state.specs.State.{Lists, open_of, waiting_of, waiting_dropped, with_open, lowest_open}
use Rattle.xl_smb_state.proofs.LeaseLaws.{with_keeps}
use Rattle.xl_smb_state.specs.declared.row.Holder.{Holder}
use Rattle.xl_smb_state.specs.declared.row.Holder.TheVariants as holder
use Rattle.xl_smb_state.specs.declared.row.Open.{Open}
use Rattle.xl_smb_state.specs.declared.row.Request.{Request}
use Rattle.xl_smb_state.specs.declared.row.Request.TheVariants as request
use Rattle.xl_smb_state.specs.declared.row.Waiting.{Waiting}
use Rattle.xl_core.specs.State.{CoreState}
use Rattle.xl_core.specs.declared.ask.Answer.{Answer}
use Rattle.xl_core.specs.declared.ask.Effect.{Effect}
use Rattle.xl_core.specs.declared.ask.Effect.TheVariants as effects
use Rattle.xl_smb_locks.specs.Finals.{concluded, ended_with, refusal_of, replied, request_ended, may_stand, stood, succeeded, served_with, request_served, told_of, is_cancelled, and_sent, dismissed}
use Rattle.xl_core.specs.Ids.{id_of}
use Rattle.xl_smb_locks.specs.Levels.{noticed_by, noticed_to, noticed, notice_of, lease_notice_of, noticed_under}
use Rattle.xl_smb_locks.proofs.FinalLaws.{stand_new}
use Rattle.xl_smb_locks.specs.declared.status.SmbStatus.{SmbStatus}
use Rattle.xl_smb_locks.specs.declared.status.SmbStatus.TheVariants.{Cancelled}
use Rattle.xl_matrix.specs.declared.claim.What.{What}
use Rattle.xl_names.specs.declared.name.Name.{Name}
use Rattle.xl_names.specs.declared.name.Name.TheVariants.{SmbLease}
use Rattle.std.specs.Option.{option_and_then}

-- an out goes to a connection of which this holds, or to nobody's
abbrev pub GoesTo : (ℕ → Type 0) → Dest → Type 0
GoesTo P (Conn number) = P number
GoesTo P (Back call) = Unit {0}

abbrev pub AllGo : (ℕ → Type 0) → List Out → Type 0
AllGo P outs = AllByRecursion (λ o. GoesTo P o.dest) outs

-- an open is held on such a connection, or by nobody
abbrev pub HolderOn : (ℕ → Type 0) → Holder → Type 0
HolderOn P (holder.Tree place) = P place.connection
HolderOn P (holder.Nobody until) = Unit {0}

abbrev pub HeldOn : (ℕ → Type 0) → List (ℕ × Open) → Type 0
HeldOn P rows = AllByRecursion (λ e. HolderOn P e.1.holder) rows

-- at one connection, or by nobody
abbrev pub IsAt : ℕ → Holder → Type 0
IsAt conn (holder.Tree place) = place.connection ≡ conn
IsAt conn (holder.Nobody until) = Unit {0}

-- the open that a request waits to make will be held on the connection that the request came by
abbrev pub MakesAt : ℕ → Request → Type 0
MakesAt conn (request.Create made) = IsAt conn made.holder
MakesAt conn request.Lock = Unit {0}

abbrev pub WaitsOn : (ℕ → Type 0) → Waiting → Type 0
WaitsOn P row = P row.place.connection × MakesAt row.place.connection row.request

abbrev pub AreOn : (ℕ → Type 0) → List (ℕ × Waiting) → Type 0
AreOn P rows = AllByRecursion (λ e. WaitsOn P e.1) rows

-- requests wait and opens are held on connections of which this holds, each open under a number of its own
pub record IsOn (P : ℕ → Type 0) (l : Lists) : Type 0 where
  pub waiting : AreOn P l.waiting
  pub held : HeldOn P l.opens
  pub distinct : IsDistinct nat_eq (keys_of l.opens)

-- what is sent goes there, and so it is still
abbrev pub IsSentOn : (ℕ → Type 0) → List Out × Lists → Type 0
IsSentOn P r = AllGo P r.0 × IsOn P r.1

-- one that comes under a new number stands apart
others_apart : (k : ℕ) (rows : List (ℕ × Open)) → lookup (nat_eq k) rows ≡ None → list_any (nat_eq k) (keys_of rows) ≡ false
others_apart k [] none = refl
others_apart k (e ∷ es) none = elim (cases_Bool (eqb k e.0)) [ inl same ↦ absurd (some_none (rw same at none)) | inr other ↦ rw other (others_apart k es (rw other at none)) ]

keys_behind : (k : ℕ) (row : Open) (rows : List (ℕ × Open)) → keys_of (rows ++ (k, row) ∷ []) ≡ keys_of rows ++ k ∷ []
keys_behind k row [] = refl
keys_behind k row (e ∷ es) = ap (λ (ks : List ℕ). e.0 ∷ ks) (keys_behind k row es)

apart_behind : (j k : ℕ) (ks : List ℕ) → AllByRecursion (λ i. eqb j i ≡ false) ks → eqb j k ≡ false → AllByRecursion (λ i. eqb j i ≡ false) (ks ++ k ∷ [])
apart_behind j k [] all other = (other, tt)
apart_behind j k (i ∷ ks) all other = (all.0, apart_behind j k ks all.1 other)

distinct_behind : (k : ℕ) (ks : List ℕ) → list_any (nat_eq k) ks ≡ false → IsDistinct nat_eq ks → IsDistinct nat_eq (ks ++ k ∷ [])
distinct_behind k [] none distinct = IsDistinct-cons nat_eq k [] tt distinct
distinct_behind k (j ∷ ks) none distinct =
    elim (cases_Bool (eqb k j)) [
      | inl same ↦ absurd (true≢false (rw same at none))
      | inr other ↦ IsDistinct-cons nat_eq j (ks ++ k ∷ []) (apart_behind j k ks (IsDistinct-head nat_eq j ks distinct) (unequal_both k j other)) (distinct_behind k ks (rw other at none) (IsDistinct-tail nat_eq j ks distinct))
    ]

pub distinct_added : (k : ℕ) (row : Open) (rows : List (ℕ × Open)) → lookup (nat_eq k) rows ≡ None → IsDistinct nat_eq (keys_of rows) → IsDistinct nat_eq (keys_of (rows ++ (k, row) ∷ []))
distinct_added k row rows none distinct = subst (λ (ks : List ℕ). IsDistinct nat_eq ks) (sym (keys_behind k row rows)) (distinct_behind k (keys_of rows) (others_apart k rows none) distinct)

module _ (P : ℕ → Type 0) where
  pub held_at : (conn : ℕ) (by : Holder) → P conn → IsAt conn by → HolderOn P by
  held_at conn (holder.Tree place) here at = subst (λ (k : ℕ). P k) (sym at) here
  held_at conn (holder.Nobody until) here at = tt

  found_on : (t : ℕ → Bool) (rows : List (ℕ × Waiting)) (row : Waiting) → lookup t rows ≡ Some row → AreOn P rows → WaitsOn P row
  found_on t [] row at on = absurd (none_some at)
  found_on t (e ∷ es) row at on =
      elim (cases_Bool (t e.0)) [
        | inl here ↦ subst (λ (r : Waiting). WaitsOn P r) (same_Some (rw here at at)) on.0
        | inr other ↦ found_on t es row (rw other at at) on.1
      ]

  held_on : (t : ℕ → Bool) (rows : List (ℕ × Open)) (row : Open) → lookup t rows ≡ Some row → HeldOn P rows → HolderOn P row.holder
  held_on t [] row at on = absurd (none_some at)
  held_on t (e ∷ es) row at on =
      elim (cases_Bool (t e.0)) [
        | inl here ↦ subst (λ (r : Open). HolderOn P r.holder) (same_Some (rw here at at)) on.0
        | inr other ↦ held_on t es row (rw other at at) on.1
      ]

  removed_on : (t : ℕ → Bool) (rows : List (ℕ × Waiting)) → AreOn P rows → AreOn P (remove_entry t rows)
  removed_on t [] on = tt
  removed_on t (e ∷ es) on = elim (cases_Bool (t e.0)) [ inl here ↦ rw here on.1 | inr other ↦ rw other (on.0, removed_on t es on.1) ]

  dropped_on : (id : ℕ) (l : Lists) → IsOn P l → IsOn P (waiting_dropped id l)
  dropped_on id l on = record { waiting = removed_on (nat_eq id) l.waiting on.waiting; held = on.held; distinct = on.distinct }

  -- ---- a request that failed

  with_row : (id : ℕ) (status : SmbStatus) (l : Lists) (o : Option Waiting) → waiting_of id l ≡ o → IsOn P l → IsSentOn P (ended_with id status o l)
  with_row id status l None at on = (tt, on)
  with_row id status l (Some row) at on = (((found_on (nat_eq id) l.waiting row at on.waiting).0, tt), dropped_on id l on)

  ended_on : (id : ℕ) (status : SmbStatus) (l : Lists) → IsOn P l → IsSentOn P (request_ended id status l)
  unfolding request_ended
  ended_on id status l on = with_row id status l (waiting_of id l) refl on

  -- ---- a request that was served

  -- an open that comes is held on such a connection, and of the rest the leases alone change
  pub came_on : (number : ℕ) (row : Open) (l : Lists) → open_of number l ≡ None → HolderOn P row.holder → IsOn P l → IsOn P (with_open number row l)
  came_on number row l new there on = subst (λ (m : Lists). IsOn P m) (sym (with_keeps number row l)) (record {
    waiting = on.waiting;
    held = all_append (λ (e : ℕ × Open). HolderOn P e.1.holder) l.opens ((number, row) ∷ []) on.held (there, tt);
    distinct = distinct_added number row l.opens new on.distinct;
  })

  stood_on : (s : CoreState) (id : ℕ) (row : Waiting) (made : Open) (stands : Bool) (l : Lists) → may_stand row.opened made l ≡ stands → P row.place.connection → HolderOn P made.holder → IsOn P l → IsSentOn P (replied id row (stood s row made stands l))
  stood_on s id row made true l may here there on = ((here, tt), came_on row.opened made l (stand_new row.opened made l may) there on)
  stood_on s id row made false l may here there on = ((here, tt), on)

  succeeded_on : (s : CoreState) (id : ℕ) (row : Waiting) (r : Request) (l : Lists) → P row.place.connection → MakesAt row.place.connection r → IsOn P l → IsSentOn P (replied id row (succeeded s row r l))
  succeeded_on s id row (request.Create made) l here there on = stood_on s id row made (may_stand row.opened made l) l refl here (held_at row.place.connection made.holder here there) on
  succeeded_on s id row request.Lock l here there on = ((here, tt), on)

  concluded_on : (s : CoreState) (id : ℕ) (row : Waiting) (refused : Option SmbStatus) (l : Lists) → P row.place.connection → MakesAt row.place.connection row.request → IsOn P l → IsSentOn P (replied id row (concluded s row refused l))
  concluded_on s id row None l here there on = succeeded_on s id row row.request l here there on
  concluded_on s id row (Some status) l here there on = ((here, tt), on)

  served_with_on : (s : CoreState) (id : ℕ) (answer : Answer) (l : Lists) (o : Option Waiting) → waiting_of id l ≡ o → IsOn P l → IsSentOn P (served_with s id answer o l)
  served_with_on s id answer l None at on = (tt, on)
  served_with_on s id answer l (Some row) at on =
      let is = found_on (nat_eq id) l.waiting row at on.waiting in
      concluded_on s id row (refusal_of answer row.request) (waiting_dropped id l) is.0 is.1 (dropped_on id l on)

  served_on : (s : CoreState) (id : ℕ) (answer : Answer) (l : Lists) → IsOn P l → IsSentOn P (request_served s id answer l)
  unfolding request_served
  served_on s id answer l on = served_with_on s id answer l (waiting_of id l) refl on

  -- ---- a break

  by_holder : (told : List ℕ) (by : Holder) → HolderOn P by → AllGo P (noticed_by told by)
  by_holder told (holder.Tree place) here = (here, tt)
  by_holder told (holder.Nobody until) here = tt

  to_open : (told : List ℕ) (number : ℕ) (l : Lists) (o : Option Open) → open_of number l ≡ o → HeldOn P l.opens → AllGo P (noticed_to told o)
  to_open told number l None at on = tt
  to_open told number l (Some row) at on = by_holder told row.holder (held_on (nat_eq number) l.opens row at on)

  -- the lowest open of a lease is one of them
  to_lowest : (told : List ℕ) (l : Lists) (lowest : Option ℕ) → HeldOn P l.opens → AllGo P (noticed_to told (option_and_then (λ number. open_of number l) lowest))
  to_lowest told l None on = tt
  to_lowest told l (Some number) on = to_open told number l (open_of number l) refl on

  under_name : (what : What) (to : Option CacheKind) (l : Lists) (name : Option Name) → HeldOn P l.opens → AllGo P (noticed_under what to l name)
  under_name what to l (Some (SmbLease client key)) on = to_lowest (lease_notice_of key what to) l (lowest_open (record { client = client; key = key }) l) on
  under_name what to l name on = tt

  noticed_on : (s : CoreState) (party : Party) (what : What) (to : Option CacheKind) (l : Lists) → HeldOn P l.opens → AllGo P (noticed s party what to l)
  noticed_on s (parties.Open number) what to l on = to_open (notice_of (id_of s number) to) number l (open_of number l) refl on
  noticed_on s (parties.Name protocol number) what to l on = under_name what to l (slice_get s.names number) on

  pub told_on : (s : CoreState) (effect : Effect) (l : Lists) → IsOn P l → IsSentOn P (told_of s effect l)
  unfolding told_of
  told_on s (effects.Begun cache to call) l on = (noticed_on s cache.party cache.what to l on.held, on)
  told_on s (effects.Served party id answer) l on = served_on s id answer l on
  told_on s (effects.Cancelled party id) l on = (tt, on)
  told_on s (effects.Expired client) l on = (tt, on)

  -- ---- requests that a message cancelled

  one_dismissed : (told : List Effect) (id : ℕ) (ids : List ℕ) (l : Lists) (b : Bool) → IsSentOn P (request_ended id Cancelled l) → IsSentOn P (dismissed told ids (request_ended id Cancelled l).1) → IsSentOn P (dismissed told ids l)
      → IsSentOn P (if b then and_sent (request_ended id Cancelled l) (dismissed told ids) else dismissed told ids l)
  one_dismissed told id ids l true first rest other = (all_append (λ (o : Out). GoesTo P o.dest) (request_ended id Cancelled l).0 (dismissed told ids (request_ended id Cancelled l).1).0 first.0 rest.0, rest.1)
  one_dismissed told id ids l false first rest other = other

  pub dismissed_on : (told : List Effect) (ids : List ℕ) (l : Lists) → IsOn P l → IsSentOn P (dismissed told ids l)
  dismissed_on told [] l on = (tt, on)
  dismissed_on told (id ∷ ids) l on =
      let first = ended_on id Cancelled l on in
      one_dismissed told id ids l (is_cancelled id told) first (dismissed_on told ids (request_ended id Cancelled l).1 first.1) (dismissed_on told ids l on)
