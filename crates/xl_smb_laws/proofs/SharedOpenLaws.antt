-- An open keeps its share, whatever is done, unless it is closed, its share is given back or its party ends.
use Rattle.std.proofs.Common.{◌≡◌, ℕ, Bool, true, false, not, List, [], ◌∷◌, Option, Some, None, if◌then◌else◌, refl, sym, ap, subst, ◌∙◌, inl, inr}
use Rattle.std.specs.Prelude.{option_map}
use Rattle.std.specs.List.{AllByRecursion, filter, list_any, slice_get}
use Rattle.std.proofs.lemmas.Bool.{and_parts, cases_Bool, false≢true}
use Rattle.xl_base.specs.Stable.{same_protocol}
use Rattle.xl_base.specs.declared.name.Owner.{Owner}
use Rattle.xl_base.specs.declared.name.Owner.TheVariants as owners
use Rattle.xl_base.specs.declared.name.Party.{Party}
use Rattle.xl_base.specs.declared.name.Party.TheVariants as parties
use Rattle.xl_base.specs.declared.name.Protocol.{Protocol}
use Rattle.xl_base.specs.declared.name.Protocol.TheVariants.{Nlm, Nfs, Smb}
use Rattle.xl_matrix.proofs.EqualLaws.{same_parties-true}
use Rattle.xl_matrix.specs.Equal.{same_parties}
use Rattle.xl_matrix.specs.declared.claim.CacheKind.{CacheKind}
use Rattle.xl_matrix.specs.declared.claim.Claim.{Claim}
use Rattle.xl_matrix.specs.declared.claim.Extent.{Extent}
use Rattle.xl_matrix.specs.declared.claim.Extent.TheVariants.{Bytes, Empty}
use Rattle.xl_matrix.specs.declared.claim.What.{What}
use Rattle.xl_matrix.specs.declared.claim.What.TheVariants as whats
use Rattle.xl_names.specs.Names.{number_of, protocol_of}
use Rattle.xl_names.specs.declared.name.Name.{Name}
use Rattle.xl_names.specs.declared.name.Name.TheVariants.{NfsParty}
use Rattle.xl_smb_state.proofs.RowLaws.{none_some, same_Some}
use Rattle.xl_table.proofs.WriteBack.{is_of-true}
use Rattle.xl_table.specs.Held.{is_cache, is_of}
use Rattle.xl_table.specs.Relock.{granted_claims}
use Rattle.xl_core.proofs.DeedLaws.{deed_good, deed_makes}
use Rattle.xl_core.proofs.DueLaws.{due_is}
use Rattle.xl_core.specs.Askers.{is_lease, party_named}
use Rattle.xl_core.specs.BreakAnswers.{client_of, may_be_left}
use Rattle.xl_core.specs.Decide.{before_wish, does_wish, way, ask}
use Rattle.xl_core.specs.Deeds.{asked_by, once_served, wish_by_number, Deed, Asks, GivesBack, Weakens, Acks, Cancels, Ends, Closes, Serves, Draws, Advances, Lapses, Renews, Expires, FailsStore, EndsGrace, AreFit, IsFitDeed, all_done, done, given}
use Rattle.xl_core.specs.Good.{IsGood, IsHeld, are_kept, is_lease_of}
use Rattle.xl_core.specs.Places.{ShareOf, acked_at, all_entered_at, all_entered_for, answered_at, claims_like, cleared_by, else_was, ended_at, ended_some, entered_at, entered_by, entered_for, held_as, held_at, held_in, lapsed_at, made, part_by, served_at, then_entered, told_at, unlocked_for, wished_by, wished_for, wished_then}
use Rattle.xl_core.specs.Settle.{next_way}
use Rattle.xl_core.specs.State.{CoreState}
use Rattle.xl_core.specs.Told.{party_protocol}
use Rattle.xl_core.specs.declared.ask.Act.{Act}
use Rattle.xl_core.specs.declared.ask.Act.TheVariants as acts
use Rattle.xl_core.specs.declared.ask.Answer.{Answer}
use Rattle.xl_core.specs.declared.ask.Answer.TheVariants as answers
use Rattle.xl_core.specs.declared.ask.Effect.{Effect}
use Rattle.xl_core.specs.declared.ask.Effect.TheVariants as effects
use Rattle.xl_plan.specs.Plans.{AllAt}
use Rattle.xl_smb_laws.specs.TiedRows.{IsShare, SparesShare}
use Rattle.xl_smb_laws.proofs.SmbWaiterLaws.{lease_is}
use Rattle.xl_smb_laws.proofs.SparedLaws.{nfs_apart}

-- ---- what a deed makes of the place of an open's share: nothing, or one share

abbrev KeepsOne : Option (List What) → Type 0
KeepsOne None = Unit {0}
KeepsOne (Some held) = IsShare held

else_keeps : (o : Option (List What)) (had : List What) → KeepsOne o → IsShare had → IsShare (else_was o had)
else_keeps None had keeps one = one
else_keeps (Some held) had keeps one = keeps

then_keeps : (first next : Option (List What)) → KeepsOne first → KeepsOne next → KeepsOne (then_entered first next)
then_keeps first None one two = one
then_keeps first (Some held) one two = two

module _ (file : ℕ) (owner : Owner) where
  part_keeps : (what : What) → KeepsOne (entered_by (part_by what (ShareOf file owner)))
  part_keeps (whats.Share access deny) = (access, deny, refl)
  part_keeps (whats.Range (Bytes first last) exclusive) = tt
  part_keeps (whats.Range (Empty offset) exclusive) = tt
  part_keeps (whats.Cache kind running) = tt

  if_keeps : (b : Bool) (what : What) → KeepsOne (entered_by (if b then part_by what (ShareOf file owner) else []))
  if_keeps true what = part_keeps what
  if_keeps false what = tt

  entered_keeps : (held : List Claim) (c : Claim) → KeepsOne (entered_at held c (ShareOf file owner))
  entered_keeps held c = if_keeps (is_of file owner c) (held_as held c c.what)

  all_keep : (held cs : List Claim) → KeepsOne (all_entered_at held cs (ShareOf file owner))
  all_keep held [] = tt
  all_keep held (c ∷ cs) = then_keeps (entered_at held c (ShareOf file owner)) (all_entered_at (granted_claims c held) cs (ShareOf file owner)) (entered_keeps held c) (all_keep (granted_claims c held) cs)

  share_keeps : (held : List Claim) (answer : Answer) → KeepsOne (entered_for held answer (ShareOf file owner))
  share_keeps held (answers.Granted c) = entered_keeps held c
  share_keeps held answer = tt

  ranges_keep : (held : List Claim) (ranges : List (Extent × Bool)) (answer : Answer) → KeepsOne (all_entered_for held ranges answer (ShareOf file owner))
  ranges_keep held ranges (answers.Granted c) = all_keep held (claims_like c ranges)
  ranges_keep held ranges answer = tt

  unlock_keeps : (held : List Claim) (extent : Extent) (answer : Answer) → KeepsOne (unlocked_for held extent answer (ShareOf file owner))
  unlock_keeps held extent (answers.Granted c) = tt
  unlock_keeps held extent answer = tt

  answered_keeps : (held : List Claim) (act : Act) (answer : Answer) → KeepsOne (answered_at held act answer (ShareOf file owner))
  answered_keeps held (acts.Share access deny) answer = share_keeps held answer
  answered_keeps held (acts.Ranges ranges) answer = ranges_keep held ranges answer
  answered_keeps held (acts.Test extent exclusive) answer = tt
  answered_keeps held (acts.Unlock extent) answer = unlock_keeps held extent answer
  answered_keeps held acts.Wish answer = tt

  wish_keeps : (kinds : List CacheKind) (answer : Answer) (s : CoreState) → KeepsOne (wished_for kinds answer s (ShareOf file owner))
  wish_keeps kinds (answers.Granted c) s = tt
  wish_keeps kinds answer s = tt

  wished_keeps : (b : Bool) (kinds : List CacheKind) (answer : Answer) (s : CoreState) → KeepsOne (if b then wished_for kinds answer s (ShareOf file owner) else None)
  wished_keeps true kinds answer s = wish_keeps kinds answer s
  wished_keeps false kinds answer s = tt

  served_keeps : (held asked : List Claim) (answer : Answer) → KeepsOne (served_at held asked answer (ShareOf file owner))
  served_keeps held asked (answers.Granted c) = all_keep held asked
  served_keeps held asked answer = tt

  told_keeps : (s : CoreState) (told : List Effect) → KeepsOne (told_at s told (ShareOf file owner))
  told_keeps s [] = tt
  told_keeps s (effects.Served party id answer ∷ told) = served_keeps s.claims (asked_by id s.waiters) answer
  told_keeps s (effects.Begun cache to call ∷ told) = told_keeps s told
  told_keeps s (effects.Cancelled party id ∷ told) = told_keeps s told
  told_keeps s (effects.Expired client ∷ told) = told_keeps s told

  then_keep_wishes : (s : CoreState) (told : List Effect) → KeepsOne (wished_then s told (ShareOf file owner))
  then_keep_wishes s [] = tt
  then_keep_wishes s (effects.Served party id answer ∷ told) = wish_keeps (wish_by_number id s.waiters) answer (once_served s id answer)
  then_keep_wishes s (effects.Begun cache to call ∷ told) = then_keep_wishes s told
  then_keep_wishes s (effects.Cancelled party id ∷ told) = then_keep_wishes s told
  then_keep_wishes s (effects.Expired client ∷ told) = then_keep_wishes s told

  -- a cache is no share
  cache_keeps : (b : Bool) (what : What) → is_cache what ≡ true → KeepsOne (cleared_by (if b then part_by what (ShareOf file owner) else []))
  cache_keeps false what is = tt
  cache_keeps true (whats.Share access deny) is = absurd (false≢true is)
  cache_keeps true (whats.Range extent exclusive) is = absurd (false≢true is)
  cache_keeps true (whats.Cache kind running) is = tt

  acked_keeps : (cache : Claim) (to : Option CacheKind) → is_cache cache.what ≡ true → KeepsOne (acked_at cache to (ShareOf file owner))
  acked_keeps cache None is = cache_keeps (is_of file owner cache) cache.what is
  acked_keeps cache (Some kind) is = if_keeps (is_of file owner cache) (whats.Cache kind None)

left_cache : (what : What) (to : Option CacheKind) → may_be_left what to ≡ true → is_cache what ≡ true
left_cache (whats.Cache kind running) to may = refl
left_cache (whats.Share access deny) to may = absurd (false≢true may)
left_cache (whats.Range extent exclusive) to may = absurd (false≢true may)

-- ---- an open's party is SMB's

same_is : (p q : Protocol) → same_protocol p q ≡ true → p ≡ q
same_is Nlm Nlm is = refl
same_is Nlm Nfs is = absurd (false≢true is)
same_is Nlm Smb is = absurd (false≢true is)
same_is Nfs Nlm is = absurd (false≢true is)
same_is Nfs Nfs is = refl
same_is Nfs Smb is = absurd (false≢true is)
same_is Smb Nlm is = absurd (false≢true is)
same_is Smb Nfs is = absurd (false≢true is)
same_is Smb Smb is = refl

lease_smb : (protocol : Protocol) (o : Option Name) → is_lease_of protocol o ≡ true → protocol ≡ Smb
lease_smb protocol None is = absurd (false≢true is)
lease_smb protocol (Some name) is = let both = and_parts (same_protocol protocol (protocol_of name)) (is_lease name) is in same_is protocol (protocol_of name) both.0 ∙ lease_is name both.1

pub open_smb : (names : List Name) (owner : Owner) (party : Party) (number : ℕ) → owner ≡ owners.Open number → are_kept names owner party ≡ true → party_protocol party ≡ Smb
open_smb names owner (parties.Open other) number own kept = refl
open_smb names owner (parties.Name protocol at) number own kept = lease_smb protocol (slice_get names at) (subst (λ (o : Owner). are_kept names o (parties.Name protocol at) ≡ true) own kept)

-- ---- where a party ends

module _ (file number : ℕ) (names : List Name) (party : Party) (other : party_protocol party ≡ Smb → ⊥) where
  none_ends : (cs : List Claim) → AllByRecursion (IsHeld names) cs → list_any (λ c. if is_of file (owners.Open number) c then same_parties c.party party else false) cs ≡ false
  none_ends [] all = refl
  none_ends (c ∷ cs) all = (let first = by (is_of file (owners.Open number) c) refl in rw first (none_ends cs all.1))
    where
      by : (b : Bool) → is_of file (owners.Open number) c ≡ b → (if is_of file (owners.Open number) c then same_parties c.party party else false) ≡ false
      by false at = rw at refl
      by true at =
          elim (cases_Bool (same_parties c.party party)) [
            | inr apart ↦ rw at apart
            | inl same ↦ absurd (other (ap (λ (p : Party). party_protocol p) (sym (same_parties-true c.party party same)) ∙ open_smb names c.owner c.party number (is_of-true file (owners.Open number) c at).1 all.0.1))
          ]

  ended_keeps : (cs : List Claim) → AllByRecursion (IsHeld names) cs → KeepsOne (ended_at cs party (ShareOf file (owners.Open number)))
  ended_keeps cs all =
      subst (λ (b : Bool). KeepsOne (if b then Some (held_in (filter (λ (c : Claim). not (same_parties c.party party)) cs) (ShareOf file (owners.Open number))) else None)) (sym (none_ends cs all)) tt

ended_some_keeps : (file number : ℕ) (names : List Name) (cs : List Claim) (o : Option Party) → AllByRecursion (IsHeld names) cs → ((party : Party) → o ≡ Some party → party_protocol party ≡ Smb → ⊥) → KeepsOne (ended_some cs o (ShareOf file (owners.Open number)))
ended_some_keeps file number names cs None all other = tt
ended_some_keeps file number names cs (Some party) all other = ended_keeps file number names party (other party refl) cs all

nfs_named : (o : Option ℕ) (party : Party) → option_map (λ (k : ℕ). parties.Name Nfs k) o ≡ Some party → party_protocol party ≡ Smb → ⊥
nfs_named None party none smb = none_some none
nfs_named (Some k) party some smb = nfs_apart (ap (λ (p : Party). party_protocol p) (same_Some some) ∙ smb)

lapsed_keeps : (s : CoreState) (file number : ℕ) (cache : Claim) (client : Option (List ℕ)) → AllByRecursion (IsHeld s.names) s.claims → is_cache cache.what ≡ true → KeepsOne (lapsed_at s cache client (ShareOf file (owners.Open number)))
lapsed_keeps s file number cache None all is = cache_keeps file (owners.Open number) (is_of file (owners.Open number) cache) cache.what is
lapsed_keeps s file number cache (Some client) all is = ended_some_keeps file number s.names s.claims (party_named s.names (NfsParty client)) all (nfs_named (number_of (NfsParty client) s.names))

-- ---- a deed

given_keeps : (file number : ℕ) (claim : Claim) → (claim.owner ≡ owners.Open number → ⊥) → (b : Bool) → is_of file (owners.Open number) claim ≡ b → KeepsOne (cleared_by (if b then part_by claim.what (ShareOf file (owners.Open number)) else []))
given_keeps file number claim other false at = tt
given_keeps file number claim other true at = absurd (other (is_of-true file (owners.Open number) claim at).1)

made_keeps : (n : ℕ) (s : CoreState) (d : Deed) (file number : ℕ) → IsGood s → IsFitDeed s d → SparesShare number s d → KeepsOne (made n s d (ShareOf file (owners.Open number)))
made_keeps n s (Asks left a) file number good fit spares =
    let p = ShareOf file (owners.Open number) in
    let answered = answered_at (way left s a).1.claims a.act (ask n left s a).0 p in
    then_keeps (then_entered None answered) (wished_by n left s a p) (then_keeps None answered tt (answered_keeps file (owners.Open number) (way left s a).1.claims a.act (ask n left s a).0))
    (wished_keeps file (owners.Open number) (does_wish a.act) a.wish (ask n left s a).0 (before_wish n left s a).2)
made_keeps n s (GivesBack claim) file number good fit spares = given_keeps file number claim spares (is_of file (owners.Open number) claim) refl
made_keeps n s (Weakens share access deny) file number good fit spares = if_keeps file (owners.Open number) (is_of file (owners.Open number) share) (whats.Share access deny)
made_keeps n s (Acks cache to) file number good fit spares = acked_keeps file (owners.Open number) cache to (left_cache cache.what to fit.1)
made_keeps n s (Cancels id) file number good fit spares = tt
made_keeps n s (Ends party) file number good fit spares = ended_keeps file number s.names party spares s.claims good.known
made_keeps n s (Closes other party) file number good fit spares = rw spares tt
made_keeps n s (Serves left) file number good fit spares =
    let p = ShareOf file (owners.Open number) in
    let u = (next_way s).1 in
    let told = (given n s (Serves left)).1 in
    then_keeps (then_entered None (told_at u told p)) (wished_then u told p) (then_keeps None (told_at u told p) tt (told_keeps file (owners.Open number) u told)) (then_keep_wishes file (owners.Open number) u told)
made_keeps n s Draws file number good fit spares = tt
made_keeps n s (Advances now) file number good fit spares = tt
made_keeps n s (Lapses cache) file number good fit spares = lapsed_keeps s file number cache (client_of s.names cache.party) good.known (due_is s cache fit).1
made_keeps n s (Renews client) file number good fit spares = tt
made_keeps n s (Expires client) file number good fit spares = ended_some_keeps file number s.names s.claims (party_named s.names (NfsParty client)) good.known (nfs_named (number_of (NfsParty client) s.names))
made_keeps n s (FailsStore stable) file number good fit spares = tt
made_keeps n s EndsGrace file number good fit spares = tt

pub deed_keeps_share : (n : ℕ) (s : CoreState) (d : Deed) (file number : ℕ) → IsGood s → IsFitDeed s d → SparesShare number s d → IsShare (held_at s (ShareOf file (owners.Open number))) → IsShare (held_at (done n s d) (ShareOf file (owners.Open number)))
deed_keeps_share n s d file number good fit spares one =
    let p = ShareOf file (owners.Open number) in
    subst IsShare (sym (deed_makes n s d p good fit)) (else_keeps (made n s d p) (held_at s p) (made_keeps n s d file number good fit spares) one)

-- and so do deeds in a row
pub deeds_keep_share : (n : ℕ) (s : CoreState) (ds : List Deed) (file number : ℕ) → IsGood s → AreFit n s ds → AllAt (SparesShare number) n s ds → IsShare (held_at s (ShareOf file (owners.Open number))) → IsShare (held_at (all_done n s ds) (ShareOf file (owners.Open number)))
deeds_keep_share n s [] file number good fit spare one = one
deeds_keep_share n s (d ∷ ds) file number good fit spare one =
    deeds_keep_share n (done n s d) ds file number (deed_good n s d good fit.0) fit.1 spare.1 (deed_keeps_share n s d file number good fit.0 spare.0 one)
