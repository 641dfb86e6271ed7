-- Who waits for SMB stays where deeds leave SMB's waiters; and a turn that serves one names its party.
use Rattle.std.proofs.Common.{◌≡◌, ℕ, Bool, true, false, ◌&&◌, ◌||◌, eqb, List, [], ◌∷◌, ◌++◌, Option, Some, None, refl, sym, ap, subst, ◌∙◌, inl, inr}
use Rattle.std.specs.Prelude.{◌⊎◌, IfSome, option_map}
use Rattle.std.specs.List.{list_any, slice_get}
use Rattle.std.proofs.lemmas.Bool.{cases_Bool, true≢false, false≢true}
use Rattle.std.proofs.lemmas.List.Folds.{list_any-append}
use Rattle.xl_base.proofs.Members.{all_from, all_in, in_append_left, in_append_right}
use Rattle.xl_base.specs.Lists.{IsIn}
use Rattle.xl_base.specs.Stable.{same_protocol}
use Rattle.xl_base.specs.declared.name.Owner.TheVariants as owners
use Rattle.xl_base.specs.declared.name.Party.{Party}
use Rattle.xl_base.specs.declared.name.Party.TheVariants as parties
use Rattle.xl_base.specs.declared.name.Protocol.{Protocol}
use Rattle.xl_base.specs.declared.name.Protocol.TheVariants.{Nlm, Nfs, Smb}
use Rattle.xl_matrix.proofs.EqualLaws.{same_parties-true}
use Rattle.xl_matrix.specs.Equal.{same_owners, same_parties}
use Rattle.xl_matrix.specs.declared.claim.Claim.{Claim}
use Rattle.xl_names.specs.Names.{number_of}
use Rattle.xl_names.specs.declared.name.Name.TheVariants.{NfsParty}
use Rattle.xl_smb_state.proofs.RowLaws.{equal_from, equal_self}
use Rattle.xl_smb_state.specs.State.{Lists}
use Rattle.xl_smb_state.specs.declared.row.Waiting.{Waiting}
use Rattle.xl_wait.specs.declared.waiter.Rooms.{Rooms}
use Rattle.xl_wait.specs.declared.waiter.Waiter.{Waiter}
use Rattle.xl_core.proofs.AsideLaws.{failed_aside, grace_aside, of_expire, with_aside}
use Rattle.xl_core.proofs.DeedLaws.{deed_good}
use Rattle.xl_core.proofs.FrameLaws.{turn_frame, way_leaves}
use Rattle.xl_core.proofs.SettleLaws.{party_waiters}
use Rattle.xl_core.specs.BreakAnswers.{ack, client_of}
use Rattle.xl_core.specs.Causes.{IsTurn, Answered, WaitsOn}
use Rattle.xl_core.specs.Decide.{ask}
use Rattle.xl_core.specs.Deeds.{Deed, Asks, GivesBack, Weakens, Acks, Cancels, Ends, Closes, Serves, Draws, Advances, Lapses, Renews, Expires, FailsStore, EndsGrace, AreFit, IsFitDeed, all_done, done}
use Rattle.xl_core.specs.Frames.{IsFrame, calls_in, come_by, who_left}
use Rattle.xl_core.specs.Good.{IsGood}
use Rattle.xl_core.specs.Settle.{all_cancelled, cancel, give_back, plea_again, settle, waits_as, waits_for, way_again, weaken}
use Rattle.xl_core.specs.State.{CoreState, drawn}
use Rattle.xl_core.specs.Stores.{store_failed}
use Rattle.xl_core.specs.Ticks.{advanced, end_grace, end_some, expire, lapse, lapsed_by, renew}
use Rattle.xl_core.specs.Told.{party_protocol}
use Rattle.xl_core.specs.declared.ask.Answer.{Answer}
use Rattle.xl_core.specs.declared.ask.Effect.{Effect}
use Rattle.xl_core.specs.declared.ask.Effect.TheVariants as effects
use Rattle.xl_plan.specs.Plans.{AllAt}
use Rattle.xl_smb_laws.specs.WaitingRequests.{AreAwaited, IsAwaited, IsOfSmb, SparesSmb, ends_wait, serves_request}
use Rattle.xl_smb_laws.proofs.AwaitedRequestLaws.{any_right, asked_waits, cancelled_in, moved}
use Rattle.xl_smb_laws.proofs.GrantedCreateLaws.{one_waiter, turn_of}
use Rattle.xl_smb_laws.proofs.PlaceLaws.{keeps_self}
use Rattle.xl_smb_laws.proofs.StillUntoldLaws.{over_left}
use Rattle.xl_smb_laws.proofs.StillWaitingLaws.{aside_stays, left_stays, over}

-- ---- a waiter of SMB

-- who asks for claims of an open asks for a first one
first_claim : (w : Waiter) (k : ℕ) → waits_as k w ≡ true → (c : Claim) × (slice_get w.asked 0 ≡ Some c) × IsIn c w.asked
unfolding waits_as
first_claim w k own = by w.asked own
  where
    by : (cs : List Claim) → list_any (λ (c : Claim). same_owners c.owner (owners.Open k)) cs ≡ true → (c : Claim) × (slice_get cs 0 ≡ Some c) × IsIn c cs
    by [] any = absurd (false≢true any)
    by (c ∷ cs) any = (c, refl, inl refl)

-- its claims are of SMB
claim_protocol : (w : Waiter) (c : Claim) → IsOfSmb w → IsIn c w.asked → party_protocol c.party ≡ Smb
claim_protocol w c smb here = ap (λ (p : Party). party_protocol p) (all_in (λ (d : Claim). d.party ≡ w.party) c w.asked smb.claims here) ∙ smb.party

-- it waits for no party of another protocol
other_party : (w : Waiter) (party : Party) → IsOfSmb w → (party_protocol party ≡ Smb → ⊥) → waits_for party w ≡ false
unfolding waits_for
other_party w party smb other = by w.asked (λ c here. claim_protocol w c smb here)
  where
    apart : (c : Claim) → party_protocol c.party ≡ Smb → same_parties c.party party ≡ false
    apart c is =
        elim (cases_Bool (same_parties c.party party)) [
          | inl same ↦ absurd (other (ap (λ (p : Party). party_protocol p) (sym (same_parties-true c.party party same)) ∙ is))
          | inr differs ↦ differs
        ]

    by : (cs : List Claim) → ((c : Claim) → IsIn c cs → party_protocol c.party ≡ Smb) → list_any (λ (c : Claim). same_parties c.party party) cs ≡ false
    by [] all = refl
    by (c ∷ cs) all = (let first : same_parties c.party party ≡ false = apart c (all c (inl refl)) in rw first (by cs (λ d here. all d (inr here))))

-- the protocols are three
pub nlm_apart : Nlm ≡ Smb → ⊥
nlm_apart e = cc

pub nfs_apart : Nfs ≡ Smb → ⊥
nfs_apart e = cc

-- ---- where a client of NFSv4 expires

some_spared : (s : CoreState) (number : Option ℕ) (w : Waiter) → IsOfSmb w → IsIn w s.waiters → IsIn w (end_some s (option_map (λ (k : ℕ). parties.Name Nfs k) number)).1.waiters
some_spared s None w smb here = here
some_spared s (Some k) w smb here = (party_waiters s (parties.Name Nfs k) w).1 (here, other_party w (parties.Name Nfs k) smb nfs_apart)

expire_spared : (s : CoreState) (client : List ℕ) (w : Waiter) → IsOfSmb w → IsIn w s.waiters → IsIn w (expire s client).1.waiters
expire_spared s client w smb here = of_expire (λ (r : List Effect × CoreState). IsIn w r.1.waiters) s client (λ x. some_spared (with_aside x s) (number_of (NfsParty client) s.names) w smb here)

lapsed_spared : (s : CoreState) (cache : Claim) (client : Option (List ℕ)) (w : Waiter) → IsOfSmb w → IsIn w s.waiters → IsIn w (lapsed_by s cache client).1.waiters
lapsed_spared s cache None w smb here = here
lapsed_spared s cache (Some client) w smb here = expire_spared s client w smb here

lapse_spared : (s : CoreState) (cache : Claim) (w : Waiter) → IsOfSmb w → IsIn w s.waiters → IsIn w (lapse s cache).1.waiters
unfolding lapse
lapse_spared s cache w smb here = lapsed_spared s cache (client_of s.names cache.party) w smb here

-- ---- deeds

deed_spared : (n : ℕ) (s : CoreState) (d : Deed) (w : Waiter) (k : ℕ) → IsGood s → IsFitDeed s d → SparesSmb s d → waits_as k w ≡ true → IsOfSmb w → IsIn w s.waiters → IsIn w (done n s d).waiters
unfolding give_back weaken ack cancel drawn advanced renew
deed_spared n s (Asks left a) w k good fit spares own smb here = subst (λ (ws : List Waiter). IsIn w ws) (sym (asked_waits n left s a good fit.party)) (in_append_left w s.waiters (come_by a (ask n left s a).0 s.names) here)
deed_spared n s (GivesBack claim) w k good fit spares own smb here = here
deed_spared n s (Weakens share access deny) w k good fit spares own smb here = here
deed_spared n s (Acks cache to) w k good fit spares own smb here = here
deed_spared n s (Cancels id) w k good fit spares own smb here =
    elim (cases_Bool (eqb w.id id)) [
      | inl same ↦ (let first = first_claim w k own in absurd (spares w first.0 here (sym (equal_from w.id id same)) first.1 (claim_protocol w first.0 smb first.2)))
      | inr other ↦ cancelled_in id s.waiters w here other
    ]
deed_spared n s (Ends party) w k good fit spares own smb here = (party_waiters s party w).1 (here, other_party w party smb spares)
deed_spared n s (Closes number party) w k good fit spares own smb here = absurd spares
deed_spared n s (Serves left) w k good fit spares own smb here = absurd spares
deed_spared n s Draws w k good fit spares own smb here = here
deed_spared n s (Advances now) w k good fit spares own smb here = here
deed_spared n s (Lapses cache) w k good fit spares own smb here = lapse_spared s cache w smb here
deed_spared n s (Renews client) w k good fit spares own smb here = here
deed_spared n s (Expires client) w k good fit spares own smb here = expire_spared s client w smb here
deed_spared n s (FailsStore stable) w k good fit spares own smb here = aside_stays s (store_failed stable s) w (failed_aside stable s) here
deed_spared n s EndsGrace w k good fit spares own smb here = aside_stays s (end_grace s) w (grace_aside s) here

deeds_spared : (n : ℕ) (s : CoreState) (ds : List Deed) (w : Waiter) (k : ℕ) → IsGood s → AreFit n s ds → AllAt SparesSmb n s ds → waits_as k w ≡ true → IsOfSmb w → IsIn w s.waiters → IsIn w (all_done n s ds).waiters
deeds_spared n s [] w k good fit spare own smb here = here
deeds_spared n s (d ∷ ds) w k good fit spare own smb here = deeds_spared n (done n s d) ds w k (deed_good n s d good fit.0) fit.1 spare.1 own smb (deed_spared n s d w k good fit.0 spare.0 own smb here)

-- so each request stays awaited
pub spared_awaited : (n : ℕ) (s : CoreState) (l : Lists) (ds : List Deed) → IsGood s → AreFit n s ds → AllAt SparesSmb n s ds → AreAwaited s l → AreAwaited (all_done n s ds) l
spared_awaited n s l ds good fit spare all =
    let t : CoreState = all_done n s ds in
    all_from (IsAwaited t l) l.waiting (λ e here.
    (let is = all_in (IsAwaited s l) e l.waiting all here in
    moved s t l l e is (deeds_spared n s ds is.waiter e.1.opened good fit spare is.own is.smb is.waits) (keeps_self l e e.1.request)))

-- ---- a turn

quiet_over : (id : ℕ) (es : List Effect) → who_left es ≡ [] → over id es ≡ false
quiet_over id es none = elim (cases_Bool (over id es)) [ inl is ↦ absurd (subst (λ (ids : List ℕ). IsIn id ids) none (over_left id es is)) | inr quiet ↦ quiet ]

last_over : (id : ℕ) (xs ys : List Effect) → who_left xs ≡ [] → over id (xs ++ ys) ≡ true → over id ys ≡ true
last_over id xs ys none is = ap (λ (b : Bool). b || over id ys) (sym (quiet_over id xs none)) ∙ sym (list_any-append (ends_wait id) xs ys) ∙ is

serves_own : (p : Protocol) (b : Bool) → p ≡ Smb → b ≡ true → ((same_protocol p Smb && b) || false) ≡ true
serves_own p b first second = rw (first, second) refl

same_number : (v w : Waiter) (party : Party) (answer : Answer) → over w.id (effects.Served party v.id answer ∷ []) ≡ true → v.id ≡ w.id
same_number v w party answer is = elim (cases_Bool (eqb v.id w.id)) [ inl same ↦ sym (equal_from v.id w.id same) | inr other ↦ absurd (false≢true (rw other at is)) ]

-- if it tells that a waiter of SMB waits no more it serves it, and says whose it is
turn_serves : (n : ℕ) (left : Rooms) (s t : CoreState) (told : List Effect) (w : Waiter) → IsGood s → IsTurn n left s told t → IsIn w s.waiters → IsOfSmb w → over w.id told ≡ true → list_any (serves_request w.id) told ≡ true
turn_serves n left s t told w good turn here smb ended =
    let way : List Effect = (way_again turn.before s turn.waiter).0 in
    let quiet : who_left way ≡ [] = way_leaves turn.before (plea_again s turn.waiter) turn.waiter.asked s in
    let last : over w.id turn.told ≡ true = last_over w.id way turn.told quiet (subst (λ (es : List Effect). over w.id es ≡ true) turn.effects_are ended) in
    elim turn.served [
      | WaitsOn none up same ↦ absurd (false≢true (subst (λ (es : List Effect). over w.id es ≡ true) none last))
      | Answered answer is granted due new free ↦ (
          let one : Effect = effects.Served turn.waiter.party turn.waiter.id answer in
          let number : turn.waiter.id ≡ w.id = same_number turn.waiter w turn.waiter.party answer (subst (λ (es : List Effect). over w.id es ≡ true) is last) in
          let stands : IsIn turn.waiter s.waiters = subst (λ (ws : List Waiter). IsIn turn.waiter ws) (sym turn.stood) (in_append_right turn.waiter turn.before (turn.waiter ∷ turn.behind) (inl refl)) in
          let same : w ≡ turn.waiter = sym (one_waiter s.waiters turn.waiter w good.apart stands here number) in
          let own : list_any (serves_request w.id) (effects.Served w.party w.id answer ∷ []) ≡ true = serves_own (party_protocol w.party) (eqb w.id w.id) smb.party (equal_self w.id) in
          let serves : list_any (serves_request w.id) (one ∷ []) ≡ true = subst (λ (v : Waiter). list_any (serves_request w.id) (effects.Served v.party v.id answer ∷ []) ≡ true) same own in
          subst (λ (es : List Effect). list_any (serves_request w.id) es ≡ true) (sym (turn.effects_are ∙ ap (λ (es : List Effect). way ++ es) is)) (any_right (serves_request w.id) way (one ∷ []) serves))
    ]

turn_leaves : (n : ℕ) (left : Rooms) (s t : CoreState) (told : List Effect) (w : Waiter) → IsGood s → settle n left s ≡ Some (told, t) → IsIn w s.waiters → IsIn w t.waiters ⊎ (over w.id told ≡ true)
turn_leaves n left s t told w good turned here =
    let frame = subst (λ (o : Option (List Effect × CoreState)). IfSome o (λ r. IsFrame s r.0 r.1 (calls_in r.0) s.names [])) turned (turn_frame n left s good) in
    elim (left_stays told s.waiters w here) [
      | inl stays ↦ inl (subst (λ (ws : List Waiter). IsIn w ws) (sym frame.waiters) (in_append_left w (all_cancelled (who_left told) s.waiters) [] stays))
      | inr gone ↦ inr gone
    ]

-- a request stays awaited behind a turn that doesn't tell SMB's front that it is served
pub turn_awaited : (n : ℕ) (left : Rooms) (s t : CoreState) (l : Lists) (told : List Effect) (e : ℕ × Waiting) → IsGood s → settle n left s ≡ Some (told, t) → AreAwaited s l → IsIn e l.waiting → list_any (serves_request e.0) told ≡ false → IsAwaited t l e
turn_awaited n left s t l told e good turned all here quiet =
    let is = all_in (IsAwaited s l) e l.waiting all here in
    elim (turn_leaves n left s t told is.waiter good turned is.waits) [
      | inl stays ↦ moved s t l l e is stays (keeps_self l e e.1.request)
      | inr ended ↦ (
          let serves : list_any (serves_request is.waiter.id) told ≡ true = turn_serves n left s t told is.waiter good (turn_of n left s t told good turned) is.waits is.smb ended in
          absurd (true≢false (sym (subst (λ (k : ℕ). list_any (serves_request k) told ≡ true) is.number serves) ∙ quiet)))
    ]
