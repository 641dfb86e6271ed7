-- Who waits, waits for itself. So nobody waits for a client once it expired, and its name doesn't come into the record again in that
-- entry.
use Rattle.std.proofs.Common.{◌≡◌, ℕ, Bool, true, false, not, ◌&&◌, ◌||◌, ◌==◌, inl, inr, ◌⊎◌, List, [], ◌∷◌, ◌++◌, Option, Some, None, option_map, refl, sym, ap, subst, ◌∙◌}
use Rattle.std.specs.Prelude.{bytes_eq}
use Rattle.std.specs.List.{AllByRecursion, filter, list_any, slice_get}
use Rattle.std.proofs.lemmas.Bool.{cases_Bool, both_ways, and_parts}
use Rattle.std.proofs.lemmas.Option.{same_Some}
use Rattle.std.proofs.lemmas.Slice.Eq.{bytes_eq-Decides}
use Rattle.xl_base.proofs.Members.{all_in, all_from, all_weaker, all_append}
use Rattle.xl_base.specs.Lists.{IsIn}
use Rattle.xl_base.specs.Stable.{same_protocol, same_name, is_recorded}
use Rattle.xl_base.specs.declared.event.Moment.{Moment}
use Rattle.xl_base.specs.declared.name.Owner.{Owner}
use Rattle.xl_base.specs.declared.name.Owner.TheVariants as owners
use Rattle.xl_base.specs.declared.name.Party.{Party}
use Rattle.xl_base.specs.declared.name.Party.TheVariants as parties
use Rattle.xl_base.specs.declared.name.Protocol.{Protocol}
use Rattle.xl_base.specs.declared.name.Protocol.TheVariants.{Nlm, Nfs, Smb}
use Rattle.xl_base.specs.declared.stable.Recorded.{Recorded}
use Rattle.xl_matrix.proofs.EqualLaws.{same_parties-self}
use Rattle.xl_matrix.specs.Equal.{same_parties}
use Rattle.xl_matrix.specs.declared.claim.Claim.{Claim}
use Rattle.xl_matrix.specs.declared.claim.What.{What}
use Rattle.xl_names.proofs.NameLaws.{number_at}
use Rattle.xl_names.specs.declared.name.Name.{Name}
use Rattle.xl_names.specs.declared.name.Name.TheVariants.{NlmRange, NlmShare, NlmParty, NfsRange, NfsShare, NfsParty, SmbLease}
use Rattle.xl_wait.specs.Waiting.{cancelled}
use Rattle.xl_wait.specs.declared.waiter.Waiter.{Waiter}
use Rattle.xl_core.specs.Askers.{asked_claims, asked_whats, asking_party, party_named}
use Rattle.xl_core.specs.BreakAnswers.{client_of}
use Rattle.xl_core.specs.Decide.{waiter_of, ask}
use Rattle.xl_core.specs.Deeds.{Deed, Asks, GivesBack, Weakens, Acks, Cancels, Ends, Serves, Draws, Advances, Lapses, Renews, Expires, Closes, FailsStore, EndsGrace, given, done, all_done, all_told_of, IsFitDeed, AreFit, queue_with, queue_without, queue_without_party, queue_without_client, waits_after, KeepNames}
use Rattle.xl_core.specs.Frames.{who_expired}
use Rattle.xl_core.specs.Good.{IsGood, IsKnown, IsPled, IsWaiter, agree, are_kept, is_lease_of}
use Rattle.xl_core.specs.Settle.{end_party, waits_for}
use Rattle.xl_core.specs.Standings.{recorded_at, recorded_by, recorded_name}
use Rattle.xl_core.specs.State.{CoreState, drawn}
use Rattle.xl_core.specs.Stores.{client_name}
use Rattle.xl_core.specs.Ticks.{advanced, end_some, unleased, barred, gone_client, forgotten, expire, lapsed_by, lapse}
use Rattle.xl_core.specs.declared.ask.Answer.{Answer}
use Rattle.xl_core.specs.declared.ask.Answer.TheVariants.{Granted, Conflict, Queued, Recall, Grace, NoGrace, NotRecorded, Full, NotHeld, StoreFailed}
use Rattle.xl_core.specs.declared.ask.Ask.{Ask}
use Rattle.xl_core.specs.declared.ask.Effect.{Effect}
use Rattle.xl_core.specs.declared.ask.Effect.TheVariants.{Begun, Served, Cancelled, Expired}
use Rattle.xl_core.proofs.AsideLaws.{failed_aside, grace_aside}
use Rattle.xl_core.proofs.DeedLaws.{deed_good, deed_names, deed_queues}
use Rattle.xl_core.proofs.FrameLaws.{ended_expires, expired_both}
use Rattle.xl_core.proofs.PutOffLaws.{expired_is}
use Rattle.xl_house.specs.Free.{WaitsForItself}
use Rattle.xl_house.specs.Recording.{IsMonitored}
use Rattle.xl_house.proofs.PartLaws.{AreOfParts, IsOfPart}
use Rattle.xl_house.proofs.MarkLaws.{like_in, recorded_of}
use Rattle.xl_house.proofs.RecordingLaws.{deed_from}
use Rattle.xl_house.proofs.StoringLaws.{is_clocked}

-- ---- who waits, waits for itself

all_filtered : {A : Type 0} (P : A → Type 0) (q : A → Bool) (xs : List A) → AllByRecursion P xs → AllByRecursion P (filter q xs)
all_filtered P q [] all = tt
all_filtered P q (x ∷ xs) all =
    elim (cases_Bool (q x)) [
      | inl stays ↦ rw stays (all.0, all_filtered P q xs all.1)
      | inr goes ↦ rw goes (all_filtered P q xs all.1)
    ]

all_cancelled_of : (P : Waiter → Type 0) (id : ℕ) (ws : List Waiter) → AllByRecursion P ws → AllByRecursion P (cancelled id ws)
all_cancelled_of P id [] all = tt
all_cancelled_of P id (w ∷ ws) all =
    elim (cases_Bool (w.id == id)) [
      | inl goes ↦ rw goes all.1
      | inr stays ↦ rw stays (all.0, all_cancelled_of P id ws all.1)
    ]

-- what holds of each who waits holds of each who waits on
module _ (P : Waiter → Type 0) where
  without_served : (told : List Effect) (ws : List Waiter) → AllByRecursion P ws → AllByRecursion P (queue_without told ws)
  without_served [] ws all = all
  without_served (Served party id answer ∷ told) ws all = all_cancelled_of P id ws all
  without_served (Begun cache to call ∷ told) ws all = without_served told ws all
  without_served (Cancelled party id ∷ told) ws all = without_served told ws all
  without_served (Expired client ∷ told) ws all = without_served told ws all

  without_a_party : (o : Option Party) (ws : List Waiter) → AllByRecursion P ws → AllByRecursion P (queue_without_party o ws)
  without_a_party None ws all = all
  without_a_party (Some party) ws all = all_filtered P (λ w. not (waits_for party w)) ws all

  without_its : (names : List Name) (o : Option (List ℕ)) (ws : List Waiter) → AllByRecursion P ws → AllByRecursion P (queue_without_client names o ws)
  without_its names None ws all = all
  without_its names (Some client) ws all = without_a_party (party_named names (NfsParty client)) ws all

  abbrev Comes : CoreState → Ask → Type 0
  Comes s a = (id : ℕ) → P (waiter_of id a (asking_party a s.names) (asked_claims a (asked_whats a.act) s.names))

  with_asker : (s : CoreState) (a : Ask) (answer : Answer) (ws : List Waiter) → Comes s a → AllByRecursion P ws → AllByRecursion P (queue_with s a answer ws)
  with_asker s a (Queued id) ws comes all = all_append P ws (waiter_of id a (asking_party a s.names) (asked_claims a (asked_whats a.act) s.names) ∷ []) all (comes id, tt)
  with_asker s a (Granted c) ws comes all = all
  with_asker s a (Conflict c) ws comes all = all
  with_asker s a (Recall c) ws comes all = all
  with_asker s a (Grace until) ws comes all = all
  with_asker s a (NoGrace clock) ws comes all = all
  with_asker s a NotRecorded ws comes all = all
  with_asker s a (Full limit) ws comes all = all
  with_asker s a NotHeld ws comes all = all
  with_asker s a StoreFailed ws comes all = all

  -- and of one who comes to wait
  abbrev MayCome : CoreState → Deed → Type 0
  MayCome s (Asks left a) = Comes s a
  MayCome s deed = Unit {0}

  all_wait : (n : ℕ) (s : CoreState) (d : Deed) (ws : List Waiter) → MayCome s d → AllByRecursion P ws → AllByRecursion P (waits_after n s d ws)
  all_wait n s (Asks left a) ws comes all = with_asker s a (ask n left s a).0 ws comes all
  all_wait n s (Cancels id) ws comes all = all_cancelled_of P id ws all
  all_wait n s (Ends party) ws comes all = all_filtered P (λ w. not (waits_for party w)) ws all
  all_wait n s (Serves left) ws comes all = without_served (given n s (Serves left)).1 ws all
  all_wait n s (Lapses cache) ws comes all = without_its s.names (client_of s.names cache.party) ws all
  all_wait n s (Expires client) ws comes all = without_a_party (party_named s.names (NfsParty client)) ws all
  all_wait n s (Closes number party) ws comes all = all_filtered P _ ws all
  all_wait n s (GivesBack claim) ws comes all = all
  all_wait n s (Weakens share access deny) ws comes all = all
  all_wait n s (Acks cache to) ws comes all = all
  all_wait n s Draws ws comes all = all
  all_wait n s (Advances now) ws comes all = all
  all_wait n s (Renews client) ws comes all = all
  all_wait n s (FailsStore stable) ws comes all = all
  all_wait n s EndsGrace ws comes all = all

  pub deed_waits : (n : ℕ) (s : CoreState) (d : Deed) → IsGood s → IsFitDeed s d → MayCome s d → AllByRecursion P s.waiters → AllByRecursion P (done n s d).waiters
  deed_waits n s d good fit comes all = subst (λ (ws : List Waiter). AllByRecursion P ws) (sym (deed_queues n s d good fit)) (all_wait n s d s.waiters comes all)

asked_for_itself : (a : Ask) (names : List Name) (whats : List What) → AllByRecursion (λ c. c.party ≡ asking_party a names) (asked_claims a whats names)
asked_for_itself a names [] = tt
asked_for_itself a names (what ∷ whats) = (refl, asked_for_itself a names whats)

comes_for_itself : (s : CoreState) (d : Deed) → MayCome WaitsForItself s d
comes_for_itself s (Asks left a) = λ id. asked_for_itself a s.names (asked_whats a.act)
comes_for_itself s d = tt

pub deeds_wait : (n : ℕ) (s : CoreState) (ds : List Deed) → IsGood s → AreFit n s ds → AllByRecursion WaitsForItself s.waiters → AllByRecursion WaitsForItself (all_done n s ds).waiters
deeds_wait n s [] good fit all = all
deeds_wait n s (d ∷ ds) good fit all = deeds_wait n (done n s d) ds (deed_good n s d good fit.0) fit.1 (deed_waits WaitsForItself n s d good fit.0 (comes_for_itself s d) all)

-- ---- a client's waiters

-- the waiter isn't this client's
abbrev pub IsOther : List Name → List ℕ → Waiter → Type 0
IsOther names client w = same_name (recorded_at names w.party) (client_name client) ≡ true → ⊥

-- the record names the client by its own name alone
not_nfs : (name : Recorded) (client : List ℕ) → same_protocol name.protocol Nfs ≡ false → same_name name (client_name client) ≡ true → ⊥
not_nfs name client other e = both_ways (same_protocol name.protocol Nfs) other (and_parts (same_protocol name.protocol Nfs) (bytes_eq name.name client) e).0

named_so : (name : Name) (client : List ℕ) → same_name (recorded_name name) (client_name client) ≡ true → name ≡ NfsParty client
named_so (NfsParty id) client e = ap NfsParty ((bytes_eq-Decides id client).0 e)
named_so (NlmParty caller) client e = absurd (not_nfs (recorded_name (NlmParty caller)) client refl e)
named_so (NlmRange caller svid oh) client e = absurd (not_nfs (recorded_name (NlmRange caller svid oh)) client refl e)
named_so (NlmShare caller oh) client e = absurd (not_nfs (recorded_name (NlmShare caller oh)) client refl e)
named_so (NfsRange id owner) client e = absurd (not_nfs (recorded_name (NfsRange id owner)) client refl e)
named_so (NfsShare id owner) client e = absurd (not_nfs (recorded_name (NfsShare id owner)) client refl e)
named_so (SmbLease guid key) client e = absurd (not_nfs (recorded_name (SmbLease guid key)) client refl e)

found_so : (o : Option Name) (client : List ℕ) → same_name (recorded_by o) (client_name client) ≡ true → o ≡ Some (NfsParty client)
found_so None client e = absurd (not_nfs (recorded_by None) client refl e)
found_so (Some name) client e = ap Some (named_so name client e)

-- such a party is that of its name
same_nfs : (protocol : Protocol) → same_protocol protocol Nfs ≡ true → protocol ≡ Nfs
same_nfs Nlm e = absurd (both_ways false refl e)
same_nfs Nfs e = refl
same_nfs Smb e = absurd (both_ways false refl e)

kept_nfs : (names : List Name) (owner : Owner) (protocol : Protocol) (number : ℕ) (client : List ℕ) → slice_get names number ≡ Some (NfsParty client) → are_kept names owner (parties.Name protocol number) ≡ true → protocol ≡ Nfs
kept_nfs names (owners.Name other at) protocol number client there kept = by (slice_get names at) (ap (λ (o : Option Name). agree other protocol (slice_get names at) o) (sym there) ∙ kept) where
  by : (o : Option Name) → agree other protocol o (Some (NfsParty client)) ≡ true → protocol ≡ Nfs
  by None e = absurd (both_ways false refl e)
  by (Some name) e = same_nfs protocol (and_parts (same_protocol protocol Nfs) _ (and_parts (same_protocol other _) _ e).1).0
kept_nfs names (owners.Open at) protocol number client there kept = by (ap (λ (o : Option Name). is_lease_of protocol o) (sym there) ∙ kept) where
  by : is_lease_of protocol (Some (NfsParty client)) ≡ true → protocol ≡ Nfs
  by e = same_nfs protocol (and_parts (same_protocol protocol Nfs) false e).0

first_asked : (w : Waiter) → IsPled w.asked → (c : Claim) × (cs : List Claim) × (w.asked ≡ c ∷ cs)
first_asked w pled = by w.asked refl pled where
  by : (asked : List Claim) → w.asked ≡ asked → IsPled asked → (c : Claim) × (cs : List Claim) × (w.asked ≡ c ∷ cs)
  by [] e pled = absurd pled
  by (c ∷ cs) e pled = (c, cs, e)

-- who waits as the client goes with the client's party
goes_with : (s : CoreState) (w : Waiter) (client : List ℕ) → IsGood s → IsIn w s.waiters → WaitsForItself w → same_name (recorded_at s.names w.party) (client_name client) ≡ true
    → (party : Party) × (party_named s.names (NfsParty client) ≡ Some party) × (waits_for party w ≡ true)
unfolding waits_for
goes_with s w client good there itself e = by w.party refl e where
  is : IsWaiter s.names s.counter w
  is = all_in (IsWaiter s.names s.counter) w s.waiters good.waiters there

  asks : (c : Claim) × (cs : List Claim) × (w.asked ≡ c ∷ cs)
  asks = first_asked w is.2

  first_known : IsKnown s.names asks.0
  first_known = (subst (λ (cs : List Claim). AllByRecursion (IsKnown s.names) cs) asks.2 is.1).0

  first_own : asks.0.party ≡ w.party
  first_own = (subst (λ (cs : List Claim). AllByRecursion (λ c. c.party ≡ w.party) cs) asks.2 itself).0

  by : (p : Party) → w.party ≡ p → same_name (recorded_at s.names p) (client_name client) ≡ true → (party : Party) × (party_named s.names (NfsParty client) ≡ Some party) × (list_any (λ c. same_parties c.party party) w.asked ≡ true)
  by (parties.Open number) own e = absurd (not_nfs (recorded_at s.names (parties.Open number)) client refl e)
  by (parties.Name protocol number) own e =
      let at : slice_get s.names number ≡ Some (NfsParty client) = found_so (slice_get s.names number) client e in
      let nfs : protocol ≡ Nfs = kept_nfs s.names asks.0.owner protocol number client at (ap (λ (p : Party). are_kept s.names asks.0.owner p) (sym (first_own ∙ own)) ∙ first_known.1) in
      let same : asks.0.party ≡ parties.Name Nfs number = first_own ∙ own ∙ ap (λ (x : Protocol). parties.Name x number) nfs in (
        parties.Name Nfs number,
        ap (λ (o : Option ℕ). option_map (λ k. parties.Name Nfs k) o) (number_at s.names (NfsParty client) number good.distinct at),
        ap (λ (cs : List Claim). list_any (λ c. same_parties c.party (parties.Name Nfs number)) cs) asks.2
            ∙ ap (λ (p : Party). same_parties p (parties.Name Nfs number) || list_any (λ c. same_parties c.party (parties.Name Nfs number)) asks.1) same
            ∙ ap (λ (b : Bool). b || list_any (λ c. same_parties c.party (parties.Name Nfs number)) asks.1) (same_parties-self (parties.Name Nfs number)),
      )

-- where those of the client's party are taken out none is left
others_left : (s : CoreState) (client : List ℕ) → IsGood s → AllByRecursion WaitsForItself s.waiters → AllByRecursion (IsOther s.names client) (queue_without_party (party_named s.names (NfsParty client)) s.waiters)
others_left s client good all = by (party_named s.names (NfsParty client)) refl where
  apart : (w : Waiter) → IsIn w s.waiters → ((party : Party) → party_named s.names (NfsParty client) ≡ Some party → waits_for party w ≡ false) → IsOther s.names client w
  apart w there none = λ its. (let goes = goes_with s w client good there (all_in WaitsForItself w s.waiters all there) its in both_ways (waits_for goes.0 w) (none goes.0 goes.1) goes.2)

  -- each of these is one of those who wait
  none_of : (ws : List Waiter) → ((w : Waiter) → IsIn w ws → IsIn w s.waiters) → party_named s.names (NfsParty client) ≡ None → AllByRecursion (IsOther s.names client) ws
  none_of [] among none = tt
  none_of (w ∷ ws) among none = (apart w (among w (inl refl)) (λ party is. (let no : None ≡ Some party = sym none ∙ is in absurd cc)), none_of ws (λ v h. among v (inr h)) none)

  kept_of : (ws : List Waiter) (party : Party) → ((w : Waiter) → IsIn w ws → IsIn w s.waiters) → party_named s.names (NfsParty client) ≡ Some party → AllByRecursion (IsOther s.names client) (filter (λ w. not (waits_for party w)) ws)
  kept_of [] party among is = tt
  kept_of (w ∷ ws) party among is =
      elim (cases_Bool (waits_for party w)) [
        | inl goes ↦ rw goes (kept_of ws party (λ v h. among v (inr h)) is)
        | inr stays ↦ rw stays (apart w (among w (inl refl)) (λ other is_other. ap (λ (p : Party). waits_for p w) (same_Some other party (sym is_other ∙ is)) ∙ stays), kept_of ws party (λ v h. among v (inr h)) is)
      ]

  by : (o : Option Party) → party_named s.names (NfsParty client) ≡ o → AllByRecursion (IsOther s.names client) (queue_without_party o s.waiters)
  by None is = none_of s.waiters (λ w h. h) is
  by (Some party) is = kept_of s.waiters party (λ w h. h) is

-- ---- the deeds of the clock

-- the deed is the clock's
abbrev pub is_of_clock : Deed → Bool
is_of_clock (Advances now) = true
is_of_clock d = is_clocked d

gone_tells : (s : CoreState) (client : List ℕ) → who_expired (gone_client s client).0 ≡ client ∷ []
unfolding gone_client
gone_tells s client = by (party_named s.names (NfsParty client)) where
  t : CoreState
  t = barred s client

  by : (o : Option Party) → who_expired (unleased client (end_some t o)).0 ≡ client ∷ []
  by None = refl
  by (Some party) = expired_both (end_party t party).0 (Expired client ∷ []) ∙ ap (λ (ids : List (List ℕ)). ids ++ client ∷ []) (ended_expires t party)

pub expire_tells : (s : CoreState) (client : List ℕ) → who_expired (expire s client).0 ≡ client ∷ []
unfolding expire
expire_tells s client = gone_tells (forgotten s client) client

one_of : (x y : List ℕ) → IsIn x (y ∷ []) → y ≡ x
one_of x y (inl e) = e
one_of x y (inr never) = absurd never

lapse_clears : (n : ℕ) (s : CoreState) (client : List ℕ) (cache : Claim) → IsGood s → AllByRecursion WaitsForItself s.waiters → IsIn client (who_expired (lapse s cache).0) → AllByRecursion (IsOther s.names client) (queue_without_client s.names (client_of s.names cache.party) s.waiters)
unfolding lapse
lapse_clears n s client cache good all = by (client_of s.names cache.party) where
  by : (o : Option (List ℕ)) → IsIn client (who_expired (lapsed_by s cache o).0) → AllByRecursion (IsOther s.names client) (queue_without_client s.names o s.waiters)
  by None there = absurd there
  by (Some id) there =
      let same = one_of client id (subst (λ (ids : List (List ℕ)). IsIn client ids) (expire_tells s id) there) in
      subst (λ (x : List ℕ). AllByRecursion (IsOther s.names client) (queue_without_party (party_named s.names (NfsParty x)) s.waiters)) (sym same) (others_left s client good all)

-- a deed that tells of its expiry leaves nobody who waits as the client
deed_clears : (n : ℕ) (s : CoreState) (d : Deed) (client : List ℕ) → is_of_clock d ≡ true → IsGood s → AllByRecursion WaitsForItself s.waiters → IsIn client (who_expired (given n s d).1) → AllByRecursion (IsOther s.names client) (waits_after n s d s.waiters)
deed_clears n s (Lapses cache) client clock good all there = lapse_clears n s client cache good all there
deed_clears n s (Expires id) client clock good all there =
    let same = one_of client id (subst (λ (ids : List (List ℕ)). IsIn client ids) (expire_tells s id) there) in
    subst (λ (x : List ℕ). AllByRecursion (IsOther s.names client) (queue_without_party (party_named s.names (NfsParty x)) s.waiters)) (sym same) (others_left s client good all)
deed_clears n s (FailsStore stable) client clock good all there = absurd there
deed_clears n s EndsGrace client clock good all there = absurd there
deed_clears n s (Advances now) client clock good all there = absurd there
deed_clears n s d client clock good all there = absurd (both_ways false refl clock)

lapse_names : (s : CoreState) (cache : Claim) → (lapse s cache).1.names ≡ s.names
unfolding lapse
lapse_names s cache = by (client_of s.names cache.party) where
  by : (o : Option (List ℕ)) → (lapsed_by s cache o).1.names ≡ s.names
  by None = refl
  by (Some client) = (expired_is s client).names

advanced_names : (s : CoreState) (now : Moment) → (advanced s now).names ≡ s.names
unfolding advanced
advanced_names s now = refl

drawn_names : (s : CoreState) → (drawn s).names ≡ s.names
unfolding drawn
drawn_names s = refl

clock_names : (n : ℕ) (s : CoreState) (d : Deed) → is_of_clock d ≡ true → (done n s d).names ≡ s.names
clock_names n s (Lapses cache) clock = lapse_names s cache
clock_names n s (Expires client) clock = (expired_is s client).names
clock_names n s (FailsStore stable) clock = ap (λ (t : CoreState). t.names) (failed_aside stable s)
clock_names n s EndsGrace clock = ap (λ (t : CoreState). t.names) (grace_aside s)
clock_names n s (Advances now) clock = advanced_names s now
clock_names n s d clock = absurd (both_ways false refl clock)

clock_comes : (P : Waiter → Type 0) (s : CoreState) (d : Deed) → is_of_clock d ≡ true → MayCome P s d
clock_comes P s (Asks left a) clock = absurd (both_ways false refl clock)
clock_comes P s d clock = tt

-- and none comes by the clock
others_stay : (n : ℕ) (s : CoreState) (ds : List Deed) (client : List ℕ) → AllByRecursion (λ d. is_of_clock d ≡ true) ds → IsGood s → AreFit n s ds → AllByRecursion (IsOther s.names client) s.waiters
    → (let t = all_done n s ds in AllByRecursion (IsOther t.names client) t.waiters)
others_stay n s [] client clock good fit all = all
others_stay n s (d ∷ ds) client clock good fit all =
    let t = done n s d in
    others_stay n t ds client clock.1 (deed_good n s d good fit.0) fit.1
    (subst (λ (names : List Name). AllByRecursion (IsOther names client) t.waiters) (sym (clock_names n s d clock.0)) (deed_waits (IsOther s.names client) n s d good fit.0 (clock_comes (IsOther s.names client) s d clock.0) all))

pub in_either : {A : Type 0} (x : A) (xs ys : List A) → IsIn x (xs ++ ys) → IsIn x xs ⊎ IsIn x ys
in_either x [] ys h = inr h
in_either x (z ∷ zs) ys (inl e) = inl (inl e)
in_either x (z ∷ zs) ys (inr later) = elim (in_either x zs ys later) [ inl here ↦ inl (inr here) | inr there ↦ inr there ]

pub clock_clears : (n : ℕ) (s : CoreState) (ds : List Deed) (client : List ℕ) → AllByRecursion (λ d. is_of_clock d ≡ true) ds → IsGood s → AreFit n s ds → AllByRecursion WaitsForItself s.waiters → IsIn client (who_expired (all_told_of n s ds))
    → (let t = all_done n s ds in AllByRecursion (IsOther t.names client) t.waiters)
clock_clears n s [] client clock good fit all there = absurd there
clock_clears n s (d ∷ ds) client clock good fit all there =
    let t = done n s d in
    let sound = deed_good n s d good fit.0 in
    elim (in_either client (who_expired (given n s d).1) (who_expired (all_told_of n t ds)) (subst (λ (ids : List (List ℕ)). IsIn client ids) (expired_both (given n s d).1 (all_told_of n t ds)) there)) [
      | inl now ↦ others_stay n t ds client clock.1 sound fit.1
          (subst (λ (names : List Name). AllByRecursion (IsOther names client) t.waiters) (sym (clock_names n s d clock.0))
          (subst (λ (ws : List Waiter). AllByRecursion (IsOther s.names client) ws) (sym (deed_queues n s d good fit.0)) (deed_clears n s d client clock.0 good all now)))
      | inr later ↦ clock_clears n t ds client clock.1 sound fit.1 (deed_waits WaitsForItself n s d good fit.0 (comes_for_itself s d) all) later
    ]

-- ---- the turns behind, and what the parts of frames do

-- the party's name, if it has one, is kept
abbrev IsNamedIn : List Name → Party → Type 0
IsNamedIn names (parties.Name protocol number) = (name : Name) × (slice_get names number ≡ Some name)
IsNamedIn names (parties.Open number) = Unit {0}

-- if the record may come to name who waits, that isn't this client
abbrev pub IsUnrecorded : List Name → List ℕ → Waiter → Type 0
IsUnrecorded names client w = w.monitored ≡ true → IsOther names client w × IsNamedIn names w.party

agreed : (protocol other : Protocol) (owner party : Option Name) → agree protocol other owner party ≡ true → (name : Name) × (party ≡ Some name)
agreed protocol other (Some owner) (Some name) e = (name, refl)
agreed protocol other None party e = absurd (both_ways false refl e)
agreed protocol other (Some owner) None e = absurd (both_ways false refl e)

leased : (protocol : Protocol) (party : Option Name) → is_lease_of protocol party ≡ true → (name : Name) × (party ≡ Some name)
leased protocol (Some name) e = (name, refl)
leased protocol None e = absurd (both_ways false refl e)

known_named : (names : List Name) (owner : Owner) (party : Party) → are_kept names owner party ≡ true → IsNamedIn names party
known_named names owner (parties.Open number) kept = tt
known_named names (owners.Name protocol at) (parties.Name other number) kept = agreed protocol other (slice_get names at) (slice_get names number) kept
known_named names (owners.Open at) (parties.Name other number) kept = leased other (slice_get names number) kept

-- as who waits is known
waits_named : (s : CoreState) (w : Waiter) → IsGood s → IsIn w s.waiters → WaitsForItself w → IsNamedIn s.names w.party
waits_named s w good there itself =
    let is = all_in (IsWaiter s.names s.counter) w s.waiters good.waiters there in
    let asks = first_asked w is.2 in
    subst (λ (p : Party). IsNamedIn s.names p) (subst (λ (cs : List Claim). AllByRecursion (λ c. c.party ≡ w.party) cs) asks.2 itself).0
    (known_named s.names asks.0.owner asks.0.party (subst (λ (cs : List Claim). AllByRecursion (IsKnown s.names) cs) asks.2 is.1).0.1)

pub all_unrecorded : (s : CoreState) (client : List ℕ) → IsGood s → AllByRecursion WaitsForItself s.waiters → AllByRecursion (IsOther s.names client) s.waiters → AllByRecursion (IsUnrecorded s.names client) s.waiters
all_unrecorded s client good itself other =
    all_from (IsUnrecorded s.names client) s.waiters (λ w there monitored. (all_in (IsOther s.names client) w s.waiters other there, waits_named s w good there (all_in WaitsForItself w s.waiters itself there)))

-- so it is still once more names are kept
still_by : (old new : List Name) (client : List ℕ) (party : Party) → KeepNames old new → (same_name (recorded_at old party) (client_name client) ≡ true → ⊥) × IsNamedIn old party → (same_name (recorded_at new party) (client_name client) ≡ true → ⊥) × IsNamedIn new party
still_by old new client (parties.Open number) keep is = is
still_by old new client (parties.Name protocol number) keep is =
    let after = keep number is.1.0 is.1.1 in
    (λ e. is.0 (ap (λ (o : Option Name). same_name (recorded_by o) (client_name client)) (is.1.1 ∙ sym after) ∙ e), (is.1.0, after))

still_unrecorded : (old new : List Name) (client : List ℕ) (ws : List Waiter) → KeepNames old new → AllByRecursion (IsUnrecorded old client) ws → AllByRecursion (IsUnrecorded new client) ws
still_unrecorded old new client ws keep all = all_weaker (IsUnrecorded old client) (IsUnrecorded new client) ws (λ w is monitored. still_by old new client w.party keep (is monitored)) all

-- who comes to wait by a part's deed is none whom the record may come to name
part_comes : (s : CoreState) (d : Deed) (client : List ℕ) → IsOfPart d → MayCome (IsUnrecorded s.names client) s d
part_comes s (Asks left a) client part = λ id monitored. absurd (both_ways (a.monitored && not a.reclaim) (ap (λ (b : Bool). b && not a.reclaim) part) monitored)
part_comes s d client part = tt

-- a name of which nobody waits doesn't come into the record by such a deed
none_comes : (n : ℕ) (s : CoreState) (d : Deed) (client : List ℕ) (name : Recorded) → IsOfPart d → AllByRecursion (IsUnrecorded s.names client) s.waiters → same_name name (client_name client) ≡ true → IsMonitored name n s d → ⊥
none_comes n s (Asks left a) client name part all same by = both_ways a.monitored part by.3
none_comes n s (Serves left) client name part all same by = (all_in (IsUnrecorded s.names client) by.0 s.waiters all by.3 by.5).0 (ap (λ (x : Recorded). same_name x (client_name client)) by.7 ∙ same)
none_comes n s d client name part all same by = absurd by

part_forgets : (n : ℕ) (s : CoreState) (d : Deed) (client : List ℕ) → IsOfPart d → IsGood s → IsFitDeed s d → AllByRecursion (IsUnrecorded s.names client) s.waiters → is_recorded (client_name client) s.stable.names ≡ false → is_recorded (client_name client) (done n s d).stable.names ≡ false
part_forgets n s d client part good fit all out =
    elim (cases_Bool (is_recorded (client_name client) (done n s d).stable.names)) [
      | inr none ↦ none
      | inl came ↦
          let held = recorded_of (client_name client) (done n s d).stable.names came in
          elim (deed_from n s d held.0 good fit held.1) [
            | inl before ↦ absurd (both_ways (is_recorded (client_name client) s.stable.names) out (like_in (client_name client) held.0 s.stable.names before held.2))
            | inr by ↦ absurd (none_comes n s d client held.0 part all held.2 by)
          ]
    ]

pub parts_forget : (n : ℕ) (s : CoreState) (ds : List Deed) (client : List ℕ) → AreOfParts ds → IsGood s → AreFit n s ds → AllByRecursion (IsUnrecorded s.names client) s.waiters → is_recorded (client_name client) s.stable.names ≡ false
    → is_recorded (client_name client) (all_done n s ds).stable.names ≡ false
parts_forget n s [] client parts good fit all out = out
parts_forget n s (d ∷ ds) client parts good fit all out =
    let t = done n s d in
    parts_forget n t ds client parts.1 (deed_good n s d good fit.0) fit.1
    (still_unrecorded s.names t.names client t.waiters (deed_names n s d good fit.0) (deed_waits (IsUnrecorded s.names client) n s d good fit.0 (part_comes s d client parts.0) all))
    (part_forgets n s d client parts.0 good fit.0 all out)
