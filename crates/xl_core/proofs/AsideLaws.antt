-- What a store, an expiry and the end of grace change of the record, the grace and the stores of the step alone.
use Rattle.std.proofs.Common.{◌≡◌, ℕ, Bool, true, false, if◌then◌else◌, inl, inr, List, Option, refl, sym, subst, ap, ◌∙◌, None, Some, [], ◌++◌, ◌∷◌, is_some}
use Rattle.std.proofs.lemmas.Bool.{cases_Bool}
use Rattle.xl_base.specs.Stable.{Stable, is_recorded}
use Rattle.xl_names.specs.declared.name.Name.TheVariants.{NfsParty}
use Rattle.xl_grace.specs.Grace.{expired, reclaimed, is_over, Running}
use Rattle.xl_core.specs.State.{CoreState, Aside, aside_of}
use Rattle.xl_core.specs.Askers.{party_named}
use Rattle.xl_core.specs.Good.{IsGood}
use Rattle.xl_core.specs.Stores.{may_store, stored, store_failed, client_name, recorded, unstored, record_left}
use Rattle.xl_base.specs.RecordFile.{with_name}
use Rattle.xl_base.specs.declared.stable.Recorded.{Recorded}
use Rattle.xl_core.specs.Askers.{asked_whats, asked_claims}
use Rattle.xl_core.specs.Causes.{wanted, asks_claims, name_asked, noted_by}
use Rattle.xl_core.specs.Decide.{is_back}
use Rattle.xl_core.specs.Judge.{to_record}
use Rattle.xl_core.specs.Standings.{recorded_as}
use Rattle.xl_core.specs.declared.ask.Answer.{Answer}
use Rattle.xl_core.specs.declared.ask.Answer.TheVariants.{Granted, Queued, Conflict, Recall, Grace, NoGrace, NotRecorded, Full, NotHeld, StoreFailed}
use Rattle.xl_core.specs.declared.ask.Ask.{Ask}
use Rattle.xl_matrix.specs.declared.claim.Claim.{Claim}
use Rattle.xl_core.specs.Ticks.{end_some, unleased, barred, gone_client, forgotten, expire, end_grace, try_end_grace}
use Rattle.xl_core.specs.declared.ask.Effect.{Effect}
use Rattle.xl_core.proofs.StateLaws.{good_claims, good_from}

-- the state with these
abbrev pub with_aside : Aside → CoreState → CoreState
with_aside x s = record s { stable = x.stable; grace = x.grace; made = x.made; failed = x.failed; given = x.given }

pub aside_good : (x : Aside) (s : CoreState) → IsGood s → IsGood (with_aside x s)
aside_good x s good = good_from (with_aside x s) (good_claims s good) good.distinct good.few good.waiters good.apart good.crowd

-- nothing but these changes
abbrev pub IsAside : CoreState → CoreState → Type 0
IsAside s t = t ≡ with_aside (aside_of t) s

pub stored_aside : (stable : Stable) (s : CoreState) → IsAside s (stored stable s)
unfolding stored
stored_aside stable s = refl

-- behind a store that failed none is tried
pub failed_already : (stable : Stable) (s : CoreState) → s.failed ≡ true → store_failed stable s ≡ s
unfolding store_failed
failed_already stable s e = ap (λ (b : Bool). if b then s else record s { failed = true; given = s.given ++ stable ∷ [] }) e

pub failed_first : (stable : Stable) (s : CoreState) → s.failed ≡ false → store_failed stable s ≡ record s { failed = true; given = s.given ++ stable ∷ [] }
unfolding store_failed
failed_first stable s e = ap (λ (b : Bool). if b then s else record s { failed = true; given = s.given ++ stable ∷ [] }) e

pub failed_aside : (stable : Stable) (s : CoreState) → IsAside s (store_failed stable s)
unfolding store_failed
failed_aside stable s = elim (cases_Bool s.failed) [ inl e ↦ rw e refl | inr e ↦ rw e refl ]

pub forgotten_aside : (s : CoreState) (client : List ℕ) → IsAside s (forgotten s client)
unfolding stored
forgotten_aside s client = elim (cases_Bool (is_recorded (client_name client) s.stable.names)) [ inl e ↦ rw e refl | inr e ↦ rw e refl ]

pub grace_aside : (s : CoreState) → IsAside s (end_grace s)
unfolding end_grace stored
grace_aside s = refl

-- what holds of each state with another record, grace and stores holds of one that differs in these alone
pub of_aside : (P : CoreState → Type 0) (s t : CoreState) → IsAside s t → ((x : Aside) → P (with_aside x s)) → P t
of_aside P s t is each = subst P (sym is) (each (aside_of t))

pub of_end : (n : ℕ) (P : CoreState → Type 0) (s : CoreState) → ((x : Aside) → P (with_aside x s)) → P (try_end_grace n s)
unfolding try_end_grace
of_end n P s each =
    elim (cases_Bool (is_over s.grace s.clock)) [
      | inr runs ↦ rw runs (each (aside_of s))
      | inl over ↦ elim (cases_Bool (may_store n s)) [
        | inl may ↦ rw (over, may) (of_aside P s (end_grace s) (grace_aside s) each)
        | inr none ↦ rw (over, none) (of_aside P s (store_failed _ s) (failed_aside _ s) each)
      ]
    ]

-- a client that expires is taken out of such a state
pub of_expire : (P : List Effect × CoreState → Type 0) (s : CoreState) (client : List ℕ) → ((x : Aside) → P (unleased client (end_some (with_aside x s) (party_named s.names (NfsParty client))))) → P (expire s client)
unfolding expire gone_client barred
of_expire P s client each =
    let t = forgotten s client in
    subst (λ (u : CoreState). P (unleased client (end_some (record u { grace = expired (client_name client) u.grace }) (party_named u.names (NfsParty client))))) (sym (forgotten_aside s client))
    (each (record (aside_of t) { grace = expired (client_name client) t.grace }))

-- ---- what an answer leaves

pub recorded_aside : (name : Option Recorded) (s : CoreState) → IsAside s (recorded name s)
unfolding stored
recorded_aside None s = refl
recorded_aside (Some name) s = refl

pub unstored_aside : (name : Option Recorded) (s : CoreState) → IsAside s (unstored name s)
unstored_aside None s = refl
unstored_aside (Some name) s = failed_aside (with_name name s.stable) s

pub left_aside : (name : Option Recorded) (answer : Answer) (s : CoreState) → IsAside s (record_left name answer s)
left_aside name (Granted c) s = recorded_aside name s
left_aside name StoreFailed s = unstored_aside name s
left_aside name (Conflict c) s = refl
left_aside name (Queued number) s = refl
left_aside name (Recall c) s = refl
left_aside name (Grace until) s = refl
left_aside name (NoGrace clock) s = refl
left_aside name NotRecorded s = refl
left_aside name (Full limit) s = refl
left_aside name NotHeld s = refl

pub back_aside : (a : Ask) (s : CoreState) → IsAside s (is_back a s)
back_aside a s = by a.reclaim where
  by : (b : Bool) → (let t = (if b then record s { grace = reclaimed (recorded_as a.party) s.grace } else s) in IsAside s t)
  by true = refl
  by false = refl

aside_again : (s t u : CoreState) → IsAside s t → IsAside t u → IsAside s u
aside_again s t u first next = next ∙ ap (with_aside (aside_of u)) first

-- what becomes of an ask for these claims that is answered so, as far as the record, the stores of the step and the grace go
abbrev pub noted_for : CoreState → Ask → List Claim → Answer → CoreState
noted_for s a claims (Granted c) = is_back a (recorded (to_record (wanted s a) claims) s)
noted_for s a claims answer = record_left (to_record (wanted s a) claims) answer s

pub noted_aside : (s : CoreState) (a : Ask) (claims : List Claim) (answer : Answer) → IsAside s (noted_for s a claims answer)
noted_aside s a claims (Granted c) = let name = to_record (wanted s a) claims in aside_again s (recorded name s) (is_back a (recorded name s)) (recorded_aside name s) (back_aside a (recorded name s))
noted_aside s a claims StoreFailed = left_aside (to_record (wanted s a) claims) StoreFailed s
noted_aside s a claims (Conflict c) = refl
noted_aside s a claims (Queued number) = refl
noted_aside s a claims (Recall c) = refl
noted_aside s a claims (Grace until) = refl
noted_aside s a claims (NoGrace clock) = refl
noted_aside s a claims NotRecorded = refl
noted_aside s a claims (Full limit) = refl
noted_aside s a claims NotHeld = refl

-- of an ask for claims it is what `noted_by` says
pub noted_is : (s : CoreState) (a : Ask) (claims : List Claim) (answer : Answer) → claims ≡ asked_claims a (asked_whats a.act) s.names → asks_claims a.act ≡ true → noted_for s a claims answer ≡ noted_by s a answer
noted_is s a claims (Granted c) e asks =
    ap (λ (cs : List Claim). is_back a (recorded (to_record (wanted s a) cs) s)) e ∙ ap (λ (b : Bool). if b then is_back a (recorded (name_asked s a) s) else recorded (name_asked s a) s) (sym asks)
noted_is s a claims StoreFailed e asks = ap (λ (cs : List Claim). unstored (to_record (wanted s a) cs) s) e
noted_is s a claims (Conflict c) e asks = refl
noted_is s a claims (Queued number) e asks = refl
noted_is s a claims (Recall c) e asks = refl
noted_is s a claims (Grace until) e asks = refl
noted_is s a claims (NoGrace clock) e asks = refl
noted_is s a claims NotRecorded e asks = refl
noted_is s a claims (Full limit) e asks = refl
noted_is s a claims NotHeld e asks = refl

-- and one that asks for none leaves all as it is
pub none_noted : (s : CoreState) (a : Ask) (answer : Answer) → asked_claims a (asked_whats a.act) s.names ≡ [] → asks_claims a.act ≡ false → noted_by s a answer ≡ s
none_noted s a (Granted c) none asks =
    ap (λ (b : Bool). if b then is_back a (recorded (name_asked s a) s) else recorded (name_asked s a) s) asks ∙ ap (λ (cs : List Claim). recorded (to_record (wanted s a) cs) s) none
none_noted s a StoreFailed none asks = ap (λ (cs : List Claim). unstored (to_record (wanted s a) cs) s) none
none_noted s a (Conflict c) none asks = refl
none_noted s a (Queued number) none asks = refl
none_noted s a (Recall c) none asks = refl
none_noted s a (Grace until) none asks = refl
none_noted s a (NoGrace clock) none asks = refl
none_noted s a NotRecorded none asks = refl
none_noted s a (Full limit) none asks = refl
none_noted s a NotHeld none asks = refl

-- a wait leaves them
pub waits_noted : (s : CoreState) (a : Ask) (number : ℕ) → noted_by s a (Queued number) ≡ s
waits_noted s a number = refl

pub by_aside : (s : CoreState) (a : Ask) (answer : Answer) → IsAside s (noted_by s a answer)
by_aside s a (Granted c) = by (asks_claims a.act) where
  got : CoreState
  got = recorded (name_asked s a) s

  by : (b : Bool) → IsAside s (if b then is_back a got else got)
  by true = aside_again s got (is_back a got) (recorded_aside (name_asked s a) s) (back_aside a got)
  by false = recorded_aside (name_asked s a) s
by_aside s a StoreFailed = unstored_aside (name_asked s a) s
by_aside s a (Conflict c) = refl
by_aside s a (Queued number) = refl
by_aside s a (Recall c) = refl
by_aside s a (Grace until) = refl
by_aside s a (NoGrace clock) = refl
by_aside s a NotRecorded = refl
by_aside s a (Full limit) = refl
by_aside s a NotHeld = refl

-- ---- the epoch

pub recorded_epoch : (name : Option Recorded) (s : CoreState) → (recorded name s).stable.epoch ≡ s.stable.epoch
unfolding stored
recorded_epoch None s = refl
recorded_epoch (Some name) s = refl

pub failed_epoch : (stable : Stable) (s : CoreState) → (store_failed stable s).stable.epoch ≡ s.stable.epoch
unfolding store_failed
failed_epoch stable s = by s.failed where
  by : (b : Bool) → (if b then s else record s { failed = true; given = s.given ++ stable ∷ [] }).stable.epoch ≡ s.stable.epoch
  by true = refl
  by false = refl

unstored_epoch : (name : Option Recorded) (s : CoreState) → (unstored name s).stable.epoch ≡ s.stable.epoch
unstored_epoch None s = refl
unstored_epoch (Some name) s = failed_epoch (with_name name s.stable) s

-- no answer changes it
pub left_epoch : (name : Option Recorded) (answer : Answer) (s : CoreState) → (record_left name answer s).stable.epoch ≡ s.stable.epoch
left_epoch name (Granted c) s = recorded_epoch name s
left_epoch name StoreFailed s = unstored_epoch name s
left_epoch name (Conflict c) s = refl
left_epoch name (Queued number) s = refl
left_epoch name (Recall c) s = refl
left_epoch name (Grace until) s = refl
left_epoch name (NoGrace clock) s = refl
left_epoch name NotRecorded s = refl
left_epoch name (Full limit) s = refl
left_epoch name NotHeld s = refl

pub by_epoch : (s : CoreState) (a : Ask) (answer : Answer) → (noted_by s a answer).stable.epoch ≡ s.stable.epoch
by_epoch s a (Granted c) = by (asks_claims a.act) a.reclaim where
  got : CoreState
  got = recorded (name_asked s a) s

  back : Bool → CoreState
  back b = if b then record got { grace = reclaimed (recorded_as a.party) got.grace } else got

  by : (asks reclaims : Bool) → (if asks then back reclaims else got).stable.epoch ≡ s.stable.epoch
  by true true = recorded_epoch (name_asked s a) s
  by true false = recorded_epoch (name_asked s a) s
  by false reclaims = recorded_epoch (name_asked s a) s
by_epoch s a StoreFailed = unstored_epoch (name_asked s a) s
by_epoch s a (Conflict c) = refl
by_epoch s a (Queued number) = refl
by_epoch s a (Recall c) = refl
by_epoch s a (Grace until) = refl
by_epoch s a (NoGrace clock) = refl
by_epoch s a NotRecorded = refl
by_epoch s a (Full limit) = refl
by_epoch s a NotHeld = refl

-- ---- the grace that runs

pub recorded_grace : (name : Option Recorded) (s : CoreState) → (recorded name s).grace ≡ s.grace
unfolding stored
recorded_grace None s = refl
recorded_grace (Some name) s = refl

failed_grace : (stable : Stable) (s : CoreState) → (store_failed stable s).grace ≡ s.grace
unfolding store_failed
failed_grace stable s = by s.failed where
  by : (b : Bool) → (if b then s else record s { failed = true; given = s.given ++ stable ∷ [] }).grace ≡ s.grace
  by true = refl
  by false = refl

unstored_grace : (name : Option Recorded) (s : CoreState) → (unstored name s).grace ≡ s.grace
unstored_grace None s = refl
unstored_grace (Some name) s = failed_grace (with_name name s.stable) s

-- a store leaves it
pub left_grace : (name : Option Recorded) (answer : Answer) (s : CoreState) → (record_left name answer s).grace ≡ s.grace
left_grace name (Granted c) s = recorded_grace name s
left_grace name StoreFailed s = unstored_grace name s
left_grace name (Conflict c) s = refl
left_grace name (Queued number) s = refl
left_grace name (Recall c) s = refl
left_grace name (Grace until) s = refl
left_grace name (NoGrace clock) s = refl
left_grace name NotRecorded s = refl
left_grace name (Full limit) s = refl
left_grace name NotHeld s = refl

-- a reclaim that is noted leaves grace running
back_runs : (a : Ask) (s : CoreState) → is_some (is_back a s).grace ≡ is_some s.grace
back_runs a s = by a.reclaim s.grace refl where
  runs : (g : Option Running) → is_some (reclaimed (recorded_as a.party) g) ≡ is_some g
  runs None = refl
  runs (Some g) = refl

  by : (b : Bool) (g : Option Running) → s.grace ≡ g → is_some (if b then record s { grace = reclaimed (recorded_as a.party) s.grace } else s).grace ≡ is_some s.grace
  by true g e = runs s.grace
  by false g e = refl

-- grace runs behind an ask if it ran before
pub by_runs : (s : CoreState) (a : Ask) (answer : Answer) → is_some (noted_by s a answer).grace ≡ is_some s.grace
by_runs s a (Granted c) = by (asks_claims a.act) where
  got : CoreState
  got = recorded (name_asked s a) s

  by : (b : Bool) → is_some (if b then is_back a got else got).grace ≡ is_some s.grace
  by true = back_runs a got ∙ ap is_some (recorded_grace (name_asked s a) s)
  by false = ap is_some (recorded_grace (name_asked s a) s)
by_runs s a StoreFailed = ap is_some (unstored_grace (name_asked s a) s)
by_runs s a (Conflict c) = refl
by_runs s a (Queued number) = refl
by_runs s a (Recall c) = refl
by_runs s a (Grace until) = refl
by_runs s a (NoGrace clock) = refl
by_runs s a NotRecorded = refl
by_runs s a (Full limit) = refl
by_runs s a NotHeld = refl
