-- What the calls by which the clock is read leave.
use Rattle.std.proofs.Common.{◌≡◌, ℕ, Bool, true, false, if◌then◌else◌, List, [], ◌∷◌, ◌++◌, Option, Some, None, refl, sym, ap, ap₂, subst, ◌∙◌}
use Rattle.std.specs.Prelude.{is_some, Result, Ok, Err, IfOk, OnOk}
use Rattle.xl_base.specs.Stable.{Stable}
use Rattle.xl_base.specs.declared.event.Moment.{Moment}
use Rattle.xl_base.specs.declared.stable.Recorded.{Recorded}
use Rattle.xl_core.specs.Leases.{Lease, without_lease}
use Rattle.xl_base.specs.declared.name.Party.{Party}
use Rattle.xl_matrix.specs.declared.claim.Claim.{Claim}
use Rattle.xl_grace.specs.Grace.{Running, expired, is_over, ended, shortened}
use Rattle.xl_names.specs.declared.name.Name.TheVariants.{NfsParty}
use Rattle.xl_core.specs.State.{CoreState, aside_of, MayBe, GoesOn}
use Rattle.xl_core.specs.Askers.{party_named}
use Rattle.xl_core.specs.Good.{IsGood}
use Rattle.xl_core.specs.Settle.{end_party}
use Rattle.xl_core.specs.Stores.{may_store, stored, store_failed, client_name, without_name, Telling, HandsOn}
use Rattle.xl_core.specs.Ticks.{advanced, end_some, unleased, barred, gone_client, forgotten, expire, may_expire, try_expire, behind_told, lapse_all, expire_all, end_grace, try_end_grace, tick}
use Rattle.xl_core.specs.Unsettled.{AreHeldUp}
use Rattle.xl_core.specs.declared.ask.Effect.{Effect}
use Rattle.xl_core.specs.declared.ask.Effect.TheVariants.{Expired}
use Rattle.xl_core.specs.declared.unsettled.Unsettled.{Unsettled}
use Rattle.xl_core.proofs.AsideLaws.{aside_good, of_aside, stored_aside, failed_aside}
use Rattle.xl_core.proofs.StoreLaws.{SameStores, goes_on_same, goes_on_then, hands_same, hands_then, may_be_made, may_be_before}
use Rattle.xl_core.proofs.HeldUpLaws.{on_file, all_still_up}

-- ---- no right to reclaim

pub barred_good : (s t : CoreState) (client : List ℕ) → t ≡ barred s client → IsGood s → IsGood t
unfolding barred
barred_good s t client is good = subst IsGood (sym is) (aside_good (record (aside_of s) { grace = expired (client_name client) s.grace }) s good)

runs_still : (name : Recorded) (grace : Option Running) → is_some (expired name grace) ≡ is_some grace
runs_still name None = refl
runs_still name (Some g) = refl

pub barred_up : (u : Unsettled) (s t : CoreState) (name : Recorded) → t.claims ≡ s.claims → t.waiters ≡ s.waiters → t.grace ≡ expired name s.grace → AreHeldUp u s → AreHeldUp u t
barred_up u s t name claims waiters grace all = all_still_up u u s t waiters (ap is_some grace ∙ runs_still name s.grace) (λ file n. (n, ap (λ (cs : List Claim). on_file file cs) claims)) all

-- ---- the store of an expiry

pub store_good : {E : Type 0} (r : Result Bool E) (s t : CoreState) (stable : Stable) → IfOk r (λ ok. t ≡ (if ok then stored stable s else store_failed stable s)) → OnOk r (IsGood s → IsGood t)
store_good (Ok true) s t stable is = λ good. subst IsGood (sym is) (of_aside IsGood s (stored stable s) (stored_aside stable s) (λ x. aside_good x s good))
store_good (Ok false) s t stable is = λ good. subst IsGood (sym is) (of_aside IsGood s (store_failed stable s) (failed_aside stable s) (λ x. aside_good x s good))
store_good (Err e) s t stable is = tt

-- ---- an expiry

-- who is gone changes nothing that is stored
ended_stores : (t : CoreState) (party : Party) → SameStores t (end_party t party).1
unfolding end_party
ended_stores t party = record { stable = refl; made = refl; failed = refl; given = refl }

unleased_stores : (s t : CoreState) (client : List ℕ) (o : Option Party) → SameStores s t → SameStores s (unleased client (end_some t o)).1
unleased_stores s t client None same = record { stable = same.stable; made = same.made; failed = same.failed; given = same.given }
unleased_stores s t client (Some party) same =
    let gone = ended_stores t party in record { stable = gone.stable ∙ same.stable; made = gone.made ∙ same.made; failed = gone.failed ∙ same.failed; given = gone.given ∙ same.given }

pub gone_stores : (s : CoreState) (client : List ℕ) → SameStores s (gone_client s client).1
unfolding gone_client barred
gone_stores s client = unleased_stores s (record s { grace = expired (client_name client) s.grace }) client (party_named s.names (NfsParty client)) (record { stable = refl; made = refl; failed = refl; given = refl })

gone_so : (s t : CoreState) (client : List ℕ) (told : List Effect) → gone_client s client ≡ (told, t) → SameStores s t
gone_so s t client told is = subst (λ (r : List Effect × CoreState). SameStores s r.1) is (gone_stores s client)

pub gone_on : (s t u : CoreState) (client : List ℕ) (told : List Effect) → GoesOn s t → gone_client t client ≡ (told, u) → GoesOn s u
gone_on s t u client told on is = goes_on_then s t u on (goes_on_same t u (gone_so t u client told is))

pub gone_hands : (s t u : CoreState) (client : List ℕ) (told : List Effect) (a b : Telling) → GoesOn s t → HandsOn s t a b → gone_client t client ≡ (told, u) → HandsOn s u a b
gone_hands s t u client told a b on hands is =
    let same = gone_so t u client told is in hands_then s t u a b b on hands (goes_on_same t u same) (hands_same t u b same)

-- the store failed, and all stays
pub expires_not : (n : ℕ) (s t : CoreState) (client : List ℕ) → may_expire n s client ≡ false → t ≡ store_failed (without_name (client_name client) s.stable) s → try_expire n s client ≡ ([], t)
unfolding try_expire
expires_not n s t client none is = rw none (ap (λ (x : CoreState). ([], x)) (sym is))

-- it may expire, and is gone
pub expires_so : (n : ℕ) (s t u : CoreState) (client : List ℕ) (told : List Effect) → may_expire n s client ≡ true → t ≡ forgotten s client → gone_client t client ≡ (told, u) → try_expire n s client ≡ (told, u)
unfolding try_expire expire
expires_so n s t u client told may is gone = rw may (ap (λ (x : CoreState). gone_client x client) (sym is) ∙ gone)

-- so it does where the record is stored without it
pub expires_here : (n : ℕ) (s t u : CoreState) (client id : List ℕ) (told : List Effect) (ok : Bool) → id ≡ client → (MayBe n t → may_expire n s id ≡ ok) → ok ≡ true → t ≡ (if ok then forgotten s id else store_failed (without_name (client_name id) s.stable) s) → gone_client t client ≡ (told, u) → MayBe n u → try_expire n s client ≡ (told, u)
expires_here n s t u client id told ok named may made goes gone is =
    let before : MayBe n t = may_be_before n t u (goes_on_same t u (gone_so t u client told gone)) is in
    expires_so n s t u client told (ap (λ (x : List ℕ). may_expire n s x) (sym named) ∙ may before ∙ made)
    (goes ∙ ap₂ (λ (b : Bool) (x : List ℕ). if b then forgotten s x else store_failed (without_name (client_name x) s.stable) s) made named) gone

-- a client is gone, one after another
pub gone_is : (s t u : CoreState) (client : List ℕ) (party : Option Party) (told all : List Effect) (leases : List Lease) → t ≡ barred s client → party ≡ party_named t.names (NfsParty client) → end_some t party ≡ (told, u) → leases ≡ without_lease client u.leases → all ≡ told ++ Expired client ∷ [] → gone_client s client ≡ (all, record u { leases = leases })
unfolding gone_client barred
gone_is s t u client party told all leases bars named goes without tells =
    let same : party_named t.names (NfsParty client) ≡ party_named s.names (NfsParty client) = ap (λ (x : CoreState). party_named x.names (NfsParty client)) bars in
    let ends : end_some (barred s client) (party_named s.names (NfsParty client)) ≡ (told, u) = ap₂ (λ (x : CoreState) (o : Option Party). end_some x o) (sym bars) (sym (named ∙ same)) ∙ goes in
    ap (λ (r : List Effect × CoreState). unleased client r) ends ∙ (λ i. (sym tells i, record u { leases = sym without i }))

-- ---- those in turn

-- one more of them is done
pub turn_more : {A : Type 0} (does : ℕ → List A → CoreState → List Effect × CoreState) (all : ℕ → List Effect × CoreState) (t u : CoreState) (x : A) (xs rest : List A) (old new : List Effect) → rest ≡ x ∷ xs → GoesOn t u
    → ((n : ℕ) → MayBe n t → all n ≡ behind_told old (does n rest t)) → ((n : ℕ) → (ys : List A) → MayBe n u → behind_told old (does n (x ∷ ys) t) ≡ behind_told new (does n ys u))
    → (n : ℕ) → MayBe n u → all n ≡ behind_told new (does n xs u)
turn_more does all t u x xs rest old new front on before turn n may = before n (may_be_before n t u on may) ∙ ap (λ ys. behind_told old (does n ys t)) front ∙ turn n xs may

-- what is so whatever number of stores may succeed is so
pub tried_good : (does : ℕ → CoreState → List Effect × CoreState) (s t : CoreState) (told : List Effect) → ((n : ℕ) → IsGood (does n s).1) → ((n : ℕ) → MayBe n t → does n s ≡ (told, t)) → IsGood t
tried_good does s t told each is = subst (λ (r : List Effect × CoreState). IsGood r.1) (is t.made (may_be_made t)) (each t.made)

-- claims go, and nothing is stored
pub claims_on : (s : CoreState) (claims : List Claim) → GoesOn s (record s { claims = claims })
claims_on s claims = goes_on_same s (record s { claims = claims }) (record { stable = refl; made = refl; failed = refl; given = refl })

pub claims_hands : (s : CoreState) (claims : List Claim) (k : Telling) → HandsOn s (record s { claims = claims }) k k
claims_hands s claims k = hands_same s (record s { claims = claims }) k (record { stable = refl; made = refl; failed = refl; given = refl })

-- ---- the end of grace

pub ends_not : (n : ℕ) (s : CoreState) → is_over s.grace s.clock ≡ false → try_end_grace n s ≡ s
unfolding try_end_grace
ends_not n s runs = rw runs refl

pub ends_failed : (n : ℕ) (s t : CoreState) → is_over s.grace s.clock ≡ true → may_store n s ≡ false → t ≡ store_failed (shortened s.grace s.stable) s → try_end_grace n s ≡ t
unfolding try_end_grace
ends_failed n s t over none is = rw (over, none) (sym is)

pub ends_so : (n : ℕ) (s t : CoreState) → is_over s.grace s.clock ≡ true → may_store n s ≡ true → t ≡ stored (shortened s.grace s.stable) s → try_end_grace n s ≡ record t { grace = None }
unfolding try_end_grace end_grace
ends_so n s t over may is = rw (over, may) (ap (λ (x : CoreState). record x { grace = None }) (sym is))

-- so it does where the store is made
pub ends_here : (n : ℕ) (s t : CoreState) (grace : Option Running) (stable : Stable) (ok : Bool) → is_over s.grace s.clock ≡ true → (MayBe n t → may_store n s ≡ ok) → MayBe n (record t { grace = grace }) → ok ≡ true → stable ≡ shortened s.grace s.stable → t ≡ (if ok then stored stable s else store_failed stable s) → grace ≡ ended t.clock t.grace → try_end_grace n s ≡ record t { grace = grace }
unfolding stored
ends_here n s t grace stable ok over may is made shorter goes gone =
    let went : t ≡ stored stable s = goes ∙ ap (λ (b : Bool). if b then stored stable s else store_failed stable s) made in
    let same : (t.grace ≡ s.grace) × (t.clock ≡ s.clock) = (ap (λ (x : CoreState). x.grace) went, ap (λ (x : CoreState). x.clock) went) in
    let none : grace ≡ None = gone ∙ ap₂ (λ (now : Moment) (g : Option Running). ended now g) same.1 same.0 ∙ ap (λ (b : Bool). if b then None else s.grace) over in
    ends_so n s t over (may (record { enough = is.enough; spent = is.spent }) ∙ made) (went ∙ ap (λ (x : Stable). stored x s) shorter) ∙ ap (λ (g : Option Running). record t { grace = g }) (sym none)

pub graced_on : (s t : CoreState) (grace : Option Running) → GoesOn s t → GoesOn s (record t { grace = grace })
graced_on s t grace on = goes_on_then s t (record t { grace = grace }) on (goes_on_same t (record t { grace = grace }) (record { stable = refl; made = refl; failed = refl; given = refl }))

pub graced_hands : (s t : CoreState) (grace : Option Running) (a b : Telling) → GoesOn s t → HandsOn s t a b → HandsOn s (record t { grace = grace }) a b
graced_hands s t grace a b on hands =
    let same : SameStores t (record t { grace = grace }) = record { stable = refl; made = refl; failed = refl; given = refl } in
    hands_then s t (record t { grace = grace }) a b b on hands (goes_on_same t (record t { grace = grace }) same) (hands_same t (record t { grace = grace }) b same)

-- ---- the reading

pub advanced_stores : (s t : CoreState) (now : Moment) → t ≡ advanced s now → SameStores s t
unfolding advanced
advanced_stores s t now is = subst (λ (x : CoreState). SameStores s x) (sym is) (record { stable = refl; made = refl; failed = refl; given = refl })

-- what it tells and leaves, one after another
pub tick_is : (n : ℕ) (s t u v w : CoreState) (now : Moment) (none first told : List Effect) → none ≡ [] → t ≡ advanced s now → behind_told none (lapse_all n t) ≡ (first, u) → behind_told first (expire_all n u) ≡ (told, v) → try_end_grace n v ≡ w → tick n s now ≡ (told, w)
unfolding tick
tick_is n s t u v w now none first told begins rises lapses expires ends =
    let began : lapse_all n (advanced s now) ≡ (first, u) = ap (λ (x : CoreState). lapse_all n x) (sym rises) ∙ ap (λ (before : List Effect). behind_told before (lapse_all n t)) (sym begins) ∙ lapses in
    ap (λ (r : List Effect × CoreState). let q = expire_all n r.1 in (r.0 ++ q.0, try_end_grace n q.1)) began
    ∙ ap (λ (r : List Effect × CoreState). (r.0, try_end_grace n r.1)) expires
    ∙ ap (λ (x : CoreState). (told, x)) ends

-- so are the stores, one after another
pub ticked_on_so : (s t u v w : CoreState) (now : Moment) → t ≡ advanced s now → GoesOn t u → GoesOn u v → GoesOn v w → GoesOn s w
ticked_on_so s t u v w now rises lapses expires ends = goes_on_then s u w (goes_on_then s t u (goes_on_same s t (advanced_stores s t now rises)) lapses) (goes_on_then u v w expires ends)

pub ticked_hands : (s t u v w : CoreState) (now : Moment) (a b c d : Telling) → t ≡ advanced s now → GoesOn t u → HandsOn t u a b → GoesOn u v → HandsOn u v b c → GoesOn v w → HandsOn v w c d → HandsOn s w a d
ticked_hands s t u v w now a b c d rises lapses lapse_hands expires expire_hands ends end_hands =
    let same = advanced_stores s t now rises in
    let begins = goes_on_same s t same in
    hands_then s u w a b d (goes_on_then s t u begins lapses) (hands_then s t u a a b begins (hands_same s t a same) lapses lapse_hands)
    (goes_on_then u v w expires ends) (hands_then u v w b c d expires expire_hands ends end_hands)
