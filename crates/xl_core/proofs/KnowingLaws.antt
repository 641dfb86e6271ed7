-- While grace runs those who may reclaim are those of the record, and nobody else is let in.
use Rattle.std.proofs.Common.{◌≡◌, ℕ, Bool, true, false, not, ◌&&◌, ◌||◌, if◌then◌else◌, inl, inr, List, [], ◌∷◌, ◌++◌, map, Option, Some, None, IfSome, ◌↔◌, refl, sym, ap, subst, ◌∙◌}
use Rattle.std.specs.List.{filter}
use Rattle.std.proofs.lemmas.Bool.{cases_Bool, both_ways, or_parts}
use Rattle.std.proofs.lemmas.Option.{same_Some}
use Rattle.xl_base.specs.Stable.{Stable, same_name, agree, is_recorded}
use Rattle.xl_base.specs.declared.event.Moment.{Moment}
use Rattle.xl_base.specs.declared.stable.Recorded.{Recorded}
use Rattle.xl_grace.specs.Grace.{Running, is_of, newly, may_reclaim, is_known, noted, others, begun, reclaimed, expired}
use Rattle.xl_grace.specs.declared.grace.Admission.TheVariants.{Enters, NotRecorded}
use Rattle.xl_grace.specs.declared.reclaimant.Reclaimant.{Reclaimant}
use Rattle.xl_matrix.specs.declared.claim.Claim.{Claim}
use Rattle.xl_wait.specs.declared.waiter.Rooms.{Rooms}
use Rattle.xl_wait.specs.declared.waiter.Waiter.{Waiter}
use Rattle.xl_core.specs.State.{CoreState, Aside, aside_of, started}
use Rattle.xl_core.specs.Askers.{asked_whats, asked_claims, party_named}
use Rattle.xl_core.specs.BreakAnswers.{client_of}
use Rattle.xl_names.specs.declared.name.Name.TheVariants.{NfsParty}
use Rattle.xl_base.specs.declared.name.Party.{Party}
use Rattle.xl_core.specs.Causes.{IsClaimDue, IsServed, Answered, WaitsOn, IsTurn, asks_claims, name_asked, wanted, noted_by, once_told, name_waiting}
use Rattle.xl_core.specs.Decide.{is_back, claims_asked, acted, decided, way, before_wish, ask}
use Rattle.xl_core.specs.Deeds.{Deed, Asks, GivesBack, Weakens, Acks, Cancels, Ends, Serves, Draws, Advances, Lapses, Renews, Expires, Closes, FailsStore, EndsGrace, turned, done, all_done, IsFitDeed, AreFit}
use Rattle.xl_core.specs.Good.{IsGood}
use Rattle.xl_core.specs.Judge.{to_record}
use Rattle.xl_core.specs.Knowing.{KnowsRecord}
use Rattle.xl_core.specs.Settle.{settle, way_again, plea_again, end_party}
use Rattle.xl_core.specs.Standings.{recorded_as, asker_as, is_smb, standing, standing_by, stands, enters}
use Rattle.xl_core.specs.Stores.{stored, store_failed, client_name, unrecorded, recorded, unstored}
use Rattle.xl_core.specs.Ticks.{end_some, barred, gone_client, forgotten, expire, lapsed_by, lapse, end_grace}
use Rattle.xl_core.specs.declared.ask.Act.{Act}
use Rattle.xl_core.specs.declared.ask.Act.TheVariants.{Share, Ranges, Test, Unlock, Wish}
use Rattle.xl_core.specs.declared.ask.Answer.{Answer}
use Rattle.xl_core.specs.declared.ask.Answer.TheVariants as answers
use Rattle.xl_core.specs.declared.ask.Ask.{Ask}
use Rattle.xl_core.specs.declared.ask.Effect.{Effect}
use Rattle.xl_core.specs.declared.lease.Times.{Times}
use Rattle.xl_core.specs.declared.standings.Standing.TheVariants.{Reclaims, Stays, Early, Unrecorded}
use Rattle.xl_core.proofs.AsideLaws.{left_grace, none_noted}
use Rattle.xl_core.proofs.AskWishLaws.{wish_claims}
use Rattle.xl_core.proofs.CauseLaws.{graced_due}
use Rattle.xl_core.proofs.DeedLaws.{deed_good}
use Rattle.xl_core.proofs.FrameLaws.{cancel_aside, give_back_aside, weaken_aside, ack_aside, end_party_aside, close_open_aside, drawn_aside, renew_aside, advanced_aside}
use Rattle.xl_core.proofs.HeldUpLaws.{begun_grace}
use Rattle.xl_core.proofs.SettleLaws.{turn_is}
use Rattle.xl_core.proofs.StandingLaws.{enters_cases, timely_calm, reclaims_asks}
use Rattle.xl_core.proofs.WayAsks.{ask_way_stands, ask_way_noted, ask_own}
use Rattle.xl_core.proofs.WayLaws.{way_keeps}

-- ---- who may reclaim

abbrev pub names_of : List Reclaimant → List Recorded
names_of ones = map (λ one. one.name) ones

may_known : (name : Recorded) (ones : List Reclaimant) → may_reclaim name ones ≡ is_known name (names_of ones)
may_known name [] = refl
may_known name (one ∷ ones) = ap (λ (b : Bool). (same_name one.name name && agree one.name.mark name.mark) || b) (may_known name ones)

known : (s : CoreState) (name : Recorded) (g : Running) → KnowsRecord s → s.grace ≡ Some g → may_reclaim name g.reclaimants ≡ is_known name s.stable.names
known s name g knows runs = may_known name g.reclaimants ∙ ap (λ (names : List Recorded). is_known name names) (knows g runs)

-- one who reclaims is let in if it may
back_may : (s : CoreState) (name : Recorded) (stays reclaim : Bool) (g : Running) → s.grace ≡ Some g → standing s name stays reclaim ≡ Reclaims → may_reclaim name g.reclaimants ≡ true
unfolding standing
back_may s name stays false g runs e = absurd (by stays (rw runs at e)) where
  by : (b : Bool) → (if b then Stays else Early g.end) ≡ Reclaims → ⊥
  by true e = cc
  by false e = cc
back_may s name stays true g runs e = by (may_reclaim name g.reclaimants) (rw runs at e) where
  by : (b : Bool) → standing_by stays true s.clock (if b then Enters else NotRecorded) ≡ Reclaims → b ≡ true
  by true e = refl
  by false e = absurd cc

out_may : (s : CoreState) (name : Recorded) (stays reclaim : Bool) (g : Running) → s.grace ≡ Some g → standing s name stays reclaim ≡ Unrecorded → (reclaim ≡ true) × (may_reclaim name g.reclaimants ≡ false)
unfolding standing
out_may s name stays false g runs e = absurd (by stays (rw runs at e)) where
  by : (b : Bool) → (if b then Stays else Early g.end) ≡ Unrecorded → ⊥
  by true e = cc
  by false e = cc
out_may s name stays true g runs e = (refl, by (may_reclaim name g.reclaimants) (rw runs at e)) where
  by : (b : Bool) → standing_by stays true s.clock (if b then Enters else NotRecorded) ≡ Unrecorded → b ≡ false
  by true e = absurd cc
  by false e = refl

may_out : (s : CoreState) (name : Recorded) (stays : Bool) (g : Running) → s.grace ≡ Some g → may_reclaim name g.reclaimants ≡ false → standing s name stays true ≡ Unrecorded
unfolding standing
may_out s name stays g runs e = rw (runs, e) refl

pub unrecorded_is : (s : CoreState) (a : Ask) (g : Running) → KnowsRecord s → s.grace ≡ Some g → (stands s a ≡ Unrecorded) ↔ ((a.reclaim ≡ true) × (is_known (asker_as a) s.stable.names ≡ false))
unrecorded_is s a g knows runs = (forth, back) where
  is : may_reclaim (asker_as a) g.reclaimants ≡ is_known (asker_as a) s.stable.names
  is = known s (asker_as a) g knows runs

  forth : stands s a ≡ Unrecorded → (a.reclaim ≡ true) × (is_known (asker_as a) s.stable.names ≡ false)
  forth e = let out = out_may s (asker_as a) (is_smb a.party) a.reclaim g runs e in (out.0, sym is ∙ out.1)

  back : (a.reclaim ≡ true) × (is_known (asker_as a) s.stable.names ≡ false) → stands s a ≡ Unrecorded
  back e = ap (standing s (asker_as a) (is_smb a.party)) e.0 ∙ may_out s (asker_as a) (is_smb a.party) g runs (is ∙ e.1)

-- ---- who is granted something

none_asked : (n : ℕ) (left : Rooms) (t : CoreState) (a : Ask) (d : Claim) → (claims_asked n left t a []).0 ≡ answers.Granted d → ⊥
unfolding claims_asked
none_asked n left t a d e = cc

claims_enter : (n : ℕ) (left : Rooms) (t : CoreState) (a : Ask) (cs : List Claim) (d : Claim) → (claims_asked n left t a cs).0 ≡ answers.Granted d → enters (stands t a) ≡ true
claims_enter n left t a [] d e = absurd (none_asked n left t a d e)
claims_enter n left t a (c ∷ cs) d e =
    elim (cases_Bool (enters (stands t a))) [
      | inl in_time ↦ in_time
      | inr out ↦ (subst (IsClaimDue n left t a c) e (graced_due n left t a c cs (claims_asked n left t a (c ∷ cs)) out refl)).1
    ]

acts_enter : (n : ℕ) (left : Rooms) (t : CoreState) (a : Ask) (act : Act) (d : Claim) → asks_claims act ≡ true → (acted n left t a act).0 ≡ answers.Granted d → enters (stands t a) ≡ true
acts_enter n left t a (Share access deny) d asks e = claims_enter n left t a (asked_claims a (asked_whats (Share access deny)) t.names) d e
acts_enter n left t a (Ranges ranges) d asks e = claims_enter n left t a (asked_claims a (asked_whats (Ranges ranges)) t.names) d e
acts_enter n left t a (Test extent exclusive) d asks e = absurd (both_ways false refl asks)
acts_enter n left t a (Unlock extent) d asks e = absurd (both_ways false refl asks)
acts_enter n left t a Wish d asks e = absurd (both_ways false refl asks)

asks_enter : (n : ℕ) (left : Rooms) (s : CoreState) (a : Ask) (d : Claim) → asks_claims a.act ≡ true → (ask n left s a).0 ≡ answers.Granted d → enters (stands s a) ≡ true
unfolding ask before_wish decided
asks_enter n left s a d asks e = ap enters (sym (ask_way_stands left s a)) ∙ acts_enter n left (way left s a).1 a a.act d asks e

none_runs : {A : Type 0} (g : Running) → None ≡ Some g → A
none_runs g e = absurd cc

pub granted_in_grace : (n : ℕ) (left : Rooms) (s : CoreState) (a : Ask) (c : Claim) (g : Running) → KnowsRecord s → s.grace ≡ Some g → asks_claims a.act ≡ true → (ask n left s a).0 ≡ answers.Granted c → (a.reclaim ≡ true) × (is_known (asker_as a) s.stable.names ≡ true)
granted_in_grace n left s a c g knows runs asks e =
    let name = asker_as a in
    elim (enters_cases (stands s a) (asks_enter n left s a c asks e)) [
      | inl timely ↦ none_runs g (sym (timely_calm s name (is_smb a.party) a.reclaim timely) ∙ runs)
      | inr back ↦ (reclaims_asks s name (is_smb a.party) a.reclaim back, sym (known s name g knows runs) ∙ back_may s name (is_smb a.party) a.reclaim g runs back)
    ]

-- ---- turns

pub no_turn : (n : ℕ) (left : Rooms) (s : CoreState) (g : Running) → IsGood s → s.grace ≡ Some g → settle n left s ≡ None
no_turn n left s g good runs = by (settle n left s) (turn_is n left s good) where
  by : (o : Option (List Effect × CoreState)) → IfSome o (λ r. IsTurn n left s r.0 r.1) → o ≡ None
  by None is = refl
  by (Some r) turn = none_runs g (sym turn.calm ∙ runs)

turn_calm : (n : ℕ) (left : Rooms) (s : CoreState) (effects : List Effect) (t : CoreState) → IsTurn n left s effects t → t.grace ≡ None
turn_calm n left s effects t turn = by turn.served where
  w : Waiter
  w = turn.waiter

  begun_state : CoreState
  begun_state = (way_again turn.before s w).1

  calm : begun_state.grace ≡ None
  calm = way_keeps (λ x. x.grace) turn.before (plea_again s w) w.asked s (λ c. begun_grace c s) ∙ turn.calm

  by : IsServed n left turn.before begun_state w turn.claim turn.told t → t.grace ≡ None
  by (Answered answer told is due new clear) =
      ap (λ (x : CoreState). x.grace) (new ∙ wish_claims w.wish answer (once_told begun_state w answer)) ∙ left_grace (to_record (name_waiting begun_state w) w.asked) answer begun_state ∙ calm
  by (WaitsOn told up new) = ap (λ (x : CoreState). x.grace) new ∙ calm

-- ---- from a start on

newly_names : (names : List Recorded) → names_of (newly names) ≡ names
newly_names [] = refl
newly_names (name ∷ names) = ap (λ (rest : List Recorded). name ∷ rest) (newly_names names)

pub started_knows : (stable : Stable) (clock : Moment) (times : Times) → KnowsRecord (started stable clock times)
started_knows stable clock times g e = by stable.names e where
  by : (names : List Recorded) → begun (record { epoch = stable.epoch; names = names }) clock times.grace ≡ Some g → names_of g.reclaimants ≡ names
  by [] e = none_runs g e
  by (name ∷ names) e = ap (λ (h : Running). names_of h.reclaimants) (sym (same_Some _ g e)) ∙ newly_names (name ∷ names)

-- ---- what stays so

-- only the record and the grace tell it
knows_by : (s t : CoreState) → aside_of t ≡ aside_of s → KnowsRecord s → KnowsRecord t
knows_by s t same knows g runs = knows g (sym (ap (λ (x : Aside). x.grace) same) ∙ runs) ∙ sym (ap (λ (x : Aside). x.stable.names) same)

noted_names : (name : Recorded) (ones : List Reclaimant) → names_of (noted name ones) ≡ names_of ones
noted_names name [] = refl
noted_names name (one ∷ ones) =
    elim (cases_Bool (is_of name one)) [
      | inl here ↦ rw here refl
      | inr other ↦ rw other (ap (λ (rest : List Recorded). one.name ∷ rest) (noted_names name ones))
    ]

-- a reclaim is noted
reclaimed_knows : (s t : CoreState) (name : Recorded) → t.grace ≡ reclaimed name s.grace → t.stable ≡ s.stable → KnowsRecord s → KnowsRecord t
reclaimed_knows s t name grace stable knows g runs = by s.grace refl (sym grace ∙ runs) where
  by : (o : Option Running) → s.grace ≡ o → reclaimed name o ≡ Some g → names_of g.reclaimants ≡ t.stable.names
  by None was e = none_runs g e
  by (Some h) was e = ap (λ (k : Running). names_of k.reclaimants) (sym (same_Some _ g e)) ∙ noted_names name h.reclaimants ∙ knows h was ∙ sym (ap (λ (x : Stable). x.names) stable)

back_knows : (a : Ask) (s : CoreState) → KnowsRecord s → KnowsRecord (is_back a s)
back_knows a s knows = by a.reclaim where
  by : (b : Bool) → KnowsRecord (if b then record s { grace = reclaimed (recorded_as a.party) s.grace } else s)
  by true = reclaimed_knows s (record s { grace = reclaimed (recorded_as a.party) s.grace }) (asker_as a) refl refl knows
  by false = knows

-- a reclaim has nothing recorded
none_stored : (s : CoreState) (a : Ask) → a.reclaim ≡ true → wanted s a ≡ None
none_stored s a reclaim = ap (λ (stores : Bool). unrecorded stores (asker_as a) s.stable) (ap (λ (b : Bool). a.monitored && not b) reclaim ∙ and_false a.monitored) where
  and_false : (b : Bool) → (b && false) ≡ false
  and_false true = refl
  and_false false = refl

to_none : (cs : List Claim) → to_record None cs ≡ None
to_none [] = refl
to_none (c ∷ []) = refl
to_none (c ∷ d ∷ cs) = refl

failed_knows : (stable : Stable) (s : CoreState) → KnowsRecord s → KnowsRecord (store_failed stable s)
unfolding store_failed
failed_knows stable s knows = by s.failed where
  by : (b : Bool) → KnowsRecord (if b then s else record s { failed = true; given = s.given ++ stable ∷ [] })
  by true = knows
  by false = knows

unstored_knows : (name : Option Recorded) (s : CoreState) → KnowsRecord s → KnowsRecord (unstored name s)
unstored_knows None s knows = knows
unstored_knows (Some name) s knows = failed_knows _ s knows

-- where no grace runs there is nothing to know
calm_knows : (t : CoreState) → t.grace ≡ None → KnowsRecord t
calm_knows t calm g runs = none_runs g (sym calm ∙ runs)

recorded_calm : (name : Option Recorded) (s : CoreState) → s.grace ≡ None → (recorded name s).grace ≡ None
unfolding stored
recorded_calm None s calm = calm
recorded_calm (Some name) s calm = calm

back_calm : (a : Ask) (s : CoreState) → s.grace ≡ None → (is_back a s).grace ≡ None
back_calm a s calm = by a.reclaim where
  by : (b : Bool) → (if b then record s { grace = reclaimed (recorded_as a.party) s.grace } else s).grace ≡ None
  by true = ap (reclaimed (recorded_as a.party)) calm
  by false = calm

-- one that is granted claims while grace runs reclaims them
granted_knows : (s : CoreState) (a : Ask) (c : Claim) → asks_claims a.act ≡ true → ((g : Running) → s.grace ≡ Some g → a.reclaim ≡ true) → KnowsRecord s → KnowsRecord (noted_by s a (answers.Granted c))
granted_knows s a c asks reclaims knows = subst KnowsRecord (sym (ap (λ (b : Bool). if b then is_back a got else got) asks)) (by s.grace refl) where
  got : CoreState
  got = recorded (name_asked s a) s

  by : (o : Option Running) → s.grace ≡ o → KnowsRecord (is_back a got)
  by None calm = calm_knows (is_back a got) (back_calm a got (recorded_calm (name_asked s a) s calm))
  by (Some g) runs =
      let none : name_asked s a ≡ None =
      ap (λ (o : Option Recorded). to_record o (asked_claims a (asked_whats a.act) s.names)) (none_stored s a (reclaims g runs)) ∙ to_none (asked_claims a (asked_whats a.act) s.names) in
      subst (λ (o : Option Recorded). KnowsRecord (is_back a (recorded o s))) (sym none) (back_knows a s knows)

unasked : (s : CoreState) (a : Ask) (act : Act) → asks_claims act ≡ false → asked_claims a (asked_whats act) s.names ≡ []
unasked s a (Share access deny) out = absurd (both_ways true out refl)
unasked s a (Ranges ranges) out = absurd (both_ways true out refl)
unasked s a (Test extent exclusive) out = refl
unasked s a (Unlock extent) out = refl
unasked s a Wish out = refl

noted_knows : (s : CoreState) (a : Ask) (answer : Answer) → ((c : Claim) (g : Running) → answer ≡ answers.Granted c → asks_claims a.act ≡ true → s.grace ≡ Some g → a.reclaim ≡ true) → KnowsRecord s → KnowsRecord (noted_by s a answer)
noted_knows s a (answers.Granted c) reclaims knows =
    elim (cases_Bool (asks_claims a.act)) [
      | inl asks ↦ granted_knows s a c asks (λ g runs. reclaims c g refl asks runs) knows
      | inr out ↦ subst KnowsRecord (sym (none_noted s a (answers.Granted c) (unasked s a a.act out) out)) knows
    ]
noted_knows s a answers.StoreFailed reclaims knows = unstored_knows (name_asked s a) s knows
noted_knows s a (answers.Conflict c) reclaims knows = knows
noted_knows s a (answers.Queued number) reclaims knows = knows
noted_knows s a (answers.Recall c) reclaims knows = knows
noted_knows s a (answers.Grace until) reclaims knows = knows
noted_knows s a (answers.NoGrace clock) reclaims knows = knows
noted_knows s a answers.NotRecorded reclaims knows = knows
noted_knows s a (answers.Full limit) reclaims knows = knows
noted_knows s a answers.NotHeld reclaims knows = knows

ask_knows : (n : ℕ) (left : Rooms) (s : CoreState) (a : Ask) → IsGood s → IsFitDeed s (Asks left a) → KnowsRecord s → KnowsRecord (ask n left s a).2
ask_knows n left s a good fit knows =
    let answer = (ask n left s a).0 in
    knows_by (noted_by s a answer) (ask n left s a).2 ((ask_own n left s a good fit.party).noted ∙ ask_way_noted left s a answer)
    (noted_knows s a answer (λ c g is asks runs. (granted_in_grace n left s a c g knows runs asks is).0) knows)

-- ---- an expiry

gone_names : (name : Recorded) (ones : List Reclaimant) → names_of (others name ones) ≡ filter (λ held. not (same_name held name)) (names_of ones)
gone_names name [] = refl
gone_names name (one ∷ ones) =
    elim (cases_Bool (is_of name one)) [
      | inl here ↦ rw here (gone_names name ones)
      | inr other ↦ rw other (ap (λ (rest : List Recorded). one.name ∷ rest) (gone_names name ones))
    ]

none_gone : (name : Recorded) (names : List Recorded) → is_recorded name names ≡ false → filter (λ held. not (same_name held name)) names ≡ names
none_gone name [] out = refl
none_gone name (first ∷ names) out =
    let parts = or_parts (same_name first name) (is_recorded name names) out in
    rw parts.0 (ap (λ (rest : List Recorded). first ∷ rest) (none_gone name names parts.1))

forgotten_names : (s : CoreState) (client : List ℕ) → (forgotten s client).stable.names ≡ filter (λ held. not (same_name held (client_name client))) s.stable.names
unfolding stored
forgotten_names s client =
    elim (cases_Bool (is_recorded (client_name client) s.stable.names)) [
      | inl there ↦ rw there refl
      | inr out ↦ rw out (sym (none_gone (client_name client) s.stable.names out))
    ]

forgotten_grace : (s : CoreState) (client : List ℕ) → (forgotten s client).grace ≡ s.grace
unfolding stored
forgotten_grace s client = elim (cases_Bool (is_recorded (client_name client) s.stable.names)) [ inl there ↦ rw there refl | inr out ↦ rw out refl ]

gone_aside : (s : CoreState) (client : List ℕ) → aside_of (gone_client s client).1 ≡ aside_of (barred s client)
unfolding gone_client barred end_party
gone_aside s client = by (party_named s.names (NfsParty client)) where
  by : (o : Option Party) → aside_of (end_some (record s { grace = expired (client_name client) s.grace }) o).1 ≡ aside_of (record s { grace = expired (client_name client) s.grace })
  by None = refl
  by (Some party) = refl

expired_knows : (s t : CoreState) (name : Recorded) → t.grace ≡ expired name s.grace → t.stable.names ≡ filter (λ held. not (same_name held name)) s.stable.names → KnowsRecord s → KnowsRecord t
expired_knows s t name grace names knows g runs = by s.grace refl (sym grace ∙ runs) where
  by : (o : Option Running) → s.grace ≡ o → expired name o ≡ Some g → names_of g.reclaimants ≡ t.stable.names
  by None was e = none_runs g e
  by (Some h) was e =
      ap (λ (k : Running). names_of k.reclaimants) (sym (same_Some _ g e)) ∙ gone_names name h.reclaimants ∙ ap (λ (held : List Recorded). filter (λ one. not (same_name one name)) held) (knows h was) ∙ sym names

barred_is : (s : CoreState) (client : List ℕ) → ((barred s client).grace ≡ expired (client_name client) s.grace) × ((barred s client).stable ≡ s.stable)
unfolding barred
barred_is s client = (refl, refl)

expire_knows : (s : CoreState) (client : List ℕ) → KnowsRecord s → KnowsRecord (expire s client).1
unfolding expire
expire_knows s client knows =
    let lost = forgotten s client in
    let bar = barred_is lost client in
    knows_by (barred lost client) (gone_client lost client).1 (gone_aside lost client)
    (expired_knows s (barred lost client) (client_name client) (bar.0 ∙ ap (expired (client_name client)) (forgotten_grace s client)) (ap (λ (x : Stable). x.names) bar.1 ∙ forgotten_names s client) knows)

lapse_knows : (s : CoreState) (cache : Claim) → KnowsRecord s → KnowsRecord (lapse s cache).1
unfolding lapse
lapse_knows s cache knows = by (client_of s.names cache.party) where
  by : (o : Option (List ℕ)) → KnowsRecord (lapsed_by s cache o).1
  by None = knows
  by (Some client) = expire_knows s client knows

turned_knows : (n : ℕ) (left : Rooms) (s : CoreState) (o : Option (List Effect × CoreState)) → IfSome o (λ r. IsTurn n left s r.0 r.1) → KnowsRecord s → KnowsRecord (turned s o).2
turned_knows n left s None is knows = knows
turned_knows n left s (Some r) turn knows = calm_knows r.1 (turn_calm n left s r.0 r.1 turn)

end_calm : (s : CoreState) → (end_grace s).grace ≡ None
unfolding end_grace
end_calm s = refl

-- ---- the deeds

deed_knows : (n : ℕ) (s : CoreState) (d : Deed) → IsGood s → IsFitDeed s d → KnowsRecord s → KnowsRecord (done n s d)
deed_knows n s (Asks left a) good fit knows = ask_knows n left s a good fit knows
deed_knows n s (GivesBack claim) good fit knows = knows_by s (done n s (GivesBack claim)) (give_back_aside s claim) knows
deed_knows n s (Weakens share access deny) good fit knows = knows_by s (done n s (Weakens share access deny)) (weaken_aside s share access deny) knows
deed_knows n s (Acks cache to) good fit knows = knows_by s (done n s (Acks cache to)) (ack_aside s cache to) knows
deed_knows n s (Cancels id) good fit knows = knows_by s (done n s (Cancels id)) (cancel_aside s id) knows
deed_knows n s (Ends party) good fit knows = knows_by s (done n s (Ends party)) (end_party_aside s party) knows
deed_knows n s (Serves left) good fit knows = turned_knows n left s (settle n left s) (turn_is n left s good) knows
deed_knows n s Draws good fit knows = knows_by s (done n s Draws) (drawn_aside s) knows
deed_knows n s (Advances now) good fit knows = knows_by s (done n s (Advances now)) (advanced_aside s now) knows
deed_knows n s (Lapses cache) good fit knows = lapse_knows s cache knows
deed_knows n s (Renews client) good fit knows = knows_by s (done n s (Renews client)) (renew_aside s client) knows
deed_knows n s (Expires client) good fit knows = expire_knows s client knows
deed_knows n s (Closes number party) good fit knows = knows_by s (done n s (Closes number party)) (close_open_aside s number party) knows
deed_knows n s (FailsStore stable) good fit knows = failed_knows stable s knows
deed_knows n s EndsGrace good fit knows = calm_knows (end_grace s) (end_calm s)

pub deeds_know : (n : ℕ) (s : CoreState) (ds : List Deed) → IsGood s → AreFit n s ds → KnowsRecord s → KnowsRecord (all_done n s ds)
deeds_know n s [] good fit knows = knows
deeds_know n s (d ∷ ds) good fit knows = deeds_know n (done n s d) ds (deed_good n s d good fit.0) fit.1 (deed_knows n s d good fit.0 knows)
