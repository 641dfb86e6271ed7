-- What the core answers the calls that are drawn, and what it keeps.
use Rattle.std.proofs.Common.{◌≡◌, ℕ, zero, suc, pos, ◌<◌, ◌≤◌, Bool, true, false, not, ◌==◌, ◌&&◌, nat_le, ◌⊎◌, inl, inr, if◌then◌else◌, List, [], ◌∷◌, ◌++◌, length, codes, Option, Some, None, is_some, refl, sym, ap, ap₂, subst, ◌∙◌, arith}
use Rattle.std.specs.List.{AllByRecursion, list_any}
use Rattle.std.proofs.lemmas.Bool.{cases_lt, both_ways, and_right, le-leb, lt-ltb}
use Rattle.std.proofs.lemmas.Bool.Decides.{nat_tests}
use Rattle.xl_base.specs.Codec.{big_endian}
use Rattle.xl_base.specs.Lists.{IsIn}
use Rattle.xl_base.specs.declared.record_file.RecordForm.TheVariants.{Marked}
use Rattle.xl_base.specs.RecordFile.{most_record_bytes, name_text, names_text, record_text, with_name}
use Rattle.xl_base.specs.Stable.{Stable, is_kept as is_kept_with, put_name}
use Rattle.xl_base.specs.declared.stable.Mark.{Mark}
use Rattle.xl_base.specs.declared.stable.Mark.TheVariants.{State}
use Rattle.xl_base.specs.declared.stable.Recorded.{Recorded}
use Rattle.xl_base.proofs.RecordFileLaws.{head_length}
use Rattle.xl_base.proofs.Members.{all_append}
use Rattle.xl_base.specs.declared.name.Owner.{Owner}
use Rattle.xl_base.specs.declared.name.Owner.TheVariants as owners
use Rattle.xl_base.specs.declared.name.Party.{Party}
use Rattle.xl_base.specs.declared.name.Protocol.{Protocol}
use Rattle.xl_base.specs.declared.name.Protocol.TheVariants.{Nlm}
use Rattle.xl_matrix.specs.declared.claim.Claim.{Claim}
use Rattle.xl_matrix.specs.declared.claim.Extent.TheVariants.{Bytes, Empty}
use Rattle.xl_matrix.specs.declared.claim.What.{What}
use Rattle.xl_matrix.specs.declared.claim.What.TheVariants.{Share, Range, Cache}
use Rattle.xl_rpc.specs.Xdr.{signed}
use Rattle.xl_names.specs.Names.{protocol_of, place_of, number_of, is_kept, entered, most_names}
use Rattle.xl_names.specs.declared.name.Name.{Name}
use Rattle.xl_names.specs.declared.name.Name.TheVariants.{NlmRange, NlmParty}
use Rattle.xl_wait.specs.declared.waiter.Rooms.{Rooms}
use Rattle.xl_table.specs.Held.{mode_of, is_cache}
use Rattle.xl_table.specs.Relock.{most_claims, granted_claims, holds_byte}
use Rattle.xl_core.specs.State.{CoreState, Aside}
use Rattle.xl_core.specs.Standings.{is_smb, is_timely, asker_as, standing, standing_by, stands}
use Rattle.xl_core.specs.Stores.{bytes_with, may_record, unrecorded}
use Rattle.xl_grace.specs.Grace.{Running, admission}
use Rattle.xl_core.specs.Askers.{IsFit, is_client, both_entered, asked_claim, asker, asking_party, known_claim, number_or}
use Rattle.xl_core.specs.Causes.{IsClaimDue, IsWaiting, limits_of_grant, left_by_unlock, wanted}
use Rattle.xl_core.specs.Decide.{Answered, decided, way, ask, test_answered, tested}
use Rattle.xl_core.specs.Blockers.{is_stopped, test_blockers}
use Rattle.xl_table.specs.Least.{least}
use Rattle.xl_core.specs.Deeds.{queue_with}
use Rattle.xl_core.specs.Frames.{asks_to_hold, names_after}
use Rattle.xl_core.specs.Good.{IsGood, are_kept}
use Rattle.xl_core.specs.Limits.{IsRoom, grant_limits, first_passed, is_passed, most_owners, most_opens}
use Rattle.xl_core.specs.declared.ask.Act.{Act}
use Rattle.xl_core.specs.declared.ask.Act.TheVariants.{Ranges, Test, Unlock}
use Rattle.xl_core.specs.declared.ask.Answer.{Answer}
use Rattle.xl_core.specs.declared.ask.Answer.TheVariants as answers
use Rattle.xl_core.specs.declared.ask.Ask.{Ask}
use Rattle.xl_core.specs.declared.ask.Effect.{Effect}
use Rattle.xl_core.proofs.CauseLaws.{lock_due, test_is, unlock_is, unlock_by, left_so}
use Rattle.xl_core.proofs.DeedCalls.{decided_enters, decided_keeps_claims}
use Rattle.xl_core.proofs.DeedLaws.{ask_queue}
use Rattle.xl_core.proofs.FrameLaws.{ask_frame, ask_quiet}
use Rattle.xl_core.proofs.GoodLaws.{ask_good, holder_kept}
use Rattle.xl_core.proofs.KnownLaws.{asker_kept, both_distinct, get_none, kept_named}
use Rattle.xl_core.proofs.LimitLaws.{grant_found}
use Rattle.xl_core.proofs.AsideLaws.{by_runs}
use Rattle.xl_core.proofs.WayAsks.{ask_own, ask_there, ask_way_noted}
use Rattle.xl_plan.proofs.RecordLaws.{gained_told}
use Rattle.xl_core.proofs.WayCode.{no_way_for}
use Rattle.xl_core.proofs.AskWishLaws.{empty_after}
use Rattle.xl_front_nlm.specs.Asks.{ask_of}
use Rattle.xl_front_nlm.specs.Hosts.{rooms, host_rows}
use Rattle.xl_house.proofs.MarkLaws.{kept_put}
use Rattle.xl_make.proofs.GroupLaws.{HasBytes, IsFew, AreFew, owner_at, relocked_few, relocked_room}
use Rattle.xl_make.proofs.SumLaws.{few_names}

-- ---- who asks, and for what

abbrev pub five : List Name
five =
    NlmParty (codes "m") ∷ NlmRange (codes "m") (pos 0) [] ∷ NlmRange (codes "m") (pos 1) [] ∷ NlmRange (codes "m") (pos 2) [] ∷ NlmRange (codes "m") (pos 3) [] ∷ []

abbrev pub name_by : ℕ → Name
name_by who = NlmRange (codes "m") (pos who) []

-- the state of the caller's host
abbrev pub our_mark : Mark
our_mark = State (signed (pos 0))

-- the caller of a lock alone is monitored, and comes with a mark
abbrev pub drawn_ask : Bool → ℕ → ℕ → Act → Rooms → Ask
drawn_ask monitored who file act rows = record (ask_of (name_by who) (codes "m") file act rows) { monitored = monitored; mark = if monitored then Some our_mark else None }

-- the only name that is recorded
abbrev pub our_name : Recorded
our_name = record { protocol = Nlm; name = codes "m"; mark = Some our_mark }

ours_is : (monitored : Bool) (who file : ℕ) (act : Act) (rows : Rooms) → monitored ≡ true → asker_as (drawn_ask monitored who file act rows) ≡ our_name
ours_is monitored who file act rows e = ap (λ (b : Bool). record { protocol = Nlm; name = codes "m"; mark = if b then Some our_mark else None }) e

abbrev pub AreOurNames : List Recorded → Type 0
AreOurNames names = (names ≡ []) ⊎ (names ≡ our_name ∷ [])

-- the only host
abbrev pub AreOurs : List (List ℕ) → Type 0
AreOurs hosts = (hosts ≡ []) ⊎ (hosts ≡ codes "m" ∷ [])

pub record IsMadeCore (s : CoreState) : Type 0 where
  pub good : IsGood s
  pub waiters : s.waiters ≡ []
  pub names : AllByRecursion (λ n. IsIn n five) s.names
  pub claims : AreFew s.claims
  pub calm : s.grace ≡ None
  pub recorded : AreOurNames s.stable.names

-- one store more of the step succeeds
pub record IsAble (n : ℕ) (s : CoreState) : Type 0 where
  pub made : s.made < n
  pub failed : s.failed ≡ false

-- granted, denied for what is held or for a cache, or nothing to unlock
abbrev pub IsPlain : Answer → Type 0
IsPlain (answers.Granted c) = Unit {0}
IsPlain (answers.Conflict c) = Unit {0}
IsPlain (answers.Recall c) = Unit {0}
IsPlain answers.NotHeld = Unit {0}
IsPlain _ = ⊥

-- ---- names

name_among : (who : ℕ) → who < 4 → IsIn (name_by who) five
name_among zero h = inr (inl refl)
name_among (suc zero) h = inr (inr (inl refl))
name_among (suc (suc zero)) h = inr (inr (inr (inl refl)))
name_among (suc (suc (suc zero))) h = inr (inr (inr (inr (inl refl))))
name_among (suc (suc (suc (suc n)))) h = absurd (omega (arith, h))

entered_among : (name : Name) (names : List Name) → IsIn name five → AllByRecursion (λ n. IsIn n five) names → AllByRecursion (λ n. IsIn n five) (entered name names)
entered_among name names among all = by (is_kept name names) where
  by : (b : Bool) → AllByRecursion (λ n. IsIn n five) (if b then names else names ++ name ∷ [])
  by true = all
  by false = all_append (λ n. IsIn n five) names (name ∷ []) all (among, tt)

both_among : (monitored : Bool) (who file : ℕ) (act : Act) (rows : Rooms) (names : List Name) → who < 4 → AllByRecursion (λ n. IsIn n five) names → AllByRecursion (λ n. IsIn n five) (both_entered (drawn_ask monitored who file act rows) names)
both_among monitored who file act rows names one all =
    entered_among (NlmParty (codes "m")) (entered (name_by who) names) (inl refl) (entered_among (name_by who) names (name_among who one) all)

both_few : (monitored : Bool) (who file : ℕ) (act : Act) (rows : Rooms) (s : CoreState) → who < 4 → IsMadeCore s → length (both_entered (drawn_ask monitored who file act rows) s.names) ≤ 5
both_few monitored who file act rows s one core =
    few_names five _ (both_distinct (drawn_ask monitored who file act rows) s.names core.good.distinct) (both_among monitored who file act rows s.names one core.names)

same_owner : (m n : ℕ) (p q : Protocol) → owners.Name p m ≡ owners.Name q n → m ≡ n
same_owner m n p q e = cc

-- the number of a known owner
known_small : (names : List Name) (number : ℕ) (party : Party) → length names ≤ 5 → are_kept names (owner_at number) party ≡ true → number < 5
known_small names number party few kept =
    let parts = kept_named names Nlm number party kept in
    let same : number ≡ parts.number = same_owner number parts.number Nlm (protocol_of parts.name) parts.owner_is in
    elim (cases_lt number 5) [
      | inl under ↦ under
      | inr above ↦ absurd (get_none names parts.number parts.name (omega (arith, same, few, above)) parts.owner_at)
    ]

-- ---- room

passes_by : (h r held bytes kept : ℕ) → r ≤ h → held ≤ most_claims → bytes ≤ most_record_bytes → kept ≤ most_names
    → first_passed (grant_limits (record { hosts = h; owners = most_owners; opens = most_opens }) (record { hosts = r; owners = 0; opens = 0 }) held bytes kept) ≡ None
passes_by h r held bytes kept hosts claims short names = grind (arith, nat_tests)

-- a record of one name at most is short
record_short : (stable : Stable) → stable.names ≡ [] → length (record_text (with_name our_name stable)) ≤ most_record_bytes
unfolding name_text big_endian
record_short stable none = omega (arith, head_length Marked (with_name our_name stable), ap (λ (names : List Recorded). length (names_text Marked (put_name our_name names))) none)

bytes_short : (monitored : Bool) (stable : Stable) → AreOurNames stable.names → bytes_with (unrecorded monitored our_name stable) stable ≤ most_record_bytes
bytes_short false stable ours = omega arith
bytes_short true stable (inl none) =
    subst (λ (known : Bool). bytes_with (if not known then Some our_name else None) stable ≤ most_record_bytes) (sym (ap (is_kept_with our_name) none)) (record_short stable none)
bytes_short true stable (inr one) = subst (λ (known : Bool). bytes_with (if not known then Some our_name else None) stable ≤ most_record_bytes) (sym (ap (is_kept_with our_name) one ∙ kept_put our_name [])) (omega arith)

host_room : (hosts : List (List ℕ)) → AreOurs hosts → (host_rows (codes "m") hosts).hosts ≤ (rooms hosts).hosts
host_room hosts (inl none) = subst (λ (hs : List (List ℕ)). (host_rows (codes "m") hs).hosts ≤ (rooms hs).hosts) (sym none) (omega arith)
host_room hosts (inr one) = subst (λ (hs : List (List ℕ)). (host_rows (codes "m") hs).hosts ≤ (rooms hs).hosts) (sym one) (omega arith)

room : (hosts : List (List ℕ)) (held bytes kept : ℕ) → AreOurs hosts → held ≤ most_claims → bytes ≤ most_record_bytes → kept ≤ most_names → IsRoom (grant_limits (rooms hosts) (host_rows (codes "m") hosts) held bytes kept)
room hosts held bytes kept ours claims short names =
    grant_found (rooms hosts) (host_rows (codes "m") hosts) held bytes kept None (passes_by (rooms hosts).hosts (host_rows (codes "m") hosts).hosts held bytes kept (host_room hosts ours) claims short names)

-- ---- nothing makes way, as none of what is held is a cache

no_cache : (what : What) → HasBytes what → is_cache what ≡ false
no_cache (Range (Bytes first last) exclusive) has = refl
no_cache (Range (Empty offset) exclusive) has = absurd has
no_cache (Share access deny) has = absurd has
no_cache (Cache kind running) has = absurd has

none_on : (file : ℕ) (cs : List Claim) → AllByRecursion IsFew cs → list_any (λ c. (c.file == file) && is_cache c.what) cs ≡ false
none_on file [] few = refl
none_on file (c ∷ cs) few = rw (no_cache c.what few.0.0, and_right (c.file == file) false refl) (none_on file cs few.1)

no_way : (left : Rooms) (s : CoreState) (a : Ask) → IsMadeCore s → way left s a ≡ ([], s)
no_way left s a core = no_way_for left s a [] (none_on a.file s.claims core.claims.each) refl

-- so an ask that wishes for no cache is judged where it is, and tells of nothing
judged_there : (n : ℕ) (left : Rooms) (s : CoreState) (a : Ask) → IsMadeCore s → a.wish ≡ [] → ask n left s a ≡ decided n left s a
judged_there n left s a core none =
    let r = decided n left s a in
    ask_there n left s a (no_way left s a core) ∙ ap (λ (t : CoreState). (r.0, r.1, t)) (empty_after a r.0 r.2 none)

pub tells_nothing : (n : ℕ) (left : Rooms) (s : CoreState) (a : Ask) → IsMadeCore s → is_client a.owner a.party ≡ true → (ask n left s a).1 ≡ []
tells_nothing n left s a core client = ask_quiet n left s a core.good client ∙ ap (λ (w : List Effect × CoreState). w.0) (no_way left s a core)

-- ---- a lock

-- who waits for nothing may not wait
no_wait : (b x y : Bool) → x ≡ false → y ≡ false → (if b then x else y) ≡ true → ⊥
no_wait true x y hurries e may = both_ways x hurries may
no_wait false x y e hurries may = both_ways y hurries may

hurried : (s : CoreState) (a : Ask) (claim : Claim) → a.blocking ≡ false → a.awaits ≡ false → s.grace ≡ None → a.reclaim ≡ false → IsWaiting (stands s a) s.waiters s a claim → ⊥
unfolding standing
hurried s a claim hurries rests calm new waits =
    let name : Recorded = asker_as a in
    let once = subst (λ (g : Option Running). IsWaiting (standing_by (is_smb a.party) a.reclaim s.clock (admission g name a.reclaim)) s.waiters s a claim) calm waits in
    let timely = subst (λ (r : Bool). IsWaiting (standing_by (is_smb a.party) r s.clock (admission None name r)) s.waiters s a claim) new once in
    no_wait (is_stopped s.waiters s claim) a.blocking a.awaits hurries rests timely.0

-- one store more succeeds
stores_more : (n : ℕ) (s : CoreState) (name : Option Recorded) → IsAble n s → may_record n s name ≡ true
stores_more n s None able = refl
stores_more n s (Some name) able = rw (able.failed, lt-ltb s.made n able.made) refl

timely_so : (s : CoreState) (name : Recorded) (stays reclaim : Bool) → s.grace ≡ None → reclaim ≡ false → is_timely (standing s name stays reclaim) ≡ true
unfolding standing
timely_so s name stays reclaim calm new = rw (calm, new) refl

plain_claim : (n : ℕ) (left : Rooms) (s : CoreState) (a : Ask) (claim : Claim) (answer : Answer) → a.blocking ≡ false → a.awaits ≡ false → IsRoom (limits_of_grant left s a claim) → a.reclaim ≡ false → s.grace ≡ None → IsAble n s → IsClaimDue n left s a claim answer → IsPlain answer
plain_claim n left s a claim (answers.Granted c) hurries rests fits new calm able due = tt
plain_claim n left s a claim (answers.Conflict c) hurries rests fits new calm able due = tt
plain_claim n left s a claim (answers.Queued number) hurries rests fits new calm able due = absurd (hurried s a claim hurries rests calm new due.1)
plain_claim n left s a claim (answers.NoGrace clock) hurries rests fits new calm able due = absurd (both_ways a.reclaim new due.2)
plain_claim n left s a claim (answers.Full limit) hurries rests fits new calm able due =
    elim due [
      | inl over ↦ absurd (both_ways (is_passed (limits_of_grant left s a claim) limit) (fits limit) over.2.0)
      | inr waits ↦ absurd (hurried s a claim hurries rests calm new waits.0)
    ]
plain_claim n left s a claim answers.NotHeld hurries rests fits new calm able due = tt
plain_claim n left s a claim (answers.Recall c) hurries rests fits new calm able due = tt
plain_claim n left s a claim (answers.Grace until) hurries rests fits new calm able due = absurd (both_ways (is_timely (stands s a)) (ap is_timely due) (timely_so s (asker_as a) (is_smb a.party) a.reclaim calm new))
plain_claim n left s a claim answers.NotRecorded hurries rests fits new calm able due = absurd (both_ways (is_timely (stands s a)) (ap is_timely due) (timely_so s (asker_as a) (is_smb a.party) a.reclaim calm new))
plain_claim n left s a claim answers.StoreFailed hurries rests fits new calm able due = absurd (both_ways (may_record n s (wanted s a)) due.3 (stores_more n s (wanted s a) able))

-- what stays true of the core
pub record IsDrawnWell (s : CoreState) (r : Answered) : Type 0 where
  pub plain : IsPlain r.0
  pub core : IsMadeCore r.2

queue_plain : (s : CoreState) (a : Ask) (answer : Answer) → IsPlain answer → queue_with s a answer s.waiters ≡ s.waiters
queue_plain s a (answers.Granted c) plain = refl
queue_plain s a (answers.Conflict c) plain = refl
queue_plain s a answers.NotHeld plain = refl
queue_plain s a (answers.Queued id) plain = absurd plain
queue_plain s a (answers.NoGrace clock) plain = absurd plain
queue_plain s a (answers.Full limit) plain = absurd plain
queue_plain s a (answers.Recall c) plain = refl
queue_plain s a (answers.Grace until) plain = absurd plain
queue_plain s a answers.NotRecorded plain = absurd plain
queue_plain s a answers.StoreFailed plain = absurd plain

names_plain : (a : Ask) (answer : Answer) (names : List Name) → AllByRecursion (λ n. IsIn n five) names → AllByRecursion (λ n. IsIn n five) (both_entered a names) → IsPlain answer → AllByRecursion (λ n. IsIn n five) (names_after a answer names)
names_plain a (answers.Granted c) names all both plain = by (asks_to_hold a.act) where
  by : (b : Bool) → AllByRecursion (λ n. IsIn n five) (if b then both_entered a names else names)
  by true = both
  by false = all
names_plain a (answers.Conflict c) names all both plain = all
names_plain a answers.NotHeld names all both plain = all
names_plain a (answers.Queued id) names all both plain = absurd plain
names_plain a (answers.NoGrace clock) names all both plain = absurd plain
names_plain a (answers.Full limit) names all both plain = absurd plain
names_plain a (answers.Recall c) names all both plain = all
names_plain a (answers.Grace until) names all both plain = absurd plain
names_plain a answers.NotRecorded names all both plain = absurd plain
names_plain a answers.StoreFailed names all both plain = absurd plain

-- what is left of grace and of the record
none_runs : {A : Type 0} (o : Option A) → is_some o ≡ false → o ≡ None
none_runs None none = refl
none_runs (Some x) none = absurd (both_ways true none refl)

calm_after : (n : ℕ) (left : Rooms) (s : CoreState) (a : Ask) → IsGood s → is_client a.owner a.party ≡ true → s.grace ≡ None → (ask n left s a).2.grace ≡ None
calm_after n left s a good client calm =
    let noted = (ask_own n left s a good client).noted ∙ ask_way_noted left s a (ask n left s a).0 in
    none_runs (ask n left s a).2.grace (ap (λ (x : Aside). is_some x.grace) noted ∙ by_runs s a (ask n left s a).0 ∙ ap is_some calm)

ours_after : (n : ℕ) (left : Rooms) (s : CoreState) (a : Ask) → IsGood s → is_client a.owner a.party ≡ true → (a.monitored ≡ true → asker_as a ≡ our_name) → AreOurNames s.stable.names → AreOurNames (ask n left s a).2.stable.names
ours_after n left s a good client ours names = of (gained_told n left s a good client) where
  new : Stable
  new = (ask n left s a).2.stable

  -- who gains its name and mark wasn't kept, so nobody was
  gained : AreOurNames s.stable.names → asker_as a ≡ our_name → is_kept_with (asker_as a) s.stable.names ≡ false → new ≡ with_name (asker_as a) s.stable → AreOurNames new.names
  gained (inl none) its lacks is = inr (ap (λ (t : Stable). t.names) is ∙ ap₂ put_name its none)
  gained (inr one) its lacks is = absurd (both_ways (is_kept_with (asker_as a) s.stable.names) lacks (ap₂ is_kept_with its one ∙ kept_put our_name []))

  of : (new ≡ s.stable) ⊎ (((c : Claim) × ((ask n left s a).0 ≡ answers.Granted c)) × (a.monitored ≡ true) × (a.reclaim ≡ false) × (is_kept_with (asker_as a) s.stable.names ≡ false) × (new ≡ with_name (asker_as a) s.stable)) → AreOurNames new.names
  of (inl same) = subst (λ (t : Stable). AreOurNames t.names) (sym same) names
  of (inr more) = gained names (ours more.1) more.3 more.4

-- what is left but for the claims
well : (n : ℕ) (left : Rooms) (s : CoreState) (monitored : Bool) (who file : ℕ) (act : Act) (rows : Rooms) → IsMadeCore s → who < 4 → IsFit (drawn_ask monitored who file act rows)
    → IsPlain (ask n left s (drawn_ask monitored who file act rows)).0 → AreFew (ask n left s (drawn_ask monitored who file act rows)).2.claims → IsDrawnWell s (ask n left s (drawn_ask monitored who file act rows))
well n left s monitored who file act rows core one fit plain few =
    let a = drawn_ask monitored who file act rows in
    record {
      plain = plain;
      core = record {
        good = ask_good n left s a core.good fit;
        waiters = ask_queue n left s a core.good fit ∙ queue_plain s a (ask n left s a).0 plain ∙ core.waiters;
        names = subst (λ (ns : List Name). AllByRecursion (λ x. IsIn x five) ns) (sym (ask_frame n left s a core.good fit.party).names)
            (names_plain a (ask n left s a).0 s.names core.names (both_among monitored who file act rows s.names one core.names) plain);
        claims = few;
        calm = calm_after n left s a core.good fit.party core.calm;
        recorded = ours_after n left s a core.good fit.party (ours_is monitored who file act rows) core.recorded;
      };
    }

other_conflict : (c d : Claim) → answers.Conflict c ≡ answers.Granted d → ⊥
other_conflict c d e = cc

other_recall : (c d : Claim) → answers.Recall c ≡ answers.Granted d → ⊥
other_recall c d e = cc

other_held : (d : Claim) → answers.NotHeld ≡ answers.Granted d → ⊥
other_held d e = cc

pub lock_well : (n : ℕ) (hosts : List (List ℕ)) (s : CoreState) (who file first last : ℕ) (exclusive : Bool) → IsMadeCore s → IsAble n s → AreOurs hosts → who < 4 → file < 9 → first ≤ last → last < 160
    → IsDrawnWell s (ask n (rooms hosts) s (drawn_ask true who file (Ranges ((Bytes first last, exclusive) ∷ [])) (host_rows (codes "m") hosts)))
unfolding granted_claims
lock_well n hosts s who file first last exclusive core able ours one at real short =
    well n left s true who file act rows core one fit plain few
  where
    left : Rooms
    left = rooms hosts

    rows : Rooms
    rows = host_rows (codes "m") hosts

    act : Act
    act = Ranges ((Bytes first last, exclusive) ∷ [])

    a : Ask
    a = drawn_ask true who file act rows

    what : What
    what = Range (Bytes first last) exclusive

    claim : Claim
    claim = asked_claim a what s.names

    fit : IsFit a
    fit = record { act = (real, tt); own = refl; party = refl; wish = refl }

    small : (number : ℕ) → owner_at number ≡ asker a s.names → number < 5
    small number e = known_small (both_entered a s.names) number (asking_party a s.names) (both_few true who file act rows s one core)
        (subst (λ (o : Owner). are_kept (both_entered a s.names) o (asking_party a s.names) ≡ true) (sym e) (asker_kept a s.names refl))

    held : length (granted_claims claim s.claims) ≤ most_claims
    held = omega (arith, relocked_room file (place_of (name_by who) s.names) (asking_party a s.names) first last (Some (mode_of exclusive)) s.claims core.good.kept core.claims at (small _ refl) real short)

    fits : IsRoom (limits_of_grant left s a claim)
    fits = room hosts _ _ _ ours held (bytes_short true s.stable core.recorded) (omega (arith, both_few true who file act rows s one core))

    there : ask n left s a ≡ decided n left s a
    there = judged_there n left s a core refl

    due : IsClaimDue n left s a claim (ask n left s a).0
    due = subst (λ (r : Answered). IsClaimDue n left s a claim r.0) (sym there) ((lock_due n left s a what (decided n left s a).0 refl).0 refl)

    plain : IsPlain (ask n left s a).0
    plain = plain_claim n left s a claim (ask n left s a).0 refl refl fits refl core.calm able due

    after_grant : AreFew (granted_claims claim s.claims)
    after_grant = relocked_few file (place_of (name_by who) s.names) (asking_party a s.names) first last (Some (mode_of exclusive)) s.claims core.good.kept core.claims at (small _ refl) real short

    entered_few : (c : Claim) → (ask n left s a).0 ≡ answers.Granted c → AreFew (ask n left s a).2.claims
    entered_few c e =
        let at : (decided n left s a).0 ≡ answers.Granted c = sym (ap (λ (r : Answered). r.0) there) ∙ e in
        let same : c ≡ claim = ((lock_due n left s a what (answers.Granted c) refl).0 at).0 in
        subst (λ (cs : List Claim). AreFew cs) (sym (ap (λ (r : Answered). r.2.claims) there ∙ (decided_enters n left s a what c core.good fit refl at).1 ∙ ap (λ (x : Claim). granted_claims x s.claims) same)) after_grant

    kept_few : ((c : Claim) → (ask n left s a).0 ≡ answers.Granted c → ⊥) → AreFew (ask n left s a).2.claims
    kept_few none =
        subst (λ (cs : List Claim). AreFew cs) (sym (ap (λ (r : Answered). r.2.claims) there ∙ decided_keeps_claims n left s a core.good fit (λ c e. none c (ap (λ (r : Answered). r.0) there ∙ e)))) core.claims

    by : (answer : Answer) → (ask n left s a).0 ≡ answer → IsPlain answer → AreFew (ask n left s a).2.claims
    by (answers.Granted c) e p = entered_few c e
    by (answers.Conflict c) e p = kept_few (λ d f. other_conflict c d (sym e ∙ f))
    by answers.NotHeld e p = kept_few (λ d f. other_held d (sym e ∙ f))
    by (answers.Queued id) e p = absurd p
    by (answers.NoGrace clock) e p = absurd p
    by (answers.Full limit) e p = absurd p
    by (answers.Recall c) e p = kept_few (λ d f. other_recall c d (sym e ∙ f))
    by (answers.Grace until) e p = absurd p
    by answers.NotRecorded e p = absurd p
    by answers.StoreFailed e p = absurd p

    few : AreFew (ask n left s a).2.claims
    few = by (ask n left s a).0 refl plain

-- ---- a test

-- one that no grace is in the way of
tested_so : (s : CoreState) (a : Ask) (claim : Claim) → s.grace ≡ None → a.reclaim ≡ false → tested s a claim ≡ test_answered claim (least s.names (test_blockers s claim))
unfolding tested standing
tested_so s a claim calm new = rw (calm, new) refl

pub test_well : (n : ℕ) (left : Rooms) (s : CoreState) (who file first last : ℕ) (exclusive : Bool) (rows : Rooms) → IsMadeCore s → who < 4 → first ≤ last
    → IsDrawnWell s (ask n left s (drawn_ask false who file (Test (Bytes first last) exclusive) rows))
test_well n left s who file first last exclusive rows core one real = subst (λ (r : Answered). IsDrawnWell s r) (sym is) (record { plain = by held; core = core }) where
  a : Ask
  a = drawn_ask false who file (Test (Bytes first last) exclusive) rows

  claim : Claim
  claim = known_claim a (Bytes first last) exclusive s.names

  held : Option Claim
  held = least s.names (test_blockers s claim)

  is : ask n left s a ≡ (test_answered claim held, [], s)
  is = judged_there n left s a core refl ∙ test_is n left s a (Bytes first last) exclusive refl ∙ ap (λ (answer : Answer). (answer, [], s)) (tested_so s a claim core.calm refl)

  by : (o : Option Claim) → IsPlain (test_answered claim o)
  by None = tt
  by (Some c) = tt

-- ---- an unlock

pub unlock_well : (n : ℕ) (left : Rooms) (s : CoreState) (who file first last : ℕ) (rows : Rooms) → IsMadeCore s → who < 4 → file < 9 → first ≤ last → last < 160
    → IsDrawnWell s (ask n left s (drawn_ask false who file (Unlock (Bytes first last)) rows))
unlock_well n left s who file first last rows core one at real short = by (holds_byte claim.file claim.owner first last s.claims) (nat_le (left_by_unlock s claim first last) most_claims) refl refl where
  act : Act
  act = Unlock (Bytes first last)

  a : Ask
  a = drawn_ask false who file act rows

  claim : Claim
  claim = known_claim a (Bytes first last) false s.names

  fit : IsFit a
  fit = record { act = real; own = refl; party = refl; wish = refl }

  few_names_kept : length s.names ≤ 5
  few_names_kept = few_names five s.names core.good.distinct core.names

  small : holds_byte claim.file claim.owner first last s.claims ≡ true → number_or (number_of (name_by who) s.names) < 5
  small holds = known_small s.names (number_or (number_of (name_by who) s.names)) claim.party few_names_kept (holder_kept s a (Bytes first last) false first last refl core.good refl holds)

  is : (h f : Bool) → holds_byte claim.file claim.owner first last s.claims ≡ h → nat_le (left_by_unlock s claim first last) most_claims ≡ f → ask n left s a ≡ left_so s claim first last h f
  is h f e k = judged_there n left s a core refl ∙ unlock_is n left s a first last refl refl refl ∙ unlock_by s claim first last h f e k

  done : (r : Answered) → ask n left s a ≡ r → IsPlain r.0 → AreFew r.2.claims → IsDrawnWell s (ask n left s a)
  done r e plain few =
      well n left s false who file act rows core one fit (subst (λ (x : Answered). IsPlain x.0) (sym e) plain) (subst (λ (x : Answered). AreFew x.2.claims) (sym e) few)

  by : (h f : Bool) → holds_byte claim.file claim.owner first last s.claims ≡ h → nat_le (left_by_unlock s claim first last) most_claims ≡ f → IsDrawnWell s (ask n left s a)
  by false f e k = done _ (is false f e k) tt core.claims
  by true true e k =
      done _ (is true true e k) tt
      (relocked_few file (number_or (number_of (name_by who) s.names)) claim.party first last None s.claims core.good.kept core.claims at (small e) real short)
  by true false e k =
      let most = relocked_room file (number_or (number_of (name_by who) s.names)) claim.party first last None s.claims core.good.kept core.claims at (small e) real short in
      absurd (both_ways (nat_le (left_by_unlock s claim first last) most_claims) k (le-leb (left_by_unlock s claim first last) most_claims (omega (arith, most))))
