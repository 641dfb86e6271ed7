-- An open's asks reclaim nothing, and no record names its client: they store nothing, and wait while grace runs.
use Rattle.std.proofs.Common.{◌≡◌, ◌⊎◌, inl, inr, ℕ, Bool, true, false, not, ◌&&◌, if◌then◌else◌, List, [], ◌∷◌, Option, Some, None, is_some, refl, sym, ap, ◌∙◌}
use Rattle.std.proofs.lemmas.Bool.{cases_Bool, true≢false, false≢true}
use Rattle.xl_base.specs.declared.stable.Recorded.{Recorded}
use Rattle.xl_matrix.specs.declared.claim.Claim.{Claim}
use Rattle.xl_names.specs.declared.name.Name.{Name}
use Rattle.xl_names.specs.declared.name.Name.TheVariants.{NlmRange, NlmShare, NlmParty, NfsRange, NfsShare, NfsParty, SmbLease}
use Rattle.xl_wait.specs.declared.waiter.Rooms.{Rooms}
use Rattle.xl_core.specs.Askers.{asked_whats, asked_claims, is_client, is_named}
use Rattle.xl_core.specs.Causes.{IsClaimDue, asks_claims, back_by, name_asked, noted_by, wanted}
use Rattle.xl_core.specs.Decide.{ask, is_back}
use Rattle.xl_core.specs.Good.{IsGood}
use Rattle.xl_core.specs.Judge.{to_record}
use Rattle.xl_core.specs.Standings.{asker_as, is_smb, refusal, standing, standing_again, stands}
use Rattle.xl_core.specs.State.{CoreState, aside_of}
use Rattle.xl_core.specs.Stores.{may_record, record_left, unrecorded}
use Rattle.xl_core.specs.declared.ask.Answer.{Answer}
use Rattle.xl_core.specs.declared.ask.Answer.TheVariants as answers
use Rattle.xl_core.specs.declared.ask.Ask.{Ask}
use Rattle.xl_core.specs.declared.ask.Who.{Who}
use Rattle.xl_core.specs.declared.ask.Who.TheVariants as who
use Rattle.xl_core.proofs.WayAsks.{ask_own, ask_way_noted}
use Rattle.xl_smb_locks.specs.Short.{IsOpenAsk}

-- ---- the record

none_wanted : (s : CoreState) (a : Ask) → a.monitored ≡ false → wanted s a ≡ None
none_wanted s a none = ap (λ (b : Bool). unrecorded (b && not a.reclaim) (asker_as a) s.stable) none

pub none_recorded : (claims : List Claim) → to_record None claims ≡ None
none_recorded [] = refl
none_recorded (c ∷ []) = refl
none_recorded (c ∷ d ∷ cs) = refl

none_left : (answer : Answer) (s : CoreState) → record_left None answer s ≡ s
none_left (answers.Granted c) s = refl
none_left (answers.Conflict c) s = refl
none_left (answers.Queued number) s = refl
none_left (answers.Recall c) s = refl
none_left (answers.Grace until) s = refl
none_left (answers.NoGrace clock) s = refl
none_left answers.NotRecorded s = refl
none_left (answers.Full limit) s = refl
none_left answers.NotHeld s = refl
none_left answers.StoreFailed s = refl

-- no reclaim has its client back
same_if : (b : Bool) (s t : CoreState) → t ≡ s → (if b then t else s) ≡ s
same_if true s t is = is
same_if false s t is = refl

not_back : (a : Ask) (s : CoreState) → a.reclaim ≡ false → is_back a s ≡ s
not_back a s none = rw none refl

none_back : (a : Ask) (answer : Answer) (s : CoreState) → a.reclaim ≡ false → back_by a answer s ≡ s
none_back a (answers.Granted c) s none = same_if (asks_claims a.act) s (is_back a s) (not_back a s none)
none_back a (answers.Conflict c) s none = refl
none_back a (answers.Queued number) s none = refl
none_back a (answers.Recall c) s none = refl
none_back a (answers.Grace until) s none = refl
none_back a (answers.NoGrace clock) s none = refl
none_back a answers.NotRecorded s none = refl
none_back a (answers.Full limit) s none = refl
none_back a answers.NotHeld s none = refl
none_back a answers.StoreFailed s none = refl

none_named : (s : CoreState) (a : Ask) → a.monitored ≡ false → name_asked s a ≡ None
none_named s a none = ap (λ (name : Option Recorded). to_record name (asked_claims a (asked_whats a.act) s.names)) (none_wanted s a none) ∙ none_recorded (asked_claims a (asked_whats a.act) s.names)

-- whatever it is answered, the record, the grace and the stores of the step stay
pub plain_noted : (s : CoreState) (a : Ask) (answer : Answer) → IsOpenAsk a → noted_by s a answer ≡ s
plain_noted s a answer is =
    none_back a answer (record_left (name_asked s a) answer s) is.reclaim ∙ ap (λ (name : Option Recorded). record_left name answer s) (none_named s a is.monitored) ∙ none_left answer s

pub plain_aside : (n : ℕ) (left : Rooms) (s : CoreState) (a : Ask) → IsGood s → IsOpenAsk a → aside_of (ask n left s a).2 ≡ aside_of s
plain_aside n left s a good is =
    let answer = (ask n left s a).0 in
    (ask_own n left s a good is.fit.party).noted ∙ ask_way_noted left s a answer ∙ ap (λ (t : CoreState). aside_of t) (plain_noted s a answer is)

-- ---- grace

lease_smb : (name : Name) → is_client (who.Open 0) (who.Named name) ≡ true → is_smb (who.Named name) ≡ true
lease_smb (SmbLease client key) is = refl
lease_smb (NlmRange caller svid oh) is = refl
lease_smb (NlmShare caller oh) is = refl
lease_smb (NlmParty caller) is = absurd (false≢true is)
lease_smb (NfsRange client owner) is = refl
lease_smb (NfsShare client owner) is = refl
lease_smb (NfsParty client) is = absurd (false≢true is)

party_smb : (owner party : Who) → is_named owner ≡ false → is_client owner party ≡ true → is_smb party ≡ true
party_smb (who.Named name) party unnamed client = absurd (true≢false unnamed)
party_smb (who.Open number) (who.Named name) unnamed client = lease_smb name client
party_smb (who.Open number) (who.Open other) unnamed client = refl

some_or : {A : Type 0} (o : Option A) → (o ≡ None) ⊎ ((x : A) × (o ≡ Some x))
some_or None = inl refl
some_or (Some x) = inr (x, refl)

by_grace : (s : CoreState) (name : Recorded) → standing s name true false ≡ standing_again s
unfolding standing
by_grace s name = elim (some_or s.grace) [ inl none ↦ rw none refl | inr runs ↦ rw runs.1 refl ]

-- it waits while grace runs, and nothing of grace is in its way if none does
pub plain_stands : (s : CoreState) (a : Ask) → IsOpenAsk a → stands s a ≡ standing_again s
plain_stands s a is =
    ap (λ (b : Bool). standing s (asker_as a) b a.reclaim) (party_smb a.owner a.party is.unnamed is.fit.party)
    ∙ ap (λ (b : Bool). standing s (asker_as a) true b) is.reclaim ∙ by_grace s (asker_as a)

-- ---- what it may be answered

again_unrefused : (s : CoreState) → refusal (standing_again s) ≡ None
again_unrefused s = elim (cases_Bool (is_some s.grace)) [ inl runs ↦ rw runs refl | inr calm ↦ rw calm refl ]

-- grace refuses it nothing
pub plain_unrefused : (s : CoreState) (a : Ask) → IsOpenAsk a → refusal (stands s a) ≡ None
plain_unrefused s a is = ap refusal (plain_stands s a is) ∙ again_unrefused s

pub none_refused : {answer : Answer} → None ≡ Some answer → ⊥
none_refused e = cc

abbrev pub is_other : Answer → Bool
is_other (answers.Granted c) = false
is_other (answers.Conflict c) = false
is_other (answers.Queued number) = false
is_other (answers.Full limit) = false
is_other answers.NotHeld = false
is_other answer = true

-- one that awaits answers to breaks is told of no cache, of no grace, and of no store
pub no_other : (n : ℕ) (left : Rooms) (s : CoreState) (a : Ask) (claim : Claim) (answer : Answer) → IsOpenAsk a → a.awaits ≡ true → is_other answer ≡ true → IsClaimDue n left s a claim answer → ⊥
no_other n left s a claim (answers.Recall c) is rests other due = true≢false (sym rests ∙ due.1)
no_other n left s a claim (answers.Grace until) is rests other due = none_refused (sym (plain_unrefused s a is) ∙ ap refusal due)
no_other n left s a claim (answers.NoGrace clock) is rests other due = false≢true (sym is.reclaim ∙ due.2)
no_other n left s a claim answers.NotRecorded is rests other due = none_refused (sym (plain_unrefused s a is) ∙ ap refusal due)
no_other n left s a claim answers.StoreFailed is rests other due = true≢false (ap (may_record n s) (sym (none_wanted s a is.monitored)) ∙ due.3)
no_other n left s a claim (answers.Granted c) is rests other due = false≢true other
no_other n left s a claim (answers.Conflict c) is rests other due = false≢true other
no_other n left s a claim (answers.Queued number) is rests other due = false≢true other
no_other n left s a claim (answers.Full limit) is rests other due = false≢true other
no_other n left s a claim answers.NotHeld is rests other due = false≢true other
