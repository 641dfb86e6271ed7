-- What one who asks for one thing is told of grace, exactly, as fronts are told of it.
use Rattle.std.proofs.Common.{◌≡◌, ℕ, Bool, true, false, if◌then◌else◌, inl, inr, Option, Some, None, is_some, ◌↔◌, refl, sym, ap, subst, ◌∙◌}
use Rattle.std.proofs.lemmas.Bool.{cases_Bool, both_ways}
use Rattle.xl_base.specs.declared.event.Moment.{Moment}
use Rattle.xl_base.specs.declared.stable.Recorded.{Recorded}
use Rattle.xl_grace.specs.Grace.{Running, is_known, admission}
use Rattle.xl_grace.specs.declared.grace.Admission.TheVariants.{Enters, Grace, NotRecorded}
use Rattle.xl_matrix.specs.declared.claim.Claim.{Claim}
use Rattle.xl_matrix.specs.declared.claim.What.{What}
use Rattle.xl_wait.specs.declared.waiter.Rooms.{Rooms}
use Rattle.xl_core.proofs.HeldUpLaws.{begun_grace}
use Rattle.xl_core.proofs.KnowingLaws.{granted_in_grace, unrecorded_is}
use Rattle.xl_core.proofs.StandingLaws.{no_grace, late}
use Rattle.xl_core.proofs.WayAsks.{ask_due, ask_test, ask_way_keeps, ask_way_stands}
use Rattle.xl_core.specs.Askers.{asked_what, asked_claim, known_claim}
use Rattle.xl_core.specs.Causes.{IsClaimDue, IsTestDue, asks_claims}
use Rattle.xl_core.specs.Decide.{way, ask}
use Rattle.xl_core.specs.Knowing.{KnowsRecord}
use Rattle.xl_core.specs.Standings.{asker_as, enters, is_smb, refusal, standing, standing_by, stands, stands_alone}
use Rattle.xl_core.specs.State.{CoreState}
use Rattle.xl_core.specs.declared.ask.Answer.{Answer}
use Rattle.xl_core.specs.declared.ask.Answer.TheVariants as answers
use Rattle.xl_core.specs.declared.ask.Ask.{Ask}

-- ---- how one who asks stands to grace

-- whom grace tells its end comes while it runs, and doesn't reclaim
early_runs : (s : CoreState) (name : Recorded) (stays reclaim : Bool) (until : Moment) → refusal (standing s name stays reclaim) ≡ Some (answers.Grace until) → (is_some s.grace ≡ true) × (reclaim ≡ false)
unfolding standing
early_runs s name stays reclaim until e = by s.grace reclaim refl e where
  lets : (b keeps : Bool) → refusal (standing_by keeps true s.clock (if b then Enters else NotRecorded)) ≡ Some (answers.Grace until) → ⊥
  lets true keeps e = cc
  lets false keeps e = cc

  by : (g : Option Running) (r : Bool) → s.grace ≡ g → refusal (standing_by stays r s.clock (admission g name r)) ≡ Some (answers.Grace until) → (is_some s.grace ≡ true) × (r ≡ false)
  by None true none e = absurd cc
  by None false none e = absurd cc
  by (Some g) true some e = absurd (lets _ stays e)
  by (Some g) false some e = (ap is_some some, refl)

-- whom it tells that its client isn't recorded reclaims while it runs
pub unrecorded_runs : (s : CoreState) (name : Recorded) (stays reclaim : Bool) → refusal (standing s name stays reclaim) ≡ Some answers.NotRecorded → (is_some s.grace ≡ true) × (reclaim ≡ true)
unfolding standing
unrecorded_runs s name stays reclaim e = by s.grace reclaim refl e where
  waits : (b : Bool) (until : Moment) → refusal (standing_by b false s.clock (Grace until)) ≡ Some answers.NotRecorded → ⊥
  waits true until e = cc
  waits false until e = cc

  by : (g : Option Running) (r : Bool) → s.grace ≡ g → refusal (standing_by stays r s.clock (admission g name r)) ≡ Some answers.NotRecorded → (is_some s.grace ≡ true) × (r ≡ true)
  by None true none e = absurd cc
  by None false none e = absurd cc
  by (Some g) true some e = (ap is_some some, refl)
  by (Some g) false some e = absurd (waits stays g.end e)

-- and what comes while it runs, waits for nothing and doesn't reclaim is told so
early_claim : (n : ℕ) (left : Rooms) (s : CoreState) (a : Ask) (claim : Claim) → is_smb a.party ≡ false → is_some s.grace ≡ true → a.reclaim ≡ false → (until : Moment) × IsClaimDue n left s a claim (answers.Grace until)
unfolding standing
early_claim n left s a claim other runs plain = by s.grace refl runs where
  by : (g : Option Running) → s.grace ≡ g → is_some g ≡ true → (until : Moment) × IsClaimDue n left s a claim (answers.Grace until)
  by None none e = absurd (both_ways false refl e)
  by (Some g) some e = (g.end, rw (some, plain, other) refl)

pub early_test : (s : CoreState) (a : Ask) (claim : Claim) → is_some s.grace ≡ true → a.reclaim ≡ false → (until : Moment) × IsTestDue s a claim (answers.Grace until)
unfolding standing
early_test s a claim runs plain = by s.grace refl runs where
  by : (g : Option Running) → s.grace ≡ g → is_some g ≡ true → (until : Moment) × IsTestDue s a claim (answers.Grace until)
  by None none e = absurd (both_ways false refl e)
  by (Some g) some e = (g.end, rw (some, plain) refl)

-- ---- what is told

ask_way_grace : (left : Rooms) (s : CoreState) (a : Ask) → (way left s a).1.grace ≡ s.grace
ask_way_grace left s a = ask_way_keeps (λ t. t.grace) left s a (λ c. begun_grace c s)

-- The end of grace is told exactly while it runs, of what is no reclaim. (What comes by SMB waits for it.)
pub early_told : (n : ℕ) (left : Rooms) (s : CoreState) (a : Ask) (what : What) → asked_what a.act ≡ Some what → is_smb a.party ≡ false
    → ((until : Moment) × ((ask n left s a).0 ≡ answers.Grace until)) ↔ ((is_some s.grace ≡ true) × (a.reclaim ≡ false))
early_told n left s a what act other = (forth, back) where
  t : CoreState
  t = (way left s a).1

  claim : Claim
  claim = asked_claim a what s.names

  forth : ((until : Moment) × ((ask n left s a).0 ≡ answers.Grace until)) → (is_some s.grace ≡ true) × (a.reclaim ≡ false)
  forth told = early_runs s (asker_as a) (is_smb a.party) a.reclaim told.0 (ap refusal (sym (ask_way_stands left s a) ∙ (ask_due n left s a what (answers.Grace told.0) act).0 told.1))

  back : (is_some s.grace ≡ true) × (a.reclaim ≡ false) → (until : Moment) × ((ask n left s a).0 ≡ answers.Grace until)
  back is =
      let due = early_claim n left t a claim other (ap is_some (ask_way_grace left s a) ∙ is.0) is.1 in
      (due.0, (ask_due n left s a what (answers.Grace due.0) act).1 due.1)

-- That no grace runs is told exactly if none does, of a reclaim.
pub late_told : (n : ℕ) (left : Rooms) (s : CoreState) (a : Ask) (what : What) → asked_what a.act ≡ Some what → ((clock : Moment) × ((ask n left s a).0 ≡ answers.NoGrace clock)) ↔ ((is_some s.grace ≡ false) × (a.reclaim ≡ true))
late_told n left s a what act = (forth, back) where
  t : CoreState
  t = (way left s a).1

  forth : ((clock : Moment) × ((ask n left s a).0 ≡ answers.NoGrace clock)) → (is_some s.grace ≡ false) × (a.reclaim ≡ true)
  forth told = let due = (ask_due n left s a what (answers.NoGrace told.0) act).0 told.1 in (ap is_some (sym (ask_way_grace left s a) ∙ due.1), due.2)

  back : (is_some s.grace ≡ false) × (a.reclaim ≡ true) → (clock : Moment) × ((ask n left s a).0 ≡ answers.NoGrace clock)
  back is = (t.clock, (ask_due n left s a what (answers.NoGrace t.clock) act).1 (refl, ask_way_grace left s a ∙ no_grace s.grace is.0, is.1))

-- That the record lacks its client is told exactly of a reclaim in grace whose client it lacks, or has with another mark.
pub unrecorded_told : (n : ℕ) (left : Rooms) (s : CoreState) (a : Ask) (what : What) → asked_what a.act ≡ Some what → KnowsRecord s
    → ((ask n left s a).0 ≡ answers.NotRecorded) ↔ ((is_some s.grace ≡ true) × (a.reclaim ≡ true) × (is_known (asker_as a) s.stable.names ≡ false))
unrecorded_told n left s a what act knows = (forth, back) where
  forth : (ask n left s a).0 ≡ answers.NotRecorded → (is_some s.grace ≡ true) × (a.reclaim ≡ true) × (is_known (asker_as a) s.stable.names ≡ false)
  forth told =
      let due = (ask_due n left s a what answers.NotRecorded act).0 told in
      let stood = sym (ask_way_stands left s a) ∙ due in
      let runs = unrecorded_runs s (asker_as a) (is_smb a.party) a.reclaim (ap refusal stood) in
      (runs.0, runs.1, by s.grace refl runs.0 stood)
    where
      by : (g : Option Running) → s.grace ≡ g → is_some s.grace ≡ true → IsClaimDue n left s a (asked_claim a what s.names) answers.NotRecorded → is_known (asker_as a) s.stable.names ≡ false
      by None none is stood = absurd (both_ways (is_some s.grace) (ap is_some none) is)
      by (Some g) some is stood = ((unrecorded_is s a g knows some).0 stood).1

  back : (is_some s.grace ≡ true) × (a.reclaim ≡ true) × (is_known (asker_as a) s.stable.names ≡ false) → (ask n left s a).0 ≡ answers.NotRecorded
  back is = (ask_due n left s a what answers.NotRecorded act).1 (ask_way_stands left s a ∙ by s.grace refl is.0) where
    by : (g : Option Running) → s.grace ≡ g → is_some s.grace ≡ true → IsClaimDue n left s a (asked_claim a what s.names) answers.NotRecorded
    by None none runs = absurd (both_ways (is_some s.grace) (ap is_some none) runs)
    by (Some g) some runs = (unrecorded_is s a g knows some).1 (is.1, is.2)

-- What is granted reclaims exactly if grace runs, and then its client is recorded with a mark that agrees.
pub granted_told : (n : ℕ) (left : Rooms) (s : CoreState) (a : Ask) (what : What) (c : Claim) → asked_what a.act ≡ Some what → asks_claims a.act ≡ true → KnowsRecord s → (ask n left s a).0 ≡ answers.Granted c
    → (a.reclaim ≡ is_some s.grace) × (a.reclaim ≡ true → is_known (asker_as a) s.stable.names ≡ true)
granted_told n left s a what c act asks knows told = by s.grace refl where
  name : Recorded
  name = asker_as a

  came_late : s.grace ≡ None → a.reclaim ≡ true → ⊥
  came_late none back =
      let entered = ap enters (sym (ask_way_stands left s a)) ∙ ((ask_due n left s a what (answers.Granted c) act).0 told).1 in
      both_ways (enters (stands s a)) (ap enters (ap (standing s name (is_smb a.party)) back ∙ late s name (is_smb a.party) none)) entered

  by : (g : Option Running) → s.grace ≡ g → (a.reclaim ≡ is_some s.grace) × (a.reclaim ≡ true → is_known name s.stable.names ≡ true)
  by None none =
      elim (cases_Bool a.reclaim) [
        | inl back ↦ absurd (came_late none back)
        | inr plain ↦ (plain ∙ sym (ap is_some none), λ back. absurd (both_ways a.reclaim plain back))
      ]
  by (Some g) some =
      let let_in = granted_in_grace n left s a c g knows some asks told in
      (let_in.0 ∙ sym (ap is_some some), λ back. let_in.1)
