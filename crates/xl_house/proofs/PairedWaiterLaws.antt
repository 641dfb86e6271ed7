-- Requests of SMB that wait and the core's waiters have each other, whatever is told or done.
use Rattle.std.proofs.Common.{◌≡◌, ℕ, Bool, true, false, not, ◌&&◌, eqb, List, [], ◌∷◌, Option, Some, None, refl, sym, ap, subst, ◌∙◌}
use Rattle.std.specs.List.{AllByRecursion, list_any}
use Rattle.std.proofs.lemmas.Bool.{or_from, or_parts, true≢false}
use Rattle.xl_base.proofs.Members.{all_from, all_in}
use Rattle.xl_base.specs.Lists.{IsIn}
use Rattle.xl_base.specs.Stable.{same_protocol}
use Rattle.xl_base.specs.declared.journal.Exports.{Exports}
use Rattle.xl_base.specs.declared.name.Protocol.{Protocol}
use Rattle.xl_base.specs.declared.name.Protocol.TheVariants as protocols
use Rattle.xl_names.specs.declared.name.Name.{Name}
use Rattle.xl_smb_state.specs.Links.{AreDistinct, IsSound}
use Rattle.xl_smb_state.specs.State.{Lists}
use Rattle.xl_smb_state.specs.declared.row.Waiting.{Waiting}
use Rattle.xl_wait.specs.declared.waiter.Waiter.{Waiter}
use Rattle.xl_core.specs.Askers.{is_client, is_lease, is_named}
use Rattle.xl_core.specs.Clients.{IsOfSome}
use Rattle.xl_plan.proofs.PlanLaws.{at_both, at_each, fit_at}
use Rattle.xl_plan.specs.Plans.{AllAt}
use Rattle.xl_core.specs.Deeds.{AreFit, Deed, Asks, IsFitDeed, all_done, all_told_of}
use Rattle.xl_core.specs.Good.{IsGood}
use Rattle.xl_core.specs.State.{CoreState}
use Rattle.xl_core.specs.Told.{party_protocol, told_to}
use Rattle.xl_core.specs.declared.ask.Effect.{Effect}
use Rattle.xl_core.specs.declared.ask.Effect.TheVariants as effects
use Rattle.xl_core.specs.declared.ask.Who.{Who}
use Rattle.xl_core.specs.declared.ask.Who.TheVariants as who
use Rattle.xl_smb_laws.proofs.AwaitedRequestLaws.{begin_awaited, end_awaited, moved, one_shown, step_awaited}
use Rattle.xl_smb_laws.proofs.RequestDeedLaws as smb
use Rattle.xl_smb_laws.proofs.KeptWaiterLaws.{begin_keeps, deeds_keep, end_keeps, shown_keeps, step_keeps}
use Rattle.xl_smb_laws.proofs.StillUntoldLaws.{waits_still}
use Rattle.xl_smb_laws.proofs.RequestOwn as smb_own
use Rattle.xl_smb_laws.proofs.PlaceLaws.{keeps_self}
use Rattle.xl_smb_laws.proofs.SparedLaws.{spared_awaited}
use Rattle.xl_smb_laws.proofs.StillWaitingLaws.{over}
use Rattle.xl_smb_laws.specs.WaitingRequests.{AreAwaited, AreKept, IsAwaited, IsKept, SparesSmb, ends_wait, is_open_ask, serves_request}
use Rattle.xl_front_smb.specs.Ending.{smb_end, smb_end_deeds}
use Rattle.xl_front_smb.specs.FrontSmb.{smb_deeds, smb_shown, smb_step}
use Rattle.xl_front_smb.specs.State.{FrontSmb, smb_begin}
use Rattle.xl_house.proofs.ApartLaws.{AreApart, begin_apart, end_apart, shown_apart, step_apart}

-- ---- what stands, and what is told

-- the requests that wait and the waiters have each other, and no two requests have one number
pub record Stand (s : CoreState) (l : Lists) : Type 0 where
  pub awaits : AreAwaited s l
  pub keeps : AreKept s l
  pub apart : AreApart l

-- of whom these don't tell SMB's front that it is served, it is awaited
abbrev pub Pending : CoreState → Lists → List Effect → Type 0
Pending s l told = (e : ℕ × Waiting) → IsIn e l.waiting → list_any (serves_request e.0) told ≡ false → IsAwaited s l e

-- of who waits these tell nothing of the kind
abbrev pub Silent : CoreState → List Effect → Type 0
Silent s told = (w : Waiter) → IsIn w s.waiters → over w.id told ≡ false

-- so it stands once these are told
pub record ToTell (told : List Effect) (s : CoreState) (l : Lists) : Type 0 where
  pub pending : Pending s l told
  pub keeps : AreKept s l
  pub silent : Silent s told
  pub apart : AreApart l

-- ---- the core moves on, and who waits stays

same_waiters : (s t : CoreState) (l : Lists) (e : ℕ × Waiting) → t.waiters ≡ s.waiters → IsAwaited s l e → IsAwaited t l e
same_waiters s t l e same is = moved s t l l e is (subst (λ (ws : List Waiter). IsIn is.waiter ws) (sym same) is.waits) (keeps_self l e e.1.request)

same_kept : (s t : CoreState) (l : Lists) → t.waiters ≡ s.waiters → AreKept s l → AreKept t l
same_kept s t l same kept = subst (λ (ws : List Waiter). AllByRecursion (IsKept l) ws) (sym same) kept

pub same_stand : (s t : CoreState) (l : Lists) → t.waiters ≡ s.waiters → Stand s l → Stand t l
same_stand s t l same stand = record {
  awaits = all_from (IsAwaited t l) l.waiting (λ e here. same_waiters s t l e same (all_in (IsAwaited s l) e l.waiting stand.awaits here));
  keeps = same_kept s t l same stand.keeps;
  apart = stand.apart;
}

-- ---- effects that are told

pub quiet_tell : (s : CoreState) (l : Lists) → Stand s l → ToTell [] s l
quiet_tell s l stand = record {
  pending = λ e here quiet. all_in (IsAwaited s l) e l.waiting stand.awaits here;
  keeps = stand.keeps;
  silent = λ w here. refl;
  apart = stand.apart;
}

-- what one effect of SMB's tells of is behind
pub one_tells : (f : FrontSmb) (s t : CoreState) (effect : Effect) (told : List Effect) → t.waiters ≡ s.waiters → ToTell (effect ∷ told) s f.state → ToTell told t (smb_shown f s effect).1.state
one_tells f s t effect told same tell =
    let l : Lists = (smb_shown f s effect).1.state in
    record {
      pending = λ e here quiet.
          let one = one_shown f s effect e tell.apart here in
          same_waiters s t l e same (one.2 (tell.pending e one.0 (or_from (serves_request e.0 effect) (list_any (serves_request e.0) told) one.1 quiet)));
      keeps = same_kept s t l same (shown_keeps f s effect (λ w here. (or_parts (ends_wait w.id effect) (over w.id told) (tell.silent w here)).0) tell.keeps);
      silent = λ w here. (or_parts (ends_wait w.id effect) (over w.id told) (tell.silent w (subst (λ (ws : List Waiter). IsIn w ws) same here))).1;
      apart = shown_apart f s effect tell.apart;
    }

other_protocol : (p : Protocol) (b : Bool) → (p ≡ protocols.Smb → ⊥) → (same_protocol p protocols.Smb && b) ≡ false
other_protocol protocols.Nlm b other = refl
other_protocol protocols.Nfs b other = refl
other_protocol protocols.Smb b other = absurd (other refl)

others_serve : (id : ℕ) (effect : Effect) → (told_to effect ≡ protocols.Smb → ⊥) → serves_request id effect ≡ false
others_serve id (effects.Served party number answer) other = other_protocol (party_protocol party) (eqb number id) other
others_serve id (effects.Begun cache to call) other = refl
others_serve id (effects.Cancelled party number) other = refl
others_serve id (effects.Expired client) other = refl

-- SMB's front doesn't hear of an effect of another's
pub other_tells : (s t : CoreState) (l : Lists) (effect : Effect) (told : List Effect) → (told_to effect ≡ protocols.Smb → ⊥) → t.waiters ≡ s.waiters → ToTell (effect ∷ told) s l → ToTell told t l
other_tells s t l effect told other same tell = record {
  pending = λ e here quiet. same_waiters s t l e same (tell.pending e here (or_from (serves_request e.0 effect) (list_any (serves_request e.0) told) (others_serve e.0 effect other) quiet));
  keeps = same_kept s t l same tell.keeps;
  silent = λ w here. (or_parts (ends_wait w.id effect) (over w.id told) (tell.silent w (subst (λ (ws : List Waiter). IsIn w ws) same here))).1;
  apart = tell.apart;
}

pub none_tells : (s : CoreState) (l : Lists) → ToTell [] s l → Stand s l
none_tells s l tell = record { awaits = all_from (IsAwaited s l) l.waiting (λ e here. tell.pending e here refl); keeps = tell.keeps; apart = tell.apart }

-- ---- deeds that leave the lists

-- none of these is an ask by an SMB open
abbrev pub Others : List Deed → Type 0
Others ds = AllByRecursion (λ d. is_open_ask d ≡ false) ds

pub tells_by : (n : ℕ) (s t : CoreState) (l : Lists) (ds : List Deed) (told : List Effect) → IsGood s → AreFit n s ds → Others ds → t ≡ all_done n s ds → told ≡ all_told_of n s ds → Stand s l → Pending t l told → ToTell told t l
tells_by n s t l ds told good fit others is said stand pending = record {
  pending = pending;
  keeps = subst (λ (u : CoreState). AreKept u l) (sym is) (deeds_keep n s l ds good fit others stand.keeps);
  silent = λ w here. ap (λ (es : List Effect). over w.id es) said ∙ waits_still n s ds w good fit (subst (λ (u : CoreState). IsIn w u.waiters) is here);
  apart = stand.apart;
}

-- where they leave SMB's waiters each request stays awaited
pub deeds_tell : (n : ℕ) (s t : CoreState) (l : Lists) (ds : List Deed) (told : List Effect) → IsGood s → AreFit n s ds → Others ds → AllAt SparesSmb n s ds → t ≡ all_done n s ds → told ≡ all_told_of n s ds → Stand s l → ToTell told t l
deeds_tell n s t l ds told good fit others spare is said stand =
    let awaits : AreAwaited t l = subst (λ (u : CoreState). AreAwaited u l) (sym is) (spared_awaited n s l ds good fit spare stand.awaits) in
    tells_by n s t l ds told good fit others is said stand (λ e here quiet. all_in (IsAwaited t l) e l.waiting awaits here)

-- ---- whose asks are no open's

pub asked_named : (owner party : Who) (client : Name) → is_lease client ≡ false → party ≡ who.Named client → is_client owner party ≡ true → not (is_named owner) ≡ false
asked_named (who.Named name) party client plain is fits = refl
asked_named (who.Open number) party client plain is fits = absurd (true≢false (sym (subst (λ (p : Who). is_client (who.Open number) p ≡ true) is fits) ∙ plain))

of_named : (s : CoreState) (o : Option Name) (d : Deed) → ((client : Name) → o ≡ Some client → is_lease client ≡ false) → IsOfSome s o d → IsFitDeed s d → is_open_ask d ≡ false
of_named s None d plain own fit = absurd own
of_named s (Some client) (Asks left a) plain own fit = asked_named a.owner a.party client (plain client refl) own fit.party
of_named s (Some client) d plain own fit = refl

pub some_named : (n : ℕ) (s : CoreState) (o : Option Name) (ds : List Deed) → ((client : Name) → o ≡ Some client → is_lease client ≡ false) → AllAt (λ t d. IsOfSome t o d) n s ds → AreFit n s ds → Others ds
some_named n s o ds plain own fit =
    at_each (λ t d. IsOfSome t o d × IsFitDeed t d) (λ d. is_open_ask d ≡ false) n s ds (λ t d is. of_named t o d plain is.0 is.1) (at_both (λ t d. IsOfSome t o d) IsFitDeed n s ds own (fit_at n s ds fit))

-- ---- what comes to the front

pub message_tells : (n : ℕ) (exports : Exports) (others : ℕ) (f : FrontSmb) (s : CoreState) (number : ℕ) (bytes : List ℕ) → IsGood s → AreDistinct f.state → Stand s f.state
    → (let r = smb_step n exports others f s number bytes in ToTell r.1 r.3 r.2.state)
message_tells n exports others f s number bytes good distinct stand =
    let r = smb_step n exports others f s number bytes in
    let ds : List Deed = smb_deeds n exports others f s number bytes in
    let awaits : AreAwaited r.3 r.2.state = step_awaited n exports others f s number bytes good distinct stand.awaits in
    record {
      pending = λ e here quiet. all_in (IsAwaited r.3 r.2.state) e r.2.state.waiting awaits here;
      keeps = step_keeps n exports others f s number bytes good distinct stand.awaits stand.keeps;
      silent = λ w here.
          ap (λ (es : List Effect). over w.id es) (smb.step_tells n exports others f s number bytes)
          ∙ waits_still n s ds w good (smb_own.step_takes n exports others f s number bytes) (subst (λ (u : CoreState). IsIn w u.waiters) (smb.step_does n exports others f s number bytes) here);
      apart = step_apart n exports others f s number bytes stand.apart;
    }

pub end_tells : (f : FrontSmb) (s : CoreState) (number : ℕ) → IsGood s → IsSound f.state → AreDistinct f.state → Stand s f.state → (let r = smb_end f s number in ToTell r.0 r.2 r.1.state)
end_tells f s number good sound distinct stand =
    let r = smb_end f s number in
    let ds : List Deed = smb_end_deeds f s number in
    let awaits : AreAwaited r.2 r.1.state = end_awaited f s number sound distinct stand.awaits in
    record {
      pending = λ e here quiet. all_in (IsAwaited r.2 r.1.state) e r.1.state.waiting awaits here;
      keeps = end_keeps f s number good stand.awaits stand.keeps;
      silent = λ w here.
          ap (λ (es : List Effect). over w.id es) (smb.end_tells 0 f s number)
          ∙ waits_still 0 s ds w good (smb_own.end_takes 0 f s number) (subst (λ (u : CoreState). IsIn w u.waiters) (smb.end_does 0 f s number) here);
      apart = end_apart f s number stand.apart;
    }

pub begin_stands : (f : FrontSmb) (s : CoreState) (place : ℕ) → Stand s f.state → Stand s (smb_begin f place).state
begin_stands f s place stand = record { awaits = begin_awaited f s place stand.awaits; keeps = begin_keeps f s place stand.keeps; apart = begin_apart f place stand.apart }
