-- Acknowledgements: what they leave, and that the core takes them.
use Rattle.std.proofs.Common.{◌≡◌, ℕ, Bool, true, false, not, ◌&&◌, ◌||◌, List, [], ◌∷◌, Option, Some, None, if◌then◌else◌, refl, sym, ap, ◌∙◌, inl, inr, arith, append-nil}
use Rattle.std.specs.Prelude.{◌==◌, nat_lt}
use Rattle.std.proofs.lemmas.Bool.{cases_Bool, true≢false, and_parts}
use Rattle.std.proofs.lemmas.Bool.Decides.{nat_tests}
use Rattle.xl_base.specs.Lists.{IsIn}
use Rattle.xl_base.specs.declared.name.Party.{Party}
use Rattle.xl_base.specs.declared.name.Party.TheVariants as parties
use Rattle.xl_cache.specs.Targets.{rest_lies_within}
use Rattle.xl_matrix.specs.Equal.{same_parties}
use Rattle.xl_matrix.proofs.EqualLaws.{same_parties-true}
use Rattle.xl_matrix.specs.declared.claim.Break.{Break}
use Rattle.xl_matrix.specs.declared.claim.CacheKind.{CacheKind}
use Rattle.xl_matrix.specs.declared.claim.CacheKind.TheVariants.{R}
use Rattle.xl_matrix.specs.declared.claim.Claim.{Claim}
use Rattle.xl_matrix.specs.declared.claim.What.{What}
use Rattle.xl_matrix.specs.declared.claim.What.TheVariants as whats
use Rattle.xl_smb_state.proofs.RowLaws.{none_some, same_Some}
use Rattle.xl_smb_state.specs.State.{Lists, open_of}
use Rattle.xl_core.specs.BreakAnswers.{may_be_left, ack}
use Rattle.xl_core.specs.Deeds.{Acks}
use Rattle.xl_core.specs.Places.{is_cache_on}
use Rattle.xl_core.specs.State.{CoreState}
use Rattle.xl_core.specs.declared.ask.Effect.{Effect}
use Rattle.xl_core.specs.Ids.{id_of}
use Rattle.xl_smb_locks.specs.Levels.{cache_of, oplock_of}
use Rattle.xl_front_smb.specs.Checks.{refused, found}
use Rattle.xl_front_smb.specs.Files.{is_read, leaves_less, is_refused, left_at, may_keep, running_of, ack_by, ack_cache, ack_of, ack_oplock, lease_left, lease_level}
use Rattle.xl_front_smb.specs.Plans.{Plan, Does, Fails, carried, Outcome}
use Rattle.xl_front_smb.specs.declared.told.Told.{Told}
use Rattle.xl_cache.specs.Levels.{kind_of_state, level_of}
use Rattle.xl_front_smb.specs.declared.told.Told.TheVariants.{Failed, Acknowledged, Answered}
use Rattle.xl_smb.specs.declared.lease.Lease.{Lease}
use Rattle.xl_smb_locks.specs.declared.status.SmbStatus.TheVariants.{InvalidParameter, InvalidOplockProtocol, InvalidDeviceState, FileClosed, Unsuccessful, RequestNotAccepted}
use Rattle.xl_smb_state.specs.declared.row.Open.{Open}

-- ---- what may be left

-- nothing may be left of a cache whose break runs
pub may_be_none : (what : What) (kind : CacheKind) (running : Break) → what ≡ whats.Cache kind (Some running) → may_be_left what None ≡ true
may_be_none what kind running is = ap (λ (w : What). may_be_left w None) is

two_parts : (x y z : Bool) → (x || (true && (y || z))) ≡ false → z ≡ false
two_parts true y z h = absurd (true≢false h)
two_parts false true z h = absurd (true≢false h)
two_parts false false z h = h

pub not_false : (b : Bool) → not b ≡ false → b ≡ true
not_false true h = refl
not_false false h = absurd (true≢false h)

pub above : (level : ℕ) (b : Bool) → (level == 0) ≡ false → nat_lt 1 level || b ≡ false → (level == 1) ≡ true
above level true some h = absurd (either_true (nat_lt 1 level) h)
  where
    either_true : (a : Bool) → a || true ≡ false → ⊥
    either_true true e = true≢false e
    either_true false e = true≢false e
above level false some h = one level some h
  where
    one : (level : ℕ) → (level == 0) ≡ false → nat_lt 1 level || false ≡ false → (level == 1) ≡ true
    one level some h = grind (arith, nat_tests)

-- a level that isn't refused is left within what the break leaves
pub left_within : (level : ℕ) (kind : CacheKind) (running : Break) → is_refused level kind (Some running) ≡ false → rest_lies_within (left_at level) running.target ≡ true
left_within level kind running h =
    elim (cases_Bool (level == 0)) [
      | inl none ↦ rw none refl
      | inr some ↦ (
          let one : (level == 1) ≡ true = above level ((level == 1) && (is_read kind || leaves_less (Some running))) some h in
          rw some (not_false (rest_lies_within (Some R) running.target) (two_parts (nat_lt 1 level) (is_read kind) (leaves_less (Some running)) (rw one at h))))
    ]

-- and a state that a lease may keep
pub kept_within : (state : ℕ) (running : Break) → may_keep state running ≡ true → rest_lies_within (kind_of_state state) running.target ≡ true
kept_within state running may = (and_parts (state == 0 || (state == 1 || state == 3)) (rest_lies_within (kind_of_state state) running.target) may).1

-- a break of a lease's cache that runs is answered so
pub kept_done : (n : ℕ) (s : CoreState) (l : Lists) (lease : Lease) (cache : Claim) (kind : CacheKind) (running : Break) (x : Outcome) (left : Option CacheKind) (given : Lease) → cache.what ≡ whats.Cache kind (Some running) → may_keep lease.state running ≡ true → left ≡ kind_of_state lease.state → given ≡ lease_left lease
    → carried n s l (Does (Acks cache left ∷ []) l (Answered given)) ≡ x → carried n s l (ack_cache l lease cache) ≡ x
kept_done n s l lease cache kind running x left given is may own told done =
    let answers = Does (Acks cache (kind_of_state lease.state) ∷ []) l (Answered (lease_left lease)) in
    ap (λ (w : What). carried n s l (found (running_of w) Unsuccessful (λ r. refused ((not (may_keep lease.state r), RequestNotAccepted) ∷ []) answers))) is
    ∙ ap (λ (b : Bool). carried n s l (refused ((not b, RequestNotAccepted) ∷ []) answers)) may
    ∙ sym (λ i. carried n s l (Does (Acks cache (own i) ∷ []) l (Answered (told i))))
    ∙ done

-- ---- the cache that is found

pub cache_is : (file : ℕ) (party : Party) (cs : List Claim) (cache : Claim) → cache_of file party cs ≡ Some cache → IsIn cache cs × (cache.party ≡ party)
cache_is file party [] cache at = absurd (none_some at)
cache_is file party (c ∷ cs) cache at =
    elim (cases_Bool (is_cache_on file party c)) [
      | inl here ↦ (
          let is : c ≡ cache = same_Some (rw here at at) in
          let its : same_parties c.party party ≡ true = (and_parts (c.file == file) _ (and_parts _ _ here).1).1 in
          (inl is, ap (λ (x : Claim). x.party) (sym is) ∙ same_parties-true c.party party its))
      | inr other ↦ (let rest = cache_is file party cs cache (rw other at at) in (inr rest.0, rest.1))
    ]

pub oplock_is : (file number : ℕ) (cs : List Claim) (cache : Claim) → oplock_of file number cs ≡ Some cache → IsIn cache cs × (cache.party ≡ parties.Open number)
oplock_is file number cs cache at = cache_is file (parties.Open number) cs cache at

-- ---- what an acknowledgement does

pub acks : (n : ℕ) (s new : CoreState) (l : Lists) (cache : Claim) (to : Option CacheKind) (told : Told) (effects : List Effect) → ack s cache to ≡ (effects, new) → carried n s l (Does (Acks cache to ∷ []) l told) ≡ (told, effects, l, new)
acks n s new l cache to told effects is =
    let r = ack s cache to in
    (λ i. (told, append-nil r.0 i, l, r.1)) ∙ ap (λ (x : List Effect × CoreState). (told, x.0, l, x.1)) is

-- ---- what it comes to, by what the open has

-- the plan of one that is refused, or taken
abbrev ran : Lists → ℕ → ℕ → Claim → Bool → Plan
ran l id level cache unfit = if unfit then Does (Acks cache None ∷ []) l (Failed InvalidOplockProtocol) else Does (Acks cache (left_at level) ∷ []) l (Acknowledged id (level_of (left_at level)))

pub ran_refused : (n : ℕ) (s : CoreState) (l : Lists) (id level : ℕ) (cache : Claim) (kind : CacheKind) (running : Break) (x : Outcome) → is_refused level kind (Some running) ≡ true → carried n s l (Does (Acks cache None ∷ []) l (Failed InvalidOplockProtocol)) ≡ x
    → carried n s l (ack_by l id level cache (whats.Cache kind (Some running))) ≡ x
ran_refused n s l id level cache kind running x unfit done = ap (λ (b : Bool). carried n s l (ran l id level cache b)) unfit ∙ done

pub ran_taken : (n : ℕ) (s : CoreState) (l : Lists) (id level : ℕ) (cache : Claim) (kind : CacheKind) (running : Break) (left : Option CacheKind) (held : ℕ) (x : Outcome) → is_refused level kind (Some running) ≡ false → left ≡ left_at level → held ≡ level_of left → carried n s l (Does (Acks cache left ∷ []) l (Acknowledged id held)) ≡ x
    → carried n s l (ack_by l id level cache (whats.Cache kind (Some running))) ≡ x
ran_taken n s l id level cache kind running left held x fit to at done =
    ap (λ (b : Bool). carried n s l (ran l id level cache b)) fit
    ∙ ap (λ (k : Option CacheKind). carried n s l (Does (Acks cache k ∷ []) l (Acknowledged id (level_of k)))) (sym to)
    ∙ ap (λ (k : ℕ). carried n s l (Does (Acks cache left ∷ []) l (Acknowledged id k))) (sym at)
    ∙ done

-- where no break runs
pub rests : (n : ℕ) (s : CoreState) (l : Lists) (above given : Bool) (x : Outcome) → given ≡ above → carried n s l (refused ((given, InvalidOplockProtocol) ∷ []) (Fails InvalidDeviceState)) ≡ x → carried n s l (refused ((above, InvalidOplockProtocol) ∷ []) (Fails InvalidDeviceState)) ≡ x
rests n s l above given x is done = ap (λ (b : Bool). carried n s l (refused ((b, InvalidOplockProtocol) ∷ []) (Fails InvalidDeviceState))) (sym is) ∙ done

pub by_what : (n : ℕ) (s : CoreState) (l : Lists) (id level : ℕ) (cache : Claim) (what : What) (x : Outcome) → cache.what ≡ what → carried n s l (ack_by l id level cache what) ≡ x → carried n s l (ack_by l id level cache cache.what) ≡ x
by_what n s l id level cache what x is done = ap (λ (w : What). carried n s l (ack_by l id level cache w)) is ∙ done

pub by_oplock : (n : ℕ) (s : CoreState) (l : Lists) (level number : ℕ) (row : Open) (x : Outcome) → (level == lease_level) ≡ false → open_of number l ≡ Some row → oplock_of row.file number s.claims ≡ None → carried n s l (ack_of l (id_of s number) level None) ≡ x
    → carried n s l (ack_oplock s l level number) ≡ x
by_oplock n s l level number row x apart at none done =
    let of = λ (o : Option Open). found o FileClosed (λ (r : Open). ack_of l (id_of s number) level (oplock_of r.file number s.claims)) in
    ap (λ (b : Bool). carried n s l (refused ((b, InvalidParameter) ∷ []) (of (open_of number l)))) apart
    ∙ ap (λ (o : Option Open). carried n s l (of o)) at
    ∙ ap (λ (o : Option Claim). carried n s l (ack_of l (id_of s number) level o)) none
    ∙ done
