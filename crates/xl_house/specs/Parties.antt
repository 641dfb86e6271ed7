-- For whom something is held.
use Rattle.std.specs.Prelude.{◌≡◌, ◌⊎◌, ℕ}
use Rattle.xl_base.specs.Lists.{IsIn}
use Rattle.xl_matrix.specs.declared.claim.Claim.{Claim}
use Rattle.xl_wait.specs.declared.waiter.Waiter.{Waiter}
use Rattle.xl_core.specs.Askers.{asked_whats, asked_claims}
use Rattle.xl_core.specs.Decide.{ask}
use Rattle.xl_core.specs.Deeds.{Deed, Asks, Serves, given, done}
use Rattle.xl_core.specs.State.{CoreState}
use Rattle.xl_core.specs.declared.ask.Answer.{Answer}
use Rattle.xl_core.specs.declared.ask.Answer.TheVariants.{Granted}
use Rattle.xl_core.specs.declared.ask.Effect.TheVariants.{Served}

-- the two are of one owner on one file, for one party
abbrev pub IsAlike : Claim → Claim → Type 0
IsAlike a b = (a.file ≡ b.file) × (a.owner ≡ b.owner) × (a.party ≡ b.party)

-- the deed asks for this claim, or is answered that it is granted; a turn tells that it serves who waits for it
abbrev pub IsAskedBy : ℕ → CoreState → Deed → Claim → Type 0
IsAskedBy n s (Asks left a) b = IsIn b (asked_claims a (asked_whats a.act) s.names) ⊎ ((ask n left s a).0 ≡ Granted b)
IsAskedBy n s (Serves left) b = (w : Waiter) × (answer : Answer) × IsIn w s.waiters × IsIn (Served w.party w.id answer) (given n s (Serves left)).1 × IsIn b w.asked
IsAskedBy n s deed b = ⊥

-- The claim is held for a party that had something of the owner's on the file before the deed, or that asked for it by the
-- deed, or waited for it and is served.
abbrev pub IsHeldFor : ℕ → CoreState → Deed → Claim → Type 0
IsHeldFor n s d c = ((b : Claim) × IsIn b s.claims × IsAlike c b) ⊎ ((b : Claim) × IsAskedBy n s d b × IsAlike c b)

-- so is each claim after the deed
abbrev pub AreHeldFor : ℕ → CoreState → Deed → Type 0
AreHeldFor n s d = (c : Claim) → IsIn c (done n s d).claims → IsHeldFor n s d c
