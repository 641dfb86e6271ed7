-- How NFSv4 clients stand to grace, which never wait.
use Rattle.std.proofs.Common.{◌≡◌, Bool, true, false, if◌then◌else◌, Option, Some, None, refl, sym, subst, ◌∙◌, true≢false}
use Rattle.xl_base.specs.Lists.{IsIn}
use Rattle.xl_grace.specs.Grace.{Running, admission, may_reclaim}
use Rattle.xl_grace.specs.declared.grace.Admission.TheVariants.{Enters, NotRecorded}
use Rattle.xl_matrix.specs.declared.claim.Claim.{Claim}
use Rattle.xl_table.specs.Flat.{blocks}
use Rattle.xl_table.specs.Least.{least}
use Rattle.xl_core.specs.Blockers.{blocker, is_stopped}
use Rattle.xl_core.specs.Causes.{IsAgainst, IsWaiting, IsBarring}
use Rattle.xl_core.specs.Standings.{asker_as, is_smb, standing, standing_by, stands}
use Rattle.xl_core.specs.State.{CoreState}
use Rattle.xl_core.specs.declared.ask.Ask.{Ask}

-- who waits for nothing may not wait
no_wait : (b x y : Bool) → x ≡ false → y ≡ false → (if b then x else y) ≡ true → ⊥
no_wait true x y hurries e may = true≢false (sym may ∙ hurries)
no_wait false x y e hurries may = true≢false (sym may ∙ hurries)

-- how it stands
stands_so : (s : CoreState) (a : Ask) (stays : Bool) (g : Option Running) (b : Bool) → is_smb a.party ≡ stays → s.grace ≡ g → a.reclaim ≡ b → stands s a ≡ standing_by stays b s.clock (admission g (asker_as a) b)
unfolding standing
stands_so s a stays g b other runs back = rw (other, runs, back) refl

-- and doesn't wait for the end of grace either
pub never_waits : (s : CoreState) (a : Ask) (claim : Claim) → a.blocking ≡ false → a.awaits ≡ false → is_smb a.party ≡ false → IsWaiting (stands s a) s.waiters s a claim → ⊥
never_waits s a claim hurries rests other waits = by s.grace a.reclaim (subst (λ standing. IsWaiting standing s.waiters s a claim) (stands_so s a false s.grace a.reclaim other refl refl) waits) where
  lets : (b : Bool) → IsWaiting (standing_by false true s.clock (if b then Enters else NotRecorded)) s.waiters s a claim → ⊥
  lets true w = w
  lets false w = w

  by : (g : Option Running) (b : Bool) → IsWaiting (standing_by false b s.clock (admission g (asker_as a) b)) s.waiters s a claim → ⊥
  by None true w = w
  by None false w = no_wait (is_stopped s.waiters s claim) a.blocking a.awaits hurries rests w.0
  by (Some g) true w = lets (may_reclaim (asker_as a) g.reclaimants) w
  by (Some g) false w = w

-- what stands against one that does not reclaim is the least held claim that does for good, or else the first range that is waited for
pub against_asked : (s : CoreState) (a : Ask) (claim c : Claim) → is_smb a.party ≡ false → a.reclaim ≡ false → IsAgainst (stands s a) s a claim c
    → (a.blocking ≡ false) × (blocker s.waiters s claim ≡ Some c) × IsBarring s.waiters s claim c
against_asked s a claim c other plain against = by s.grace (subst (λ standing. IsAgainst standing s a claim c) (stands_so s a false s.grace false other refl plain) against) where
  by : (g : Option Running) → IsAgainst (standing_by false false s.clock (admission g (asker_as a) false)) s a claim c → (a.blocking ≡ false) × (blocker s.waiters s claim ≡ Some c) × IsBarring s.waiters s claim c
  by None is = is
  by (Some g) is = absurd is
