-- Which statuses leave an owner's seqid, and the lock that a refused one is answered.
use Rattle.std.proofs.Common.{◌≡◌, ℕ, ◌+◌, ◌-◌, ◌^◌, ◌≤◌, ◌<◌, Bool, true, false, refl, sym, subst, ◌∙◌, ◌↔◌, inl, inr, arith, true≢false}
use Rattle.std.proofs.lemmas.Bool.{cases_Bool, eq-eqb, eqb-true}
use Rattle.std.specs.Bool.{◌==◌}
use Rattle.std.specs.Prelude.{◌⊎◌}
use Rattle.xl_base.specs.Lists.{IsIn}
use Rattle.xl_matrix.specs.declared.claim.Claim.{Claim}
use Rattle.xl_matrix.specs.declared.claim.Extent.TheVariants.{Bytes}
use Rattle.xl_matrix.specs.declared.claim.What.{What}
use Rattle.xl_matrix.specs.declared.claim.What.TheVariants.{Range}
use Rattle.xl_nfs.specs.Statuses.{status_number}
use Rattle.xl_nfs.specs.declared.basics.LockType.TheVariants as types
use Rattle.xl_nfs.specs.declared.status.NfsStatus.{NfsStatus}
use Rattle.xl_nfs.specs.declared.status.NfsStatus.TheVariants as statuses
use Rattle.xl_nfs_state.specs.State.{NfsLists}
use Rattle.xl_core.specs.State.{CoreState}
use Rattle.xl_nfs_locks.specs.Denials.{held_by, held_lock, holder_parts, kind_of}
use Rattle.xl_nfs_locks.specs.Ranges.{length_of}
use Rattle.xl_nfs_opens.specs.Asks.{all_ones}
use Rattle.xl_nfs_opens.specs.Seqids.{advances}
use Rattle.xl_nfs_laws.specs.Denied.{Reaches}
use Rattle.xl_nfs_laws.specs.Statuses.{uncounted_statuses}

-- ---- statuses

pub uncounted : (status : NfsStatus) → advances status ≡ false → IsIn (status_number status) uncounted_statuses
unfolding status_number
uncounted statuses.StaleClientId e = inl refl
uncounted statuses.StaleStateid e = inr (inl refl)
uncounted statuses.BadStateid e = inr (inr (inl refl))
uncounted statuses.BadSeqid e = inr (inr (inr (inl refl)))
uncounted statuses.BadXdr e = inr (inr (inr (inr (inl refl))))
uncounted statuses.Resource e = inr (inr (inr (inr (inr (inl refl)))))
uncounted statuses.NoFileHandle e = inr (inr (inr (inr (inr (inr (inl refl))))))
uncounted _ e = absurd (true≢false e)

pub counts_not : (status : NfsStatus) → IsIn (status_number status) uncounted_statuses → advances status ≡ false
unfolding status_number
counts_not statuses.StaleClientId e = refl
counts_not statuses.StaleStateid e = refl
counts_not statuses.BadStateid e = refl
counts_not statuses.BadSeqid e = refl
counts_not statuses.BadXdr e = refl
counts_not statuses.Resource e = refl
counts_not statuses.NoFileHandle e = refl
counts_not _ (inl e) = absurd (omega (arith, e))
counts_not _ (inr (inl e)) = absurd (omega (arith, e))
counts_not _ (inr (inr (inl e))) = absurd (omega (arith, e))
counts_not _ (inr (inr (inr (inl e)))) = absurd (omega (arith, e))
counts_not _ (inr (inr (inr (inr (inl e))))) = absurd (omega (arith, e))
counts_not _ (inr (inr (inr (inr (inr (inl e)))))) = absurd (omega (arith, e))
counts_not _ (inr (inr (inr (inr (inr (inr (inl e))))))) = absurd (omega (arith, e))
counts_not _ (inr (inr (inr (inr (inr (inr (inr e))))))) = absurd e

pub uncounted_exactly : (status : NfsStatus) → (advances status ≡ false) ↔ IsIn (status_number status) uncounted_statuses
uncounted_exactly status = (uncounted status, counts_not status)

-- ---- the lock that is answered

-- each byte that is held is reached
reaches : (first last byte : ℕ) → first ≤ last → byte ≤ last → (length_of first last ≡ 2 ^ 64 - 1) ⊎ (byte < first + length_of first last)
reaches first last byte real within =
    elim (cases_Bool (last == all_ones)) [
      | inl e ↦ rw e (inl refl)
      | inr e ↦ rw e (inr (omega (arith, within, real)))
    ]

-- and no other
reached : (first last byte : ℕ) → first ≤ last → last ≤ 2 ^ 64 - 1 → (first ≡ 0 → last ≡ 2 ^ 64 - 2 → ⊥) → byte ≤ 2 ^ 64 - 1 → (length_of first last ≡ 2 ^ 64 - 1) ⊎ (byte < first + length_of first last) → byte ≤ last
reached first last byte real little named small h =
    elim (cases_Bool (last == all_ones)) [
      | inl e ↦ omega (arith, eqb-true last all_ones e, small)
      | inr e ↦ part (λ d. true≢false (sym (eq-eqb last all_ones d) ∙ e)) (rw e at h)
    ]
  where
    whole : (last ≡ 2 ^ 64 - 1 → ⊥) → last + 1 - first ≡ 2 ^ 64 - 1 → ⊥
    whole before all = named (omega (arith, all, real, little, omega_before before)) (omega (arith, all, real, little, omega_before before))
      where
        omega_before : (last ≡ 2 ^ 64 - 1 → ⊥) → last < 2 ^ 64 - 1
        omega_before no_end = grind (arith, no_end, little)

    part : (last ≡ 2 ^ 64 - 1 → ⊥) → (last + 1 - first ≡ 2 ^ 64 - 1) ⊎ (byte < first + (last + 1 - first)) → byte ≤ last
    part before (inl all) = absurd (whole before all)
    part before (inr less) = omega (arith, less, real)

pub denied_reaches : (s : CoreState) (l : NfsLists) (c : Claim) (first last : ℕ) (exclusive : Bool) → c.what ≡ Range (Bytes first last) exclusive → first ≤ last → (byte : ℕ) → first ≤ byte → byte ≤ last → Reaches (held_lock s l c) byte
denied_reaches s l c first last exclusive is real byte above below =
    subst (λ (w : What). Reaches (held_by (holder_parts s l c.owner) w) byte) (sym is) (above, reaches first last byte real below)

pub denied_alone : (s : CoreState) (l : NfsLists) (c : Claim) (first last : ℕ) (exclusive : Bool) → c.what ≡ Range (Bytes first last) exclusive → first ≤ last → last ≤ 2 ^ 64 - 1 → (first ≡ 0 → last ≡ 2 ^ 64 - 2 → ⊥) → (byte : ℕ) → byte ≤ 2 ^ 64 - 1 → Reaches (held_lock s l c) byte → (first ≤ byte) × (byte ≤ last)
denied_alone s l c first last exclusive is real little named byte small h =
    let there : Reaches (held_by (holder_parts s l c.owner) (Range (Bytes first last) exclusive)) byte = subst (λ (w : What). Reaches (held_by (holder_parts s l c.owner) w) byte) is h in
    (there.0, reached first last byte real little named small there.1)

write_exactly : (b : Bool) → (kind_of b ≡ types.Write) ↔ (b ≡ true)
write_exactly true = (λ e. refl, λ e. refl)
write_exactly false = (λ e. absurd cc, λ e. absurd (true≢false (sym e)))

pub denied_writes : (s : CoreState) (l : NfsLists) (c : Claim) (first last : ℕ) (exclusive : Bool) → c.what ≡ Range (Bytes first last) exclusive → ((held_lock s l c).kind ≡ types.Write) ↔ (exclusive ≡ true)
denied_writes s l c first last exclusive is = subst (λ (w : What). ((held_by (holder_parts s l c.owner) w).kind ≡ types.Write) ↔ (exclusive ≡ true)) (sym is) (write_exactly exclusive)

read_or_write : (b : Bool) → (kind_of b ≡ types.Read) ⊎ (kind_of b ≡ types.Write)
read_or_write true = inr refl
read_or_write false = inl refl

pub denied_kinds : (s : CoreState) (l : NfsLists) (c : Claim) (first last : ℕ) (exclusive : Bool) → c.what ≡ Range (Bytes first last) exclusive → ((held_lock s l c).kind ≡ types.Read) ⊎ ((held_lock s l c).kind ≡ types.Write)
denied_kinds s l c first last exclusive is = subst (λ (w : What). ((held_by (holder_parts s l c.owner) w).kind ≡ types.Read) ⊎ ((held_by (holder_parts s l c.owner) w).kind ≡ types.Write)) (sym is) (read_or_write exclusive)
