-- When the bytes, or the type, of a lock are refused (RFC 7530 16.10.4).
use Rattle.std.proofs.Common.{◌≡◌, ℕ, ◌+◌, ◌-◌, ◌^◌, ◌≤◌, false, Option, Some, None, Err, is_some, refl, sym, ap, ◌∙◌, ◌↔◌, inl, inr, arith, true≢false}
use Rattle.std.proofs.lemmas.Bool.{cases_Bool, eq-eqb, eqb-true, leb-false, leb-true, ltb-true}
use Rattle.std.specs.Bool.{◌==◌}
use Rattle.std.specs.Prelude.{◌||◌, nat_le, nat_lt}
use Rattle.xl_nfs.specs.declared.basics.LockType.{LockType}
use Rattle.xl_nfs.specs.declared.basics.LockType.TheVariants as types
use Rattle.xl_nfs.specs.declared.status.NfsStatus.TheVariants as statuses
use Rattle.xl_nfs_locks.specs.Locks.{lock_end}
use Rattle.xl_nfs_locks.specs.Ranges.{last_byte, may_lock}
use Rattle.xl_nfs_opens.specs.Asks.{all_ones}
use Rattle.xl_nfs_laws.specs.AnsweredStateids.{IsBeyond, IsNoRange}

none_not : (last : ℕ) → Some last ≡ None → ⊥
none_not last e = true≢false (ap is_some e)

pub no_range_exactly : (offset len : ℕ) → offset ≤ 2 ^ 64 - 1 → (last_byte offset len ≡ None) ↔ IsNoRange offset len
unfolding last_byte
no_range_exactly offset len little =
    elim (cases_Bool (len == 0)) [
      | inl e ↦ rw e ((λ d. inl (eqb-true len 0 e), λ d. refl))
      | inr e ↦ rw e (elim (cases_Bool (nat_lt all_ones offset)) [
        | inl far ↦ absurd (omega (arith, ltb-true all_ones offset far, little))
        | inr near ↦ rw near (elim (cases_Bool (len == all_ones)) [
          | inl whole ↦ rw whole ((λ d. absurd (none_not all_ones d), λ d. absurd (not_whole (eqb-true len all_ones whole) (empty_no e) d)))
          | inr part ↦ rw part (elim (cases_Bool (nat_le (offset + len) all_ones)) [
            | inl within ↦ rw within ((λ d. absurd (none_not (offset + len - 1) d), λ d. absurd (not_within (leb-true (offset + len) all_ones within) (empty_no e) d)))
            | inr past ↦ rw past ((λ d. inr (λ f. true≢false (sym (eq-eqb len all_ones f) ∙ part), omega (arith, leb-false (offset + len) all_ones past)), λ d. refl))
          ])
        ])
      ])
    ]
  where
    empty_no : (len == 0) ≡ false → len ≡ 0 → ⊥
    empty_no e d = true≢false (sym (eq-eqb len 0 d) ∙ e)

    not_whole : len ≡ 2 ^ 64 - 1 → (len ≡ 0 → ⊥) → IsNoRange offset len → ⊥
    not_whole all some (inl none) = some none
    not_whole all some (inr part) = part.0 all

    not_within : offset + len ≤ 2 ^ 64 - 1 → (len ≡ 0 → ⊥) → IsNoRange offset len → ⊥
    not_within fits some (inl none) = some none
    not_within fits some (inr part) = omega (arith, fits, part.1)

-- two bits, of which neither is given
neither : (access a b : ℕ) → ((access == a) || (access == b)) ≡ false ↔ ((access ≡ a → ⊥) × (access ≡ b → ⊥))
neither access a b =
    elim (cases_Bool (access == a)) [
      | inl e ↦ rw e ((λ d. absurd (true≢false d), λ d. absurd (d.0 (eqb-true access a e))))
      | inr e ↦ rw e (elim (cases_Bool (access == b)) [
        | inl f ↦ rw f ((λ d. absurd (true≢false d), λ d. absurd (d.1 (eqb-true access b f))))
        | inr f ↦ rw f ((λ d. (λ g. true≢false (sym (eq-eqb access a g) ∙ e), λ g. true≢false (sym (eq-eqb access b g) ∙ f)), λ d. refl))
      ])
    ]

may_not : (kind : LockType) (access : ℕ) → (may_lock kind access ≡ false) ↔ IsBeyond kind access
may_not types.Read access = neither access 1 3
may_not types.ReadWaiting access = neither access 1 3
may_not types.Write access = neither access 2 3
may_not types.WriteWaiting access = neither access 2 3

pub inval_exactly : (kind : LockType) (access offset len : ℕ) → offset ≤ 2 ^ 64 - 1 → (lock_end kind access (last_byte offset len) ≡ Err statuses.Inval) ↔ IsNoRange offset len
inval_exactly kind access offset len little = by (last_byte offset len) (no_range_exactly offset len little)
  where
    by : (o : Option ℕ) → ((o ≡ None) ↔ IsNoRange offset len) → (lock_end kind access o ≡ Err statuses.Inval) ↔ IsNoRange offset len
    by None is = (λ d. is.0 refl, λ d. refl)
    by (Some last) is =
        elim (cases_Bool (may_lock kind access)) [
          | inl e ↦ rw e ((λ d. absurd cc, λ d. absurd (none_not last (is.1 d))))
          | inr e ↦ rw e ((λ d. absurd cc, λ d. absurd (none_not last (is.1 d))))
        ]

pub mode_exactly : (kind : LockType) (access offset len : ℕ) → offset ≤ 2 ^ 64 - 1 → (lock_end kind access (last_byte offset len) ≡ Err statuses.OpenMode) ↔ ((IsNoRange offset len → ⊥) × IsBeyond kind access)
mode_exactly kind access offset len little = by (last_byte offset len) (no_range_exactly offset len little)
  where
    by : (o : Option ℕ) → ((o ≡ None) ↔ IsNoRange offset len) → (lock_end kind access o ≡ Err statuses.OpenMode) ↔ ((IsNoRange offset len → ⊥) × IsBeyond kind access)
    by None is = (λ d. absurd cc, λ d. absurd (d.0 (is.0 refl)))
    by (Some last) is =
        elim (cases_Bool (may_lock kind access)) [
          | inl e ↦ rw e ((λ d. absurd cc, λ d. absurd (true≢false (sym e ∙ (may_not kind access).1 d.1))))
          | inr e ↦ rw e ((λ d. (λ f. none_not last (is.1 f), (may_not kind access).0 e), λ d. refl))
        ]
