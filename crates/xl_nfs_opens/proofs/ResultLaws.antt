-- Which results have a spelling, and that it is short.
use Rattle.std.proofs.Common.{◌≡◌, ℕ, ◌+◌, ◌-◌, if◌then◌else◌, ◌≤◌, ◌<◌, ◌^◌, Bool, true, false, List, [], ◌∷◌, ◌++◌, length, take, Option, Some, None, IfSome, Ok, refl, sym, ap, subst, ◌∙◌, inl, inr, arith, eqb-true}
use Rattle.std.proofs.lemmas.Bool.{cases_Bool}
use Rattle.std.proofs.lemmas.List.{length-append}
use Rattle.std.specs.Bool.{◌==◌}
use Rattle.xl_base.specs.Handles.{handle}
use Rattle.xl_base.specs.Formats.{is_listed}
use Rattle.xl_nfs.specs.Ops.{is_numbered}
use Rattle.xl_nfs.specs.Outcomes.{is_ok, is_denied, outcome, lock_outcome}
use Rattle.xl_nfs.specs.Results.{ResultItem, CloseAnswer, GetFhAnswer, LockAnswer, LockUAnswer, OpenAnswer, OpenConfirmAnswer, OpenDowngradeAnswer, SetClientIdAnswer, NotSupportedAnswer, IllegalAnswer, results, told, told_fits, nfs_result, ResultFits}
use Rattle.xl_nfs.specs.Statuses.{status_number, status}
use Rattle.xl_nfs.specs.Basics.{handle as fh}
use Rattle.xl_nfs.specs.Clients.{client_confirm}
use Rattle.xl_nfs.specs.declared.status.NfsStatus.TheVariants.{OpIllegal}
use Rattle.xl_format.specs.Formats.{nothing}
use Rattle.xl_rpc.specs.Xdr.{unsigned, hyper, void, opaque, fixed, pad}
use Rattle.xl_base.specs.Codec.{big_endian}
use Rattle.xl_nfs.specs.declared.clients.ClientConfirm.{ClientConfirm}
use Rattle.xl_nfs.specs.declared.status.NfsStatus.{NfsStatus}
use Rattle.xl_nfs_opens.specs.Results.{delegation_item, ended_as, no_permissions, open_result_of, state_as}
use Rattle.xl_nfs.specs.Basics.{name, stateid}
use Rattle.xl_nfs.specs.Opened.{ace, limit, open_result, change_info, delegation, read_delegation, write_delegation}
use Rattle.xl_nfs.specs.declared.basics.Stateid.{Stateid}
use Rattle.xl_format.specs.Formats.{array}
use Rattle.xl_rpc.specs.Xdr.{words}

-- a status of its own kind, which no operation tells where it gives something
pub record IsFault (s : NfsStatus) : Type 0 where
  pub ok : is_ok s ≡ false
  pub denied : is_denied s ≡ false

fault_4 : (s : NfsStatus) → IsFault s → ResultFits (ended_as 4 s)
unfolding nfs_result ended_as status outcome
fault_4 s f = (omega arith, (tt, f.ok))

pub plain_8 : (s : NfsStatus) → ResultFits (ended_as 8 s)
unfolding nfs_result ended_as status
plain_8 s = (omega arith, tt)

fault_10 : (s : NfsStatus) → IsFault s → ResultFits (ended_as 10 s)
unfolding nfs_result ended_as status outcome
fault_10 s f = (omega arith, (tt, f.ok))

fault_12 : (s : NfsStatus) → IsFault s → ResultFits (ended_as 12 s)
unfolding nfs_result ended_as status lock_outcome
fault_12 s f = (omega arith, (tt, rw f.ok (rw f.denied refl)))

fault_13 : (s : NfsStatus) → IsFault s → ResultFits (ended_as 13 s)
unfolding nfs_result ended_as status lock_outcome
fault_13 s f = (omega arith, (tt, rw f.ok (rw f.denied refl)))

fault_14 : (s : NfsStatus) → IsFault s → ResultFits (ended_as 14 s)
unfolding nfs_result ended_as status outcome
fault_14 s f = (omega arith, (tt, f.ok))

pub plain_15 : (s : NfsStatus) → ResultFits (ended_as 15 s)
unfolding nfs_result ended_as status
plain_15 s = (omega arith, tt)

fault_18 : (s : NfsStatus) → IsFault s → ResultFits (ended_as 18 s)
unfolding nfs_result ended_as status outcome
fault_18 s f = (omega arith, (tt, f.ok))

fault_20 : (s : NfsStatus) → IsFault s → ResultFits (ended_as 20 s)
unfolding nfs_result ended_as status outcome
fault_20 s f = (omega arith, (tt, f.ok))

fault_21 : (s : NfsStatus) → IsFault s → ResultFits (ended_as 21 s)
unfolding nfs_result ended_as status outcome
fault_21 s f = (omega arith, (tt, f.ok))

pub plain_22 : (s : NfsStatus) → ResultFits (ended_as 22 s)
unfolding nfs_result ended_as status
plain_22 s = (omega arith, tt)

pub plain_24 : (s : NfsStatus) → ResultFits (ended_as 24 s)
unfolding nfs_result ended_as status
plain_24 s = (omega arith, tt)

pub plain_30 : (s : NfsStatus) → ResultFits (ended_as 30 s)
unfolding nfs_result ended_as status
plain_30 s = (omega arith, tt)

fault_35 : (s : NfsStatus) → IsFault s → ResultFits (ended_as 35 s)
unfolding nfs_result ended_as status outcome
fault_35 s f = (omega arith, (tt, f.ok))

pub plain_36 : (s : NfsStatus) → ResultFits (ended_as 36 s)
unfolding nfs_result ended_as status
plain_36 s = (omega arith, tt)

pub plain_39 : (s : NfsStatus) → ResultFits (ended_as 39 s)
unfolding nfs_result ended_as status
plain_39 s = (omega arith, tt)

-- ---- by number

other_is : (number : ℕ) (s : NfsStatus) → (number == 4) ≡ false → (number == 8) ≡ false → (number == 10) ≡ false → (number == 12) ≡ false → (number == 13) ≡ false → (number == 14) ≡ false → (number == 15) ≡ false → (number == 18) ≡ false → (number == 20) ≡ false → (number == 21) ≡ false → (number == 22) ≡ false → (number == 24) ≡ false → (number == 30) ≡ false → (number == 35) ≡ false → (number == 36) ≡ false → (number == 39) ≡ false → ended_as number s ≡ (if is_numbered number then NotSupportedAnswer number else IllegalAnswer)
unfolding ended_as
other_is number s e4 e8 e10 e12 e13 e14 e15 e18 e20 e21 e22 e24 e30 e35 e36 e39 = rw e4 (rw e8 (rw e10 (rw e12 (rw e13 (rw e14 (rw e15 (rw e18 (rw e20 (rw e21 (rw e22 (rw e24 (rw e30 (rw e35 (rw e36 (rw e39 (refl))))))))))))))))

unlisted : (number : ℕ) → (number == 4) ≡ false → (number == 8) ≡ false → (number == 10) ≡ false → (number == 12) ≡ false → (number == 13) ≡ false → (number == 14) ≡ false → (number == 15) ≡ false → (number == 18) ≡ false → (number == 20) ≡ false → (number == 21) ≡ false → (number == 22) ≡ false → (number == 24) ≡ false → (number == 30) ≡ false → (number == 35) ≡ false → (number == 36) ≡ false → (number == 39) ≡ false → is_listed results number ≡ false
unlisted number e4 e8 e10 e12 e13 e14 e15 e18 e20 e21 e22 e24 e30 e35 e36 e39 = rw e4 (rw e8 (rw e10 (rw e12 (rw e13 (rw e14 (rw e15 (rw e18 (rw e20 (rw e21 (rw e22 (rw e24 (rw e30 (rw e35 (rw e36 (rw e39 (refl))))))))))))))))

other_fits : (number : ℕ) (b : Bool) → number < 2 ^ 32 → is_numbered number ≡ b → is_listed results number ≡ false → ResultFits (if b then NotSupportedAnswer number else IllegalAnswer)
unfolding nfs_result
other_fits number true le is none = (le, (none, is))
other_fits number false le is none = (omega arith, told_fits OpIllegal)

other_little : (number : ℕ) (b : Bool) → length (nfs_result.spell (if b then NotSupportedAnswer number else IllegalAnswer)) ≤ 24
unfolding nfs_result told nothing void big_endian
other_little number true = omega arith
other_little number false = omega arith

little_4 : (s : NfsStatus) → length (nfs_result.spell (ended_as 4 s)) ≤ 24
unfolding nfs_result ended_as status nothing void big_endian outcome
little_4 s = omega arith

little_8 : (s : NfsStatus) → length (nfs_result.spell (ended_as 8 s)) ≤ 24
unfolding nfs_result ended_as status nothing void big_endian
little_8 s = omega arith

little_10 : (s : NfsStatus) → length (nfs_result.spell (ended_as 10 s)) ≤ 24
unfolding nfs_result ended_as status nothing void big_endian outcome
little_10 s = omega arith

little_12 : (s : NfsStatus) → length (nfs_result.spell (ended_as 12 s)) ≤ 24
unfolding nfs_result ended_as status nothing void big_endian lock_outcome
little_12 s = omega arith

little_13 : (s : NfsStatus) → length (nfs_result.spell (ended_as 13 s)) ≤ 24
unfolding nfs_result ended_as status nothing void big_endian lock_outcome
little_13 s = omega arith

little_14 : (s : NfsStatus) → length (nfs_result.spell (ended_as 14 s)) ≤ 24
unfolding nfs_result ended_as status nothing void big_endian outcome
little_14 s = omega arith

little_15 : (s : NfsStatus) → length (nfs_result.spell (ended_as 15 s)) ≤ 24
unfolding nfs_result ended_as status nothing void big_endian
little_15 s = omega arith

little_18 : (s : NfsStatus) → length (nfs_result.spell (ended_as 18 s)) ≤ 24
unfolding nfs_result ended_as status nothing void big_endian outcome
little_18 s = omega arith

little_20 : (s : NfsStatus) → length (nfs_result.spell (ended_as 20 s)) ≤ 24
unfolding nfs_result ended_as status nothing void big_endian outcome
little_20 s = omega arith

little_21 : (s : NfsStatus) → length (nfs_result.spell (ended_as 21 s)) ≤ 24
unfolding nfs_result ended_as status nothing void big_endian outcome
little_21 s = omega arith

little_22 : (s : NfsStatus) → length (nfs_result.spell (ended_as 22 s)) ≤ 24
unfolding nfs_result ended_as status nothing void big_endian
little_22 s = omega arith

little_24 : (s : NfsStatus) → length (nfs_result.spell (ended_as 24 s)) ≤ 24
unfolding nfs_result ended_as status nothing void big_endian
little_24 s = omega arith

little_30 : (s : NfsStatus) → length (nfs_result.spell (ended_as 30 s)) ≤ 24
unfolding nfs_result ended_as status nothing void big_endian
little_30 s = omega arith

little_35 : (s : NfsStatus) → length (nfs_result.spell (ended_as 35 s)) ≤ 24
unfolding nfs_result ended_as status nothing void big_endian outcome
little_35 s = omega arith

little_36 : (s : NfsStatus) → length (nfs_result.spell (ended_as 36 s)) ≤ 24
unfolding nfs_result ended_as status nothing void big_endian
little_36 s = omega arith

little_39 : (s : NfsStatus) → length (nfs_result.spell (ended_as 39 s)) ≤ 24
unfolding nfs_result ended_as status nothing void big_endian
little_39 s = omega arith

-- a fault of any operation has a spelling
pub fault_fits : (number : ℕ) (s : NfsStatus) → number < 2 ^ 32 → IsFault s → ResultFits (ended_as number s)
fault_fits number s le f =
    elim (cases_Bool (number == 4)) [
      | inl e ↦ subst (λ (m : ℕ). ResultFits (ended_as m s)) (sym (eqb-true number 4 e)) (fault_4 s f)
      | inr e4 ↦ elim (cases_Bool (number == 8)) [
        | inl e ↦ subst (λ (m : ℕ). ResultFits (ended_as m s)) (sym (eqb-true number 8 e)) (plain_8 s)
        | inr e8 ↦ elim (cases_Bool (number == 10)) [
          | inl e ↦ subst (λ (m : ℕ). ResultFits (ended_as m s)) (sym (eqb-true number 10 e)) (fault_10 s f)
          | inr e10 ↦ elim (cases_Bool (number == 12)) [
            | inl e ↦ subst (λ (m : ℕ). ResultFits (ended_as m s)) (sym (eqb-true number 12 e)) (fault_12 s f)
            | inr e12 ↦ elim (cases_Bool (number == 13)) [
              | inl e ↦ subst (λ (m : ℕ). ResultFits (ended_as m s)) (sym (eqb-true number 13 e)) (fault_13 s f)
              | inr e13 ↦ elim (cases_Bool (number == 14)) [
                | inl e ↦ subst (λ (m : ℕ). ResultFits (ended_as m s)) (sym (eqb-true number 14 e)) (fault_14 s f)
                | inr e14 ↦ elim (cases_Bool (number == 15)) [
                  | inl e ↦ subst (λ (m : ℕ). ResultFits (ended_as m s)) (sym (eqb-true number 15 e)) (plain_15 s)
                  | inr e15 ↦ elim (cases_Bool (number == 18)) [
                    | inl e ↦ subst (λ (m : ℕ). ResultFits (ended_as m s)) (sym (eqb-true number 18 e)) (fault_18 s f)
                    | inr e18 ↦ elim (cases_Bool (number == 20)) [
                      | inl e ↦ subst (λ (m : ℕ). ResultFits (ended_as m s)) (sym (eqb-true number 20 e)) (fault_20 s f)
                      | inr e20 ↦ elim (cases_Bool (number == 21)) [
                        | inl e ↦ subst (λ (m : ℕ). ResultFits (ended_as m s)) (sym (eqb-true number 21 e)) (fault_21 s f)
                        | inr e21 ↦ elim (cases_Bool (number == 22)) [
                          | inl e ↦ subst (λ (m : ℕ). ResultFits (ended_as m s)) (sym (eqb-true number 22 e)) (plain_22 s)
                          | inr e22 ↦ elim (cases_Bool (number == 24)) [
                            | inl e ↦ subst (λ (m : ℕ). ResultFits (ended_as m s)) (sym (eqb-true number 24 e)) (plain_24 s)
                            | inr e24 ↦ elim (cases_Bool (number == 30)) [
                              | inl e ↦ subst (λ (m : ℕ). ResultFits (ended_as m s)) (sym (eqb-true number 30 e)) (plain_30 s)
                              | inr e30 ↦ elim (cases_Bool (number == 35)) [
                                | inl e ↦ subst (λ (m : ℕ). ResultFits (ended_as m s)) (sym (eqb-true number 35 e)) (fault_35 s f)
                                | inr e35 ↦ elim (cases_Bool (number == 36)) [
                                  | inl e ↦ subst (λ (m : ℕ). ResultFits (ended_as m s)) (sym (eqb-true number 36 e)) (plain_36 s)
                                  | inr e36 ↦ elim (cases_Bool (number == 39)) [
                                    | inl e ↦ subst (λ (m : ℕ). ResultFits (ended_as m s)) (sym (eqb-true number 39 e)) (plain_39 s)
                                    | inr e39 ↦ subst ResultFits (sym (other_is number s e4 e8 e10 e12 e13 e14 e15 e18 e20 e21 e22 e24 e30 e35 e36 e39)) (other_fits number (is_numbered number) le refl (unlisted number e4 e8 e10 e12 e13 e14 e15 e18 e20 e21 e22 e24 e30 e35 e36 e39))
                                  ]
                                ]
                              ]
                            ]
                          ]
                        ]
                      ]
                    ]
                  ]
                ]
              ]
            ]
          ]
        ]
      ]
    ]

pub ended_little : (number : ℕ) (s : NfsStatus) → length (nfs_result.spell (ended_as number s)) ≤ 24
ended_little number s =
    elim (cases_Bool (number == 4)) [
      | inl e ↦ subst (λ (m : ℕ). length (nfs_result.spell (ended_as m s)) ≤ 24) (sym (eqb-true number 4 e)) (little_4 s)
      | inr e4 ↦ elim (cases_Bool (number == 8)) [
        | inl e ↦ subst (λ (m : ℕ). length (nfs_result.spell (ended_as m s)) ≤ 24) (sym (eqb-true number 8 e)) (little_8 s)
        | inr e8 ↦ elim (cases_Bool (number == 10)) [
          | inl e ↦ subst (λ (m : ℕ). length (nfs_result.spell (ended_as m s)) ≤ 24) (sym (eqb-true number 10 e)) (little_10 s)
          | inr e10 ↦ elim (cases_Bool (number == 12)) [
            | inl e ↦ subst (λ (m : ℕ). length (nfs_result.spell (ended_as m s)) ≤ 24) (sym (eqb-true number 12 e)) (little_12 s)
            | inr e12 ↦ elim (cases_Bool (number == 13)) [
              | inl e ↦ subst (λ (m : ℕ). length (nfs_result.spell (ended_as m s)) ≤ 24) (sym (eqb-true number 13 e)) (little_13 s)
              | inr e13 ↦ elim (cases_Bool (number == 14)) [
                | inl e ↦ subst (λ (m : ℕ). length (nfs_result.spell (ended_as m s)) ≤ 24) (sym (eqb-true number 14 e)) (little_14 s)
                | inr e14 ↦ elim (cases_Bool (number == 15)) [
                  | inl e ↦ subst (λ (m : ℕ). length (nfs_result.spell (ended_as m s)) ≤ 24) (sym (eqb-true number 15 e)) (little_15 s)
                  | inr e15 ↦ elim (cases_Bool (number == 18)) [
                    | inl e ↦ subst (λ (m : ℕ). length (nfs_result.spell (ended_as m s)) ≤ 24) (sym (eqb-true number 18 e)) (little_18 s)
                    | inr e18 ↦ elim (cases_Bool (number == 20)) [
                      | inl e ↦ subst (λ (m : ℕ). length (nfs_result.spell (ended_as m s)) ≤ 24) (sym (eqb-true number 20 e)) (little_20 s)
                      | inr e20 ↦ elim (cases_Bool (number == 21)) [
                        | inl e ↦ subst (λ (m : ℕ). length (nfs_result.spell (ended_as m s)) ≤ 24) (sym (eqb-true number 21 e)) (little_21 s)
                        | inr e21 ↦ elim (cases_Bool (number == 22)) [
                          | inl e ↦ subst (λ (m : ℕ). length (nfs_result.spell (ended_as m s)) ≤ 24) (sym (eqb-true number 22 e)) (little_22 s)
                          | inr e22 ↦ elim (cases_Bool (number == 24)) [
                            | inl e ↦ subst (λ (m : ℕ). length (nfs_result.spell (ended_as m s)) ≤ 24) (sym (eqb-true number 24 e)) (little_24 s)
                            | inr e24 ↦ elim (cases_Bool (number == 30)) [
                              | inl e ↦ subst (λ (m : ℕ). length (nfs_result.spell (ended_as m s)) ≤ 24) (sym (eqb-true number 30 e)) (little_30 s)
                              | inr e30 ↦ elim (cases_Bool (number == 35)) [
                                | inl e ↦ subst (λ (m : ℕ). length (nfs_result.spell (ended_as m s)) ≤ 24) (sym (eqb-true number 35 e)) (little_35 s)
                                | inr e35 ↦ elim (cases_Bool (number == 36)) [
                                  | inl e ↦ subst (λ (m : ℕ). length (nfs_result.spell (ended_as m s)) ≤ 24) (sym (eqb-true number 36 e)) (little_36 s)
                                  | inr e36 ↦ elim (cases_Bool (number == 39)) [
                                    | inl e ↦ subst (λ (m : ℕ). length (nfs_result.spell (ended_as m s)) ≤ 24) (sym (eqb-true number 39 e)) (little_39 s)
                                    | inr e39 ↦ subst (λ (r : ResultItem). length (nfs_result.spell r) ≤ 24) (sym (other_is number s e4 e8 e10 e12 e13 e14 e15 e18 e20 e21 e22 e24 e30 e35 e36 e39)) (other_little number (is_numbered number))
                                  ]
                                ]
                              ]
                            ]
                          ]
                        ]
                      ]
                    ]
                  ]
                ]
              ]
            ]
          ]
        ]
      ]
    ]

-- ---- what is given

pub handle_fits : (file : ℕ) → ResultFits (GetFhAnswer (Ok (handle file)))
unfolding nfs_result outcome status fh
handle_fits file = (omega arith, (tt, omega arith))

pub handle_little : (file : ℕ) → length (nfs_result.spell (GetFhAnswer (Ok (handle file)))) ≤ 24
unfolding nfs_result outcome status fh opaque fixed pad big_endian
handle_little file = omega arith

pub client_fits : (c : ClientConfirm) → c.clientid < 2 ^ 64 → length c.verifier ≡ 8 → ResultFits (SetClientIdAnswer (Ok c))
unfolding nfs_result outcome status client_confirm
client_fits c id verifier = (omega arith, (tt, (id, verifier)))

fixed_little : (v : List ℕ) → length v ≡ 8 → length (fixed v) ≤ 8
unfolding fixed pad
fixed_little v e = rw e (omega (arith, length-append v [], e))

eight_more : (number clientid : ℕ) (v : List ℕ) → length v ≡ 8 → length (unsigned number ++ (unsigned 0 ++ (hyper clientid ++ fixed v))) ≤ 24
unfolding big_endian
eight_more number clientid v e = omega (arith, fixed_little v e)

pub client_little : (c : ClientConfirm) → length c.verifier ≡ 8 → length (nfs_result.spell (SetClientIdAnswer (Ok c))) ≤ 24
unfolding nfs_result outcome status status_number client_confirm
client_little c e = eight_more 35 c.clientid c.verifier e

-- ---- stateids that are given

fixed_12 : (v : List ℕ) → length v ≡ 12 → length (fixed v) ≤ 12
unfolding fixed pad
fixed_12 v e = rw e (omega (arith, length-append v [], e))

stateid_little : (s : Stateid) → length s.other ≡ 12 → length (stateid.spell s) ≤ 16
unfolding stateid big_endian
stateid_little s e = omega (arith, fixed_12 s.other e)

-- what is told of a delegation has a spelling
abbrev pub DelegationFits : Option (Stateid × Bool) → Type 0
DelegationFits given = IfSome given (λ d. (d.0.seqid < 2 ^ 32) × (length d.0.other ≡ 12))

delegation_fits : (given : Option (Stateid × Bool)) → DelegationFits given → delegation.Fit (delegation_item given)
unfolding delegation read_delegation write_delegation stateid limit ace nothing name
delegation_fits None fit = (omega arith, tt)
delegation_fits (Some (s, true)) fit = (omega arith, (fit, (tt, (omega arith, (omega arith, (omega arith, (omega arith, omega arith)))))))
delegation_fits (Some (s, false)) fit = (omega arith, (fit, (tt, (omega arith, (omega arith, (omega arith, omega arith))))))

pub open_fits : (s : Stateid) (flags : ℕ) (given : Option (Stateid × Bool)) → s.seqid < 2 ^ 32 → length s.other ≡ 12 → flags < 2 ^ 32 → DelegationFits given → ResultFits (OpenAnswer (Ok (open_result_of s flags given)))
unfolding nfs_result outcome status open_result stateid change_info
open_fits s flags given seqid other le fit = (omega arith, (tt, ((seqid, other), ((tt, (omega arith, omega arith)), (le, ((omega arith, refl), delegation_fits given fit))))))

permissions_little : length (ace.spell no_permissions) ≤ 16
unfolding ace name big_endian opaque fixed pad
permissions_little = omega arith

delegation_little : (given : Option (Stateid × Bool)) → DelegationFits given → length (delegation.spell (delegation_item given)) ≤ 52
unfolding delegation read_delegation write_delegation limit big_endian nothing void
delegation_little None fit = omega arith
delegation_little (Some (s, true)) fit =
    omega (arith, stateid_little s fit.1, permissions_little, length-append (stateid.spell s) (0 ∷ 0 ∷ 0 ∷ 0 ∷ (limit.spell (2 ^ 64 - 1) ++ ace.spell no_permissions)))
delegation_little (Some (s, false)) fit = omega (arith, stateid_little s fit.1, permissions_little, length-append (stateid.spell s) (0 ∷ 0 ∷ 0 ∷ 0 ∷ ace.spell no_permissions))

change_little : (flags : ℕ) (given : Option (Stateid × Bool)) → DelegationFits given → length (change_info.spell (record { atomic = true; before = 0; after = 0 }) ++ (unsigned flags ++ (array.spell [] ++ delegation.spell (delegation_item given)))) ≤ 80
unfolding change_info big_endian words
change_little flags given fit = omega (arith, delegation_little given fit)

eight_open : (number : ℕ) (more : List ℕ) → length more ≤ 96 → length (unsigned number ++ (unsigned 0 ++ more)) ≤ 104
unfolding big_endian
eight_open number more le = omega (arith, le)

pub open_little : (s : Stateid) (flags : ℕ) (given : Option (Stateid × Bool)) → length s.other ≡ 12 → DelegationFits given → length (nfs_result.spell (OpenAnswer (Ok (open_result_of s flags given)))) ≤ 104
unfolding nfs_result outcome status status_number open_result
open_little s flags given e fit =
    let rest = change_info.spell (record { atomic = true; before = 0; after = 0 }) ++ (unsigned flags ++ (array.spell [] ++ delegation.spell (delegation_item given))) in
    eight_open 18 (stateid.spell s ++ rest) (omega (arith, length-append (stateid.spell s) rest, stateid_little s e, change_little flags given fit))

stateid_fits : (s : Stateid) → s.seqid < 2 ^ 32 → length s.other ≡ 12 → stateid.Fit s
unfolding stateid
stateid_fits s seqid other = (seqid, other)

state_fits_4 : (s : Stateid) → stateid.Fit s → ResultFits (CloseAnswer (Ok s))
unfolding nfs_result outcome status
state_fits_4 s fit = (omega arith, (tt, fit))

state_fits_12 : (s : Stateid) → stateid.Fit s → ResultFits (LockAnswer (Ok s))
unfolding nfs_result lock_outcome status
state_fits_12 s fit = (omega arith, (tt, fit))

state_fits_14 : (s : Stateid) → stateid.Fit s → ResultFits (LockUAnswer (Ok s))
unfolding nfs_result outcome status
state_fits_14 s fit = (omega arith, (tt, fit))

state_fits_20 : (s : Stateid) → stateid.Fit s → ResultFits (OpenConfirmAnswer (Ok s))
unfolding nfs_result outcome status
state_fits_20 s fit = (omega arith, (tt, fit))

state_fits_21 : (s : Stateid) → stateid.Fit s → ResultFits (OpenDowngradeAnswer (Ok s))
unfolding nfs_result outcome status
state_fits_21 s fit = (omega arith, (tt, fit))

pub state_fits : (number : ℕ) (s : Stateid) → s.seqid < 2 ^ 32 → length s.other ≡ 12 → ResultFits (state_as number s)
state_fits number s seqid other =
    let fit = stateid_fits s seqid other in
    elim (cases_Bool (number == 4)) [
      | inl e ↦ rw e (state_fits_4 s fit)
      | inr e ↦ rw e (elim (cases_Bool (number == 12)) [
        | inl f ↦ rw f (state_fits_12 s fit)
        | inr f ↦ rw f (elim (cases_Bool (number == 14)) [
          | inl g ↦ rw g (state_fits_14 s fit)
          | inr g ↦ rw g (elim (cases_Bool (number == 20)) [
            | inl d ↦ rw d (state_fits_20 s fit)
            | inr d ↦ rw d (state_fits_21 s fit)
          ])
        ])
      ])
    ]

eight_state : (number : ℕ) (more : List ℕ) → length more ≤ 16 → length (unsigned number ++ (unsigned 0 ++ more)) ≤ 24
unfolding big_endian
eight_state number more le = omega (arith, le)

state_little_4 : (s : Stateid) → length (stateid.spell s) ≤ 16 → length (nfs_result.spell (CloseAnswer (Ok s))) ≤ 24
unfolding nfs_result outcome status status_number
state_little_4 s le = eight_state 4 (stateid.spell s) le

state_little_12 : (s : Stateid) → length (stateid.spell s) ≤ 16 → length (nfs_result.spell (LockAnswer (Ok s))) ≤ 24
unfolding nfs_result lock_outcome status status_number
state_little_12 s le = eight_state 12 (stateid.spell s) le

state_little_14 : (s : Stateid) → length (stateid.spell s) ≤ 16 → length (nfs_result.spell (LockUAnswer (Ok s))) ≤ 24
unfolding nfs_result outcome status status_number
state_little_14 s le = eight_state 14 (stateid.spell s) le

state_little_20 : (s : Stateid) → length (stateid.spell s) ≤ 16 → length (nfs_result.spell (OpenConfirmAnswer (Ok s))) ≤ 24
unfolding nfs_result outcome status status_number
state_little_20 s le = eight_state 20 (stateid.spell s) le

state_little_21 : (s : Stateid) → length (stateid.spell s) ≤ 16 → length (nfs_result.spell (OpenDowngradeAnswer (Ok s))) ≤ 24
unfolding nfs_result outcome status status_number
state_little_21 s le = eight_state 21 (stateid.spell s) le

pub state_little : (number : ℕ) (s : Stateid) → length s.other ≡ 12 → length (nfs_result.spell (state_as number s)) ≤ 24
state_little number s other =
    let le = stateid_little s other in
    elim (cases_Bool (number == 4)) [
      | inl e ↦ rw e (state_little_4 s le)
      | inr e ↦ rw e (elim (cases_Bool (number == 12)) [
        | inl f ↦ rw f (state_little_12 s le)
        | inr f ↦ rw f (elim (cases_Bool (number == 14)) [
          | inl g ↦ rw g (state_little_14 s le)
          | inr g ↦ rw g (elim (cases_Bool (number == 20)) [
            | inl d ↦ rw d (state_little_20 s le)
            | inr d ↦ rw d (state_little_21 s le)
          ])
        ])
      ])
    ]

-- ---- what is written

grown : (old new : List ℕ) (r s : ResultItem) → r ≡ s → new ≡ old ++ nfs_result.spell r → length (nfs_result.spell s) ≤ 104 → length new ≤ length old + 104
grown old new r s same is le =
    subst (λ (x : List ℕ). length x ≤ length old + 104) (sym (is ∙ ap (λ (x : ResultItem). old ++ nfs_result.spell x) same)) (omega (arith, length-append old (nfs_result.spell s), le))

pub ended_grown : (old new : List ℕ) (r : ResultItem) (number : ℕ) (s : NfsStatus) → r ≡ ended_as number s → new ≡ old ++ nfs_result.spell r → length new ≤ length old + 104
ended_grown old new r number s same is = grown old new r (ended_as number s) same is (omega (arith, ended_little number s))

pub handle_grown : (old new fh : List ℕ) (file : ℕ) → fh ≡ handle file → new ≡ old ++ nfs_result.spell (GetFhAnswer (Ok fh)) → length new ≤ length old + 104
handle_grown old new fh file same is = grown old new (GetFhAnswer (Ok fh)) (GetFhAnswer (Ok (handle file))) (ap (λ (x : List ℕ). GetFhAnswer (Ok x)) same) is (omega (arith, handle_little file))

pub client_grown : (old new : List ℕ) (c : ClientConfirm) → length c.verifier ≡ 8 → new ≡ old ++ nfs_result.spell (SetClientIdAnswer (Ok c)) → length new ≤ length old + 104
client_grown old new c e is = grown old new (SetClientIdAnswer (Ok c)) (SetClientIdAnswer (Ok c)) refl is (omega (arith, client_little c e))

pub open_grown : (old new : List ℕ) (r : ResultItem) (s : Stateid) (flags : ℕ) (given : Option (Stateid × Bool)) → length s.other ≡ 12 → DelegationFits given → r ≡ OpenAnswer (Ok (open_result_of s flags given)) → new ≡ old ++ nfs_result.spell r → length new ≤ length old + 104
open_grown old new r s flags given e fit same is = grown old new r (OpenAnswer (Ok (open_result_of s flags given))) same is (open_little s flags given e fit)

pub state_grown : (old new : List ℕ) (r : ResultItem) (number : ℕ) (s : Stateid) → length s.other ≡ 12 → r ≡ state_as number s → new ≡ old ++ nfs_result.spell r → length new ≤ length old + 104
state_grown old new r number s e same is = grown old new r (state_as number s) same is (omega (arith, state_little number s e))

-- what stands behind bytes is cut off
front_of : (xs ys : List ℕ) → take (length xs) (xs ++ ys) ≡ xs
front_of [] ys = refl
front_of (x ∷ xs) ys = ap (λ (zs : List ℕ). x ∷ zs) (front_of xs ys)

pub unpadded : (bytes : List ℕ) → take (length bytes) (fixed bytes) ≡ bytes
unfolding fixed
unpadded bytes = front_of bytes _

-- ---- a failure

pub fits_4 : (s : NfsStatus) → is_ok s ≡ false → ResultFits (ended_as 4 s)
unfolding nfs_result ended_as status outcome
fits_4 s ok = (omega arith, (tt, ok))

pub fits_14 : (s : NfsStatus) → is_ok s ≡ false → ResultFits (ended_as 14 s)
unfolding nfs_result ended_as status outcome
fits_14 s ok = (omega arith, (tt, ok))

pub fits_18 : (s : NfsStatus) → is_ok s ≡ false → ResultFits (ended_as 18 s)
unfolding nfs_result ended_as status outcome
fits_18 s ok = (omega arith, (tt, ok))

pub fits_20 : (s : NfsStatus) → is_ok s ≡ false → ResultFits (ended_as 20 s)
unfolding nfs_result ended_as status outcome
fits_20 s ok = (omega arith, (tt, ok))

pub fits_21 : (s : NfsStatus) → is_ok s ≡ false → ResultFits (ended_as 21 s)
unfolding nfs_result ended_as status outcome
fits_21 s ok = (omega arith, (tt, ok))
