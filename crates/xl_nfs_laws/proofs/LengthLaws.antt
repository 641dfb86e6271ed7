-- How long results are tells those of denied locks from the others, and what is read of a result that is kept.
use Rattle.std.proofs.Common.{◌≡◌, ℕ, ◌≤◌, ◌<◌, ◌^◌, Bool, true, false, Option, Some, None, List, [], ◌++◌, length, Ok, Err, refl, sym, ap, subst, ◌∙◌, inl, inr, arith, append-nil, eqb-true, true≢false}
use Rattle.std.proofs.lemmas.Bool.{cases_Bool, le-leb}
use Rattle.std.specs.Bool.{◌==◌}
use Rattle.std.specs.Prelude.{IfSome}
use Rattle.xl_base.specs.Handles.{handle}
use Rattle.xl_nfs.proofs.AgainLaws.{result_again}
use Rattle.xl_nfs.specs.Basics.{stateid}
use Rattle.xl_nfs.specs.Clients.{client_confirm}
use Rattle.xl_nfs.specs.Locks.{denied}
use Rattle.xl_nfs.specs.Outcomes.{is_denied, DeniedBy}
use Rattle.xl_nfs.specs.Results.{ResultItem, GetFhAnswer, LockAnswer, LockTAnswer, OpenAnswer, SetClientIdAnswer, nfs_result, result_status, ResultFits}
use Rattle.xl_nfs.specs.declared.basics.Stateid.{Stateid}
use Rattle.xl_nfs.specs.declared.clients.ClientConfirm.{ClientConfirm}
use Rattle.xl_nfs.specs.declared.status.NfsStatus.{NfsStatus}
use Rattle.xl_nfs.specs.declared.status.NfsStatus.TheVariants as statuses
use Rattle.xl_nfs_laws.specs.Lengths.{PartsFit, has_seqid}
use Rattle.xl_nfs_opens.specs.Plans.{status_of}
use Rattle.xl_nfs_opens.specs.Results.{denied_as, denied_item, ended_as, open_result_of, spelled, state_as}
use Rattle.xl_nfs_opens.specs.Seqids.{is_short, kept_status, read_status}
use Rattle.xl_nfs_opens.specs.declared.told.HeldLock.{HeldLock}
use Rattle.xl_nfs_opens.specs.declared.told.Told.{Told}
use Rattle.xl_nfs_opens.specs.declared.told.Told.TheVariants.{Ended, Handle, Client, Opened, State, Free, Denied, Kept}
use Rattle.xl_nfs_opens.proofs.HeldLaws.{free_fits, free_little, lock_fits, test_fits}
use Rattle.xl_nfs_opens.proofs.ResultLaws.{DelegationFits, client_fits, client_little, ended_little, handle_fits, handle_little, open_fits, open_little, state_fits, state_little}

-- ---- parts

stateid_parts : (s : Stateid) → stateid.Fit s → (s.seqid < 2 ^ 32) × (length s.other ≡ 12)
unfolding stateid
stateid_parts s fit = (fit.0, fit.1)

given_parts : (given : Option (Stateid × Bool)) → IfSome given (λ d. stateid.Fit d.0) → DelegationFits given
given_parts None fit = tt
given_parts (Some d) fit = stateid_parts d.0 fit

client_parts : (c : ClientConfirm) → client_confirm.Fit c → (c.clientid < 2 ^ 64) × (length c.verifier ≡ 8)
unfolding client_confirm
client_parts c fit = (fit.0, fit.1)

-- ---- short results

within : (bytes : List ℕ) → length bytes ≤ 104 → is_short bytes ≡ true
within bytes le = le-leb (length bytes) 104 le

kept_short : (bytes : List ℕ) → is_denied (kept_status bytes) ≡ false → is_short bytes ≡ true
unfolding kept_status
kept_short bytes other =
    elim (cases_Bool (is_short bytes)) [
      | inl e ↦ e
      | inr e ↦ (let f : true ≡ false = rw e at other in absurd (true≢false f))
    ]

pub told_short : (number : ℕ) (told : Told) → PartsFit number told → is_denied (status_of told) ≡ false → is_short (spelled number told) ≡ true
told_short number (Ended status) fit other = within (spelled number (Ended status)) (omega (arith, ended_little number status))
told_short number (Handle file) fit other = within (spelled number (Handle file)) (omega (arith, handle_little file))
told_short number (Client confirm) fit other = within (spelled number (Client confirm)) (omega (arith, client_little confirm (client_parts confirm fit).1))
told_short number (Opened opened flags given) fit other = within (spelled number (Opened opened flags given)) (open_little opened flags given (stateid_parts opened fit.0).1 (given_parts given fit.2))
told_short number (State given) fit other = within (spelled number (State given)) (omega (arith, state_little number given (stateid_parts given fit).1))
told_short number Free fit other = within (spelled number Free) (omega (arith, free_little))
told_short number (Denied held) fit other = absurd (true≢false other)
told_short number (Kept bytes) fit other = kept_short bytes other

-- ---- what is read of it

read_back : (x : ResultItem) → ResultFits x → read_status (nfs_result.at (nfs_result.spell x)) ≡ result_status x
read_back x fit =
    let whole : nfs_result.at (nfs_result.spell x ++ []) ≡ Ok (x, []) = result_again x [] (nfs_result.spell x) [] fit refl in
    ap (λ (bytes : List ℕ). read_status (nfs_result.at bytes)) (sym (append-nil (nfs_result.spell x))) ∙ ap read_status whole

by_length : (x : ResultItem) → ResultFits x → (is_short (nfs_result.spell x) ≡ false → result_status x ≡ statuses.Denied) → kept_status (nfs_result.spell x) ≡ result_status x
unfolding kept_status
by_length x fit long =
    elim (cases_Bool (is_short (nfs_result.spell x))) [
      | inl e ↦ rw e (read_back x fit)
      | inr e ↦ rw e (sym (long e))
    ]

when_short : (x : ResultItem) → ResultFits x → length (nfs_result.spell x) ≤ 104 → kept_status (nfs_result.spell x) ≡ result_status x
when_short x fit le = by_length x fit (λ long. absurd (true≢false (sym (within (nfs_result.spell x) le) ∙ long)))

ended_status : (number : ℕ) (s : NfsStatus) → has_seqid number ≡ true → result_status (ended_as number s) ≡ s
unfolding ended_as
ended_status number s has =
    elim (cases_Bool (number == 4)) [
      | inl e ↦ subst (λ (m : ℕ). result_status (ended_as m s) ≡ s) (sym (eqb-true number 4 e)) refl
      | inr e4 ↦ elim (cases_Bool (number == 12)) [
        | inl e ↦ subst (λ (m : ℕ). result_status (ended_as m s) ≡ s) (sym (eqb-true number 12 e)) refl
        | inr e12 ↦ elim (cases_Bool (number == 14)) [
          | inl e ↦ subst (λ (m : ℕ). result_status (ended_as m s) ≡ s) (sym (eqb-true number 14 e)) refl
          | inr e14 ↦ elim (cases_Bool (number == 18)) [
            | inl e ↦ subst (λ (m : ℕ). result_status (ended_as m s) ≡ s) (sym (eqb-true number 18 e)) refl
            | inr e18 ↦ elim (cases_Bool (number == 20)) [
              | inl e ↦ subst (λ (m : ℕ). result_status (ended_as m s) ≡ s) (sym (eqb-true number 20 e)) refl
              | inr e20 ↦ (
                  let last : (number == 21) ≡ true = rw e20 at (rw e18 at (rw e14 at (rw e12 at (rw e4 at has)))) in
                  subst (λ (m : ℕ). result_status (ended_as m s) ≡ s) (sym (eqb-true number 21 last)) refl)
            ]
          ]
        ]
      ]
    ]

state_status : (number : ℕ) (s : Stateid) → result_status (state_as number s) ≡ statuses.Ok
state_status number s =
    elim (cases_Bool (number == 4)) [
      | inl e ↦ rw e refl
      | inr e ↦ rw e (elim (cases_Bool (number == 12)) [
        | inl f ↦ rw f refl
        | inr f ↦ rw f (elim (cases_Bool (number == 14)) [
          | inl g ↦ rw g refl
          | inr g ↦ rw g (elim (cases_Bool (number == 20)) [
            | inl d ↦ rw d refl
            | inr d ↦ rw d refl
          ])
        ])
      ])
    ]

denied_again : (number : ℕ) (h : HeldLock) → denied.Fit (denied_item h) → kept_status (nfs_result.spell (denied_as number h)) ≡ statuses.Denied
denied_again number h fit =
    elim (cases_Bool (number == 13)) [
      | inl e ↦ rw e (by_length (LockTAnswer (Err (DeniedBy (denied_item h)))) (test_fits h fit) (λ long. refl))
      | inr e ↦ rw e (by_length (LockAnswer (Err (DeniedBy (denied_item h)))) (lock_fits h fit) (λ long. refl))
    ]

pub told_again : (number : ℕ) (told : Told) → PartsFit number told → has_seqid number ≡ true → kept_status (spelled number told) ≡ status_of told
told_again number (Ended status) fit has = when_short (ended_as number status) fit (omega (arith, ended_little number status)) ∙ ended_status number status has
told_again number (Handle file) fit has = when_short (GetFhAnswer (Ok (handle file))) (handle_fits file) (omega (arith, handle_little file))
told_again number (Client confirm) fit has = (let parts = client_parts confirm fit in when_short (SetClientIdAnswer (Ok confirm)) (client_fits confirm parts.0 parts.1) (omega (arith, client_little confirm parts.1)))
told_again number (Opened opened flags given) fit has =
    let parts = stateid_parts opened fit.0 in
    when_short (OpenAnswer (Ok (open_result_of opened flags given))) (open_fits opened flags given parts.0 parts.1 fit.1 (given_parts given fit.2)) (open_little opened flags given parts.1 (given_parts given fit.2))
told_again number (State given) fit has = (let parts = stateid_parts given fit in when_short (state_as number given) (state_fits number given parts.0 parts.1) (omega (arith, state_little number given parts.1)) ∙ state_status number given)
told_again number Free fit has = when_short (LockTAnswer (Ok tt)) free_fits (omega (arith, free_little))
told_again number (Denied held) fit has = denied_again number held fit
told_again number (Kept bytes) fit has = refl
