-- The results of operations (RFC 7531).
use Rattle.std.specs.Prelude.{◌≡◌, ℕ, ◌==◌, Bool, true, false, List, Result}
use Rattle.std.proofs.Common.{refl, sym, subst, ap, ◌∙◌}
use Rattle.std.proofs.lemmas.Bool.{eqb-true}
use Rattle.xl_base.specs.Formats.{Format, Cases, others, case, cases_at, Chosen, chosen, spelled, is_listed, IsMade}
use Rattle.xl_base.proofs.FormatLaws.{read_unlisted}
use Rattle.xl_rpc.specs.declared.fault.RpcBad.{RpcBad}
use Rattle.xl_rpc.specs.declared.fault.RpcBad.TheVariants as bad
use Rattle.xl_format.specs.Formats.{u32, marked, nothing, nothing_fits, giving, never, standing_by, tagged}
use Rattle.xl_nfs.specs.Basics.{handle, stateid}
use Rattle.xl_nfs.specs.declared.basics.Stateid.{Stateid}
use Rattle.xl_nfs.specs.Opened.{OpenResultItem, shown_open_result, open_result}
use Rattle.xl_nfs.specs.declared.clients.ClientConfirm.{ClientConfirm}
use Rattle.xl_nfs.specs.Clients.{client_confirm}
use Rattle.xl_nfs.specs.declared.status.NfsStatus.{NfsStatus}
use Rattle.xl_nfs.specs.declared.status.NfsStatus.TheVariants as statuses
use Rattle.xl_nfs.specs.Statuses.{status_number, status_made, status}
use Rattle.xl_nfs.specs.Ops.{is_numbered}
use Rattle.xl_nfs.specs.Outcomes.{shown_outcome, outcome_status, outcome, LockFaultItem, shown_lock_outcome, lock_outcome_status, lock_outcome}
use Rattle.xl_nfs.specs.declared.result.NfsResult.{NfsResult}
use Rattle.xl_nfs.specs.declared.result.NfsResult.TheVariants as result_wire

-- nfs_resop4
pub data ResultItem : Type 0 where
  CloseAnswer : Result Stateid NfsStatus → ResultItem
  DelegReturnAnswer : NfsStatus → ResultItem
  GetFhAnswer : Result (List ℕ) NfsStatus → ResultItem
  LockAnswer : Result Stateid LockFaultItem → ResultItem
  LockTAnswer : Result (Unit {0}) LockFaultItem → ResultItem
  LockUAnswer : Result Stateid NfsStatus → ResultItem
  LookupAnswer : NfsStatus → ResultItem
  OpenAnswer : Result OpenResultItem NfsStatus → ResultItem
  OpenConfirmAnswer : Result Stateid NfsStatus → ResultItem
  OpenDowngradeAnswer : Result Stateid NfsStatus → ResultItem
  PutFhAnswer : NfsStatus → ResultItem
  PutRootFhAnswer : NfsStatus → ResultItem
  RenewAnswer : NfsStatus → ResultItem
  SetClientIdAnswer : Result ClientConfirm NfsStatus → ResultItem
  SetClientIdConfirmAnswer : NfsStatus → ResultItem
  ReleaseLockOwnerAnswer : NfsStatus → ResultItem
  NotSupportedAnswer : ℕ → ResultItem
  IllegalAnswer : ResultItem

abbrev pub shown_result : NfsResult → ResultItem
shown_result (result_wire.Close x) = CloseAnswer (shown_outcome (λ x. x) x)
shown_result (result_wire.DelegReturn x) = DelegReturnAnswer x
shown_result (result_wire.GetFh x) = GetFhAnswer (shown_outcome (λ x. x.now) x)
shown_result (result_wire.Lock x) = LockAnswer (shown_lock_outcome x)
shown_result (result_wire.LockT x) = LockTAnswer (shown_lock_outcome x)
shown_result (result_wire.LockU x) = LockUAnswer (shown_outcome (λ x. x) x)
shown_result (result_wire.Lookup x) = LookupAnswer x
shown_result (result_wire.Open x) = OpenAnswer (shown_outcome shown_open_result x)
shown_result (result_wire.OpenConfirm x) = OpenConfirmAnswer (shown_outcome (λ x. x) x)
shown_result (result_wire.OpenDowngrade x) = OpenDowngradeAnswer (shown_outcome (λ x. x) x)
shown_result (result_wire.PutFh x) = PutFhAnswer x
shown_result (result_wire.PutRootFh x) = PutRootFhAnswer x
shown_result (result_wire.Renew x) = RenewAnswer x
shown_result (result_wire.SetClientId x) = SetClientIdAnswer (shown_outcome (λ x. x) x)
shown_result (result_wire.SetClientIdConfirm x) = SetClientIdConfirmAnswer x
shown_result (result_wire.ReleaseLockOwner x) = ReleaseLockOwnerAnswer x
shown_result (result_wire.NotSupported n) = NotSupportedAnswer n
shown_result result_wire.Illegal = IllegalAnswer

abbrev pub result_status : ResultItem → NfsStatus
result_status (CloseAnswer x) = outcome_status x
result_status (DelegReturnAnswer x) = x
result_status (GetFhAnswer x) = outcome_status x
result_status (LockAnswer x) = lock_outcome_status x
result_status (LockTAnswer x) = lock_outcome_status x
result_status (LockUAnswer x) = outcome_status x
result_status (LookupAnswer x) = x
result_status (OpenAnswer x) = outcome_status x
result_status (OpenConfirmAnswer x) = outcome_status x
result_status (OpenDowngradeAnswer x) = outcome_status x
result_status (PutFhAnswer x) = x
result_status (PutRootFhAnswer x) = x
result_status (RenewAnswer x) = x
result_status (SetClientIdAnswer x) = outcome_status x
result_status (SetClientIdConfirmAnswer x) = x
result_status (ReleaseLockOwnerAnswer x) = x
result_status (NotSupportedAnswer n) = statuses.NotSupp
result_status IllegalAnswer = statuses.OpIllegal

-- a status that has to be this one
unfoldable pub told : NfsStatus → Format (Unit {0}) RpcBad
told s = marked (status_number s) bad.Value (status_made s).1 nothing

pub told_fits : (s : NfsStatus) → (told s).Fit tt
unfolding told
told_fits s = nothing_fits

-- what stands behind the number of an operation whose arguments are not read, and behind 10,044 (NFS-4)
abbrev pub other_result : Bool → Bool → ℕ → Format ResultItem RpcBad
other_result true illegal n = giving (NotSupportedAnswer n) (told statuses.NotSupp) (told_fits statuses.NotSupp)
other_result false true n = giving IllegalAnswer (told statuses.OpIllegal) (told_fits statuses.OpIllegal)
other_result false false n = never bad.Value

abbrev pub results : Cases ℕ ResultItem RpcBad
results =
    case 4 CloseAnswer (outcome stateid) (case 8 DelegReturnAnswer status (case 10 GetFhAnswer (outcome handle) (case 12 LockAnswer (lock_outcome stateid) (
    case 13 LockTAnswer (lock_outcome nothing) (case 14 LockUAnswer (outcome stateid) (case 15 LookupAnswer status (case 18 OpenAnswer (outcome open_result) (
    case 20 OpenConfirmAnswer (outcome stateid) (case 21 OpenDowngradeAnswer (outcome stateid) (case 22 PutFhAnswer status (case 24 PutRootFhAnswer status (
    case 30 RenewAnswer status (case 35 SetClientIdAnswer (outcome client_confirm) (case 36 SetClientIdConfirmAnswer status (case 39 ReleaseLockOwnerAnswer status (
    others (λ n. other_result (is_numbered n) (n == 10044) n)))))))))))))))))

-- an operation that is not served has none of these numbers
abbrev pub result_case : ResultItem → Chosen ℕ ResultItem RpcBad
result_case (CloseAnswer x) = chosen 4 CloseAnswer (outcome stateid) x
result_case (DelegReturnAnswer x) = chosen 8 DelegReturnAnswer status x
result_case (GetFhAnswer x) = chosen 10 GetFhAnswer (outcome handle) x
result_case (LockAnswer x) = chosen 12 LockAnswer (lock_outcome stateid) x
result_case (LockTAnswer x) = chosen 13 LockTAnswer (lock_outcome nothing) x
result_case (LockUAnswer x) = chosen 14 LockUAnswer (outcome stateid) x
result_case (LookupAnswer x) = chosen 15 LookupAnswer status x
result_case (OpenAnswer x) = chosen 18 OpenAnswer (outcome open_result) x
result_case (OpenConfirmAnswer x) = chosen 20 OpenConfirmAnswer (outcome stateid) x
result_case (OpenDowngradeAnswer x) = chosen 21 OpenDowngradeAnswer (outcome stateid) x
result_case (PutFhAnswer x) = chosen 22 PutFhAnswer status x
result_case (PutRootFhAnswer x) = chosen 24 PutRootFhAnswer status x
result_case (RenewAnswer x) = chosen 30 RenewAnswer status x
result_case (SetClientIdAnswer x) = chosen 35 SetClientIdAnswer (outcome client_confirm) x
result_case (SetClientIdConfirmAnswer x) = chosen 36 SetClientIdConfirmAnswer status x
result_case (ReleaseLockOwnerAnswer x) = chosen 39 ReleaseLockOwnerAnswer status x
result_case (NotSupportedAnswer n) = standing_by n (NotSupportedAnswer n) (told statuses.NotSupp) (told_fits statuses.NotSupp) ((is_listed results n ≡ false) × (is_numbered n ≡ true))
result_case IllegalAnswer = chosen 10044 (λ _. IllegalAnswer) (told statuses.OpIllegal) tt

pub result_made : (x : ResultItem) → IsMade results x (result_case x)
result_made (NotSupportedAnswer n) = (refl, λ fit bytes. read_unlisted results n fit.0 bytes ∙ ap (λ (b : Bool). (other_result b (n == 10044) n).at bytes) fit.1)
result_made (CloseAnswer x) = (refl, λ _ _. refl)
result_made _ = (refl, λ _ _. refl)

pub other_result_seen : (b c : Bool) (n : ℕ) → is_numbered n ≡ b → (n == 10044) ≡ c → is_listed results n ≡ false → (x : ResultItem) → (other_result b c n).Fit x
    → (spelled (result_case x) ≡ (other_result b c n).spell x) × (((result_case x).key ≡ n) × (result_case x).Fit)
other_result_seen true c n is e unlisted x same = subst (λ (y : ResultItem). (spelled (result_case y) ≡ (told statuses.NotSupp).spell tt) × (((result_case y).key ≡ n) × (result_case y).Fit)) same (refl, (refl, (unlisted, is)))
other_result_seen false true n is e unlisted x same = subst (λ (y : ResultItem). (spelled (result_case y) ≡ (told statuses.OpIllegal).spell tt) × (((result_case y).key ≡ n) × (result_case y).Fit)) same (refl, (sym (eqb-true n 10044 e), told_fits statuses.OpIllegal))
other_result_seen false false n is e unlisted x none = absurd none

-- nfs_resop4
unfoldable pub nfs_result : Format ResultItem RpcBad
nfs_result = tagged u32 results result_case
    (λ _. refl, (λ _. refl, (λ _. refl, (λ _. refl, (λ _. refl, (λ _. refl, (λ _. refl, (λ _. refl, (λ _. refl, (λ _. refl, (λ _. refl, (λ _. refl, (λ _. refl, (λ _. refl, (λ _. refl, (λ _. refl, (λ n unlisted x fit. other_result_seen (is_numbered n) (n == 10044) n refl refl unlisted x fit, tt)))))))))))))))))
    result_made

-- its number, and what stands behind a number
abbrev pub result_number : ResultItem → ℕ
result_number x = (result_case x).key

unfoldable pub result_part_at : ℕ → List ℕ → Result (ResultItem × List ℕ) RpcBad
result_part_at n bytes = cases_at results n bytes

abbrev pub result_at : List ℕ → Result (ResultItem × List ℕ) RpcBad
result_at bytes = nfs_result.at bytes

abbrev pub ResultFits : ResultItem → Type 0
ResultFits x = nfs_result.Fit x
