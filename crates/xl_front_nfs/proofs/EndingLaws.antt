-- A client that ends, deeds in a row, and operations one behind the other.
use Rattle.std.proofs.Common.{◌≡◌, ℕ, ◌+◌, ◌-◌, ◌*◌, ◌≤◌, List, [], ◌∷◌, ◌++◌, Some, ap, ◌∙◌, arith, append-nil}
use Rattle.xl_base.specs.declared.name.Party.{Party}
use Rattle.xl_core.specs.Deeds.{Deed, Renews, all_done, all_told_of}
use Rattle.xl_core.proofs.DeedLists.{done_append, told_append}
use Rattle.xl_core.specs.Settle.{end_party}
use Rattle.xl_core.specs.State.{CoreState}
use Rattle.xl_core.specs.declared.ask.Effect.{Effect}
use Rattle.xl_front_nfs.specs.Clients.{ends}
use Rattle.xl_plan.specs.Budgets.{IsReady}
use Rattle.xl_plan.proofs.BudgetLaws.{leaves_more, leaves_then}
use Rattle.xl_nfs_opens.specs.Short.{Leaves}
use Rattle.xl_nfs_opens.proofs.LeaveLaws.{renew_told}

pub end_told : (n : ℕ) (s new : CoreState) (party : Party) (effects : List Effect) → end_party s party ≡ (effects, new) → all_told_of n s (ends (Some party)) ≡ effects
end_told n s new party effects e = append-nil (end_party s party).0 ∙ ap (λ (r : List Effect × CoreState). r.0) e

pub end_done : (n : ℕ) (s new : CoreState) (party : Party) (effects : List Effect) → end_party s party ≡ (effects, new) → all_done n s (ends (Some party)) ≡ new
end_done n s new party effects e = ap (λ (r : List Effect × CoreState). r.1) e

-- ---- deeds in a row

pub over_done : (n : ℕ) (s t u : CoreState) (ds : List Deed) (id : List ℕ) → all_done n s ds ≡ t → all_done n t (Renews id ∷ []) ≡ u → all_done n s (ds ++ Renews id ∷ []) ≡ u
over_done n s t u ds id first second = done_append n s ds (Renews id ∷ []) ∙ ap (λ (x : CoreState). all_done n x (Renews id ∷ [])) first ∙ second

pub over_told : (n : ℕ) (s : CoreState) (ds : List Deed) (id : List ℕ) (effects : List Effect) → all_told_of n s ds ≡ effects → all_told_of n s (ds ++ Renews id ∷ []) ≡ effects
over_told n s ds id effects told = told_append n s ds (Renews id ∷ []) ∙ ap (λ (x : List Effect). all_told_of n s ds ++ x) (renew_told n (all_done n s ds) id) ∙ append-nil (all_told_of n s ds) ∙ told

-- one operation of so many is done
pub step_ready : (count : ℕ) (s t : CoreState) → 1 ≤ count → IsReady (4 * count) s → Leaves 4 s t → IsReady (4 * (count - 1)) t
step_ready count s t some ready leaves = record { good = leaves.good; numbers = omega (arith, some, ready.numbers, leaves.numbers) }

pub steps_leave : (count : ℕ) (s t u : CoreState) → 1 ≤ count → Leaves 4 s t → Leaves (4 * (count - 1)) t u → Leaves (4 * count) s u
steps_leave count s t u some first second = leaves_more s u (4 + 4 * (count - 1)) (4 * count) (omega (arith, some)) (leaves_then s t u 4 (4 * (count - 1)) first second)
