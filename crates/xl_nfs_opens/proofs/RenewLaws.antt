-- Whose lease is renewed, as the code does it.
use Rattle.std.proofs.Common.{◌≡◌, ℕ, true, List, [], ◌∷◌, Option, Some, sym, ap, ◌∙◌}
use Rattle.std.specs.List.{find}
use Rattle.xl_nfs_state.specs.State.{NfsLists, is_client}
use Rattle.xl_nfs_state.specs.declared.client.ClientRow.{ClientRow}
use Rattle.xl_core.specs.Deeds.{Renews, all_done, all_told_of}
use Rattle.xl_core.specs.State.{CoreState}
use Rattle.xl_nfs_opens.specs.Renewing.{renewals_by, renewals}

-- the lease of a client that is found is renewed
pub renewals_done : (n : ℕ) (s new : CoreState) (l : NfsLists) (number : ℕ) (row : ClientRow) (id : List ℕ) → Some row ≡ find (is_client number true) l.clients → id ≡ row.id → all_done n s (Renews id ∷ []) ≡ new → all_done n s (renewals l (Some number)) ≡ new
renewals_done n s new l number row id found same done = ap (λ (o : Option ClientRow). all_done n s (renewals_by o)) (sym found) ∙ ap (λ (i : List ℕ). all_done n s (Renews i ∷ [])) (sym same) ∙ done

pub renewals_told : (n : ℕ) (s : CoreState) (l : NfsLists) (number : ℕ) (row : ClientRow) (id : List ℕ) → Some row ≡ find (is_client number true) l.clients → id ≡ row.id → all_told_of n s (Renews id ∷ []) ≡ [] → all_told_of n s (renewals l (Some number)) ≡ []
renewals_told n s l number row id found same told = ap (λ (o : Option ClientRow). all_told_of n s (renewals_by o)) (sym found) ∙ ap (λ (i : List ℕ). all_told_of n s (Renews i ∷ [])) (sym same) ∙ told
