-- Whose the deeds of CLOSE are, and that the core takes them.
use Rattle.std.proofs.Common.{◌≡◌, ℕ, true, List, Option, Some, None}
use Rattle.std.specs.List.{find}
use Rattle.xl_nfs.specs.Ops.{Close}
use Rattle.xl_nfs.specs.declared.opens.CloseArgs.{CloseArgs}
use Rattle.xl_nfs.specs.declared.status.NfsStatus.{NfsStatus}
use Rattle.xl_nfs_state.specs.State.{NfsLists, is_client}
use Rattle.xl_nfs_state.specs.declared.client.ClientRow.{ClientRow}
use Rattle.xl_nfs_state.specs.declared.owner.SeqidState.{SeqidState}
use Rattle.xl_nfs_state.specs.declared.owner.OwnerKind.TheVariants as kinds
use Rattle.xl_nfs_state.specs.declared.stateid.StateidRow.{StateidRow}
use Rattle.xl_core.proofs.DeedLists.{deeds_good, fit_append}
use Rattle.xl_core.specs.Deeds.{all_done}
use Rattle.xl_core.specs.Good.{IsGood}
use Rattle.xl_core.specs.State.{CoreState}
use Rattle.xl_nfs_opens.specs.Closing.{standing_fault, share_of_open, locks_under, ends_locks, close_done, close}
use Rattle.xl_nfs_opens.specs.Opens.{gives}
use Rattle.xl_nfs_opens.specs.Owners.{is_holder, Names}
use Rattle.xl_nfs_opens.proofs.OpenOwn.{Owned, counts_own, by_append, gives_own, open_share}
use Rattle.xl_nfs_opens.proofs.UnderLaws.{ends_own}

close_done_own : (n : ℕ) (s : CoreState) (l : NfsLists) (current : Option ℕ) (a : CloseArgs) (r : StateidRow) (owner : ℕ) (seqids : SeqidState) (Client : List ℕ → Type 0) (o : Option NfsStatus) → IsGood s → ((c : ClientRow) → find (is_client r.client true) l.clients ≡ Some c → Client c.id) → Owned n s Client (close_done s l current a r owner seqids o)
close_done_own n s l current a r owner seqids Client None good each =
    let ds = ends_locks l r (locks_under l r.number) in
    let t = all_done n s ds in
    let first = ends_own n s l Client r (locks_under l r.number) each in
    let left = deeds_good n s ds good first.0 in
    let second = gives_own n t Client (share_of_open t l r owner) (λ claim e. open_share t l Client r owner claim left each e) in
    let es = gives (share_of_open t l r owner) in
    (fit_append n s ds es first.0 second.0, by_append n s Client ds es first.1 second.1)
close_done_own n s l current a r owner seqids Client (Some status) good each = (tt, tt)

pub close_own : (n : ℕ) (s : CoreState) (l : NfsLists) (current : Option ℕ) (a : CloseArgs) → IsGood s → Owned n s (Names s l (Close a)) (close s l current a)
unfolding close
close_own n s l current a good =
    counts_own n s l current kinds.Open 4 a.seqid a.stateid (λ t r w v. close_done t l current a r w v (standing_fault r v a.stateid.seqid true)) good
    (λ t r w v left each. close_done_own n t l current a r w v (λ id. is_holder s l a.stateid id) (standing_fault r v a.stateid.seqid true) left each)
