-- What an OPEN_DOWNGRADE leaves of its open and of its owner's share.
use Rattle.std.proofs.Common.{◌≡◌, ℕ, true, false, List, [], ◌∷◌, Option, Some, None, sym, ap, subst, ◌∙◌}
use Rattle.std.proofs.lemmas.Bool.{and_parts, eqb-true}
use Rattle.std.specs.List.{find}
use Rattle.std.specs.Prelude.{IfSome, ◌==◌}
use Rattle.xl_base.proofs.Searches.{find_in}
use Rattle.xl_base.specs.Lists.{IsIn}
use Rattle.xl_base.specs.declared.name.Owner.{Owner}
use Rattle.xl_base.specs.declared.name.Owner.TheVariants as owners
use Rattle.xl_base.specs.declared.name.Protocol.TheVariants.{Nfs}
use Rattle.xl_matrix.proofs.EqualLaws.{same_owners-true}
use Rattle.xl_matrix.specs.Blocks.{is_share}
use Rattle.xl_matrix.specs.Equal.{same_owners}
use Rattle.xl_matrix.specs.declared.claim.Claim.{Claim}
use Rattle.xl_matrix.specs.declared.claim.Rwd.{Rwd}
use Rattle.xl_names.specs.Names.{number_of}
use Rattle.xl_names.specs.declared.name.Name.TheVariants.{NfsShare}
use Rattle.xl_nfs.specs.declared.opens.OpenDowngradeArgs.{OpenDowngradeArgs}
use Rattle.xl_nfs_state.specs.Rows.{with_standing}
use Rattle.xl_nfs_state.specs.State.{NfsLists, is_stateid}
use Rattle.xl_nfs_state.specs.Verdict.{next_seqid}
use Rattle.xl_nfs_state.specs.declared.owner.SeqidState.{SeqidState}
use Rattle.xl_nfs_state.specs.declared.stateid.Holder.TheVariants as holders
use Rattle.xl_nfs_state.specs.declared.stateid.Standing.{Standing}
use Rattle.xl_nfs_state.specs.declared.stateid.StateidRow.{StateidRow}
use Rattle.xl_table.specs.Held.{is_of}
use Rattle.xl_table.specs.Relock.{is_share_of, shares_of}
use Rattle.xl_core.proofs.WeakenLaws.{weakened_share}
use Rattle.xl_core.specs.Deeds.{all_done}
use Rattle.xl_core.specs.Good.{IsGood}
use Rattle.xl_core.specs.Settle.{share_has}
use Rattle.xl_core.specs.State.{CoreState}
use Rattle.xl_nfs_opens.specs.Closing.{next_seqids, opener_by, share_by_opener, share_of_open, state_told}
use Rattle.xl_nfs_opens.specs.Downgrades.{downgrade_done, weakens}
use Rattle.xl_nfs_opens.specs.Opens.{rights_of, share_by, share_held, stood}
use Rattle.xl_nfs_opens.specs.Plans.{carried}
use Rattle.xl_nfs_opens.specs.Results.{spelled}
use Rattle.xl_nfs_opens.specs.Seqids.{closed_gone, counted, seqid_set}
use Rattle.xl_nfs_opens.specs.declared.opener.Opener.{Opener}
use Rattle.xl_nfs_laws.proofs.EnteredOpenLaws.{changed_found, kept_stateids, still_there}

pub downgrade_row : (n : ℕ) (s : CoreState) (l : NfsLists) (current : Option ℕ) (a : OpenDowngradeArgs) (r : StateidRow) (owner by : ℕ) (seqids : SeqidState) → find (is_stateid r.number) l.stateids ≡ Some r → r.holder ≡ holders.Open by → (seqids.closed ≡ Some r.number → ⊥) → find (is_stateid r.number) (carried n s l (downgrade_done s l current a r owner seqids None)).3.stateids ≡ Some (with_standing (record { seqid = next_seqid r.standing.seqid; access = a.access; deny = a.deny; closed = false }) r)
unfolding counted
downgrade_row n s l current a r owner by seqids found holds other =
    let to : Standing = record { seqid = next_seqid r.standing.seqid; access = a.access; deny = a.deny; closed = false } in
    let after : NfsLists = seqid_set owner (next_seqids 21 a.seqid seqids.confirmed None) (stood r.number r a.access a.deny false l) in
    ap (λ (ss : List StateidRow). find (is_stateid r.number) ss) (kept_stateids owner (spelled 21 (state_told s r)) (closed_gone seqids.closed after))
    ∙ still_there seqids.closed after (with_standing to r) by (changed_found r.number to l.stateids r found) holds other

-- where it has these rights it is left with just these
weakened_to : (n : ℕ) (s : CoreState) (claim : Claim) (access deny : Rwd) → IsGood s → IsIn claim s.claims → share_has claim.what access deny ≡ true → shares_of claim.file claim.owner (all_done n s (weakens (Some claim) access deny)).claims ≡ (access, deny) ∷ []
weakened_to n s claim access deny good here has = rw has (weakened_share s claim access deny good here has)

found_claim : (s : CoreState) (file : ℕ) (owner : Owner) (claim : Claim) → find (is_share_of file owner) s.claims ≡ Some claim → IsIn claim s.claims × (is_share_of file owner claim ≡ true)
found_claim s file owner claim found = subst (λ (o : Option Claim). IfSome o (λ y. IsIn y s.claims × (is_share_of file owner y ≡ true))) found (find_in (is_share_of file owner) s.claims)

pub downgrade_share : (n : ℕ) (s : CoreState) (l : NfsLists) (current : Option ℕ) (a : OpenDowngradeArgs) (r : StateidRow) (owner number : ℕ) (seqids : SeqidState) (o : Opener) (claim : Claim) → IsGood s → opener_by l r.client owner ≡ Some o → number_of (NfsShare o.id o.owner) s.names ≡ Some number → share_held s o r.file ≡ Some claim → share_has claim.what (rights_of a.access) (rights_of a.deny) ≡ true → shares_of r.file (owners.Name Nfs number) (carried n s l (downgrade_done s l current a r owner seqids None)).4.claims ≡ (rights_of a.access, rights_of a.deny) ∷ []
unfolding share_held
downgrade_share n s l current a r owner number seqids o claim good is named held has =
    let access : Rwd = rights_of a.access in
    let deny : Rwd = rights_of a.deny in
    let mine : Owner = owners.Name Nfs number in
    let of : share_of_open s l r owner ≡ Some claim = ap (share_by_opener s r.file) is ∙ held in
    let found : find (is_share_of r.file mine) s.claims ≡ Some claim = sym (ap (share_by s.claims r.file) named) ∙ held in
    let there = found_claim s r.file mine claim found in
    let own : is_of r.file mine claim ≡ true = (and_parts (is_of r.file mine claim) (is_share claim.what) there.1).0 in
    let parts = and_parts (claim.file == r.file) (same_owners claim.owner mine) own in
    let left : shares_of claim.file claim.owner (all_done n s (weakens (Some claim) access deny)).claims ≡ (access, deny) ∷ [] = weakened_to n s claim access deny good there.0 has in
    let moved : shares_of r.file mine (all_done n s (weakens (Some claim) access deny)).claims ≡ (access, deny) ∷ [] = (λ i. shares_of (sym (eqb-true claim.file r.file parts.0) i) (sym (same_owners-true claim.owner mine parts.1) i) (all_done n s (weakens (Some claim) access deny)).claims) ∙ left in
    ap (λ (x : Option Claim). shares_of r.file mine (all_done n s (weakens x access deny)).claims) of ∙ moved
