-- What a CLOSE leaves: no share of the owner on the file, and the open marked closed.
use Rattle.std.proofs.Common.{◌≡◌, ℕ, true, false, List, [], ◌∷◌, Option, Some, None, is_some, option_map, refl, sym, ap, subst, ◌∙◌, inl, inr, true≢false}
use Rattle.std.proofs.lemmas.Bool.{cases_Bool, eq-eqb}
use Rattle.std.specs.List.{find}
use Rattle.std.specs.Prelude.{IfSome}
use Rattle.xl_base.proofs.Members.{all_in}
use Rattle.xl_base.proofs.Searches.{find_in}
use Rattle.xl_base.specs.Lists.{IsIn}
use Rattle.xl_base.specs.declared.name.Owner.{Owner}
use Rattle.xl_base.specs.declared.name.Owner.TheVariants as owners
use Rattle.xl_base.specs.declared.name.Protocol.TheVariants.{Nfs}
use Rattle.xl_matrix.specs.Blocks.{is_share}
use Rattle.xl_matrix.specs.declared.claim.Claim.{Claim}
use Rattle.xl_matrix.specs.declared.claim.Rwd.{Rwd}
use Rattle.xl_matrix.specs.declared.claim.What.{What}
use Rattle.xl_matrix.specs.declared.claim.What.TheVariants as whats
use Rattle.xl_names.specs.Names.{number_of}
use Rattle.xl_names.specs.declared.name.Name.TheVariants.{NfsShare}
use Rattle.xl_nfs.specs.declared.opens.CloseArgs.{CloseArgs}
use Rattle.xl_nfs_state.specs.State.{NfsLists, is_stateid}
use Rattle.xl_nfs_state.specs.declared.owner.SeqidState.{SeqidState}
use Rattle.xl_nfs_state.specs.declared.stateid.Holder.TheVariants as holders
use Rattle.xl_nfs_state.specs.declared.owner.OwnerKind.TheVariants as kinds
use Rattle.xl_nfs_state.specs.declared.stateid.StateidRow.{StateidRow}
use Rattle.xl_table.specs.Held.{is_of}
use Rattle.xl_table.specs.Relock.{is_share_of, shares_of, with_share}
use Rattle.xl_core.proofs.DeedLeaves.{shares_of-given}
use Rattle.xl_core.proofs.DeedLists.{deeds_good}
use Rattle.xl_core.specs.Deeds.{all_done}
use Rattle.xl_core.specs.Good.{IsGood}
use Rattle.xl_core.specs.Settle.{give_back}
use Rattle.xl_core.specs.State.{CoreState}
use Rattle.xl_nfs_opens.specs.Closing.{checked, close_done, ends_locks, locks_under, opener_by, share_by_opener, share_of_open}
use Rattle.xl_nfs_opens.specs.Opens.{gives, share_by, share_held}
use Rattle.xl_nfs_laws.specs.Orderly.{closes, IsHeldBy, IsOrderly}
use Rattle.xl_nfs_opens.specs.Plans.{carried}
use Rattle.xl_nfs_opens.specs.declared.opener.Checked.{Checked}
use Rattle.xl_nfs_opens.specs.declared.opener.Checked.TheVariants.{Passed}
use Rattle.xl_nfs_opens.specs.declared.opener.Opener.{Opener}
use Rattle.xl_nfs_laws.proofs.EnteredOpenLaws.{close_marks}
use Rattle.xl_nfs_laws.proofs.ListOrderLaws.{closed_by}
use Rattle.xl_nfs_laws.proofs.PassedCheckLaws.{IfPassed, IsPassed, checked_passed}
use Rattle.xl_nfs_opens.proofs.UnderLaws.{ends_own}

-- ---- the share

not_shared : (w : What) (rest : List (Rwd × Rwd)) → is_share w ≡ false → with_share w rest ≡ rest
not_shared (whats.Share access deny) rest other = absurd (true≢false other)
not_shared (whats.Range extent exclusive) rest other = refl
not_shared (whats.Cache kind running) rest other = refl

-- who is found to have none has none
none_shared : (file : ℕ) (owner : Owner) (cs : List Claim) → find (is_share_of file owner) cs ≡ None → shares_of file owner cs ≡ []
none_shared file owner [] none = refl
none_shared file owner (c ∷ cs) none =
    elim (cases_Bool (is_of file owner c)) [
      | inr apart ↦ rw apart (none_shared file owner cs (rw apart at none))
      | inl mine ↦ rw mine (elim (cases_Bool (is_share c.what)) [
        | inl share ↦ (let f : Some c ≡ None = rw share at (rw mine at none) in absurd (true≢false (ap is_some f)))
        | inr other ↦ not_shared c.what (shares_of file owner cs) other ∙ none_shared file owner cs (rw other at (rw mine at none))
      ])
    ]

-- once it is given back, where there is one, its owner has none
given_away : (n : ℕ) (s : CoreState) (file : ℕ) (owner : Owner) (x : Option Claim) → IsGood s → find (is_share_of file owner) s.claims ≡ x → shares_of file owner (all_done n s (gives x)).claims ≡ []
unfolding give_back
given_away n s file owner None good e = none_shared file owner s.claims e
given_away n s file owner (Some claim) good e =
    let there : IsIn claim s.claims × (is_share_of file owner claim ≡ true) = subst (λ (o : Option Claim). IfSome o (λ y. IsIn y s.claims × (is_share_of file owner y ≡ true))) e (find_in (is_share_of file owner) s.claims) in
    shares_of-given file owner claim s.claims good.single there.0 there.1

same_names : (n : ℕ) (s : CoreState) (x : Option Claim) → (all_done n s (gives x)).names ≡ s.names
unfolding give_back
same_names n s None = refl
same_names n s (Some claim) = refl

pub close_gives : (n : ℕ) (s : CoreState) (l : NfsLists) (current : Option ℕ) (a : CloseArgs) (r : StateidRow) (owner number : ℕ) (seqids : SeqidState) (o : Opener) → IsGood s → opener_by l r.client owner ≡ Some o → number_of (NfsShare o.id o.owner) (carried n s l (close_done s l current a r owner seqids None)).4.names ≡ Some number → shares_of r.file (owners.Name Nfs number) (carried n s l (close_done s l current a r owner seqids None)).4.claims ≡ []
unfolding share_held
close_gives n s l current a r owner number seqids o good is named =
    let ds = ends_locks l r (locks_under l r.number) in
    let t = all_done n s ds in
    let well : IsGood t = deeds_good n s ds good (ends_own n s l (λ _. Unit {0}) r (locks_under l r.number) (λ c e. tt)).0 in
    let known : number_of (NfsShare o.id o.owner) t.names ≡ Some number = ap (number_of (NfsShare o.id o.owner)) (sym (same_names n t (share_of_open t l r owner))) ∙ named in
    let held : share_of_open t l r owner ≡ find (is_share_of r.file (owners.Name Nfs number)) t.claims = ap (share_by_opener t r.file) is ∙ ap (share_by t.claims r.file) known in
    ap (λ (x : Option Claim). shares_of r.file (owners.Name Nfs number) (all_done n t (gives x)).claims) held
    ∙ given_away n t r.file (owners.Name Nfs number) (find (is_share_of r.file (owners.Name Nfs number)) t.claims) well refl

-- ---- the open

pub close_is_marked : (n : ℕ) (s : CoreState) (l : NfsLists) (current : Option ℕ) (a : CloseArgs) (r : StateidRow) (owner by : ℕ) (seqids : SeqidState) → IsOrderly l → checked s l current 4 a.seqid a.stateid ≡ Passed r owner seqids → r.holder ≡ holders.Open by → option_map (λ (x : StateidRow). x.standing.closed) (find (is_stateid r.number) (carried n s l (close_done s l current a r owner seqids None)).3.stateids) ≡ Some true
close_is_marked n s l current a r owner by seqids orderly e holds =
    let passed : IsPassed l r owner seqids = subst (λ (c : Checked). IfPassed l c) e (checked_passed kinds.Open s l current 4 a.seqid a.stateid) in
    let there : IsIn r l.stateids × (is_stateid r.number r ≡ true) = subst (λ (o : Option StateidRow). IfSome o (λ y. IsIn y l.stateids × (is_stateid r.number y ≡ true))) passed.found (find_in (is_stateid r.number) l.stateids) in
    let held : IsHeldBy l.owners r r.holder = all_in (λ z. IsHeldBy l.owners z z.holder) r l.stateids orderly.held there.0 in
    close_marks n s l current a r owner by seqids passed.found holds (λ d. true≢false (sym (closed_by l.owners r r.holder owner passed.row passed.holder passed.owned held ∙ ap (λ (c : Option ℕ). closes c r.number) (sym (ap (λ (t : SeqidState). t.closed) passed.seqids_is) ∙ d) ∙ eq-eqb r.number r.number refl) ∙ passed.live))
