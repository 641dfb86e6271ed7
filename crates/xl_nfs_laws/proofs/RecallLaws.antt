-- The call that recalls a delegation.
use Rattle.std.proofs.Common.{◌≡◌, ◌<◌, ℕ, true, List, [], ◌∷◌, Option, Some, None, refl, sym, ap, ◌∙◌, inl, inr, arith}
use Rattle.std.proofs.lemmas.Bool.{cases_Bool}
use Rattle.std.proofs.lemmas.Bool.Decides.{nat_tests}
use Rattle.std.specs.List.{find}
use Rattle.std.specs.Prelude.{◌↔◌, nat_lt}
use Rattle.xl_base.specs.Lists.{IsIn}
use Rattle.xl_base.specs.declared.event.Out.{Out}
use Rattle.xl_matrix.specs.declared.claim.CacheKind.{CacheKind}
use Rattle.xl_matrix.specs.declared.claim.Claim.{Claim}
use Rattle.xl_nfs_state.specs.State.{delegated_on, is_client_named}
use Rattle.xl_nfs_state.specs.declared.client.ClientRow.{ClientRow}
use Rattle.xl_nfs_state.specs.declared.stateid.StateidRow.{StateidRow}
use Rattle.xl_core.specs.BreakAnswers.{client_of}
use Rattle.xl_core.specs.State.{CoreState}
use Rattle.xl_core.specs.declared.ask.Effect.TheVariants.{Begun}
use Rattle.xl_front_nfs.specs.Recalls.{IsRecall, client_by, recall_out, recalled_as, recalled_from, recalls}
use Rattle.xl_front_nfs.specs.State.{FrontNfs}

is_below : (a b : ℕ) → nat_lt a b ≡ true → a < b
is_below a b e = grind (arith, nat_tests, e)

pub below_is : (a b : ℕ) → a < b → nat_lt a b ≡ true
below_is a b e = grind (arith, nat_tests, e)

one_in : (x y : Out) → IsIn x (y ∷ []) → x ≡ y
one_in x y h = elim h [ inl e ↦ sym e | inr none ↦ absurd none ]

row_forth : (f : FrontNfs) (s : CoreState) (cache : Claim) (number : ℕ) (out : Out) (id : List ℕ) (c : ClientRow) (o : Option StateidRow) → client_of s.names cache.party ≡ Some id → find (is_client_named id true) f.state.clients ≡ Some c → find (delegated_on c.number cache.file) f.state.stateids ≡ o → IsIn out (recalled_as s number cache.file c o) → IsRecall f s cache number out
row_forth f s cache number out id c None named confirmed found h = absurd h
row_forth f s cache number out id c (Some r) named confirmed found h =
    elim (cases_Bool (nat_lt r.number number)) [
      | inr e ↦ absurd (rw e at h)
      | inl e ↦
          let here : IsIn out (recall_out s number cache.file c r ∷ []) = rw e at h in
          record {
            id = id;
            client = c;
            row = r;
            named = named;
            confirmed = confirmed;
            delegated = found;
            before = is_below r.number number e;
            sent = one_in out (recall_out s number cache.file c r) here;
          }
    ]

client_forth : (f : FrontNfs) (s : CoreState) (cache : Claim) (number : ℕ) (out : Out) (id : List ℕ) (o : Option ClientRow) → client_of s.names cache.party ≡ Some id → find (is_client_named id true) f.state.clients ≡ o → IsIn out (recalled_from s f.state number cache.file o) → IsRecall f s cache number out
client_forth f s cache number out id None named confirmed h = absurd h
client_forth f s cache number out id (Some c) named confirmed h = row_forth f s cache number out id c (find (delegated_on c.number cache.file) f.state.stateids) named confirmed refl h

id_forth : (f : FrontNfs) (s : CoreState) (cache : Claim) (number : ℕ) (out : Out) (o : Option (List ℕ)) → client_of s.names cache.party ≡ o → IsIn out (recalled_from s f.state number cache.file (client_by f.state o)) → IsRecall f s cache number out
id_forth f s cache number out None named h = absurd h
id_forth f s cache number out (Some id) named h = client_forth f s cache number out id (find (is_client_named id true) f.state.clients) named refl h

recall_forth : (f : FrontNfs) (s : CoreState) (cache : Claim) (to : Option CacheKind) (number : ℕ) (out : Out) → IsIn out (recalls f s (Begun cache to (Some number))) → IsRecall f s cache number out
unfolding recalls
recall_forth f s cache to number out h = id_forth f s cache number out (client_of s.names cache.party) refl h

recall_is : (f : FrontNfs) (s : CoreState) (cache : Claim) (to : Option CacheKind) (number : ℕ) (out : Out) (is : IsRecall f s cache number out) → recalls f s (Begun cache to (Some number)) ≡ recall_out s number cache.file is.client is.row ∷ []
unfolding recalls
recall_is f s cache to number out is =
    ap (λ (o : Option (List ℕ)). recalled_from s f.state number cache.file (client_by f.state o)) is.named
    ∙ ap (λ (o : Option ClientRow). recalled_from s f.state number cache.file o) is.confirmed
    ∙ ap (λ (o : Option StateidRow). recalled_as s number cache.file is.client o) is.delegated
    ∙ rw (below_is is.row.number number is.before) refl

recall_back : (f : FrontNfs) (s : CoreState) (cache : Claim) (to : Option CacheKind) (number : ℕ) (out : Out) → IsRecall f s cache number out → recalls f s (Begun cache to (Some number)) ≡ out ∷ []
recall_back f s cache to number out is = recall_is f s cache to number out is ∙ ap (λ (x : Out). x ∷ []) (sym is.sent)

pub recall_exactly : (f : FrontNfs) (s : CoreState) (cache : Claim) (to : Option CacheKind) (number : ℕ) (out : Out) → IsIn out (recalls f s (Begun cache to (Some number))) ↔ IsRecall f s cache number out
recall_exactly f s cache to number out = (recall_forth f s cache to number out, λ is. rw (recall_back f s cache to number out is) (inl refl))

pub recall_alone : (f : FrontNfs) (s : CoreState) (cache : Claim) (to : Option CacheKind) (number : ℕ) (out : Out) → IsIn out (recalls f s (Begun cache to (Some number))) → recalls f s (Begun cache to (Some number)) ≡ out ∷ []
recall_alone f s cache to number out h = recall_back f s cache to number out (recall_forth f s cache to number out h)

pub uncalled_silent : (f : FrontNfs) (s : CoreState) (cache : Claim) (to : Option CacheKind) → recalls f s (Begun cache to None) ≡ []
unfolding recalls
uncalled_silent f s cache to = refl
