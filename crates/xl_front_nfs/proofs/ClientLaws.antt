-- What the operations of clients come to, as the code does them.
use Rattle.std.proofs.Common.{◌≡◌, ℕ, ◌+◌, ◌*◌, ◌^◌, true, false, List, [], ◌∷◌, ◌++◌, Option, Some, None, is_some, option_map, refl, sym, ap, ◌∙◌, inl, inr, true≢false, arith}
use Rattle.std.proofs.lemmas.Bool.{cases_Bool, eq-eqb}
use Rattle.std.proofs.lemmas.Option.{same_Some}
use Rattle.std.specs.Bool.{◌==◌}
use Rattle.std.specs.List.{find}
use Rattle.std.specs.Prelude.{IsSome, bytes_eq, if◌then◌else◌}
use Rattle.xl_nfs.specs.declared.status.NfsStatus.{NfsStatus}
use Rattle.xl_base.specs.Stable.{Stable}
use Rattle.xl_nfs.specs.Clients.{SetClientIdArgsItem}
use Rattle.xl_nfs.specs.declared.clients.ClientConfirm.{ClientConfirm}
use Rattle.xl_nfs.specs.declared.status.NfsStatus.TheVariants as statuses
use Rattle.xl_nfs_state.specs.State.{NfsLists, is_client, is_client_named, without_client}
use Rattle.xl_names.specs.declared.name.Name.TheVariants.{NfsParty}
use Rattle.xl_core.specs.Askers.{party_named}
use Rattle.xl_nfs_state.specs.declared.client.ClientRow.{ClientRow}
use Rattle.xl_core.specs.Deeds.{Deed, Renews, all_done, all_told_of}
use Rattle.xl_core.specs.State.{CoreState}
use Rattle.xl_core.specs.declared.ask.Effect.{Effect}
use Rattle.xl_front_nfs.specs.Clients.{renew_found, renew_number, renew, number_kept, numbers, draws, has_room, record_end, set_under, set_by, set_beside, confirm_of, ends, come, come_again, confirm_over, confirm_beside, confirm_held, confirmed_by, confirm_found, confirm_number, set_client_id_confirm}
use Rattle.xl_core.specs.Ids.{number_in}
use Rattle.xl_nfs_opens.specs.Plans.{Outcome, carried}
use Rattle.xl_nfs_opens.specs.declared.told.Told.TheVariants.{Ended, Client}

pub renew_done : (n : ℕ) (s new : CoreState) (l : NfsLists) (current : Option ℕ) (clientid number : ℕ) (row : ClientRow) (id : List ℕ) → Some number ≡ number_in s clientid → Some row ≡ find (is_client number true) l.clients
    → id ≡ row.id → all_done n s (Renews id ∷ []) ≡ new → all_told_of n s (Renews id ∷ []) ≡ []
    → carried n s l (renew s l current clientid) ≡ (Ended statuses.Ok, current, [], l, new)
unfolding renew
renew_done n s new l current clientid number row id named found same done told =
    ap (λ (o : Option ℕ). carried n s l (renew_number l current o)) (sym named)
    ∙ ap (λ (o : Option ClientRow). carried n s l (renew_found l current o)) (sym found)
    ∙ ap (λ (i : List ℕ). (Ended statuses.Ok, current, all_told_of n s (Renews i ∷ []), l, all_done n s (Renews i ∷ []))) (sym same)
    ∙ (λ i. (Ended statuses.Ok, current, told i, l, done i))

pub numbers_new : (counter first second : ℕ) → first ≡ counter + 1 → second ≡ first + 1 → (first, second) ≡ numbers counter None
numbers_new counter first second a b = λ i. (a i, (let e : second ≡ counter + 2 = omega (arith, a, b) in e i))

pub set_done : (n : ℕ) (s new : CoreState) (l : NfsLists) (current : Option ℕ) (a : SetClientIdArgsItem) (kept : Option ℕ) (number confirm : ℕ) (lists : NfsLists)
    → has_room l ≡ true → kept ≡ number_kept a.verifier (find (is_client_named a.id true) l.clients) → (number, confirm) ≡ numbers s.counter kept → all_done n s (draws kept) ≡ new → all_told_of n s (draws kept) ≡ [] → new.stable ≡ s.stable
    → lists ≡ set_under (record_end s) l a number confirm
    → carried n s l (set_beside s l current a) ≡ (Client (confirm_of new number confirm), current, [], lists, new)
set_done n s new l current a kept number confirm lists room is drawn done told stable set =
    ap (λ (o : Option ℕ). carried n s l (set_by s l current a o)) (sym is)
    ∙ rw room
    (ap (λ (p : ℕ × ℕ). (Client (confirm_of s p.0 p.1), current, all_told_of n s (draws kept), set_under (record_end s) l a p.0 p.1, all_done n s (draws kept))) (sym drawn)
    ∙ (λ i. (Client (confirm_of s number confirm), current, told i, sym set i, done i))
    ∙ ap (λ (x : Stable). (Client (record { clientid = x.epoch * 2 ^ 32 + number; verifier = (confirm_of s number confirm).verifier }), current, [], lists, new)) (sym stable))

-- it never fails, so it says what the lists become
pub set_apart : (n : ℕ) (s : CoreState) (l m : NfsLists) (current : Option ℕ) (a : SetClientIdArgsItem) → carried n s l (set_beside s m current a) ≡ carried n s m (set_beside s m current a)
set_apart n s l m current a =
    elim (cases_Bool (has_room m)) [
      | inl e ↦ rw e refl
      | inr e ↦ rw e refl
    ]

-- ---- SETCLIENTID_CONFIRM

pub confirm_first_done : (n : ℕ) (s new : CoreState) (l lists : NfsLists) (current : Option ℕ) (number : ℕ) (row : ClientRow) (id : List ℕ) → id ≡ row.id → find (is_client_named row.id true) l.clients ≡ None
    → all_done n s (Renews id ∷ []) ≡ new → all_told_of n s (Renews id ∷ []) ≡ [] → lists ≡ come l number row
    → carried n s l (confirm_beside s l current number row) ≡ (Ended statuses.Ok, current, [], lists, new)
confirm_first_done n s new l lists current number row id same free done told is =
    ap (λ (x : Option ClientRow). carried n s l (confirm_over s l current number row x)) free
    ∙ ap (λ (i : List ℕ). (Ended statuses.Ok, current, all_told_of n s (Renews i ∷ []), come l number row, all_done n s (Renews i ∷ []))) (sym same)
    ∙ (λ i. (Ended statuses.Ok, current, told i, sym is i, done i))

-- what a record that is found by its id string says
found_by : {A : Type 0} (o : Option ClientRow) (number : ℕ) → option_map (λ r. r.number) o ≡ Some number → ((r : ClientRow) → o ≡ Some r → r.number ≡ number → A) → A
found_by None number e next = absurd (true≢false (ap is_some (sym e)))
found_by (Some r) number e next = next r refl (same_Some r.number number e)

pub confirm_again_done : (n : ℕ) (s new : CoreState) (l lists : NfsLists) (current : Option ℕ) (number : ℕ) (row : ClientRow) (id : List ℕ) → id ≡ row.id
    → option_map (λ r. r.number) (find (is_client_named row.id true) l.clients) ≡ Some number
    → all_done n s (Renews id ∷ []) ≡ new → all_told_of n s (Renews id ∷ []) ≡ [] → lists ≡ come_again l number row
    → carried n s l (confirm_beside s l current number row) ≡ (Ended statuses.Ok, current, [], lists, new)
confirm_again_done n s new l lists current number row id same there done told is =
    found_by (find (is_client_named row.id true) l.clients) number there
    (λ o e k.
    ap (λ (x : Option ClientRow). carried n s l (confirm_over s l current number row x)) e
    ∙ rw (eq-eqb o.number number k)
    (ap (λ (i : List ℕ). (Ended statuses.Ok, current, all_told_of n s (Renews i ∷ []), come_again l number row, all_done n s (Renews i ∷ []))) (sym same)
    ∙ (λ i. (Ended statuses.Ok, current, told i, sym is i, done i))))

abbrev over_deeds : CoreState → List ℕ → List Deed
over_deeds s id = ends (party_named s.names (NfsParty id)) ++ Renews id ∷ []

pub confirm_anew_done : (n : ℕ) (s new : CoreState) (l mid lists : NfsLists) (current : Option ℕ) (number old : ℕ) (row : ClientRow) (id : List ℕ) (effects : List Effect) → id ≡ row.id
    → option_map (λ r. r.number) (find (is_client_named row.id true) l.clients) ≡ Some old → (old == number) ≡ false
    → all_done n s (over_deeds s id) ≡ new → all_told_of n s (over_deeds s id) ≡ effects → mid ≡ without_client old l → lists ≡ come mid number row
    → carried n s l (confirm_beside s l current number row) ≡ (Ended statuses.Ok, current, effects, lists, new)
confirm_anew_done n s new l mid lists current number old row id effects same there other done told gone is =
    found_by (find (is_client_named row.id true) l.clients) old there
    (λ o e k.
    ap (λ (x : Option ClientRow). carried n s l (confirm_over s l current number row x)) e
    ∙ rw (ap (λ (m : ℕ). m == number) k ∙ other)
    (ap (λ (i : List ℕ). (Ended statuses.Ok, current, all_told_of n s (over_deeds s i), come (without_client o.number l) number row, all_done n s (over_deeds s i))) (sym same)
    ∙ ap (λ (m : ℕ). (Ended statuses.Ok, current, all_told_of n s (over_deeds s id), come (without_client m l) number row, all_done n s (over_deeds s id))) k
    ∙ ap (λ (m : NfsLists). (Ended statuses.Ok, current, all_told_of n s (over_deeds s id), come m number row, all_done n s (over_deeds s id))) (sym gone)
    ∙ (λ i. (Ended statuses.Ok, current, told i, sym is i, done i))))

pub none_under : (o : Option ClientRow) → option_map (λ r. r.number) o ≡ None → o ≡ None
none_under None e = refl
none_under (Some r) e = absurd (true≢false (ap is_some e))

-- it never fails, so it says what the lists become
pub confirm_apart : (n : ℕ) (s : CoreState) (l m : NfsLists) (current : Option ℕ) (number : ℕ) (row : ClientRow) → carried n s l (confirm_beside s m current number row) ≡ carried n s m (confirm_beside s m current number row)
confirm_apart n s l m current number row = by (find (is_client_named row.id true) m.clients)
  where
    by : (o : Option ClientRow) → carried n s l (confirm_over s m current number row o) ≡ carried n s m (confirm_over s m current number row o)
    by None = refl
    by (Some o) =
        elim (cases_Bool (o.number == number)) [
          | inl e ↦ rw e refl
          | inr e ↦ rw e refl
        ]

pub held_done : (n : ℕ) (s new : CoreState) (l : NfsLists) (current : Option ℕ) (number : ℕ) (verifier : List ℕ) (row : ClientRow) (id : List ℕ) (status : NfsStatus) → Some row ≡ find (is_client number true) l.clients
    → status ≡ (if bytes_eq row.details.confirm verifier then statuses.Ok else statuses.StaleClientId)
    → id ≡ row.id → all_done n s (Renews id ∷ []) ≡ new → all_told_of n s (Renews id ∷ []) ≡ []
    → carried n s l (confirm_held l current verifier (find (is_client number true) l.clients)) ≡ (Ended status, current, [], l, new)
held_done n s new l current number verifier row id status found ends same done told =
    ap (λ (o : Option ClientRow). carried n s l (confirm_held l current verifier o)) (sym found)
    ∙ ap (λ (t : NfsStatus). (Ended t, current, all_told_of n s (Renews row.id ∷ []), l, all_done n s (Renews row.id ∷ []))) (sym ends)
    ∙ ap (λ (i : List ℕ). (Ended status, current, all_told_of n s (Renews i ∷ []), l, all_done n s (Renews i ∷ []))) (sym same)
    ∙ (λ i. (Ended status, current, told i, l, done i))

pub confirmed_there : (verifier : List ℕ) (o : Option ClientRow) (row : ClientRow) → Some row ≡ confirmed_by verifier o → IsSome o
confirmed_there verifier None row e = absurd (true≢false (ap is_some e))
confirmed_there verifier (Some r) row e = refl

-- a clientid of this start, by the record that the verifier confirms
pub confirm_done : (n : ℕ) (s : CoreState) (l : NfsLists) (current : Option ℕ) (a : ClientConfirm) (number : ℕ) (row : Option ClientRow) (r : Outcome) → Some number ≡ number_in s a.clientid → row ≡ confirmed_by a.verifier (find (is_client number false) l.clients)
    → carried n s l (confirm_found s l current number a.verifier row) ≡ r → carried n s l (set_client_id_confirm s l current a) ≡ r
unfolding set_client_id_confirm
confirm_done n s l current a number row r named is e =
    ap (λ (o : Option ℕ). carried n s l (confirm_number s l current a.verifier o)) (sym named)
    ∙ ap (λ (o : Option ClientRow). carried n s l (confirm_found s l current number a.verifier o)) (sym is) ∙ e
