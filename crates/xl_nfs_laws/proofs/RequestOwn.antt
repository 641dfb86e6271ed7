-- Whose deeds they are, and that the core takes them.
use Rattle.std.proofs.Common.{◌≡◌, ℕ, Bool, true, false, List, [], ◌∷◌, ◌++◌, Option, Some, None, option_map, refl, ap, subst, ◌∙◌, inl, inr}
use Rattle.std.proofs.lemmas.Bool.{cases_Bool}
use Rattle.std.specs.Bool.{◌==◌}
use Rattle.std.specs.List.{find}
use Rattle.std.specs.Option.{option_and_then}
use Rattle.std.specs.Prelude.{bytes_eq, nat_le, length, ◌⊎◌}
use Rattle.xl_base.specs.Handles.{file_at}
use Rattle.xl_base.specs.declared.journal.Exports.{Exports}
use Rattle.xl_base.specs.declared.name.Party.{Party}
use Rattle.xl_names.specs.declared.name.Name.TheVariants.{NfsParty}
use Rattle.xl_nfs.specs.Clients.{SetClientIdArgsItem}
use Rattle.xl_nfs.specs.Ops.{OpItem, Close, DelegReturn, GetFh, Lock, LockT, LockU, Lookup, Open, OpenConfirm, OpenDowngrade, PutFh, PutRootFh, Renew, SetClientId, SetClientIdConfirm, ReleaseLockOwner, NotSupported, Illegal, op_number}
use Rattle.xl_nfs.specs.declared.clients.ClientConfirm.{ClientConfirm}
use Rattle.xl_base.specs.Lists.{IsIn}
use Rattle.xl_nfs_state.specs.State.{NfsLists, is_client, is_client_named}
use Rattle.xl_nfs_state.specs.declared.client.ClientRow.{ClientRow}
use Rattle.xl_programs.specs.Programs.{RequestItem}
use Rattle.xl_core.specs.Clients.{IsOf}
use Rattle.xl_core.specs.Good.{IsGood}
use Rattle.xl_nfs_opens.proofs.OpenOwn.{Owned, open_own, confirm_own, downgrade_own, return_own}
use Rattle.xl_nfs_laws.proofs.CloseOwn.{close_own}
use Rattle.xl_nfs_laws.proofs.LockOwn.{lock_own, test_own, unlock_own, release_own}
use Rattle.std.proofs.Common.{sym}
use Rattle.xl_core.specs.Askers.{party_named}
use Rattle.xl_core.specs.Deeds.{Deed, Asks, GivesBack, Weakens, Draws, Ends, Renews, done, IsFitDeed, AreFit}
use Rattle.xl_core.specs.State.{CoreState}
use Rattle.xl_front_nfs.specs.Clients.{renew_found, renew_number, renew, draws, ends, has_room, set_by, set_client_id, number_kept, without_named, without_number, confirm_over, confirm_held, confirmed_by, confirm_found, confirm_number, set_client_id_confirm}
use Rattle.xl_core.specs.Ids.{number_in}
use Rattle.xl_front_nfs.specs.FrontNfs.{Called, Garbage, Null, Refused, Compound, call_in, call_deeds, nfs_deeds}
use Rattle.xl_front_nfs.specs.Handles.{put_root_fh, put_file, put_fh, get_fh, found_file, look_up}
use Rattle.xl_nfs_opens.specs.Files.{file_named}
use Rattle.xl_nfs_opens.specs.Owners.{is_named, Names, IsBy, AreBy}
use Rattle.xl_plan.specs.Plans.{deeds_of, carried}
use Rattle.xl_plan.proofs.BindLaws.{within_does}
use Rattle.xl_plan.proofs.PlanLaws.{at_fit, fit_at, plan_good}
use Rattle.xl_plan.proofs.RowLaws.{row_all}
use Rattle.xl_nfs_opens.specs.Plans.{Plan}
use Rattle.xl_front_nfs.specs.State.{FrontNfs}
use Rattle.xl_nfs_laws.specs.RequestOwners.{IsToRenew, IsTheirs, IfMore, AreAllTheirs, AreTheirsBy, AreTheirs}
use Rattle.xl_nfs_laws.proofs.RenewedLaws.{plan_renews}
use Rattle.xl_front_nfs.specs.Steps.{planned, Step, Runs, Garbled, Cut, Course, CoursePlan, begun, noted, step_plan, goes_on, compound}

-- it draws a number, or it ends as a party, or renews, a client for which this holds
abbrev pub IsPlain : CoreState → (List ℕ → Type 0) → Deed → Type 0
IsPlain s Client Draws = Unit {0}
IsPlain s Client (Ends party) = (id : List ℕ) × Client id × IsOf s (NfsParty id) (Ends party)
IsPlain s Client (Renews id) = Client id
IsPlain s Client _ = ⊥

abbrev pub ArePlain : ℕ → CoreState → (List ℕ → Type 0) → List Deed → Type 0
ArePlain n s Client [] = Unit {0}
ArePlain n s Client (d ∷ ds) = IsPlain s Client d × ArePlain n (done n s d) Client ds

abbrev pub By : ℕ → CoreState → (List ℕ → Type 0) → Plan → Type 0
By n s Client plan = ArePlain n s Client (deeds_of n s plan)

plain_own : (n : ℕ) (s : CoreState) (Client : List ℕ → Type 0) (ds : List Deed) → ArePlain n s Client ds → AreFit n s ds × AreBy n s Client ds
plain_own n s Client [] by = (tt, tt)
plain_own n s Client (Draws ∷ ds) by = let rest = plain_own n (done n s Draws) Client ds by.1 in ((tt, rest.0), (tt, rest.1))
plain_own n s Client (Ends party ∷ ds) by = let rest = plain_own n (done n s (Ends party)) Client ds by.1 in ((tt, rest.0), (by.0, rest.1))
plain_own n s Client (Renews id ∷ ds) by = let rest = plain_own n (done n s (Renews id)) Client ds by.1 in ((tt, rest.0), (by.0, rest.1))
plain_own n s Client (d ∷ ds) by = absurd by.0

-- ---- by client

named_by : (s : CoreState) (l : NfsLists) (clientid number : ℕ) (confirmed : Bool) (r : ClientRow) → number_in s clientid ≡ Some number → find (is_client number confirmed) l.clients ≡ Some r → is_named s l clientid confirmed r.id
named_by s l clientid number confirmed r named found =
    ap (λ (o : Option ℕ). option_map (λ r. r.id) (option_and_then (λ m. find (is_client m confirmed) l.clients) o)) named ∙ ap (λ (o : Option ClientRow). option_map (λ r. r.id) o) found

pub renew_by : (n : ℕ) (s : CoreState) (l : NfsLists) (current : Option ℕ) (clientid : ℕ) → By n s (λ id. is_named s l clientid true id) (renew s l current clientid)
unfolding renew
renew_by n s l current clientid = by (number_in s clientid) refl
  where
    found : (number : ℕ) → number_in s clientid ≡ Some number → (o : Option ClientRow) → find (is_client number true) l.clients ≡ o → By n s (λ id. is_named s l clientid true id) (renew_found l current o)
    found number named None e = tt
    found number named (Some r) e = (named_by s l clientid number true r named e, tt)

    by : (o : Option ℕ) → number_in s clientid ≡ o → By n s (λ id. is_named s l clientid true id) (renew_number l current o)
    by None named = tt
    by (Some number) named = found number named (find (is_client number true) l.clients) refl

draws_by : (n : ℕ) (s : CoreState) (Client : List ℕ → Type 0) (kept : Option ℕ) → ArePlain n s Client (draws kept)
draws_by n s Client None = (tt, (tt, tt))
draws_by n s Client (Some number) = (tt, tt)

pub set_by_none : (n : ℕ) (s : CoreState) (l : NfsLists) (current : Option ℕ) (a : SetClientIdArgsItem) (kept : Option ℕ) (Client : List ℕ → Type 0) → By n s Client (set_by s l current a kept)
set_by_none n s l current a kept Client =
    elim (cases_Bool (has_room l)) [
      | inl e ↦ rw e (draws_by n s Client kept)
      | inr e ↦ rw e tt
    ]

ends_by : (n : ℕ) (s : CoreState) (Client : List ℕ → Type 0) (id : List ℕ) → Client id → (o : Option Party) → party_named s.names (NfsParty id) ≡ o → ArePlain n s Client (ends o ++ Renews id ∷ [])
ends_by n s Client id is None e = (is, tt)
ends_by n s Client id is (Some party) e = ((id, is, e), (is, tt))

over_by : (n : ℕ) (s : CoreState) (l : NfsLists) (current : Option ℕ) (number : ℕ) (r : ClientRow) (Client : List ℕ → Type 0) → Client r.id → (o : Option ClientRow) → By n s Client (confirm_over s l current number r o)
over_by n s l current number r Client is None = (is, tt)
over_by n s l current number r Client is (Some o) =
    elim (cases_Bool (o.number == number)) [
      | inl e ↦ rw e (is, tt)
      | inr e ↦ rw e (ends_by n s Client r.id is (party_named s.names (NfsParty r.id)) refl)
    ]

confirmed_is : (verifier : List ℕ) (o : Option ClientRow) (r : ClientRow) → confirmed_by verifier o ≡ Some r → o ≡ Some r
confirmed_is verifier None r e = e
confirmed_is verifier (Some x) r e =
    elim (cases_Bool (bytes_eq x.details.confirm verifier)) [
      | inl h ↦ rw h at e
      | inr h ↦ (let no : None ≡ Some r = rw h at e in absurd cc)
    ]

pub confirm_by : (n : ℕ) (s : CoreState) (l : NfsLists) (current : Option ℕ) (a : ClientConfirm) → By n s (λ id. is_named s l a.clientid true id ⊎ is_named s l a.clientid false id) (set_client_id_confirm s l current a)
unfolding set_client_id_confirm
confirm_by n s l current a = by (number_in s a.clientid) refl
  where
    Client : List ℕ → Type 0
    Client id = is_named s l a.clientid true id ⊎ is_named s l a.clientid false id

    held : (number : ℕ) → number_in s a.clientid ≡ Some number → (o : Option ClientRow) → find (is_client number true) l.clients ≡ o → By n s Client (confirm_held l current a.verifier o)
    held number named None e = tt
    held number named (Some r) e = (inl (named_by s l a.clientid number true r named e), tt)

    found : (number : ℕ) → number_in s a.clientid ≡ Some number → (o : Option ClientRow) → confirmed_by a.verifier (find (is_client number false) l.clients) ≡ o → By n s Client (confirm_found s l current number a.verifier o)
    found number named None e = held number named (find (is_client number true) l.clients) refl
    found number named (Some r) e =
        over_by n s (without_number number l) current number r Client (inr (named_by s l a.clientid number false r named (confirmed_is a.verifier (find (is_client number false) l.clients) r e)))
        (find (is_client_named r.id true) (without_number number l).clients)

    by : (o : Option ℕ) → number_in s a.clientid ≡ o → By n s Client (confirm_number s l current a.verifier o)
    by None named = tt
    by (Some number) named = found number named (confirmed_by a.verifier (find (is_client number false) l.clients)) refl

-- ---- without deeds

pub put_by : (n count : ℕ) (s : CoreState) (l : NfsLists) (current o : Option ℕ) (Client : List ℕ → Type 0) → By n s Client (put_file count l current o)
put_by n count s l current None Client = tt
put_by n count s l current (Some file) Client =
    elim (cases_Bool (nat_le file count)) [
      | inl e ↦ rw e tt
      | inr e ↦ rw e tt
    ]

pub get_by : (n : ℕ) (s : CoreState) (l : NfsLists) (current : Option ℕ) (Client : List ℕ → Type 0) → By n s Client (get_fh l current)
unfolding get_fh
get_by n s l None Client = tt
get_by n s l (Some file) Client = tt

found_by : (n : ℕ) (s : CoreState) (l : NfsLists) (current o : Option ℕ) (Client : List ℕ → Type 0) → By n s Client (found_file l current o)
found_by n s l current None Client = tt
found_by n s l current (Some file) Client = tt

pub look_by : (n : ℕ) (files : List (List ℕ)) (s : CoreState) (l : NfsLists) (current : Option ℕ) (name : List ℕ) (Client : List ℕ → Type 0) → By n s Client (look_up files l current name)
unfolding look_up
look_by n files s l None name Client = tt
look_by n files s l (Some file) name Client =
    elim (cases_Bool (file == 0)) [
      | inr e ↦ rw e tt
      | inl e ↦ rw e (elim (cases_Bool (length name == 0)) [
        | inl d ↦ rw d tt
        | inr d ↦ rw d (found_by n s l (Some file) (file_named files name) Client)
      ])
    ]

abbrev Plain : ℕ → CoreState → NfsLists → OpItem → Plan → Type 0
Plain n s l item plan = By n s (Names s l item) plan

plain : (n : ℕ) (s : CoreState) (l : NfsLists) (item : OpItem) (plan : Plan) → Plain n s l item plan → Owned n s (Names s l item) plan
plain n s l item plan by = plain_own n s (Names s l item) (deeds_of n s plan) by

pub plan_own : (n : ℕ) (files : List (List ℕ)) (others : ℕ) (s : CoreState) (l : NfsLists) (current : Option ℕ) (item : OpItem) → IsGood s → Owned n s (Names s l item) (planned files others s l current item)
unfolding planned put_root_fh put_fh set_client_id
plan_own n files others s l current PutRootFh good = (tt, tt)
plan_own n files others s l current (PutFh fh) good = plain n s l (PutFh fh) (put_file (length files) l current (file_at fh)) (put_by n (length files) s l current (file_at fh) (Names s l (PutFh fh)))
plan_own n files others s l current GetFh good = plain n s l GetFh (get_fh l current) (get_by n s l current (Names s l GetFh))
plan_own n files others s l current (Lookup name) good = plain n s l (Lookup name) (look_up files l current name) (look_by n files s l current name (Names s l (Lookup name)))
plan_own n files others s l current (SetClientId a) good =
    let m = without_named a.id l in
    let kept = number_kept a.verifier (find (is_client_named a.id true) m.clients) in
    plain n s l (SetClientId a) (set_by s m current a kept) (set_by_none n s m current a kept (Names s l (SetClientId a)))
plan_own n files others s l current (SetClientIdConfirm a) good = plain n s l (SetClientIdConfirm a) (set_client_id_confirm s l current a) (confirm_by n s l current a)
plan_own n files others s l current (Renew clientid) good = plain n s l (Renew clientid) (renew s l current clientid) (renew_by n s l current clientid)
plan_own n files others s l current (Open a) good = open_own n files others s l current a good
plan_own n files others s l current (OpenConfirm a) good = confirm_own n s l current a good
plan_own n files others s l current (OpenDowngrade a) good = downgrade_own n s l current a good
plan_own n files others s l current (Close a) good = close_own n s l current a good
plan_own n files others s l current (DelegReturn stateid) good = return_own n s l current stateid good
plan_own n files others s l current (Lock a) good = lock_own n s l current a good
plan_own n files others s l current (LockT a) good = test_own n s l current a good
plan_own n files others s l current (LockU a) good = unlock_own n s l current a good
plan_own n files others s l current (ReleaseLockOwner a) good = release_own n s l current a good
plan_own n files others s l current (NotSupported number) good = (tt, tt)
plan_own n files others s l current (Illegal number) good = (tt, tt)

-- ---- the row

weaker : (n : ℕ) (s : CoreState) (Client : List ℕ → Type 0) (ds : List Deed) → AreBy n s Client ds → AreBy n s (λ _. Unit {0}) ds
weaker n s Client [] by = tt
weaker n s Client (Draws ∷ ds) by = (tt, weaker n (done n s Draws) Client ds by.1)
weaker n s Client (Asks left a ∷ ds) by = ((by.0.0, tt, by.0.2), weaker n (done n s (Asks left a)) Client ds by.1)
weaker n s Client (GivesBack claim ∷ ds) by = ((by.0.0, tt, by.0.2), weaker n (done n s (GivesBack claim)) Client ds by.1)
weaker n s Client (Weakens share access deny ∷ ds) by = ((by.0.0, tt, by.0.2), weaker n (done n s (Weakens share access deny)) Client ds by.1)
weaker n s Client (Ends party ∷ ds) by = ((by.0.0, tt, by.0.2), weaker n (done n s (Ends party)) Client ds by.1)
weaker n s Client (Renews id ∷ ds) by = (tt, weaker n (done n s (Renews id)) Client ds by.1)
weaker n s Client (d ∷ ds) by = absurd by.0

abbrev Taken : ℕ → CoreState → List Deed → Type 0
Taken n s ds = AreFit n s ds × AreBy n s (λ _. Unit {0}) ds

-- what is true of an operation's deeds is true of the step's
pub of_step : (n : ℕ) (files : List (List ℕ)) (others : ℕ) (c : Course) (s : CoreState) (l : NfsLists) (item : OpItem) (Holds : List Deed → Type 0) → Holds (deeds_of n s (planned files others s l c.current item)) → Holds (deeds_of n s (step_plan files others c s l (Runs item)))
unfolding step_plan
of_step n files others c s l item Holds holds = subst Holds (sym (within_does n s l (λ m. m) (λ told m. (noted c (op_number item) told, m)) (planned files others s l c.current item))) holds

step_own : (n : ℕ) (files : List (List ℕ)) (others : ℕ) (c : Course) (s : CoreState) (l : NfsLists) (step : Step) → IsGood s → Taken n s (deeds_of n s (step_plan files others c s l step))
unfolding step_plan
step_own n files others c s l (Runs item) good =
    let own = plan_own n files others s l c.current item good in
    of_step n files others c s l item (Taken n s) (own.0, weaker n s (Names s l item) (deeds_of n s (planned files others s l c.current item)) own.1)
step_own n files others c s l (Garbled number) good = (tt, tt)
step_own n files others c s l Cut good = (tt, tt)

step_good : (n : ℕ) (files : List (List ℕ)) (others : ℕ) (c : Course) (s : CoreState) (l : NfsLists) (step : Step) → IsGood s → IsGood (carried n s l (step_plan files others c s l step)).3
step_good n files others c s l step good =
    let plan : CoursePlan = step_plan files others c s l step in
    plan_good n s l plan good (fit_at n s (deeds_of n s plan) (step_own n files others c s l step good).0)

-- what the core takes, and whose they are
row_own : (n : ℕ) (files : List (List ℕ)) (others : ℕ) (s : CoreState) (l : NfsLists) (steps : List Step) → IsGood s → Taken n s (deeds_of n s (compound files others begun s l steps))
row_own n files others s l steps good = (
  at_fit n s (deeds_of n s (compound files others begun s l steps))
      (row_all (step_plan files others) goes_on (λ t m. IsGood t) IsFitDeed n begun s l steps
      (λ c t m step g. (fit_at n t (deeds_of n t (step_plan files others c t m step)) (step_own n files others c t m step g).0, step_good n files others c t m step g)) good).0,
  (row_all (step_plan files others) goes_on (λ t m. IsGood t) (λ t d. IsBy t (λ _. Unit {0}) d) n begun s l steps (λ c t m step g. ((step_own n files others c t m step g).1, step_good n files others c t m step g)) good).0,
)

call_by : (n : ℕ) (files : List (List ℕ)) (others : ℕ) (f : FrontNfs) (s : CoreState) (call : Called) → IsGood s → AreBy n s (λ _. Unit {0}) (call_deeds n files others f s call)
call_by n files others f s Garbage good = tt
call_by n files others f s Null good = tt
call_by n files others f s (Refused tag status) good = tt
call_by n files others f s (Compound tag steps) good = (row_own n files others s f.state steps good).1

pub request_by : (n : ℕ) (exports : Exports) (others : ℕ) (f : FrontNfs) (s : CoreState) (r : RequestItem) → IsGood s → AreBy n s (λ _. Unit {0}) (nfs_deeds n exports others f s r)
request_by n exports others f s r good = call_by n exports.files others f s (call_in r) good

-- the core takes them
call_takes : (n : ℕ) (files : List (List ℕ)) (others : ℕ) (f : FrontNfs) (s : CoreState) (call : Called) → IsGood s → AreFit n s (call_deeds n files others f s call)
call_takes n files others f s Garbage good = tt
call_takes n files others f s Null good = tt
call_takes n files others f s (Refused tag status) good = tt
call_takes n files others f s (Compound tag steps) good = (row_own n files others s f.state steps good).0

pub request_takes : (n : ℕ) (exports : Exports) (others : ℕ) (f : FrontNfs) (s : CoreState) (r : RequestItem) → IsGood s → AreFit n s (nfs_deeds n exports others f s r)
request_takes n exports others f s r good = call_takes n exports.files others f s (call_in r) good

-- ---- of each operation, of whom it names

one_own : (files : List (List ℕ)) (others n : ℕ) (c : Course) (s : CoreState) (l : NfsLists) (step : Step) → IsGood s → IsTheirs files others n c s l step
unfolding step_plan
one_own files others n c s l (Runs item) good =
    of_step n files others c s l item (λ ds. AreBy n s (Names s l item) ds × ((id : List ℕ) → IsToRenew s l item id → IsIn (Renews id) ds))
    ((plan_own n files others s l c.current item good).1, λ id is. plan_renews n files others s l c.current item id is)
one_own files others n c s l (Garbled number) good = refl
one_own files others n c s l Cut good = refl

if_more : (b : Bool) (Rest : Type 0) → Rest → IfMore b Rest
if_more true Rest rest = rest
if_more false Rest rest = tt

all_own : (files : List (List ℕ)) (others n : ℕ) (c : Course) (s : CoreState) (l : NfsLists) (steps : List Step) → IsGood s → AreAllTheirs files others n c s l steps
all_own files others n c s l [] good = tt
all_own files others n c s l (step ∷ steps) good =
    let r = carried n s l (step_plan files others c s l step) in
    (one_own files others n c s l step good, if_more (goes_on r.0) (AreAllTheirs files others n r.0 r.3 r.2 steps) (all_own files others n r.0 r.3 r.2 steps (step_good n files others c s l step good)))

call_own : (n : ℕ) (files : List (List ℕ)) (others : ℕ) (f : FrontNfs) (s : CoreState) (call : Called) → IsGood s → AreTheirsBy n files others f s call
call_own n files others f s Garbage good = tt
call_own n files others f s Null good = tt
call_own n files others f s (Refused tag status) good = tt
call_own n files others f s (Compound tag steps) good = all_own files others n begun s f.state steps good

pub request_own : (n : ℕ) (exports : Exports) (others : ℕ) (f : FrontNfs) (s : CoreState) (r : RequestItem) → IsGood s → AreTheirs n exports others f s r
request_own n exports others f s r good = call_own n exports.files others f s (call_in r) good
