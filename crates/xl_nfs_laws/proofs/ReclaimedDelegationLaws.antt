-- An OPEN that claims a delegation from before a restart gives it if it is OK, where its client has none (RFC 7530 10.2.1).
use Rattle.std.proofs.Common.{◌≡◌, ℕ, Bool, true, false, not, List, [], ◌∷◌, map, Option, Some, None, Result, Ok, Err, is_some, option_map, refl, sym, ap, subst, ◌∙◌, inl, inr, true≢false, if◌then◌else◌}
use Rattle.std.proofs.lemmas.Bool.{cases_Bool}
use Rattle.std.specs.List.{filter, find}
use Rattle.std.specs.Option.{option_and_then}
use Rattle.std.specs.Prelude.{◌&&◌, ◌||◌}
use Rattle.xl_base.proofs.Members.{all_in}
use Rattle.xl_base.specs.declared.name.Party.TheVariants as parties
use Rattle.xl_base.specs.declared.name.Protocol.TheVariants.{Nfs}
use Rattle.xl_matrix.specs.declared.claim.CacheKind.{CacheKind}
use Rattle.xl_matrix.specs.declared.claim.CacheKind.TheVariants as cache_kinds
use Rattle.xl_matrix.specs.declared.claim.Claim.{Claim}
use Rattle.xl_matrix.specs.declared.claim.What.{What}
use Rattle.xl_matrix.specs.declared.claim.What.TheVariants as whats
use Rattle.xl_names.specs.Names.{entered as name_entered, number_of, place_of as place_named}
use Rattle.xl_names.specs.declared.name.Name.{Name}
use Rattle.xl_names.specs.declared.name.Name.TheVariants.{NfsParty, NfsShare}
use Rattle.xl_names.proofs.NameLaws.{number_entered}
use Rattle.xl_nfs.specs.Opens.{OpenArgsItem, OpenClaimItem, Previous}
use Rattle.xl_nfs.specs.declared.basics.Stateid.{Stateid}
use Rattle.xl_nfs.specs.declared.opens.DelegationType.{DelegationType}
use Rattle.xl_nfs.specs.declared.status.NfsStatus.{NfsStatus}
use Rattle.xl_nfs.specs.declared.status.NfsStatus.TheVariants as statuses
use Rattle.xl_nfs_state.specs.State.{NfsLists, delegated_on, is_kept, is_whose, without_owner}
use Rattle.xl_nfs_state.specs.declared.client.ClientRow.{ClientRow}
use Rattle.xl_nfs_state.specs.declared.kept.KeptRow.{KeptRow}
use Rattle.xl_nfs_state.specs.declared.stateid.StateidRow.{StateidRow}
use Rattle.xl_nfs_state.specs.declared.stateid.Whose.TheVariants as whose
use Rattle.xl_core.proofs.DeedLaws.{deed_good, deed_names}
use Rattle.xl_core.proofs.DeedLeaves.{found_in}
use Rattle.xl_core.proofs.FrameLaws.{ask_frame}
use Rattle.xl_core.specs.Decide.{ask}
use Rattle.xl_core.specs.Deeds.{Asks, all_done}
use Rattle.xl_core.specs.Frames.{names_after}
use Rattle.xl_core.specs.Good.{IsGood, IsHeld}
use Rattle.xl_core.specs.Places.{CacheOf, held_in, is_cache_on}
use Rattle.xl_core.specs.State.{CoreState}
use Rattle.xl_core.specs.declared.ask.Answer.{Answer}
use Rattle.xl_core.specs.declared.ask.Answer.TheVariants as answers
use Rattle.xl_nfs_opens.proofs.OpenOwn.{all_given, ask_fits}
use Rattle.xl_nfs_opens.specs.Opens.{all_rooms, answered, asked_fault, cache_by, cache_held, client_in, delegation_in, delegation_of, file_claimed, gives_all, granted_by, granted_wish, has_none, has_room, is_astray, is_granted, judged, open_as, open_by, open_held, open_judged, opened_file, opener_of, reclaims, repeated, rights_of, share_ask, type_claimed, wish_of}
use Rattle.xl_nfs_opens.specs.Checks.{found, refused_by, unless}
use Rattle.xl_nfs_opens.specs.Plans.{Outcome, carried}
use Rattle.xl_nfs_opens.specs.declared.opener.Judged.{Judged}
use Rattle.xl_nfs_opens.specs.declared.opener.Judged.TheVariants as judgements
use Rattle.xl_nfs_opens.specs.declared.opener.Opener.{Opener}
use Rattle.xl_nfs_opens.specs.declared.told.Told.{Told}
use Rattle.xl_nfs_opens.specs.declared.told.Told.TheVariants.{Opened}
use Rattle.xl_nfs_laws.specs.Delegated.{AreTied, delegation_held, delegation_numbered, written_by}
use Rattle.xl_nfs_laws.proofs.CalmOpenLaws.{tied_by}
use Rattle.xl_nfs_laws.proofs.OpenDelegationLaws.{IsOpener, gives_all_quiet, opener_is}
use Rattle.xl_nfs_laws.proofs.QuietCacheLaws.{all_quiet, held_by, kind_before, kind_of, nfs_kind, uncached}
use Rattle.xl_nfs_laws.proofs.ReclaimedCacheLaws.{reclaimed_both}
use Rattle.xl_nfs_laws.proofs.StillDelegatedLaws.{owner_still, placed_delegation}
use Rattle.xl_nfs_laws.proofs.ToldDelegationLaws.{wish_reclaims}

-- ---- a share that is reclaimed with a delegation

abbrev kind_wished : Bool → CacheKind
kind_wished write = if write then cache_kinds.WriteDeleg else cache_kinds.ReadDeleg

written : (w : Bool) → delegation_of (whats.Cache (kind_wished w) None) ≡ Some w
written true = refl
written false = refl

none_in_list : {A : Type 0} (p : A → Bool) (xs : List A) → find p xs ≡ None → filter p xs ≡ []
none_in_list p [] e = refl
none_in_list p (x ∷ xs) e =
    elim (cases_Bool (p x)) [
      | inl here ↦ (let no : Some x ≡ None = rw here at e in absurd (true≢false (ap is_some no)))
      | inr other ↦ rw other (none_in_list p xs (rw other at e))
    ]

-- what is found first of those of whom this is told
found_first : (p : Claim → Bool) (cs : List Claim) (w : What) → map (λ (c : Claim). c.what) (filter p cs) ≡ w ∷ [] → delegation_in (find p cs) ≡ delegation_of w
found_first p [] w e = absurd cc
found_first p (c ∷ cs) w e =
    elim (cases_Bool (p c)) [
      | inl here ↦ rw here (ap delegation_of (first c.what w _ (rw here at e)))
      | inr other ↦ rw other (found_first p cs w (rw other at e))
    ]
  where
    first : (x y : What) (rest : List What) → x ∷ rest ≡ y ∷ [] → x ≡ y
    first x y rest f = cc

-- the client has the delegation then
reclaimed_held : (n : ℕ) (s : CoreState) (o : Opener) (a : OpenArgsItem) (file : ℕ) (w : Bool) → IsGood s → reclaims a.claim ≡ true → delegation_held s o.id file ≡ None → is_granted (ask n all_rooms s (share_ask (Some w) o a file)).0 ≡ true
    → delegation_held (ask n all_rooms s (share_ask (Some w) o a file)).2 o.id file ≡ Some w
unfolding share_ask
reclaimed_held n s o a file w good re none said = by (ask n all_rooms s (share_ask (Some w) o a file)).0 refl said
  where
    t : CoreState
    t = (ask n all_rooms s (share_ask (Some w) o a file)).2

    names : List Name
    names = name_entered (NfsShare o.id o.owner) s.names

    number : ℕ
    number = place_named (NfsParty o.id) names

    well : IsGood t
    well = deed_good n s (Asks all_rooms (share_ask (Some w) o a file)) good (ask_fits (Some w) o a file)

    by : (answer : Answer) → (ask n all_rooms s (share_ask (Some w) o a file)).0 ≡ answer → is_granted answer ≡ true → delegation_held t o.id file ≡ Some w
    by (answers.Granted c) at granted =
        let later : t.names ≡ name_entered (NfsParty o.id) names = (ask_frame n all_rooms s (share_ask (Some w) o a file) good (ask_fits (Some w) o a file).party).names ∙ ap (λ (answer : Answer). names_after (share_ask (Some w) o a file) answer s.names) at in
        let now : number_of (NfsParty o.id) t.names ≡ Some number = ap (number_of (NfsParty o.id)) later ∙ number_entered names (NfsParty o.id) in
        let free : find (is_cache_on file (parties.Name Nfs number)) s.claims ≡ None = uncached s file number good (kind_before s t o.id file number good well (deed_names n s (Asks all_rooms (share_ask (Some w) o a file)) good (ask_fits (Some w) o a file)) now ∙ none) in
        let had : held_in s.claims (CacheOf file (parties.Name Nfs number)) ≡ [] = ap (λ (cs : List Claim). map (λ (c : Claim). c.what) cs) (none_in_list (is_cache_on file (parties.Name Nfs number)) s.claims free) in
        held_by t o.id file (Some number) now
        ∙ found_first (is_cache_on file (parties.Name Nfs number)) t.claims (whats.Cache (kind_wished w) None) (reclaimed_both n all_rooms s (share_ask (Some w) o a file) (rights_of a.access) (rights_of a.deny) (kind_wished w) c good (ask_fits (Some w) o a file) refl refl refl re had at)
        ∙ written w
    by (answers.Conflict c) at granted = absurd (true≢false (sym granted))
    by (answers.Queued id) at granted = absurd (true≢false (sym granted))
    by (answers.Recall c) at granted = absurd (true≢false (sym granted))
    by (answers.Grace until) at granted = absurd (true≢false (sym granted))
    by (answers.NoGrace clock) at granted = absurd (true≢false (sym granted))
    by answers.NotRecorded at granted = absurd (true≢false (sym granted))
    by (answers.Full limit) at granted = absurd (true≢false (sym granted))
    by answers.NotHeld at granted = absurd (true≢false (sym granted))
    by answers.StoreFailed at granted = absurd (true≢false (sym granted))

-- ---- what its client has before

-- a cache is a delegation
cached_is : (s : CoreState) (id : List ℕ) (file : ℕ) → IsGood s → is_some (cache_held s id file) ≡ is_some (delegation_held s id file)
unfolding cache_held
cached_is s id file good = by (number_of (NfsParty id) s.names)
  where
    by : (x : Option ℕ) → (let c = cache_by s.claims file (option_map (λ number. parties.Name Nfs number) x) in is_some c ≡ is_some (delegation_in c))
    by None = refl
    by (Some number) = there (find (is_cache_on file (parties.Name Nfs number)) s.claims) refl
      where
        there : (y : Option Claim) → find (is_cache_on file (parties.Name Nfs number)) s.claims ≡ y → is_some y ≡ is_some (delegation_in y)
        there None e = refl
        there (Some c) e =
            let here = found_in (is_cache_on file (parties.Name Nfs number)) s.claims c e in
            sym (ap is_some (kind_of c.what (nfs_kind s.names c file number (all_in (IsHeld s.names) c s.claims good.known here.0) here.1)).1)

numbered_is : (stateids : List StateidRow) (file client : ℕ) → is_some (find (delegated_on client file) stateids) ≡ is_some (delegation_numbered stateids file client)
numbered_is stateids file client = by (find (delegated_on client file) stateids) refl
  where
    by : (x : Option StateidRow) → find (delegated_on client file) stateids ≡ x → is_some x ≡ is_some (option_and_then (λ r. written_by r.holder) x)
    by None e = refl
    by (Some r) e = sym (placed_delegation client file r (found_in (delegated_on client file) stateids r e).1)

-- where the front and the core agree it has none exactly if it has no delegation
none_is : (s : CoreState) (l : NfsLists) (o : Opener) (file : ℕ) → IsGood s → IsOpener l o → AreTied s l → has_none s l o file ≡ not (is_some (delegation_held s o.id file))
none_is s l o file good opener tied =
    let kept : is_some (find (delegated_on o.client file) l.stateids) ≡ is_some (delegation_held s o.id file) =
    numbered_is l.stateids file o.client ∙ ap (λ (x : Option ℕ). is_some (option_and_then (delegation_numbered l.stateids file) x)) (sym opener.named) ∙ ap is_some (sym (tied.delegated o.id file)) in
    (λ i. not (cached_is s o.id file good i) && not (kept i)) ∙ twice (not (is_some (delegation_held s o.id file)))
  where
    twice : (b : Bool) → (b && b) ≡ b
    twice true = refl
    twice false = refl

-- of what it claims it may get this
abbrev due_by : Option Bool → DelegationType → Option Bool
due_by had type = if is_some had then None else type_claimed type

wish_due : (s : CoreState) (l : NfsLists) (o : Opener) (a : OpenArgsItem) (confirmed : Bool) (file : ℕ) (type : DelegationType) → IsGood s → IsOpener l o → AreTied s l → a.claim ≡ Previous type → wish_of s l o a confirmed file ≡ due_by (delegation_held s o.id file) type
wish_due s l o a confirmed file type good opener tied claim =
    wish_reclaims s l o a confirmed file type claim ∙ ap (λ (b : Bool). if b then type_claimed type else None) (none_is s l o file good opener tied) ∙ turned (is_some (delegation_held s o.id file))
  where
    turned : (b : Bool) → (if not b then type_claimed type else None) ≡ (if b then None else type_claimed type)
    turned true = refl
    turned false = refl

had_none : (had : Option Bool) (type : DelegationType) (w : Bool) → due_by had type ≡ Some w → had ≡ None
had_none None type w e = refl
had_none (Some v) type w e = absurd cc

-- ---- what is answered

abbrev given_in : Told → Option (Stateid × Bool)
given_in (Opened stateid flags given) = given
given_in _ = None

-- one that is OK is given a delegation of this kind, or none
abbrev Gives : Option Bool → Outcome → Type 0
Gives write done = (stateid : Stateid) (flags : ℕ) (delegation : Option (Stateid × Bool)) → done.0 ≡ Opened stateid flags delegation → option_map (λ (given : Stateid × Bool). given.1) delegation ≡ write

granted_gives : (n : ℕ) (s : CoreState) (l : NfsLists) (o : Opener) (a : OpenArgsItem) (file : ℕ) (c : Bool) (write : Option Bool) (x : Option StateidRow) → Gives write (carried n s l (granted_by s l o a file c write x))
granted_gives n s l o a file c None None = λ stateid flags delegation said. ap (λ (t : Told). option_map (λ (given : Stateid × Bool). given.1) (given_in t)) (sym said)
granted_gives n s l o a file c None (Some r) = λ stateid flags delegation said. ap (λ (t : Told). option_map (λ (given : Stateid × Bool). given.1) (given_in t)) (sym said)
granted_gives n s l o a file c (Some w) None = λ stateid flags delegation said. ap (λ (t : Told). option_map (λ (given : Stateid × Bool). given.1) (given_in t)) (sym said)
granted_gives n s l o a file c (Some w) (Some r) = λ stateid flags delegation said. ap (λ (t : Told). option_map (λ (given : Stateid × Bool). given.1) (given_in t)) (sym said)

answered_gives : (n : ℕ) (t : CoreState) (l : NfsLists) (current : Option ℕ) (o : Opener) (a : OpenArgsItem) (file : ℕ) (confirmed : Bool) (wish : Option Bool) (answer : Answer) → (is_granted answer ≡ true → granted_wish t o file wish ≡ wish) → Gives wish (carried n t l (answered l current o a file confirmed wish answer t))
answered_gives n t l current o a file confirmed wish answer gets =
    elim (cases_Bool (is_granted answer)) [
      | inr e ↦ rw e (λ stateid flags delegation said. absurd cc)
      | inl e ↦ rw e (λ stateid flags delegation said. granted_gives n t l o a file (confirmed || reclaims a.claim) (granted_wish t o file wish) (open_held l o file) stateid flags delegation said ∙ gets e)
    ]

asked_gives : (n : ℕ) (s : CoreState) (l : NfsLists) (current : Option ℕ) (o : Opener) (a : OpenArgsItem) (confirmed : Bool) (file : ℕ) (type : DelegationType) (wish : Option Bool) → IsGood s → a.claim ≡ Previous type → due_by (delegation_held s o.id file) type ≡ wish
    → (let r = ask n all_rooms s (share_ask wish o a file) in Gives wish (carried n r.2 l (answered l current o a file confirmed wish r.0 r.2)))
asked_gives n s l current o a confirmed file type None good claim due =
    let r = ask n all_rooms s (share_ask None o a file) in answered_gives n r.2 l current o a file confirmed None r.0 (λ granted. refl)
asked_gives n s l current o a confirmed file type (Some w) good claim due =
    let r = ask n all_rooms s (share_ask (Some w) o a file) in
    answered_gives n r.2 l current o a file confirmed (Some w) r.0 (λ granted. reclaimed_held n s o a file w good (ap reclaims claim) (had_none (delegation_held s o.id file) type w due) granted)

by_gives : (n others : ℕ) (s : CoreState) (l : NfsLists) (current : Option ℕ) (o : Opener) (a : OpenArgsItem) (confirmed : Bool) (file : ℕ) (type : DelegationType) → IsGood s → IsOpener l o → AreTied s l → a.claim ≡ Previous type → Gives (due_by (delegation_held s o.id file) type) (carried n s l (open_by others s l current o a confirmed (Ok file)))
by_gives n others s l current o a confirmed file type good opener tied claim =
    let wish = wish_of s l o a confirmed file in
    let is = wish_due s l o a confirmed file type good opener tied claim in
    elim (cases_Bool (has_room others l o file)) [
      | inr e ↦ rw e (λ stateid flags delegation said. absurd cc)
      | inl e ↦ rw e (λ stateid flags delegation said. asked_gives n s l current o a confirmed file type wish good claim (sym is) stateid flags delegation said ∙ is)
    ]

-- the file is the current one
same_ok : (x y : ℕ) (r : Result ℕ NfsStatus) → r ≡ Ok x → r ≡ Ok y → x ≡ y
same_ok x y r e f = cc

previous_file : (files : List (List ℕ)) (s : CoreState) (l : NfsLists) (client at file : ℕ) (a : OpenArgsItem) (type : DelegationType) → a.claim ≡ Previous type → opened_file files s l client at a ≡ Ok file → at ≡ file
unfolding opened_file
previous_file files s l client at file a type is e =
    by (asked_fault at a) (subst (λ (claim : OpenClaimItem). unless (asked_fault at a) Err (found (file_claimed files at claim) (Err statuses.NoEnt) (λ f. refused_by Err ((is_astray s l client f claim, statuses.BadStateid) ∷ []) (Ok f))) ≡ Ok file) is e)
  where
    by : (x : Option NfsStatus) → unless x Err (Ok at) ≡ Ok file → at ≡ file
    by None f = same_ok at file (Ok at) refl f
    by (Some status) f = absurd cc

as_gives : (n : ℕ) (files : List (List ℕ)) (others : ℕ) (s : CoreState) (l : NfsLists) (current : Option ℕ) (at : ℕ) (o : Opener) (a : OpenArgsItem) (confirmed : Bool) (type : DelegationType) → IsGood s → IsOpener l o → AreTied s l → a.claim ≡ Previous type → Gives (due_by (delegation_held s o.id at) type) (carried n s l (open_as files others s l current at o a confirmed))
unfolding open_as
as_gives n files others s l current at o a confirmed type good opener tied claim = by (opened_file files s l o.client at a) refl
  where
    by : (x : Result ℕ NfsStatus) → opened_file files s l o.client at a ≡ x → Gives (due_by (delegation_held s o.id at) type) (carried n s l (open_by others s l current o a confirmed x))
    by (Err status) e = λ stateid flags delegation said. absurd cc
    by (Ok file) e =
        subst (λ (f : ℕ). Gives (due_by (delegation_held s o.id f) type) (carried n s l (open_by others s l current o a confirmed (Ok file)))) (sym (previous_file files s l o.client at file a type claim e))
        (by_gives n others s l current o a confirmed file type good opener tied claim)

repeat_gives : (n : ℕ) (s : CoreState) (l : NfsLists) (current : Option ℕ) (write : Option Bool) (k : Option KeptRow) → Gives write (carried n s l (repeated s l current k))
repeat_gives n s l current write None = λ stateid flags delegation said. absurd cc
repeat_gives n s l current write (Some k) = λ stateid flags delegation said. absurd cc

judged_gives : (n : ℕ) (files : List (List ℕ)) (others : ℕ) (s : CoreState) (l : NfsLists) (current : Option ℕ) (at : ℕ) (o : Opener) (a : OpenArgsItem) (type : DelegationType) (j : Judged) → IsGood s → IsOpener l o → AreTied s l → a.claim ≡ Previous type → Gives (due_by (delegation_held s o.id at) type) (carried n s l (open_judged files others s l current at o a j))
judged_gives n files others s l current at o a type judgements.Bad good opener tied claim = λ stateid flags delegation said. absurd cc
judged_gives n files others s l current at o a type (judgements.Repeats number) good opener tied claim = repeat_gives n s l current (due_by (delegation_held s o.id at) type) (find (is_kept number) l.kept)
judged_gives n files others s l current at o a type judgements.New good opener tied claim = as_gives n files others s l current at o a false type good opener tied claim
judged_gives n files others s l current at o a type judgements.Next good opener tied claim = as_gives n files others s l current at o a true type good opener tied claim
judged_gives n files others s l current at o a type (judgements.Anew number) good opener tied claim =
    let rows = filter (is_whose (whose.Owner number)) l.stateids in
    let deeds = gives_all s o rows in
    let t = all_done n s deeds in
    let m = without_owner number l in
    let quiet = all_quiet n s deeds good (all_given n s (λ _. Unit {0}) o rows good tt).0 (gives_all_quiet s o rows) in
    let ties : AreTied t m = tied_by s t s.counter l m tied quiet quiet.later (owner_still s.counter number l tied.set) in
    let is = as_gives n files others t m current at o a false type quiet.good (record { there = opener.there; named = opener.named; only = opener.only }) ties claim in
    λ stateid flags delegation said. is stateid flags delegation said ∙ ap (λ (had : Option Bool). due_by had type) (quiet.held o.id at)

pub reclaimed_given : (n : ℕ) (files : List (List ℕ)) (others : ℕ) (s : CoreState) (l : NfsLists) (current : Option ℕ) (at : ℕ) (c : ClientRow) (a : OpenArgsItem) (type : DelegationType) (stateid : Stateid) (flags : ℕ) (delegation : Option (Stateid × Bool)) → IsGood s → AreTied s l → client_in s l a.owner.clientid ≡ Some c → a.claim ≡ Previous type
    → (carried n s l (open_judged files others s l current at (opener_of c a) a (judged l (opener_of c a) a.seqid))).0 ≡ Opened stateid flags delegation → option_map (λ (given : Stateid × Bool). given.1) delegation ≡ (if is_some (delegation_held s c.id at) then None else type_claimed type)
reclaimed_given n files others s l current at c a type stateid flags delegation good tied named claim said =
    judged_gives n files others s l current at (opener_of c a) a type (judged l (opener_of c a) a.seqid) good (opener_is s l a c tied.set named) tied claim stateid flags delegation said
