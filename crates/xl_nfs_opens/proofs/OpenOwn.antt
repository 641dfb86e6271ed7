-- Whose the deeds of the operations on opens are, and that the core takes them.
use Rattle.std.proofs.Common.{◌≡◌, ℕ, ◌/◌, ◌%◌, ◌^◌, take, drop, Bool, true, false, List, [], ◌∷◌, ◌++◌, Option, Some, None, Result, Ok, Err, option_map, refl, sym, ap, subst, ◌∙◌, inl, inr, true≢false}
use Rattle.std.proofs.lemmas.Bool.{cases_Bool, and_parts}
use Rattle.std.specs.Bool.{◌==◌}
use Rattle.std.specs.List.{filter, find}
use Rattle.std.specs.Option.{option_and_then}
use Rattle.std.specs.Prelude.{◌&&◌, ◌||◌, if◌then◌else◌}
use Rattle.xl_base.proofs.Members.{all_in}
use Rattle.xl_base.specs.Stable.{Stable}
use Rattle.xl_base.specs.declared.name.Owner.{Owner}
use Rattle.xl_base.specs.declared.name.Owner.TheVariants as owners
use Rattle.xl_base.specs.declared.name.Protocol.TheVariants.{Nfs}
use Rattle.xl_base.specs.declared.name.Party.{Party}
use Rattle.xl_matrix.proofs.EqualLaws.{same_parties-true}
use Rattle.xl_matrix.specs.Equal.{same_parties}
use Rattle.xl_matrix.specs.declared.claim.Claim.{Claim}
use Rattle.xl_matrix.specs.declared.claim.What.{What}
use Rattle.xl_matrix.specs.declared.claim.What.TheVariants as whats
use Rattle.xl_names.specs.Names.{number_of}
use Rattle.xl_names.specs.declared.name.Name.TheVariants.{NfsShare, NfsParty}
use Rattle.xl_nfs.specs.Opens.{OpenArgsItem, OpenClaimItem, Null, Previous, DelegateCurrent, DelegatePrevious}
use Rattle.xl_nfs.specs.declared.basics.Stateid.{Stateid}
use Rattle.xl_nfs.specs.declared.opens.OpenConfirmArgs.{OpenConfirmArgs}
use Rattle.xl_nfs.specs.declared.opens.OpenDowngradeArgs.{OpenDowngradeArgs}
use Rattle.xl_nfs.specs.declared.status.NfsStatus.{NfsStatus}
use Rattle.xl_nfs_state.specs.State.{NfsLists, without_owner, is_client, is_kept, is_owner, is_stateid, is_whose}
use Rattle.xl_nfs_state.specs.declared.client.ClientRow.{ClientRow}
use Rattle.xl_nfs_state.specs.declared.kept.KeptRow.{KeptRow}
use Rattle.xl_nfs_state.specs.declared.owner.OwnerKind.{OwnerKind}
use Rattle.xl_nfs_state.specs.declared.owner.OwnerKind.TheVariants as kinds
use Rattle.xl_nfs_state.specs.declared.owner.OwnerRow.{OwnerRow}
use Rattle.xl_nfs_state.specs.declared.owner.SeqidState.{SeqidState}
use Rattle.xl_nfs_state.specs.declared.stateid.StateidRow.{StateidRow}
use Rattle.xl_nfs_state.specs.declared.stateid.Whose.TheVariants as whose
use Rattle.xl_table.proofs.WriteBack.{is_of-true}
use Rattle.xl_table.specs.Held.{is_of, is_cache, is_range, is_share}
use Rattle.xl_table.specs.Relock.{is_share_of}
use Rattle.xl_core.proofs.DeedClients.{party_of_owner}
use Rattle.xl_core.proofs.DeedLeaves.{share_given, found_in}
use Rattle.xl_core.proofs.DeedLists.{deeds_good, fit_append}
use Rattle.xl_core.specs.Askers.{IsFit, party_named}
use Rattle.xl_core.specs.Settle.{share_has}
use Rattle.xl_base.specs.Lists.{IsIn}
use Rattle.xl_matrix.specs.declared.claim.Rwd.{Rwd}
use Rattle.xl_core.specs.Clients.{IsOf}
use Rattle.xl_core.specs.Decide.{ask}
use Rattle.xl_core.specs.Places.{is_cache_on}
use Rattle.xl_core.specs.Deeds.{Deed, Asks, GivesBack, all_done, IsFitDeed, AreFit}
use Rattle.xl_core.specs.Good.{are_kept, IsHeld, IsGood}
use Rattle.xl_core.specs.State.{CoreState}
use Rattle.xl_core.specs.Ticks.{renew}
use Rattle.xl_core.specs.declared.ask.Answer.{Answer}
use Rattle.xl_core.specs.Ids.{number_in}
use Rattle.xl_nfs_opens.specs.Closing.{checked_as, counts, standing_fault, confirm_done, open_confirm, opener_named, opener_by, share_by_opener, share_of_open, Returning, returned, state_returned, cache_of_client, cache_of, return_done, deleg_return}
use Rattle.xl_nfs_opens.specs.Downgrades.{downgrade_fault, downgrade_done, open_downgrade, weakens}
use Rattle.xl_nfs_opens.specs.Opens.{rights_of, share_by, share_held, gives, given_up, gives_all, share_ask, all_rooms, repeated, reclaims, open_held, has_room, granted_wish, wish_of, cache_by, cache_held, granted_by, is_granted, answered, open_on, open_by, open_as, open_judged, opener_of, open_of, client_in, open_at, claim_client, open_claimed, open_file, judged, opened_file}
use Rattle.xl_nfs_opens.specs.Owners.{is_named, is_holder, is_claimant, Names, IsBy, AreBy}
use Rattle.xl_plan.specs.Plans.{deeds_of}
use Rattle.xl_nfs_opens.specs.Plans.{Plan}
use Rattle.xl_nfs.specs.Ops.{DelegReturn, Open, OpenConfirm, OpenDowngrade}
use Rattle.std.specs.Int.{w32, w64, from_be_bytes}
use Rattle.xl_nfs_opens.specs.Renewing.{number_of as number_in_other, client_if_live, state_numbered, state_client, renewals_by, renewals, renewing}
use Rattle.xl_nfs_opens.specs.declared.opener.Checked.{Checked}
use Rattle.xl_nfs_opens.specs.declared.opener.Checked.TheVariants.{Refused, Repeated, Passed}
use Rattle.xl_nfs_opens.specs.declared.opener.Judged.{Judged}
use Rattle.xl_nfs_opens.specs.declared.opener.Judged.TheVariants as judgements
use Rattle.xl_nfs_opens.specs.declared.opener.Opener.{Opener}
use Rattle.xl_nfs_opens.proofs.CheckLaws.{finds, passes, returns_is}
use Rattle.xl_nfs_opens.proofs.OwnerLaws.{own_client, wished_fit}
use Rattle.xl_plan.proofs.PlanLaws.{at_append}

-- the core takes the deeds of the plan, and each is by a client for which this holds
abbrev pub Owned : ℕ → CoreState → (List ℕ → Type 0) → Plan → Type 0
Owned n s Client plan = AreFit n s (deeds_of n s plan) × AreBy n s Client (deeds_of n s plan)

pub by_append : (n : ℕ) (s : CoreState) (Client : List ℕ → Type 0) (ds es : List Deed) → AreBy n s Client ds → AreBy n (all_done n s ds) Client es → AreBy n s Client (ds ++ es)
by_append n s Client ds es first second = at_append (λ t d. IsBy t Client d) n s ds es first second

-- ---- leases

stable_by : (n : ℕ) (s : CoreState) (o : Option ClientRow) → (all_done n s (renewals_by o)).stable ≡ s.stable
unfolding renew
stable_by n s None = refl
stable_by n s (Some r) = refl

stable_kept : (n : ℕ) (s : CoreState) (l : NfsLists) (who : Option ℕ) → (all_done n s (renewals l who)).stable ≡ s.stable
stable_kept n s l None = refl
stable_kept n s l (Some number) = stable_by n s (find (is_client number true) l.clients)

renews_own : (n : ℕ) (s : CoreState) (l : NfsLists) (Client : List ℕ → Type 0) (who : Option ℕ) → ((number : ℕ) (r : ClientRow) → who ≡ Some number → find (is_client number true) l.clients ≡ Some r → Client r.id)
    → AreFit n s (renewals l who) × AreBy n s Client (renewals l who)
renews_own n s l Client None each = (tt, tt)
renews_own n s l Client (Some number) each = by (find (is_client number true) l.clients) refl
  where
    by : (o : Option ClientRow) → find (is_client number true) l.clients ≡ o → AreFit n s (renewals_by o) × AreBy n s Client (renewals_by o)
    by None e = (tt, tt)
    by (Some r) e = ((tt, tt), (each number r refl e, tt))

pub renewing_own : (n : ℕ) (s : CoreState) (l : NfsLists) (Client : List ℕ → Type 0) (who : Option ℕ) (rest : CoreState → Plan) → IsGood s
    → ((number : ℕ) (r : ClientRow) → who ≡ Some number → find (is_client number true) l.clients ≡ Some r → Client r.id)
    → ((t : CoreState) → t.stable ≡ s.stable → IsGood t → Owned n t Client (rest t)) → Owned n s Client (renewing l who rest)
renewing_own n s l Client who rest good each later =
    let ds = renewals l who in
    let t = all_done n s ds in
    let first = renews_own n s l Client who each in
    let second = later t (stable_kept n s l who) (deeds_good n s ds good first.0) in
    let es = deeds_of n t (rest t) in
    (fit_append n s ds es first.0 second.0, by_append n s Client ds es first.1 second.1)

-- ---- who is named, once a lease is renewed

number_as : (s t : CoreState) (clientid : ℕ) → t.stable ≡ s.stable → number_in t clientid ≡ number_in s clientid
number_as s t clientid e = ap (λ (x : Stable). if clientid / 2 ^ 32 == x.epoch then Some (clientid % 2 ^ 32) else None) e

pub named_as : (s t : CoreState) (l : NfsLists) (clientid : ℕ) (id : List ℕ) → t.stable ≡ s.stable → is_named t l clientid true id → is_named s l clientid true id
named_as s t l clientid id e is = ap (λ (o : Option ℕ). option_map (λ r. r.id) (option_and_then (λ m. find (is_client m true) l.clients) o)) (sym (number_as s t clientid e)) ∙ is

other_as : (s t : CoreState) (other : List ℕ) → t.stable ≡ s.stable → number_in_other t other ≡ number_in_other s other
unfolding number_in_other
other_as s t other e = ap (λ (x : Stable). if from_be_bytes w32 (take 4 other) == x.epoch then Some (from_be_bytes w64 (drop 4 other)) else None) e

pub holder_as : (s t : CoreState) (l : NfsLists) (stateid : Stateid) (id : List ℕ) → t.stable ≡ s.stable → is_holder t l stateid id → is_holder s l stateid id
holder_as s t l stateid id e is = ap (λ (o : Option ℕ). option_map (λ r. r.id) (option_and_then (λ m. find (is_client m true) l.clients) (state_numbered l o))) (sym (other_as s t stateid.other e)) ∙ is

pub by_number : (l : NfsLists) (o : Option ℕ) (number : ℕ) (r : ClientRow) → o ≡ Some number → find (is_client number true) l.clients ≡ Some r → option_map (λ c. c.id) (option_and_then (λ m. find (is_client m true) l.clients) o) ≡ Some r.id
by_number l o number r e found = ap (λ (x : Option ℕ). option_map (λ c. c.id) (option_and_then (λ m. find (is_client m true) l.clients) x)) e ∙ ap (λ (x : Option ClientRow). option_map (λ c. c.id) x) found

-- ---- shares

share_is : (s : CoreState) (o : Opener) (file : ℕ) (number : Option ℕ) (claim : Claim) → IsGood s → number_of (NfsShare o.id o.owner) s.names ≡ number → share_by s.claims file number ≡ Some claim → IsFitDeed s (GivesBack claim) × IsOf s (NfsParty o.id) (GivesBack claim)
share_is s o file None claim good known e = absurd cc
share_is s o file (Some number) claim good known e =
    let found = found_in (is_share_of file (owners.Name Nfs number)) s.claims claim e in
    let parts = and_parts (is_of file (owners.Name Nfs number) claim) (is_share claim.what) found.1 in
    let owner = (is_of-true file (owners.Name Nfs number) claim parts.0).1 in
    let kept = (all_in (IsHeld s.names) claim s.claims good.known found.0).1 in
    ((found.0, share_given claim.what parts.1), party_of_owner s.names (NfsShare o.id o.owner) (NfsParty o.id) number claim.party good.distinct known refl (subst (λ (x : Owner). are_kept s.names x claim.party ≡ true) owner kept))

held_is : (s : CoreState) (o : Opener) (file : ℕ) (claim : Claim) → IsGood s → share_held s o file ≡ Some claim → IsFitDeed s (GivesBack claim) × IsOf s (NfsParty o.id) (GivesBack claim)
unfolding share_held
held_is s o file claim good e = share_is s o file (number_of (NfsShare o.id o.owner) s.names) claim good refl e

pub gives_own : (n : ℕ) (s : CoreState) (Client : List ℕ → Type 0) (share : Option Claim) → ((claim : Claim) → share ≡ Some claim → IsFitDeed s (GivesBack claim) × IsBy s Client (GivesBack claim)) → AreFit n s (gives share) × AreBy n s Client (gives share)
gives_own n s Client None each = (tt, tt)
gives_own n s Client (Some claim) each = let one = each claim refl in ((one.0, tt), (one.1, tt))

given_is : (n : ℕ) (s : CoreState) (share : Option Claim) → given_up s share ≡ all_done n s (gives share)
given_is n s None = refl
given_is n s (Some claim) = refl

held_own : (n : ℕ) (s : CoreState) (Client : List ℕ → Type 0) (o : Opener) (file : ℕ) → IsGood s → Client o.id → AreFit n s (gives (share_held s o file)) × AreBy n s Client (gives (share_held s o file))
held_own n s Client o file good is = gives_own n s Client (share_held s o file) (λ claim e. (let one = held_is s o file claim good e in (one.0, (o.id, is, one.1))))

pub all_given : (n : ℕ) (s : CoreState) (Client : List ℕ → Type 0) (o : Opener) (rows : List StateidRow) → IsGood s → Client o.id → AreFit n s (gives_all s o rows) × AreBy n s Client (gives_all s o rows)
all_given n s Client o [] good is = (tt, tt)
all_given n s Client o (r ∷ rs) good is =
    let share = share_held s o r.file in
    let first = held_own n s Client o r.file good is in
    let left : IsGood (given_up s share) = subst (λ (t : CoreState). IsGood t) (sym (given_is n s share)) (deeds_good n s (gives share) good first.0) in
    let second = all_given n (given_up s share) Client o rs left is in
    let es = gives_all (given_up s share) o rs in (
      fit_append n s (gives share) es first.0 (subst (λ (t : CoreState). AreFit n t es) (given_is n s share) second.0),
      by_append n s Client (gives share) es first.1 (subst (λ (t : CoreState). AreBy n t Client es) (given_is n s share) second.1),
    )

-- ---- OPEN

granted_own : (n : ℕ) (s : CoreState) (l : NfsLists) (o : Opener) (a : OpenArgsItem) (file : ℕ) (confirmed : Bool) (Client : List ℕ → Type 0) (write : Option Bool) (r : Option StateidRow) → Owned n s Client (granted_by s l o a file confirmed write r)
granted_own n s l o a file confirmed Client None None = ((tt, tt), (tt, tt))
granted_own n s l o a file confirmed Client (Some write) None = ((tt, (tt, tt)), (tt, (tt, tt)))
granted_own n s l o a file confirmed Client None (Some r) = (tt, tt)
granted_own n s l o a file confirmed Client (Some write) (Some r) = ((tt, tt), (tt, tt))

answered_own : (n : ℕ) (l : NfsLists) (current : Option ℕ) (o : Opener) (a : OpenArgsItem) (file : ℕ) (confirmed : Bool) (Client : List ℕ → Type 0) (wish : Option Bool) (answer : Answer) (s : CoreState) → Owned n s Client (answered l current o a file confirmed wish answer s)
answered_own n l current o a file confirmed Client wish answer s =
    elim (cases_Bool (is_granted answer)) [
      | inl e ↦ rw e (granted_own n s l o a file (confirmed || reclaims a.claim) Client (granted_wish s o file wish) (open_held l o file))
      | inr e ↦ rw e (tt, tt)
    ]

pub ask_fits : (wish : Option Bool) (o : Opener) (a : OpenArgsItem) (file : ℕ) → IsFit (share_ask wish o a file)
unfolding share_ask
ask_fits wish o a file = record { act = tt; own = refl; party = own_client o.id; wish = wished_fit o.id wish }

ask_party : (s : CoreState) (wish : Option Bool) (o : Opener) (a : OpenArgsItem) (file : ℕ) → IsOf s (NfsParty o.id) (Asks all_rooms (share_ask wish o a file))
unfolding share_ask
ask_party s wish o a file = refl

on_own : (n : ℕ) (others : ℕ) (s : CoreState) (l : NfsLists) (current : Option ℕ) (o : Opener) (a : OpenArgsItem) (confirmed : Bool) (file : ℕ) (Client : List ℕ → Type 0) → Client o.id → Owned n s Client (open_on others s l current o a confirmed file)
on_own n others s l current o a confirmed file Client is =
    elim (cases_Bool (has_room others l o file)) [
      | inl e ↦ rw e (let wish = wish_of s l o a confirmed file in let r = ask n all_rooms s (share_ask wish o a file) in let rest = answered_own n l current o a file confirmed Client wish r.0 r.2 in ((ask_fits wish o a file, rest.0), ((o.id, is, ask_party s wish o a file), rest.1)))
      | inr e ↦ rw e (tt, tt)
    ]

by_own : (n : ℕ) (others : ℕ) (s : CoreState) (l : NfsLists) (current : Option ℕ) (o : Opener) (a : OpenArgsItem) (confirmed : Bool) (Client : List ℕ → Type 0) (r : Result ℕ NfsStatus) → Client o.id → Owned n s Client (open_by others s l current o a confirmed r)
by_own n others s l current o a confirmed Client (Ok file) is = on_own n others s l current o a confirmed file Client is
by_own n others s l current o a confirmed Client (Err status) is = (tt, tt)

as_own : (n : ℕ) (files : List (List ℕ)) (others : ℕ) (s : CoreState) (l : NfsLists) (current : Option ℕ) (at : ℕ) (o : Opener) (a : OpenArgsItem) (confirmed : Bool) (Client : List ℕ → Type 0) → Client o.id → Owned n s Client (open_as files others s l current at o a confirmed)
unfolding open_as
as_own n files others s l current at o a confirmed Client is = by_own n others s l current o a confirmed Client (opened_file files s l o.client at a) is

pub repeat_own : (n : ℕ) (s : CoreState) (l : NfsLists) (current : Option ℕ) (Client : List ℕ → Type 0) (o : Option KeptRow) → Owned n s Client (repeated s l current o)
repeat_own n s l current Client None = (tt, tt)
repeat_own n s l current Client (Some k) = (tt, tt)

judged_own : (n : ℕ) (files : List (List ℕ)) (others : ℕ) (s : CoreState) (l : NfsLists) (current : Option ℕ) (at : ℕ) (o : Opener) (a : OpenArgsItem) (Client : List ℕ → Type 0) (j : Judged) → IsGood s → Client o.id → Owned n s Client (open_judged files others s l current at o a j)
judged_own n files others s l current at o a Client judgements.Bad good is = (tt, tt)
judged_own n files others s l current at o a Client (judgements.Repeats number) good is = repeat_own n s l current Client (find (is_kept number) l.kept)
judged_own n files others s l current at o a Client (judgements.Anew number) good is =
    let ds = gives_all s o (filter (is_whose (whose.Owner number)) l.stateids) in
    let t = all_done n s ds in
    let first = all_given n s Client o (filter (is_whose (whose.Owner number)) l.stateids) good is in
    let second = as_own n files others t (without_owner number l) current at o a false Client is in
    let es = deeds_of n t (open_as files others t (without_owner number l) current at o a false) in
    (fit_append n s ds es first.0 second.0, by_append n s Client ds es first.1 second.1)
judged_own n files others s l current at o a Client judgements.New good is = as_own n files others s l current at o a false Client is
judged_own n files others s l current at o a Client judgements.Next good is = as_own n files others s l current at o a true Client is

at_own : (n : ℕ) (files : List (List ℕ)) (others : ℕ) (s : CoreState) (l : NfsLists) (a : OpenArgsItem) (current : Option ℕ) (Client : List ℕ → Type 0) → IsGood s → ((id : List ℕ) → is_named s l a.owner.clientid true id → Client id) → Owned n s Client (open_at files others s l a current)
at_own n files others s l a None Client good each = (tt, tt)
at_own n files others s l a (Some at) Client good each = by (client_in s l a.owner.clientid) refl
  where
    by : (c : Option ClientRow) → client_in s l a.owner.clientid ≡ c → Owned n s Client (open_of files others s l (Some at) at a c)
    by None e = (tt, tt)
    by (Some c) e = judged_own n files others s l (Some at) at (opener_of c a) a Client (judged l (opener_of c a) a.seqid) good (each c.id (ap (λ (o : Option ClientRow). option_map (λ r. r.id) o) e))

claimant : (s t : CoreState) (l : NfsLists) (claim : OpenClaimItem) (number : ℕ) (r : ClientRow) → t.stable ≡ s.stable → claim_client t l claim ≡ Some number → find (is_client number true) l.clients ≡ Some r → is_claimant s l claim r.id
claimant s t l (DelegateCurrent a) number r stable e found = holder_as s t l a.stateid r.id stable (by_number l (state_client t l a.stateid) number r e found)
claimant s t l (Null name) number r stable e found = absurd cc
claimant s t l (Previous type) number r stable e found = absurd cc
claimant s t l (DelegatePrevious name) number r stable e found = absurd cc

pub open_own : (n : ℕ) (files : List (List ℕ)) (others : ℕ) (s : CoreState) (l : NfsLists) (current : Option ℕ) (a : OpenArgsItem) → IsGood s → Owned n s (Names s l (Open a)) (open_file files others s l current a)
unfolding open_file open_claimed
open_own n files others s l current a good =
    let Client = Names s l (Open a) in
    let who = number_in s a.owner.clientid in
    renewing_own n s l Client who (λ t. renewing l (claim_client t l a.claim) (λ u. open_at files others u l a current)) good (λ number r e found. inl (by_number l who number r e found))
    (λ t stable left. renewing_own n t l Client (claim_client t l a.claim) (λ u. open_at files others u l a current) left (λ number r e found. inr (claimant s t l a.claim number r stable e found))
    (λ u next kept. at_own n files others u l a current Client kept (λ id is. inl (named_as s u l a.owner.clientid id (next ∙ stable) is))))

-- ---- what names an open

pub checked_client : (kind : OwnerKind) (s : CoreState) (l : NfsLists) (current : Option ℕ) (op seqid : ℕ) (stateid : Stateid) (r : StateidRow) (w : ℕ) (t : SeqidState) → checked_as kind s l current op seqid stateid ≡ Passed r w t → state_client s l stateid ≡ Some r.client
checked_client kind s l current op seqid stateid r w t e =
    passes (λ x u v. state_client s l stateid ≡ Some x.client) kind s l current op seqid stateid (λ x u o file is live next. ap (λ (y : Option ℕ). state_numbered l y) is.number ∙ (ap client_if_live is.found ∙ rw live refl)) r w t e

-- ---- CLOSE and the others

opener_held : (s : CoreState) (Client : List ℕ → Type 0) (file : ℕ) (c : Option ClientRow) (o : Option OwnerRow) (claim : Claim) → IsGood s → ((r : ClientRow) → c ≡ Some r → Client r.id) → share_by_opener s file (opener_named c o) ≡ Some claim
    → IsFitDeed s (GivesBack claim) × ((id : List ℕ) × Client id × (party_named s.names (NfsParty id) ≡ Some claim.party))
opener_held s Client file None o claim good each e = absurd cc
opener_held s Client file (Some c) None claim good each e = absurd cc
opener_held s Client file (Some c) (Some o) claim good each e =
    let one = held_is s (record { client = c.number; id = c.id; verifier = c.details.verifier; kind = o.name.kind; owner = o.name.owner }) file claim good e in
    (one.0, (c.id, each c refl, one.1))

pub open_share : (s : CoreState) (l : NfsLists) (Client : List ℕ → Type 0) (r : StateidRow) (owner : ℕ) (claim : Claim) → IsGood s → ((c : ClientRow) → find (is_client r.client true) l.clients ≡ Some c → Client c.id) → share_of_open s l r owner ≡ Some claim
    → IsFitDeed s (GivesBack claim) × ((id : List ℕ) × Client id × (party_named s.names (NfsParty id) ≡ Some claim.party))
unfolding opener_by
open_share s l Client r owner claim good each e = opener_held s Client r.file (find (is_client r.client true) l.clients) (find (is_owner owner) l.owners) claim good each e

pub state_own : (n : ℕ) (s : CoreState) (l : NfsLists) (stateid : Stateid) (by : CoreState → Plan) → IsGood s
    → ((t : CoreState) → t.stable ≡ s.stable → IsGood t → Owned n t (λ id. is_holder s l stateid id) (by t)) → Owned n s (λ id. is_holder s l stateid id) (renewing l (state_client s l stateid) by)
state_own n s l stateid by good each = renewing_own n s l (λ id. is_holder s l stateid id) (state_client s l stateid) by good (λ number r e found. by_number l (state_client s l stateid) number r e found) each

confirm_done_own : (n : ℕ) (s : CoreState) (l : NfsLists) (current : Option ℕ) (a : OpenConfirmArgs) (r : StateidRow) (owner : ℕ) (seqids : SeqidState) (Client : List ℕ → Type 0) (o : Option NfsStatus) → Owned n s Client (confirm_done s l current a r owner seqids o)
confirm_done_own n s l current a r owner seqids Client None = (tt, tt)
confirm_done_own n s l current a r owner seqids Client (Some status) = (tt, tt)

-- a request on a stateid is by the client that this names
pub counts_own : (n : ℕ) (s : CoreState) (l : NfsLists) (current : Option ℕ) (kind : OwnerKind) (op seqid : ℕ) (stateid : Stateid) (rest : CoreState → StateidRow → ℕ → SeqidState → Plan) → IsGood s
    → ((t : CoreState) (r : StateidRow) (w : ℕ) (v : SeqidState) → IsGood t → ((x : ClientRow) → find (is_client r.client true) l.clients ≡ Some x → is_holder s l stateid x.id) → Owned n t (λ id. is_holder s l stateid id) (rest t r w v))
    → Owned n s (λ id. is_holder s l stateid id) (renewing l (state_client s l stateid) (λ t. counts t l current (rest t) (checked_as kind t l current op seqid stateid)))
counts_own n s l current kind op seqid stateid rest good each =
    state_own n s l stateid (λ t. counts t l current (rest t) (checked_as kind t l current op seqid stateid)) good (λ t stable left. by t stable left (checked_as kind t l current op seqid stateid) refl)
  where
    by : (t : CoreState) → t.stable ≡ s.stable → IsGood t → (c : Checked) → checked_as kind t l current op seqid stateid ≡ c → Owned n t (λ id. is_holder s l stateid id) (counts t l current (rest t) c)
    by t stable left (Refused status) e = (tt, tt)
    by t stable left (Repeated owner) e = repeat_own n t l current (λ id. is_holder s l stateid id) (find (is_kept owner) l.kept)
    by t stable left (Passed r w v) e = each t r w v left (λ x there. holder_as s t l stateid x.id stable (by_number l (state_client t l stateid) r.client x (checked_client kind t l current op seqid stateid r w v e) there))

pub confirm_own : (n : ℕ) (s : CoreState) (l : NfsLists) (current : Option ℕ) (a : OpenConfirmArgs) → IsGood s → Owned n s (Names s l (OpenConfirm a)) (open_confirm s l current a)
unfolding open_confirm
confirm_own n s l current a good =
    counts_own n s l current kinds.Open 20 a.seqid a.stateid (λ t r w v. confirm_done t l current a r w v (standing_fault r v a.stateid.seqid false)) good
    (λ t r w v left each. confirm_done_own n t l current a r w v (λ id. is_holder s l a.stateid id) (standing_fault r v a.stateid.seqid false))

weakens_own : (n : ℕ) (s : CoreState) (Client : List ℕ → Type 0) (share : Option Claim) (access deny : Rwd) → ((claim : Claim) → share ≡ Some claim → IsIn claim s.claims × ((id : List ℕ) × Client id × (party_named s.names (NfsParty id) ≡ Some claim.party))) → AreFit n s (weakens share access deny) × AreBy n s Client (weakens share access deny)
weakens_own n s Client None access deny each = (tt, tt)
weakens_own n s Client (Some claim) access deny each =
    elim (cases_Bool (share_has claim.what access deny)) [
      | inl e ↦ (let one = each claim refl in rw e (((one.0, e), tt), (one.1, tt)))
      | inr e ↦ rw e (tt, tt)
    ]

downgrade_done_own : (n : ℕ) (s : CoreState) (l : NfsLists) (current : Option ℕ) (a : OpenDowngradeArgs) (r : StateidRow) (owner : ℕ) (seqids : SeqidState) (Client : List ℕ → Type 0) (o : Option NfsStatus) → IsGood s → ((c : ClientRow) → find (is_client r.client true) l.clients ≡ Some c → Client c.id) → Owned n s Client (downgrade_done s l current a r owner seqids o)
downgrade_done_own n s l current a r owner seqids Client None good each = weakens_own n s Client (share_of_open s l r owner) (rights_of a.access) (rights_of a.deny) (λ claim h. (let one = open_share s l Client r owner claim good each h in (one.0.0, one.1)))
downgrade_done_own n s l current a r owner seqids Client (Some status) good each = (tt, tt)

pub downgrade_own : (n : ℕ) (s : CoreState) (l : NfsLists) (current : Option ℕ) (a : OpenDowngradeArgs) → IsGood s → Owned n s (Names s l (OpenDowngrade a)) (open_downgrade s l current a)
unfolding open_downgrade
downgrade_own n s l current a good =
    counts_own n s l current kinds.Open 21 a.seqid a.stateid (λ t r w v. downgrade_done t l current a r w v (downgrade_fault r v a)) good
    (λ t r w v left each. downgrade_done_own n t l current a r w v (λ id. is_holder s l a.stateid id) (downgrade_fault r v a) left each)

pub no_range : (w : What) → is_cache w ≡ true → is_range w ≡ false
no_range (whats.Cache kind running) h = refl
no_range (whats.Share access deny) h = absurd (true≢false (sym h))
no_range (whats.Range extent exclusive) h = absurd (true≢false (sym h))

-- the cache of a client is its
cache_is : (s : CoreState) (id : List ℕ) (file : ℕ) (party : Option Party) (claim : Claim) → party_named s.names (NfsParty id) ≡ party → cache_by s.claims file party ≡ Some claim → IsFitDeed s (GivesBack claim) × IsOf s (NfsParty id) (GivesBack claim)
cache_is s id file None claim named e = absurd cc
cache_is s id file (Some party) claim named e =
    let found = found_in (is_cache_on file party) s.claims claim e in
    let parts = and_parts (is_cache claim.what) ((claim.file == file) && same_parties claim.party party) found.1 in
    let whose = same_parties-true claim.party party (and_parts (claim.file == file) (same_parties claim.party party) parts.1).1 in
    ((found.0, no_range claim.what parts.0), named ∙ ap (λ (p : Party). Some p) (sym whose))

held_cache : (s : CoreState) (id : List ℕ) (file : ℕ) (claim : Claim) → cache_held s id file ≡ Some claim → IsFitDeed s (GivesBack claim) × IsOf s (NfsParty id) (GivesBack claim)
unfolding cache_held
held_cache s id file claim e = cache_is s id file (party_named s.names (NfsParty id)) claim refl e

client_cache : (s : CoreState) (Client : List ℕ → Type 0) (file : ℕ) (c : Option ClientRow) (claim : Claim) → ((r : ClientRow) → c ≡ Some r → Client r.id) → cache_of_client s file c ≡ Some claim → IsFitDeed s (GivesBack claim) × IsBy s Client (GivesBack claim)
client_cache s Client file None claim each e = absurd cc
client_cache s Client file (Some c) claim each e = (let one = held_cache s c.id file claim e in (one.0, (c.id, each c refl, one.1)))

pub return_done_own : (n : ℕ) (s : CoreState) (l : NfsLists) (current : Option ℕ) (Client : List ℕ → Type 0) (x : Returning) → ((r : StateidRow) (c : ClientRow) → x ≡ Ok r → find (is_client r.client true) l.clients ≡ Some c → Client c.id) → Owned n s Client (return_done s l current x)
return_done_own n s l current Client (Err status) each = (tt, tt)
return_done_own n s l current Client (Ok r) each = gives_own n s Client (cache_of s l r) (λ claim e. client_cache s Client r.file (find (is_client r.client true) l.clients) claim (λ c found. each r c refl found) e)

-- the stateid names the delegation's client
returned_client : (s : CoreState) (l : NfsLists) (current : Option ℕ) (stateid : Stateid) (r : StateidRow) → returned s l current stateid ≡ Ok r → state_client s l stateid ≡ Some r.client
unfolding returned
returned_client s l current stateid r e = finds (λ (x : Returning). state_returned stateid.seqid x ≡ Ok r → state_client s l stateid ≡ Some r.client) s l current stateid (λ _ f. absurd cc) (λ _ _ f. absurd cc) (λ f. absurd cc) by e
  where
    by : (x : StateidRow) → current ≡ Some x.file → number_in_other s stateid.other ≡ Some x.number → find (is_stateid x.number) l.stateids ≡ Some x → state_returned stateid.seqid (Ok x) ≡ Ok r → state_client s l stateid ≡ Some r.client
    by x file number there f = (let is = returns_is x r stateid.seqid f in ap (λ (y : Option ℕ). state_numbered l y) number ∙ (ap client_if_live there ∙ rw is.1 (ap (λ (y : StateidRow). Some y.client) is.0)))

pub return_own : (n : ℕ) (s : CoreState) (l : NfsLists) (current : Option ℕ) (stateid : Stateid) → IsGood s → Owned n s (Names s l (DelegReturn stateid)) (deleg_return s l current stateid)
unfolding deleg_return
return_own n s l current stateid good = state_own n s l stateid (λ t. return_done t l current (returned t l current stateid)) good
    (λ t stable left. return_done_own n t l current (λ id. is_holder s l stateid id) (returned t l current stateid)
    (λ r c e found. holder_as s t l stateid c.id stable (by_number l (state_client t l stateid) r.client c (returned_client t l current stateid r e) found)))
