-- Names that are kept: claims of known clients stay known, an owner has one client, and who asks is known.
use Rattle.std.proofs.Common.{◌≡◌, ℕ, zero, suc, ◌+◌, ◌≤◌, Bool, true, false, not, ◌-◌, ◌^◌, ◌==◌, if◌then◌else◌, ◌&&◌, ◌||◌, List, [], ◌∷◌, ◌++◌, length, Option, Some, None, inl, inr, refl, sym, ap, ◌∙◌, slice_get, arith}
use Rattle.std.specs.List.{AllByRecursion}
use Rattle.std.proofs.lemmas.Bool.{cases_Bool, both_ways, and_parts, and_from, eqb-true, eq-eqb}
use Rattle.std.proofs.lemmas.List.{length-append}
use Rattle.std.proofs.lemmas.List.Folds.{list_any-append}
use Rattle.std.proofs.lemmas.Option.{same_Some}
use Rattle.xl_base.specs.Stable.{same_protocol}
use Rattle.xl_base.specs.declared.name.Owner.{Owner}
use Rattle.xl_base.specs.declared.name.Owner.TheVariants as owners
use Rattle.xl_base.specs.declared.name.Party.{Party}
use Rattle.xl_base.specs.declared.name.Party.TheVariants as parties
use Rattle.xl_base.specs.declared.name.Protocol.{Protocol}
use Rattle.xl_base.specs.declared.name.Protocol.TheVariants.{Nlm, Nfs, Smb}
use Rattle.xl_base.proofs.Members.{all_weaker}
use Rattle.xl_matrix.specs.Owners.{posix}
use Rattle.xl_matrix.specs.declared.claim.Claim.{Claim}
use Rattle.xl_matrix.specs.declared.claim.Extent.TheVariants.{Bytes, Empty}
use Rattle.xl_matrix.specs.declared.claim.What.{What}
use Rattle.xl_matrix.specs.declared.claim.What.TheVariants.{Share, Range, Cache}
use Rattle.xl_names.specs.Names.{protocol_of, same_name, number_of, place_of, is_kept, entered, AreDistinct, most_names}
use Rattle.xl_names.specs.declared.name.Name.{Name}
use Rattle.xl_names.specs.declared.name.Name.TheVariants.{NlmRange, NlmShare, NlmParty, NfsRange, NfsShare, NfsParty, SmbLease}
use Rattle.xl_names.proofs.NameLaws.{same_name_is, same_name_self, kept_from_number, number_at, name_at, number_entered, distinct_entered}
use Rattle.xl_wait.specs.declared.waiter.Waiter.{Waiter}
use Rattle.xl_core.specs.Askers.{owner_in, party_in, who_entered, asker, asking_party, both_entered, coming, asked_claim, asked_claims, no_number, number_or, known_owner, known_party, client_of, is_name, is_lease, is_client, is_named, may_hold}
use Rattle.xl_table.specs.Held.{IsShareOrLock, may_own}
use Rattle.xl_core.specs.Good.{agree, is_lease_of, are_kept, IsKnown, IsHeld, IsWaiter}
use Rattle.xl_core.specs.declared.ask.Ask.{Ask}
use Rattle.xl_core.specs.declared.ask.Who.{Who}
use Rattle.xl_core.specs.declared.ask.Who.TheVariants.{Named, Open}

-- ---- names keep their numbers

-- each number of the first list's has its name in the second
abbrev pub GoOn : List Name → List Name → Type 0
GoOn names more = (number : ℕ) (name : Name) → slice_get names number ≡ Some name → slice_get more number ≡ Some name

get_push : (names more : List Name) (number : ℕ) (name : Name) → slice_get names number ≡ Some name → slice_get (names ++ more) number ≡ Some name
get_push [] more number name h = cc
get_push (n ∷ ns) more zero name h = h
get_push (n ∷ ns) more (suc number) name h = get_push ns more number name h

pub entered_goes_on : (name : Name) (names : List Name) → GoOn names (entered name names)
entered_goes_on name names number other h =
    elim (cases_Bool (is_kept name names)) [
      | inl old ↦ rw old h
      | inr new ↦ rw new (get_push names (name ∷ []) number other h)
    ]

pub who_goes_on : (who : Who) (names : List Name) → GoOn names (who_entered who names)
who_goes_on (Named name) names = entered_goes_on name names
who_goes_on (Open number) names = λ at name h. h

pub both_go_on : (a : Ask) (names : List Name) → GoOn names (both_entered a names)
both_go_on a names number name h = who_goes_on a.party (who_entered a.owner names) number name (who_goes_on a.owner names number name h)

pub who_distinct : (who : Who) (names : List Name) → AreDistinct names → AreDistinct (who_entered who names)
who_distinct (Named name) names ok = distinct_entered names name ok
who_distinct (Open number) names ok = ok

pub both_distinct : (a : Ask) (names : List Name) → AreDistinct names → AreDistinct (both_entered a names)
both_distinct a names ok = who_distinct a.party (who_entered a.owner names) (who_distinct a.owner names ok)

-- ---- what it is to be known

-- the owner and the party with the names of these numbers, of which the second is the first one's client
pub record AreNamed (names : List Name) (owner : Owner) (party : Party) : Type 0 where
  pub number : ℕ
  pub at : ℕ
  pub name : Name
  pub client : Name
  pub owner_is : owner ≡ owners.Name (protocol_of name) number
  pub party_is : party ≡ parties.Name (protocol_of client) at
  pub owner_at : slice_get names number ≡ Some name
  pub party_at : slice_get names at ≡ Some client
  pub client_is : client_of name ≡ Some client

same_protocol_is : (p q : Protocol) → same_protocol p q ≡ true → p ≡ q
same_protocol_is Nlm Nlm h = refl
same_protocol_is Nfs Nfs h = refl
same_protocol_is Smb Smb h = refl
same_protocol_is Nlm Nfs h = absurd (both_ways false refl h)
same_protocol_is Nlm Smb h = absurd (both_ways false refl h)
same_protocol_is Nfs Nlm h = absurd (both_ways false refl h)
same_protocol_is Nfs Smb h = absurd (both_ways false refl h)
same_protocol_is Smb Nlm h = absurd (both_ways false refl h)
same_protocol_is Smb Nfs h = absurd (both_ways false refl h)

same_protocol_self : (p : Protocol) → same_protocol p p ≡ true
same_protocol_self Nlm = refl
same_protocol_self Nfs = refl
same_protocol_self Smb = refl

is_name_is : (o : Option Name) (name : Name) → is_name o name ≡ true → o ≡ Some name
is_name_is None name h = absurd (both_ways false refl h)
is_name_is (Some client) name h = ap Some (same_name_is client name h)

agree_parts : (protocol other : Protocol) (o p : Option Name) → agree protocol other o p ≡ true → (name : Name) × (client : Name) × (o ≡ Some name) × (p ≡ Some client) × (protocol ≡ protocol_of name) × (other ≡ protocol_of client) × (client_of name ≡ Some client)
agree_parts protocol other None p h = absurd (both_ways false refl h)
agree_parts protocol other (Some name) None h = absurd (both_ways false refl h)
agree_parts protocol other (Some name) (Some client) h =
    let one = and_parts (same_protocol protocol (protocol_of name)) (same_protocol other (protocol_of client) && is_name (client_of name) client) h in
    let two = and_parts (same_protocol other (protocol_of client)) (is_name (client_of name) client) one.1 in
    (name, client, refl, refl, same_protocol_is protocol (protocol_of name) one.0, same_protocol_is other (protocol_of client) two.0, is_name_is (client_of name) client two.1)

pub kept_named : (names : List Name) (protocol : Protocol) (number : ℕ) (party : Party) → are_kept names (owners.Name protocol number) party ≡ true → AreNamed names (owners.Name protocol number) party
kept_named names protocol number (parties.Name other at) h =
    let parts = agree_parts protocol other (slice_get names number) (slice_get names at) h in
    record {
      number = number;
      at = at;
      name = parts.0;
      client = parts.1;
      owner_is = ap (λ (p : Protocol). owners.Name p number) parts.4;
      party_is = ap (λ (p : Protocol). parties.Name p at) parts.5;
      owner_at = parts.2;
      party_at = parts.3;
      client_is = parts.6;
    }
kept_named names protocol number (parties.Open at) h = absurd (both_ways false refl h)

lease_parts : (protocol : Protocol) (o : Option Name) → is_lease_of protocol o ≡ true → (name : Name) × (o ≡ Some name) × (protocol ≡ protocol_of name) × (is_lease name ≡ true)
lease_parts protocol None h = absurd (both_ways false refl h)
lease_parts protocol (Some name) h =
    let parts = and_parts (same_protocol protocol (protocol_of name)) (is_lease name) h in
    (name, refl, same_protocol_is protocol (protocol_of name) parts.0, parts.1)

lease_self : (name : Name) → is_lease name ≡ true → is_lease_of (protocol_of name) (Some name) ≡ true
lease_self name h = and_from _ _ (same_protocol_self (protocol_of name)) h

agree_self : (name client : Name) → client_of name ≡ Some client → agree (protocol_of name) (protocol_of client) (Some name) (Some client) ≡ true
agree_self name client is =
    and_from _ _ (same_protocol_self (protocol_of name)) (and_from _ _ (same_protocol_self (protocol_of client)) (ap (λ (o : Option Name). is_name o client) is ∙ same_name_self client))

pub kept_from : (names : List Name) (owner : Owner) (party : Party) → AreNamed names owner party → are_kept names owner party ≡ true
kept_from names owner party is =
    ap (λ (o : Owner). are_kept names o party) is.owner_is
    ∙ ap (λ (p : Party). are_kept names (owners.Name (protocol_of is.name) is.number) p) is.party_is
    ∙ ap (λ (o : Option Name). agree (protocol_of is.name) (protocol_of is.client) o (slice_get names is.at)) is.owner_at
    ∙ ap (λ (o : Option Name). agree (protocol_of is.name) (protocol_of is.client) (Some is.name) o) is.party_at
    ∙ agree_self is.name is.client is.client_is

open_kept : (names : List Name) (number : ℕ) → are_kept names (owners.Open number) (parties.Open number) ≡ true
open_kept names number = eq-eqb number number refl

-- an open's party stays known: it is the open, or a lease whose name is kept
open_on : (names more : List Name) (number : ℕ) (party : Party) → GoOn names more → are_kept names (owners.Open number) party ≡ true → are_kept more (owners.Open number) party ≡ true
open_on names more number (parties.Open other) on h = h
open_on names more number (parties.Name protocol at) on h =
    let parts = lease_parts protocol (slice_get names at) h in
    ap (λ (o : Option Name). is_lease_of protocol o) (on at parts.0 parts.1) ∙ ap (λ (p : Protocol). is_lease_of p (Some parts.0)) parts.2 ∙ lease_self parts.0 parts.3

pub kept_on : (names more : List Name) (owner : Owner) (party : Party) → GoOn names more → are_kept names owner party ≡ true → are_kept more owner party ≡ true
kept_on names more (owners.Open number) party on h = open_on names more number party on h
kept_on names more (owners.Name protocol number) party on h =
    let is = kept_named names protocol number party h in
    kept_from more (owners.Name protocol number) party (record {
      number = is.number;
      at = is.at;
      name = is.name;
      client = is.client;
      owner_is = is.owner_is;
      party_is = is.party_is;
      owner_at = on is.number is.name is.owner_at;
      party_at = on is.at is.client is.party_at;
      client_is = is.client_is;
    })

known_on : (names more : List Name) (cs : List Claim) → GoOn names more → AllByRecursion (IsKnown names) cs → AllByRecursion (IsKnown more) cs
known_on names more cs on all = all_weaker (IsKnown names) (IsKnown more) cs (λ c h. (h.0, kept_on names more c.owner c.party on h.1)) all

pub held_on : (names more : List Name) (cs : List Claim) → GoOn names more → AllByRecursion (IsHeld names) cs → AllByRecursion (IsHeld more) cs
held_on names more cs on all = all_weaker (IsHeld names) (IsHeld more) cs (λ c h. (h.0, kept_on names more c.owner c.party on h.1)) all

pub waiters_on : (names more : List Name) (counter next : ℕ) (ws : List Waiter) → GoOn names more → counter ≤ next → AllByRecursion (IsWaiter names counter) ws → AllByRecursion (IsWaiter more next) ws
waiters_on names more counter next ws on h all = all_weaker (IsWaiter names counter) (IsWaiter more next) ws (λ w is. (omega (arith, h, is.0), known_on names more w.asked on is.1, is.2, is.3)) all

number_same : (x y : Protocol) (n m : ℕ) → owners.Name x n ≡ owners.Name y m → n ≡ m
number_same x y n m e = cc

-- a POSIX owner has one party
pub one_party : (names : List Name) (owner : Owner) (p q : Party) → posix owner ≡ true → AreDistinct names → are_kept names owner p ≡ true → are_kept names owner q ≡ true → p ≡ q
one_party names (owners.Open number) p q own distinct h k = absurd (both_ways false refl own)
one_party names (owners.Name protocol own) p q named distinct h k =
    let a = kept_named names protocol own p h in
    let b = kept_named names protocol own q k in
    let number : a.number ≡ b.number = number_same (protocol_of a.name) (protocol_of b.name) a.number b.number (sym a.owner_is ∙ b.owner_is) in
    let name : a.name ≡ b.name = same_Some a.name b.name (sym a.owner_at ∙ ap (λ (n : ℕ). slice_get names n) number ∙ b.owner_at) in
    let client : a.client ≡ b.client = same_Some a.client b.client (sym a.client_is ∙ ap client_of name ∙ b.client_is) in
    let at : a.at ≡ b.at = same_Some a.at b.at (sym (number_at names a.client a.at distinct a.party_at) ∙ ap (λ (n : Name). number_of n names) client ∙ number_at names b.client b.at distinct b.party_at) in
    a.party_is ∙ ap (λ (n : Name). parties.Name (protocol_of n) a.at) client ∙ ap (λ (n : ℕ). parties.Name (protocol_of b.client) n) at ∙ sym b.party_is

-- ---- who asks is known

-- who asks has a name, and so has its client; or is an open, and its own party, or under a lease
pub data Asker (owner party : Who) : Type 0 where
  ByName : (name client : Name) → owner ≡ Named name → party ≡ Named client → client_of name ≡ Some client → Asker owner party
  AsOpen : (number : ℕ) → owner ≡ Open number → party ≡ Open number → Asker owner party
  UnderLease : (number : ℕ) (lease : Name) → owner ≡ Open number → party ≡ Named lease → is_lease lease ≡ true → Asker owner party

pub who_asks : (owner party : Who) → is_client owner party ≡ true → Asker owner party
who_asks (Named name) (Named client) h = ByName name client refl refl (is_name_is (client_of name) client h)
who_asks (Named name) (Open number) h = absurd (both_ways false refl h)
who_asks (Open number) (Named client) h = UnderLease number client refl refl h
who_asks (Open number) (Open other) h = AsOpen number refl (ap Open (sym (eqb-true number other h)))

pub is_client_is : (owner party : Who) → is_client owner party ≡ true → is_named owner ≡ true → (name : Name) × (client : Name) × (owner ≡ Named name) × (party ≡ Named client) × (client_of name ≡ Some client)
is_client_is (Named name) (Named client) h named = (name, client, refl, refl, is_name_is (client_of name) client h)
is_client_is (Named name) (Open number) h named = absurd (both_ways false refl h)
is_client_is (Open number) party h named = absurd (both_ways false refl named)

get_entered : (names : List Name) (name : Name) → slice_get (entered name names) (place_of name names) ≡ Some name
get_entered names name = name_at (entered name names) name (place_of name names) (number_entered names name)

names_entered : (names : List Name) (name client : Name) → client_of name ≡ Some client → AreNamed (who_entered (Named client) (who_entered (Named name) names)) (owner_in (Named name) names) (party_in (Named client) (who_entered (Named name) names))
names_entered names name client is = record {
  number = place_of name names;
  at = place_of client (entered name names);
  name = name;
  client = client;
  owner_is = refl;
  party_is = refl;
  owner_at = entered_goes_on client (entered name names) (place_of name names) name (get_entered names name);
  party_at = get_entered (entered name names) client;
  client_is = is;
}

pub asker_kept : (a : Ask) (names : List Name) → is_client a.owner a.party ≡ true → are_kept (both_entered a names) (asker a names) (asking_party a names) ≡ true
asker_kept a names h = by (who_asks a.owner a.party h) where
  same : (owner party : Who) → a.owner ≡ owner → a.party ≡ party
      → are_kept (both_entered a names) (asker a names) (asking_party a names) ≡ are_kept (who_entered party (who_entered owner names)) (owner_in owner names) (party_in party (who_entered owner names))
  same owner party e f =
      ap (λ (w : Who). are_kept (who_entered a.party (who_entered w names)) (owner_in w names) (party_in a.party (who_entered w names))) e
      ∙ ap (λ (w : Who). are_kept (who_entered w (who_entered owner names)) (owner_in owner names) (party_in w (who_entered owner names))) f

  by : Asker a.owner a.party → are_kept (both_entered a names) (asker a names) (asking_party a names) ≡ true
  by (ByName name client e f is) = same (Named name) (Named client) e f ∙ kept_from _ _ _ (names_entered names name client is)
  by (AsOpen number e f) = same (Open number) (Open number) e f ∙ open_kept names number
  by (UnderLease number lease e f is) =
      same (Open number) (Named lease) e f
      ∙ ap (λ (o : Option Name). is_lease_of (protocol_of lease) o) (get_entered names lease)
      ∙ lease_self lease is

pub client_posix : (name client : Name) → client_of name ≡ Some client → (number : ℕ) → posix (owners.Name (protocol_of name) number) ≡ true
client_posix (NlmRange caller svid oh) client is number = refl
client_posix (NfsRange owner name) client is number = refl
client_posix (NlmShare caller oh) client is number = refl
client_posix (NlmParty caller) client is number = cc
client_posix (NfsShare owner name) client is number = refl
client_posix (NfsParty owner) client is number = cc
client_posix (SmbLease guid key) client is number = cc

-- who has a name, and only who has one, is a POSIX owner
pub asker_named : (a : Ask) (names : List Name) → is_client a.owner a.party ≡ true → posix (asker a names) ≡ is_named a.owner
asker_named a names h = by (who_asks a.owner a.party h) where
  by : Asker a.owner a.party → posix (asker a names) ≡ is_named a.owner
  by (ByName name client e f is) = ap (λ (w : Who). posix (owner_in w names)) e ∙ client_posix name client is (place_of name names) ∙ sym (ap is_named e)
  by (AsOpen number e f) = ap (λ (w : Who). posix (owner_in w names)) e ∙ sym (ap is_named e)
  by (UnderLease number lease e f is) = ap (λ (w : Who). posix (owner_in w names)) e ∙ sym (ap is_named e)

pub asker_posix : (a : Ask) (names : List Name) → is_client a.owner a.party ≡ true → is_named a.owner ≡ true → posix (asker a names) ≡ true
asker_posix a names h named = asker_named a names h ∙ named

pub known_named : (a : Ask) (names : List Name) → is_client a.owner a.party ≡ true → posix (known_owner a.owner names) ≡ is_named a.owner
known_named a names h = by (who_asks a.owner a.party h) where
  by : Asker a.owner a.party → posix (known_owner a.owner names) ≡ is_named a.owner
  by (ByName name client e f is) = ap (λ (w : Who). posix (known_owner w names)) e ∙ client_posix name client is (number_or (number_of name names)) ∙ sym (ap is_named e)
  by (AsOpen number e f) = ap (λ (w : Who). posix (known_owner w names)) e ∙ sym (ap is_named e)
  by (UnderLease number lease e f is) = ap (λ (w : Who). posix (known_owner w names)) e ∙ sym (ap is_named e)

-- what may be asked for may be owned
asked_owned : (a : Ask) (what : What) (names : List Name) → is_client a.owner a.party ≡ true → may_hold a.owner what ≡ true → may_own (asker a names) what ≡ true
asked_owned a (Share access deny) names h may = refl
asked_owned a (Range (Bytes first last) exclusive) names h may = ap (λ (b : Bool). b || not ((first == 0) && (last == 2 ^ 64 - 1))) (asker_named a names h) ∙ may
asked_owned a (Range (Empty offset) exclusive) names h may = ap not (asker_named a names h) ∙ may
asked_owned a (Cache kind running) names h may = refl

-- the claim that is asked for is known once its names are entered
pub asked_known : (a : Ask) (what : What) (names : List Name) → is_client a.owner a.party ≡ true → may_hold a.owner what ≡ true → IsShareOrLock what → IsKnown (both_entered a names) (asked_claim a what names)
asked_known a what names h may order = ((order, asked_owned a what names h may), asker_kept a names h)

pub asked_all_known : (a : Ask) (ws : List What) (names : List Name) → is_client a.owner a.party ≡ true → AllByRecursion (λ (w : What). may_hold a.owner w ≡ true) ws → AllByRecursion (λ (w : What). IsShareOrLock w) ws → AllByRecursion (IsKnown (both_entered a names)) (asked_claims a ws names)
asked_all_known a [] names h own order = tt
asked_all_known a (w ∷ ws) names h own order = (asked_known a w names h own.0 order.0, asked_all_known a ws names h own.1 order.1)

-- ---- who asks, where no name is entered

pub get_none : (names : List Name) (number : ℕ) (name : Name) → length names ≤ number → slice_get names number ≡ Some name → ⊥
get_none [] number name h e = cc
get_none (n ∷ ns) zero name h e = omega (arith, h)
get_none (n ∷ ns) (suc number) name h e = get_none ns number name (omega (arith, h)) e

pub number_known : (names : List Name) (name : Name) (o : Option ℕ) → number_of name names ≡ o → length names ≤ most_names → (other : Name) → slice_get names (number_or o) ≡ Some other → (number_of name names ≡ Some (number_or o)) × (name ≡ other)
number_known names name None e room other h = absurd (get_none names no_number other (omega (arith, room)) h)
number_known names name (Some number) e room other h = (e, same_Some name other (sym (name_at names name number e) ∙ h))

pub known_posix : (a : Ask) (names : List Name) → is_client a.owner a.party ≡ true → is_named a.owner ≡ true → posix (known_owner a.owner names) ≡ true
known_posix a names h named =
    let is = is_client_is a.owner a.party h named in
    ap (λ (w : Who). posix (known_owner w names)) is.2 ∙ client_posix is.0 is.1 is.4 (number_or (number_of is.0 names))

-- an owner with a known party is the asker whose name is kept
pub known_owner_is : (a : Ask) (names : List Name) (party : Party) → length names ≤ most_names → is_client a.owner a.party ≡ true → are_kept names (known_owner a.owner names) party ≡ true → known_owner a.owner names ≡ asker a names
known_owner_is a names party room h kept = by (who_asks a.owner a.party h) where
  by : Asker a.owner a.party → known_owner a.owner names ≡ asker a names
  by (AsOpen number e f) = ap (λ (w : Who). known_owner w names) e ∙ sym (ap (λ (w : Who). owner_in w names) e)
  by (UnderLease number lease e f is) = ap (λ (w : Who). known_owner w names) e ∙ sym (ap (λ (w : Who). owner_in w names) e)
  by (ByName own client e f is) =
      let at = number_or (number_of own names) in
      let named = kept_named names (protocol_of own) at party (ap (λ (w : Who). are_kept names (known_owner w names) party) (sym e) ∙ kept) in
      let number = number_same (protocol_of own) (protocol_of named.name) at named.number named.owner_is in
      let name = number_known names own (number_of own names) refl room named.name (ap (λ (n : ℕ). slice_get names n) number ∙ named.owner_at) in
      let place = (kept_from_number own names at name.0).1 in
      ap (λ (w : Who). known_owner w names) e
      ∙ ap (λ (n : ℕ). owners.Name (protocol_of own) n) (sym place)
      ∙ sym (ap (λ (w : Who). owner_in w names) e)

-- a POSIX owner with a known party is the asker whose name is kept, and the party is the asker's
pub known_party_is : (a : Ask) (names : List Name) (party : Party) → posix (known_owner a.owner names) ≡ true → AreDistinct names → length names ≤ most_names → is_client a.owner a.party ≡ true → are_kept names (known_owner a.owner names) party ≡ true → party ≡ known_party a.party names
known_party_is a names party posixes distinct room h kept = by (who_asks a.owner a.party h) where
  by : Asker a.owner a.party → party ≡ known_party a.party names
  by (AsOpen number e f) = absurd (both_ways (posix (known_owner a.owner names)) (ap (λ (w : Who). posix (known_owner w names)) e) posixes)
  by (UnderLease number lease e f is) = absurd (both_ways (posix (known_owner a.owner names)) (ap (λ (w : Who). posix (known_owner w names)) e) posixes)
  by (ByName own other e f is) =
      let number_is = number_or (number_of own names) in
      let named = kept_named names (protocol_of own) number_is party (ap (λ (w : Who). are_kept names (known_owner w names) party) (sym e) ∙ kept) in
      let number = number_same (protocol_of own) (protocol_of named.name) number_is named.number named.owner_is in
      let name = number_known names own (number_of own names) refl room named.name (ap (λ (n : ℕ). slice_get names n) number ∙ named.owner_at) in
      let client : named.client ≡ other = same_Some named.client other (sym named.client_is ∙ ap client_of (sym name.1) ∙ is) in
      let at : number_of other names ≡ Some named.at = ap (λ (n : Name). number_of n names) (sym client) ∙ number_at names named.client named.at distinct named.party_at in
      named.party_is ∙ ap (λ (n : Name). parties.Name (protocol_of n) named.at) client
      ∙ ap (λ (o : Option ℕ). parties.Name (protocol_of other) (number_or o)) (sym at)
      ∙ sym (ap (λ (w : Who). known_party w names) f)

-- ---- names that come

pub length_who : (who : Who) (names : List Name) → length (who_entered who names) ≡ length names + coming who names
length_who (Open number) names = omega arith
length_who (Named name) names =
    elim (cases_Bool (is_kept name names)) [
      | inl old ↦ rw old (omega arith)
      | inr new ↦ rw new (omega (arith, length-append names (name ∷ [])))
    ]

-- an owner's name is not its client's
client_differs : (name client : Name) → client_of name ≡ Some client → same_name client name ≡ false
client_differs (NlmRange caller svid oh) client is = ap (λ (n : Name). same_name n (NlmRange caller svid oh)) (same_Some client (NlmParty caller) (sym is))
client_differs (NfsRange owner name) client is = ap (λ (n : Name). same_name n (NfsRange owner name)) (same_Some client (NfsParty owner) (sym is))
client_differs (NlmShare caller oh) client is = ap (λ (n : Name). same_name n (NlmShare caller oh)) (same_Some client (NlmParty caller) (sym is))
client_differs (NlmParty caller) client is = cc
client_differs (NfsShare owner name) client is = ap (λ (n : Name). same_name n (NfsShare owner name)) (same_Some client (NfsParty owner) (sym is))
client_differs (NfsParty owner) client is = cc
client_differs (SmbLease guid key) client is = cc

coming_client : (name client : Name) (names : List Name) → client_of name ≡ Some client → coming (Named client) (entered name names) ≡ coming (Named client) names
coming_client name client names is =
    elim (cases_Bool (is_kept name names)) [
      | inl old ↦ rw old refl
      | inr new ↦ rw new (ap (λ (b : Bool). if b then 0 else 1) (no_more new))
    ]
  where
    or_false : (b : Bool) → (b || false) ≡ b
    or_false true = refl
    or_false false = refl

    no_more : is_kept name names ≡ false → is_kept client (names ++ name ∷ []) ≡ is_kept client names
    no_more new = list_any-append (same_name client) names (name ∷ []) ∙ ap (λ (b : Bool). is_kept client names || (b || false)) (client_differs name client is) ∙ or_false (is_kept client names)

named_length : (name client : Name) (names : List Name) → client_of name ≡ Some client → length (who_entered (Named client) (who_entered (Named name) names)) ≡ length names + (coming (Named name) names + coming (Named client) names)
named_length name client names is = omega (arith, length_who (Named client) (who_entered (Named name) names), length_who (Named name) names, coming_client name client names is)

-- how many names are kept once those who ask are
pub both_length : (a : Ask) (names : List Name) → is_client a.owner a.party ≡ true → length (both_entered a names) ≡ length names + (coming a.owner names + coming a.party names)
both_length a names h = by (who_asks a.owner a.party h) where
  same : (owner party : Who) → a.owner ≡ owner → a.party ≡ party → length (who_entered party (who_entered owner names)) ≡ length names + (coming owner names + coming party names)
      → length (both_entered a names) ≡ length names + (coming a.owner names + coming a.party names)
  same owner party e f is =
      ap (λ (w : Who). length (who_entered a.party (who_entered w names))) e
      ∙ ap (λ (w : Who). length (who_entered w (who_entered owner names))) f
      ∙ is
      ∙ sym (ap (λ (w : Who). length names + (coming w names + coming a.party names)) e ∙ ap (λ (w : Who). length names + (coming owner names + coming w names)) f)

  by : Asker a.owner a.party → length (both_entered a names) ≡ length names + (coming a.owner names + coming a.party names)
  by (ByName name client e f is) = same (Named name) (Named client) e f (named_length name client names is)
  by (AsOpen number e f) = same (Open number) (Open number) e f (omega arith)
  by (UnderLease number lease e f is) = same (Open number) (Named lease) e f (omega (arith, length_who (Named lease) names))
