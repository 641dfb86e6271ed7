-- The caches of NFSv4 clients stay as they are where others ask, come or go.
use Rattle.std.proofs.Common.{◌≡◌, ℕ, ◌≤◌, Bool, true, false, not, List, [], ◌∷◌, Option, Some, None, option_map, is_some, refl, sym, ap, subst, ◌∙◌, inl, inr, true≢false, if◌then◌else◌, arith}
use Rattle.std.proofs.lemmas.Bool.{and_from, and_parts, cases_Bool, eq-eqb, eqb-true}
use Rattle.std.proofs.lemmas.Option.{same_Some}
use Rattle.std.specs.Bool.{◌==◌}
use Rattle.std.specs.List.{AllByRecursion, cons_option, filter, filter_map, find, slice_get}
use Rattle.std.specs.Prelude.{◌&&◌, IsSome}
use Rattle.xl_base.proofs.Members.{all_from, all_in}
use Rattle.xl_base.proofs.Searches.{find_some}
use Rattle.xl_base.specs.Lists.{IsIn, placed}
use Rattle.xl_base.specs.declared.event.Moment.{Moment}
use Rattle.xl_base.specs.declared.name.Owner.{Owner}
use Rattle.xl_base.specs.declared.name.Owner.TheVariants as owners
use Rattle.xl_base.specs.declared.name.Party.{Party}
use Rattle.xl_base.specs.declared.name.Party.TheVariants as parties
use Rattle.xl_base.specs.declared.name.Protocol.{Protocol}
use Rattle.xl_base.specs.declared.name.Protocol.TheVariants.{Nfs}
use Rattle.xl_cache.specs.Parties.{is_cache_of, is_kind_of, is_break_of}
use Rattle.xl_cache.specs.BreakPlans.{blocking_shares, break_by, break_of, is_in_the_way, is_slow, need_of}
use Rattle.xl_cache.specs.Targets.{is_delegation, needs_answer, target_of}
use Rattle.xl_matrix.proofs.EqualLaws.{same_claims-true, same_parties-self, same_parties-true}
use Rattle.xl_matrix.specs.Equal.{same_claims, same_parties}
use Rattle.xl_matrix.specs.declared.claim.Break.{Break}
use Rattle.xl_matrix.specs.declared.claim.CacheKind.{CacheKind}
use Rattle.xl_matrix.specs.declared.claim.CacheKind.TheVariants as cache_kinds
use Rattle.xl_matrix.specs.declared.claim.Claim.{Claim}
use Rattle.xl_matrix.specs.declared.claim.What.{What}
use Rattle.xl_matrix.specs.declared.claim.What.TheVariants as whats
use Rattle.xl_names.proofs.NameLaws.{name_at, number_at, one_number}
use Rattle.xl_names.specs.Names.{number_of}
use Rattle.xl_names.specs.declared.name.Name.{Name}
use Rattle.xl_names.specs.declared.name.Name.TheVariants.{NfsParty}
use Rattle.xl_table.specs.Flat.{changed, inserted, removed, with_what}
use Rattle.xl_table.specs.Order.{goes_first}
use Rattle.xl_table.specs.Held.{is_cache}
use Rattle.xl_core.proofs.DeedCaches.{deeds_caches}
use Rattle.xl_core.proofs.DeedLaws.{deed_good, deed_names}
use Rattle.xl_core.proofs.DeedLeaves.{found_in}
use Rattle.xl_core.proofs.WayLaws.{Begins, NoWay, way_is}
use Rattle.xl_core.specs.BreaksBegun.{breaks_begun, once_begun, once_broken, with_break}
use Rattle.xl_core.proofs.FrameLaws.{ask_frame, give_back_frame, renew_frame, weaken_frame}
use Rattle.xl_core.specs.Askers.{asked_claims, asked_whats, party_named}
use Rattle.xl_core.specs.BreakAnswers.{id_of}
use Rattle.xl_core.specs.Decide.{ask, before_wish, does_wish, plea_of, way}
use Rattle.xl_core.specs.Deeds.{Deed, Asks, GivesBack, Weakens, Acks, Cancels, Ends, Closes, Serves, Draws, Advances, Lapses, Renews, Expires, FailsStore, EndsGrace, all_done, caches_after, caches_asked, caches_without_party, done, AreFit, IsFitDeed, KeepNames}
use Rattle.xl_core.specs.Wishes.{cached, caches_wished, has_room, is_waited_for, once_wished, wish_of, wished_kind}
use Rattle.xl_core.specs.declared.ask.Answer.{Answer}
use Rattle.xl_core.specs.declared.ask.Answer.TheVariants as answers
use Rattle.xl_core.specs.declared.ask.Ask.{Ask}
use Rattle.xl_wait.specs.declared.waiter.Rooms.{Rooms}
use Rattle.xl_cache.specs.Wishing.{best_join_of, best_of, granted_beside, granted_kind, is_its_cache, raised_by, wished_claim}
use Rattle.xl_cache.specs.declared.wish.Wish.{Wish}
use Rattle.xl_plan.proofs.BudgetLaws.{drawn_number}
use Rattle.xl_core.specs.Good.{IsGood, IsHeld, IsHeldBy, agree, are_kept, caches_of}
use Rattle.xl_core.specs.Leases.{moment_after}
use Rattle.xl_core.specs.Places.{is_cache_on}
use Rattle.xl_core.specs.State.{CoreState}
use Rattle.xl_core.specs.declared.ask.Effect.{Effect}
use Rattle.xl_nfs_laws.specs.Delegated.{delegation_held}
use Rattle.xl_nfs_opens.specs.Opens.{cache_by, cache_held, delegation_in, delegation_of}

-- ---- what is found first in a list that has more, fewer or changed elements

module _ {A : Type 0} where
  pub find_kept : (p keep : A → Bool) (xs : List A) → ((x : A) → IsIn x xs → p x ≡ true → keep x ≡ true) → find p (filter keep xs) ≡ find p xs
  find_kept p keep [] each = refl
  find_kept p keep (x ∷ xs) each =
      elim (cases_Bool (p x)) [
        | inl here ↦ rw (each x (inl refl) here) (rw here refl)
        | inr other ↦ elim (cases_Bool (keep x)) [
          | inl stays ↦ rw stays (rw other (find_kept p keep xs (λ y there. each y (inr there))))
          | inr goes ↦ rw goes (rw other (find_kept p keep xs (λ y there. each y (inr there))))
        ]
      ]

  pub find_gone_in : (p keep : A → Bool) (xs : List A) → ((x : A) → IsIn x xs → p x ≡ true → keep x ≡ false) → find p (filter keep xs) ≡ None
  find_gone_in p keep [] each = refl
  find_gone_in p keep (x ∷ xs) each =
      elim (cases_Bool (keep x)) [
        | inr goes ↦ rw goes (find_gone_in p keep xs (λ y there. each y (inr there)))
        | inl stays ↦ elim (cases_Bool (p x)) [
          | inl here ↦ absurd (true≢false (sym stays ∙ each x (inl refl) here))
          | inr other ↦ rw stays (rw other (find_gone_in p keep xs (λ y there. each y (inr there))))
        ]
      ]

  find_placed : (p : A → Bool) (below : A → A → Bool) (x : A) (xs : List A) → p x ≡ false → find p (placed below x xs) ≡ find p xs
  find_placed p below x [] other = rw other refl
  find_placed p below x (y ∷ ys) other =
      elim (cases_Bool (below y x)) [
        | inr first ↦ rw first (rw other refl)
        | inl later ↦ rw later (elim (cases_Bool (p y)) [
          | inl here ↦ rw here refl
          | inr next ↦ rw next (find_placed p below x ys other)
        ])
      ]

  -- what is told of the first that is found, where the heads are told alike
  pub step_same : {C : Type 0} (f : Option A → C) (p : A → Bool) (x y : A) (xs ys : List A) → p x ≡ p y → (p y ≡ true → f (Some x) ≡ f (Some y)) → f (find p xs) ≡ f (find p ys) → f (find p (x ∷ xs)) ≡ f (find p (y ∷ ys))
  step_same f p x y xs ys same told rest =
      elim (cases_Bool (p y)) [
        | inl here ↦ rw (same ∙ here) (rw here (told here))
        | inr other ↦ rw (same ∙ other) (rw other rest)
      ]

pub find_removed : (p : Claim → Bool) (claim : Claim) (cs : List Claim) → p claim ≡ false → find p (removed claim cs) ≡ find p cs
find_removed p claim [] other = refl
find_removed p claim (c ∷ cs) other =
    elim (cases_Bool (same_claims c claim)) [
      | inl same ↦ rw same (rw (ap p (same_claims-true c claim same) ∙ other) refl)
      | inr differs ↦ rw differs (elim (cases_Bool (p c)) [
        | inl here ↦ rw here refl
        | inr next ↦ rw next (find_removed p claim cs other)
      ])
    ]

find_inserted : (p : Claim → Bool) (claim : Claim) (cs : List Claim) → p claim ≡ false → find p (inserted claim cs) ≡ find p cs
unfolding inserted
find_inserted p claim cs other = find_placed p goes_first claim cs other

pub find_changed : (p : Claim → Bool) (claim : Claim) (to : What) (cs : List Claim) → p claim ≡ false → p (with_what claim to) ≡ false → find p (changed claim to cs) ≡ find p cs
unfolding changed
find_changed p claim to cs other still = find_inserted p (with_what claim to) (removed claim cs) still ∙ find_removed p claim cs other

-- ---- a client's cache on a file

-- the delegation that the party of this number has there: whether it is for writing
abbrev pub kind_in : List Claim → ℕ → ℕ → Option Bool
kind_in claims file number = delegation_in (find (is_cache_on file (parties.Name Nfs number)) claims)

pub kind_among : (cs : List Claim) (file number : ℕ) → kind_in (caches_of cs) file number ≡ kind_in cs file number
kind_among cs file number =
    let party = parties.Name Nfs number in
    ap delegation_in (find_kept (is_cache_on file party) (λ (c : Claim). is_cache c.what) cs (λ c there on. (and_parts (is_cache c.what) ((c.file == file) && same_parties c.party party) on).0))

abbrev pub is_delegated : What → Bool
is_delegated (whats.Cache kind running) = is_delegation kind
is_delegated _ = false

-- it is a delegation
pub nfs_kind : (names : List Name) (c : Claim) (file number : ℕ) → IsHeld names c → is_cache_on file (parties.Name Nfs number) c ≡ true → is_delegated c.what ≡ true
unfolding is_cache_of is_kind_of
nfs_kind names c file number held on =
    let parts = and_parts (is_cache c.what) ((c.file == file) && same_parties c.party (parties.Name Nfs number)) on in
    let party = same_parties-true c.party (parties.Name Nfs number) (and_parts (c.file == file) (same_parties c.party (parties.Name Nfs number)) parts.1).1 in
    go c.what (subst (λ (p : Party). IsHeldBy p c.what) party held.0.0) parts.0
  where
    go : (w : What) → IsHeldBy (parties.Name Nfs number) w → is_cache w ≡ true → is_delegated w ≡ true
    go (whats.Cache kind running) h e = (and_parts (is_delegation kind) (is_break_of (parties.Name Nfs number) kind running) h).0
    go (whats.Share access deny) h e = absurd (true≢false (sym e))
    go (whats.Range extent exclusive) h e = absurd (true≢false (sym e))

-- for writing or for reading
pub kind_of : (w : What) → is_delegated w ≡ true → (b : Bool) × (delegation_of w ≡ Some b)
kind_of (whats.Cache cache_kinds.ReadDeleg running) e = (false, refl)
kind_of (whats.Cache cache_kinds.WriteDeleg running) e = (true, refl)
kind_of (whats.Cache cache_kinds.R running) e = absurd (true≢false (sym e))
kind_of (whats.Cache cache_kinds.RH running) e = absurd (true≢false (sym e))
kind_of (whats.Cache cache_kinds.RW running) e = absurd (true≢false (sym e))
kind_of (whats.Cache cache_kinds.RWH running) e = absurd (true≢false (sym e))
kind_of (whats.Share access deny) e = absurd (true≢false (sym e))
kind_of (whats.Range extent exclusive) e = absurd (true≢false (sym e))

-- of a party whose name isn't kept there is none
no_party : (s : CoreState) (file number : ℕ) → IsGood s → slice_get s.names number ≡ None → kind_in s.claims file number ≡ None
no_party s file number good none = by (find (is_cache_on file (parties.Name Nfs number)) s.claims) refl
  where
    unkept : (owner : Owner) (x : Option Name) → x ≡ None → slice_get s.names number ≡ x → are_kept s.names owner (parties.Name Nfs number) ≡ true → ⊥
    unkept (owners.Open m) None e at kept = (let no : false ≡ true = rw at at kept in true≢false (sym no))
    unkept (owners.Name protocol m) None e at kept = (let no : _ ≡ true = rw at at kept in either protocol (slice_get s.names m) no)
      where
        either : (p : Protocol) (y : Option Name) → agree p Nfs y None ≡ true → ⊥
        either p None h = true≢false (sym h)
        either p (Some name) h = true≢false (sym h)
    unkept owner (Some name) e at kept = true≢false (ap is_some e)

    by : (x : Option Claim) → find (is_cache_on file (parties.Name Nfs number)) s.claims ≡ x → delegation_in x ≡ None
    by None e = refl
    by (Some c) e =
        let found = found_in (is_cache_on file (parties.Name Nfs number)) s.claims c e in
        let parts = and_parts (is_cache c.what) ((c.file == file) && same_parties c.party (parties.Name Nfs number)) found.1 in
        let party = same_parties-true c.party (parties.Name Nfs number) (and_parts (c.file == file) (same_parties c.party (parties.Name Nfs number)) parts.1).1 in
        absurd (unkept c.owner (slice_get s.names number) none refl (subst (λ (p : Party). are_kept s.names c.owner p ≡ true) party (all_in (IsHeld s.names) c s.claims good.known found.0).1))

-- ---- where breaks begin

same_written : (kind : CacheKind) (a b : Option Break) → delegation_of (whats.Cache kind a) ≡ delegation_of (whats.Cache kind b)
same_written cache_kinds.R a b = refl
same_written cache_kinds.RH a b = refl
same_written cache_kinds.RW a b = refl
same_written cache_kinds.RWH a b = refl
same_written cache_kinds.ReadDeleg a b = refl
same_written cache_kinds.WriteDeleg a b = refl

needs_one : (kind : CacheKind) (left : Option CacheKind) → is_delegation kind ≡ true → needs_answer kind left ≡ true
needs_one cache_kinds.R left h = absurd (true≢false (sym h))
needs_one cache_kinds.RH left h = absurd (true≢false (sym h))
needs_one cache_kinds.RW left h = absurd (true≢false (sym h))
needs_one cache_kinds.RWH left h = absurd (true≢false (sym h))
needs_one cache_kinds.ReadDeleg left h = refl
needs_one cache_kinds.WriteDeleg left h = refl

-- the break of a delegation needs an answer
slow_one : (ask : Claim) (shares : List Claim) (c : Claim) (b : Claim × Option CacheKind) → break_of ask shares c ≡ Some b → is_delegated c.what ≡ true → is_slow b ≡ true
unfolding break_of
slow_one ask shares c b at delegated = by (is_in_the_way ask shares c) c.what refl delegated at
  where
    by : (way : Bool) (w : What) → c.what ≡ w → is_delegated w ≡ true → (if way then break_by c (need_of ask shares c) w else None) ≡ Some b → is_slow b ≡ true
    by false w e d h = absurd (true≢false (ap is_some (sym h)))
    by true (whats.Cache kind (Some running)) e d h = absurd (true≢false (ap is_some (sym h)))
    by true (whats.Share access deny) e d h = absurd (true≢false (ap is_some (sym h)))
    by true (whats.Range extent exclusive) e d h = absurd (true≢false (ap is_some (sym h)))
    by true (whats.Cache kind None) e d h =
        let left = target_of kind (need_of ask shares c) in
        let same : (c, left) ≡ b = same_Some (c, left) b h in
        ap is_slow (sym same) ∙ ap (λ (w : What). needs_by w left) e ∙ needs_one kind left d
      where
        needs_by : What → Option CacheKind → Bool
        needs_by (whats.Cache k running) to = needs_answer k to
        needs_by w to = false

-- a cache whose break begins is of the party and of the kind that it was
still_on : (c : Claim) (to : Option CacheKind) (deadline : Moment) (file : ℕ) (party : Party) (w : What) → c.what ≡ w
    → (is_cache_on file party (with_break c w to deadline) ≡ is_cache_on file party c) × (delegation_in (Some (with_break c w to deadline)) ≡ delegation_in (Some c))
still_on c to deadline file party (whats.Cache kind running) e = (
  ap (λ (w : What). is_cache w && ((c.file == file) && same_parties c.party party)) (sym e),
  same_written kind (Some (record { target = to; deadline = deadline })) running ∙ ap delegation_of (sym e),
)
still_on c to deadline file party (whats.Share access deny) e = (refl, refl)
still_on c to deadline file party (whats.Range extent exclusive) e = (refl, refl)

broken_kind : (deadline : Moment) (ask : Claim) (shares : List Claim) (file number : ℕ) (cs : List Claim) → AllByRecursion (λ c. is_cache_on file (parties.Name Nfs number) c ≡ true → is_delegated c.what ≡ true) cs
    → kind_in (filter_map (λ c. once_begun deadline c (break_of ask shares c)) cs) file number ≡ kind_in cs file number
broken_kind deadline ask shares file number [] each = refl
broken_kind deadline ask shares file number (c ∷ cs) each = by (break_of ask shares c) refl (broken_kind deadline ask shares file number cs each.1)
  where
    party : Party
    party = parties.Name Nfs number

    rest : List Claim
    rest = filter_map (λ d. once_begun deadline d (break_of ask shares d)) cs

    passed : (d : Claim) (ds : List Claim) → is_cache_on file party d ≡ false → find (is_cache_on file party) (d ∷ ds) ≡ find (is_cache_on file party) ds
    passed d ds other = rw other refl

    by : (x : Option (Claim × Option CacheKind)) → break_of ask shares c ≡ x → kind_in rest file number ≡ kind_in cs file number → kind_in (cons_option (once_begun deadline c x) rest) file number ≡ kind_in (c ∷ cs) file number
    by None at later = step_same delegation_in (is_cache_on file party) c c rest cs refl (λ on. refl) later
    by (Some b) at later =
        elim (cases_Bool (is_slow b)) [
          | inl slow ↦
              let still = still_on c b.1 deadline file party c.what refl in
              rw slow (step_same delegation_in (is_cache_on file party) (with_break c c.what b.1 deadline) c rest cs still.0 (λ on. still.1) later)
          | inr quick ↦ rw quick (elim (cases_Bool (is_cache_on file party c)) [
            | inl on ↦ absurd (true≢false (sym (slow_one ask shares c b at (each.0 on)) ∙ quick))
            | inr other ↦ later ∙ ap delegation_in (sym (passed c cs other))
          ])
        ]

pub begun_kind : (ask : Claim) (s : CoreState) (file number : ℕ) → IsGood s → kind_in (breaks_begun ask s).1.claims file number ≡ kind_in s.claims file number
unfolding breaks_begun once_broken
begun_kind ask s file number good =
    broken_kind (moment_after s.clock s.times.break_time) ask (blocking_shares ask s.claims) file number s.claims
    (all_from (λ c. is_cache_on file (parties.Name Nfs number) c ≡ true → is_delegated c.what ≡ true) s.claims (λ c there on. nfs_kind s.names c file number (all_in (IsHeld s.names) c s.claims good.known there) on))

way_kind : (left : Rooms) (s : CoreState) (a : Ask) (file number : ℕ) → IsGood s → kind_in (way left s a).1.claims file number ≡ kind_in s.claims file number
way_kind left s a file number good =
    elim (way_is s.waiters (plea_of left s a) (asked_claims a (asked_whats a.act) s.names) s) [
      | NoWay e ↦ ap (λ (way : List Effect × CoreState). kind_in way.1.claims file number) e
      | Begins c cs is does e ↦ ap (λ (way : List Effect × CoreState). kind_in way.1.claims file number) e ∙ begun_kind c s file number good
    ]

-- ---- by the client's id string

abbrev pub kind_by : List Claim → ℕ → Option ℕ → Option Bool
kind_by claims file None = None
kind_by claims file (Some number) = kind_in claims file number

pub held_by : (s : CoreState) (id : List ℕ) (file : ℕ) (x : Option ℕ) → number_of (NfsParty id) s.names ≡ x → delegation_held s id file ≡ kind_by s.claims file x
unfolding cache_held
held_by s id file None e = ap (λ (o : Option ℕ). delegation_in (cache_by s.claims file (option_map (λ number. parties.Name Nfs number) o))) e
held_by s id file (Some number) e = ap (λ (o : Option ℕ). delegation_in (cache_by s.claims file (option_map (λ number. parties.Name Nfs number) o))) e

-- a client has the delegation that it had, where the deed leaves its caches at the number that it has then
pub deed_held : (n : ℕ) (s : CoreState) (d : Deed) (id : List ℕ) (file : ℕ) → IsGood s → IsFitDeed s d
    → ((number : ℕ) → number_of (NfsParty id) (done n s d).names ≡ Some number → kind_in (caches_after n s d (caches_of s.claims)) file number ≡ kind_in s.claims file number) → delegation_held (done n s d) id file ≡ delegation_held s id file
deed_held n s d id file good fit each = by (number_of (NfsParty id) s.names) (number_of (NfsParty id) t.names) refl refl
  where
    t : CoreState
    t = done n s d

    name : Name
    name = NfsParty id

    stays : KeepNames s.names t.names
    stays = deed_names n s d good fit

    well : IsGood t
    well = deed_good n s d good fit

    left : (number : ℕ) → number_of name t.names ≡ Some number → kind_in t.claims file number ≡ kind_in s.claims file number
    left number e =
        sym (kind_among t.claims file number)
        ∙ ap (λ (cs : List Claim). kind_in cs file number) (deeds_caches n s (d ∷ []) good (fit, tt))
        ∙ each number e

    still : (k : ℕ) → number_of name s.names ≡ Some k → number_of name t.names ≡ Some k
    still k e = number_at t.names name k well.distinct (stays k name (name_at s.names name k e))

    new : (m : ℕ) → number_of name s.names ≡ None → number_of name t.names ≡ Some m → slice_get s.names m ≡ None
    new m none e = go (slice_get s.names m) refl
      where
        go : (x : Option Name) → slice_get s.names m ≡ x → slice_get s.names m ≡ None
        go None at = at
        go (Some other) at =
            let is : other ≡ name = same_Some other name (sym (stays m other at) ∙ name_at t.names name m e) in
            let had = number_at s.names name m good.distinct (at ∙ ap (λ (x : Name). Some x) is) in
            absurd (true≢false (ap is_some (sym had ∙ none)))

    by : (x y : Option ℕ) → number_of name s.names ≡ x → number_of name t.names ≡ y → delegation_held t id file ≡ delegation_held s id file
    by None None e f = held_by t id file None f ∙ sym (held_by s id file None e)
    by None (Some m) e f = held_by t id file (Some m) f ∙ left m f ∙ no_party s file m good (new m e f) ∙ sym (held_by s id file None e)
    by (Some k) y e f = held_by t id file (Some k) (still k e) ∙ left k (still k e) ∙ sym (held_by s id file (Some k) e)

-- at the number that its party has then stood the delegation that it had
pub kind_before : (s t : CoreState) (id : List ℕ) (file number : ℕ) → IsGood s → IsGood t → KeepNames s.names t.names → number_of (NfsParty id) t.names ≡ Some number → kind_in s.claims file number ≡ delegation_held s id file
kind_before s t id file number good well stays now = by (number_of (NfsParty id) s.names) refl
  where
    name : Name
    name = NfsParty id

    new : number_of name s.names ≡ None → slice_get s.names number ≡ None
    new none = go (slice_get s.names number) refl
      where
        go : (x : Option Name) → slice_get s.names number ≡ x → slice_get s.names number ≡ None
        go None at = at
        go (Some other) at =
            let is : other ≡ name = same_Some other name (sym (stays number other at) ∙ name_at t.names name number now) in
            absurd (true≢false (ap is_some (sym (number_at s.names name number good.distinct (at ∙ ap (λ (x : Name). Some x) is)) ∙ none)))

    by : (x : Option ℕ) → number_of name s.names ≡ x → kind_in s.claims file number ≡ delegation_held s id file
    by None e = no_party s file number good (new e) ∙ sym (held_by s id file None e)
    by (Some k) e =
        let same : k ≡ number = same_Some k number (sym (number_at t.names name k well.distinct (stays k name (name_at s.names name k e))) ∙ now) in
        ap (λ (m : ℕ). kind_in s.claims file m) (sym same) ∙ sym (held_by s id file (Some k) e)

-- who has no delegation has no cache there
pub uncached : (s : CoreState) (file number : ℕ) → IsGood s → kind_in s.claims file number ≡ None → find (is_cache_on file (parties.Name Nfs number)) s.claims ≡ None
uncached s file number good none = by (find (is_cache_on file (parties.Name Nfs number)) s.claims) refl
  where
    by : (x : Option Claim) → find (is_cache_on file (parties.Name Nfs number)) s.claims ≡ x → find (is_cache_on file (parties.Name Nfs number)) s.claims ≡ None
    by None e = e
    by (Some c) e =
        let found = found_in (is_cache_on file (parties.Name Nfs number)) s.claims c e in
        let kind = kind_of c.what (nfs_kind s.names c file number (all_in (IsHeld s.names) c s.claims good.known found.0) found.1) in
        absurd (true≢false (ap is_some (sym kind.1 ∙ ap delegation_in (sym e) ∙ none)))

-- ---- wishes

pub asked_kind : (left : Rooms) (s : CoreState) (a : Ask) (file number : ℕ) → IsGood s → kind_in (caches_of (way left s a).1.claims) file number ≡ kind_in s.claims file number
asked_kind left s a file number good = kind_among (way left s a).1.claims file number ∙ way_kind left s a file number good

-- a wish for nothing gets nothing
nothing_wanted : (c : Claim) (s : CoreState) → wished_kind (wish_of [] c) s ≡ None
unfolding wished_kind granted_kind best_of best_join_of
nothing_wanted c s = by (is_waited_for c.file s) (has_room (find (is_its_cache (wish_of [] c)) s.claims) s.claims) (find (is_its_cache (wish_of [] c)) s.claims)
  where
    raised : (w : What) → raised_by (wish_of [] c) s.claims w ≡ None
    raised (whats.Cache kind None) = refl
    raised (whats.Cache kind (Some running)) = refl
    raised (whats.Share access deny) = refl
    raised (whats.Range extent exclusive) = refl

    by : (waits room : Bool) (own : Option Claim) → (if waits then None else if room then granted_beside (wish_of [] c) s.claims own else None) ≡ None
    by true room own = refl
    by false false own = refl
    by false true None = refl
    by false true (Some own) = raised own.what

wished_none : (kinds : List CacheKind) (answer : Answer) (s : CoreState) (caches : List Claim) → kinds ≡ [] → caches_wished kinds answer s caches ≡ caches
wished_none kinds (answers.Granted c) s caches e =
    ap (λ (ks : List CacheKind). once_wished (wish_of ks c) (wished_kind (wish_of ks c) s) caches) e ∙ ap (λ (o : Option CacheKind). once_wished (wish_of [] c) o caches) (nothing_wanted c s)
wished_none kinds (answers.Queued number) s caches e = refl
wished_none kinds (answers.Conflict d) s caches e = refl
wished_none kinds (answers.Recall d) s caches e = refl
wished_none kinds (answers.Grace until) s caches e = refl
wished_none kinds (answers.NoGrace clock) s caches e = refl
wished_none kinds answers.NotRecorded s caches e = refl
wished_none kinds (answers.Full limit) s caches e = refl
wished_none kinds answers.NotHeld s caches e = refl
wished_none kinds answers.StoreFailed s caches e = refl

unwished : (n : ℕ) (left : Rooms) (s : CoreState) (a : Ask) (caches : List Claim) → a.wish ≡ [] → caches_asked n left s a caches ≡ caches
unwished n left s a caches e =
    elim (cases_Bool (does_wish a.act)) [
      | inl does ↦ rw does (wished_none a.wish (ask n left s a).0 (before_wish n left s a).2 caches e)
      | inr doesnt ↦ rw doesnt refl
    ]

both : (a b : Bool) → b ≡ false → (a && b) ≡ false
both true b e = e
both false b e = refl

-- a wish changes the party's cache on the file alone
pub once_other : (wanted : Wish) (o : Option CacheKind) (caches : List Claim) (file : ℕ) (party : Party) → ((wanted.file == file) && same_parties wanted.party party) ≡ false → find (is_cache_on file party) (once_wished wanted o caches) ≡ find (is_cache_on file party) caches
once_other wanted None caches file party other = refl
once_other wanted (Some kind) caches file party other = by (find (is_its_cache wanted) caches) refl
  where
    by : (own : Option Claim) → find (is_its_cache wanted) caches ≡ own → find (is_cache_on file party) (cached wanted kind own caches) ≡ find (is_cache_on file party) caches
    by None e = find_inserted (is_cache_on file party) (wished_claim wanted kind) caches other
    by (Some own) e =
        let its = (found_in (is_its_cache wanted) caches own e).1 in
        let parts = and_parts (own.file == wanted.file) (same_parties own.party wanted.party) (and_parts (is_cache own.what) ((own.file == wanted.file) && same_parties own.party wanted.party) its).1 in
        let not_its : ((own.file == file) && same_parties own.party party) ≡ false = (λ i. (eqb-true own.file wanted.file parts.0 i == file) && same_parties (same_parties-true own.party wanted.party parts.1 i) party) ∙ other in
        find_changed (is_cache_on file party) own (whats.Cache kind None) caches (both (is_cache own.what) _ not_its) not_its

-- ---- deeds that leave all delegations

-- it asks for no cache, gives none back and ends nobody
abbrev pub IsQuietDeed : Deed → Type 0
IsQuietDeed (Asks left a) = a.wish ≡ []
IsQuietDeed (GivesBack claim) = is_cache claim.what ≡ false
IsQuietDeed (Weakens share access deny) = Unit {0}
IsQuietDeed Draws = Unit {0}
IsQuietDeed (Renews id) = Unit {0}
IsQuietDeed _ = ⊥

-- each client has the delegations that it had, in a state that is good, and numbers went on
pub record IsQuiet (s t : CoreState) : Type 0 where
  pub good : IsGood t
  pub later : s.counter ≤ t.counter
  pub held : (id : List ℕ) (file : ℕ) → delegation_held t id file ≡ delegation_held s id file

pub one_quiet : (n : ℕ) (s : CoreState) (d : Deed) → IsGood s → IsFitDeed s d → IsQuietDeed d → IsQuiet s (done n s d)
one_quiet n s (Asks left a) good fit quiet =
    let frame = ask_frame n left s a good fit.party in
    record {
      good = deed_good n s (Asks left a) good fit;
      later = omega (arith, frame.counter);
      held = λ id file. deed_held n s (Asks left a) id file good fit (λ number e. (
          ap (λ (cs : List Claim). kind_in cs file number) (unwished n left s a (caches_of (way left s a).1.claims) quiet) ∙ asked_kind left s a file number good));
    }
one_quiet n s (GivesBack claim) good fit quiet =
    let frame = give_back_frame s claim in
    record {
      good = deed_good n s (GivesBack claim) good fit;
      later = omega (arith, frame.counter);
      held = λ id file. deed_held n s (GivesBack claim) id file good fit (λ number e. (
          ap delegation_in (find_removed (is_cache_on file (parties.Name Nfs number)) claim (caches_of s.claims) (rw quiet refl)) ∙ kind_among s.claims file number));
    }
one_quiet n s (Weakens share access deny) good fit quiet =
    let frame = weaken_frame s share access deny in
    record {
      good = deed_good n s (Weakens share access deny) good fit;
      later = omega (arith, frame.counter);
      held = λ id file. deed_held n s (Weakens share access deny) id file good fit (λ number e. kind_among s.claims file number);
    }
one_quiet n s Draws good fit quiet = record {
  good = deed_good n s Draws good fit;
  later = omega (arith, drawn_number s);
  held = λ id file. deed_held n s Draws id file good fit (λ number e. kind_among s.claims file number);
}
one_quiet n s (Renews id) good fit quiet =
    let frame = renew_frame s id in
    record {
      good = deed_good n s (Renews id) good fit;
      later = omega (arith, frame.counter);
      held = λ other file. deed_held n s (Renews id) other file good fit (λ number e. kind_among s.claims file number);
    }
one_quiet n s (Acks cache to) good fit quiet = absurd quiet
one_quiet n s (Cancels id) good fit quiet = absurd quiet
one_quiet n s (Ends party) good fit quiet = absurd quiet
one_quiet n s (Serves left) good fit quiet = absurd quiet
one_quiet n s (Advances now) good fit quiet = absurd quiet
one_quiet n s (Lapses cache) good fit quiet = absurd quiet
one_quiet n s (Expires id) good fit quiet = absurd quiet
one_quiet n s (Closes number party) good fit quiet = absurd quiet
one_quiet n s (FailsStore stable) good fit quiet = absurd quiet
one_quiet n s EndsGrace good fit quiet = absurd quiet

pub quiet_then : (s t u : CoreState) → IsQuiet s t → IsQuiet t u → IsQuiet s u
quiet_then s t u first second = record {
  good = second.good;
  later = omega (arith, first.later, second.later);
  held = λ id file. second.held id file ∙ first.held id file;
}

pub all_quiet : (n : ℕ) (s : CoreState) (ds : List Deed) → IsGood s → AreFit n s ds → AllByRecursion IsQuietDeed ds → IsQuiet s (all_done n s ds)
all_quiet n s [] good fit quiet = record { good = good; later = omega arith; held = λ id file. refl }
all_quiet n s (d ∷ ds) good fit quiet =
    let one = one_quiet n s d good fit.0 quiet.0 in
    quiet_then s (done n s d) (all_done n (done n s d) ds) one (all_quiet n (done n s d) ds one.good fit.1 quiet.1)

-- ---- a client that leaves

-- it has no delegation, and the others have those that they had
pub record IsLeft (s t : CoreState) (id : List ℕ) : Type 0 where
  pub good : IsGood t
  pub later : s.counter ≤ t.counter
  pub own : (file : ℕ) → delegation_held t id file ≡ None
  pub others : (other : List ℕ) (file : ℕ) → (other ≡ id → ⊥) → delegation_held t other file ≡ delegation_held s other file

-- where the deed takes out the caches of its party
pub deed_leaves : (n : ℕ) (s : CoreState) (d : Deed) (id : List ℕ) → IsGood s → IsFitDeed s d → s.counter ≤ (done n s d).counter → caches_after n s d (caches_of s.claims) ≡ caches_without_party (party_named s.names (NfsParty id)) (caches_of s.claims) → IsLeft s (done n s d) id
deed_leaves n s d id good fit up goes = record {
  good = deed_good n s d good fit;
  later = up;
  own = λ file. mine file (number_of (NfsParty id) s.names) (number_of (NfsParty id) t.names) refl refl;
  others = λ other file differs. deed_held n s d other file good fit (λ number known. theirs other file differs number known (number_of (NfsParty id) s.names) refl);
}
  where
    t : CoreState
    t = done n s d

    stays : KeepNames s.names t.names
    stays = deed_names n s d good fit

    well : IsGood t
    well = deed_good n s d good fit

    still : (k : ℕ) → number_of (NfsParty id) s.names ≡ Some k → number_of (NfsParty id) t.names ≡ Some k
    still k e = number_at t.names (NfsParty id) k well.distinct (stays k (NfsParty id) (name_at s.names (NfsParty id) k e))

    after : (file number : ℕ) (x : Option ℕ) → number_of (NfsParty id) s.names ≡ x → kind_in t.claims file number ≡ kind_in (caches_without_party (option_map (λ k. parties.Name Nfs k) x) (caches_of s.claims)) file number
    after file number x e =
        sym (kind_among t.claims file number)
        ∙ ap (λ (cs : List Claim). kind_in cs file number) (deeds_caches n s (d ∷ []) good (fit, tt) ∙ goes ∙ ap (λ (o : Option ℕ). caches_without_party (option_map (λ k. parties.Name Nfs k) o) (caches_of s.claims)) e)

    none_left : (file k : ℕ) → kind_in (caches_without_party (Some (parties.Name Nfs k)) (caches_of s.claims)) file k ≡ None
    none_left file k = ap delegation_in (find_gone_in (is_cache_on file (parties.Name Nfs k)) (λ (c : Claim). not (same_parties c.party (parties.Name Nfs k))) (caches_of s.claims) (λ c there on. ap not (and_parts (c.file == file) (same_parties c.party (parties.Name Nfs k)) (and_parts (is_cache c.what) ((c.file == file) && same_parties c.party (parties.Name Nfs k)) on).1).1))

    unnamed : (m : ℕ) → number_of (NfsParty id) s.names ≡ None → number_of (NfsParty id) t.names ≡ Some m → slice_get s.names m ≡ None
    unnamed m none e = go (slice_get s.names m) refl
      where
        go : (x : Option Name) → slice_get s.names m ≡ x → slice_get s.names m ≡ None
        go None at = at
        go (Some other) at =
            let is : other ≡ NfsParty id = same_Some other (NfsParty id) (sym (stays m other at) ∙ name_at t.names (NfsParty id) m e) in
            let had = number_at s.names (NfsParty id) m good.distinct (at ∙ ap (λ (x : Name). Some x) is) in
            absurd (true≢false (ap is_some (sym had ∙ none)))

    mine : (file : ℕ) (x y : Option ℕ) → number_of (NfsParty id) s.names ≡ x → number_of (NfsParty id) t.names ≡ y → delegation_held t id file ≡ None
    mine file x None e f = held_by t id file None f
    mine file (Some k) (Some m) e f = held_by t id file (Some k) (still k e) ∙ after file k (Some k) e ∙ none_left file k
    mine file None (Some m) e f = held_by t id file (Some m) f ∙ after file m None e ∙ kind_among s.claims file m ∙ no_party s file m good (unnamed m e f)

    theirs : (other : List ℕ) (file : ℕ) → (other ≡ id → ⊥) → (number : ℕ) → number_of (NfsParty other) t.names ≡ Some number → (x : Option ℕ) → number_of (NfsParty id) s.names ≡ x → kind_in (caches_after n s d (caches_of s.claims)) file number ≡ kind_in s.claims file number
    theirs other file differs number known None e =
        ap (λ (cs : List Claim). kind_in cs file number) (goes ∙ ap (λ (o : Option ℕ). caches_without_party (option_map (λ k. parties.Name Nfs k) o) (caches_of s.claims)) e) ∙ kind_among s.claims file number
    theirs other file differs number known (Some k) e =
        ap (λ (cs : List Claim). kind_in cs file number) (goes ∙ ap (λ (o : Option ℕ). caches_without_party (option_map (λ k. parties.Name Nfs k) o) (caches_of s.claims)) e)
        ∙ ap delegation_in (find_kept (is_cache_on file (parties.Name Nfs number)) (λ (c : Claim). not (same_parties c.party (parties.Name Nfs k))) (caches_of s.claims) (λ c there on. ap not (apart c on)))
        ∙ kind_among s.claims file number
      where
        number_in : Party → ℕ
        number_in (parties.Name protocol m) = m
        number_in (parties.Open m) = m

        apart : (c : Claim) → is_cache_on file (parties.Name Nfs number) c ≡ true → same_parties c.party (parties.Name Nfs k) ≡ false
        apart c on =
            elim (cases_Bool (same_parties c.party (parties.Name Nfs k))) [
              | inr d ↦ d
              | inl d ↦
                  let is = same_parties-true c.party (parties.Name Nfs number) (and_parts (c.file == file) (same_parties c.party (parties.Name Nfs number)) (and_parts (is_cache c.what) ((c.file == file) && same_parties c.party (parties.Name Nfs number)) on).1).1 in
                  let same : number ≡ k = ap number_in (sym is ∙ same_parties-true c.party (parties.Name Nfs k) d) in
                  let one : NfsParty other ≡ NfsParty id = (one_number t.names (NfsParty id) (NfsParty other) k (still k e)).0 (known ∙ ap (λ (m : ℕ). Some m) same) in
                  absurd (differs (same_Some other id (ap (λ (x : Name). id_of (Some x)) one)))
            ]

-- a client's cache is a delegation, of which the kind is known
pub named_held : (s : CoreState) (c : Claim) (id : List ℕ) (number : ℕ) → IsGood s → IsIn c s.claims → is_cache c.what ≡ true → c.party ≡ parties.Name Nfs number → number_of (NfsParty id) s.names ≡ Some number → (w : Bool) × (delegation_held s id c.file ≡ Some w)
named_held s c id number good here cache party known =
    let on : is_cache_on c.file (parties.Name Nfs number) c ≡ true = and_from (is_cache c.what) ((c.file == c.file) && same_parties c.party (parties.Name Nfs number)) cache (and_from (c.file == c.file) (same_parties c.party (parties.Name Nfs number)) (eq-eqb c.file c.file refl) (ap (same_parties c.party) (sym party) ∙ same_parties-self c.party)) in
    by (find (is_cache_on c.file (parties.Name Nfs number)) s.claims) refl (find_some (is_cache_on c.file (parties.Name Nfs number)) c s.claims here on)
  where
    by : (x : Option Claim) → find (is_cache_on c.file (parties.Name Nfs number)) s.claims ≡ x → IsSome x → (w : Bool) × (delegation_held s id c.file ≡ Some w)
    by None e some = absurd (true≢false (sym some))
    by (Some d) e some =
        let found = found_in (is_cache_on c.file (parties.Name Nfs number)) s.claims d e in
        let kind = kind_of d.what (nfs_kind s.names d c.file number (all_in (IsHeld s.names) d s.claims good.known found.0) found.1) in
        (kind.0, held_by s id c.file (Some number) known ∙ ap delegation_in e ∙ kind.1)
