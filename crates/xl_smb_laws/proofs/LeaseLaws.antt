-- A lease goes with its last open.
use Rattle.std.proofs.Common.{◌≡◌, ℕ, Bool, true, false, eqb, List, [], ◌∷◌, ◌++◌, Option, Some, None, if◌then◌else◌, ap, refl, subst, sym, ◌∙◌, inl, inr}
use Rattle.std.specs.Prelude.{nat_eq, ◌==◌, slice_get}
use Rattle.std.specs.List.{list_all, list_any}
use Rattle.std.specs.Option.{option_map}
use Rattle.std.proofs.lemmas.Bool.{and_parts, cases_Bool, false≢true, true≢false}
use Rattle.xl_base.specs.declared.name.Party.{Party}
use Rattle.xl_base.specs.declared.name.Party.TheVariants as parties
use Rattle.xl_base.specs.declared.name.Protocol.TheVariants.{Smb}
use Rattle.xl_matrix.proofs.EqualLaws.{same_parties-self}
use Rattle.xl_matrix.specs.Blocks.{is_cache}
use Rattle.xl_matrix.specs.Equal.{same_parties}
use Rattle.xl_matrix.specs.declared.claim.Claim.{Claim}
use Rattle.xl_names.specs.Names.{number_of}
use Rattle.xl_names.specs.declared.name.Name.TheVariants.{SmbLease}
use Rattle.xl_table.specs.Leaving.{goes, is_of_some}
use Rattle.xl_table.specs.declared.leaver.Leaver.TheVariants as leavers_of
use Rattle.xl_core.proofs.KnownLaws.{number_known}
use Rattle.xl_core.specs.Askers.{known_party, number_or}
use Rattle.xl_smb.specs.Calls.{Close}
use Rattle.xl_smb.specs.declared.head.SmbHead.{SmbHead}
use Rattle.xl_smb.specs.declared.lock.CloseCall.{CloseCall}
use Rattle.xl_smb_state.specs.State.{Lists, closed, creates_under, is_last, is_last_open, is_last_under, is_listed, key_of, open_of, opens_under}
use Rattle.xl_smb_state.specs.declared.row.LeaseKey.{LeaseKey}
use Rattle.xl_smb_state.specs.declared.row.Open.{Open}
use Rattle.xl_smb_state.specs.declared.row.Place.{Place}
use Rattle.xl_smb_state.specs.declared.row.Scope.{Scope}
use Rattle.xl_core.specs.Deeds.{Closes}
use Rattle.xl_core.specs.Good.{IsGood}
use Rattle.xl_core.specs.Places.{CacheOf, cleared_if, closed_at, else_was, held_at}
use Rattle.xl_core.specs.State.{CoreState}
use Rattle.xl_core.proofs.DeedLaws.{deed_makes}
use Rattle.xl_smb_locks.specs.Levels.{party_by, party_of}
use Rattle.xl_front_smb.specs.Checks.{open_named}
use Rattle.xl_front_smb.specs.Ending.{going_by, leavers, leavers_under, party_going, without_party}
use Rattle.xl_front_smb.specs.Laws.{IsLeased, IsOnTree, goes_among, outcome_of}
use Rattle.xl_front_smb.specs.Plans.{Outcome}
use Rattle.xl_front_smb.proofs.GoneLaws.{closes_open}
use Rattle.xl_smb_laws.proofs.LeaseKeyLaws.{one_stays}
use Rattle.xl_smb_state.proofs.LeaseLaws.{unlisted}
use Rattle.xl_smb_state.proofs.RowLaws.{equal_from}

module _ (n : ℕ) (s : CoreState) (files : List (List ℕ)) (others : ℕ) (l : Lists) (conn : ℕ) (h : SmbHead) (client : List ℕ) (c : CloseCall) (session : ℕ) (place : Place) (number : ℕ) (row : Open)
    (named : IsOnTree s l conn h client session place) (third : open_named s l conn c.file_id ≡ Some number) (at : open_of number l ≡ Some row) (good : IsGood s) where
  goes_as : (last : Bool) → is_last_open number l ≡ last → party_going s.names l number ≡ (if last then Some (party_of s.names number row) else None)
  goes_as last is = ap (going_by s.names l number) at ∙ ap (λ (b : Bool). if b then Some (party_of s.names number row) else None) is

  leaves : (file : ℕ) (holder : Party) (going : Option Party) → party_going s.names l number ≡ going → held_at (outcome_of n s files others l conn h (Close c)).3 (CacheOf file holder) ≡ else_was (closed_at number going (CacheOf file holder)) (held_at s (CacheOf file holder))
  leaves file holder going is =
      let p = CacheOf file holder in
      closes_open n s files others l conn h client (λ (r : Outcome). held_at r.3 p ≡ else_was (closed_at number going p) (held_at s p)) c session place number named third
      (deed_makes n s (Closes number (party_going s.names l number)) p good tt ∙ ap (λ (o : Option Party). else_was (closed_at number o p) (held_at s p)) is)

  -- while another open is under it its caches stand, as all others' do
  pub lease_stays : is_last_open number l ≡ false → (file : ℕ) (holder : Party) → held_at (outcome_of n s files others l conn h (Close c)).3 (CacheOf file holder) ≡ held_at s (CacheOf file holder)
  lease_stays another file holder = leaves file holder None (goes_as false another)

  -- and with the last one they go
  pub lease_goes : is_last_open number l ≡ true → (file : ℕ) → held_at (outcome_of n s files others l conn h (Close c)).3 (CacheOf file (party_of s.names number row)) ≡ []
  lease_goes last file =
      let party = party_of s.names number row in
      leaves file party (Some party) (goes_as true last) ∙ ap (λ (b : Bool). else_was (cleared_if b) (held_at s (CacheOf file party))) (same_parties-self party)

-- ---- who is under a lease then

module _ (n : ℕ) (s : CoreState) (files : List (List ℕ)) (others : ℕ) (l : Lists) (conn : ℕ) (h : SmbHead) (client : List ℕ) (c : CloseCall) (session : ℕ) (place : Place) (number : ℕ)
    (named : IsOnTree s l conn h client session place) (third : open_named s l conn c.file_id ≡ Some number) where
  pub others_leased : (other : ℕ) (made : Open) → eqb other number ≡ false → IsLeased l other made → IsLeased (outcome_of n s files others l conn h (Close c)).2 other made
  others_leased other made apart leased = closes_open n s files others l conn h client (λ (r : Outcome). IsLeased r.2 other made) c session place number named third (one_stays number other made l apart leased)

  pub closed_unlisted : is_listed number (outcome_of n s files others l conn h (Close c)).2 ≡ false
  closed_unlisted = closes_open n s files others l conn h client (λ (r : Outcome). is_listed number r.2 ≡ false) c session place number named third (unlisted number l)

-- ---- whose caches go where opens end

-- of these each is this number
all_this : (n number : ℕ) (ns : List ℕ) → list_all (λ (m : ℕ). m == n) ns ≡ true → list_any (nat_eq number) ns ≡ true → eqb number n ≡ true
all_this n number [] all here = absurd (false≢true here)
all_this n number (m ∷ ms) all here =
    let both = and_parts (eqb m n) (list_all (λ (k : ℕ). k == n) ms) all in
    elim (cases_Bool (eqb number m)) [
      | inl this ↦ subst (λ (k : ℕ). eqb k n ≡ true) (equal_from number m this) both.0
      | inr other ↦ all_this n number ms both.1 (rw other at here)
    ]

none_either : {X : Type 0} (p : X → Bool) (xs ys : List X) → list_any p xs ≡ false → list_any p ys ≡ false → list_any p (xs ++ ys) ≡ false
none_either p [] ys first second = second
none_either p (x ∷ xs) ys first second = elim (cases_Bool (p x)) [ inl here ↦ absurd (true≢false (rw here at first)) | inr apart ↦ rw apart (none_either p xs ys (rw apart at first) second) ]

module _ (s : CoreState) (at : ℕ) (key : LeaseKey) (cache : Claim) (good : IsGood s) (is : is_cache cache.what ≡ true) (party : cache.party ≡ parties.Name Smb at) (name : slice_get s.names at ≡ Some (SmbLease key.client key.key)) where
  -- a party has the lease's cache only where it is the lease's
  of_lease : (n : ℕ) (row : Open) → same_parties cache.party (party_of s.names n row) ≡ true → key_of (Some row) ≡ Some key
  of_lease n row same = by row.lease (sym (ap (λ (p : Party). same_parties p (party_of s.names n row)) party) ∙ same)
    where
      client_is : {a b c d : List ℕ} → SmbLease a b ≡ SmbLease c d → a ≡ c
      client_is e = cc

      inside_is : {a b c d : List ℕ} → SmbLease a b ≡ SmbLease c d → b ≡ d
      inside_is e = cc

      by : (inside : Option (List ℕ)) → same_parties (parties.Name Smb at) (known_party (party_by row.client n inside) s.names) ≡ true → option_map {U = LeaseKey} (λ k. record { client = row.client; key = k }) inside ≡ Some key
      by None h = absurd (false≢true h)
      by (Some k) h =
          let found = number_of (SmbLease row.client k) s.names in
          let number : number_or found ≡ at = equal_from at (number_or found) h in
          let one : SmbLease row.client k ≡ SmbLease key.client key.key = (number_known s.names (SmbLease row.client k) found refl good.few (SmbLease key.client key.key) (ap (slice_get s.names) number ∙ name)).1 in
          λ i. Some (record { client = client_is one i; key = inside_is one i })

  module _ (number : ℕ) (made : Open) (mine : key_of (Some made) ≡ Some key) where
    -- it goes with no open while another is under the lease
    one_keeps : (n : ℕ) (l : Lists) → IsLeased l number made → eqb number n ≡ false → is_of_some (party_going s.names l n) cache ≡ false
    one_keeps n l leased apart = by (open_of n l) refl
      where
        last_is : (row : Open) → open_of n l ≡ Some row → key_of (Some row) ≡ Some key → is_last_open n l ≡ true → eqb number n ≡ true
        last_is row there own last =
            let had = leased key mine in
            all_this n number had.0.opens (sym (ap (λ (o : Option LeaseKey). is_last_under n o l) (ap key_of there ∙ own) ∙ ap (is_last n) had.1) ∙ last) had.3

        by_last : (row : Open) (b : Bool) → open_of n l ≡ Some row → is_last_open n l ≡ b → is_of_some (if b then Some (party_of s.names n row) else None) cache ≡ false
        by_last row false there last = refl
        by_last row true there last =
            elim (cases_Bool (same_parties cache.party (party_of s.names n row))) [
              | inr differs ↦ differs
              | inl same ↦ absurd (true≢false (sym (last_is row there (of_lease n row same) last) ∙ apart))
            ]

        by : (o : Option Open) → open_of n l ≡ o → is_of_some (going_by s.names l n o) cache ≡ false
        by None there = refl
        by (Some row) there = by_last row (is_last_open n l) there refl

    leavers_keep : (numbers : List ℕ) (l : Lists) → IsLeased l number made → list_any (nat_eq number) numbers ≡ false → goes_among (leavers s.names l numbers) cache ≡ false
    leavers_keep [] l leased apart = refl
    leavers_keep (n ∷ ns) l leased apart =
        elim (cases_Bool (eqb number n)) [
          | inl same ↦ (let f : true ≡ false = rw same at apart in absurd (true≢false f))
          | inr other ↦ (
              let first : goes (leavers_of.Open n (party_going s.names l n)) cache ≡ false = rw is (one_keeps n l leased other) in
              rw first (leavers_keep ns (closed n l) (one_stays n number made l other leased) (rw other at apart)))
        ]

    waiting_keep : (numbers : List ℕ) → goes_among (without_party numbers) cache ≡ false
    waiting_keep [] = refl
    waiting_keep (n ∷ ns) = let first : goes (leavers_of.Open n None) cache ≡ false = rw is refl in rw first (waiting_keep ns)

    pub lease_outlives : (l : Lists) (under : Scope) → IsLeased l number made → list_any (nat_eq number) (opens_under under l) ≡ false → goes_among (leavers_under s.names under l) cache ≡ false
    lease_outlives l under leased apart =
        none_either (λ (e : ℕ × Option Party). goes (leavers_of.Open e.0 e.1) cache) (leavers s.names l (opens_under under l)) (without_party (creates_under under l)) (leavers_keep (opens_under under l) l leased apart) (waiting_keep (creates_under under l))
