-- An open's oplock is the cache on its file that is the open's.
use Rattle.std.proofs.Common.{◌≡◌, ℕ, Bool, ◌&&◌, List, [], ◌∷◌, ◌+◌, ◌≤◌, length, map, find, Option, Some, None, IfSome, inl, inr, refl, sym, ap, subst, ◌∙◌, arith}
use Rattle.std.specs.Prelude.{◌==◌}
use Rattle.std.specs.List.{filter}
use Rattle.std.proofs.lemmas.Bool.{cases_Bool}
use Rattle.xl_base.specs.Lists.{IsIn}
use Rattle.xl_base.specs.declared.name.Party.{Party}
use Rattle.xl_base.specs.declared.name.Party.TheVariants as parties
use Rattle.xl_matrix.specs.Equal.{same_parties}
use Rattle.xl_matrix.specs.declared.claim.Claim.{Claim}
use Rattle.xl_table.specs.Held.{is_cache}
use Rattle.xl_base.specs.Limits.{most_message_bytes}
use Rattle.xl_matrix.specs.declared.claim.CacheKind.{CacheKind}
use Rattle.xl_smb.specs.Lengths.{notice_length}
use Rattle.xl_smb.specs.declared.breaks.Notice.TheVariants as notice
use Rattle.xl_smb.specs.declared.file.FileId.{FileId}
use Rattle.xl_core.specs.Places.{CacheOf, is_cache_on, held_at}
use Rattle.xl_core.specs.State.{CoreState}
use Rattle.xl_smb.specs.declared.breaks.LeaseNotice.{LeaseNotice}
use Rattle.xl_smb.specs.declared.lease.Lease.{Lease}
use Rattle.xl_smb.specs.Leases.{lease_context}
use Rattle.xl_smb.specs.Places.{joined}
use Rattle.xl_base.specs.Codec.{little_endian}
use Rattle.std.specs.Int.{w32, w64}
use Rattle.std.proofs.lemmas.List.{length-append}
use Rattle.xl_cache.specs.Levels.{state_of}
use Rattle.std.specs.Option.{option_map}
use Rattle.xl_names.specs.declared.name.Name.{Name}
use Rattle.xl_smb_state.proofs.RowLaws.{none_some, same_Some}
use Rattle.xl_smb_state.specs.State.{key_of}
use Rattle.xl_smb_state.specs.declared.row.LeaseKey.{LeaseKey}
use Rattle.xl_core.specs.Askers.{known_party}
use Rattle.xl_smb_locks.specs.Levels.{cache_of, lease_party, party_by, oplock_of, kind_found, first_kind, flags_found, first_flags, lease_found, lease_holding, party_of, cache_told, caching}
use Rattle.xl_smb_state.specs.declared.row.Open.{Open}
use Rattle.xl_smb_locks.specs.declared.levels.Caching.TheVariants.{Leased}

find_among : (file : ℕ) (party : Party) (cs : List Claim) → find (λ c. same_parties c.party party) (filter (λ c. (c.file == file) && is_cache c.what) cs) ≡ find (is_cache_on file party) cs
find_among file party [] = refl
find_among file party (c ∷ cs) =
    let rest = find_among file party cs in
    elim (cases_Bool (is_cache c.what)) [
      | inl cache ↦ elim (cases_Bool (c.file == file)) [
        | inl on ↦ elim (cases_Bool (same_parties c.party party)) [ inl its ↦ rw (cache, on, its) refl | inr other ↦ rw (cache, on, other) rest ]
        | inr off ↦ rw (cache, off) rest
      ]
      | inr no_cache ↦ elim (cases_Bool (c.file == file)) [ inl on ↦ rw (no_cache, on) rest | inr off ↦ rw (no_cache, off) rest ]
    ]

pub cache_found : (file : ℕ) (party : Party) (held caches : List Claim) (found : Option Claim) → caches ≡ filter (λ c. (c.file == file) && is_cache c.what) held → found ≡ find (λ c. same_parties c.party party) caches → found ≡ cache_of file party held
cache_found file party held caches found all is = is ∙ ap (find (λ (c : Claim). same_parties c.party party)) all ∙ find_among file party held

find_in : (p : Claim → Bool) (cs : List Claim) → IfSome (find p cs) (λ c. IsIn c cs)
find_in p [] = tt
find_in p (c ∷ cs) = elim (cases_Bool (p c)) [ inl h ↦ rw h (inl refl) | inr h ↦ rw h (later (find p cs) (find_in p cs)) ]
  where
    later : (o : Option Claim) → IfSome o (λ d. IsIn d cs) → IfSome o (λ d. IsIn d (c ∷ cs))
    later None h = tt
    later (Some d) h = inr h

pub cache_held : (file : ℕ) (party : Party) (held : List Claim) (found : Option Claim) → found ≡ cache_of file party held → IfSome found (λ c. IsIn c held)
cache_held file party held found is = subst (λ (o : Option Claim). IfSome o (λ c. IsIn c held)) (sym is) (find_in (is_cache_on file party) held)

-- the kind that is found is what is held at the place
first_there : (p : Claim → Bool) (cs : List Claim) → kind_found (find p cs) ≡ first_kind (map (λ c. c.what) (filter p cs))
first_there p [] = refl
first_there p (c ∷ cs) = elim (cases_Bool (p c)) [ inl h ↦ rw h refl | inr h ↦ rw h (first_there p cs) ]

pub kind_there : (s : CoreState) (file number : ℕ) (found : Option Claim) (kind : Option CacheKind) → kind ≡ kind_found found → found ≡ oplock_of file number s.claims → kind ≡ first_kind (held_at s (CacheOf file (parties.Open number)))
kind_there s file number found kind is at = is ∙ ap kind_found at ∙ first_there (is_cache_on file (parties.Open number)) s.claims

flags_there : (p : Claim → Bool) (cs : List Claim) → flags_found (find p cs) ≡ first_flags (map (λ c. c.what) (filter p cs))
flags_there p [] = refl
flags_there p (c ∷ cs) = elim (cases_Bool (p c)) [ inl h ↦ rw h refl | inr h ↦ rw h (flags_there p cs) ]

-- a lease is told as it stands
pub lease_there : (s : CoreState) (file : ℕ) (party : Party) (key : List ℕ) (found : Option Claim) → found ≡ cache_of file party s.claims → lease_found key found ≡ lease_holding key (held_at s (CacheOf file party))
lease_there s file party key found at =
    ap (lease_found key) at
    ∙ (λ i. record { key = key; state = state_of (first_there (is_cache_on file party) s.claims i); flags = flags_there (is_cache_on file party) s.claims i; duration = 0 })

pub leased_told : (s : CoreState) (number : ℕ) (row : Open) (key : List ℕ) (party : Party) (found : Option Claim) (lease : Lease) → row.lease ≡ Some key → party ≡ party_of s.names number row → found ≡ cache_of row.file party s.claims → lease ≡ lease_found key found
    → Leased lease ≡ caching s number row
unfolding cache_told
leased_told s number row key party found lease under own at is =
    ap (λ (x : Lease). Leased x) (is ∙ lease_there s row.file party key found at ∙ ap (λ (p : Party). lease_holding key (held_at s (CacheOf row.file p))) own)
    ∙ ap (cache_told s number row) (sym under)

-- an open that is under a lease has the lease's caches, and is told of those
pub party_under : (names : List Name) (number : ℕ) (row : Open) (key : LeaseKey) → key_of (Some row) ≡ Some key → party_of names number row ≡ lease_party names key.client key.key
party_under names number row key is = by row.lease is
  where
    by : (name : Option (List ℕ)) → option_map {U = LeaseKey} (λ k. record { client = row.client; key = k }) name ≡ Some key → known_party (party_by row.client number name) names ≡ lease_party names key.client key.key
    by None h = absurd (none_some h)
    by (Some inside) h = ap (λ (k : LeaseKey). lease_party names k.client k.key) (same_Some h)

pub party_alone : (names : List Name) (number : ℕ) (row : Open) → row.lease ≡ None → party_of names number row ≡ parties.Open number
party_alone names number row none = ap (λ (name : Option (List ℕ)). known_party (party_by row.client number name) names) none

told_under : (s : CoreState) (number : ℕ) (row : Open) (key : LeaseKey) → key_of (Some row) ≡ Some key → caching s number row ≡ Leased (lease_holding key.key (held_at s (CacheOf row.file (lease_party s.names key.client key.key))))
unfolding cache_told
told_under s number row key is = by row.lease is
  where
    own : party_of s.names number row ≡ lease_party s.names key.client key.key
    own = party_under s.names number row key is

    by : (name : Option (List ℕ)) → option_map {U = LeaseKey} (λ k. record { client = row.client; key = k }) name ≡ Some key → cache_told s number row name ≡ Leased (lease_holding key.key (held_at s (CacheOf row.file (lease_party s.names key.client key.key))))
    by None h = absurd (none_some h)
    by (Some inside) h =
        ap (λ (p : Party). Leased (lease_holding inside (held_at s (CacheOf row.file p)))) own
        ∙ ap (λ (k : LeaseKey). Leased (lease_holding k.key (held_at s (CacheOf row.file (lease_party s.names key.client key.key))))) (same_Some h)

pub told_alike : (s : CoreState) (number other : ℕ) (row more : Open) (key : LeaseKey) → key_of (Some row) ≡ Some key → key_of (Some more) ≡ Some key → row.file ≡ more.file → caching s number row ≡ caching s other more
told_alike s number other row more key is too same =
    told_under s number row key is
    ∙ ap (λ (file : ℕ). Leased (lease_holding key.key (held_at s (CacheOf file (lease_party s.names key.client key.key))))) same
    ∙ sym (told_under s other more key too)

-- the context that carries a lease is short
pub context_length : (l : Lease) → length l.key ≡ 16 → length (lease_context l) ≡ 56
unfolding lease_context little_endian
context_length l key = let tail = joined (little_endian w32 l.state ∷ little_endian w32 l.flags ∷ little_endian w64 l.duration ∷ []) in omega (arith, key, length-append l.key tail)

pub context_little : (l : Lease) (list : List ℕ) → length l.key ≡ 16 → list ≡ lease_context l → length list ≤ 56
context_little l list key is = let long : length list ≡ 56 = ap length is ∙ context_length l key in omega (arith, long)

-- a notice is short
pub notice_little : (level : ℕ) (id : FileId) → 64 + notice_length (notice.Oplock level id) ≤ most_message_bytes
notice_little level id = omega arith

pub lease_little : (told : LeaseNotice) → 64 + notice_length (notice.Lease told) ≤ most_message_bytes
lease_little told = omega arith
