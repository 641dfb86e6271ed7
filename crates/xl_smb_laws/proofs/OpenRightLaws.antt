-- The access that is asked for, what is denied, and what is told of a lease.
use Rattle.std.proofs.Common.{◌≡◌, ℕ, ◌≤◌, ◌||◌, Bool, true, false, not, min, max, List, [], ◌∷◌, Option, Some, None, refl, sym, ap, ◌∙◌, arith}
use Rattle.std.specs.Prelude.{◌==◌}
use Rattle.std.specs.Int.Bits.{bit_and, bit_or}
use Rattle.std.proofs.lemmas.Bool.Decides.{nat_tests}
use Rattle.std.proofs.lemmas.Nat.{le_or_l, le_or_r}
use Rattle.std.proofs.lemmas.Nat.Bits.{bit_at_and, bit_at_or, same_from_bits}
use Rattle.std.specs.Int.{bit_at}
use Rattle.xl_matrix.specs.declared.claim.Break.{Break}
use Rattle.xl_matrix.specs.declared.claim.CacheKind.{CacheKind}
use Rattle.xl_matrix.specs.declared.claim.Rwd.{Rwd}
use Rattle.xl_matrix.specs.declared.claim.What.{What}
use Rattle.xl_matrix.specs.declared.claim.What.TheVariants.{Cache}
use Rattle.xl_cache.specs.Levels.{state_of}
use Rattle.xl_smb.specs.Heads.{is_set}
use Rattle.xl_smb_state.specs.declared.row.Open.{Open}
use Rattle.xl_smb_state.specs.declared.row.LeaseKey.{LeaseKey}
use Rattle.xl_core.specs.Places.{CacheOf, held_at}
use Rattle.xl_core.specs.State.{CoreState}
use Rattle.xl_smb_locks.specs.Levels.{cache_told, caching, lease_holding, lease_party, party_of}
use Rattle.xl_smb_locks.specs.declared.levels.Caching.TheVariants.{Leased}
use Rattle.xl_smb_locks.proofs.LevelLaws.{party_under}
use Rattle.xl_front_smb.specs.Files.{access_of, asks_any, delete_bits, deny_of, read_bits, write_bits}
use Rattle.xl_smb_laws.specs.OpenRights.{nothing, united}

-- ---- the rights of two masks together

spread : (a b m : ℕ) → bit_and (bit_or a b) m ≡ bit_or (bit_and a m) (bit_and b m)
spread a b m = same_from_bits (bit_and (bit_or a b) m) (bit_or (bit_and a m) (bit_and b m)) (λ i.
    bit_at_and (bit_or a b) m i
    ∙ ap (λ (x : ℕ). min x (bit_at m i)) (bit_at_or a b i)
    ∙ least (bit_at a i) (bit_at b i) (bit_at m i)
    ∙ sym (bit_at_or (bit_and a m) (bit_and b m) i ∙ ap (λ (x : ℕ). max x (bit_at (bit_and b m) i)) (bit_at_and a m i) ∙ ap (λ (x : ℕ). max (min (bit_at a i) (bit_at m i)) x) (bit_at_and b m i)))
  where
    least : (x y z : ℕ) → min (max x y) z ≡ max (min x z) (min y z)
    least x y z = grind (arith, nat_tests)

either_some : (x y z : ℕ) → x ≤ z → y ≤ z → (x ≡ 0 → y ≡ 0 → z ≡ 0) → not (z == 0) ≡ (not (x == 0) || not (y == 0))
either_some x y z first second none = by (x == 0) (y == 0) refl refl
  where
    by : (a b : Bool) → (x == 0) ≡ a → (y == 0) ≡ b → not (z == 0) ≡ (not a || not b)
    by true true here there = (let e : z ≡ 0 = none (grind (arith, nat_tests)) (grind (arith, nat_tests)) in grind (arith, nat_tests))
    by true false here there = grind (arith, nat_tests)
    by false b here there = grind (arith, nat_tests)

asked_either : (bits a b : ℕ) → asks_any bits (bit_or a b) ≡ (asks_any bits a || asks_any bits b)
asked_either bits a b =
    ap (λ (x : ℕ). not (x == 0)) (spread a b bits)
    ∙ either_some (bit_and a bits) (bit_and b bits) (bit_or (bit_and a bits) (bit_and b bits)) (le_or_l (bit_and a bits) (bit_and b bits)) (le_or_r (bit_and a bits) (bit_and b bits)) (λ first second. ap (λ (x : ℕ). bit_or x (bit_and b bits)) first ∙ ap (λ (x : ℕ). bit_or 0 x) second)

pub asked_together : (a b : ℕ) → access_of (bit_or a b) ≡ united (access_of a) (access_of b)
asked_together a b = λ i. record { r = asked_either read_bits a b i; w = asked_either write_bits a b i; d = asked_either delete_bits a b i }

-- ---- what is denied

pub unshared_denied : (access : Rwd) (share : ℕ) → (access.r || (access.w || access.d)) ≡ true → deny_of access share ≡ record { r = not (is_set 1 share); w = not (is_set 2 share); d = not (is_set 4 share) }
unfolding deny_of
unshared_denied access share one = rw one refl

pub none_denied : (access : Rwd) (share : ℕ) → access.r ≡ false → access.w ≡ false → access.d ≡ false → deny_of access share ≡ nothing
unfolding deny_of
none_denied access share first second third = rw (first, second, third) refl

-- ---- what is told of a lease

told_holding : (s : CoreState) (number : ℕ) (row : Open) (key : List ℕ) (held : List What) → row.lease ≡ Some key → held_at s (CacheOf row.file (lease_party s.names row.client key)) ≡ held → caching s number row ≡ Leased (lease_holding key held)
unfolding cache_told
told_holding s number row key held under at =
    let one : party_of s.names number row ≡ lease_party s.names row.client key = party_under s.names number row (record { client = row.client; key = key }) (ap (λ (o : Option (List ℕ)). keyed o) under) in
    ap (cache_told s number row) under ∙ ap (λ (p : _). Leased (lease_holding key (held_at s (CacheOf row.file p)))) one ∙ ap (λ (ws : List What). Leased (lease_holding key ws)) at
  where
    keyed : Option (List ℕ) → Option LeaseKey
    keyed None = None
    keyed (Some k) = Some (record { client = row.client; key = k })

pub told_running : (s : CoreState) (number : ℕ) (row : Open) (key : List ℕ) (kind : CacheKind) (running : Break) (rest : List What) → row.lease ≡ Some key → held_at s (CacheOf row.file (lease_party s.names row.client key)) ≡ Cache kind (Some running) ∷ rest
    → caching s number row ≡ Leased (record { key = key; state = state_of (Some kind); flags = 2; duration = 0 })
told_running s number row key kind running rest under at = told_holding s number row key (Cache kind (Some running) ∷ rest) under at

pub told_resting : (s : CoreState) (number : ℕ) (row : Open) (key : List ℕ) (kind : CacheKind) (rest : List What) → row.lease ≡ Some key → held_at s (CacheOf row.file (lease_party s.names row.client key)) ≡ Cache kind None ∷ rest
    → caching s number row ≡ Leased (record { key = key; state = state_of (Some kind); flags = 0; duration = 0 })
told_resting s number row key kind rest under at = told_holding s number row key (Cache kind None ∷ rest) under at

pub told_bare : (s : CoreState) (number : ℕ) (row : Open) (key : List ℕ) → row.lease ≡ Some key → held_at s (CacheOf row.file (lease_party s.names row.client key)) ≡ []
    → caching s number row ≡ Leased (record { key = key; state = 0; flags = 0; duration = 0 })
told_bare s number row key under at = told_holding s number row key [] under at
