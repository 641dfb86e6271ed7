-- The result of a lock that is denied: it has a spelling, and how long it is.
use Rattle.std.proofs.Common.{◌≡◌, ℕ, ◌+◌, ◌≤◌, ◌<◌, ◌^◌, true, List, ◌++◌, length, Ok, Err, sym, ap, subst, ◌∙◌, inl, inr, arith}
use Rattle.std.proofs.lemmas.Bool.{cases_Bool}
use Rattle.std.proofs.lemmas.List.{length-append, length-replicate}
use Rattle.std.specs.Bool.{◌==◌}
use Rattle.xl_nfs.specs.Basics.{most_text_bytes, lock_type, lock_type_number, owner}
use Rattle.xl_nfs.specs.Locks.{denied}
use Rattle.xl_nfs.specs.Outcomes.{is_ok, lock_outcome, DeniedBy}
use Rattle.xl_nfs.specs.Results.{ResultItem, LockAnswer, LockTAnswer, nfs_result, ResultFits}
use Rattle.xl_nfs.specs.Statuses.{status, status_number}
use Rattle.xl_base.specs.Codec.{big_endian}
use Rattle.xl_rpc.specs.Xdr.{unsigned, hyper, void, opaque, fixed, pad}
use Rattle.xl_format.specs.Formats.{nothing}
use Rattle.std.specs.Prelude.{replicate}
use Rattle.std.proofs.lemmas.Bool.{leb-true}
use Rattle.xl_nfs.specs.declared.status.NfsStatus.{NfsStatus}
use Rattle.xl_nfs_opens.specs.Results.{denied_item, denied_as}
use Rattle.xl_nfs_opens.specs.Seqids.{most_told, is_short, read_status, kept_status}
use Rattle.xl_nfs_opens.specs.declared.told.HeldLock.{HeldLock}
use Rattle.xl_nfs_state.specs.Bytes.{most_result_bytes}

item_fits : (h : HeldLock) → h.offset < 2 ^ 64 → h.len < 2 ^ 64 → h.clientid < 2 ^ 64 → length h.owner ≤ most_text_bytes → denied.Fit (denied_item h)
unfolding denied lock_type owner
item_fits h offset len clientid few = (offset, (len, (tt, (clientid, few))))

pub lock_fits : (h : HeldLock) → denied.Fit (denied_item h) → ResultFits (LockAnswer (Err (DeniedBy (denied_item h))))
unfolding nfs_result lock_outcome status
lock_fits h fit = (omega arith, (tt, fit))

pub test_fits : (h : HeldLock) → denied.Fit (denied_item h) → ResultFits (LockTAnswer (Err (DeniedBy (denied_item h))))
unfolding nfs_result lock_outcome status
test_fits h fit = (omega arith, (tt, fit))

pub denied_fits : (number : ℕ) (h : HeldLock) → h.offset < 2 ^ 64 → h.len < 2 ^ 64 → h.clientid < 2 ^ 64 → length h.owner ≤ most_text_bytes → ResultFits (denied_as number h)
denied_fits number h offset len clientid few =
    let fit = item_fits h offset len clientid few in
    elim (cases_Bool (number == 13)) [
      | inl e ↦ rw e (test_fits h fit)
      | inr e ↦ rw e (lock_fits h fit)
    ]

-- the same where none stands against it
pub free_fits : ResultFits (LockTAnswer (Ok tt))
unfolding nfs_result lock_outcome status nothing
free_fits = (omega arith, (tt, tt))

pub free_little : length (nfs_result.spell (LockTAnswer (Ok tt))) ≤ 24
unfolding nfs_result nothing void big_endian lock_outcome status
free_little = omega arith

pub free_grown : (old new : List ℕ) → new ≡ old ++ nfs_result.spell (LockTAnswer (Ok tt)) → length new ≤ length old + 104
free_grown old new is = subst (λ (x : List ℕ). length x ≤ length old + 104) (sym is) (omega (arith, length-append old (nfs_result.spell (LockTAnswer (Ok tt))), free_little))

-- ---- how long it is

pad_little : (n : ℕ) → n ≤ 1024 → n + pad n ≤ 1024
unfolding pad
pad_little n le = omega (arith, le)

fixed_little : (bytes : List ℕ) → length bytes ≤ most_text_bytes → length (fixed bytes) ≤ 1024
unfolding fixed
fixed_little bytes few = omega (arith, length-append bytes (replicate (pad (length bytes)) 0), length-replicate {A = ℕ} (pad (length bytes)) 0, pad_little (length bytes) few)

more_little : (a b c d n : ℕ) (more : List ℕ) → length more ≤ 1024 → length (hyper a ++ (hyper b ++ (unsigned c ++ (hyper d ++ (unsigned n ++ more))))) ≤ 1056
unfolding big_endian
more_little a b c d n more le = omega (arith, le)

item_little : (h : HeldLock) → length h.owner ≤ most_text_bytes → length (denied.spell (denied_item h)) ≤ 1056
unfolding denied lock_type owner opaque
item_little h few = more_little h.offset h.len (lock_type_number h.kind) h.clientid (length h.owner) (fixed h.owner) (fixed_little h.owner few)

eight_more : (number status : ℕ) (more : List ℕ) → length more ≤ 1056 → length (unsigned number ++ (unsigned status ++ more)) ≤ 1064
unfolding big_endian
eight_more number status more le = omega (arith, le)

lock_little : (h : HeldLock) → length (denied.spell (denied_item h)) ≤ 1056 → length (nfs_result.spell (LockAnswer (Err (DeniedBy (denied_item h))))) ≤ 1064
unfolding nfs_result lock_outcome status status_number
lock_little h le = eight_more 12 10010 (denied.spell (denied_item h)) le

test_little : (h : HeldLock) → length (denied.spell (denied_item h)) ≤ 1056 → length (nfs_result.spell (LockTAnswer (Err (DeniedBy (denied_item h))))) ≤ 1064
unfolding nfs_result lock_outcome status status_number
test_little h le = eight_more 13 10010 (denied.spell (denied_item h)) le

held_little : (number : ℕ) (h : HeldLock) → length h.owner ≤ most_text_bytes → length (nfs_result.spell (denied_as number h)) ≤ 1064
held_little number h few =
    let le = item_little h few in
    elim (cases_Bool (number == 13)) [
      | inl e ↦ rw e (test_little h le)
      | inr e ↦ rw e (lock_little h le)
    ]

pub denied_grown : (old new : List ℕ) (r : ResultItem) (number : ℕ) (h : HeldLock) → length h.owner ≤ most_text_bytes → r ≡ denied_as number h → new ≡ old ++ nfs_result.spell r → length new ≤ length old + most_result_bytes
denied_grown old new r number h few same is =
    subst (λ (x : List ℕ). length x ≤ length old + most_result_bytes) (sym (is ∙ ap (λ (x : ResultItem). old ++ nfs_result.spell x) same)) (omega (arith, length-append old (nfs_result.spell (denied_as number h)), held_little number h few))

-- ---- by how it ended

most_least : (s : NfsStatus) → 104 ≤ most_told s
most_least s =
    elim (cases_Bool (is_ok s)) [
      | inl e ↦ rw e (omega arith)
      | inr e ↦ rw e (omega arith)
    ]

pub ended_told : (old new : ℕ) (s : NfsStatus) → new ≤ old + 104 → new ≤ old + most_told s
ended_told old new s le = omega (arith, most_least s, le)

kept_most : (bytes : List ℕ) → length bytes ≤ most_result_bytes → length bytes ≤ most_told (kept_status bytes)
unfolding kept_status
kept_most bytes few =
    elim (cases_Bool (is_short bytes)) [
      | inl short ↦ rw short (omega (arith, most_least (read_status (nfs_result.at bytes)), leb-true (length bytes) 104 short))
      | inr long ↦ rw long few
    ]

pub kept_grown : (old new bytes kept : List ℕ) → kept ≡ bytes → length bytes ≤ most_result_bytes → new ≡ old ++ kept → length new ≤ length old + most_told (kept_status bytes)
kept_grown old new bytes kept same few is =
    subst (λ (x : List ℕ). length x ≤ length old + most_told (kept_status bytes)) (sym (is ∙ ap (λ (k : List ℕ). old ++ k) same)) (omega (arith, length-append old bytes, kept_most bytes few))

-- where another operation is done behind it, it is short
pub short_told : (old new : ℕ) (s : NfsStatus) → new ≤ old + most_told s → is_ok s ≡ true → new ≤ old + 104
short_told old new s le ok = rw ok at le

pub most_most : (old new : ℕ) (s : NfsStatus) → new ≤ old + most_told s → new ≤ old + 1064
most_most old new s le =
    elim (cases_Bool (is_ok s)) [
      | inl e ↦ (let few : new ≤ old + 104 = rw e at le in omega (arith, few))
      | inr e ↦ rw e at le
    ]
