-- The core takes what is asked for an open's ranges.
use Rattle.std.proofs.Common.{◌≡◌, ℕ, suc, ◌+◌, ◌-◌, ◌≤◌, ◌<◌, ◌^◌, Bool, true, false, not, ◌&&◌, ◌||◌, if◌then◌else◌, List, [], ◌∷◌, length, map, Option, Some, None, refl, sym, ap, subst, ◌∙◌, arith, drop, get_or}
use Rattle.std.specs.Prelude.{◌==◌, nat_lt}
use Rattle.std.specs.List.{list_any}
use Rattle.std.proofs.lemmas.Bool.{false≢true, true≢false}
use Rattle.std.proofs.lemmas.Bool.Decides.{nat_tests}
use Rattle.std.proofs.lemmas.List.{drop_more}
use Rattle.xl_matrix.specs.declared.claim.Extent.{Extent}
use Rattle.xl_matrix.specs.declared.claim.Extent.TheVariants.{Bytes, Empty}
use Rattle.xl_core.specs.declared.ask.Act.TheVariants as acts
use Rattle.xl_smb.specs.declared.lock.LockElement.{LockElement}
use Rattle.xl_smb_state.proofs.RowLaws.{equal_self}
use Rattle.xl_core.specs.Askers.{is_client, range_what, may_hold, may_hold_all, IsOrdered, AreMore}
use Rattle.xl_smb_state.specs.declared.row.Open.{Open}
use Rattle.xl_smb_locks.specs.Levels.{party_by, party_for}
use Rattle.xl_core.specs.declared.ask.Ask.{Ask}
use Rattle.xl_core.specs.declared.ask.Who.TheVariants as who
use Rattle.xl_smb_locks.specs.Elements.{last_byte, wraps, extent_of, is_locking, is_lock, any_waits, unlock_fault, lock_fault}
use Rattle.xl_smb_locks.specs.Locks.{range_ask, range_of, unlock_ask, lock_ask}
use Rattle.xl_smb_locks.specs.Short.{IsOpenAsk}
use Rattle.xl_smb_locks.specs.declared.status.SmbStatus.{SmbStatus}
use Rattle.xl_smb_locks.specs.declared.status.SmbStatus.TheVariants.{InvalidParameter, InvalidLockRange}

-- ---- whose an ask is

pub party_fits : (number : ℕ) (row : Open) → is_client (who.Open number) (party_for number row) ≡ true
party_fits number row = by row.lease where
  by : (name : Option (List ℕ)) → is_client (who.Open number) (party_by row.client number name) ≡ true
  by None = equal_self number
  by (Some key) = refl

-- ---- one range

-- a range that doesn't wrap hasn't all bytes that there are
not_all : (o l : ℕ) → (l == 0) ≡ false → (nat_lt last_byte l || nat_lt last_byte (o + (l - 1))) ≡ false → not ((o == 0) && (o + (l - 1) == 2 ^ 64 - 1)) ≡ true
not_all o l some within = grind (arith, nat_tests)

ordered : (o l : ℕ) (b : Bool) → IsOrdered (if b then Empty o else Bytes o (o + (l - 1)))
ordered o l true = tt
ordered o l false = omega arith

held : (number o l : ℕ) (x b : Bool) → (l == 0) ≡ b → (not b && (nat_lt last_byte l || nat_lt last_byte (o + (l - 1)))) ≡ false → may_hold (who.Open number) (range_what ((if b then Empty o else Bytes o (o + (l - 1))), x)) ≡ true
held number o l x true is within = refl
held number o l x false is within = not_all o l is within

in_order : (e : LockElement) → IsOrdered (extent_of e)
in_order e = ordered e.offset e.length (e.length == 0)

may_be_held : (number : ℕ) (e : LockElement) → wraps e ≡ false → may_hold (who.Open number) (range_what (range_of e)) ≡ true
may_be_held number e within = held number e.offset e.length _ (e.length == 0) refl within

pub unlock_fits : (number : ℕ) (row : Open) (e : LockElement) → IsOpenAsk (unlock_ask number row e)
unfolding unlock_ask
unlock_fits number row e = record { fit = record { act = in_order e; own = refl; party = party_fits number row; wish = refl }; unnamed = refl; reclaim = refl; monitored = refl }

pub unlock_is : (a : Ask) (number : ℕ) (row : Open) (e : LockElement) → a ≡ unlock_ask number row e → IsOpenAsk a
unlock_is a number row e is = subst (λ (x : Ask). IsOpenAsk x) (sym is) (unlock_fits number row e)

-- ---- several

none_first : {x y : Bool} → (x || y) ≡ false → (x ≡ false) × (y ≡ false)
none_first {x} {y} h = go x y h where
  go : (x y : Bool) → (x || y) ≡ false → (x ≡ false) × (y ≡ false)
  go true y h = absurd (true≢false h)
  go false y h = (refl, h)

all_held : (number : ℕ) (es : List LockElement) → list_any wraps es ≡ false → may_hold_all (who.Open number) (map range_of es) ≡ true
all_held number [] within = refl
all_held number (e ∷ es) within = let two = none_first within in rw (may_be_held number e two.0) (all_held number es two.1)

more : (number : ℕ) (blocking : Bool) (es : List LockElement) → blocking ≡ false → AreMore (who.Open number) blocking (map range_of es)
more number blocking [] waits = tt
more number blocking (e ∷ es) waits = (refl, waits, in_order e, more number blocking es waits)

-- ---- what the checks leave

no_fault : {x : SmbStatus} → Some x ≡ None → ⊥
no_fault h = cc

passed : (other several waits wrap : Bool) → (if other then Some InvalidParameter else if several && waits then Some InvalidParameter else if wrap then Some InvalidLockRange else None) ≡ None → (several && waits ≡ false) × (wrap ≡ false)
passed true several waits wrap h = absurd (no_fault h)
passed false true true wrap h = absurd (no_fault h)
passed false true false true h = absurd (no_fault h)
passed false true false false h = (refl, refl)
passed false false waits true h = absurd (no_fault h)
passed false false waits false h = (refl, refl)

pub checks_pass : (es : List LockElement) → lock_fault es ≡ None → (nat_lt 1 (length es) && any_waits es ≡ false) × (list_any wraps es ≡ false)
unfolding lock_fault
checks_pass es h = passed (list_any (λ e. not (is_lock e)) es) (nat_lt 1 (length es)) (any_waits es) (list_any wraps es) h

pub none_wraps : (es : List LockElement) → lock_fault es ≡ None → list_any wraps es ≡ false
none_wraps es h = (checks_pass es h).1

other_false : (b c : Bool) → b ≡ true → b && c ≡ false → c ≡ false
other_false true c is h = h
other_false false c is h = absurd (false≢true is)

two_or_more : (n : ℕ) → nat_lt 1 (suc (suc n)) ≡ true
two_or_more n = grind (arith, nat_tests)

-- of several none waits
alone : (number : ℕ) (e : LockElement) (es : List LockElement) → lock_fault (e ∷ es) ≡ None → AreMore (who.Open number) (any_waits (e ∷ es)) (map range_of es)
alone number e [] h = tt
alone number e (f ∷ fs) h = more number (any_waits (e ∷ f ∷ fs)) (f ∷ fs) (other_false (nat_lt 1 (length (e ∷ f ∷ fs))) (any_waits (e ∷ f ∷ fs)) (two_or_more (length fs)) (checks_pass (e ∷ f ∷ fs) h).0)

pub lock_fits : (conn number : ℕ) (row : Open) (es : List LockElement) → lock_fault es ≡ None → 1 ≤ length es → IsOpenAsk (lock_ask conn number row es)
unfolding lock_ask
lock_fits conn number row [] h some = absurd (omega (arith, some))
lock_fits conn number row (e ∷ es) h some =
    record {
      fit = record { act = (in_order e, alone number e es h); own = all_held number (e ∷ es) (none_wraps (e ∷ es) h); party = party_fits number row; wish = refl };
      unnamed = refl;
      reclaim = refl;
      monitored = refl;
    }

pub lock_is : (a : Ask) (conn number : ℕ) (row : Open) (es : List LockElement) → a ≡ lock_ask conn number row es → lock_fault es ≡ None → 1 ≤ length es → IsOpenAsk a
lock_is a conn number row es is h some = subst (λ (x : Ask). IsOpenAsk x) (sym is) (lock_fits conn number row es h some)

-- as the code asks
pub lock_is_by : (a : Ask) (conn number : ℕ) (row : Open) (blocking : Bool) (es : List LockElement) (ranges : List (Extent × Bool)) → a ≡ range_ask (Some conn) number row (acts.Ranges ranges) blocking → ranges ≡ map range_of es → blocking ≡ any_waits es → lock_fault es ≡ None → 1 ≤ length es → IsOpenAsk a
unfolding lock_ask
lock_is_by a conn number row blocking es ranges is same waits h some =
    lock_is a conn number row es (is ∙ (λ i. range_ask (Some conn) number row (acts.Ranges (same i)) (waits i))) h some

-- an unlock that isn't refused doesn't wrap
unlock_passed : (locking wrap : Bool) → (if locking then Some InvalidParameter else if wrap then Some InvalidLockRange else None) ≡ None → wrap ≡ false
unlock_passed true wrap h = absurd (no_fault h)
unlock_passed false true h = absurd (no_fault h)
unlock_passed false false h = refl

pub unlock_within : (e : LockElement) → unlock_fault e ≡ None → wraps e ≡ false
unfolding unlock_fault
unlock_within e h = unlock_passed (is_locking e) (wraps e) h

-- the next of these doesn't wrap, and none behind it
pub next_within : (es : List LockElement) (i : ℕ) (d : LockElement) → i < length es → list_any wraps (drop i es) ≡ false → (wraps (get_or es i d) ≡ false) × (list_any wraps (drop (i + 1) es) ≡ false)
next_within es i d there within = none_first (sym (ap (λ (xs : List LockElement). list_any wraps xs) (drop_more es i d there)) ∙ within)

-- ---- they are the open's

pub unlock_owns : (number : ℕ) (row : Open) (e : LockElement) → ((unlock_ask number row e).owner ≡ who.Open number) × ((unlock_ask number row e).party ≡ party_for number row)
unfolding unlock_ask
unlock_owns number row e = (refl, refl)

pub lock_owns : (conn number : ℕ) (row : Open) (es : List LockElement) → ((lock_ask conn number row es).owner ≡ who.Open number) × ((lock_ask conn number row es).party ≡ party_for number row)
unfolding lock_ask
lock_owns conn number row es = (refl, refl)
