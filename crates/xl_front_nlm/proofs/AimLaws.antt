-- What a lock names, and what a call tells, is a range with bytes.
use Rattle.std.proofs.Common.{◌≡◌, ℕ, ◌+◌, ◌-◌, ◌^◌, ◌≤◌, Bool, true, false, cond, eqb, ltb, leb, if◌then◌else◌, nat_le, inl, inr, List, Option, Some, None, Result, Ok, refl, subst, arith}
use Rattle.std.proofs.lemmas.Bool.{cases_Bool, ltb-true, leb-true, eqb-false}
use Rattle.xl_matrix.specs.declared.claim.Claim.{Claim}
use Rattle.xl_matrix.specs.declared.claim.Extent.TheVariants.{Bytes, Empty}
use Rattle.xl_matrix.specs.declared.claim.What.{What}
use Rattle.xl_matrix.specs.declared.claim.What.TheVariants as whats
use Rattle.xl_names.specs.declared.name.Name.{Name}
use Rattle.xl_names.specs.declared.name.Name.TheVariants.{NlmRange, NlmShare, NlmParty, NfsRange, NfsShare, NfsParty, SmbLease}
use Rattle.xl_nlm.specs.Items.{LockItem}
use Rattle.xl_front_nlm.specs.Aims.{exported, last_of, aimed, aimed_at, aimed_in}
use Rattle.xl_front_nlm.specs.Grants.{bytes_of, name_of, grant_by, grant_of}
use Rattle.xl_front_nlm.specs.declared.aim.Aim.{Aim}
use Rattle.xl_front_nlm.specs.declared.grant.Grant.{Grant}
use Rattle.xl_front_nlm.specs.declared.outcome.Outcome.{Outcome}

-- ---- what a lock names is a range

abbrev some : ℕ → Option ℕ
some n = Some n

chosen : (b : Bool) (x y : ℕ) → cond b (some x) None ≡ Some y → (b ≡ true) × (x ≡ y)
chosen true x y e = (refl, cc)
chosen false x y e = absurd cc

pub last_real : (offset len last : ℕ) → last_of offset len ≡ Some last → offset ≤ last
last_real offset len last e =
    elim (cases_Bool (eqb len 0)) [
      | inl whole ↦
          let at = chosen (ltb offset (2 ^ 64)) (2 ^ 64 - 1) last (rw whole at e) in
          omega (arith, ltb-true offset (2 ^ 64) at.0, at.1)
      | inr part ↦
          let at = chosen (leb (offset + len) (2 ^ 64)) (offset + len - 1) last (rw part at e) in
          omega (arith, leb-true (offset + len) (2 ^ 64) at.0, at.1, eqb-false len 0 part)
    ]

same_aim : (a b : Aim) → (let x : Result Aim Outcome = Ok a in x ≡ Ok b) → a ≡ b
same_aim a b e = cc

at_real : (l : LockItem) (file : ℕ) (o : Option ℕ) (at : Aim) → last_of l.l_offset l.l_len ≡ o → aimed_at l file o ≡ Ok at → at.first ≤ at.last
at_real l file None at e is = absurd cc
at_real l file (Some last) at e is = subst (λ (x : Aim). x.first ≤ x.last) (same_aim (record { file = file; first = l.l_offset; last = last }) at is) (last_real l.l_offset l.l_len last e)

in_real : (l : LockItem) (o : Option ℕ) (at : Aim) → aimed_in l o ≡ Ok at → at.first ≤ at.last
in_real l None at e = absurd cc
in_real l (Some file) at e = at_real l file (last_of l.l_offset l.l_len) at refl e

pub aim_real : (count : ℕ) (l : LockItem) (at : Aim) → aimed count l ≡ Ok at → at.first ≤ at.last
unfolding aimed
aim_real count l at e = in_real l (exported count l.fh) at e

-- ---- what a call tells

some_range : (first last : ℕ) (exclusive b : Bool) (r : ℕ × ℕ × Bool) → nat_le first last ≡ b → (if b then Some (first, last, exclusive) else None) ≡ Some r → r.0 ≤ r.1
some_range first last exclusive true r h e = subst (λ (x : ℕ × ℕ × Bool). x.0 ≤ x.1) (same (first, last, exclusive) r e) (leb-true first last h) where
  same : (x y : ℕ × ℕ × Bool) → Some x ≡ Some y → x ≡ y
  same x y e = cc
some_range first last exclusive false r h e = absurd cc

bytes_real : (w : What) (r : ℕ × ℕ × Bool) → bytes_of w ≡ Some r → r.0 ≤ r.1
bytes_real (whats.Range (Bytes first last) exclusive) r e = some_range first last exclusive (nat_le first last) r refl e
bytes_real (whats.Range (Empty offset) exclusive) r e = absurd cc
bytes_real (whats.Share access deny) r e = absurd cc
bytes_real (whats.Cache kind running) r e = absurd cc

abbrev some_grant : Grant → Option Grant
some_grant g = Some g

same_grant : (a b : Grant) → some_grant a ≡ some_grant b → a ≡ b
same_grant a b e = cc

by_real : (file : ℕ) (o : Option (ℕ × ℕ × Bool)) (name : Option Name) (g : Grant) → ((r : ℕ × ℕ × Bool) → o ≡ Some r → r.0 ≤ r.1) → grant_by file o name ≡ Some g → g.first ≤ g.last
by_real file (Some range) (Some (NlmRange caller svid oh)) g real e =
    subst (λ (x : Grant). x.first ≤ x.last) (same_grant (record { file = file; caller = caller; svid = svid; oh = oh; first = range.0; last = range.1; exclusive = range.2 }) g e) (real range refl)
by_real file (Some range) (Some (NlmShare caller oh)) g real e = absurd cc
by_real file (Some range) (Some (NlmParty caller)) g real e = absurd cc
by_real file (Some range) (Some (NfsRange client owner)) g real e = absurd cc
by_real file (Some range) (Some (NfsShare client owner)) g real e = absurd cc
by_real file (Some range) (Some (NfsParty client)) g real e = absurd cc
by_real file (Some range) (Some (SmbLease guid key)) g real e = absurd cc
by_real file (Some range) None g real e = absurd cc
by_real file None name g real e = absurd cc

pub grant_real : (names : List Name) (c : Claim) (g : Grant) → grant_of names c ≡ Some g → g.first ≤ g.last
unfolding grant_of
grant_real names c g e = by_real c.file (bytes_of c.what) (name_of names c.owner) g (bytes_real c.what) e
