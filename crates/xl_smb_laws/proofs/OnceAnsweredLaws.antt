-- Who waits no more has one final reply.
use Rattle.std.proofs.Common.{◌≡◌, ℕ, Bool, false, eqb, cond, List, [], ◌∷◌, ◌++◌, Option, Some, refl, sym, ap, ◌∙◌, inl, inr, append_assoc}
use Rattle.std.specs.Prelude.{nat_eq}
use Rattle.std.specs.List.{AllByRecursion, IsDistinct}
use Rattle.std.specs.Map.{keys_of, lookup, remove_entry}
use Rattle.std.proofs.lemmas.Bool.{cases_Bool}
use Rattle.std.proofs.lemmas.Map.Keys.{IsDistinct-head, IsDistinct-tail}
use Rattle.xl_base.proofs.Members.{all_append}
use Rattle.xl_base.specs.declared.event.Out.{Out}
use Rattle.xl_core.specs.declared.ask.Effect.{Effect}
use Rattle.xl_smb_state.specs.Links.{AreDistinct}
use Rattle.xl_smb_state.specs.State.{Lists}
use Rattle.xl_smb_state.specs.declared.row.Waiting.{Waiting}
use Rattle.xl_smb_state.proofs.RowLaws.{equal_self, unequal_both}
use Rattle.xl_smb_locks.specs.Finals.{and_sent, dismissed, ended_with, is_cancelled, request_ended}
use Rattle.xl_smb_locks.specs.declared.status.SmbStatus.TheVariants.{Cancelled}
use Rattle.xl_front_smb.specs.Ending.{all_dismissed}
use Rattle.xl_smb_laws.specs.ReplyHeads.{cancelled_outs, not_cancelled}

-- no row of these has the number
abbrev Apart : ℕ → List (ℕ × Waiting) → Type 0
Apart k es = AllByRecursion (λ (e : ℕ × Waiting). eqb k e.0 ≡ false) es

found_behind : (k : ℕ) (row : Waiting) (kept es : List (ℕ × Waiting)) → Apart k kept → lookup (nat_eq k) (kept ++ (k, row) ∷ es) ≡ Some row
found_behind k row [] es apart = ap (λ (b : Bool). cond b (Some row) (lookup (nat_eq k) es)) (equal_self k)
found_behind k row (e ∷ kept) es apart = rw apart.0 (found_behind k row kept es apart.1)

removed_behind : (k : ℕ) (row : Waiting) (kept es : List (ℕ × Waiting)) → Apart k kept → remove_entry (nat_eq k) (kept ++ (k, row) ∷ es) ≡ kept ++ es
removed_behind k row [] es apart = ap (λ (b : Bool). cond b es ((k, row) ∷ remove_entry (nat_eq k) es)) (equal_self k)
removed_behind k row (e ∷ kept) es apart = rw apart.0 (ap (λ (fs : List (ℕ × Waiting)). e ∷ fs) (removed_behind k row kept es apart.1))

-- the lists with these rows
abbrev rows : Lists → List (ℕ × Waiting) → Lists
rows l es = record l { waiting = es }

-- each of these is apart from those that are kept before
abbrev AllApart : List (ℕ × Waiting) → List (ℕ × Waiting) → Type 0
AllApart kept es = AllByRecursion (λ (e : ℕ × Waiting). Apart e.0 kept) es

and_more : (kept es : List (ℕ × Waiting)) (d : ℕ × Waiting) → AllByRecursion (λ y. eqb d.0 y ≡ false) (keys_of es) → AllApart kept es → AllApart (kept ++ d ∷ []) es
and_more kept [] d others apart = tt
and_more kept (e ∷ es) d others apart = (all_append (λ (x : ℕ × Waiting). eqb e.0 x.0 ≡ false) kept (d ∷ []) apart.0 (unequal_both d.0 e.0 others.0, tt), and_more kept es d others.1 apart.1)

each_once : (told : List Effect) (l : Lists) (kept es : List (ℕ × Waiting)) → AllApart kept es → IsDistinct nat_eq (keys_of es) → dismissed told (keys_of es) (rows l (kept ++ es)) ≡ (cancelled_outs told es, rows l (kept ++ not_cancelled told es))
unfolding request_ended
each_once told l kept [] apart distinct = refl
each_once told l kept (e ∷ es) apart distinct =
    elim (cases_Bool (is_cancelled e.0 told)) [
      | inl over ↦ (
          let ended : request_ended e.0 Cancelled (rows l (kept ++ e ∷ es)) ≡ ended_with e.0 Cancelled (Some e.1) (rows l (kept ++ e ∷ es)) = ap (λ (o : Option Waiting). ended_with e.0 Cancelled o (rows l (kept ++ e ∷ es))) (found_behind e.0 e.1 kept es apart.0) in
          let gone = removed_behind e.0 e.1 kept es apart.0 in
          let rest = each_once told l kept es apart.1 (IsDistinct-tail nat_eq e.0 (keys_of es) distinct) in
          rw over
          (ap (λ (r : List Out × Lists). and_sent r (dismissed told (keys_of es))) ended
          ∙ ap (λ (fs : List (ℕ × Waiting)). and_sent ((ended_with e.0 Cancelled (Some e.1) (rows l (kept ++ e ∷ es))).0, rows l fs) (dismissed told (keys_of es))) gone
          ∙ ap (λ (r : List Out × Lists). ((ended_with e.0 Cancelled (Some e.1) (rows l (kept ++ e ∷ es))).0 ++ r.0, r.1)) rest))
      | inr stays ↦ (
          let rest = each_once told l (kept ++ e ∷ []) es (and_more kept es e (IsDistinct-head nat_eq e.0 (keys_of es) distinct) apart.1) (IsDistinct-tail nat_eq e.0 (keys_of es) distinct) in
          rw stays
          (ap (λ (fs : List (ℕ × Waiting)). dismissed told (keys_of es) (rows l fs)) (sym (append_assoc kept (e ∷ []) es))
          ∙ rest
          ∙ ap (λ (fs : List (ℕ × Waiting)). (cancelled_outs told es, rows l fs)) (append_assoc kept (e ∷ []) (not_cancelled told es))))
    ]

none_before : (es : List (ℕ × Waiting)) → AllApart [] es
none_before [] = tt
none_before (e ∷ es) = (tt, none_before es)

all_once : (told : List Effect) (l : Lists) → AreDistinct l → all_dismissed told l ≡ (cancelled_outs told l.waiting, rows l (not_cancelled told l.waiting))
all_once told l distinct = each_once told l [] l.waiting (none_before l.waiting) distinct.waiting

pub sent_once : (told : List Effect) (l : Lists) → AreDistinct l → (all_dismissed told l).0 ≡ cancelled_outs told l.waiting
sent_once told l distinct = ap (λ (r : List Out × Lists). r.0) (all_once told l distinct)

pub left_once : (told : List Effect) (l : Lists) → AreDistinct l → (all_dismissed told l).1 ≡ record l { waiting = not_cancelled told l.waiting }
left_once told l distinct = ap (λ (r : List Out × Lists). r.1) (all_once told l distinct)
