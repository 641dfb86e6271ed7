-- A journal that has grown.
use Rattle.std.proofs.Common.{◌≡◌, ◌≤◌, ◌<◌, ℕ, zero, suc, List, [], ◌∷◌, ◌++◌, length, sym, refl, ap, ◌∙◌, arith, Some, slice_get, append_assoc, length-append}
use Rattle.std.proofs.lemmas.List.{append-nil}
use mathlib.Core.List.{IsPrefix}
use Rattle.xl_base.specs.declared.event.Event.{Event}
use Rattle.xl_base.specs.declared.journal.Entry.{Entry}
use Rattle.xl_desk.specs.Turns.{StandsAt, AllStand}

pub whole : {A : Type 0} (xs : List A) → IsPrefix xs xs
whole xs = ([], append-nil xs)

pub front_grows : {A : Type 0} (xs ys zs : List A) → IsPrefix xs ys → IsPrefix xs (ys ++ zs)
front_grows xs ys zs p = (p.0 ++ zs, sym (append_assoc xs p.0 zs) ∙ ap (λ w. w ++ zs) p.1)

last_at : {A : Type 0} (xs : List A) (x : A) → slice_get (xs ++ x ∷ []) (length xs) ≡ Some x
last_at [] x = refl
last_at (y ∷ xs) x = last_at xs x

found_still : {A : Type 0} (xs ys : List A) (k : ℕ) (x : A) → slice_get xs k ≡ Some x → slice_get (xs ++ ys) k ≡ Some x
found_still [] ys k x found = absurd (cc found)
found_still (y ∷ xs) ys zero x found = found
found_still (y ∷ xs) ys (suc k) x found = found_still xs ys k x found

-- the last entry stands behind the others
pub last_stands : (log : List Entry) (e : Entry) → StandsAt (log ++ e ∷ []) (length log) e.event
last_stands log e = (e, last_at log e, refl)

pub still_stand : (log : List Entry) (e : Entry) (start : ℕ) (cs : List (ℕ × Event)) → AllStand log start cs → AllStand (log ++ e ∷ []) start cs
still_stand log e start [] all = tt
still_stand log e start (c ∷ cs) all = let low = all.1 in (all.0, omega (arith, length-append log (e ∷ [])), (all.2.0, found_still log (e ∷ []) c.0 all.2.0 all.2.1, all.2.2), still_stand log e start cs all.3)

pub one_more : (log : List Entry) (start : ℕ) (cs : List (ℕ × Event)) (c : ℕ × Event) → AllStand log start cs → start ≤ c.0 → c.0 < length log → StandsAt log c.0 c.1 → AllStand log start (cs ++ c ∷ [])
one_more log start [] c all from to stands = (from, to, stands, tt)
one_more log start (x ∷ cs) c all from to stands = (all.0, all.1, all.2, one_more log start cs c all.3 from to stands)

pub together : (log : List Entry) (start : ℕ) (cs ds : List (ℕ × Event)) → AllStand log start cs → AllStand log start ds → AllStand log start (cs ++ ds)
together log start [] ds these those = those
together log start (x ∷ cs) ds these those = (these.0, these.1, these.2, together log start cs ds these.3 those)
