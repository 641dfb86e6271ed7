-- The line of those who wait, as one comes and as one leaves.
use Rattle.std.proofs.Common.{◌≡◌, ℕ, zero, suc, ◌+◌, ◌-◌, ◌<◌, ◌≤◌, nat_lt, List, [], ◌∷◌, ◌++◌, drop, Option, slice_get, length, get_or, refl, ap, ◌∙◌, arith}
use Rattle.std.proofs.lemmas.List.{drop-append-le}
use Rattle.std.specs.List.{remove}
use Rattle.xl_wait.specs.Lines.{standing, IsLine}
use Rattle.xl_wait.specs.Waiting.{waits_on, waiting_on, places_in}
use Rattle.xl_wait.specs.declared.line.Line.{Line}
use Rattle.xl_wait.specs.declared.waiter.Waiter.{Waiter}
use Rattle.xl_wait.proofs.FileLaws.{some_queued, nth_at, nth_queued}

none_more : (i : ℕ) → 0 + i ≡ i
none_more i = omega arith

one_more_first : (gone i : ℕ) → suc gone + i ≡ suc (gone + i)
one_more_first gone i = omega arith

-- who stands behind those who went
pub left_at : (gone i : ℕ) (xs : List Waiter) → i < length (drop gone xs) → drop gone (remove xs (gone + i)) ≡ remove (drop gone xs) i
left_at zero i xs h = ap (λ (k : ℕ). remove xs k) (none_more i)
left_at (suc gone) i [] h = absurd (omega (arith, h))
left_at (suc gone) i (x ∷ xs) h = ap (λ (k : ℕ). drop (suc gone) (remove (x ∷ xs) k)) (one_more_first gone i) ∙ left_at gone i xs h

pub stands_at : (gone i : ℕ) (xs : List Waiter) (w : Waiter) → get_or xs (gone + i) w ≡ get_or (drop gone xs) i w
stands_at zero i xs w = ap (λ (k : ℕ). get_or xs k w) (none_more i)
stands_at (suc gone) i [] w = refl
stands_at (suc gone) i (x ∷ xs) w = ap (λ (k : ℕ). get_or (x ∷ xs) k w) (one_more_first gone i) ∙ stands_at gone i xs w

pub standing_count : (gone : ℕ) (xs : List Waiter) → length (drop gone xs) ≡ length xs - gone
standing_count zero xs = omega arith
standing_count (suc gone) [] = omega arith
standing_count (suc gone) (x ∷ xs) = standing_count gone xs ∙ (omega arith)

pub comes : (gone : ℕ) (xs ys zs : List Waiter) (w : Waiter) → gone ≤ length xs → ys ≡ xs → zs ≡ ys ++ w ∷ [] → drop gone zs ≡ drop gone xs ++ w ∷ []
comes gone xs ys zs w within same more = ap (λ (us : List Waiter). drop gone us) (more ∙ ap (λ (us : List Waiter). us ++ w ∷ []) same) ∙ drop-append-le gone xs (w ∷ []) within

pub some_on : (l : Line) (file : ℕ) → IsLine l → nat_lt 0 (length (places_in l.queues file)) ≡ waits_on file (standing l)
some_on l file line = some_queued l.first l.queues (standing l) file line.queues

pub nth_is : (l : Line) (file k : ℕ) (place : Option ℕ) → IsLine l → place ≡ slice_get (places_in l.queues file) k → nth_at l.first (standing l) place ≡ slice_get (waiting_on file (standing l)) k
nth_is l file k place line is = nth_queued l.first l.queues (standing l) file k place line.queues is
