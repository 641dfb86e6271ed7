-- What the way of an ask, or of a turn, makes of each place.
use Rattle.std.proofs.Common.{◌≡◌, false, List, [], ◌∷◌, ◌++◌, map, Option, Some, None, refl, sym, ap, subst, append-nil, append_assoc, ◌∙◌}
use Rattle.xl_base.specs.declared.name.Owner.TheVariants as owners
use Rattle.xl_matrix.specs.declared.claim.Claim.{Claim}
use Rattle.xl_matrix.specs.declared.claim.Rwd.{Rwd}
use Rattle.xl_matrix.specs.declared.claim.What.{What}
use Rattle.xl_spans.specs.Spans.{mode_at}
use Rattle.xl_spans.specs.declared.span.Span.{Span}
use Rattle.xl_wait.specs.declared.waiter.Waiter.{Waiter}
use Rattle.xl_core.specs.BreaksBegun.{breaks_begun}
use Rattle.xl_core.specs.Good.{AllBehind, holds_up, IsUp, IsSettled, IsGood}
use Rattle.xl_core.specs.Places.{Place, ByteOf, ShareOf, RangesOf, CacheOf, byte_held, share_held, held_at, then_entered, broken_at, else_was}
use Rattle.xl_core.specs.Settle.{way_again, first_way, next_way}
use Rattle.xl_core.specs.State.{CoreState}
use Rattle.xl_core.specs.Ways.{made_way}
use Rattle.xl_core.specs.declared.ask.Effect.{Effect}
use Rattle.xl_core.specs.declared.judge.Plea.{Plea}
use Rattle.xl_core.proofs.BreaksBegunLaws.{begun_cache, begun_spans, begun_shares, begun_elements}
use Rattle.xl_core.proofs.WayLaws.{NoWay, Begins, way_is}

-- what comes later stands, else what came first
pub then_else : (first later : Option (List What)) (had : List What) → else_was (then_entered first later) had ≡ else_was later (else_was first had)
then_else first None had = refl
then_else first (Some has) had = refl

begun_made : (c : Claim) (s : CoreState) (p : Place) → IsGood s → held_at (breaks_begun c s).1 p ≡ else_was (broken_at s (breaks_begun c s).0 p) (held_at s p)
begun_made c s (ByteOf file owner byte) good = ap (λ (spans : List Span). byte_held owner byte (mode_at spans byte)) (begun_spans s c file owner)
begun_made c s (ShareOf file owner) good = ap (λ (shares : List (Rwd × Rwd)). map share_held shares) (begun_shares s c file owner)
begun_made c s (RangesOf file number) good = begun_elements s c file (owners.Open number)
begun_made c s (CacheOf file party) good = begun_cache s c file party good

pub nothing_made : (s : CoreState) (p : Place) → held_at s p ≡ else_was (broken_at s [] p) (held_at s p)
nothing_made s (ByteOf file owner byte) = refl
nothing_made s (ShareOf file owner) = refl
nothing_made s (RangesOf file number) = refl
nothing_made s (CacheOf file party) = refl

pub way_made : (earlier : List Waiter) (plea : Plea) (asked : List Claim) (s : CoreState) (p : Place) → IsGood s → held_at (made_way earlier plea asked s).1 p ≡ else_was (broken_at s (made_way earlier plea asked s).0 p) (held_at s p)
way_made earlier plea asked s p good =
    elim (way_is earlier plea asked s) [
      | NoWay e ↦ subst (λ (w : List Effect × CoreState). held_at w.1 p ≡ else_was (broken_at s w.0 p) (held_at s p)) (sym e) (nothing_made s p)
      | Begins c cs is does e ↦ subst (λ (w : List Effect × CoreState). held_at w.1 p ≡ else_was (broken_at s w.0 p) (held_at s p)) (sym e) (begun_made c s p good)
    ]

-- ---- whose way is next

-- that of the first that isn't held up
first_is_way : (s : CoreState) (earlier before : List Waiter) (w : Waiter) (behind : List Waiter) → AllBehind (IsUp s) earlier before → holds_up (earlier ++ before) s w w.asked ≡ false → first_way s earlier (before ++ w ∷ behind) ≡ way_again (earlier ++ before) s w
first_is_way s earlier [] w behind all free = subst (λ (us : List Waiter). first_way s earlier (w ∷ behind) ≡ way_again us s w) (sym (append-nil earlier)) (rw (subst (λ (us : List Waiter). holds_up us s w w.asked ≡ false) (append-nil earlier) free) refl)
first_is_way s earlier (v ∷ vs) w behind all free =
    rw all.0 (subst (λ (us : List Waiter). first_way s (earlier ++ v ∷ []) (vs ++ w ∷ behind) ≡ way_again us s w) (append_assoc earlier (v ∷ []) vs)
    (first_is_way s (earlier ++ v ∷ []) vs w behind all.1 (subst (λ (us : List Waiter). holds_up us s w w.asked ≡ false) (sym (append_assoc earlier (v ∷ []) vs)) free)))

none_is_way : (s : CoreState) (earlier ws : List Waiter) → AllBehind (IsUp s) earlier ws → first_way s earlier ws ≡ ([], s)
none_is_way s earlier [] all = refl
none_is_way s earlier (v ∷ vs) all = rw all.0 (none_is_way s (earlier ++ v ∷ []) vs all.1)

pub next_is : (s : CoreState) (before : List Waiter) (w : Waiter) (behind : List Waiter) → s.waiters ≡ before ++ w ∷ behind → AllBehind (IsUp s) [] before → holds_up before s w w.asked ≡ false → next_way s ≡ way_again before s w
next_is s before w behind stood all free = ap (first_way s []) stood ∙ first_is_way s [] before w behind all free

pub next_none : (s : CoreState) → IsSettled s → next_way s ≡ ([], s)
next_none s all = none_is_way s [] s.waiters all
