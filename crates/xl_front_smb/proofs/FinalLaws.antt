-- Requests that wait: they are told and forgotten.
use Rattle.std.proofs.Common.{◌≡◌, ℕ, List, [], ◌∷◌, length, None, refl, sym, ap, ◌∙◌, drop, get_or, ◌<◌, ◌+◌, arith}
use Rattle.std.specs.Prelude.{nat_eq}
use Rattle.std.specs.Map.{keys_of}
use Rattle.std.proofs.lemmas.List.{drop_more}
use Rattle.xl_base.specs.declared.event.Out.{Out}
use Rattle.xl_smb_state.specs.Links.{AreDistinct}
use Rattle.xl_smb_state.specs.State.{Lists, covers, waiting_of, waiting_under, waiting_dropped}
use Rattle.xl_smb_state.specs.declared.row.Scope.TheVariants as scope
use Rattle.xl_smb_state.specs.declared.row.Waiting.{Waiting}
use Rattle.xl_core.specs.declared.ask.Effect.{Effect}
use Rattle.xl_smb_locks.proofs.FinalLaws.{nobody}
use Rattle.xl_front_smb.specs.Ending.{requests_gone, all_dismissed, requests_dropped}
use Rattle.xl_smb_state.proofs.RowLaws.{none_out}
use Rattle.xl_front_smb.proofs.GoneLaws.{taken_out, out_where}

pub none_below : (told : List Effect) → length told < 1 → told ≡ []
none_below [] few = refl
none_below (e ∷ es) few = absurd (omega (arith, few))

-- nobody is told where nothing is told of
pub nobody_dismissed : (told : List Effect) (l : Lists) (outs : List Out) → told ≡ [] → outs ≡ [] → all_dismissed told l ≡ (outs, l)
nobody_dismissed told l outs none empty = ap (λ (x : List Effect). all_dismissed x l) none ∙ nobody (keys_of l.waiting) l ∙ (λ i. ((sym empty) i, l))

-- ---- requests that are forgotten

dropped_waiting : (numbers : List ℕ) (l : Lists) → requests_dropped numbers l ≡ record l { waiting = taken_out numbers l.waiting }
dropped_waiting [] l = refl
dropped_waiting (number ∷ numbers) l = dropped_waiting numbers (waiting_dropped number l)

pub forgotten : (conn : ℕ) (l : Lists) → AreDistinct l → requests_dropped (waiting_under (scope.Connection conn) l) l ≡ requests_gone conn l
forgotten conn l distinct =
    dropped_waiting (waiting_under (scope.Connection conn) l) l
    ∙ ap (λ (es : List (ℕ × Waiting)). record l { waiting = es }) (out_where (λ (r : Waiting). covers (scope.Connection conn) r.place) l.waiting distinct.waiting)

-- one more, which waits or doesn't
pub drop_there : (numbers : List ℕ) (i d : ℕ) (l : Lists) → i < length numbers → requests_dropped (drop (i + 1) numbers) (waiting_dropped (get_or numbers i d) l) ≡ requests_dropped (drop i numbers) l
drop_there numbers i d l there = ap (λ (ns : List ℕ). requests_dropped ns l) (sym (drop_more numbers i d there))

pub drop_none : (numbers : List ℕ) (i d : ℕ) (l : Lists) → i < length numbers → waiting_of (get_or numbers i d) l ≡ None → requests_dropped (drop (i + 1) numbers) l ≡ requests_dropped (drop i numbers) l
drop_none numbers i d l there none =
    let number = get_or numbers i d in
    ap (λ (es : List (ℕ × Waiting)). requests_dropped (drop (i + 1) numbers) (record l { waiting = es })) (sym (none_out (nat_eq number) l.waiting none))
    ∙ drop_there numbers i d l there
