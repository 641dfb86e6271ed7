-- The calls that await an answer tell of ranges with bytes.
use Rattle.std.proofs.Common.{◌≡◌, ℕ, Bool, not, List, [], ◌∷◌, ◌++◌, sym, subst}
use Rattle.std.specs.Bool.{◌==◌}
use Rattle.std.specs.List.{AllByRecursion, filter}
use Rattle.xl_base.proofs.Members.{all_in, all_from, all_append, in_filter_from}
use Rattle.xl_core.specs.Good.{IsRangeBy}
use Rattle.xl_front_nlm.specs.State.{IsCall, without}
use Rattle.xl_front_nlm.specs.declared.call.GrantedCall.{GrantedCall}

-- one more, and one less
pub calls_pushed : (new calls : List GrantedCall) (call : GrantedCall) → new ≡ calls ++ call ∷ [] → AllByRecursion IsCall calls → IsRangeBy call.claim.what → AllByRecursion IsCall new
calls_pushed new calls call e sound range = subst (λ (cs : List GrantedCall). AllByRecursion IsCall cs) (sym e) (all_append IsCall calls (call ∷ []) sound (range, tt))

pub calls_left : (new calls : List GrantedCall) (number : ℕ) → new ≡ without number calls → AllByRecursion IsCall calls → AllByRecursion IsCall new
unfolding without
calls_left new calls number e sound =
    let stays : GrantedCall → Bool = λ c. not (c.number == number) in
    subst (λ (cs : List GrantedCall). AllByRecursion IsCall cs) (sym e)
    (all_from IsCall (filter stays calls) (λ c h. all_in IsCall c calls sound (in_filter_from stays c calls h).0))
