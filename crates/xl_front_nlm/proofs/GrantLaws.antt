-- A grant is told by one call, to the granted owner's caller.
use Rattle.std.proofs.Common.{◌≡◌, ℕ, ◌+◌, ◌≤◌, Bool, List, [], ◌∷◌, length, Option, Some, None, refl, ap, subst, ◌∙◌, inl, inr, arith}
use Rattle.std.proofs.lemmas.Bool.{cases_Bool}
use Rattle.std.specs.Prelude.{nat_le, option_map}
use Rattle.xl_base.specs.declared.journal.Exports.{Exports}
use Rattle.xl_base.specs.declared.name.Party.{Party}
use Rattle.xl_matrix.specs.declared.claim.Claim.{Claim}
use Rattle.xl_matrix.specs.declared.claim.Extent.TheVariants.{Bytes, Empty}
use Rattle.xl_matrix.specs.declared.claim.What.{What}
use Rattle.xl_matrix.specs.declared.claim.What.TheVariants.{Share, Range, Cache}
use Rattle.xl_names.specs.declared.name.Name.{Name}
use Rattle.xl_names.specs.declared.name.Name.TheVariants.{NlmRange, NlmShare, NlmParty, NfsRange, NfsShare, NfsParty, SmbLease}
use Rattle.xl_core.specs.State.{CoreState, drawn}
use Rattle.xl_core.specs.Deeds.{all_done, AreFit}
use Rattle.xl_core.specs.declared.ask.Answer.TheVariants as answers
use Rattle.xl_core.specs.declared.ask.Effect.{Effect}
use Rattle.xl_core.specs.declared.ask.Effect.TheVariants.{Served}
use Rattle.xl_front_nlm.specs.Grants.{bytes_of, name_of, grant_by, grant_of, address_of, call_of, with_address, addressed, news, told_by, shown, drawn_for, shown_deeds}
use Rattle.xl_front_nlm.specs.State.{FrontState, awaited}
use Rattle.xl_front_nlm.specs.declared.grant.Grant.{Grant}

pub grant_is_told : (exports : Exports) (f : FrontState) (s : CoreState) (party : Party) (id : ℕ) (claim : Claim) (g : Grant) (to : List ℕ) → grant_of s.names claim ≡ Some g → address_of exports.addresses g.caller ≡ Some to
    → shown exports f s (Served party id (answers.Granted claim)) ≡ (call_of (s.counter + 1) to g ∷ [], awaited f (record { number = s.counter + 1; claim = claim }), drawn s)
unfolding shown
grant_is_told exports f s party id claim g to e at =
    ap (λ (o : Option Grant). told_by f s (option_map (λ told. (claim, told.0, told.1)) (addressed exports o))) e
    ∙ ap (λ (o : Option (List ℕ)). told_by f s (option_map (λ told. (claim, told.0, told.1)) (with_address g o))) at

pub grant_untold : (exports : Exports) (f : FrontState) (s : CoreState) (party : Party) (id : ℕ) (claim : Claim) (g : Grant) → grant_of s.names claim ≡ Some g → address_of exports.addresses g.caller ≡ None
    → shown exports f s (Served party id (answers.Granted claim)) ≡ ([], f, s)
unfolding shown
grant_untold exports f s party id claim g e at =
    ap (λ (o : Option Grant). told_by f s (option_map (λ told. (claim, told.0, told.1)) (addressed exports o))) e
    ∙ ap (λ (o : Option (List ℕ)). told_by f s (option_map (λ told. (claim, told.0, told.1)) (with_address g o))) at

-- ---- the range that is told is the claim's

-- a grant of this range on this file
abbrev IsOf : ℕ → What → Option Grant → Type 0
IsOf file what None = Unit {0}
IsOf file what (Some g) = (file ≡ g.file) × (what ≡ Range (Bytes g.first g.last) g.exclusive)

by_name : (file first last : ℕ) (exclusive : Bool) (name : Option Name) → IsOf file (Range (Bytes first last) exclusive) (grant_by file (Some (first, last, exclusive)) name)
by_name file first last exclusive None = tt
by_name file first last exclusive (Some (NlmRange caller svid oh)) = (refl, refl)
by_name file first last exclusive (Some (NlmShare caller oh)) = tt
by_name file first last exclusive (Some (NlmParty caller)) = tt
by_name file first last exclusive (Some (NfsRange client owner)) = tt
by_name file first last exclusive (Some (NfsShare client owner)) = tt
by_name file first last exclusive (Some (NfsParty client)) = tt
by_name file first last exclusive (Some (SmbLease guid key)) = tt

by_what : (file : ℕ) (what : What) (name : Option Name) → IsOf file what (grant_by file (bytes_of what) name)
by_what file (Share access deny) name = tt
by_what file (Range (Bytes first last) exclusive) name =
    elim (cases_Bool (nat_le first last)) [
      | inl e ↦ rw e (by_name file first last exclusive name)
      | inr e ↦ rw e tt
    ]
by_what file (Range (Empty at) exclusive) name = tt
by_what file (Cache kind running) name = tt

pub grant_is_the_claim : (names : List Name) (claim : Claim) (g : Grant) → grant_of names claim ≡ Some g → (claim.file ≡ g.file) × (claim.what ≡ Range (Bytes g.first g.last) g.exclusive)
unfolding grant_of
grant_is_the_claim names claim g e = subst (IsOf claim.file claim.what) e (by_what claim.file claim.what (name_of names claim.owner))

-- ---- what telling does

few : (f : FrontState) (s : CoreState) (o : Option (Claim × Grant × List ℕ)) → length (told_by f s o).0 ≤ 1
few f s None = omega arith
few f s (Some told) = omega arith

pub one_call : (exports : Exports) (f : FrontState) (s : CoreState) (effect : Effect) → length (shown exports f s effect).0 ≤ 1
unfolding shown
one_call exports f s effect = few f s (news exports s effect)

does : (n : ℕ) (f : FrontState) (s : CoreState) (o : Option (Claim × Grant × List ℕ)) → (told_by f s o).2 ≡ all_done n s (drawn_for o)
does n f s None = refl
does n f s (Some told) = refl

pub telling_does : (n : ℕ) (exports : Exports) (f : FrontState) (s : CoreState) (effect : Effect) → (shown exports f s effect).2 ≡ all_done n s (shown_deeds exports s effect)
unfolding shown
telling_does n exports f s effect = does n f s (news exports s effect)

takes : (n : ℕ) (s : CoreState) (o : Option (Claim × Grant × List ℕ)) → AreFit n s (drawn_for o)
takes n s None = tt
takes n s (Some told) = (tt, tt)

pub telling_takes : (n : ℕ) (exports : Exports) (s : CoreState) (effect : Effect) → AreFit n s (shown_deeds exports s effect)
telling_takes n exports s effect = takes n s (news exports s effect)
