-- Formats of XDR (RFC 4506), and formats that are put together of others.
use Rattle.std.specs.Prelude.{◌≡◌, ℕ, ℤ, ◌^◌, Bool, true, false, List, [], ◌++◌, length, Option, Some, None, nat_lt}
use Rattle.std.proofs.Common.{refl, sym, subst}
use Rattle.std.proofs.lemmas.Bool.{ltb-true}
use Rattle.xl_base.specs.Codec.{pair_at, as_at, exactly_at, tagged_at, nothing_at, never_at}
use Rattle.xl_base.specs.Formats.{Format, numbered_at, Cases, others, when, cases_at, Chosen, chosen, spelled, AreSeen, IsMade}
use Rattle.xl_base.proofs.CodecLaws.{pair_codec, as_codec, view_codec, exactly_codec, tagged_codec, never_codec}
use Rattle.xl_base.proofs.FormatLaws.{numbered_codec, choice_codec}
use Rattle.xl_rpc.specs.declared.fault.RpcBad.{RpcBad}
use Rattle.xl_rpc.specs.Xdr.{void, unsigned, hyper, signed, boolean, fixed, opaque, words, UnsignedFits, HyperFits, SignedFits, BooleanFits, OpaqueFits, WordsFit, unsigned_at, hyper_at, signed_at, boolean_at, opaque_fixed_at, opaque_at, words_at}
use Rattle.xl_rpc.proofs.XdrLaws.{void_codec, unsigned_codec, hyper_codec, signed_codec, boolean_codec, opaque_fixed_codec, opaque_codec, words_codec}

-- ---- formats of XDR

abbrev pub u32 : Format ℕ RpcBad
u32 = record { at = unsigned_at; spell = unsigned; Fit = UnsignedFits; codec = unsigned_codec }

abbrev pub u64 : Format ℕ RpcBad
u64 = record { at = hyper_at; spell = hyper; Fit = HyperFits; codec = hyper_codec }

abbrev pub i32 : Format ℤ RpcBad
i32 = record { at = signed_at; spell = signed; Fit = SignedFits; codec = signed_codec }

abbrev pub flag : Format Bool RpcBad
flag = record { at = boolean_at; spell = boolean; Fit = BooleanFits; codec = boolean_codec }

-- so many bytes
abbrev pub bytes : ℕ → Format (List ℕ) RpcBad
bytes n = record { at = opaque_fixed_at n; spell = fixed; Fit = λ content. length content ≡ n; codec = opaque_fixed_codec n }

-- at most so many bytes behind their count
abbrev pub text : (most : ℕ) → nat_lt most (2 ^ 32) ≡ true → Format (List ℕ) RpcBad
text most small = record { at = opaque_at most; spell = opaque; Fit = OpaqueFits most; codec = opaque_codec most (ltb-true most (2 ^ 32) small) }

-- words behind their count, seen as their bytes
abbrev pub array : Format (List ℕ) RpcBad
array = record { at = words_at; spell = words; Fit = WordsFit; codec = words_codec }

-- ---- formats of formats

-- two things in a row
infixr 30 ◌⋆◌
abbrev pub ◌⋆◌ : {A B E : Type 0} → Format A E → Format B E → Format (A × B) E
f ⋆ g = record { at = pair_at f.at (λ _. g.at); spell = λ p. f.spell p.0 ++ g.spell p.1; Fit = λ p. f.Fit p.0 × g.Fit p.1; codec = pair_codec f.codec (λ _. g.codec) }

-- two things in a row, of which the second depends on the first
abbrev pub followed : {A B E : Type 0} → Format A E → (A → Format B E) → Format (A × B) E
followed f g = record { at = pair_at f.at (λ a. (g a).at); spell = λ p. f.spell p.0 ++ (g p.0).spell p.1; Fit = λ p. f.Fit p.0 × (g p.0).Fit p.1; codec = pair_codec f.codec (λ a. (g a).codec) }

-- the same thing, seen otherwise, by two views that undo each other
abbrev pub seen : {A B E : Type 0} (to : A → B) (from : B → A) → Format A E → ((a : A) → from (to a) ≡ a) → ((b : B) → to (from b) ≡ b) → Format B E
seen to from f back forth = record { at = as_at to f.at; spell = λ b. f.spell (from b); Fit = λ b. f.Fit (from b); codec = as_codec to from f.codec (λ a fit. back a) forth }

-- a number that has to stand here, and what stands behind it
abbrev pub marked : {A : Type 0} (n : ℕ) → RpcBad → nat_lt n (2 ^ 32) ≡ true → Format A RpcBad → Format A RpcBad
marked n fault small f = record { at = exactly_at n fault unsigned_at f.at; spell = λ a. unsigned n ++ f.spell a; Fit = f.Fit; codec = exactly_codec n fault unsigned_codec (ltb-true n (2 ^ 32) small) f.codec }

-- nothing at all
unfoldable pub nothing : Format (Unit {0}) RpcBad
nothing = record { at = nothing_at; spell = λ _. void; Fit = λ _. Unit {0}; codec = void_codec }

pub nothing_fits : nothing.Fit tt
unfolding nothing
nothing_fits = tt

-- this value, which is told by what has no parts
abbrev pub giving : {A : Type 0} → A → (f : Format (Unit {0}) RpcBad) → f.Fit tt → Format A RpcBad
giving a f fits = record { at = as_at (λ _. a) f.at; spell = λ _. f.spell tt; Fit = λ x. a ≡ x; codec = view_codec (λ _. a) (λ _. f.spell tt) (λ x. a ≡ x) f.codec (λ _ _. (refl, refl)) (λ x same. (tt, same, fits)) }

abbrev pub just : {A : Type 0} → A → Format A RpcBad
just a = giving a nothing nothing_fits

-- what is never there
abbrev pub never : {A : Type 0} → RpcBad → Format A RpcBad
never fault = record { at = never_at fault; spell = λ _. []; Fit = λ _. ⊥; codec = never_codec fault (λ _. []) (λ _. ⊥) (λ _ none. none) }

-- ---- values that are numbered

abbrev pub numbered : {A : Type 0} → RpcBad → (to : ℕ → A) (from : A → ℕ) → ((a : A) → (to (from a) ≡ a) × (nat_lt (from a) (2 ^ 32) ≡ true)) → Format A RpcBad
numbered fault to from made = record {
  at = numbered_at fault to from unsigned_at;
  spell = λ a. unsigned (from a);
  Fit = λ _. Unit {0};
  codec = numbered_codec fault to from unsigned_codec (λ a. ((made a).0, ltb-true (from a) (2 ^ 32) (made a).1));
}

-- ---- one form of several

-- at a number of no form stands this fault
abbrev pub otherwise : {K A : Type 0} → RpcBad → Cases K A RpcBad
otherwise fault = others (λ _. never fault)

abbrev pub none_else : {K A : Type 0} (choose : A → Chosen K A RpcBad) (before : K → Bool) (fault : RpcBad) → AreSeen choose before (otherwise fault)
none_else choose before fault = (λ k unknown a none. absurd none, tt)

-- the value that is told at this key by what has no parts, if the condition holds
abbrev pub standing_by : {K A : Type 0} → K → A → (f : Format (Unit {0}) RpcBad) → f.Fit tt → Type 0 → Chosen K A RpcBad
standing_by {K} {A} key a f fits Condition = record { key = key; Part = Unit {0}; make = λ _. a; format = f; part = tt; Fit = Condition; fits = λ _. fits }

abbrev pub standing : {K A : Type 0} → K → A → Type 0 → Chosen K A RpcBad
standing key a Condition = standing_by key a nothing nothing_fits Condition

-- the form at a key that is known before
abbrev pub choice : {K A E : Type 0} (cases : Cases K A E) (choose : A → Chosen K A E) → AreSeen choose (λ _. false) cases → ((a : A) → IsMade cases a (choose a)) → K → Format A E
choice cases choose as_seen made k = record { at = cases_at cases k; spell = λ a. spelled (choose a); Fit = λ a. ((choose a).key ≡ k) × (choose a).Fit; codec = choice_codec cases choose as_seen made k }

-- a key, and the form that it says
abbrev pub tagged : {K A E : Type 0} → Format K E → (cases : Cases K A E) (choose : A → Chosen K A E) → AreSeen choose (λ _. false) cases → ((a : A) → IsMade cases a (choose a)) → Format A E
tagged key cases choose as_seen made = record {
  at = tagged_at key.at (cases_at cases);
  spell = λ a. key.spell (choose a).key ++ spelled (choose a);
  Fit = λ a. key.Fit (choose a).key × (choose a).Fit;
  codec = tagged_codec (λ a. (choose a).key) key.codec (choice_codec cases choose as_seen made);
}

-- a thing that is there if the test holds
abbrev pub there_if : {A : Type 0} → Format A RpcBad → Cases Bool (Option A) RpcBad
there_if f = when (λ b. b) true (λ b holds. holds) Some f (others (λ _. just None))

abbrev pub chosen_part : {A : Type 0} → Format A RpcBad → Option A → Chosen Bool (Option A) RpcBad
chosen_part f (Some a) = chosen true Some f a
chosen_part f None = standing false None (Unit {0})

pub part_made : {A : Type 0} (f : Format A RpcBad) (o : Option A) → IsMade (there_if f) o (chosen_part f o)
part_made f (Some a) = (refl, λ _ _. refl)
part_made f None = (refl, λ _ _. refl)

abbrev pub optional : {A : Type 0} → Bool → Format A RpcBad → Format (Option A) RpcBad
optional {A} test f = choice (there_if f) (chosen_part f)
    (λ _. refl, (λ k absent o same. subst (λ (x : Option A). (spelled (chosen_part f x) ≡ nothing.spell tt) × (((chosen_part f x).key ≡ k) × (chosen_part f x).Fit)) same (refl, (sym absent, tt)), tt))
    (part_made f) test

-- ---- tests

abbrev IsFalse : Bool → Type 0
IsFalse true = ⊥
IsFalse false = Unit {0}

pub contradiction : {A : Type 0} → false ≡ true → A
contradiction e = absurd (subst IsFalse e tt)
