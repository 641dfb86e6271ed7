-- What caches a wish gets.
use Rattle.std.specs.Prelude.{◌≡◌, ◌⊎◌, ℕ, true, false, List, [], ◌∷◌, None}
use Rattle.xl_base.specs.Lists.{IsIn}
use Rattle.xl_base.specs.declared.name.Party.{Party}
use Rattle.xl_matrix.specs.Kinds.{kind_lies_within}
use Rattle.xl_matrix.specs.declared.claim.CacheKind.{CacheKind}
use Rattle.xl_matrix.specs.declared.claim.Claim.{Claim}
use Rattle.xl_matrix.specs.declared.claim.What.{What}
use Rattle.xl_matrix.specs.declared.claim.What.TheVariants.{Cache}
use Rattle.xl_wait.specs.Waiting.{waits_on}
use Rattle.xl_core.specs.Decide.{before_wish, ask}
use Rattle.xl_core.specs.Deeds.{Deed, Asks, Serves, wish_by_number, once_served, given, done}
use Rattle.xl_core.specs.Places.{CacheOf, held_at}
use Rattle.xl_core.specs.Settle.{next_way}
use Rattle.xl_core.specs.State.{CoreState}
use Rattle.xl_core.specs.declared.ask.Answer.TheVariants.{Granted}
use Rattle.xl_core.specs.declared.ask.Effect.TheVariants.{Served}

-- both kinds lie within this one, and it lies within each other in which both do
pub record IsLeast (kind other least : CacheKind) : Type 0 where
  pub above : kind_lies_within kind least ≡ true
  pub beside : kind_lies_within other least ≡ true
  pub below : (upper : CacheKind) → kind_lies_within kind upper ≡ true → kind_lies_within other upper ≡ true → kind_lies_within least upper ≡ true

-- A wish for these kinds gets this one, if this was held of the party's cache on the file: one of them, if it had none; and
-- if it had one of which no break runs, the least in which that one and one of them lie.
pub data IsChosen (kinds : List CacheKind) (had : List What) (kind : CacheKind) : Type 0 where
  Chosen : had ≡ [] → IsIn kind kinds → IsChosen kinds had kind
  Joined : (own choice : CacheKind) → had ≡ Cache own None ∷ [] → IsIn choice kinds → IsLeast own choice kind → IsChosen kinds had kind

-- The wish gets this kind: nobody waits on the file, unless for the end of the grace that runs, and the party has just this cache there
-- then.
abbrev pub Gets : List CacheKind → Claim → CoreState → CoreState → CacheKind → Type 0
Gets kinds c s t kind = (s.grace ≡ None → waits_on c.file s.waiters ≡ false) × (held_at t (CacheOf c.file c.party) ≡ Cache kind None ∷ []) × IsChosen kinds (held_at s (CacheOf c.file c.party)) kind

-- Of who is granted this claim, and wishes for these kinds: its party has on the file what it had, or the wish gets a kind.
abbrev pub IsWished : List CacheKind → Claim → CoreState → CoreState → Type 0
IsWished kinds c s t = (held_at t (CacheOf c.file c.party) ≡ held_at s (CacheOf c.file c.party)) ⊎ ((kind : CacheKind) × Gets kinds c s t kind)

-- so it is of an ask that is granted, and of a waiter whom a turn grants what it waited for
abbrev pub IsWishedBy : ℕ → CoreState → Deed → Type 0
IsWishedBy n s (Asks left a) = (c : Claim) → (ask n left s a).0 ≡ Granted c → IsWished a.wish c (before_wish n left s a).2 (ask n left s a).2
IsWishedBy n s (Serves left) =
    (party : Party) (id : ℕ) (c : Claim) → IsIn (Served party id (Granted c)) (given n s (Serves left)).1 → IsWished (wish_by_number id (next_way s).1.waiters) c (once_served (next_way s).1 id (Granted c)) (done n s (Serves left))
IsWishedBy n s deed = Unit {0}
