-- Laws of an entry by its deeds: what wishes get, how breaks begin, for whom things are held, and which caches are kept.
use Rattle.std.specs.Prelude.{◌≡◌, ℕ, false, [], ◌∷◌, Option}
use Rattle.std.specs.List.{list_any}
use Rattle.xl_base.specs.declared.event.Event.{Event}
use Rattle.xl_base.specs.declared.event.Event.TheVariants.{Restart}
use Rattle.xl_base.specs.declared.name.Party.{Party}
use Rattle.xl_matrix.specs.declared.claim.Break.{Break}
use Rattle.xl_matrix.specs.declared.claim.CacheKind.{CacheKind}
use Rattle.xl_matrix.specs.declared.claim.What.TheVariants.{Cache}
use Rattle.xl_core.specs.Deeds.{all_told_of}
use Rattle.xl_core.specs.Places.{CacheOf, held_at}
use Rattle.xl_plan.specs.Plans.{AllAt}
use Rattle.xl_house.specs.Breaking.{IsBrokenBy}
use Rattle.xl_house.specs.Done.{deeds}
use Rattle.xl_house.specs.Keeping.{any_ends_cache, tells_gone, IsHeldOf}
use Rattle.xl_house.specs.Lawful.{Law, found}
use Rattle.xl_house.specs.Parties.{AreHeldFor}
use Rattle.xl_house.specs.State.{Whole}
use Rattle.xl_house.specs.Wished.{IsWishedBy}

-- What a wish of the entry got is one of its choices, or the least kind in which one of them and what its party had lie; and it
-- got nothing if someone waits on the file.
abbrev pub IsWishing : Law
IsWishing n s e t = AllAt (λ u d. IsWishedBy n u d) n (found s) (deeds n s e.event)

-- Each break that the entry tells of began for a cache in the way of what was asked, which is kept until the break is answered,
-- unless it was for reading alone and nothing is left; and no ask for one share or one range is turned away by a cache of which no
-- break runs.
abbrev pub IsBreaking : Law
IsBreaking n s e t = AllAt (λ u d. IsBrokenBy n u d) n (found s) (deeds n s e.event)

-- Each claim that a deed of the entry leaves is held for a party that had something of its owner's on the file, asked for it, or
-- waited for it.
abbrev pub IsPartied : Law
IsPartied n s e t = AllAt (λ u d. AreHeldFor n u d) n (found s) (deeds n s e.event)

-- which caches are kept, by the event
abbrev pub IsKeepingBy : ℕ → Whole → Event → Whole → Type 0
IsKeepingBy n s Restart t = Unit {0}
IsKeepingBy n s event t =
    (file : ℕ) (party : Party) (kind : CacheKind) (running : Option Break) → held_at s.core (CacheOf file party) ≡ Cache kind running ∷ []
    → any_ends_cache n (found s) file party (deeds n s event) ≡ false → list_any (tells_gone file party) (all_told_of n (found s) (deeds n s event)) ≡ false
    → IsHeldOf kind (held_at t.core (CacheOf file party))

-- Each cache that a party has on a file before the entry is there after it, at its kind or a greater one, unless a deed of
-- the entry ends it, or it was for reading alone and the entry tells that it is gone.
abbrev pub IsKeeping : Law
IsKeeping n s e t = IsKeepingBy n s e.event t
