-- Every cache is kept, unless its party gives it up, ends or is told that it is gone.
use Rattle.std.specs.Prelude.{◌≡◌, ◌==◌, ◌&&◌, ◌||◌, ℕ, Bool, false, true, List, [], ◌∷◌, Option, Some, None}
use Rattle.xl_base.specs.declared.name.Party.{Party}
use Rattle.xl_matrix.specs.Equal.{same_parties}
use Rattle.xl_matrix.specs.Kinds.{kind_lies_within}
use Rattle.xl_matrix.specs.declared.claim.Break.{Break}
use Rattle.xl_matrix.specs.declared.claim.CacheKind.{CacheKind}
use Rattle.xl_matrix.specs.declared.claim.Claim.{Claim}
use Rattle.xl_matrix.specs.declared.claim.What.{What}
use Rattle.xl_matrix.specs.declared.claim.What.TheVariants.{Cache}
use Rattle.xl_names.specs.declared.name.Name.{Name}
use Rattle.xl_names.specs.declared.name.Name.TheVariants.{NfsParty}
use Rattle.xl_table.specs.Leaving.{is_some_party}
use Rattle.xl_core.specs.Askers.{party_named}
use Rattle.xl_core.specs.BreakAnswers.{client_of}
use Rattle.xl_core.specs.Deeds.{Deed, GivesBack, Acks, Ends, Lapses, Expires, Closes, done}
use Rattle.xl_core.specs.State.{CoreState}
use Rattle.xl_core.specs.declared.ask.Effect.{Effect}
use Rattle.xl_core.specs.declared.ask.Effect.TheVariants.{Begun}
use Rattle.xl_house.specs.Breaking.{is_given_up}

-- ---- what ends a cache

abbrev pub is_of_place : ℕ → Party → Claim → Bool
is_of_place file party c = (c.file == file) && same_parties c.party party

-- the deadline of this cache is that of the party's cache on the file, or its client's that expires
abbrev pub lapses_there : List Name → ℕ → Party → Claim → Option (List ℕ) → Bool
lapses_there names file party cache None = is_of_place file party cache
lapses_there names file party cache (Some client) = is_some_party (party_named names (NfsParty client)) party

-- The deed ends the party's cache on the file: it is given back, its break is answered or over, or its party ends, expires,
-- or goes with the open that is closed.
abbrev pub ends_cache : CoreState → ℕ → Party → Deed → Bool
ends_cache s file party (GivesBack claim) = is_of_place file party claim
ends_cache s file party (Acks cache to) = is_of_place file party cache
ends_cache s file party (Ends other) = same_parties other party
ends_cache s file party (Lapses cache) = lapses_there s.names file party cache (client_of s.names cache.party)
ends_cache s file party (Expires client) = is_some_party (party_named s.names (NfsParty client)) party
ends_cache s file party (Closes number other) = is_some_party other party
ends_cache s file party deed = false

-- one of these does, in the state that those before it left
abbrev pub any_ends_cache : ℕ → CoreState → ℕ → Party → List Deed → Bool
any_ends_cache n s file party [] = false
any_ends_cache n s file party (d ∷ ds) = ends_cache s file party d || any_ends_cache n (done n s d) file party ds

-- it is told that the party's cache on the file, which was for reading alone, is gone
abbrev pub tells_gone : ℕ → Party → Effect → Bool
tells_gone file party (Begun cache to call) = is_of_place file party cache && is_given_up cache.what to
tells_gone file party effect = false

-- ---- what is kept

-- this is held of a cache of this kind: that cache or a greater one, with a break that runs or without
pub record IsHeldOf (kind : CacheKind) (had : List What) : Type 0 where
  pub now : CacheKind
  pub running : Option Break
  pub is : had ≡ Cache now running ∷ []
  pub within : kind_lies_within kind now ≡ true
