-- What ties the front's lists to the core (MS-SMB2 3.3.1.10, 3.3.5.9).
use Rattle.std.specs.Prelude.{◌≡◌, ◌==◌, ℕ, false, List, [], ◌∷◌, Some}
use Rattle.xl_base.specs.declared.name.Owner.TheVariants as owners
use Rattle.xl_base.specs.declared.name.Protocol.TheVariants.{Smb}
use Rattle.xl_matrix.specs.declared.claim.Rwd.{Rwd}
use Rattle.xl_matrix.specs.declared.claim.What.{What}
use Rattle.xl_matrix.specs.declared.claim.What.TheVariants.{Share}
use Rattle.xl_smb_state.specs.State.{Lists, open_of}
use Rattle.xl_smb_state.specs.declared.row.Open.{Open}
use Rattle.xl_core.specs.Deeds.{Deed, GivesBack, Ends, Closes}
use Rattle.xl_core.specs.Places.{ShareOf, held_at}
use Rattle.xl_core.specs.State.{CoreState}
use Rattle.xl_core.specs.Told.{party_protocol}
use Rattle.xl_smb_laws.specs.Beginnings.{AreNumbered}

-- one share
abbrev pub IsShare : List What → Type 0
IsShare held = (access : Rwd) × (deny : Rwd) × (held ≡ Share access deny ∷ [])

-- the open has one share of its file
abbrev pub HoldsShare : CoreState → ℕ → Open → Type 0
HoldsShare s number row = IsShare (held_at s (ShareOf row.file (owners.Open number)))

-- Each session, tree connect and open has a number that was given out, and so has each open that a request waits for. Each open in the
-- lists has one share of its file.
pub record AreSmbTied (s : CoreState) (l : Lists) : Type 0 where
  pub numbers : AreNumbered s.counter l
  pub shares : (number : ℕ) (row : Open) → open_of number l ≡ Some row → HoldsShare s number row

-- The deed leaves the share of the open of this number: it gives back nothing of it, ends no party of SMB, and closes no open but others.
abbrev pub SparesShare : ℕ → CoreState → Deed → Type 0
SparesShare number s (GivesBack claim) = claim.owner ≡ owners.Open number → ⊥
SparesShare number s (Ends party) = party_protocol party ≡ Smb → ⊥
SparesShare number s (Closes other party) = number == other ≡ false
SparesShare number s deed = Unit {0}
