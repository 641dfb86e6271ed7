-- Words of the laws of what is asked for opens, and of the caches that it leaves.
use Rattle.std.specs.Prelude.{◌≡◌, ℕ, List, Some, None}
use Rattle.xl_base.specs.declared.name.Party.{Party}
use Rattle.xl_names.specs.declared.name.Name.TheVariants.{SmbLease}
use Rattle.xl_smb_state.specs.declared.row.Open.{Open}
use Rattle.xl_core.specs.BreaksBegun.{begun_at}
use Rattle.xl_core.specs.Deeds.{Asks, Deed, Draws}
use Rattle.xl_core.specs.Leases.{moment_after}
use Rattle.xl_core.specs.Places.{CacheOf, else_was, held_at}
use Rattle.xl_core.specs.State.{CoreState}
use Rattle.xl_core.specs.declared.ask.Effect.{Effect}
use Rattle.xl_core.specs.declared.ask.Who.{Who}
use Rattle.xl_core.specs.declared.ask.Who.TheVariants as who

-- the party is the lease of the client and key that the open's row names, or if that names none the open itself
pub record IsPartyOf (number : ℕ) (row : Open) (party : Who) : Type 0 where
  pub leased : (key : List ℕ) → row.lease ≡ Some key → party ≡ who.Named (SmbLease row.client key)
  pub alone : row.lease ≡ None → party ≡ who.Open number

-- the deed is an ask by the open of this number, on the file and for the party of its row, or draws a number
abbrev pub IsAskOf : ℕ → Open → Deed → Type 0
IsAskOf number row (Asks left a) = (a.owner ≡ who.Open number) × (a.file ≡ row.file) × IsPartyOf number row a.party
IsAskOf number row Draws = Unit {0}
IsAskOf number row deed = ⊥

-- Each cache is as it was, except for those of whose break these tell: of such a one there is left what its break leaves, the
-- cache with the break that runs, whose answer is due within the break time, or nothing if the break needs no answer.
abbrev pub OnlyTold : CoreState → List Effect → CoreState → Type 0
OnlyTold s told t = (file : ℕ) (party : Party) → held_at t (CacheOf file party) ≡ else_was (begun_at (moment_after s.clock s.times.break_time) file party told) (held_at s (CacheOf file party))
