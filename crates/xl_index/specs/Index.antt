-- What an index says of the claims beside which it stands.
use Rattle.std.specs.Prelude.{◌≡◌, ℕ, ◌≤◌, Bool, List, ◌++◌, length, vec_capacity}
use Rattle.xl_matrix.specs.declared.claim.Claim.{Claim}
use Rattle.xl_index.specs.Totals.{total}
use Rattle.xl_index.specs.Moments.{passing, running, AreRising}
use Rattle.xl_index.specs.Stands.{bears, many_at, AreTold}
use Rattle.xl_index.specs.declared.index.Index.{Index}
use Rattle.xl_index.specs.declared.stands.Stand.{Stand}

-- how many claims an index may stand beside while a change is written
abbrev pub most_indexed : ℕ
most_indexed = 65536

-- The index is that of these claims: its moments are the deadlines of their breaks that run, in order, each test passing for
-- as many of both, with room for one of each claim (TABLE-15); and it tells of each stand how many of them bear it (TABLE-14).
pub record IsIndexOf (index : Index) (cs : List Claim) : Type 0 where
  pub rising : AreRising index.deadlines.items
  pub dated : (p : ℕ → Bool) → passing p index.deadlines.items ≡ running p cs
  pub room : length cs ≤ vec_capacity index.deadlines
  pub told : AreTold index.stands
  pub standing : (at : Stand) → many_at index.stands at ≡ total (bears at) cs
  pub count : index.count ≡ length cs

-- it is that of these claims and some others; or of some
abbrev pub Has : Index → List Claim → Type 0
Has index own = (others : List Claim) × IsIndexOf index (own ++ others)

-- it was that of these and others, and is that of the others alone
abbrev pub HasLeft : Index → Index → List Claim → Type 0
HasLeft old new own = (others : List Claim) → IsIndexOf old (own ++ others) → IsIndexOf new others

-- it was that of others, and is that of these besides
abbrev pub HasCome : Index → Index → List Claim → Type 0
HasCome old new own = (others : List Claim) → IsIndexOf old others → IsIndexOf new (own ++ others)
