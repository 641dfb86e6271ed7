-- Operations in a row as one plan, as those of a COMPOUND (RFC 7530 14.2): one plan behind the other, up to the first after
-- which none goes on.
use Rattle.std.specs.Prelude.{Bool, if◌then◌else◌, List, [], ◌∷◌}
use Rattle.xl_core.specs.State.{CoreState}
use Rattle.xl_plan.specs.Plans.{Plan, Tells, bind}

-- each is planned by what was answered until then, by the core and by what the front keeps; by its own answer others go
-- on
abbrev pub row : {F T Op : Type 0} → (T → CoreState → F → Op → Plan F T) → (T → Bool) → T → CoreState → F → List Op → Plan F T
row plan goes told s f [] = Tells told
row plan goes told s f (op ∷ ops) = bind s f (plan told s f op) (λ u t g. if goes u then row plan goes u t g ops else Tells u)
