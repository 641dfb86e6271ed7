-- A law that each entry meets in a free state holds of each entry of a journal.
use Rattle.std.proofs.Common.{ℕ, List, [], ◌∷◌}
use Rattle.xl_base.specs.declared.journal.Entry.{Entry}
use Rattle.xl_base.specs.declared.journal.Head.{Head}
use Rattle.xl_house.specs.Free.{IsFree}
use Rattle.xl_house.specs.Lawful.{Always, Law}
use Rattle.xl_house.specs.Machine.{step}
use Rattle.xl_house.specs.State.{Whole, start_of}
use Rattle.xl_house.proofs.MachineLaws.{begin_free, step_free}

abbrev pub Meets : Law → Type 0
Meets law = (n : ℕ) (s : Whole) (e : Entry) → IsFree s → law n s e (step n s e.event).next

always_from : (law : Law) → Meets law → (s : Whole) (es : List Entry) → IsFree s → Always law s es
always_from law meets s [] free = tt
always_from law meets s (e ∷ es) free = (meets e.stores s e free, always_from law meets (step e.stores s e.event).next es (step_free e.stores s e.event free))

pub always : (law : Law) → Meets law → (head : Head) (es : List Entry) → Always law (start_of head) es
always law meets head es = always_from law meets (start_of head) es (begin_free head)
