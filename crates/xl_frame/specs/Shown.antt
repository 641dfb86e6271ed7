-- What the code's types stand for.
use Rattle.std.specs.Prelude.{ℕ, List}
use Rattle.xl_frame.specs.Frames.{Fragment, Short, Faulty, More, Last}
use Rattle.xl_frame.specs.declared.fragment.Fragment.TheVariants as fragment
use Rattle.xl_frame.specs.declared.fragment as declared

-- a fragment without where its bytes lie in memory
abbrev pub shown_fragment : declared.Fragment.Fragment → Fragment
shown_fragment fragment.Short = Short
shown_fragment (fragment.Faulty fault) = Faulty fault
shown_fragment (fragment.More body rest) = More body.now rest.now
shown_fragment (fragment.Last body rest) = Last body.now rest.now

-- of a fragment that isn't the last, its bytes and those behind it are so
abbrev pub IfMore : Fragment → (List ℕ → List ℕ → Type 0) → Type 0
IfMore Short p = Unit {0}
IfMore (Faulty fault) p = Unit {0}
IfMore (More body rest) p = p body rest
IfMore (Last body rest) p = Unit {0}

-- the same of any whole fragment
abbrev pub IfBody : Fragment → (List ℕ → List ℕ → Type 0) → Type 0
IfBody Short p = Unit {0}
IfBody (Faulty fault) p = Unit {0}
IfBody (More body rest) p = p body rest
IfBody (Last body rest) p = p body rest
