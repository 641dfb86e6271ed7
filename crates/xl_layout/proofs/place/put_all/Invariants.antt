use Rattle.std.proofs.Common.{◌≡◌, ◌++◌, map, take}
use Rattle.xl_layout.specs.Places.{joined}
use Rattle.xl_layout.proofs.place.put_all.Given as goal

abbrev pub invariant-texts : goal.invariant-texts
invariant-texts l = l.out.items ≡ l.initial.out.items ++ joined (map (λ text. text.now) (take l.text-index l.texts))
