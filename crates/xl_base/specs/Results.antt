-- What a function's result says beside the definition that it computes.
use Rattle.std.specs.Prelude.{◌≡◌, Option, Result, Ok, Err, IfSome}

-- The result, seen by view, is what the definition gives; of a function that takes no memory.
abbrev pub Gives : {X Y E : Type 0} → (X → Y) → Result X E → Result Y E → Type 0
Gives view (Ok x) given = given ≡ Ok (view x)
Gives view (Err e) given = given ≡ Err e

-- The same, unless memory ran out: cause is the fault that an error stands for, None if memory ran out (PROOF-3).
abbrev pub GivesUnless : {X Y E F : Type 0} → (E → Option F) → (X → Y) → Result X E → Result Y F → Type 0
GivesUnless cause view (Ok x) given = given ≡ Ok (view x)
GivesUnless cause view (Err e) given = IfSome (cause e) (λ fault. given ≡ Err fault)
