-- What a plan comes to by what its asks are answered.
use Rattle.std.specs.Prelude.{List, [], ◌∷◌}
use Rattle.xl_core.specs.State.{CoreState}
use Rattle.xl_core.specs.declared.ask.Answer.{Answer}
use Rattle.xl_plan.specs.Plans.{Plan, Tells, Does, Behind, Asking}

-- what is answered and kept, if the asks that it makes itself are answered so in order, and each rest is by this core;
-- if an answer is missing this is answered
abbrev pub by_answers : {F T : Type 0} → CoreState → F → T → Plan F T → List Answer → T × F
by_answers t f none (Tells told) answers = (told, f)
by_answers t f none (Does deeds kept told) answers = (told, kept)
by_answers t f none (Behind deeds kept rest) answers = by_answers t kept none (rest t) answers
by_answers t f none (Asking left a rest) [] = (none, f)
by_answers t f none (Asking left a rest) (answer ∷ answers) = by_answers t f none (rest answer t) answers
