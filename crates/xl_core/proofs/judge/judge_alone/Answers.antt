use Rattle.std.proofs.Common.{[], ◌∷◌, Some, ap, ◌∙◌}
use Rattle.xl_core.specs.InFront.{in_front_of}
use Rattle.xl_core.specs.Whole.{state_of}
use Rattle.xl_core.proofs.RowLaws.{row_gets, row_waits, row_few, stop_one}
use Rattle.xl_core.proofs.judge.judge_alone.Goals as goal

pub returns-in-Some-clause-few : goal.returns-in-Some-clause-few
returns-in-Some-clause-few g c =
    let left = c.args.left.now in
    let p = c.args.plea.now in
    let claim = c.args.claim.now in
    let s = state_of c.args.parts.now in
    λ e. absurd (row_gets (in_front_of c.args.front c.args.parts.now.queue) left p (claim ∷ []) s (stop_one (in_front_of c.args.front c.args.parts.now.queue) left p claim s c.in_ok-ruling.field-0 _ c.in_ok-ruling.ensures.ruling c.in-Some.is ∙ ap Some cc))

pub returns-in-Some-clause-waits : goal.returns-in-Some-clause-waits
returns-in-Some-clause-waits g c =
    let left = c.args.left.now in
    let p = c.args.plea.now in
    let claim = c.args.claim.now in
    let s = state_of c.args.parts.now in
    λ e. row_waits (in_front_of c.args.front c.args.parts.now.queue) left p (claim ∷ []) s (stop_one (in_front_of c.args.front c.args.parts.now.queue) left p claim s c.in_ok-ruling.field-0 _ c.in_ok-ruling.ensures.ruling c.in-Some.is ∙ ap Some cc)

pub returns-in-Some-2-clause-few : goal.returns-in-Some-2-clause-few
returns-in-Some-2-clause-few g c =
    let left = c.args.left.now in
    let p = c.args.plea.now in
    let claim = c.args.claim.now in
    let s = state_of c.args.parts.now in
    λ e. absurd (row_gets (in_front_of c.args.front c.args.parts.now.queue) left p (claim ∷ []) s (stop_one (in_front_of c.args.front c.args.parts.now.queue) left p claim s c.in_ok-ruling.field-0 _ c.in_ok-ruling.ensures.ruling c.in_default.is ∙ c.in_ok-ruling-2.ensures.room ∙ c.in-Some-2.is ∙ ap Some cc))

pub returns-in-Some-2-clause-waits : goal.returns-in-Some-2-clause-waits
returns-in-Some-2-clause-waits g c =
    let left = c.args.left.now in
    let p = c.args.plea.now in
    let claim = c.args.claim.now in
    let s = state_of c.args.parts.now in
    λ e. row_waits (in_front_of c.args.front c.args.parts.now.queue) left p (claim ∷ []) s (stop_one (in_front_of c.args.front c.args.parts.now.queue) left p claim s c.in_ok-ruling.field-0 _ c.in_ok-ruling.ensures.ruling c.in_default.is ∙ c.in_ok-ruling-2.ensures.room ∙ c.in-Some-2.is ∙ ap Some cc)

pub returns-clause-few : goal.returns-clause-few
returns-clause-few g c =
    let left = c.args.left.now in
    let p = c.args.plea.now in
    let claim = c.args.claim.now in
    let s = state_of c.args.parts.now in
    λ e. row_few (in_front_of c.args.front c.args.parts.now.queue) left p (claim ∷ []) s (stop_one (in_front_of c.args.front c.args.parts.now.queue) left p claim s c.in_ok-ruling.field-0 _ c.in_ok-ruling.ensures.ruling c.in_default.is ∙ c.in_ok-ruling-2.ensures.room ∙ c.in_default-2.is)
