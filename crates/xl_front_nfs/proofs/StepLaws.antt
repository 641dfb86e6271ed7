-- A request's step, put together.
use Rattle.std.proofs.Common.{◌≡◌, ℕ, ◌≤◌, List, Result, Ok, refl, sym, ap, ◌∙◌, arith}
use Rattle.std.proofs.lemmas.Bool.Decides.{nat_tests}
use Rattle.std.specs.Bool.{◌==◌}
use Rattle.std.specs.Prelude.{false, nat_lt, not}
use Rattle.xl_nfs_state.specs.State.{NfsLists}
use Rattle.xl_core.specs.State.{CoreState}
use Rattle.xl_core.specs.declared.ask.Effect.{Effect}
use Rattle.xl_plan.specs.Plans.{carried}
use Rattle.xl_nfs.specs.Compounds.{CompoundHeadItem, compound_head_at}
use Rattle.xl_rpc.specs.declared.fault.RpcBad.{RpcBad}
use Rattle.xl_front_nfs.specs.FrontNfs.{run, compound_in, compound_reply, most_ops, replied, with_reply}
use Rattle.xl_front_nfs.specs.State.{FrontNfs}
use Rattle.xl_front_nfs.specs.Steps.{Step, Course, begun, compound, steps_in}

pub course_done : (n : ℕ) (files : List (List ℕ)) (others : ℕ) (f : FrontNfs) (s new : CoreState) (xid : ℕ) (tag : List ℕ) (steps : List Step) (first last : Course) (effects : List Effect) (lists : NfsLists) (bytes : List ℕ) → first ≡ begun
    → carried n s f.state (compound files others first s f.state steps) ≡ (last, effects, lists, new) → bytes ≡ compound_reply xid tag last
    → with_reply xid tag (run n files others f s steps) ≡ (bytes, effects, record { state = lists }, new)
course_done n files others f s new xid tag steps first last effects lists bytes begins course is =
    ap (λ (c : Course). with_reply xid tag (carried n s f.state (compound files others c s f.state steps))) (sym begins)
    ∙ ap (with_reply xid tag) course
    ∙ ap (λ (b : List ℕ). (b, effects, record { state = lists }, new)) (sym is)

-- a COMPOUND of this version, with few enough operations
pub compound_read : (n : ℕ) (files : List (List ℕ)) (others : ℕ) (f : FrontNfs) (s : CoreState) (xid : ℕ) (bytes rest : List ℕ) (head : CompoundHeadItem) → compound_head_at bytes ≡ Ok (head, rest) → head.minorversion ≡ 0 → head.count ≤ most_ops
    → replied n files others f s xid (compound_in (compound_head_at bytes)) ≡ with_reply xid head.tag (run n files others f s (steps_in head.count rest))
compound_read n files others f s xid bytes rest head read version few =
    let this : not (head.minorversion == 0) ≡ false = rw version refl in
    let fits : nat_lt most_ops head.count ≡ false = grind (arith, nat_tests) in
    ap (λ (r : Result (CompoundHeadItem × List ℕ) RpcBad). replied n files others f s xid (compound_in r)) read ∙ rw this (rw fits refl)
