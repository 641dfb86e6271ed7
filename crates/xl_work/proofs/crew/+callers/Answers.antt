use Rattle.std.proofs.Common.{◌≡◌, ◌++◌, ◌+◌, ◌∙◌, ℕ, ap, length, subst, sym}
use Rattle.xl_work.specs.Crews.{AreServed, DoesCaller, next_caller, tells_caller}
use Rattle.xl_work.specs.declared.calls.CallerPost.{CallerPost}
use Rattle.xl_work.proofs.CrewLaws.{callers_behind, does_goes, if_both, served_both}
use Rattle.xl_work.proofs.crew.+callers.Goals as goal

pub returns-clause-served : goal.returns-clause-served
returns-clause-served g t c =
    let tells = tells_caller g.C.Caller.told g.C.Caller.asked in
    let open_gate = g.G.Gate.is_open c.args.gate.now in
    let start = c.args.pass.view.first + length c.args.pass.view.seen in
    let front = c.halve.new.workers.items in
    let back = c.in-Ok.others.items in
    let v = c.join-first.result.0.0.view in
    let w = c.join-first.result.1.0.view in
    let u = c.join.new.pass.view in
    let post2 : CallerPost = record { place = c.args.post.place + c.len-count.result; turns = c.args.post.turns; share = c.args.post.share + c.len-count.result; of = c.args.post.of } in
    if_both (λ v. v.items) (λ v. v.items) c.both.result c.join-first.result.0.1 c.join-first.result.1.1
    (λ ds. AreServed next_caller (DoesCaller tells g.H.Serial.may_halt open_gate (c.halve.new.pass.view.first + length c.halve.new.pass.view.seen)) c.args.post front c.halve.new.pass.view v ds)
    (λ ds. AreServed next_caller (DoesCaller tells g.H.Serial.may_halt open_gate (c.in-Ok.theirs.view.first + length c.in-Ok.theirs.view.seen)) post2 back c.in-Ok.theirs.view w ds)
    (λ all. AreServed next_caller (DoesCaller tells g.H.Serial.may_halt open_gate start) c.args.post c.args.callers.items c.args.pass.view u all.items)
    (λ all xs ys. all.items ≡ xs ++ ys) c.both.ensures c.join-first.ensures.first.3 c.join-first.ensures.second.3
    (λ all xs ys cut one two. served_both next_caller (DoesCaller tells g.H.Serial.may_halt open_gate start) c.args.post post2 c.args.callers.items front back c.args.pass.view v w u xs ys all.items c.in-Ok.ensures.workers
    (ap (λ (n : ℕ). record { place = c.args.post.place + n; turns = c.args.post.turns; share = c.args.post.share + n; of = c.args.post.of }) (c.len-count.ensures ∙ c.halve.new.workers.ok.0) ∙ sym (callers_behind front c.args.post)) cut
    (subst (λ b. AreServed next_caller (DoesCaller tells g.H.Serial.may_halt open_gate (b.first + length b.seen)) c.args.post front b v xs) c.in-Ok.ensures.pass one)
    (subst (λ b. AreServed next_caller (DoesCaller tells g.H.Serial.may_halt open_gate (b.first + length b.seen)) post2 back b w ys) c.in-Ok.ensures.other two)
    c.join.ensures.joined (λ z goes. does_goes tells g.H.Serial.may_halt open_gate start z u goes))
