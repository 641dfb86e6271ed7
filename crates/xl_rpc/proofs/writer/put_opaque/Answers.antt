use Rattle.std.proofs.Common.{List, ℕ, ◌≡◌, ◌++◌, subst, sym, ◌∙◌, OnOk}
use Rattle.xl_rpc.proofs.XdrLaws.{opaque_none}
use Rattle.xl_rpc.proofs.writer.put_opaque.Goals as goal

pub returns-then-is_empty-clause-ok : goal.returns-then-is_empty-clause-ok
returns-then-is_empty-clause-ok c =
    let none = opaque_none c.args.value.now (sym c.is_empty.ensures ∙ c.if-is_empty.true) in
    subst (λ (s : List ℕ). OnOk c.put_u32.result (c.put_u32.new.bytes.items ≡ c.args.bytes.now.items ++ s)) none c.put_u32.ensures.ok
