use Rattle.std.proofs.Common.{◌-◌, ap, sym, ◌∙◌, slice_get}
use Rattle.xl_nfs_state.proofs.SoundLaws.{last_at, last_none}
use Rattle.xl_nfs_state.proofs.state.owners.last_number.Goals as goal

pub returns-in-Some : goal.returns-in-Some
returns-in-Some c = last_at c.args.owners.now c.in-Some.row.now (sym (c.in-Some.ensures ∙ ap (slice_get c.args.owners.now) (c.saturating_sub.ensures ∙ ap (λ n. n - 1) c.len.ensures.len)))

pub returns-in-None : goal.returns-in-None
returns-in-None c = last_none c.args.owners.now (sym (c.in-None.ensures ∙ ap (slice_get c.args.owners.now) (c.saturating_sub.ensures ∙ ap (λ n. n - 1) c.len.ensures.len)))
