use Rattle.std.proofs.Common.{not, sym, subst}
use Rattle.xl_table.specs.Files.{joined}
use Rattle.xl_table.specs.Held.{IsKept}
use Rattle.xl_table.specs.Leaving.{goes}
use Rattle.xl_table.proofs.WriteBack.{kept_filter}
use Rattle.xl_table.proofs.table.Table.remove_leaver.Goals as goal

pub invariant_of-self : goal.invariant_of-self
invariant_of-self c =
    let who = c.args.leaver in
    let inner = joined c.self.inside.lists.items in (
      c.drop_leaver.ensures.filed,
      subst IsKept (sym c.drop_leaver.ensures.claims) (kept_filter (λ d. not (goes who d)) inner c.self.invariant.1),
      c.drop_leaver.ensures.index,
    )
