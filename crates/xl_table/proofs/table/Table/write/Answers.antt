use Rattle.std.proofs.Common.{◌≡◌, ◌+◌, ◌≤◌, List, length, sym, ap, subst, ◌∙◌}
use Rattle.xl_index.specs.Index.{Has, HasCome, HasLeft, most_indexed}
use Rattle.xl_matrix.specs.declared.claim.Claim.{Claim}
use Rattle.xl_table.specs.declared.files.OnFile.{OnFile}
use Rattle.xl_table.specs.Changes.{written, MayBeWritten}
use Rattle.xl_table.specs.Files.{joined}
use Rattle.xl_table.specs.Held.{IsKept}
use Rattle.xl_table.proofs.IndexedLaws.{few_written, has_gone, index_written, gone_in}
use Rattle.xl_table.proofs.KeptLaws.{kept_written}
use Rattle.xl_table.proofs.table.Table.write.Goals as goal

pub enter_all-requires-clause-few : goal.enter_all-requires-clause-few
enter_all-requires-clause-few c =
    let change = c.args.change.now in
    let inner = joined c.self.inside.lists.items in
    let fits : MayBeWritten change inner = subst (λ (cs : List Claim). MayBeWritten change cs) (sym c.self.view_is) c.requires.fits in
    subst (λ (cs : List Claim). c.self.inside.index.count + length cs ≤ most_indexed) (sym c.deref-2.ensures.value) (few_written c.self.inside.index change inner c.self.invariant.2 c.self.invariant.1 fits c.requires.room)

pub leave_all-requires-2 : goal.leave_all-requires-2
leave_all-requires-2 c =
    let change = c.args.change.now in
    let inner = joined c.self.inside.lists.items in
    let mid = c.enter_all.new.index in
    let fits : MayBeWritten change inner = subst (λ (cs : List Claim). MayBeWritten change cs) (sym c.self.view_is) c.requires.fits in
    let come : HasCome c.self.inside.index mid change.entered.items = subst (λ (cs : List Claim). HasCome c.self.inside.index mid cs) c.deref-2.ensures.value c.in_ok-enter_all.ensures.ok in
    let gone : c.in_ok-gone.gone.items ≡ gone_in change inner = c.in_ok-gone.ensures ∙ ap (λ (ls : List OnFile). gone_in change (joined ls)) c.deref.ensures.value in
    subst (λ (cs : List Claim). Has mid cs) (sym c.deref-3.ensures.value) (has_gone c.self.inside.index mid change inner c.in_ok-gone.gone.items c.self.invariant.2 c.self.invariant.1 fits come gone)

pub invariant_of-self-2 : goal.invariant_of-self-2
invariant_of-self-2 c =
    let change = c.args.change.now in
    let inner = joined c.self.inside.lists.items in
    let mid = c.enter_all.new.index in
    let new = c.leave_all-2.new.index in
    let fits : MayBeWritten change inner = subst (λ (cs : List Claim). MayBeWritten change cs) (sym c.self.view_is) c.requires.fits in
    let come : HasCome c.self.inside.index mid change.entered.items = subst (λ (cs : List Claim). HasCome c.self.inside.index mid cs) c.deref-2.ensures.value c.in_ok-enter_all.ensures.ok in
    let gone : c.in_ok-gone.gone.items ≡ gone_in change inner = c.in_ok-gone.ensures ∙ ap (λ (ls : List OnFile). gone_in change (joined ls)) c.deref.ensures.value in
    let left : HasLeft mid new c.in_ok-gone.gone.items = subst (λ (cs : List Claim). HasLeft mid new cs) c.deref-3.ensures.value c.leave_all-2.ensures in
    let claims : joined c.write.new.lists.items ≡ written change inner = c.in_default.ensures.ok in (
      c.write.ensures.filed,
      subst IsKept (sym claims) (kept_written change inner fits c.requires.room),
      index_written c.self.inside.index mid new change inner c.in_ok-gone.gone.items (joined c.write.new.lists.items) c.self.invariant.2 c.self.invariant.1 fits come gone left claims,
    )
