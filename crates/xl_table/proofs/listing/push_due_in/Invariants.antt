use Rattle.std.proofs.Common.{◌≡◌, ◌++◌, drop}
use Rattle.std.specs.List.{filter}
use Rattle.xl_table.specs.Flat.{is_due}
use Rattle.xl_table.specs.Pages.{paged}
use Rattle.xl_table.proofs.listing.push_due_in.Given as goal

abbrev pub invariant-loop-page : goal.invariant-loop-page
invariant-loop-page l = l.due.items ++ filter (λ held. is_due l.now held) (paged (drop l.page-index l.pages)) ≡ l.fn.due.items ++ filter (λ held. is_due l.now held) (paged l.pages)
