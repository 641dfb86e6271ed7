use Rattle.std.proofs.Common.{◌≡◌, drop, None}
use Rattle.xl_table.specs.Flat.{holder_from}
use Rattle.xl_table.specs.Pages.{paged}
use Rattle.xl_table.proofs.holding.holder_among.Given as goal

abbrev pub invariant-loop-page : goal.invariant-loop-page
invariant-loop-page l = holder_from l.least l.file l.byte (paged (drop l.page-index l.pages)) ≡ holder_from None l.file l.byte (paged l.pages)
