use Rattle.std.proofs.Common.{◌≡◌, drop}
use Rattle.xl_table.specs.Flat.{holder_from}
use Rattle.xl_table.proofs.holding.holder_with.Given as goal

abbrev pub invariant-claims : goal.invariant-claims
invariant-claims l = holder_from l.least l.file l.byte (drop l.claim-index l.claims) ≡ holder_from l.fn.least l.file l.byte l.claims
