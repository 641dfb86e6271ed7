use Rattle.std.proofs.Common.{◌^◌, arith}
use Rattle.xl_spans.proofs.InPlace.{ends_from_last}
use Rattle.xl_spans.proofs.bisect.last_byte.Goals as goal

pub returns-clause-below : goal.returns-clause-below
returns-clause-below c = ends_from_last (2 ^ 64) c.args.spans.now c.in_ok-span.span.now c.requires c.in_ok-span.ensures.value (omega arith)
