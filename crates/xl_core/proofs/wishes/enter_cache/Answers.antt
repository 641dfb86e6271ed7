use Rattle.std.proofs.Common.{◌≡◌, Err, subst, arith}
use Rattle.xl_table.specs.declared.table.TableErr.{TableErr}
use Rattle.xl_core.proofs.WishLaws.{cache_sound}
use Rattle.xl_core.proofs.wishes.enter_cache.Goals as goal

pub insert-requires : goal.insert-requires
insert-requires c = cache_sound c.args.wanted.now c.args.kind c.args.table.now c.requires.kept.sound

pub unreachable-requires : goal.unreachable-requires
unreachable-requires c =
    let full = subst (λ (e : TableErr). c.insert.result ≡ Err e) c.in-Err-Full.field-0-is c.in-Err-Full.is in
    let both = (c.insert.ensures.full c.in-Err-Full.field-0-0).0 full in
    omega (arith, both.1, c.requires.room)
