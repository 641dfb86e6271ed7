use Rattle.std.proofs.Common.{Ok, ap, sym, ◌∙◌, []}
use Rattle.std.proofs.lemmas.Result.{err_from_is_err_and}
use Rattle.xl_base.specs.Stable.{Stable}
use Rattle.xl_base.specs.declared.stable.Recorded.{Recorded}
use Rattle.xl_base.specs.RecordFile.{names_at}
use Rattle.xl_base.proofs.RecordFileLaws.{refuses}
use Rattle.xl_base.proofs.record_file.read_names.Goals as goal

pub returns-in_err-add_read : goal.returns-in_err-add_read
returns-in_err-add_read c =
    let p = err_from_is_err_and c.from_residual-in_err-add_read.result c.from_residual-in_err-add_read.ensures.1 in
    let first : Stable = record { epoch = c.args.epoch; names = [] } in
    let name : Recorded = record { protocol = c.in_ok-protocol.protocol; name = c.in_ok-name.name; mark = c.in_ok-protocol.mark } in
    let reads = c.in_ok-protocol.ensures.read ∙ ap (λ text. Ok (record { protocol = c.in_ok-protocol.protocol; name = text; mark = c.in_ok-protocol.mark }, c.in_ok-protocol.behind.now)) (sym c.in_ok-name.ensures) in
    rw (p.1, p.2)
    (refuses c.args.form c.args.count c.names.counter c.names.stable c.names.rest.now name c.in_ok-protocol.behind.now c.in_err-add_read.field-0.0 (names_at c.args.form c.args.count first c.args.bytes.now) c.names-test.true reads c.in_err-add_read.ensures c.names.invariant)
