use Rattle.std.proofs.Common.{arith, subst}
use Rattle.xl_base.specs.Results.{GivesUnless}
use Rattle.xl_base.specs.Stable.{Stable}
use Rattle.xl_base.specs.declared.record_file.RecordForm.{RecordForm}
use Rattle.xl_base.specs.RecordFile.{fault_of, file_at, record_at}
use Rattle.xl_base.proofs.RecordFileLaws.{found_by, only_by}
use Rattle.xl_base.proofs.record_file.read_record.Goals as goal

pub returns-clause-found : goal.returns-clause-found
returns-clause-found c =
    let exact : GivesUnless {X = Stable} {Y = Stable} fault_of (λ s. s) c.read_file.result (record_at c.args.bytes.now) = subst (λ (form : RecordForm). GivesUnless {X = Stable} {Y = Stable} fault_of (λ s. s) c.read_file.result (file_at form c.args.bytes.now)) c.form_of.ensures c.read_file.ensures in
    found_by c.args.bytes.now c.read_file.result (λ i. omega (arith, c.type_inv.bytes i)) exact

pub returns-clause-only : goal.returns-clause-only
returns-clause-only c =
    let exact : GivesUnless {X = Stable} {Y = Stable} fault_of (λ s. s) c.read_file.result (record_at c.args.bytes.now) = subst (λ (form : RecordForm). GivesUnless {X = Stable} {Y = Stable} fault_of (λ s. s) c.read_file.result (file_at form c.args.bytes.now)) c.form_of.ensures c.read_file.ensures in
    only_by c.args.bytes.now c.read_file.result exact
