-- The numbers of the faults.
use Rattle.std.specs.Prelude.{ℕ}
use Rattle.xl_rpc.specs.declared.fault.RpcBad.{RpcBad}
use Rattle.xl_rpc.specs.declared.fault.RpcBad.TheVariants as bad

abbrev pub number_of : RpcBad → ℕ
number_of bad.Short = 1
number_of bad.Pad = 2
number_of bad.Bool = 3
number_of bad.TooLong = 4
number_of (bad.Version xid) = 5
number_of bad.NotCall = 6
number_of bad.Value = 7
