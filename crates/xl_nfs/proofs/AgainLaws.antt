-- What is written is read again.
use Rattle.std.proofs.Common.{◌≡◌, List, ℕ, ◌++◌, length, drop, Ok}
use Rattle.xl_rpc.proofs.XdrLaws.{read_again}
use Rattle.xl_nfs.specs.Ops.{OpItem, op, OpFits, op_at}
use Rattle.xl_nfs.specs.Results.{ResultItem, nfs_result, ResultFits, result_at}

pub op_again : (x : OpItem) (old new rest : List ℕ) → OpFits x → new ≡ old ++ op.spell x → op_at (drop (length old) new ++ rest) ≡ Ok (x, rest)
op_again x old new rest fits is = read_again (op.codec) x old new fits is rest

pub result_again : (x : ResultItem) (old new rest : List ℕ) → ResultFits x → new ≡ old ++ nfs_result.spell x → result_at (drop (length old) new ++ rest) ≡ Ok (x, rest)
result_again x old new rest fits is = read_again (nfs_result.codec) x old new fits is rest
