-- Which operations are requests of an owner, by whose seqids they count (RFC 7530 9.1.7).
use Rattle.std.specs.Prelude.{Bool, true, false}
use Rattle.xl_nfs.specs.Ops.{OpItem, Close, Lock, LockU, Open, OpenConfirm, OpenDowngrade}

abbrev pub has_seqid : OpItem → Bool
has_seqid (Open a) = true
has_seqid (OpenConfirm a) = true
has_seqid (OpenDowngrade a) = true
has_seqid (Close a) = true
has_seqid (Lock a) = true
has_seqid (LockU a) = true
has_seqid _ = false
