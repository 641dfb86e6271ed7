-- Seqids of owners (RFC 7530 9.1.7, 9.1.8).
use Rattle.std.specs.Prelude.{ℕ, ◌+◌, ◌^◌, ◌%◌, ◌==◌, ◌&&◌, if◌then◌else◌, Option, Some, None}
use Rattle.xl_nfs_state.specs.declared.owner.SeqidState.{SeqidState}
use Rattle.xl_nfs_state.specs.declared.seqid.SeqidVerdict.{SeqidVerdict}
use Rattle.xl_nfs_state.specs.declared.seqid.SeqidVerdict.TheVariants.{New, Next, Repeat, Bad}

-- the seqid after this one: after 2^32 - 1 comes 0 (STATE-3)
abbrev pub next_seqid : ℕ → ℕ
next_seqid seqid = (seqid + 1) % 2 ^ 32

-- An owner that isn't there may begin anywhere. Else the seqid after the last is next; the last itself is a repeat, if
-- the operation is the last one's too; and any other is bad (STATE-3).
abbrev pub verdict : Option SeqidState → ℕ → ℕ → SeqidVerdict
verdict None op seqid = New
verdict (Some seqids) op seqid =
    if seqid == next_seqid seqids.seqid then Next
    else if seqid == seqids.seqid && op == seqids.op then Repeat
    else Bad seqids.seqid

-- how far they have come once a request counted
abbrev pub accepted : ℕ → ℕ → SeqidState → SeqidState
accepted op seqid seqids = record { seqid = seqid; op = op; confirmed = seqids.confirmed; closed = seqids.closed }
