-- Replies fit a frame.
use Rattle.std.proofs.Common.{◌≡◌, ℕ, ◌+◌, ◌≤◌, List, ◌++◌, length, sym, subst, arith}
use Rattle.std.specs.Prelude.{replicate}
use Rattle.std.proofs.lemmas.List.{length-append, length-replicate}
use Rattle.xl_base.specs.Limits.{most_message_bytes}
use Rattle.xl_nfs.specs.Statuses.{status_number}
use Rattle.xl_nfs.specs.declared.status.NfsStatus.{NfsStatus}
use Rattle.xl_programs.proofs.ReplyLaws.{longer, reply_little}
use Rattle.xl_rpc.specs.Replies.{reply}
use Rattle.xl_rpc.specs.Xdr.{unsigned, opaque, fixed, pad}
use Rattle.xl_rpc.specs.declared.reply.Verdict.TheVariants.{Success}
use Rattle.xl_nfs_opens.specs.Results.{compound_results}

pad_little : (n : ℕ) → pad n ≤ 3
unfolding pad
pad_little n = omega arith

opaque_little : (bytes : List ℕ) (most : ℕ) → length bytes ≤ most → length (opaque bytes) ≤ most + 7
unfolding opaque fixed
opaque_little bytes most le = omega (arith, longer (length bytes) (bytes ++ replicate (pad (length bytes)) 0) (most + 3) (omega (arith, length-append bytes (replicate (pad (length bytes)) 0), length-replicate {A = ℕ} (pad (length bytes)) 0, pad_little (length bytes), le)))

results_little : (tag : List ℕ) (status : NfsStatus) (count : ℕ) (results : List ℕ) → length tag ≤ 1024 → length results ≤ 7720 → length (compound_results tag status count results) ≤ 8784
unfolding compound_results
results_little tag status count results short few =
    omega (
      arith,
      longer (status_number status) (opaque tag ++ (unsigned count ++ results)) 8780
          (omega (arith, length-append (opaque tag) (unsigned count ++ results), opaque_little tag 1024 short, longer count results 7720 few)),
    )

pub compound_little : (whole : List ℕ) (xid : ℕ) (tag : List ℕ) (status : NfsStatus) (count : ℕ) (results : List ℕ) → whole ≡ reply xid Success ++ compound_results tag status count results → length tag ≤ 1024 → length results ≤ 7720 → length whole ≤ most_message_bytes
compound_little whole xid tag status count results is short few =
    subst (λ (x : List ℕ). length x ≤ most_message_bytes) (sym is) (omega (arith, length-append (reply xid Success) (compound_results tag status count results), reply_little xid Success, results_little tag status count results short few))
