-- A call that is drawn: that it has a spelling, and that it is read again; and the status in a reply.
use Rattle.std.proofs.Common.{◌≡◌, ℕ, ◌+◌, ◌^◌, ◌<◌, ◌≤◌, Bool, ◌==◌, ◌&&◌, nat_le, option_and_then, if◌then◌else◌, inl, inr, List, [], ◌++◌, length, Option, Some, None, Ok, refl, sym, ap, ◌∙◌, append-nil, arith}
use Rattle.std.specs.Int.{w32, to_be_bytes}
use Rattle.std.proofs.lemmas.Bool.{cases_Bool, le-ltb}
use Rattle.std.proofs.lemmas.List.{length-append}
use Rattle.std.proofs.lemmas.Bool.Decides.{nat_tests}
use Rattle.std.proofs.lemmas.Nat.{from_be_bytes-to_be_bytes_4}
use Rattle.xl_base.specs.Handles.{handle, file_at}
use Rattle.xl_base.specs.declared.event.Kind.TheVariants.{Rpc}
use Rattle.xl_frame.specs.Frames.{wrapped}
use Rattle.xl_rpc.specs.Calls.{HeadFits, call, call_at}
use Rattle.xl_rpc.specs.Replies.{reply, reply_at}
use Rattle.xl_rpc.specs.declared.reply.Verdict.TheVariants.{Success}
use Rattle.xl_rpc.proofs.CallLaws.{call_again}
use Rattle.xl_rpc.proofs.ReplyLaws.{reply_again}
use Rattle.xl_nlm.specs.Arguments.{arguments, arguments_at, procedure_of, CallFits, lock, lock_args, test_args, unlock_args}
use Rattle.xl_nlm.specs.Items.{CallItem, Answer}
use Rattle.xl_nlm.specs.Replies.{results, results_at, res, status}
use Rattle.xl_nlm.specs.declared.item.NlmStatus.{NlmStatus}
use Rattle.xl_nlm.proofs.AgainLaws as again
use Rattle.xl_programs.specs.Programs.{RequestItem, Asked, incoming_at, incoming_by, in_program}
use Rattle.xl_programs.specs.declared.program.Program.TheVariants.{Nlm}
use Rattle.xl_front_nlm.specs.Aims.{exported}
use Rattle.xl_front_nlm.specs.FrontNlm.{call_in, whole_call}
use Rattle.xl_capture.specs.Summary.{framed_status, read_status, results_status}
use Rattle.xl_make.specs.Made.{asked_by, head_to, lock_by, record_of}

-- ---- its spelling

lock_fits : (b c d : ℕ) → lock.Fit (lock_by b c d)
unfolding lock
lock_fits b c d = (omega arith, (omega arith, (omega arith, (grind arith, (omega arith, omega arith)))))

pub call_fits : (choice : ℕ) (exclusive : Bool) (b c d : ℕ) → CallFits (asked_by choice exclusive (lock_by b c d))
unfolding lock_args test_args unlock_args
call_fits choice exclusive b c d =
    elim (cases_Bool (choice == 2)) [
      | inl two ↦ rw two (omega arith, lock_fits b c d)
      | inr other ↦
          elim (cases_Bool (choice == 3)) [
            | inl three ↦ rw (other, three) (omega arith, (tt, lock_fits b c d))
            | inr lock ↦ rw (other, lock) (omega arith, (tt, (tt, (lock_fits b c d, (tt, grind arith)))))
          ]
    ]

head_fits : (number procedure : ℕ) → number < 2 ^ 32 → procedure < 2 ^ 32 → HeadFits (head_to number procedure)
unfolding HeadFits
head_fits number procedure n p = (n, (omega arith, (omega arith, (p, ((omega arith, omega arith), (omega arith, omega arith))))))

-- ---- it is read again

head_again : (number procedure : ℕ) (rest : List ℕ) → number < 2 ^ 32 → procedure < 2 ^ 32 → call_at (call (head_to number procedure) ++ rest) ≡ Ok (head_to number procedure, rest)
head_again number procedure rest n p = call_again (head_to number procedure) [] (call (head_to number procedure)) rest (head_fits number procedure n p) refl

abbrev pub request : ℕ → CallItem → RequestItem
request number c = record { program = Nlm; xid = number; procedure = procedure_of c; arguments = arguments c }

pub arrives : (number : ℕ) (c : CallItem) → number < 2 ^ 32 → procedure_of c < 2 ^ 32 → in_program (head_to number (procedure_of c)) (arguments c) Nlm ≡ Asked (request number c) → incoming_at (record_of number c) ≡ Asked (request number c)
unfolding incoming_at record_of
arrives number c n p served = ap incoming_by (head_again number (procedure_of c) (arguments c) n p) ∙ served

pub whole : (number : ℕ) (c : CallItem) → CallFits c → call_in (request number c) ≡ Some c
unfolding call_in
whole number c fits = ap whole_call (ap (λ (bytes : List ℕ). arguments_at (procedure_of c) bytes) (sym (append-nil (arguments c))) ∙ again.call_again c [] (arguments c) [] fits refl)

-- ---- what it names

file_again : (file : ℕ) → file < 2 ^ 32 → file_at (handle file) ≡ Some file
unfolding file_at
file_again file small = ap Some (from_be_bytes-to_be_bytes_4 file small)

pub exported_again : (file : ℕ) → 1 ≤ file → file ≤ 8 → exported 8 (handle file) ≡ Some file
exported_again file one eight = by (file_at (handle file)) (file_again file (omega (arith, eight))) where
  by : (o : Option ℕ) → o ≡ Some file → option_and_then (λ f. if nat_le 1 f && nat_le f 8 then Some f else None) o ≡ Some file
  by o e = rw e (grind (arith, nat_tests))

-- ---- the status in a reply

four : (n : ℕ) → length (to_be_bytes w32 n) ≡ 4
four n = refl

longer : (bytes : List ℕ) → length (wrapped Rpc bytes) ≡ 4 + length bytes
longer bytes = length-append (to_be_bytes w32 (2 ^ 31 + length bytes)) bytes ∙ ap (λ (n : ℕ). n + length bytes) (four (2 ^ 31 + length bytes))

pub framed_is : (bytes : List ℕ) → framed_status (wrapped Rpc bytes) ≡ read_status (reply_at bytes)
unfolding framed_status
framed_is bytes = ap (λ (b : Bool). if b then None else read_status (reply_at bytes)) (le-ltb (length (wrapped Rpc bytes)) 4 (omega (arith, longer bytes)))

pub replied_is : (xid : ℕ) (body : List ℕ) → xid < 2 ^ 32 → read_status (reply_at (reply xid Success ++ body)) ≡ results_status (results_at 2 body)
replied_is xid body small = ap read_status (reply_again xid Success [] (reply xid Success) body small tt refl)

res_fits : (stat : NlmStatus) → res.Fit (record { cookie = []; stat = stat })
unfolding res status
res_fits stat = (omega arith, tt)

pub res_again : (stat : NlmStatus) (rest : List ℕ) → results_at 2 (results (Answer (record { cookie = []; stat = stat })) ++ rest) ≡ Ok (Answer (record { cookie = []; stat = stat }), rest)
res_again stat rest = again.reply_again 2 (Answer (record { cookie = []; stat = stat })) [] (results (Answer (record { cookie = []; stat = stat }))) rest (refl, res_fits stat) refl
