-- What `show` says of the messages in a text, a line for each.
use Rattle.std.specs.Prelude.{ℕ, zero, suc, ◌+◌, ◌-◌, ◌^◌, Bool, true, false, ◌==◌, ◌&&◌, ◌||◌, nat_le, nat_lt, if◌then◌else◌, List, [], ◌∷◌, ◌++◌, length, codes, bytes_eq, Option, Some, None, Result, Ok, Err}
use Rattle.std.specs.Fmt.{decimal}
use Rattle.std.specs.Int.{w32, to_be_bytes}
use Rattle.std.specs.Option.{option_map, option_map_or, is_none}
use Rattle.xl_names.specs.Texts.{hex_word}
use Rattle.xl_rpc.specs.Calls.{HeadItem, call_at}
use Rattle.xl_rpc.specs.Faults.{number_of}
use Rattle.xl_rpc.specs.Replies.{is_denied, stat, reply_at}
use Rattle.xl_rpc.specs.Xdr.{unsigned_at}
use Rattle.xl_rpc.specs.declared.fault.RpcBad.{RpcBad}
use Rattle.xl_rpc.specs.declared.reply.Verdict.{Verdict}
use Rattle.xl_programs.specs.Programs as programs
use Rattle.xl_programs.specs.declared.program.Program.TheVariants.{Nlm, Nfs}
use Rattle.xl_nlm.specs.Arguments.{arguments_at}
use Rattle.xl_nlm.specs.Items.{CallItem}
use Rattle.xl_nfs.specs.Compounds.{CompoundHeadItem, compound_head_at}
use Rattle.xl_nfs.specs.Ops.{OpItem, NotSupported, Illegal, op_number, op_at}
use Rattle.xl_smb.specs.Bodies.{number_of_fault}
use Rattle.xl_smb.specs.Compounds.{own_bytes}
use Rattle.xl_smb.specs.Heads.{command_of, head_of}
use Rattle.xl_smb.specs.Messages.{MessageItem, Call, Reply, Told, message_at}
use Rattle.xl_smb.specs.declared.fault.SmbBad.{SmbBad}
use Rattle.xl_smb.specs.declared.head.SmbHead.{SmbHead}
use Rattle.xl_capture.specs.Capture.{lines_of, words_of, bytes_of, is_passed_over, is_last, most_bytes, looked_at}

-- a message that can't be read, by its fault's number
abbrev pub bad_text : ℕ → List ℕ
bad_text fault = codes "bad " ++ decimal fault

-- ---- calls: the word that a call's line ends with

-- what was read is all, if nothing may stand behind it (SHOW-3)
abbrev pub whole_word : List ℕ → List ℕ
whole_word [] = codes "ok"
whole_word (b ∷ bs) = codes "bad"

-- arguments of NLM, with what stands behind them
abbrev pub arguments_word : Result (CallItem × List ℕ) RpcBad → List ℕ
arguments_word (Ok x) = whole_word x.1
arguments_word (Err fault) = codes "bad"

-- the procedures of NLM whose arguments are read: NULL, TEST, LOCK, CANCEL, UNLOCK, SHARE, UNSHARE, NM_LOCK, FREE_ALL (SHOW-1)
abbrev pub is_nlm_shown : ℕ → Bool
is_nlm_shown proc = nat_le proc 4 || (nat_le 20 proc && nat_le proc 23)

-- the word of a call of NLM
unfoldable pub nlm_word : ℕ → List ℕ → List ℕ
nlm_word proc bytes = if is_nlm_shown proc then arguments_word (arguments_at proc bytes) else codes "other"

-- an operation whose arguments can't be read without knowing its layout
abbrev pub is_unlisted : OpItem → Bool
is_unlisted (NotSupported n) = true
is_unlisted (Illegal n) = true
is_unlisted _ = false

-- what follows an operation that was read; nothing if it can't be
abbrev pub op_then : (OpItem → List ℕ → Option (List ℕ)) → Result (OpItem × List ℕ) RpcBad → Option (List ℕ)
op_then more (Ok x) = more x.0 x.1
op_then more (Err fault) = None

-- These numbers, and those of so many operations more: the first unlisted one is the last that is looked at. None if
-- one can't be read.
unfoldable pub ops_from : List ℕ → ℕ → List ℕ → Option (List ℕ)
ops_from numbers zero bytes = Some numbers
ops_from numbers (suc n) bytes =
    op_then (λ o rest. if is_unlisted o then Some (numbers ++ op_number o ∷ []) else ops_from (numbers ++ op_number o ∷ []) n rest) (op_at bytes)

-- numbers with a comma before each
abbrev pub more_ops : List ℕ → List ℕ
more_ops [] = []
more_ops (n ∷ ns) = codes "," ++ decimal n ++ more_ops ns

-- numbers parted by commas, with a blank before them; nothing if there are none
abbrev pub ops_text : List ℕ → List ℕ
ops_text [] = []
ops_text (n ∷ ns) = codes " " ++ decimal n ++ more_ops ns

-- the word of a COMPOUND's operations
abbrev pub ops_word : Option (List ℕ) → List ℕ
ops_word None = codes "bad"
ops_word (Some numbers) = codes "ok" ++ ops_text numbers

-- the arguments of a COMPOUND, by its head and what stands behind it, whatever its minor version and its count (SHOW-3)
abbrev pub compound_word : Result (CompoundHeadItem × List ℕ) RpcBad → List ℕ
compound_word (Ok x) = ops_word (ops_from [] x.0.count x.1)
compound_word (Err fault) = codes "bad"

-- NFS has the procedures NULL and COMPOUND
unfoldable pub nfs_word : ℕ → List ℕ → List ℕ
nfs_word proc bytes = if proc == 0 then whole_word bytes else if proc == 1 then compound_word (compound_head_at bytes) else codes "other"

-- by the program and its version (SHOW-1)
unfoldable pub call_word : HeadItem → List ℕ → List ℕ
call_word h bytes =
    if (h.prog == programs.number_of Nlm) && (h.vers == programs.version_of Nlm) then nlm_word h.proc bytes
    else if (h.prog == programs.number_of Nfs) && (h.vers == programs.version_of Nfs) then nfs_word h.proc bytes
    else codes "other"

-- ---- ONC RPC

-- what is said of a call
unfoldable pub call_text : HeadItem → List ℕ → List ℕ
call_text h bytes = codes "call " ++ decimal h.xid ++ codes " " ++ decimal h.prog ++ codes " " ++ decimal h.vers ++ codes " " ++ decimal h.proc ++ codes " " ++ call_word h bytes

-- the same of bytes that are read as one
abbrev pub call_told : Result (HeadItem × List ℕ) RpcBad → List ℕ
call_told (Ok x) = call_text x.0 x.1
call_told (Err fault) = bad_text (number_of fault)

-- an accepted reply with its accept_stat, or a denied one
unfoldable pub reply_text : ℕ → Verdict → List ℕ
reply_text xid v = if is_denied v then codes "denied " ++ decimal xid else codes "reply " ++ decimal xid ++ codes " " ++ decimal (stat v)

-- the same of bytes that are read as a reply
abbrev pub reply_told : Result ((ℕ × Verdict) × List ℕ) RpcBad → List ℕ
reply_told (Ok x) = reply_text x.0.0 x.0.1
reply_told (Err fault) = bad_text (number_of fault)

-- the number at the front is 1
abbrev pub is_one : Result (ℕ × List ℕ) RpcBad → Bool
is_one (Ok x) = x.0 == 1
is_one (Err fault) = false

-- the number behind the one that was read is 1
abbrev pub is_one_behind : Result (ℕ × List ℕ) RpcBad → Bool
is_one_behind (Ok x) = is_one (unsigned_at x.1)
is_one_behind (Err fault) = false

-- the message type, which stands behind the xid, is that of a reply; a message without one is a call (SHOW-2)
unfoldable pub is_reply : List ℕ → Bool
is_reply bytes = is_one_behind (unsigned_at bytes)

-- a message of ONC RPC
unfoldable pub rpc_text : List ℕ → List ℕ
rpc_text bytes = if is_reply bytes then reply_told (reply_at bytes) else call_told (call_at bytes)

-- ---- SMB

-- the command, the status in eight hex digits, the message's number, and whether its layout is known
unfoldable pub head_text : ℕ → ℕ → ℕ → Bool → List ℕ
head_text command status number other =
    codes "smb " ++ decimal command ++ codes " " ++ hex_word (to_be_bytes w32 status) ++ codes " " ++ decimal number ++ (if other then codes " other" else codes " ok")

-- the command has no layouts
abbrev pub is_other : SmbHead → Bool
is_other h = is_none (command_of h.command)

-- CANCEL has no reply, except in the error form (SHOW-4)
abbrev pub is_other_reply : SmbHead → Bool
is_other_reply h = is_other h || (h.command == 12 && h.status == 0)

-- a notice has the header of a reply to command 18, with a message number of all ones
unfoldable pub message_text : MessageItem → List ℕ
message_text (Call h c) = head_text h.command h.status h.message_id (is_other h)
message_text (Reply h r) = head_text h.command h.status h.message_id (is_other_reply h)
message_text (Told n) = head_text 18 0 (2 ^ 64 - 1) false

-- the same of bytes that are read as one
abbrev pub message_told : Result MessageItem SmbBad → List ℕ
message_told (Ok m) = message_text m
message_told (Err fault) = bad_text (number_of_fault fault)

abbrev pub first_by : List ℕ → Result SmbHead SmbBad → List ℕ
first_by frame (Ok h) = own_bytes h.next_command frame
first_by frame (Err fault) = frame

-- the first of several messages in one frame; all bytes if its NextCommand leads to no other (SHOW-5)
unfoldable pub first_message : List ℕ → List ℕ
first_message frame = first_by frame (head_of frame)

-- a message of SMB
abbrev pub smb_text : List ℕ → List ℕ
smb_text frame = message_told (message_at (first_message frame))

-- ---- lines

-- the line out of a message
abbrev pub rpc_line : List ℕ → List ℕ
rpc_line bytes = rpc_text bytes ++ codes "\n"

-- the same of SMB
abbrev pub smb_line : List ℕ → List ℕ
smb_line bytes = smb_text bytes ++ codes "\n"

-- the line out of a line's words, `rpc HEX` or `smb HEX`; none if they are others
unfoldable pub show_words : List (List ℕ) → Option (List ℕ)
show_words (a ∷ b ∷ []) =
    if bytes_eq a (codes "rpc") then option_map rpc_line (bytes_of b)
    else if bytes_eq a (codes "smb") then option_map smb_line (bytes_of b)
    else None
show_words words = None

-- The line out of a line, with its line feed; no bytes if it is passed over, none if it isn't in the grammar.
unfoldable pub show_line : List ℕ → Option (List ℕ)
show_line line = if is_passed_over line then Some [] else show_words (words_of line)

-- The lines out of these lines behind those that were shown, or the number of the first that isn't in the grammar. n lines
-- stand before them; past says that the text goes past its most bytes, with the last of its lines.
unfoldable pub show_lines : Bool → List ℕ → ℕ → List (List ℕ) → Result (List ℕ) ℕ
show_lines past before n [] = Ok before
show_lines past before n (l ∷ ls) =
    if past && is_last ls then Err (n + 1)
    else option_map_or (λ line. show_lines past (before ++ line) (n + 1) ls) (show_line l) (Err (n + 1))

-- what is shown of a text, which has no more bytes than a capture
unfoldable pub shown : List ℕ → Result (List ℕ) ℕ
shown text = show_lines (nat_lt most_bytes (length text)) [] 0 (lines_of (looked_at text))
