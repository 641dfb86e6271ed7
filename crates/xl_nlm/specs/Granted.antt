-- The call GRANTED, which the server makes to the client whose waiting lock is granted.
use Rattle.std.specs.Prelude.{ℕ, Bool, List, [], ◌++◌}
use Rattle.std.specs.Int.{w64}
use Rattle.xl_base.specs.Codec.{big_endian}
use Rattle.xl_rpc.specs.Calls.{AuthItem, HeadItem, call}
use Rattle.xl_programs.specs.Programs.{number_of, version_of}
use Rattle.xl_programs.specs.declared.program.Program.TheVariants.{Nlm}
use Rattle.xl_nlm.specs.Items.{LockItem}
use Rattle.xl_nlm.specs.Arguments.{test_args}

-- AUTH_NONE without a body
abbrev pub no_auth : AuthItem
no_auth = record { flavor = 0; body = [] }

-- the xid is the call's number, and credential and verifier are AUTH_NONE (NLM-3)
abbrev pub granted_head : ℕ → HeadItem
granted_head number = record { xid = number; prog = number_of Nlm; vers = version_of Nlm; proc = 5; cred = no_auth; verf = no_auth }

-- the cookie is the call's number in eight bytes (NLM-3)
abbrev pub granted_record : ℕ → Bool → LockItem → List ℕ
granted_record number exclusive lock = call (granted_head number) ++ test_args.spell (record { cookie = big_endian w64 number; exclusive = exclusive; lock = lock })
