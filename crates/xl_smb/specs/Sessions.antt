-- NEGOTIATE, SESSION_SETUP and TREE_CONNECT, and the commands whose messages have no field. The bytes that no field
-- names are free when they are read, and zeros when they are written.
use Rattle.std.specs.Prelude.{ℕ, List}
use Rattle.xl_layout.specs.Places.{u16_at, whole_of}
use Rattle.xl_layout.specs.Layouts.{made, array, reserved, byte, u16, u32, u64, raw}
use Rattle.xl_layout.specs.Forms.{Form}
use Rattle.xl_smb.specs.Bodies.{buffer, form}
use Rattle.xl_smb.specs.declared.session.NegotiateCall.{NegotiateCall}
use Rattle.xl_smb.specs.declared.session.NegotiateReply.{NegotiateReply}
use Rattle.xl_smb.specs.declared.session.SessionSetupCall.{SessionSetupCall}
use Rattle.xl_smb.specs.declared.session.SessionSetupReply.{SessionSetupReply}
use Rattle.xl_smb.specs.declared.session.TreeConnectReply.{TreeConnectReply}

-- ---- NEGOTIATE request (MS-SMB2 2.2.3): 36 bytes, then the dialects, two bytes each

pub record NegotiateCallItem : Type 0 where
  pub security_mode : ℕ
  pub capabilities : ℕ
  pub client_guid : List ℕ
  pub dialects : List ℕ

abbrev pub shown_negotiate_call : NegotiateCall → NegotiateCallItem
shown_negotiate_call c = record { security_mode = c.security_mode; capabilities = c.capabilities; client_guid = c.client_guid; dialects = c.dialects.0.now }

unfoldable pub negotiate_call : Form NegotiateCallItem
negotiate_call = form 36 36 (array 2 (λ c. c.dialects) λ dialects. u16 (λ c. c.security_mode) λ security_mode. reserved 2 (
    u32 (λ c. c.capabilities) λ capabilities. raw 16 (λ c. c.client_guid) λ client_guid. reserved 8 (
    made (record { security_mode = security_mode; capabilities = capabilities; client_guid = client_guid; dialects = dialects }))))

-- the dialects in their order
abbrev pub dialects_of : List ℕ → List ℕ
dialects_of bytes = whole_of (u16_at 0) 2 bytes

-- ---- NEGOTIATE reply (MS-SMB2 2.2.4): 64 bytes, then the buffer

pub record NegotiateReplyItem : Type 0 where
  pub security_mode : ℕ
  pub dialect : ℕ
  pub server_guid : List ℕ
  pub capabilities : ℕ
  pub max_transact : ℕ
  pub max_read : ℕ
  pub max_write : ℕ
  pub system_time : ℕ
  pub start_time : ℕ
  pub buffer : List ℕ

abbrev pub shown_negotiate_reply : NegotiateReply → NegotiateReplyItem
shown_negotiate_reply r = record { security_mode = r.security_mode; dialect = r.dialect; server_guid = r.server_guid; capabilities = r.capabilities; max_transact = r.max_transact; max_read = r.max_read; max_write = r.max_write; system_time = r.system_time; start_time = r.start_time; buffer = r.buffer.now }

unfoldable pub negotiate_reply : Form NegotiateReplyItem
negotiate_reply = form 65 64 (u16 (λ r. r.security_mode) λ security_mode. u16 (λ r. r.dialect) λ dialect. reserved 2 (
    raw 16 (λ r. r.server_guid) λ server_guid. u32 (λ r. r.capabilities) λ capabilities. u32 (λ r. r.max_transact) λ max_transact. u32 (λ r. r.max_read) λ max_read. u32 (λ r. r.max_write) λ max_write.
    u64 (λ r. r.system_time) λ system_time. u64 (λ r. r.start_time) λ start_time. buffer (λ r. r.buffer) λ token. reserved 4 (
    made (record { security_mode = security_mode; dialect = dialect; server_guid = server_guid; capabilities = capabilities; max_transact = max_transact; max_read = max_read; max_write = max_write; system_time = system_time; start_time = start_time; buffer = token }))))

-- ---- SESSION_SETUP request (MS-SMB2 2.2.5): 24 bytes, then the buffer

pub record SetupCallItem : Type 0 where
  pub flags : ℕ
  pub security_mode : ℕ
  pub previous_session : ℕ
  pub buffer : List ℕ

abbrev pub shown_setup_call : SessionSetupCall → SetupCallItem
shown_setup_call c = record { flags = c.flags; security_mode = c.security_mode; previous_session = c.previous_session; buffer = c.buffer.now }

unfoldable pub setup_call : Form SetupCallItem
setup_call = form 25 24 (byte (λ c. c.flags) λ flags. byte (λ c. c.security_mode) λ security_mode. reserved 8 (
    buffer (λ c. c.buffer) λ token. u64 (λ c. c.previous_session) λ previous_session.
    made (record { flags = flags; security_mode = security_mode; previous_session = previous_session; buffer = token })))

-- ---- SESSION_SETUP reply (MS-SMB2 2.2.6): 8 bytes, then the buffer

pub record SetupReplyItem : Type 0 where
  pub flags : ℕ
  pub buffer : List ℕ

abbrev pub shown_setup_reply : SessionSetupReply → SetupReplyItem
shown_setup_reply r = record { flags = r.flags; buffer = r.buffer.now }

unfoldable pub setup_reply : Form SetupReplyItem
setup_reply = form 9 8 (u16 (λ r. r.flags) λ flags. buffer (λ r. r.buffer) λ token. made (record { flags = flags; buffer = token }))

-- ---- TREE_CONNECT request (MS-SMB2 2.2.9): 8 bytes, then the path

unfoldable pub tree_call : Form (List ℕ)
tree_call = form 9 8 (reserved 2 (buffer (λ path. path) λ path. made path))

-- ---- TREE_CONNECT reply (MS-SMB2 2.2.10): 16 bytes

unfoldable pub tree_reply : Form TreeConnectReply
tree_reply = form 16 16 (byte (λ r. r.share_type) λ share_type. reserved 1 (u32 (λ r. r.flags) λ flags. u32 (λ r. r.capabilities) λ capabilities. u32 (λ r. r.maximal_access) λ maximal_access.
    made (record { share_type = share_type; flags = flags; capabilities = capabilities; maximal_access = maximal_access })))

-- ---- messages without fields: 4 bytes (MS-SMB2 2.2.7, 2.2.8, 2.2.11, 2.2.12, 2.2.27 to 2.2.30)

unfoldable pub empty : Form (Unit {0})
empty = form 4 4 (reserved 2 (made tt))
