-- The limits that more than one crate keeps to.
use Rattle.std.specs.Prelude.{ℕ}

-- connections that are open together, of all protocols
abbrev pub most_connections : ℕ
most_connections = 64

-- opens, of NFSv4 and SMB together; closed ones aside
abbrev pub most_opens : ℕ
most_opens = 4096

-- owners of opens and locks that are kept of NFSv4, together
abbrev pub most_owners : ℕ
most_owners = 8192

-- requests that wait at once
abbrev pub most_waiters : ℕ
most_waiters = 1024

-- bytes of a message, its frame aside
abbrev pub most_message_bytes : ℕ
most_message_bytes = 65536

-- numbers that are left unused if a call may give some out
abbrev pub numbers_left : ℕ
numbers_left = 65536

-- numbers that an entry takes at most, with one for each who waits then, whose grant is sent under it
abbrev pub most_numbers : ℕ
most_numbers = 512
