-- The numbers of the operations whose arguments are read (RFC 7531, nfs_opnum4).
use Rattle.std.specs.Prelude.{ℕ}

abbrev pub op_close : ℕ
op_close = 4

abbrev pub op_delegreturn : ℕ
op_delegreturn = 8

abbrev pub op_getfh : ℕ
op_getfh = 10

abbrev pub op_lock : ℕ
op_lock = 12

abbrev pub op_lock_test : ℕ
op_lock_test = 13

abbrev pub op_unlock : ℕ
op_unlock = 14

abbrev pub op_lookup : ℕ
op_lookup = 15

abbrev pub op_open : ℕ
op_open = 18

abbrev pub op_open_confirm : ℕ
op_open_confirm = 20

abbrev pub op_open_downgrade : ℕ
op_open_downgrade = 21

abbrev pub op_putfh : ℕ
op_putfh = 22

abbrev pub op_putrootfh : ℕ
op_putrootfh = 24

abbrev pub op_renew : ℕ
op_renew = 30

abbrev pub op_setclientid : ℕ
op_setclientid = 35

abbrev pub op_setclientid_confirm : ℕ
op_setclientid_confirm = 36

abbrev pub op_release_lockowner : ℕ
op_release_lockowner = 39
