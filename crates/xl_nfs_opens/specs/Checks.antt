-- Checks in a row, from left to right: each is a case in which a request is refused, and its status then.
use Rattle.std.specs.Prelude.{Bool, if◌then◌else◌, List, [], ◌∷◌, Option, Some, None, Result, Ok, Err}
use Rattle.xl_nfs.specs.declared.status.NfsStatus.{NfsStatus}

-- what is found goes on; if nothing is, it ends so
abbrev pub found : {A R : Type 0} → Option A → R → (A → R) → R
found None ends rest = ends
found (Some x) ends rest = rest x

-- what passes goes on; if it doesn't, it ends by its status
abbrev pub passed : {A R : Type 0} → Result A NfsStatus → (NfsStatus → R) → (A → R) → R
passed (Err status) ends rest = ends status
passed (Ok x) ends rest = rest x

-- it ends by the status of a fault, or goes on if there is none
abbrev pub unless : {R : Type 0} → Option NfsStatus → (NfsStatus → R) → R → R
unless None ends rest = rest
unless (Some status) ends rest = ends status

-- it ends by the status of the first of these that is the case, else so
abbrev pub refused_by : {R : Type 0} → (NfsStatus → R) → List (Bool × NfsStatus) → R → R
refused_by ends [] rest = rest
refused_by ends (check ∷ checks) rest = if check.0 then ends check.1 else refused_by ends checks rest

-- that status
abbrev pub failing : List (Bool × NfsStatus) → Option NfsStatus
failing checks = refused_by Some checks None
