-- What a request names is there.
use Rattle.std.proofs.Common.{◌≡◌, ℕ, true, Option, Some, None, is_some, refl, sym}
use Rattle.std.proofs.lemmas.Bool.{false≢true}
use Rattle.xl_smb_state.specs.State.{Lists, session_of, open_of}
use Rattle.xl_smb_state.specs.declared.row.Open.{Open}
use Rattle.xl_smb_state.specs.declared.row.Session.{Session}
use Rattle.xl_smb_state.proofs.RowLaws.{equal_from}
use Rattle.xl_front_smb.specs.Checks.{is_open_on}
use Rattle.xl_front_smb.specs.Owners.{is_session_on}

session_at : (conn : ℕ) (found : Option Session) → is_session_on conn found ≡ true → found ≡ Some (record { connection = conn })
session_at conn None h = absurd (false≢true h)
session_at conn (Some row) h = let same : row.connection ≡ conn = sym (equal_from row.connection conn h) in λ i. Some (record { connection = same i })

pub session_there : (conn number : ℕ) (l : Lists) → is_session_on conn (session_of number l) ≡ true → session_of number l ≡ Some (record { connection = conn })
session_there conn number l h = session_at conn (session_of number l) h

open_at : (conn : ℕ) (found : Option Open) → is_open_on conn found ≡ true → is_some found ≡ true
open_at conn None h = absurd (false≢true h)
open_at conn (Some row) h = refl

pub open_there : (conn number : ℕ) (l : Lists) → is_open_on conn (open_of number l) ≡ true → is_some (open_of number l) ≡ true
open_there conn number l h = open_at conn (open_of number l) h
