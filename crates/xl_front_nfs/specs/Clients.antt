-- Operations of clients (RFC 7530 9.1.1, 9.5, 16.28, 16.33, 16.34).
use Rattle.std.specs.Prelude.{ℕ, ◌+◌, true, false, ◌==◌, nat_lt, bytes_eq, Bool, if◌then◌else◌, List, [], ◌∷◌, ◌++◌, length, Option, Some, None}
use Rattle.std.specs.Int.{w64, to_be_bytes}
use Rattle.std.specs.List.{find}
use Rattle.xl_base.specs.declared.event.Moment.{Moment}
use Rattle.xl_base.specs.declared.name.Party.{Party}
use Rattle.xl_names.specs.declared.name.Name.TheVariants.{NfsParty}
use Rattle.xl_nfs.specs.Clients.{SetClientIdArgsItem}
use Rattle.xl_nfs.specs.declared.clients.ClientConfirm.{ClientConfirm}
use Rattle.xl_nfs.specs.declared.status.NfsStatus.TheVariants.{Ok, Resource, StaleClientId}
use Rattle.xl_nfs_state.specs.Filed.{changed}
use Rattle.xl_nfs_state.specs.Rows.{with_details}
use Rattle.xl_nfs_state.specs.State.{NfsLists, with_clients, without, without_client, is_client, is_client_named, most_clients}
use Rattle.xl_nfs_state.specs.declared.client.ClientDetails.{ClientDetails}
use Rattle.xl_nfs_state.specs.declared.client.ClientRow.{ClientRow}
use Rattle.xl_core.specs.Askers.{party_named}
use Rattle.xl_core.specs.Deeds.{Deed, Draws, Ends, Renews}
use Rattle.xl_core.specs.Leases.{moment_after}
use Rattle.xl_core.specs.State.{CoreState}
use Rattle.xl_core.specs.Ids.{id_of, number_in}
use Rattle.xl_plan.specs.Plans.{Tells, Does}
use Rattle.xl_nfs_opens.specs.Checks.{found}
use Rattle.xl_nfs_opens.specs.Plans.{Plan}
use Rattle.xl_nfs_opens.specs.declared.told.Told.TheVariants.{Ended, Client}

-- there is no such client
abbrev pub stale : Option ℕ → Plan
stale current = Tells (Ended StaleClientId, current)

-- ---- RENEW (16.28)

abbrev pub renew_found : NfsLists → Option ℕ → Option ClientRow → Plan
renew_found l current client = found client (stale current) (λ r. Does (Renews r.id ∷ []) l (Ended Ok, current))

abbrev pub renew_number : NfsLists → Option ℕ → Option ℕ → Plan
renew_number l current number = found number (stale current) (λ number. renew_found l current (find (is_client number true) l.clients))

unfoldable pub renew : CoreState → NfsLists → Option ℕ → ℕ → Plan
renew s l current clientid = renew_number l current (number_in s clientid)

-- ---- SETCLIENTID (16.33)

-- the lists without the unconfirmed record of this number
abbrev pub without_number : ℕ → NfsLists → NfsLists
without_number number l = with_clients l (without (is_client number false) l.clients)

abbrev pub without_found : NfsLists → Option ClientRow → NfsLists
without_found l None = l
without_found l (Some r) = without_number r.number l

-- the lists without the unconfirmed record of this id string (NFS-11)
abbrev pub without_named : List ℕ → NfsLists → NfsLists
without_named id l = without_found l (find (is_client_named id false) l.clients)

-- the number that the client has already, if its confirmed record has the verifier (NFS-11)
abbrev pub number_kept : List ℕ → Option ClientRow → Option ℕ
number_kept verifier None = None
number_kept verifier (Some r) = if bytes_eq r.details.verifier verifier then Some r.number else None

-- when a record goes that comes now, if it isn't confirmed before
abbrev pub record_end : CoreState → Moment
record_end s = moment_after s.clock s.times.lease

-- a record that goes at this time, if it isn't confirmed before, and is confirmed by that number
abbrev pub details_of : Moment → SetClientIdArgsItem → ℕ → ClientDetails
details_of time a confirm =
    record {
      verifier = a.verifier;
      confirm = to_be_bytes w64 confirm;
      callback = record { program = a.program; netid = a.netid; address = a.address; ident = a.callback_ident };
      time = time;
    }

abbrev pub row_of : Moment → SetClientIdArgsItem → ℕ → ℕ → ClientRow
row_of time a number confirm = record { number = number; confirmed = false; id = a.id; details = details_of time a confirm }

-- there is room for a record
abbrev pub has_room : NfsLists → Bool
has_room l = nat_lt (length l.clients) most_clients

-- the lists with a record more
abbrev pub with_row : NfsLists → ClientRow → NfsLists
with_row l row = with_clients l (l.clients ++ row ∷ [])

abbrev pub confirm_of : CoreState → ℕ → ℕ → ClientConfirm
confirm_of s number confirm = record { clientid = id_of s number; verifier = to_be_bytes w64 confirm }

-- the client's number, and the one that confirms it
abbrev pub numbers : ℕ → Option ℕ → ℕ × ℕ
numbers counter None = (counter + 1, counter + 2)
numbers counter (Some number) = (number, counter + 1)

abbrev pub draws : Option ℕ → List Deed
draws None = Draws ∷ Draws ∷ []
draws (Some number) = Draws ∷ []

-- a record under this number, confirmed by that one; nothing else stands under the number
abbrev pub set_under : Moment → NfsLists → SetClientIdArgsItem → ℕ → ℕ → NfsLists
set_under time l a number confirm = with_row (without_number number l) (row_of time a number confirm)

-- numbers are drawn if there is room
abbrev pub set_by : CoreState → NfsLists → Option ℕ → SetClientIdArgsItem → Option ℕ → Plan
set_by s l current a kept =
    if has_room l then Does (draws kept) (set_under (record_end s) l a (numbers s.counter kept).0 (numbers s.counter kept).1) (Client (confirm_of s (numbers s.counter kept).0 (numbers s.counter kept).1), current)
    else Does [] l (Ended Resource, current)

abbrev pub set_beside : CoreState → NfsLists → Option ℕ → SetClientIdArgsItem → Plan
set_beside s l current a = set_by s l current a (number_kept a.verifier (find (is_client_named a.id true) l.clients))

-- An unconfirmed record of the same id string makes room. The clientid is that of the confirmed record with the id string
-- and the verifier, else a new one; what confirms it is a new number (NFS-11).
unfoldable pub set_client_id : CoreState → NfsLists → Option ℕ → SetClientIdArgsItem → Plan
set_client_id s l current a = set_beside s (without_named a.id l) current a

-- ---- SETCLIENTID_CONFIRM (16.34)

-- all that the party has goes
abbrev pub ends : Option Party → List Deed
ends None = []
ends (Some party) = Ends party ∷ []

-- the record once it is confirmed, under this number
abbrev pub confirmed_row : ℕ → ClientRow → ClientRow
confirmed_row number r = record { number = number; confirmed = true; id = r.id; details = r.details }

-- the client comes; nothing that stood under its number before stays
abbrev pub come : NfsLists → ℕ → ClientRow → NfsLists
come l number r = with_row (without_client number l) (confirmed_row number r)

-- the same client again: it keeps what it has, except for what its record says (NFS-12)
abbrev pub come_again : NfsLists → ℕ → ClientRow → NfsLists
come_again l number r = with_clients l (changed (is_client number true) (with_details r.details) l.clients)

-- By the confirmed record of the same id string: there is none, it is of this clientid, or it is of another client, of
-- which all goes but its name in the record (NFS-12).
abbrev pub confirm_over : CoreState → NfsLists → Option ℕ → ℕ → ClientRow → Option ClientRow → Plan
confirm_over s l current number r None = Does (Renews r.id ∷ []) (come l number r) (Ended Ok, current)
confirm_over s l current number r (Some o) =
    if o.number == number then Does (Renews r.id ∷ []) (come_again l number r) (Ended Ok, current)
    else Does (ends (party_named s.names (NfsParty r.id)) ++ Renews r.id ∷ []) (come (without_client o.number l) number r) (Ended Ok, current)

abbrev pub confirm_beside : CoreState → NfsLists → Option ℕ → ℕ → ClientRow → Plan
confirm_beside s l current number r = confirm_over s l current number r (find (is_client_named r.id true) l.clients)

-- a confirmed client is named, and its lease runs, whether this verifier is the one that confirmed it or not (NFS-13)
abbrev pub confirm_held : NfsLists → Option ℕ → List ℕ → Option ClientRow → Plan
confirm_held l current verifier client =
    found client (stale current) (λ r. Does (Renews r.id ∷ []) l (Ended (if bytes_eq r.details.confirm verifier then Ok else StaleClientId), current))

-- the record, if this verifier confirms it
abbrev pub confirmed_by : List ℕ → Option ClientRow → Option ClientRow
confirmed_by verifier None = None
confirmed_by verifier (Some r) = if bytes_eq r.details.confirm verifier then Some r else None

-- an unconfirmed record that is confirmed becomes the confirmed one (NFS-12)
abbrev pub confirm_found : CoreState → NfsLists → Option ℕ → ℕ → List ℕ → Option ClientRow → Plan
confirm_found s l current number verifier unconfirmed = found unconfirmed (confirm_held l current verifier (find (is_client number true) l.clients)) (confirm_beside s (without_number number l) current number)

abbrev pub confirm_number : CoreState → NfsLists → Option ℕ → List ℕ → Option ℕ → Plan
confirm_number s l current verifier number = found number (stale current) (λ number. confirm_found s l current number verifier (confirmed_by verifier (find (is_client number false) l.clients)))

unfoldable pub set_client_id_confirm : CoreState → NfsLists → Option ℕ → ClientConfirm → Plan
set_client_id_confirm s l current a = confirm_number s l current a.verifier (number_in s a.clientid)
