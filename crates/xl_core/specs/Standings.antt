-- How one who asks stands to the grace that runs (RFC 7530 9.6.2, 9.6.3).
use Rattle.std.specs.Prelude.{Bool, true, false, not, ◌&&◌, if◌then◌else◌, List, [], Option, Some, None, is_some}
use Rattle.std.specs.List.{slice_get}
use Rattle.xl_base.specs.declared.event.Moment.{Moment}
use Rattle.xl_base.specs.declared.name.Party.{Party}
use Rattle.xl_base.specs.declared.name.Party.TheVariants as parties
use Rattle.xl_base.specs.declared.name.Protocol.TheVariants.{Nlm, Nfs, Smb}
use Rattle.xl_base.specs.declared.stable.Mark.{Mark}
use Rattle.xl_base.specs.declared.stable.Recorded.{Recorded}
use Rattle.xl_grace.specs.Grace.{admission}
use Rattle.xl_grace.specs.declared.grace.Admission.{Admission}
use Rattle.xl_grace.specs.declared.grace.Admission.TheVariants.{Enters, Grace, NoGrace, NotRecorded}
use Rattle.xl_names.specs.declared.name.Name.{Name}
use Rattle.xl_names.specs.declared.name.Name.TheVariants.{NlmParty, NfsParty}
use Rattle.xl_wait.specs.declared.waiter.Waiter.{Waiter}
use Rattle.xl_core.specs.State.{CoreState}
use Rattle.xl_core.specs.declared.ask.Answer.{Answer}
use Rattle.xl_core.specs.declared.ask.Ask.{Ask}
use Rattle.xl_core.specs.declared.ask.Answer.TheVariants as answers
use Rattle.xl_core.specs.declared.ask.Who.{Who}
use Rattle.xl_core.specs.declared.ask.Who.TheVariants.{Named, Open}
use Rattle.xl_core.specs.declared.standings.Standing.{Standing}
use Rattle.xl_core.specs.declared.standings.Standing.TheVariants.{Timely, Reclaims, Stays, Early, Late, Unrecorded}

-- ---- the name in the record

-- what stands for a client that no record has
abbrev pub nobody : Recorded
nobody = record { protocol = Smb; name = []; mark = None }

-- a client of NLM or NFSv4, as the record names it
abbrev pub recorded_name : Name → Recorded
recorded_name (NlmParty caller) = record { protocol = Nlm; name = caller; mark = None }
recorded_name (NfsParty id) = record { protocol = Nfs; name = id; mark = None }
recorded_name _ = nobody

abbrev pub recorded_as : Who → Recorded
recorded_as (Named name) = recorded_name name
recorded_as (Open number) = nobody

abbrev pub recorded_by : Option Name → Recorded
recorded_by None = nobody
recorded_by (Some name) = recorded_name name

-- the same of a party by its number
abbrev pub recorded_at : List Name → Party → Recorded
recorded_at names (parties.Name protocol number) = recorded_by (slice_get names number)
recorded_at names (parties.Open number) = nobody

-- a client with the mark that it comes with
abbrev pub marked : Recorded → Option Mark → Recorded
marked name mark = record { protocol = name.protocol; name = name.name; mark = mark }

-- one who asks, and one who waits
abbrev pub asker_as : Ask → Recorded
asker_as a = marked (recorded_as a.party) a.mark

abbrev pub waiter_as : List Name → Waiter → Recorded
waiter_as names w = marked (recorded_at names w.party) w.mark

-- the asker's name is to be recorded before a grant: it is monitored, and reclaims nothing
abbrev pub stores_name : Ask → Bool
stores_name a = a.monitored && not a.reclaim

-- it is of SMB, whose requests wait while grace runs
abbrev pub is_smb : Who → Bool
is_smb (Named (NlmParty caller)) = false
is_smb (Named (NfsParty id)) = false
is_smb _ = true

-- ---- the standing

abbrev pub standing_by : Bool → Bool → Moment → Admission → Standing
standing_by stays reclaim clock Enters = if reclaim then Reclaims else Timely
standing_by stays reclaim clock (Grace until) = if stays then Stays else Early until
standing_by stays reclaim clock NoGrace = Late clock
standing_by stays reclaim clock NotRecorded = Unrecorded

-- What grace makes of an ask of this client, which waits for the end of grace or not, and is a reclaim or not: out of grace
-- a reclaim comes too late; in grace a reclaim enters if its client is recorded and its mark agrees, and what is no reclaim waits or is
-- refused (CORE-17).
unfoldable pub standing : CoreState → Recorded → Bool → Bool → Standing
standing s name stays reclaim = standing_by stays reclaim s.clock (admission s.grace name reclaim)

-- the same of an ask for a share or for ranges, which waits for the end of grace if it is of SMB
abbrev pub stands : CoreState → Ask → Standing
stands s a = standing s (asker_as a) (is_smb a.party) a.reclaim

-- the same of a test or of a wish by itself, which never waits
abbrev pub stands_alone : CoreState → Ask → Standing
stands_alone s a = standing s (asker_as a) false a.reclaim

-- one who waits already waits on while grace runs
abbrev pub standing_again : CoreState → Standing
standing_again s = if is_some s.grace then Stays else Timely

-- what one is answered whom grace refuses
abbrev pub refusal : Standing → Option Answer
refusal (Early until) = Some (answers.Grace until)
refusal (Late clock) = Some (answers.NoGrace clock)
refusal Unrecorded = Some answers.NotRecorded
refusal _ = None

-- it goes past grace: none runs and it is no reclaim, or it reclaims in grace
abbrev pub enters : Standing → Bool
enters Timely = true
enters Reclaims = true
enters _ = false

-- nothing of grace is in its way, and it is no reclaim
abbrev pub is_timely : Standing → Bool
is_timely Timely = true
is_timely _ = false
