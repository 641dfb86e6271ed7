-- Each request that waits in SMB's lists is awaited at each free moment, and each waiter of an SMB open has its request.
use Rattle.std.proofs.Common.{◌≡◌, ℕ, Bool, true, false, if◌then◌else◌, List, [], ◌∷◌, length, Option, Some, None, refl, sym, ap, ◌∙◌, append-nil}
use Rattle.std.specs.Prelude.{nat_lt}
use Rattle.std.specs.List.{AllByRecursion}
use Rattle.std.proofs.lemmas.Bool.{true≢false}
use Rattle.xl_base.proofs.Members.{all_weaker}
use Rattle.xl_base.specs.declared.event.Event.{Event}
use Rattle.xl_base.specs.declared.event.Event.TheVariants.{Open, Message, End, Called, Tick, Restart}
use Rattle.xl_base.specs.declared.event.Kind.{Kind}
use Rattle.xl_base.specs.declared.event.Kind.TheVariants.{Rpc, Smb}
use Rattle.xl_base.specs.declared.event.Moment.{Moment}
use Rattle.xl_base.specs.declared.journal.Exports.{Exports}
use Rattle.xl_base.specs.declared.name.Protocol.{Protocol}
use Rattle.xl_base.specs.declared.name.Protocol.TheVariants as protocols
use Rattle.xl_programs.specs.Programs.{RequestItem, IncomingItem, Unanswered, Refused, Asked, incoming_at}
use Rattle.xl_programs.specs.declared.program.Program.{Program}
use Rattle.xl_programs.specs.declared.program.Program.TheVariants.{Nlm, Nfs}
use Rattle.xl_smb_state.specs.Links.{AreDistinct, IsSound}
use Rattle.xl_smb_state.specs.State.{Lists}
use Rattle.xl_core.specs.Deeds.{Deed, Asks, Cancels, Closes, Ends, Serves, done, given, tick_deeds, turned}
use Rattle.xl_core.specs.Good.{IsGood}
use Rattle.xl_core.specs.Settle.{settle}
use Rattle.xl_core.specs.State.{CoreState, step_begun}
use Rattle.xl_core.specs.Told.{told_to}
use Rattle.xl_core.specs.declared.ask.Answer.{Answer}
use Rattle.xl_core.specs.declared.ask.Effect.{Effect}
use Rattle.xl_nfs_laws.proofs.RequestOwn as nfs_own
use Rattle.xl_front_nfs.specs.FrontNfs.{nfs_deeds}
use Rattle.xl_house.specs.Awaited.{IsAwaiting}
use Rattle.xl_house.specs.Lawful.{may_do}
use Rattle.xl_house.specs.Machine.{heard}
use Rattle.xl_house.specs.Own.{Given, begun_by, Own, program_own, record_own, message_own, end_own, own_of}
use Rattle.xl_house.specs.State.{Whole, kind_of, most_connections, nfs_opens, rooms_of, smb_opens}
use Rattle.xl_house.specs.Telling.{all_shown, settled, shown_by, showing, turns_sent}
use Rattle.xl_house.specs.declared.layers.Fronts.{Fronts}
use Rattle.xl_plan.specs.Plans.{AllAt}
use Rattle.xl_smb_laws.proofs.SparedLaws.{nfs_apart, nlm_apart, turn_awaited}
use Rattle.xl_smb_laws.specs.WaitingRequests.{SparesSmb, is_open_ask}
use Rattle.xl_house.proofs.PairedWaiterLaws.{Others, Stand, ToTell, begin_stands, deeds_tell, end_tells, message_tells, none_tells, one_tells, other_tells, quiet_tell, same_stand, tells_by}
use Rattle.xl_house.proofs.DoneLaws.{IsRow, program_row, own_row}
use Rattle.xl_house.proofs.LawfulLaws.{begun_waits}
use Rattle.xl_house.proofs.OthersLaws.{nlm_others, nlm_spare, refusal_named, refusals_spare, theirs_named, theirs_spare}
use Rattle.xl_house.proofs.SettleLaws.{turned_good}
use Rattle.xl_house.proofs.ShownLaws.{all_shown_good, shown_one}
use Rattle.xl_house.proofs.TurnLaws.{of_turns}

-- ---- effects that are told

effect_tells : (exports : Exports) (f : Fronts) (s : CoreState) (effect : Effect) (told : List Effect) (p : Protocol) → told_to effect ≡ p → (shown_by exports f s effect p).2.waiters ≡ s.waiters → ToTell (effect ∷ told) s f.smb.state
    → (let r = shown_by exports f s effect p in ToTell told r.2 r.1.smb.state)
effect_tells exports f s effect told protocols.Nlm at same tell = other_tells s (shown_by exports f s effect protocols.Nlm).2 f.smb.state effect told (λ own. nlm_apart (sym at ∙ own)) same tell
effect_tells exports f s effect told protocols.Nfs at same tell = other_tells s s f.smb.state effect told (λ own. nfs_apart (sym at ∙ own)) same tell
effect_tells exports f s effect told protocols.Smb at same tell = one_tells f.smb s s effect told same tell

pub shown_stand : (exports : Exports) (f : Fronts) (s : CoreState) (told : List Effect) → ToTell told s f.smb.state → Stand (all_shown exports f s told).2 (all_shown exports f s told).1.smb.state
shown_stand exports f s [] tell = none_tells s f.smb.state tell
shown_stand exports f s (effect ∷ told) tell =
    (let r = showing exports f s effect in
    shown_stand exports r.1 r.2 told (effect_tells exports f s effect told (told_to effect) refl (ap (λ (t : CoreState). t.waiters) (shown_one exports f s effect).parts) tell))

-- ---- turns

pub turn_tells : (n : ℕ) (f : Fronts) (s t : CoreState) (told : List Effect) → IsGood s → settle n (rooms_of f) s ≡ Some (told, t) → Stand s f.smb.state → ToTell told t f.smb.state
turn_tells n f s t told good e stand =
    let d : Deed = Serves (rooms_of f) in
    let same : given n s d ≡ (None, told, t) = ap (λ (o : Option (List Effect × CoreState)). turned s o) e in
    tells_by n s t f.smb.state (d ∷ []) told good (tt, tt) (refl, tt)
    (sym (ap (λ (r : Option Answer × List Effect × CoreState). r.2) same))
    (sym (append-nil (given n s d).1 ∙ ap (λ (r : Option Answer × List Effect × CoreState). r.1) same))
    stand (λ x here quiet. turn_awaited n (rooms_of f) s t f.smb.state told x good e stand.awaits here quiet)

pub settled_stand : (n : ℕ) (exports : Exports) (f : Fronts) (s : CoreState) → IsGood s → Stand s f.smb.state → Stand (settled n exports f s).2 (settled n exports f s).1.smb.state
unfolding settled
settled_stand n exports f s good stand =
    of_turns n exports (λ g t ts. IsGood t → Stand t g.smb.state → Stand (turns_sent exports g t ts).2 (turns_sent exports g t ts).1.smb.state) (λ g t h k. k)
    (λ fuel g t u told e rest h k. rest (all_shown_good exports g u told (turned_good n g t u told h e)) (shown_stand exports g u told (turn_tells n g t u told h e k))) f s good stand

-- ---- what a reading of the clock does is no ask

ticks_ask : (now : Moment) (d : Deed) → may_do (Tick now) d ≡ true → is_open_ask d ≡ false
ticks_ask now (Asks left a) may = absurd (true≢false (sym may))
ticks_ask now d may = refl

tick_others : (n : ℕ) (s : Whole) (now : Moment) → IsGood s.core → Others (tick_deeds n s.core now)
tick_others n s now good = all_weaker (λ d. may_do (Tick now) d ≡ true) (λ d. is_open_ask d ≡ false) (tick_deeds n s.core now) (λ d may. ticks_ask now d may) ((own_row n s (Tick now)).may good)

-- and leaves SMB's waiters
ticks_spare : (now : Moment) (s : CoreState) (d : Deed) → may_do (Tick now) d ≡ true → SparesSmb s d
ticks_spare now s (Cancels id) may = absurd (true≢false (sym may))
ticks_spare now s (Ends party) may = absurd (true≢false (sym may))
ticks_spare now s (Closes number party) may = absurd (true≢false (sym may))
ticks_spare now s (Serves left) may = absurd (true≢false (sym may))
ticks_spare now s d may = tt

all_spare : (n : ℕ) (now : Moment) (s : CoreState) (ds : List Deed) → AllByRecursion (λ d. may_do (Tick now) d ≡ true) ds → AllAt SparesSmb n s ds
all_spare n now s [] may = tt
all_spare n now s (d ∷ ds) may = (ticks_spare now s d may.0, all_spare n now (done n s d) ds may.1)

-- ---- what an event gives

-- what SMB's lists have that a connection's end, and a message, need of them
abbrev pub Ready : Fronts → Type 0
Ready f = IsSound f.smb.state × AreDistinct f.smb.state

abbrev Tells : Given → Type 0
Tells g = ToTell g.1 g.3 g.2.smb.state

-- a row whose asks are no open's, and that leaves SMB's lists
others_tell : (n : ℕ) (exports : Exports) (f : Fronts) (s : CoreState) (event : Event) (o : Own) (l : Lists) → IsGood s → IsRow n exports f s event o → Others o.deeds → AllAt SparesSmb n s o.deeds → Stand s l → ToTell o.given.1 o.given.3 l
others_tell n exports f s event o l good row others spare stand = deeds_tell n s o.given.3 l o.deeds o.given.1 good (row.takes good) others spare row.does row.tells stand

program_tells : (n : ℕ) (exports : Exports) (f : Fronts) (s : CoreState) (number : ℕ) (r : RequestItem) (program : Program) → IsGood s → Stand s f.smb.state → Tells (program_own n exports f s number r program).given
program_tells n exports f s number r Nlm good stand =
    others_tell n exports f s (Message number []) (program_own n exports f s number r Nlm) f.smb.state good (program_row n [] exports f s number r Nlm) (nlm_others n exports f.nlm s r good) (nlm_spare n exports f.nlm s r good) stand
program_tells n exports f s number r Nfs good stand =
    let row = program_row n [] exports f s number r Nfs in
    let ds = nfs_deeds n exports (smb_opens f) f.nfs s r in
    let own = nfs_own.request_by n exports (smb_opens f) f.nfs s r good in
    others_tell n exports f s (Message number []) (program_own n exports f s number r Nfs) f.smb.state good row (theirs_named n s ds own (row.takes good)) (theirs_spare n s ds own) stand

record_tells : (n : ℕ) (exports : Exports) (f : Fronts) (s : CoreState) (number : ℕ) (incoming : IncomingItem) → IsGood s → Stand s f.smb.state → Tells (record_own n exports f s number incoming).given
record_tells n exports f s number Unanswered good stand = quiet_tell s f.smb.state stand
record_tells n exports f s number (Refused xid verdict) good stand = quiet_tell s f.smb.state stand
record_tells n exports f s number (Asked r) good stand = program_tells n exports f s number r r.program good stand

heard_tells : (n : ℕ) (exports : Exports) (f : Fronts) (s : CoreState) (kind : Option Kind) (number : ℕ) (bytes : List ℕ) → IsGood s → Ready f → Stand s f.smb.state → Tells (message_own n exports f s kind number bytes).given
heard_tells n exports f s None number bytes good ready stand = quiet_tell s f.smb.state stand
heard_tells n exports f s (Some Rpc) number bytes good ready stand = record_tells n exports f s number (incoming_at bytes) good stand
heard_tells n exports f s (Some Smb) number bytes good ready stand = message_tells n exports (nfs_opens f) f.smb s number bytes good ready.1 stand

ended_tells : (f : Fronts) (s : CoreState) (kind : Option Kind) (number : ℕ) → IsGood s → Ready f → Stand s f.smb.state → Tells (end_own f s kind number).given
ended_tells f s None number good ready stand = quiet_tell s f.smb.state stand
ended_tells f s (Some Rpc) number good ready stand = quiet_tell s f.smb.state stand
ended_tells f s (Some Smb) number good ready stand = end_tells f.smb s number good ready.0 ready.1 stand

begun_stand : (f : Fronts) (s : CoreState) (place : ℕ) (kind : Kind) (room : Bool) → Stand s f.smb.state → Stand s (if room then begun_by f place kind else f).smb.state
begun_stand f s place kind false stand = stand
begun_stand f s place Rpc true stand = stand
begun_stand f s place Smb true stand = begin_stands f.smb s place stand

given_tells : (n : ℕ) (s : Whole) (event : Event) → IsGood s.core → Ready s.front → Stand s.core s.front.smb.state → Tells (own_of n s event).given
given_tells n s (Open kind) good ready stand = quiet_tell s.core _ (begun_stand s.front s.core s.place kind (nat_lt (length s.connections) most_connections) stand)
given_tells n s (Message number bytes) good ready stand = heard_tells n s.exports s.front s.core (kind_of s.connections number) number bytes good ready stand
given_tells n s (End number) good ready stand = ended_tells s.front s.core (kind_of s.connections number) number good ready stand
given_tells n s (Called number bytes) good ready stand = others_tell n s.exports s.front s.core (Called number bytes) (own_of n s (Called number bytes)) s.front.smb.state good (own_row n s (Called number bytes)) (refusal_named s.front.nlm.hosts _) (refusals_spare n s.core s.front.nlm.hosts _) stand
given_tells n s (Tick now) good ready stand = others_tell n s.exports s.front s.core (Tick now) (own_of n s (Tick now)) s.front.smb.state good (own_row n s (Tick now)) (tick_others n s now good) (all_spare n now s.core (tick_deeds n s.core now) ((own_row n s (Tick now)).may good)) stand
given_tells n s Restart good ready stand = quiet_tell s.core s.front.smb.state stand

-- ---- and what is heard

-- no two requests have one number where no two rows of a list have one key; and a step begins with who waited
pub stand_of : (s : Whole) → Ready s.front → IsAwaiting s → Stand (step_begun s.core) s.front.smb.state
stand_of s ready awaiting = same_stand s.core (step_begun s.core) s.front.smb.state (begun_waits s.core) (record { awaits = awaiting.awaits; keeps = awaiting.keeps; apart = ready.1.waiting })

pub heard_stand : (n : ℕ) (s : Whole) (event : Event) → IsGood s.core → Ready s.front → Stand s.core s.front.smb.state → Stand (heard n s event).2 (heard n s event).1.smb.state
unfolding heard
heard_stand n s event good ready stand = let g = (own_of n s event).given in shown_stand s.exports g.2 g.3 g.1 (given_tells n s event good ready stand)
