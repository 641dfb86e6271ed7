-- What a turn grants to an SMB open was waited for, and the open is there afterwards.
use Rattle.std.proofs.Common.{◌≡◌, ℕ, zero, suc, ◌-◌, ◌≤◌, Bool, true, false, List, [], ◌∷◌, ◌++◌, length, map, Option, Some, None, refl, sym, ap, subst, ◌∙◌, arith}
use Rattle.std.specs.List.{AllByRecursion}
use Rattle.xl_base.proofs.Members.{all_in}
use Rattle.xl_base.specs.Lists.{IsIn}
use Rattle.xl_base.specs.declared.event.Event.{Event}
use Rattle.xl_base.specs.declared.event.Event.TheVariants.{Message, Restart}
use Rattle.xl_base.specs.declared.event.Kind.TheVariants.{Smb}
use Rattle.xl_base.specs.declared.event.Out.{Out}
use Rattle.xl_base.specs.declared.journal.Entry.{Entry}
use Rattle.xl_base.specs.declared.journal.Exports.{Exports}
use Rattle.xl_base.specs.declared.journal.Head.{Head}
use Rattle.xl_base.specs.declared.name.Party.{Party}
use Rattle.xl_base.specs.declared.name.Protocol.TheVariants as protocols
use Rattle.xl_matrix.specs.declared.claim.Claim.{Claim}
use Rattle.xl_smb_frames.specs.Steps.{next_step}
use Rattle.xl_smb_frames.specs.declared.frame.Frame.{Frame}
use Rattle.xl_smb_frames.specs.declared.steps.Step.{Step}
use Rattle.xl_smb_frames.specs.declared.steps.Step.TheVariants as next
use Rattle.xl_smb_state.specs.Links.{most_opens}
use Rattle.xl_smb_state.specs.State.{Lists, open_of, waiting_of}
use Rattle.xl_smb_state.specs.declared.row.Open.{Open as OpenRow}
use Rattle.xl_smb_state.specs.declared.row.Request.{Request}
use Rattle.xl_smb_state.specs.declared.row.Request.TheVariants as request
use Rattle.xl_smb_state.specs.declared.row.Waiting.{Waiting}
use Rattle.xl_wait.specs.declared.waiter.Waiter.{Waiter}
use Rattle.xl_core.proofs.GoodLaws.{begun_good}
use Rattle.xl_core.specs.Good.{IsGood}
use Rattle.xl_core.specs.Settle.{settle}
use Rattle.xl_core.specs.State.{CoreState, step_begun}
use Rattle.xl_smb_laws.specs.TiedRows.{AreSmbTied}
use Rattle.xl_core.specs.Told.{party_protocol}
use Rattle.xl_core.specs.declared.ask.Answer.TheVariants as answers
use Rattle.xl_core.specs.declared.ask.Effect.{Effect}
use Rattle.xl_core.specs.declared.ask.Effect.TheVariants as effects
use Rattle.xl_smb_locks.specs.Finals.{final_outs}
use Rattle.xl_smb_locks.specs.declared.finals.FinalReply.TheVariants.{Opened}
use Rattle.xl_core.specs.Ids.{id_of}
use Rattle.xl_smb_locks.specs.Levels.{caching}
use Rattle.xl_smb_locks.specs.declared.levels.Caching.{Caching}
use Rattle.xl_smb_laws.proofs.AwaitedRequestLaws.{row_in}
use Rattle.xl_smb_laws.proofs.GrantedCreateLaws.{granted_lease, granted_reply, granted_row, granted_share, one_waiter, served_grant, turn_of}
use Rattle.xl_smb_laws.proofs.TiedLaws.{start_tied}
use Rattle.xl_smb_laws.specs.WaitingRequests.{IsAwaited, IsGranted, IsKept, IsUnder}
use Rattle.xl_front_smb.specs.FrontSmb.{smb_shown}
use Rattle.xl_front_smb.specs.Laws.{IsLeased}
use Rattle.xl_house.specs.Awaited.{AreServed, HasItsOpen, HaveOpens, IsAwaiting, IsRoundServed, IsServedBy, OpenStands, found_first, success_of}
use Rattle.xl_house.specs.Done.{Round, done_round, first_by, first_round, round_of, rounds, rounds_by, rounds_for, step_round, top_round}
use Rattle.xl_house.specs.Free.{IsFree}
use Rattle.xl_house.specs.Journals.{is_restart, replay}
use Rattle.xl_house.specs.Lawful.{Always, Law}
use Rattle.xl_house.specs.Machine as machine
use Rattle.xl_house.specs.Machine.{Gone, Ground, Turn, advanced_by, advanced_for, begun_by, connected, found_in, frames_begun, gone, gone_further, gone_on, heard, heard_in, is_plain, part_done, run, steps_left}
use Rattle.xl_house.specs.Machine.{step}
use Rattle.xl_house.specs.Sifting.{brings_frame, is_smb, popped}
use Rattle.xl_house.specs.State.{Whole, as_found, kind_of, start_of, rooms_of}
use Rattle.xl_house.specs.Telling.{Sent, TurnTaken, all_shown, framed, settled, taken, turns, turns_sent}
use Rattle.xl_house.specs.declared.connections.Connection.{Connection}
use Rattle.xl_house.specs.declared.layers.Fronts.{Fronts}
use Rattle.xl_house.proofs.OwedLaws.{gone_by}
use Rattle.xl_house.proofs.AwaitedLaws.{Ready, heard_stand, settled_stand, shown_stand, stand_of, turn_tells}
use Rattle.xl_house.proofs.PairedWaiterLaws.{Stand, same_stand}
use Rattle.xl_house.proofs.LawfulLaws.{begun_waits}
use Rattle.xl_house.proofs.DistinctLaws.{round_distinct}
use Rattle.xl_house.proofs.SoundLaws.{round_sound}
use Rattle.xl_house.proofs.DoneLaws.{each_event, frames_good, further_good, rounds_are}
use Rattle.xl_house.proofs.MachineLaws.{heard_good, step_is}
use Rattle.xl_house.proofs.SettleLaws.{turned_good}
use Rattle.xl_house.proofs.ShownLaws.{all_shown_good, all_shown_is}
use Rattle.xl_house.proofs.LeasedLaws.{leased_stays}
use Rattle.xl_house.proofs.OpensLaws.{asks_as, lock_told, open_stays, same_caching, stays_on}
use Rattle.xl_house.proofs.TiedLaws.{found_tied, round_tied}
use Rattle.xl_house.proofs.TellLaws.{last_ends, last_shows, quiet_shows, taken_so, told_so}
use Rattle.xl_house.proofs.TurnLaws.{of_turns}

-- ---- who is granted

rooms_leave : (f : Fronts) → (rooms_of f).opens ≤ most_opens - length f.smb.state.opens
rooms_leave f = omega arith

-- ---- a turn

-- of a waiter that a turn grants a claim for an SMB open, and of its request
module _ (n fuel : ℕ) (exports : Exports) (f : Fronts) (s t : CoreState) (told : List Effect) (party : Party) (id number : ℕ) (claim : Claim) (good : IsGood s) (stand : Stand s f.smb.state) (turned : settle n (rooms_of f) s ≡ Some (told, t))
    (served : IsIn (effects.Served party id (answers.Granted claim)) told) (row : Waiting) (waited : waiting_of id f.smb.state ≡ Some row) where
  -- the lists at the end
  abbrev last_lists : Lists
  last_lists = (let r = all_shown exports f t told in (turns_sent exports r.1 r.2 (taken fuel n exports r.1 r.2)).1.smb.state)

  abbrev turn : TurnTaken
  turn = record { front = f; told = told; left = t }

  stays : (k : ℕ) (found : OpenRow) → open_of k (all_shown exports f t told).1.smb.state ≡ Some found → open_of k last_lists ≡ Some found
  stays k found at = (let r = all_shown exports f t told in taken_so (λ (l : Lists). open_of k l ≡ Some found) (open_stays k found) fuel n exports r.1 r.2 at)

  granted : (made : OpenRow) → row.request ≡ request.Create made → IsGranted n (rooms_of f) s t f.smb.state party id row made claim
  granted made makes = record { told = told; turn = turned; served = served; waits = waited; makes = makes; room = rooms_leave f }

  -- the request's waiter is granted it, which is a party of SMB
  of_smb : party_protocol party ≡ protocols.Smb
  of_smb =
      let grant = served_grant n (rooms_of f) s t told party id claim (turn_of n (rooms_of f) s t told good turned) served in
      let is = all_in (IsAwaited s f.smb.state) (id, row) f.smb.state.waiting stand.awaits (row_in id f.smb.state.waiting row waited) in
      let one : is.waiter ≡ grant.waiter = one_waiter s.waiters is.waiter grant.waiter good.apart is.waits grant.waits (is.number ∙ sym grant.number) in
      ap (λ (p : Party). party_protocol p) (sym grant.named ∙ ap (λ (w : Waiter). w.party) (sym one)) ∙ is.smb.party

  -- what the turn leaves of the lists is what its grant leaves
  ends_as : (u : CoreState) × ((all_shown exports f t told).1.smb.state ≡ (smb_shown f.smb u (effects.Served party id (answers.Granted claim))).1.state)
  ends_as =
      let x : Effect = effects.Served party id (answers.Granted claim) in
      let grant = served_grant n (rooms_of f) s t told party id claim (turn_of n (rooms_of f) s t told good turned) served in
      let r = all_shown exports f t grant.before in (
        r.2,
        ap (λ (es : List Effect). (all_shown exports f t es).1.smb.state) grant.last
            ∙ last_shows exports f t grant.before x of_smb
            ∙ ap (λ (l : Lists). (smb_shown (record { state = l }) r.2 x).1.state) (quiet_shows exports f t grant.before grant.begun),
      )

  makes_open : (made : OpenRow) → row.request ≡ request.Create made → (claim.file ≡ made.file) × (open_of row.opened last_lists ≡ Some made) × IsLeased last_lists row.opened made
  makes_open made makes =
      let ends = ends_as in
      let is = granted made makes in
      let r = all_shown exports f t told in (
        (granted_share n (rooms_of f) s t ends.0 f.smb party id row made claim good stand.awaits is).1,
        stays row.opened made (ap (λ (l : Lists). open_of row.opened l) ends.1 ∙ granted_row n (rooms_of f) s t ends.0 f.smb party id row made claim good stand.awaits is),
        taken_so (λ (l : Lists). IsLeased l row.opened made) (leased_stays row.opened made) fuel n exports r.1 r.2
            (subst (λ (l : Lists). IsLeased l row.opened made) (sym ends.1) (granted_lease n (rooms_of f) s t ends.0 f.smb party id row made claim good stand.awaits is)),
      )

  is_there : (r : Request) → row.request ≡ r → OpenStands last_lists row claim r
  is_there (request.Create made) makes = makes_open made makes
  is_there request.Lock locks =
      let is = all_in (IsAwaited s f.smb.state) (id, row) f.smb.state.waiting stand.awaits (row_in id f.smb.state.waiting row waited) in
      stays_on row.place.connection row.opened f.smb.state last_lists (open_of row.opened f.smb.state)
      (λ found at. stays row.opened found (told_so (λ (l : Lists). open_of row.opened l ≡ Some found) (open_stays row.opened found) exports f t told at))
      refl (subst (λ (r : Request). IsUnder f.smb.state (id, row) r) locks is.under)

  -- what SMB's front says, in a core that is the turn's but for the numbers that were given out since
  says : (u : CoreState) (counter : ℕ) (r : Request) → u ≡ record t { counter = counter } → row.request ≡ r → (smb_shown f.smb u (effects.Served party id (answers.Granted claim))).0 ≡ final_outs id row (success_of t row r)
  says u counter (request.Create made) same makes =
      granted_reply n (rooms_of f) s t u f.smb party id row made claim good stand.awaits (granted made makes)
      ∙ ap (λ (c : CoreState). final_outs id row (Opened (id_of c row.opened) (caching c row.opened made))) same
      ∙ ap (λ (held : Caching). final_outs id row (Opened (id_of t row.opened) held)) (same_caching t counter row.opened made)
  says u counter request.Lock same locks = lock_told f.smb u party id row claim waited locks

  pub is_told : (before : List Effect) × (told ≡ before ++ effects.Served party id (answers.Granted claim) ∷ []) × ((all_shown exports f t told).0 ≡ (all_shown exports f t before).0 ++ map (framed Smb) (final_outs id row (success_of t row row.request)))
  is_told =
      let x : Effect = effects.Served party id (answers.Granted claim) in
      let grant = served_grant n (rooms_of f) s t told party id claim (turn_of n (rooms_of f) s t told good turned) served in
      let r = all_shown exports f t grant.before in (
        grant.before,
        grant.last,
        ap (λ (es : List Effect). (all_shown exports f t es).0) grant.last
            ∙ last_ends exports f t grant.before x of_smb
            ∙ ap (λ (l : Lists). r.0 ++ map (framed Smb) (smb_shown (record { state = l }) r.2 x).0) (quiet_shows exports f t grant.before grant.begun)
            ∙ ap (λ (outs : List Out). r.0 ++ map (framed Smb) outs) (says r.2 r.2.counter row.request (all_shown_is exports f t grant.before).parts refl),
      )

  pub has_open : row.opened ≡ number → HasItsOpen exports last_lists turn party id number claim
  has_open own = record { row = row; waited = waited; own = own; there = is_there row.request refl; before = is_told.0; told = is_told.1; sent = is_told.2 }

turn_has : (n fuel : ℕ) (exports : Exports) (f : Fronts) (s t : CoreState) (told : List Effect) → IsGood s → Stand s f.smb.state → settle n (rooms_of f) s ≡ Some (told, t)
    → (let r = all_shown exports f t told in HaveOpens exports (turns_sent exports r.1 r.2 (taken fuel n exports r.1 r.2)).1.smb.state (record { front = f; told = told; left = t }))
turn_has n fuel exports f s t told good stand e = λ party id number claim served owner.
    let left = rooms_of f in
    let grant = served_grant n left s t told party id claim (turn_of n left s t told good e) served in
    let kept = all_in (IsKept f.smb.state) grant.waiter s.waiters stand.keeps grant.waits number (asks_as grant.waiter claim grant.claims number grant.asked owner) in
    has_open n fuel exports f s t told party id number claim good stand e served kept.0 (subst (λ (k : ℕ). waiting_of k f.smb.state ≡ Some kept.0) grant.number kept.1) kept.2

-- ---- all turns

-- each of them
abbrev AllHave : Exports → Lists → List TurnTaken → Type 0
AllHave exports last ts = AllByRecursion (λ turn. HaveOpens exports last turn) ts

turns_have : (n : ℕ) (exports : Exports) (f : Fronts) (s : CoreState) → IsGood s → Stand s f.smb.state → AllHave exports (settled n exports f s).1.smb.state (turns n exports f s)
unfolding settled
turns_have n exports f s good stand =
    of_turns n exports (λ g t ts. IsGood t → Stand t g.smb.state → AllHave exports (turns_sent exports g t ts).1.smb.state ts) (λ g t h k. tt)
    (λ fuel g t u told e rest h k. (turn_has n fuel exports g t u told h k e, rest (all_shown_good exports g u told (turned_good n g t u told h e)) (shown_stand exports g u told (turn_tells n g t u told h e k)))) f s good stand

-- ---- a round

-- what each round keeps of the lists and the core
record Holds (f : Fronts) (s : CoreState) : Type 0 where
  ready : Ready f
  stand : Stand s f.smb.state
  tied : AreSmbTied s f.smb.state

-- the fronts at the end of an event's round, and the core
abbrev round_end : ℕ → Whole → Event → Sent
round_end n s event = let h = heard n s event in settled n s.exports h.1 h.2

round_holds : (n : ℕ) (s : Whole) (event : Event) → IsGood s.core → Holds s.front s.core → Holds (round_end n s event).1 (round_end n s event).2
round_holds n s event good holds =
    let h = heard n s event in
    record {
      ready = (round_sound n s event holds.ready.0 holds.ready.1, round_distinct n s event holds.ready.1);
      stand = settled_stand n s.exports h.1 h.2 (heard_good n s event good) (heard_stand n s event good holds.ready holds.stand);
      tied = round_tied n s event good holds.ready holds.stand holds.tied;
    }

-- a state with these fronts, in which each request of SMB that waits has its waiter
abbrev IsEnd : Fronts → Whole → Type 0
IsEnd f t = (t.front ≡ f) × IsAwaiting t

found_end : (s : Whole) → Holds s.front s.core → IsEnd s.front s
found_end s holds = (refl, record { awaits = holds.stand.awaits; keeps = holds.stand.keeps; tied = holds.tied })

round_serves : (n : ℕ) (s : Whole) (event : Event) (t : Whole) → IsGood s.core → Holds s.front s.core → IsEnd (round_end n s event).1 t → IsRoundServed n (round_of n s event) t
round_serves n s event t good holds end =
    let h = heard n s event in
    record {
      ordered = record { sound = holds.ready.0; distinct = holds.ready.1 };
      awaiting = end.1;
      granted = subst (λ (f : Fronts). AllHave s.exports f.smb.state (turns n s.exports h.1 h.2)) (sym end.0) (turns_have n s.exports h.1 h.2 (heard_good n s event good) (heard_stand n s event good holds.ready holds.stand));
      gone = gone_by n s event holds.ready.0;
    }

-- ---- rounds

-- from this on, these rounds lead there: what holds is kept, and what they leave is as it is to be
abbrev Leads : ℕ → Gone → List Round → Gone → Type 0
Leads n g rs h = Holds h.1 h.2 × ((t : Whole) → IsEnd h.1 t → AreServed n rs t × IsEnd g.1 (found_first rs t))

found_then : (rs qs : List Round) (t : Whole) → found_first (rs ++ qs) t ≡ found_first rs (found_first qs t)
found_then [] qs t = refl
found_then (r ∷ rs) qs t = refl

served_then : (n : ℕ) (rs qs : List Round) (t : Whole) → AreServed n rs (found_first qs t) → AreServed n qs t → AreServed n (rs ++ qs) t
served_then n [] qs t first later = later
served_then n (r ∷ rs) qs t first later = (subst (λ (x : Whole). IsRoundServed n r x) (sym (found_then rs qs t)) first.0, served_then n rs qs t first.1 later)

leads_then : (n : ℕ) (g h k : Gone) (rs qs : List Round) → Leads n g rs h → Leads n h qs k → Leads n g (rs ++ qs) k
leads_then n g h k rs qs first later = (
  later.0,
  λ t end.
      let behind = later.1 t end in
      let front = first.1 (found_first qs t) behind.1 in
      (served_then n rs qs t front.0 behind.0, subst (λ (x : Whole). IsEnd g.1 x) (sym (found_then rs qs t)) front.1),
)

-- one round
round_leads : (n : ℕ) (s : Whole) (event : Event) (g h : Gone) → g.1 ≡ s.front → h.1 ≡ (round_end n s event).1 → h.2 ≡ (round_end n s event).2 → IsGood s.core → Holds s.front s.core → Leads n g (round_of n s event ∷ []) h
round_leads n s event g h begins front core good holds = (
  subst (λ (u : CoreState). Holds h.1 u) (sym core) (subst (λ (f : Fronts). Holds f (round_end n s event).2) (sym front) (round_holds n s event good holds)),
  λ t end. ((round_serves n s event t good holds (end.0 ∙ front, end.1), tt), (sym begins, (found_end s holds).1)),
)

part_leads : (n : ℕ) (at : Ground) (g : Gone) (f : Frame) (message : List ℕ) (smb : Bool) → IsGood g.2 → Holds g.1 g.2 → Leads n g (done_round n at g f.conn message smb) (part_done n at g f message smb)
part_leads n at g f message true good holds = round_leads n (found_in at g.1 g.2) (Message f.conn message) g (part_done n at g f message true) refl refl refl good holds
part_leads n at g f message false good holds = (holds, λ t end. (tt, end))

step_leads : (n : ℕ) (at : Ground) (g : Gone) (f : Frame) (way : Step) → IsGood g.2 → Holds g.1 g.2 → Leads n g (step_round n at g f way) (gone_on n at g f way)
step_leads n at g f next.Ends good holds = (holds, λ t end. (tt, end))
step_leads n at g f (next.Replied reply) good holds = (holds, λ t end. (tt, end))
step_leads n at g f (next.Asked message) good holds = part_leads n at g f message (is_smb (kind_of at.1 f.conn)) good holds

top_leads : (n : ℕ) (at : Ground) (g : Gone) → IsGood g.2 → Holds g.1 g.2 → Leads n g (top_round n at g (popped g.0.stack).0) (gone_further n at g)
unfolding gone_further
top_leads n at g good holds = by (popped g.0.stack) where
  by : (p : Option Frame × List Frame) → Leads n g (top_round n at g p.0) (advanced_by n at g p)
  by (None, rest) = (holds, λ t end. (tt, end))
  by (Some f, rest) = step_leads n at (record g.0 { stack = rest }, g.1, g.2) f (next_step f) good holds

steps_lead : (fuel n : ℕ) (at : Ground) (g : Gone) → IsGood g.2 → Holds g.1 g.2 → Leads n g (rounds_for fuel n at g) (advanced_for fuel n at g)
steps_lead zero n at g good holds = (holds, λ t end. (tt, end))
steps_lead (suc fuel) n at g good holds =
    let h = gone_further n at g in
    let first = top_leads n at g good holds in
    leads_then n g h (advanced_for fuel n at h) (top_round n at g (popped g.0.stack).0) (rounds_for fuel n at h) first (steps_lead fuel n at h (further_good n at g good) first.0)

-- what the entry begins from
abbrev begins_from : Whole → Gone
begins_from s = (record { paused = s.paused; stack = []; outs = [] }, s.front, s.core)

begun_leads : (n : ℕ) (s : Whole) (event : Event) → IsGood s.core → Holds s.front s.core → Leads n (begins_from s) (first_round n s event) (frames_begun n s event)
unfolding frames_begun
begun_leads n s event good holds = by (brings_frame s.connections event) where
  by : (brings : Bool) → Leads n (begins_from s) (first_by n s event brings) (begun_by n s event brings)
  by true = (holds, λ t end. (tt, end))
  by false = round_leads n s event (begins_from s) (begun_by n s event false) refl refl refl good holds

gone_leads : (n : ℕ) (s : Whole) (event : Event) → IsGood s.core → Holds s.front s.core → Leads n (begins_from s) (rounds_by n s event (is_plain s event)) (gone n s event)
unfolding gone heard_in run
gone_leads n s event good holds = by (is_plain s event) where
  by : (plain : Bool) → Leads n (begins_from s) (rounds_by n s event plain) (machine.gone_by n s event plain)
  by true = round_leads n s event (begins_from s) (machine.gone_by n s event true) refl refl refl good holds
  by false =
      let at : Ground = (s.exports, s.connections) in
      let g = frames_begun n s event in
      let first = begun_leads n s event good holds in
      leads_then n (begins_from s) g (advanced_for (steps_left g.0) n at g) (first_round n s event) (rounds_for (steps_left g.0) n at g) first (steps_lead (steps_left g.0) n at g (frames_good n s event good) first.0)

-- ---- a step

-- what an entry finds
found_holds : (s : Whole) → Ready s.front → IsAwaiting s → Holds s.front (step_begun s.core)
found_holds s ready awaiting = record { ready = ready; stand = stand_of s ready awaiting; tied = found_tied s.core s.front.smb.state awaiting.tied }

entry_leads : (n : ℕ) (s : Whole) (event : Event) → IsFree s → Ready s.front → IsAwaiting s → Leads n (begins_from (as_found s)) (rounds_by n (as_found s) event (is_plain s event)) (gone n (as_found s) event)
entry_leads n s event free ready awaiting = gone_leads n (as_found s) event (begun_good s.core free.good) (found_holds s ready awaiting)

turn_waits : (s : Whole) (connections : List Connection) (g : Gone) → Holds g.1 g.2 → IsAwaiting (machine.turn_of s connections g).next
turn_waits s connections g holds =
    let is = same_stand g.2 (step_begun g.2) g.1.smb.state (begun_waits g.2) holds.stand in
    record { awaits = is.awaits; keeps = is.keeps; tied = found_tied g.2 g.1.smb.state holds.tied }

restart_waits : (n : ℕ) (s : Whole) → IsAwaiting (step n s Restart).next
unfolding step
restart_waits n s = record { awaits = tt; keeps = tt; tied = start_tied (step n s Restart).next.core }

step_waits : (n : ℕ) (s : Whole) (event : Event) → is_restart event ≡ false → IsFree s → Ready s.front → IsAwaiting s → IsAwaiting (step n s event).next
step_waits n s event other free ready awaiting =
    subst (λ (x : Turn). IsAwaiting x.next) (sym (step_is n s event other)) (turn_waits s (connected s.connections s.place event) (gone n (as_found s) event) (entry_leads n s event free ready awaiting).0)

pub step_awaits : (n : ℕ) (s : Whole) (event : Event) → IsFree s → Ready s.front → IsAwaiting s → IsAwaiting (step n s event).next
step_awaits n s event free ready awaiting = each_event (λ e. IsAwaiting (step n s e).next) (λ e other. step_waits n s e other free ready awaiting) (restart_waits n s) event

step_grants : (n : ℕ) (s : Whole) (event : Event) → is_restart event ≡ false → IsFree s → Ready s.front → IsAwaiting s → AreServed n (rounds n s event) (step n s event).next
step_grants n s event other free ready awaiting =
    let g = gone n (as_found s) event in
    let cs = connected s.connections s.place event in
    let leads = entry_leads n s event free ready awaiting in
    subst (λ (rs : List Round). AreServed n rs (step n s event).next) (sym (rounds_are n s event other))
    (subst (λ (x : Turn). AreServed n (rounds_by n (as_found s) event (is_plain s event)) x.next) (sym (step_is n s event other)) (leads.1 (machine.turn_of s cs g).next (refl, turn_waits s cs g leads.0)).0)

no_rounds : (n : ℕ) (s t : Whole) → AreServed n (rounds n s Restart) t
unfolding rounds
no_rounds n s t = tt

pub step_serves : (n : ℕ) (s : Whole) (event : Event) → IsFree s → Ready s.front → IsAwaiting s → IsServedBy n s event (step n s event).next
step_serves n s event free ready awaiting = (
  step_awaits n s event free ready awaiting,
  each_event (λ e. AreServed n (rounds n s e) (step n s e).next) (λ e other. step_grants n s e other free ready awaiting) (no_rounds n s (step n s Restart).next) event,
  record { sound = ready.0; distinct = ready.1 },
)

-- at a start nobody waits
pub begin_awaits : (head : Head) → IsAwaiting (start_of head)
begin_awaits head = record { awaits = tt; keeps = tt; tied = start_tied (start_of head).core }

-- ---- journals

-- a law that holds of each entry, and of one more
pub always_more : (law : Law) (s : Whole) (es : List Entry) (e : Entry) → Always law s es → law e.stores (replay s es) e (step e.stores (replay s es) e.event).next → Always law s (es ++ e ∷ [])
always_more law s [] e always more = (more, tt)
always_more law s (x ∷ es) e always more = (always.0, always_more law (step x.stores s x.event).next es e always.1 more)
