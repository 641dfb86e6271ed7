-- No out to a connection before its opening or after its end.
use Rattle.std.proofs.Common.{◌≡◌, ℕ, zero, suc, Bool, true, false, not, eqb, ltb, inl, inr, Option, Some, None, List, [], ◌∷◌, ◌++◌, length, map, refl, sym, ap, subst, ◌∙◌, arith}
use Rattle.std.proofs.lemmas.Bool.{and_parts, cases_Bool, eqb-true, true≢false}
use Rattle.std.proofs.lemmas.Bool.Decides.{nat_tests}
use Rattle.std.specs.Prelude.{nat_lt, if◌then◌else◌, option_map}
use Rattle.std.specs.List.{AllByRecursion, filter, find}
use Rattle.xl_base.proofs.Members.{all_append, all_weaker, in_append_left, in_filter_from}
use Rattle.xl_base.specs.Lists.{IsIn}
use Rattle.xl_base.specs.declared.event.Event.{Event}
use Rattle.xl_base.specs.declared.event.Dest.{Dest}
use Rattle.xl_base.specs.declared.event.Dest.TheVariants.{Conn, Back}
use Rattle.xl_base.specs.declared.event.Event.TheVariants.{Open, Message, End, Restart}
use Rattle.xl_base.specs.declared.event.Kind.{Kind}
use Rattle.xl_base.specs.declared.event.Kind.TheVariants.{Rpc, Smb}
use Rattle.xl_base.specs.declared.event.Out.{Out}
use Rattle.xl_base.specs.declared.journal.Entry.{Entry}
use Rattle.xl_base.specs.declared.journal.Exports.{Exports}
use Rattle.xl_base.specs.declared.name.Protocol.{Protocol}
use Rattle.xl_base.specs.declared.name.Protocol.TheVariants as protocols
use Rattle.xl_base.specs.declared.journal.Head.{Head}
use Rattle.xl_matrix.specs.declared.claim.Claim.{Claim}
use Rattle.xl_programs.specs.Programs.{RequestItem, IncomingItem, Unanswered, Refused, Asked, incoming_at}
use Rattle.xl_programs.specs.declared.program.Program.{Program}
use Rattle.xl_programs.specs.declared.program.Program.TheVariants.{Nlm, Nfs}
use Rattle.xl_core.specs.State.{CoreState}
use Rattle.xl_core.specs.Told.{told_to}
use Rattle.xl_core.specs.declared.ask.Effect.{Effect}
use Rattle.xl_core.specs.declared.ask.Effect.TheVariants.{Begun, Served, Cancelled, Expired}
use Rattle.xl_nfs_laws.proofs.RequestDeedLaws as nfs
use Rattle.xl_front_nfs.specs.Recalls.{client_by, recall_out, recalled_as, recalled_from, recalls}
use Rattle.xl_front_nfs.specs.State.{FrontNfs}
use Rattle.xl_nfs_state.specs.State.{NfsLists, delegated_on}
use Rattle.xl_nfs_state.specs.declared.client.ClientRow.{ClientRow}
use Rattle.xl_nfs_state.specs.declared.stateid.StateidRow.{StateidRow}
use Rattle.xl_core.specs.BreakAnswers.{client_of}
use Rattle.xl_front_nlm.proofs.DoesLaws as nlm
use Rattle.xl_front_nlm.specs.Grants.{news, told_by, shown}
use Rattle.xl_front_nlm.specs.State.{FrontState}
use Rattle.xl_front_smb.specs.FrontSmb.{smb_shown, smb_step}
use Rattle.xl_smb_laws.proofs.WaitConnectionLaws as smb_waits
use Rattle.xl_house.specs.declared.layers.Fronts.{Fronts}
use Rattle.xl_front_nlm.specs.declared.grant.Grant.{Grant}
use Rattle.xl_house.proofs.MachineLaws.{next_place}
use Rattle.xl_house.proofs.TurnLaws.{of_turns}
use Rattle.xl_house.specs.Journals.{is_restart, IsLegal, IsOrderly, IsTimely, opened_after}
use Rattle.xl_house.specs.Machine as machine
use Rattle.xl_house.specs.Machine.{Gone, Ground, advanced_by, advanced_for, after_hearing, after_part, connected, found_in, frame_in, frames_begun, gone, gone_by, gone_further, gone_on, heard, heard_in, is_plain, part_done, part_heard, paused_after, replied_by, run, sent_of, settled_in, step, steps_left}
use Rattle.xl_house.specs.Sifting.{brings_frame, is_smb, last_apart, popped, sifted}
use Rattle.xl_smb_state.specs.State.{is_empty}
use Rattle.xl_smb_frames.specs.Frames.{frame_sent, is_alone}
use Rattle.xl_smb_frames.specs.Steps.{next_step}
use Rattle.xl_smb_frames.specs.declared.frame.Frame.{Frame}
use Rattle.xl_smb_frames.specs.declared.frame.Paused.{Paused}
use Rattle.xl_smb_frames.specs.declared.steps.Step.{Step}
use Rattle.xl_smb_frames.specs.declared.steps.Step.TheVariants as next
use Rattle.xl_house.proofs.GoingLaws as going
use Rattle.xl_house.specs.Own.{Given, begun_by, begun, program_own, record_own, message_own, end_own, own_of}
use Rattle.xl_house.specs.State.{Whole, start_of, with_connection, without, kind_of, as_found, nfs_opens, smb_opens, most_connections}
use Rattle.xl_house.specs.Telling.{Sent, framed_by, framed_to, framed, shown_by, showing, all_shown, taken, turns_sent, settled}
use Rattle.xl_house.specs.declared.connections.Connection.{Connection}

abbrev numbers : List Connection → List ℕ
numbers cs = map (λ (c : Connection). c.number) cs

abbrev AreTimely : List ℕ → List ℕ → List Out → Type 0
AreTimely before after outs = AllByRecursion (λ o. IsTimely before after o.dest) outs

timely_append : (before after : List ℕ) (xs ys : List Out) → AreTimely before after xs → AreTimely before after ys → AreTimely before after (xs ++ ys)
timely_append before after xs ys front back = all_append (λ o. IsTimely before after o.dest) xs ys front back

-- ---- requests of SMB wait, and opens are held, on connections of SMB that are open

-- the connections that are open, and speak SMB
abbrev pub IsOpen : List Connection → ℕ → Type 0
IsOpen cs number = kind_of cs number ≡ Some Smb

-- what is sent goes to such connections
abbrev GoOn : List Connection → List Out → Type 0
GoOn cs outs = AllByRecursion (λ o. smb_waits.GoesTo (IsOpen cs) o.dest) outs

-- an opened connection that is found is among these
found : (cs : List Connection) (number : ℕ) (kind : Kind) → kind_of cs number ≡ Some kind → IsIn number (numbers cs)
unfolding kind_of
found [] number kind e = absurd cc
found (c ∷ cs) number kind e =
    elim (cases_Bool (eqb c.number number)) [
      | inl same ↦ inl (eqb-true c.number number same)
      | inr other ↦ inr (found cs number kind (rw other at e))
    ]

goes_timely : (cs : List Connection) (d : Dest) → smb_waits.GoesTo (IsOpen cs) d → IsTimely (numbers cs) (numbers cs) d
goes_timely cs (Conn number) goes = (found cs number Smb goes, found cs number Smb goes)
goes_timely cs (Back call) goes = tt

finals_timely : (cs : List Connection) (outs : List Out) → GoOn cs outs → AreTimely (numbers cs) (numbers cs) outs
finals_timely cs outs go = all_weaker (λ o. smb_waits.GoesTo (IsOpen cs) o.dest) (λ o. IsTimely (numbers cs) (numbers cs) o.dest) outs (λ o goes. goes_timely cs o.dest goes) go

-- a frame leaves where an out goes to
same_dest : (kind : Kind) (o : Out) → (framed kind o).dest ≡ o.dest
same_dest kind o = by o.dest refl where
  by : (d : Dest) → o.dest ≡ d → (framed_to kind o d).dest ≡ o.dest
  by (Conn number) is = sym is
  by (Back call) is = refl

framed_timely : (before after : List ℕ) (kind : Kind) (outs : List Out) → AreTimely before after outs → AreTimely before after (map (framed kind) outs)
framed_timely before after kind [] timely = tt
framed_timely before after kind (o ∷ os) timely = (subst (λ (d : Dest). IsTimely before after d) (sym (same_dest kind o)) timely.0, framed_timely before after kind os timely.1)

replies_timely : (before after : List ℕ) (kind : Option Kind) (outs : List Out) → AreTimely before after outs → AreTimely before after (framed_by kind outs)
replies_timely before after None outs timely = timely
replies_timely before after (Some kind) outs timely = framed_timely before after kind outs timely

-- ---- what is shown are calls, notices to who holds opens, and final replies to requests that wait

by_news : (before after : List ℕ) (f : FrontState) (s : CoreState) (o : Option (Claim × Grant × List ℕ)) → AreTimely before after (map (framed Rpc) (told_by f s o).0)
by_news before after f s None = tt
by_news before after f s (Some told) = (tt, tt)

abbrev pub Waits : List Connection → Fronts → Type 0
Waits cs f = smb_waits.IsOn (IsOpen cs) f.smb.state

-- recalls are calls
called_timely : (before after : List ℕ) (s : CoreState) (number file : ℕ) (c : ClientRow) (o : Option StateidRow) → AreTimely before after (map (framed Rpc) (recalled_as s number file c o))
called_timely before after s number file c None = tt
called_timely before after s number file c (Some r) = by (nat_lt r.number number) where
  by : (b : Bool) → AreTimely before after (map (framed Rpc) (if b then recall_out s number file c r ∷ [] else []))
  by true = (tt, tt)
  by false = tt

recalled_timely : (before after : List ℕ) (s : CoreState) (l : NfsLists) (number file : ℕ) (o : Option ClientRow) → AreTimely before after (map (framed Rpc) (recalled_from s l number file o))
recalled_timely before after s l number file None = tt
recalled_timely before after s l number file (Some c) = called_timely before after s number file c (find (delegated_on c.number file) l.stateids)

recalls_timely : (before after : List ℕ) (f : FrontNfs) (s : CoreState) (effect : Effect) → AreTimely before after (map (framed Rpc) (recalls f s effect))
unfolding recalls
recalls_timely before after f s (Begun cache to (Some number)) = recalled_timely before after s f.state number cache.file (client_by f.state (client_of s.names cache.party))
recalls_timely before after f s (Begun cache to None) = tt
recalls_timely before after f s (Served party id answer) = tt
recalls_timely before after f s (Cancelled party id) = tt
recalls_timely before after f s (Expired client) = tt

by_timely : (cs : List Connection) (exports : Exports) (f : Fronts) (s : CoreState) (effect : Effect) (p : Protocol) → Waits cs f → AreTimely (numbers cs) (numbers cs) (shown_by exports f s effect p).0 × Waits cs (shown_by exports f s effect p).1
unfolding shown
by_timely cs exports f s effect protocols.Nlm waits = (by_news (numbers cs) (numbers cs) f.nlm s (news exports s effect), waits)
by_timely cs exports f s effect protocols.Nfs waits = (recalls_timely (numbers cs) (numbers cs) f.nfs s effect, waits)
by_timely cs exports f s effect protocols.Smb waits =
    let told = smb_waits.shown_on (IsOpen cs) f.smb s effect waits in
    (framed_timely (numbers cs) (numbers cs) Smb (smb_shown f.smb s effect).0 (finals_timely cs (smb_shown f.smb s effect).0 told.0), told.1)

shown_timely : (cs : List Connection) (exports : Exports) (f : Fronts) (s : CoreState) (effect : Effect) → Waits cs f → AreTimely (numbers cs) (numbers cs) (showing exports f s effect).0 × Waits cs (showing exports f s effect).1
shown_timely cs exports f s effect waits = by_timely cs exports f s effect (told_to effect) waits

all_timely : (cs : List Connection) (exports : Exports) (f : Fronts) (s : CoreState) (effects : List Effect) → Waits cs f → AreTimely (numbers cs) (numbers cs) (all_shown exports f s effects).0 × Waits cs (all_shown exports f s effects).1
all_timely cs exports f s [] waits = (tt, waits)
all_timely cs exports f s (effect ∷ effects) waits =
    let r = showing exports f s effect in
    let first = shown_timely cs exports f s effect waits in
    let rest = all_timely cs exports r.1 r.2 effects first.1 in
    (timely_append (numbers cs) (numbers cs) r.0 (all_shown exports r.1 r.2 effects).0 first.0 rest.0, rest.1)

-- so is what settling sends
abbrev IsTimelySent : List Connection → Sent → Type 0
IsTimelySent cs r = AreTimely (numbers cs) (numbers cs) r.0 × Waits cs r.1

settled_timely : (n : ℕ) (cs : List Connection) (exports : Exports) (f : Fronts) (s : CoreState) → Waits cs f → IsTimelySent cs (settled n exports f s)
unfolding settled
settled_timely n cs exports f s waits =
    of_turns n exports (λ g t ts. Waits cs g → IsTimelySent cs (turns_sent exports g t ts)) (λ g t on. (tt, on))
    (λ fuel g t u told e rest on.
    let done = all_shown exports g u told in
    let first = all_timely cs exports g u told on in
    let next = rest first.1 in
    (timely_append (numbers cs) (numbers cs) done.0 (turns_sent exports done.1 done.2 (taken fuel n exports done.1 done.2)).0 first.0 next.0, next.1))
    f s waits

-- ---- an event

-- what an event gave of itself: its replies, and who waits then
abbrev IsTimelyGiven : List Connection → Given → Type 0
IsTimelyGiven cs g = AreTimely (numbers cs) (numbers cs) g.0 × Waits cs g.2

-- the replies are sent behind what is shown
given_timely : (cs : List Connection) (exports : Exports) (kind : Option Kind) (g : Given) → IsTimelyGiven cs g → IsTimelySent cs (sent_of exports kind g)
given_timely cs exports kind g given =
    let told = all_timely cs exports g.2 g.3 g.1 given.1 in
    (timely_append (numbers cs) (numbers cs) (all_shown exports g.2 g.3 g.1).0 (framed_by kind g.0) told.0 (replies_timely (numbers cs) (numbers cs) kind g.0 given.0), told.1)

program_timely : (n : ℕ) (cs : List Connection) (exports : Exports) (f : Fronts) (s : CoreState) (number : ℕ) (r : RequestItem) (program : Program) → IsIn number (numbers cs) → Waits cs f → IsTimelyGiven cs (program_own n exports f s number r program).given
program_timely n cs exports f s number r Nlm there waits = (subst (λ (outs : List Out). AreTimely (numbers cs) (numbers cs) outs) (sym (nlm.step_replies n exports f.nlm s number r)) ((there, there), tt), waits)
program_timely n cs exports f s number r Nfs there waits =
    (subst (λ (outs : List Out). AreTimely (numbers cs) (numbers cs) outs) (sym (nfs.request_replies n exports (smb_opens f) f.nfs s number r)) ((there, there), tt), waits)

record_timely : (n : ℕ) (cs : List Connection) (exports : Exports) (f : Fronts) (s : CoreState) (number : ℕ) (incoming : IncomingItem) → IsIn number (numbers cs) → Waits cs f → IsTimelyGiven cs (record_own n exports f s number incoming).given
record_timely n cs exports f s number Unanswered there waits = (tt, waits)
record_timely n cs exports f s number (Refused xid verdict) there waits = (((there, there), tt), waits)
record_timely n cs exports f s number (Asked r) there waits = program_timely n cs exports f s number r r.program there waits

message_timely : (n : ℕ) (exports : Exports) (f : Fronts) (s : CoreState) (cs : List Connection) (number : ℕ) (bytes : List ℕ) (kind : Option Kind) → kind_of cs number ≡ kind → Waits cs f → IsTimelyGiven cs (message_own n exports f s kind number bytes).given
message_timely n exports f s cs number bytes None e waits = (tt, waits)
message_timely n exports f s cs number bytes (Some Smb) e waits =
    let heard = smb_waits.step_on (IsOpen cs) n exports (nfs_opens f) f.smb s number bytes e waits in
    (finals_timely cs (smb_step n exports (nfs_opens f) f.smb s number bytes).0 heard.0, heard.1)
message_timely n exports f s cs number bytes (Some Rpc) e waits = record_timely n cs exports f s number (incoming_at bytes) (found cs number Rpc e) waits

-- the other connections stay open where one ends
stays_open : (cs : List Connection) (number other : ℕ) → eqb other number ≡ false → IsOpen cs other → IsOpen (without cs number) other
unfolding kind_of without
stays_open [] number other apart e = e
stays_open (c ∷ cs) number other apart e =
    elim (cases_Bool (eqb c.number number)) [
      | inl gone ↦ rw gone (stays_open cs number other apart (not_this (eqb c.number other) (differs c.number number other gone apart) e))
      | inr here ↦ rw here (elim (cases_Bool (eqb c.number other)) [
        | inl is ↦ rw is (rw is at e)
        | inr isnt ↦ rw isnt (stays_open cs number other apart (rw isnt at e))
      ])
    ] where
      differs : (a b c : ℕ) → eqb a b ≡ true → eqb c b ≡ false → eqb a c ≡ false
      differs a b c same apart = grind (arith, nat_tests)

      not_this : (b : Bool) → b ≡ false → option_map (λ (x : Connection). x.kind) (if b then Some c else find (λ (x : Connection). eqb x.number other) cs) ≡ Some Smb → option_map (λ (x : Connection). x.kind) (find (λ (x : Connection). eqb x.number other) cs) ≡ Some Smb
      not_this true isnt e = absurd (true≢false isnt)
      not_this false isnt e = e

-- and where one more opens
still_open : (cs : List Connection) (place : ℕ) (kind : Kind) (other : ℕ) → IsOpen cs other → IsOpen (with_connection cs place kind) other
unfolding kind_of with_connection
still_open cs place kind other e = by (ltb (length cs) most_connections) where
  behind_all : (ds : List Connection) (d : Connection) → option_map (λ (x : Connection). x.kind) (find (λ (x : Connection). eqb x.number other) ds) ≡ Some Smb → option_map (λ (x : Connection). x.kind) (find (λ (x : Connection). eqb x.number other) (ds ++ d ∷ [])) ≡ Some Smb
  behind_all [] d e = absurd cc
  behind_all (c ∷ ds) d e = elim (cases_Bool (eqb c.number other)) [ inl is ↦ rw is (rw is at e) | inr isnt ↦ rw isnt (behind_all ds d (rw isnt at e)) ]

  by : (room : Bool) → option_map (λ (x : Connection). x.kind) (find (λ (x : Connection). eqb x.number other) (if room then cs ++ record { number = place; kind = kind } ∷ [] else cs)) ≡ Some Smb
  by true = behind_all cs (record { number = place; kind = kind }) e
  by false = e

two_kinds : (cs : List Connection) (number other : ℕ) (kind : Option Kind) → kind_of cs number ≡ kind → (kind ≡ Some Smb → ⊥) → IsOpen cs other → eqb other number ≡ false
two_kinds cs number other kind e apart there = by (eqb other number) refl where
  by : (b : Bool) → eqb other number ≡ b → b ≡ false
  by true same = absurd (apart (sym e ∙ ap (kind_of cs) (sym (eqb-true other number same)) ∙ there))
  by false other = refl

-- an opening brings no request, and no open
begun_on : (ks : List Connection) (f : Fronts) (cs : List Connection) (place : ℕ) (kind : Kind) → Waits ks f → Waits ks (begun f cs place kind)
begun_on ks f cs place kind waits = by (ltb (length cs) most_connections) kind where
  by : (room : Bool) (k : Kind) → Waits ks (if room then begun_by f place k else f)
  by false k = waits
  by true Rpc = waits
  by true Smb = smb_waits.begin_on (IsOpen ks) f.smb place waits

-- where no connection of SMB ends, all stay
others_on : (cs : List Connection) (f : Fronts) (number : ℕ) (kind : Option Kind) → kind_of cs number ≡ kind → (kind ≡ Some Smb → ⊥) → Waits cs f → Waits (without cs number) f
others_on cs f number kind e apart waits =
    smb_waits.on_weaker (IsOpen cs) (IsOpen (without cs number)) f.smb.state (λ other on. stays_open cs number other (two_kinds cs number other kind e apart on) on) waits

-- what an end leaves waits and is held on connections that stay open
ended_on : (cs : List Connection) (f : Fronts) (s : CoreState) (number : ℕ) (kind : Option Kind) → kind_of cs number ≡ kind → Waits cs f → IsTimelyGiven (without cs number) (end_own f s kind number).given
ended_on cs f s number None e waits = (tt, others_on cs f number None e (λ h. no_kind h) waits) where
  no_kind : None ≡ Some Smb → ⊥
  no_kind h = cc
ended_on cs f s number (Some Rpc) e waits = (tt, others_on cs f number (Some Rpc) e (λ h. other_kind h) waits) where
  other_kind : Some Rpc ≡ Some Smb → ⊥
  other_kind h = cc
ended_on cs f s number (Some Smb) e waits = (tt, smb_waits.end_on (IsOpen cs) (IsOpen (without cs number)) number (λ other apart on. stays_open cs number other apart on) f.smb s waits)

-- the connections that are open before the event and after it
abbrev both_open : List Connection → Event → List Connection
both_open cs (End number) = without cs number
both_open cs event = cs

event_timely : (n : ℕ) (s : Whole) (e : Event) → Waits s.connections s.front → IsTimelyGiven (both_open s.connections e) (own_of n s e).given
event_timely n s (Open kind) waits = (tt, begun_on s.connections s.front s.connections s.place kind waits)
event_timely n s (Message number bytes) waits = message_timely n s.exports s.front s.core s.connections number bytes (kind_of s.connections number) refl waits
event_timely n s (End number) waits = ended_on s.connections s.front s.core number (kind_of s.connections number) refl waits
event_timely n s event waits = (tt, waits)

heard_timely : (n : ℕ) (s : Whole) (e : Event) → Waits s.connections s.front → IsTimelySent (both_open s.connections e) (heard n s e)
unfolding heard
heard_timely n s e waits = given_timely (both_open s.connections e) s.exports (replied_by s e) (own_of n s e).given (event_timely n s e waits)

-- ---- which are opened

map_append : (cs : List Connection) (c : Connection) → numbers (cs ++ c ∷ []) ≡ numbers cs ++ c.number ∷ []
map_append [] c = refl
map_append (d ∷ ds) c = ap (λ (ns : List ℕ). d.number ∷ ns) (map_append ds c)

length_is : (cs : List Connection) → length (numbers cs) ≡ length cs
length_is [] = refl
length_is (c ∷ cs) = ap suc (length_is cs)

opened_is : (cs : List Connection) (place : ℕ) (kind : Kind) → numbers (with_connection cs place kind) ≡ opened_after (numbers cs) place (Open kind)
unfolding with_connection
opened_is cs place kind =
    let same : ltb (length (numbers cs)) most_connections ≡ ltb (length cs) most_connections = ap (λ m. ltb m most_connections) (length_is cs) in
    elim (cases_Bool (ltb (length cs) most_connections)) [
      | inl room ↦ rw (room, same ∙ room) (map_append cs (record { number = place; kind = kind }))
      | inr full ↦ rw (full, same ∙ full) refl
    ]

left_is : (cs : List Connection) (number : ℕ) → numbers (without cs number) ≡ filter (λ c. not (eqb c number)) (numbers cs)
unfolding without
left_is [] number = refl
left_is (c ∷ cs) number =
    elim (cases_Bool (eqb c.number number)) [
      | inl same ↦ rw same (left_is cs number)
      | inr other ↦ rw other (ap (λ (ns : List ℕ). c.number ∷ ns) (left_is cs number))
    ]

open_is : (n : ℕ) (s : Whole) (e : Event) → numbers (step n s e).next.connections ≡ opened_after (numbers s.connections) s.place e
unfolding step connected
open_is n s (Open kind) = opened_is s.connections s.place kind
open_is n s (End number) = left_is s.connections number
open_is n s event = refl

-- ---- no out before an opening or after an end

stays_in : (opened : List ℕ) (place number : ℕ) (room : Bool) → IsIn number opened → IsIn number (if room then opened ++ place ∷ [] else opened)
stays_in opened place number true there = in_append_left number opened (place ∷ []) there
stays_in opened place number false there = there

-- what is open before and after is open before, and after
in_both : (cs : List Connection) (place : ℕ) (e : Event) (number : ℕ) → is_restart e ≡ false → IsIn number (numbers (both_open cs e)) → IsIn number (numbers cs) × IsIn number (opened_after (numbers cs) place e)
in_both cs place (Open kind) number other there = (there, stays_in (numbers cs) place number (ltb (length (numbers cs)) most_connections) there)
in_both cs place (End ended) number other there =
    let left = subst (λ (ns : List ℕ). IsIn number ns) (left_is cs ended) there in
    ((in_filter_from (λ c. not (eqb c ended)) number (numbers cs) left).0, left)
in_both cs place Restart number other there = absurd cc
in_both cs place event number other there = (there, there)

abbrev Timely : List ℕ → List ℕ → Out → Type 0
Timely before after o = IsTimely before after o.dest

dest_both : (cs : List Connection) (place : ℕ) (e : Event) (d : Dest) → is_restart e ≡ false → IsTimely (numbers (both_open cs e)) (numbers (both_open cs e)) d → IsTimely (numbers cs) (opened_after (numbers cs) place e) d
dest_both cs place e (Conn number) other there = in_both cs place e number other there.0
dest_both cs place e (Back call) other there = tt

-- ---- frames that go on

-- what waits in frames came by connections that are open, and so did the frames
abbrev pub ArePausedOn : List Connection → List Paused → Type 0
ArePausedOn cs ps = AllByRecursion (λ p. IsOpen cs p.conn) ps

abbrev Goes : List Connection → Dest → Type 0
Goes cs d = IsTimely (numbers cs) (numbers cs) d

both_found : (cs : List Connection) (conn : ℕ) → IsOpen cs conn → Goes cs (Conn conn)
both_found cs conn there = (found cs conn Smb there, found cs conn Smb there)

abbrev IsGoing : List Connection → Gone → Type 0
IsGoing cs g = going.GoingOn (IsOpen cs) (Goes cs) (both_found cs) g.0 × Waits cs g.1

smb_kind : (kind : Option Kind) → is_smb kind ≡ true → kind ≡ Some Smb
smb_kind (Some Smb) is = refl
smb_kind (Some Rpc) is = absurd (true≢false (sym is))
smb_kind None is = absurd (true≢false (sym is))

-- a part of a frame, whose connection stays open
smb_timely : (n : ℕ) (cs : List Connection) (exports : Exports) (f : Fronts) (s : CoreState) (kind : Option Kind) (number : ℕ) (bytes : List ℕ) → is_smb kind ≡ true → IsOpen cs number → Waits cs f → IsTimelyGiven cs (message_own n exports f s kind number bytes).given
smb_timely n cs exports f s (Some Smb) number bytes is there waits =
    let heard = smb_waits.step_on (IsOpen cs) n exports (nfs_opens f) f.smb s number bytes there waits in
    (finals_timely cs (smb_step n exports (nfs_opens f) f.smb s number bytes).0 heard.0, heard.1)
smb_timely n cs exports f s (Some Rpc) number bytes is there waits = absurd (true≢false (sym is))
smb_timely n cs exports f s None number bytes is there waits = absurd (true≢false (sym is))

part_timely : (n : ℕ) (cs : List Connection) (at : Ground) (f : Fronts) (s : CoreState) (conn : ℕ) (message : List ℕ) → is_smb (kind_of at.1 conn) ≡ true → IsOpen cs conn → Waits cs f → IsTimelySent cs (part_heard n at f s conn message)
unfolding heard
part_timely n cs at f s conn message is there waits =
    let t = found_in at f s in
    given_timely cs at.0 (replied_by t (Message conn message)) (own_of n t (Message conn message)).given (smb_timely n cs at.0 f s (kind_of at.1 conn) conn message is there waits)

settled_going : (n : ℕ) (cs : List Connection) (exports : Exports) (g : Gone) → IsGoing cs g → IsGoing cs (settled_in n exports g)
settled_going n cs exports g on =
    let done = settled n exports g.1 g.2 in
    let sent = settled_timely n cs exports g.1 g.2 on.1 in
    (going.sorted_on (IsOpen cs) (Goes cs) (both_found cs) g.0 (sifted false g.0.paused done.0) on.0 (going.sifted_on (IsOpen cs) (Goes cs) (both_found cs) false g.0.paused done.0 on.0.paused sent.0), sent.1)

part_going : (n : ℕ) (cs : List Connection) (at : Ground) (g : Gone) (f : Frame) (message : List ℕ) (smb : Bool) → is_smb (kind_of at.1 f.conn) ≡ smb → IsGoing cs g → going.IsOn (IsOpen cs) (Goes cs) (both_found cs) f → IsGoing cs (part_done n at g f message smb)
part_going n cs at g f message true is on here =
    let done = part_heard n at g.1 g.2 f.conn message in
    let sent = part_timely n cs at g.1 g.2 f.conn message is here.0 on.1 in
    settled_going n cs at.0 (after_part g.0 f done)
    (going.part_on (IsOpen cs) (Goes cs) (both_found cs) g.0 f (last_apart done.0) on.0 here (going.all_last (λ (o : Out). Goes cs o.dest) done.0 sent.0).0, sent.1)
part_going n cs at g f message false is on here = (going.part_on (IsOpen cs) (Goes cs) (both_found cs) g.0 f ([], None) on.0 here tt, on.1)

step_going : (n : ℕ) (cs : List Connection) (at : Ground) (g : Gone) (f : Frame) (way : Step) → IsGoing cs g → going.IsOn (IsOpen cs) (Goes cs) (both_found cs) f → IsGoing cs (gone_on n at g f way)
step_going n cs at g f next.Ends on here = (
  record {
    paused = on.0.paused;
    stack = on.0.stack;
    outs = timely_append (numbers cs) (numbers cs) g.0.outs (map (framed Smb) (frame_sent f) ++ f.after) on.0.outs
        (timely_append (numbers cs) (numbers cs) (map (framed Smb) (frame_sent f)) f.after (going.sent_on (IsOpen cs) (Goes cs) (both_found cs) f here.0) here.1);
  },
  on.1,
)
step_going n cs at g f (next.Replied reply) on here =
    (record { paused = on.0.paused; stack = ((going.answered_on (IsOpen cs) (Goes cs) (both_found cs) f reply here).0, on.0.stack); outs = on.0.outs }, on.1)
step_going n cs at g f (next.Asked message) on here = part_going n cs at g f message (is_smb (kind_of at.1 f.conn)) refl on here

further_going : (n : ℕ) (cs : List Connection) (at : Ground) (g : Gone) → IsGoing cs g → IsGoing cs (gone_further n at g)
unfolding gone_further
further_going n cs at g on = by g.0.stack on.0.stack where
  by : (stack : List Frame) → going.AllOn (IsOpen cs) (Goes cs) (both_found cs) stack → IsGoing cs (advanced_by n at g (popped stack))
  by [] all = on
  by (f ∷ fs) all = step_going n cs at (record g.0 { stack = fs }, g.1, g.2) f (next_step f) (record { paused = on.0.paused; stack = all.1; outs = on.0.outs }, on.1) all.0

steps_going : (fuel n : ℕ) (cs : List Connection) (at : Ground) (g : Gone) → IsGoing cs g → IsGoing cs (advanced_for fuel n at g)
steps_going zero n cs at g on = on
steps_going (suc fuel) n cs at g on = steps_going fuel n cs at (gone_further n at g) (further_going n cs at g on)

-- what stands behind who waits stays, except on a connection that ends
paused_stays : (cs : List Connection) (e : Event) (ps : List Paused) → ArePausedOn cs ps → ArePausedOn (both_open cs e) (paused_after ps e)
paused_stays cs (End number) ps on = by ps on where
  by : (qs : List Paused) → ArePausedOn cs qs → ArePausedOn (without cs number) (filter (λ p. not (eqb p.conn number)) qs)
  by [] all = tt
  by (p ∷ qs) all =
      elim (cases_Bool (eqb p.conn number)) [
        | inl gone ↦ rw gone (by qs all.1)
        | inr stays ↦ rw stays (stays_open cs number p.conn stays all.0, by qs all.1)
      ]
paused_stays cs e ps on = on

brought_going : (n : ℕ) (s : Whole) (e : Event) → brings_frame s.connections e ≡ true → Waits s.connections s.front → ArePausedOn s.connections s.paused → IsGoing (both_open s.connections e) (frame_in s.paused e, s.front, s.core)
brought_going n s (Message number bytes) brings waits paused =
    let cs = s.connections in
    let there : IsOpen cs number = smb_kind (kind_of cs number) (and_parts (is_smb (kind_of cs number)) (not (is_alone bytes)) brings).0 in
    (record { paused = paused; stack = (going.opened_on (IsOpen cs) (Goes cs) (both_found cs) number bytes there, tt); outs = tt }, waits)
brought_going n s e brings waits paused = absurd (true≢false (sym brings))

heard_going : (n : ℕ) (s : Whole) (e : Event) → Waits s.connections s.front → ArePausedOn s.connections s.paused → IsGoing (both_open s.connections e) (settled_in n s.exports (after_hearing (paused_after s.paused e) (heard n s e)))
heard_going n s e waits paused =
    let cs = both_open s.connections e in
    let ps = paused_after s.paused e in
    let h = heard n s e in
    let sent = heard_timely n s e waits in
    let sift = going.sifted_on (IsOpen cs) (Goes cs) (both_found cs) true ps h.0 (paused_stays s.connections e s.paused paused) sent.0 in
    settled_going n cs s.exports (after_hearing ps h) (record { paused = sift.paused; stack = sift.woken; outs = sift.outs }, sent.1)

begun_going : (n : ℕ) (s : Whole) (e : Event) → Waits s.connections s.front → ArePausedOn s.connections s.paused → IsGoing (both_open s.connections e) (frames_begun n s e)
unfolding frames_begun
begun_going n s e waits paused = by (brings_frame s.connections e) refl where
  by : (brings : Bool) → brings_frame s.connections e ≡ brings → IsGoing (both_open s.connections e) (machine.begun_by n s e brings)
  by true is = brought_going n s e is waits paused
  by false is = heard_going n s e waits paused

-- where no frame goes on nothing stands behind anybody
plain_going : (n : ℕ) (s : Whole) (e : Event) → is_empty s.paused ≡ true → Waits s.connections s.front → IsGoing (both_open s.connections e) (gone_by n s e true)
plain_going n s e none waits =
    let cs = both_open s.connections e in
    let h = heard n s e in
    let last = settled n s.exports h.1 h.2 in
    let first = heard_timely n s e waits in
    let next = settled_timely n cs s.exports h.1 h.2 first.1 in
    (record { paused = nobody s.paused none; stack = tt; outs = timely_append (numbers cs) (numbers cs) h.0 last.0 first.0 next.0 }, next.1)
  where
    nobody : (ps : List Paused) → is_empty ps ≡ true → ArePausedOn (both_open s.connections e) ps
    nobody [] is = tt
    nobody (p ∷ ps) is = absurd (true≢false (sym is))

gone_going : (n : ℕ) (s : Whole) (e : Event) → Waits s.connections s.front → ArePausedOn s.connections s.paused → IsGoing (both_open s.connections e) (gone n s e)
unfolding gone heard_in run
gone_going n s e waits paused = by (is_plain s e) refl where
  by : (plain : Bool) → is_plain s e ≡ plain → IsGoing (both_open s.connections e) (gone_by n s e plain)
  by true is = plain_going n s e (and_parts (is_empty s.paused) (not (brings_frame s.connections e)) is).0 waits
  by false is = let g = frames_begun n s e in steps_going (steps_left g.0) n (both_open s.connections e) (s.exports, s.connections) g (begun_going n s e waits paused)

-- ---- a step

-- requests wait, and what stands behind them came, on connections of SMB that are open
abbrev pub Kept : Whole → Type 0
Kept s = Waits s.connections s.front × ArePausedOn s.connections s.paused

turn_timely : (n : ℕ) (s : Whole) (e : Event) → is_restart e ≡ false → Kept s
    → (let opened = numbers s.connections in let g = gone n (as_found s) e in
    AreTimely opened (opened_after opened s.place e) g.0.outs × Waits (both_open s.connections e) g.1 × ArePausedOn (both_open s.connections e) g.0.paused)
turn_timely n s e other kept =
    let opened = numbers s.connections in
    let cs = both_open s.connections e in
    let g = gone n (as_found s) e in
    let on = gone_going n (as_found s) e kept.0 kept.1 in (
      all_weaker (Timely (numbers cs) (numbers cs)) (Timely opened (opened_after opened s.place e)) g.0.outs (λ o go. dest_both s.connections s.place e o.dest other go) on.0.outs,
      on.1,
      on.0.paused,
    )

-- a step is timely, and leaves requests that wait on connections that are open then
timely : (n : ℕ) (s : Whole) (e : Event) → Kept s → (let opened = numbers s.connections in AreTimely opened (opened_after opened s.place e) (step n s e).outs) × Kept (step n s e).next
unfolding step connected
timely n s (Open kind) kept =
    let r = turn_timely n s (Open kind) refl kept in
    let g = gone n (as_found s) (Open kind) in
    let still = λ (other : ℕ) (on : IsOpen s.connections other). still_open s.connections s.place kind other on in
    (r.0, (smb_waits.on_weaker (IsOpen s.connections) (IsOpen (with_connection s.connections s.place kind)) _ still r.1, all_weaker (λ (p : Paused). IsOpen s.connections p.conn) (λ p. IsOpen (with_connection s.connections s.place kind) p.conn) g.0.paused (λ p on. still p.conn on) r.2))
timely n s Restart kept = (tt, (smb_waits.empty_on (IsOpen []), tt))
timely n s event kept = (let r = turn_timely n s event refl kept in (r.0, (r.1, r.2)))

pub kept_start : (head : Head) → Kept (start_of head)
kept_start head = (smb_waits.empty_on (IsOpen []), tt)

pub kept_next : (n : ℕ) (s : Whole) (e : Event) → Kept s → Kept (step n s e).next
kept_next n s e kept = (timely n s e kept).1

orderly : (s : Whole) (es : List Entry) → Kept s → IsLegal s es → IsOrderly (numbers s.connections) s.place es
orderly s [] kept legal = tt
orderly s (e ∷ es) kept legal =
    let next = (step e.stores s e.event).next in
    let opened = numbers s.connections in
    let now = timely e.stores s e.event kept in (
      subst (λ (outs : List Out). AreTimely opened (opened_after opened s.place e.event) outs) (sym legal.0.1) now.0,
      subst (λ p. IsOrderly (opened_after opened s.place e.event) p es) (next_place e.stores s e.event)
          (subst (λ (left : List ℕ). IsOrderly left next.place es) (open_is e.stores s e.event) (orderly next es now.1 legal.1)),
    )

-- a legal journal from a first start is orderly
pub legal_orderly : (head : Head) (es : List Entry) → IsLegal (start_of head) es → IsOrderly [] 0 es
legal_orderly head es legal = orderly (start_of head) es (kept_start head) legal
