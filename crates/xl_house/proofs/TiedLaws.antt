-- SMB's lists are tied to the core at each free moment.
use Rattle.std.proofs.Common.{◌≡◌, ℕ, ◌+◌, ◌-◌, ◌≤◌, Bool, true, false, if◌then◌else◌, List, [], ◌∷◌, ◌++◌, length, Option, Some, None, refl, sym, ap, subst, ◌∙◌, inl, inr, arith}
use Rattle.std.specs.Prelude.{◌⊎◌, nat_lt, IfSome}
use Rattle.std.specs.List.{AllByRecursion}
use Rattle.std.proofs.lemmas.Bool.{cases_Bool, true≢false}
use Rattle.xl_base.proofs.Members.{all_in, in_append_right}
use Rattle.xl_base.specs.Lists.{IsIn}
use Rattle.xl_base.specs.declared.event.Event.{Event}
use Rattle.xl_base.specs.declared.event.Event.TheVariants.{Open, Message, End, Called, Tick, Restart}
use Rattle.xl_base.specs.declared.event.Kind.{Kind}
use Rattle.xl_base.specs.declared.event.Kind.TheVariants.{Rpc, Smb}
use Rattle.xl_base.specs.declared.event.Moment.{Moment}
use Rattle.xl_base.specs.declared.journal.Exports.{Exports}
use Rattle.xl_base.specs.declared.name.Owner.TheVariants as owners
use Rattle.xl_base.specs.declared.name.Party.{Party}
use Rattle.xl_base.specs.declared.name.Protocol.{Protocol}
use Rattle.xl_base.specs.declared.name.Protocol.TheVariants as protocols
use Rattle.xl_matrix.specs.declared.claim.Claim.{Claim}
use Rattle.xl_names.specs.declared.name.Name.{Name}
use Rattle.xl_names.specs.declared.name.Name.TheVariants.{NfsParty}
use Rattle.xl_programs.specs.Programs.{RequestItem, IncomingItem, Unanswered, Refused, Asked, incoming_at}
use Rattle.xl_programs.specs.declared.program.Program.{Program}
use Rattle.xl_programs.specs.declared.program.Program.TheVariants.{Nlm, Nfs}
use Rattle.xl_smb_locks.specs.Finals.{told_of}
use Rattle.xl_smb_state.specs.Links.{most_opens}
use Rattle.xl_smb_state.specs.State.{Lists, open_of}
use Rattle.xl_smb_state.specs.declared.row.Open.{Open as OpenRow}
use Rattle.xl_core.proofs.DeedLaws.{deed_good}
use Rattle.xl_core.proofs.FrameLaws.{tick_unserved, turn_frame, way_leaves}
use Rattle.xl_core.specs.Askers.{is_lease}
use Rattle.xl_core.specs.Causes.{Answered, WaitsOn}
use Rattle.xl_core.specs.Clients.{IsOf, IsOfSome}
use Rattle.xl_core.specs.Deeds.{Deed, GivesBack, Ends, Closes, Serves, AreFit, IsFitDeed, all_done, done, given, tick_deeds, turned}
use Rattle.xl_core.specs.Frames.{IsFrame, calls_in, who_left}
use Rattle.xl_core.specs.Good.{IsGood, IsHeld}
use Rattle.xl_core.specs.Places.{ShareOf, held_in}
use Rattle.xl_core.specs.Settle.{plea_again, settle, way_again}
use Rattle.xl_core.specs.State.{CoreState, step_begun}
use Rattle.xl_core.specs.Ticks.{tick}
use Rattle.xl_core.specs.Told.{told_to}
use Rattle.xl_core.specs.declared.ask.Answer.{Answer}
use Rattle.xl_core.specs.declared.ask.Effect.{Effect}
use Rattle.xl_core.specs.declared.ask.Effect.TheVariants as effects
use Rattle.xl_plan.specs.Plans.{AllAt}
use Rattle.xl_front_nlm.proofs.DoesLaws as nlm
use Rattle.xl_front_nlm.specs.Answers.{refusal_deeds}
use Rattle.xl_front_nlm.specs.FrontNlm.{call_in, nlm_client, nlm_deeds}
use Rattle.xl_front_nlm.specs.declared.grant.Grant.{Grant}
use Rattle.xl_front_nfs.specs.FrontNfs.{nfs_deeds}
use Rattle.xl_nfs_opens.specs.Owners.{IsBy}
use Rattle.xl_nfs_laws.proofs.RequestOwn as nfs_own
use Rattle.xl_front_smb.specs.FrontSmb.{smb_shown}
use Rattle.xl_front_smb.specs.State.{FrontSmb}
use Rattle.xl_smb_laws.specs.Beginnings.{AreNumbered}
use Rattle.xl_smb_laws.specs.TiedRows.{AreSmbTied, HoldsShare, IsShare, SparesShare}
use Rattle.xl_smb_laws.proofs.GivenNumberLaws.{later_numbered, shown_numbered}
use Rattle.xl_smb_laws.proofs.GrantedCreateLaws.{turn_of}
use Rattle.xl_smb_laws.proofs.GrantedShareLaws.{IsMade, granted_holds, shown_was}
use Rattle.xl_smb_laws.proofs.SharedOpenLaws.{deed_keeps_share, open_smb}
use Rattle.xl_smb_laws.proofs.TiedLaws.{begun_tied, end_tied, step_tied}
use Rattle.xl_smb_laws.proofs.TiedRowLaws.{spared_shares}
use Rattle.xl_house.specs.Lawful.{may_do}
use Rattle.xl_house.specs.Machine.{heard}
use Rattle.xl_house.specs.Own.{Given, Own, begun_by, end_own, message_own, own_of, program_own, record_own}
use Rattle.xl_house.specs.State.{Whole, kind_of, most_connections, nfs_opens, rooms_of, smb_opens}
use Rattle.xl_house.specs.Telling.{all_shown, grants, is_grant, settled, shown_by, showing, turns_sent}
use Rattle.xl_house.specs.declared.layers.Fronts.{Fronts}
use Rattle.xl_house.proofs.AwaitedLaws.{Ready, heard_stand, shown_stand, turn_tells}
use Rattle.xl_house.proofs.DoneLaws.{IsRow, own_row, program_row}
use Rattle.xl_house.proofs.MachineLaws.{heard_good}
use Rattle.xl_house.proofs.MayLaws.{end_quiet, may_quiet, unserved_quiet}
use Rattle.xl_house.proofs.OthersLaws.{call_plain, named_apart}
use Rattle.xl_house.proofs.PairedWaiterLaws.{Stand}
use Rattle.xl_house.proofs.SettleLaws.{turned_good}
use Rattle.xl_house.proofs.ShownLaws.{all_shown_good, all_shown_is, shown_one}
use Rattle.xl_house.proofs.SteadyLaws.{deeds_rise}
use Rattle.xl_house.proofs.TellLaws.{quiet_shows}
use Rattle.xl_house.proofs.TurnLaws.{of_turns}

abbrev pub Tied : Fronts → CoreState → Type 0
Tied f s = AreSmbTied s f.smb.state

-- where numbers are given out, and what is held stays
risen : (s t : CoreState) (l : Lists) → s.counter ≤ t.counter → t.claims ≡ s.claims → AreSmbTied s l → AreSmbTied t l
risen s t l up same tied = record {
  numbers = later_numbered s.counter t.counter l up tied.numbers;
  shares = λ number row at. subst (λ (cs : List Claim). IsShare (held_in cs (ShareOf row.file (owners.Open number)))) (sym same) (tied.shares number row at);
}

-- ---- telling of an effect

-- numbers stay where the lists do
shown_numbers : (last : ℕ) (exports : Exports) (f : Fronts) (s : CoreState) (effect : Effect) (p : Protocol) → AreNumbered last f.smb.state → AreNumbered last (shown_by exports f s effect p).1.smb.state
shown_numbers last exports f s effect protocols.Nlm numbered = numbered
shown_numbers last exports f s effect protocols.Nfs numbered = numbered
shown_numbers last exports f s effect protocols.Smb numbered = shown_numbered last f.smb s effect numbered

-- each open that is there then was there, or was made by what is told
abbrev WasOrMade : Effect → Lists → ℕ → OpenRow → Type 0
WasOrMade (effects.Served party id answer) l k row = (open_of k l ≡ Some row) ⊎ IsMade id answer l k row
WasOrMade effect l k row = open_of k l ≡ Some row

smb_opens_were : (f : FrontSmb) (s : CoreState) (effect : Effect) (k : ℕ) (row : OpenRow) → open_of k (smb_shown f s effect).1.state ≡ Some row → WasOrMade effect f.state k row
unfolding smb_shown told_of
smb_opens_were f s (effects.Served party id answer) k row at = shown_was f s party id answer k row at
smb_opens_were f s (effects.Begun cache to call) k row at = at
smb_opens_were f s (effects.Cancelled party id) k row at = at
smb_opens_were f s (effects.Expired client) k row at = at

stayed : (effect : Effect) (l : Lists) (k : ℕ) (row : OpenRow) → open_of k l ≡ Some row → WasOrMade effect l k row
stayed (effects.Served party id answer) l k row at = inl at
stayed (effects.Begun cache to call) l k row at = at
stayed (effects.Cancelled party id) l k row at = at
stayed (effects.Expired client) l k row at = at

opens_were : (exports : Exports) (f : Fronts) (s : CoreState) (effect : Effect) (p : Protocol) (k : ℕ) (row : OpenRow) → open_of k (shown_by exports f s effect p).1.smb.state ≡ Some row → WasOrMade effect f.smb.state k row
opens_were exports f s effect protocols.Nlm k row at = stayed effect f.smb.state k row at
opens_were exports f s effect protocols.Nfs k row at = stayed effect f.smb.state k row at
opens_were exports f s effect protocols.Smb k row at = smb_opens_were f.smb s effect k row at

-- what grants nothing makes no open
no_grant : (id : ℕ) (party : Party) (answer : Answer) (l : Lists) (k : ℕ) (row : OpenRow) → is_grant (effects.Served party id answer) ≡ false → IsMade id answer l k row → ⊥
no_grant id party answer l k row quiet made = true≢false (sym (ap (λ (a : Answer). is_grant (effects.Served party id a)) made.granted) ∙ quiet)

unmade : (effect : Effect) (l : Lists) (k : ℕ) (row : OpenRow) → is_grant effect ≡ false → WasOrMade effect l k row → open_of k l ≡ Some row
unmade (effects.Served party id answer) l k row quiet was = elim was [ inl at ↦ at | inr made ↦ absurd (no_grant id party answer l k row quiet made) ]
unmade (effects.Begun cache to call) l k row quiet was = was
unmade (effects.Cancelled party id) l k row quiet was = was
unmade (effects.Expired client) l k row quiet was = was

-- the core differs by numbers alone
shown_tied : (exports : Exports) (f : Fronts) (s : CoreState) (effect : Effect) → ((k : ℕ) (row : OpenRow) → WasOrMade effect f.smb.state k row → HoldsShare s k row) → AreNumbered s.counter f.smb.state → (let r = showing exports f s effect in Tied r.1 r.2)
shown_tied exports f s effect holds numbered =
    let r = showing exports f s effect in
    let is = shown_one exports f s effect in
    risen s r.2 r.1.smb.state is.rises (ap (λ (t : CoreState). t.claims) is.parts)
    (record { numbers = shown_numbers s.counter exports f s effect (told_to effect) numbered; shares = λ k row at. holds k row (opens_were exports f s effect (told_to effect) k row at) })

-- ---- effects that grant nothing

grants_more : (effect : Effect) (told : List Effect) → grants (effect ∷ told) ≡ 0 → (is_grant effect ≡ false) × (grants told ≡ 0)
grants_more effect told none =
    elim (cases_Bool (is_grant effect)) [
      | inl grant ↦ absurd (omega (arith, rw grant at none))
      | inr quiet ↦ (quiet, rw quiet at none)
    ]

pub quiet_tied : (exports : Exports) (f : Fronts) (s : CoreState) (told : List Effect) → grants told ≡ 0 → Tied f s → (let r = all_shown exports f s told in Tied r.1 r.2)
quiet_tied exports f s [] none tied = tied
quiet_tied exports f s (effect ∷ told) none tied =
    let r = showing exports f s effect in
    let parts = grants_more effect told none in
    quiet_tied exports r.1 r.2 told parts.1 (shown_tied exports f s effect (λ k row was. tied.shares k row (unmade effect f.smb.state k row parts.0 was)) tied.numbers)

-- what takes nobody out grants nothing
none_granted : (before : List Effect) → who_left before ≡ [] → grants (before ++ []) ≡ 0
none_granted [] none = refl
none_granted (effects.Served party id answer ∷ before) none = absurd cc
none_granted (effects.Cancelled party id ∷ before) none = absurd cc
none_granted (effects.Begun cache to call ∷ before) none = none_granted before none
none_granted (effects.Expired client ∷ before) none = none_granted before none

-- ---- a turn

-- the last effect is told of by the fronts and the core that those before left
last_shown : (exports : Exports) (f : Fronts) (s : CoreState) (told : List Effect) (effect : Effect) (P : Fronts → CoreState → Type 0)
    → (let g = all_shown exports f s told in let r = showing exports g.1 g.2 effect in P r.1 r.2) → (let r = all_shown exports f s (told ++ effect ∷ []) in P r.1 r.2)
last_shown exports f s [] effect P p = p
last_shown exports f s (first ∷ told) effect P p = (let r = showing exports f s first in last_shown exports r.1 r.2 told effect P p)

turn_rises : (n : ℕ) (f : Fronts) (s t : CoreState) (told : List Effect) → IsGood s → settle n (rooms_of f) s ≡ Some (told, t) → s.counter ≤ t.counter
turn_rises n f s t told good e =
    let frame = subst (λ (o : Option (List Effect × CoreState)). IfSome o (λ r. IsFrame s r.0 r.1 (calls_in r.0) s.names [])) e (turn_frame n (rooms_of f) s good) in
    omega (arith, frame.counter)

turn_keeps : (n : ℕ) (f : Fronts) (s t : CoreState) (told : List Effect) (l : Lists) → IsGood s → settle n (rooms_of f) s ≡ Some (told, t) → AreSmbTied s l → AreSmbTied t l
turn_keeps n f s t told l good e tied =
    let d : Deed = Serves (rooms_of f) in
    let same : done n s d ≡ t = ap (λ (o : Option (List Effect × CoreState)). (turned s o).2) e in
    record {
      numbers = later_numbered s.counter t.counter l (turn_rises n f s t told good e) tied.numbers;
      shares = λ k row at. subst (λ (u : CoreState). HoldsShare u k row) same (deed_keeps_share n s d row.file k good tt tt (tied.shares k row at));
    }

module _ (n : ℕ) (exports : Exports) (f : Fronts) (s t : CoreState) (told : List Effect) (good : IsGood s) (e : settle n (rooms_of f) s ≡ Some (told, t)) (stand : Stand s f.smb.state) (tied : AreSmbTied s f.smb.state) where
  rooms_leave : (rooms_of f).opens ≤ most_opens - length f.smb.state.opens
  rooms_leave = omega arith

  kept : AreSmbTied t f.smb.state
  kept = turn_keeps n f s t told f.smb.state good e tied

  -- what it grants has its share
  granted : (party : Party) (id : ℕ) (answer : Answer) (k : ℕ) (row : OpenRow) → IsIn (effects.Served party id answer) told → IsMade id answer f.smb.state k row → HoldsShare t k row
  granted party id answer k row here made =
      subst (λ (j : ℕ). HoldsShare t j row) made.number
      (granted_holds n (rooms_of f) s t f.smb party id made.row row made.claim good stand.awaits
      (record { told = told; turn = e; served = subst (λ (a : Answer). IsIn (effects.Served party id a) told) made.granted here; waits = made.waits; makes = made.makes; room = rooms_leave }))

  turn_tied_by : (before : List Effect) (last : List Effect) → told ≡ before ++ last → who_left before ≡ [] → (last ≡ []) ⊎ ((party : Party) × (id : ℕ) × (answer : Answer) × (last ≡ effects.Served party id answer ∷ [])) → (let r = all_shown exports f t told in Tied r.1 r.2)
  turn_tied_by before last is none (inl nothing) = quiet_tied exports f t told (ap grants (is ∙ ap (λ (es : List Effect). before ++ es) nothing) ∙ none_granted before none) kept
  turn_tied_by before last is none (inr served) =
      subst (λ (es : List Effect). (let r = all_shown exports f t es in Tied r.1 r.2)) (sym (is ∙ ap (λ (es : List Effect). before ++ es) served.3))
      (last_shown exports f t before (effects.Served served.0 served.1 served.2) Tied
      (let g = all_shown exports f t before in
      let same = quiet_shows exports f t before none in
      let up = all_shown_is exports f t before in
      let here : IsIn (effects.Served served.0 served.1 served.2) told = subst (λ (es : List Effect). IsIn (effects.Served served.0 served.1 served.2) es) (sym (is ∙ ap (λ (es : List Effect). before ++ es) served.3)) (in_append_right (effects.Served served.0 served.1 served.2) before (effects.Served served.0 served.1 served.2 ∷ []) (inl refl)) in
      let claims = ap (λ (u : CoreState). u.claims) up.parts in
      shown_tied exports g.1 g.2 (effects.Served served.0 served.1 served.2)
      (λ k row was. subst (λ (cs : List Claim). IsShare (held_in cs (ShareOf row.file (owners.Open k)))) (sym claims)
      (holds served.0 served.1 served.2 k row here (subst (λ (l : Lists). (open_of k l ≡ Some row) ⊎ IsMade served.1 served.2 l k row) same was)))
      (later_numbered t.counter g.2.counter g.1.smb.state up.rises (subst (λ (l : Lists). AreNumbered t.counter l) (sym same) kept.numbers))))
    where
      holds : (party : Party) (id : ℕ) (answer : Answer) (k : ℕ) (row : OpenRow) → IsIn (effects.Served party id answer) told → (open_of k f.smb.state ≡ Some row) ⊎ IsMade id answer f.smb.state k row → HoldsShare t k row
      holds party id answer k row here was = elim was [ inl at ↦ kept.shares k row at | inr made ↦ granted party id answer k row here made ]

  pub turn_tied : (let r = all_shown exports f t told in Tied r.1 r.2)
  turn_tied =
      let turn = turn_of n (rooms_of f) s t told good e in
      turn_tied_by (way_again turn.before s turn.waiter).0 turn.told turn.effects_are (way_leaves turn.before (plea_again s turn.waiter) turn.waiter.asked s)
      (elim turn.served [
        | WaitsOn none up same ↦ inl none
        | Answered answer is granted due new free ↦ inr (turn.waiter.party, turn.waiter.id, answer, is)
      ])

pub settled_tied : (n : ℕ) (exports : Exports) (f : Fronts) (s : CoreState) → IsGood s → Stand s f.smb.state → Tied f s → Tied (settled n exports f s).1 (settled n exports f s).2
unfolding settled
settled_tied n exports f s good stand tied =
    of_turns n exports (λ g t ts. IsGood t → Stand t g.smb.state → Tied g t → Tied (turns_sent exports g t ts).1 (turns_sent exports g t ts).2) (λ g t h k is. is)
    (λ fuel g t u told e rest h k is. rest (all_shown_good exports g u told (turned_good n g t u told h e)) (shown_stand exports g u told (turn_tells n g t u told h e k)) (turn_tied n exports g t u told h e k is)) f s good stand tied

-- ---- whose deeds spare opens

of_spares : (s : CoreState) (client : Name) (number : ℕ) (d : Deed) → is_lease client ≡ false → IsGood s → IsFitDeed s d → IsOf s client d → SparesShare number s d
of_spares s client number (GivesBack claim) plain good fit own = λ whose. named_apart s.names client claim.party plain own (open_smb s.names claim.owner claim.party number whose (all_in (IsHeld s.names) claim s.claims good.known fit.0).1)
of_spares s client number (Ends party) plain good fit own = λ is. named_apart s.names client party plain own is
of_spares s client number (Closes other party) plain good fit own = absurd own
of_spares s client number d plain good fit own = tt

some_spares : (s : CoreState) (o : Option Name) (number : ℕ) (d : Deed) → ((client : Name) → o ≡ Some client → is_lease client ≡ false) → IsGood s → IsFitDeed s d → IsOfSome s o d → SparesShare number s d
some_spares s None number d plain good fit own = absurd own
some_spares s (Some client) number d plain good fit own = of_spares s client number d (plain client refl) good fit own

by_spares : (s : CoreState) (number : ℕ) (d : Deed) → IsGood s → IsFitDeed s d → IsBy s (λ _. Unit {0}) d → SparesShare number s d
by_spares s number (GivesBack claim) good fit own = of_spares s (NfsParty own.0) number (GivesBack claim) refl good fit own.2
by_spares s number (Ends party) good fit own = of_spares s (NfsParty own.0) number (Ends party) refl good fit own.2
by_spares s number (Closes other party) good fit own = absurd own
by_spares s number d good fit own = tt

-- deeds in a row that the core takes
each_spares : (P : CoreState → Deed → Type 0) (n : ℕ) (s : CoreState) (ds : List Deed) (number : ℕ) → ((t : CoreState) (d : Deed) → IsGood t → IsFitDeed t d → P t d → SparesShare number t d) → IsGood s → AreFit n s ds → AllAt P n s ds → AllAt (SparesShare number) n s ds
each_spares P n s [] number each good fit all = tt
each_spares P n s (d ∷ ds) number each good fit all = (each s d good fit.0 all.0, each_spares P n (done n s d) ds number each (deed_good n s d good fit.0) fit.1 all.1)

refusal_spares : (n : ℕ) (s : CoreState) (hosts : List (List ℕ)) (o : Option Grant) (number : ℕ) → AllAt (SparesShare number) n s (refusal_deeds hosts o)
refusal_spares n s hosts None number = tt
refusal_spares n s hosts (Some grant) number = (tt, tt)

ticks_spare : (now : Moment) (s : CoreState) (number : ℕ) (d : Deed) → may_do (Tick now) d ≡ true → SparesShare number s d
ticks_spare now s number (GivesBack claim) may = absurd (true≢false (sym may))
ticks_spare now s number (Ends party) may = absurd (true≢false (sym may))
ticks_spare now s number (Closes other party) may = absurd (true≢false (sym may))
ticks_spare now s number d may = tt

all_ticks_spare : (n : ℕ) (now : Moment) (s : CoreState) (ds : List Deed) (number : ℕ) → AllByRecursion (λ d. may_do (Tick now) d ≡ true) ds → AllAt (SparesShare number) n s ds
all_ticks_spare n now s [] number may = tt
all_ticks_spare n now s (d ∷ ds) number may = (ticks_spare now s number d may.0, all_ticks_spare n now (done n s d) ds number may.1)

-- ---- what an event gives

abbrev IsTiedBy : Given → Type 0
IsTiedBy g = AreSmbTied g.3 g.2.smb.state

others_tied : (n : ℕ) (exports : Exports) (f : Fronts) (s : CoreState) (event : Event) (o : Own) (l : Lists) → IsGood s → IsRow n exports f s event o → ((number : ℕ) → AllAt (SparesShare number) n s o.deeds) → AreSmbTied s l → AreSmbTied o.given.3 l
others_tied n exports f s event o l good row spare tied =
    subst (λ (t : CoreState). AreSmbTied t l) (sym row.does)
    (record {
      numbers = later_numbered s.counter (all_done n s o.deeds).counter l (deeds_rise n s o.deeds good (row.takes good)) tied.numbers;
      shares = spared_shares n s l o.deeds good (row.takes good) spare tied.shares;
    })

program_tied : (n : ℕ) (exports : Exports) (f : Fronts) (s : CoreState) (number : ℕ) (r : RequestItem) (program : Program) → IsGood s → Tied f s → IsTiedBy (program_own n exports f s number r program).given
program_tied n exports f s number r Nlm good tied =
    let row = program_row n [] exports f s number r Nlm in
    let ds = nlm_deeds n exports f.nlm s r in
    others_tied n exports f s (Message number []) (program_own n exports f s number r Nlm) f.smb.state good row
    (λ k. each_spares (λ t d. IsOfSome t (nlm_client r) d) n s ds k (λ t d g fit own. some_spares t (nlm_client r) k d (λ client is. call_plain (call_in r) client is) g fit own) good (row.takes good) (nlm.step_own n exports f.nlm s r good)) tied
program_tied n exports f s number r Nfs good tied =
    let row = program_row n [] exports f s number r Nfs in
    let ds = nfs_deeds n exports (smb_opens f) f.nfs s r in
    others_tied n exports f s (Message number []) (program_own n exports f s number r Nfs) f.smb.state good row
    (λ k. each_spares (λ t d. IsBy t (λ _. Unit {0}) d) n s ds k (λ t d g fit own. by_spares t k d g fit own) good (row.takes good) (nfs_own.request_by n exports (smb_opens f) f.nfs s r good)) tied

record_tied : (n : ℕ) (exports : Exports) (f : Fronts) (s : CoreState) (number : ℕ) (incoming : IncomingItem) → IsGood s → Tied f s → IsTiedBy (record_own n exports f s number incoming).given
record_tied n exports f s number Unanswered good tied = tied
record_tied n exports f s number (Refused xid verdict) good tied = tied
record_tied n exports f s number (Asked r) good tied = program_tied n exports f s number r r.program good tied

message_tied : (n : ℕ) (exports : Exports) (f : Fronts) (s : CoreState) (kind : Option Kind) (number : ℕ) (bytes : List ℕ) → IsGood s → Ready f → Stand s f.smb.state → Tied f s → IsTiedBy (message_own n exports f s kind number bytes).given
message_tied n exports f s None number bytes good ready stand tied = tied
message_tied n exports f s (Some Rpc) number bytes good ready stand tied = record_tied n exports f s number (incoming_at bytes) good tied
message_tied n exports f s (Some Smb) number bytes good ready stand tied = step_tied n exports (nfs_opens f) f.smb s number bytes good ready.1 stand.awaits tied

ended_tied : (f : Fronts) (s : CoreState) (kind : Option Kind) (number : ℕ) → IsGood s → Ready f → Stand s f.smb.state → Tied f s → IsTiedBy (end_own f s kind number).given
ended_tied f s None number good ready stand tied = tied
ended_tied f s (Some Rpc) number good ready stand tied = tied
ended_tied f s (Some Smb) number good ready stand tied = end_tied f.smb s number good ready.1 stand.awaits tied

opened_tied : (f : Fronts) (s : CoreState) (place : ℕ) (kind : Kind) (room : Bool) → Tied f s → AreSmbTied s (if room then begun_by f place kind else f).smb.state
opened_tied f s place kind false tied = tied
opened_tied f s place Rpc true tied = tied
opened_tied f s place Smb true tied = begun_tied f.smb s place tied

given_tied : (n : ℕ) (s : Whole) (event : Event) → IsGood s.core → Ready s.front → Stand s.core s.front.smb.state → Tied s.front s.core → IsTiedBy (own_of n s event).given
given_tied n s (Open kind) good ready stand tied = opened_tied s.front s.core s.place kind (nat_lt (length s.connections) most_connections) tied
given_tied n s (Message number bytes) good ready stand tied = message_tied n s.exports s.front s.core (kind_of s.connections number) number bytes good ready stand tied
given_tied n s (End number) good ready stand tied = ended_tied s.front s.core (kind_of s.connections number) number good ready stand tied
given_tied n s (Called number bytes) good ready stand tied = others_tied n s.exports s.front s.core (Called number bytes) (own_of n s (Called number bytes)) s.front.smb.state good (own_row n s (Called number bytes)) (λ k. refusal_spares n s.core s.front.nlm.hosts _ k) tied
given_tied n s (Tick now) good ready stand tied =
    let row = own_row n s (Tick now) in
    others_tied n s.exports s.front s.core (Tick now) (own_of n s (Tick now)) s.front.smb.state good row (λ k. all_ticks_spare n now s.core (tick_deeds n s.core now) k (row.may good)) tied
given_tied n s Restart good ready stand tied = tied

-- what an event does itself tells of no grant
own_quiet : (n : ℕ) (s : Whole) (event : Event) → IsGood s.core → grants (own_of n s event).given.1 ≡ 0
own_quiet n s (Message number bytes) good =
    let row = own_row n s (Message number bytes) in
    ap grants row.tells ∙ may_quiet n s.core number bytes (own_of n s (Message number bytes)).deeds good (row.takes good) (row.may good)
own_quiet n s (End number) good =
    let row = own_row n s (End number) in
    ap grants row.tells ∙ end_quiet n s.core number (own_of n s (End number)).deeds good (row.takes good) (row.may good)
own_quiet n s (Called number bytes) good =
    let row = own_row n s (Called number bytes) in
    ap grants row.tells ∙ may_quiet n s.core number [] (own_of n s (Called number bytes)).deeds good (row.takes good) (refusals_may number s.front.nlm.hosts _)
  where
    refusals_may : (number : ℕ) (hosts : List (List ℕ)) (o : Option Grant) → AllByRecursion (λ d. may_do (Message number []) d ≡ true) (refusal_deeds hosts o)
    refusals_may number hosts None = tt
    refusals_may number hosts (Some grant) = (refl, tt)
own_quiet n s (Tick now) good = unserved_quiet (tick n s.core now).0 (tick_unserved n s.core now)
own_quiet n s (Open kind) good = refl
own_quiet n s Restart good = refl

pub heard_tied : (n : ℕ) (s : Whole) (event : Event) → IsGood s.core → Ready s.front → Stand s.core s.front.smb.state → Tied s.front s.core → Tied (heard n s event).1 (heard n s event).2
unfolding heard
heard_tied n s event good ready stand tied =
    let g = (own_of n s event).given in
    quiet_tied s.exports g.2 g.3 g.1 (own_quiet n s event good) (given_tied n s event good ready stand tied)

-- ---- a step begins with what was held

begun_same : (s : CoreState) → ((step_begun s).claims ≡ s.claims) × ((step_begun s).counter ≡ s.counter)
unfolding step_begun
begun_same s = (refl, refl)

pub found_tied : (s : CoreState) (l : Lists) → AreSmbTied s l → AreSmbTied (step_begun s) l
found_tied s l tied = let same = begun_same s in risen s (step_begun s) l (omega (arith, same.1)) same.0 tied

-- the round of an event
pub round_tied : (n : ℕ) (s : Whole) (event : Event) → IsGood s.core → Ready s.front → Stand s.core s.front.smb.state → Tied s.front s.core → (let h = heard n s event in let r = settled n s.exports h.1 h.2 in Tied r.1 r.2)
round_tied n s event good ready stand tied = (let h = heard n s event in settled_tied n s.exports h.1 h.2 (heard_good n s event good) (heard_stand n s event good ready stand) (heard_tied n s event good ready stand tied))
