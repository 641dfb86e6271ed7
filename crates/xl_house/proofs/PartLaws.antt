-- What stands behind an event's own deeds: turns, and what the parts of frames do.
use Rattle.std.proofs.Common.{◌≡◌, ℕ, zero, suc, Bool, true, false, List, [], ◌∷◌, ◌++◌, Option, Some, None, refl, sym, ap, subst, ◌∙◌, append_assoc}
use Rattle.std.specs.Prelude.{not}
use Rattle.std.specs.List.{AllByRecursion}
use Rattle.std.proofs.lemmas.Bool.{and_parts, both_ways}
use Rattle.xl_base.proofs.Members.{all_append, all_weaker}
use Rattle.xl_base.specs.declared.event.Event.{Event}
use Rattle.xl_base.specs.declared.event.Event.TheVariants.{Message}
use Rattle.xl_base.specs.declared.event.Kind.{Kind}
use Rattle.xl_base.specs.declared.event.Kind.TheVariants.{Rpc, Smb}
use Rattle.xl_core.specs.Deeds.{Deed, Asks, Acks, Cancels, Closes, Serves, Draws}
use Rattle.xl_smb_frames.specs.Frames.{is_alone}
use Rattle.xl_smb_frames.specs.Steps.{next_step}
use Rattle.xl_smb_frames.specs.declared.frame.Frame.{Frame}
use Rattle.xl_smb_frames.specs.declared.steps.Step.{Step}
use Rattle.xl_smb_frames.specs.declared.steps.Step.TheVariants as step
use Rattle.xl_smb_state.specs.State.{Lists}
use Rattle.xl_names.specs.declared.name.Name.{Name}
use Rattle.xl_front_smb.specs.Owners.{IsOwn}
use Rattle.xl_smb_laws.proofs.RequestOwn as smb_own
use Rattle.xl_house.specs.Done.{Round, behind_own, done_round, first_by, round_deeds, round_of, rounds, rounds_by, rounds_deeds, rounds_for, step_round, top_round, deeds}
use Rattle.xl_house.specs.Journals.{is_restart}
use Rattle.xl_house.specs.Lawful.{may_follow}
use Rattle.xl_house.specs.Machine.{Gone, Ground, found_in, frames_begun, gone_further, is_plain, steps_left}
use Rattle.xl_house.specs.Own.{message_own, own_of}
use Rattle.xl_house.specs.Sifting.{brings_frame, is_smb, popped}
use Rattle.xl_house.specs.State.{Whole, as_found, kind_of, nfs_opens}
use Rattle.xl_house.proofs.DoneLaws.{behind_follows, deeds_are, rounds_are}

-- a turn, or a deed of a message of SMB: what is asked names no client to the record
abbrev pub IsOfPart : Deed → Type 0
IsOfPart (Asks left a) = a.monitored ≡ false
IsOfPart (Acks cache to) = Unit {0}
IsOfPart (Cancels id) = Unit {0}
IsOfPart (Closes number party) = Unit {0}
IsOfPart (Serves left) = Unit {0}
IsOfPart Draws = Unit {0}
IsOfPart deed = ⊥

abbrev pub AreOfParts : List Deed → Type 0
AreOfParts ds = AllByRecursion IsOfPart ds

follow_part : (d : Deed) → may_follow d ≡ true → IsOfPart d
follow_part (Serves left) follows = tt
follow_part Draws follows = tt
follow_part d follows = absurd (both_ways false refl follows)

own_part : (names : List Name) (conn : ℕ) (l : Lists) (last : ℕ) (d : Deed) → IsOwn names conn l last d → IsOfPart d
own_part names conn l last (Asks left a) own = own.2
own_part names conn l last (Acks cache to) own = tt
own_part names conn l last (Cancels id) own = tt
own_part names conn l last (Closes number party) own = tt
own_part names conn l last Draws own = tt
own_part names conn l last d own = absurd own

behind_parts : (r : Round) → AreOfParts (behind_own r)
behind_parts r = all_weaker (λ d. may_follow d ≡ true) IsOfPart (behind_own r) follow_part (behind_follows r)

-- those of a message that a connection of SMB brings
smb_parts : (n : ℕ) (s : Whole) (kind : Option Kind) (number : ℕ) (bytes : List ℕ) → is_smb kind ≡ true → AreOfParts (message_own n s.exports s.front s.core kind number bytes).deeds
smb_parts n s None number bytes smb = absurd (both_ways false refl smb)
smb_parts n s (Some Rpc) number bytes smb = absurd (both_ways false refl smb)
smb_parts n s (Some Smb) number bytes smb =
    let names = s.core.names in
    let l : Lists = s.front.smb.state in
    all_weaker (IsOwn names number l s.core.counter) IsOfPart (message_own n s.exports s.front s.core (Some Smb) number bytes).deeds (λ d own. own_part names number l s.core.counter d own)
    (smb_own.step_own n s.exports (nfs_opens s.front) s.front.smb s.core number bytes)

message_parts : (n : ℕ) (s : Whole) (number : ℕ) (bytes : List ℕ) → is_smb (kind_of s.connections number) ≡ true → AreOfParts (own_of n s (Message number bytes)).deeds
message_parts n s number bytes smb = smb_parts n s (kind_of s.connections number) number bytes smb

round_parts : (n : ℕ) (s : Whole) (number : ℕ) (bytes : List ℕ) → is_smb (kind_of s.connections number) ≡ true → AreOfParts (rounds_deeds (round_of n s (Message number bytes) ∷ []))
round_parts n s number bytes smb =
    let r = round_of n s (Message number bytes) in
    all_append IsOfPart (round_deeds r) [] (all_append IsOfPart r.own.deeds (behind_own r) (message_parts n s number bytes smb) (behind_parts r)) tt

-- ---- the parts of frames

both_rounds : (rs qs : List Round) → AreOfParts (rounds_deeds rs) → AreOfParts (rounds_deeds qs) → AreOfParts (rounds_deeds (rs ++ qs))
both_rounds rs qs first later = subst AreOfParts (sym (deeds_append rs qs)) (all_append IsOfPart (rounds_deeds rs) (rounds_deeds qs) first later) where
  deeds_append : (rs qs : List Round) → rounds_deeds (rs ++ qs) ≡ rounds_deeds rs ++ rounds_deeds qs
  deeds_append [] qs = refl
  deeds_append (r ∷ rs) qs = ap (λ (ds : List Deed). round_deeds r ++ ds) (deeds_append rs qs) ∙ sym (append_assoc (round_deeds r) (rounds_deeds rs) (rounds_deeds qs))

done_parts : (n : ℕ) (at : Ground) (g : Gone) (conn : ℕ) (message : List ℕ) (smb : Bool) → is_smb (kind_of at.1 conn) ≡ smb → AreOfParts (rounds_deeds (done_round n at g conn message smb))
done_parts n at g conn message true is = round_parts n (found_in at g.1 g.2) conn message is
done_parts n at g conn message false is = tt

step_parts : (n : ℕ) (at : Ground) (g : Gone) (f : Frame) (next : Step) → AreOfParts (rounds_deeds (step_round n at g f next))
step_parts n at g f step.Ends = tt
step_parts n at g f (step.Replied reply) = tt
step_parts n at g f (step.Asked message) = done_parts n at g f.conn message (is_smb (kind_of at.1 f.conn)) refl

top_parts : (n : ℕ) (at : Ground) (g : Gone) (top : Option Frame) → AreOfParts (rounds_deeds (top_round n at g top))
top_parts n at g None = tt
top_parts n at g (Some f) = step_parts n at g f (next_step f)

steps_parts : (fuel n : ℕ) (at : Ground) (g : Gone) → AreOfParts (rounds_deeds (rounds_for fuel n at g))
steps_parts zero n at g = tt
steps_parts (suc fuel) n at g =
    both_rounds (top_round n at g (popped g.0.stack).0) (rounds_for fuel n at (gone_further n at g)) (top_parts n at g (popped g.0.stack).0) (steps_parts fuel n at (gone_further n at g))

-- ---- an entry

-- all of these are the own ones, and of parts behind them
abbrev pub Behind : List Deed → List Deed → Type 0
Behind own all = (rest : List Deed) × (all ≡ own ++ rest) × AreOfParts rest

first_behind : (n : ℕ) (s : Whole) (event : Event) (rs : List Round) → AreOfParts (rounds_deeds rs) → Behind (own_of n s event).deeds (rounds_deeds (round_of n s event ∷ rs))
first_behind n s event rs parts =
    let r = round_of n s event in
    (behind_own r ++ rounds_deeds rs, append_assoc r.own.deeds (behind_own r) (rounds_deeds rs), all_append IsOfPart (behind_own r) (rounds_deeds rs) (behind_parts r) parts)

later_parts : (n : ℕ) (s : Whole) (event : Event) → AreOfParts (rounds_deeds (let g = frames_begun n s event in rounds_for (steps_left g.0) n (s.exports, s.connections) g))
later_parts n s event = let g = frames_begun n s event in steps_parts (steps_left g.0) n (s.exports, s.connections) g

-- where no frame is brought the event's own deeds are done first
by_behind : (n : ℕ) (s : Whole) (event : Event) (plain : Bool) → brings_frame s.connections event ≡ false → Behind (own_of n s event).deeds (rounds_deeds (rounds_by n s event plain))
by_behind n s event true none = first_behind n s event [] tt
by_behind n s event false none = by (brings_frame s.connections event) none where
  later : List Round
  later = let g = frames_begun n s event in rounds_for (steps_left g.0) n (s.exports, s.connections) g

  by : (brings : Bool) → brings ≡ false → Behind (own_of n s event).deeds (rounds_deeds (first_by n s event brings ++ later))
  by true is = absurd (both_ways true is refl)
  by false is = first_behind n s event later (later_parts n s event)

pub own_first : (n : ℕ) (s : Whole) (event : Event) → is_restart event ≡ false → brings_frame s.connections event ≡ false → Behind (own_of n (as_found s) event).deeds (deeds n s event)
own_first n s event other none = subst (λ (ds : List Deed). Behind (own_of n (as_found s) event).deeds ds) (sym (deeds_are n s event other)) (by_behind n (as_found s) event (is_plain s event) none)

-- and where one is all are of parts, and so would be those of the message that brings it
brought_by : (n : ℕ) (s : Whole) (number : ℕ) (bytes : List ℕ) (plain : Bool) → brings_frame s.connections (Message number bytes) ≡ true → AreOfParts (rounds_deeds (rounds_by n s (Message number bytes) plain))
brought_by n s number bytes true brings = round_parts n s number bytes (and_parts (is_smb (kind_of s.connections number)) (not (is_alone bytes)) brings).0
brought_by n s number bytes false brings = by (brings_frame s.connections (Message number bytes)) brings where
  later : List Round
  later = let g = frames_begun n s (Message number bytes) in rounds_for (steps_left g.0) n (s.exports, s.connections) g

  by : (b : Bool) → b ≡ true → AreOfParts (rounds_deeds (first_by n s (Message number bytes) b ++ later))
  by true is = later_parts n s (Message number bytes)
  by false is = absurd (both_ways false refl is)

pub brought : (n : ℕ) (s : Whole) (event : Event) → brings_frame s.connections event ≡ true → AreOfParts (deeds n s event) × AreOfParts (own_of n (as_found s) event).deeds
brought n s (Message number bytes) brings = (
  subst AreOfParts (sym (deeds_are n s (Message number bytes) refl)) (brought_by n (as_found s) number bytes (is_plain s (Message number bytes)) brings),
  message_parts n (as_found s) number bytes (and_parts (is_smb (kind_of s.connections number)) (not (is_alone bytes)) brings).0,
)
brought n s event brings = absurd (both_ways false refl brings)

-- ---- the event's own round

by_first : (n : ℕ) (s : Whole) (event : Event) (plain : Bool) (P : Round → Type 0) → brings_frame s.connections event ≡ false → AllByRecursion P (rounds_by n s event plain) → P (round_of n s event)
by_first n s event true P none all = all.0
by_first n s event false P none all = by (brings_frame s.connections event) none all where
  by : (brings : Bool) → brings ≡ false → AllByRecursion P (first_by n s event brings ++ (let g = frames_begun n s event in rounds_for (steps_left g.0) n (s.exports, s.connections) g)) → P (round_of n s event)
  by true is all = absurd (both_ways true is refl)
  by false is all = all.0

-- what holds of each round holds of that, if no frame is brought
pub of_first : (n : ℕ) (s : Whole) (event : Event) (P : Round → Type 0) → is_restart event ≡ false → brings_frame s.connections event ≡ false → AllByRecursion P (rounds n s event) → P (round_of n (as_found s) event)
of_first n s event P other none all = by_first n (as_found s) event (is_plain s event) P none (subst (λ (rs : List Round). AllByRecursion P rs) (rounds_are n s event other) all)
