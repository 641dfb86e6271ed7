-- Laws of the parts of a lane's turn.
use Rattle.std.proofs.Common.{◌≡◌, ℕ, ◌||◌, Bool, true, false, List, [], ◌∷◌, ◌++◌, take, sym, refl, ap, ◌∙◌, subst, arith, Option, Some, None, option_map, Result, Ok, Err, OnOk, OnErr, IfErr, IsErrAnd, append_assoc}
use Rattle.std.proofs.lemmas.List.{append-nil}
use Rattle.xl_base.specs.Links.{Nexts, Receives, Shuts}
use Rattle.xl_base.specs.Serials.{IsInTime}
use Rattle.xl_base.specs.declared.lane.NextOutcome.TheVariants as next
use Rattle.xl_base.specs.Telling.{Follows, OnNewest}
use Rattle.xl_base.specs.declared.event.Kind.{Kind}
use Rattle.xl_base.specs.declared.event.Event.{Event}
use Rattle.xl_base.specs.declared.event.Event.TheVariants.{Open}
use Rattle.xl_base.specs.declared.halt.Halt.{Halt}
use Rattle.xl_base.specs.declared.journal.Entry.{Entry}
use Rattle.xl_base.specs.declared.lane.Link.{Link}
use Rattle.xl_base.specs.declared.lane.ReceiveOutcome.TheVariants as receive
use Rattle.xl_base.specs.declared.lane_end.LaneEnd.{LaneEnd}
use Rattle.xl_base.specs.declared.lane_end.LaneEnd.TheVariants as lane_end
use Rattle.xl_desk.specs.declared.view.View.{View}
use Rattle.xl_desk.specs.Passes.{IsCalled}
use Rattle.xl_frame.specs.declared.fault.FrameBad.{FrameBad}
use Rattle.xl_frame.proofs.StreamLaws.{cut_anywhere}
use Rattle.xl_frame.specs.Cutting.{Cutting, fed, then_piece, unless_bad}
use Rattle.xl_frame.specs.Frames.{Framed, frames, with_frames}
use Rattle.xl_work.specs.declared.worker.Conn.{Conn}
use Rattle.xl_work.specs.declared.worker.Live.{Live}
use Rattle.xl_work.specs.Lives.{Hand, Nothing, Unopened, messages_in, is_bad, is_whole, is_fine, all_conns, still, steady, IsAt, IsSettled, IsTaken, IsClosing, IsCaught, number_in, IsLive, IsServing, IsLeft, IsLeftOpen, AreLeft, HasPlace, Serves, Carries, Loses, Tally, IsQuiet, IsTurnEnd}
use Rattle.xl_work.proofs.CallLaws.{follows_as, follows_then, goes_self}
use Rattle.xl_work.proofs.LifeLaws.{live_fed, serving_told, serving_left, serving_next, serving_done, serving_same, serving_opened, serving_over}

-- ---- what a link gives

newest_as : (p q : Link → Link → Type 0) (old new : List Link) → OnNewest p old new → ((l m : Link) → p l m → q l m) → OnNewest q old new
newest_as p q [] new on as_q = on
newest_as p q (l ∷ ls) new on as_q = (on.0, on.1, as_q l on.0 on.2)

pub newest_follows : (told told' : Option (List Link)) (p q : Link → Link → Type 0) → Follows told told' (OnNewest p) → ((l m : Link) → p l m → q l m) → Follows told told' (OnNewest q)
newest_follows told told' p q follows as_q = follows_as told told' (OnNewest p) (OnNewest q) follows (λ old new on. newest_as p q old new on as_q)

-- a stream that goes on has the frames that it had
goes_on : (kind : Kind) (f : Framed) (piece : List ℕ) → (more : List (List ℕ)) × ((then_piece kind f piece).frames ≡ f.frames ++ more)
unfolding then_piece
goes_on kind f piece = by_bad f.bad where
  by_bad : (bad : Option FrameBad) → (more : List (List ℕ)) × ((unless_bad bad f (with_frames f.frames (frames kind (f.rest ++ piece)))).frames ≡ f.frames ++ more)
  by_bad None = ((frames kind (f.rest ++ piece)).frames, refl)
  by_bad (Some fault) = ([], sym (append-nil f.frames))

-- bytes were taken, and lost
live_lost : (first : ℕ) (log : List Entry) (l m : Link) (v : Live) (piece : List ℕ) (mine : List (ℕ × Event)) → IsLive first log l v Nothing mine → v.ended ≡ false → m ≡ record l { taken = l.taken ++ piece } → IsLeftOpen 0 false first log m v mine
live_lost first log l m v piece mine live runs took =
    let more = goes_on l.kind (frames l.kind l.taken) piece in
    let cut : (frames l.kind (l.taken ++ piece)).frames ≡ (frames l.kind l.taken).frames ++ more.0 = ap (λ (f : Framed). f.frames) (cut_anywhere l.kind l.taken piece) ∙ more.1 in
    let old : (frames l.kind l.taken).frames ≡ (messages_in mine ++ []) ++ v.cutter.ready = ap (λ (f : Framed). f.frames) (sym live.cut) in
    subst (λ z. IsLeftOpen 0 false first log z v mine) (sym took) record {
      kind = live.kind;
      cut = (v.cutter.ready ++ more.0, sym (append_assoc (messages_in mine) v.cutter.ready more.0) ∙ ap (λ ms. (ms ++ v.cutter.ready) ++ more.0) (sym (append-nil (messages_in mine))) ∙ ap (λ fs. fs ++ more.0) (sym old) ∙ sym cut);
      full = λ e. absurd (cc e);
      cause = λ e. absurd (cc (e, live.ends, runs));
      shut = live.shut;
      sending = live.sending;
    }

pub loses : (v : Live) (n : ℕ) (buffer : List ℕ) (l m : Link) → v.ended ≡ false → Receives (receive.Got n) buffer l m → Loses v l m
loses v n buffer l m runs took first log mine live = live_lost first log l m v _ mine live runs took

not_said : (a b : Bool) → (a || b) ≡ false → a ≡ false
not_said true b e = e
not_said false b e = refl

pub feeds : (v : Live) (n : ℕ) (buffer piece : List ℕ) (l m : Link) → v.ending ≡ false → v.ended ≡ false → Receives (receive.Got n) buffer l m → piece ≡ take n buffer → Carries v (record v { cutter = fed v.cutter piece; ending = is_bad (fed v.cutter piece).bad }) l m
feeds v n buffer piece l m goes runs took is first log mine live =
    let said : l.ended ≡ false = not_said l.ended (is_bad v.cutter.bad) (sym live.ending ∙ goes) in
    live_fed first log l m v (fed v.cutter piece) piece (is_bad (fed v.cutter piece).bad) mine live (took ∙ ap (λ front. record l { taken = l.taken ++ front }) (sym is)) refl (ap (λ b. b || is_bad (fed v.cutter piece).bad) (sym said)) (λ e. absurd (cc (e, runs)))

-- ---- what stays of a link

some_is : {A : Type 0} (a b : A) → Some a ≡ Some b → a ≡ b
some_is a b e = cc e

pub at_number : (number : ℕ) (v : Option Live) → Some number ≡ option_map number_in v → IsAt number v
at_number number None is = absurd (cc is)
at_number number (Some v) is = some_is number v.conn.number is

pub none_still : (v w : Option Live) → option_map still w ≡ option_map still v → v ≡ None → w ≡ None
none_still v None same none_old = refl
none_still v (Some w) same none_old = absurd (cc (same, ap (option_map still) none_old))

pub closing_still : (v w : Option Live) → option_map still w ≡ option_map still v → IsClosing v → IsClosing w
closing_still v None same closing = tt
closing_still None (Some w) same closing = absurd (cc same)
closing_still (Some v) (Some w) same closing = let is = some_is (still w) (still v) same in (ap (λ s. s.3) is ∙ closing.0, ap (λ s. s.1.ready) is ∙ closing.1)

pub steady_still : (v w : Option Live) → option_map still w ≡ option_map still v → option_map steady w ≡ option_map steady v
steady_still None None same = refl
steady_still None (Some w) same = absurd (cc same)
steady_still (Some v) None same = absurd (cc same)
steady_still (Some v) (Some w) same = ap (λ (s : Conn × Cutting × Bool × Bool). Some (s.0, s.2, s.3)) (some_is (still w) (still v) same)

pub steady_taken : (v w : Option Live) (message : Option (ℕ × List ℕ)) → IsTaken v message w → option_map steady w ≡ option_map steady v
steady_taken None w message taken = ap (option_map steady) taken.1
steady_taken (Some v) w None taken = ap (option_map steady) taken.1
steady_taken (Some v) w (Some message) taken = ap (option_map steady) taken.2

pub at_still : (number : ℕ) (v w : Option Live) → option_map still w ≡ option_map still v → IsAt number v → IsAt number w
at_still number None None same at = at
at_still number None (Some w) same at = absurd at
at_still number (Some v) None same at = absurd (cc same)
at_still number (Some v) (Some w) same at = at ∙ sym (ap (λ (s : Conn × Cutting × Bool × Bool). s.0.number) (some_is (still w) (still v) same))

pub at_taken : (v w : Option Live) (message : ℕ × List ℕ) → IsTaken v (Some message) w → IsAt message.0 w
at_taken None w message taken = absurd (cc taken.0)
at_taken (Some v) w message taken = subst (IsAt message.0) (sym taken.2) taken.1

pub quiet_then : (a b c : Tally) → IsQuiet a b → IsQuiet b c → IsQuiet a c
quiet_then a b c one two = record {
  asked = two.asked ∙ one.asked;
  lost = two.lost ∙ one.lost;
  later = (let first = one.later in let second = two.later in omega arith);
  ended = two.ended ∙ one.ended;
}

-- ---- why a lane ends

-- an error that is handed on
pub err_gives : {T : Type 0} (r : Result T LaneEnd) (end : LaneEnd) (P : LaneEnd → Type 0) → IsErrAnd r (λ e. e ≡ end) → P end → IfErr r P
err_gives (Ok v) end P is p = tt
err_gives (Err e) end P is p = subst P (sym is) p

pub on_ok_as : {T E : Type 0} (r : Result T E) (P Q : Type 0) → (P → Q) → OnOk r P → OnOk r Q
on_ok_as (Ok v) P Q as_q p = as_q p
on_ok_as (Err e) P Q as_q p = tt

pub on_ok : {T E : Type 0} (r : Result T E) (Q : Type 0) → Q → OnOk r Q
on_ok (Ok v) Q q = q
on_ok (Err e) Q q = tt

pub on_err : {T E : Type 0} (r : Result T E) (Q : Type 0) → Q → OnErr r Q
on_err (Ok v) Q q = tt
on_err (Err e) Q q = q

pub both_err : {T E : Type 0} (r : Result T E) (P Q : Type 0) → OnErr r P → OnErr r Q → OnErr r (P × Q)
both_err (Ok v) P Q p q = tt
both_err (Err e) P Q p q = (p, q)

pub if_err_as : {T E : Type 0} (r : Result T E) (P : Type 0) (Q R : E → Type 0) → ((e : E) → P → Q e → R e) → OnErr r P → IfErr r Q → IfErr r R
if_err_as (Ok v) P Q R as_r p q = tt
if_err_as (Err e) P Q R as_r p q = as_r e p q

pub not_open : (b : Bool) → (b ≡ true → ⊥) → b ≡ false
not_open true never = absurd (never refl)
not_open false never = refl

-- ---- a worker goes on

lost_step : (first : ℕ) (log : List Entry) (conns : List Conn) (v : Live) (calls : List (ℕ × Event)) (links old y z : List Link) → y ≡ links ++ old → OnNewest (Loses v) y z → Serves first log links conns (Some v) Nothing calls → (links2 : List Link) × (z ≡ links2 ++ old) × AreLeft 0 false first log links2 (conns ++ v.conn ∷ []) (Some v) calls
lost_step first log conns v calls [] old y z is on serves = absurd serves
lost_step first log conns v calls (l ∷ ls) old y z is on serves =
    let newest : OnNewest (Loses v) (l ∷ (ls ++ old)) z = subst (λ y. OnNewest (Loses v) y z) is on in
    (newest.0 ∷ ls, newest.1, (conns, serves.0, serves.1, refl, serves.2, newest.2 first log serves.1 serves.3, serves.4))

module _ {O : Type 0} (told : Option (List Link)) (before : View O) where
  pub serving_carried : (told' told2 : Option (List Link)) (w : View O) (conns : List Conn) (v v2 : Live) → IsServing told before told' w conns (Some v) Nothing → Follows told' told2 (OnNewest (Carries v v2)) → v2.conn ≡ v.conn → IsServing told before told2 w conns (Some v2) Nothing
  serving_carried told' told2 w conns v v2 s tells same = serving_told told before told' told2 w conns v v2 Nothing Nothing (Carries v v2) s tells same (λ l l2 mine live step. step w.first w.seen mine live)

  -- memory ran out, and bytes were lost
  pub serving_lost : (open_gate : Bool) (end : LaneEnd) (told' told2 : Option (List Link)) (w : View O) (conns : List Conn) (v v2 : Live) → IsServing told before told' w conns (Some v) Nothing → Follows told' told2 (OnNewest (Loses v)) → end ≡ lane_end.NoMemory → v2 ≡ v → HasPlace w (Some v) → IsLeft open_gate end told before told2 w (conns ++ v2.conn ∷ []) (Some v2)
  serving_lost open_gate end told' told2 w conns v v2 s tells is same place = subst (λ (z : LaneEnd × Live). IsLeft open_gate z.0 told before told2 w (conns ++ z.1.conn ∷ []) (Some z.1)) (λ i. (sym is i, sym same i)) record {
    goes = s.goes;
    shares = s.shares;
    calls = s.calls;
    mine = s.mine;
    made = s.made;
    caught = λ fine. absurd (cc fine);
    lane = record {
      own = s.own;
      place = place;
      links = follows_then told told' told2 _ _ _ s.links tells (λ x y z a b. let lost = lost_step w.first w.seen conns v s.calls a.0 x y z a.1 b a.2 in ([], lost.0, lost.1, tt, lost.2));
    };
  }

  -- the link that is served is put away
  pub serving_away : (told' told2 : Option (List Link)) (w : View O) (conns conns2 : List Conn) (live : Option Live) (v : Live) → live ≡ Some v → IsServing told before told' w conns live Nothing → Follows told' told2 (OnNewest Shuts) → conns2 ≡ conns ++ v.conn ∷ [] → IsClosing live → IsCaught w live → IsServing told before told2 w conns2 None Nothing
  serving_away told' told2 w conns conns2 live v is s tells added closing caught =
      let ended = subst IsClosing is closing in
      serving_over told before told' told2 w conns conns2 v (subst (λ l. IsServing told before told' w conns l Nothing) is s) tells added ended.0 ended.1 (subst (IsCaught w) is caught)

module _ {O : Type 0} (told : Option (List Link)) (before : View O) where
  -- memory ran out in the midst of a turn
  pub serving_starved : (open_gate : Bool) (end : LaneEnd) (told' : Option (List Link)) (w : View O) (conns : List Conn) (live : Option Live) (hand : Hand) → IsServing told before told' w conns live hand → HasPlace w live → end ≡ lane_end.NoMemory → IsLeft open_gate end told before told' w (all_conns conns live) live
  serving_starved open_gate end told' w conns live hand s place is = serving_left told before open_gate end told' w conns live hand s place (ap (is_whole open_gate) is) (λ fine. absurd (cc (fine, ap is_fine is)))

  pub serving_come : (told' told2 : Option (List Link)) (w : View O) (conns : List Conn) (live : Option Live) (kind : Kind) → live ≡ None → IsServing told before told' w conns live Nothing → Follows told' told2 (Nexts (next.Link kind)) → IsServing told before told2 w conns live (Unopened kind)
  serving_come told' told2 w conns live kind is s tells = subst (λ l. IsServing told before told2 w conns l (Unopened kind)) (sym is) (serving_next told before told' told2 w conns kind (subst (λ l. IsServing told before told' w conns l Nothing) is s) tells)

  -- no link comes, and the lane ends
  pub serving_gone : (open_gate : Bool) (end : LaneEnd) (told' told2 : Option (List Link)) (w : View O) (conns : List Conn) (live : Option Live) → live ≡ None → IsServing told before told' w conns live Nothing → Follows told' told2 (λ old new. new ≡ old) → IsLeft open_gate end told before told2 w (all_conns conns live) live
  serving_gone open_gate end told' told2 w conns live is s tells = serving_done told before open_gate end told2 w conns live (serving_same told before told' told2 w conns live Nothing s tells) (subst (HasPlace w) (sym is) tt) (subst IsSettled (sym is) tt) (subst (IsCaught w) (sym is) tt)

  pub serving_fresh : (told' : Option (List Link)) (w w2 : View O) (conns : List Conn) (live : Option Live) (v : Live) (kind : Kind) (place : ℕ) → live ≡ None → IsServing told before told' w conns live (Unopened kind) → IsCalled w w2 place (Open kind) → IsInTime w2.first w2.seen
      → v.conn ≡ record { number = place; kind = kind } → v.cutter ≡ record { kind = kind; ready = []; rest = []; bad = None } → v.from ≡ place → (v.ending ≡ false) × (v.failed ≡ false) × (v.ended ≡ false) → IsServing told before told' w2 conns (Some v) Nothing
  serving_fresh told' w w2 conns live v kind place is s did timely conn cutter from runs =
      let k : kind ≡ v.conn.kind = sym (ap (λ (c : Conn). c.kind) conn) in
      serving_opened told before told' w w2 conns v place (subst (λ (z : Option Live × Kind). IsServing told before told' w conns z.0 (Unopened z.1)) (λ i. (is i, k i)) s) (subst (λ z. IsCalled w w2 place (Open z)) k did) timely (ap (λ (c : Conn). c.number) conn)
      (subst (λ z. v.cutter ≡ record { kind = z; ready = []; rest = []; bad = None }) k cutter) (from ∙ sym (ap (λ (c : Conn). c.number) conn)) runs.0 runs.1 runs.2

-- at the beginning there is no link
pub serving_begins : {O : Type 0} (told : Option (List Link)) (v : View O) → IsServing told v told v [] None Nothing
serving_begins told v = record {
  goes = goes_self v;
  shares = refl;
  calls = [];
  mine = sym (append-nil v.mine);
  made = omega arith;
  own = refl;
  links = none_yet told;
}
  where
    none_yet : (told : Option (List Link)) → Follows told told (λ old new. (links : List Link) × (new ≡ links ++ old) × Serves v.first v.seen links [] None Nothing [])
    none_yet None = tt
    none_yet (Some list) = ([], refl, (refl, refl))

-- a turn in which a lane's turns run out is one in which the gate held it back
pub held_back : {O : Type 0} (may_halt : List Entry → Halt → Type 0) (open_gate : Bool) (turns : ℕ) (v : View O) (before after : Tally) (end : LaneEnd) (n : ℕ) → IsTurnEnd may_halt open_gate turns v before after end → end ≡ lane_end.Turns n → open_gate ≡ false
held_back may_halt open_gate turns v before after (lane_end.Turns m) n is same = is.1
held_back may_halt open_gate turns v before after (lane_end.Stopped reason count) n is same = absurd (cc same)
held_back may_halt open_gate turns v before after lane_end.NoMemory n is same = absurd (cc same)
held_back may_halt open_gate turns v before after lane_end.End n is same = absurd (cc same)
held_back may_halt open_gate turns v before after (lane_end.Failed count) n is same = absurd (cc same)

pub part_held : (open_gate : Bool) (end : LaneEnd) (n : ℕ) → is_whole open_gate end ≡ false → end ≡ lane_end.Turns n → open_gate ≡ false
part_held open_gate end n part is = sym (ap (is_whole open_gate) is) ∙ part
