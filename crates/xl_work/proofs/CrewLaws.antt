-- Laws of lanes and callers that are served at once.
use Rattle.std.proofs.Common.{◌≡◌, ℕ, ◌+◌, ◌-◌, ◌/◌, ◌≤◌, ◌<◌, ◌^◌, Bool, true, false, List, [], ◌∷◌, ◌++◌, length, sym, refl, ap, ◌∙◌, subst, arith, Option, Some, None, IfSome, Result, Ok, Err, IfOk, IsOkAnd, append_assoc, length-append, div-add-mod'}
use Rattle.std.proofs.lemmas.Bool.Decides.{nat_tests}
use Rattle.xl_base.specs.Memory.{counted}
use Rattle.xl_base.specs.Outside.{Rose}
use Rattle.xl_base.specs.Serials.{IsInTime}
use Rattle.xl_base.specs.declared.event.Event.{Event}
use Rattle.xl_base.specs.declared.halt.Halt.{Halt}
use Rattle.xl_base.specs.declared.journal.Entry.{Entry}
use Rattle.xl_base.specs.declared.lane_end.LaneEnd.{LaneEnd}
use Rattle.xl_base.specs.declared.lane_end.LaneEnd.TheVariants as lane_end
use Rattle.xl_desk.specs.Passes.{Goes, IsJoined}
use Rattle.xl_desk.specs.Turns.{half, halved}
use Rattle.xl_desk.specs.declared.view.View.{View}
use Rattle.xl_work.specs.Calls.{CallerMade, IsCut, IsEnd, RoseAtMost, RoseBy}
use Rattle.xl_work.specs.Crews.{AreDone, AreServed, DoesCaller, Hears, LeavesLane, TellsCaller, TellsLane, next_caller, next_lane}
use Rattle.xl_work.specs.Lives.{IsBroken, IsLaneEnd, IsOwnEnd, IsQuiet, IsTurnEnd, Tally, is_whole}
use Rattle.xl_work.specs.declared.calls.CallerPost.{CallerPost}
use Rattle.xl_work.specs.declared.calls.CallsDone.{CallsDone}
use Rattle.xl_work.specs.declared.worker.LaneDone.{LaneDone}
use Rattle.xl_work.specs.declared.worker.LanePost.{LanePost}
use Rattle.xl_work.proofs.CallLaws.{caller_grows, goes_then}
use Rattle.xl_work.proofs.RestLaws.{left_goes}

-- ---- workers one behind another

-- the post behind those of these workers
abbrev pub behind : {P W : Type 0} → (P → P) → List W → P → P
behind next [] post = post
behind next (w ∷ ws) post = behind next ws (next post)

module _ {P W D : Type 0} (next : P → P) where
  pub done_as : (is is' : P → W → D → List (ℕ × Event) → Type 0) (post : P) (ws : List W) (ds : List D) (calls : List (ℕ × Event)) → ((p : P) (w : W) (d : D) (mine : List (ℕ × Event)) → is p w d mine → is' p w d mine) → AreDone next is post ws ds calls → AreDone next is' post ws ds calls
  done_as is is' post [] [] calls as_is done = done
  done_as is is' post [] (d ∷ ds) calls as_is done = absurd done
  done_as is is' post (w ∷ ws) [] calls as_is done = absurd done
  done_as is is' post (w ∷ ws) (d ∷ ds) calls as_is done = (done.0, done.1, done.2, as_is post w d done.0 done.3, done_as is is' (next post) ws ds done.1 as_is done.4)

  pub done_append : (is : P → W → D → List (ℕ × Event) → Type 0) (post : P) (xs ys : List W) (ds es : List D) (calls more : List (ℕ × Event)) → AreDone next is post xs ds calls → AreDone next is (behind next xs post) ys es more → AreDone next is post (xs ++ ys) (ds ++ es) (calls ++ more)
  done_append is post [] ys [] es calls more one two = subst (λ front. AreDone next is post ys es (front ++ more)) (sym one) two
  done_append is post [] ys (d ∷ ds) es calls more one two = absurd one
  done_append is post (x ∷ xs) ys [] es calls more one two = absurd one
  done_append is post (x ∷ xs) ys (d ∷ ds) es calls more one two = (one.0, one.1 ++ more, ap (λ front. front ++ more) one.2 ∙ append_assoc one.0 one.1 more, one.3, done_append is (next post) xs ys ds es one.1 more one.4 two)

pub lanes_behind : {L : Type 0} (ls : List L) (post : LanePost) → behind next_lane ls post ≡ record { place = post.place + length ls; turns = post.turns }
lanes_behind [] post = ap (λ (n : ℕ). record { place = n; turns = post.turns }) (omega arith)
lanes_behind (l ∷ ls) post = lanes_behind ls (next_lane post) ∙ ap (λ (n : ℕ). record { place = n; turns = post.turns }) (omega arith)

pub callers_behind : {C : Type 0} (cs : List C) (post : CallerPost) → behind next_caller cs post ≡ record { place = post.place + length cs; turns = post.turns; share = post.share + length cs; of = post.of }
callers_behind [] post = ap (λ (z : ℕ × ℕ). record { place = z.0; turns = post.turns; share = z.1; of = post.of }) (λ i. (plus_none post.place i, plus_none post.share i))
  where
    plus_none : (n : ℕ) → n ≡ n + 0
    plus_none n = omega arith
callers_behind (c ∷ cs) post =
    let place : (post.place + 1) + length cs ≡ post.place + length (c ∷ cs) = omega arith in
    let share : (post.share + 1) + length cs ≡ post.share + length (c ∷ cs) = omega arith in
    callers_behind cs (next_caller post) ∙ ap (λ (z : ℕ × ℕ). record { place = z.0; turns = post.turns; share = z.1; of = post.of }) (λ i. (place i, share i))

-- ---- passes that are cut and joined

-- the shares of both halves are all
pub halves_add : (n a b c : ℕ) → a ≡ n - n / 2 → b ≡ n / 2 → c ≡ a + b → c ≡ n
halves_add n a b c one two sum = let size = div-add-mod' n 2 in omega arith

module _ {O : Type 0} where
  pub goes_halved : (b v : View O) → Goes (halved b) v → Goes b v
  goes_halved b v goes = record { seen = goes.seen; origin = goes.origin; first = goes.first; start = goes.start; halt = goes.halt; whole = goes.whole }

  pub goes_half : (b v : View O) → Goes (half b) v → Goes b v
  goes_half b v goes = record { seen = goes.seen; origin = goes.origin; first = goes.first; start = goes.start; halt = goes.halt; whole = goes.whole }

  stops_halt : (halt : Option Halt) (v : View O) (seen : List Entry) → IfSome halt (λ reason. (v.halt ≡ Some reason) × (v.seen ≡ seen)) → IfSome halt (λ reason. v.halt ≡ Some reason)
  stops_halt None v seen stops = tt
  stops_halt (Some reason) v seen stops = stops.0

  stops_whole : (halt : Option Halt) (v : View O) (seen : List Entry) → IfSome halt (λ reason. (v.halt ≡ Some reason) × (v.seen ≡ seen)) → IfSome halt (λ _. v.seen ≡ seen)
  stops_whole None v seen stops = tt
  stops_whole (Some reason) v seen stops = stops.1

  -- the pass that was joined into another goes on in that one, if both began as one
  pub goes_joined : (b v w u : View O) → Goes b v → Goes b w → IsJoined v w u → Goes w u
  goes_joined b v w u one two joined = record {
    seen = joined.told;
    origin = joined.goes.origin ∙ one.origin ∙ sym two.origin;
    first = joined.goes.first ∙ one.first ∙ sym two.first;
    start = joined.goes.start ∙ one.start ∙ sym two.start;
    halt = stops_halt w.halt u w.seen joined.stops;
    whole = stops_whole w.halt u w.seen joined.stops;
  }

  pub hears_goes : (v w : View O) → Goes v w → Hears v w
  hears_goes v w goes = both v.halt goes.halt goes.whole
    where
      both : (halt : Option Halt) → IfSome halt (λ reason. w.halt ≡ Some reason) → IfSome halt (λ _. w.seen ≡ v.seen) → IfSome halt (λ reason. (w.halt ≡ Some reason) × (w.seen ≡ v.seen))
      both None one two = tt
      both (Some reason) one two = (one, two)

-- ---- ends

module _ {O : Type 0} (may_halt : List Entry → Halt → Type 0) (v w : View O) (hears : Hears v w) where
  pub cut_heard : (end : LaneEnd) → IsCut may_halt v end → IsCut may_halt w end
  cut_heard (lane_end.Stopped reason count) cut =
      let heard = subst (λ halt. IfSome halt (λ r. (w.halt ≡ Some r) × (w.seen ≡ v.seen))) cut.0 hears in
      (heard.0, ap length heard.1 ∙ cut.1, subst (λ log. may_halt log reason) (sym heard.1) cut.2)
  cut_heard lane_end.NoMemory cut = cut
  cut_heard (lane_end.Turns n) cut = absurd cut
  cut_heard lane_end.End cut = absurd cut
  cut_heard (lane_end.Failed count) cut = absurd cut

  pub broken_heard : (open_gate : Bool) (turns : ℕ) (end : LaneEnd) → IsBroken may_halt open_gate turns v end → IsBroken may_halt open_gate turns w end
  broken_heard open_gate turns (lane_end.Turns n) is = is
  broken_heard open_gate turns lane_end.End is = absurd is
  broken_heard open_gate turns (lane_end.Failed count) is = absurd is
  broken_heard open_gate turns (lane_end.Stopped reason count) is = cut_heard (lane_end.Stopped reason count) is
  broken_heard open_gate turns lane_end.NoMemory is = is

  pub cut_broken : (open_gate : Bool) (turns : ℕ) (end : LaneEnd) → IsCut may_halt v end → IsBroken may_halt open_gate turns w end
  cut_broken open_gate turns (lane_end.Turns n) is = absurd is
  cut_broken open_gate turns lane_end.End is = absurd is
  cut_broken open_gate turns (lane_end.Failed count) is = absurd is
  cut_broken open_gate turns (lane_end.Stopped reason count) is = cut_heard (lane_end.Stopped reason count) is
  cut_broken open_gate turns lane_end.NoMemory is = tt

  -- of a turn that waited for nothing before
  pub turn_end_heard : (open_gate : Bool) (turns : ℕ) (before after : Tally) (end : LaneEnd) → IsTurnEnd may_halt open_gate turns v before after end → IsTurnEnd may_halt open_gate turns w before after end
  turn_end_heard open_gate turns before after (lane_end.Turns n) is = is
  turn_end_heard open_gate turns before after lane_end.End is = is
  turn_end_heard open_gate turns before after (lane_end.Failed count) is = is
  turn_end_heard open_gate turns before after (lane_end.Stopped reason count) is = cut_heard (lane_end.Stopped reason count) is
  turn_end_heard open_gate turns before after lane_end.NoMemory is = tt

  pub lane_end_heard : (open_gate : Bool) (turns : ℕ) (before after : Tally) (end : LaneEnd) → IsLaneEnd may_halt open_gate turns v before after end → IsLaneEnd may_halt open_gate turns w before after end
  lane_end_heard open_gate turns before after (lane_end.Turns n) is = is
  lane_end_heard open_gate turns before after lane_end.End is = is
  lane_end_heard open_gate turns before after (lane_end.Failed count) is = is
  lane_end_heard open_gate turns before after (lane_end.Stopped reason count) is = cut_heard (lane_end.Stopped reason count) is
  lane_end_heard open_gate turns before after lane_end.NoMemory is = is

  pub calls_end_heard : (open_gate : Bool) (turns asked asked' : ℕ) (end : LaneEnd) → IsEnd may_halt open_gate turns v asked asked' end → IsEnd may_halt open_gate turns w asked asked' end
  calls_end_heard open_gate turns asked asked' (lane_end.Turns n) is = is
  calls_end_heard open_gate turns asked asked' lane_end.End is = absurd is
  calls_end_heard open_gate turns asked asked' (lane_end.Failed count) is = absurd is
  calls_end_heard open_gate turns asked asked' (lane_end.Stopped reason count) is = cut_heard (lane_end.Stopped reason count) is
  calls_end_heard open_gate turns asked asked' lane_end.NoMemory is = is

-- ---- what workers came to stands in what a pass sees later

module _ {O L : Type 0} (t : TellsLane L) (may_halt : List Entry → Halt → Type 0) (open_gate : Bool) where
  pub leaves_goes : (v w : View O) → Goes v w → IsInTime w.first w.seen → (post : LanePost) (lane : L) (d : LaneDone L) (calls : List (ℕ × Event)) → LeavesLane t may_halt open_gate v post lane d calls → LeavesLane t may_halt open_gate w post lane d calls
  leaves_goes v w goes timely post lane d calls leaves = record {
    left = left_goes v w 0 open_gate d.end (t.links lane) (t.links d.lane) d.conns.items d.live calls goes timely leaves.left;
    end = lane_end_heard may_halt v w (hears_goes v w goes) open_gate post.turns (t.counts lane) (t.counts d.lane) d.end leaves.end;
    most = leaves.most;
  }

module _ {O C : Type 0} (t : TellsCaller C) (may_halt : List Entry → Halt → Type 0) (open_gate : Bool) where
  pub does_goes : (start : ℕ) (v w : View O) → Goes v w → (post : CallerPost) (caller : C) (d : CallsDone C) (calls : List (ℕ × Event)) → DoesCaller t may_halt open_gate start v post caller d calls → DoesCaller t may_halt open_gate start w post caller d calls
  does_goes start v w goes post caller d calls does = record {
    made = subst (λ (z : ℕ × List Entry). CallerMade post start z.0 z.1 (t.calls caller) (t.calls d.caller) calls) (λ i. (sym goes.first i, goes.seen.1 i)) (caller_grows post start v.first v.seen goes.seen.0 (t.calls caller) (t.calls d.caller) calls does.made);
    end = calls_end_heard may_halt v w (hears_goes v w goes) open_gate post.turns (t.asked caller) (t.asked d.caller) d.end does.end;
    most = does.most;
  }

-- ---- both halves

pub if_one : {V X E D : Type 0} (items : V → D) (r : Result X E) (a : Result V E) (P : D → Type 0) (R : X → Type 0) (Together : X → D → Type 0) → IfOk r (λ all. IsOkAnd a (λ xs. Together all (items xs))) → IfOk a (λ xs. P (items xs)) → ((all : X) (xs : D) → Together all xs → P xs → R all) → IfOk r R
if_one items (Ok all) (Ok xs) P R Together is p gives = gives all (items xs) is p
if_one items (Ok all) (Err e) P R Together is p gives = absurd is
if_one items (Err e) a P R Together is p gives = tt

pub if_ok_as : {V E : Type 0} (r : Result V E) (P R : V → Type 0) → IfOk r P → ((v : V) → P v → R v) → IfOk r R
if_ok_as (Ok v) P R p gives = gives v p
if_ok_as (Err e) P R p gives = tt

-- both came to something
pub if_both : {V W X E D F : Type 0} (items : V → D) (items2 : W → F) (r : Result X E) (a : Result V E) (b : Result W E) (P : D → Type 0) (Q : F → Type 0) (R : X → Type 0) (Together : X → D → F → Type 0) → IfOk r (λ all. IsOkAnd a (λ xs. IsOkAnd b (λ ys. Together all (items xs) (items2 ys)))) → IfOk a (λ xs. P (items xs)) → IfOk b (λ ys. Q (items2 ys)) → ((all : X) (xs : D) (ys : F) → Together all xs ys → P xs → Q ys → R all) → IfOk r R
if_both items items2 (Ok all) (Ok xs) (Ok ys) P Q R Together is p q gives = gives all (items xs) (items2 ys) is p q
if_both items items2 (Ok all) (Ok xs) (Err e) P Q R Together is p q gives = absurd is
if_both items items2 (Ok all) (Err e) b P Q R Together is p q gives = absurd is
if_both items items2 (Err e) a b P Q R Together is p q gives = tt

module _ {O P W D : Type 0} (next : P → P) (is : View O → P → W → D → List (ℕ × Event) → Type 0) where
  -- what both halves of a pass, joined again, came to
  pub served_both : (post post2 : P) (all xs ys : List W) (b v w u : View O) (ds es both : List D) → all ≡ xs ++ ys → post2 ≡ behind next xs post → both ≡ ds ++ es → AreServed next is post xs (halved b) v ds → AreServed next is post2 ys (half b) w es → IsJoined v w u
      → ((z : View O) → Goes z u → (p : P) (x : W) (d : D) (calls : List (ℕ × Event)) → is z p x d calls → is u p x d calls) → AreServed next is post all b u both
  served_both post post2 all xs ys b v w u ds es both cut place joined_items one two joined stays =
      let front = goes_halved b v one.goes in
      let back = goes_half b w two.goes in
      let made = joined.made in
      let some_made = one.made in
      let other_made = two.made in record {
        goes = goes_then b v u front joined.goes;
        shares = halves_add b.shares _ _ _ one.shares two.shares joined.shares;
        calls = one.calls ++ two.calls;
        mine = joined.mine ∙ ap (λ (z : List (ℕ × Event) × List (ℕ × Event)). z.0 ++ z.1) (λ i. (one.mine i, two.mine i)) ∙ append_assoc b.mine one.calls two.calls;
        made = omega (arith, length-append one.calls two.calls);
        each = subst (λ (z : List W × List D). AreDone next (is u) post z.0 z.1 (one.calls ++ two.calls)) (λ i. (sym cut i, sym joined_items i))
            (done_append next (is u) post xs ys ds es one.calls two.calls (done_as next (is v) (is u) post xs ds one.calls (stays v joined.goes) one.each) (subst (λ p. AreDone next (is u) p ys es two.calls) place (done_as next (is w) (is u) post2 ys es two.calls (stays w (goes_joined b v w u front back joined)) two.each)));
      }

-- ---- a turn behind a reading

rose_later : (a b c : ℕ) → a ≤ b → Rose b c → Rose a c
rose_later a b c later rose below = (let more = rose below in omega arith)

-- before a turn only the count of faults may have risen
later_own : (a b c : Tally) (end : LaneEnd) → IsQuiet a b → IsOwnEnd b c end → IsOwnEnd a c end
later_own a b c lane_end.End quiet own = own
later_own a b c (lane_end.Failed count) quiet own = (own.0 ∙ ap counted quiet.lost, rose_later a.faults b.faults c.faults quiet.later own.1, own.2)
later_own a b c (lane_end.Turns n) quiet own = absurd own
later_own a b c (lane_end.Stopped reason count) quiet own = absurd own
later_own a b c lane_end.NoMemory quiet own = absurd own

pub turn_behind : {O : Type 0} (may_halt : List Entry → Halt → Type 0) (open_gate : Bool) (turns : ℕ) (v : View O) (a b c : Tally) (end : LaneEnd) → IsQuiet a b → IsTurnEnd may_halt open_gate turns v b c end → IsTurnEnd may_halt open_gate turns v a c end
turn_behind may_halt open_gate turns v a b c lane_end.End quiet is = (later_own a b c lane_end.End quiet is.0, is.1 ∙ ap counted quiet.asked)
turn_behind may_halt open_gate turns v a b c (lane_end.Failed count) quiet is = (later_own a b c (lane_end.Failed count) quiet is.0, is.1 ∙ ap counted quiet.asked)
turn_behind may_halt open_gate turns v a b c (lane_end.Turns n) quiet is = is
turn_behind may_halt open_gate turns v a b c (lane_end.Stopped reason count) quiet is = is
turn_behind may_halt open_gate turns v a b c lane_end.NoMemory quiet is = is

-- a turn that was cut off before its wait
pub turn_cut : {O : Type 0} (may_halt : List Entry → Halt → Type 0) (open_gate : Bool) (turns : ℕ) (v : View O) (a c : Tally) (end : LaneEnd) → IsBroken may_halt open_gate turns v end → IsTurnEnd may_halt open_gate turns v a c end
turn_cut may_halt open_gate turns v a c (lane_end.Turns n) is = is
turn_cut may_halt open_gate turns v a c lane_end.End is = absurd is
turn_cut may_halt open_gate turns v a c (lane_end.Failed count) is = absurd is
turn_cut may_halt open_gate turns v a c (lane_end.Stopped reason count) is = is
turn_cut may_halt open_gate turns v a c lane_end.NoMemory is = is

-- a turn that was broken leaves no whole lane
pub broken_part : {O : Type 0} (may_halt : List Entry → Halt → Type 0) (v : View O) (open_gate : Bool) (turns : ℕ) (end : LaneEnd) → IsBroken may_halt open_gate turns v end → is_whole open_gate end ≡ false
broken_part may_halt v open_gate turns (lane_end.Turns n) is = is.1
broken_part may_halt v open_gate turns lane_end.End is = absurd is
broken_part may_halt v open_gate turns (lane_end.Failed count) is = absurd is
broken_part may_halt v open_gate turns (lane_end.Stopped reason count) is = refl
broken_part may_halt v open_gate turns lane_end.NoMemory is = refl

-- a whole lane that ended in a turn waited in it, through an open gate
pub turn_waited : {O : Type 0} (may_halt : List Entry → Halt → Type 0) (v : View O) (open_gate : Bool) (turns : ℕ) (a c : Tally) (end : LaneEnd) → IsTurnEnd may_halt open_gate turns v a c end → is_whole open_gate end ≡ true → (open_gate ≡ true) × (c.asked ≡ counted a.asked)
turn_waited may_halt v open_gate turns a c (lane_end.Turns n) is whole = absurd (cc (is.1, whole))
turn_waited may_halt v open_gate turns a c lane_end.End is whole = (whole, is.1)
turn_waited may_halt v open_gate turns a c (lane_end.Failed count) is whole = (whole, is.1)
turn_waited may_halt v open_gate turns a c (lane_end.Stopped reason count) is whole = absurd (cc whole)
turn_waited may_halt v open_gate turns a c lane_end.NoMemory is whole = absurd (cc whole)

-- one more was counted
pub counted_once : (before now : ℕ) → now ≡ counted before → RoseAtMost 1 before now
counted_once before now is = subst (λ n. n ≤ before + 1) (sym is) (at_most before)
  where
    at_most : (n : ℕ) → counted n ≤ n + 1
    at_most n = grind (arith, nat_tests)

-- of so many turns the last is over
pub once_more : (done turns before now after : ℕ) → RoseAtMost done before now → RoseAtMost 1 now after → done < turns → RoseAtMost turns before after
once_more done turns before now after rose once more = omega arith

pub rose_more : (n before now after : ℕ) → RoseBy n before now → after ≡ counted now → RoseBy (n + 1) before after
rose_more n before now after rose is below =
    let low : now + 1 < 2 ^ 64 - 1 = not_last now (subst (λ z. z < 2 ^ 64 - 1) is below) in
    let was : now ≡ before + n = rose (omega arith) in
    is ∙ one_count now low ∙ (omega arith)
  where
    not_last : (n : ℕ) → counted n < 2 ^ 64 - 1 → n + 1 < 2 ^ 64 - 1
    not_last n below = grind (arith, nat_tests)

    one_count : (n : ℕ) → n + 1 < 2 ^ 64 - 1 → counted n ≡ n + 1
    one_count n below = grind (arith, nat_tests)
