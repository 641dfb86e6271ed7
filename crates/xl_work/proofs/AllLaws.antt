-- Laws of all that serves a machine.
use Rattle.std.proofs.Common.{◌≡◌, ℕ, ◌+◌, ◌≤◌, ◌==◌, Bool, true, false, List, [], ◌∷◌, ◌++◌, length, take, drop, slice_index_or, sym, refl, ap, ◌∙◌, subst, arith, Option, Some, None, IfSome, append_assoc}
use Rattle.std.proofs.lemmas.Bool.Decides.{nat_tests}
use Rattle.std.proofs.lemmas.List.{append-nil}
use mathlib.Core.List.{IsPrefix}
use Rattle.xl_base.specs.Serials.{IsInTime}
use Rattle.xl_base.specs.Telling.{Follows}
use Rattle.xl_base.specs.declared.event.Event.{Event}
use Rattle.xl_base.specs.declared.event.Moment.{Moment}
use Rattle.xl_base.specs.declared.halt.Halt.{Halt}
use Rattle.xl_base.specs.declared.journal.Entry.{Entry}
use Rattle.xl_base.specs.declared.lane_end.LaneEnd.{LaneEnd}
use Rattle.xl_base.specs.declared.lane_end.LaneEnd.TheVariants as lane_end
use Rattle.xl_desk.specs.Passes.{Goes, IsJoined, IsLooked}
use Rattle.xl_desk.specs.Turns.{half, halved}
use Rattle.xl_desk.specs.declared.view.View.{View}
use Rattle.xl_work.specs.Calls.{RoseAtMost, RoseBy}
use Rattle.xl_work.specs.Crews.{AreDone, AreFirstTicks, AreOthersServed, AreServed, DoesCaller, DoesLane, Hears, IsCrewLeft, IsCrewServed, IsFirstServed, LeavesLane, TellsCaller, TellsLane, first_caller, first_lane, next_caller, next_lane}
use Rattle.xl_work.specs.Lives.{IsLaneEnd, IsLeft, LaneLeft, Tally, is_fine, is_whole}
use Rattle.xl_work.specs.Rests.{ArePlaced, AreRested, IsRested}
use Rattle.xl_work.specs.Ticks.{AreTicks, IsTimed, events, ticks}
use Rattle.xl_work.specs.declared.all.Crew.{Crew}
use Rattle.xl_work.specs.declared.all.CrewDone.{CrewDone}
use Rattle.xl_work.specs.declared.calls.CallsDone.{CallsDone}
use Rattle.xl_work.specs.declared.worker.Conn.{Conn}
use Rattle.xl_work.specs.declared.worker.LaneDone.{LaneDone}
use Rattle.xl_work.specs.declared.worker.LanePost.{LanePost}
use Rattle.xl_work.specs.declared.worker.Live.{Live}
use Rattle.xl_work.proofs.CallLaws.{follows_as, goes_then}
use Rattle.xl_work.proofs.CrewLaws.{does_goes, done_as, goes_half, goes_halved, goes_joined, halves_add, hears_goes, leaves_goes, lane_end_heard}
use Rattle.xl_work.proofs.RestLaws.{left_goes, left_told}

-- ---- the first of the lanes

pub no_items : {X : Type 0} (xs : List X) → (length xs == 0) ≡ true → xs ≡ []
no_items [] none = refl
no_items (x ∷ xs) none = absurd (grind (arith, nat_tests))

pub first_of_items : {X : Type 0} (xs ys : List X) (x : X) → (length xs == 0) ≡ false → x ≡ slice_index_or xs 0 x → ys ≡ take 0 xs ++ drop 1 xs → xs ≡ x ∷ ys
first_of_items [] ys x some first rest = absurd (grind (arith, nat_tests))
first_of_items (z ∷ zs) ys x some first rest = λ i. sym first i ∷ sym rest i

-- ---- the first lane

no_ticks_yet : (told : Option (List Moment)) (asked : ℕ) → AreTicks false asked asked told told []
no_ticks_yet told asked = record { are = tt; ticks = none_yet told }
  where
    none_yet : (told : Option (List Moment)) → Follows told told (λ old new. (readings : List Moment) × (new ≡ old ++ readings) × IsPrefix (events []) (ticks readings) × (false ≡ true → (events [] ≡ ticks readings) × RoseBy (length readings) asked asked))
    none_yet None = tt
    none_yet (Some list) = ([], sym (append-nil list), ([], refl), λ e. absurd (cc e))

module _ {O L : Type 0} (t : TellsLane L) (may_halt : List Entry → Halt → Type 0) (open_gate : Bool) where
  -- the lane's pass, and that of its clock, are joined
  pub first_joined : (post : LanePost) (lane : L) (told told' : Option (List Moment)) (b v w u : View O) (d : LaneDone L) → IsLeft open_gate d.end (t.links lane) (halved b) (t.links d.lane) v d.conns.items d.live → IsTimed (is_whole open_gate d.end) (t.counts lane).asked (t.counts d.lane).asked told (half b) told' w
      → ((z : View O) → Hears v z → Hears w z → IsLaneEnd may_halt open_gate post.turns z (t.counts lane) (t.counts d.lane) d.end) → RoseAtMost post.turns (t.counts lane).asked (t.counts d.lane).asked → IsJoined v w u → IsInTime u.first u.seen → IsFirstServed t may_halt open_gate post lane told b told' u d
  first_joined post lane told told' b v w u d left timed end most joined timely =
      let made = joined.made in
      let some_made = left.made in
      let other_made = timed.made in record {
        goes = goes_then b v u (goes_halved b v left.goes) joined.goes;
        shares = halves_add b.shares _ _ _ left.shares timed.shares joined.shares;
        calls = left.calls;
        entered = timed.calls;
        mine = joined.mine ∙ ap (λ (z : List (ℕ × Event) × List (ℕ × Event)). z.0 ++ z.1) (λ i. (left.mine i, timed.mine i)) ∙ append_assoc b.mine left.calls timed.calls;
        made = omega arith;
        leaves = record {
          left = left_goes v u 0 open_gate d.end (t.links lane) (t.links d.lane) d.conns.items d.live left.calls joined.goes timely left.lane;
          end = end u (hears_goes v u joined.goes) joined.stops;
          most = most;
        };
        ticks = timed.ticks;
      }

  -- by what the lane's worker was left with
  pub first_done : (post : LanePost) (lane : L) (told told' : Option (List Moment)) (b hb hw v x w u : View O) (d : LaneDone L) (lane2 : L) (why : LaneEnd) (conns2 : List Conn) (live2 : Option Live) → hb ≡ halved b → hw ≡ half b → v ≡ x → d.lane ≡ lane2 → d.end ≡ why → d.conns.items ≡ conns2 → d.live ≡ live2
      → IsLeft open_gate why (t.links lane) hb (t.links lane2) x conns2 live2 → IsTimed (is_whole open_gate why) (t.counts lane).asked (t.counts lane2).asked told hw told' w → ((z : View O) → Hears x z → Hears w z → IsLaneEnd may_halt open_gate post.turns z (t.counts lane) (t.counts lane2) why) → RoseAtMost post.turns (t.counts lane).asked (t.counts lane2).asked → IsJoined v w u → IsInTime u.first u.seen
      → IsFirstServed t may_halt open_gate post lane told b told' u d
  first_done post lane told told' b hb hw v x w u d lane2 why conns2 live2 halved_is half_is view_is lane_is end_is conns_is live_is left timed end most joined timely =
      first_joined post lane told told' b v w u d
      (subst (λ (z : View O × L × LaneEnd × List Conn × Option Live × View O). IsLeft open_gate z.2 (t.links lane) z.5 (t.links z.1) z.0 z.3 z.4) (λ i. (sym view_is i, sym lane_is i, sym end_is i, sym conns_is i, sym live_is i, halved_is i)) left)
      (subst (λ (z : L × LaneEnd × View O). IsTimed (is_whole open_gate z.1) (t.counts lane).asked (t.counts z.0).asked told z.2 told' w) (λ i. (sym lane_is i, sym end_is i, half_is i)) timed)
      (λ z one two. subst (λ (y : L × LaneEnd). IsLaneEnd may_halt open_gate post.turns z (t.counts lane) (t.counts y.0) y.1) (λ i. (sym lane_is i, sym end_is i)) (end z (subst (λ y. Hears y z) view_is one) two))
      (subst (λ (z : L). RoseAtMost post.turns (t.counts lane).asked (t.counts z).asked) (sym lane_is) most) joined timely

  -- memory ran out before it had a link
  pub first_starved : (post : LanePost) (lane : L) (told : Option (List Moment)) (b : View O) (d : LaneDone L) → IsLeft open_gate lane_end.NoMemory (t.links lane) b (t.links d.lane) b d.conns.items d.live → d.lane ≡ lane → d.end ≡ lane_end.NoMemory → IsFirstServed t may_halt open_gate post lane told b told b d
  first_starved post lane told b d left same is = record {
    goes = left.goes;
    shares = left.shares;
    calls = left.calls;
    entered = [];
    mine = left.mine ∙ ap (λ cs. b.mine ++ cs) (sym (append-nil left.calls));
    made = (let one = left.made in omega arith);
    leaves = record {
      left = subst (λ end. LaneLeft 0 open_gate end b.first b.seen (t.links lane) (t.links d.lane) d.conns.items d.live left.calls) (sym is) left.lane;
      end = subst (λ end. IsLaneEnd may_halt open_gate post.turns b (t.counts lane) (t.counts d.lane) end) (sym is) tt;
      most = subst (λ (z : L). RoseAtMost post.turns (t.counts lane).asked (t.counts z).asked) (sym same) (omega arith);
    };
    ticks = subst (λ (z : LaneEnd × L). AreTicks (is_whole open_gate z.0) (t.counts lane).asked (t.counts z.1).asked told told []) (λ i. (sym is i, sym same i)) (no_ticks_yet told (t.counts lane).asked);
  }

-- ---- all lanes and callers

module _ {O L C : Type 0} (tl : TellsLane L) (tc : TellsCaller C) (may_halt : List Entry → Halt → Type 0) (open_gate : Bool) where
  -- lanes and callers, whose passes are joined
  pub others_joined : (crew : Crew L C) (place : ℕ) (b v w u : View O) (done : CrewDone L C) → AreServed next_lane (LeavesLane tl may_halt open_gate) (record { place = place; turns = crew.turns }) crew.lanes.items (halved b) v done.lanes.items
      → AreServed next_caller (DoesCaller tc may_halt open_gate (b.first + length b.seen)) (record { place = place + length crew.lanes.items; turns = crew.turns; share = 0; of = length crew.callers.items }) crew.callers.items (half b) w done.callers.items → IsJoined v w u → IsInTime u.first u.seen → AreOthersServed tl tc may_halt open_gate crew place b u done
  others_joined crew place b v w u done one two joined timely =
      let front = goes_halved b v one.goes in
      let back = goes_half b w two.goes in
      let made = joined.made in
      let some_made = one.made in
      let other_made = two.made in record {
        goes = goes_then b v u front joined.goes;
        shares = halves_add b.shares _ _ _ one.shares two.shares joined.shares;
        others = one.calls;
        called = two.calls;
        mine = joined.mine ∙ ap (λ (z : List (ℕ × Event) × List (ℕ × Event)). z.0 ++ z.1) (λ i. (one.mine i, two.mine i)) ∙ append_assoc b.mine one.calls two.calls;
        made = omega arith;
        lanes = done_as next_lane (LeavesLane tl may_halt open_gate v) (LeavesLane tl may_halt open_gate u) _ crew.lanes.items done.lanes.items one.calls (leaves_goes tl may_halt open_gate v u joined.goes timely) one.each;
        callers = done_as next_caller (DoesCaller tc may_halt open_gate (b.first + length b.seen) w) (DoesCaller tc may_halt open_gate (b.first + length b.seen) u) _ crew.callers.items done.callers.items two.calls (does_goes tc may_halt open_gate (b.first + length b.seen) w u (goes_joined b v w u front back joined)) two.each;
      }

  -- there is no lane
  pub none_first : (crew : Crew L C) (told : Option (List Moment)) (b u : View O) (done : CrewDone L C) → crew.lanes.items ≡ [] → AreOthersServed tl tc may_halt open_gate crew 0 b u done → IsCrewLeft tl tc may_halt open_gate crew told b told u done
  none_first crew told b u done none others = record {
    goes = others.goes;
    shares = others.shares;
    first = [];
    entered = [];
    others = others.others;
    called = others.called;
    mine = others.mine;
    made = (let one = others.made in omega arith);
    lanes = others.lanes;
    ticks = subst (λ lanes. AreFirstTicks tl open_gate lanes done.lanes.items told told []) (sym none) (refl, refl);
    callers = subst (λ n. AreDone next_caller (DoesCaller tc may_halt open_gate (b.first + length b.seen) u) (record { place = n; turns = crew.turns; share = 0; of = length crew.callers.items }) crew.callers.items done.callers.items others.called) (omega arith) others.callers;
  }

  -- the first lane, with its clock, and the others
  pub both_joined : (crew rest : Crew L C) (lane : L) (told told' : Option (List Moment)) (b v w u : View O) (d : LaneDone L) (others done : CrewDone L C) → crew.lanes.items ≡ lane ∷ rest.lanes.items → rest.callers ≡ crew.callers → rest.turns ≡ crew.turns → IsFirstServed tl may_halt open_gate (first_lane crew) lane told (halved b) told' v d
      → AreOthersServed tl tc may_halt open_gate rest 1 (half b) w others → IsJoined v w u → IsInTime u.first u.seen → done.lanes.items ≡ d ∷ others.lanes.items → done.callers ≡ others.callers → IsCrewLeft tl tc may_halt open_gate crew told b told' u done
  both_joined crew rest lane told told' b v w u d others done cut same turns first more joined timely lanes callers =
      let front = goes_halved b v first.goes in
      let back = goes_half b w more.goes in
      let made = joined.made in
      let some_made = first.made in
      let other_made = more.made in
      let to_u = goes_joined b v w u front back joined in record {
        goes = goes_then b v u front joined.goes;
        shares = halves_add b.shares _ _ _ first.shares more.shares joined.shares;
        first = first.calls;
        entered = first.entered;
        others = more.others;
        called = more.called;
        mine = joined.mine ∙ ap (λ (z : List (ℕ × Event) × List (ℕ × Event)). z.0 ++ z.1) (λ i. (first.mine i, more.mine i)) ∙ append_assoc b.mine (first.calls ++ first.entered) (more.others ++ more.called);
        made = omega arith;
        lanes = subst (λ (z : List L × List (LaneDone L)). AreDone next_lane (LeavesLane tl may_halt open_gate u) (first_lane crew) z.0 z.1 (first.calls ++ more.others)) (λ i. (sym cut i, sym lanes i)) (
          first.calls,
          more.others,
          refl,
          leaves_goes tl may_halt open_gate v u joined.goes timely (first_lane crew) lane d first.calls first.leaves,
          done_as next_lane (LeavesLane tl may_halt open_gate w) (LeavesLane tl may_halt open_gate u) (record { place = 1; turns = crew.turns }) rest.lanes.items others.lanes.items more.others (leaves_goes tl may_halt open_gate w u to_u timely) (subst (λ n. AreDone next_lane (LeavesLane tl may_halt open_gate w) (record { place = 1; turns = n }) rest.lanes.items others.lanes.items more.others) turns more.lanes),
        );
        ticks = subst (λ (z : List L × List (LaneDone L)). AreFirstTicks tl open_gate z.0 z.1 told told' first.entered) (λ i. (sym cut i, sym lanes i)) first.ticks;
        callers =
            let count : 1 + length rest.lanes.items ≡ length crew.lanes.items = omega (arith, ap length cut) in
            subst (λ (z : List (CallsDone C) × List C × ℕ × ℕ). AreDone next_caller (DoesCaller tc may_halt open_gate (b.first + length b.seen) u) (record { place = z.3; turns = z.2; share = 0; of = length z.1 }) z.1 z.0 more.called) (λ i. ((sym callers i).items, (same i).items, turns i, count i))
            (done_as next_caller (DoesCaller tc may_halt open_gate (b.first + length b.seen) w) (DoesCaller tc may_halt open_gate (b.first + length b.seen) u) _ rest.callers.items others.callers.items more.called (does_goes tc may_halt open_gate (b.first + length b.seen) w u to_u) more.callers);
      }

-- ---- the rest is sent

-- what was caught up to at least is all, if the journal grew no more
all_caught : (first low : ℕ) (log : List Entry) (live : Option Live) → first + length log ≡ low → IfSome live (λ l. l.failed ≡ false → low ≤ l.from) → IfSome live (λ l. (first ≤ l.from) × (l.from ≤ first + length log)) → IfSome live (λ l. l.failed ≡ false → l.from ≡ first + length log)
all_caught first low log None same caught place = tt
all_caught first low log (Some l) same caught place = λ fine. let far = caught fine in let high = place.1 in omega arith

-- the readings of the first lane stay what they are
ticks_kept : (open_gate : Bool) (asked asked2 asked3 : ℕ) (told told' : Option (List Moment)) (calls : List (ℕ × Event)) (d e : LaneEnd) → (is_fine e ≡ true → e ≡ d) → asked3 ≡ asked2 → AreTicks (is_whole open_gate d) asked asked2 told told' calls → AreTicks (is_whole open_gate e) asked asked3 told told' calls
ticks_kept open_gate asked asked2 asked3 told told' calls d e same count ticks = record {
  are = ticks.are;
  ticks = follows_as told told' _ _ ticks.ticks (λ old new a. (a.0, a.1, a.2, λ whole. let all = a.3 (was_whole e same whole) in (all.0, subst (λ n. RoseBy (length a.0) asked n) (sym count) all.1)));
}
  where
    was_whole : (e : LaneEnd) → (is_fine e ≡ true → e ≡ d) → is_whole open_gate e ≡ true → is_whole open_gate d ≡ true
    was_whole lane_end.NoMemory same whole = absurd (cc whole)
    was_whole lane_end.End same whole = ap (is_whole open_gate) (sym (same refl)) ∙ whole
    was_whole (lane_end.Failed count) same whole = ap (is_whole open_gate) (sym (same refl)) ∙ whole
    was_whole (lane_end.Turns n) same whole = ap (is_whole open_gate) (sym (same refl)) ∙ whole
    was_whole (lane_end.Stopped reason count) same whole = absurd (cc whole)

module _ {O L : Type 0} (t : TellsLane L) (may_halt : List Entry → Halt → Type 0) (open_gate : Bool) where
  pub done_placed : (v : View O) (post : LanePost) (ls : List L) (ds : List (LaneDone L)) (calls : List (ℕ × Event)) → AreDone next_lane (LeavesLane t may_halt open_gate v) post ls ds calls → ArePlaced v ds
  done_placed v post [] [] calls done = tt
  done_placed v post [] (d ∷ ds) calls done = absurd done
  done_placed v post (l ∷ ls) [] calls done = absurd done
  done_placed v post (l ∷ ls) (d ∷ ds) calls done = (done.3.left.place, done_placed v (next_lane post) ls ds done.1 done.4)

  kept_end : (v : View O) (turns : ℕ) (a c : Tally) (e d : LaneEnd) → (is_fine e ≡ true → e ≡ d) → IsLaneEnd may_halt open_gate turns v a c d → IsLaneEnd may_halt open_gate turns v a c e
  kept_end v turns a c lane_end.NoMemory d same is = tt
  kept_end v turns a c lane_end.End d same is = subst (λ end. IsLaneEnd may_halt open_gate turns v a c end) (sym (same refl)) is
  kept_end v turns a c (lane_end.Failed count) d same is = subst (λ end. IsLaneEnd may_halt open_gate turns v a c end) (sym (same refl)) is
  kept_end v turns a c (lane_end.Turns n) d same is = subst (λ end. IsLaneEnd may_halt open_gate turns v a c end) (sym (same refl)) is
  kept_end v turns a c (lane_end.Stopped reason count) d same is = subst (λ end. IsLaneEnd may_halt open_gate turns v a c end) (sym (same refl)) is

  rested_does : (v w u : View O) (post : LanePost) (lane : L) (d e : LaneDone L) (calls : List (ℕ × Event)) → Goes v w → Goes w u → IsInTime u.first u.seen → u.first + length u.seen ≡ v.first + length v.seen → IsRested t open_gate v w d e → LeavesLane t may_halt open_gate v post lane d calls → DoesLane t may_halt open_gate u post lane e calls
  rested_does v w u post lane d e calls one two timely same rested leaves =
      let left = left_goes w u 1 open_gate e.end (t.links lane) (t.links e.lane) e.conns.items e.live calls two timely (rested.left (t.links lane) calls leaves.left) in record {
        told = left_told 1 open_gate e.end u.first u.seen (t.links lane) (t.links e.lane) e.conns.items e.live calls left (λ fine. all_caught u.first (v.first + length v.seen) u.seen e.live same (rested.caught fine) left.place);
        counts = t.counts d.lane;
        end = kept_end u post.turns (t.counts lane) (t.counts d.lane) e.end d.end rested.end (lane_end_heard may_halt v u (hears_goes v u (goes_then v w u one two)) open_gate post.turns (t.counts lane) (t.counts d.lane) d.end leaves.end);
        quiet = rested.quiet;
        most = subst (λ n. RoseAtMost post.turns (t.counts lane).asked n) (sym rested.quiet.asked) leaves.most;
      }

  pub done_rested : (v w u : View O) (post : LanePost) (ls : List L) (ds es : List (LaneDone L)) (calls : List (ℕ × Event)) → Goes v w → Goes w u → IsInTime u.first u.seen → u.first + length u.seen ≡ v.first + length v.seen → AreRested t open_gate v w ds es → AreDone next_lane (LeavesLane t may_halt open_gate v) post ls ds calls → AreDone next_lane (DoesLane t may_halt open_gate u) post ls es calls
  done_rested v w u post [] [] [] calls one two timely same rested done = done
  done_rested v w u post [] [] (e ∷ es) calls one two timely same rested done = absurd rested
  done_rested v w u post [] (d ∷ ds) es calls one two timely same rested done = absurd done
  done_rested v w u post (l ∷ ls) [] es calls one two timely same rested done = absurd done
  done_rested v w u post (l ∷ ls) (d ∷ ds) [] calls one two timely same rested done = absurd rested
  done_rested v w u post (l ∷ ls) (d ∷ ds) (e ∷ es) calls one two timely same rested done = (done.0, done.1, done.2, rested_does v w u post l d e done.0 one two timely same rested.0 done.3, done_rested v w u (next_lane post) ls ds es done.1 one two timely same rested.1 done.4)

  pub first_kept : (v w : View O) (ls : List L) (ds es : List (LaneDone L)) (told told' : Option (List Moment)) (calls : List (ℕ × Event)) → AreRested t open_gate v w ds es → AreFirstTicks t open_gate ls ds told told' calls → AreFirstTicks t open_gate ls es told told' calls
  first_kept v w [] ds es told told' calls rested ticks = ticks
  first_kept v w (l ∷ ls) [] [] told told' calls rested ticks = ticks
  first_kept v w (l ∷ ls) [] (e ∷ es) told told' calls rested ticks = absurd rested
  first_kept v w (l ∷ ls) (d ∷ ds) [] told told' calls rested ticks = absurd rested
  first_kept v w (l ∷ ls) (d ∷ ds) (e ∷ es) told told' calls rested ticks = ticks_kept open_gate (t.counts l).asked (t.counts d.lane).asked (t.counts e.lane).asked told told' calls d.end e.end rested.0.end rested.0.quiet.asked ticks

module _ {O L C : Type 0} (tl : TellsLane L) (tc : TellsCaller C) (may_halt : List Entry → Halt → Type 0) (open_gate : Bool) where
  -- all was seen before the rest was sent, and nothing more since
  pub crew_served : (crew : Crew L C) (told told' : Option (List Moment)) (b v x y z : View O) (done last : CrewDone L C) → IsCrewLeft tl tc may_halt open_gate crew told b told' v done → IsLooked v x → IsInTime x.first x.seen → length x.seen ≡ x.start + x.made → IsLooked x y → IsLooked y z → IsInTime z.first z.seen → length z.seen ≡ z.start + z.made
      → AreRested tl open_gate x y done.lanes.items last.lanes.items → last.callers ≡ done.callers → IsCrewServed tl tc may_halt open_gate crew told b told' z last
  crew_served crew told told' b v x y z done last left one timely whole two three timely' whole' rested callers =
      let to_x = one.goes in
      let to_y = two.goes in
      let to_z = three.goes in
      let all = goes_then v x z to_x (goes_then x y z to_y to_z) in
      let made = three.none.made ∙ two.none.made in
      let start = to_z.start ∙ to_y.start in
      let base = to_z.first ∙ to_y.first in
      let made_left = left.made in
      let made_all = made ∙ one.none.made in record {
        goes = goes_then b v z left.goes all;
        shares = three.none.shares ∙ two.none.shares ∙ one.none.shares ∙ left.shares;
        whole = whole';
        first = left.first;
        entered = left.entered;
        others = left.others;
        called = left.called;
        mine = three.none.mine ∙ two.none.mine ∙ one.none.mine ∙ left.mine;
        made = made_all ∙ made_left;
        lanes = done_rested tl may_halt open_gate x y z (first_lane crew) crew.lanes.items done.lanes.items last.lanes.items (left.first ++ left.others) to_y to_z timely' (omega arith) rested (done_as next_lane (LeavesLane tl may_halt open_gate v) (LeavesLane tl may_halt open_gate x) (first_lane crew) crew.lanes.items done.lanes.items (left.first ++ left.others) (leaves_goes tl may_halt open_gate v x to_x timely) left.lanes);
        ticks = first_kept tl may_halt open_gate x y crew.lanes.items done.lanes.items last.lanes.items told told' left.entered rested left.ticks;
        callers = subst (λ (ds : List (CallsDone C)). AreDone next_caller (DoesCaller tc may_halt open_gate (b.first + length b.seen) z) (first_caller crew) crew.callers.items ds left.called) (λ i. (sym callers i).items)
            (done_as next_caller (DoesCaller tc may_halt open_gate (b.first + length b.seen) v) (DoesCaller tc may_halt open_gate (b.first + length b.seen) z) (first_caller crew) crew.callers.items done.callers.items left.called (does_goes tc may_halt open_gate (b.first + length b.seen) v z all) left.callers);
      }
