-- Laws of what lanes leave behind, and of what their links are sent after all joins.
use Rattle.std.proofs.Common.{◌≡◌, ℕ, ◌+◌, ◌-◌, ◌≤◌, ◌==◌, ◌||◌, Bool, true, false, List, [], ◌∷◌, ◌++◌, length, drop, sym, refl, ap, ◌∙◌, subst, arith, Option, Some, None, IfSome, length-append}
use Rattle.std.proofs.lemmas.Bool.Decides.{nat_tests}
use Rattle.xl_base.specs.Links.{Sends, send_failed}
use Rattle.xl_base.specs.Memory.{counted}
use Rattle.xl_base.specs.Outs.{outs_to}
use Rattle.xl_base.specs.Serials.{IsInTime}
use Rattle.xl_base.specs.Telling.{Follows, OnNewest}
use Rattle.xl_base.specs.declared.event.Event.{Event}
use Rattle.xl_base.specs.declared.journal.Entry.{Entry}
use Rattle.xl_base.specs.declared.lane.Link.{Link}
use Rattle.xl_base.specs.declared.lane_end.LaneEnd.{LaneEnd}
use Rattle.xl_base.specs.declared.lane_end.LaneEnd.TheVariants as lane_end
use Rattle.xl_base.specs.declared.sink.WriteOutcome.{WriteOutcome}
use Rattle.xl_base.specs.declared.sink.WriteOutcome.TheVariants as write
use Rattle.xl_desk.specs.Passes.{Goes}
use Rattle.xl_desk.specs.declared.view.View.{View}
use Rattle.xl_frame.specs.Frames.{frames}
use Rattle.xl_work.specs.Lives.{Accounts, AreLeft, IsQuiet, AreTold, IsLeft, IsLeftOpen, IsServed, HasPlace, IsTold, IsUnentered, IsUnopened, LaneLeft, LaneTold, has_end, is_bad, is_fine, is_whole}
use Rattle.xl_work.specs.Crews.{TellsLane}
use Rattle.xl_work.specs.Rests.{ArePlaced, AreRested, IsRested}
use Rattle.xl_work.specs.declared.worker.Conn.{Conn}
use Rattle.xl_work.specs.declared.worker.LaneDone.{LaneDone}
use Rattle.xl_work.specs.declared.worker.Live.{Live}
use Rattle.xl_work.proofs.CallLaws.{follows_as, follows_then, longer}
use Rattle.xl_work.proofs.LifeLaws.{all_over_grow, all_told, counted_failed, nothing_in, or_true, sending_all, sending_broke, sending_grows, sending_none, sending_wrote}

-- ---- what is left is told

open_told : (late : ℕ) (whole fine : Bool) (first : ℕ) (log : List Entry) (l : Link) (v : Live) (mine : List (ℕ × Event)) → IsLeftOpen late whole first log l v mine → (fine ≡ true → v.failed ≡ false → v.from ≡ first + length log) → IsTold late whole fine first log l v.conn mine
open_told late whole fine first log l v mine left caught = record {
  kind = left.kind;
  cut = left.cut;
  full = left.full;
  cause = left.cause;
  shut = λ e. absurd (cc (e, left.shut));
  sent = left.sending.sent;
  all = λ e. sending_all first log v.conn.number v.from v.failed l.failed l.sent left.sending (caught e);
}

links_told : (late : ℕ) (whole fine : Bool) (first : ℕ) (log : List Entry) (links : List Link) (conns : List Conn) (live : Option Live) (calls : List (ℕ × Event)) → AreLeft late whole first log links conns live calls → (fine ≡ true → IfSome live (λ v. v.failed ≡ false → v.from ≡ first + length log)) → AreTold late whole fine first log links conns calls
links_told late whole fine first log links conns None calls left caught = all_told late whole fine first log links conns calls left
links_told late whole fine first log [] conns (Some v) calls left caught = absurd left
links_told late whole fine first log (l ∷ ls) conns (Some v) calls left caught = (left.0, v.conn, left.1, left.2, left.3, left.4, open_told late whole fine first log l v left.2 left.5 caught, all_told late whole fine first log ls left.0 left.1 left.6)

unentered_told : (whole : Bool) (live : Option Live) (links : List Link) → IsUnentered whole live links → IsUnopened whole links
unentered_told whole live [] is = tt
unentered_told whole live (l ∷ []) is = (is.1, is.2)
unentered_told whole live (l ∷ m ∷ links) is = absurd is

-- a lane whose link, if it was left open, was sent all
pub left_told : (late : ℕ) (open_gate : Bool) (end : LaneEnd) (first : ℕ) (log : List Entry) (told told' : Option (List Link)) (conns : List Conn) (live : Option Live) (calls : List (ℕ × Event)) → LaneLeft late open_gate end first log told told' conns live calls → (is_fine end ≡ true → IfSome live (λ v. v.failed ≡ false → v.from ≡ first + length log)) → LaneTold late open_gate end first log told told' conns calls
left_told late open_gate end first log told told' conns live calls left caught = record {
  own = left.own;
  links = follows_as told told' _ _ left.links (λ old new a. (a.0, a.1, a.2, unentered_told (is_whole open_gate end) live a.0 a.3, links_told late (is_whole open_gate end) (is_fine end) first log a.1 conns live calls a.4 caught));
}

pub left_served : {O : Type 0} (open_gate : Bool) (end : LaneEnd) (told : Option (List Link)) (before : View O) (told' : Option (List Link)) (after : View O) (conns : List Conn) (live : Option Live) → IsLeft open_gate end told before told' after conns live → IsServed open_gate end told before told' after conns
left_served open_gate end told before told' after conns live left = record {
  goes = left.goes;
  shares = left.shares;
  calls = left.calls;
  mine = left.mine;
  made = left.made;
  lane = left_told 0 open_gate end after.first after.seen told told' conns live left.calls left.lane left.caught;
}

-- ---- the journal grows

open_grows : (late : ℕ) (whole : Bool) (first : ℕ) (log more : List Entry) (l : Link) (v : Live) (mine : List (ℕ × Event)) → IsLeftOpen late whole first log l v mine → IsLeftOpen late whole first (log ++ more) l v mine
open_grows late whole first log more l v mine left = record {
  kind = left.kind;
  cut = left.cut;
  full = left.full;
  cause = left.cause;
  shut = left.shut;
  sending = sending_grows first log more v.conn.number v.from v.failed l.failed l.sent left.sending;
}

links_grow : (late : ℕ) (whole : Bool) (first : ℕ) (log more : List Entry) (links : List Link) (conns : List Conn) (live : Option Live) (calls : List (ℕ × Event)) → IsInTime first (log ++ more) → AreLeft late whole first log links conns live calls → AreLeft late whole first (log ++ more) links conns live calls
links_grow late whole first log more links conns None calls timely left = all_over_grow first log more links conns calls timely left
links_grow late whole first log more [] conns (Some v) calls timely left = absurd left
links_grow late whole first log more (l ∷ ls) conns (Some v) calls timely left = (left.0, left.1, left.2, left.3, left.4, open_grows late whole first log more l v left.2 left.5, all_over_grow first log more ls left.0 left.1 timely left.6)

place_grows : (first : ℕ) (log more : List Entry) (live : Option Live) → IfSome live (λ l. (first ≤ l.from) × (l.from ≤ first + length log)) → IfSome live (λ l. (first ≤ l.from) × (l.from ≤ first + length (log ++ more)))
place_grows first log more None place = tt
place_grows first log more (Some v) place = let high = place.1 in (place.0, omega (arith, length-append log more))

pub left_grows : (late : ℕ) (open_gate : Bool) (end : LaneEnd) (first : ℕ) (log more : List Entry) (told told' : Option (List Link)) (conns : List Conn) (live : Option Live) (calls : List (ℕ × Event)) → IsInTime first (log ++ more) → LaneLeft late open_gate end first log told told' conns live calls → LaneLeft late open_gate end first (log ++ more) told told' conns live calls
left_grows late open_gate end first log more told told' conns live calls timely left = record {
  own = left.own;
  place = place_grows first log more live left.place;
  links = follows_as told told' _ _ left.links (λ old new a. (a.0, a.1, a.2, a.3, links_grow late (is_whole open_gate end) first log more a.1 conns live calls timely a.4));
}

module _ {O : Type 0} (v w : View O) where
  grown_by : (P : ℕ → List Entry → Type 0) → (goes : Goes v w) → P v.first (v.seen ++ goes.seen.0) → P w.first w.seen
  grown_by P goes p = subst (λ (z : ℕ × List Entry). P z.0 z.1) (λ i. (sym goes.first i, goes.seen.1 i)) p

  -- what a lane left stands in what the pass sees later
  pub left_goes : (late : ℕ) (open_gate : Bool) (end : LaneEnd) (told told' : Option (List Link)) (conns : List Conn) (live : Option Live) (calls : List (ℕ × Event)) → Goes v w → IsInTime w.first w.seen → LaneLeft late open_gate end v.first v.seen told told' conns live calls → LaneLeft late open_gate end w.first w.seen told told' conns live calls
  left_goes late open_gate end told told' conns live calls goes timely left =
      grown_by (λ first log. LaneLeft late open_gate end first log told told' conns live calls) goes
      (left_grows late open_gate end v.first v.seen goes.seen.0 told told' conns live calls (subst (λ (z : ℕ × List Entry). IsInTime z.0 z.1) (λ i. (goes.first i, sym goes.seen.1 i)) timely) left)

-- ---- the last send

later : (ended : Bool) (l : Link) → Accounts 0 ended l → Accounts 1 ended l
later true l is = is
later false l is = (is.0, (let few = is.1 in omega arith))

failed_later : (ended : Bool) (l : Link) (front : List ℕ) → Accounts 0 ended l → Accounts 1 ended (record l { sent = l.sent ++ front; failed = counted l.failed })
failed_later true l front is = ap (λ b. (l.ended || is_bad (frames l.kind l.taken).bad) || b) (counted_failed l.failed) ∙ or_true (l.ended || is_bad (frames l.kind l.taken).bad)
failed_later false l front is = (is.0, one_more l.failed is.1)
  where
    one_more : (n : ℕ) → n ≤ 0 → counted n ≤ 1
    one_more n few = grind (arith, nat_tests)

-- a link that was left open, as the last look left it
left_late : (whole : Bool) (first : ℕ) (log : List Entry) (l : Link) (v : Live) (mine : List (ℕ × Event)) → IsLeftOpen 0 whole first log l v mine → IsLeftOpen 1 whole first log l v mine
left_late whole first log l v mine left = record {
  kind = left.kind;
  cut = left.cut;
  full = λ e. ((left.full e).0, later (has_end mine) l (left.full e).1, (left.full e).2);
  cause = left.cause;
  shut = left.shut;
  sending = left.sending;
}

left_none : (whole : Bool) (first : ℕ) (log : List Entry) (l : Link) (v : Live) (mine : List (ℕ × Event)) (bytes : List ℕ) (end : ℕ) → IsLeftOpen 0 whole first log l v mine → bytes ≡ outs_to v.conn.number (drop (v.from - first) log) → bytes ≡ [] → end ≡ first + length log → IsLeftOpen 1 whole first log l (record v { from = end }) mine
left_none whole first log l v mine bytes end left gives none_left ends = record {
  kind = left.kind;
  cut = left.cut;
  full = λ e. ((left.full e).0, later (has_end mine) l (left.full e).1, (left.full e).2);
  cause = left.cause;
  shut = left.shut;
  sending = sending_none first log v.conn.number v.from end v.failed l.failed l.sent bytes left.sending gives none_left ends;
}

left_sent : (whole : Bool) (first : ℕ) (log : List Entry) (l l2 : Link) (v : Live) (mine : List (ℕ × Event)) (bytes : List ℕ) (end : ℕ) (outcome : WriteOutcome) → IsLeftOpen 0 whole first log l v mine → v.failed ≡ false → bytes ≡ outs_to v.conn.number (drop (v.from - first) log) → end ≡ first + length log → Sends outcome bytes l l2 → IsLeftOpen 1 whole first log l2 (record v { from = end; failed = send_failed outcome }) mine
left_sent whole first log l l2 v mine bytes end write.Wrote left fine gives ends step = subst (λ z. IsLeftOpen 1 whole first log z (record v { from = end; failed = false }) mine) (sym step) record {
  kind = left.kind;
  cut = left.cut;
  full = λ e. ((left.full e).0, sent_later (has_end mine) (left.full e).1, (left.full e).2);
  cause = left.cause;
  shut = left.shut;
  sending = sending_wrote first log v.conn.number v.from end v.failed l.failed l.sent bytes left.sending fine gives ends;
}
  where
    sent_later : (ended : Bool) → Accounts 0 ended l → Accounts 1 ended (record l { sent = l.sent ++ bytes })
    sent_later true is = is
    sent_later false is = (is.0, (let few = is.1 in omega arith))
left_sent whole first log l l2 v mine bytes end write.Failed left fine gives ends step = subst (λ z. IsLeftOpen 1 whole first log z (record v { from = end; failed = true }) mine) (sym step.2) record {
  kind = left.kind;
  cut = left.cut;
  full = λ e. ((left.full e).0, failed_later (has_end mine) l step.0 (left.full e).1, (left.full e).2);
  cause = λ _. ap (λ b. (l.ended || is_bad (frames l.kind l.taken).bad) || b) (counted_failed l.failed) ∙ or_true (l.ended || is_bad (frames l.kind l.taken).bad);
  shut = left.shut;
  sending = sending_broke first log v.conn.number v.from end v.failed l.failed l.sent bytes step.0 left.sending fine gives ends step.1;
}

-- what the pass looked at before a lane's last send
in_time_before : (first first2 : ℕ) (log more log2 : List Entry) → first2 ≡ first → log ++ more ≡ log2 → IsInTime first2 log2 → IsInTime first (log ++ more)
in_time_before first first2 log more log2 base is timely = subst (λ (z : ℕ × List Entry). IsInTime z.0 z.1) (λ i. (base i, sym is i)) timely

late_links : (whole : Bool) (first : ℕ) (log : List Entry) (links : List Link) (conns : List Conn) (live : Option Live) (calls : List (ℕ × Event)) → AreLeft 0 whole first log links conns live calls → AreLeft 1 whole first log links conns live calls
late_links whole first log links conns None calls left = left
late_links whole first log [] conns (Some v) calls left = absurd left
late_links whole first log (l ∷ ls) conns (Some v) calls left = (left.0, left.1, left.2, left.3, left.4, left_late whole first log l v left.2 left.5, left.6)

-- nothing was to be sent, or no link was left open
pub left_quiet : (open_gate : Bool) (end : LaneEnd) (first : ℕ) (log : List Entry) (told told' : Option (List Link)) (conns : List Conn) (live : Option Live) (calls : List (ℕ × Event)) → LaneLeft 0 open_gate end first log told told' conns live calls → LaneLeft 1 open_gate end first log told told' conns live calls
left_quiet open_gate end first log told told' conns live calls left = record {
  own = left.own;
  place = left.place;
  links = follows_as told told' _ _ left.links (λ old new a. (a.0, a.1, a.2, a.3, late_links (is_whole open_gate end) first log a.1 conns live calls a.4));
}

-- memory ran out: then nothing is promised of a whole lane
part_links : (late : ℕ) (whole : Bool) (first : ℕ) (log : List Entry) (links : List Link) (conns : List Conn) (live : Option Live) (calls : List (ℕ × Event)) → AreLeft late whole first log links conns live calls → AreLeft late false first log links conns live calls
part_links late whole first log links conns None calls left = left
part_links late whole first log [] conns (Some v) calls left = absurd left
part_links late whole first log (l ∷ ls) conns (Some v) calls left =
    let o = left.5 in
    (left.0, left.1, left.2, left.3, left.4, record { kind = o.kind; cut = o.cut; full = λ e. absurd (cc e); cause = o.cause; shut = o.shut; sending = o.sending }, left.6)

part_unentered : (whole : Bool) (live : Option Live) (links : List Link) → IsUnentered whole live links → IsUnentered false live links
part_unentered whole live [] is = tt
part_unentered whole live (l ∷ []) is = (is.0, refl, is.2)
part_unentered whole live (l ∷ m ∷ links) is = absurd is

pub left_starved : (open_gate : Bool) (end : LaneEnd) (first : ℕ) (log : List Entry) (told told' : Option (List Link)) (conns : List Conn) (live : Option Live) (calls : List (ℕ × Event)) → LaneLeft 1 open_gate end first log told told' conns live calls → LaneLeft 1 open_gate lane_end.NoMemory first log told told' conns live calls
left_starved open_gate end first log told told' conns live calls left = record {
  own = left.own;
  place = left.place;
  links = follows_as told told' _ _ left.links (λ old new a. (a.0, a.1, a.2, part_unentered (is_whole open_gate end) live a.0 a.3, part_links 1 (is_whole open_gate end) first log a.1 conns live calls a.4));
}

-- a link that was left open is told after a step
open_step : (whole : Bool) (first : ℕ) (log : List Entry) (conns : List Conn) (v v2 : Live) (calls : List (ℕ × Event)) (unentered links old y z : List Link) (step : Link → Link → Type 0) → y ≡ (unentered ++ links) ++ old → IsUnentered whole (Some v) unentered → OnNewest step y z → AreLeft 0 whole first log links conns (Some v) calls → v2.conn ≡ v.conn
    → ((l l2 : Link) (mine : List (ℕ × Event)) → IsLeftOpen 0 whole first log l v mine → step l l2 → IsLeftOpen 1 whole first log l2 v2 mine) → (links2 : List Link) × (z ≡ ([] ++ links2) ++ old) × AreLeft 1 whole first log links2 conns (Some v2) calls
open_step whole first log conns v v2 calls (u ∷ []) links old y z step is entered on left same each = absurd (cc entered.0)
open_step whole first log conns v v2 calls (u ∷ w ∷ us) links old y z step is entered on left same each = absurd entered
open_step whole first log conns v v2 calls [] [] old y z step is entered on left same each = absurd left
open_step whole first log conns v v2 calls [] (l ∷ ls) old y z step is entered on left same each =
    let newest : OnNewest step (l ∷ (ls ++ old)) z = subst (λ y. OnNewest step y z) is on in
    (newest.0 ∷ ls, newest.1, (left.0, left.1, left.2, left.3 ∙ ap (λ c. left.0 ++ c ∷ []) (sym same), left.4, each l newest.0 left.2 left.5 newest.2, left.6))

-- the rest was sent to it
pub left_by_send : (open_gate : Bool) (end : LaneEnd) (first : ℕ) (log : List Entry) (told told' told2 : Option (List Link)) (conns : List Conn) (v : Live) (calls : List (ℕ × Event)) (bytes sent : List ℕ) (place : ℕ) (outcome : WriteOutcome) → LaneLeft 0 open_gate end first log told told' conns (Some v) calls → v.failed ≡ false → bytes ≡ outs_to v.conn.number (drop (v.from - first) log) → sent ≡ bytes → place ≡ first + length log → Follows told' told2 (OnNewest (Sends outcome sent))
    → LaneLeft 1 open_gate end first log told told2 conns (Some (record v { from = place; failed = send_failed outcome })) calls
left_by_send open_gate end first log told told' told2 conns v calls bytes sent place outcome left fine gives same ends tells = record {
  own = left.own;
  place = (let low = left.place in (omega arith, omega arith));
  links = follows_then told told' told2 _ _ _ left.links tells (λ x y z a b.
      let step = open_step (is_whole open_gate end) first log conns v (record v { from = place; failed = send_failed outcome }) calls a.0 a.1 x y z (Sends outcome sent) a.2 a.3 b a.4 refl (λ l l2 mine o took. left_sent (is_whole open_gate end) first log l l2 v mine sent place outcome o fine (same ∙ gives) ends took) in
      ([], step.0, step.1, tt, step.2));
}

-- or nothing was to be sent
unsent_links : (whole : Bool) (first : ℕ) (log : List Entry) (links : List Link) (conns : List Conn) (v : Live) (calls : List (ℕ × Event)) (bytes : List ℕ) (place : ℕ) → AreLeft 0 whole first log links conns (Some v) calls → bytes ≡ outs_to v.conn.number (drop (v.from - first) log) → bytes ≡ [] → place ≡ first + length log → AreLeft 1 whole first log links conns (Some (record v { from = place })) calls
unsent_links whole first log [] conns v calls bytes place left gives none_left ends = absurd left
unsent_links whole first log (l ∷ ls) conns v calls bytes place left gives none_left ends = (left.0, left.1, left.2, left.3, left.4, left_none whole first log l v left.2 bytes place left.5 gives none_left ends, left.6)

unsent_unentered : (whole : Bool) (v w : Live) (links : List Link) → IsUnentered whole (Some v) links → IsUnentered whole (Some w) links
unsent_unentered whole v w [] is = tt
unsent_unentered whole v w (l ∷ []) is = absurd (cc is.0)
unsent_unentered whole v w (l ∷ m ∷ links) is = absurd is

pub left_unsent : (open_gate : Bool) (end : LaneEnd) (first : ℕ) (log : List Entry) (told told' : Option (List Link)) (conns : List Conn) (v : Live) (calls : List (ℕ × Event)) (bytes : List ℕ) (place : ℕ) → LaneLeft 0 open_gate end first log told told' conns (Some v) calls → bytes ≡ outs_to v.conn.number (drop (v.from - first) log) → bytes ≡ [] → place ≡ first + length log → LaneLeft 1 open_gate end first log told told' conns (Some (record v { from = place })) calls
left_unsent open_gate end first log told told' conns v calls bytes place left gives none_left ends = record {
  own = left.own;
  place = (let low = left.place in (omega arith, omega arith));
  links = follows_as told told' _ _ left.links (λ old new a. (a.0, a.1, a.2, unsent_unentered (is_whole open_gate end) v (record v { from = place }) a.0 a.3, unsent_links (is_whole open_gate end) first log a.1 conns v calls bytes place a.4 gives none_left ends));
}

-- ---- lanes one behind another

place_goes : {O : Type 0} (v w : View O) (live : Option Live) → Goes v w → HasPlace v live → HasPlace w live
place_goes v w None goes place = tt
place_goes v w (Some l) goes place = let low = place.0 in let high = place.1 in let base = goes.first in let long = longer v.seen w.seen goes.seen in (omega arith, omega arith)

module _ {O L : Type 0} (t : TellsLane L) (open_gate : Bool) where
  caught_early : (v w : View O) → Goes v w → (live : Option Live) → IfSome live (λ l. l.failed ≡ false → w.first + length w.seen ≤ l.from) → IfSome live (λ l. l.failed ≡ false → v.first + length v.seen ≤ l.from)
  caught_early v w before None caught = tt
  caught_early v w before (Some l) caught = λ fine. let far = caught fine in let base = before.first in let long = longer v.seen w.seen before.seen in omega arith

  rested_early : (v w u : View O) (d e : LaneDone L) → Goes v w → IsInTime w.first w.seen → IsRested t open_gate w u d e → IsRested t open_gate v u d e
  rested_early v w u d e before timely rested = record {
    conns = rested.conns;
    left = λ told calls left. rested.left told calls (left_goes v w 0 open_gate d.end told (t.links d.lane) d.conns.items d.live calls before timely left);
    end = rested.end;
    caught = λ fine. caught_early v w before e.live (rested.caught fine);
    place = rested.place;
    quiet = rested.quiet;
  }

  rested_late : (v w u : View O) (d e : LaneDone L) → Goes w u → IsInTime u.first u.seen → IsRested t open_gate v w d e → IsRested t open_gate v u d e
  rested_late v w u d e behind timely rested = record {
    conns = rested.conns;
    left = λ told calls left. left_goes w u 1 open_gate e.end told (t.links e.lane) e.conns.items e.live calls behind timely (rested.left told calls left);
    end = rested.end;
    caught = rested.caught;
    place = place_goes w u e.live behind rested.place;
    quiet = rested.quiet;
  }

  -- one lane more
  pub rested_snoc : (v w u : View O) (ds es : List (LaneDone L)) (d e : LaneDone L) → Goes v w → IsInTime w.first w.seen → Goes w u → IsInTime u.first u.seen → AreRested t open_gate v w ds es → IsRested t open_gate w u d e → AreRested t open_gate v u (ds ++ d ∷ []) (es ++ e ∷ [])
  rested_snoc v w u [] [] d e before timely behind timely' rested one = (rested_early v w u d e before timely one, tt)
  rested_snoc v w u [] (x ∷ xs) d e before timely behind timely' rested one = absurd rested
  rested_snoc v w u (x ∷ xs) [] d e before timely behind timely' rested one = absurd rested
  rested_snoc v w u (x ∷ xs) (y ∷ ys) d e before timely behind timely' rested one = (rested_late v w u x y behind timely' rested.0, rested_snoc v w u xs ys d e before timely behind timely' rested.1 one)

  -- a lane of which no link was left open, or one of which a call failed
  pub rested_still : (v w : View O) (d : LaneDone L) → Goes v w → IsInTime w.first w.seen → HasPlace v d.live → IfSome d.live (λ l. l.failed ≡ true) → IsRested t open_gate v w d d
  rested_still v w d goes timely place over = record {
    conns = refl;
    left = λ told calls left. left_quiet open_gate d.end w.first w.seen told (t.links d.lane) d.conns.items d.live calls (left_goes v w 0 open_gate d.end told (t.links d.lane) d.conns.items d.live calls goes timely left);
    end = λ _. refl;
    caught = λ _. none_due d.live over;
    place = place_goes v w d.live goes place;
    quiet = record { asked = refl; lost = refl; later = omega arith; ended = refl };
  }
    where
      none_due : (live : Option Live) → IfSome live (λ l. l.failed ≡ true) → IfSome live (λ l. l.failed ≡ false → v.first + length v.seen ≤ l.from)
      none_due None over = tt
      none_due (Some l) over = λ fine. absurd (cc (over, fine))

  pub rested_failed : (v w : View O) (d : LaneDone L) (l : Live) → Goes v w → IsInTime w.first w.seen → HasPlace v d.live → d.live ≡ Some l → l.failed ≡ true → IsRested t open_gate v w d (record d { live = Some l })
  rested_failed v w d l goes timely place is fails = subst (λ live. IsRested t open_gate v w d (record d { live = live })) is (rested_still v w d goes timely place (subst (λ live. IfSome live (λ l. l.failed ≡ true)) (sym is) fails))

  -- memory ran out
  pub rested_starved : (v w : View O) (d : LaneDone L) (l : Live) → Goes v w → IsInTime w.first w.seen → HasPlace v d.live → d.live ≡ Some l → IsRested t open_gate v w d (record d { end = lane_end.NoMemory; live = Some l })
  rested_starved v w d l goes timely place is = subst (λ live. IsRested t open_gate v w d (record d { end = lane_end.NoMemory; live = live })) is record {
    conns = refl;
    left = λ told calls left.
        left_starved open_gate d.end w.first w.seen told (t.links d.lane) d.conns.items d.live calls
        (left_quiet open_gate d.end w.first w.seen told (t.links d.lane) d.conns.items d.live calls (left_goes v w 0 open_gate d.end told (t.links d.lane) d.conns.items d.live calls goes timely left));
    end = λ fine. absurd (cc fine);
    caught = λ fine. absurd (cc fine);
    place = place_goes v w d.live goes place;
    quiet = record { asked = refl; lost = refl; later = omega arith; ended = refl };
  }

  opened : (v w : View O) (d : LaneDone L) (l : Live) (told : Option (List Link)) (calls : List (ℕ × Event)) → Goes v w → IsInTime w.first w.seen → d.live ≡ Some l → LaneLeft 0 open_gate d.end v.first v.seen told (t.links d.lane) d.conns.items d.live calls → LaneLeft 0 open_gate d.end w.first w.seen told (t.links d.lane) d.conns.items (Some l) calls
  opened v w d l told calls goes timely is left = subst (λ live. LaneLeft 0 open_gate d.end w.first w.seen told (t.links d.lane) d.conns.items live calls) is (left_goes v w 0 open_gate d.end told (t.links d.lane) d.conns.items d.live calls goes timely left)

  -- nothing was to be sent
  pub rested_unsent : (v w : View O) (d : LaneDone L) (l : Live) (bytes sent : List ℕ) (end : ℕ) → Goes v w → IsInTime w.first w.seen → d.live ≡ Some l → bytes ≡ outs_to l.conn.number (drop (l.from - w.first) w.seen) → sent ≡ bytes → (length sent == 0) ≡ true → end ≡ w.first + length w.seen → IsRested t open_gate v w d (record d { live = Some (record l { from = end }) })
  rested_unsent v w d l bytes sent end goes timely is gives same empty ends = record {
    conns = refl;
    left = λ told calls left. left_unsent open_gate d.end w.first w.seen told (t.links d.lane) d.conns.items l calls bytes end (opened v w d l told calls goes timely is left) gives (sym same ∙ nothing_in sent empty) ends;
    end = λ _. refl;
    caught = λ _ _. let base = goes.first in let long = longer v.seen w.seen goes.seen in omega arith;
    place = (omega arith, omega arith);
    quiet = record { asked = refl; lost = refl; later = omega arith; ended = refl };
  }

  -- the rest was sent
  pub rested_sent : (v w : View O) (d : LaneDone L) (l : Live) (lane : L) (bytes sent : List ℕ) (end : ℕ) (outcome : WriteOutcome) (failed : Bool) → Goes v w → IsInTime w.first w.seen → d.live ≡ Some l → l.failed ≡ false → bytes ≡ outs_to l.conn.number (drop (l.from - w.first) w.seen) → sent ≡ bytes → end ≡ w.first + length w.seen
      → Follows (t.links d.lane) (t.links lane) (OnNewest (Sends outcome sent)) → IsQuiet (t.counts d.lane) (t.counts lane) → failed ≡ send_failed outcome → IsRested t open_gate v w d (record d { lane = lane; live = Some (record l { from = end; failed = failed }) })
  rested_sent v w d l lane bytes sent end outcome failed goes timely is fine gives same ends tells quiet fails = record {
    conns = refl;
    left = λ told calls left.
        subst (λ f. LaneLeft 1 open_gate d.end w.first w.seen told (t.links lane) d.conns.items (Some (record l { from = end; failed = f })) calls) (sym fails)
        (left_by_send open_gate d.end w.first w.seen told (t.links d.lane) (t.links lane) d.conns.items l calls bytes sent end outcome (opened v w d l told calls goes timely is left) fine gives same ends tells);
    end = λ _. refl;
    caught = λ _ _. let base = goes.first in let long = longer v.seen w.seen goes.seen in omega arith;
    place = (omega arith, omega arith);
    quiet = quiet;
  }

-- ---- places

pub placed_goes : {O L : Type 0} (v w : View O) (ds : List (LaneDone L)) → Goes v w → ArePlaced v ds → ArePlaced w ds
placed_goes v w [] goes placed = tt
placed_goes v w (d ∷ ds) goes placed = (place_goes v w d.live goes placed.0, placed_goes v w ds goes placed.1)

pub placed_front : {O L : Type 0} (v : View O) (ds : List (LaneDone L)) (d : LaneDone L) → ArePlaced v (ds ++ d ∷ []) → ArePlaced v ds
placed_front v [] d placed = tt
placed_front v (x ∷ ds) d placed = (placed.0, placed_front v ds d placed.1)

pub placed_last : {O L : Type 0} (v : View O) (ds : List (LaneDone L)) (d : LaneDone L) → ArePlaced v (ds ++ d ∷ []) → HasPlace v d.live
placed_last v [] d placed = placed.0
placed_last v (x ∷ ds) d placed = placed_last v ds d placed.1
