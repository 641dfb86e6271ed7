-- Laws of what a lane's worker makes of its links.
use Rattle.std.proofs.Common.{◌≡◌, ℕ, ◌+◌, ◌-◌, ◌<◌, ◌≤◌, ◌==◌, ◌||◌, not, Bool, true, false, List, [], ◌∷◌, ◌++◌, length, take, drop, sym, refl, ap, ◌∙◌, subst, ◌⊎◌, ⊎_elim, arith, Option, Some, None, IfSome, slice_get, append_assoc, length-append, eq-eqb, option_map}
use Rattle.std.proofs.lemmas.List.{append-nil, take-append-le, take-append-drop, take_all, length-take-le}
use Rattle.std.proofs.lemmas.Bool.Decides.{nat_tests}
use Rattle.xl_desk.specs.declared.view.View.{View}
use Rattle.xl_desk.specs.Passes.{Goes, MadeNone, IsCalled, IsLawful, IsLooked, IsRefused, IsHalted}
use Rattle.xl_desk.specs.declared.fault.DeskErr.{DeskErr}
use Rattle.xl_desk.specs.declared.fault.DeskErr.TheVariants as desk
use Rattle.xl_base.specs.declared.halt.Halt.{Halt}
use Rattle.xl_base.specs.Telling.{Follows, OnNewest}
use Rattle.xl_work.proofs.CallLaws.{all_more, goes_then, follows_as, follows_then, refused_none}
use Rattle.std.specs.List.{AllByRecursion}
use mathlib.Core.List.{IsPrefix}
use Rattle.xl_base.specs.Outs.{goes_to, sent_to, outs_to, IsSilent}
use Rattle.xl_base.specs.Serials.{IsInTime, AreInTime}
use Rattle.xl_base.specs.declared.lane_end.LaneEnd.{LaneEnd}
use Rattle.xl_base.specs.declared.lane_end.LaneEnd.TheVariants as lane_end
use Rattle.xl_base.specs.declared.event.Event.{Event}
use Rattle.xl_base.specs.declared.event.Event.TheVariants.{Open, Message, End, Called, Tick, Restart}
use Rattle.xl_base.specs.declared.event.Out.{Out}
use Rattle.xl_base.specs.declared.journal.Entry.{Entry}
use Rattle.xl_base.specs.declared.lane.Link.{Link}
use Rattle.xl_base.specs.Memory.{counted}
use Rattle.xl_base.specs.Links.{Nexts, Sends, Shuts, fresh, send_failed}
use Rattle.xl_base.specs.declared.lane.NextOutcome.TheVariants as next
use Rattle.xl_base.specs.declared.sink.WriteOutcome.{WriteOutcome}
use Rattle.xl_base.specs.declared.sink.WriteOutcome.TheVariants as write
use Rattle.xl_frame.specs.Cutting.{Cutting, framed_of, fed, then_piece, unless_bad, without_first}
use Rattle.xl_frame.proofs.StreamLaws.{cut_anywhere, handed_are_frames}
use Rattle.xl_frame.specs.declared.fault.FrameBad.{FrameBad}
use Rattle.xl_base.specs.declared.event.Kind.{Kind}
use Rattle.xl_frame.specs.Frames.{Framed, with_frames, frames}
use Rattle.xl_work.specs.declared.worker.Conn.{Conn}
use Rattle.xl_work.specs.declared.worker.Live.{Live}
use Rattle.xl_work.specs.Calls.{IsCut}
use Rattle.xl_work.specs.Lives.{messages_in, with_message, is_end, has_end, is_of, is_bad, has_cause, all_conns, IsServing, Accounts, IsTold, AreTold, IsLeft, AreLeft, IsLeftOpen, IsUnentered, IsSending, HasPlace, is_whole, is_fine, end_of, IsAt, IsTaken, with_end, is_over, IsCaught, IsSettled, AreOfAll, HasEnded, IsOver, AreOver, IsLive, Serves, Hand, Nothing, Received, Unopened, held}

or_false : (b : Bool) → (b || false) ≡ b
or_false true = refl
or_false false = refl

pub or_true : (b : Bool) → (b || true) ≡ true
or_true true = refl
or_true false = refl

first_and_rest : {A : Type 0} (xs : List A) (x : A) → slice_get xs 0 ≡ Some x → x ∷ drop 1 xs ≡ xs
first_and_rest [] x found = absurd (cc found)
first_and_rest (y ∷ ys) x found = cc found

or_again : (a b c : Bool) → (a || (b || c)) ≡ ((a || b) || c)
or_again true b c = refl
or_again false b c = refl

-- ---- outs of more entries

pub outs_append : (number : ℕ) (xs ys : List Entry) → outs_to number (xs ++ ys) ≡ outs_to number xs ++ outs_to number ys
outs_append number [] ys = refl
outs_append number (x ∷ xs) ys = ap (λ more. sent_to number x.outs ++ more) (outs_append number xs ys) ∙ sym (append_assoc (sent_to number x.outs) (outs_to number xs) (outs_to number ys))

nothing_sent : (number : ℕ) (os : List Out) → AllByRecursion (λ o. goes_to number o.dest ≡ false) os → sent_to number os ≡ []
nothing_sent number [] silent = refl
nothing_sent number (o ∷ os) silent = rw silent.0 (nothing_sent number os silent.1)

pub silent_outs : (number : ℕ) (log : List Entry) → IsSilent number log → outs_to number log ≡ []
silent_outs number [] silent = refl
silent_outs number (e ∷ es) silent = ap (λ front. front ++ outs_to number es) (nothing_sent number e.outs silent.0) ∙ silent_outs number es silent.1

silent_behind : (number : ℕ) (xs ys : List Entry) → IsSilent number (xs ++ ys) → IsSilent number ys
silent_behind number [] ys silent = silent
silent_behind number (x ∷ xs) ys silent = silent_behind number xs ys silent.1

-- nothing is sent to a connection that has ended
pub ended_silent : (first : ℕ) (log more : List Entry) (number : ℕ) → IsInTime first (log ++ more) → HasEnded first log number → IsSilent number more
ended_silent first log more number timely ended =
    let parts : log ++ more ≡ ended.0 ++ ended.1 ∷ (ended.2 ++ more) = ap (λ l. l ++ more) ended.3 ∙ append_assoc ended.0 (ended.1 ∷ ended.2) more in
    silent_behind number ended.2 more (timely.ending ended.0 (ended.2 ++ more) ended.1 number parts ended.4 ended.5)

pub ended_still : (first : ℕ) (log more : List Entry) (number : ℕ) → HasEnded first log number → HasEnded first (log ++ more) number
ended_still first log more number ended = (ended.0, ended.1, ended.2 ++ more, ap (λ l. l ++ more) ended.3 ∙ append_assoc ended.0 (ended.1 ∷ ended.2) more, ended.4, ended.5)

pub front_more : (xs ys zs : List ℕ) → IsPrefix xs ys → IsPrefix xs (ys ++ zs)
front_more xs ys zs p = (p.0 ++ zs, sym (append_assoc xs p.0 zs) ∙ ap (λ w. w ++ zs) p.1)

-- ---- the journal grows

over_grows : (first : ℕ) (log more : List Entry) (l : Link) (c : Conn) (mine : List (ℕ × Event)) → IsInTime first (log ++ more) → IsOver first log l c mine → IsOver first (log ++ more) l c mine
over_grows first log more l c mine timely over =
    let none : outs_to c.number more ≡ [] = silent_outs c.number more (ended_silent first log more c.number timely over.closed) in
    let same : outs_to c.number (log ++ more) ≡ outs_to c.number log = outs_append c.number log more ∙ ap (λ rest. outs_to c.number log ++ rest) none ∙ append-nil (outs_to c.number log) in
    record {
      kind = over.kind;
      cut = over.cut;
      ends = over.ends;
      cause = over.cause;
      closed = ended_still first log more c.number over.closed;
      shut = over.shut;
      sent = subst (λ outs. IsPrefix l.sent outs) (sym same) over.sent;
      all = λ fine. over.all fine ∙ sym same;
    }

pub all_over_grow : (first : ℕ) (log more : List Entry) (ls : List Link) (conns : List Conn) (calls : List (ℕ × Event)) → IsInTime first (log ++ more) → AreOver first log ls conns calls → AreOver first (log ++ more) ls conns calls
all_over_grow first log more [] conns calls timely over = over
all_over_grow first log more (l ∷ ls) conns calls timely over = (over.0, over.1, over.2, over.3, over.4, over.5, over_grows first log more l over.1 over.3 timely over.6, all_over_grow first log more ls over.0 over.2 timely over.7)

take_grows : (k : ℕ) (log more : List Entry) → k ≤ length log → take k (log ++ more) ≡ take k log
take_grows k log more within = take-append-le k log more within

pub sending_grows : (first : ℕ) (log more : List Entry) (number from : ℕ) (has_failed : Bool) (failures : ℕ) (sent : List ℕ) → IsSending first log number from has_failed failures sent → IsSending first (log ++ more) number from has_failed failures sent
sending_grows first log more number from has_failed failures sent s =
    let low = s.from.0 in
    let high = s.from.1 in
    let opened = s.opened.1 in
    let within : from - first ≤ length log = omega arith in
    record {
      opened = (s.opened.0, omega (arith, length-append log more));
      from = (low, omega (arith, length-append log more));
      failed = s.failed;
      sent = subst (λ outs. IsPrefix sent outs) (sym (outs_append number log more)) (front_more sent (outs_to number log) (outs_to number more) s.sent);
      all = λ e. s.all e ∙ ap (outs_to number) (sym (take_grows (from - first) log more within));
    }

live_grows : (first : ℕ) (log more : List Entry) (l : Link) (v : Live) (hand : Hand) (mine : List (ℕ × Event)) → IsLive first log l v hand mine → IsLive first (log ++ more) l v hand mine
live_grows first log more l v hand mine live = record {
  kind = live.kind;
  cutter = live.cutter;
  cut = live.cut;
  ends = live.ends;
  ending = live.ending;
  cause = live.cause;
  closed = λ e. ended_still first log more v.conn.number (live.closed e);
  shut = live.shut;
  sending = sending_grows first log more v.conn.number v.from v.failed l.failed l.sent live.sending;
}

-- the journal grows
pub serves_grow : (first : ℕ) (log more : List Entry) (links : List Link) (conns : List Conn) (live : Option Live) (hand : Hand) (calls : List (ℕ × Event)) → IsInTime first (log ++ more) → Serves first log links conns live hand calls → Serves first (log ++ more) links conns live hand calls
serves_grow first log more links conns None Nothing calls timely serves = all_over_grow first log more links conns calls timely serves
serves_grow first log more links conns None (Received message) calls timely serves = serves
serves_grow first log more links conns None (Unopened kind) calls timely serves = (serves.0, serves.1, all_over_grow first log more serves.0 conns calls timely serves.2)
serves_grow first log more [] conns (Some v) hand calls timely serves = serves
serves_grow first log more (l ∷ ls) conns (Some v) hand calls timely serves = (serves.0, serves.1, serves.2, live_grows first log more l v hand serves.1 serves.3, all_over_grow first log more ls conns serves.0 timely serves.4)

-- ---- one call more

own_more : (first : ℕ) (cs : List Conn) (c : Conn) (calls : List (ℕ × Event)) (call : ℕ × Event) → is_of c.number call.1 ≡ true → AreOfAll first (cs ++ c ∷ []) calls → AreOfAll first (cs ++ c ∷ []) (calls ++ call ∷ [])
own_more first [] c calls call is own =
    let of = own.3 in (
      own.0 ++ call ∷ [],
      [],
      ap (λ l. l ++ call ∷ []) (own.2 ∙ ap (λ rest. own.0 ++ rest) own.4 ∙ append-nil own.0) ∙ sym (append-nil (own.0 ++ call ∷ [])),
      record { at = of.at; rest = of.rest ++ call ∷ []; opens = ap (λ l. l ++ call ∷ []) of.opens; number = of.number; own = all_more (λ (d : ℕ × Event). is_of c.number d.1 ≡ true) of.rest call of.own is },
      refl,
    )
own_more first (d ∷ ds) c calls call is own = (own.0, own.1 ++ call ∷ [], ap (λ l. l ++ call ∷ []) own.2 ∙ append_assoc own.0 own.1 (call ∷ []), own.3, own_more first ds c own.1 call is own.4)

own_new : (first : ℕ) (cs : List Conn) (c : Conn) (calls : List (ℕ × Event)) (at : ℕ) → c.number ≡ first + at → AreOfAll first cs calls → AreOfAll first (cs ++ c ∷ []) (calls ++ (at, Open c.kind) ∷ [])
own_new first [] c calls at number own = ((at, Open c.kind) ∷ [], [], ap (λ l. l ++ (at, Open c.kind) ∷ []) own ∙ sym (append-nil ((at, Open c.kind) ∷ [])), record { at = at; rest = []; opens = refl; number = number; own = tt }, refl)
own_new first (d ∷ ds) c calls at number own = (own.0, own.1 ++ (at, Open c.kind) ∷ [], ap (λ l. l ++ (at, Open c.kind) ∷ []) own.2 ∙ append_assoc own.0 own.1 ((at, Open c.kind) ∷ []), own.3, own_new first ds c own.1 at number own.4)

with_append : (e : Event) (xs ys zs : List (List ℕ)) → xs ≡ ys ++ zs → with_message e xs ≡ with_message e ys ++ zs
with_append (Message number bytes) xs ys zs same = ap (λ l. bytes ∷ l) same
with_append (Open kind) xs ys zs same = same
with_append (End number) xs ys zs same = same
with_append (Called call answer) xs ys zs same = same
with_append (Tick moment) xs ys zs same = same
with_append Restart xs ys zs same = same

messages_snoc : (calls : List (ℕ × Event)) (call : ℕ × Event) → messages_in (calls ++ call ∷ []) ≡ messages_in calls ++ messages_in (call ∷ [])
messages_snoc [] call = refl
messages_snoc (c ∷ cs) call = with_append c.1 (messages_in (cs ++ call ∷ [])) (messages_in cs) (messages_in (call ∷ [])) (messages_snoc cs call)

ends_snoc : (calls : List (ℕ × Event)) (call : ℕ × Event) → has_end (calls ++ call ∷ []) ≡ (has_end calls || is_end call.1)
ends_snoc [] call = or_false (is_end call.1)
ends_snoc (c ∷ cs) call = ap (λ b. is_end c.1 || b) (ends_snoc cs call) ∙ or_again (is_end c.1) (has_end cs) (is_end call.1)

-- ---- what a link is sent

pub counted_failed : (n : ℕ) → not (counted n == 0) ≡ true
counted_failed n = grind (arith, nat_tests)

-- what the journal sends from a place on completes what it sends before it
outs_whole : (number k : ℕ) (log : List Entry) (bytes : List ℕ) → bytes ≡ outs_to number (drop k log) → outs_to number (take k log) ++ bytes ≡ outs_to number log
outs_whole number k log bytes gives = ap (λ rest. outs_to number (take k log) ++ rest) gives ∙ sym (outs_append number (take k log) (drop k log)) ∙ ap (outs_to number) (take-append-drop k log)

-- all that the journal sends is sent from the place on up to which it was
pub sending_wrote : (first : ℕ) (log : List Entry) (number from end : ℕ) (has_failed : Bool) (failures : ℕ) (sent bytes : List ℕ) → IsSending first log number from has_failed failures sent → has_failed ≡ false → bytes ≡ outs_to number (drop (from - first) log) → end ≡ first + length log → IsSending first log number end false failures (sent ++ bytes)
sending_wrote first log number from end has_failed failures sent bytes s fine gives ends =
    let all : sent ++ bytes ≡ outs_to number log = ap (λ front. front ++ bytes) (s.all fine) ∙ outs_whole number (from - first) log bytes gives in record {
      opened = s.opened;
      from = (omega arith, omega arith);
      failed = sym fine ∙ s.failed;
      sent = ([], append-nil (sent ++ bytes) ∙ all);
      all = λ e. all ∙ ap (outs_to number) (sym (take_all (end - first) log (omega arith)));
    }

-- or a beginning of it, and the send failed
pub sending_broke : (first : ℕ) (log : List Entry) (number from end : ℕ) (has_failed : Bool) (failures : ℕ) (sent bytes front : List ℕ) → IsSending first log number from has_failed failures sent → has_failed ≡ false → bytes ≡ outs_to number (drop (from - first) log) → end ≡ first + length log → IsPrefix front bytes → IsSending first log number end true (counted failures) (sent ++ front)
sending_broke first log number from end has_failed failures sent bytes front s fine gives ends part = record {
  opened = s.opened;
  from = (omega arith, omega arith);
  failed = sym (counted_failed failures);
  sent = (part.0, append_assoc sent front part.0 ∙ ap (λ rest. sent ++ rest) part.1 ∙ ap (λ old. old ++ bytes) (s.all fine) ∙ outs_whole number (from - first) log bytes gives);
  all = λ e. absurd (cc e);
}

-- or nothing was to be sent
pub sending_none : (first : ℕ) (log : List Entry) (number from end : ℕ) (has_failed : Bool) (failures : ℕ) (sent bytes : List ℕ) → IsSending first log number from has_failed failures sent → bytes ≡ outs_to number (drop (from - first) log) → bytes ≡ [] → end ≡ first + length log → IsSending first log number end has_failed failures sent
sending_none first log number from end has_failed failures sent bytes s gives none_left ends =
    let same : outs_to number (take (from - first) log) ≡ outs_to number log = sym (append-nil (outs_to number (take (from - first) log))) ∙ ap (λ rest. outs_to number (take (from - first) log) ++ rest) (sym none_left) ∙ outs_whole number (from - first) log bytes gives in record {
      opened = s.opened;
      from = (omega arith, omega arith);
      failed = s.failed;
      sent = s.sent;
      all = λ fine. s.all fine ∙ same ∙ ap (outs_to number) (sym (take_all (end - first) log (omega arith)));
    }

-- a wait for its bytes failed
sending_failed : (first : ℕ) (log : List Entry) (number from : ℕ) (has_failed : Bool) (failures : ℕ) (sent : List ℕ) → IsSending first log number from has_failed failures sent → IsSending first log number from true (counted failures) sent
sending_failed first log number from has_failed failures sent s = record {
  opened = s.opened;
  from = s.from;
  failed = sym (counted_failed failures);
  sent = s.sent;
  all = λ e. absurd (cc e);
}

-- all was sent, if none of the calls failed
pub sending_all : (first : ℕ) (log : List Entry) (number from : ℕ) (has_failed : Bool) (failures : ℕ) (sent : List ℕ) → IsSending first log number from has_failed failures sent → (has_failed ≡ false → from ≡ first + length log) → failures ≡ 0 → sent ≡ outs_to number log
sending_all first log number from has_failed failures sent s caught fine =
    let ok : has_failed ≡ false = s.failed ∙ ap (λ n. not (n == 0)) fine in
    let end = caught ok in
    s.all ok ∙ ap (outs_to number) (take_all (from - first) log (omega arith))

-- the link is sent what the journal sends to it from the place on up to which it was sent all
pub live_sent : (first : ℕ) (log : List Entry) (l l2 : Link) (v : Live) (hand : Hand) (mine : List (ℕ × Event)) (bytes : List ℕ) (end : ℕ) (outcome : WriteOutcome)
    → IsLive first log l v hand mine → v.failed ≡ false → bytes ≡ outs_to v.conn.number (drop (v.from - first) log) → end ≡ first + length log → Sends outcome bytes l l2
    → IsLive first log l2 (record v { from = end; failed = send_failed outcome }) hand mine
live_sent first log l l2 v hand mine bytes end write.Wrote live fine gives ends step = subst (λ z. IsLive first log z (record v { from = end; failed = false }) hand mine) (sym step) record {
  kind = live.kind;
  cutter = live.cutter;
  cut = live.cut;
  ends = live.ends;
  ending = live.ending;
  cause = λ e. subst (λ b. (v.ending || b) ≡ true) fine (live.cause e);
  closed = live.closed;
  shut = live.shut;
  sending = sending_wrote first log v.conn.number v.from end v.failed l.failed l.sent bytes live.sending fine gives ends;
}
live_sent first log l l2 v hand mine bytes end write.Failed live fine gives ends step = subst (λ z. IsLive first log z (record v { from = end; failed = true }) hand mine) (sym step.2) record {
  kind = live.kind;
  cutter = live.cutter;
  cut = live.cut;
  ends = live.ends;
  ending = live.ending;
  cause = λ e. or_true v.ending;
  closed = live.closed;
  shut = live.shut;
  sending = sending_broke first log v.conn.number v.from end v.failed l.failed l.sent bytes step.0 live.sending fine gives ends step.1;
}

-- ---- what a link gives

-- a message is taken from the cutter
pub live_taken : (first : ℕ) (log : List Entry) (l : Link) (v : Live) (cutter : Cutting) (message : List ℕ) (mine : List (ℕ × Event)) → IsLive first log l v Nothing mine → slice_get v.cutter.ready 0 ≡ Some message → cutter ≡ without_first v.cutter → IsLive first log l (record v { cutter = cutter }) (Received message) mine
live_taken first log l v cutter message mine live found is = subst (λ z. IsLive first log l (record v { cutter = z }) (Received message) mine) (sym is) record {
  kind = live.kind;
  cutter = live.cutter;
  cut = ap (λ frames. record { frames = frames; rest = v.cutter.rest; bad = v.cutter.bad }) (append_assoc (messages_in mine) (message ∷ []) (drop 1 v.cutter.ready) ∙ ap (λ ready. messages_in mine ++ ready) (first_and_rest v.cutter.ready message found) ∙ ap (λ front. front ++ v.cutter.ready) (sym (append-nil (messages_in mine)))) ∙ live.cut;
  ends = live.ends;
  ending = live.ending;
  cause = live.cause;
  closed = live.closed;
  shut = live.shut;
  sending = live.sending;
}

-- the message is entered
pub live_entered : (first : ℕ) (log : List Entry) (l : Link) (v : Live) (at : ℕ) (message : List ℕ) (mine : List (ℕ × Event)) → IsLive first log l v (Received message) mine → IsLive first log l v Nothing (mine ++ (at, Message v.conn.number message) ∷ [])
live_entered first log l v at message mine live = record {
  kind = live.kind;
  cutter = live.cutter;
  cut = ap (λ ms. with_frames (ms ++ []) (framed_of v.cutter)) (messages_snoc mine (at, Message v.conn.number message)) ∙ ap (λ ms. with_frames ms (framed_of v.cutter)) (append-nil (messages_in mine ++ message ∷ [])) ∙ live.cut;
  ends = ends_snoc mine (at, Message v.conn.number message) ∙ or_false (has_end mine) ∙ live.ends;
  ending = live.ending;
  cause = live.cause;
  closed = live.closed;
  shut = live.shut;
  sending = live.sending;
}

-- the end is entered, which has a cause
pub live_ended : (first : ℕ) (log : List Entry) (l : Link) (v : Live) (at : ℕ) (mine : List (ℕ × Event)) → IsLive first log l v Nothing mine → (v.ending || v.failed) ≡ true → HasEnded first log v.conn.number → IsLive first log l (record v { ended = true }) Nothing (mine ++ (at, End v.conn.number) ∷ [])
live_ended first log l v at mine live cause closed = record {
  kind = live.kind;
  cutter = live.cutter;
  cut = ap (λ ms. with_frames (ms ++ []) (framed_of v.cutter)) (messages_snoc mine (at, End v.conn.number) ∙ append-nil (messages_in mine)) ∙ live.cut;
  ends = ends_snoc mine (at, End v.conn.number) ∙ or_true (has_end mine);
  ending = live.ending;
  cause = λ _. cause;
  closed = λ _. closed;
  shut = live.shut;
  sending = live.sending;
}

-- messages before a stream stay before it
then_with : (kind : Kind) (messages : List (List ℕ)) (f : Framed) (piece : List ℕ) → then_piece kind (with_frames messages f) piece ≡ with_frames messages (then_piece kind f piece)
unfolding then_piece
then_with kind messages f piece = by_bad f.bad where
  by_bad : (bad : Option FrameBad) → unless_bad bad (with_frames messages f) (with_frames (messages ++ f.frames) (frames kind (f.rest ++ piece))) ≡ with_frames messages (unless_bad bad f (with_frames f.frames (frames kind (f.rest ++ piece))))
  by_bad None = ap (λ ms. record { frames = ms; rest = (frames kind (f.rest ++ piece)).rest; bad = (frames kind (f.rest ++ piece)).bad }) (append_assoc messages f.frames (frames kind (f.rest ++ piece)).frames)
  by_bad (Some fault) = refl

-- bytes are taken and cut
pub live_fed : (first : ℕ) (log : List Entry) (l l2 : Link) (v : Live) (cutter : Cutting) (piece : List ℕ) (ending : Bool) (mine : List (ℕ × Event)) → IsLive first log l v Nothing mine → l2 ≡ record l { taken = l.taken ++ piece } → cutter ≡ fed v.cutter piece → ending ≡ (l.ended || is_bad cutter.bad) → (v.ended ≡ true → ending ≡ true ⊎ v.failed ≡ true)
    → IsLive first log l2 (record v { cutter = cutter; ending = ending }) Nothing mine
live_fed first log l l2 v cutter piece ending mine live took is ends still =
    let ms : List (List ℕ) = messages_in mine ++ [] in
    let old : frames l.kind l.taken ≡ with_frames ms (framed_of v.cutter) = sym live.cut in
    let cut : with_frames ms (framed_of (fed v.cutter piece)) ≡ frames l.kind (l.taken ++ piece) =
    sym (then_with v.cutter.kind ms (framed_of v.cutter) piece) ∙ ap (λ k. then_piece k (with_frames ms (framed_of v.cutter)) piece) (live.cutter ∙ sym live.kind) ∙ ap (λ f. then_piece l.kind f piece) live.cut ∙ sym (cut_anywhere l.kind l.taken piece) in
    subst (λ (z : Link × Cutting). IsLive first log z.0 (record v { cutter = z.1; ending = ending }) Nothing mine) (λ i. (sym took i, sym is i)) record {
      kind = live.kind;
      cutter = live.cutter;
      cut = cut;
      ends = live.ends;
      ending = ends ∙ ap (λ c. l.ended || is_bad c.bad) is;
      cause = λ e. ⊎_elim (λ (a : ending ≡ true). ap (λ b. b || v.failed) a) (λ (b : v.failed ≡ true). ap (λ f. ending || f) b ∙ or_true ending) (still e);
      closed = live.closed;
      shut = live.shut;
      sending = live.sending;
    }

-- the link says its end
pub live_said : (first : ℕ) (log : List Entry) (l l2 : Link) (v : Live) (mine : List (ℕ × Event)) → IsLive first log l v Nothing mine → l2 ≡ record l { ended = true } → IsLive first log l2 (record v { ending = true }) Nothing mine
live_said first log l l2 v mine live said = subst (λ z. IsLive first log z (record v { ending = true }) Nothing mine) (sym said) record {
  kind = live.kind;
  cutter = live.cutter;
  cut = live.cut;
  ends = live.ends;
  ending = refl;
  cause = λ e. refl;
  closed = live.closed;
  shut = live.shut;
  sending = live.sending;
}

-- a wait for its bytes failed
pub live_failed : (first : ℕ) (log : List Entry) (l l2 : Link) (v : Live) (mine : List (ℕ × Event)) → IsLive first log l v Nothing mine → l2 ≡ record l { failed = counted l.failed } → IsLive first log l2 (record v { failed = true }) Nothing mine
live_failed first log l l2 v mine live failed = subst (λ z. IsLive first log z (record v { failed = true }) Nothing mine) (sym failed) record {
  kind = live.kind;
  cutter = live.cutter;
  cut = live.cut;
  ends = live.ends;
  ending = live.ending;
  cause = λ e. or_true v.ending;
  closed = live.closed;
  shut = live.shut;
  sending = sending_failed first log v.conn.number v.from v.failed l.failed l.sent live.sending;
}

-- why the connection ends, by the link and by what is known of it
cause_of : (first : ℕ) (log : List Entry) (l : Link) (v : Live) (hand : Hand) (mine : List (ℕ × Event)) → IsLive first log l v hand mine → has_cause l ≡ (v.ending || v.failed)
cause_of first log l v hand mine live =
    ap (λ (f : Framed). (l.ended || is_bad f.bad) || not (l.failed == 0)) (sym live.cut) ∙ ap (λ e. e || not (l.failed == 0)) (sym live.ending) ∙ ap (λ f. v.ending || f) (sym live.sending.failed)

-- the link is over, and is shut
live_over : (first : ℕ) (log : List Entry) (l l2 : Link) (v : Live) (mine : List (ℕ × Event)) → IsLive first log l v Nothing mine → Shuts l l2 → v.ended ≡ true → v.cutter.ready ≡ [] → (v.failed ≡ false → v.from ≡ first + length log) → IsOver first log l2 v.conn mine
live_over first log l l2 v mine live shuts ended empty caught = subst (λ z. IsOver first log z v.conn mine) (sym shuts) record {
  kind = live.kind;
  cut = sym (append-nil (messages_in mine)) ∙ sym (append-nil (messages_in mine ++ [])) ∙ ap (λ ready. (messages_in mine ++ []) ++ ready) (sym empty) ∙ ap (λ (f : Framed). f.frames) live.cut;
  ends = live.ends ∙ ended;
  cause = cause_of first log l v Nothing mine live ∙ live.cause ended;
  closed = live.closed ended;
  shut = refl;
  sent = live.sending.sent;
  all = sending_all first log v.conn.number v.from v.failed l.failed l.sent live.sending caught;
}

-- ---- a worker goes on

-- the newest link after a step that it told
told_step : (first : ℕ) (log : List Entry) (conns : List Conn) (v v2 : Live) (hand hand2 : Hand) (calls : List (ℕ × Event)) (links old y z : List Link) (step : Link → Link → Type 0) → y ≡ links ++ old → OnNewest step y z → Serves first log links conns (Some v) hand calls
    → ((l l2 : Link) (mine : List (ℕ × Event)) → IsLive first log l v hand mine → step l l2 → IsLive first log l2 v2 hand2 mine) → (links2 : List Link) × (z ≡ links2 ++ old) × Serves first log links2 conns (Some v2) hand2 calls
told_step first log conns v v2 hand hand2 calls [] old y z step is on serves each = absurd serves
told_step first log conns v v2 hand hand2 calls (l ∷ ls) old y z step is on serves each =
    let newest : OnNewest step (l ∷ (ls ++ old)) z = subst (λ y. OnNewest step y z) is on in
    (newest.0 ∷ ls, newest.1, (serves.0, serves.1, serves.2, each l newest.0 serves.1 serves.3 newest.2, serves.4))

called_step : (first : ℕ) (log more : List Entry) (conns : List Conn) (v v2 : Live) (hand hand2 : Hand) (calls : List (ℕ × Event)) (call : ℕ × Event) (links : List Link) → IsInTime first (log ++ more) → Serves first log links conns (Some v) hand calls
    → ((l : Link) (mine : List (ℕ × Event)) → IsLive first log l v hand mine → IsLive first (log ++ more) l v2 hand2 (mine ++ call ∷ [])) → Serves first (log ++ more) links conns (Some v2) hand2 (calls ++ call ∷ [])
called_step first log more conns v v2 hand hand2 calls call [] timely serves each = absurd serves
called_step first log more conns v v2 hand hand2 calls call (l ∷ ls) timely serves each =
    (serves.0, serves.1 ++ call ∷ [], ap (λ c. c ++ call ∷ []) serves.2 ∙ append_assoc serves.0 serves.1 (call ∷ []), each l serves.1 serves.3, all_over_grow first log more ls conns serves.0 timely serves.4)

over_step : (first : ℕ) (log : List Entry) (conns : List Conn) (v : Live) (calls : List (ℕ × Event)) (links old y z : List Link) → y ≡ links ++ old → OnNewest Shuts y z → Serves first log links conns (Some v) Nothing calls
    → ((l l2 : Link) (mine : List (ℕ × Event)) → IsLive first log l v Nothing mine → Shuts l l2 → IsOver first log l2 v.conn mine) → (links2 : List Link) × (z ≡ links2 ++ old) × AreOver first log links2 (conns ++ v.conn ∷ []) calls
over_step first log conns v calls [] old y z is on serves each = absurd serves
over_step first log conns v calls (l ∷ ls) old y z is on serves each =
    let newest : OnNewest Shuts (l ∷ (ls ++ old)) z = subst (λ y. OnNewest Shuts y z) is on in
    (newest.0 ∷ ls, newest.1, (conns, v.conn, serves.0, serves.1, refl, serves.2, each l newest.0 serves.1 serves.3 newest.2, serves.4))

-- a fresh link
live_fresh : (first : ℕ) (log : List Entry) (v : Live) (at : ℕ) → IsInTime first log → v.cutter ≡ record { kind = v.conn.kind; ready = []; rest = []; bad = None } → v.from ≡ v.conn.number → v.ending ≡ false → v.failed ≡ false → v.ended ≡ false → first ≤ v.conn.number → v.conn.number < first + length log
    → IsLive first log (fresh v.conn.kind) v Nothing ((at, Open v.conn.kind) ∷ [])
live_fresh first log v at timely cutter from ending failed ended low high =
    let k : ℕ = v.from - first in
    let within : k ≤ length log = omega arith in
    let none_yet : outs_to v.conn.number (take k log) ≡ [] = silent_outs v.conn.number (take k log) (timely.opening (take k log) (drop k log) v.conn.number (sym (take-append-drop k log)) (omega (arith, length-take-le k log within))) in record {
      kind = refl;
      cutter = ap (λ c. c.kind) cutter;
      cut = ap (λ c. with_frames [] (framed_of c)) cutter ∙ handed_are_frames v.conn.kind [];
      ends = sym ended;
      ending = ending ∙ sym (ap (λ c. is_bad c.bad) cutter);
      cause = λ e. absurd (cc (e, ended));
      closed = λ e. absurd (cc (e, ended));
      shut = refl;
      sending = record {
        opened = (low, high);
        from = (omega arith, omega arith);
        failed = failed;
        sent = (outs_to v.conn.number log, refl);
        all = λ _. sym none_yet;
      };
    }

module _ {O : Type 0} (told : Option (List Link)) (before : View O) where
  pub serving_looked : (told' : Option (List Link)) (w w2 : View O) (conns : List Conn) (live : Option Live) (hand : Hand) → IsServing told before told' w conns live hand → Goes w w2 → MadeNone w w2 → IsInTime w2.first w2.seen → IsServing told before told' w2 conns live hand
  serving_looked told' w w2 conns live hand s goes none_more timely =
      let more = goes.seen.0 in
      let is : w.seen ++ more ≡ w2.seen = goes.seen.1 in
      let base : w2.first ≡ w.first = goes.first in
      let in_time : IsInTime w.first (w.seen ++ more) = subst (λ (z : ℕ × List Entry). IsInTime z.0 z.1) (λ i. (base i, sym is i)) timely in record {
        goes = goes_then before w w2 s.goes goes;
        shares = none_more.shares ∙ s.shares;
        calls = s.calls;
        mine = none_more.mine ∙ s.mine;
        made = none_more.made ∙ s.made;
        own = subst (λ first. AreOfAll first (all_conns conns live) s.calls) (sym base) s.own;
        links = follows_as told told' _ _ s.links (λ old new a. (a.0, a.1, subst (λ (z : ℕ × List Entry). Serves z.0 z.1 a.0 conns live hand s.calls) (λ i. (sym base i, is i)) (serves_grow w.first w.seen more a.0 conns live hand s.calls in_time a.2)));
      }

  pub serving_told : (told' told2 : Option (List Link)) (w : View O) (conns : List Conn) (v v2 : Live) (hand hand2 : Hand) (step : Link → Link → Type 0) → IsServing told before told' w conns (Some v) hand → Follows told' told2 (OnNewest step) → v2.conn ≡ v.conn
      → ((l l2 : Link) (mine : List (ℕ × Event)) → IsLive w.first w.seen l v hand mine → step l l2 → IsLive w.first w.seen l2 v2 hand2 mine) → IsServing told before told2 w conns (Some v2) hand2
  serving_told told' told2 w conns v v2 hand hand2 step s tells same each = record {
    goes = s.goes;
    shares = s.shares;
    calls = s.calls;
    mine = s.mine;
    made = s.made;
    own = subst (λ c. AreOfAll w.first (conns ++ c ∷ []) s.calls) (sym same) s.own;
    links = follows_then told told' told2 _ _ _ s.links tells (λ x y z a b. told_step w.first w.seen conns v v2 hand hand2 s.calls a.0 x y z step a.1 b a.2 each);
  }

  -- what changes of the link that is served, and not of what is told
  pub serving_changed : (told' : Option (List Link)) (w : View O) (conns : List Conn) (v v2 : Live) (hand hand2 : Hand) → IsServing told before told' w conns (Some v) hand → v2.conn ≡ v.conn → ((l : Link) (mine : List (ℕ × Event)) → IsLive w.first w.seen l v hand mine → IsLive w.first w.seen l v2 hand2 mine) → IsServing told before told' w conns (Some v2) hand2
  serving_changed told' w conns v v2 hand hand2 s same each = record {
    goes = s.goes;
    shares = s.shares;
    calls = s.calls;
    mine = s.mine;
    made = s.made;
    own = subst (λ c. AreOfAll w.first (conns ++ c ∷ []) s.calls) (sym same) s.own;
    links = follows_as told told' _ _ s.links (λ old new a. (a.0, a.1, changed a.0 a.2));
  }
    where
      changed : (links : List Link) → Serves w.first w.seen links conns (Some v) hand s.calls → Serves w.first w.seen links conns (Some v2) hand2 s.calls
      changed [] serves = absurd serves
      changed (l ∷ ls) serves = (serves.0, serves.1, serves.2, each l serves.1 serves.3, serves.4)

  pub serving_called : (told' : Option (List Link)) (w w2 : View O) (conns : List Conn) (v v2 : Live) (hand hand2 : Hand) (place : ℕ) (event : Event) → IsServing told before told' w conns (Some v) hand → (did : IsCalled w w2 place event) → IsInTime w2.first w2.seen → is_of v.conn.number event ≡ true → v2.conn ≡ v.conn
      → ((l : Link) (mine : List (ℕ × Event)) (at : ℕ) → IsLive w.first w.seen l v hand mine → IsLive w.first (w.seen ++ did.goes.seen.0) l v2 hand2 (mine ++ (at, event) ∷ [])) → IsServing told before told' w2 conns (Some v2) hand2
  serving_called told' w w2 conns v v2 hand hand2 place event s did timely of same each =
      let at : ℕ = did.mine.0 in
      let c : ℕ × Event = (at, event) in
      let goes = did.goes in
      let more = goes.seen.0 in
      let is : w.seen ++ more ≡ w2.seen = goes.seen.1 in
      let base : w2.first ≡ w.first = goes.first in
      let in_time : IsInTime w.first (w.seen ++ more) = subst (λ (z : ℕ × List Entry). IsInTime z.0 z.1) (λ i. (base i, sym is i)) timely in record {
        goes = goes_then before w w2 s.goes goes;
        shares = did.shares ∙ s.shares;
        calls = s.calls ++ c ∷ [];
        mine = did.mine.2 ∙ ap (λ front. front ++ c ∷ []) s.mine ∙ append_assoc before.mine s.calls (c ∷ []);
        made = (let one = did.made in let all = s.made in omega (arith, length-append s.calls (c ∷ [])));
        own = subst (λ (z : ℕ × Conn). AreOfAll z.0 (conns ++ z.1 ∷ []) (s.calls ++ c ∷ [])) (λ i. (sym base i, sym same i)) (own_more w.first conns v.conn s.calls c of s.own);
        links = follows_as told told' _ _ s.links (λ old new a. (
          a.0,
          a.1,
          subst (λ (z : ℕ × List Entry). Serves z.0 z.1 a.0 conns (Some v2) hand2 (s.calls ++ c ∷ [])) (λ i. (sym base i, is i)) (called_step w.first w.seen more conns v v2 hand hand2 s.calls c a.0 in_time a.2 (λ l mine live. each l mine at live)),
        ));
      }

  -- the end is entered, where it has a cause
  pub serving_ended : (told' : Option (List Link)) (w w2 : View O) (conns : List Conn) (live : Option Live) (number place : ℕ) → IsServing told before told' w conns live Nothing → IsCalled w w2 place (End number) → IsInTime w2.first w2.seen → IsAt number live → is_over live ≡ true → IsServing told before told' w2 conns (option_map with_end live) Nothing
  serving_ended told' w w2 conns None number place s did timely at over = absurd at
  serving_ended told' w w2 conns (Some v) number place s did timely at over =
      let last = did.seen in
      let is : w.seen ++ did.goes.seen.0 ≡ (w.seen ++ last.0) ++ last.1 ∷ [] = did.goes.seen.1 ∙ last.2 in
      let long = length-append w.seen last.0 in
      serving_called told' w w2 conns v (with_end v) Nothing Nothing place (End number) s did timely (subst (λ n. (n == v.conn.number) ≡ true) (sym at) (eq-eqb v.conn.number v.conn.number refl)) refl
      (λ l mine at_place live.
      let opened = live.sending.opened in
      subst (λ n. IsLive w.first (w.seen ++ did.goes.seen.0) l (with_end v) Nothing (mine ++ (at_place, End n) ∷ [])) (sym at)
      (live_ended w.first (w.seen ++ did.goes.seen.0) l v at_place mine (live_grows w.first w.seen did.goes.seen.0 l v Nothing mine live) over
      (w.seen ++ last.0, last.1, [], is, last.4 ∙ ap End at, omega arith)))

  -- a message is taken from the cutter, and entered
  pub serving_taken : (told' : Option (List Link)) (w : View O) (conns : List Conn) (live live2 : Option Live) (message : ℕ × List ℕ) → IsServing told before told' w conns live Nothing → IsTaken live (Some message) live2 → IsServing told before told' w conns live2 (Received message.1)
  serving_taken told' w conns None live2 message s taken = absurd (cc taken.0)
  serving_taken told' w conns (Some v) live2 message s taken = subst (λ l. IsServing told before told' w conns l (Received message.1)) (sym taken.2)
      (serving_changed told' w conns v (record v { cutter = without_first v.cutter }) Nothing (Received message.1) s refl (λ l mine live. live_taken w.first w.seen l v (without_first v.cutter) message.1 mine live taken.0 refl))

  pub serving_entered : (told' : Option (List Link)) (w w2 : View O) (conns : List Conn) (live : Option Live) (number place : ℕ) (message : List ℕ) → IsServing told before told' w conns live (Received message) → IsCalled w w2 place (Message number message) → IsInTime w2.first w2.seen → IsAt number live → IsServing told before told' w2 conns live Nothing
  serving_entered told' w w2 conns None number place message s did timely at = absurd at
  serving_entered told' w w2 conns (Some v) number place message s did timely at =
      serving_called told' w w2 conns v v (Received message) Nothing place (Message number message) s did timely (subst (λ n. (n == v.conn.number) ≡ true) (sym at) (eq-eqb v.conn.number v.conn.number refl)) refl
      (λ l mine at_place live. subst (λ n. IsLive w.first (w.seen ++ did.goes.seen.0) l v Nothing (mine ++ (at_place, Message n message) ∷ [])) (sym at) (live_entered w.first (w.seen ++ did.goes.seen.0) l v at_place message mine (live_grows w.first w.seen did.goes.seen.0 l v (Received message) mine live)))

  -- a link comes
  pub serving_next : (told' told2 : Option (List Link)) (w : View O) (conns : List Conn) (kind : Kind) → IsServing told before told' w conns None Nothing → Follows told' told2 (Nexts (next.Link kind)) → IsServing told before told2 w conns None (Unopened kind)
  serving_next told' told2 w conns kind s tells = record {
    goes = s.goes;
    shares = s.shares;
    calls = s.calls;
    mine = s.mine;
    made = s.made;
    own = s.own;
    links = follows_then told told' told2 _ _ _ s.links tells (λ x y z a b. (fresh kind ∷ a.0, b ∙ ap (λ ls. fresh kind ∷ ls) a.1, (a.0, refl, a.2)));
  }

  -- no link came
  pub serving_same : (told' told2 : Option (List Link)) (w : View O) (conns : List Conn) (live : Option Live) (hand : Hand) → IsServing told before told' w conns live hand → Follows told' told2 (λ old new. new ≡ old) → IsServing told before told2 w conns live hand
  serving_same told' told2 w conns live hand s tells = record {
    goes = s.goes;
    shares = s.shares;
    calls = s.calls;
    mine = s.mine;
    made = s.made;
    own = s.own;
    links = follows_then told told' told2 _ _ _ s.links tells (λ x y z a b. (a.0, b ∙ a.1, a.2));
  }

  -- its opening is entered
  pub serving_opened : (told' : Option (List Link)) (w w2 : View O) (conns : List Conn) (v : Live) (place : ℕ) → IsServing told before told' w conns None (Unopened v.conn.kind) → IsCalled w w2 place (Open v.conn.kind) → IsInTime w2.first w2.seen
      → v.conn.number ≡ place → v.cutter ≡ record { kind = v.conn.kind; ready = []; rest = []; bad = None } → v.from ≡ v.conn.number → v.ending ≡ false → v.failed ≡ false → v.ended ≡ false → IsServing told before told' w2 conns (Some v) Nothing
  serving_opened told' w w2 conns v place s did timely is_place cutter from ending failed ended =
      let at : ℕ = did.mine.0 in
      let c : ℕ × Event = (at, Open v.conn.kind) in
      let goes = did.goes in
      let more = goes.seen.0 in
      let is : w.seen ++ more ≡ w2.seen = goes.seen.1 in
      let base : w2.first ≡ w.first = goes.first in
      let in_time : IsInTime w.first (w.seen ++ more) = subst (λ (z : ℕ × List Entry). IsInTime z.0 z.1) (λ i. (base i, sym is i)) timely in
      let last = did.seen in
      let number : v.conn.number ≡ w2.first + at = is_place ∙ did.mine.1 ∙ ap (λ n. n + at) (sym base) in
      let long : length w2.seen ≡ length (w.seen ++ last.0) + 1 = ap length last.2 ∙ length-append (w.seen ++ last.0) (last.1 ∷ []) in
      let stands = last.3 in
      let high : v.conn.number < w2.first + length w2.seen = omega arith in
      let low : w2.first ≤ v.conn.number = omega arith in record {
        goes = goes_then before w w2 s.goes goes;
        shares = did.shares ∙ s.shares;
        calls = s.calls ++ c ∷ [];
        mine = did.mine.2 ∙ ap (λ front. front ++ c ∷ []) s.mine ∙ append_assoc before.mine s.calls (c ∷ []);
        made = (let one = did.made in let all = s.made in omega (arith, length-append s.calls (c ∷ [])));
        own = own_new w2.first conns v.conn s.calls at number (subst (λ first. AreOfAll first conns s.calls) (sym base) s.own);
        links = follows_as told told' _ _ s.links (λ x y a. (
          fresh v.conn.kind ∷ a.2.0,
          a.1 ∙ ap (λ ls. ls ++ x) a.2.1,
          (s.calls, c ∷ [], refl, live_fresh w2.first w2.seen v at timely cutter from ending failed ended low high, subst (λ (z : ℕ × List Entry). AreOver z.0 z.1 a.2.0 conns s.calls) (λ i. (sym base i, is i)) (all_over_grow w.first w.seen more a.2.0 conns s.calls in_time a.2.2)),
        ));
      }

  -- the link is over, and is shut
  pub serving_over : (told' told2 : Option (List Link)) (w : View O) (conns conns2 : List Conn) (v : Live) → IsServing told before told' w conns (Some v) Nothing → Follows told' told2 (OnNewest Shuts) → conns2 ≡ conns ++ v.conn ∷ [] → v.ended ≡ true → v.cutter.ready ≡ [] → (v.failed ≡ false → v.from ≡ w.first + length w.seen)
      → IsServing told before told2 w conns2 None Nothing
  serving_over told' told2 w conns conns2 v s tells is ended empty caught = subst (λ cs. IsServing told before told2 w cs None Nothing) (sym is) record {
    goes = s.goes;
    shares = s.shares;
    calls = s.calls;
    mine = s.mine;
    made = s.made;
    own = s.own;
    links = follows_then told told' told2 _ _ _ s.links tells (λ x y z a b. over_step w.first w.seen conns v s.calls a.0 x y z a.1 b a.2 (λ l l2 mine live shuts. live_over w.first w.seen l l2 v mine live shuts ended empty caught));
  }

pub in_time_of : {O : Type 0} (first : O → ℕ) (lawful : O → List Entry → Type 0) (v : View O) → AreInTime first lawful → IsLawful first lawful v → IsInTime v.first v.seen
in_time_of first lawful v timely l = subst (λ n. IsInTime n v.seen) (sym l.2) (timely l.0 v.seen l.3)

-- nothing was to be sent
live_unsent : (first : ℕ) (log : List Entry) (l : Link) (v : Live) (hand : Hand) (mine : List (ℕ × Event)) (bytes : List ℕ) (end : ℕ)
    → IsLive first log l v hand mine → bytes ≡ outs_to v.conn.number (drop (v.from - first) log) → bytes ≡ [] → end ≡ first + length log → IsLive first log l (record v { from = end }) hand mine
live_unsent first log l v hand mine bytes end live gives none_left ends = record {
  kind = live.kind;
  cutter = live.cutter;
  cut = live.cut;
  ends = live.ends;
  ending = live.ending;
  cause = live.cause;
  closed = live.closed;
  shut = live.shut;
  sending = sending_none first log v.conn.number v.from end v.failed l.failed l.sent bytes live.sending gives none_left ends;
}

-- ---- the end of a lane

-- of a whole lane's link: its end is entered exactly if it has a cause
accounts : (late : ℕ) (ended : Bool) (l : Link) → has_cause l ≡ ended → Accounts late ended l
accounts late true l is = is
accounts late false l is = neither (l.ended || is_bad (frames l.kind l.taken).bad) l.failed is
  where
    neither : (a : Bool) (n : ℕ) → (a || not (n == 0)) ≡ false → (a ≡ false) × (n ≤ late)
    neither true n is = absurd (cc is)
    neither false n is = (refl, grind (arith, nat_tests))

over_told : (late : ℕ) (whole fine : Bool) (first : ℕ) (log : List Entry) (l : Link) (c : Conn) (mine : List (ℕ × Event)) → IsOver first log l c mine → IsTold late whole fine first log l c mine
over_told late whole fine first log l c mine over = record {
  kind = over.kind;
  cut = ([], append-nil (messages_in mine) ∙ over.cut);
  full = λ _. (over.cut, subst (λ ended. Accounts late ended l) (sym over.ends) over.cause, over.shut ∙ sym over.ends);
  cause = λ _. over.cause;
  shut = λ _. over.ends;
  sent = over.sent;
  all = λ _. over.all;
}

pub all_told : (late : ℕ) (whole fine : Bool) (first : ℕ) (log : List Entry) (links : List Link) (conns : List Conn) (calls : List (ℕ × Event)) → AreOver first log links conns calls → AreTold late whole fine first log links conns calls
all_told late whole fine first log [] conns calls over = over
all_told late whole fine first log (l ∷ ls) conns calls over = (over.0, over.1, over.2, over.3, over.4, over.5, over_told late whole fine first log l over.1 over.3 over.6, all_told late whole fine first log ls over.0 over.2 over.7)

live_left : (first : ℕ) (log : List Entry) (l : Link) (v : Live) (hand : Hand) (mine : List (ℕ × Event)) → IsLive first log l v hand mine → IsLeftOpen 0 false first log l v mine
live_left first log l v hand mine live = record {
  kind = live.kind;
  cut = (held hand ++ v.cutter.ready, sym (append_assoc (messages_in mine) (held hand) v.cutter.ready) ∙ ap (λ (f : Framed). f.frames) live.cut);
  full = λ e. absurd (cc e);
  cause = λ e. cause_of first log l v hand mine live ∙ live.cause (sym live.ends ∙ e);
  shut = live.shut;
  sending = live.sending;
}

live_settled : (first : ℕ) (log : List Entry) (l : Link) (v : Live) (mine : List (ℕ × Event)) → IsLive first log l v Nothing mine → v.cutter.ready ≡ [] → v.ending ≡ false → v.failed ≡ false → v.ended ≡ false → IsLeftOpen 0 true first log l v mine
live_settled first log l v mine live empty ending failed ended = record {
  kind = live.kind;
  cut = (v.cutter.ready, ap (λ ms. ms ++ v.cutter.ready) (sym (append-nil (messages_in mine))) ∙ ap (λ (f : Framed). f.frames) live.cut);
  full = λ _. (
    sym (append-nil (messages_in mine)) ∙ sym (append-nil (messages_in mine ++ [])) ∙ ap (λ ready. (messages_in mine ++ []) ++ ready) (sym empty) ∙ ap (λ (f : Framed). f.frames) live.cut,
    accounts 0 (has_end mine) l (cause_of first log l v Nothing mine live ∙ ap (λ (z : Bool × Bool). z.0 || z.1) (λ i. (ending i, failed i)) ∙ sym (live.ends ∙ ended)),
    live.shut ∙ sym (live.ends ∙ ended),
  );
  cause = λ e. absurd (cc (e, live.ends, ended));
  shut = live.shut;
  sending = live.sending;
}

-- what is left of links in the midst of a turn: all that were opened, and a last one that wasn't
abbrev Left : ℕ → List Entry → List Link → List Conn → Option Live → List (ℕ × Event) → Type 0
Left first log links conns live calls = (unentered : List Link) × (opened : List Link) × (links ≡ unentered ++ opened) × IsUnentered false live unentered × AreLeft 0 false first log opened conns live calls

links_left : (first : ℕ) (log : List Entry) (links : List Link) (conns : List Conn) (live : Option Live) (hand : Hand) (calls : List (ℕ × Event)) → Serves first log links conns live hand calls → Left first log links (all_conns conns live) live calls
links_left first log links conns None Nothing calls serves = ([], links, refl, tt, serves)
links_left first log links conns None (Received message) calls serves = absurd serves
links_left first log links conns None (Unopened kind) calls serves = (fresh kind ∷ [], serves.0, serves.1, (refl, refl, refl), serves.2)
links_left first log [] conns (Some v) hand calls serves = absurd serves
links_left first log (l ∷ ls) conns (Some v) hand calls serves = ([], l ∷ ls, refl, tt, (conns, serves.0, serves.1, refl, serves.2, live_left first log l v hand serves.1 serves.3, serves.4))

links_settled : (whole : Bool) (first : ℕ) (log : List Entry) (links : List Link) (conns : List Conn) (live : Option Live) (calls : List (ℕ × Event)) → Serves first log links conns live Nothing calls → IsSettled live → AreLeft 0 whole first log links (all_conns conns live) live calls
links_settled whole first log links conns None calls serves settled = serves
links_settled whole first log [] conns (Some v) calls serves settled = absurd serves
links_settled true first log (l ∷ ls) conns (Some v) calls serves settled = (conns, serves.0, serves.1, refl, serves.2, live_settled first log l v serves.1 serves.3 settled.0 settled.1 settled.2 settled.3, serves.4)
links_settled false first log (l ∷ ls) conns (Some v) calls serves settled = (conns, serves.0, serves.1, refl, serves.2, live_left first log l v Nothing serves.1 serves.3, serves.4)

module _ {O : Type 0} (told : Option (List Link)) (before : View O) where
  -- the lane is left in the midst of a turn
  pub serving_left : (open_gate : Bool) (end : LaneEnd) (told' : Option (List Link)) (w : View O) (conns : List Conn) (live : Option Live) (hand : Hand) → IsServing told before told' w conns live hand → HasPlace w live → is_whole open_gate end ≡ false → (is_fine end ≡ true → IsCaught w live) → IsLeft open_gate end told before told' w (all_conns conns live) live
  serving_left open_gate end told' w conns live hand s place part caught = record {
    goes = s.goes;
    shares = s.shares;
    calls = s.calls;
    mine = s.mine;
    made = s.made;
    caught = caught;
    lane = record {
      own = s.own;
      place = place;
      links = follows_as told told' _ _ s.links (λ old new a.
          let left = links_left w.first w.seen a.0 conns live hand s.calls a.2 in (
            left.0,
            left.1,
            a.1 ∙ ap (λ ls. ls ++ old) left.2,
            subst (λ whole. IsUnentered whole live left.0) (sym part) left.3,
            subst (λ whole. AreLeft 0 whole w.first w.seen left.1 (all_conns conns live) live s.calls) (sym part) left.4,
          ));
    };
  }

  -- the lane is left between two turns
  pub serving_done : (open_gate : Bool) (end : LaneEnd) (told' : Option (List Link)) (w : View O) (conns : List Conn) (live : Option Live) → IsServing told before told' w conns live Nothing → HasPlace w live → IsSettled live → IsCaught w live → IsLeft open_gate end told before told' w (all_conns conns live) live
  serving_done open_gate end told' w conns live s place settled caught = record {
    goes = s.goes;
    shares = s.shares;
    calls = s.calls;
    mine = s.mine;
    made = s.made;
    caught = λ _. caught;
    lane = record {
      own = s.own;
      place = place;
      links = follows_as told told' _ _ s.links (λ old new a. ([], a.0, a.1, tt, links_settled (is_whole open_gate end) w.first w.seen a.0 conns live s.calls a.2 settled));
    };
  }

pub nothing_in : (xs : List ℕ) → (length xs == 0) ≡ true → xs ≡ []
nothing_in [] empty = refl
nothing_in (x ∷ xs) empty = absurd (grind (arith, nat_tests))

module _ {O : Type 0} (told : Option (List Link)) (before : View O) where
  -- the journal was looked at, and the link had nothing to be sent
  pub caught_unsent : (told' : Option (List Link)) (w w2 : View O) (conns : List Conn) (live : Option Live) (v : Live) (hand : Hand) (bytes sent : List ℕ) (end : ℕ) → IsServing told before told' w conns live hand → live ≡ Some v → IsLooked w w2 → IsInTime w2.first w2.seen
      → bytes ≡ outs_to v.conn.number (drop (v.from - w2.first) w2.seen) → sent ≡ bytes → (length sent == 0) ≡ true → end ≡ w2.first + length w2.seen → IsServing told before told' w2 conns (Some (record v { from = end })) hand
  caught_unsent told' w w2 conns live v hand bytes sent end s is looked timely gives same empty ends =
      let here = subst (λ l. IsServing told before told' w conns l hand) is s in
      let grown = serving_looked told before told' w w2 conns (Some v) hand here looked.goes looked.none timely in
      serving_changed told before told' w2 conns v (record v { from = end }) hand hand grown refl (λ l mine live. live_unsent w2.first w2.seen l v hand mine bytes end live gives (sym same ∙ nothing_in sent empty) ends)

  -- and it was sent something
  pub caught_sent : (told' told2 : Option (List Link)) (w w2 : View O) (conns : List Conn) (live : Option Live) (v : Live) (hand : Hand) (bytes sent : List ℕ) (end : ℕ) (outcome : WriteOutcome) → IsServing told before told' w conns live hand → live ≡ Some v → v.failed ≡ false → IsLooked w w2 → IsInTime w2.first w2.seen
      → bytes ≡ outs_to v.conn.number (drop (v.from - w2.first) w2.seen) → sent ≡ bytes → end ≡ w2.first + length w2.seen → Follows told' told2 (OnNewest (Sends outcome sent)) → IsServing told before told2 w2 conns (Some (record v { from = end; failed = send_failed outcome })) hand
  caught_sent told' told2 w w2 conns live v hand bytes sent end outcome s is fine looked timely gives same ends tells =
      let here = subst (λ l. IsServing told before told' w conns l hand) is s in
      let grown = serving_looked told before told' w w2 conns (Some v) hand here looked.goes looked.none timely in
      serving_told told before told' told2 w2 conns v (record v { from = end; failed = send_failed outcome }) hand hand (Sends outcome sent) grown tells refl (λ l l2 mine live step. live_sent w2.first w2.seen l l2 v hand mine sent end outcome live fine (same ∙ gives) ends step)

pub refused_is_part : (open_gate : Bool) (e : DeskErr) → is_whole open_gate (end_of e) ≡ false
refused_is_part open_gate (desk.Halted reason count) = refl
refused_is_part open_gate (desk.Stopped reason count) = refl

-- the machine was found halted, behind the whole journal
halted_cut : {O : Type 0} (may_halt : List Entry → Halt → Type 0) (v w u : View O) (reason : Halt) (count : ℕ) → IsHalted may_halt v w reason count → Goes w u → IsCut may_halt u (lane_end.Stopped reason count)
halted_cut may_halt v w u reason count halted goes =
    let same : u.seen ≡ w.seen = subst (λ x. IfSome x (λ _. u.seen ≡ w.seen)) halted.halt goes.whole in
    (subst (λ x. IfSome x (λ r. u.halt ≡ Some r)) halted.halt goes.halt, ap length same ∙ halted.count, subst (λ log. may_halt log reason) (sym same) halted.may)

pub refused_cut : {O : Type 0} (may_halt : List Entry → Halt → Type 0) (v w u : View O) (e : DeskErr) → IsRefused may_halt v w e → Goes w u → IsCut may_halt u (end_of e)
refused_cut may_halt v w u (desk.Halted reason count) refused goes = halted_cut may_halt v w u reason count refused goes
refused_cut may_halt v w u (desk.Stopped reason count) refused goes = halted_cut may_halt v w u reason count refused goes

module _ {O : Type 0} (told : Option (List Link)) (before : View O) where
  -- a call was refused, and the link was caught up
  pub refused_left : (open_gate : Bool) (may_halt : List Entry → Halt → Type 0) (e : DeskErr) (end : LaneEnd) (told' told2 : Option (List Link)) (w w2 u : View O) (conns conns2 : List Conn) (live live2 : Option Live) (hand : Hand) → IsServing told before told' w conns live hand → IsRefused may_halt w w2 e → IsInTime w2.first w2.seen
      → (IsServing told before told' w2 conns live hand → IsServing told before told2 u conns2 live2 hand) → HasPlace u live2 → IsCaught u live2 → end ≡ end_of e → IsLeft open_gate end told before told2 u (all_conns conns2 live2) live2
  refused_left open_gate may_halt e end told' told2 w w2 u conns conns2 live live2 hand s refused timely goes place caught is =
      let none_more = refused_none may_halt w w2 e refused in
      serving_left told before open_gate end told2 u conns2 live2 hand (goes (serving_looked told before told' w w2 conns live hand s none_more.0 none_more.1 timely)) place (ap (is_whole open_gate) is ∙ refused_is_part open_gate e) (λ _. caught)

  -- or memory ran out
  pub refused_starved : (open_gate : Bool) (may_halt : List Entry → Halt → Type 0) (e : DeskErr) (told' told2 : Option (List Link)) (w w2 u : View O) (conns conns2 : List Conn) (live live2 : Option Live) (hand : Hand) → IsServing told before told' w conns live hand → IsRefused may_halt w w2 e → IsInTime w2.first w2.seen
      → (IsServing told before told' w2 conns live hand → IsServing told before told2 u conns2 live2 hand) → HasPlace u live2 → IsLeft open_gate lane_end.NoMemory told before told2 u (all_conns conns2 live2) live2
  refused_starved open_gate may_halt e told' told2 w w2 u conns conns2 live live2 hand s refused timely goes place =
      let none_more = refused_none may_halt w w2 e refused in
      serving_left told before open_gate lane_end.NoMemory told2 u conns2 live2 hand (goes (serving_looked told before told' w w2 conns live hand s none_more.0 none_more.1 timely)) place refl (λ fine. absurd (cc fine))
