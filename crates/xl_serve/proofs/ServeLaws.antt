-- What lanes and callers made of a machine is its journal.
use Rattle.std.proofs.Common.{◌≡◌, ◌≢◌, ◌⊎◌, inl, inr, ℕ, ◌++◌, ◌∷◌, append_assoc, ◌==◌, ◌||◌, Bool, true, false, List, [], Option, Some, None, Result, Ok, Err, IfOk, IfSome, refl, sym, ap, subst, ◌∙◌, arith}
use Rattle.std.specs.Prelude.{IsOkAnd}
use Rattle.std.specs.List.{AllByRecursion}
use Rattle.std.proofs.lemmas.Bool.{cases_Bool, cases_eq, eqb-true}
use Rattle.std.proofs.lemmas.List.{append-nil}
use Rattle.xl_base.specs.Outside.{Rose}
use Rattle.xl_base.specs.declared.event.Moment.{Moment}
use Rattle.xl_base.specs.declared.halt.Halt.{Halt}
use Rattle.xl_base.specs.declared.halt.Halt.TheVariants as halts
use Rattle.xl_base.specs.declared.journal.Entry.{Entry}
use Rattle.xl_base.specs.declared.journal.Head.{Head}
use Rattle.xl_base.specs.declared.lane_end.LaneEnd.TheVariants as lane_end
use Rattle.xl_desk.specs.Turns.{AllStand, IsClosed, opened}
use Rattle.xl_desk.specs.declared.view.View.{View}
use Rattle.xl_house.specs.Housed.{Housed}
use Rattle.xl_house.specs.Serials.{IsHistory, MayHalt}
use Rattle.xl_work.specs.Crews.{IsCrewServed, TellsCaller, TellsLane}
use Rattle.xl_work.specs.declared.all.Crew.{Crew}
use Rattle.xl_work.specs.declared.all.CrewDone.{CrewDone}
use Rattle.xl_work.specs.declared.worker.LaneDone.{LaneDone}
use Rattle.xl_jobs.specs.Jobs.{is_unstarted, is_unstored}
use Rattle.xl_jobs.proofs.FrontLaws.{front_all}
use Rattle.xl_serve.specs.Serve.{AreIdle, IsIdle, lanes_in, IsServedBy, IsWorked, callers_in, has_starved, is_concluded, is_over, is_served, is_worked}

-- ---- statuses

-- neither is true at once
pub no_false : false ≡ true → ⊥
no_false e = cc

unstarted_is : (s : ℕ) → is_unstarted s ≡ true → (s ≡ 5) ⊎ (s ≡ 6)
unstarted_is s is =
    elim (cases_Bool (s == 5)) [
      | inl e ↦ inl (eqb-true s 5 e)
      | inr e ↦ inr (eqb-true s 6 (subst (λ (b : Bool). (b || (s == 6)) ≡ true) e is))
    ]

-- one of two
pub either : (a b : Bool) → (a || b) ≡ true → (a ≡ true) ⊎ (b ≡ true)
either true b is = inl refl
either false b is = inr is

pub or_right : (a b : Bool) → b ≡ true → (a || b) ≡ true
or_right true b is = refl
or_right false b is = is

pub unstarted_over : (s : ℕ) → is_unstarted s ≡ true → is_over s ≡ true
unstarted_over s is =
    elim (unstarted_is s is) [
      | inl five ↦ subst (λ (n : ℕ). is_over n ≡ true) (sym five) refl
      | inr six ↦ subst (λ (n : ℕ). is_over n ≡ true) (sym six) refl
    ]

pub unstarted_unserved : (s : ℕ) → is_unstarted s ≡ true → is_served s ≡ true → ⊥
unstarted_unserved s is served =
    elim (unstarted_is s is) [
      | inl five ↦ no_false (subst (λ (n : ℕ). is_served n ≡ true) five served)
      | inr six ↦ no_false (subst (λ (n : ℕ). is_served n ≡ true) six served)
    ]

pub still_unstarted : (s r : ℕ) → is_unstarted s ≡ true → (r ≢ 3 → r ≢ 6 → r ≡ s) → (r ≡ 3 → s ≡ 0) → is_unstarted r ≡ true
still_unstarted s r is kept done =
    elim (cases_eq r 3) [
      | inl three ↦ absurd (no_false (subst (λ (n : ℕ). is_unstarted n ≡ true) (done three) is))
      | inr other ↦
          elim (cases_eq r 6) [
            | inl six ↦ subst (λ (n : ℕ). is_unstarted n ≡ true) (sym six) refl
            | inr apart ↦ subst (λ (n : ℕ). is_unstarted n ≡ true) (sym (kept other apart)) is
          ]
    ]

served_is : (s : ℕ) → is_served s ≡ true → (s ≡ 0) ⊎ ((s ≡ 3) ⊎ (s ≡ 7))
served_is s is =
    elim (either ((s == 0) || (s == 3)) (s == 7) is) [
      | inl front ↦
          elim (either (s == 0) (s == 3) front) [
            | inl zero ↦ inl (eqb-true s 0 zero)
            | inr three ↦ inr (inl (eqb-true s 3 three))
          ]
      | inr seven ↦ inr (inr (eqb-true s 7 seven))
    ]

pub worked_over : (s : ℕ) → is_worked s ≡ true → is_over s ≡ true
worked_over s is = or_right (s == 5) (is_worked s) is

-- a machine that was served has neither run out of memory, nor is it full unless the status says so
pub served_worked : (s w : ℕ) → is_served s ≡ true → (s ≢ 3 → s ≢ 6 → s ≡ w) → (s ≡ 3 → w ≡ 0) → w ≡ 6 → ⊥
served_worked s w is kept done six =
    elim (served_is s is) [
      | inl zero ↦ omega (arith, zero, six, kept (λ three. omega (arith, zero, three)) (λ other. omega (arith, zero, other)))
      | inr more ↦
          elim more [
            | inl three ↦ omega (arith, done three, six)
            | inr seven ↦ omega (arith, seven, six, kept (λ three. omega (arith, seven, three)) (λ other. omega (arith, seven, other)))
          ]
    ]

pub served_runs : (s w : ℕ) → is_served s ≡ true → (s ≢ 3 → s ≢ 6 → s ≡ w) → (s ≡ 3 → w ≡ 0) → s ≢ 7 → w ≡ 7 → ⊥
served_runs s w is kept done other full =
    elim (served_is s is) [
      | inl zero ↦ omega (arith, zero, full, kept (λ three. omega (arith, zero, three)) (λ six. omega (arith, zero, six)))
      | inr more ↦
          elim more [
            | inl three ↦ omega (arith, done three, full)
            | inr seven ↦ other seven
          ]
    ]

pub worked_started : (s w : ℕ) → is_worked w ≡ true → (s ≢ 3 → s ≢ 6 → s ≡ w) → s ≡ 5 → ⊥
worked_started s w is kept five =
    let same : w ≡ 5 = sym (kept (λ three. omega (arith, five, three)) (λ six. omega (arith, five, six))) ∙ five in
    no_false (subst (λ (n : ℕ). is_worked n ≡ true) same is)

pub concluded_full : (s w : ℕ) → s ≡ 7 → (s ≢ 3 → s ≢ 6 → s ≡ w) → w ≡ 7
concluded_full s w seven kept = sym (kept (λ three. omega (arith, seven, three)) (λ six. omega (arith, seven, six))) ∙ seven

-- what could not be started was not served
pub unstarted_concluded : (s : ℕ) → is_unstarted s ≡ true → is_concluded s ≡ true
unstarted_concluded s is = or_right (s == 3) (is_over s) (unstarted_over s is)

pub unstarted_apart : (s : ℕ) → is_unstarted s ≡ true → (s ≢ 0) × ((s ≢ 3) × (s ≢ 7))
unstarted_apart s is = (
  λ zero. no_false (subst (λ (n : ℕ). is_unstarted n ≡ true) zero is),
  (λ three. no_false (subst (λ (n : ℕ). is_unstarted n ≡ true) three is), λ seven. no_false (subst (λ (n : ℕ). is_unstarted n ≡ true) seven is)),
)

pub rose_started : (halt : Halt) (before now : ℕ) → is_unstored halt ≡ true → ((count : ℕ) → halt ≡ halts.StartStore count → (count ≡ now) × Rose before count) → Rose before now
rose_started halts.NoMemory before now is each = absurd (no_false is)
rose_started (halts.JournalFull count) before now is each = absurd (no_false is)
rose_started (halts.StartStore count) before now is each = let one = each count refl in subst (λ (n : ℕ). Rose before n) one.0 one.1

-- ---- what is handed back

map_more : {L : Type 0} (done : List (LaneDone L)) (d : LaneDone L) → lanes_in (done ++ d ∷ []) ≡ lanes_in done ++ d.lane ∷ []
map_more [] d = refl
map_more (x ∷ done) d = ap (λ (ls : List _). x.lane ∷ ls) (map_more done d)

-- one lane more
pub idle_more : {L : Type 0} (done : List (LaneDone L)) (d : LaneDone L) (lane : L) (rest lanes : List L) → lanes_in done ++ lane ∷ rest ≡ lanes → d.lane ≡ lane → lanes_in (done ++ d ∷ []) ++ rest ≡ lanes
idle_more done d lane rest lanes same is =
    ap (λ (ls : List _). ls ++ rest) (map_more done d) ∙ append_assoc (lanes_in done) (d.lane ∷ []) rest ∙ ap (λ (l : _). lanes_in done ++ l ∷ rest) is ∙ same

pub idle_all : {L : Type 0} (done : List (LaneDone L)) (d : LaneDone L) → AllByRecursion IsIdle done → d.end ≡ lane_end.Turns 0 → d.conns.items ≡ [] → AllByRecursion IsIdle (done ++ d ∷ [])
idle_all [] d all end none = ((end, none), tt)
idle_all (x ∷ done) d all end none = (all.0, idle_all done d all.1 end none)

pub are_idle : {L : Type 0} (lanes : List L) (done : List (LaneDone L)) → lanes_in done ++ [] ≡ lanes → AllByRecursion IsIdle done → AreIdle lanes done
are_idle lanes done same idle = record { same = sym (append-nil (lanes_in done)) ∙ same; idle = idle }

-- ---- the machine of the only pass

module _ {H O : Type 0} (history : H → List Entry) (halt_of : H → Option Halt) (origin_of : H → O) (lawful : O → List Entry → Type 0) where
  pub same_origin : (v : View O) (h : H) (origin : O) → IsClosed history halt_of origin_of lawful v h → v.origin ≡ Some origin → origin_of h ≡ origin
  same_origin v h origin closed is = same_some (origin_of h) origin (sym closed.origin ∙ is) where
    same_some : (a b : O) → Some a ≡ Some b → a ≡ b
    same_some a b e = cc

-- ---- what was served

some_none : (reason : Halt) → None ≡ Some reason → ⊥
some_none reason e = cc

not_halted : (seen halt : Option Halt) → IfSome seen (λ reason. halt ≡ Some reason) → halt ≡ None → seen ≡ None
not_halted None halt told none = refl
not_halted (Some reason) halt told none = absurd (some_none reason (sym none ∙ told))

module _ {L C : Type 0} (tl : TellsLane L) (tc : TellsCaller C) (crew : Crew L C) (told told' : Option (List Moment)) where
  worked : {K : Type 0} (head : Head) (entries : List Entry) (halt : Option Halt) (b a : View Head) (h : Housed K) (done : CrewDone L C) → b ≡ opened head 0 entries halt → entries ≡ [] → halt ≡ None
      → IsClosed (λ (x : Housed K). x.entries) (λ (x : Housed K). x.halt) (λ (x : Housed K). x.head) IsHistory a h → IsCrewServed tl tc MayHalt true crew told b told' a done → IsWorked tl tc crew told told' h.entries h.halt done
  worked head entries halt b a h done begun none runs closed by =
      let is : b ≡ opened head 0 [] None = begun ∙ (λ i. opened head 0 (none i) (runs i)) in
      let start : a.start ≡ 0 = by.goes.start ∙ ap (λ (v : View Head). v.start) is in
      record {
        head = head;
        after = a;
        by = subst (λ (v : View Head). IsCrewServed tl tc MayHalt true crew told v told' a done) is by;
        seen = front_all a.seen h.entries closed.seen (by.whole ∙ sym closed.grown);
        stand = subst (λ (n : ℕ). AllStand h.entries n a.mine) start closed.mine;
        once = λ p below. closed.once p (omega (arith, start)) below;
        runs = not_halted a.halt h.halt closed.halt;
      }

  pub all_worked : {K E : Type 0} (head : Head) (entries : List Entry) (halt : Option Halt) (b a : View Head) (h : Housed K) (done : Result (CrewDone L C) E) → b ≡ opened head 0 entries halt → entries ≡ [] → halt ≡ None
      → IsClosed (λ (x : Housed K). x.entries) (λ (x : Housed K). x.halt) (λ (x : Housed K). x.head) IsHistory a h → IfOk done (λ d. IsCrewServed tl tc MayHalt true crew told b told' a d) → IfOk done (λ d. IsWorked tl tc crew told told' h.entries h.halt d)
  all_worked head entries halt b a h (Ok done) begun none runs closed by = worked head entries halt b a h done begun none runs closed by
  all_worked head entries halt b a h (Err e) begun none runs closed by = tt

  pub served_by : {E : Type 0} (entries journal : List Entry) (halt : Option Halt) (status : ℕ) (done : Result (CrewDone L C) E) (lanes : List (LaneDone L)) (callers : List C) → IfOk done (λ d. IsWorked tl tc crew told told' entries halt d)
      → IsOkAnd done (λ d. (d.lanes.items ≡ lanes) × (callers_in d.callers.items ≡ callers) × (has_starved d ≡ false)) → journal ≡ entries → (status ≢ 7 → halt ≡ None) → IsServedBy tl tc crew told told' status journal lanes callers
  served_by entries journal halt status (Ok done) lanes callers by back same runs = record {
    halt = halt;
    done = done;
    worked = subst (λ (es : List Entry). IsWorked tl tc crew told told' es halt done) (sym same) by;
    runs = runs;
    same_lanes = back.0;
    same_callers = back.1;
    fine = back.2;
  }
  served_by entries journal halt status (Err e) lanes callers by back same runs = absurd back
