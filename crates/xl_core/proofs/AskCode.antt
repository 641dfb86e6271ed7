-- What the code of an ask and of a turn rests on: calls one after another, of which one may store.
use Rattle.std.proofs.Common.{◌≡◌, ℕ, ◌<◌, ◌≤◌, Bool, true, false, if◌then◌else◌, List, [], ◌∷◌, length, slice_index_or, Result, Ok, Err, OnOk, refl, sym, ap, subst, ◌∙◌, arith, Option, None, inl, inr}
use Rattle.std.specs.Option.{IfSome}
use Rattle.xl_base.specs.Stable.{is_recordable}
use Rattle.xl_names.specs.declared.name.Name.{Name}
use Rattle.xl_grace.specs.Grace.{reclaimed}
use Rattle.xl_matrix.specs.declared.claim.Claim.{Claim}
use Rattle.xl_wait.specs.declared.waiter.Rooms.{Rooms}
use Rattle.xl_wait.specs.declared.waiter.Waiter.{Waiter}
use Rattle.xl_core.specs.State.{CoreState, MayBe, GoesOn}
use Rattle.xl_core.specs.Askers.{both_entered}
use Rattle.xl_core.specs.Decide.{is_back, named, plea_of, answered, claims_asked, acted, decided}
use Rattle.xl_core.specs.Judge.{Ruled, judged}
use Rattle.xl_core.specs.Standings.{recorded_as, asker_as, stores_name}
use Rattle.xl_core.specs.Stores.{Telling, HandsOn, made_of}
use Rattle.xl_core.specs.Whole.{state_of}
use Rattle.xl_core.specs.declared.ask.Act.{Act}
use Rattle.xl_core.specs.declared.ask.Answer.TheVariants as answers
use Rattle.xl_core.specs.declared.ask.Ask.{Ask}
use Rattle.xl_core.specs.declared.judge.Plea.{Plea}
use Rattle.xl_core.specs.declared.judge.Ruling.{Ruling}
use Rattle.xl_core.specs.declared.judge.Ruling.TheVariants.{Gets}
use Rattle.xl_core.specs.declared.parts.Parts.{Parts}
use Rattle.xl_core.proofs.TurnCode.{unrecorded_new}
use Rattle.xl_core.proofs.StoreLaws.{SameStores, goes_on_same, goes_on_then, hands_same, hands_then, may_be_before}
use Rattle.std.specs.List.{AllByRecursion}
use Rattle.xl_core.specs.InFront.{in_front_of, IsInLine, IsKnown, front_by}
use Rattle.xl_core.specs.Judge.{those_before}
use Rattle.xl_core.specs.Standings.{stands}
use Rattle.xl_core.specs.declared.blockers.Front.{Front}
use Rattle.xl_core.specs.declared.blockers.Front.TheVariants.{Everybody}
use Rattle.xl_core.specs.declared.blockers.Passage.{Passage}
use Rattle.xl_core.specs.declared.standings.Standing.{Standing}
use Rattle.xl_core.specs.declared.standings.Standing.TheVariants.{Timely, Reclaims, Stays, Early, Late, Unrecorded}
use Rattle.std.proofs.lemmas.Bool.{cases_Bool}
use Rattle.xl_core.proofs.LineLaws.{all_line, none_line}
use Rattle.xl_core.proofs.WayCode.{behind_them}

-- ---- what stores nothing

self_stores : (s : CoreState) → SameStores s s
self_stores s = record { stable = refl; made = refl; failed = refl; given = refl }

pub same_then : (s t u : CoreState) → t ≡ u → SameStores s t → SameStores s u
same_then s t u is same = subst (SameStores s) is same

back_stores : (a : Ask) (t : CoreState) → SameStores t (named a (is_back a t))
back_stores a t = by a.reclaim where
  by : (b : Bool) → SameStores t (named a (if b then record t { grace = reclaimed (recorded_as a.party) t.grace } else t))
  by true = record { stable = refl; made = refl; failed = refl; given = refl }
  by false = record { stable = refl; made = refl; failed = refl; given = refl }

-- what may be behind a call that stores nothing may be before it
pub may_before : (n : ℕ) (s t : CoreState) → SameStores s t → MayBe n t → MayBe n s
may_before n s t same may = may_be_before n s t (goes_on_same s t same) may

-- a call that stores nothing, before and behind another
pub on_before : (s t u : CoreState) → SameStores s t → GoesOn t u → GoesOn s u
on_before s t u same on = goes_on_then s t u (goes_on_same s t same) on

pub on_behind : (s t u : CoreState) → GoesOn s t → SameStores t u → GoesOn s u
on_behind s t u on same = goes_on_then s t u on (goes_on_same t u same)

pub hands_before : (s t u : CoreState) (a b : Telling) → SameStores s t → GoesOn t u → HandsOn t u a b → HandsOn s u a b
hands_before s t u a b same on hands = hands_then s t u a a b (goes_on_same s t same) (hands_same s t a same) on hands

pub hands_behind : (s t u : CoreState) (a b : Telling) → GoesOn s t → HandsOn s t a b → SameStores t u → HandsOn s u a b
hands_behind s t u a b on hands same = hands_then s t u a b b on hands (goes_on_same t u same) (hands_same t u b same)

pub hands_between : (s r t u : CoreState) (a b : Telling) → SameStores s r → GoesOn r t → HandsOn r t a b → SameStores t u → HandsOn s u a b
hands_between s r t u a b same on hands kept = hands_behind s t u a b (on_before s r t same on) (hands_before s r t a b same on hands) kept

-- parts that store nothing
pub parts_stores : (p q : Parts) → q.stable ≡ p.stable → q.failed ≡ p.failed → q.given ≡ p.given → SameStores (state_of p) (state_of q)
parts_stores p q stable failed given = record { stable = stable; made = (λ i. made_of (failed i) (given i).items); failed = failed; given = (λ i. (given i).items) }

pub on_ok : {A E : Type 0} {X : Type 0} (r : Result A E) → X → OnOk r X
on_ok (Ok x) is = is
on_ok (Err e) is = tt

-- ---- an ask for claims

-- its name is one that the record may have, and lacks
pub plea_new : (left : Rooms) (s : CoreState) (a : Ask) (p : Plea) → p ≡ plea_of left s a → IfSome p.unrecorded (λ x. is_recordable x ≡ true)
unfolding plea_of
plea_new left s a p is = subst (λ (x : Plea). IfSome x.unrecorded (λ y. is_recordable y ≡ true)) (sym is) (unrecorded_new (stores_name a) (asker_as a) s.stable)

-- it has them: its client is noted, if it reclaims, and then its names
pub got_state : (a : Ask) (t : CoreState) (back : Parts) (names : List Name) → state_of back ≡ is_back a t → names ≡ both_entered a back.names → record (state_of back) { names = names } ≡ named a (is_back a t)
got_state a t back names is now = ap (λ (x : List Name). record (state_of back) { names = x }) now ∙ ap (λ (x : CoreState). named a x) is

pub got_stores : (a : Ask) (t u : CoreState) → u ≡ named a (is_back a t) → SameStores t u
got_stores a t u is = same_then t (named a (is_back a t)) u (sym is) (back_stores a t)

pub claims_got : (n : ℕ) (left : Rooms) (s t u : CoreState) (a : Ask) (p : Plea) (asked : List Claim) (c : Claim) (cs : List Claim) (ruling : Ruling) → asked ≡ c ∷ cs → p ≡ plea_of left s a
    → (MayBe n t → judged n s.waiters left p asked s ≡ (ruling, [], t)) → ruling ≡ Gets → u ≡ named a (is_back a t) → MayBe n u → claims_asked n left s a asked ≡ (answers.Granted c, [], u)
unfolding claims_asked
claims_got n left s t u a p asked c cs ruling are pleads ruled gets is may =
    let e : judged n s.waiters left (plea_of left s a) (c ∷ cs) s ≡ (Gets, [], t) =
    (λ i. judged n s.waiters left (sym pleads i) (sym are i) s) ∙ ruled (may_before n t u (got_stores a t u is) may) ∙ (λ i. (gets i, [], t)) in
    ap (λ (cs : List Claim). claims_asked n left s a cs) are ∙ ap (λ (r : Ruled). answered a (c ∷ cs) c r.0 r.1 r.2) e ∙ (λ i. (answers.Granted c, [], sym is i))

pub decided_as : (n : ℕ) (left : Rooms) (s : CoreState) (a : Ask) (act : Act) → a.act ≡ act → decided n left s a ≡ acted n left s a act
unfolding decided
decided_as n left s a act is = ap (λ (x : Act). acted n left s a x) is

-- ---- one claim of a row

pub only_one : (cs : List Claim) (d : Claim) → 1 ≤ length cs → length cs < 2 → cs ≡ slice_index_or cs 0 d ∷ []
only_one [] d some few = absurd (omega (arith, some))
only_one (c ∷ []) d some few = refl
only_one (c ∷ e ∷ cs) d some few = absurd (omega (arith, few))

-- in front of one who asks stand all who wait, or nobody if it reclaims
pub front_stands : (p : Plea) (front : Front) (ws : List Waiter) → front ≡ front_by p.standing Everybody → those_before p.standing ws ≡ in_front_of front ws
front_stands p front ws is = by p.standing ∙ ap (λ (f : Front). in_front_of f ws) (sym is) where
  by : (standing : Standing) → those_before standing ws ≡ in_front_of (front_by standing Everybody) ws
  by Timely = refl
  by Reclaims = refl
  by Stays = refl
  by (Early until) = refl
  by (Late clock) = refl
  by Unrecorded = refl

pub front_line : (p : Plea) (front : Front) (ws : List Waiter) (cs : List Claim) → front ≡ front_by p.standing Everybody → AllByRecursion (IsInLine front ws) cs
front_line p front ws cs is = subst (λ (f : Front). AllByRecursion (IsInLine f ws) cs) (sym is) (by p.standing) where
  by : (standing : Standing) → AllByRecursion (IsInLine (front_by standing Everybody) ws) cs
  by Timely = all_line ws cs
  by Reclaims = none_line ws cs
  by Stays = all_line ws cs
  by (Early until) = all_line ws cs
  by (Late clock) = all_line ws cs
  by Unrecorded = all_line ws cs

pub plea_stands : (left : Rooms) (s : CoreState) (a : Ask) (p : Plea) → p ≡ plea_of left s a → p.standing ≡ stands s a
unfolding plea_of
plea_stands left s a p is = ap (λ (q : Plea). q.standing) is

-- so the way that is known is that of the plea: of one who reclaims none is
pub known_of_plea : (left : Rooms) (s : CoreState) (a : Ask) (p : Plea) (front : Front) (known : Option Passage) (cs : List Claim) → p ≡ plea_of left s a → front ≡ front_by p.standing Everybody → IsKnown s.waiters known s cs → (a.reclaim ≡ true → known ≡ None) → IsKnown (in_front_of front s.waiters) known s cs
known_of_plea left s a p front known cs pleads is at back = elim (cases_Bool a.reclaim) [
  | inl reclaims ↦ subst (λ (k : Option Passage). IsKnown (in_front_of front s.waiters) k s cs) (sym (back reclaims)) tt
  | inr fresh ↦ subst (λ (ws : List Waiter). IsKnown ws known s cs) (sym (behind_them s a fresh) ∙ ap (λ (st : Standing). those_before st s.waiters) (sym (plea_stands left s a p pleads)) ∙ front_stands p front s.waiters is) at
]
