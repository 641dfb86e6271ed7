-- What a crash in the midst of an entry makes of the record: what the deeds before it made of it.
use Rattle.std.proofs.Common.{◌≡◌, ℕ, ◌+◌, ◌≤◌, Bool, true, false, ◌==◌, zero, suc, if◌then◌else◌, inl, inr, ◌⊎◌, List, [], ◌∷◌, ◌++◌, length, take, refl, sym, ap, subst, ◌∙◌, arith}
use Rattle.std.proofs.lemmas.Bool.{cases_Bool, both_ways, eqb-true}
use Rattle.std.proofs.lemmas.Bool.Decides.{nat_tests}
use Rattle.std.proofs.lemmas.List.{take-append-le}
use Rattle.xl_base.specs.Lists.{IsIn}
use Rattle.xl_base.specs.Stable.{Stable, raised, is_recorded}
use Rattle.xl_base.specs.declared.event.Event.{Event}
use Rattle.xl_base.specs.declared.event.Event.TheVariants.{Restart}
use Rattle.xl_base.specs.declared.journal.Entry.{Entry}
use Rattle.xl_base.specs.declared.journal.Head.{Head}
use Rattle.xl_base.specs.declared.stable.Recorded.{Recorded}
use Rattle.xl_core.specs.Deeds.{Deed, done, all_done, AreFit}
use Rattle.xl_core.specs.Good.{IsGood}
use Rattle.xl_core.specs.State.{CoreState, step_begun}
use Rattle.xl_core.specs.Stores.{stored, store_failed}
use Rattle.xl_core.proofs.DeedLaws.{deed_good}
use Rattle.xl_core.proofs.GoodLaws.{begun_good}
use Rattle.xl_plan.specs.Plans.{AllAt}
use Rattle.xl_house.specs.Done.{deeds}
use Rattle.xl_house.specs.Free.{IsFree}
use Rattle.xl_house.specs.Journals.{is_restart}
use Rattle.xl_house.specs.Lawful.{found}
use Rattle.xl_house.specs.Machine.{Turn, step}
use Rattle.xl_house.specs.Recording.{AnyAt, IsMonitored, IsOver, IsChanged, last_of}
use Rattle.xl_house.specs.State.{Whole, start_of}
use Rattle.xl_house.specs.Truthful.{record_left, IsRecordCut, IsCutWell, AlwaysCut}
use Rattle.xl_house.proofs.DoneLaws.{deeds_taken, each_event, left_is}
use Rattle.xl_house.proofs.MachineLaws.{step_is, step_free, begin_free}
use Rattle.xl_house.proofs.RecordLaws.{deeds_paid}
use Rattle.xl_house.proofs.RecordingLaws.{deeds_from, deeds_go, deeds_stay}
use Rattle.xl_house.proofs.StoringLaws.{Stores, Nothing, Succeeds, Fails, IsPaid, HasStored, deed_stores, deeds_store, begun_has}

-- ---- one deed stores one record at most

-- more may be given, and one may be made
record Goes (s t : CoreState) : Type 0 where
  more : List Stable
  given : t.given ≡ s.given ++ more
  made : t.made ≤ s.made + 1

nil_behind : (xs : List Stable) → xs ≡ xs ++ []
nil_behind [] = refl
nil_behind (x ∷ xs) = ap (λ (ys : List Stable). x ∷ ys) (nil_behind xs)

store_goes : (stable : Stable) (s : CoreState) → Goes s (stored stable s)
unfolding stored
store_goes stable s = record { more = stable ∷ []; given = refl; made = omega arith }

fail_goes : (stable : Stable) (s : CoreState) → Goes s (store_failed stable s)
unfolding store_failed
fail_goes stable s = by s.failed where
  by : (b : Bool) → Goes s (if b then s else record s { failed = true; given = s.given ++ stable ∷ [] })
  by true = record { more = []; given = nil_behind s.given; made = omega arith }
  by false = record { more = stable ∷ []; given = refl; made = omega arith }

one_goes : (n : ℕ) (s t : CoreState) → Stores n s t → Goes s t
one_goes n s t (Nothing same) = record { more = []; given = same.given ∙ nil_behind s.given; made = omega (arith, same.made) }
one_goes n s t (Succeeds stable may same) = let goes = store_goes stable s in record { more = goes.more; given = same.given ∙ goes.given; made = omega (arith, same.made, goes.made) }
one_goes n s t (Fails stable out same) = let goes = fail_goes stable s in record { more = goes.more; given = same.given ∙ goes.given; made = omega (arith, same.made, goes.made) }

behind_both : (xs ys zs : List Stable) → (xs ++ ys) ++ zs ≡ xs ++ (ys ++ zs)
behind_both [] ys zs = refl
behind_both (x ∷ xs) ys zs = ap (λ (rest : List Stable). x ∷ rest) (behind_both xs ys zs)

all_go : (n : ℕ) (s : CoreState) (ds : List Deed) → IsGood s → AreFit n s ds → AllAt (IsPaid n) n s ds → (more : List Stable) × ((all_done n s ds).given ≡ s.given ++ more)
all_go n s [] good fit paid = ([], nil_behind s.given)
all_go n s (d ∷ ds) good fit paid =
    let one = one_goes n s (done n s d) (deed_stores n s d good fit.0 paid.0) in
    let rest = all_go n (done n s d) ds (deed_good n s d good fit.0) fit.1 paid.1 in
    (one.more ++ rest.0, rest.1 ∙ ap (λ (xs : List Stable). xs ++ rest.0) one.given ∙ behind_both s.given one.more rest.0)

-- ---- the record behind the first stores

-- it is what the first of the deeds left
pub record IsReached (n : ℕ) (before : Stable) (s : CoreState) (ds : List Deed) (k : ℕ) : Type 0 where
  pub first : List Deed
  pub rest : List Deed
  pub parts : ds ≡ first ++ rest
  pub left : last_of (take k (all_done n s ds).given) before ≡ (all_done n s first).stable

stored_enough : (n : ℕ) (before : Stable) (s : CoreState) → HasStored n before s → s.made ≤ length s.given
stored_enough n before s has = by s.failed has.given where
  by : (b : Bool) → length s.given ≡ (if b then s.made + 1 else s.made) → s.made ≤ length s.given
  by true e = omega (arith, e)
  by false e = omega (arith, e)

here : (n : ℕ) (before : Stable) (s : CoreState) (ds : List Deed) (k : ℕ) → IsGood s → AreFit n s ds → AllAt (IsPaid n) n s ds → HasStored n before s → s.made ≡ k → IsReached n before s ds k
here n before s ds k good fit paid has at =
    let more = all_go n s ds good fit paid in
    record {
      first = [];
      rest = ds;
      parts = refl;
      left =
          ap (λ (xs : List Stable). last_of (take k xs) before) more.1
          ∙ ap (λ (xs : List Stable). last_of xs before) (take-append-le k s.given more.0 (omega (arith, at, stored_enough n before s has)))
          ∙ ap (λ (m : ℕ). last_of (take m s.given) before) (sym at)
          ∙ sym has.last;
    }

reached : (n : ℕ) (before : Stable) (s : CoreState) (ds : List Deed) (k : ℕ) → IsGood s → AreFit n s ds → AllAt (IsPaid n) n s ds → HasStored n before s → s.made ≤ k → k ≤ (all_done n s ds).made → IsReached n before s ds k
reached n before s [] k good fit paid has low high = here n before s [] k good fit paid has (omega (arith, low, high))
reached n before s (d ∷ ds) k good fit paid has low high =
    elim (cases_Bool (s.made == k)) [
      | inl at ↦ here n before s (d ∷ ds) k good fit paid has (eqb-true s.made k at)
      | inr later ↦
          let one = one_goes n s (done n s d) (deed_stores n s d good fit.0 paid.0) in
          let next : (done n s d).made ≤ k = grind (arith, nat_tests, one.made, low, later) in
          let has_next = deeds_store n before s (d ∷ []) good (fit.0, tt) (paid.0, tt) has in
          let found = reached n before (done n s d) ds k (deed_good n s d good fit.0) fit.1 paid.1 has_next next high in
          record { first = d ∷ found.first; rest = found.rest; parts = ap (λ (xs : List Deed). d ∷ xs) found.parts; left = found.left }
    ]

-- ---- the first of the deeds

fit_first : (n : ℕ) (s : CoreState) (ds more : List Deed) → AreFit n s (ds ++ more) → AreFit n s ds
fit_first n s [] more fit = tt
fit_first n s (d ∷ ds) more fit = (fit.0, fit_first n (done n s d) ds more fit.1)

any_first : (P : CoreState → Deed → Type 0) (n : ℕ) (s : CoreState) (ds more : List Deed) → AnyAt P n s ds → AnyAt P n s (ds ++ more)
any_first P n s [] more any = absurd any
any_first P n s (d ∷ ds) more (inl one) = inl one
any_first P n s (d ∷ ds) more (inr later) = inr (any_first P n (done n s d) ds more later)

-- ---- an entry that is cut

turn_given : (n : ℕ) (s : Whole) (event : Event) → is_restart event ≡ false → ((step n s event).given ≡ (all_done n (found s) (deeds n s event)).given) × ((step n s event).made ≡ (all_done n (found s) (deeds n s event)).made)
turn_given n s event other = (
  ap (λ (t : Turn). t.given) (step_is n s event other) ∙ ap (λ (c : CoreState). c.given) (left_is n s event other),
  ap (λ (t : Turn). t.made) (step_is n s event other) ∙ ap (λ (c : CoreState). c.made) (left_is n s event other),
)

none_made : (s : CoreState) → (step_begun s).made ≡ 0
unfolding step_begun
none_made s = refl

same_stable : (s : CoreState) → (step_begun s).stable ≡ s.stable
unfolding step_begun
same_stable s = refl

cut_other : (k n : ℕ) (s : Whole) (event : Event) → is_restart event ≡ false → IsFree s → k ≤ (step n s event).made → IsRecordCut k n s event
cut_other k n s event other free made = record {
  comes = λ name there. came name (deeds_from n (found s) reach.first name good fit (subst (λ (x : Stable). IsIn name x.names) left there));
  goes = λ name there out.
      any (λ u d. IsOver name u d)
      (deeds_go n (found s) reach.first name good fit (ap (λ (x : Stable). is_recorded name x.names) (same_stable s.core) ∙ there) (sym (ap (λ (x : Stable). is_recorded name x.names) left) ∙ out));
  stays = λ name there. stayed name (deeds_stay n (found s) reach.first name good fit (subst (λ (x : Stable). IsIn name x.names) (sym (same_stable s.core)) there));
} where
  ds : List Deed
  ds = deeds n s event

  good : IsGood (found s)
  good = begun_good s.core free.good

  turn : ((step n s event).given ≡ (all_done n (found s) ds).given) × ((step n s event).made ≡ (all_done n (found s) ds).made)
  turn = turn_given n s event other

  reach : IsReached n s.core.stable (found s) ds k
  reach =
      reached n s.core.stable (found s) ds k good (deeds_taken n s event other good) (deeds_paid n s event other good) (begun_has n s.core) (omega (arith, none_made s.core)) (omega (arith, made, turn.1))

  fit : AreFit n (found s) reach.first
  fit = fit_first n (found s) reach.first reach.rest (subst (λ (xs : List Deed). AreFit n (found s) xs) reach.parts (deeds_taken n s event other good))

  left : record_left k n s event ≡ (all_done n (found s) reach.first).stable
  left = ap (λ (xs : List Stable). last_of (take k xs) s.core.stable) turn.0 ∙ reach.left

  any : (P : CoreState → Deed → Type 0) → AnyAt P n (found s) reach.first → AnyAt P n (found s) ds
  any P some = subst (λ (xs : List Deed). AnyAt P n (found s) xs) (sym reach.parts) (any_first P n (found s) reach.first reach.rest some)

  came : (name : Recorded) → IsIn name (found s).stable.names ⊎ AnyAt (λ u d. IsMonitored name n u d) n (found s) reach.first
      → IsIn name s.core.stable.names ⊎ AnyAt (λ u d. IsMonitored name n u d) n (found s) ds
  came name (inl there) = inl (subst (λ (x : Stable). IsIn name x.names) (same_stable s.core) there)
  came name (inr some) = inr (any (λ u d. IsMonitored name n u d) some)

  stayed : (name : Recorded) → IsIn name (all_done n (found s) reach.first).stable.names ⊎ AnyAt (λ u d. IsChanged name n u d) n (found s) reach.first
      → IsIn name (record_left k n s event).names ⊎ AnyAt (λ u d. IsChanged name n u d) n (found s) ds
  stayed name (inl there) = inl (subst (λ (x : Stable). IsIn name x.names) (sym left) there)
  stayed name (inr some) = inr (any (λ u d. IsChanged name n u d) some)

-- a restart's store leaves the names
none_taken : (k : ℕ) → (let none : List Stable = [] in take k none ≡ none)
none_taken zero = refl
none_taken (suc k) = refl

raised_names : (k : ℕ) (stable : Stable) → (last_of (take k (raised stable ∷ [])) stable).names ≡ stable.names
raised_names zero stable = refl
raised_names (suc k) stable = ap (λ (xs : List Stable). (last_of xs (raised stable)).names) (none_taken k)

restart_left : (k n : ℕ) (s : Whole) → (record_left k n s Restart).names ≡ s.core.stable.names
unfolding step
restart_left k n s = raised_names k s.core.stable

cut_restart : (k n : ℕ) (s : Whole) → IsRecordCut k n s Restart
cut_restart k n s = record {
  comes = λ name there. inl (subst (λ (names : List Recorded). IsIn name names) (restart_left k n s) there);
  goes = λ name there out. absurd (both_ways (is_recorded name s.core.stable.names) (sym (ap (is_recorded name) (restart_left k n s)) ∙ out) there);
  stays = λ name there. inl (subst (λ (names : List Recorded). IsIn name names) (sym (restart_left k n s)) there);
}

pub record_cut : (k n : ℕ) (s : Whole) (event : Event) → IsFree s → k ≤ (step n s event).made → IsRecordCut k n s event
record_cut k n s event free = each_event (λ e. k ≤ (step n s e).made → IsRecordCut k n s e) (λ e other made. cut_other k n s e other free made) (λ made. cut_restart k n s) event

-- ---- each free moment

free_cut : (s : Whole) → IsFree s → IsCutWell s
unfolding IsCutWell
free_cut s free k n event made = record_cut k n s event free made

cut_from : (s : Whole) (es : List Entry) → IsFree s → AlwaysCut s es
cut_from s [] free = (free_cut s free, tt)
cut_from s (e ∷ es) free = (free_cut s free, cut_from (step e.stores s e.event).next es (step_free e.stores s e.event free))

pub always_cut : (head : Head) (es : List Entry) → AlwaysCut (start_of head) es
always_cut head es = cut_from (start_of head) es (begin_free head)
