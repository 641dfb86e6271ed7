-- The files that are noted as unsettled, and who is called by them.
use Rattle.std.proofs.Common.{map, ◌≡◌, ℕ, zero, suc, ◌+◌, ◌<◌, ◌≤◌, Bool, true, false, not, ◌&&◌, ◌||◌, ◌==◌, nat_lt, inl, inr, List, [], ◌∷◌, ◌++◌, Option, Some, None, ◌⊎◌, slice_get, get_or, drop, length, IfSome, is_some, if◌then◌else◌, refl, sym, ap, subst, ◌∙◌, arith}
use Rattle.std.specs.List.{AllByRecursion, filter, list_any}
use Rattle.std.proofs.lemmas.Bool.{cases_Bool, both_ways, or_parts, eqb-true, eq-eqb}
use Rattle.std.proofs.lemmas.Bool.Decides.{nat_tests}
use Rattle.std.proofs.lemmas.List.{append_assoc, drop_all, drop_more}
use Rattle.xl_base.specs.Lists.{IsIn, Pairwise}
use Rattle.xl_base.specs.declared.event.Moment.{Moment}
use Rattle.xl_base.proofs.Members.{all_in, all_from, in_filter_from}
use Rattle.xl_matrix.proofs.EqualLaws.{eqb-sym}
use Rattle.xl_matrix.specs.declared.claim.CacheKind.{CacheKind}
use Rattle.xl_matrix.specs.declared.claim.Claim.{Claim}
use Rattle.xl_matrix.specs.declared.claim.Rwd.{Rwd}
use Rattle.xl_table.specs.Flat.{removed}
use Rattle.xl_table.specs.Leaving.{goes, IsNextLeft}
use Rattle.xl_table.specs.declared.leaver.Leaver.{Leaver}
use Rattle.xl_wait.specs.Waiting.{first_file, is_file, waits_on, waiting_on}
use Rattle.xl_wait.specs.declared.waiter.Waiter.{Waiter}
use Rattle.xl_core.specs.State.{CoreState, Aside}
use Rattle.xl_core.proofs.AsideLaws.{with_aside}
use Rattle.xl_core.specs.Blockers.{before_number}
use Rattle.xl_core.specs.InFront.{IsInLine}
use Rattle.xl_core.specs.declared.blockers.Front.TheVariants.{Before}
use Rattle.xl_core.proofs.TurnLaws.{called_in}
use Rattle.xl_core.specs.Good.{IsGood, IsWaiter, IsPled, are_apart, is_held_up, of_first, holds_up}
use Rattle.xl_core.proofs.LineLaws.{before_is, apart_before, in_its_line}
use Rattle.xl_core.specs.BreakAnswers.{ack}
use Rattle.xl_core.specs.Ticks.{advanced, behind_told, in_turn}
use Rattle.xl_core.specs.Settle.{called_of, first_called, first_free, is_up, gone, told_with, waits_with, give_back, weaken, departed}
use Rattle.xl_core.specs.Unsettled.{is_among, only_file, with_file, may_change, left_by_ask, IsWider, IsNoted, Notes, NotesLeft, NotesGone, IsHeldUp, AreUp, AreHeldUp}
use Rattle.xl_core.specs.declared.ask.Answer.{Answer}
use Rattle.xl_core.specs.declared.ask.Ask.{Ask}
use Rattle.xl_core.specs.declared.ask.Effect.{Effect}
use Rattle.xl_core.specs.declared.settling.Called.{Called}
use Rattle.xl_core.specs.declared.unsettled.Unsettled.{Unsettled}
use Rattle.xl_core.specs.declared.unsettled.Unsettled.TheVariants.{Files, All}
use Rattle.xl_core.proofs.HeldUpLaws.{on_file, held_up_still, kept_apart, noted_off, left_out, one_number, all_still_up, give_back_up, weaken_up, ack_up}

-- ---- which files they are

-- a list is searched from either side of the test
pub among_files : (b : Bool) (file : ℕ) (files : List ℕ) → b ≡ list_any (λ f. f == file) files → b ≡ is_among (Files files) file
among_files b file files is = is ∙ either_way files
  where
    either_way : (fs : List ℕ) → list_any (λ f. f == file) fs ≡ list_any (λ f. file == f) fs
    either_way [] = refl
    either_way (f ∷ fs) = λ i. eqb-sym f file i || either_way fs i

pub only_is : (u : Unsettled) (o : Option ℕ) → o ≡ only_file u → IfSome o (λ file. u ≡ Files (file ∷ []))
only_is u o is = subst (λ (p : Option ℕ). IfSome p (λ file. u ≡ Files (file ∷ []))) (sym is) (one u)
  where
    one : (v : Unsettled) → IfSome (only_file v) (λ file. v ≡ Files (file ∷ []))
    one (Files []) = tt
    one (Files (file ∷ [])) = refl
    one (Files (file ∷ other ∷ files)) = tt
    one All = tt

-- ---- one more file

pub added_wider : (files more : List ℕ) (file : ℕ) → more ≡ files ++ file ∷ [] → IsWider (Files files) (Files more)
added_wider files more file is f n = go files (subst (λ (fs : List ℕ). list_any (λ g. f == g) fs ≡ false) is n)
  where
    go : (fs : List ℕ) → list_any (λ g. f == g) (fs ++ file ∷ []) ≡ false → list_any (λ g. f == g) fs ≡ false
    go [] e = refl
    go (g ∷ gs) e = let parts = or_parts (f == g) (list_any (λ h. f == h) (gs ++ file ∷ [])) e in rw parts.0 (go gs parts.1)

pub added_own : (files more : List ℕ) (file : ℕ) → more ≡ files ++ file ∷ [] → is_among (Files more) file ≡ true
added_own files more file is = subst (λ (fs : List ℕ). list_any (λ g. file == g) fs ≡ true) (sym is) (go files)
  where
    go : (fs : List ℕ) → list_any (λ g. file == g) (fs ++ file ∷ []) ≡ true
    go [] = rw (eq-eqb file file refl) refl
    go (g ∷ gs) = elim (cases_Bool (file == g)) [ inl e ↦ rw e refl | inr e ↦ rw e (go gs) ]

pub all_wider : (u : Unsettled) → IsWider u All
all_wider u file n = absurd (both_ways true n refl)

-- who waits on a file waits there among all
pub waits_among : (w : Waiter) (c : Claim) (cs : List Claim) (ws : List Waiter) → IsIn w ws → w.asked ≡ c ∷ cs → waits_on c.file ws ≡ true
waits_among w c cs [] there asked = absurd there
waits_among w c cs (v ∷ vs) there asked =
    elim (cases_Bool (is_file c.file (first_file v.asked))) [
      | inl e ↦ rw e refl
      | inr e ↦ rw e (by there e (λ behind. waits_among w c cs vs behind asked))
    ]
  where
    by : (v ≡ w) ⊎ IsIn w vs → is_file c.file (first_file v.asked) ≡ false → (IsIn w vs → waits_on c.file vs ≡ true) → waits_on c.file vs ≡ true
    by (inl is) off rest = absurd (both_ways (is_file c.file (first_file v.asked)) off (ap (λ (x : Waiter). is_file c.file (first_file x.asked)) is ∙ ap (λ (ds : List Claim). is_file c.file (first_file ds)) asked ∙ eq-eqb c.file c.file refl))
    by (inr behind) off rest = rest behind

-- who is held up but for one file is held up but for those that were noted with it
narrowed : (u v : Unsettled) (file : ℕ) (s : CoreState) (ws : List Waiter) → Notes u v file ws → AreUp (with_file file u) s ws → AreUp v s ws
narrowed u v file s ws notes all = all_from (λ (w : Waiter). IsHeldUp v (before_number w.id s.waiters) s w w.asked) ws (λ w there. one w w.asked refl there (all_in (λ (x : Waiter). IsHeldUp (with_file file u) (before_number x.id s.waiters) s x x.asked) w ws all there))
  where
    off : (c : Claim) (x : Unsettled) → is_among x c.file ≡ false → (c.file == file) ≡ false → is_among (with_file file x) c.file ≡ false
    off c (Files files) e apart = rw (apart, e) refl
    off c All e apart = e

    one : (w : Waiter) (asked : List Claim) → w.asked ≡ asked → IsIn w ws → IsHeldUp (with_file file u) (before_number w.id s.waiters) s w asked → IsHeldUp v (before_number w.id s.waiters) s w asked
    one w [] is there up = tt
    one w (c ∷ cs) is there up = λ e.
        elim (cases_Bool (c.file == file)) [
          | inl same ↦
              let waits : waits_on file ws ≡ true = subst (λ (f : ℕ). waits_on f ws ≡ true) (eqb-true c.file file same) (waits_among w c cs ws there is) in
              absurd (both_ways (is_among v c.file) e (subst (λ (f : ℕ). is_among v f ≡ true) (sym (eqb-true c.file file same)) (notes.own waits)))
          | inr apart ↦ up (off c u (notes.wider c.file e) apart)
        ]

pub noted_up : (u v : Unsettled) (file : ℕ) (s : CoreState) → Notes u v file s.waiters → AreHeldUp (with_file file u) s → AreHeldUp v s
unfolding AreHeldUp
noted_up u v file s notes all = λ calm. narrowed u v file s s.waiters notes (all calm)

pub asked_noted : (u v : Unsettled) (a : Ask) (answer : Answer) (told : List Effect) (t : CoreState) → AreHeldUp (left_by_ask a answer told u) t → (may_change a answer told ≡ true → Notes u v a.file t.waiters) → (may_change a answer told ≡ false → v ≡ u) → AreHeldUp v t
asked_noted u v a answer told t all notes same =
    elim (cases_Bool (may_change a answer told)) [
      | inl e ↦ noted_up u v a.file t (notes e) (subst (λ (b : Bool). AreHeldUp (if b then with_file a.file u else u) t) e all)
      | inr e ↦ subst (λ (x : Unsettled). AreHeldUp x t) (sym (same e)) (subst (λ (b : Bool). AreHeldUp (if b then with_file a.file u else u) t) e all)
    ]

pub give_back_noted : (u v : Unsettled) (s : CoreState) (claim : Claim) → Notes u v claim.file s.waiters → AreHeldUp u s → AreHeldUp v (give_back s claim).1
unfolding give_back
give_back_noted u v s claim notes all = noted_up u v claim.file (give_back s claim).1 notes (give_back_up u s claim all)

pub weaken_noted : (u v : Unsettled) (s : CoreState) (share : Claim) (access deny : Rwd) → Notes u v share.file s.waiters → AreHeldUp u s → AreHeldUp v (weaken s share access deny).1
unfolding weaken
weaken_noted u v s share access deny notes all = noted_up u v share.file (weaken s share access deny).1 notes (weaken_up u s share access deny all)

pub ack_noted : (u v : Unsettled) (s : CoreState) (cache : Claim) (to : Option CacheKind) → Notes u v cache.file s.waiters → AreHeldUp u s → AreHeldUp v (ack s cache to).1
unfolding ack
ack_noted u v s cache to notes all = noted_up u v cache.file (ack s cache to).1 notes (ack_up u s cache to all)

pub removed_noted : (u v : Unsettled) (s : CoreState) (claim : Claim) (held : List Claim) → Notes u v claim.file s.waiters → held ≡ removed claim s.claims → AreHeldUp u s → AreHeldUp v (record s { claims = held })
unfolding give_back
removed_noted u v s claim held notes is all =
    subst (λ (cs : List Claim). AreHeldUp v (record s { claims = cs })) (sym is)
    (noted_up u v claim.file (give_back s claim).1 notes (give_back_up u s claim all))

-- the clock, and who has a lease, hold up nobody
pub advanced_up : (u : Unsettled) (s : CoreState) (now : Moment) → AreHeldUp u s → AreHeldUp u (advanced s now)
unfolding advanced
advanced_up u s now all = all_still_up u u s (advanced s now) refl refl (λ file n. (n, refl)) all

-- nor does anything but claims, waiters and grace
pub kept_up : (u : Unsettled) (s t : CoreState) → t.claims ≡ s.claims → t.waiters ≡ s.waiters → t.grace ≡ s.grace → AreHeldUp u s → AreHeldUp u t
kept_up u s t claims waiters grace all = all_still_up u u s t waiters (ap is_some grace) (λ file n. (n, ap (λ (cs : List Claim). on_file file cs) claims)) all

-- nor the record and the stores of the step, as long as grace runs on
pub aside_up : (u : Unsettled) (x : Aside) (s : CoreState) → is_some x.grace ≡ is_some s.grace → AreHeldUp u s → AreHeldUp u (with_aside x s)
aside_up u x s runs all = all_still_up u u s (with_aside x s) refl runs (λ file n. (n, refl)) all

-- ---- who leaves

-- the file stands behind this one, if there is one
abbrev pub is_behind : Option ℕ → ℕ → Bool
is_behind None file = true
is_behind (Some past) file = nat_lt past file

-- nothing goes from a file between that one and the next
none_between : (leaver : Leaver) (past : Option ℕ) (file : ℕ) (held : List Claim) → IsNextLeft (Some file) leaver past held → AllByRecursion (λ c. ((goes leaver c && is_behind past c.file) && nat_lt c.file file) ≡ false) held
none_between leaver None file held next = next.1
none_between leaver (Some past) file held next = next.1

none_behind : (leaver : Leaver) (past : Option ℕ) (held : List Claim) → IsNextLeft None leaver past held → AllByRecursion (λ c. (goes leaver c && is_behind past c.file) ≡ false) held
none_behind leaver None held next = next
none_behind leaver (Some past) held next = next

-- the files up to this one are noted from which claims go
pub record IsNoting (old new : Unsettled) (leaver : Leaver) (past : Option ℕ) (held : List Claim) (ws : List Waiter) : Type 0 where
  pub wider : IsWider old new
  pub own : AllByRecursion (λ c. goes leaver c ≡ true → is_behind past c.file ≡ false → waits_on c.file ws ≡ true → is_among new c.file ≡ true) held

pub noting_first : (u : Unsettled) (leaver : Leaver) (held : List Claim) (ws : List Waiter) → IsNoting u u leaver None held ws
noting_first u leaver held ws = record {
  wider = λ f n. n;
  own = all_from (λ c. goes leaver c ≡ true → is_behind None c.file ≡ false → waits_on c.file ws ≡ true → is_among u c.file ≡ true) held (λ c there g p waits. absurd (both_ways true p refl));
}

one_file : (n m : ℕ) → nat_lt n m ≡ false → nat_lt m n ≡ false → n ≡ m
one_file n m h e = grind (arith, nat_tests)

not_before : (g p b : Bool) → g ≡ true → p ≡ true → ((g && p) && b) ≡ false → b ≡ false
not_before g p b eg ep none = rw (eg, ep) at none

not_past : (g p : Bool) → g ≡ true → (g && p) ≡ false → p ≡ false
not_past g p eg none = rw eg at none

pub noting_more : (u v x : Unsettled) (leaver : Leaver) (past : Option ℕ) (file : ℕ) (held : List Claim) (ws : List Waiter) → IsNoting u v leaver past held ws → IsNextLeft (Some file) leaver past held → Notes v x file ws → IsNoting u x leaver (Some file) held ws
noting_more u v x leaver past file held ws noting next notes = record {
  wider = λ f n. noting.wider f (notes.wider f n);
  own = all_from (λ c. goes leaver c ≡ true → nat_lt file c.file ≡ false → waits_on c.file ws ≡ true → is_among x c.file ≡ true) held one;
} where
  stays : (f : ℕ) → is_among v f ≡ true → is_among x f ≡ true
  stays f e = elim (cases_Bool (is_among x f)) [ inl h ↦ h | inr h ↦ absurd (both_ways (is_among v f) (notes.wider f h) e) ]

  one : (c : Claim) → IsIn c held → goes leaver c ≡ true → nat_lt file c.file ≡ false → waits_on c.file ws ≡ true → is_among x c.file ≡ true
  one c there g late waits =
      elim (cases_Bool (is_behind past c.file)) [
        | inl p ↦
            let early : nat_lt c.file file ≡ false = not_before (goes leaver c) (is_behind past c.file) (nat_lt c.file file) g p (all_in (λ d. ((goes leaver d && is_behind past d.file) && nat_lt d.file file) ≡ false) c held (none_between leaver past file held next) there) in
            let is : file ≡ c.file = one_file file c.file late early in
            subst (λ (f : ℕ). is_among x f ≡ true) is (notes.own (subst (λ (f : ℕ). waits_on f ws ≡ true) (sym is) waits))
        | inr p ↦ stays c.file (all_in (λ d. goes leaver d ≡ true → is_behind past d.file ≡ false → waits_on d.file ws ≡ true → is_among v d.file ≡ true) c held noting.own there g p waits)
      ]

pub noting_done : (u v : Unsettled) (leaver : Leaver) (past : Option ℕ) (held : List Claim) (ws : List Waiter) → IsNoting u v leaver past held ws → IsNextLeft None leaver past held → NotesLeft u v leaver held ws
noting_done u v leaver past held ws noting next = record {
  wider = noting.wider;
  own = all_from (λ c. goes leaver c ≡ true → waits_on c.file ws ≡ true → is_among v c.file ≡ true) held
      (λ c there g waits.
      all_in (λ d. goes leaver d ≡ true → is_behind past d.file ≡ false → waits_on d.file ws ≡ true → is_among v d.file ≡ true) c held noting.own there g
      (not_past (goes leaver c) (is_behind past c.file) g (all_in (λ d. (goes leaver d && is_behind past d.file) ≡ false) c held (none_behind leaver past held next) there)) waits);
}

-- what is kept of a file's claims, where none of them goes
kept_there : (file : ℕ) (keep : Claim → Bool) (cs : List Claim) → ((d : Claim) → IsIn d cs → (d.file == file) ≡ true → keep d ≡ true) → on_file file (filter keep cs) ≡ on_file file cs
kept_there file keep [] stay = refl
kept_there file keep (c ∷ cs) stay =
    let behind : on_file file (filter keep cs) ≡ on_file file cs = kept_there file keep cs (λ d there on. stay d (inr there) on) in
    elim (cases_Bool (c.file == file)) [
      | inl on ↦ rw (stay c (inl refl) on, on) (ap (λ (ds : List Claim). c ∷ ds) behind)
      | inr off ↦ elim (cases_Bool (keep c)) [
        | inl stays ↦ rw (stays, off) behind
        | inr goes_out ↦ rw (goes_out, off) behind
      ]
    ]

-- where nothing is told nobody goes whose file was to be noted
pub none_gone : (u : Unsettled) (leaver : Leaver) (ws : List Waiter) (told : List Effect) → told ≡ told_with leaver ws → length told < 1 → NotesGone u u leaver ws
unfolding told_with
none_gone u leaver ws told is few = record { wider = λ f n. n; gone = by ws (sym is ∙ empty told few) } where
  empty : (effects : List Effect) → length effects < 1 → effects ≡ []
  empty [] none = refl
  empty (effect ∷ effects) none = absurd (omega (arith, none))

  by : (vs : List Waiter) → map gone (filter (waits_with leaver) vs) ≡ [] → AllByRecursion (λ w. waits_with leaver w ≡ true → IsNoted u w) vs
  by [] e = tt
  by (v ∷ vs) e = elim (cases_Bool (waits_with leaver v)) [
    | inl goes_too ↦ (let two : gone v ∷ map gone (filter (waits_with leaver) vs) ≡ [] = rw goes_too at e in absurd cc)
    | inr stays ↦ (λ goes_too. absurd (both_ways (waits_with leaver v) stays goes_too), by vs (rw stays at e))
  ]

pub left_up : (u v x : Unsettled) (s : CoreState) (leaver : Leaver) → IsGood s → NotesLeft u v leaver s.claims s.waiters → NotesGone v x leaver s.waiters → AreHeldUp u s → AreHeldUp x (departed s leaver).1
unfolding AreHeldUp
left_up u v x s leaver good notes gone all = λ calm.
    all_from (λ (w : Waiter). IsHeldUp x (before_number w.id after.waiters) after w w.asked) after.waiters
    (λ w there. let kept = in_filter_from (λ (y : Waiter). not (waits_with leaver y)) w s.waiters there in one w w.asked refl kept.0 kept.1 (all_in (λ (y : Waiter). IsHeldUp u (before_number y.id s.waiters) s y y.asked) w s.waiters (all calm) kept.0))
  where
    after : CoreState
    after = (departed s leaver).1

    one : (w : Waiter) (asked : List Claim) → w.asked ≡ asked → IsIn w s.waiters → not (waits_with leaver w) ≡ true → IsHeldUp u (before_number w.id s.waiters) s w asked → IsHeldUp x (before_number w.id after.waiters) after w asked
    one w [] is there stays up = tt
    one w (c ∷ cs) is there stays up = λ e.
        held_up_still (before_number w.id s.waiters) (before_number w.id after.waiters) s after w c (line e) (kept_there c.file (λ d. not (goes leaver d)) s.claims (rest (gone.wider c.file e))) ∙ up (notes.wider c.file (gone.wider c.file e))
      where
        line : is_among x c.file ≡ false → waiting_on c.file (before_number w.id after.waiters) ≡ waiting_on c.file (before_number w.id s.waiters)
        line e = kept_apart (λ y. not (waits_with leaver y)) w.id c.file s.waiters
            (all_from (λ (y : Waiter). not (waits_with leaver y) ≡ false → ((y.id == w.id) ≡ false) × (is_file c.file (first_file y.asked) ≡ false)) s.waiters
            (λ y held out. (other y held out, noted_off x y c.file (all_in (λ z. waits_with leaver z ≡ true → IsNoted x z) y s.waiters gone.gone held (left_out (waits_with leaver y) out)) e)))
          where
            other : (y : Waiter) → IsIn y s.waiters → not (waits_with leaver y) ≡ false → (y.id == w.id) ≡ false
            other y held out = elim (cases_Bool (y.id == w.id)) [
              | inr apart ↦ apart
              | inl same ↦ absurd (both_ways (not (waits_with leaver w)) (subst (λ (z : Waiter). not (waits_with leaver z) ≡ false) (one_number w y s.waiters good.apart there held same) out) stays)
            ]

        rest : is_among v c.file ≡ false → (d : Claim) → IsIn d s.claims → (d.file == c.file) ≡ true → not (goes leaver d) ≡ true
        rest e d held on =
            elim (cases_Bool (goes leaver d)) [
              | inr out ↦ rw out refl
              | inl out ↦
                  let same : d.file ≡ c.file = eqb-true d.file c.file on in
                  let waits : waits_on d.file s.waiters ≡ true = subst (λ (f : ℕ). waits_on f s.waiters ≡ true) (sym same) (waits_among w c cs s.waiters there is) in
                  absurd (both_ways (is_among v c.file) e (subst (λ (f : ℕ). is_among v f ≡ true) same (all_in (λ y. goes leaver y ≡ true → waits_on y.file s.waiters ≡ true → is_among v y.file ≡ true) d s.claims notes.own held out waits)))
            ]

-- ---- the files of those who wait no more

pub same_wider : (u : Unsettled) → IsWider u u
same_wider u file n = n

-- ---- who is called

pub called_onward : (s : CoreState) (w : Waiter) (ws : List Waiter) → is_up s w ≡ true → first_free s (w ∷ ws) ≡ first_free s ws
called_onward s w ws up = rw up refl

-- behind the next of these, who is held up, it is the first of the rest
pub called_on_from : (P : Waiter → Type 0) (u : Unsettled) (s : CoreState) (ws : List Waiter) (i : ℕ) (w : Waiter) → i < length ws → w ≡ get_or ws i w → is_up s w ≡ true
    → (first_free s (drop i ws) ≡ first_free s ws) × AreUp u s (drop i ws) × AllByRecursion P (drop i ws) → (first_free s (drop (i + 1) ws) ≡ first_free s ws) × AreUp u s (drop (i + 1) ws) × AllByRecursion P (drop (i + 1) ws)
called_on_from P u s ws i w lt is up so_far =
    let front : drop i ws ≡ w ∷ drop (i + 1) ws = drop_more ws i w lt ∙ ap (λ (v : Waiter). v ∷ drop (i + 1) ws) (sym is) in
    (sym (called_onward s w (drop (i + 1) ws) up) ∙ ap (first_free s) (sym front) ∙ so_far.0, (subst (AreUp u s) front so_far.1).1, (subst (λ (vs : List Waiter). AllByRecursion P vs) front so_far.2).1)

-- so is the next of them
pub next_of : (P : Waiter → Type 0) (ws : List Waiter) (i : ℕ) (w : Waiter) → i < length ws → w ≡ get_or ws i w → AllByRecursion P (drop i ws) → P w
next_of P ws i w lt is all = (subst (λ (vs : List Waiter). AllByRecursion P vs) (drop_more ws i w lt ∙ ap (λ (v : Waiter). v ∷ drop (i + 1) ws) (sym is)) all).0

-- who isn't held up is free on the unsettled file
free_one : (s : CoreState) (file : ℕ) (w : Waiter) → IsPled w.asked → IsHeldUp (Files (file ∷ [])) (before_number w.id s.waiters) s w w.asked → is_up s w ≡ false → is_file file (first_file w.asked) ≡ true
free_one s file w pled up free = by w.asked pled up free where
  alone : (b : Bool) → b ≡ false → (b || false) ≡ false
  alone true e = e
  alone false e = e

  by : (asked : List Claim) → IsPled asked → IsHeldUp (Files (file ∷ [])) (before_number w.id s.waiters) s w asked → holds_up (before_number w.id s.waiters) s w asked ≡ false → is_file file (first_file asked) ≡ true
  by [] none up free = absurd none
  by (c ∷ cs) some up free =
      elim (cases_Bool (c.file == file)) [
        | inl on ↦ on
        | inr off ↦ absurd (both_ways (is_held_up (before_number w.id s.waiters) s w c) (or_parts (is_some s.grace) (is_held_up (before_number w.id s.waiters) s w c) free).1 (up (alone (c.file == file) off)))
      ]

calm_if_free : (s : CoreState) (w : Waiter) → is_up s w ≡ false → is_some s.grace ≡ false
calm_if_free s w free = (or_parts (is_some s.grace) (of_first (λ c. is_held_up (before_number w.id s.waiters) s w c) w.asked) free).0

-- who is called of those on the one unsettled file is called of all
called_among : (s : CoreState) (file : ℕ) (ws : List Waiter) → AllByRecursion (IsWaiter s.names s.counter) ws → (is_some s.grace ≡ false → AreUp (Files (file ∷ [])) s ws) → first_free s (waiting_on file ws) ≡ first_free s ws
called_among s file [] are all = refl
called_among s file (w ∷ ws) are all =
    let behind : first_free s (waiting_on file ws) ≡ first_free s ws = called_among s file ws are.1 (λ calm. (all calm).1) in
    elim (cases_Bool (is_up s w)) [
      | inl up ↦ elim (cases_Bool (is_file file (first_file w.asked))) [
        | inl on ↦ rw on (called_onward s w (waiting_on file ws) up ∙ behind ∙ sym (called_onward s w ws up))
        | inr off ↦ rw off (behind ∙ sym (called_onward s w ws up))
      ]
      | inr free ↦ rw (free_one s file w are.0.2 (all (calm_if_free s w free)).0 free, free) refl
    ]

pub called_on : (s : CoreState) (file : ℕ) → IsGood s → AreHeldUp (Files (file ∷ [])) s → first_free s (waiting_on file s.waiters) ≡ first_free s s.waiters
unfolding AreHeldUp
called_on s file good all = called_among s file s.waiters good.waiters all

-- who is called of all is the first of them that isn't held up
free_from : (s : CoreState) (before ws : List Waiter) → s.waiters ≡ before ++ ws → Pairwise are_apart s.waiters → first_free s ws ≡ first_called s before ws
free_from s before [] are apart = refl
free_from s before (w ∷ ws) are apart =
    let front : before_number w.id s.waiters ≡ before = ap (before_number w.id) are ∙ before_is before w ws (apart_before before w ws (subst (λ (vs : List Waiter). Pairwise are_apart vs) are apart)) in
    λ i. if holds_up (front i) s w w.asked then free_from s (before ++ w ∷ []) ws (are ∙ sym (append_assoc before (w ∷ []) ws)) apart i else Some (called_of s w)

pub free_is_called : (s : CoreState) → IsGood s → first_free s s.waiters ≡ first_called s [] s.waiters
free_is_called s good = free_from s [] s.waiters refl good.apart

-- each who waits stands in its file's queue as it does among all
pub waiter_line : (s : CoreState) (w : Waiter) → IsGood s → IsIn w s.waiters → AllByRecursion (IsInLine (Before w.id) s.waiters) w.asked
waiter_line s w good there = by w.asked refl (all_in (IsWaiter s.names s.counter) w s.waiters good.waiters there).2 where
  one : (c d : Claim) (ds : List Claim) → w.asked ≡ d ∷ ds → c.file ≡ d.file → IsInLine (Before w.id) s.waiters c
  one c d ds is same = in_its_line w.id c.file s.waiters
      (all_from (λ (x : Waiter). (x.id == w.id) ≡ true → is_file c.file (first_file x.asked) ≡ true) s.waiters
      (λ x held e. subst (λ (y : Waiter). is_file c.file (first_file y.asked) ≡ true) (sym (one_number w x s.waiters good.apart there held e)) (ap (λ (cs : List Claim). is_file c.file (first_file cs)) is ∙ eq-eqb d.file c.file (sym same))))

  each : (d : Claim) (ds cs : List Claim) → w.asked ≡ d ∷ ds → AllByRecursion (λ c. c.file ≡ d.file) cs → AllByRecursion (IsInLine (Before w.id) s.waiters) cs
  each d ds [] is all = tt
  each d ds (c ∷ cs) is all = (one c d ds is all.0, each d ds cs is all.1)

  by : (asked : List Claim) → w.asked ≡ asked → IsPled asked → AllByRecursion (IsInLine (Before w.id) s.waiters) asked
  by [] is none = absurd none
  by (d ∷ ds) is pled = (one d d ds is refl, each d ds ds is pled.1)

pub all_lines : (s : CoreState) → IsGood s → AllByRecursion (λ w. AllByRecursion (IsInLine (Before w.id) s.waiters) w.asked) s.waiters
all_lines s good = all_from (λ (w : Waiter). AllByRecursion (IsInLine (Before w.id) s.waiters) w.asked) s.waiters (λ w there. waiter_line s w good there)

pub called_line : (s : CoreState) (called : Called) → IsGood s → first_called s [] s.waiters ≡ Some called → AllByRecursion (IsInLine (Before called.id) s.waiters) called.asked
called_line s called good e =
    let found = called_in s [] s.waiters called e in
    subst (λ (x : Called). AllByRecursion (IsInLine (Before x.id) s.waiters) x.asked) found.2 (waiter_line s found.0 good found.1)

-- in front of it stand those who stood in front when it was found
pub called_front : (s : CoreState) (called : Called) → IsGood s → (before behind : List Waiter) (w : Waiter) → s.waiters ≡ before ++ w ∷ behind → w.id ≡ called.id → before_number called.id s.waiters ≡ before
called_front s called good before behind w stood id =
    ap (λ (n : ℕ). before_number n s.waiters) (sym id) ∙ ap (before_number w.id) stood ∙ before_is before w behind (apart_before before w behind (subst (λ (vs : List Waiter). Pairwise are_apart vs) stood good.apart))

-- the one who stands so far behind in a file's queue waits
pub nth_waits : (file i : ℕ) (ws : List Waiter) (w : Waiter) → slice_get (waiting_on file ws) i ≡ Some w → IsIn w ws
nth_waits file i [] w e = absurd (cc e)
nth_waits file i (v ∷ vs) w e = elim (cases_Bool (is_file file (first_file v.asked))) [
  | inr off ↦ inr (nth_waits file i vs w (sym (rw off refl) ∙ e))
  | inl on ↦ by i (sym (rw on refl) ∙ e) (λ k f. nth_waits file k vs w f)
]
  where
    same : (a b : Waiter) → Some a ≡ Some b → a ≡ b
    same a b k = cc

    by : (k : ℕ) → slice_get (v ∷ waiting_on file vs) k ≡ Some w → ((m : ℕ) → slice_get (waiting_on file vs) m ≡ Some w → IsIn w vs) → IsIn w (v ∷ vs)
    by zero f rest = inl (same v w f)
    by (suc k) f rest = inr (rest k f)

-- nobody is while grace runs
pub none_free : (s : CoreState) (ws : List Waiter) → is_some s.grace ≡ true → first_free s ws ≡ None
none_free s [] runs = refl
none_free s (w ∷ ws) runs = rw runs (none_free s ws runs)

-- of these the next stands there
stands_next : (ws : List Waiter) (i : ℕ) (w : Waiter) → slice_get ws i ≡ Some w → drop i ws ≡ w ∷ drop (suc i) ws
stands_next [] i w is = absurd (cc is)
stands_next (x ∷ xs) zero w is = let same : x ≡ w = cc is in ap (λ (v : Waiter). v ∷ xs) same
stands_next (x ∷ xs) (suc i) w is = stands_next xs i w is

none_next : (ws : List Waiter) (i : ℕ) → slice_get ws i ≡ None → drop i ws ≡ []
none_next [] zero is = refl
none_next [] (suc i) is = refl
none_next (x ∷ xs) zero is = absurd (cc is)
none_next (x ∷ xs) (suc i) is = none_next xs i is

-- the next of them is held up, so who is called stands behind it; or isn't, and is called; or there is none
pub on_past : (s : CoreState) (ws : List Waiter) (i : ℕ) (w : Waiter) → slice_get ws i ≡ Some w → is_up s w ≡ true → first_free s (drop i ws) ≡ first_free s ws → first_free s (drop (i + 1) ws) ≡ first_free s ws
on_past s ws i w is up so_far =
    let next : suc i ≡ i + 1 = omega arith in
    ap (λ (k : ℕ). first_free s (drop k ws)) (sym next) ∙ sym (called_onward s w (drop (suc i) ws) up) ∙ ap (first_free s) (sym (stands_next ws i w is)) ∙ so_far

pub on_free : (s : CoreState) (ws : List Waiter) (i : ℕ) (w : Waiter) → slice_get ws i ≡ Some w → is_up s w ≡ false → first_free s (drop i ws) ≡ first_free s ws → Some (called_of s w) ≡ first_free s ws
on_free s ws i w is free so_far =
    let here : first_free s (w ∷ drop (suc i) ws) ≡ Some (called_of s w) = rw free refl in
    sym here ∙ ap (first_free s) (sym (stands_next ws i w is)) ∙ so_far

few_on : (file : ℕ) (ws : List Waiter) → length (waiting_on file ws) ≤ length ws
few_on file [] = omega arith
few_on file (w ∷ ws) =
    let rest = few_on file ws in
    elim (cases_Bool (is_file file (first_file w.asked))) [ inl on ↦ rw on (omega (arith, rest)) | inr off ↦ rw off (omega (arith, rest)) ]

pub on_none : (s : CoreState) (ws : List Waiter) (i : ℕ) → slice_get ws i ≡ None → first_free s (drop i ws) ≡ first_free s ws → None ≡ first_free s ws
on_none s ws i is so_far = ap (first_free s) (sym (none_next ws i is)) ∙ so_far

pub on_end : (s : CoreState) (file i : ℕ) (ws : List Waiter) → length ws ≤ i → first_free s (drop i (waiting_on file ws)) ≡ first_free s (waiting_on file ws) → None ≡ first_free s (waiting_on file ws)
on_end s file i ws far so_far = (let few = few_on file ws in ap (first_free s) (sym (drop_all i (waiting_on file ws) (omega (arith, few, far))))) ∙ so_far

-- ---- what a reading of the clock tells

-- what is done is told behind what was told before
pub told_more : {A : Type 0} (is_left : CoreState → A → Bool) (does : CoreState → A → List Effect × CoreState) (s t : CoreState) (x : A) (xs : List A) (old told new : List Effect) → is_left s x ≡ true → does s x ≡ (told, t) → new ≡ old ++ told
    → behind_told old (in_turn is_left does (x ∷ xs) s) ≡ behind_told new (in_turn is_left does xs t)
told_more is_left does s t x xs old told new there went is =
    ap (λ (b : Bool). behind_told old (if b then behind_told (does s x).0 (in_turn is_left does xs (does s x).1) else in_turn is_left does xs s)) there
    ∙ ap (λ (r : List Effect × CoreState). behind_told old (behind_told r.0 (in_turn is_left does xs r.1))) went
    ∙ ap (λ (told_so : List Effect). (told_so, (in_turn is_left does xs t).1)) (sym (append_assoc old told (in_turn is_left does xs t).0))
    ∙ ap (λ (told_so : List Effect). behind_told told_so (in_turn is_left does xs t)) (sym is)

pub told_no_more : {A : Type 0} (is_left : CoreState → A → Bool) (does : CoreState → A → List Effect × CoreState) (s : CoreState) (x : A) (xs : List A) (old : List Effect) → is_left s x ≡ false
    → behind_told old (in_turn is_left does (x ∷ xs) s) ≡ behind_told old (in_turn is_left does xs s)
told_no_more is_left does s x xs old gone = ap (λ (b : Bool). behind_told old (if b then behind_told (does s x).0 (in_turn is_left does xs (does s x).1) else in_turn is_left does xs s)) gone
