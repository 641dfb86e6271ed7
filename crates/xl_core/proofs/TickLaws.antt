-- A reading of the clock is the clock's rise and what is done in turn behind it, after which no break or lease is left that is
-- over, except those that are put off.
use Rattle.std.proofs.Common.{◌≡◌, ℕ, Bool, true, false, not, ◌&&◌, ◌⊎◌, if◌then◌else◌, inl, inr, List, [], ◌∷◌, ◌++◌, append-nil, append_assoc, Option, Some, None, refl, sym, ap, subst, ◌∙◌}
use Rattle.std.specs.Prelude.{bytes_eq}
use Rattle.std.specs.Cmp.Lexicographic.{bytes_decides}
use Rattle.std.specs.List.{AllByRecursion, filter}
use Rattle.std.proofs.lemmas.Bool.{cases_Bool, both_ways, or_parts}
use Rattle.xl_base.specs.Lists.{IsIn}
use Rattle.xl_base.proofs.Members.{in_append_left, in_append_right, all_from, in_filter, in_filter_from}
use Rattle.xl_base.specs.declared.event.Moment.{Moment}
use Rattle.xl_grace.specs.Grace.{Running, is_over, shortened}
use Rattle.xl_matrix.specs.Equal.{same_claims}
use Rattle.xl_matrix.proofs.EqualLaws.{same_claims-self, same_parties-self}
use Rattle.xl_matrix.specs.declared.claim.Claim.{Claim}
use Rattle.xl_names.specs.declared.name.Name.TheVariants.{NfsParty}
use Rattle.xl_table.proofs.FlatLaws.{held_iff, test_from_held}
use Rattle.xl_table.specs.Leaving.{is_of_some}
use Rattle.xl_core.specs.State.{CoreState}
use Rattle.xl_core.specs.Askers.{party_named}
use Rattle.xl_core.specs.BreakAnswers.{due, due_before, client_of}
use Rattle.xl_base.specs.Stable.{Stable, is_recorded}
use Rattle.xl_base.specs.Lists.{sorted}
use Rattle.xl_base.proofs.SortLaws.{in_sorted}
use Rattle.xl_base.specs.declared.name.Party.{Party}
use Rattle.xl_names.specs.declared.name.Name.{Name}
use Rattle.xl_table.specs.Flat.{is_due}
use Rattle.xl_table.specs.Held.{is_cache}
use Rattle.xl_table.specs.Elements.{is_held}
use Rattle.xl_core.specs.Deeds.{Deed, Lapses, Expires, FailsStore, EndsGrace, done, given, all_done, all_told_of, deeds_in_turn, or_fails, lapse_of, lapses, expiries, grace_deeds, tick_deeds, IsFitDeed, AreFit}
use Rattle.xl_core.specs.Dues.{ahead, Ended, Unreturned, Shortened, IsInTurn, AreInTurn, IsPutOff, IsLate}
use Rattle.xl_core.specs.Good.{IsGood}
use Rattle.xl_core.specs.Leases.{ended, is_ended}
use Rattle.xl_core.specs.Stores.{may_store, stored, store_failed, client_name, without_name}
use Rattle.xl_core.specs.Ticks.{advanced, expire, may_expire, try_expire, may_lapse_by, may_lapse, in_turn, is_still_held, is_lease_over, lapsed_by, try_lapsed_by, lapse, try_lapse, lapse_all, expire_all, end_grace, try_end_grace, tick}
use Rattle.xl_core.specs.declared.ask.Effect.{Effect}
use Rattle.xl_core.proofs.AsideLaws.{failed_already, failed_first}
use Rattle.xl_core.proofs.DeedLists.{done_append, told_append, fit_append}
use Rattle.xl_core.proofs.DueLaws.{found_due, due_is, party_is, due_stay, held_stay, gone_once}
use Rattle.xl_core.proofs.GoodLaws.{advanced_good, expire_good, lapse_good, store_failed_good}
use Rattle.xl_core.proofs.InTurnLaws.{filter_both, filter_alike}
use Rattle.xl_core.proofs.LeaseLaws.{ended_without, is_ended_without, ended_found, ended_here}
use Rattle.xl_core.proofs.PutOffLaws.{all_ended, IsExpired, expired_is, Lasts, lasts_self, lasts_then, lasts_expired, lasts_failed, lasts_removed, lasts_end}

-- ---- what is done in turn is its deeds

module _ {A : Type 0} (n : ℕ) (is_left : CoreState → A → Bool) (does : CoreState → A → List Effect × CoreState) (deed : CoreState → A → Deed) where
  turns_done : ((s : CoreState) (x : A) → done n s (deed s x) ≡ (does s x).1) → (xs : List A) (s : CoreState) → all_done n s (deeds_in_turn is_left deed n xs s) ≡ (in_turn is_left does xs s).1
  turns_done same [] s = refl
  turns_done same (x ∷ xs) s =
      elim (cases_Bool (is_left s x)) [
        | inl e ↦ rw e (turns_done same xs (done n s (deed s x)) ∙ ap (λ (t : CoreState). (in_turn is_left does xs t).1) (same s x))
        | inr e ↦ rw e (turns_done same xs s)
      ]

  turns_tell : ((s : CoreState) (x : A) → done n s (deed s x) ≡ (does s x).1) → ((s : CoreState) (x : A) → (given n s (deed s x)).1 ≡ (does s x).0) → (xs : List A) (s : CoreState) → all_told_of n s (deeds_in_turn is_left deed n xs s) ≡ (in_turn is_left does xs s).0
  turns_tell same tells [] s = refl
  turns_tell same tells (x ∷ xs) s =
      elim (cases_Bool (is_left s x)) [
        | inr e ↦ rw e (turns_tell same tells xs s)
        | inl e ↦ rw e (
            ap (λ (told : List Effect). told ++ all_told_of n (done n s (deed s x)) (deeds_in_turn is_left deed n xs (done n s (deed s x)))) (tells s x)
            ∙ ap (λ (told : List Effect). (does s x).0 ++ told) (turns_tell same tells xs (done n s (deed s x)) ∙ ap (λ (t : CoreState). (in_turn is_left does xs t).0) (same s x)))
      ]

-- ---- what is done in turn

-- whoever stands ahead of one stands before it in the list
ahead_within : {A : Type 0} (test : A → Bool) (x : A) (before behind : List A) → test x ≡ true → (y : A) → IsIn y (ahead test (before ++ x ∷ behind)) → IsIn y before
ahead_within test x [] behind is y here = rw is at here
ahead_within test x (z ∷ zs) behind is y here =
    elim (cases_Bool (test z)) [
      | inl e ↦ absurd (rw e at here)
      | inr e ↦ elim (rw e at here) [ inl first ↦ inl first | inr later ↦ inr (ahead_within test x zs behind is y later) ]
    ]

all_pass : {A : Type 0} (q : A → Bool) (xs : List A) → ((x : A) → IsIn x xs → q x ≡ true) → filter q xs ≡ xs
all_pass q [] pass = refl
all_pass {A} q (x ∷ xs) pass = rw (pass x (inl refl)) (ap (λ (ys : List A). x ∷ ys) (all_pass q xs (λ y here. pass y (inr here))))

filter_join : {A : Type 0} (q : A → Bool) (xs ys : List A) → filter q (xs ++ ys) ≡ filter q xs ++ filter q ys
filter_join q [] ys = refl
filter_join {A} q (x ∷ xs) ys = elim (cases_Bool (q x)) [ inl e ↦ rw e (ap (λ (zs : List A). x ∷ zs) (filter_join q xs ys)) | inr e ↦ rw e (filter_join q xs ys) ]

-- where the one has been taken out, and maybe others with it; or it is put off
data IsMoved {A : Type 0} (is_left : CoreState → A → Bool) (all_left : CoreState → List A) (IsOff : CoreState → A → Type 0) (s : CoreState) (x : A) (t : CoreState) : Type 0 where
  Goes : (q : A → Bool) → q x ≡ false → all_left t ≡ filter q (all_left s) → ((y : A) → is_left t y ≡ (is_left s y && q y)) → IsMoved is_left all_left IsOff s x t
  Stands : all_left t ≡ all_left s → ((y : A) → is_left t y ≡ is_left s y) → IsOff t x → IsMoved is_left all_left IsOff s x t

-- what the deed does whose turn has come
record IsTaken {A : Type 0} (n : ℕ) (is_left : CoreState → A → Bool) (all_left : CoreState → List A) (IsOff : CoreState → A → Type 0) (Sound : CoreState → Type 0) (test : A → A → Bool) (s : CoreState) (x : A) (d : Deed) : Type 0 where
  sound : Sound (done n s d)
  lasts : Lasts s (done n s d)
  fewer : (c : Claim) → IsIn c (due (done n s d)) → IsIn c (due s)
  moved : IsMoved is_left all_left IsOff s x (done n s d)
  turn : (u : CoreState) → AllByRecursion (λ y. IsIn y (all_left u)) (ahead (test x) (all_left s)) → IsInTurn n s u d

-- what these deeds do, and the state behind them
record AreTaken {A : Type 0} (n : ℕ) (all_left : CoreState → List A) (IsOff : CoreState → A → Type 0) (s : CoreState) (ds : List Deed) (t : CoreState) : Type 0 where
  lasts : Lasts s t
  fewer : (c : Claim) → IsIn c (due t) → IsIn c (due s)
  off : (y : A) → IsIn y (all_left t) → IsOff t y
  turns : (u : CoreState) → Lasts t u → AreInTurn n s ds u

-- Of all that is left each is taken out by its deed, or it is put off. Whatever is put off stays, and nothing comes.
module _ {A : Type 0} (n : ℕ) (is_left : CoreState → A → Bool) (deed : CoreState → A → Deed) (all_left : CoreState → List A) (IsOff : CoreState → A → Type 0) (Sound : CoreState → Type 0) (test : A → A → Bool) where
  all_taken : ((s : CoreState) (x : A) → Sound s → IsIn x (all_left s) → IsTaken n is_left all_left IsOff Sound test s x (deed s x))
      → ((s t : CoreState) → Lasts s t → (y : A) → IsIn y (all_left s) → IsOff s y → IsIn y (all_left t) × IsOff t y) → ((x : A) → test x x ≡ true)
      → (xs before : List A) (s : CoreState) → Sound s → ((y : A) → IsIn y before → IsOff s y) → all_left s ≡ before ++ filter (is_left s) xs
      → (let ds = deeds_in_turn is_left deed n xs s in AreTaken n all_left IsOff s ds (all_done n s ds))
  all_taken each stays itself [] before s sound off are =
      record { lasts = lasts_self s; fewer = λ c here. here; off = λ y here. off y (subst (λ (ys : List A). IsIn y ys) (are ∙ append-nil before) here); turns = λ u later. tt }
  all_taken each stays itself (x ∷ xs) before s sound off are =
      elim (cases_Bool (is_left s x)) [
        | inr e ↦ rw e (all_taken each stays itself xs before s sound off (rw e at are))
        | inl e ↦ rw e (one (rw e at are) (λ stood sound_so off_so are_so. all_taken each stays itself xs stood (done n s (deed s x)) sound_so off_so are_so))
      ]
    where
      d : Deed
      d = deed s x

      t : CoreState
      t = done n s d

      behind : List A
      behind = filter (is_left s) xs

      ds : List Deed
      ds = deeds_in_turn is_left deed n xs t

      one : all_left s ≡ before ++ x ∷ behind → ((stood : List A) → Sound t → ((y : A) → IsIn y stood → IsOff t y) → all_left t ≡ stood ++ filter (is_left t) xs → AreTaken n all_left IsOff t ds (all_done n t ds)) → AreTaken n all_left IsOff s (d ∷ ds) (all_done n t ds)
      one here others = by taken.moved where
        among : (y : A) → IsIn y (before ++ x ∷ behind) → IsIn y (all_left s)
        among y at = subst (λ (ys : List A). IsIn y ys) (sym here) at

        taken : IsTaken n is_left all_left IsOff Sound test s x d
        taken = each s x sound (among x (in_append_right x before (x ∷ behind) (inl refl)))

        kept : (y : A) → IsIn y before → IsIn y (all_left t) × IsOff t y
        kept y at = stays s t taken.lasts y (among y (in_append_left y before (x ∷ behind) at)) (off y at)

        -- with those that follow
        follow : AreTaken n all_left IsOff t ds (all_done n t ds) → AreTaken n all_left IsOff s (d ∷ ds) (all_done n t ds)
        follow rest = record {
          lasts = lasts_then s t (all_done n t ds) taken.lasts rest.lasts;
          fewer = λ c at. taken.fewer c (rest.fewer c at);
          off = rest.off;
          turns = λ u later. (taken.turn u (all_from (λ y. IsIn y (all_left u)) (ahead (test x) (all_left s)) (λ y at. still u later y at)), rest.turns u later);
        } where
          still : (u : CoreState) → Lasts (all_done n t ds) u → (y : A) → IsIn y (ahead (test x) (all_left s)) → IsIn y (all_left u)
          still u later y at =
              let stood = ahead_within (test x) x before behind (itself x) y (subst (λ (ys : List A). IsIn y (ahead (test x) ys)) here at) in
              let now = kept y stood in
              (stays t u (lasts_then t (all_done n t ds) u rest.lasts later) y now.0 now.1).0

        by : IsMoved is_left all_left IsOff s x t → AreTaken n all_left IsOff s (d ∷ ds) (all_done n t ds)
        by (Goes q out left same) = follow (others before taken.sound (λ y at. (kept y at).1) now) where
          pass : filter q before ≡ before
          pass = all_pass q before (λ y at. (in_filter_from q y (all_left s) (subst (λ (ys : List A). IsIn y ys) left (kept y at).0)).1)

          gone : filter q (x ∷ behind) ≡ filter (is_left t) xs
          gone = rw out (filter_both (is_left s) q xs ∙ sym (filter_alike (is_left t) (λ y. is_left s y && q y) same xs))

          now : all_left t ≡ before ++ filter (is_left t) xs
          now = left ∙ ap (filter q) here ∙ filter_join q before (x ∷ behind) ∙ (λ i. pass i ++ gone i)
        by (Stands same alike late) = follow (others (before ++ x ∷ []) taken.sound all_off now) where
          either : (ys : List A) (y : A) → IsIn y (ys ++ x ∷ []) → IsIn y ys ⊎ (x ≡ y)
          either [] y (inl e) = inr e
          either [] y (inr none) = absurd none
          either (z ∷ zs) y (inl e) = inl (inl e)
          either (z ∷ zs) y (inr more) = elim (either zs y more) [ inl stood ↦ inl (inr stood) | inr last ↦ inr last ]

          all_off : (y : A) → IsIn y (before ++ x ∷ []) → IsOff t y
          all_off y at = elim (either before y at) [ inl stood ↦ (kept y stood).1 | inr last ↦ subst (λ (z : A). IsOff t z) last late ]

          now : all_left t ≡ (before ++ x ∷ []) ++ filter (is_left t) xs
          now = same ∙ here ∙ sym (append_assoc before (x ∷ []) behind) ∙ ap (λ (ys : List A). (before ++ x ∷ []) ++ ys) (sym (filter_alike (is_left t) (is_left s) alike xs))

-- ---- a store that fails

record IsFailed (s t : CoreState) : Type 0 where
  claims : t.claims ≡ s.claims
  names : t.names ≡ s.names
  clock : t.clock ≡ s.clock
  leases : t.leases ≡ s.leases
  stable : t.stable ≡ s.stable
  failed : t.failed ≡ true

failed_is : (stable : Stable) (s : CoreState) → IsFailed s (store_failed stable s)
failed_is stable s =
    elim (cases_Bool s.failed) [
      | inl e ↦ subst (λ (t : CoreState). IsFailed s t) (sym (failed_already stable s e)) (record { claims = refl; names = refl; clock = refl; leases = refl; stable = refl; failed = e })
      | inr e ↦ subst (λ (t : CoreState). IsFailed s t) (sym (failed_first stable s e)) (record { claims = refl; names = refl; clock = refl; leases = refl; stable = refl; failed = refl })
    ]

same_due : (s t : CoreState) → t.claims ≡ s.claims → t.names ≡ s.names → t.clock ≡ s.clock → due t ≡ due s
unfolding due
same_due s t claims names clock = λ i. sorted (due_before (names i)) (filter (is_due (clock i)) (claims i))

not_not : (b : Bool) → not b ≡ false → b ≡ true
not_not true e = refl
not_not false e = absurd (both_ways true e refl)

-- the record has whoever may not expire
has_it : (n : ℕ) (s : CoreState) (client : List ℕ) → may_expire n s client ≡ false → is_recorded (client_name client) s.stable.names ≡ true
has_it n s client out = not_not (is_recorded (client_name client) s.stable.names) (or_parts (not (is_recorded (client_name client) s.stable.names)) (may_store n s) out).0

-- the expiry of the client is put off by it
put_off : (n : ℕ) (s : CoreState) (client : List ℕ) (stable : Stable) → may_expire n s client ≡ false → (let t = store_failed stable s in IsPutOff t.failed t.stable client)
put_off n s client stable out =
    let is = failed_is stable s in (is.failed, ap (λ (x : Stable). is_recorded (client_name client) x.names) is.stable ∙ has_it n s client out)

none_more : (n : ℕ) (s : CoreState) (client : List ℕ) → may_expire n s client ≡ false → may_store n s ≡ false
none_more n s client out = (or_parts (not (is_recorded (client_name client) s.stable.names)) (may_store n s) out).1

-- ---- breaks that are over

abbrev late_of : CoreState → Claim → Type 0
late_of s c = IsLate s (client_of s.names c.party)

abbrev lapse_deed : ℕ → CoreState → Claim → Deed
lapse_deed n s c = lapse_of n s c (client_of s.names c.party)

abbrev IsBreakTaken : ℕ → CoreState → Claim → Deed → Type 0
IsBreakTaken n s c d = IsTaken n is_still_held due late_of IsGood same_claims s c d

break_over : (n : ℕ) (s : CoreState) (c : Claim) (t : CoreState) → done n s (Lapses c) ≡ t → IsIn c (due s) → IsGood t → Lasts s t → may_lapse n s c ≡ true → (q : Claim → Bool) → q c ≡ false → t.claims ≡ filter q s.claims → t.names ≡ s.names → t.clock ≡ s.clock → IsBreakTaken n s c (Lapses c)
break_over n s c t is here good lasts may q out claims names clock = record {
  sound = subst IsGood (sym is) good;
  lasts = subst (λ (u : CoreState). Lasts s u) (sym is) lasts;
  fewer = λ d at. (in_filter_from q d (due s) (subst (λ (ds : List Claim). IsIn d ds) (ap due is ∙ stay) at)).0;
  moved = subst (λ (u : CoreState). IsMoved is_still_held due late_of s c u) (sym is) (Goes q out stay (λ d. ap (λ (cs : List Claim). is_held d cs) claims ∙ held_stay q d s.claims));
  turn = λ u still. (may, still);
} where
  stay : due t ≡ filter q (due s)
  stay = due_stay s t q claims names clock

break_fails : (n : ℕ) (s : CoreState) (c : Claim) (client : List ℕ) → IsGood s → IsIn c (due s) → client_of s.names c.party ≡ Some client → may_expire n s client ≡ false → IsBreakTaken n s c (FailsStore (without_name (client_name client) s.stable))
break_fails n s c client good here whose out = record {
  sound = store_failed_good stable s good;
  lasts = lasts_failed s stable;
  fewer = λ d at. subst (λ (ds : List Claim). IsIn d ds) stay at;
  moved = Stands stay (λ d. ap (λ (cs : List Claim). is_held d cs) is.claims) (subst (IsLate t) (sym (ap (λ (names : List Name). client_of names c.party) is.names ∙ whose)) (put_off n s client stable out));
  turn = λ u still. (Unreturned c client here whose (has_it n s client out) refl, none_more n s client out);
} where
  stable : Stable
  stable = without_name (client_name client) s.stable

  t : CoreState
  t = store_failed stable s

  is : IsFailed s t
  is = failed_is stable s

  stay : due t ≡ due s
  stay = same_due s t is.claims is.names is.clock

lapse_is : (s : CoreState) (c : Claim) (o : Option (List ℕ)) → client_of s.names c.party ≡ o → (lapse s c).1 ≡ (lapsed_by s c o).1
unfolding lapse
lapse_is s c o e = ap (λ (p : Option (List ℕ)). (lapsed_by s c p).1) e

break_taken : (n : ℕ) (s : CoreState) (c : Claim) → IsGood s → IsIn c (due s) → IsBreakTaken n s c (lapse_deed n s c)
break_taken n s c good here = by (client_of s.names c.party) refl where
  is_cached : is_cache c.what ≡ true
  is_cached = (due_is s c here).1

  by : (o : Option (List ℕ)) → client_of s.names c.party ≡ o → IsBreakTaken n s c (lapse_of n s c o)
  by None whose =
      let is = lapse_is s c None whose in
      break_over n s c (lapsed_by s c None).1 is here (subst IsGood is (lapse_good s c good)) (lasts_removed s c good is_cached whose) (ap (may_lapse_by n s) whose)
      (λ d. not (same_claims d c)) (ap not (same_claims-self c)) (gone_once c s.claims is_cached good.single) refl refl
  by (Some client) whose = may (may_expire n s client) refl where
    is : IsExpired s client (expire s client).1
    is = expired_is s client

    party : party_named s.names (NfsParty client) ≡ Some c.party
    party = party_is s.names c.party client good.distinct whose

    may : (b : Bool) → may_expire n s client ≡ b → IsBreakTaken n s c (if b then Lapses c else FailsStore (without_name (client_name client) s.stable))
    may true fits =
        break_over n s c (expire s client).1 (lapse_is s c (Some client) whose) here (expire_good s client good) (lasts_expired n s client fits) (ap (may_lapse_by n s) whose ∙ fits)
        (λ d. not (is_of_some (party_named s.names (NfsParty client)) d)) (ap (λ (o : Option Party). not (is_of_some o c)) party ∙ ap not (same_parties-self c.party)) is.claims is.names is.clock
    may false out = break_fails n s c client good here whose out

-- at first all are held
all_are_held : (s : CoreState) → due s ≡ filter (is_still_held s) (due s)
all_are_held s = all (due s) (λ c here. test_from_held c s.claims (found_due s c here).0) where
  all : (cs : List Claim) → ((c : Claim) → IsIn c cs → is_held c s.claims ≡ true) → cs ≡ filter (is_still_held s) cs
  all [] held = refl
  all (c ∷ cs) held = rw (held c (inl refl)) (ap (λ (ds : List Claim). c ∷ ds) (all cs (λ d here. held d (inr here))))

lapses_taken : (n : ℕ) (s : CoreState) → IsGood s → AreTaken n due late_of s (lapses n s) (all_done n s (lapses n s))
lapses_taken n s good = all_taken n is_still_held (lapse_deed n) due late_of IsGood same_claims (break_taken n) (λ a b lasts c here late. lasts.caches c here late) same_claims-self (due s) [] s good (λ c none. absurd none) (all_are_held s)

-- ---- leases that have ended

abbrev off_of : CoreState → List ℕ → Type 0
off_of s id = IsPutOff s.failed s.stable id

abbrev Any : CoreState → Type 0
Any s = Unit {0}

abbrev expiry_deed : ℕ → CoreState → List ℕ → Deed
expiry_deed n s id = or_fails n s id (Expires id)

abbrev IsLeaseTaken : ℕ → CoreState → List ℕ → Deed → Type 0
IsLeaseTaken n s id d = IsTaken n is_lease_over all_ended off_of Any bytes_eq s id d

lease_taken : (n : ℕ) (s : CoreState) (client : List ℕ) → Any s → IsIn client (all_ended s) → IsLeaseTaken n s client (expiry_deed n s client)
lease_taken n s client any here = may (may_expire n s client) refl where
  stable : Stable
  stable = without_name (client_name client) s.stable

  may : (b : Bool) → may_expire n s client ≡ b → IsLeaseTaken n s client (if b then Expires client else FailsStore stable)
  may true fits = record {
    sound = tt;
    lasts = lasts_expired n s client fits;
    fewer = λ d at. (in_filter_from q d (due s) (subst (λ (ds : List Claim). IsIn d ds) (due_stay s t q is.claims is.names is.clock) at)).0;
    moved = Goes (λ id. not (bytes_eq client id)) (ap not ((bytes_decides client client).1 refl))
        ((λ i. ended (is.clock i) (is.leases i)) ∙ ended_without s.clock client s.leases) (λ id. (λ i. is_ended (is.clock i) (is.leases i) id) ∙ is_ended_without s.clock client id s.leases);
    turn = λ u still. (fits, still);
  } where
    t : CoreState
    t = (expire s client).1

    is : IsExpired s client t
    is = expired_is s client

    q : Claim → Bool
    q d = not (is_of_some (party_named s.names (NfsParty client)) d)
  may false out = record {
    sound = tt;
    lasts = lasts_failed s stable;
    fewer = λ d at. subst (λ (ds : List Claim). IsIn d ds) (same_due s t is.claims is.names is.clock) at;
    moved = Stands (λ i. ended (is.clock i) (is.leases i)) (λ id. λ i. is_ended (is.clock i) (is.leases i) id) (put_off n s client stable out);
    turn = λ u still. (Ended client here (has_it n s client out) refl, none_more n s client out);
  } where
    t : CoreState
    t = store_failed stable s

    is : IsFailed s t
    is = failed_is stable s

all_over : (s : CoreState) → all_ended s ≡ filter (is_lease_over s) (all_ended s)
all_over s = all (all_ended s) (ended_found s.clock s.leases) where
  all : (ids : List (List ℕ)) → ((id : List ℕ) → IsIn id ids → is_ended s.clock s.leases id ≡ true) → ids ≡ filter (is_lease_over s) ids
  all [] over = refl
  all (id ∷ ids) over = rw (over id (inl refl)) (ap (λ (rest : List (List ℕ)). id ∷ rest) (all ids (λ other here. over other (inr here))))

expiries_taken : (n : ℕ) (s : CoreState) → AreTaken n all_ended off_of s (expiries n s) (all_done n s (expiries n s))
expiries_taken n s =
    all_taken n is_lease_over (expiry_deed n) all_ended off_of Any bytes_eq (lease_taken n) (λ a b lasts id here off. lasts.clients id here off) (λ id. (bytes_decides id id).1 refl) (all_ended s) [] s tt (λ id none. absurd none) (all_over s)

-- ---- the end of grace

-- what it leaves
record IsEnded (n : ℕ) (s : CoreState) (ds : List Deed) (t : CoreState) : Type 0 where
  fit : AreFit n s ds
  lasts : Lasts s t
  due_same : due t ≡ due s
  ended_same : all_ended t ≡ all_ended s
  over : is_over t.grace t.clock ≡ true → t.failed ≡ true
  turns : (u : CoreState) → AreInTurn n s ds u

ended_claims : (s : CoreState) → (due (end_grace s) ≡ due s) × (all_ended (end_grace s) ≡ all_ended s) × ((end_grace s).grace ≡ None)
unfolding end_grace stored due
ended_claims s = (refl, refl, refl)

grace_is : (n : ℕ) (s : CoreState) → IsEnded n s (grace_deeds n s) (all_done n s (grace_deeds n s))
grace_is n s = by (is_over s.grace s.clock) refl (may_store n s) refl where
  stable : Stable
  stable = shortened s.grace s.stable

  by : (over : Bool) → is_over s.grace s.clock ≡ over → (may : Bool) → may_store n s ≡ may
      → (let ds = if over then (if may then EndsGrace else FailsStore stable) ∷ [] else [] in IsEnded n s ds (all_done n s ds))
  by false runs may e = record { fit = tt; lasts = lasts_self s; due_same = refl; ended_same = refl; over = λ h. absurd (both_ways (is_over s.grace s.clock) runs h); turns = λ u. tt }
  by true over true fits =
      let same = ended_claims s in
      record {
        fit = (over, tt);
        lasts = lasts_end n s fits;
        due_same = same.0;
        ended_same = same.1;
        over = λ h. absurd (both_ways (is_over (end_grace s).grace (end_grace s).clock) (ap (λ (g : Option Running). is_over g (end_grace s).clock) same.2) h);
        turns = λ u. (fits, tt);
      }
  by true over false out =
      let is = failed_is stable s in
      record {
        fit = (tt, tt);
        lasts = lasts_failed s stable;
        due_same = same_due s (store_failed stable s) is.claims is.names is.clock;
        ended_same = λ i. ended (is.clock i) (is.leases i);
        over = λ h. is.failed;
        turns = λ u. ((Shortened over refl, out), tt);
      }

grace_done : (n : ℕ) (s : CoreState) → all_done n s (grace_deeds n s) ≡ try_end_grace n s
unfolding try_end_grace
grace_done n s =
    elim (cases_Bool (is_over s.grace s.clock)) [
      | inr runs ↦ rw runs refl
      | inl over ↦ elim (cases_Bool (may_store n s)) [ inl may ↦ rw (over, may) refl | inr none ↦ rw (over, none) refl ]
    ]

grace_tells : (n : ℕ) (s : CoreState) → all_told_of n s (grace_deeds n s) ≡ []
grace_tells n s =
    elim (cases_Bool (is_over s.grace s.clock)) [
      | inr runs ↦ rw runs refl
      | inl over ↦ elim (cases_Bool (may_store n s)) [ inl may ↦ rw (over, may) refl | inr none ↦ rw (over, none) refl ]
    ]

-- ---- the deeds of a reading

expiry_done : (n : ℕ) (s : CoreState) (client : List ℕ) → (d : Deed) → done n s d ≡ (expire s client).1 → done n s (or_fails n s client d) ≡ (try_expire n s client).1
unfolding try_expire
expiry_done n s client d is = elim (cases_Bool (may_expire n s client)) [ inl may ↦ rw may is | inr none ↦ rw none refl ]

expiry_tells : (n : ℕ) (s : CoreState) (client : List ℕ) → (d : Deed) → (given n s d).1 ≡ (expire s client).0 → (given n s (or_fails n s client d)).1 ≡ (try_expire n s client).0
unfolding try_expire
expiry_tells n s client d is = elim (cases_Bool (may_expire n s client)) [ inl may ↦ rw may is | inr none ↦ rw none refl ]

lapse_done : (n : ℕ) (s : CoreState) (c : Claim) → done n s (lapse_deed n s c) ≡ (try_lapse n s c).1
unfolding try_lapse
lapse_done n s c = by (client_of s.names c.party) refl where
  by : (o : Option (List ℕ)) → client_of s.names c.party ≡ o → done n s (lapse_of n s c o) ≡ (try_lapsed_by n s c o).1
  by None e = lapse_is s c None e
  by (Some client) e = expiry_done n s client (Lapses c) (lapse_is s c (Some client) e)

lapse_told : (s : CoreState) (c : Claim) (o : Option (List ℕ)) → client_of s.names c.party ≡ o → (lapse s c).0 ≡ (lapsed_by s c o).0
unfolding lapse
lapse_told s c o e = ap (λ (p : Option (List ℕ)). (lapsed_by s c p).0) e

lapse_tells : (n : ℕ) (s : CoreState) (c : Claim) → (given n s (lapse_deed n s c)).1 ≡ (try_lapse n s c).0
unfolding try_lapse
lapse_tells n s c = by (client_of s.names c.party) refl where
  by : (o : Option (List ℕ)) → client_of s.names c.party ≡ o → (given n s (lapse_of n s c o)).1 ≡ (try_lapsed_by n s c o).0
  by None e = lapse_told s c None e
  by (Some client) e = expiry_tells n s client (Lapses c) (lapse_told s c (Some client) e)

lapses_done : (n : ℕ) (s : CoreState) → all_done n s (lapses n s) ≡ (lapse_all n s).1
unfolding lapse_all
lapses_done n s = turns_done n is_still_held (try_lapse n) (lapse_deed n) (lapse_done n) (due s) s

lapses_tell : (n : ℕ) (s : CoreState) → all_told_of n s (lapses n s) ≡ (lapse_all n s).0
unfolding lapse_all
lapses_tell n s = turns_tell n is_still_held (try_lapse n) (lapse_deed n) (lapse_done n) (lapse_tells n) (due s) s

expiries_done : (n : ℕ) (s : CoreState) → all_done n s (expiries n s) ≡ (expire_all n s).1
unfolding expire_all
expiries_done n s = turns_done n is_lease_over (try_expire n) (expiry_deed n) (λ t client. expiry_done n t client (Expires client) refl) (all_ended s) s

expiries_tell : (n : ℕ) (s : CoreState) → all_told_of n s (expiries n s) ≡ (expire_all n s).0
unfolding expire_all
expiries_tell n s = turns_tell n is_lease_over (try_expire n) (expiry_deed n) (λ t client. expiry_done n t client (Expires client) refl) (λ t client. expiry_tells n t client (Expires client) refl) (all_ended s) s

-- ---- the reading

-- the deeds behind the clock's rise
abbrev of_reading : ℕ → CoreState → List Deed
of_reading n t = lapses n t ++ expiries n (all_done n t (lapses n t))

reading_done : (n : ℕ) (t : CoreState) → all_done n t (of_reading n t) ≡ (expire_all n (lapse_all n t).1).1
reading_done n t =
    done_append n t (lapses n t) (expiries n (all_done n t (lapses n t)))
    ∙ expiries_done n (all_done n t (lapses n t))
    ∙ ap (λ (u : CoreState). (expire_all n u).1) (lapses_done n t)

reading_tells : (n : ℕ) (t : CoreState) → all_told_of n t (of_reading n t) ≡ (lapse_all n t).0 ++ (expire_all n (lapse_all n t).1).0
reading_tells n t =
    let u = all_done n t (lapses n t) in
    told_append n t (lapses n t) (expiries n u)
    ∙ ap (λ (told : List Effect). told ++ all_told_of n u (expiries n u)) (lapses_tell n t)
    ∙ ap (λ (told : List Effect). (lapse_all n t).0 ++ told) (expiries_tell n u ∙ ap (λ (v : CoreState). (expire_all n v).0) (lapses_done n t))

pub tick_done : (n : ℕ) (s : CoreState) (now : Moment) → all_done n s (tick_deeds n s now) ≡ (tick n s now).1
unfolding tick
tick_done n s now =
    let t = advanced s now in
    let ds = of_reading n t in
    done_append n t ds (grace_deeds n (all_done n t ds)) ∙ grace_done n (all_done n t ds) ∙ ap (try_end_grace n) (reading_done n t)

pub tick_tells : (n : ℕ) (s : CoreState) (now : Moment) → all_told_of n s (tick_deeds n s now) ≡ (tick n s now).0
unfolding tick
tick_tells n s now =
    let t = advanced s now in
    let ds = of_reading n t in
    told_append n t ds (grace_deeds n (all_done n t ds)) ∙ ap (λ (told : List Effect). all_told_of n t ds ++ told) (grace_tells n (all_done n t ds)) ∙ append-nil (all_told_of n t ds) ∙ reading_tells n t

turn_append : (n : ℕ) (s u : CoreState) (ds es : List Deed) → AreInTurn n s ds u → AreInTurn n (all_done n s ds) es u → AreInTurn n s (ds ++ es) u
turn_append n s u [] es first more = more
turn_append n s u (d ∷ ds) es first more = (first.0, turn_append n (done n s d) u ds es first.1 more)

-- a cache that is held and whose deadline has come is one of those that are due
due_here : (s : CoreState) (c : Claim) → is_held c s.claims ≡ true → is_due s.clock c ≡ true → IsIn c (due s)
unfolding due
due_here s c held over = in_sorted (due_before s.names) c (filter (is_due s.clock) s.claims) (in_filter (is_due s.clock) c s.claims ((held_iff true c s.claims (sym held)).0 refl) over)

or_fails_clock : (n : ℕ) (s : CoreState) (client : List ℕ) (d : Deed) → (done n s d).clock ≡ s.clock → (done n s (or_fails n s client d)).clock ≡ s.clock
or_fails_clock n s client d same =
    elim (cases_Bool (may_expire n s client)) [ inl may ↦ rw may same | inr none ↦ rw none (failed_is (without_name (client_name client) s.stable) s).clock ]

lapse_clock : (s : CoreState) (c : Claim) → (lapse s c).1.clock ≡ s.clock
unfolding lapse
lapse_clock s c = by (client_of s.names c.party) where
  by : (o : Option (List ℕ)) → (lapsed_by s c o).1.clock ≡ s.clock
  by None = refl
  by (Some client) = (expired_is s client).clock

lapse_deed_clock : (n : ℕ) (s : CoreState) (c : Claim) → (done n s (lapse_deed n s c)).clock ≡ s.clock
lapse_deed_clock n s c = by (client_of s.names c.party) where
  by : (o : Option (List ℕ)) → (done n s (lapse_of n s c o)).clock ≡ s.clock
  by None = lapse_clock s c
  by (Some client) = or_fails_clock n s client (Lapses c) (lapse_clock s c)

fit_or_fails : (n : ℕ) (s : CoreState) (client : List ℕ) (d : Deed) → IsFitDeed s d → IsFitDeed s (or_fails n s client d)
fit_or_fails n s client d fit = elim (cases_Bool (may_expire n s client)) [ inl may ↦ rw may fit | inr none ↦ rw none tt ]

fit_lapse : (n : ℕ) (s : CoreState) (c : Claim) (o : Option (List ℕ)) → IsIn c (due s) → IsFitDeed s (lapse_of n s c o)
fit_lapse n s c None here = here
fit_lapse n s c (Some client) here = fit_or_fails n s client (Lapses c) here

caches_fit : (n : ℕ) (cs : List Claim) (s : CoreState) → AllByRecursion (λ c. is_due s.clock c ≡ true) cs → AreFit n s (deeds_in_turn is_still_held (lapse_deed n) n cs s)
caches_fit n [] s over = tt
caches_fit n (c ∷ cs) s over =
    elim (cases_Bool (is_still_held s c)) [
      | inr gone ↦ rw gone (caches_fit n cs s over.1)
      | inl held ↦
          let t = done n s (lapse_deed n s c) in
          rw held (
            fit_lapse n s c (client_of s.names c.party) (due_here s c held over.0),
            caches_fit n cs t (subst (λ (now : Moment). AllByRecursion (λ d. is_due now d ≡ true) cs) (sym (lapse_deed_clock n s c)) over.1),
          )
    ]

lapses_fit : (n : ℕ) (s : CoreState) → AreFit n s (lapses n s)
lapses_fit n s = caches_fit n (due s) s (all_from (λ c. is_due s.clock c ≡ true) (due s) (λ c here. (found_due s c here).1))

ids_fit : (n : ℕ) (ids : List (List ℕ)) (s : CoreState) → AreFit n s (deeds_in_turn is_lease_over (expiry_deed n) n ids s)
ids_fit n [] s = tt
ids_fit n (id ∷ ids) s =
    elim (cases_Bool (is_lease_over s id)) [
      | inr gone ↦ rw gone (ids_fit n ids s)
      | inl over ↦ rw over (fit_or_fails n s id (Expires id) (ended_here s.clock s.leases id over), ids_fit n ids (done n s (expiry_deed n s id)))
    ]

expiries_fit : (n : ℕ) (s : CoreState) → AreFit n s (expiries n s)
expiries_fit n s = ids_fit n (all_ended s) s

pub tick_fits : (n : ℕ) (s : CoreState) (now : Moment) → AreFit n s (tick_deeds n s now)
tick_fits n s now =
    let t = advanced s now in
    let u = all_done n t (lapses n t) in
    let ds = of_reading n t in
    (tt, fit_append n t ds (grace_deeds n (all_done n t ds)) (fit_append n t (lapses n t) (expiries n u) (lapses_fit n t) (expiries_fit n u)) (grace_is n (all_done n t ds)).fit)

-- ---- what is left

-- the states behind the breaks that are over, behind the expiries, and behind the end of grace
abbrev once_lapsed : ℕ → CoreState → CoreState
once_lapsed n t = all_done n t (lapses n t)

abbrev once_expired : ℕ → CoreState → CoreState
once_expired n t = all_done n (once_lapsed n t) (expiries n (once_lapsed n t))

abbrev once_ended : ℕ → CoreState → CoreState
once_ended n t = all_done n (once_expired n t) (grace_deeds n (once_expired n t))

-- they end where the reading does
of_reading_is : (n : ℕ) (t : CoreState) → all_done n t (of_reading n t) ≡ once_expired n t
of_reading_is n t = done_append n t (lapses n t) (expiries n (once_lapsed n t))

reading_ends : (n : ℕ) (s : CoreState) (now : Moment) → once_ended n (advanced s now) ≡ (tick n s now).1
reading_ends n s now =
    let t = advanced s now in
    let ds = of_reading n t in
    sym (done_append n t ds (grace_deeds n (all_done n t ds)) ∙ ap (λ (x : CoreState). all_done n x (grace_deeds n x)) (of_reading_is n t)) ∙ tick_done n s now

left_off : (n : ℕ) (t : CoreState) (id : List ℕ) → IsIn id (all_ended (once_ended n t)) → off_of (once_ended n t) id
left_off n t id here =
    let v = once_expired n t in
    let last = grace_is n v in
    let at_v : IsIn id (all_ended v) = subst (λ (ids : List (List ℕ)). IsIn id ids) last.ended_same here in
    (last.lasts.clients id at_v ((expiries_taken n (once_lapsed n t)).off id at_v)).1

left_late : (n : ℕ) (t : CoreState) (c : Claim) → IsGood t → IsIn c (due (once_ended n t)) → late_of (once_ended n t) c
left_late n t c good here =
    let u = once_lapsed n t in
    let v = once_expired n t in
    let next = expiries_taken n u in
    let last = grace_is n v in
    let at_v : IsIn c (due v) = subst (λ (cs : List Claim). IsIn c cs) last.due_same here in
    let at_u : IsIn c (due u) = next.fewer c at_v in
    (last.lasts.caches c at_v (next.lasts.caches c at_u ((lapses_taken n t good).off c at_u)).1).1

reading_in_turn : (n : ℕ) (t : CoreState) → IsGood t → (let ds = of_reading n t in AreInTurn n t (ds ++ grace_deeds n (all_done n t ds)) (once_ended n t))
reading_in_turn n t good =
    let u = once_lapsed n t in
    let v = once_expired n t in
    let w = once_ended n t in
    let ds = of_reading n t in
    let first = lapses_taken n t good in
    let next = expiries_taken n u in
    let last = grace_is n v in
    turn_append n t w ds (grace_deeds n (all_done n t ds)) (turn_append n t w (lapses n t) (expiries n u) (first.turns w (lasts_then u v w next.lasts last.lasts)) (next.turns w last.lasts))
    (subst (λ (x : CoreState). AreInTurn n x (grace_deeds n x) w) (sym (of_reading_is n t)) (last.turns w))

pub tick_in_turn : (n : ℕ) (s : CoreState) (now : Moment) → IsGood s → AreInTurn n s (tick_deeds n s now) (tick n s now).1
tick_in_turn n s now good = (tt, subst (λ (x : CoreState). let t = advanced s now in let ds = of_reading n t in AreInTurn n t (ds ++ grace_deeds n (all_done n t ds)) x) (reading_ends n s now) (reading_in_turn n (advanced s now) (advanced_good s now good)))

-- whatever break or lease is over is put off, and so is the end of grace
pub tick_late : (n : ℕ) (s : CoreState) (now : Moment) → IsGood s → (let t = (tick n s now).1 in AllByRecursion (λ c. IsLate t (client_of t.names c.party)) (due t))
tick_late n s now good =
    subst (λ (t : CoreState). AllByRecursion (late_of t) (due t)) (reading_ends n s now)
    (let w = once_ended n (advanced s now) in all_from (late_of w) (due w) (λ c here. left_late n (advanced s now) c (advanced_good s now good) here))

pub tick_off : (n : ℕ) (s : CoreState) (now : Moment) → (let t = (tick n s now).1 in AllByRecursion (λ id. IsPutOff t.failed t.stable id) (ended t.clock t.leases))
tick_off n s now =
    subst (λ (t : CoreState). AllByRecursion (off_of t) (all_ended t)) (reading_ends n s now)
    (let w = once_ended n (advanced s now) in all_from (off_of w) (all_ended w) (left_off n (advanced s now)))

pub tick_over : (n : ℕ) (s : CoreState) (now : Moment) → (let t = (tick n s now).1 in is_over t.grace t.clock ≡ true → t.failed ≡ true)
tick_over n s now = subst (λ (t : CoreState). is_over t.grace t.clock ≡ true → t.failed ≡ true) (reading_ends n s now) (grace_is n (once_expired n (advanced s now))).over

-- so none is left where no store failed
none_in : {A : Type 0} (xs : List A) (P : A → Type 0) → AllByRecursion P xs → ((x : A) → P x → ⊥) → xs ≡ []
none_in [] P all none = refl
none_in (x ∷ xs) P all none = absurd (none x all.0)

not_late : (s : CoreState) (o : Option (List ℕ)) → s.failed ≡ false → IsLate s o → ⊥
not_late s None none late = late
not_late s (Some client) none late = both_ways s.failed none late.0

pub none_due : (n : ℕ) (s : CoreState) (now : Moment) → IsGood s → (let t = (tick n s now).1 in t.failed ≡ false → due t ≡ [])
none_due n s now good none =
    let t = (tick n s now).1 in none_in (due t) (late_of t) (tick_late n s now good) (λ c late. not_late t (client_of t.names c.party) none late)

pub none_ended : (n : ℕ) (s : CoreState) (now : Moment) → (let t = (tick n s now).1 in t.failed ≡ false → ended t.clock t.leases ≡ [])
none_ended n s now none =
    let t = (tick n s now).1 in none_in (all_ended t) (off_of t) (tick_off n s now) (λ id off. both_ways t.failed none off.0)
