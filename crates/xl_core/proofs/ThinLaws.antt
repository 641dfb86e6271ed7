-- What a reading of the clock makes of the record: names go with the clients that expire, and at the end of grace with those that
-- reclaimed nothing.
use Rattle.std.proofs.Common.{◌≡◌, ℕ, Bool, true, false, not, ◌&&◌, ◌||◌, inl, inr, List, [], ◌∷◌, ◌++◌, Option, Some, None, is_some, refl, sym, ap, ap₂, subst, ◌∙◌}
use Rattle.std.specs.List.{filter, list_any}
use Rattle.std.proofs.lemmas.Bool.{cases_Bool, both_ways, and_parts}
use Rattle.std.proofs.lemmas.List.Folds.{list_any-append}
use Rattle.xl_base.specs.Stable.{Stable, same_name, is_recorded}
use Rattle.xl_base.specs.declared.event.Moment.{Moment}
use Rattle.xl_base.specs.declared.name.Party.{Party}
use Rattle.xl_base.specs.declared.stable.Recorded.{Recorded}
use Rattle.xl_base.proofs.StableLaws.{same_name-sym, like_left, like_recorded}
use Rattle.xl_grace.specs.Grace.{Running, is_of, expired, is_back, is_over, shortened}
use Rattle.xl_grace.proofs.GraceLaws.{like_back}
use Rattle.xl_matrix.specs.declared.claim.Claim.{Claim}
use Rattle.xl_names.specs.declared.name.Name.TheVariants.{NfsParty}
use Rattle.xl_core.specs.State.{CoreState}
use Rattle.xl_core.specs.Askers.{party_named}
use Rattle.xl_core.specs.BreakAnswers.{due, client_of}
use Rattle.xl_core.specs.Dues.{has_expired, is_grace_over, IsThinned}
use Rattle.xl_core.specs.Frames.{who_expired}
use Rattle.xl_core.specs.Leases.{ended}
use Rattle.xl_core.specs.Settle.{end_party}
use Rattle.xl_core.specs.Stores.{may_store, stored, store_failed, client_name, without_name}
use Rattle.xl_core.specs.Ticks.{advanced, end_some, unleased, barred, gone_client, forgotten, expire, may_expire, try_expire, in_turn, is_still_held, is_lease_over, lapsed_by, try_lapsed_by, try_lapse, lapse_all, expire_all, end_grace, try_end_grace, tick}
use Rattle.xl_core.specs.declared.ask.Effect.{Effect}
use Rattle.xl_core.specs.declared.ask.Effect.TheVariants.{Expired}
use Rattle.xl_core.proofs.AsideLaws.{failed_already, failed_first}
use Rattle.xl_core.proofs.FrameLaws.{expired_both, ended_expires}

-- ---- those that are found among what is left of a list

and_true : (b : Bool) → (b && true) ≡ b
and_true true = refl
and_true false = refl

and_false : (b : Bool) → (b && false) ≡ false
and_false true = refl
and_false false = refl

and_again : (a b c : Bool) → ((a && b) && c) ≡ (a && (b && c))
and_again true b c = refl
and_again false b c = refl

-- both are out, one behind the other
out_both : (a b c : Bool) → ((a && not b) && not c) ≡ (a && not (b || c))
out_both true true c = refl
out_both true false c = refl
out_both false b c = refl

found_left : {A : Type 0} (p keep : A → Bool) (stays : Bool) (xs : List A) → ((x : A) → p x ≡ true → keep x ≡ stays) → list_any p (filter keep xs) ≡ (list_any p xs && stays)
found_left p keep stays [] same = refl
found_left p keep stays (x ∷ xs) same =
    let rest = found_left p keep stays xs same in
    elim (cases_Bool (p x)) [
      | inr not_it ↦ elim (cases_Bool (keep x)) [ inl left ↦ rw (left, not_it) rest | inr goes ↦ rw (goes, not_it) rest ]
      | inl it ↦ elim (cases_Bool (keep x)) [
        | inl left ↦ let e : stays ≡ true = sym (same x it) ∙ left in rw (left, it, e) refl
        | inr goes ↦ let e : stays ≡ false = sym (same x it) ∙ goes in rw (goes, it) (rest ∙ ap (λ (b : Bool). list_any p xs && b) e ∙ and_false (list_any p xs) ∙ sym e)
      ]
    ]

-- the names without this one
recorded_without : (name gone : Recorded) (names : List Recorded) → is_recorded name (filter (λ held. not (same_name held gone)) names) ≡ (is_recorded name names && not (same_name gone name))
recorded_without name gone names =
    found_left (λ held. same_name held name) (λ held. not (same_name held gone)) (not (same_name gone name)) names
    (λ held it. ap not (like_left held name gone it ∙ same_name-sym name gone))

-- those of whom this holds
recorded_where : (q : Recorded → Bool) (name : Recorded) (names : List Recorded) → ((held : Recorded) → same_name held name ≡ true → q held ≡ q name) → is_recorded name (filter q names) ≡ (is_recorded name names && q name)
recorded_where q name names like = found_left (λ held. same_name held name) q (q name) names like

back_without : (name gone : Recorded) (grace : Option Running) → is_back name (expired gone grace) ≡ (is_back name grace && not (same_name gone name))
back_without name gone None = refl
back_without name gone (Some g) =
    found_left (λ one. one.reclaimed && is_of name one) (λ one. not (is_of gone one)) (not (same_name gone name)) g.reclaimants
    (λ one it. ap not (like_left one.name name gone (and_parts one.reclaimed (is_of name one) it).1 ∙ same_name-sym name gone))

-- ---- what an expiry and those behind it make of the record

-- grace runs as it did, to the same end
record IsThin (s : CoreState) (told : List Effect) (t : CoreState) : Type 0 where
  names : (name : Recorded) → is_recorded name t.stable.names ≡ (is_recorded name s.stable.names && not (has_expired name told))
  back : (name : Recorded) → is_back name t.grace ≡ (is_back name s.grace && not (has_expired name told))
  runs : is_some t.grace ≡ is_some s.grace
  over : (now : Moment) → is_over t.grace now ≡ is_over s.grace now

thin_same : (s t : CoreState) → t.stable ≡ s.stable → t.grace ≡ s.grace → IsThin s [] t
thin_same s t stable grace = record {
  names = λ name. ap (λ (x : Stable). is_recorded name x.names) stable ∙ sym (and_true (is_recorded name s.stable.names));
  back = λ name. ap (is_back name) grace ∙ sym (and_true (is_back name s.grace));
  runs = ap is_some grace;
  over = λ now. ap (λ (g : Option Running). is_over g now) grace;
}

both_expired : (name : Recorded) (told more : List Effect) → has_expired name (told ++ more) ≡ (has_expired name told || has_expired name more)
both_expired name told more =
    let is : List ℕ → Bool = λ client. same_name (client_name client) name in
    ap (λ (ids : List (List ℕ)). list_any is ids) (expired_both told more) ∙ list_any-append is (who_expired told) (who_expired more)

thin_then : (s t u : CoreState) (told more : List Effect) → IsThin s told t → IsThin t more u → IsThin s (told ++ more) u
thin_then s t u told more first next = record {
  names = λ name. next.names name ∙ ap (λ (b : Bool). b && not (has_expired name more)) (first.names name) ∙ both (is_recorded name s.stable.names) name;
  back = λ name. next.back name ∙ ap (λ (b : Bool). b && not (has_expired name more)) (first.back name) ∙ both (is_back name s.grace) name;
  runs = next.runs ∙ first.runs;
  over = λ now. next.over now ∙ first.over now;
} where
  both : (b : Bool) (name : Recorded) → ((b && not (has_expired name told)) && not (has_expired name more)) ≡ (b && not (has_expired name (told ++ more)))
  both b name = out_both b (has_expired name told) (has_expired name more) ∙ ap (λ (out : Bool). b && not out) (sym (both_expired name told more))

-- a client goes from the record, if it stands there, and from those that may reclaim
thin_names : (s : CoreState) (client : List ℕ) (name : Recorded) → is_recorded name (forgotten s client).stable.names ≡ (is_recorded name s.stable.names && not (same_name (client_name client) name))
unfolding stored
thin_names s client name =
    let gone = client_name client in
    elim (cases_Bool (is_recorded gone s.stable.names)) [
      | inl has ↦ rw has (recorded_without name gone s.stable.names)
      | inr lacks ↦ rw lacks (elim (cases_Bool (same_name gone name)) [
        | inr other ↦ rw other (sym (and_true (is_recorded name s.stable.names)))
        | inl same ↦ rw same (sym (like_recorded gone name s.stable.names same) ∙ lacks ∙ sym (and_false (is_recorded name s.stable.names)))
      ])
    ]

-- that it is gone leaves the record, bars it, and is told alone
record IsGone (s : CoreState) (client : List ℕ) (told : List Effect) (t : CoreState) : Type 0 where
  stable : t.stable ≡ s.stable
  grace : t.grace ≡ expired (client_name client) s.grace
  tells : who_expired told ≡ client ∷ []

gone_is : (s : CoreState) (client : List ℕ) → (let r = gone_client s client in IsGone s client r.0 r.1)
unfolding gone_client barred end_party
gone_is s client = by (party_named s.names (NfsParty client)) where
  t : CoreState
  t = record s { grace = expired (client_name client) s.grace }

  by : (o : Option Party) → (let r = unleased client (end_some t o) in IsGone s client r.0 r.1)
  by None = record { stable = refl; grace = refl; tells = refl }
  by (Some party) = record {
    stable = refl;
    grace = refl;
    tells = expired_both (end_party t party).0 (Expired client ∷ []) ∙ ap (λ (ids : List (List ℕ)). ids ++ client ∷ []) (ended_expires t party);
  }

grace_stays : (s : CoreState) (client : List ℕ) → (forgotten s client).grace ≡ s.grace
unfolding stored
grace_stays s client = elim (cases_Bool (is_recorded (client_name client) s.stable.names)) [ inl e ↦ rw e refl | inr e ↦ rw e refl ]

runs_still : (name : Recorded) (grace : Option Running) → is_some (expired name grace) ≡ is_some grace
runs_still name None = refl
runs_still name (Some g) = refl

over_still : (name : Recorded) (grace : Option Running) (now : Moment) → is_over (expired name grace) now ≡ is_over grace now
over_still name None now = refl
over_still name (Some g) now = refl

thin_expire : (s : CoreState) (client : List ℕ) → (let r = expire s client in IsThin s r.0 r.1)
unfolding expire
thin_expire s client = record {
  names = λ name. ap (λ (x : Stable). is_recorded name x.names) is.stable ∙ thin_names s client name ∙ ap (λ (b : Bool). is_recorded name s.stable.names && not b) (one name);
  back = λ name. ap (is_back name) grace ∙ back_without name gone s.grace ∙ ap (λ (b : Bool). is_back name s.grace && not b) (one name);
  runs = ap is_some grace ∙ runs_still gone s.grace;
  over = λ now. ap (λ (g : Option Running). is_over g now) grace ∙ over_still gone s.grace now;
} where
  gone : Recorded
  gone = client_name client

  t : CoreState
  t = forgotten s client

  told : List Effect
  told = (gone_client t client).0

  is : IsGone t client told (gone_client t client).1
  is = gone_is t client

  grace : (gone_client t client).1.grace ≡ expired gone s.grace
  grace = is.grace ∙ ap (expired gone) (grace_stays s client)

  or_false : (b : Bool) → b ≡ (b || false)
  or_false true = refl
  or_false false = refl

  one : (name : Recorded) → same_name gone name ≡ has_expired name told
  one name = or_false (same_name gone name) ∙ ap (λ (ids : List (List ℕ)). list_any (λ id. same_name (client_name id) name) ids) (sym is.tells)

thin_failed : (s : CoreState) (stable : Stable) → IsThin s [] (store_failed stable s)
thin_failed s stable =
    elim (cases_Bool s.failed) [
      | inl e ↦ subst (λ (t : CoreState). IsThin s [] t) (sym (failed_already stable s e)) (thin_same s s refl refl)
      | inr e ↦ subst (λ (t : CoreState). IsThin s [] t) (sym (failed_first stable s e)) (thin_same s (record s { failed = true; given = s.given ++ stable ∷ [] }) refl refl)
    ]

thin_try : (n : ℕ) (s : CoreState) (client : List ℕ) → (let r = try_expire n s client in IsThin s r.0 r.1)
unfolding try_expire
thin_try n s client =
    elim (cases_Bool (may_expire n s client)) [ inl may ↦ rw may (thin_expire s client) | inr none ↦ rw none (thin_failed s (without_name (client_name client) s.stable)) ]

thin_lapse : (n : ℕ) (s : CoreState) (cache : Claim) → (let r = try_lapse n s cache in IsThin s r.0 r.1)
unfolding try_lapse
thin_lapse n s cache = by (client_of s.names cache.party) where
  by : (o : Option (List ℕ)) → (let r = try_lapsed_by n s cache o in IsThin s r.0 r.1)
  by None = thin_same s (lapsed_by s cache None).1 refl refl
  by (Some client) = thin_try n s client

thin_turns : {A : Type 0} (is_left : CoreState → A → Bool) (does : CoreState → A → List Effect × CoreState) → ((s : CoreState) (x : A) → (let r = does s x in IsThin s r.0 r.1)) → (xs : List A) (s : CoreState) → (let r = in_turn is_left does xs s in IsThin s r.0 r.1)
thin_turns is_left does each [] s = thin_same s s refl refl
thin_turns is_left does each (x ∷ xs) s =
    elim (cases_Bool (is_left s x)) [
      | inl e ↦ let r = does s x in let q = in_turn is_left does xs r.1 in rw e (thin_then s r.1 q.1 r.0 q.0 (each s x) (thin_turns is_left does each xs r.1))
      | inr e ↦ rw e (thin_turns is_left does each xs s)
    ]

-- ---- the end of grace

-- where it runs on all that went went with expiries
runs_on : (s t : CoreState) (told : List Effect) → IsThin s told t → IsThinned s told t
runs_on s t told is = record {
  names = λ name. is.names name ∙ sym (and_true (is_recorded name s.stable.names && not (has_expired name told))) ∙ ap (λ (b : Bool). (is_recorded name s.stable.names && not (has_expired name told)) && (not b || is_back name s.grace)) (sym on);
  over = λ h. absurd (both_ways (is_grace_over s t) on h);
} where
  same : (b : Bool) → (b && not b) ≡ false
  same true = refl
  same false = refl

  on : is_grace_over s t ≡ false
  on = ap (λ (b : Bool). is_some s.grace && not b) is.runs ∙ same (is_some s.grace)

runs_if_over : (grace : Option Running) (now : Moment) → is_over grace now ≡ true → is_some grace ≡ true
runs_if_over None now over = absurd (both_ways false refl over)
runs_if_over (Some g) now over = refl

is_at_end : (s t u : CoreState) (told : List Effect) → IsThin s told t → is_over t.grace t.clock ≡ true → t.failed ≡ false → u ≡ end_grace t → IsThinned s told u
unfolding end_grace stored
is_at_end s t u told is over runs ends = record {
  names = λ name.
      ap (λ (x : CoreState). is_recorded name x.stable.names) ends
      ∙ recorded_where (λ x. is_back x t.grace) name t.stable.names (λ held it. like_back held name t.grace it)
      ∙ ap₂ (λ (a b : Bool). a && b) (is.names name) (is.back name)
      ∙ once (is_recorded name s.stable.names) (has_expired name told) (is_back name s.grace)
      ∙ ap (λ (b : Bool). (is_recorded name s.stable.names && not (has_expired name told)) && (not b || is_back name s.grace)) (sym gone);
  over = λ h. (sym (is.over u.clock) ∙ ap (λ (x : CoreState). is_over t.grace x.clock) ends ∙ over, ap (λ (x : CoreState). x.failed) ends ∙ runs);
} where
  gone : is_grace_over s u ≡ true
  gone = ap₂ (λ (a : Bool) (x : CoreState). a && not (is_some x.grace)) (sym is.runs ∙ runs_if_over t.grace t.clock over) ends

  once : (a b c : Bool) → ((a && not b) && (c && not b)) ≡ ((a && not b) && c)
  once true true c = refl
  once true false true = refl
  once true false false = refl
  once false b c = refl

at_end : (n : ℕ) (s t : CoreState) (told : List Effect) → IsThin s told t → IsThinned s told (try_end_grace n t)
unfolding try_end_grace
at_end n s t told is =
    elim (cases_Bool (is_over t.grace t.clock)) [
      | inr runs ↦ rw runs (runs_on s t told is)
      | inl over ↦ elim (cases_Bool (may_store n t)) [
        | inl may ↦ rw (over, may) (is_at_end s t (end_grace t) told is over (not_true t.failed (may_parts may)) refl)
        | inr none ↦ rw (over, none) (runs_on s (store_failed (shortened t.grace t.stable) t) told (thin_again (store_failed (shortened t.grace t.stable) t) (thin_failed t (shortened t.grace t.stable))))
      ]
    ]
  where
    not_true : (b : Bool) → not b ≡ true → b ≡ false
    not_true true e = absurd (both_ways false refl e)
    not_true false e = refl

    may_parts : may_store n t ≡ true → not t.failed ≡ true
    may_parts may = (and_parts (not t.failed) _ may).0

    append_none : (xs : List Effect) → xs ++ [] ≡ xs
    append_none [] = refl
    append_none (x ∷ xs) = ap (λ (ys : List Effect). x ∷ ys) (append_none xs)

    thin_again : (u : CoreState) → IsThin t [] u → IsThin s told u
    thin_again u next = subst (λ (effects : List Effect). IsThin s effects u) (append_none told) (thin_then s t u told [] is next)

pub tick_thins : (n : ℕ) (s : CoreState) (now : Moment) → (let r = tick n s now in IsThinned s r.0 r.1)
unfolding tick advanced lapse_all expire_all
tick_thins n s now =
    let t = advanced s now in
    let r = lapse_all n t in
    let q = expire_all n r.1 in
    at_end n s q.1 (r.0 ++ q.0)
    (thin_then s r.1 q.1 r.0 q.0 (thin_then s t r.1 [] r.0 (thin_same s t refl refl) (thin_turns is_still_held (try_lapse n) (thin_lapse n) (due t) t))
    (thin_turns is_lease_over (try_expire n) (thin_try n) (ended r.1.clock r.1.leases) r.1))
