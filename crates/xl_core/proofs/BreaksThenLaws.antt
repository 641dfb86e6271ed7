-- The plan of an ask once its breaks have begun: none is left to begin, what is left is awaited, and what is covered stays so.
use Rattle.std.proofs.Common.{◌≡◌, Bool, true, false, not, ◌&&◌, ◌||◌, ◌==◌, List, [], ◌∷◌, find, inl, inr, Option, Some, None, refl, sym, ap, subst, ◌∙◌}
use Rattle.std.specs.List.{cons_option, filter_map, list_any}
use Rattle.std.proofs.lemmas.Bool.{cases_Bool, both_ways, and_parts, and_from, not-true, not_from_false, false_from_ne_true}
use Rattle.xl_base.specs.Lists.{IsIn}
use Rattle.xl_base.proofs.Searches.{any_found, any_from, any_none, none_passes, in_filter_map, in_filter_map_from}
use Rattle.xl_base.specs.declared.event.Moment.{Moment}
use Rattle.xl_cache.specs.BreakPlans.{keeps_handle_by, is_running, keeps_open, is_covered, is_final, blocking_shares, covers, is_in_the_way, need_of, break_by, break_of, is_awaited, is_left_by, is_left, plan_with, planned, needs_answer_by, is_slow}
use Rattle.xl_cache.proofs.BreakLaws.{handle_is_slow}
use Rattle.xl_cache.proofs.BreakPlanLaws.{break_is_of}
use Rattle.xl_matrix.specs.Blocks.{is_replaced, is_met}
use Rattle.xl_matrix.specs.Equal.{same_owners, same_parties}
use Rattle.xl_matrix.specs.Matrix.{fit_by, compat}
use Rattle.xl_matrix.specs.declared.claim.Break.{Break}
use Rattle.xl_matrix.specs.declared.claim.CacheKind.{CacheKind}
use Rattle.xl_matrix.specs.declared.claim.Claim.{Claim}
use Rattle.xl_matrix.specs.declared.claim.What.{What}
use Rattle.xl_matrix.specs.declared.claim.What.TheVariants.{Share, Range, Cache}
use Rattle.xl_table.specs.Flat.{blocks, with_what}
use Rattle.xl_table.specs.Held.{is_share, is_cache}
use Rattle.xl_core.specs.BreaksBegun.{with_break, once_begun, once_broken, as_broken, left_of, plan_then}
use Rattle.xl_core.proofs.AskBreaksLaws.{Left, Stays, Runs, begins, step, stepped, target_is, shares_step, begins_none, none_to_begin}

-- ---- a cache whose break runs is in the way as it was

fit_asked : (ask c : Claim) (kind : CacheKind) (running : Break) (w : What) → fit_by ask (with_what c (Cache kind (Some running))) w (Cache kind (Some running)) ≡ fit_by ask c w (Cache kind None)
unfolding fit_by
fit_asked ask c kind running (Share access deny) = refl
fit_asked ask c kind running (Range extent exclusive) = refl
fit_asked ask c kind running (Cache other due) = refl

met_cache : (ask c : Claim) (kind : CacheKind) (running : Option Break) (w : What) → is_met ask.owner w c.owner (Cache kind running) ≡ false
met_cache ask c kind running (Share access deny) = refl
met_cache ask c kind running (Range extent true) = refl
met_cache ask c kind running (Range extent false) = refl
met_cache ask c kind running (Cache other due) = refl

module _ (ask c : Claim) where
  abbrev blocks_as : Bool → Bool → What → Bool
  blocks_as fits met w = not (same_owners ask.owner c.owner && is_replaced c.owner w) && (not (not (ask.file == c.file) || fits) || ((ask.file == c.file) && (same_owners ask.owner c.owner && met)))

  blocks_running : (kind : CacheKind) (running : Break) → c.what ≡ Cache kind None → blocks ask (with_what c (Cache kind (Some running))) ≡ blocks ask c
  unfolding blocks compat
  blocks_running kind running at =
      ap (λ (b : Bool). blocks_as b (is_met ask.owner ask.what c.owner (Cache kind (Some running))) (Cache kind (Some running))) (fit_asked ask c kind running ask.what)
      ∙ ap (λ (b : Bool). blocks_as (fit_by ask c ask.what (Cache kind None)) b (Cache kind (Some running))) (met_cache ask c kind (Some running) ask.what ∙ sym (met_cache ask c kind None ask.what))
      ∙ ap (λ (w : What). blocks_as (fit_by ask c ask.what w) (is_met ask.owner ask.what c.owner w) w) (sym at)

  covers_running : (shares : List Claim) (kind : CacheKind) (running : Break) → c.what ≡ Cache kind None → covers ask shares (with_what c (Cache kind (Some running))) ≡ covers ask shares c
  covers_running shares kind running at =
      ap (λ (w : What). not (same_parties c.party ask.party) && list_any (λ (share : Claim). keeps_handle_by w && ((share.file == c.file) && same_parties share.party c.party)) shares) (sym at)

  way_running : (shares : List Claim) (kind : CacheKind) (running : Break) → c.what ≡ Cache kind None → is_in_the_way ask shares (with_what c (Cache kind (Some running))) ≡ is_in_the_way ask shares c
  unfolding is_in_the_way
  way_running shares kind running at =
      ap (λ (b : Bool). b || covers ask shares (with_what c (Cache kind (Some running)))) (blocks_running kind running at)
      ∙ ap (λ (b : Bool). blocks ask c || b) (covers_running shares kind running at)
      ∙ ap (λ (w : What). (is_cache w && blocks ask c) || covers ask shares c) (sym at)

-- ---- what is left

find_alike : (p q : Claim → Bool) (cs : List Claim) → ((c : Claim) → IsIn c cs → p c ≡ q c) → find p cs ≡ find q cs
find_alike p q [] same = refl
find_alike p q (c ∷ cs) same = rw (same c (inl refl), find_alike p q cs (λ d h. same d (inr h))) refl

-- a cache of which no break begins is left where it is awaited
left_awaited : (ask : Claim) (shares : List Claim) (c : Claim) → break_of ask shares c ≡ None → is_left ask shares c ≡ is_awaited ask shares c
unfolding break_of
left_awaited ask shares c none =
    elim (cases_Bool (is_in_the_way ask shares c)) [
      | inr clear ↦ rw clear refl
      | inl there ↦ rw there (by c.what (rw there at none))
    ]
  where
    by : (w : What) → break_by c (need_of ask shares c) w ≡ None → is_left_by (need_of ask shares c) w ≡ is_running w
    by (Share access deny) e = refl
    by (Range extent exclusive) e = refl
    by (Cache kind (Some running)) e = refl
    by (Cache kind None) e = absurd cc

module _ (deadline : Moment) (ask : Claim) (held : List Claim) where
  abbrev shares : List Claim
  shares = blocking_shares ask held

  abbrev broken : Claim → Option (Claim × Option CacheKind)
  broken c = break_of ask (blocking_shares ask held) c

  -- and one of which a break begins where that needs an answer
  left_slow : (c : Claim) (b : Claim × Option CacheKind) → broken c ≡ Some b → is_left ask shares c ≡ is_slow b
  left_slow c b e =
      let is = break_is_of ask shares c b e in
      let one = begins ask shares c b e in
      rw is.1 (
      ap (λ (w : What). is_left_by (need_of ask shares c) w) one.1
      ∙ ap (λ (o : Option CacheKind). needs_answer_by (Cache one.0 None) o) (sym (target_is deadline ask held c b one.0 e one.1))
      ∙ ap (λ (w : What). needs_answer_by w b.1) (sym (ap (λ (x : Claim). x.what) is.0 ∙ one.1)))

  -- it is awaited from then on
  awaited_running : (c : Claim) (b : Claim × Option CacheKind) → broken c ≡ Some b → is_awaited ask shares (with_break c c.what b.1 deadline) ≡ true
  awaited_running c b e =
      let is = break_is_of ask shares c b e in
      let one = begins ask shares c b e in
      let running : Break = record { target = b.1; deadline = deadline } in
      let new : with_break c c.what b.1 deadline ≡ with_what c (Cache one.0 (Some running)) = ap (λ (w : What). with_break c w b.1 deadline) one.1 in
      ap (λ (x : Claim). is_awaited ask shares x) new ∙ rw (way_running ask c shares one.0 running one.1, is.1) refl

  left_past : (o : Option Claim) (b : Claim × Option CacheKind) (bs : List (Claim × Option CacheKind)) → is_slow b ≡ false → left_of deadline o bs ≡ left_of deadline o (b ∷ bs)
  left_past None b bs quick = refl
  left_past (Some c) b bs quick = rw quick refl

  awaited_then : (cs : List Claim) → find (is_awaited ask shares) (filter_map (step deadline ask held) cs) ≡ left_of deadline (find (is_left ask shares) cs) (filter_map broken cs)
  unfolding step
  awaited_then [] = refl
  awaited_then (c ∷ cs) = by (broken c) refl (awaited_then cs) where
    rest : List Claim
    rest = filter_map (λ d. once_begun deadline d (break_of ask (blocking_shares ask held) d)) cs

    by : (o : Option (Claim × Option CacheKind)) → broken c ≡ o → find (is_awaited ask shares) rest ≡ left_of deadline (find (is_left ask shares) cs) (filter_map broken cs)
        → find (is_awaited ask shares) (cons_option (once_begun deadline c o) rest) ≡ left_of deadline (find (is_left ask shares) (c ∷ cs)) (cons_option o (filter_map broken cs))
    by None e later =
        elim (cases_Bool (is_awaited ask shares c)) [
          | inl waits ↦ rw (waits, left_awaited ask shares c e ∙ waits, (and_parts (is_in_the_way ask shares c) (is_running c.what) waits).1) refl
          | inr not_it ↦ rw (not_it, left_awaited ask shares c e ∙ not_it) later
        ]
    by (Some b) e later =
        let is = break_is_of ask shares c b e in
        elim (cases_Bool (is_slow b)) [
          | inl slow ↦
              let same : as_broken deadline b ≡ with_break c c.what b.1 deadline = ap (λ (x : Claim). with_break x x.what b.1 deadline) is.0 in
              rw (slow, awaited_running c b e, left_slow c b e ∙ slow, is.2, slow) (ap (λ (x : Claim). Some x) (sym same))
          | inr quick ↦ rw (quick, left_slow c b e ∙ quick) (later ∙ left_past (find (is_left ask shares) cs) b (filter_map broken cs) quick)
        ]

  left_is_awaited : find (is_left ask shares) (filter_map (step deadline ask held) held) ≡ find (is_awaited ask shares) (filter_map (step deadline ask held) held)
  left_is_awaited =
      find_alike (is_left ask shares) (is_awaited ask shares) (filter_map (step deadline ask held) held) (λ d there.
      let from = in_filter_map_from (step deadline ask held) d held there in left_awaited ask shares d (begins_none deadline ask held from.0 d from.2))

  then_plan : plan_with ask (blocking_shares ask (filter_map (step deadline ask held) held)) (filter_map (step deadline ask held) held) ≡ plan_then deadline (plan_with ask shares held)
  then_plan =
      ap (λ (ss : List Claim). plan_with ask ss (filter_map (step deadline ask held) held)) (shares_step deadline ask held held)
      ∙ (λ i. record { breaks = none_to_begin deadline ask held held i; awaited = awaited_then held i; left = left i })
    where
      left : find (is_left ask shares) (filter_map (step deadline ask held) held) ≡ left_of deadline (find (is_left ask shares) held) (filter_map broken held)
      left = left_is_awaited ∙ awaited_then held

  -- a cache that keeps a share open still does
  still_kept : (c k : Claim) → IsIn k held → keeps_open c k ≡ true → list_any (keeps_open c) (filter_map (step deadline ask held) held) ≡ true
  unfolding step
  still_kept c k there keeps = by (broken k) refl where
    handle : keeps_handle_by k.what ≡ true
    handle = (and_parts (keeps_handle_by k.what) _ keeps).0

    by : (o : Option (Claim × Option CacheKind)) → broken k ≡ o → list_any (keeps_open c) (filter_map (λ d. once_begun deadline d (break_of ask (blocking_shares ask held) d)) held) ≡ true
    by None e = any_from (keeps_open c) k _ (in_filter_map (λ d. once_begun deadline d (break_of ask (blocking_shares ask held) d)) k k held there (ap (λ (o : Option (Claim × Option CacheKind)). once_begun deadline k o) e)) keeps
    by (Some b) e =
        let is = break_is_of ask shares k b e in
        let one = begins ask shares k b e in
        let new : Claim = with_break k k.what b.1 deadline in
        let running : Break = record { target = b.1; deadline = deadline } in
        let what : with_break k k.what b.1 deadline ≡ with_what k (Cache one.0 (Some running)) = ap (λ (w : What). with_break k w b.1 deadline) one.1 in
        let slow : is_slow b ≡ true = handle_is_slow b.0.what b.1 (ap (λ (x : Claim). keeps_handle_by x.what) is.0 ∙ handle) in
        let begun : once_begun deadline k (Some b) ≡ Some new = rw slow refl in
        let same : keeps_open c new ≡ keeps_open c k = ap (λ (x : Claim). keeps_open c x) what ∙ ap (λ (w : What). keeps_handle_by w && ((c.file == k.file) && same_parties c.party k.party)) (sym one.1) in
        any_from (keeps_open c) new _ (in_filter_map (λ d. once_begun deadline d (break_of ask (blocking_shares ask held) d)) k new held there (ap (λ (o : Option (Claim × Option CacheKind)). once_begun deadline k o) e ∙ begun)) (same ∙ keeps)

  -- what is covered is covered then
  still_covered : (c : Claim) → is_covered ask held c ≡ true → is_covered ask (filter_map (step deadline ask held) held) c ≡ true
  unfolding is_covered
  still_covered c h =
      let parts = and_parts (is_share c.what) (not (same_parties c.party ask.party) && list_any (keeps_open c) held) h in
      let more = and_parts (not (same_parties c.party ask.party)) (list_any (keeps_open c) held) parts.1 in
      let keeper = any_found (keeps_open c) held more.1 in
      and_from (is_share c.what) _ parts.0 (and_from (not (same_parties c.party ask.party)) _ more.0 (still_kept c keeper.0 keeper.1 keeper.2))

  still_moves : list_any (is_final ask held) held ≡ false → list_any (is_final ask (filter_map (step deadline ask held) held)) (filter_map (step deadline ask held) held) ≡ false
  still_moves moves =
      any_none (is_final ask (filter_map (step deadline ask held) held)) (filter_map (step deadline ask held) held) (λ d there.
      let from = in_filter_map_from (step deadline ask held) d held there in
      false_from_ne_true (is_final ask (filter_map (step deadline ask held) held) d) (λ (h : is_final ask (filter_map (step deadline ask held) held) d ≡ true). by from.0 d from.1 (stepped deadline ask held from.0 d from.2) h))
    where
      by : (c d : Claim) → IsIn c held → Left c d → is_final ask (filter_map (step deadline ask held) held) d ≡ true → ⊥
      by c d there (Runs kind running at is) h =
          let hard : not (is_cache d.what) ≡ true = (and_parts (not (is_cache d.what)) _ (and_parts (blocks ask d) _ h).1).0 in
          both_ways (is_cache d.what) (not-true (is_cache d.what) hard) (ap (λ (x : Claim). is_cache x.what) is)
      by c d there (Stays is) h =
          let here = subst (λ (x : Claim). is_final ask (filter_map (step deadline ask held) held) x ≡ true) is h in
          let parts = and_parts (blocks ask c) _ here in
          let more = and_parts (not (is_cache c.what)) _ parts.1 in
          let firm : is_final ask held c ≡ false = none_passes (is_final ask held) c held moves there in
          elim (cases_Bool (is_covered ask held c)) [
            | inl covered ↦ both_ways (is_covered ask (filter_map (step deadline ask held) held) c) (not-true (is_covered ask (filter_map (step deadline ask held) held) c) more.1) (still_covered c covered)
            | inr bare ↦
                both_ways (is_final ask held c) firm
                (and_from (blocks ask c) (not (is_cache c.what) && not (is_covered ask held c)) parts.0 (and_from (not (is_cache c.what)) (not (is_covered ask held c)) more.0 (not_from_false (is_covered ask held c) bare)))
          ]

pub planned_then : (deadline : Moment) (ask : Claim) (held : List Claim) → planned ask (once_broken deadline ask held) ≡ plan_then deadline (planned ask held)
unfolding once_broken step planned
planned_then deadline ask held = then_plan deadline ask held

pub moves_then : (deadline : Moment) (ask : Claim) (held : List Claim) → list_any (is_final ask held) held ≡ false → list_any (is_final ask (once_broken deadline ask held)) (once_broken deadline ask held) ≡ false
unfolding once_broken step
moves_then deadline ask held moves = still_moves deadline ask held moves
