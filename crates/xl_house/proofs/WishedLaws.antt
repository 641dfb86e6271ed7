-- A wish gets one of its choices, or the least kind with one of them and with what its party had, or nothing.
use Rattle.std.proofs.Common.{◌≡◌, ℕ, Bool, true, false, inl, inr, Option, Some, None, List, [], ◌∷◌, ◌++◌, map, refl, sym, ap, subst, ◌∙◌}
use Rattle.std.specs.Prelude.{◌==◌, ◌&&◌, if◌then◌else◌, IfSome, filter, find}
use Rattle.std.specs.List.{AllByRecursion, filter_map}
use Rattle.std.specs.Option.{IsSomeAnd}
use Rattle.std.proofs.lemmas.Bool.{both_ways, and_from, eq-eqb}
use Rattle.xl_base.proofs.Members.{all_in, all_from}
use Rattle.xl_base.proofs.Searches.{find_in, none_found, in_filter_map_from}
use Rattle.xl_base.specs.Lists.{IsIn, Pairwise}
use Rattle.xl_base.specs.declared.name.Party.{Party}
use Rattle.xl_matrix.proofs.EqualLaws.{same_parties-self}
use Rattle.xl_matrix.specs.Equal.{same_parties}
use Rattle.xl_matrix.specs.declared.claim.CacheKind.{CacheKind}
use Rattle.xl_matrix.specs.declared.claim.CacheKind.TheVariants.{R, RWH}
use Rattle.xl_matrix.specs.declared.claim.Claim.{Claim}
use Rattle.xl_matrix.specs.declared.claim.What.{What}
use Rattle.xl_matrix.specs.declared.claim.What.TheVariants.{Share, Range, Cache}
use Rattle.xl_cache.proofs.WishLaws.{best_is_chosen, joined_above, joined_least}
use Rattle.xl_matrix.specs.Kinds.{kind_lies_within}
use Rattle.xl_cache.specs.Wishing.{best_join_of, joined, is_its_cache, may_replace, may_stand, raised_by, granted_beside, granted_kind}
use Rattle.xl_cache.specs.declared.wish.Wish.{Wish}
use Rattle.xl_wait.specs.Waiting.{waits_on}
use Rattle.xl_wait.specs.declared.waiter.Rooms.{Rooms}
use Rattle.xl_wait.specs.declared.waiter.Waiter.{Waiter}
use Rattle.xl_core.specs.State.{CoreState}
use Rattle.xl_core.specs.Askers.{IsFit}
use Rattle.xl_core.specs.Decide.{before_wish, does_wish, ask}
use Rattle.xl_core.specs.Deeds.{Deed, Asks, Serves, turned, wish_by_number, once_served, asked_by, IsFitDeed}
use Rattle.xl_core.specs.Frames.{serves_none}
use Rattle.xl_core.specs.Good.{is_single, are_apart, IsGood}
use Rattle.xl_core.specs.Places.{CacheOf, held_at, held_in, is_cache_on, else_was}
use Rattle.xl_core.specs.Settle.{settle, next_way, plea_again, way_again}
use Rattle.xl_core.specs.Wishes.{has_room, is_waited_for, wished_kind, wish_for, wish_granted, wish_of, wished_at}
use Rattle.xl_core.specs.declared.ask.Answer.{Answer}
use Rattle.xl_core.specs.declared.ask.Answer.TheVariants.{Granted}
use Rattle.xl_core.specs.declared.ask.Ask.{Ask}
use Rattle.xl_core.specs.declared.ask.Effect.{Effect}
use Rattle.xl_core.specs.declared.ask.Effect.TheVariants.{Begun, Served, Cancelled, Expired}
use Rattle.xl_core.proofs.BreaksBegunLaws.{no_two}
use Rattle.xl_core.proofs.DeedLaws.{asked_there, wished_there}
use Rattle.xl_core.proofs.GoodLaws.{Turned, IsMoved, Answers, Rests, IsFirst, before_good, clear_up, each_turn, once_answered, served_good}
use Rattle.xl_core.proofs.AsideLaws.{left_grace}
use Rattle.xl_core.specs.Causes.{held_once, name_waiting}
use Rattle.xl_core.specs.Judge.{to_record}
use Rattle.xl_grace.specs.Grace.{Running}
use Rattle.xl_core.proofs.WayAsks.{ask_unwished, ask_wishes}
use Rattle.xl_core.proofs.WayDeeds.{next_is}
use Rattle.xl_core.proofs.WayLaws.{way_serves, way_waiters}
use Rattle.xl_core.proofs.WishLaws.{wish_cache}
use Rattle.xl_house.specs.Wished.{IsLeast, IsChosen, Chosen, Joined, IsWished, IsWishedBy}

-- ---- a party's cache on a file

abbrev what_of : Claim → What
what_of c = c.what

filtered_none : (p : Claim → Bool) (cs : List Claim) → AllByRecursion (λ c. p c ≡ false) cs → filter p cs ≡ []
filtered_none p [] all = refl
filtered_none p (c ∷ cs) all = ap (λ (b : Bool). if b then c ∷ filter p cs else filter p cs) all.0 ∙ filtered_none p cs all.1

pub same_found : (c d : Claim) → Some c ≡ Some d → c ≡ d
same_found c d e = cc

-- the one that is found is the one that is held
pub found_alone : (file : ℕ) (party : Party) (cs : List Claim) (own : Claim) → Pairwise is_single cs → find (is_cache_on file party) cs ≡ Some own → filter (is_cache_on file party) cs ≡ own ∷ []
found_alone file party [] own single e = absurd cc
found_alone file party (c ∷ cs) own single e = by (is_cache_on file party c) refl (λ later. found_alone file party cs own single.1 later) where
  test : Claim → Bool
  test d = is_cache_on file party d

  by : (b : Bool) → is_cache_on file party c ≡ b → (find test cs ≡ Some own → filter test cs ≡ own ∷ []) → filter (is_cache_on file party) (c ∷ cs) ≡ own ∷ []
  by true on rest =
      let same : c ≡ own = same_found c own (sym (ap (λ (b : Bool). if b then Some c else find test cs) on) ∙ e) in
      let none : filter test cs ≡ [] = filtered_none test cs (all_from (λ d. test d ≡ false) cs (λ d h. no_two file party c d (all_in (λ x. is_single c x ≡ true) d cs single.0 h) on)) in
      ap (λ (b : Bool). if b then c ∷ filter test cs else filter test cs) on ∙ (λ i. same i ∷ none i)
  by false off rest =
      ap (λ (b : Bool). if b then c ∷ filter test cs else filter test cs) off
      ∙ rest (sym (ap (λ (b : Bool). if b then Some c else find test cs) off) ∙ e)

-- ---- the kind that is granted

same_chosen : (kind other : CacheKind) → Some kind ≡ Some other → kind ≡ other
same_chosen kind other e = cc

least_of : (own choice kind : CacheKind) → joined own choice ≡ Some kind → IsLeast own choice kind
least_of own choice kind e =
    let over = subst (λ (o : Option CacheKind). IfSome o (λ least. (kind_lies_within own least ≡ true) × (kind_lies_within choice least ≡ true))) e (joined_above own choice) in
    record { above = over.0; beside = over.1; below = λ upper h k. below upper (joined own choice) e (joined_least own choice upper h k) }
  where
    below : (upper : CacheKind) (o : Option CacheKind) → o ≡ Some kind → IsSomeAnd o (λ least. kind_lies_within least upper ≡ true) → kind_lies_within kind upper ≡ true
    below upper (Some least) same h = subst (λ (k : CacheKind). kind_lies_within k upper ≡ true) (same_chosen least kind same) h
    below upper None same h = absurd cc

join_chosen : (wanted : Wish) (held : List Claim) (own kind : CacheKind) → best_join_of wanted own held ≡ Some kind → (choice : CacheKind) × IsIn choice wanted.kinds × (joined own choice ≡ Some kind)
unfolding best_join_of
join_chosen wanted held own kind e =
    in_filter_map_from (joined own) kind wanted.kinds
    (subst (λ (o : Option CacheKind). IfSome o (λ k. IsIn k (filter_map (joined own) wanted.kinds) × (may_replace wanted held k ≡ true))) e (find_in (may_replace wanted held) (filter_map (joined own) wanted.kinds))).0

pub granted_chosen : (wanted : Wish) (held : List Claim) (kind : CacheKind) → Pairwise is_single held → granted_kind wanted held ≡ Some kind → IsChosen wanted.kinds (held_in held (CacheOf wanted.file wanted.party)) kind
unfolding granted_kind
granted_chosen wanted held kind single e = by (find (is_its_cache wanted) held) refl e where
  had : List What
  had = held_in held (CacheOf wanted.file wanted.party)

  raised : (own : Claim) (w : What) → own.what ≡ w → had ≡ own.what ∷ [] → raised_by wanted held w ≡ Some kind → IsChosen wanted.kinds had kind
  raised own (Cache k None) is there e =
      let from = join_chosen wanted held k kind e in
      Joined k from.0 (there ∙ ap (λ (w : What). w ∷ []) is) from.1 (least_of k from.0 kind from.2)
  raised own (Cache k (Some running)) is there e = absurd cc
  raised own (Share access deny) is there e = absurd cc
  raised own (Range extent exclusive) is there e = absurd cc

  by : (o : Option Claim) → find (is_its_cache wanted) held ≡ o → granted_beside wanted held o ≡ Some kind → IsChosen wanted.kinds had kind
  by None none e =
      Chosen (ap (λ (cs : List Claim). map what_of cs) (filtered_none (is_its_cache wanted) held (none_found (is_its_cache wanted) held none)))
      (subst (λ (o : Option CacheKind). IfSome o (λ k. IsIn k wanted.kinds × (may_stand wanted held k ≡ true))) e (best_is_chosen wanted held)).0
  by (Some own) found e = raised own own.what refl (ap (λ (cs : List Claim). map what_of cs) (found_alone wanted.file wanted.party held own single found)) e

pub wished_parts : (wanted : Wish) (s : CoreState) (kind : CacheKind) → wished_kind wanted s ≡ Some kind → (s.grace ≡ None → waits_on wanted.file s.waiters ≡ false) × (granted_kind wanted s.claims ≡ Some kind)
unfolding wished_kind
wished_parts wanted s kind e = by (is_waited_for wanted.file s) (has_room (find (is_its_cache wanted) s.claims) s.claims) refl e where
  by : (waits room : Bool) → is_waited_for wanted.file s ≡ waits → (if waits then None else if room then granted_kind wanted s.claims else None) ≡ Some kind → (s.grace ≡ None → waits_on wanted.file s.waiters ≡ false) × (granted_kind wanted s.claims ≡ Some kind)
  by true room at e = absurd cc
  by false true at e = (λ calm. rw calm at at, e)
  by false false at e = absurd cc

granted_is_wished : (kinds : List CacheKind) (c : Claim) (s : CoreState) → IsGood s → IsWished kinds c s (wish_granted (wish_of kinds c) s)
granted_is_wished kinds c s good = by (wished_kind wanted s) refl where
  wanted : Wish
  wanted = wish_of kinds c

  had : List What
  had = held_at s (CacheOf c.file c.party)

  at : (o : Option CacheKind) → wished_kind wanted s ≡ o → held_at (wish_granted wanted s) (CacheOf c.file c.party) ≡ else_was (wished_at wanted o c.file c.party) had
  at o e = wish_cache wanted s c.file c.party good ∙ ap (λ (x : Option CacheKind). else_was (wished_at wanted x c.file c.party) had) e

  here : ((c.file == c.file) && same_parties c.party c.party) ≡ true
  here = and_from (c.file == c.file) (same_parties c.party c.party) (eq-eqb c.file c.file refl) (same_parties-self c.party)

  by : (o : Option CacheKind) → wished_kind wanted s ≡ o → IsWished kinds c s (wish_granted wanted s)
  by None e = inl (at None e)
  by (Some kind) e =
      let parts = wished_parts wanted s kind e in
      inr (kind, (parts.0, at (Some kind) e ∙ ap (λ (b : Bool). else_was (if b then Some (Cache kind None ∷ []) else None) had) here, granted_chosen wanted s.claims kind good.single parts.1))

-- what a wish gets goes by what is held, who waits and the grace that runs
wished_alike : (kinds : List CacheKind) (c : Claim) (x y t : CoreState) → x.claims ≡ y.claims → x.waiters ≡ y.waiters → x.grace ≡ y.grace → IsWished kinds c x t → IsWished kinds c y t
wished_alike kinds c x y t claims waiters grace is =
    subst (λ (g : Option Running). IsWished kinds c (record y { grace = g }) t) grace
    (subst (λ (ws : List Waiter). IsWished kinds c (record y { waiters = ws; grace = x.grace }) t) waiters
    (subst (λ (cs : List Claim). IsWished kinds c (record y { claims = cs; waiters = x.waiters; grace = x.grace }) t) claims is))

-- ---- an ask

ask_wished : (n : ℕ) (left : Rooms) (s : CoreState) (a : Ask) (c : Claim) → IsGood s → IsFit a → (ask n left s a).0 ≡ Granted c → IsWished a.wish c (before_wish n left s a).2 (ask n left s a).2
ask_wished n left s a c good fit e = by (does_wish a.act) refl where
  u : CoreState
  u = (before_wish n left s a).2

  by : (b : Bool) → does_wish a.act ≡ b → IsWished a.wish c u (ask n left s a).2
  by true does = subst (λ (t : CoreState). IsWished a.wish c u t) (sym (ask_wishes n left s a c does e)) (granted_is_wished a.wish c u (before_good n left s a good fit))
  by false doesnt = inl (ap (λ (t : CoreState). held_at t (CacheOf c.file c.party)) (ask_unwished n left s a (λ d does granted. both_ways (does_wish a.act) doesnt does)))

-- ---- a turn

same_served : (party holder : Party) (id number : ℕ) (answer other : Answer) → Served party id answer ≡ Served holder number other → (id ≡ number) × (answer ≡ other)
same_served party holder id number answer other e = (cc, cc)

served_last : (way : List Effect) (party holder : Party) (id number : ℕ) (answer other : Answer) → serves_none way ≡ true → IsIn (Served holder number other) (way ++ Served party id answer ∷ []) → (id ≡ number) × (answer ≡ other)
served_last [] party holder id number answer other none (inl e) = same_served party holder id number answer other e
served_last [] party holder id number answer other none (inr never) = absurd never
served_last (Begun cache to call ∷ way) party holder id number answer other none (inl e) = absurd cc
served_last (Begun cache to call ∷ way) party holder id number answer other none (inr later) = served_last way party holder id number answer other none later
served_last (Cancelled leaver gone ∷ way) party holder id number answer other none (inl e) = absurd cc
served_last (Cancelled leaver gone ∷ way) party holder id number answer other none (inr later) = served_last way party holder id number answer other none later
served_last (Expired client ∷ way) party holder id number answer other none (inl e) = absurd cc
served_last (Expired client ∷ way) party holder id number answer other none (inr later) = served_last way party holder id number answer other none later
served_last (Served leaver gone told ∷ way) party holder id number answer other none here = absurd (both_ways false refl none)

served_none : (way : List Effect) (holder : Party) (number : ℕ) (other : Answer) → serves_none way ≡ true → IsIn (Served holder number other) way → ⊥
served_none [] holder number other none never = never
served_none (Begun cache to call ∷ way) holder number other none (inl e) = absurd cc
served_none (Begun cache to call ∷ way) holder number other none (inr later) = served_none way holder number other none later
served_none (Cancelled leaver gone ∷ way) holder number other none (inl e) = absurd cc
served_none (Cancelled leaver gone ∷ way) holder number other none (inr later) = served_none way holder number other none later
served_none (Expired client ∷ way) holder number other none (inl e) = absurd cc
served_none (Expired client ∷ way) holder number other none (inr later) = served_none way holder number other none later
served_none (Served leaver gone told ∷ way) holder number other none here = both_ways false refl none

abbrev TurnWishes : CoreState → Turned → Type 0
TurnWishes s turn = (party : Party) (id : ℕ) (c : Claim) → IsIn (Served party id (Granted c)) turn.0 → IsWished (wish_by_number id (next_way s).1.waiters) c (once_served (next_way s).1 id (Granted c)) turn.1

first_wished : (n : ℕ) (left : Rooms) (s : CoreState) (turn : Turned) → IsGood s → IsFirst n left s [] s.waiters turn → TurnWishes s turn
first_wished n left s turn good first party id c here =
    subst (λ (way : List Effect × CoreState). IsWished (wish_by_number id way.1.waiters) c (once_served way.1 id (Granted c)) turn.1) (sym next) (by first.moved)
  where
    w : Waiter
    w = first.waiter

    way : List Effect × CoreState
    way = way_again first.before s w

    t : CoreState
    t = way.1

    all : List Claim
    all = first.claim ∷ first.claims

    next : next_way s ≡ way
    next = next_is s first.before w first.behind first.stood first.blocked (clear_up first.before s w first.claim first.claims first.calm first.asked first.free)

    quiet : serves_none way.0 ≡ true
    quiet = way_serves first.before (plea_again s w) w.asked s

    stand : Pairwise are_apart (first.before ++ w ∷ first.behind)
    stand = subst (λ (ws : List Waiter). Pairwise are_apart ws) first.stood good.apart

    among : t.waiters ≡ first.before ++ w ∷ first.behind
    among = way_waiters first.before (plea_again s w) w.asked s ∙ first.stood

    there : asked_by w.id t.waiters ≡ all
    there = ap (asked_by w.id) among ∙ asked_there first.before w first.behind stand ∙ first.asked

    wishes : wish_by_number w.id t.waiters ≡ w.wish
    wishes = ap (wish_by_number w.id) among ∙ wished_there first.before w first.behind stand

    by : IsMoved n left first.before s w first.claim first.claims turn → IsWished (wish_by_number id t.waiters) c (once_served t id (Granted c)) turn.1
    by (Answers answer told new due pass clear) =
        let is = served_last way.0 w.party party w.id id answer (Granted c) quiet (subst (λ (effects : List Effect). IsIn (Served party id (Granted c)) effects) told here) in
        let u = once_answered t w all (Granted c) in
        let sound : IsGood u = subst (λ (x : Answer). IsGood (once_answered t w all x)) is.1 (served_good n left s turn first good answer pass).0 in
        let left_by : wish_granted (wish_of w.wish c) u ≡ turn.1 = ap (λ (x : Answer). wish_for w.wish x (once_answered t w all x)) (sym is.1) ∙ sym new in
        subst (λ (number : ℕ). IsWished (wish_by_number number t.waiters) c (once_served t number (Granted c)) turn.1) is.0
        (subst (λ (kinds : List CacheKind). IsWished kinds c (once_served t w.id (Granted c)) turn.1) (sym wishes)
        (wished_alike w.wish c u (once_served t w.id (Granted c)) turn.1 (ap (λ (cs : List Claim). held_once cs (Granted c) t.claims) (sym there)) refl (left_grace (to_record (name_waiting t w) all) (Granted c) t)
        (subst (λ (x : CoreState). IsWished w.wish c u x) left_by (granted_is_wished w.wish c u sound))))
    by (Rests e up) = absurd (served_none way.0 party id (Granted c) quiet (subst (λ (x : Turned). IsIn (Served party id (Granted c)) x.0) e here))

turned_wished : (s : CoreState) (o : Option Turned) → IfSome o (TurnWishes s) → TurnWishes s ((turned s o).1, (turned s o).2)
turned_wished s None each = λ party id c never. absurd never
turned_wished s (Some r) each = each

-- ---- each deed

pub deed_wished : (n : ℕ) (s : CoreState) (d : Deed) → IsGood s → IsFitDeed s d → IsWishedBy n s d
deed_wished n s (Asks left a) good fit = λ c e. ask_wished n left s a c good fit e
deed_wished n s (Serves left) good fit = turned_wished s (settle n left s) (each_turn n left s (TurnWishes s) good (λ turn first. first_wished n left s turn good first))
deed_wished n s d good fit = tt

-- ---- machines that don't

cleared_is : (w : What) (had has : List What) → has ≡ w ∷ [] → has ≡ had → had ≡ [] → ⊥
cleared_is w had has is same none = let e : (w ∷ []) ≡ [] = sym is ∙ same ∙ none in absurd cc

same_kept : (kind other : CacheKind) → (Cache kind None ∷ []) ≡ (Cache other None ∷ []) → kind ≡ other
same_kept kind other e = cc

-- one gives a greater kind than any that was chosen
pub unchosen_is : (s t : CoreState) (c : Claim) → held_at s (CacheOf c.file c.party) ≡ [] → held_at t (CacheOf c.file c.party) ≡ Cache RWH None ∷ [] → IsWished (R ∷ []) c s t → ⊥
unchosen_is s t c none has (inl same) = cleared_is (Cache RWH None) (held_at s (CacheOf c.file c.party)) (held_at t (CacheOf c.file c.party)) has same none
unchosen_is s t c none has (inr gets) = by gets.0 (same_kept RWH gets.0 (sym has ∙ gets.1.1)) gets.1.2 where
  by : (kind : CacheKind) → RWH ≡ kind → IsChosen (R ∷ []) (held_at s (CacheOf c.file c.party)) kind → ⊥
  by kind e (Chosen empty (inl first)) = let clash : R ≡ RWH = first ∙ sym e in absurd cc
  by kind e (Chosen empty (inr never)) = absurd never
  by kind e (Joined own choice is among least) = cleared_is (Cache own None) (held_at s (CacheOf c.file c.party)) (held_at s (CacheOf c.file c.party)) is refl none

-- one gives a cache though someone waits on the file
pub beside_waiter_is : (s t : CoreState) (c : Claim) → s.grace ≡ None → waits_on c.file s.waiters ≡ true → held_at s (CacheOf c.file c.party) ≡ [] → held_at t (CacheOf c.file c.party) ≡ Cache R None ∷ [] → IsWished (R ∷ []) c s t → ⊥
beside_waiter_is s t c calm waits none has (inl same) = cleared_is (Cache R None) (held_at s (CacheOf c.file c.party)) (held_at t (CacheOf c.file c.party)) has same none
beside_waiter_is s t c calm waits none has (inr gets) = both_ways (waits_on c.file s.waiters) (gets.1.0 calm) waits
