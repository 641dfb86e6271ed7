-- What the code of an ask, of a turn and of the core's calls rests on.
use Rattle.std.proofs.Common.{◌≡◌, ℕ, true, false, List, Option, Some, None, IfSome, option_map, refl, sym, ap, subst, ◌∙◌, map, [], ◌∷◌, Bool, ◌-◌, ◌<◌, ◌≤◌, length, take, drop, slice_index_or, arith, if◌then◌else◌}
use Rattle.xl_core.proofs.StoreLaws.{may_be_made}
use Rattle.std.specs.List.{AllByRecursion}
use Rattle.xl_matrix.specs.declared.claim.Claim.{Claim}
use Rattle.xl_matrix.specs.declared.claim.Extent.{Extent}
use Rattle.xl_matrix.specs.declared.claim.What.{What}
use Rattle.xl_matrix.specs.Owners.{posix}
use Rattle.xl_table.specs.Held.{has_one_party, IsGrantable, IsShareOrLock, is_range, mode_of, IsKept}
use Rattle.xl_wait.specs.declared.waiter.Rooms.{Rooms}
use Rattle.xl_wait.specs.declared.waiter.Waiter.{Waiter}
use Rattle.xl_core.specs.State.{CoreState, MayBe}
use Rattle.xl_core.specs.Askers.{is_client, may_hold, asked_claim, known_claim, IsFit, range_what, asked_claims, may_hold_all, IsFitAct}
use Rattle.xl_core.specs.Decide.{ask}
use Rattle.xl_core.specs.Good.{IsGood, IsPled}
use Rattle.xl_core.specs.Settle.{settle, first_called}
use Rattle.xl_core.specs.Whole.{state_of}
use Rattle.xl_core.specs.declared.ask.Answer.{Answer}
use Rattle.xl_core.specs.declared.ask.Ask.{Ask}
use Rattle.xl_core.specs.declared.ask.Effect.{Effect}
use Rattle.xl_core.specs.declared.parts.Parts.{Parts}
use Rattle.xl_core.specs.declared.settling.Called.{Called}
use Rattle.xl_core.proofs.GoodLaws.{ask_good, settle_good, asked_one_party, unlocked_one_party}
use Rattle.xl_core.proofs.KnownLaws.{asked_known}
use Rattle.xl_core.proofs.TurnLaws.{called_known}
use Rattle.xl_core.specs.Judge.{IsRow, held_with, stop_left, first_stop, are_of_one_party}
use Rattle.xl_core.specs.declared.ask.Act.TheVariants.{Ranges}
use Rattle.xl_core.proofs.RequestLaws.{ranges_pled}
use Rattle.std.proofs.lemmas.Bool.{both_ways, or_right}
use Rattle.std.proofs.Math.Seq.{take-length}
use Rattle.xl_core.specs.declared.judge.Ruling.{Ruling}
use Rattle.xl_core.specs.declared.judge.Plea.{Plea}
use Rattle.xl_table.specs.Relock.{granted_by, granted_claims, relocked_in}
use Rattle.xl_table.specs.Flat.{inserted}
use Rattle.xl_table.specs.Elements.{CameLast}
use Rattle.xl_table.proofs.FlatLaws.{all_inserted as all_put}
use Rattle.xl_table.proofs.InsertLaws.{one_party-sym}
use Rattle.xl_matrix.specs.declared.claim.Extent.TheVariants.{Bytes, Empty}
use Rattle.xl_matrix.specs.declared.claim.What.TheVariants.{Share, Range, Cache}
use Rattle.xl_matrix.specs.Equal.{same_parties}

pub asked_alone : (p : Parts) (a : Ask) (what : What) (claim : Claim) → claim ≡ asked_claim a what p.names → IsGood (state_of p) → is_client a.owner a.party ≡ true → AllByRecursion (λ c. has_one_party claim c ≡ true) p.table
asked_alone p a what claim e good client =
    subst (λ (x : Claim). AllByRecursion (λ c. has_one_party x c ≡ true) p.table) (sym e) (asked_one_party (state_of p) a what good client)

pub known_alone : (p : Parts) (a : Ask) (extent : Extent) (claim : Claim) → claim ≡ known_claim a extent false p.names → IsGood (state_of p) → is_client a.owner a.party ≡ true → AllByRecursion (λ c. has_one_party claim c ≡ true) p.table
known_alone p a extent claim e good client =
    subst (λ (x : Claim). AllByRecursion (λ c. has_one_party x c ≡ true) p.table) (sym e) (unlocked_one_party (state_of p) a extent false good client)

-- what is asked for may be granted
pub asked_grantable : (p : Parts) (a : Ask) (what : What) (claim : Claim) → claim ≡ asked_claim a what p.names → is_client a.owner a.party ≡ true → may_hold a.owner what ≡ true → IsShareOrLock what → IsGrantable claim
asked_grantable p a what claim e client may real = subst (λ (x : Claim). IsGrantable x) (sym e) (asked_known a what p.names client may real).0

-- so may several ranges in one request
pub ranges_row : (p : Parts) (a : Ask) (ranges : List (Extent × Bool)) (claims : List Claim) → claims ≡ asked_claims a (map range_what ranges) p.names → IsFitAct a.owner a.blocking (Ranges ranges) → is_client a.owner a.party ≡ true → may_hold_all a.owner ranges ≡ true → IsRow claims
ranges_row p a ranges claims e fit client may = subst IsRow (sym e) (by ranges (ranges_pled a ranges p.names fit client may)) where
  by : (rs : List (Extent × Bool)) → IsPled (asked_claims a (map range_what rs) p.names) → IsRow (asked_claims a (map range_what rs) p.names)
  by [] none = absurd none
  by (range ∷ rs) row = row.0

pub ranges_alone : (p : Parts) (a : Ask) (ranges : List (Extent × Bool)) (claims : List Claim) → claims ≡ asked_claims a (map range_what ranges) p.names → IsGood (state_of p) → is_client a.owner a.party ≡ true → AllByRecursion (λ c. AllByRecursion (λ d. has_one_party c d ≡ true) p.table) claims
ranges_alone p a ranges claims e good client = subst (λ (cs : List Claim). AllByRecursion (λ c. AllByRecursion (λ d. has_one_party c d ≡ true) p.table) cs) (sym e) (by ranges) where
  by : (rs : List (Extent × Bool)) → AllByRecursion (λ c. AllByRecursion (λ d. has_one_party c d ≡ true) p.table) (asked_claims a (map range_what rs) p.names)
  by [] = tt
  by (range ∷ rest) = (asked_one_party (state_of p) a (range_what range) good client, by rest)

pub called_row : (p : Parts) (called : Called) → IsGood (state_of p) → first_called (state_of p) [] p.queue ≡ Some called → IsRow called.asked
called_row p called good e = by called.asked (called_known (state_of p) [] p.queue called good.waiters e).1 where
  by : (asked : List Claim) → IsPled asked → IsRow asked
  by [] none = absurd none
  by (c ∷ cs) some = some.0

pub ask_keeps : (left : Rooms) (s t : CoreState) (a : Ask) (answer : Answer) (effects : List Effect) → ((n : ℕ) → MayBe n t → ask n left s a ≡ (answer, effects, t)) → IsGood s → IsFit a → IsGood t
ask_keeps left s t a answer effects e good fit = subst (λ (r : Answer × List Effect × CoreState). IsGood r.2) (e t.made (may_be_made t)) (ask_good t.made left s a good fit)

told_good : (s t : CoreState) (o : Option (List Effect × CoreState)) (r : Option (List Effect)) → IsGood s → o ≡ option_map (λ effects. (effects, t)) r → (r ≡ None → t ≡ s) → IfSome o (λ x. IsGood x.1) → IsGood t
told_good s t o None good e same turned = subst (λ (x : CoreState). IsGood x) (sym (same refl)) good
told_good s t o (Some effects) good e same turned = subst (λ (x : Option (List Effect × CoreState)). IfSome x (λ y. IsGood y.1)) e turned

pub settle_keeps : (left : Rooms) (s t : CoreState) (r : Option (List Effect)) → ((n : ℕ) → MayBe n t → settle n left s ≡ option_map (λ effects. (effects, t)) r) → (r ≡ None → t ≡ s) → IsGood s → IsGood t
settle_keeps left s t r e same good = told_good s t (settle t.made left s) r good (e t.made (may_be_made t)) same (settle_good t.made left s good)

-- ---- several claims, one after another

pub head_rest : (cs : List Claim) (d : Claim) → 1 ≤ length cs → cs ≡ slice_index_or cs 0 d ∷ take (length cs - 1) (drop 1 cs)
head_rest [] d h = absurd (omega (arith, h))
head_rest (c ∷ cs) d h = let e : length (c ∷ cs) - 1 ≡ length cs = omega arith in ap (λ (xs : List Claim). c ∷ xs) (sym (ap (λ (n : ℕ). take n cs) e ∙ take-length cs))

pub none_left : (cs : List Claim) (s : CoreState) → length cs < 1 → s ≡ held_with cs s
unfolding held_with
none_left [] s h = refl
none_left (c ∷ cs) s h = absurd (omega (arith, h))

pub rest_row : (cs : List Claim) (c : Claim) (rest : List Claim) → cs ≡ c ∷ rest → IsRow cs → IsRow rest
rest_row cs c rest is row = by rest (subst IsRow is row) where
  by : (ds : List Claim) → IsRow (c ∷ ds) → IsRow ds
  by [] h = tt
  by (d ∷ []) h = h.0.1.0.0
  by (d ∷ e ∷ es) h = (h.0.1, h.1.1)

-- the claim is entered once it is granted
came : (p q : Parts) (c : Claim) (o : Option Ruling) → state_of q ≡ stop_left o (c ∷ []) (state_of p) → o ≡ None → q.table ≡ granted_claims c p.table
unfolding held_with
came p q c o e is = ap (λ (s : CoreState). s.claims) (e ∙ ap (λ (x : Option Ruling). stop_left x (c ∷ []) (state_of p)) is)

element_granted : (c : Claim) (w : What) (cs : List Claim) → c.what ≡ w → is_range w ≡ true → posix c.owner ≡ false → granted_claims c cs ≡ inserted c cs
unfolding granted_claims
element_granted c (Range (Bytes first last) exclusive) cs is range unnamed =
    ap (λ (w : What). granted_by c w cs) is ∙ ap (λ (b : Bool). if b then relocked_in c.file c.owner c.party first last (Some (mode_of exclusive)) cs else inserted c cs) unnamed
element_granted c (Range (Empty offset) exclusive) cs is range unnamed = ap (λ (w : What). granted_by c w cs) is
element_granted c (Share access deny) cs is range unnamed = absurd (both_ways false refl range)
element_granted c (Cache kind running) cs is range unnamed = absurd (both_ways false refl range)

first_granted : (c d : Claim) (ds cs : List Claim) → IsRow (c ∷ d ∷ ds) → granted_claims c cs ≡ inserted c cs
first_granted c d ds cs row = element_granted c c.what cs refl row.0.0.1 row.0.0.2

-- the others are of one party with what is held then
pub rest_alone : (p q : Parts) (cs : List Claim) (c : Claim) (rest : List Claim) (o : Option Ruling) → cs ≡ c ∷ rest → IsRow cs → AllByRecursion (λ d. AllByRecursion (λ e. has_one_party d e ≡ true) p.table) cs → state_of q ≡ stop_left o (c ∷ []) (state_of p) → o ≡ None
    → AllByRecursion (λ d. AllByRecursion (λ e. has_one_party d e ≡ true) q.table) rest
rest_alone p q cs c rest o is row party e none = by rest (subst IsRow is row) (subst (λ (xs : List Claim). AllByRecursion (λ d. AllByRecursion (λ e. has_one_party d e ≡ true) p.table) xs) is party).1 where
  beside : (ds : List Claim) → AllByRecursion (λ d. are_of_one_party c d ≡ true) ds → AllByRecursion (λ d. AllByRecursion (λ e. has_one_party d e ≡ true) p.table) ds → AllByRecursion (λ d. AllByRecursion (λ e. has_one_party d e ≡ true) (inserted c p.table)) ds
  beside [] mine held = tt
  beside (d ∷ ds) mine held = (all_put (λ e. has_one_party d e ≡ true) c p.table (one_party-sym d c ∙ or_right _ (same_parties c.party d.party) mine.0) held.0, beside ds mine.1 held.1)

  by : (ds : List Claim) → IsRow (c ∷ ds) → AllByRecursion (λ d. AllByRecursion (λ e. has_one_party d e ≡ true) p.table) ds → AllByRecursion (λ d. AllByRecursion (λ e. has_one_party d e ≡ true) q.table) ds
  by [] h held = tt
  by (d ∷ ds) h held =
      subst (λ (t : List Claim). AllByRecursion (λ d. AllByRecursion (λ e. has_one_party d e ≡ true) t) (d ∷ ds)) (sym (came p q c o e none ∙ first_granted c d ds p.table h))
      (beside (d ∷ ds) h.1.0 held)

-- where a later one is stopped, the first stands behind the others of its open
pub came_behind : (p q r : Parts) (earlier : List Waiter) (left : Rooms) (plea : Plea) (cs : List Claim) (c : Claim) (rest : List Claim) (o later : Option Ruling) (ruling : Ruling) → cs ≡ c ∷ rest → IsRow cs → state_of q ≡ stop_left o (c ∷ []) (state_of p) → o ≡ None
    → first_stop earlier left plea rest (state_of q) ≡ later → state_of r ≡ stop_left later rest (state_of q) → later ≡ Some ruling → r.table ≡ inserted c p.table
came_behind p q r earlier left plea cs c rest o later ruling is fits e none first after stopped =
    ap (λ (s : CoreState). s.claims) (after ∙ ap (λ (x : Option Ruling). stop_left x rest (state_of q)) stopped) ∙ came p q c o e none ∙ by rest (subst IsRow is fits) (first ∙ stopped)
  where
    by : (ds : List Claim) → IsRow (c ∷ ds) → first_stop earlier left plea ds (state_of q) ≡ Some ruling → granted_claims c p.table ≡ inserted c p.table
    by [] h same = absurd cc
    by (d ∷ ds) h same = first_granted c d ds p.table h

pub came_last : (c : Claim) (before now : List Claim) → IsKept before → now ≡ inserted c before → CameLast c now
came_last c before now kept is = record { before = before; kept = kept; is = is }

-- it is taken back then
pub back_state : (p q r : Parts) (t : List Claim) (c : Claim) (rest : List Claim) (o later : Option Ruling) (ruling : Ruling) → t ≡ p.table → state_of q ≡ stop_left o (c ∷ []) (state_of p) → o ≡ None → state_of r ≡ stop_left later rest (state_of q) → later ≡ Some ruling
    → (record (state_of r) { claims = t }) ≡ state_of p
unfolding held_with
back_state p q r t c rest o later ruling back e none after stopped =
    ap (λ (s : CoreState). record s { claims = t }) (after ∙ ap (λ (x : Option Ruling). stop_left x rest (state_of q)) stopped ∙ e ∙ ap (λ (x : Option Ruling). stop_left x (c ∷ []) (state_of p)) none)
    ∙ ap (λ (x : List Claim). record (state_of p) { claims = x }) back

-- where all have passed, all are held
pub ahead_state : (p q r : Parts) (cs : List Claim) (c : Claim) (rest : List Claim) (o later : Option Ruling) → cs ≡ c ∷ rest → state_of q ≡ stop_left o (c ∷ []) (state_of p) → o ≡ None → state_of r ≡ stop_left later rest (state_of q) → later ≡ None
    → state_of r ≡ held_with cs (state_of p)
unfolding held_with
ahead_state p q r cs c rest o later is e none after all =
    after
    ∙ (λ i. stop_left (all i) rest ((e ∙ ap (λ (x : Option Ruling). stop_left x (c ∷ []) (state_of p)) none) i))
    ∙ ap (λ (xs : List Claim). held_with xs (state_of p)) (sym is)
