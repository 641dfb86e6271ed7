-- When a SETCLIENTID finds no room, and when an OPEN_DOWNGRADE asks for more than the open has.
use Rattle.std.proofs.Common.{◌≡◌, ◌↔◌, ◌⊎◌, ℕ, ◌+◌, ◌≤◌, Bool, true, false, ◌&&◌, ◌||◌, List, [], ◌∷◌, length, Option, Some, None, is_some, refl, sym, ap, subst, ◌∙◌, inl, inr, arith, true≢false}
use Rattle.std.proofs.lemmas.Bool.{cases_Bool, and_parts, and_from, eq-eqb, eqb-true}
use Rattle.std.proofs.lemmas.Bool.Decides.{nat_tests}
use Rattle.std.proofs.lemmas.Option.{same_Some}
use Rattle.std.specs.Bool.{◌==◌, beq}
use Rattle.std.specs.List.{find}
use Rattle.std.specs.Prelude.{bytes_eq, nat_le, nat_lt}
use Rattle.xl_matrix.specs.Rights.{implies, rights_lie_within}
use Rattle.xl_nfs.specs.Clients.{SetClientIdArgsItem}
use Rattle.xl_nfs.specs.declared.opens.OpenDowngradeArgs.{OpenDowngradeArgs}
use Rattle.xl_nfs.specs.declared.status.NfsStatus.TheVariants.{Inval, Resource}
use Rattle.xl_nfs_state.specs.State.{IsSound, NfsLists, is_client, is_client_named, without}
use Rattle.xl_nfs_state.specs.declared.client.ClientRow.{ClientRow}
use Rattle.xl_nfs_state.specs.declared.owner.SeqidState.{SeqidState}
use Rattle.xl_nfs_state.specs.declared.stateid.StateidRow.{StateidRow}
use Rattle.xl_core.specs.State.{CoreState}
use Rattle.xl_nfs_opens.specs.Closing.{can_weaken, checked, standing_fault}
use Rattle.xl_nfs_opens.specs.Downgrades.{downgrade_by, downgrade_done, downgrade_fault}
use Rattle.xl_nfs_opens.specs.Opens.{rights_of}
use Rattle.xl_nfs_opens.specs.Plans.{Outcome, carried}
use Rattle.xl_nfs_opens.specs.declared.opener.Checked.{Checked}
use Rattle.xl_nfs_opens.specs.declared.opener.Checked.TheVariants.{Passed}
use Rattle.xl_nfs_opens.specs.declared.told.Told.TheVariants.{Ended}
use Rattle.xl_front_nfs.specs.Clients.{has_room, number_kept, set_beside, set_by, set_client_id, without_found, without_number}
use Rattle.xl_nfs_laws.specs.OpenLaws.{AreOf, IsLess}
use Rattle.xl_nfs_laws.proofs.ClientCaseLaws.{found_passes}

-- ---- SETCLIENTID

module _ {A : Type 0} where
  no_longer : (q : A → Bool) (xs : List A) → length (without q xs) ≤ length xs
  no_longer q [] = omega arith
  no_longer q (x ∷ xs) =
      elim (cases_Bool (q x)) [
        | inl e ↦ rw e (omega (arith, no_longer q xs))
        | inr e ↦ rw e (omega (arith, no_longer q xs))
      ]

  -- what is found among those that go makes the list shorter
  shorter : (p q : A → Bool) (xs : List A) (x : A) → find p xs ≡ Some x → q x ≡ true → length (without q xs) + 1 ≤ length xs
  shorter p q [] x found goes = absurd (true≢false (sym (ap is_some found)))
  shorter p q (y ∷ ys) x found goes =
      elim (cases_Bool (p y)) [
        | inl e ↦ (
            let f : Some y ≡ Some x = rw e at found in
            let d : q y ≡ true = ap q (same_Some y x f) ∙ goes in
            rw d (omega (arith, no_longer q ys)))
        | inr e ↦ (
            let rest = shorter p q ys x (rw e at found) goes in
            elim (cases_Bool (q y)) [
              | inl d ↦ rw d (omega (arith, rest))
              | inr d ↦ rw d (omega (arith, rest))
            ])
      ]

-- the unconfirmed record of the id string is the one of its number
own_record : (id : List ℕ) (r : ClientRow) → is_client_named id false r ≡ true → is_client r.number false r ≡ true
own_record id r e = and_from (r.number == r.number) (beq false r.confirmed) (eq-eqb r.number r.number refl) (and_parts (bytes_eq id r.id) (beq false r.confirmed) e).1

has_most : (k : ℕ) → nat_lt k 256 ≡ false → k ≤ 256 → k ≡ 256
has_most k full few = grind (arith, nat_tests)

is_most : (k : ℕ) → k ≡ 256 → nat_lt k 256 ≡ false
is_most k e = grind (arith, nat_tests)

has_less : (k most : ℕ) → k + 1 ≤ most → most ≤ 256 → nat_lt k 256 ≡ true
has_less k most fewer few = grind (arith, nat_tests)

module _ (n : ℕ) (s : CoreState) (l : NfsLists) (current : Option ℕ) (a : SetClientIdArgsItem) where
  abbrev Turned : Outcome → Type 0
  Turned done = ((done.0 ≡ Ended Resource) ↔ ((length l.clients ≡ 256) × (find (is_client_named a.id false) l.clients ≡ None))) × (done.0 ≡ Ended Resource → done ≡ (Ended Resource, current, [], l, s))

  -- none of its records makes room
  alone : (kept : Option ℕ) (room : Bool) → has_room l ≡ room → length l.clients ≤ 256 → find (is_client_named a.id false) l.clients ≡ None → Turned (carried n s l (set_by s l current a kept))
  alone kept true is few none = rw is (((λ said. absurd cc), (λ both. absurd (true≢false (sym is ∙ is_most (length l.clients) both.0)))), (λ said. absurd cc))
  alone kept false is few none = rw is (((λ said. (has_most (length l.clients) is few, none)), (λ both. refl)), (λ said. refl))

  -- one does
  beside : (kept : Option ℕ) (r : ClientRow) → find (is_client_named a.id false) l.clients ≡ Some r → length l.clients ≤ 256 → Turned (carried n s l (set_by s (without_number r.number l) current a kept))
  beside kept r found few =
      let goes : is_client r.number false r ≡ true = own_record a.id r (found_passes (is_client_named a.id false) l.clients r found) in
      let fewer = shorter (is_client_named a.id false) (is_client r.number false) l.clients r found goes in
      let room : has_room (without_number r.number l) ≡ true = has_less (length (without (is_client r.number false) l.clients)) (length l.clients) fewer few in
      rw room (((λ said. absurd cc), (λ both. absurd (true≢false (ap is_some (sym found ∙ both.1))))), (λ said. absurd cc))

  turned : IsSound l → Turned (carried n s l (set_client_id s l current a))
  unfolding set_client_id
  turned sound = by (find (is_client_named a.id false) l.clients) refl
    where
      by : (x : Option ClientRow) → find (is_client_named a.id false) l.clients ≡ x → Turned (carried n s l (set_beside s (without_found l x) current a))
      by None e = alone (number_kept a.verifier (find (is_client_named a.id true) l.clients)) (has_room l) refl sound.clients_room e
      by (Some r) e = beside (number_kept a.verifier (find (is_client_named a.id true) (without_number r.number l).clients)) r e sound.clients_room

pub full_exactly : (n : ℕ) (s : CoreState) (l : NfsLists) (current : Option ℕ) (a : SetClientIdArgsItem) → IsSound l → ((carried n s l (set_client_id s l current a)).0 ≡ Ended Resource) ↔ ((length l.clients ≡ 256) × (find (is_client_named a.id false) l.clients ≡ None))
full_exactly n s l current a sound = (turned n s l current a sound).0

pub full_changes_nothing : (n : ℕ) (s : CoreState) (l : NfsLists) (current : Option ℕ) (a : SetClientIdArgsItem) → IsSound l → (carried n s l (set_client_id s l current a)).0 ≡ Ended Resource → carried n s l (set_client_id s l current a) ≡ (Ended Resource, current, [], l, s)
full_changes_nothing n s l current a sound said = (turned n s l current a sound).1 said

-- ---- OPEN_DOWNGRADE

-- one of two numbers
one_of : (bits a b : ℕ) → ((bits == a) || (bits == b)) ≡ true → (bits ≡ a) ⊎ (bits ≡ b)
one_of bits a b e =
    elim (cases_Bool (bits == a)) [
      | inl h ↦ inl (eqb-true bits a h)
      | inr h ↦ inr (eqb-true bits b (rw h at e))
    ]

from_one : (bits a b : ℕ) → (bits ≡ a) ⊎ (bits ≡ b) → ((bits == a) || (bits == b)) ≡ true
from_one bits a b h =
    elim h [
      | inl e ↦ rw (eq-eqb bits a e) refl
      | inr e ↦ (elim (cases_Bool (bits == a)) [ inl d ↦ rw d refl | inr d ↦ rw d (eq-eqb bits b e) ])
    ]

implied : (p q : Bool) → implies p q ≡ true → p ≡ true → q ≡ true
implied true true e is = refl
implied true false e is = absurd (true≢false (sym e))
implied false q e is = absurd (true≢false (sym is))

implying : (p q : Bool) → (p ≡ true → q ≡ true) → implies p q ≡ true
implying true q h = by q (h refl)
  where
    by : (q : Bool) → q ≡ true → implies true q ≡ true
    by true e = refl
    by false e = absurd (true≢false (sym e))
implying false q h = refl

lies_of : (asked had : ℕ) → rights_lie_within (rights_of asked) (rights_of had) ≡ true → AreOf asked had
lies_of asked had e =
    let first = and_parts (implies (rights_of asked).r (rights_of had).r) _ e in
    let second = and_parts (implies (rights_of asked).w (rights_of had).w) _ first.1 in (
      λ h. one_of had 1 3 (implied (rights_of asked).r (rights_of had).r first.0 (from_one asked 1 3 h)),
      λ h. one_of had 2 3 (implied (rights_of asked).w (rights_of had).w second.0 (from_one asked 2 3 h)),
    )

of_lies : (asked had : ℕ) → AreOf asked had → rights_lie_within (rights_of asked) (rights_of had) ≡ true
of_lies asked had of =
    and_from (implies (rights_of asked).r (rights_of had).r) (implies (rights_of asked).w (rights_of had).w && true) (implying (rights_of asked).r (rights_of had).r (λ h. from_one had 1 3 (of.0 (one_of asked 1 3 h))))
    (and_from (implies (rights_of asked).w (rights_of had).w) true (implying (rights_of asked).w (rights_of had).w (λ h. from_one had 2 3 (of.1 (one_of asked 2 3 h)))) refl)

le_from : (a b : ℕ) → nat_le a b ≡ true → a ≤ b
le_from a b e = grind (arith, nat_tests)

from_le : (a b : ℕ) → a ≤ b → nat_le a b ≡ true
from_le a b e = grind (arith, nat_tests)

weakens_to : (r : StateidRow) (access deny : ℕ) → can_weaken r access deny ≡ true → IsLess r access deny
unfolding can_weaken
weakens_to r access deny e =
    let one = and_parts (nat_le 1 access) _ e in
    let two = and_parts (nat_le access 3) _ one.1 in
    let three = and_parts (nat_le deny 3) _ two.1 in
    let four = and_parts (rights_lie_within (rights_of access) (rights_of r.standing.access)) (rights_lie_within (rights_of deny) (rights_of r.standing.deny)) three.1 in
    record { least = le_from 1 access one.0; most = le_from access 3 two.0; deny_most = le_from deny 3 three.0; access_of = lies_of access r.standing.access four.0; deny_of = lies_of deny r.standing.deny four.1 }

to_weaken : (r : StateidRow) (access deny : ℕ) → IsLess r access deny → can_weaken r access deny ≡ true
unfolding can_weaken
to_weaken r access deny less =
    let within = and_from (rights_lie_within (rights_of access) (rights_of r.standing.access)) (rights_lie_within (rights_of deny) (rights_of r.standing.deny)) (of_lies access r.standing.access less.access_of) (of_lies deny r.standing.deny less.deny_of) in
    and_from (nat_le 1 access) _ (from_le 1 access less.least) (and_from (nat_le access 3) _ (from_le access 3 less.most) (and_from (nat_le deny 3) _ (from_le deny 3 less.deny_most) within))

module _ (n : ℕ) (s : CoreState) (l : NfsLists) (current : Option ℕ) (a : OpenDowngradeArgs) (r : StateidRow) (w : ℕ) (seqids : SeqidState) where
  downgraded : (can : Bool) → can_weaken r a.access a.deny ≡ can → standing_fault r seqids a.stateid.seqid true ≡ None → ((carried n s l (downgrade_done s l current a r w seqids (downgrade_fault r seqids a))).0 ≡ Ended Inval) ↔ (IsLess r a.access a.deny → ⊥)
  unfolding downgrade_fault
  downgraded true can stands = rw (stands, can) ((λ said. absurd cc), (λ less. absurd (less (weakens_to r a.access a.deny can))))
  downgraded false can stands = rw (stands, can) ((λ said. λ less. true≢false (sym (to_weaken r a.access a.deny less) ∙ can)), (λ less. refl))

  pub downgrade_inval : checked s l current 21 a.seqid a.stateid ≡ Passed r w seqids → standing_fault r seqids a.stateid.seqid true ≡ None → ((carried n s l (downgrade_by s l current a (checked s l current 21 a.seqid a.stateid))).0 ≡ Ended Inval) ↔ (IsLess r a.access a.deny → ⊥)
  downgrade_inval passed stands =
      subst (λ (c : Checked). ((carried n s l (downgrade_by s l current a c)).0 ≡ Ended Inval) ↔ (IsLess r a.access a.deny → ⊥)) (sym passed) (downgraded (can_weaken r a.access a.deny) refl stands)
