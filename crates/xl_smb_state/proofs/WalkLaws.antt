-- Taking out rows one after the other.
use Rattle.std.proofs.Common.{◌≡◌, ℕ, ◌≤◌, Bool, true, false, eqb, cond, List, [], ◌∷◌, Option, Some, None, refl, sym, ap, subst, ◌∙◌, inl, inr, arith}
use Rattle.std.specs.Prelude.{nat_eq, nat_lt}
use Rattle.std.specs.List.{AllByRecursion, IsDistinct, list_any, filter}
use Rattle.std.specs.Option.{IfSome}
use Rattle.std.specs.Map.{keys_of, remove_entry}
use Rattle.std.proofs.lemmas.Bool.{cases_Bool, true≢false}
use Rattle.std.proofs.lemmas.Bool.Decides.{nat_tests}
use Rattle.std.proofs.lemmas.Map.Keys.{IsDistinct-head, IsDistinct-tail}
use Rattle.std.proofs.lemmas.List.MinMax.{IsStrictWeakOrder-by_number}
use Rattle.xl_base.proofs.LeastLaws.{least_first, least_in}
use Rattle.xl_base.proofs.Members.{all_in}
use Rattle.xl_base.specs.Lists.{IsIn}
use Rattle.xl_smb_state.specs.declared.row.Session.{Session}
use Rattle.xl_smb_state.specs.declared.row.Tree.{Tree}
use Rattle.xl_smb_state.specs.declared.row.Holder.{Holder}
use Rattle.xl_smb_state.specs.declared.row.Holder.TheVariants.{Nobody}
use Rattle.xl_smb_state.specs.declared.row.Holder.TheVariants as holder
use Rattle.xl_smb_state.specs.declared.row.Open.{Open}
use Rattle.xl_smb_state.specs.declared.row.Waiting.{Waiting}
use Rattle.xl_smb_state.specs.declared.row.Scope.{Scope}
use Rattle.xl_smb_state.specs.declared.row.Scope.TheVariants as scope
use Rattle.xl_smb_state.specs.State.{Lists, keys_where, sessions_on, session_dropped, tree_of, trees_of, tree_dropped, covers, covers_holder, opens_under, closed, waiting_under, waiting_dropped, lowest}
use Rattle.xl_smb_state.specs.Links.{IsHolderLinked, IsOpenLinked, IsSound, AreDistinct}
use Rattle.xl_smb_state.proofs.RowLaws.{equal_from, all_both, none_where, same_Some, equal_self}

cons_head : {n m : ℕ} {ns ms : List ℕ} → n ∷ ns ≡ m ∷ ms → n ≡ m
cons_head h = cc

cons_tail : {n m : ℕ} {ns ms : List ℕ} → n ∷ ns ≡ m ∷ ms → ns ≡ ms
cons_tail h = cc

no_cons : {n : ℕ} {ns : List ℕ} → [] ≡ n ∷ ns → ⊥
no_cons h = cc

apart_any : (k : ℕ) (ks : List ℕ) → AllByRecursion (λ y. eqb k y ≡ false) ks → list_any (nat_eq k) ks ≡ false
apart_any k [] all = refl
apart_any k (j ∷ ks) all = rw all.0 (apart_any k ks all.1)

module _ {X : Type 0} where
  -- the key of a row that passes is a key
  passing : (test : X → Bool) (es : List (ℕ × X)) (n : ℕ) (ns : List ℕ) → keys_where test es ≡ n ∷ ns → list_any (nat_eq n) (keys_of es) ≡ true
  passing test [] n ns h = absurd (no_cons h)
  passing test (e ∷ es) n ns h =
      elim (cases_Bool (test e.1)) [
        | inl k ↦ let same : eqb n e.0 ≡ true = subst (λ j. eqb j e.0 ≡ true) (cons_head (rw k at h)) (equal_self e.0) in rw same refl
        | inr k ↦ elim (cases_Bool (eqb n e.0)) [ inl same ↦ rw same refl | inr apart ↦ rw apart (passing test es n ns (rw k at h)) ]
      ]

  -- once the first row that passes is taken out the others that pass are left
  walk : (test : X → Bool) (es : List (ℕ × X)) (n : ℕ) (ns : List ℕ) → IsDistinct nat_eq (keys_of es) → keys_where test es ≡ n ∷ ns → keys_where test (remove_entry (nat_eq n) es) ≡ ns
  walk test [] n ns distinct h = absurd (no_cons h)
  walk test (e ∷ es) n ns distinct h =
      elim (cases_Bool (test e.1)) [
        | inl k ↦
            let same : eqb n e.0 ≡ true = subst (λ j. eqb j e.0 ≡ true) (cons_head (rw k at h)) (equal_self e.0) in
            ap (λ b. keys_where test (cond b es (e ∷ remove_entry (nat_eq n) es))) same ∙ cons_tail (rw k at h)
        | inr k ↦ elim (cases_Bool (eqb n e.0)) [
          | inl same ↦
              let there = passing test es n ns (rw k at h) in
              absurd (true≢false (sym (subst (λ j. list_any (nat_eq j) (keys_of es) ≡ true) (sym (equal_from n e.0 same)) there) ∙ apart_any e.0 (keys_of es) (IsDistinct-head nat_eq e.0 (keys_of es) distinct)))
          | inr apart ↦
              ap (λ b. keys_where test (cond b es (e ∷ remove_entry (nat_eq n) es))) apart
              ∙ ap (λ b. keys_of (cond b (e ∷ filter (λ f. test f.1) (remove_entry (nat_eq n) es)) (filter (λ f. test f.1) (remove_entry (nat_eq n) es)))) k
              ∙ walk test es n ns (IsDistinct-tail nat_eq e.0 (keys_of es) distinct) (rw k at h)
        ]
      ]

  where_none : (test : X → Bool) (es : List (ℕ × X)) → AllByRecursion (λ e. test e.1 ≡ false) es → keys_where test es ≡ []
  where_none test [] all = refl
  where_none test (e ∷ es) all = rw all.0 (where_none test es all.1)

pub opens_walk : (under : Scope) (s : Lists) (n : ℕ) (ns : List ℕ) → AreDistinct s → opens_under under s ≡ n ∷ ns → opens_under under (closed n s) ≡ ns
opens_walk under s n ns ok h = walk (λ (r : Open). covers_holder under r.holder) s.opens n ns ok.opens h

pub sessions_walk : (connection : ℕ) (s : Lists) (n : ℕ) (ns : List ℕ) → AreDistinct s → sessions_on connection s ≡ n ∷ ns → sessions_on connection (session_dropped n s) ≡ ns
sessions_walk connection s n ns ok h = walk (λ (r : Session). eqb r.connection connection) s.sessions n ns ok.sessions h

pub trees_walk : (session : ℕ) (s : Lists) (n : ℕ) (ns : List ℕ) → AreDistinct s → trees_of session s ≡ n ∷ ns → trees_of session (tree_dropped n s) ≡ ns
trees_walk session s n ns ok h = walk (λ (r : Tree). eqb r.session session) s.trees n ns ok.trees h

pub waiting_walk : (under : Scope) (s : Lists) (n : ℕ) (ns : List ℕ) → AreDistinct s → waiting_under under s ≡ n ∷ ns → waiting_under under (waiting_dropped n s) ≡ ns
waiting_walk under s n ns ok h = walk (λ (r : Waiting). covers under r.place) s.waiting n ns ok.waiting h

-- ---- the opens of a tree connect are those of its session and connection

tree_free : (s : Lists) (number : ℕ) (row : Tree) (client : List ℕ) (by : Holder) (under : Scope) → ((t : ℕ) → covers under (record { connection = row.connection; session = row.session; tree = t }) ≡ true) → tree_of number s ≡ Some row → covers_holder under by ≡ false → IsHolderLinked s client by → covers_holder (scope.Tree number) by ≡ false
tree_free s number row client (Nobody until) under all at free link = refl
tree_free s number row client (holder.Tree place) under all at free link =
    elim (cases_Bool (eqb place.tree number)) [
      | inl same ↦
          let one : record { connection = place.connection; session = place.session } ≡ row = same_Some (sym link.0 ∙ ap (λ n. tree_of n s) (sym (equal_from place.tree number same)) ∙ at) in
          absurd (true≢false (sym (subst (λ (r : Tree). covers under (record { connection = r.connection; session = r.session; tree = place.tree }) ≡ true) (sym one) (all place.tree)) ∙ free))
      | inr apart ↦ apart
    ]

trees_free : (s : Lists) (number : ℕ) (row : Tree) (under : Scope) → ((t : ℕ) → covers under (record { connection = row.connection; session = row.session; tree = t }) ≡ true) → IsSound s → tree_of number s ≡ Some row → opens_under under s ≡ [] → opens_under (scope.Tree number) s ≡ []
trees_free s number row under all ok at free =
    where_none (λ (r : Open). covers_holder (scope.Tree number) r.holder) s.opens
    (all_both (λ e. covers_holder under e.1.holder ≡ false) (λ e. IsOpenLinked s e.1) (λ e. covers_holder (scope.Tree number) e.1.holder ≡ false) s.opens
    (λ e h k. tree_free s number row e.1.client e.1.holder under all at h k)
    (none_where (λ (r : Open). covers_holder under r.holder) s.opens free) ok.opens)

pub free_by_session : (s : Lists) (number : ℕ) (row : Tree) → IsSound s → tree_of number s ≡ Some row → opens_under (scope.Session row.session) s ≡ [] → opens_under (scope.Tree number) s ≡ []
free_by_session s number row ok at free = trees_free s number row (scope.Session row.session) (λ t. equal_self row.session) ok at free

pub free_by_connection : (s : Lists) (number : ℕ) (row : Tree) → IsSound s → tree_of number s ≡ Some row → opens_under (scope.Connection row.connection) s ≡ [] → opens_under (scope.Tree number) s ≡ []
free_by_connection s number row ok at free = trees_free s number row (scope.Connection row.connection) (λ t. equal_self row.connection) ok at free

-- ---- the lowest

lowest_is : (found : Option ℕ) (ns : List ℕ) → lowest ns ≡ found → IfSome found (λ m. IsIn m ns)
lowest_is None ns e = tt
lowest_is (Some m) ns e = least_in nat_lt ns m e

pub lowest_in : (ns : List ℕ) → IfSome (lowest ns) (λ m. IsIn m ns)
lowest_in ns = lowest_is (lowest ns) ns refl

not_lower : (m n : ℕ) → nat_lt n m ≡ false → m ≤ n
not_lower m n h = grind (arith, nat_tests, h)

none_lower : (found : Option ℕ) (ns : List ℕ) → lowest ns ≡ found → IfSome found (λ m. (n : ℕ) → IsIn n ns → m ≤ n)
none_lower None ns e = tt
none_lower (Some m) ns e = λ n here. not_lower m n (all_in (λ (k : ℕ). nat_lt k m ≡ false) n ns (least_first nat_lt (IsStrictWeakOrder-by_number (λ (k : ℕ). k)) ns m e) here)

pub lowest_least : (ns : List ℕ) → IfSome (lowest ns) (λ m. (n : ℕ) → IsIn n ns → m ≤ n)
lowest_least ns = none_lower (lowest ns) ns refl
