-- A client that is found is there by its own number.
use Rattle.std.proofs.Common.{◌≡◌, ℕ, Bool, true, List, [], ◌∷◌, Option, Some, None, is_some, refl, sym, ap, subst, true≢false, inl, inr}
use Rattle.std.proofs.lemmas.Bool.{cases_Bool, and_parts, eq-eqb}
use Rattle.std.proofs.lemmas.Option.{same_Some}
use Rattle.std.specs.Bool.{beq}
use Rattle.std.specs.Cmp.{booleans_Decides}
use Rattle.std.specs.List.{find}
use Rattle.std.specs.Option.{option_and_then}
use Rattle.std.specs.Prelude.{IsSome, ◌&&◌, ◌==◌}
use Rattle.xl_nfs.specs.Opens.{OpenArgsItem}
use Rattle.xl_core.specs.State.{CoreState}
use Rattle.xl_nfs_state.specs.State.{NfsLists, is_client}
use Rattle.xl_nfs_state.specs.declared.client.ClientRow.{ClientRow}
use Rattle.xl_core.specs.Ids.{number_in}
use Rattle.xl_nfs_opens.specs.Opens.{client_in, opener_of}
use Rattle.xl_nfs_opens.specs.declared.opener.Opener.{Opener}

pub is_itself : (x : ClientRow) (b : Bool) → x.confirmed ≡ b → is_client x.number b x ≡ true
is_itself x b e = subst (λ (k : Bool). (x.number == x.number && beq k x.confirmed) ≡ true) e (rw (eq-eqb x.number x.number refl) ((booleans_Decides x.confirmed x.confirmed).1 refl))

-- a client that is found is there by its own number
pub number_there : (number : ℕ) (xs : List ClientRow) (r : ClientRow) → find (is_client number true) xs ≡ Some r → IsSome (find (is_client r.number true) xs)
number_there number [] r found = absurd (true≢false (ap is_some (sym found)))
number_there number (x ∷ xs) r found =
    elim (cases_Bool (is_client number true x)) [
      | inl e ↦
          let same : x ≡ r = same_Some x r (rw e at found) in
          let kind : x.confirmed ≡ true = sym ((booleans_Decides true x.confirmed).0 (and_parts (number == x.number) (beq true x.confirmed) e).1) in
          subst (λ (y : ClientRow). IsSome (find (is_client y.number true) (x ∷ xs))) same (rw (is_itself x true kind) refl)
      | inr e ↦ elim (cases_Bool (is_client r.number true x)) [
        | inl d ↦ rw d refl
        | inr d ↦ rw d (number_there number xs r (rw e at found))
      ]
    ]

pub opener_there : (s : CoreState) (l : NfsLists) (a : OpenArgsItem) (c : ClientRow) (o : Opener) → Some c ≡ client_in s l a.owner.clientid → o ≡ opener_of c a → IsSome (find (is_client o.client true) l.clients)
opener_there s l a c o found is = subst (λ (x : Opener). IsSome (find (is_client x.client true) l.clients)) (sym is) (by (number_in s a.owner.clientid) (sym found))
  where
    by : (n : Option ℕ) → option_and_then (λ m. find (is_client m true) l.clients) n ≡ Some c → IsSome (find (is_client c.number true) l.clients)
    by None e = absurd (true≢false (ap is_some (sym e)))
    by (Some m) e = number_there m l.clients c e
