-- An open stays under its lease where another comes.
use Rattle.std.proofs.Common.{◌≡◌, ℕ, Bool, true, false, List, [], ◌∷◌, Option, Some, None, if◌then◌else◌, eqb, refl, sym, ap, subst, ◌∙◌, inl, inr}
use Rattle.std.specs.Prelude.{nat_eq}
use Rattle.std.specs.List.{list_any}
use Rattle.std.specs.Map.{lookup, set_value}
use Rattle.std.proofs.lemmas.Bool.{cases_Bool}
use Rattle.xl_smb_state.proofs.RowLaws.{lookup_added, none_some, same_Some}
use Rattle.xl_smb_state.specs.State.{Lists, come_under, grown_row, joined, key_of, lease_begun, lease_joined, lease_of, open_added, same_lease}
use Rattle.xl_smb_state.specs.declared.row.Lease.{Lease}
use Rattle.xl_smb_state.specs.declared.row.LeaseKey.{LeaseKey}
use Rattle.xl_smb_state.specs.declared.row.Open.{Open}
use Rattle.xl_smb_laws.proofs.AwaitedRequestLaws.{any_left}
use Rattle.xl_smb_laws.proofs.LeaseKeyLaws.{leased_with}
use Rattle.xl_front_smb.specs.Laws.{IsLeased}
use Rattle.xl_house.proofs.OpensLaws.{StaysSo}

-- the lease of this key is on this file, and has the open among its own
abbrev Has : LeaseKey → ℕ → ℕ → List (LeaseKey × Lease) → Type 0
Has key number file es = (row : Lease) × (lookup (same_lease key) es ≡ Some row) × (row.file ≡ file) × (list_any (nat_eq number) row.opens ≡ true)

grown_has : (key k : LeaseKey) (number other file : ℕ) (es : List (LeaseKey × Lease)) (r : Lease) → lookup (same_lease k) es ≡ Some r → Has key number file es → Has key number file (set_value (same_lease k) es (grown_row other r))
grown_has key k number other file [] r at has = absurd (none_some at)
grown_has key k number other file (e ∷ es) r at has =
    elim (cases_Bool (same_lease key e.0)) [
      | inl own ↦ (
          let found : e.1 ≡ has.0 = same_Some (rw own at has.1) in
          elim (cases_Bool (same_lease k e.0)) [
            | inl same ↦ (
                let one : r ≡ has.0 = sym (same_Some (rw same at at)) ∙ found in
                rw (same, own) (grown_row other r, refl, ap (λ (x : Lease). x.file) one ∙ has.2, any_left (nat_eq number) r.opens (other ∷ []) (ap (λ (x : Lease). list_any (nat_eq number) x.opens) one ∙ has.3)))
            | inr apart ↦ rw (apart, own) (e.1, refl, ap (λ (x : Lease). x.file) found ∙ has.2, ap (λ (x : Lease). list_any (nat_eq number) x.opens) found ∙ has.3)
          ])
      | inr not_it ↦ (
          let there : Has key number file es = (has.0, rw not_it at has.1, has.2, has.3) in
          elim (cases_Bool (same_lease k e.0)) [
            | inl same ↦ rw (same, not_it) there
            | inr apart ↦ (let later = grown_has key k number other file es r (rw apart at at) there in rw (apart, not_it) later)
          ])
    ]

begun_has : (key k : LeaseKey) (number other file new : ℕ) (o : Option Lease) (s : Lists) → lease_of k s ≡ o → Has key number file s.leases → Has key number file (lease_begun other new k o s).leases
begun_has key k number other file new None s at has = (has.0, lookup_added (same_lease key) s.leases ((k, record { file = new; opens = other ∷ [] }) ∷ []) has.0 has.1, has.2, has.3)
begun_has key k number other file new (Some row) s at has = by (eqb row.file new)
  where
    grown : Has key number file (joined other (lease_of k s) k s.leases)
    grown = subst (λ (o : Option Lease). Has key number file (joined other o k s.leases)) (sym at) (grown_has key k number other file s.leases row at has)

    by : (b : Bool) → Has key number file (if b then lease_joined k other s else s).leases
    by true = grown
    by false = has

came_has : (key : LeaseKey) (number other file new : ℕ) (o : Option LeaseKey) (s : Lists) → Has key number file s.leases → Has key number file (come_under other new o s).leases
came_has key number other file new None s has = has
came_has key number other file new (Some k) s has = begun_has key k number other file new (lease_of k s) s refl has

pub leased_stays : (number : ℕ) (made : Open) → StaysSo (λ (l : Lists). IsLeased l number made)
leased_stays number made = record {
  comes = λ other row l leased key is. came_has key number other made.file row.file (key_of (Some row)) (open_added other row l) (leased key is);
  same = λ l m opens leases leased. leased_with l m number made leases leased;
}
