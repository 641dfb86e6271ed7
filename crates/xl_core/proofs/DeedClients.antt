-- Whose client has what.
use Rattle.std.proofs.Common.{◌≡◌, ℕ, true, List, Option, Some, sym, ap, ◌∙◌, option_map, slice_get}
use Rattle.std.proofs.lemmas.Option.{same_Some}
use Rattle.xl_base.specs.declared.name.Owner.TheVariants as owners
use Rattle.xl_base.specs.declared.name.Party.{Party}
use Rattle.xl_base.specs.declared.name.Party.TheVariants as parties
use Rattle.xl_base.specs.declared.name.Protocol.{Protocol}
use Rattle.xl_names.proofs.NameLaws.{number_at, name_at}
use Rattle.xl_names.specs.Names.{protocol_of, number_of, AreDistinct}
use Rattle.xl_names.specs.declared.name.Name.{Name}
use Rattle.xl_core.specs.Askers.{client_of, party_named}
use Rattle.xl_core.specs.Good.{are_kept}
use Rattle.xl_core.proofs.KnownLaws.{kept_named}

number_same : (x y : Protocol) (n m : ℕ) → owners.Name x n ≡ owners.Name y m → n ≡ m
number_same x y n m e = cc

-- the party of what an owner of this name has is its client's
pub party_of_owner : (names : List Name) (name client : Name) (number : ℕ) (party : Party) → AreDistinct names → number_of name names ≡ Some number → client_of name ≡ Some client → are_kept names (owners.Name (protocol_of name) number) party ≡ true → party_named names client ≡ Some party
party_of_owner names name client number party distinct known is kept =
    let a = kept_named names (protocol_of name) number party kept in
    let at : number ≡ a.number = number_same (protocol_of name) (protocol_of a.name) number a.number a.owner_is in
    let same : name ≡ a.name = same_Some name a.name (sym (name_at names name number known) ∙ ap (λ (i : ℕ). slice_get names i) at ∙ a.owner_at) in
    let one : client ≡ a.client = same_Some client a.client (sym is ∙ ap client_of same ∙ a.client_is) in
    ap (λ (c : Name). party_named names c) one
    ∙ ap (λ (o : Option ℕ). option_map (λ i. parties.Name (protocol_of a.client) i) o) (number_at names a.client a.at distinct a.party_at)
    ∙ ap Some (sym a.party_is)
