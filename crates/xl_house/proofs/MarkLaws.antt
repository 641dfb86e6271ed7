-- What a name that is put among others leaves of these: each stays with its mark, but for its own that had another.
use Rattle.std.proofs.Common.{◌≡◌, ℕ, Bool, true, false, not, ◌&&◌, if◌then◌else◌, inl, inr, ◌⊎◌, List, [], ◌∷◌, Option, Some, None, refl, sym, ap, ap₂, subst, ◌∙◌}
use Rattle.std.specs.Prelude.{bytes_eq}
use Rattle.std.proofs.lemmas.Bool.{cases_Bool, both_ways, and_parts, and_from}
use Rattle.std.proofs.lemmas.Option.{same_Some}
use Rattle.std.proofs.lemmas.Slice.Eq.{bytes_eq-Decides}
use Rattle.xl_base.proofs.Searches.{any_found, any_from, none_passes}
use Rattle.xl_base.specs.Lists.{IsIn}
use Rattle.xl_base.specs.Stable.{Stable, same_protocol, same_name, same_mark, keeps, is_recorded, is_recordable, is_kept, put_name}
use Rattle.xl_base.specs.declared.name.Protocol.{Protocol}
use Rattle.xl_base.specs.declared.name.Protocol.TheVariants.{Nlm, Nfs, Smb}
use Rattle.xl_base.specs.declared.stable.Mark.{Mark}
use Rattle.xl_base.specs.declared.stable.Mark.TheVariants.{Verifier, State}
use Rattle.xl_base.specs.declared.stable.Recorded.{Recorded}
use Rattle.xl_matrix.specs.declared.claim.Claim.{Claim}
use Rattle.xl_matrix.specs.declared.claim.What.{What}
use Rattle.xl_names.specs.declared.name.Name.{Name}
use Rattle.xl_core.specs.Askers.{alone, asked_claims}
use Rattle.xl_core.specs.Judge.{to_record}
use Rattle.xl_core.specs.Standings.{marked}
use Rattle.xl_core.specs.Stores.{unrecorded}
use Rattle.xl_core.specs.declared.ask.Ask.{Ask}
use Rattle.xl_house.specs.Recording.{with_some}

-- ---- names

same_protocol-self : (p : Protocol) → same_protocol p p ≡ true
same_protocol-self Nlm = refl
same_protocol-self Nfs = refl
same_protocol-self Smb = refl

pub same_name-self : (name : Recorded) → same_name name name ≡ true
same_name-self name = and_from (same_protocol name.protocol name.protocol) (bytes_eq name.name name.name) (same_protocol-self name.protocol) ((bytes_eq-Decides name.name name.name).1 refl)

same_protocols : (a b : Protocol) → same_protocol a b ≡ true → a ≡ b
same_protocols Nlm Nlm e = refl
same_protocols Nlm Nfs e = absurd (both_ways false refl e)
same_protocols Nlm Smb e = absurd (both_ways false refl e)
same_protocols Nfs Nlm e = absurd (both_ways false refl e)
same_protocols Nfs Nfs e = refl
same_protocols Nfs Smb e = absurd (both_ways false refl e)
same_protocols Smb Nlm e = absurd (both_ways false refl e)
same_protocols Smb Nfs e = absurd (both_ways false refl e)
same_protocols Smb Smb e = refl

-- what has one name differs in its mark alone
pub like_marked : (a b : Recorded) (mark : Option Mark) → same_name a b ≡ true → marked a mark ≡ marked b mark
like_marked a b mark same =
    let parts = and_parts (same_protocol a.protocol b.protocol) (bytes_eq a.name b.name) same in
    ap₂ (λ (p : Protocol) (text : List ℕ). record { protocol = p; name = text; mark = mark }) (same_protocols a.protocol b.protocol parts.0) ((bytes_eq-Decides a.name b.name).0 parts.1)

pub like_in : (name held : Recorded) (names : List Recorded) → IsIn held names → same_name held name ≡ true → is_recorded name names ≡ true
like_in name held names there same = any_from (λ one. same_name one name) held names there same

pub recorded_of : (name : Recorded) (names : List Recorded) → is_recorded name names ≡ true → (held : Recorded) × IsIn held names × (same_name held name ≡ true)
recorded_of name names there = any_found (λ one. same_name one name) names there

-- ---- marks

same_mark-self : (mark : Mark) → same_mark mark mark ≡ true
same_mark-self (Verifier bytes) = (bytes_eq-Decides bytes bytes).1 refl
same_mark-self (State bytes) = (bytes_eq-Decides bytes bytes).1 refl

same_marks : (a b : Mark) → same_mark a b ≡ true → a ≡ b
same_marks (Verifier a) (Verifier b) e = ap Verifier ((bytes_eq-Decides a b).0 e)
same_marks (State a) (State b) e = ap State ((bytes_eq-Decides a b).0 e)
same_marks (Verifier a) (State b) e = absurd (both_ways false refl e)
same_marks (State a) (Verifier b) e = absurd (both_ways false refl e)

keeps-self : (mark : Option Mark) → keeps mark mark ≡ true
keeps-self None = refl
keeps-self (Some mark) = same_mark-self mark

keeps_none : (kept : Option Mark) → keeps kept None ≡ true
keeps_none None = refl
keeps_none (Some kept) = refl

-- a mark that the kept one isn't is none that the kept one leaves as it is either
pub keeps_apart : (kept its : Option Mark) (mark : Mark) → keeps kept its ≡ true → keeps kept (Some mark) ≡ false → keeps its (Some mark) ≡ false
keeps_apart None None mark has other = refl
keeps_apart (Some kept) None mark has other = refl
keeps_apart None (Some its) mark has other = absurd (both_ways false refl has)
keeps_apart (Some kept) (Some its) mark has other = subst (λ (m : Mark). same_mark m mark ≡ false) (same_marks kept its has) other

-- ---- kept names

pub kept_of : (name : Recorded) (names : List Recorded) → is_kept name names ≡ true → (held : Recorded) × IsIn held names × (same_name held name ≡ true) × (keeps held.mark name.mark ≡ true)
kept_of name names there =
    let found = any_found (λ one. same_name one name && keeps one.mark name.mark) names there in
    let parts = and_parts (same_name found.0 name) (keeps found.0.mark name.mark) found.2 in
    (found.0, found.1, parts.0, parts.1)

pub kept_in : (name held : Recorded) (names : List Recorded) → IsIn held names → same_name held name ≡ true → keeps held.mark name.mark ≡ true → is_kept name names ≡ true
kept_in name held names there same kept = any_from (λ one. same_name one name && keeps one.mark name.mark) held names there (and_from (same_name held name) (keeps held.mark name.mark) same kept)

pub kept_named : (name : Recorded) (names : List Recorded) → is_kept name names ≡ true → is_recorded name names ≡ true
kept_named name names there = let held = kept_of name names there in like_in name held.0 names held.1 held.2

-- ---- a name that is put among others

put_here : (name : Recorded) (names : List Recorded) → IsIn name (put_name name names)
put_here name [] = inl refl
put_here name (first ∷ names) =
    elim (cases_Bool (same_name first name)) [
      | inl here ↦ rw here (inl refl)
      | inr other ↦ rw other (inr (put_here name names))
    ]

pub kept_put : (name : Recorded) (names : List Recorded) → is_kept name (put_name name names) ≡ true
kept_put name names = kept_in name name (put_name name names) (put_here name names) (same_name-self name) (keeps-self name.mark)

-- one more stands before them
one_before : (name first : Recorded) (names : List Recorded) (B : Type 0) → IsIn name names ⊎ B → IsIn name (first ∷ names) ⊎ B
one_before name first names B (inl there) = inl (inr there)
one_before name first names B (inr other) = inr other

-- each that is there then was there, or is the one that was put
put_from : (name it : Recorded) (names : List Recorded) → IsIn name (put_name it names) → IsIn name names ⊎ (it ≡ name)
put_from name it [] (inl e) = inr e
put_from name it [] (inr never) = absurd never
put_from name it (first ∷ names) there =
    elim (cases_Bool (same_name first it)) [
      | inl here ↦ elim (rw here at there) [ inl e ↦ inr e | inr later ↦ inl (inr later) ]
      | inr other ↦ elim (rw other at there) [ inl e ↦ inl (inl e) | inr later ↦ one_before name first names (it ≡ name) (put_from name it names later) ]
    ]

-- each that was there stays, unless it has the name of the one that was put
put_stays : (held it : Recorded) (names : List Recorded) → IsIn held names → IsIn held (put_name it names) ⊎ (same_name held it ≡ true)
put_stays held it [] there = absurd there
put_stays held it (first ∷ names) (inl e) =
    elim (cases_Bool (same_name first it)) [
      | inl here ↦ inr (ap (λ (x : Recorded). same_name x it) (sym e) ∙ here)
      | inr other ↦ rw other (inl (inl e))
    ]
put_stays held it (first ∷ names) (inr later) =
    elim (cases_Bool (same_name first it)) [
      | inl here ↦ rw here (inl (inr later))
      | inr other ↦ rw other (one_before held first (put_name it names) (same_name held it ≡ true) (put_stays held it names later))
    ]

-- what is put over a name that is there has another mark
put_over : (held it : Recorded) (names : List Recorded) → IsIn held names → is_kept it names ≡ false → same_name held it ≡ true → (mark : Mark) × (keeps held.mark (Some mark) ≡ false) × (it ≡ marked held (Some mark))
put_over held it names there lacks same = by it.mark refl where
  apart : keeps held.mark it.mark ≡ false
  apart =
      sym (ap (λ (b : Bool). b && keeps held.mark it.mark) same) ∙ none_passes (λ one. same_name one it && keeps one.mark it.mark) held names lacks there

  by : (mark : Option Mark) → it.mark ≡ mark → (m : Mark) × (keeps held.mark (Some m) ≡ false) × (it ≡ marked held (Some m))
  by None e = absurd (both_ways (keeps held.mark it.mark) apart (ap (keeps held.mark) e ∙ keeps_none held.mark))
  by (Some mark) e = (mark, sym (ap (keeps held.mark) e) ∙ apart, sym (like_marked held it it.mark same) ∙ ap (marked held) e)

-- ---- the name that is to be recorded

-- one claim alone is asked for by one thing
pub one_what : (a : Ask) (names : List Name) (whats : List What) (c : Claim) → asked_claims a whats names ≡ c ∷ [] → (what : What) × (alone whats ≡ Some what)
one_what a names [] c e = absurd cc
one_what a names (what ∷ []) c e = (what, refl)
one_what a names (what ∷ more ∷ whats) c e = absurd cc

pub one_asked : (a : Ask) (names : List Name) (whats : List What) (what : What) (name : Option Recorded) → alone whats ≡ Some what → to_record name (asked_claims a whats names) ≡ name
one_asked a names [] what name e = absurd cc
one_asked a names (w ∷ []) what name e = refl
one_asked a names (w ∷ v ∷ whats) what name e = absurd cc

-- only what a client's name is stored for has it recorded, for one claim, where it isn't kept
pub wanted_is : (stores : Bool) (it name : Recorded) (stable : Stable) (cs : List Claim) → to_record (unrecorded stores it stable) cs ≡ Some name
    → (stores ≡ true) × (is_recordable name ≡ true) × (is_kept name stable.names ≡ false) × (it ≡ name) × ((c : Claim) × (cs ≡ c ∷ []))
wanted_is stores it name stable [] e = absurd cc
wanted_is stores it name stable (c ∷ d ∷ cs) e = absurd cc
wanted_is true it name stable (c ∷ []) e = by (is_recordable it) (is_kept it stable.names) refl refl e where
  by : (able has : Bool) → is_recordable it ≡ able → is_kept it stable.names ≡ has → (if able && not has then Some it else None) ≡ Some name
      → (true ≡ true) × (is_recordable name ≡ true) × (is_kept name stable.names ≡ false) × (it ≡ name) × ((d : Claim) × (c ∷ [] ≡ d ∷ []))
  by true false able lacks is =
      let same : it ≡ name = same_Some it name is in
      (refl, subst (λ (x : Recorded). is_recordable x ≡ true) same able, subst (λ (x : Recorded). is_kept x stable.names ≡ false) same lacks, same, (c, refl))
  by true true able kept is = absurd cc
  by false has able kept is = absurd cc
wanted_is false it name stable (c ∷ []) e = absurd cc

-- a name that is stored is kept then
pub kept_with : (it : Recorded) (stable : Stable) → is_recordable it ≡ true → is_kept it (with_some (unrecorded true it stable) stable).names ≡ true
kept_with it stable able = by (is_kept it stable.names) refl where
  by : (b : Bool) → is_kept it stable.names ≡ b → is_kept it (with_some (if is_recordable it && not b then Some it else None) stable).names ≡ true
  by true has = subst (λ (x : Bool). is_kept it (with_some (if x && not true then Some it else None) stable).names ≡ true) (sym able) has
  by false lacks = subst (λ (x : Bool). is_kept it (with_some (if x && not false then Some it else None) stable).names ≡ true) (sym able) (kept_put it stable.names)

-- each that is there once it is stored was there, or is that one
pub some_from : (name : Recorded) (o : Option Recorded) (stable : Stable) → IsIn name (with_some o stable).names → IsIn name stable.names ⊎ (o ≡ Some name)
some_from name None stable there = inl there
some_from name (Some it) stable there = elim (put_from name it stable.names there) [ inl old ↦ inl old | inr is ↦ inr (ap Some is) ]

-- each that was there stays, unless that one has its name and another mark
pub some_stays : (held : Recorded) (o : Option Recorded) (stable : Stable) → ((it : Recorded) → o ≡ Some it → is_kept it stable.names ≡ false) → IsIn held stable.names
    → IsIn held (with_some o stable).names ⊎ ((mark : Mark) × (keeps held.mark (Some mark) ≡ false) × (o ≡ Some (marked held (Some mark))))
some_stays held None stable lacks there = inl there
some_stays held (Some it) stable lacks there =
    elim (put_stays held it stable.names there) [
      | inl stays ↦ inl stays
      | inr same ↦ (let over = put_over held it stable.names there (lacks it refl) same in inr (over.0, over.1, ap Some over.2))
    ]
