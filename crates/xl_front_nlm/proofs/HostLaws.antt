-- Hosts are few, each once.
use Rattle.std.proofs.Common.{◌≡◌, ℕ, ◌<◌, true, false, List, [], ◌∷◌, ◌++◌, length, refl, sym, subst, ◌∙◌, inl, inr, arith}
use Rattle.std.specs.Prelude.{bytes_eq}
use Rattle.std.specs.Cmp.Lexicographic.{bytes_decides}
use Rattle.std.proofs.lemmas.Bool.{cases_Bool, or_parts, false_from_ne_true, true≢false}
use Rattle.std.proofs.lemmas.List.{length-append}
use Rattle.xl_base.proofs.Members.{all_append}
use Rattle.xl_base.specs.Lists.{Pairwise}
use Rattle.xl_core.specs.Limits.{most_hosts}
use Rattle.xl_front_nlm.specs.Hosts.{is_host, host_entered, are_apart, AreHosts}

apart : (h caller : List ℕ) → bytes_eq caller h ≡ false → are_apart h caller ≡ true
apart h caller new =
    let other : bytes_eq h caller ≡ false = false_from_ne_true (bytes_eq h caller) (λ e. true≢false (sym ((bytes_decides caller h).1 (sym ((bytes_decides h caller).0 e))) ∙ new)) in
    rw other refl

apart_push : (hosts : List (List ℕ)) (caller : List ℕ) → is_host caller hosts ≡ false → Pairwise are_apart hosts → Pairwise are_apart (hosts ++ caller ∷ [])
apart_push [] caller new all = (tt, tt)
apart_push (h ∷ hs) caller new all =
    let parts = or_parts (bytes_eq caller h) (is_host caller hs) new in
    (all_append (λ x. are_apart h x ≡ true) hs (caller ∷ []) all.0 (apart h caller parts.0, tt), apart_push hs caller parts.1 all.1)

entered : (hosts : List (List ℕ)) (caller : List ℕ) → AreHosts hosts → (is_host caller hosts ≡ false → length hosts < most_hosts) → AreHosts (host_entered caller hosts)
entered hosts caller sound room =
    elim (cases_Bool (is_host caller hosts)) [
      | inl e ↦ rw e sound
      | inr e ↦ rw e (omega (arith, length-append hosts (caller ∷ []), room e), apart_push hosts caller e sound.1)
    ]

-- the hosts with one more
pub sound_entered : (new hosts : List (List ℕ)) (caller : List ℕ) → new ≡ host_entered caller hosts → AreHosts hosts → (is_host caller hosts ≡ false → length hosts < most_hosts) → AreHosts new
sound_entered new hosts caller e sound room = subst AreHosts (sym e) (entered hosts caller sound room)
