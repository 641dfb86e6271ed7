-- The callers that are looked up are those of the list.
use Rattle.std.proofs.Common.{◌≡◌, ℕ, List, [], ◌∷◌, ◌++◌, length, take, sym, ap, ◌∙◌}
use Rattle.std.proofs.Math.Seq.{take-append_seam}
use Rattle.std.proofs.lemmas.List.{map-append, length-map}
use Rattle.xl_capture.specs.Addresses.{callers_of}

pub callers_pushed : (list new : List (List ℕ × List ℕ)) (caller address : List ℕ) (keys : List (List ℕ)) → keys ≡ callers_of list ++ caller ∷ [] → new ≡ list ++ (caller, address) ∷ [] → keys ≡ callers_of new
callers_pushed list new caller address keys e is = e ∙ sym (map-append (λ (held : List ℕ × List ℕ). held.0) list ((caller, address) ∷ [])) ∙ ap callers_of (sym is)

-- what stands before one that was entered
pub callers_kept : (list new : List (List ℕ × List ℕ)) (caller : List ℕ) (keys after : List (List ℕ)) → keys ≡ callers_of list ++ caller ∷ [] → new ≡ list → after ≡ take (length list) keys → after ≡ callers_of new
callers_kept list new caller keys after e is taken =
    taken ∙ ap (λ n. take n keys) (sym (length-map list (λ (held : List ℕ × List ℕ). held.0))) ∙ ap (take (length (callers_of list))) e ∙ take-append_seam (callers_of list) (caller ∷ []) ∙ ap callers_of (sym is)
