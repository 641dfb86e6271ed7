-- What stands against a reclaim, as the code finds it on the claims of the file.
use Rattle.std.proofs.Common.{◌≡◌, Bool, false, not, ◌&&◌, ◌==◌, List, [], refl, ap, ◌∙◌}
use Rattle.std.specs.List.{filter, list_any}
use Rattle.std.proofs.lemmas.Bool.{and_right}
use Rattle.xl_cache.specs.Wishing.{is_its_cache}
use Rattle.xl_matrix.specs.declared.claim.CacheKind.{CacheKind}
use Rattle.xl_matrix.specs.declared.claim.Claim.{Claim}
use Rattle.xl_table.specs.Flat.{blocks}
use Rattle.xl_table.specs.Held.{is_cache}
use Rattle.xl_table.proofs.SectionLaws.{filter_within, any_within, blocks_there}
use Rattle.xl_core.specs.Judge.{cache_beside, blocks_beside}
use Rattle.xl_core.specs.Wishes.{wish_of}

-- the party's own cache stands on the claim's file
own_there : (c d : Claim) → (d.file == c.file) ≡ false → is_its_cache (wish_of [] c) d ≡ false
own_there c d other = rw other (and_right (is_cache d.what) false refl)

pub own_among : (c : Claim) (held here : List Claim) (found : Bool) → here ≡ filter (λ d. d.file == c.file) held → found ≡ list_any (λ d. is_its_cache (wish_of [] c) d) here → found ≡ list_any (λ d. is_its_cache (wish_of [] c) d) held
own_among c held here found is e = e ∙ ap (λ (cs : List Claim). list_any (λ d. is_its_cache (wish_of [] c) d) cs) is ∙ any_within (λ d. is_its_cache (wish_of [] c) d) (λ d. d.file == c.file) held (own_there c)

-- and so does all that blocks a cache there
beside_there : (kind : CacheKind) (c d : Claim) → (d.file == c.file) ≡ false → blocks_beside kind c d ≡ false
beside_there kind c d other = rw (blocks_there (cache_beside kind c) d other) (and_right (not (is_its_cache (wish_of [] c) d)) false refl)

pub beside_among : (kind : CacheKind) (c cache : Claim) (held here out : List Claim) → cache ≡ cache_beside kind c → here ≡ filter (λ d. d.file == c.file) held → out ≡ filter (λ d. not (is_its_cache (wish_of [] c) d) && blocks cache d) here → out ≡ filter (λ d. blocks_beside kind c d) held
beside_among kind c cache held here out at is e =
    e ∙ ap (λ (x : Claim). filter (λ d. not (is_its_cache (wish_of [] c) d) && blocks x d) here) at ∙ ap (λ (cs : List Claim). filter (λ d. blocks_beside kind c d) cs) is
    ∙ filter_within (λ d. blocks_beside kind c d) (λ d. d.file == c.file) held (beside_there kind c)
