-- The breaks that an ask begins, their effects and what is written, one by one.
use Rattle.std.specs.Prelude.{Bool, if◌then◌else◌, List, [], ◌∷◌, Option, Some}
use Rattle.xl_base.specs.Lists.{IsIn}
use Rattle.xl_base.specs.declared.event.Moment.{Moment}
use Rattle.xl_cache.specs.Targets.{needs_answer}
use Rattle.xl_matrix.specs.declared.claim.CacheKind.{CacheKind}
use Rattle.xl_matrix.specs.declared.claim.Claim.{Claim}
use Rattle.xl_matrix.specs.declared.claim.What.{What}
use Rattle.xl_matrix.specs.declared.claim.What.TheVariants.{Cache}
use Rattle.xl_names.specs.Texts.{party_text}
use Rattle.xl_names.specs.declared.name.Name.{Name}
use Rattle.xl_table.specs.Flat.{removed, changed}
use Rattle.xl_core.specs.Leases.{comes_before}
use Rattle.xl_core.specs.declared.breaks.Row.{Row}

-- ---- their effects

-- a break with the text by which it stands in order
abbrev pub row_of : List Name → Claim × Option CacheKind → Row
row_of names begun = record { text = party_text names begun.0.party; cache = begun.0; left = begun.1 }

abbrev pub begun_of : Row → Claim × Option CacheKind
begun_of row = (row.cache, row.left)

abbrev pub row_before : Row → Row → Bool
row_before a b = comes_before a.text b.text

-- ---- as they are written

-- the claims once the break of this cache begins: it is held with its break that runs, or gone if that needs no answer
abbrev pub begun_by : Moment → Claim → Option CacheKind → What → List Claim → List Claim
begun_by deadline cache left (Cache kind running) held =
    if needs_answer kind left then changed cache (Cache kind (Some (record { target = left; deadline = deadline }))) held else removed cache held
begun_by deadline cache left what held = removed cache held

unfoldable pub begun_in : Moment → Claim × Option CacheKind → List Claim → List Claim
begun_in deadline begun held = begun_by deadline begun.0 begun.1 begun.0.what held

-- once all of these begin, one after another
abbrev pub all_begun : Moment → List (Claim × Option CacheKind) → List Claim → List Claim
all_begun deadline [] held = held
all_begun deadline (b ∷ bs) held = all_begun deadline bs (begun_in deadline b held)

-- each cache is held as its break begins, behind those before it
abbrev pub AreHeldThen : Moment → List (Claim × Option CacheKind) → List Claim → Type 0
AreHeldThen deadline [] held = Unit {0}
AreHeldThen deadline (b ∷ bs) held = IsIn b.0 held × AreHeldThen deadline bs (begun_in deadline b held)
