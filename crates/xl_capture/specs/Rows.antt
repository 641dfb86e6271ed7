-- Claims as the transcript shows them.
use Rattle.std.specs.Prelude.{ℕ, ◌||◌, Bool, true, false, if◌then◌else◌, List, [], ◌∷◌, ◌++◌, codes, Option, Some, None}
use Rattle.std.specs.Fmt.{decimal}
use Rattle.std.specs.Ordering.{nat_cmp, is_lt, ordering_then}
use Rattle.std.specs.Cmp.Lexicographic.{slice_cmp}
use Rattle.std.specs.declared.cmp.Ordering.{Ordering}
use Rattle.xl_base.specs.declared.name.Owner.{Owner}
use Rattle.xl_base.specs.declared.name.Party.{Party}
use Rattle.xl_matrix.specs.declared.claim.Break.{Break}
use Rattle.xl_matrix.specs.declared.claim.CacheKind.{CacheKind}
use Rattle.xl_matrix.specs.declared.claim.CacheKind.TheVariants.{R, RH, RW, RWH, ReadDeleg, WriteDeleg}
use Rattle.xl_matrix.specs.declared.claim.Claim.{Claim}
use Rattle.xl_matrix.specs.declared.claim.Extent.{Extent}
use Rattle.xl_matrix.specs.declared.claim.Extent.TheVariants.{Bytes, Empty}
use Rattle.xl_matrix.specs.declared.claim.Rwd.{Rwd}
use Rattle.xl_matrix.specs.declared.claim.What.{What}
use Rattle.xl_matrix.specs.declared.claim.What.TheVariants.{Share, Range, Cache}
use Rattle.xl_names.specs.declared.name.Name.{Name}
use Rattle.xl_names.specs.Texts.{owner_text, party_text}
use Rattle.xl_capture.specs.declared.rows.Row.{Row}

-- the text of who holds a claim: the owner of a share or a range, the party of a cache
abbrev pub holder_text : List Name → Owner → Party → What → List ℕ
holder_text names owner party (Share access deny) = owner_text names owner
holder_text names owner party (Range extent exclusive) = owner_text names owner
holder_text names owner party (Cache kind running) = party_text names party

-- a claim as a row: its file, its holder's text, and what is claimed
abbrev pub row_of : List Name → Claim → Row
row_of names c = record { file = c.file; holder = holder_text names c.owner c.party c.what; what = c.what }

-- ---- the order of rows

-- shares stand before ranges, and these before caches
abbrev pub class_of : What → ℕ
class_of (Share access deny) = 0
class_of (Range extent exclusive) = 1
class_of (Cache kind running) = 2

-- what parts two ranges of one holder: the first byte, none before some, the last byte, exclusive before shared
abbrev pub range_key : What → List ℕ
range_key (Range (Bytes first last) exclusive) = first ∷ 1 ∷ last ∷ (if exclusive then 0 else 1) ∷ []
range_key (Range (Empty offset) exclusive) = offset ∷ 0 ∷ 0 ∷ (if exclusive then 0 else 1) ∷ []
range_key _ = 0 ∷ 0 ∷ 0 ∷ 0 ∷ []

abbrev pub by_file : Row → Row → Ordering
by_file a b = nat_cmp a.file b.file

abbrev pub by_class : Row → Row → Ordering
by_class a b = nat_cmp (class_of a.what) (class_of b.what)

abbrev pub by_holder : Row → Row → Ordering
by_holder a b = slice_cmp nat_cmp a.holder b.holder

abbrev pub by_range : Row → Row → Ordering
by_range a b = slice_cmp nat_cmp (range_key a.what) (range_key b.what)

-- how a row stands to another: by the file, the class, the holder's text, and the bytes (TEXT-1)
unfoldable pub row_cmp : Row → Row → Ordering
row_cmp a b = ordering_then (by_file a b) (ordering_then (by_class a b) (ordering_then (by_holder a b) (by_range a b)))

-- the first row stands before the second
abbrev pub row_before : Row → Row → Bool
row_before a b = is_lt (row_cmp a b)

-- ---- the line of a row

-- the word of each class
abbrev pub class_word : What → List ℕ
class_word (Share access deny) = codes "share"
class_word (Range extent exclusive) = codes "range"
class_word (Cache kind running) = codes "cache"

-- a letter if its right is there
abbrev pub letter_if : Bool → List ℕ → List ℕ
letter_if true letter = letter
letter_if false letter = []

-- the letters of an access or of what is denied, a dash if there is none
abbrev pub letters : Rwd → List ℕ
letters a = if a.r || a.w || a.d then letter_if a.r (codes "r") ++ letter_if a.w (codes "w") ++ letter_if a.d (codes "d") else codes "-"

-- the first and the last byte; of a range without a byte its offset and a dash (TEXT-1)
abbrev pub extent_words : Extent → List ℕ
extent_words (Bytes first last) = decimal first ++ codes " " ++ decimal last
extent_words (Empty offset) = decimal offset ++ codes " -"

-- exclusive or shared
abbrev pub mode_word : Bool → List ℕ
mode_word true = codes " x"
mode_word false = codes " s"

-- the kind of a cache
abbrev pub kind_word : CacheKind → List ℕ
kind_word R = codes "R"
kind_word RH = codes "RH"
kind_word RW = codes "RW"
kind_word RWH = codes "RWH"
kind_word ReadDeleg = codes "ReadDeleg"
kind_word WriteDeleg = codes "WriteDeleg"

-- what a break is to leave of it
abbrev pub target_word : Option CacheKind → List ℕ
target_word None = codes "none"
target_word (Some kind) = kind_word kind

-- while a break runs, what the cache is to become, and when the answer is due
abbrev pub break_words : Option Break → List ℕ
break_words None = []
break_words (Some b) = codes " > " ++ target_word b.target ++ codes " " ++ decimal b.deadline.0

-- what is claimed, in words
unfoldable pub what_words : What → List ℕ
what_words (Share access deny) = letters access ++ codes " " ++ letters deny
what_words (Range extent exclusive) = extent_words extent ++ mode_word exclusive
what_words (Cache kind running) = kind_word kind ++ break_words running

-- the line of a claim
unfoldable pub row_line : Row → List ℕ
row_line r = decimal r.file ++ codes " " ++ class_word r.what ++ codes " " ++ r.holder ++ codes " " ++ what_words r.what ++ codes "\n"
