-- The transcript of a journal.
use Rattle.std.specs.Prelude.{ℕ, ◌+◌, List, [], ◌∷◌, ◌++◌, map, codes}
use Rattle.std.specs.Fmt.{decimal}
use Rattle.xl_base.specs.Lists.{sorted}
use Rattle.xl_base.specs.declared.event.Dest.{Dest}
use Rattle.xl_base.specs.declared.event.Dest.TheVariants.{Conn, Back}
use Rattle.xl_base.specs.declared.event.Out.{Out}
use Rattle.xl_base.specs.declared.journal.Entry.{Entry}
use Rattle.xl_matrix.specs.declared.claim.Claim.{Claim}
use Rattle.xl_names.specs.declared.name.Name.{Name}
use Rattle.xl_names.specs.Texts.{hex_word}
use Rattle.xl_capture.specs.Rows.{row_of, row_before, row_line}
use Rattle.xl_capture.specs.declared.rows.Row.{Row}

-- where an out goes
unfoldable pub dest_words : Dest → List ℕ → List ℕ
dest_words (Conn number) to = codes " c" ++ decimal number
dest_words (Back call) to = codes " b" ++ decimal call ++ codes " " ++ hex_word to

-- the line of an out: the place of its entry, where it goes, and its bytes
unfoldable pub out_line : ℕ → Out → List ℕ
out_line place o = decimal place ++ dest_words o.dest o.to ++ codes " " ++ hex_word o.bytes ++ codes "\n"

-- the lines of outs, in their order
abbrev pub out_lines : ℕ → List Out → List ℕ
out_lines place [] = []
out_lines place (o ∷ os) = out_line place o ++ out_lines place os

-- the lines of entries, of which the first stands at this place
abbrev pub entry_lines : ℕ → List Entry → List ℕ
entry_lines place [] = []
entry_lines place (e ∷ es) = out_lines place e.outs ++ entry_lines (place + 1) es

-- the lines of rows, in their order
abbrev pub row_lines : List Row → List ℕ
row_lines [] = []
row_lines (r ∷ rs) = row_line r ++ row_lines rs

-- the lines of what is held, in their order
unfoldable pub claim_lines : List Claim → List Name → List ℕ
claim_lines claims names = row_lines (sorted row_before (map (row_of names) claims))

-- the transcript of a journal: its outs, and the claims that are held after it, with the names of their holders
abbrev pub transcript : List Entry → List Claim → List Name → List ℕ
transcript es claims names = entry_lines 0 es ++ claim_lines claims names
