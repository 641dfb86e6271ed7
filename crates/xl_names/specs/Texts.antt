-- The texts of owners and parties, as transcripts and the order of blockers have them.
use Rattle.std.specs.Prelude.{ℕ, ◌<◌, ◌^◌, List, [], ◌∷◌, ◌++◌, slice_get, Option, Some, None, codes}
use Rattle.std.specs.Fmt.{decimal, signed_decimal}
use Rattle.std.specs.Int.Signed.{mag}
use Rattle.hex.specs.Hex.{IsBytes, encode_lower}
use Rattle.xl_base.specs.declared.name.Owner.{Owner}
use Rattle.xl_base.specs.declared.name.Owner.TheVariants as owner
use Rattle.xl_base.specs.declared.name.Party.{Party}
use Rattle.xl_base.specs.declared.name.Party.TheVariants as party
use Rattle.xl_names.specs.declared.name.Name.{Name}
use Rattle.xl_names.specs.declared.name.Name.TheVariants.{NlmRange, NlmShare, NlmParty, NfsRange, NfsShare, NfsParty, SmbLease}

-- bytes as a word of lower case hex; a dash stands for none (NAME-2)
abbrev pub hex_word : List ℕ → List ℕ
hex_word [] = codes "-"
hex_word (b ∷ bs) = encode_lower (b ∷ bs)

-- a tag with one or two words
abbrev pub tagged : List ℕ → List ℕ → List ℕ
tagged tag one = tag ++ hex_word one

abbrev pub tagged_two : List ℕ → List ℕ → List ℕ → List ℕ
tagged_two tag one two = tag ++ hex_word one ++ codes "/" ++ hex_word two

-- the text of a name: nlm:CALLER/SVID/OH, nlm:CALLER/OH, nlm:CALLER, nfs:CLIENT/OWNER, nfs:CLIENT, smb:GUID/KEY (NAME-2)
unfoldable pub name_text : Name → List ℕ
name_text (NlmRange caller svid oh) = codes "nlm:" ++ hex_word caller ++ codes "/" ++ signed_decimal svid ++ codes "/" ++ hex_word oh
name_text (NlmShare caller oh) = tagged_two (codes "nlm:") caller oh
name_text (NlmParty caller) = tagged (codes "nlm:") caller
name_text (NfsRange client owner) = tagged_two (codes "nfs:") client owner
name_text (NfsShare client owner) = tagged_two (codes "nfs:") client owner
name_text (NfsParty client) = tagged (codes "nfs:") client
name_text (SmbLease guid key) = tagged_two (codes "smb:") guid key

-- the text of an SMB open, by its number (NAME-2)
abbrev pub open_text : ℕ → List ℕ
open_text number = codes "smb:" ++ decimal number

-- the text of the name with this number, which is empty if it is not kept (NAME-2)
abbrev pub text_at : Option Name → List ℕ
text_at None = []
text_at (Some name) = name_text name

-- the text of an owner or a party, if these are the names
abbrev pub owner_text : List Name → Owner → List ℕ
owner_text names (owner.Name protocol number) = text_at (slice_get names number)
owner_text names (owner.Open number) = open_text number

abbrev pub party_text : List Name → Party → List ℕ
party_text names (party.Name protocol number) = text_at (slice_get names number)
party_text names (party.Open number) = open_text number

-- the words of a name as a client sends them: bytes, and an svid below 2^63 in size
abbrev pub IsOfBytes : Name → Type 0
IsOfBytes (NlmRange caller svid oh) = IsBytes caller × (mag svid < 2 ^ 63) × IsBytes oh
IsOfBytes (NlmShare caller oh) = IsBytes caller × IsBytes oh
IsOfBytes (NlmParty caller) = IsBytes caller
IsOfBytes (NfsRange client owner) = IsBytes client × IsBytes owner
IsOfBytes (NfsShare client owner) = IsBytes client × IsBytes owner
IsOfBytes (NfsParty client) = IsBytes client
IsOfBytes (SmbLease guid key) = IsBytes guid × IsBytes key

-- a name as its text tells it: an NFSv4 owner of ranges and one of shares have texts of one form (NAME-3)
abbrev pub text_form : Name → Name
text_form (NfsShare client owner) = NfsRange client owner
text_form name = name
