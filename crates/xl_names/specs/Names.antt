-- The names of owners and parties, in the order in which they came. A name's number is its place in the list.
use Rattle.std.specs.Prelude.{◌≡◌, ℕ, Bool, false, ◌&&◌, bytes_eq, if◌then◌else◌, List, [], ◌∷◌, ◌++◌, Option, position}
use Rattle.std.specs.List.{list_any, position_or_len}
use Rattle.std.specs.Ordering.{int_eq}
use Rattle.xl_base.specs.declared.name.Protocol.{Protocol}
use Rattle.xl_base.specs.declared.name.Protocol.TheVariants.{Nlm, Nfs, Smb}
use Rattle.xl_names.specs.declared.name.Name.{Name}
use Rattle.xl_names.specs.declared.name.Name.TheVariants.{NlmRange, NlmShare, NlmParty, NfsRange, NfsShare, NfsParty, SmbLease}

-- the protocol that a name belongs to
abbrev pub protocol_of : Name → Protocol
protocol_of (NlmRange caller svid oh) = Nlm
protocol_of (NlmShare caller oh) = Nlm
protocol_of (NlmParty caller) = Nlm
protocol_of (NfsRange client owner) = Nfs
protocol_of (NfsShare client owner) = Nfs
protocol_of (NfsParty client) = Nfs
protocol_of (SmbLease guid key) = Smb

-- one name: the same protocol, the same kind and the same parts (NAME-1)
abbrev pub same_name : Name → Name → Bool
same_name (NlmRange a n b) (NlmRange c m d) = bytes_eq a c && (int_eq n m && bytes_eq b d)
same_name (NlmShare a b) (NlmShare c d) = bytes_eq a c && bytes_eq b d
same_name (NlmParty a) (NlmParty b) = bytes_eq a b
same_name (NfsRange a b) (NfsRange c d) = bytes_eq a c && bytes_eq b d
same_name (NfsShare a b) (NfsShare c d) = bytes_eq a c && bytes_eq b d
same_name (NfsParty a) (NfsParty b) = bytes_eq a b
same_name (SmbLease a b) (SmbLease c d) = bytes_eq a c && bytes_eq b d
same_name _ _ = false

-- the number of a name, or None if it is not kept (NAME-1)
abbrev pub number_of : Name → List Name → Option ℕ
number_of name names = position (same_name name) names

-- whether the name is among these
abbrev pub is_kept : Name → List Name → Bool
is_kept name names = list_any (same_name name) names

-- the names once this one came
abbrev pub entered : Name → List Name → List Name
entered name names = if is_kept name names then names else names ++ name ∷ []

-- distinct names
abbrev pub AreDistinct : List Name → Type 0
AreDistinct [] = Unit {0}
AreDistinct (name ∷ names) = (is_kept name names ≡ false) × AreDistinct names

-- the number that a name has, or gets when it comes
abbrev pub place_of : Name → List Name → ℕ
place_of name names = position_or_len (same_name name) names

-- how many names are kept at most
abbrev pub most_names : ℕ
most_names = 1048576
