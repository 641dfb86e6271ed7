-- Who holds a claim, by protocol.
use Rattle.std.specs.Prelude.{Bool, not}
use Rattle.xl_base.specs.declared.name.Protocol.{Protocol}
use Rattle.xl_base.specs.declared.name.Protocol.TheVariants.{Smb}
use Rattle.xl_base.specs.declared.name.Owner.{Owner}
use Rattle.xl_base.specs.declared.name.Owner.TheVariants as owner
use Rattle.xl_base.specs.declared.name.Party.{Party}
use Rattle.xl_base.specs.declared.name.Party.TheVariants as party
use Rattle.xl_base.specs.Stable.{same_protocol}

-- opens are of SMB alone
abbrev pub owner_protocol : Owner → Protocol
owner_protocol (owner.Name protocol number) = protocol
owner_protocol (owner.Open number) = Smb

abbrev pub party_protocol : Party → Protocol
party_protocol (party.Name protocol number) = protocol
party_protocol (party.Open number) = Smb

-- an owner of NLM or NFSv4, whose ranges are a function of the byte
abbrev pub posix : Owner → Bool
posix owner = not (same_protocol (owner_protocol owner) Smb)
