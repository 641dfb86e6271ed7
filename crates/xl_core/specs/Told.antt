-- Which front hears of an effect.
use Rattle.xl_base.specs.declared.name.Party.{Party}
use Rattle.xl_base.specs.declared.name.Party.TheVariants as parties
use Rattle.xl_base.specs.declared.name.Protocol.{Protocol}
use Rattle.xl_base.specs.declared.name.Protocol.TheVariants.{Nfs, Smb}
use Rattle.xl_core.specs.declared.ask.Effect.{Effect}
use Rattle.xl_core.specs.declared.ask.Effect.TheVariants.{Begun, Served, Cancelled, Expired}

-- the protocol of a party: that of its name, or SMB's if it is an open
abbrev pub party_protocol : Party → Protocol
party_protocol (parties.Name protocol number) = protocol
party_protocol (parties.Open number) = Smb

-- the protocol whose front hears of an effect: that of the party that it names; only clients of NFSv4 expire
abbrev pub told_to : Effect → Protocol
told_to (Begun cache to call) = party_protocol cache.party
told_to (Served party id answer) = party_protocol party
told_to (Cancelled party id) = party_protocol party
told_to (Expired client) = Nfs
